use Rattle.std.proofs.Common.{◌≡◌, ◌∙◌, sym, ap, subst, Bool, ◌+◌, ◌++◌, ℤ, List, map, drop, option_map, Option, Result, Bor}
use Rattle.ti_base.specs.declared.entry.Answer.{Answer}
use Rattle.ti_lang.specs.declared.program.exprs.Expr.{Expr}
use Rattle.ti_lang.specs.declared.program.exprs.Range.{Range}
use Rattle.ti_lang.specs.declared.program.types.TypeUse.{TypeUse}
use Rattle.ti_lang.specs.Program.Expressions.{NumberedExp, numbered_exps, numbered_ranges}
use Rattle.ti_lang.specs.Program.Expressions as x
use Rattle.ti_lang.specs.Program.Scope.{this_of}
use Rattle.ti_lang.specs.Program.Views.{expression_of, bound_of, type_use_of}
use Rattle.ti_lang.specs.Typing.BuiltIn.{BuiltIn}
use Rattle.ti_lang.specs.Typing.Called.{member_called}
use Rattle.ti_lang.specs.Typing.Kinds.{is_point_type}
use Rattle.ti_lang.specs.Typing.TyRef.{built_in_of}
use Rattle.ti_lang.specs.Meaning.Held.{Held}
use Rattle.ti_lang.specs.Meaning.Comp.{CompResult, Gives, bind_result, gives}
use Rattle.ti_lang.specs.Meaning.Literals as literal
use Rattle.ti_lang.specs.Meaning.CellRefs.{Field, fetched, indexed}
use Rattle.ti_lang.specs.Meaning.MemberForms.{member_value}
use Rattle.ti_lang.specs.Meaning.Scoping.{Env, type_of, field_selected}
use Rattle.ti_lang.specs.Meaning.Evaluation.{eval, eval_all, eval_numbers, eval_range, eval_ranges, with_right}
use Rattle.std.proofs.lemmas.Result.{err_from_is_err_and}
use Rattle.ti_lang.proofs.Lemmas.{seen_numbered_point, seen_numbered_rect, seen_numbered_member, seen_numbered_index}
use Rattle.ti_eval.specs.declared.interrupt.Interrupt.{Interrupt}
use Rattle.ti_eval.specs.Bounds.{bounds_of}
use Rattle.ti_eval.specs.Comes.{Comes, ComesAs, Stops}
use Rattle.ti_eval.specs.Envs.{env_of}
use Rattle.ti_eval.proofs.Evaluating.{behind, all_stop, all_next, numbers_stopped, numbers_next, bounds_stopped, bounds_next}
use Rattle.ti_eval.proofs.Steps.{then_stops}
use Rattle.ti_eval.proofs.expressions.+evaluate.Goals as goal

-- what the code knows of the form of an expression
at_arm : (E : Env) (e a : Expr) (answers : List Answer) (r : Result (Held × Bor (List Answer)) Interrupt) → e ≡ a → Comes r (eval E (expression_of a) answers) → Comes r (eval E (expression_of e) answers)
at_arm E e a answers r is h = subst (λ (z : Expr). Comes r (eval E (expression_of z) answers)) (sym is) h

pub evaluate-returns-in-Point : goal.evaluate-returns-in-Point
evaluate-returns-in-Point t c =
    let b = seen_numbered_point c.args.expr.now c.in-Point.field-0 c.in-Point.parts c.in-Point.is in
    subst (λ (y : NumberedExp). Comes c.point.result (eval (env_of c.args.env.now) y c.args.answers.now))
    (ap (λ (ys : List Expr). x.Point c.in-Point.field-0 (numbered_exps (map expression_of ys))) c.deref.ensures.value ∙ sym b)
    (c.point.ensures c.in-Point.field-0)

pub evaluate-returns-in-Rect : goal.evaluate-returns-in-Rect
evaluate-returns-in-Rect t c =
    let b = seen_numbered_rect c.args.expr.now c.in-Rect.place c.in-Rect.ranges c.in-Rect.is in
    subst (λ (y : NumberedExp). Comes c.rectangle.result (eval (env_of c.args.env.now) y c.args.answers.now))
    (ap (λ (ys : List Range). x.Rect c.in-Rect.place (numbered_ranges (map bound_of ys))) c.deref-in-Rect.ensures.value ∙ sym b)
    c.rectangle.ensures

pub evaluate-returns-in-Unary : goal.evaluate-returns-in-Unary
evaluate-returns-in-Unary t c =
    subst (λ (y : NumberedExp). Comes c.unary.result (eval (env_of c.args.env.now) y c.args.answers.now))
    (ap (λ (z : Expr). x.Unary c.in-Unary.place c.in-Unary.operator (expression_of z)) c.deref-in-Unary.ensures ∙ sym (ap expression_of c.in-Unary.is))
    (c.unary.ensures c.in-Unary.place)

pub evaluate-returns-in_ok-h-in-Binary : goal.evaluate-returns-in_ok-h-in-Binary
evaluate-returns-in_ok-h-in-Binary t c =
    let E = env_of c.args.env.now in
    let at = c.in-Binary.place in
    let op = c.in-Binary.operator in
    let r = expression_of c.in-Binary.right.value in
    let h = c.in_ok-h-in-Binary.h in
    let rest = c.in_ok-h-in-Binary.answers.now in
    let e : eval E (expression_of c.in-Binary.left.value) c.args.answers.now ≡ Gives h rest = subst (λ (z : Expr). eval E (expression_of z) c.args.answers.now ≡ Gives h rest)
    c.deref-in-Binary.ensures c.in_ok-h-in-Binary.ensures in
    subst (λ (y : NumberedExp). Comes c.with_right.result (eval E y c.args.answers.now)) (sym (ap expression_of c.in-Binary.is))
    (subst (λ (g : CompResult Held). Comes c.with_right.result (bind_result g (λ k. with_right at op k (eval E r)))) (sym e)
    (subst (λ (z : Expr). Comes c.with_right.result (with_right at op h (eval E (expression_of z)) rest)) c.deref-in-Binary-2.ensures c.with_right.ensures))

pub evaluate-returns-in-Cast : goal.evaluate-returns-in-Cast
evaluate-returns-in-Cast t c =
    let at = c.in-Cast.place in
    subst (λ (y : NumberedExp). Comes c.cast.result (eval (env_of c.args.env.now) y c.args.answers.now))
    (ap (λ (u : TypeUse). x.Cast at (type_use_of u) (expression_of c.deref-in-Cast-2.result.now)) c.deref-in-Cast.ensures
    ∙ ap (λ (z : Expr). x.Cast at (type_use_of c.in-Cast.to.value) (expression_of z)) c.deref-in-Cast-2.ensures
    ∙ sym (ap expression_of c.in-Cast.is))
    c.cast.ensures

pub evaluate-returns-in-Select : goal.evaluate-returns-in-Select
evaluate-returns-in-Select t c =
    subst (λ (y : NumberedExp). Comes c.select_field.result (eval (env_of c.args.env.now) y c.args.answers.now))
    (ap (λ (z : Expr). x.Select c.in-Select.place (expression_of z) c.in-Select.name) c.deref-in-Select.ensures ∙ sym (ap expression_of c.in-Select.is))
    c.select_field.ensures

pub evaluate-returns-in_ok-h-in-Member : goal.evaluate-returns-in_ok-h-in-Member
evaluate-returns-in_ok-h-in-Member t c =
    let E = env_of c.args.env.now in
    let at = c.in-Member.place in
    let name = c.in-Member.name in
    let y = expression_of c.in-Member.receiver.value in
    let xs = numbered_exps (map expression_of c.in-Member.args.items) in
    let type = type_of E (x.Member at y name xs) in
    let through = type_of E y in
    let called = member_called E.program (this_of E.method) y name in
    let h = c.in_ok-h-in-Member.h in
    let rest = c.in_ok-h-in-Member.answers.now in
    let e : eval E y c.args.answers.now ≡ Gives h rest = subst (λ (z : Expr). eval E (expression_of z) c.args.answers.now ≡ Gives h rest)
    c.deref-in-Member.ensures c.in_ok-h-in-Member.ensures in
    let k : option_map built_in_of c.called_member-called.result ≡ called =
    c.called_member-called.ensures ∙ ap (λ (z : Expr). member_called E.program (this_of E.method) (expression_of z) name) c.deref-in-Member-2.ensures in
    let b = seen_numbered_member c.args.expr.now at c.in-Member.receiver name c.in-Member.args c.in-Member.is in
    subst (λ (w : NumberedExp). Comes c.with_arguments.result (eval E w c.args.answers.now)) (sym b)
    (subst (λ (g : CompResult Held). Comes c.with_arguments.result (bind_result g (λ k r. bind_result (eval_all E xs r) (λ hs. member_value at type called through k hs)))) (sym e)
    (subst (λ (ys : List Expr). Comes c.with_arguments.result (bind_result (eval_all E (numbered_exps (map expression_of ys)) rest)
    (λ hs. member_value at type called through h hs))) c.deref-in-Member-3.ensures.value
    (subst (λ (o : Option BuiltIn). Comes c.with_arguments.result (bind_result (eval_all E (numbered_exps (map expression_of c.deref-in-Member-3.result.now)) rest)
    (λ hs. member_value at type o through h hs))) k (c.with_arguments.ensures type through))))

pub evaluate-returns-in_ok-h-in-Index : goal.evaluate-returns-in_ok-h-in-Index
evaluate-returns-in_ok-h-in-Index t c =
    let E = env_of c.args.env.now in
    let at = c.in-Index.place in
    let y = expression_of c.in-Index.receiver.value in
    let xs = numbered_exps (map expression_of c.in-Index.indices.items) in
    let type = type_of E (x.Index at y xs) in
    let through = type_of E y in
    let h = c.in_ok-h-in-Index.h in
    let rest = c.in_ok-h-in-Index.answers.now in
    let e : eval E y c.args.answers.now ≡ Gives h rest = subst (λ (z : Expr). eval E (expression_of z) c.args.answers.now ≡ Gives h rest)
    c.deref-in-Index.ensures c.in_ok-h-in-Index.ensures in
    let k : c.is_point-is_point.result ≡ is_point_type through = c.is_point-is_point.ensures ∙ ap (λ (z : Expr). is_point_type (type_of E (expression_of z))) c.deref-in-Index-2.ensures in
    let b = seen_numbered_index c.args.expr.now at c.in-Index.receiver c.in-Index.indices c.in-Index.is in
    subst (λ (w : NumberedExp). Comes c.with_indices.result (eval E w c.args.answers.now)) (sym b)
    (subst (λ (g : CompResult Held). Comes c.with_indices.result (bind_result g (λ k r. bind_result (eval_numbers E xs r)
    (λ ns. indexed (is_point_type through) at type through k ns)))) (sym e)
    (subst (λ (ys : List Expr). Comes c.with_indices.result (bind_result (eval_numbers E (numbered_exps (map expression_of ys)) rest)
    (λ ns. indexed (is_point_type through) at type through h ns))) c.deref-in-Index-3.ensures.value
    (subst (λ (o : Bool). Comes c.with_indices.result (bind_result (eval_numbers E (numbered_exps (map expression_of c.deref-in-Index-3.result.now)) rest)
    (λ ns. indexed o at type through h ns))) k (c.with_indices.ensures type through))))

pub evaluate-returns-in_err-h-in-Binary : goal.evaluate-returns-in_err-h-in-Binary
evaluate-returns-in_err-h-in-Binary t c =
    let E = env_of c.args.env.now in
    let s = c.in_err-h-in-Binary.field-0.0 in
    let p = err_from_is_err_and c.from_residual.result c.from_residual.ensures.1 in
    subst (λ (y : NumberedExp). Comes c.from_residual.result (eval E y c.args.answers.now)) (sym (ap expression_of c.in-Binary.is))
    (rw (p.1, p.2) (then_stops s (eval E (expression_of c.in-Binary.left.value) c.args.answers.now) (λ k. with_right c.in-Binary.place c.in-Binary.operator k (eval E (expression_of c.in-Binary.right.value)))
    (subst (λ (z : Expr). Stops s (eval E (expression_of z) c.args.answers.now)) c.deref-in-Binary.ensures c.in_err-h-in-Binary.ensures)))

pub evaluate-returns-in_err-h-in-Member : goal.evaluate-returns-in_err-h-in-Member
evaluate-returns-in_err-h-in-Member t c =
    let E = env_of c.args.env.now in
    let s = c.in_err-h-in-Member.field-0.0 in
    let p = err_from_is_err_and c.from_residual-in_err-h-in-Member.result c.from_residual-in_err-h-in-Member.ensures.1 in
    subst (λ (y : NumberedExp). Comes c.from_residual-in_err-h-in-Member.result (eval E y c.args.answers.now)) (sym (seen_numbered_member c.args.expr.now c.in-Member.place c.in-Member.receiver c.in-Member.name c.in-Member.args c.in-Member.is))
    (rw (p.1, p.2) (then_stops s (eval E (expression_of c.in-Member.receiver.value) c.args.answers.now) _
    (subst (λ (z : Expr). Stops s (eval E (expression_of z) c.args.answers.now)) c.deref-in-Member.ensures c.in_err-h-in-Member.ensures)))

pub evaluate-returns-in_err-h-in-Index : goal.evaluate-returns-in_err-h-in-Index
evaluate-returns-in_err-h-in-Index t c =
    let E = env_of c.args.env.now in
    let s = c.in_err-h-in-Index.field-0.0 in
    let p = err_from_is_err_and c.from_residual-in_err-h-in-Index.result c.from_residual-in_err-h-in-Index.ensures.1 in
    subst (λ (y : NumberedExp). Comes c.from_residual-in_err-h-in-Index.result (eval E y c.args.answers.now)) (sym (seen_numbered_index c.args.expr.now c.in-Index.place c.in-Index.receiver c.in-Index.indices c.in-Index.is))
    (rw (p.1, p.2) (then_stops s (eval E (expression_of c.in-Index.receiver.value) c.args.answers.now) _
    (subst (λ (z : Expr). Stops s (eval E (expression_of z) c.args.answers.now)) c.deref-in-Index.ensures c.in_err-h-in-Index.ensures)))

pub evaluate_all-returns-in_err-h : goal.evaluate_all-returns-in_err-h
evaluate_all-returns-in_err-h t c =
    let E = env_of c.args.env.now in
    let p = err_from_is_err_and c.from_residual.result c.from_residual.ensures.1 in
    rw (p.1, p.2) (all_stop c.in_err-h.field-0.0 E c.args.exprs.now c.loop-x.x-index c.x-item.result c.loop-x.found.items c.loop-x.left.now c.args.answers.now c.loop-x-test.true c.loop-x.invariant
    (subst (λ (z : Expr). Stops c.in_err-h.field-0.0 (eval E (expression_of z) c.loop-x.left.now)) c.x-item.is c.in_err-h.ensures))

pub evaluate_all-loop-x-preserved : goal.evaluate_all-loop-x-preserved
evaluate_all-loop-x-preserved t c =
    let E = env_of c.args.env.now in
    let xs = c.args.exprs.now in
    let i = c.loop-x.x-index in
    let n = all_next E xs i c.x-item.result c.loop-x.found.items c.in_ok-h.h c.loop-x.left.now c.in_ok-h.rest.now c.args.answers.now c.loop-x-test.true c.loop-x.invariant
    (subst (λ (z : Expr). eval E (expression_of z) c.loop-x.left.now ≡ Gives c.in_ok-h.h c.in_ok-h.rest.now) c.x-item.is c.in_ok-h.ensures) in
    subst (λ (fs : List Held). behind ◌++◌ fs (eval_all E (numbered_exps (map expression_of (drop (i + 1) xs))) c.in_ok-h.rest.now)
    ≡ eval_all E (numbered_exps (map expression_of xs)) c.args.answers.now)
    (sym c.in_ok-push.ensures.items) n

pub evaluate_numbers-returns-in_err-h : goal.evaluate_numbers-returns-in_err-h
evaluate_numbers-returns-in_err-h t c =
    let E = env_of c.args.env.now in
    let p = err_from_is_err_and c.from_residual.result c.from_residual.ensures.1 in
    rw (p.1, p.2) (numbers_stopped c.in_err-h.field-0.0 E c.args.exprs.now c.loop-x.x-index c.x-item.result c.loop-x.found.items c.loop-x.left.now c.args.answers.now c.loop-x-test.true c.loop-x.invariant
    (subst (λ (z : Expr). Stops c.in_err-h.field-0.0 (eval E (expression_of z) c.loop-x.left.now)) c.x-item.is c.in_err-h.ensures))

pub evaluate_numbers-loop-x-preserved : goal.evaluate_numbers-loop-x-preserved
evaluate_numbers-loop-x-preserved t c =
    let E = env_of c.args.env.now in
    let xs = c.args.exprs.now in
    let i = c.loop-x.x-index in
    let n = numbers_next E xs i c.x-item.result c.loop-x.found.items c.in_ok-h.h c.loop-x.left.now c.in_ok-h.rest.now c.args.answers.now c.loop-x-test.true c.loop-x.invariant
    (subst (λ (z : Expr). eval E (expression_of z) c.loop-x.left.now ≡ Gives c.in_ok-h.h c.in_ok-h.rest.now) c.x-item.is c.in_ok-h.ensures) in
    subst (λ (fs : List ℤ). behind ◌++◌ fs (eval_numbers E (numbered_exps (map expression_of (drop (i + 1) xs))) c.in_ok-h.rest.now)
    ≡ eval_numbers E (numbered_exps (map expression_of xs)) c.args.answers.now)
    (sym c.in_ok-found.ensures) n

pub evaluate_ranges-returns-in_err-b : goal.evaluate_ranges-returns-in_err-b
evaluate_ranges-returns-in_err-b t c =
    let E = env_of c.args.env.now in
    let p = err_from_is_err_and c.from_residual.result c.from_residual.ensures.1 in
    rw (p.1, p.2) (bounds_stopped c.in_err-b.field-0.0 E c.args.ranges.now c.loop-r.r-index c.r-item.result (bounds_of c.loop-r.found) c.loop-r.left.now c.args.answers.now c.loop-r-test.true c.loop-r.invariant
    (subst (λ (z : Range). Stops c.in_err-b.field-0.0 (eval_range E (bound_of z) c.loop-r.left.now)) c.r-item.is c.in_err-b.ensures))

pub evaluate_ranges-loop-r-preserved : goal.evaluate_ranges-loop-r-preserved
evaluate_ranges-loop-r-preserved t c =
    let E = env_of c.args.env.now in
    let rs = c.args.ranges.now in
    let i = c.loop-r.r-index in
    let n = bounds_next E rs i c.r-item.result (bounds_of c.loop-r.found) (bounds_of c.in_ok-b.b) c.loop-r.left.now c.in_ok-b.rest.now c.args.answers.now c.loop-r-test.true c.loop-r.invariant
    (subst (λ (z : Range). eval_range E (bound_of z) c.loop-r.left.now ≡ Gives (bounds_of c.in_ok-b.b) c.in_ok-b.rest.now) c.r-item.is c.in_ok-b.ensures) in
    subst (λ (fs : literal.Bounds). behind literal.append_bounds fs (eval_ranges E
    (numbered_ranges (map bound_of (drop (i + 1) rs))) c.in_ok-b.rest.now)
    ≡ eval_ranges E (numbered_ranges (map bound_of rs)) c.args.answers.now)
    (sym c.in_ok-found.ensures) n

pub range-returns-in_err-c-in-Stepped : goal.range-returns-in_err-c-in-Stepped
range-returns-in_err-c-in-Stepped t c =
    let E = env_of c.args.env.now in
    let high = expression_of c.in-Stepped.high in
    let step = expression_of c.in-Stepped.step in
    let s = c.in_err-c-in-Stepped.field-0.0 in
    let a = c.in_ok-a-in-Stepped.a in
    let p = err_from_is_err_and c.from_residual-in_err-c-in-Stepped.result c.from_residual-in_err-c-in-Stepped.ensures.1 in
    subst (λ (q : Range). ComesAs bounds_of c.from_residual-in_err-c-in-Stepped.result (eval_range E (bound_of q) c.args.answers.now)) (sym c.in-Stepped.is)
    (rw (p.1, p.2)
    (subst (λ (g : CompResult Held). Stops s (bind_result g (λ i u. bind_result (eval E high u) (λ j v. bind_result (eval E step v) (λ k. gives (literal.stepped_bounds i j k))))))
    (sym c.in_ok-a-in-Stepped.ensures)
    (subst (λ (g : CompResult Held). Stops s (bind_result g (λ j v. bind_result (eval E step v) (λ k. gives (literal.stepped_bounds a j k)))))
    (sym c.in_ok-b-in-Stepped.ensures)
    (then_stops s (eval E step c.in_ok-b-in-Stepped.answers.now) _ c.in_err-c-in-Stepped.ensures))))

pub range-returns-in_ok-stepped_bounds-in-Stepped : goal.range-returns-in_ok-stepped_bounds-in-Stepped
range-returns-in_ok-stepped_bounds-in-Stepped t c =
    let E = env_of c.args.env.now in
    let high = expression_of c.in-Stepped.high in
    let step = expression_of c.in-Stepped.step in
    let a = c.in_ok-a-in-Stepped.a in
    let b = c.in_ok-b-in-Stepped.b in
    ap (λ (q : Range). eval_range E (bound_of q) c.args.answers.now) c.in-Stepped.is
    ∙ ap (λ (g : CompResult Held). bind_result g (λ i u. bind_result (eval E high u) (λ j v. bind_result (eval E step v) (λ k. gives (literal.stepped_bounds i j k)))))
    c.in_ok-a-in-Stepped.ensures
    ∙ ap (λ (g : CompResult Held). bind_result g (λ j v. bind_result (eval E step v) (λ k. gives (literal.stepped_bounds a j k)))) c.in_ok-b-in-Stepped.ensures
    ∙ ap (λ (g : CompResult Held). bind_result g (λ k. gives (literal.stepped_bounds a b k))) c.in_ok-c-in-Stepped.ensures
    ∙ ap (λ (m : literal.Bounds). Gives m c.in_ok-c-in-Stepped.answers.now) (sym c.in_ok-stepped_bounds-in-Stepped.ensures)

pub evaluate-returns-in-Bool : goal.evaluate-returns-in-Bool
evaluate-returns-in-Bool t c = at_arm (env_of c.args.env.now) c.args.expr.now _ c.args.answers.now c.scalar_value-in-Bool.result c.in-Bool.is c.scalar_value-in-Bool.ensures

pub evaluate-returns-in-Null : goal.evaluate-returns-in-Null
evaluate-returns-in-Null t c = at_arm (env_of c.args.env.now) c.args.expr.now _ c.args.answers.now c.object.result c.in-Null.is c.object.ensures

pub evaluate-returns-in-This : goal.evaluate-returns-in-This
evaluate-returns-in-This t c = at_arm (env_of c.args.env.now) c.args.expr.now _ c.args.answers.now c.object-in-This.result c.in-This.is c.object-in-This.ensures

pub evaluate-returns-in-Variable : goal.evaluate-returns-in-Variable
evaluate-returns-in-Variable t c = at_arm (env_of c.args.env.now) c.args.expr.now _ c.args.answers.now c.value_of_variable.result c.in-Variable.is c.value_of_variable.ensures

pub evaluate-returns-in-Call : goal.evaluate-returns-in-Call
evaluate-returns-in-Call t c = at_arm (env_of c.args.env.now) c.args.expr.now _ c.args.answers.now c.scalar_value-in-Call.result c.in-Call.is c.scalar_value-in-Call.ensures

pub evaluate-returns-in-OwnCall : goal.evaluate-returns-in-OwnCall
evaluate-returns-in-OwnCall t c = at_arm (env_of c.args.env.now) c.args.expr.now _ c.args.answers.now c.scalar_value-in-OwnCall.result c.in-OwnCall.is c.scalar_value-in-OwnCall.ensures
