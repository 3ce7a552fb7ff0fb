use Rattle.std.proofs.Common.{List, [], map, length, refl, ap, sym, ◌∙◌, subst, arith, rules, drop, option_map, None, ◌≡◌}
use Rattle.ti_lang.specs.declared.program.exprs.Expr.{Expr}
use Rattle.ti_lang.specs.declared.program.exprs.Range.{Range}
use Rattle.ti_lang.specs.Program.Expressions.{NumberedExp, NumberedExps, MoreExp, numbered_exps, numbered_ranges}
use Rattle.ti_lang.specs.Program.Expressions as x
use Rattle.ti_lang.specs.Program.Scope.{contents_of}
use Rattle.ti_lang.specs.Program.Views.{program_of, expression_of, bound_of, numbered_method_of}
use Rattle.ti_lang.specs.Typing.Expressions.{operand}
use Rattle.ti_lang.proofs.Lemmas.{seen_static_call, seen_own_call, seen_numbered_point, seen_numbered_rect, seen_numbered_member}
use Rattle.ti_lang.proofs.Lemmas.{seen_numbered_index, count_ranges}
use Rattle.ti_types.specs.declared.operands.OperandsTyping.{OperandsTyping}
use Rattle.ti_types.specs.Mirrors.Arguments.{parameter_types}
use Rattle.ti_types.specs.Mirrors.Walk.{AreOperandResults, IsTyped, AreTyped, operands_before, operands_in}
use Rattle.ti_types.proofs.Walked.{rest_of, none_found, no_rest, one_more, arguments_back, ranges_from, no_ranges, ranges_back}
use Rattle.ti_types.proofs.Forms.{count_args, call_form, point_form, rect_form, member_form, index_form, binary_form}
use Rattle.ti_types.proofs.exprs.TypeChecker.+exp.Goals as goal

-- ---- lists of operands

pub operands-loop-i-init : goal.operands-loop-i-init
operands-loop-i-init t c =
    none_found (program_of c.args.self.now.program.now) (contents_of c.args.scope.now) _
    (rest_of c.args.exprs.now (length c.args.exprs.now)) c.none-found.result
    (no_rest c.args.exprs.now)
    c.none-found.ensures.inner c.none-found.ensures.misplaced c.none-found.ensures.types

pub operands-loop-i-preserved : goal.operands-loop-i-preserved
operands-loop-i-preserved t c =
    let l = c.loop-i.found in
    let found : OperandsTyping = record { inner = l.0; misplaced = l.1.0; types = l.1.1.0 } in
    let e = c.prepend-found.ensures in
    arguments_back (program_of c.args.self.now.program.now) (contents_of c.args.scope.now) _
    c.args.exprs.now c.loop-i.i c.index-exprs-i.result c.exp-judged.result found
    c.prepend-found.result c.place.result _ (omega arith) (omega arith) c.exp-judged.ensures
    c.index-exprs-i.is c.place.ensures c.parameter_type.ensures c.loop-i.invariant
    (e.inner, e.misplaced, e.types)

pub operands-returns : goal.operands-returns
operands-returns t c =
    let us = parameter_types (option_map (λ m. numbered_method_of m.now) c.args.method) in
    let l = c.loop-i.found in
    let e : c.loop-i.i ≡ 0 = omega arith in
    subst (λ n. AreOperandResults (program_of c.args.self.now.program.now)
    (contents_of c.args.scope.now)
    (rest_of c.args.exprs.now n) (drop n us) l.0 l.1.0 l.1.1.0) e c.loop-i.invariant

pub operand_before-returns : goal.operand_before-returns
operand_before-returns t c =
    λ (rest : NumberedExps) are.
    let e = c.prepend.ensures in
    one_more (program_of c.args.self.now.program.now) (contents_of c.args.scope.now) [] 0
    (expression_of c.args.expr.now) rest c.exp-judged.result c.args.others c.prepend.result
    c.place.result
    None c.exp-judged.ensures c.place.ensures refl are (e.inner, e.misplaced, e.types)

pub range-returns-in-Plain : goal.range-returns-in-Plain
range-returns-in-Plain t c =
    λ (rest : NumberedExps) are.
    subst (λ z. AreTyped c.args.self.now c.args.scope.now
    (operands_before z rest) [] c.operand_before.result)
    (sym (ap bound_of c.in-Plain.is))
    (c.operand_before.ensures (MoreExp (expression_of c.in-Plain.high) rest)
    (c.operand_before-behind.ensures rest are))

pub range-returns-in-Stepped : goal.range-returns-in-Stepped
range-returns-in-Stepped t c =
    λ (rest : NumberedExps) are.
    let last = MoreExp (expression_of c.in-Stepped.step) rest in
    subst (λ z. AreTyped c.args.self.now c.args.scope.now
    (operands_before z rest) [] c.operand_before-in-Stepped.result)
    (sym (ap bound_of c.in-Stepped.is))
    (c.operand_before-in-Stepped.ensures (MoreExp (expression_of c.in-Stepped.high) last)
    (c.operand_before-middle.ensures last (c.operand_before-last.ensures rest are)))

pub ranges-loop-i-init : goal.ranges-loop-i-init
ranges-loop-i-init t c =
    none_found (program_of c.args.self.now.program.now) (contents_of c.args.scope.now) []
    (operands_in (ranges_from c.args.ranges.now (length c.args.ranges.now))) c.none-found.result
    (no_ranges c.args.ranges.now) c.none-found.ensures.inner c.none-found.ensures.misplaced
    c.none-found.ensures.types

pub ranges-loop-i-preserved : goal.ranges-loop-i-preserved
ranges-loop-i-preserved t c =
    subst (λ z. AreTyped c.args.self.now c.args.scope.now z [] c.range-found.result)
    (ranges_back c.args.ranges.now c.loop-i.i c.index-ranges-i.result (omega arith)
    (omega arith) c.index-ranges-i.is)
    (c.range-found.ensures _ c.loop-i.invariant)

pub ranges-returns : goal.ranges-returns
ranges-returns t c =
    let l = c.loop-i.found in
    let e : c.loop-i.i ≡ 0 = omega arith in
    subst (λ n. AreOperandResults (program_of c.args.self.now.program.now)
    (contents_of c.args.scope.now)
    (operands_in (ranges_from c.args.ranges.now n)) [] l.0 l.1.0 l.1.1.0) e c.loop-i.invariant

-- ---- forms

pub call-returns-clause-direct : goal.call-returns-clause-direct
call-returns-clause-direct t c =
    let xs = numbered_exps (map expression_of c.args.args.now) in
    call_form (program_of c.args.self.now.program.now) (contents_of c.args.scope.now)
    (x.Call c.args.place c.args.number xs) c.args.place c.args.number xs _ c.operands-found.result
    (length c.args.args.now) c.typed_call.result c.add_to.result refl refl refl
    c.method-m.ensures c.operands-found.ensures
    (count_args c.args.args.now) c.typed_call.ensures.known c.typed_call.ensures.first
    c.add_to.ensures.known c.add_to.ensures.first

pub call-returns-clause-own : goal.call-returns-clause-own
call-returns-clause-own t c =
    let xs = numbered_exps (map expression_of c.args.args.now) in
    call_form (program_of c.args.self.now.program.now) (contents_of c.args.scope.now)
    (x.OwnCall c.args.place c.args.number xs) c.args.place
    c.args.number xs _ c.operands-found.result
    (length c.args.args.now) c.typed_call.result c.add_to.result refl refl refl
    c.method-m.ensures c.operands-found.ensures
    (count_args c.args.args.now) c.typed_call.ensures.known c.typed_call.ensures.first
    c.add_to.ensures.known c.add_to.ensures.first

pub point-returns : goal.point-returns
point-returns t c =
    point_form (program_of c.args.self.now.program.now) (contents_of c.args.scope.now) c.args.place
    (numbered_exps (map expression_of c.args.parts.now)) c.operands-found.result
    (length c.args.parts.now) c.point.result c.add_to.result
    c.operands-found.ensures (count_args c.args.parts.now) c.point.ensures.known
    c.point.ensures.first c.add_to.ensures.known c.add_to.ensures.first

pub rect-returns : goal.rect-returns
rect-returns t c =
    rect_form (program_of c.args.self.now.program.now) (contents_of c.args.scope.now) c.args.place
    (numbered_ranges (map bound_of c.args.ranges.now)) c.ranges-found.result
    (length c.args.ranges.now) c.rect.result c.add_to.result
    c.ranges-found.ensures (count_ranges c.args.ranges.now) c.rect.ensures.known
    c.rect.ensures.first c.add_to.ensures.known c.add_to.ensures.first

pub binary-returns : goal.binary-returns
binary-returns t c =
    λ (e : NumberedExp) is_first is_at.
    binary_form (program_of c.args.self.now.program.now) (contents_of c.args.scope.now) c.args.place
    c.args.operator e (expression_of c.args.right.now) c.args.at c.place-at_right.result
    c.args.first
    c.exp-second.result c.binary.result is_first c.exp-second.ensures is_at c.place-at_right.ensures
    c.binary.ensures.known c.binary.ensures.first

pub member-returns : goal.member-returns
member-returns t c =
    λ (e : NumberedExp) is_judged is_at.
    member_form (program_of c.args.self.now.program.now) (contents_of c.args.scope.now) c.args.place
    e c.args.name (numbered_exps (map expression_of c.args.args.now)) c.args.at _ _ c.args.judged
    c.operands-found.result (length c.args.args.now) c.member-own.result c.with.result is_judged
    is_at
    (c.operand-t.ensures ∙ ap operand is_judged.0) c.member_method-m.ensures
    c.operands-found.ensures
    (count_args c.args.args.now) c.member-own.ensures.known c.member-own.ensures.first
    c.with.ensures.known c.with.ensures.first

pub index-returns-clause-whole : goal.index-returns-clause-whole
index-returns-clause-whole t c =
    λ (e : NumberedExp) is_judged is_at.
    index_form (program_of c.args.self.now.program.now) (contents_of c.args.scope.now) c.args.place
    e (numbered_exps (map expression_of c.args.indices.now)) c.args.at _ c.args.judged
    c.operands-found.result (length c.args.indices.now) c.index-own.result c.with.result is_judged
    is_at (c.operand-t.ensures ∙ ap operand is_judged.0) c.operands-found.ensures
    (count_args c.args.indices.now) c.index-own.ensures.known c.index-own.ensures.first
    c.with.ensures.known c.with.ensures.first

-- ---- the form of an expression

pub exp-returns-in-Call : goal.exp-returns-in-Call
exp-returns-in-Call t c =
    subst (λ (z : NumberedExp). IsTyped c.args.self.now c.args.scope.now z c.call.result)
    (ap (λ (xs : List Expr). x.Call c.in-Call.place c.in-Call.number
    (numbered_exps (map expression_of xs))) c.deref.ensures.value
    ∙ sym (seen_static_call c.args.expr.now c.in-Call.place c.in-Call.number c.in-Call.args
    c.in-Call.is)) c.call.ensures.direct

pub exp-returns-in-OwnCall : goal.exp-returns-in-OwnCall
exp-returns-in-OwnCall t c =
    subst (λ (z : NumberedExp). IsTyped c.args.self.now c.args.scope.now z c.call-in-OwnCall.result)
    (ap (λ (xs : List Expr). x.OwnCall c.in-OwnCall.place c.in-OwnCall.number
    (numbered_exps (map expression_of xs))) c.deref-in-OwnCall.ensures.value
    ∙ sym (seen_own_call c.args.expr.now c.in-OwnCall.place c.in-OwnCall.number c.in-OwnCall.args
    c.in-OwnCall.is)) c.call-in-OwnCall.ensures.own

pub exp-returns-in-Point : goal.exp-returns-in-Point
exp-returns-in-Point t c =
    subst (λ (z : NumberedExp). IsTyped c.args.self.now c.args.scope.now z c.point.result)
    (ap (λ (xs : List Expr). x.Point c.in-Point.place (numbered_exps (map expression_of xs)))
    c.deref-in-Point.ensures.value
    ∙ sym (seen_numbered_point c.args.expr.now c.in-Point.place c.in-Point.parts c.in-Point.is))
    c.point.ensures

pub exp-returns-in-Rect : goal.exp-returns-in-Rect
exp-returns-in-Rect t c =
    subst (λ (z : NumberedExp). IsTyped c.args.self.now c.args.scope.now z c.rect.result)
    (ap (λ (rs : List Range). x.Rect c.in-Rect.place (numbered_ranges (map bound_of rs)))
    c.deref-in-Rect.ensures.value
    ∙ sym (seen_numbered_rect c.args.expr.now c.in-Rect.place c.in-Rect.ranges c.in-Rect.is))
    c.rect.ensures

pub exp-returns-in-Binary : goal.exp-returns-in-Binary
exp-returns-in-Binary t c =
    let left = expression_of c.in-Binary.left.value in
    subst (λ (z : NumberedExp). IsTyped c.args.self.now c.args.scope.now z c.binary.result)
    (ap (λ (z : Expr). x.Binary c.in-Binary.place c.in-Binary.operator left (expression_of z))
    c.deref-in-Binary-3.ensures
    ∙ sym (ap expression_of c.in-Binary.is))
    (c.binary.ensures left (search rules) (search rules))

pub exp-returns-in-Member : goal.exp-returns-in-Member
exp-returns-in-Member t c =
    let receiver = expression_of c.in-Member.receiver.value in
    subst (λ (z : NumberedExp). IsTyped c.args.self.now c.args.scope.now z c.member.result)
    (ap (λ (xs : List Expr). x.Member c.in-Member.place receiver c.in-Member.name
    (numbered_exps (map expression_of xs))) c.deref-in-Member-3.ensures.value
    ∙ sym (seen_numbered_member c.args.expr.now c.in-Member.place c.in-Member.receiver
    c.in-Member.name c.in-Member.args c.in-Member.is))
    (c.member.ensures receiver (search rules) (search rules))

pub exp-returns-in-Index : goal.exp-returns-in-Index
exp-returns-in-Index t c =
    let receiver = expression_of c.in-Index.receiver.value in
    subst (λ (z : NumberedExp). IsTyped c.args.self.now c.args.scope.now z c.index.result.whole)
    (ap (λ (xs : List Expr). x.Index c.in-Index.place receiver
    (numbered_exps (map expression_of xs))) c.deref-in-Index-3.ensures.value
    ∙ sym (seen_numbered_index c.args.expr.now c.in-Index.place c.in-Index.receiver
    c.in-Index.indices c.in-Index.is))
    (c.index.ensures.whole receiver (search rules) (search rules))
