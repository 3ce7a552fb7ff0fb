use Rattle.std.proofs.Common.{◌≡◌, ◌∙◌, sym, ap, subst, ℕ, ℤ, List, map}
use Rattle.std.proofs.lemmas.Result.{err_from_is_err_and}
use Rattle.ti_base.specs.declared.point.Point.{Point}
use Rattle.ti_lang.specs.declared.program.exprs.Expr.{Expr}
use Rattle.ti_lang.specs.Program.Expressions.{NumberedExp, numbered_exps}
use Rattle.ti_lang.specs.Program.Views.{expression_of}
use Rattle.ti_lang.specs.Meaning.Held.{Held}
use Rattle.ti_lang.specs.Meaning.Comp.{Comp, CompResult, Gives, bind_result, gives}
use Rattle.ti_lang.specs.Meaning.Literals.{point_of_numbers}
use Rattle.ti_lang.specs.Meaning.CellRefs.{Field, Element}
use Rattle.ti_lang.specs.Meaning.Scoping.{type_of, field_selected}
use Rattle.ti_lang.specs.Meaning.Evaluation.{eval, eval_numbers}
use Rattle.ti_lang.specs.Meaning.Targets.{Target, InPart, located}
use Rattle.ti_lang.proofs.Lemmas.{seen_numbered_index}
use Rattle.ti_eval.specs.Comes.{Stops}
use Rattle.ti_eval.specs.Envs.{env_of}
use Rattle.ti_eval.proofs.Lemmas.{then_stops}
use Rattle.ti_moves.specs.Targets.{through_of}
use Rattle.ti_moves.proofs.targets.locate.Goals as goal

pub returns-in_ok-h-in-Select : goal.returns-in_ok-h-in-Select
returns-in_ok-h-in-Select c =
    let E = env_of c.args.env.now in
    let y = expression_of c.in-Select.receiver.value in
    let answers = c.args.answers.now in
    let rest = c.in_ok-h-in-Select.answers.now in
    let n = c.in_ok-field-in-Select.field in
    let e : eval E y answers ≡ Gives c.in_ok-h-in-Select.h rest = subst (λ (z : Expr). eval E (expression_of z) answers ≡ Gives c.in_ok-h-in-Select.h rest) c.deref-in-Select.ensures c.in_ok-h-in-Select.ensures in
    let f : n ≡ field_selected E y c.in-Select.name = c.in_ok-field-in-Select.ensures ∙ ap (λ (z : Expr). field_selected E (expression_of z) c.in-Select.name) c.deref.ensures in
    subst (λ (w : NumberedExp). located E w answers ≡ Gives (InPart (Field c.in_ok-h-in-Select.h (through_of E w) n)) rest) (sym (ap expression_of c.in-Select.is))
    (ap (λ (g : CompResult Held). bind_result g (λ h. gives (InPart (Field h (type_of E y) (field_selected E y c.in-Select.name))))) e
    ∙ ap (λ (k : ℕ). Gives (InPart (Field c.in_ok-h-in-Select.h (type_of E y) k)) rest) (sym f))

pub returns-in_ok-numbers-in-Index : goal.returns-in_ok-numbers-in-Index
returns-in_ok-numbers-in-Index c =
    let E = env_of c.args.env.now in
    let y = expression_of c.in-Index.receiver.value in
    let xs = numbered_exps (map expression_of c.in-Index.indices.items) in
    let answers = c.args.answers.now in
    let h = c.in_ok-h-in-Index.h in
    let rest = c.in_ok-h-in-Index.answers.now in
    let numbers = c.in_ok-numbers-in-Index.numbers.items in
    let left = c.in_ok-numbers-in-Index.answers.now in
    let e : eval E y answers ≡ Gives h rest = subst (λ (z : Expr). eval E (expression_of z) answers ≡ Gives h rest) c.deref-in-Index.ensures c.in_ok-h-in-Index.ensures in
    let q : eval_numbers E xs rest ≡ Gives numbers left =
    subst (λ (ys : List Expr). eval_numbers E (numbered_exps (map expression_of ys)) rest ≡ Gives numbers left) c.deref-in-Index-2.ensures.value c.in_ok-numbers-in-Index.ensures in
    let p : c.point_of_numbers.result ≡ point_of_numbers numbers = c.point_of_numbers.ensures.value ∙ ap point_of_numbers c.deref-in-Index-3.ensures.value in
    let found : Held → List ℤ → Comp Target = λ h ns. gives (InPart (Element h (type_of E y) (point_of_numbers ns))) in
    let b = seen_numbered_index c.args.expr.now c.in-Index.place c.in-Index.receiver c.in-Index.indices c.in-Index.is in
    subst (λ (w : NumberedExp). located E w answers ≡ Gives (InPart (Element h (through_of E w) c.point_of_numbers.result)) left) (sym b)
    (ap (λ (g : CompResult Held). bind_result g (λ h r. bind_result (eval_numbers E xs r) (found h))) e
    ∙ ap (λ (g : CompResult (List ℤ)). bind_result g (found h)) q
    ∙ ap (λ (k : Point). Gives (InPart (Element h (type_of E y) k)) left) (sym p))

pub returns-in_err-numbers-in-Index : goal.returns-in_err-numbers-in-Index
returns-in_err-numbers-in-Index c =
    let E = env_of c.args.env.now in
    let y = expression_of c.in-Index.receiver.value in
    let xs = numbered_exps (map expression_of c.in-Index.indices.items) in
    let answers = c.args.answers.now in
    let stop = c.in_err-numbers-in-Index.field-0.0 in
    let rest = c.in_ok-h-in-Index.answers.now in
    let e : eval E y answers ≡ Gives c.in_ok-h-in-Index.h rest = subst (λ (z : Expr). eval E (expression_of z) answers
    ≡ Gives c.in_ok-h-in-Index.h rest) c.deref-in-Index.ensures c.in_ok-h-in-Index.ensures in
    let q = subst (λ (ys : List Expr). Stops stop (eval_numbers E (numbered_exps (map expression_of ys)) rest)) c.deref-in-Index-2.ensures.value c.in_err-numbers-in-Index.ensures in
    let found : Held → List ℤ → Comp Target = λ h ns. gives (InPart (Element h (type_of E y) (point_of_numbers ns))) in
    let b = seen_numbered_index c.args.expr.now c.in-Index.place c.in-Index.receiver c.in-Index.indices c.in-Index.is in
    let p = err_from_is_err_and c.from_residual-in_err-numbers-in-Index.result c.from_residual-in_err-numbers-in-Index.ensures.1 in
    rw (p.1, p.2)
    (subst (λ (w : NumberedExp). Stops stop (located E w answers)) (sym b)
    (subst (λ (g : CompResult Held). Stops stop (bind_result g (λ h r. bind_result (eval_numbers E xs r) (found h)))) (sym e)
    (then_stops stop (eval_numbers E xs rest) (found c.in_ok-h-in-Index.h) q)))
