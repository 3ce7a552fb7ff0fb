use Rattle.std.proofs.Common.{◌≡◌, ◌∙◌, sym, ap, subst, Option, Some}
use Rattle.ti_lang.specs.Program.Classes.{NumberedMethod}
use Rattle.ti_lang.specs.Program.Scope.{this_of}
use Rattle.ti_lang.specs.Program.Views.{expression_of}
use Rattle.ti_lang.specs.Typing.Called.{called_method}
use Rattle.ti_lang.specs.Meaning.Calls.{call_by}
use Rattle.ti_eval.specs.Envs.{env_of}
use Rattle.ti_moves.specs.Outcomes.{method_at}
use Rattle.ti_slice.specs.Mirrors.SingleCalls.{SingleCallComes}
use Rattle.ti_slice.proofs.single_stmt.call.Goals as goal

pub returns-in-Some : goal.returns-in-Some
returns-in-Some c = λ x.
    let E = env_of c.args.env.now in
    let e = expression_of c.args.expr.now in
    let is : called_method E.program (this_of E.method) e ≡ Some (method_at E.program c.in-Some.number) =
    ap (λ this. called_method E.program this e) (sym c.class_of_this.ensures) ∙ c.in-Some.ensures in
    subst (λ (m : Option NumberedMethod). SingleCallComes E x c.args.answers.now c.call_of.result (call_by e m)) (sym is) (c.call_of.ensures x)
