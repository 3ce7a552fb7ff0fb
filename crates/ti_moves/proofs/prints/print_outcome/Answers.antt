use Rattle.std.proofs.Common.{sym, subst, None, Some}
use Rattle.ti_base.specs.declared.value.Value.{Value}
use Rattle.ti_lang.specs.declared.program.stmts.Printed.{Printed}
use Rattle.ti_lang.specs.Program.Views.{printed_of}
use Rattle.ti_lang.specs.Meaning.Held.{Held, plain_of}
use Rattle.ti_lang.specs.Meaning.Comp.{CompResult, bind_result}
use Rattle.ti_lang.specs.Meaning.Statements.{printed, prints}
use Rattle.ti_eval.specs.Comes.{ComesAs}
use Rattle.ti_eval.specs.Envs.{env_of}
use Rattle.ti_moves.specs.Outcomes.{move_after}
use Rattle.ti_moves.proofs.prints.print_outcome.Goals as goal

pub returns-in_ok-h-in-Value : goal.returns-in_ok-h-in-Value
returns-in_ok-h-in-Value c = λ x.
    let E = env_of c.args.env.now in
    let at = c.args.place in
    let i = c.in_ok-h-in-Value in
    let r = c.print_line-in-Value.result in
    subst (λ (w : Printed). ComesAs (move_after E x) r (printed E at (printed_of w) c.args.answers.now)) (sym c.in-Value.is)
    (subst (λ (g : CompResult Held). ComesAs (move_after E x) r (bind_result g (λ h. prints E at None (Some (plain_of h))))) (sym i.ensures)
    (subst (λ (v : Value). ComesAs (move_after E x) r (prints E at None (Some v) i.answers.now)) c.value.ensures (c.print_line-in-Value.ensures E x)))

pub returns-in_ok-h-in-TextAndValue : goal.returns-in_ok-h-in-TextAndValue
returns-in_ok-h-in-TextAndValue c = λ x.
    let E = env_of c.args.env.now in
    let at = c.args.place in
    let i = c.in_ok-h-in-TextAndValue in
    let r = c.print_line-in-TextAndValue.result in
    subst (λ (w : Printed). ComesAs (move_after E x) r (printed E at (printed_of w) c.args.answers.now)) (sym c.in-TextAndValue.is)
    (subst (λ (g : CompResult Held). ComesAs (move_after E x) r (bind_result g (λ h. prints E at (Some c.in-TextAndValue.literal) (Some (plain_of h))))) (sym i.ensures)
    (subst (λ (v : Value). ComesAs (move_after E x) r (prints E at (Some c.in-TextAndValue.literal) (Some v) i.answers.now)) c.value-in-TextAndValue.ensures (c.print_line-in-TextAndValue.ensures E x)))

pub returns-in-Nothing : goal.returns-in-Nothing
returns-in-Nothing c =
    let E = env_of c.args.env.now in
    λ x. subst (λ (w : Printed). ComesAs (move_after E x) c.print_line.result (printed E c.args.place (printed_of w) c.args.answers.now)) (sym c.in-Nothing.is) (c.print_line.ensures E x)

pub returns-in-Text : goal.returns-in-Text
returns-in-Text c =
    let E = env_of c.args.env.now in
    λ x. subst (λ (w : Printed). ComesAs (move_after E x) c.print_line-in-Text.result (printed E c.args.place (printed_of w) c.args.answers.now)) (sym c.in-Text.is) (c.print_line-in-Text.ensures E x)
