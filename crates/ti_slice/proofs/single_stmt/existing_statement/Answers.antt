use Rattle.std.proofs.Common.{◌≡◌, ap, refl, sym, subst, pos, None}
use Rattle.ti_lang.specs.declared.program.stmts.Init.{Init}
use Rattle.ti_lang.specs.declared.program.stmts.Stmt.{Stmt, Declare, Assign}
use Rattle.ti_lang.specs.Program.Expressions.{Int}
use Rattle.ti_lang.specs.Program.Statements.{NumberedStm}
use Rattle.ti_lang.specs.Program.Views.{expression_of, initial_of, statement_of}
use Rattle.ti_lang.specs.Meaning.Comp.{CompResult, Comp}
use Rattle.ti_lang.specs.Meaning.Calls.{called}
use Rattle.ti_lang.specs.Meaning.Moves.{Move}
use Rattle.ti_align.specs.Slice.{single_initial, single_value, single_statement}
use Rattle.ti_eval.specs.Comes.{ComesAs}
use Rattle.ti_eval.specs.Envs.{env_of}
use Rattle.ti_moves.specs.Outcomes.{move_after}
use Rattle.ti_moves.specs.Receiving.{receiver_of}
use Rattle.ti_slice.proofs.StatedForms.{IsCommon, same_as_ever}
use Rattle.ti_slice.proofs.single_stmt.existing_statement.Goals as goal

pub returns-in-Declare : goal.returns-in-Declare
returns-in-Declare c =
    let E = env_of c.args.env.now in
    let r = c.args.answers.now in
    let i = c.in-Declare in
    let x = receiver_of (statement_of (Declare i.place i.ty i.variable i.value)) in
    subst (λ (g : CompResult Move). ComesAs (move_after E (statement_of c.args.stmt.now)) c.initialize.result g)
    (subst (λ (a : Stmt). single_initial E (receiver_of (statement_of a)) (initial_of c.deref.result.now) r ≡ single_statement E (statement_of a) r) (sym i.is)
    (ap (λ (v : Init). single_initial E x (initial_of v) r) c.deref.ensures))
    c.initialize.ensures

pub returns-in-Assign : goal.returns-in-Assign
returns-in-Assign c =
    let E = env_of c.args.env.now in
    let r = c.args.answers.now in
    let i = c.in-Assign in
    let x = receiver_of (statement_of (Assign i.place i.target i.value)) in
    subst (λ (g : CompResult Move). ComesAs (move_after E (statement_of c.args.stmt.now)) c.initialize-in-Assign.result g)
    (subst (λ (a : Stmt). single_initial E (receiver_of (statement_of a)) (initial_of c.deref-in-Assign.result.now) r ≡ single_statement E (statement_of a) r) (sym i.is)
    (ap (λ (v : Init). single_initial E x (initial_of v) r) c.deref-in-Assign.ensures))
    c.initialize-in-Assign.ensures

pub returns-in-Update : goal.returns-in-Update
returns-in-Update c =
    let E = env_of c.args.env.now in
    let r = c.args.answers.now in
    let v = expression_of c.in-Update.value in
    subst (λ (g : CompResult Move). ComesAs (move_after E (statement_of c.args.stmt.now)) c.assign_value.result g)
    (subst (λ (a : Stmt). single_value E (receiver_of (statement_of a)) v (called E v) r ≡ single_statement E (statement_of a) r) (sym c.in-Update.is) refl)
    c.assign_value.ensures

pub returns-in-Step : goal.returns-in-Step
returns-in-Step c =
    let E = env_of c.args.env.now in
    let r = c.args.answers.now in
    let at = c.in-Step.place in
    subst (λ (g : CompResult Move). ComesAs (move_after E (statement_of c.args.stmt.now)) c.step.result g)
    (subst (λ (a : Stmt). single_value E (receiver_of (statement_of a)) (Int at (pos 1)) None r ≡ single_statement E (statement_of a) r) (sym c.in-Step.is) refl)
    (c.step.ensures at)

pub returns-in-Call : goal.returns-in-Call
returns-in-Call c =
    let E = env_of c.args.env.now in
    subst (λ (x : NumberedStm). ComesAs (move_after E x) c.expr_statement.result (single_statement E x c.args.answers.now)) (sym (ap statement_of c.in-Call.is)) c.expr_statement.ensures

pub returns-in-Return : goal.returns-in-Return
returns-in-Return c =
    let E = env_of c.args.env.now in
    let x = statement_of c.args.stmt.now in
    subst (λ (g : CompResult Move). ComesAs (move_after E x) c.return_value.result g) (sym (ap (λ (a : Stmt). single_statement E (statement_of a) c.args.answers.now) c.in-Return.is)) (c.return_value.ensures x)

pub returns-in_default : goal.returns-in_default
returns-in_default c =
    let E = env_of c.args.env.now in
    let d = c.in_default in
    let common : IsCommon c.args.stmt.now = record {
      no_declaration = d.not-Declare;
      no_assignment = d.not-Assign;
      no_update = d.not-Update;
      no_step = d.not-Step;
      no_call = d.not-Call;
      no_return = d.not-Return;
    } in
    subst (λ (go : Comp Move). ComesAs (move_after E (statement_of c.args.stmt.now)) c.statement.result (go c.args.answers.now)) (same_as_ever E c.args.stmt.now common) c.statement.ensures
