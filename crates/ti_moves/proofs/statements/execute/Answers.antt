use Rattle.std.proofs.Common.{◌≡◌, ◌∙◌, ap, refl, sym, subst, pos, Option}
use Rattle.std.specs.declared.alloc.Global.{Global}
use Rattle.std.specs.declared.boxed.Box.{Box}
use Rattle.ti_lang.specs.declared.program.stmts.Init.{Init}
use Rattle.ti_lang.specs.declared.program.stmts.Stmt.{Stmt, Declare, Assign, If}
use Rattle.ti_lang.specs.Program.Statements.{NumberedStm}
use Rattle.ti_lang.specs.Program.Views.{expression_of, initial_of, statement_of}
use Rattle.ti_base.specs.declared.value.Value.TheVariants.{Int}
use Rattle.ti_lang.specs.Meaning.Held.{Plain}
use Rattle.ti_lang.specs.Meaning.Comp.{CompResult, Gives, gives}
use Rattle.ti_lang.specs.Meaning.Calls.{called}
use Rattle.ti_lang.specs.Meaning.Moves.{Move, receives}
use Rattle.ti_lang.specs.Meaning.Statements.{initialized, valued_or_called, statement}
use Rattle.ti_eval.specs.Comes.{ComesAs}
use Rattle.ti_eval.specs.Envs.{env_of}
use Rattle.ti_moves.specs.Outcomes.{move_after}
use Rattle.ti_moves.specs.Receiving.{receiver_of}
use Rattle.ti_moves.proofs.statements.execute.Goals as goal

pub returns-in-Declare : goal.returns-in-Declare
returns-in-Declare c =
    let E = env_of c.args.env.now in
    let r = c.args.answers.now in
    let i = c.in-Declare in
    let x = receiver_of (statement_of (Declare i.place i.ty i.variable i.value)) in
    subst (λ (g : CompResult Move). ComesAs (move_after E (statement_of c.args.stmt.now)) c.store_init.result g)
    (subst (λ (a : Stmt). initialized E (receiver_of (statement_of a)) (initial_of c.deref.result.now) r ≡ statement E (statement_of a) r) (sym i.is)
    (ap (λ (v : Init). initialized E x (initial_of v) r) c.deref.ensures))
    c.store_init.ensures

pub returns-in-Assign : goal.returns-in-Assign
returns-in-Assign c =
    let E = env_of c.args.env.now in
    let r = c.args.answers.now in
    let i = c.in-Assign in
    let x = receiver_of (statement_of (Assign i.place i.target i.value)) in
    subst (λ (g : CompResult Move). ComesAs (move_after E (statement_of c.args.stmt.now)) c.store_init-in-Assign.result g)
    (subst (λ (a : Stmt). initialized E (receiver_of (statement_of a)) (initial_of c.deref-in-Assign.result.now) r ≡ statement E (statement_of a) r) (sym i.is)
    (ap (λ (v : Init). initialized E x (initial_of v) r) c.deref-in-Assign.ensures))
    c.store_init-in-Assign.ensures

pub returns-in-Update : goal.returns-in-Update
returns-in-Update c =
    let E = env_of c.args.env.now in
    let r = c.args.answers.now in
    let v = expression_of c.in-Update.value in
    subst (λ (g : CompResult Move). ComesAs (move_after E (statement_of c.args.stmt.now)) c.store_or_call.result g)
    (subst (λ (a : Stmt). valued_or_called E (receiver_of (statement_of a)) v (called E v) r ≡ statement E (statement_of a) r) (sym c.in-Update.is) refl)
    c.store_or_call.ensures

pub returns-in-Print : goal.returns-in-Print
returns-in-Print c =
    let E = env_of c.args.env.now in
    let x = statement_of c.args.stmt.now in
    subst (λ (g : CompResult Move). ComesAs (move_after E x) c.print_outcome.result g) (sym (ap (λ (a : Stmt). statement E (statement_of a) c.args.answers.now) c.in-Print.is)) (c.print_outcome.ensures x)

pub returns-in-Return : goal.returns-in-Return
returns-in-Return c =
    let E = env_of c.args.env.now in
    let x = statement_of c.args.stmt.now in
    subst (λ (g : CompResult Move). ComesAs (move_after E x) c.returns.result g) (sym (ap (λ (a : Stmt). statement E (statement_of a) c.args.answers.now) c.in-Return.is)) (c.returns.ensures x)

pub returns-in-Some : goal.returns-in-Some
returns-in-Some c =
    let E = env_of c.args.env.now in
    let i = c.in-If in
    subst (λ (x : NumberedStm). ComesAs (move_after E x) c.branches.result (statement E x c.args.answers.now))
    (sym (ap statement_of i.is ∙ ap (λ (o : Option (Box Stmt Global)). statement_of (If i.place i.condition i.then o)) c.in-Some.is))
    (c.branches.ensures.both refl i.place (statement_of i.then.value) (statement_of c.in-Some.field-0.value))

pub returns-in-None : goal.returns-in-None
returns-in-None c =
    let E = env_of c.args.env.now in
    let i = c.in-If in
    subst (λ (x : NumberedStm). ComesAs (move_after E x) c.branches-in-None.result (statement E x c.args.answers.now))
    (sym (ap statement_of i.is ∙ ap (λ (o : Option (Box Stmt Global)). statement_of (If i.place i.condition i.then o)) c.in-None.is))
    (c.branches-in-None.ensures.alone refl i.place (statement_of i.then.value))

pub returns-in-Foreach : goal.returns-in-Foreach
returns-in-Foreach c =
    let E = env_of c.args.env.now in
    subst (λ (x : NumberedStm). ComesAs (move_after E x) c.foreach.result (statement E x c.args.answers.now)) (sym (ap statement_of c.in-Foreach.is))
    (c.foreach.ensures c.in-Foreach.place (statement_of c.in-Foreach.body.value))

pub returns-in-Empty : goal.returns-in-Empty
returns-in-Empty c =
    let E = env_of c.args.env.now in
    let r = c.args.answers.now in
    ap (λ (a : Stmt). statement E (statement_of a) r) c.in-Empty.is ∙ ap (λ (m : Move). Gives m r) (sym (c.continue_with.ensures E (statement_of c.args.stmt.now)))

pub returns-in-Barrier : goal.returns-in-Barrier
returns-in-Barrier c =
    let E = env_of c.args.env.now in
    let r = c.args.answers.now in
    ap (λ (a : Stmt). statement E (statement_of a) r) c.in-Barrier.is ∙ c.barrier.ensures E (statement_of c.args.stmt.now) r

pub returns-in-Break : goal.returns-in-Break
returns-in-Break c = ap (λ (a : Stmt). statement (env_of c.args.env.now) (statement_of a) c.args.answers.now) c.in-Break.is

pub returns-in-Continue : goal.returns-in-Continue
returns-in-Continue c = ap (λ (a : Stmt). statement (env_of c.args.env.now) (statement_of a) c.args.answers.now) c.in-Continue.is

pub returns-in-Step : goal.returns-in-Step
returns-in-Step c =
    let E = env_of c.args.env.now in
    let r = c.args.answers.now in
    subst (λ (g : CompResult Move). ComesAs (move_after E (statement_of c.args.stmt.now)) c.step.result g)
    (subst (λ (a : Stmt). receives E (receiver_of (statement_of a)) (gives (Plain (Int (pos 1)))) r ≡ statement E (statement_of a) r) (sym c.in-Step.is) refl)
    c.step.ensures

pub returns-in-Call : goal.returns-in-Call
returns-in-Call c =
    let E = env_of c.args.env.now in
    subst (λ (x : NumberedStm). ComesAs (move_after E x) c.expr_stmt.result (statement E x c.args.answers.now)) (sym (ap statement_of c.in-Call.is)) c.expr_stmt.ensures
