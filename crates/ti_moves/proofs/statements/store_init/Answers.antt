use Rattle.std.proofs.Common.{◌≡◌, ◌∙◌, ap, sym, subst}
use Rattle.std.proofs.lemmas.Result.{err_from_is_err_and}
use Rattle.ti_lang.specs.declared.program.stmts.Init.{Init}
use Rattle.ti_lang.specs.Program.Types.{Region}
use Rattle.ti_lang.specs.Program.Views.{initial_of, statement_of}
use Rattle.ti_lang.specs.Meaning.Held.{Held}
use Rattle.ti_lang.specs.Meaning.Comp.{CompResult, bind_result, gives}
use Rattle.ti_lang.specs.Meaning.Moves.{receives}
use Rattle.ti_lang.specs.Meaning.Statements as statements
use Rattle.ti_eval.specs.Comes.{ComesAs, Stops}
use Rattle.ti_eval.specs.Envs.{env_of}
use Rattle.ti_eval.proofs.Lemmas.{then_stops}
use Rattle.ti_moves.specs.Outcomes.{move_after, type_given, type_received}
use Rattle.ti_moves.specs.Receiving.{receiver_of}
use Rattle.ti_moves.proofs.statements.store_init.Goals as goal

pub returns-in-NewRegion : goal.returns-in-NewRegion
returns-in-NewRegion c =
    let E = env_of c.args.env.now in
    let x = statement_of c.args.stmt.now in
    let type : type_received E x ≡ Region = c.requires ∙ ap (λ (v : Init). type_given E (initial_of v)) c.in-NewRegion.is in
    ap (λ (v : Init). statements.initialized E (receiver_of x) (initial_of v) c.args.answers.now) c.in-NewRegion.is
    ∙ c.makes_region.ensures E x c.args.answers.now type

pub returns-in_ok-h-in-NewObject : goal.returns-in_ok-h-in-NewObject
returns-in_ok-h-in-NewObject c =
    let E = env_of c.args.env.now in
    let x = statement_of c.args.stmt.now in
    let r = c.store_received.result in
    subst (λ (v : Init). ComesAs (move_after E x) r (statements.initialized E (receiver_of x) (initial_of v) c.args.answers.now)) (sym c.in-NewObject.is)
    (subst (λ (g : CompResult Held). ComesAs (move_after E x) r (bind_result g (λ h. receives E (receiver_of x) (gives h)))) (sym c.in_ok-h-in-NewObject.ensures) c.store_received.ensures)

pub returns-in_ok-h-in-NewGrid : goal.returns-in_ok-h-in-NewGrid
returns-in_ok-h-in-NewGrid c =
    let E = env_of c.args.env.now in
    let x = statement_of c.args.stmt.now in
    let r = c.store_received-in-NewGrid.result in
    subst (λ (v : Init). ComesAs (move_after E x) r (statements.initialized E (receiver_of x) (initial_of v) c.args.answers.now)) (sym c.in-NewGrid.is)
    (subst (λ (g : CompResult Held). ComesAs (move_after E x) r (bind_result g (λ h. receives E (receiver_of x) (gives h)))) (sym c.in_ok-h-in-NewGrid.ensures) c.store_received-in-NewGrid.ensures)

pub returns-in_err-h-in-NewGrid : goal.returns-in_err-h-in-NewGrid
returns-in_err-h-in-NewGrid c =
    let E = env_of c.args.env.now in
    let x = statement_of c.args.stmt.now in
    let stop = c.in_err-h-in-NewGrid.field-0.0 in
    let p = err_from_is_err_and c.from_residual-in_err-h-in-NewGrid.result c.from_residual-in_err-h-in-NewGrid.ensures.1 in
    rw (p.1, p.2)
    (subst (λ (v : Init). Stops stop (statements.initialized E (receiver_of x) (initial_of v) c.args.answers.now)) (sym c.in-NewGrid.is)
    (then_stops stop _ (λ h. receives E (receiver_of x) (gives h)) c.in_err-h-in-NewGrid.ensures))

pub returns-in-Broadcast : goal.returns-in-Broadcast
returns-in-Broadcast c =
    let E = env_of c.args.env.now in
    let x = statement_of c.args.stmt.now in
    let type = c.requires ∙ ap (λ (v : Init). type_given E (initial_of v)) c.in-Broadcast.is in
    subst (λ (v : Init). ComesAs (move_after E x) c.broadcasts.result (statements.initialized E (receiver_of x) (initial_of v) c.args.answers.now)) (sym c.in-Broadcast.is)
    (c.broadcasts.ensures x type)
