use Rattle.std.proofs.Common.{◌≡◌, ◌∙◌, ap, sym, subst, Bool, false}
use Rattle.std.specs.Prelude.{if◌then◌else◌}
use Rattle.ti_lang.specs.Program.Views.{statement_of}
use Rattle.ti_lang.specs.Meaning.Comp.{Gives}
use Rattle.ti_lang.specs.Meaning.Moves.{Move, goes_on, receives}
use Rattle.ti_lang.specs.Meaning.Processes.{Receiver}
use Rattle.ti_align.specs.Slice.{is_single_receiver}
use Rattle.ti_eval.specs.Comes.{ComesAs}
use Rattle.ti_eval.specs.Envs.{env_of}
use Rattle.ti_moves.specs.Outcomes.{move_after}
use Rattle.ti_moves.specs.Receiving.{receiver_of, right_seen}
use Rattle.ti_slice.proofs.single_stmt.receive.Goals as goal

pub returns-then-is_single_receiver : goal.returns-then-is_single_receiver
returns-then-is_single_receiver c =
    let E = env_of c.args.env.now in
    let x = statement_of c.args.stmt.now in
    let right = right_seen E c.args.right in
    let answers = c.args.answers.now in
    subst (λ (b : Bool). ComesAs (move_after E x) c.store_value.result ((if b then receives E (receiver_of x) right else goes_on E) answers))
    (sym c.if-is_single_receiver.true ∙ c.is_single_receiver.ensures ∙ ap is_single_receiver c.dest_at-receiver.ensures)
    (subst (λ (r : Receiver). ComesAs (move_after E x) c.store_value.result (receives E r right answers)) c.dest_at-receiver.ensures (c.store_value.ensures x))

pub returns-else-is_single_receiver : goal.returns-else-is_single_receiver
returns-else-is_single_receiver c =
    let E = env_of c.args.env.now in
    let x = statement_of c.args.stmt.now in
    let answers = c.args.answers.now in
    let plain : is_single_receiver (receiver_of x) ≡ false = ap is_single_receiver (sym c.dest_at-receiver.ensures) ∙ sym c.is_single_receiver.ensures ∙ c.if-is_single_receiver.false in
    ap (λ (b : Bool). (if b then receives E (receiver_of x) (right_seen E c.args.right) else goes_on E) answers) plain ∙ ap (λ (m : Move). Gives m answers) (sym (c.continue_with.ensures E x))
