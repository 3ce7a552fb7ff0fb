use Rattle.std.proofs.Common.{◌∙◌, ap, sym}
use Rattle.ti_lang.specs.Program.Views.{expression_of}
use Rattle.ti_align.specs.Slice.{is_single_receiver}
use Rattle.ti_moves.specs.declared.assign.Dest.{Dest}
use Rattle.ti_moves.specs.Receiving.{dest_seen}
use Rattle.ti_slice.proofs.StatedNames.{same_named}
use Rattle.ti_slice.proofs.single_stmt.is_single_receiver.Goals as goal

pub returns-in-Assigned : goal.returns-in-Assigned
returns-in-Assigned c =
    c.is_single_target.ensures ∙ same_named (expression_of c.in-Assigned.target.now) ∙ sym (ap (λ (r : Dest). is_single_receiver (dest_seen r)) c.in-Assigned.is)

pub returns-in-Updated : goal.returns-in-Updated
returns-in-Updated c =
    c.is_single_target-in-Updated.ensures ∙ same_named (expression_of c.in-Updated.target.now) ∙ sym (ap (λ (r : Dest). is_single_receiver (dest_seen r)) c.in-Updated.is)

pub returns-in-Declared : goal.returns-in-Declared
returns-in-Declared c = sym (ap (λ (r : Dest). is_single_receiver (dest_seen r)) c.in-Declared.is)

pub returns-in-Nowhere : goal.returns-in-Nowhere
returns-in-Nowhere c = sym (ap (λ (r : Dest). is_single_receiver (dest_seen r)) c.in-Nowhere.is)
