use Rattle.std.proofs.Common.{rules, ◌∙◌, ap}
use Rattle.std.proofs.lemmas.Fn.{filter_same}
use Rattle.ti_lang.specs.Meaning.Performing.{declared_in}
use Rattle.ti_eval.specs.Frames.{slots_of}
use Rattle.ti_moves.specs.Receiving.{stm_seen}
use Rattle.ti_moves.proofs.Leaving.{stays, slots_left}
use Rattle.ti_moves.proofs.scopes.leave.Goals as goal

pub returns : goal.returns
returns c =
    let xs = declared_in (stm_seen c.args.stmt) in
    ap slots_of (filter_same _ (stays xs) _ (λ x b q h. search rules) _ _ c.retain.ensures.filtered)
    ∙ slots_left xs c.args.variables.now.items
