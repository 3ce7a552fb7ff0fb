use Rattle.std.proofs.Common.{take}
use Rattle.ti_diagnostics.specs.Rejections.{AreRelated}
use Rattle.ti_diagnostics.proofs.related.places_of.Given as goal

abbrev pub invariant-loop-reason : goal.invariant-loop-reason
invariant-loop-reason l = AreRelated l.text l.explanation.refusal (take l.reason-index l.reasons) l.places.items
