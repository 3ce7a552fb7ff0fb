use Rattle.std.proofs.Common.{◌≡◌, map, drop}
use Rattle.ti_lang.specs.Program.Views.{numbered_method_of}
use Rattle.ti_explain_infer.specs.ChainLinks.{method_declares_at}
use Rattle.ti_explain_infer.proofs.links.method_declares_at.Given as goal

abbrev pub invariant-loop-method : goal.invariant-loop-method
invariant-loop-method l =
    method_declares_at l.place (map numbered_method_of l.methods) ≡ method_declares_at l.place (map numbered_method_of (drop l.method-index l.methods))
