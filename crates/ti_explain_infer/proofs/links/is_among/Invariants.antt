use Rattle.std.proofs.Common.{◌≡◌, map, drop}
use Rattle.ti_lang.specs.Program.Views.{numbered_param_of}
use Rattle.ti_explain_infer.specs.ChainLinks.{is_among}
use Rattle.ti_explain_infer.proofs.links.is_among.Given as goal

abbrev pub invariant-loop-param : goal.invariant-loop-param
invariant-loop-param l =
    is_among l.place (map numbered_param_of l.params) ≡ is_among l.place (map numbered_param_of (drop l.param-index l.params))
