use Rattle.std.proofs.Common.{◌≡◌, map, take}
use Rattle.ti_lang.specs.Program.Views.{numbered_param_of}
use Rattle.ti_infer.specs.Mirrors.Places.{places_of_params}
use Rattle.ti_infer.proofs.places.of_params.Given as goal

abbrev pub invariant-loop-param : goal.invariant-loop-param
invariant-loop-param l = l.found.items ≡ places_of_params (map numbered_param_of (take l.param-index l.params))
