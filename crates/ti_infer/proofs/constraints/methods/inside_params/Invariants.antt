use Rattle.std.proofs.Common.{◌≡◌, ◌++◌, map, drop}
use Rattle.ti_lang.specs.Program.Views.{numbered_param_of}
use Rattle.ti_infer.specs.Mirrors.Implications.{params_inside}
use Rattle.ti_infer.specs.Mirrors.Sites.{inside_of}
use Rattle.ti_infer.proofs.constraints.methods.inside_params.Given as goal

abbrev pub invariant-loop-w : goal.invariant-loop-w
invariant-loop-w l = inside_of l.found.items ++ params_inside l.number (map numbered_param_of (drop l.w-index l.params)) ≡ params_inside 0 (map numbered_param_of l.params)
