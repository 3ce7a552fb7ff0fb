use Rattle.std.proofs.Common.{◌≡◌, ◌++◌, map, drop}
use Rattle.ti_lang.specs.Program.Views.{numbered_param_of, numbered_method_of}
use Rattle.ti_infer.specs.Mirrors.Fits.{param_edges}
use Rattle.ti_infer.proofs.constraints.fits.of_params.Given as goal

abbrev pub invariant-loop-w : goal.invariant-loop-w
invariant-loop-w l = l.out.items ++ param_edges (numbered_method_of l.method) (map numbered_param_of (drop l.w-index l.params)) ≡ l.fn.out.items
    ++ param_edges (numbered_method_of l.method) (map numbered_param_of l.params)
