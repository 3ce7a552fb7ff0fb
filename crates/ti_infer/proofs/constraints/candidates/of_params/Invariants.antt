use Rattle.std.proofs.Common.{◌≡◌, ◌++◌, map, drop}
use Rattle.ti_lang.specs.Program.Views.{numbered_param_of}
use Rattle.ti_infer.specs.Candidates.{param_candidate}
use Rattle.ti_infer.proofs.constraints.candidates.of_params.Given as goal

abbrev pub invariant-loop-w : goal.invariant-loop-w
invariant-loop-w l = l.out.items ++ map param_candidate (map numbered_param_of (drop l.w-index l.params)) ≡ l.fn.out.items ++ map param_candidate (map numbered_param_of l.params)
