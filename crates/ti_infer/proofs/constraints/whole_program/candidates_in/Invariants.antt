use Rattle.std.proofs.Common.{◌≡◌, ◌++◌, map, flat_map, drop}
use Rattle.ti_lang.specs.Program.Views.{numbered_method_of}
use Rattle.ti_infer.specs.Candidates.{method_candidates}
use Rattle.ti_infer.proofs.constraints.whole_program.candidates_in.Given as goal

abbrev pub invariant-loop-m : goal.invariant-loop-m
invariant-loop-m l = l.out.items ++ flat_map method_candidates (map numbered_method_of (drop l.m-index l.methods)) ≡ l.fn.out.items ++ flat_map method_candidates (map numbered_method_of l.methods)
