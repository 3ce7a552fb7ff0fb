use Rattle.std.proofs.Common.{◌≡◌, ◌*◌, drop}
use Rattle.ti_lang.specs.Meaning.Literals.{append_bounds}
use Rattle.ti_eval.specs.Bounds as found
use Rattle.ti_code.specs.Effects.{range_bounds}
use Rattle.ti_machine.proofs.instrs.domains.bounds.Given as goal

abbrev pub invariant-loop-k : goal.invariant-loop-k
invariant-loop-k l = append_bounds (found.bounds_of l.found) (range_bounds (drop (3 * l.k) l.args)) ≡ range_bounds l.args
