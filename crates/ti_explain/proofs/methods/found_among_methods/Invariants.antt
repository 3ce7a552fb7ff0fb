use Rattle.std.proofs.Common.{ℕ, ◌<◌, None}
use Rattle.ti_lang.specs.Program.Views.{program_of}
use Rattle.ti_explain.specs.Mirrors.Found.{IsFoundAt}
use Rattle.ti_explain.proofs.methods.found_among_methods.Given as goal

abbrev pub invariant-loop-i : goal.invariant-loop-i
invariant-loop-i l = (k : ℕ) → k < l.i → IsFoundAt (program_of l.program.parts) l.sought k None
