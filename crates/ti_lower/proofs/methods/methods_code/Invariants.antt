use Rattle.std.proofs.Common.{◌≡◌, ◌++◌, map, drop}
use Rattle.ti_lang.specs.Program.Views.{program_of, numbered_method_of}
use Rattle.ti_lower.specs.Programs as laid
use Rattle.ti_lower.proofs.methods.methods_code.Given as goal

abbrev pub invariant-loop-n : goal.invariant-loop-n
invariant-loop-n l =
    l.found.items ++ laid.methods_code (program_of l.program) l.n (map numbered_method_of (drop l.n l.methods))
    ≡ laid.methods_code (program_of l.program) 0 (map numbered_method_of l.methods)
