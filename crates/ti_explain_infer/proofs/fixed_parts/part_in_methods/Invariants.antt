use Rattle.std.proofs.Common.{◌≡◌, map, drop}
use Rattle.ti_lang.specs.Program.Views.{program_of, numbered_method_of}
use Rattle.ti_explain_infer.specs.FixedParts.{part_in_methods}
use Rattle.ti_explain_infer.proofs.fixed_parts.part_in_methods.Given as goal

abbrev pub invariant-loop-method : goal.invariant-loop-method
invariant-loop-method l =
    part_in_methods (program_of l.program.parts) l.of_conditions l.place (map numbered_method_of l.methods)
    ≡ part_in_methods (program_of l.program.parts) l.of_conditions l.place (map numbered_method_of (drop l.method-index l.methods))
