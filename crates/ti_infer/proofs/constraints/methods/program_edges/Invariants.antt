use Rattle.std.proofs.Common.{◌≡◌, ◌++◌, flat_map, drop, length}
use Rattle.ti_lang.specs.Program.Views.{program_of}
use Rattle.ti_infer.specs.Reason.{return_reasons}
use Rattle.ti_infer.specs.Mirrors.Implications.{methods_edges, all_reasons, program_edges}
use Rattle.ti_infer.proofs.constraints.methods.program_edges.Given as goal

abbrev pub invariant-loop-i : goal.invariant-loop-i
invariant-loop-i l =
    let p = program_of l.program.parts in
    (l.items.items ++ flat_map (return_reasons p) (drop l.i p.methods) ≡ all_reasons p) × (l.edges.items ++ methods_edges p (drop l.i p.methods) (length l.items.items) ≡ program_edges p)
