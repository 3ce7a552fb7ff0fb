use Rattle.std.proofs.Common.{drop, flat_map}
use Rattle.ti_lang.specs.Program.Views.{program_of}
use Rattle.ti_rules.specs.TypeRules.{method_refusals}
use Rattle.ti_rules.specs.SingleRules.{method_single_refusals}
use Rattle.ti_check.proofs.StmtReport.{Left}
use Rattle.ti_check.proofs.checking.methods.Given as goal

abbrev pub invariant-loop-i : goal.invariant-loop-i
invariant-loop-i l =
    let p = program_of l.program.parts in
    let rest = drop l.i p.methods in
    Left (flat_map (method_refusals p) p.methods) (flat_map (method_single_refusals p) p.methods) l.found (flat_map (method_refusals p) rest) (flat_map (method_single_refusals p) rest)
