use Rattle.std.proofs.Common.{subst}
use Rattle.ti_lang.specs.Program.Views.{program_of}
use Rattle.ti_explain.specs.Mirrors.Found.{IsFoundAmong}
use Rattle.ti_explain.proofs.MethodLaws.{sought_single, single_found, single_nowhere}
use Rattle.ti_explain.proofs.methods.single_reasons.Goals as goal

pub returns : goal.returns
returns c =
    let p = program_of c.args.program.now.parts in
    single_found c.first_counts.ensures.some p c.args.tree c.args.refusal c.in-Some.found
    (subst (IsFoundAmong p (sought_single c.args.tree c.args.refusal)) c.in-Some.is c.in_ok-found.ensures)

pub unreachable-requires : goal.unreachable-requires
unreachable-requires c =
    let p = program_of c.args.program.now.parts in
    single_nowhere c.first_counts.ensures.some c.first_counts.ensures.none p c.args.tree c.args.refusal c.requires
    (subst (IsFoundAmong p (sought_single c.args.tree c.args.refusal)) c.in-None.is c.in_ok-found.ensures)
