use Rattle.std.proofs.Common.{subst}
use Rattle.ti_lang.specs.Program.Views.{program_of}
use Rattle.ti_infer.specs.Mirrors.Solution.{AreInferred}
use Rattle.ti_infer.proofs.Answering.{is_greatest, is_first}
use Rattle.ti_infer.proofs.inference.infer.Goals as goal

pub returns-in-Some : goal.returns-in-Some
returns-in-Some c =
    let p = program_of c.args.program.now.parts in
    is_first p c.in_ok-found.found.solution.marks.items c.in-Some.at c.requires.stripped (subst (AreInferred p c.in_ok-found.found.solution.marks.items) c.in-Some.is c.in_ok-found.ensures.solved)

pub returns-in-None : goal.returns-in-None
returns-in-None c =
    let p = program_of c.args.program.now.parts in
    is_greatest p c.in_ok-found.found.solution.marks.items (subst (AreInferred p c.in_ok-found.found.solution.marks.items) c.in-None.is c.in_ok-found.ensures.solved)
