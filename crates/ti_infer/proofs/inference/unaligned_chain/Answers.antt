use Rattle.std.proofs.Common.{◌≡◌, None}
use Rattle.std.proofs.lemmas.Result.{IfOk-weaker}
use Rattle.ti_lang.specs.Program.Views.{program_of}
use Rattle.ti_infer.specs.Unaligned.{GivesUnaligned}
use Rattle.ti_infer.specs.Mirrors.Solution.{GivesChainTo}
use Rattle.ti_infer.proofs.Answering.{chained, unchained}
use Rattle.ti_infer.proofs.inference.unaligned_chain.Goals as goal

pub returns-in-Some : goal.returns-in-Some
returns-in-Some c =
    let p = program_of c.args.program.now.parts in
    let found = c.in_ok-found.found in
    IfOk-weaker c.chain_to.result (GivesChainTo found c.in-Some.place) (GivesUnaligned p)
    (λ o h. chained p found c.in-Some.place o c.requires.stripped c.in_ok-found.ensures c.in-Some.is h) c.chain_to.ensures

pub returns : goal.returns
returns c =
    let none : c.in_ok-found.found.solution.blamed ≡ None = cc in
    unchained (program_of c.args.program.now.parts) c.in_ok-found.found c.in_ok-found.ensures none
