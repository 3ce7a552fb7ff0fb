use Rattle.std.proofs.Common.{◌≡◌, length, [], arith}
use Rattle.std.proofs.lemmas.Bool.Decides.{nat_tests}
use Rattle.ti_lang.specs.Program.Views.{program_of}
use Rattle.ti_exec.proofs.Works.{ends_at}
use Rattle.ti_exec.proofs.process.TreeMachine.walks.Goals as goal

pub returns-then-is_empty : goal.returns-then-is_empty
returns-then-is_empty c =
    let e : length c.args.self.now.top.levels.items ≡ 0 = grind (arith, nat_tests) in
    ends_at (program_of c.args.program.now) c.args.self.now c.returns.new.self c.returns.result c.requires.mode e c.requires.settled (c.returns.ensures (program_of c.args.program.now) [] [])
