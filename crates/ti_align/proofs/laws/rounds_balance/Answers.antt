use Rattle.ti_lang.specs.Program.Views.{program_of}
use Rattle.ti_align.proofs.Runs.EveryRun as every
use Rattle.ti_align.proofs.laws.rounds_balance.Goals as goal

pub returns : goal.returns
returns c = every.rounds_balance (program_of c.args.checked.now.program.parts)
