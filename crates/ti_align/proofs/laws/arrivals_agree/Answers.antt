use Rattle.ti_lang.specs.Program.Views.{program_of}
use Rattle.ti_align.proofs.Runs.EveryRun as every
use Rattle.ti_align.proofs.laws.arrivals_agree.Goals as goal

pub returns : goal.returns
returns c = every.arrivals_agree (program_of c.args.checked.now.program.parts) (record { numbered = c.args.checked.now.program.numbered; unbroken = c.args.checked.now.unbroken })
