use Rattle.ti_lang.specs.Program.Views.{program_of}
use Rattle.ti_align.proofs.Runs.EveryRun as every
use Rattle.ti_align.proofs.laws.none_after_end.Goals as goal

pub returns : goal.returns
returns c = every.none_after_end (program_of c.args.checked.now.program.parts) (record { numbered = c.args.checked.now.program.numbered; unbroken = c.args.checked.now.unbroken })
