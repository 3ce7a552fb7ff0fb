use Rattle.std.proofs.Common.{◌∙◌, sym}
use Rattle.ti_runtime.proofs.Finishing.{last_tells, none_tells}
use Rattle.ti_runtime.proofs.runner.ends_with_fault.Goals as goal

pub returns-in-Some : goal.returns-in-Some
returns-in-Some c = λ s run. c.faults.ensures ∙ sym (last_tells s c.args.entries.now.items run c.in-Some.entry (sym c.in-Some.ensures))

pub returns-in-None : goal.returns-in-None
returns-in-None c = λ s run. sym (none_tells s c.args.entries.now.items run (sym c.in-None.ensures))
