use Rattle.ti_names.proofs.Law.{program_or_refusal, unbroken_program, same_program}
use Rattle.ti_names.proofs.resolving.one_program.Goals as goal

pub returns : goal.returns
returns c = record { some = program_or_refusal; unbroken = unbroken_program; only = same_program }
