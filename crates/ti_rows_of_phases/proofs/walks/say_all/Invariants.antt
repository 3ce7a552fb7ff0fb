use Rattle.std.proofs.Common.{◌≡◌}
use Rattle.ti_lang.specs.Program.Views.{program_of}
use Rattle.ti_rows_of_phases.proofs.walks.say_all.Given as goal

-- the program is that of the start
abbrev pub invariant-loop-n : goal.invariant-loop-n
invariant-loop-n l = program_of l.c.program.parts ≡ program_of l.process.program
