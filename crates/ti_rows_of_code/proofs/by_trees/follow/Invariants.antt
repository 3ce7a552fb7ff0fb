use Rattle.std.proofs.Common.{◌≡◌}
use Rattle.ti_lang.specs.Program.Views.{program_of}
use Rattle.ti_rows_of_code.proofs.by_trees.follow.Given as goal

-- the program is that of the start
abbrev pub invariant-loop-entry : goal.invariant-loop-entry
invariant-loop-entry l = program_of l.c.program.parts ≡ program_of l.process.program
