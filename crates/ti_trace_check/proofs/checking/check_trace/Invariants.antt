use Rattle.ti_lang.specs.Program.Views.{program_of}
use Rattle.ti_trace_check.proofs.checking.check_trace.Given as goal

-- the terms of this run
abbrev pub ghosts-check_by : goal.ghosts-check_by
ghosts-check_by g a = record { config = record { program = program_of a.checked.now.program.parts; procs = a.procs; fuel = a.fuel } }
