use Rattle.ti_lang.specs.Program.Views.{program_of}
use Rattle.ti_runtime.proofs.runner.run.Given as goal

-- the code and the configuration of this run
abbrev pub ghosts-run_by-J-CodeOf : goal.ghosts-run_by-J-CodeOf
ghosts-run_by-J-CodeOf g a = record { code = a.code.now }

abbrev pub ghosts-run_by-J-RunConfigOf : goal.ghosts-run_by-J-RunConfigOf
ghosts-run_by-J-RunConfigOf g a = record { config = record { program = program_of a.checked.now.program.parts; procs = a.procs; fuel = a.fuel } }
