-- How counterexamples are stated: a fact fails of a program's runs, or of given entries.
use Rattle.std.specs.Prelude.{ℕ, List}
use Rattle.ti_base.specs.declared.entry.Entry.{Entry}
use Rattle.ti_lang.specs.Program.Classes.{ProgramView}
use Rattle.ti_lang.specs.Meaning.Processes.{RunConfig}
use Rattle.ti_align.specs.Alignment.{OfEveryRun}

-- a run of the program with two processes, which have this many ticks of fuel each
abbrev pub by_two : ℕ → ProgramView → RunConfig
by_two fuel program = record { program = program; procs = 2; fuel = fuel }

-- the fact doesn't hold of every run of the program
abbrev pub FailsFor : (RunConfig → List Entry → Type 0) → ProgramView → Type 0
FailsFor fact program = OfEveryRun fact program → ⊥

-- it doesn't hold of these entries, taken as those of two processes of the program
abbrev pub FailsOn : (RunConfig → List Entry → Type 0) → ProgramView → List Entry → Type 0
FailsOn fact program es = fact (by_two 1000 program) es → ⊥
