-- Nobody has to believe this: it mirrors code, and only contracts of private functions speak of it.
-- How a run ends.
use Rattle.std.specs.Prelude.{◌≡◌, false, List}
use Rattle.ti_base.specs.declared.entry.Entry.{Entry}
use Rattle.ti_lang.specs.Meaning.Processes.{RunConfig}
use Rattle.ti_lang.specs.Meaning.Histories.{has_fault}
use Rattle.ti_lang.specs.Meaning.Runs.{AllEnded, IsComplete}
use Rattle.ti_top.specs.declared.exit.Exit.{Exit}
use Rattle.ti_top.specs.declared.exit.Exit.TheVariants.{Done, Faulted, NoMemory}
use Rattle.ti_top.specs.Run.{EndsWithFault}

-- what the entries of a run are, of which the work ends so where all is written
abbrev pub RunEnds : RunConfig → List Entry → Exit → Type 0
RunEnds s es Done = AllEnded s es × (has_fault es ≡ false)
RunEnds s es (Faulted fault) = EndsWithFault es fault
RunEnds s es NoMemory = IsComplete s es → ⊥
RunEnds s es ending = ⊥
