-- Determinacy: a race-free run in which all processes have ended fixes what each process does in every run.
use Rattle.std.specs.Prelude.{◌≡◌, ℕ, List, [], ◌++◌}
use Rattle.ti_base.specs.declared.entry.Entry.{Entry}
use Rattle.ti_lang.specs.Meaning.Processes.{RunConfig}
use Rattle.ti_lang.specs.Meaning.Histories.{entries_of}
use Rattle.ti_lang.specs.Meaning.Runs.{IsRun, AllEnded}
use Rattle.ti_lang.specs.Meaning.Races.{races}

-- the first list is a prefix of the second
abbrev pub IsFront : List Entry → List Entry → Type 0
IsFront front whole = (rest : List Entry) × (whole ≡ front ++ rest)

-- in every run, the entries of each process are a prefix of its entries in `kept`
abbrev pub IsFollowed : RunConfig → List Entry → Type 0
IsFollowed s kept = (other : List Entry) (i : ℕ) → IsRun s other → IsFront (entries_of i other) (entries_of i kept)

-- if all processes have ended in `kept` and it has no race, it fixes what each process does in every run
abbrev pub Determines : RunConfig → List Entry → Type 0
Determines s kept = AllEnded s kept → races kept ≡ [] → IsFollowed s kept
