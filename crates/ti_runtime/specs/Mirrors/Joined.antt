-- Mirrors the code; only contracts of private functions cite it, so nobody has to believe it.
-- Processes that came back from the workers.
use Rattle.std.specs.Prelude.{◌≡◌, ℕ, ◌<◌, ◌-◌, ◌⊎◌, List, [], ◌∷◌, Option, Some, None, slice_index_or}
use Rattle.ti_base.specs.declared.entry.Entry.{Entry}
use Rattle.ti_lang.specs.Meaning.Processes.{RunConfig}
use Rattle.ti_code.specs.Programs.{Code}
use Rattle.ti_turnstile.specs.declared.turnstile.Pass.{Pass}
use Rattle.ti_turnstile.specs.Turnstiles.{number_of, seen_by}
use Rattle.ti_pending.specs.declared.pending.PendingProc.{PendingProc}
use Rattle.ti_runtime.specs.Mirrors.Tasks.{entries_in}
use Rattle.ti_pending.specs.UpToDate.{IsUpToDate}

-- process k is at this place; places are counted from the last process
abbrev pub at_place : ℕ → List (Option PendingProc) → ℕ → Option PendingProc
at_place procs places k = slice_index_or places (procs - 1 - k) None

abbrev pub NoneFilled : List (Option PendingProc) → Type 0
NoneFilled places = (i : ℕ) → slice_index_or places i None ≡ None

-- one of the passes has the number k, and the process is up to date with what that pass has seen
abbrev pub IsKnownPass : {V : Type 0} {g : _} → Code → RunConfig → ℕ → PendingProc → List (Pass V Entry g) → Type 0
IsKnownPass code s k pending [] = ⊥
IsKnownPass code s k pending (p ∷ ps) = ((number_of p ≡ k) × IsUpToDate code s (entries_in (seen_by p)) k pending) ⊎ IsKnownPass code s k pending ps

-- the process of each pass is in its place
abbrev pub ArePlaced : {V : Type 0} {g : _} → ℕ → List (Option PendingProc) → List (Pass V Entry g) → Type 0
ArePlaced procs places [] = Unit {0}
ArePlaced procs places (p ∷ ps) =
    (number_of p < procs) × ((pending : PendingProc) × (at_place procs places (number_of p) ≡ Some pending)) × ArePlaced procs places ps

-- for each process that is in its place a pass came back
abbrev pub IsBack : {V : Type 0} {g : _} → Code → RunConfig → List (Option PendingProc) → List (Pass V Entry g) → Type 0
IsBack code s places passes =
    (k : ℕ) (pending : PendingProc) → k < s.procs → at_place s.procs places k ≡ Some pending → IsKnownPass code s k pending passes
