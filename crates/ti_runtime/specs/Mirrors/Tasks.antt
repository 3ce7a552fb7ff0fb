-- Mirrors the code; only contracts of private functions cite it, so nobody has to believe it.
-- Processes that run on workers.
use Rattle.std.specs.Prelude.{◌≡◌, ℕ, List, map, refl}
use Rattle.std.specs.Coded.{Coded, code_by, coded×, coded_ℕ}
use Rattle.atomic_table.specs.Seated.{TableId, table_id_coded}
use Rattle.ti_base.specs.declared.entry.Entry.{Entry}

-- what contracts see of a process on a worker: the turnstile of its pass, and its number
pub record TaskView : Type 0 where
  pub turnstile : TableId
  pub number : ℕ

-- its representation for the prover
abbrev pub task_code : Coded TaskView
task_code = code_by (TableId × ℕ) (coded× table_id_coded coded_ℕ) (λ r. (r.turnstile, r.number)) (λ t. record { turnstile = t.0; number = t.1 }) (λ _. refl)

-- the entries of a log
abbrev pub entries_in : List (ℕ × Entry) → List Entry
entries_in log = map (λ (x : ℕ × Entry). x.1) log

-- the pass of a process is of this turnstile
abbrev pub BelongsTo : TableId → TaskView → Type 0
BelongsTo turnstile task = task.turnstile ≡ turnstile
