-- The entries of a history form the log that a turnstile sees.
use Rattle.std.proofs.Common.{◌≡◌, ℕ, zero, suc, ◌<◌, List, [], ◌∷◌, length, Some, refl, arith}
use Rattle.std.specs.Prelude.{slice_get}
use Rattle.ti_base.specs.declared.entry.Entry.{Entry}
use Rattle.ti_turnstile.specs.Passes.{number_at}
use Rattle.ti_store.specs.Stores.{log_of}

-- the number of an item is the process of its entry
pub number_logged : (es : List Entry) (i n : ℕ) → i < length es → ((e : Entry) → slice_get es i ≡ Some e → n ≡ e.proc) → n ≡ number_at (log_of es) i
number_logged [] i n lt are = absurd (omega arith)
number_logged (e ∷ es) zero n lt are = are e refl
number_logged (e ∷ es) (suc i) n lt are = number_logged es i n (omega arith) are
