-- The shared regions of a run.
use Rattle.std.specs.Prelude.{ℕ, ◌==◌, Bool, false, ◌&&◌, ◌||◌, [], ◌∷◌}
use Rattle.ti_base.specs.declared.value.Value.TheVariants as v
use Rattle.ti_base.specs.declared.entry.Answer.{Answer}
use Rattle.ti_base.specs.declared.entry.Answer.TheVariants.{Val}
use Rattle.ti_lang.specs.Meaning.Histories.{History, is_departure}
use Rattle.ti_lang.specs.Meaning.RoundsOf.{last_arrival, is_delete_of}

-- the answer is region r
abbrev pub is_region : ℕ → Answer → Bool
is_region r (Val (v.Region n)) = n == r
is_region r answer = false

-- region r has been created: some process has received it by a departure
abbrev pub is_made : ℕ → History → Bool
is_made r [] = false
is_made r (e ∷ earlier) = is_departure e.act && is_region r e.answer || is_made r earlier

-- region r has been deleted: some process has departed from a round that deletes it
abbrev pub is_gone : ℕ → History → Bool
is_gone r [] = false
is_gone r (e ∷ earlier) = is_departure e.act && is_delete_of r (last_arrival e.proc earlier) || is_gone r earlier

-- allocation can name region r: it is 0, which means none, or has been created
abbrev pub is_place : ℕ → History → Bool
is_place r h = r == 0 || is_made r h
