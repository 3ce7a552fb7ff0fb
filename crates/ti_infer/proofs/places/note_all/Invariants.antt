use Rattle.std.proofs.Common.{◌≡◌, ℕ, drop}
use Rattle.std.specs.Option.{option_or}
use Rattle.ti_infer.specs.Mirrors.Locals.{place_among}
use Rattle.ti_infer.specs.Mirrors.Places.{listed_place}
use Rattle.ti_infer.proofs.places.note_all.Given as goal

abbrev pub invariant-loop-l : goal.invariant-loop-l
invariant-loop-l l = (n : ℕ) → option_or (listed_place l.places.items n) (place_among (drop l.l-index l.found) n) ≡ option_or (listed_place l.fn.places.items n) (place_among l.found n)
