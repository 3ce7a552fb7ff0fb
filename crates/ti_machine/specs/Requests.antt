-- Computations that request at most one action and then yield the value of its answer.
use Rattle.std.specs.Prelude.{◌≡◌, List, [], ◌∷◌}
use Rattle.ti_base.specs.declared.place.Place.{Place}
use Rattle.ti_base.specs.declared.fault.FaultKind.{FaultKind}
use Rattle.ti_base.specs.declared.entry.Answer.{Answer}
use Rattle.ti_lang.specs.Meaning.Held.{Held}
use Rattle.ti_lang.specs.Meaning.Comp.{Request, Comp, Gives, Asks, Fails, told}

-- The computation yields the same value or fault whatever the answers are and uses none of them, or it yields the value of the first one.
pub data RequestsAtMostOnce (m : Comp Held) : Type 0 where
  value : (h : Held) → ((rs : List Answer) → m rs ≡ Gives h rs) → RequestsAtMostOnce m
  fault : (kind : FaultKind) (at : Place) → ((rs : List Answer) → m rs ≡ Fails kind at) → RequestsAtMostOnce m
  asks : (q : Request) → (m [] ≡ Asks q) → ((r : Answer) (rs : List Answer) → m (r ∷ rs) ≡ Gives (told r) rs) → RequestsAtMostOnce m
