-- The passes that a seat represents: the number of each, and what it has seen of the log.
use Rattle.std.specs.Prelude.{◌≡◌, ◌≢◌, ℕ, ◌⊎◌, List, [], ◌∷◌, Option}
use Rattle.atomic_table.specs.Table.{Me}
use Rattle.ti_turnstile.specs.declared.seat_view.PassView.{PassView}
use Rattle.ti_turnstile.specs.declared.seat_view.SeatView.{SeatView}

module _ {I : Type 0} where
  -- the pass with this number that has seen these items
  abbrev pub pass_view : ℕ → List (ℕ × I) → PassView I
  pass_view k seen = record { number = k; seen = seen }

  -- the number, and what was seen, of the first of some parts
  abbrev pub first_number : List (PassView I) → ℕ
  first_number [] = 0
  first_number (p ∷ ps) = p.number

  abbrev pub first_seen : List (PassView I) → List (ℕ × I)
  first_seen [] = []
  first_seen (p ∷ ps) = p.seen

  -- the number, and what was seen, of a seat with one part
  abbrev pub number_in : {V : Type 0} → Me (Option V) (SeatView I) → ℕ
  number_in m = first_number m.0.passes

  abbrev pub seen_in : {V : Type 0} → Me (Option V) (SeatView I) → List (ℕ × I)
  seen_in m = first_seen m.0.passes

  -- all parts satisfy P
  abbrev pub AllPasses : (PassView I → Type 0) → List (PassView I) → Type 0
  AllPasses P [] = Unit {0}
  AllPasses P (p ∷ ps) = P p × AllPasses P ps

  -- some part satisfies P
  abbrev pub AnyPass : (PassView I → Type 0) → List (PassView I) → Type 0
  AnyPass P [] = ⊥
  AnyPass P (p ∷ ps) = P p ⊎ AnyPass P ps

  -- one of the parts has seen the whole log
  abbrev pub HasSeen : List (ℕ × I) → List (PassView I) → Type 0
  HasSeen log ps = AnyPass (λ p. p.seen ≡ log) ps

  -- one of the parts has this number
  abbrev pub HasNumber : ℕ → List (PassView I) → Type 0
  HasNumber k ps = AnyPass (λ p. p.number ≡ k) ps

  -- no two parts have one number
  abbrev pub Distinct : List (PassView I) → Type 0
  Distinct [] = Unit {0}
  Distinct (p ∷ ps) = AllPasses (λ q. q.number ≢ p.number) ps × Distinct ps
