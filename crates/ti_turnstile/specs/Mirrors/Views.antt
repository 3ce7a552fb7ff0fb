-- The invariant of the turnstile's table, and what its transitions do.
use Rattle.std.specs.Prelude.{◌≡◌, ◌≢◌, ℕ, zero, suc, ◌+◌, ◌<◌, ◌⊎◌, Bool, true, false, List, [], ◌∷◌, length, Option, Some, None}
use mathlib.Core.Option.{some, none}
use lib.ListN.{get_elem?}
use Rattle.std.specs.declared.boxed.Box.{Box}
use Rattle.atomic_table.specs.Table.{State, Me, Step}
use Rattle.ti_turnstile.specs.Passes.{GrownBy, IsLegal}
use Rattle.ti_turnstile.specs.PassViews.{pass_view, number_in, seen_in, AllPasses, AnyPass, Distinct}
use Rattle.ti_turnstile.specs.declared.seat_view.PassView.{PassView}
use Rattle.ti_turnstile.specs.declared.seat_view.SeatView.{SeatView}

module _ {I : Type 0} where
  abbrev pub view : Bool → List (PassView I) → SeatView I
  view b ps = record { is_inside = b; passes = ps }

  -- a pass that is outside, and one that is inside
  abbrev pub outside : ℕ → List (ℕ × I) → SeatView I
  outside k seen = view false (pass_view k seen ∷ [])

  abbrev pub inside : ℕ → List (ℕ × I) → SeatView I
  inside k seen = view true (pass_view k seen ∷ [])

  -- n passes, numbered from k on, which have seen nothing
  abbrev pub new_passes : ℕ → ℕ → List (PassView I)
  new_passes k zero = []
  new_passes k (suc n) = pass_view k [] ∷ new_passes (suc k) n

  -- a seat that is outside, and one that is inside and has emptied the slot
  abbrev pub IsPass : {V : Type 0} → Me (Option V) (SeatView I) → Type 0
  IsPass m = (m.0 ≡ outside (number_in m) (seen_in m)) × (m.1 ≡ [])

  abbrev pub IsInside : {V : Type 0} → Me (Option V) (SeatView I) → Type 0
  IsInside m = (m.0 ≡ inside (number_in m) (seen_in m)) × (m.1 ≡ (0, None) ∷ [])

  -- the sum over all views
  abbrev pub total : (SeatView I → ℕ) → List (SeatView I) → ℕ
  total f [] = 0
  total f (v ∷ vs) = f v + total f vs

  abbrev pub size : SeatView I → ℕ
  size v = length v.passes

  -- some seat has such a part
  abbrev pub SomeSeat : (PassView I → Type 0) → List (SeatView I) → Type 0
  SomeSeat P views = (j : ℕ) × (v : SeatView I) × (get_elem? views j ≡ some v) × AnyPass P v.passes

  -- what the part has seen is legal, and it belongs to seat j
  abbrev pub BelongsToSeat : List (ℕ × I) → (ℕ → ℕ) → ℕ → PassView I → Type 0
  BelongsToSeat log owner j p = IsLegal log p.number p.seen × (owner p.number ≡ j)

module _ {V I : Type 0} (log_of : V → List (ℕ × I)) where
  -- no seat is inside; no seat except k is inside
  abbrev pub NoneInside : List (SeatView I) → Type 0
  NoneInside views = (j : ℕ) (v : SeatView I) → get_elem? views j ≡ some v → v.is_inside ≡ false

  abbrev pub OneInside : List (SeatView I) → ℕ → Type 0
  OneInside views k = (j : ℕ) (v : SeatView I) → j ≢ k → get_elem? views j ≡ some v → v.is_inside ≡ false

  -- the lock is free and the value is in its slot
  abbrev pub IsUnlocked : List (ℕ × I) → ℕ → State (Option V) (SeatView I) → Type 0
  IsUnlocked log hint s = (s.words ≡ 0 ∷ hint ∷ []) × (x : V) × (s.homes ≡ some (Some x) ∷ []) × (log_of x ≡ log) × NoneInside s.views

  -- the lock is held, and one seat is inside, which has seen the whole log
  abbrev pub IsLocked : List (ℕ × I) → ℕ → State (Option V) (SeatView I) → Type 0
  IsLocked log hint s = (s.words ≡ 1 ∷ hint ∷ []) × (s.homes ≡ none ∷ []) × (k : ℕ) × (number : ℕ)
      × (get_elem? s.views k ≡ some (inside number log)) × OneInside s.views k

  -- there is one log: each pass has seen a prefix of it with all items of its number, and one has seen all of it; each number below n is
  -- that of a pass, which one seat has
  pub record TableInvariant (n : ℕ) (s : State (Option V) (SeatView I)) : Type 0 where
    pub log : List (ℕ × I)
    pub hint : ℕ
    pub owner : ℕ → ℕ
    pub count : total size s.views ≡ n
    pub each : (j : ℕ) (v : SeatView I) → get_elem? s.views j ≡ some v → AllPasses (BelongsToSeat log owner j) v.passes
    pub apart : (j : ℕ) (v : SeatView I) → get_elem? s.views j ≡ some v → Distinct v.passes
    pub knower : SomeSeat (λ p. p.seen ≡ log) s.views
    pub cover : (k : ℕ) → k < n → SomeSeat (λ p. p.number ≡ k) s.views
    pub turn : IsUnlocked log hint s ⊎ IsLocked log hint s

  -- the seat is inside, with the value, whose log extends what the pass had seen legally
  abbrev pub HasEntered : Me (Option V) (SeatView I) → Me (Option V) (SeatView I) → Type 0
  HasEntered m m' = (k : ℕ) × (seen : List (ℕ × I)) × (x : V) × (m.0 ≡ outside k seen) × (m'.0 ≡ inside k (log_of x))
      × (m'.1 ≡ (0, Some x) ∷ []) × IsLegal (log_of x) k seen

  -- a seat that is inside, with the value in its slot
  abbrev pub HasValue : Me (Option V) (SeatView I) → Type 0
  HasValue m = (x : V) × (m.0 ≡ inside (number_in m) (log_of x)) × (m.1 ≡ (0, Some x) ∷ [])

  -- a seat that is inside, with the value in its slot, whose log has grown only by items with the seat's number
  abbrev pub IsLeaving : Me (Option V) (SeatView I) → Type 0
  IsLeaving m = (x : V) × (m.0 ≡ inside (number_in m) (seen_in m)) × (m.1 ≡ (0, Some x) ∷ []) × GrownBy (number_in m) (seen_in m) (log_of x)

  -- a try to acquire the lock: it was free and the seat is inside now, or nothing changed
  abbrev pub TriesToAcquire : Step (Option V) → Me (Option V) (SeatView I) → ℕ → Me (Option V) (SeatView I) → Type 0
  TriesToAcquire s m found m' = (found ≡ 0 → HasEntered m m') × (found ≢ 0 → m' ≡ m)

  -- the log of the value that the seat carries
  abbrev pub carried_log : List (ℕ × Option V) → List (ℕ × I)
  carried_log [] = []
  carried_log ((k, None) ∷ cs) = []
  carried_log ((k, Some x) ∷ cs) = log_of x

  -- the seat is outside, and has seen the log of the value that it carried
  abbrev pub Releases : Step (Option V) → Me (Option V) (SeatView I) → ℕ → Me (Option V) (SeatView I) → Type 0
  Releases s m found m' = (m'.0 ≡ outside (number_in m) (carried_log m.1)) × (m'.1 ≡ [])

module _ {V I : Type 0} where
  -- the seat stays as it is
  abbrev pub Announces : Step (Option V) → Me (Option V) (SeatView I) → ℕ → Me (Option V) (SeatView I) → Type 0
  Announces s m found m' = m' ≡ m

  -- the log of a box is that of its value
  abbrev pub log_in_box : {A : Type 0} → (V → List (ℕ × I)) → Box V A → List (ℕ × I)
  log_in_box log_of b = log_of b.value
