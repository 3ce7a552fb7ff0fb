-- What contracts see of a turnstile, its passes, and a pass that is inside.
use Rattle.std.specs.Prelude.{◌≡◌, ℕ, ◌<◌, List, [], ◌∷◌, map}
use mathlib.Core.Option.{some}
use lib.ListN.{get_elem?}
use Rattle.atomic_table.specs.Seated.{TableId}
use Rattle.ti_turnstile.specs.declared.turnstile.Turnstile.{Turnstile}
use Rattle.ti_turnstile.specs.declared.turnstile.Pass.{Pass}
use Rattle.ti_turnstile.specs.declared.turnstile.Inside.{Inside}
use Rattle.ti_turnstile.specs.Passes.{IsLegal}
use Rattle.ti_turnstile.specs.declared.seat_view.PassView.{PassView}
use Rattle.ti_turnstile.specs.PassViews.{pass_view, number_in, seen_in, AllPasses, HasSeen, HasNumber, Distinct}

-- ---- single passes

-- the identity of a turnstile, and how many passes it has
abbrev pub identity_of : {V I : Type 0} → Turnstile V I → TableId
identity_of t = t.table.shared.table_id

abbrev pub passes_of : {V I : Type 0} → Turnstile V I → ℕ
passes_of t = t.table.shared.key

-- the turnstile of a pass, its number, and what it has seen of the log
abbrev pub turnstile_of : {V I : Type 0} {g : _} → Pass V I g → TableId
turnstile_of p = p.seat.table_id

abbrev pub number_of : {V I : Type 0} {g : _} → Pass V I g → ℕ
number_of p = number_in p.seat.me

abbrev pub seen_by : {V I : Type 0} {g : _} → Pass V I g → List (ℕ × I)
seen_by p = seen_in p.seat.me

-- the turnstile that a pass is inside of, its number, the value, and the log that the value had when it entered
abbrev pub turnstile_around : {V I : Type 0} {g : _} → Inside V I g → TableId
turnstile_around i = i.held.seat.table_id

abbrev pub number_inside : {V I : Type 0} {g : _} → Inside V I g → ℕ
number_inside i = number_in i.held.seat.me

abbrev pub value_inside : {V I : Type 0} {g : _} → Inside V I g → V
value_inside i = i.value.value

abbrev pub found_inside : {V I : Type 0} {g : _} → Inside V I g → List (ℕ × I)
found_inside i = seen_in i.held.seat.me

-- the pass inside, with another value
abbrev pub with_value : {V I : Type 0} {g : _} → Inside V I g → V → Inside V I g
with_value i x = record i { value = record i.value { value = x } }

-- ---- lists of passes

-- the pass with index i is of this turnstile, has the number i, and has seen nothing
abbrev pub AreNew : {V I : Type 0} {g : _} → TableId → List (Pass V I g) → Type 0
AreNew turnstile ps = (i : ℕ) (p : _) → get_elem? ps i ≡ some p → (turnstile_of p ≡ turnstile) × (number_of p ≡ i) × (seen_by p ≡ [])

-- each pass is of this turnstile
abbrev pub AreOf : {V I : Type 0} {g : _} → TableId → List (Pass V I g) → Type 0
AreOf turnstile [] = Unit {0}
AreOf turnstile (p ∷ ps) = (turnstile_of p ≡ turnstile) × AreOf turnstile ps

-- a pass's number, with what it has seen
abbrev pub pass_view_of : {V I : Type 0} {g : _} → Pass V I g → PassView I
pass_view_of p = pass_view (number_of p) (seen_by p)

-- what each pass has seen is legal for the log
abbrev pub AreLegal : {V I : Type 0} {g : _} → List (ℕ × I) → List (Pass V I g) → Type 0
AreLegal log ps = AllPasses (λ q. IsLegal log q.number q.seen) (map pass_view_of ps)

-- one pass has seen the whole log
abbrev pub OneHasSeen : {V I : Type 0} {g : _} → List (ℕ × I) → List (Pass V I g) → Type 0
OneHasSeen log ps = HasSeen log (map pass_view_of ps)

-- each number below n is that of a pass
abbrev pub AreAll : {V I : Type 0} {g : _} → ℕ → List (Pass V I g) → Type 0
AreAll n ps = (k : ℕ) → k < n → HasNumber k (map pass_view_of ps)

-- no two passes have one number
abbrev pub AreDistinct : {V I : Type 0} {g : _} → List (Pass V I g) → Type 0
AreDistinct ps = Distinct (map pass_view_of ps)
