-- Mirrors the code, for contracts of private functions: the state of the worklist algorithm.
use Rattle.std.specs.Prelude.{◌≡◌, ℕ, ◌+◌, ◌*◌, ◌-◌, ◌<◌, ◌≤◌, ◌⊎◌, Bool, true, false, List, [], length, take, drop, get_or, Option, Some, IfSome}
use Rattle.std.specs.List.{list_any}
use Rattle.std.specs.Option.{option_map_or}
use Rattle.std.specs.BTreeMap.{is_at, get}
use Rattle.std.specs.BTreeSet.{contains, btree_set_len}
use Rattle.std.specs.declared.collections.BTreeMap.{BTreeMap}
use Rattle.std.specs.declared.vec.Vec.{Vec}
use Rattle.std.specs.declared.alloc.Global.{Global}
use Rattle.ti_base.specs.declared.place.Place.{Place}
use Rattle.ti_blame.specs.declared.reason.Reason.{Reason}
use Rattle.ti_blame.specs.declared.reason.Reason.TheVariants.{OfMethod, OfResult, OfVariable, OfCollective, Always}
use Rattle.ti_blame.specs.declared.mark.MarkKind.TheVariants as kind
use Rattle.ti_blame.specs.declared.mark.Mark.{Mark}
use Rattle.ti_blame.specs.declared.mark.MarkKey.{MarkKey}
use Rattle.ti_blame.specs.declared.implication.Conclusion.{Conclusion}
use Rattle.ti_blame.specs.declared.implication.Implication.{Implication}
use Rattle.ti_blame.specs.declared.propagation.Propagation.{Propagation}
use Rattle.ti_blame.specs.Keys.{key_of, reason_of, key_cmp}
use Rattle.ti_blame.specs.Implications.{before, meaning}

abbrev pub has : Propagation → Mark → Bool
has s m = contains key_cmp s.assumed (key_of m)

abbrev pub is_queued : List Mark → MarkKey → Bool
is_queued ms n = list_any (λ m. is_at (key_cmp n) (key_of m)) ms

-- the reason hasn't been ruled out
abbrev pub left : Propagation → Reason → Bool
left s (OfMethod at) = has s (record { place = at; kind = kind.Method })
left s (OfResult at) = has s (record { place = at; kind = kind.Result })
left s (OfVariable at) = has s (record { place = at; kind = kind.Variable })
left s (OfCollective at) = before s.blamed at
left s Always = false

-- the annotations that hold are all assumed, and the first collective that was ruled out doesn't hold
pub record IsUpperBound (held : Reason → Bool) (s : Propagation) : Type 0 where
  pub names : (m : Mark) → held (reason_of m) ≡ true → has s m ≡ true
  pub collective : IfSome s.blamed (λ l. held (OfCollective l) ≡ false)

-- the annotations on the worklist aren't assumed any more
abbrev pub Apart : Propagation → Type 0
Apart s = (n : MarkKey) → is_queued s.worklist.items n ≡ true → contains key_cmp s.assumed n ≡ false

-- from the first state to the second reasons are only ruled out, and each annotation that is removed is put on the worklist
pub record PropagatesTo (s t : Propagation) : Type 0 where
  pub stays : (b : Reason) → left t b ≡ true → left s b ≡ true
  pub fewer : (n : MarkKey) → contains key_cmp t.assumed n ≡ true → contains key_cmp s.assumed n ≡ true
  pub kept : (n : MarkKey) → is_queued s.worklist.items n ≡ true → is_queued t.worklist.items n ≡ true
  pub noted : (n : MarkKey) → contains key_cmp s.assumed n ≡ true → (contains key_cmp t.assumed n ≡ true)
      ⊎ (is_queued t.worklist.items n ≡ true)
  pub apart : Apart s → Apart t
  pub room : 2 * btree_set_len t.assumed + length t.worklist.items ≤ 2 * btree_set_len s.assumed + length s.worklist.items

-- ranges recorded as ruled out have been ruled out
abbrev pub AreDone : List Reason → Propagation → Type 0
AreDone items s = (i : ℕ) → i < length s.done.items → list_any (left s) (take (get_or s.done.items i 0 - i) (drop i items)) ≡ false

-- a record that differs from the old one at most at one index
abbrev pub MoreDone : ℕ → ℕ → List ℕ → List ℕ → Type 0
MoreDone from to old new = (length new ≡ length old) × ((i : ℕ) → ((i ≡ from) × (get_or new i 0 ≡ to)) ⊎ (get_or new i 0 ≡ get_or old i 0))

-- ---- registered constraints

-- the conclusions registered with a premise
abbrev pub conclusions : BTreeMap MarkKey (Vec Conclusion Global) Global → MarkKey → List Conclusion
conclusions w n = option_map_or (λ (v : Vec Conclusion Global). v.items) (get key_cmp w n) []

-- some reason of these conclusions holds
abbrev pub any_left : (Reason → Bool) → List Reason → List Conclusion → Bool
any_left held items ts = list_any (λ t. list_any held (meaning items t)) ts

-- the constraint has been applied, or is registered with its premise
abbrev pub IsAdded : List Reason → Propagation → BTreeMap MarkKey (Vec Conclusion Global) Global → Implication → Type 0
IsAdded items s w e =
    (list_any (left s) (meaning items e.then) ≡ false) ⊎ ((m : Mark) × (e.from ≡ Some m)
    × ((test : Conclusion → Bool) → test e.then ≡ true → list_any test (conclusions w (key_of m)) ≡ true))

-- the premise is assumed, or is on the worklist, or its registered conclusions have been ruled out
abbrev pub IsTracked : List Reason → Propagation → BTreeMap MarkKey (Vec Conclusion Global) Global → MarkKey → Type 0
IsTracked items s w n =
    (contains key_cmp s.assumed n ≡ true) ⊎ ((is_queued s.worklist.items n ≡ true) ⊎ (any_left (left s) items (conclusions w n) ≡ false))

-- the conclusions registered with a premise don't hold unless it does
abbrev pub IsFair : List Reason → (Reason → Bool) → BTreeMap MarkKey (Vec Conclusion Global) Global → Type 0
IsFair items held w = (m : Mark) → held (reason_of m) ≡ false → any_left held items (conclusions w (key_of m)) ≡ false
