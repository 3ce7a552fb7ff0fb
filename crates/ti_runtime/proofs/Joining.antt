-- The processes that come back from the workers are in the order of their numbers, each up to date with the closed log.
use Rattle.std.proofs.Common.{◌≡◌, ◌≢◌, ℕ, zero, suc, ◌<◌, ◌+◌, ◌-◌, inl, inr, List, [], ◌∷◌, ◌++◌, map, length, length-append, slice_set, get_or, refl, sym, ap, ◌∙◌, subst, arith, get_or-set_same, get_or-set_other}
use Rattle.std.specs.Prelude.{Option, Some, None}
use Rattle.std.proofs.lemmas.List.{get_or_append_left, get_or_push}
use native.Mathlib.Decide.{ℕ_discrete}
use Rattle.atomic_table.specs.Seated.{TableId}
use Rattle.ti_base.specs.declared.entry.Entry.{Entry}
use Rattle.ti_lang.specs.Meaning.Processes.{RunConfig}
use Rattle.ti_code.specs.Programs.{Code}
use Rattle.ti_turnstile.specs.declared.kept.Kept.{Ghosts}
use Rattle.ti_turnstile.specs.declared.turnstile.Pass.{Pass}
use Rattle.ti_turnstile.specs.PassViews.{HasNumber}
use Rattle.ti_turnstile.specs.Turnstiles.{turnstile_of, number_of, seen_by, pass_view_of, AreOf, AreLegal}
use Rattle.ti_store.specs.Stores.{log_of}
use Rattle.ti_pending.specs.declared.pending.PendingProc.{PendingProc}
use Rattle.ti_runtime.specs.Mirrors.Tasks.{entries_in}
use Rattle.ti_pending.specs.UpToDate.{IsUpToDate, AllUpToDate}
use Rattle.ti_runtime.specs.Mirrors.Joined.{at_place, NoneFilled, IsKnownPass, ArePlaced, IsBack}
use Rattle.ti_runtime.proofs.Tasks.{seated_inside}

-- one place more, where nobody stands
pub none_more : (xs : List (Option PendingProc)) → NoneFilled xs → NoneFilled (xs ++ None ∷ [])
none_more [] h zero = refl
none_more [] h (suc i) = refl
none_more (x ∷ xs) h zero = h 0
none_more (x ∷ xs) h (suc i) = none_more xs (λ j. h (suc j)) i

-- one pass more of the turnstile
pub one_back : {V : Type 0} {g : Ghosts V Entry} (turnstile : TableId) (all ps : List (Pass V Entry g)) (p : Pass V Entry g) → all ≡ ps
    ++ p ∷ [] → AreOf turnstile ps → turnstile_of p ≡ turnstile → AreOf turnstile all
one_back {V = V} {g = g} turnstile all ps p is h same = rw is (added ps h)
  where
    added : (ps : List (Pass V Entry g)) → AreOf turnstile ps → AreOf turnstile (ps ++ p ∷ [])
    added [] h = (same, tt)
    added (x ∷ xs) h = (h.0, added xs h.1)

module _ (s : RunConfig) (places : List (Option PendingProc)) (count : length places ≡ s.procs) (number : ℕ) (inside : number < s.procs) (pending : PendingProc) where
  abbrev after : List (Option PendingProc)
  after = slice_set places (s.procs - 1 - number) (Some pending)

  here : at_place s.procs after number ≡ Some pending
  here = get_or-set_same places (s.procs - 1 - number) (Some pending) None (omega (arith, count, inside))

  elsewhere : (k : ℕ) → k < s.procs → k ≢ number → at_place s.procs after k ≡ at_place s.procs places k
  elsewhere k l ne = get_or-set_other places (s.procs - 1 - number) (s.procs - 1 - k) (Some pending) None (λ e. ne (omega (arith, l, inside, e)))

  has_its_place : (k : ℕ) → k < s.procs → (y : PendingProc) × (at_place s.procs places k ≡ Some y) → (y : PendingProc) × (at_place s.procs after k ≡ Some y)
  has_its_place k l h = elim (ℕ_discrete k number) as (λ _. (y : PendingProc) × (at_place s.procs after k ≡ Some y)) [
    | yes same ↦ (pending, ap (at_place s.procs after) same ∙ here)
    | no ne ↦ (h.0, elsewhere k l ne ∙ h.1)
  ]

module _ {V : Type 0} {g : Ghosts V Entry} (s : RunConfig) (places : List (Option PendingProc)) (count : length places ≡ s.procs) (number : ℕ) (inside : number < s.procs) (pending : PendingProc) where
  -- one more has its place
  pub placed_on : (ps : List (Pass V Entry g)) (p : Pass V Entry g) → number_of p ≡ number → ArePlaced s.procs places ps → ArePlaced s.procs (after s places count number inside pending) (ps ++ p ∷ [])
  placed_on [] p e h = (subst (λ k. k < s.procs) (sym e) inside, (pending, ap (at_place s.procs (after s places count number inside pending)) e ∙ here s places count number inside pending), tt)
  placed_on (x ∷ xs) p e h = (h.0, has_its_place s places count number inside pending (number_of x) h.0 h.1, placed_on xs p e h.2)

module _ {V : Type 0} {g : Ghosts V Entry} (code : Code) (s : RunConfig) where
  known_left : (k : ℕ) (pending : PendingProc) (ps : List (Pass V Entry g)) (p : Pass V Entry g) → IsKnownPass code s k pending ps → IsKnownPass code s k pending (ps ++ p ∷ [])
  known_left k pending [] p h = absurd h
  known_left k pending (x ∷ xs) p (inl h) = inl h
  known_left k pending (x ∷ xs) p (inr h) = inr (known_left k pending xs p h)

  known_right : (k : ℕ) (pending : PendingProc) (ps : List (Pass V Entry g)) (p : Pass V Entry g) → number_of p ≡ k
      → IsUpToDate code s (entries_in (seen_by p)) k pending → IsKnownPass code s k pending (ps ++ p ∷ [])
  known_right k pending [] p e y = inl (e, y)
  known_right k pending (x ∷ xs) p e y = inr (known_right k pending xs p e y)

  -- one more came back
  pub back_on : (places : List (Option PendingProc)) (count : length places ≡ s.procs) (number : ℕ) (inside : number < s.procs) (pending : PendingProc)
      (ps : List (Pass V Entry g)) (p : Pass V Entry g) → number_of p ≡ number
      → IsUpToDate code s (entries_in (seen_by p)) number pending → IsBack code s places ps → IsBack code s (after s places count number inside pending) (ps ++ p ∷ [])
  back_on places count number inside pending ps p e y back k x l is = elim (ℕ_discrete k number) as (λ _. IsKnownPass code s k x (ps ++ p ∷ [])) [
    | yes same ↦
        let one : Some pending ≡ Some x = sym (here s places count number inside pending) ∙ sym (ap (at_place s.procs (after s places count number inside pending)) same) ∙ is in
        let it : pending ≡ x = cc one in
        known_right k x ps p (e ∙ sym same) (subst (IsUpToDate code s (entries_in (seen_by p)) k) it (subst (λ j. IsUpToDate code s (entries_in (seen_by p)) j pending) (sym same) y))
    | no ne ↦ known_left k x ps p (back k x l (sym (elsewhere s places count number inside pending k l ne) ∙ is))
  ]

  -- so it is after one turn of the loop
  pub all_back : (places : List (Option PendingProc)) (count : length places ≡ s.procs) (number : ℕ) (inside : number < s.procs) (pending : PendingProc)
      (ps pushed : List (Pass V Entry g)) (p : Pass V Entry g) (last : ℕ) → last ≡ s.procs → pushed ≡ ps ++ p ∷ []
      → number_of p ≡ number → IsUpToDate code s (entries_in (seen_by p)) number pending → ArePlaced s.procs places ps → IsBack code s places ps
      → ArePlaced s.procs (slice_set places (last - 1 - number) (Some pending)) pushed × IsBack code s (slice_set places (last - 1 - number) (Some pending)) pushed
  all_back places count number inside pending ps pushed p last last_is pushed_is same seated placed back =
      subst (λ (x : ℕ × List (Pass V Entry g)). ArePlaced s.procs (slice_set places (x.0 - 1 - number) (Some pending)) x.1
      × IsBack code s (slice_set places (x.0 - 1 - number) (Some pending)) x.1) (λ i. (sym last_is i, sym pushed_is i))
      (placed_on s places count number inside pending ps p same placed, back_on places count number inside pending ps p same seated back)

  -- once the turnstile is closed, a process is in all entries where it is in those of its pass
  known_whole : (es : List Entry) (k : ℕ) (pending : PendingProc) (ps : List (Pass V Entry g)) → AreLegal (log_of es) ps → IsKnownPass code s k pending ps → IsUpToDate code s es k pending
  known_whole es k pending [] legal h = absurd h
  known_whole es k pending (p ∷ ps) legal (inl h) = seated_inside code s es (number_of p) k (seen_by p) pending h.0 legal.0 h.1
  known_whole es k pending (p ∷ ps) legal (inr h) = known_whole es k pending ps legal.1 h

  has_place : (places : List (Option PendingProc)) (k : ℕ) (ps : List (Pass V Entry g)) → ArePlaced s.procs places ps → HasNumber k (map pass_view_of ps) → (pending : PendingProc) × (at_place s.procs places k ≡ Some pending)
  has_place places k [] placed h = absurd h
  has_place places k (p ∷ ps) placed (inl e) = (placed.1.0, ap (at_place s.procs places) (sym e) ∙ placed.1.1)
  has_place places k (p ∷ ps) placed (inr h) = has_place places k ps placed.2 h

  module _ (places : List (Option PendingProc)) (count : length places ≡ s.procs) (ps : List (Pass V Entry g)) where
    pub all_filled : ArePlaced s.procs places ps → ((k : ℕ) → k < s.procs → HasNumber k (map pass_view_of ps)) → (i : ℕ) → i < length places → get_or places i None ≢ None
    all_filled placed all i l e =
        let k : ℕ = s.procs - 1 - i in
        let below : k < s.procs = omega (arith, count, l) in
        let same : s.procs - 1 - k ≡ i = omega (arith, count, l) in
        let it = has_place places k ps placed (all k below) in
        let one : get_or places i None ≡ Some it.0 = ap (λ j. get_or places j None) (sym same) ∙ it.1 in
        cc (one, e)

    pub all_seated : (es : List Entry) (processes : List PendingProc) → AreLegal (log_of es) ps → IsBack code s places ps → length processes ≡ length places
        → ((d : PendingProc) (k : ℕ) → k < length processes → get_or places (length places - 1 - k) None ≡ Some (get_or processes k d)) → AllUpToDate code s es processes
    all_seated es processes legal back even each d k l =
        let below : k < s.procs = omega (arith, count, even, l) in
        known_whole es k (get_or processes k d) ps legal (back k (get_or processes k d) below (subst (λ n. get_or places (n - 1 - k) None ≡ Some (get_or processes k d)) count (each d k l)))

-- ---- in order

-- the last place is taken, and its process stands behind the others
pub order_on : (all old left : List (Option PendingProc)) (processes more : List PendingProc) (pending : PendingProc) → old ≡ left ++ Some pending ∷ [] → more ≡ processes ++ pending ∷ [] → length old + length processes ≡ length all
    → ((i : ℕ) → i < length old → get_or old i None ≡ get_or all i None) → ((d : PendingProc) (k : ℕ) → k < length processes → get_or all (length all - 1 - k) None ≡ Some (get_or processes k d))
    → (d : PendingProc) (k : ℕ) → k < length more → get_or all (length all - 1 - k) None ≡ Some (get_or more k d)
order_on all old left processes more pending is more_is count same each d k l = elim (ℕ_discrete k (length processes)) as (λ _. get_or all (length all - 1 - k) None ≡ Some (get_or more k d)) [
  | yes e ↦
      let size : length old ≡ length left + 1 = omega (arith, ap length is, length-append left (Some pending ∷ [])) in
      let at : length all - 1 - k ≡ length left = omega (arith, count, size, e) in
      let inside : length left < length old = omega (arith, size) in
      let there : get_or old (length left) None ≡ Some pending = ap (λ xs. get_or xs (length left) None) is ∙ get_or_push left (Some pending) None (length left) refl in
      let mine : get_or more k d ≡ pending = ap (λ xs. get_or xs k d) more_is ∙ get_or_push processes pending d k (sym e) in
      ap (λ j. get_or all j None) at ∙ sym (same (length left) inside) ∙ there ∙ ap Some (sym mine)
  | no ne ↦
      let below : k < length processes = omega (arith, l, ap length more_is, length-append processes (pending ∷ []), ne) in
      each d k below ∙ ap Some (sym (ap (λ xs. get_or xs k d) more_is ∙ get_or_append_left processes (pending ∷ []) d k below))
]

pub left_same : (all old left : List (Option PendingProc)) (last : Option PendingProc) → old ≡ left ++ last ∷ []
    → ((i : ℕ) → i < length old → get_or old i None ≡ get_or all i None) → (i : ℕ) → i < length left → get_or left i None
    ≡ get_or all i None
left_same all old left last is same i l =
    let inside : i < length old = omega (arith, ap length is, length-append left (last ∷ []), l) in
    sym (ap (λ xs. get_or xs i None) is ∙ get_or_append_left left (last ∷ []) None i l) ∙ same i inside
