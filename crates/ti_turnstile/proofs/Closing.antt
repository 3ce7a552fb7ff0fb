-- In the final state of a turnstile's table, the value's log is legal for all passes.
use Rattle.std.proofs.Common.{◌≡◌, ℕ, ◌+◌, List, [], ◌∷◌, ◌++◌, map, length, refl, sym, ap, ◌∙◌, subst, arith, false, add-one, ⊎_elim, drop}
use Rattle.std.specs.Prelude.{Option, Some}
use mathlib.Core.Option.{some, some-injective}
use lib.ListN.{get_elem?, length-map}
use Rattle.atomic_table.specs.Table.{Me, Final, Seen}
use Rattle.atomic_table.specs.Seated.{TableId}
use Rattle.ti_turnstile.specs.declared.turnstile.Pass.{Pass}
use Rattle.ti_turnstile.specs.declared.seat_view.SeatView.{SeatView}
use Rattle.ti_turnstile.specs.PassViews.{first_number, number_in, seen_in}
use Rattle.ti_turnstile.specs.Mirrors.Views.{view, new_passes, outside, TableInvariant}
use Rattle.ti_turnstile.specs.Turnstiles.{turnstile_of, number_of, seen_by, pass_view_of, AreNew, AreOf, AreLegal, OneHasSeen, AreAll, AreDistinct}
use Rattle.ti_turnstile.proofs.Lists.{at_end}
use Rattle.ti_turnstile.proofs.Steps.{closes_value}

nothing : {A : Type 0} (xs : List A) → length xs ≡ 0 → xs ≡ []
nothing [] e = refl
nothing (x ∷ xs) e = absurd (omega (arith, e))

module _ {V I : Type 0} {g : _} (table : TableId) where
  pub of_split : (xs ys : List (Pass V I g)) → AreOf table (xs ++ ys) → AreOf table xs × AreOf table ys
  of_split [] ys h = (tt, h)
  of_split (x ∷ xs) ys h = let r = of_split xs ys h.1 in ((h.0, r.0), r.1)

  -- of all passes the last, and those before it
  pub of_last : (all old : List (Pass V I g)) (last : Pass V I g) → all ≡ old ++ last ∷ [] → AreOf table all → (turnstile_of last ≡ table) × AreOf table old
  of_last all old last is h = let r = of_split old (last ∷ []) (subst (AreOf table) is h) in (r.1.0, r.0)

  -- one more pass, whose number is how many there were
  pub one_more : (ps : List (Pass V I g)) (p : Pass V I g) (k : ℕ) → length ps ≡ k → p.seat.table_id ≡ table → p.seat.me ≡ (outside k [], []) → AreNew table ps → AreNew table (ps ++ p ∷ [])
  one_more ps p k len of is are i q e = ⊎_elim (are i q)
      (λ (x : (i ≡ length ps) × (p ≡ q)). subst (λ (y : ℕ × Pass V I g). (turnstile_of y.1 ≡ table) × (number_of y.1 ≡ y.0)
      × (seen_by y.1 ≡ [])) (λ j. (sym (x.0 ∙ len) j, x.1 j)) (of, ap number_in is, ap seen_in is))
      (at_end ps p q i e)

module _ {B V I : Type 0} {g : _} (log_of : B → List (ℕ × I)) where
  -- once all passes are in one seat, the value is in its slot, and its log is legal with each of them
  pub closing : (n id : ℕ) (me : Me (Option B) (SeatView I)) (passes left done : List (Pass V I g)) (words : List ℕ) (slots : List (Option B))
      → passes ≡ left ++ done → length left ≡ 0 → me ≡ (view false (map pass_view_of done), []) → length passes ≡ n
      → Final (Seen (TableInvariant log_of n) id me.0) words slots → (x : B) × (get_elem? slots 0 ≡ some (Some x)) × AreLegal (log_of x) passes
      × OneHasSeen (log_of x) passes × AreAll n passes × AreDistinct passes
  closing n id me passes left done words slots all empty is count final =
      let same : done ≡ passes = sym (all ∙ ap (λ l. l ++ done) (nothing left empty)) in
      let t = closes_value log_of n id (map pass_view_of done) words slots
      (subst (λ v. Final (Seen (TableInvariant log_of n) id v) words slots) (ap (λ m. m.0) is) final) (length-map done pass_view_of ∙ ap length same
      ∙ count) in
      (t.0, t.1, subst (λ ps. AreLegal (log_of t.0) ps) same t.2, subst (λ ps. OneHasSeen (log_of t.0) ps) same t.3, subst (λ ps. AreAll n ps) same t.4, subst (λ ps. AreDistinct ps) same t.5)

  -- the same of the value that was taken out of the slot
  pub closed : (n : ℕ) (passes : List (Pass V I g)) (slots : List (Option B)) (v : B) → (x : B) × (get_elem? slots 0 ≡ some (Some x))
      × AreLegal (log_of x) passes × OneHasSeen (log_of x) passes × AreAll n passes × AreDistinct passes → get_elem? slots 0 ≡ some (Some v)
      → AreLegal (log_of v) passes × OneHasSeen (log_of v) passes × AreAll n passes × AreDistinct passes
  closed n passes slots v t taken =
      let same : t.0 ≡ v = let some_same = some-injective (Some t.0) (Some v) (sym t.1 ∙ taken) in cc some_same in
      (subst (λ x. AreLegal (log_of x) passes) same t.2, subst (λ x. OneHasSeen (log_of x) passes) same t.3, t.4, t.5)

module _ (I : Type 0) where
  pub cut_left : (i m : ℕ) → drop 1 (new_passes {I = I} i (m + 1)) ≡ new_passes (i + 1) m
  cut_left i m = ap (λ k. drop 1 (new_passes i k)) (add-one m) ∙ ap (λ k. new_passes k m) (sym (add-one i))

  pub cut_number : (i m : ℕ) → first_number (new_passes {I = I} i (m + 1)) ≡ i
  cut_number i m = ap (λ k. first_number (new_passes {I = I} i k)) (add-one m)
