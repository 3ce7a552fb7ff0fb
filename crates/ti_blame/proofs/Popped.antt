-- Taking one annotation off the worklist and propagating it keeps the invariants and decreases a measure.
use Rattle.std.proofs.Common.{◌≡◌, ℕ, ◌+◌, ◌*◌, ◌-◌, ◌<◌, ◌≤◌, ◌⊎◌, inl, inr, Bool, true, false, ◌||◌, List, [], ◌∷◌, ◌++◌, take, drop, length, get_or, Option, IfSome, refl, ap, ap₂, sym, subst, ◌∙◌, arith, length-append}
use Rattle.std.specs.List.{list_any}
use Rattle.std.specs.BTreeMap.{is_at}
use Rattle.std.specs.BTreeSet.{contains, btree_set_len}
use Rattle.std.specs.declared.collections.BTreeMap.{BTreeMap}
use Rattle.std.specs.declared.vec.Vec.{Vec}
use Rattle.std.specs.declared.alloc.Global.{Global}
use Rattle.std.proofs.lemmas.List.Folds.{list_any-append}
use Rattle.ti_base.specs.declared.place.Place.{Place}
use Rattle.ti_blame.specs.declared.reason.Reason.{Reason}
use Rattle.ti_blame.specs.declared.reason.Reason.TheVariants.{OfCollective}
use Rattle.ti_blame.specs.declared.mark.Mark.{Mark}
use Rattle.ti_blame.specs.declared.mark.MarkKey.{MarkKey}
use Rattle.ti_blame.specs.declared.implication.Conclusion.{Conclusion}
use Rattle.ti_blame.specs.declared.propagation.Propagation.{Propagation}
use Rattle.ti_blame.specs.Keys.{key_of, reason_of, key_cmp}
use Rattle.ti_blame.specs.Implications.{meaning}
use Rattle.ti_blame.specs.Mirrors.Propagation.{left, has, is_queued, IsUpperBound, Apart, PropagatesTo, AreDone, conclusions, any_left, IsTracked, IsFair}
use Rattle.ti_blame.proofs.Order.{same_name, name_itself}
use Rattle.ti_blame.proofs.Stepping.{true_false, grows_first, grows_second, either_is, same_left}
use Rattle.ti_blame.proofs.Opened.{steps_open}

-- the second state is the first without one of those that are to be followed
pub record Popped (m : Mark) (s t : Propagation) : Type 0 where
  pub assumed : t.assumed ≡ s.assumed
  pub blamed : t.blamed ≡ s.blamed
  pub done : t.done ≡ s.done
  pub worklist : s.worklist.items ≡ t.worklist.items ++ m ∷ []

module _ (m : Mark) (s t : Propagation) (popped : Popped m s t) where
  fallen_at : (n : MarkKey) → is_queued s.worklist.items n ≡ (is_queued t.worklist.items n || (is_at (key_cmp n) (key_of m) || false))
  fallen_at n = ap (λ ms. is_queued ms n) popped.worklist ∙ list_any-append (λ (k : Mark). is_at (key_cmp n) (key_of k)) t.worklist.items (m ∷ [])

  standing_at : (n : MarkKey) → contains key_cmp t.assumed n ≡ contains key_cmp s.assumed n
  standing_at n = ap (λ st. contains key_cmp st n) popped.assumed

  pub popped_apart : Apart s → Apart t
  popped_apart apart n h = standing_at n ∙ apart n (fallen_at n ∙ grows_first _ _ h)

  pub popped_done : (items : List Reason) → AreDone items s → AreDone items t
  popped_done items h =
      let P : List ℕ → Type 0 = λ ds. (i : ℕ) → i < length ds → list_any (left t) (take (get_or ds i 0 - i) (drop i items)) ≡ false in
      subst P (ap (λ v. v.items) (sym popped.done)) (λ i lt. same_left s t (take (get_or s.done.items i 0 - i) (drop i items)) popped.assumed popped.blamed ∙ h i lt)

  pub popped_covers : (held : Reason → Bool) → IsUpperBound held s → IsUpperBound held t
  popped_covers held covers = record {
    names = λ q h. standing_at (key_of q) ∙ covers.names q h;
    collective = subst (λ (o : Option Place). IfSome o (λ l. held (OfCollective l) ≡ false)) (sym popped.blamed) covers.collective;
  }

  pub popped_stays : (b : Reason) → left t b ≡ true → left s b ≡ true
  popped_stays b h = itself (left s b) (sym (same_left s t (b ∷ []) popped.assumed popped.blamed) ∙ grows_first _ false h)
    where
      itself : (a : Bool) → (a || false) ≡ true → a ≡ true
      itself true e = refl
      itself false e = e

  -- what is taken off doesn't stand, so it isn't held
  pub not_held : (held : Reason → Bool) → Apart s → IsUpperBound held s → held (reason_of m) ≡ false
  not_held held apart covers = by (held (reason_of m)) refl
    where
      by : (b : Bool) → held (reason_of m) ≡ b → b ≡ false
      by true e = absurd (true_false (sym (covers.names m e) ∙ apart (key_of m) (fallen_at (key_of m) ∙ grows_second _ _ (grows_first _ _ (name_itself (key_of m))))))
      by false e = refl

  module _ (items : List Reason) (w : BTreeMap MarkKey (Vec Conclusion Global) Global) (u : Propagation) (step : PropagatesTo t u) (followed : any_left (left u) items (conclusions w (key_of m)) ≡ false) where
    any_same : (ts : List Conclusion) → any_left (left t) items ts ≡ any_left (left s) items ts
    any_same [] = refl
    any_same (x ∷ xs) = ap₂ (λ a b. a || b) (same_left s t (meaning items x) popped.assumed popped.blamed) (any_same xs)

    pub popped_open : (n : MarkKey) → IsTracked items s w n → IsTracked items u w n
    popped_open n (inl here) = steps_open items t u w step n (inl (standing_at n ∙ here))
    popped_open n (inr (inl fell)) =
        elim (either_is _ _ (sym (fallen_at n) ∙ fell)) [
          | inl before ↦ steps_open items t u w step n (inr (inl before))
          | inr here ↦ inr
              (inr (ap (λ k. any_left (left u) items (conclusions w k)) (same_name n (key_of m) (itself (is_at (key_cmp n) (key_of m)) here))
              ∙ followed))
        ]
      where
        itself : (a : Bool) → (a || false) ≡ true → a ≡ true
        itself true e = refl
        itself false e = e
    popped_open n (inr (inr done)) = steps_open items t u w step n (inr (inr (any_same (conclusions w n) ∙ done)))

    pub popped_room : 2 * btree_set_len u.assumed + length u.worklist.items < 2 * btree_set_len s.assumed + length s.worklist.items
    popped_room = omega (arith, step.room, ap btree_set_len popped.assumed, ap length popped.worklist, length-append t.worklist.items (m ∷ []))

-- where nothing is left to follow
pub none_to_follow : (items : List Reason) (s : Propagation) (w : BTreeMap MarkKey (Vec Conclusion Global) Global) (n : MarkKey) → s.worklist.items ≡ []
    → IsTracked items s w n → (contains key_cmp s.assumed n ≡ true) ⊎ (any_left (left s) items (conclusions w n) ≡ false)
none_to_follow items s w n e (inl here) = inl here
none_to_follow items s w n e (inr (inl fell)) = absurd (true_false (sym fell ∙ ap (λ ms. is_queued ms n) e))
none_to_follow items s w n e (inr (inr followed)) = inr followed
