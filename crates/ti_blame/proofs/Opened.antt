-- Registering constraints with their premises keeps the invariants of the worklist algorithm.
use Rattle.std.proofs.Common.{◌≡◌, ℕ, ◌+◌, ◌<◌, ◌⊎◌, inl, inr, Bool, true, false, cond, not, ◌&&◌, ◌||◌, List, [], ◌∷◌, ◌++◌, take, length, get_or, Option, Some, None, refl, ap, ap₂, sym, subst, ◌∙◌}
use Rattle.std.specs.List.{list_any}
use Rattle.std.specs.Option.{option_map_or}
use Rattle.std.specs.BTreeMap.{is_at, get}
use Rattle.std.specs.BTreeSet.{contains}
use Rattle.std.specs.declared.collections.BTreeMap.{BTreeMap}
use Rattle.std.specs.declared.vec.Vec.{Vec}
use Rattle.std.specs.declared.alloc.Global.{Global}
use Rattle.std.proofs.lemmas.List.Folds.{list_any-append}
use Rattle.ti_blame.specs.declared.reason.Reason.{Reason}
use Rattle.ti_base.specs.declared.place.Place.{Place}
use Rattle.ti_blame.specs.declared.mark.MarkKind.{MarkKind}
use Rattle.ti_blame.specs.declared.mark.MarkKind.TheVariants as kind
use Rattle.ti_blame.specs.declared.mark.Mark.{Mark}
use Rattle.ti_blame.specs.declared.mark.MarkKey.{MarkKey}
use Rattle.ti_blame.specs.declared.implication.Conclusion.{Conclusion}
use Rattle.ti_blame.specs.declared.implication.Implication.{Implication}
use Rattle.ti_blame.specs.declared.propagation.Propagation.{Propagation}
use Rattle.ti_blame.specs.Keys.{key_of, mark_at, reason_at, reason_of, key_cmp}
use Rattle.ti_blame.specs.Implications.{meaning, is_triggered, is_violated}
use Rattle.ti_blame.specs.Mirrors.Propagation.{left, has, is_queued, IsUpperBound, PropagatesTo, conclusions, any_left, IsAdded, IsTracked, IsFair}
use Rattle.ti_blame.proofs.Order.{same_name, same_mark, flip_name, name_itself}
use Rattle.ti_blame.proofs.Stepping.{true_false, both_false, gone, grows_first, grows_second, stays_fallen, steps_itself}

-- ---- something waits for a name

-- taken out, and put back with one more
pub waits_more : (u v w : BTreeMap MarkKey (Vec Conclusion Global) Global) (n : MarkKey) (old new : Vec Conclusion Global) (what : Conclusion)
    → old.items ≡ conclusions u n → ((q : MarkKey) → get key_cmp v q ≡ cond (is_at (key_cmp n) q) None (get key_cmp u q))
    → new.items ≡ old.items ++ what ∷ [] → ((q : MarkKey) → get key_cmp w q ≡ cond (is_at (key_cmp n) q) (Some new) (get key_cmp v q))
    → (q : MarkKey) → conclusions w q ≡ cond (is_at (key_cmp n) q) (conclusions u q ++ what ∷ []) (conclusions u q)
waits_more u v w n old new what items rest more put q = by (is_at (key_cmp n) q) refl
  where
    by : (b : Bool) → is_at (key_cmp n) q ≡ b → conclusions w q ≡ cond b (conclusions u q ++ what ∷ []) (conclusions u q)
    by true e =
        ap (λ o. option_map_or (λ (z : Vec Conclusion Global). z.items) o []) (put q ∙ ap (λ b. cond b (Some new) (get key_cmp v q)) e)
        ∙ more ∙ ap (λ xs. xs ++ what ∷ []) (items ∙ ap (conclusions u) (same_name n q e))
    by false e =
        ap (λ o. option_map_or (λ (z : Vec Conclusion Global). z.items) o []) (put q ∙ ap (λ b. cond b (Some new) (get key_cmp v q)) e ∙ rest q ∙ ap (λ b. cond b None (get key_cmp u q)) e)

-- ---- one edge that waits

module _ (items : List Reason) (s : Propagation) (u w : BTreeMap MarkKey (Vec Conclusion Global) Global) (m : Mark) (e : Implication) (from : e.from ≡ Some m) (stands : has s m ≡ true)
    (put : (q : MarkKey) → conclusions w q ≡ cond (is_at (key_cmp (key_of m)) q) (conclusions u q ++ e.then ∷ []) (conclusions u q)) where
  pub put_kept : IsAdded items s w e
  put_kept = inr (
    m,
    from,
    λ test h. ap (list_any test) (put (key_of m)
        ∙ ap (λ b. cond b (conclusions u (key_of m) ++ e.then ∷ []) (conclusions u (key_of m))) (name_itself (key_of m)))
        ∙ list_any-append test (conclusions u (key_of m)) (e.then ∷ []) ∙ grows_second _ _ (grows_first _ _ h),
  )

  pub put_wider : (n : MarkKey) (test : Conclusion → Bool) → list_any test (conclusions u n) ≡ true → list_any test (conclusions w n) ≡ true
  put_wider n test h = ap (list_any test) (put n) ∙ by (is_at (key_cmp (key_of m)) n)
    where
      by : (b : Bool) → list_any test (cond b (conclusions u n ++ e.then ∷ []) (conclusions u n)) ≡ true
      by true = list_any-append test (conclusions u n) (e.then ∷ []) ∙ grows_first _ _ h
      by false = h

  pub put_open : (n : MarkKey) → IsTracked items s u n → IsTracked items s w n
  put_open n opened = by (is_at (key_cmp (key_of m)) n) refl opened
    where
      by : (b : Bool) → is_at (key_cmp (key_of m)) n ≡ b → IsTracked items s u n → IsTracked items s w n
      by true k o = inl (ap (contains key_cmp s.assumed) (sym (same_name (key_of m) n k)) ∙ stands)
      by false k (inl here) = inl here
      by false k (inr (inl fell)) = inr (inl fell)
      by false k (inr (inr followed)) = inr (inr (ap (any_left (left s) items) (put n ∙ ap (λ b. cond b (conclusions u n ++ e.then ∷ []) (conclusions u n)) k) ∙ followed))

  pub put_fair : (held : Reason → Bool) → is_violated held items e ≡ false → IsFair items held u → IsFair items held w
  put_fair held keeps fair q h = ap (any_left held items) (put (key_of q)) ∙ by (is_at (key_cmp (key_of m)) (key_of q)) refl
    where
      started : is_triggered held e.from ≡ true → list_any held (meaning items e.then) ≡ false
      started k = sym (ap (λ b. b && list_any held (meaning items e.then)) k) ∙ keeps

      by : (b : Bool) → is_at (key_cmp (key_of m)) (key_of q) ≡ b → any_left held items (cond b (conclusions u (key_of q) ++ e.then ∷ []) (conclusions u (key_of q))) ≡ false
      by true k =
          list_any-append (λ t. list_any held (meaning items t)) (conclusions u (key_of q)) (e.then ∷ [])
          ∙ ap₂ (λ a b. a || b) (fair q h) (ap (λ b. b || false) (started (ap (is_triggered held) from ∙ ap not (ap (λ z. held (reason_of z)) (same_mark m q k) ∙ h))))
      by false k = fair q h

-- ---- one edge that is followed

pub still_fallen : (items : List Reason) (s t : Propagation) → PropagatesTo s t → (ts : List Conclusion) → any_left (left s) items ts ≡ false → any_left (left t) items ts ≡ false
still_fallen items s t f [] h = refl
still_fallen items s t f (x ∷ xs) h = let k = both_false _ _ h in ap₂ (λ a b. a || b) (stays_fallen s t (meaning items x) f k.0) (still_fallen items s t f xs k.1)

pub steps_open : (items : List Reason) (s t : Propagation) (w : BTreeMap MarkKey (Vec Conclusion Global) Global) → PropagatesTo s t → (n : MarkKey) → IsTracked items s w n → IsTracked items t w n
steps_open items s t w f n (inl here) = elim (f.noted n here) [ inl stays ↦ inl stays | inr fell ↦ inr (inl fell) ]
steps_open items s t w f n (inr (inl fell)) = inr (inl (f.kept n fell))
steps_open items s t w f n (inr (inr followed)) = inr (inr (still_fallen items s t f (conclusions w n) followed))

pub steps_kept : (items : List Reason) (s t : Propagation) (u w : BTreeMap MarkKey (Vec Conclusion Global) Global) (e : Implication) → PropagatesTo s t
    → ((n : MarkKey) (test : Conclusion → Bool) → list_any test (conclusions u n) ≡ true → list_any test (conclusions w n) ≡ true) → IsAdded items s u e
    → IsAdded items t w e
steps_kept items s t u w e f wider (inl fell) = inl (stays_fallen s t (meaning items e.then) f fell)
steps_kept items s t u w e f wider (inr waits) = inr (waits.0, waits.1, λ test h. wider (key_of waits.0) test (waits.2 test h))

-- an edge that starts under what is held isn't broken where nothing that it means is held
pub not_broken : (held : Reason → Bool) (items : List Reason) (e : Implication) → is_triggered held e.from ≡ true → is_violated held items e ≡ false → list_any held (meaning items e.then) ≡ false
not_broken held items e k keeps = sym (ap (λ b. b && list_any held (meaning items e.then)) k) ∙ keeps

-- where nothing is left to follow, an edge that has been followed or waits isn't broken
pub all_followed : (items : List Reason) (s : Propagation) (w : BTreeMap MarkKey (Vec Conclusion Global) Global)
    → ((n : MarkKey) → (contains key_cmp s.assumed n ≡ true) ⊎ (any_left (left s) items (conclusions w n) ≡ false)) → (e : Implication)
    → IsAdded items s w e → is_violated (left s) items e ≡ false
all_followed items s w opened e (inl fell) = ap (λ b. is_triggered (left s) e.from && b) fell ∙ and_false (is_triggered (left s) e.from)
  where
    and_false : (b : Bool) → (b && false) ≡ false
    and_false true = refl
    and_false false = refl
all_followed items s w opened e (inr waits) = elim (opened (key_of waits.0)) [
  | inl stands ↦ ap (λ b. b && list_any (left s) (meaning items e.then)) (ap (is_triggered (left s)) waits.1
      ∙ ap not (left_of s waits.0 ∙ stands))
  | inr followed ↦ by (list_any (left s) (meaning items e.then))
      (waits.2 (λ t. list_any (left s) (meaning items t))) followed
]
  where
    left_of : (s : Propagation) (m : Mark) → left s (reason_of m) ≡ has s m
    left_of s m = at m.place m.kind
      where
        at : (p : Place) (k : MarkKind) → left s (reason_at p k) ≡ has s (record { place = p; kind = k })
        at p kind.Method = refl
        at p kind.Result = refl
        at p kind.Variable = refl

    by : (b : Bool) → (b ≡ true → any_left (left s) items (conclusions w (key_of waits.0)) ≡ true) → any_left (left s) items (conclusions w (key_of waits.0)) ≡ false → (is_triggered (left s) e.from && b) ≡ false
    by true f k = absurd (true_false (sym (f refl) ∙ k))
    by false f k = and_false (is_triggered (left s) e.from)
      where
        and_false : (b : Bool) → (b && false) ≡ false
        and_false true = refl
        and_false false = refl
