-- Ruling out one reason, or one after the other, leads to a later state.
use Rattle.std.proofs.Common.{◌≡◌, ℕ, ◌+◌, ◌-◌, ◌≤◌, ◌<◌, ◌⊎◌, inl, inr, Bool, true, false, cond, ◌||◌, List, [], ◌∷◌, ◌++◌, take, drop, take-append-drop, take-take, length, get_or, Option, IfSome, refl, ap, ap₂, sym, subst, ◌∙◌, arith, length-append}
use Rattle.std.proofs.lemmas.List.{take_more}
use Rattle.std.specs.BTreeMap.{is_at}
use Rattle.std.specs.BTreeSet.{contains, btree_set_len}
use Rattle.std.specs.List.{list_any}
use Rattle.std.proofs.lemmas.List.Folds.{list_any-append, list_any_at}
use Rattle.ti_base.specs.declared.place.Place.{Place}
use Rattle.ti_blame.specs.declared.reason.Reason.{Reason}
use Rattle.ti_blame.specs.declared.reason.Reason.TheVariants.{OfMethod, OfResult, OfVariable, OfCollective, Always}
use Rattle.ti_blame.specs.declared.mark.Mark.{Mark}
use Rattle.ti_blame.specs.declared.mark.MarkKey.{MarkKey}
use Rattle.ti_blame.specs.declared.propagation.Propagation.{Propagation}
use Rattle.ti_blame.specs.declared.mark.MarkKind.TheVariants as kind
use Rattle.ti_blame.specs.Keys.{key_of, reason_of, key_cmp}
use Rattle.ti_blame.specs.Implications.{before}
use Rattle.ti_blame.specs.Mirrors.Propagation.{left, has, is_queued, IsUpperBound, Apart, PropagatesTo, AreDone, MoreDone}
use Rattle.ti_blame.proofs.Order.{same_mark, flip_name}

pub steps_itself : (s : Propagation) → PropagatesTo s s
steps_itself s = record { stays = λ b h. h; fewer = λ n h. h; kept = λ n h. h; noted = λ n h. inl h; apart = λ h. h; room = omega arith }

pub steps_trans : (s t u : Propagation) → PropagatesTo s t → PropagatesTo t u → PropagatesTo s u
steps_trans s t u f g = record {
  stays = λ b h. f.stays b (g.stays b h);
  fewer = λ n h. f.fewer n (g.fewer n h);
  kept = λ n h. g.kept n (f.kept n h);
  noted = λ n h. elim (f.noted n h) [ inl stays ↦ g.noted n stays | inr fell ↦ inr (g.kept n fell) ];
  apart = λ h. g.apart (f.apart h);
  room = omega (arith, f.room, g.room);
}

pub true_false : true ≡ false → ⊥
true_false e = cc

pub both_false : (a b : Bool) → (a || b) ≡ false → (a ≡ false) × (b ≡ false)
both_false true b h = absurd (true_false h)
both_false false b h = (refl, h)

pub gone : (a b : Bool) → (b ≡ true → a ≡ true) → a ≡ false → b ≡ false
gone a true g h = absurd (true_false (sym (g refl) ∙ h))
gone a false g h = refl

-- what has fallen doesn't stand later on
pub stays_fallen : (s t : Propagation) (xs : List Reason) → PropagatesTo s t → list_any (left s) xs ≡ false → list_any (left t) xs ≡ false
stays_fallen s t [] f h = refl
stays_fallen s t (x ∷ xs) f h = let k = both_false _ _ h in ap₂ (λ a b. a || b) (gone _ _ (f.stays x) k.0) (stays_fallen s t xs f k.1)

-- ---- one name

pub grows_first : (a b : Bool) → a ≡ true → (a || b) ≡ true
grows_first a b h = ap (λ z. z || b) h

pub grows_second : (a b : Bool) → b ≡ true → (a || b) ≡ true
grows_second true b h = refl
grows_second false b h = h

pub either_is : (a b : Bool) → (a || b) ≡ true → (a ≡ true) ⊎ (b ≡ true)
either_is true b h = inl refl
either_is false b h = inr h

-- the second state is the first with one mark taken away and noted
pub record TakesAway (m : Mark) (s t : Propagation) : Type 0 where
  pub had : (q : MarkKey) → contains key_cmp t.assumed q ≡ cond (is_at (key_cmp (key_of m)) q) false (contains key_cmp s.assumed q)
  pub noted : t.worklist.items ≡ s.worklist.items ++ m ∷ []
  pub less : btree_set_len t.assumed + 1 ≡ btree_set_len s.assumed
  pub same : t.blamed ≡ s.blamed

module _ (m : Mark) (s t : Propagation) (away : TakesAway m s t) where
  had_it : (q : MarkKey) → contains key_cmp t.assumed q ≡ true → contains key_cmp s.assumed q ≡ true
  had_it q h = by (is_at (key_cmp (key_of m)) q) (sym (away.had q) ∙ h)
    where
      by : (b : Bool) → cond b false (contains key_cmp s.assumed q) ≡ true → contains key_cmp s.assumed q ≡ true
      by true e = absurd (true_false (sym e))
      by false e = e

  away_stays : (b : Reason) → left t b ≡ true → left s b ≡ true
  away_stays (OfMethod at) h = had_it (key_of (record { place = at; kind = kind.Method })) h
  away_stays (OfResult at) h = had_it (key_of (record { place = at; kind = kind.Result })) h
  away_stays (OfVariable at) h = had_it (key_of (record { place = at; kind = kind.Variable })) h
  away_stays (OfCollective at) h = subst (λ (o : Option Place). before o at ≡ true) away.same h
  away_stays Always h = h

  noted_at : (q : MarkKey) → is_queued t.worklist.items q ≡ (is_queued s.worklist.items q || (is_at (key_cmp q) (key_of m) || false))
  noted_at q = ap (λ ns. is_queued ns q) away.noted ∙ list_any-append (λ (k : Mark). is_at (key_cmp q) (key_of k)) s.worklist.items (m ∷ [])

  away_noted : (q : MarkKey) → contains key_cmp s.assumed q ≡ true → (contains key_cmp t.assumed q ≡ true) ⊎ (is_queued t.worklist.items q ≡ true)
  away_noted q h = by (is_at (key_cmp (key_of m)) q) refl
    where
      by : (b : Bool) → is_at (key_cmp (key_of m)) q ≡ b → (contains key_cmp t.assumed q ≡ true) ⊎ (is_queued t.worklist.items q ≡ true)
      by true e = inr (noted_at q ∙ grows_second _ _ (grows_first _ _ (flip_name q (key_of m) ∙ e)))
      by false e = inl (away.had q ∙ ap (λ b. cond b false (contains key_cmp s.assumed q)) e ∙ h)

  itself : (b : Bool) → (b || false) ≡ true → b ≡ true
  itself true k = refl
  itself false k = k

  away_apart : Apart s → Apart t
  away_apart apart q h = away.had q ∙ by (is_at (key_cmp (key_of m)) q) refl
    where
      by : (b : Bool) → is_at (key_cmp (key_of m)) q ≡ b → cond b false (contains key_cmp s.assumed q) ≡ false
      by true e = refl
      by false e =
          elim (either_is _ _ (sym (noted_at q) ∙ h)) [ inl fell ↦ apart q fell | inr new ↦ absurd (true_false (sym (itself (is_at (key_cmp q) (key_of m)) new) ∙ (flip_name q (key_of m) ∙ e))) ]

  pub steps_away : PropagatesTo s t
  steps_away = record {
    stays = away_stays;
    fewer = had_it;
    kept = λ q h. noted_at q ∙ grows_first _ _ h;
    noted = away_noted;
    apart = away_apart;
    room = omega (arith, away.less, ap length away.noted, length-append s.worklist.items (m ∷ []));
  }

  pub covers_away : (held : Reason → Bool) → held (reason_of m) ≡ false → IsUpperBound held s → IsUpperBound held t
  covers_away held h covers = record {
    names = λ q k. away.had (key_of q) ∙ by q k (is_at (key_cmp (key_of m)) (key_of q)) refl;
    collective = subst (λ (o : Option Place). IfSome o (λ l. held (OfCollective l) ≡ false)) (sym away.same) covers.collective;
  }
    where
      by : (q : Mark) → held (reason_of q) ≡ true → (b : Bool) → is_at (key_cmp (key_of m)) (key_of q) ≡ b → cond b false (contains key_cmp s.assumed (key_of q)) ≡ true
      by q k true e = absurd (true_false (sym (ap (λ z. held (reason_of z)) (same_mark m q e) ∙ k) ∙ h))
      by q k false e = covers.names q k

-- ---- several

module _ {A : Type 0} (test : A → Bool) where
  -- the first ones and one more
  pub one_more : (xs : List A) (i : ℕ) (d : A) → i < length xs → list_any test (take i xs) ≡ false → test (get_or xs i d) ≡ false → list_any test (take (i + 1) xs) ≡ false
  one_more xs i d lt h k = ap (list_any test) (take_more xs i d lt) ∙ list_any-append test (take i xs) (get_or xs i d ∷ []) ∙ ap₂ (λ a b. a || b) h (ap (λ b. b || false) k)

  -- one of those of which none passes a test
  pub none_at : (xs : List A) (i : ℕ) (d : A) → i < length xs → list_any test xs ≡ false → test (get_or xs i d) ≡ false
  none_at xs i d lt h = gone _ _ (list_any_at test xs i d lt) h

  -- the first ones of those
  pub none_before : (xs : List A) (i : ℕ) → list_any test xs ≡ false → list_any test (take i xs) ≡ false
  none_before xs i h = (both_false (list_any test (take i xs)) (list_any test (drop i xs)) (sym (list_any-append test (take i xs) (drop i xs)) ∙ ap (list_any test) (take-append-drop i xs) ∙ h)).0

  pub none_sooner : (xs : List A) (i k : ℕ) → i ≤ k → list_any test (take k xs) ≡ false → list_any test (take i xs) ≡ false
  none_sooner xs i k le h = ap (list_any test) (sym (take-take i k xs le)) ∙ none_before (take k xs) i h

-- ---- parts of the list that have fallen

pub done_stays : (items : List Reason) (s t : Propagation) → PropagatesTo s t → t.done ≡ s.done → AreDone items s → AreDone items t
done_stays items s t f e h =
    let P : List ℕ → Type 0 = λ ds. (i : ℕ) → i < length ds → list_any (left t) (take (get_or ds i 0 - i) (drop i items)) ≡ false in
    subst P (ap (λ v. v.items) (sym e)) (λ i lt. stays_fallen s t (take (get_or s.done.items i 0 - i) (drop i items)) f (h i lt))

-- what is said to have fallen has no part in what stands
pub same_left : (s t : Propagation) (xs : List Reason) → t.assumed ≡ s.assumed → t.blamed ≡ s.blamed → list_any (left t) xs ≡ list_any (left s) xs
same_left s t [] e f = refl
same_left s t (x ∷ xs) e f = ap₂ (λ a b. a || b) (one x) (same_left s t xs e f)
  where
    one : (b : Reason) → left t b ≡ left s b
    one (OfMethod at) = ap (λ st. contains key_cmp st (key_of (record { place = at; kind = kind.Method }))) e
    one (OfResult at) = ap (λ st. contains key_cmp st (key_of (record { place = at; kind = kind.Result }))) e
    one (OfVariable at) = ap (λ st. contains key_cmp st (key_of (record { place = at; kind = kind.Variable }))) e
    one (OfCollective at) = ap (λ o. before o at) f
    one Always = refl

pub done_more : (items : List Reason) (from to : ℕ) (s t u : Propagation) → AreDone items s → PropagatesTo s t → t.done ≡ s.done → u.assumed ≡ t.assumed → u.blamed ≡ t.blamed
    → MoreDone from to t.done.items u.done.items → list_any (left t) (take (to - from) (drop from items)) ≡ false → AreDone items u
done_more items from to s t u h f e assumed blamed more gone_there i lt =
    same_left t u (take (get_or u.done.items i 0 - i) (drop i items)) assumed blamed
    ∙ elim (more.1 i) [
      | inl there ↦ ap₂ (λ n k. list_any (left t) (take (k - n) (drop n items))) there.0 there.1
          ∙ gone_there
      | inr same ↦ ap (λ k. list_any (left t) (take (k - i) (drop i items))) same
          ∙ done_stays items s t f e h i (rw (sym more.0) lt)
    ]

pub was_done : (items : List Reason) (from to : ℕ) (s : Propagation) → AreDone items s → from < length s.done.items
    → to ≤ get_or s.done.items from 0 → list_any (left s) (take (to - from) (drop from items)) ≡ false
was_done items from to s h lt le = none_sooner (left s) (drop from items) (to - from) (get_or s.done.items from 0 - from) (omega arith) (h from lt)
