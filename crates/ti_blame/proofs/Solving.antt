-- Once the worklist is empty, the state is the solution of the constraints.
use Rattle.std.proofs.Common.{◌≡◌, ℕ, ◌+◌, ◌-◌, ◌<◌, ◌⊎◌, inl, inr, Bool, true, false, cond, not, ◌&&◌, ◌||◌, List, [], ◌∷◌, ◌++◌, map, take, drop, length, get_or, Option, Some, None, IfSome, refl, ap, ap₂, sym, subst, ◌∙◌, arith, ◌==◌}
use Rattle.std.proofs.lemmas.Bool.{eq-eqb, eqb-true}
use Rattle.std.proofs.Math.Nat.{zero-sub}
use Rattle.std.specs.List.{list_any}
use Rattle.std.specs.List.Sorted.{IsStrictlySortedBy}
use Rattle.std.specs.BTreeMap.{is_at, get, IsEmpty}
use Rattle.std.specs.BTreeSet.{contains}
use Rattle.std.specs.declared.collections.BTreeMap.{BTreeMap}
use Rattle.std.specs.declared.vec.Vec.{Vec}
use Rattle.std.specs.declared.alloc.Global.{Global}
use Rattle.std.proofs.lemmas.List.{take_more}
use Rattle.std.proofs.lemmas.List.Folds.{list_any-append}
use Rattle.ti_base.specs.declared.place.Place.{Place}
use Rattle.ti_base.specs.Places.{same_place}
use Rattle.ti_blame.specs.declared.reason.Reason.{Reason}
use Rattle.ti_blame.specs.declared.reason.Reason.TheVariants.{OfMethod, OfResult, OfVariable, OfCollective, Always}
use Rattle.ti_blame.specs.declared.mark.MarkKind.{MarkKind}
use Rattle.ti_blame.specs.declared.mark.MarkKind.TheVariants as kind
use Rattle.ti_blame.specs.declared.mark.Mark.{Mark}
use Rattle.ti_blame.specs.declared.mark.MarkKey.{MarkKey}
use Rattle.ti_blame.specs.declared.implication.Conclusion.{Conclusion}
use Rattle.ti_blame.specs.declared.implication.Implication.{Implication}
use Rattle.ti_blame.specs.declared.propagation.Propagation.{Propagation}
use Rattle.ti_blame.specs.Keys.{key_of, mark_at, reason_at, reason_of, key_cmp}
use Rattle.ti_blame.specs.Marks.{Marks, IsSubset, same_mark_kind, matches_mark, marks_of}
use Rattle.ti_blame.specs.Implications.{holds_conditionally, meaning, is_triggered, is_violated, Satisfies, before}
use Rattle.ti_blame.specs.Solutions.{IsSolution}
use Rattle.ti_blame.specs.Mirrors.Propagation.{left, has, is_queued, IsUpperBound, Apart, PropagatesTo, AreDone, conclusions, any_left, IsAdded, IsTracked, IsFair}
use Rattle.ti_blame.specs.Mirrors.Starts.{has_key, IsStart}
use Rattle.ti_blame.proofs.Order.{same_name, same_mark, flip_name, name_itself, mark_itself}
use Rattle.ti_blame.proofs.Stepping.{true_false, both_false, gone, grows_first, grows_second, either_is}
use Rattle.ti_blame.proofs.Opened.{all_followed}

-- ---- truth values

alike : (a b : Bool) → (a ≡ true → b ≡ true) → (b ≡ true → a ≡ true) → a ≡ b
alike true b f g = sym (f refl)
alike false true f g = absurd (true_false (sym (g refl)))
alike false false f g = refl

both_true : (a b : Bool) → (a && b) ≡ true → (a ≡ true) × (b ≡ true)
both_true true b h = (refl, h)
both_true false b h = absurd (true_false (sym h))

or_end : (a : Bool) → (a || false) ≡ a
or_end true = refl
or_end false = refl

-- ---- one more name

cond_or : (c a : Bool) → cond c true a ≡ (a || c)
cond_or true true = refl
cond_or true false = refl
cond_or false a = sym (or_end a)

pub name_more : (names : List Mark) (i : ℕ) (d : Mark) (k n : MarkKey) (old new : Bool) → i < length names → k ≡ key_of (get_or names i d)
    → old ≡ has_key (take i names) n → new ≡ cond (is_at (key_cmp k) n) true old → new ≡ has_key (take (i + 1) names) n
name_more names i d k n old new lt here is more =
    more ∙ cond_or (is_at (key_cmp k) n) old ∙ ap₂ (λ a b. a || b) is (flip_name k n ∙ ap (is_at (key_cmp n)) here ∙ sym (or_end _))
    ∙ sym (ap (λ ms. has_key ms n) (take_more names i d lt) ∙ list_any-append (λ (x : Mark). is_at (key_cmp n) (key_of x)) (take i names) (get_or names i d ∷ []))

-- ---- marks and names

pub same_places : (p q : Place) → same_place p q ≡ true → p ≡ q
same_places p q h = let e = both_true (p.line == q.line) (p.col == q.col) h in let l : p.line ≡ q.line = eqb-true p.line q.line e.0 in
    let k : p.col ≡ q.col = eqb-true p.col q.col e.1 in λ j. record { line = l j; col = k j }

pub place_itself : (p : Place) → same_place p p ≡ true
place_itself p = ap₂ (λ a b. a && b) (eq-eqb p.line p.line refl) (eq-eqb p.col p.col refl)

kind_itself : (k : MarkKind) → same_mark_kind k k ≡ true
kind_itself kind.Method = refl
kind_itself kind.Result = refl
kind_itself kind.Variable = refl

same_kinds : (k l : MarkKind) → same_mark_kind k l ≡ true → k ≡ l
same_kinds kind.Method kind.Method h = refl
same_kinds kind.Method kind.Result h = absurd (true_false (sym h))
same_kinds kind.Method kind.Variable h = absurd (true_false (sym h))
same_kinds kind.Result kind.Method h = absurd (true_false (sym h))
same_kinds kind.Result kind.Result h = refl
same_kinds kind.Result kind.Variable h = absurd (true_false (sym h))
same_kinds kind.Variable kind.Method h = absurd (true_false (sym h))
same_kinds kind.Variable kind.Result h = absurd (true_false (sym h))
same_kinds kind.Variable kind.Variable h = refl

mark_is : (m n : Mark) → matches_mark m.kind m.place n ≡ true → m ≡ n
mark_is m n h =
    let e = both_true (same_mark_kind m.kind n.kind) (same_place m.place n.place) h in
    ap (λ (p : Place). record m { place = p }) (same_places m.place n.place e.1) ∙ ap (λ (k : MarkKind). record n { kind = k }) (same_kinds m.kind n.kind e.0)

is_mark_itself : (m : Mark) → matches_mark m.kind m.place m ≡ true
is_mark_itself m = ap₂ (λ a b. a && b) (kind_itself m.kind) (place_itself m.place)

-- a mark of a list is asked for by its name
mark_by_name : (m n : Mark) → is_at (key_cmp (key_of m)) (key_of n) ≡ matches_mark m.kind m.place n
mark_by_name m n = alike _ _ (λ h. ap (matches_mark m.kind m.place) (sym (same_mark m n h)) ∙ is_mark_itself m)
    (λ h. ap (λ k. is_at (key_cmp (key_of m)) (key_of k)) (sym (mark_is m n h)) ∙ name_itself (key_of m))

pub named_is : (names : List Mark) (m : Mark) → has_key names (key_of m) ≡ list_any (matches_mark m.kind m.place) names
named_is [] m = refl
named_is (x ∷ xs) m = ap₂ (λ a b. a || b) (mark_by_name m x) (named_is xs m)

-- a name that is that of a mark
abbrev IsProper : MarkKey → Type 0
IsProper n = key_of (mark_at n) ≡ n

abbrev AreProper : List MarkKey → Type 0
AreProper [] = Unit {0}
AreProper (n ∷ ns) = IsProper n × AreProper ns

proper_named : (names : List Mark) (n : MarkKey) → has_key names n ≡ true → IsProper n
proper_named [] n h = absurd (true_false (sym h))
proper_named (x ∷ xs) n h = elim (either_is _ _ h) [
  | inl here ↦ ap (λ k. key_of (mark_at k)) (same_name n (key_of x) here)
      ∙ ap key_of (mark_itself x) ∙ sym (same_name n (key_of x) here)
  | inr there ↦ proper_named xs n there
]

proper_all : (ks : List MarkKey) → ((n : MarkKey) → list_any (is_at (key_cmp n)) ks ≡ true → IsProper n) → AreProper ks
proper_all [] f = tt
proper_all (k ∷ ks) f = (f k (grows_first _ _ (name_itself k)), proper_all ks (λ n h. f n (grows_second _ _ h)))

keys_are : (ks : List MarkKey) (m : Mark) → AreProper ks → list_any (is_at (key_cmp (key_of m))) ks ≡ list_any (matches_mark m.kind m.place) (map mark_at ks)
keys_are [] m h = refl
keys_are (k ∷ ks) m h = ap₂ (λ a b. a || b) (ap (is_at (key_cmp (key_of m))) (sym h.0) ∙ mark_by_name m (mark_at k)) (keys_are ks m h.1)

names_back : (ks : List MarkKey) → AreProper ks → map key_of (map mark_at ks) ≡ ks
names_back [] h = refl
names_back (k ∷ ks) h = ap₂ (λ a b. a ∷ b) h.0 (names_back ks h.1)

-- ---- where nothing has fallen yet

pub start_done : (names : List Mark) (items : List Reason) (s : Propagation) → IsStart names s → AreDone items s
start_done names items s start i lt = ap (λ n. list_any (left s) (take (n - i) (drop i items))) (start.done i) ∙ ap (λ n. list_any (left s) (take n (drop i items))) (zero-sub i)

pub start_apart : (names : List Mark) (s : Propagation) → IsStart names s → Apart s
start_apart names s start n h = absurd (true_false (sym h ∙ ap (λ ms. is_queued ms n) start.worklist))

pub start_open : (items : List Reason) (s : Propagation) (w : BTreeMap MarkKey (Vec Conclusion Global) Global) → ((n : MarkKey) → conclusions w n ≡ []) → (n : MarkKey) → IsTracked items s w n
start_open items s w none n = inr (inr (ap (any_left (left s) items) (none n)))

start_fair : (items : List Reason) (w : BTreeMap MarkKey (Vec Conclusion Global) Global) → ((n : MarkKey) → conclusions w n ≡ []) → (held : Reason → Bool) → IsFair items held w
start_fair items w none held m h = ap (any_left held items) (none (key_of m))

held_mark : (counts : Place → Bool) (a : Marks) (names : List Mark) → IsSubset a (marks_of names) → (p : Place) (k : MarkKind)
    → holds_conditionally counts a (reason_at p k) ≡ true → list_any (matches_mark k p) names ≡ true
held_mark counts a names part p kind.Method h = part.methods p h
held_mark counts a names part p kind.Result h = part.results p h
held_mark counts a names part p kind.Variable h = part.variables p h

start_covers : (names : List Mark) (s : Propagation) → IsStart names s → (counts : Place → Bool) (a : Marks) → IsSubset a (marks_of names) → IsUpperBound (holds_conditionally counts a) s
start_covers names s start counts a part = record {
  names = λ m h. start.assumed (key_of m) ∙ named_is names m ∙ held_mark counts a names part m.place m.kind h;
  collective = subst (λ (o : Option Place). IfSome o (λ l. holds_conditionally counts a (OfCollective l) ≡ false)) (sym start.blamed) tt;
}

-- ---- the end

kept_later : (items : List Reason) (s t : Propagation) (w : BTreeMap MarkKey (Vec Conclusion Global) Global) (e : Implication) → ((b : Reason) → left t b ≡ true → left s b ≡ true) → IsAdded items s w e → IsAdded items t w e
kept_later items s t w e stays (inl fell) = inl (none (meaning items e.then) fell)
  where
    none : (xs : List Reason) → list_any (left s) xs ≡ false → list_any (left t) xs ≡ false
    none [] h = refl
    none (x ∷ xs) h = let k = both_false _ _ h in ap₂ (λ a b. a || b) (gone _ _ (stays x) k.0) (none xs k.1)
kept_later items s t w e stays (inr waits) = inr waits

-- the same is held
same_any : (f g : Reason → Bool) → ((b : Reason) → f b ≡ g b) → (xs : List Reason) → list_any f xs ≡ list_any g xs
same_any f g h [] = refl
same_any f g h (x ∷ xs) = ap₂ (λ a b. a || b) (h x) (same_any f g h xs)

same_edges : (f g : Reason → Bool) → ((b : Reason) → f b ≡ g b) → (items : List Reason) (es : List Implication) → list_any (is_violated f items) es ≡ list_any (is_violated g items) es
same_edges f g h items [] = refl
same_edges f g h items (e ∷ es) = ap₂ (λ a b. a || b) (ap₂ (λ a b. a && b) (from e.from) (same_any f g h (meaning items e.then))) (same_edges f g h items es)
  where
    from : (o : Option Mark) → is_triggered f o ≡ is_triggered g o
    from None = refl
    from (Some m) = ap not (h (reason_of m))

module _ (names : List Mark) (items : List Reason) (edges : List Implication) (s t u : Propagation) (v w : BTreeMap MarkKey (Vec Conclusion Global) Global)
    (start : IsStart names s) (none : (n : MarkKey) → conclusions v n ≡ []) (step : PropagatesTo s t)
    (kept : (test : Implication → Bool) → ((e : Implication) → IsAdded items t w e → test e ≡ false) → list_any test edges ≡ false)
    (fair : (held : Reason → Bool) → Satisfies held items edges → IsFair items held v → IsFair items held w)
    (covered : (held : Reason → Bool) → Satisfies held items edges → IsUpperBound held s → IsUpperBound held t)
    (followed : (n : MarkKey) → (contains key_cmp u.assumed n ≡ true) ⊎ (any_left (left u) items (conclusions w n) ≡ false))
    (stays : (b : Reason) → left u b ≡ true → left t b ≡ true) (fewer : (n : MarkKey) → contains key_cmp u.assumed n ≡ true → contains key_cmp t.assumed n ≡ true)
    (covers : (held : Reason → Bool) → IsFair items held w → IsUpperBound held t → IsUpperBound held u)
    (sorted : IsStrictlySortedBy key_cmp u.assumed.keys) where
  was_named : (n : MarkKey) → contains key_cmp u.assumed n ≡ true → has_key names n ≡ true
  was_named n h = sym (start.assumed n) ∙ step.fewer n (fewer n h)

  proper : AreProper u.assumed.keys
  proper = proper_all u.assumed.keys (λ n h. proper_named names n (was_named n h))

  has_is : (m : Mark) → has u m ≡ list_any (matches_mark m.kind m.place) (map mark_at u.assumed.keys)
  has_is m = keys_are u.assumed.keys m proper

  left_is : (b : Reason) → left u b ≡ holds_conditionally (before u.blamed) (marks_of (map mark_at u.assumed.keys)) b
  left_is (OfMethod at) = has_is (record { place = at; kind = kind.Method })
  left_is (OfResult at) = has_is (record { place = at; kind = kind.Result })
  left_is (OfVariable at) = has_is (record { place = at; kind = kind.Variable })
  left_is (OfCollective at) = refl
  left_is Always = refl

  named_mark : (m : Mark) → list_any (matches_mark m.kind m.place) (map mark_at u.assumed.keys) ≡ true → list_any (matches_mark m.kind m.place) names ≡ true
  named_mark m h = sym (named_is names m) ∙ was_named (key_of m) (has_is m ∙ h)

  module _ (counts : Place → Bool) (a : Marks) (part : IsSubset a (marks_of names)) (keeps : Satisfies (holds_conditionally counts a) items edges) where
    in_the_end : IsUpperBound (holds_conditionally counts a) u
    in_the_end = covers (holds_conditionally counts a) (fair (holds_conditionally counts a) keeps (start_fair items v none (holds_conditionally counts a))) (covered (holds_conditionally counts a) keeps (start_covers names s start counts a part))

    part_left : IsSubset a (marks_of (map mark_at u.assumed.keys))
    part_left = record {
      methods = λ at h. let m : Mark = record { place = at; kind = kind.Method } in sym (has_is m) ∙ in_the_end.names m h;
      results = λ at h. let m : Mark = record { place = at; kind = kind.Result } in sym (has_is m) ∙ in_the_end.names m h;
      variables = λ at h. let m : Mark = record { place = at; kind = kind.Variable } in sym (has_is m) ∙ in_the_end.names m h;
    }

    first_falls : IfSome u.blamed (λ at. counts at ≡ false)
    first_falls = in_the_end.collective

  pub settled : IsSolution names items edges (map mark_at u.assumed.keys) u.blamed
  settled = record {
    keeps = sym (same_edges (left u) _ left_is items edges) ∙ kept (is_violated (left u) items) (λ e k. all_followed items u w followed e (kept_later items t u w e stays k));
    part = record {
      methods = λ at h. named_mark (record { place = at; kind = kind.Method }) h;
      results = λ at h. named_mark (record { place = at; kind = kind.Result }) h;
      variables = λ at h. named_mark (record { place = at; kind = kind.Variable }) h;
    };
    greatest = part_left;
    first = first_falls;
    rises = subst (IsStrictlySortedBy key_cmp) (sym (names_back u.assumed.keys proper)) sorted;
  }
