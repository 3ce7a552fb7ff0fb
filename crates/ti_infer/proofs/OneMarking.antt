-- A sorted list of annotations is determined by the marking that it represents.
use Rattle.std.proofs.Common.{◌≡◌, Bool, true, false, ◌&&◌, ◌||◌, ◌⊎◌, inl, inr, ⊎_elim, List, [], ◌∷◌, map, Less, Equal, refl, ap, ap₂, sym, ◌∙◌, eq-eqb}
use Rattle.std.specs.List.{AllByRecursion, list_any}
use Rattle.std.specs.List.Sorted.{IsStrictlySortedBy}
use Rattle.std.proofs.lemmas.Cmp.{tied_itself}
use Rattle.ti_blame.specs.declared.mark.MarkKind.{MarkKind}
use Rattle.ti_blame.specs.declared.mark.MarkKind.TheVariants as kind
use Rattle.ti_blame.specs.declared.mark.Mark.{Mark}
use Rattle.ti_blame.specs.declared.mark.MarkKey.{MarkKey}
use Rattle.ti_blame.specs.Keys.{key_of, key_cmp}
use Rattle.ti_blame.specs.Marks.{IsSubset, marks_of, same_mark_kind, matches_mark}
use Rattle.ti_blame.proofs.Lemmas.{names_total}
use Rattle.ti_infer.proofs.Truths.{true_false, grows_left, grows_right}
use Rattle.ti_infer.proofs.ImplicationsOfProgram.{mark_is}

-- ---- marks among marks

abbrev IsAmong : Mark → List Mark → Type 0
IsAmong x ms = list_any (matches_mark x.kind x.place) ms ≡ true

abbrev AreAmong : List Mark → List Mark → Type 0
AreAmong ms ns = (x : Mark) → IsAmong x ms → IsAmong x ns

part_among : (ms ns : List Mark) → IsSubset (marks_of ms) (marks_of ns) → AreAmong ms ns
part_among ms ns part x = by x.kind
  where
    by : (k : MarkKind) → list_any (matches_mark k x.place) ms ≡ true → list_any (matches_mark k x.place) ns ≡ true
    by kind.Method = part.methods x.place
    by kind.Result = part.results x.place
    by kind.Variable = part.variables x.place

kind_itself : (k : MarkKind) → same_mark_kind k k ≡ true
kind_itself kind.Method = refl
kind_itself kind.Result = refl
kind_itself kind.Variable = refl

mark_itself : (x : Mark) → matches_mark x.kind x.place x ≡ true
mark_itself x =
    let place = ap₂ (λ a b. a && b) (eq-eqb x.place.line x.place.line refl) (eq-eqb x.place.col x.place.col refl) in
    ap₂ (λ a b. a && b) (kind_itself x.kind) place

first_among : (m : Mark) (ms : List Mark) → IsAmong m (m ∷ ms)
first_among m ms = grows_left (matches_mark m.kind m.place m) (list_any (matches_mark m.kind m.place) ms) (mark_itself m)

-- it's the first or among the others
first_or_other : (x m : Mark) (ms : List Mark) → IsAmong x (m ∷ ms) → (x ≡ m) ⊎ IsAmong x ms
first_or_other x m ms h = by (matches_mark x.kind x.place m) refl h
  where
    by : (b : Bool) → matches_mark x.kind x.place m ≡ b → (b || list_any (matches_mark x.kind x.place) ms) ≡ true → (x ≡ m) ⊎ IsAmong x ms
    by true e k = inl (mark_is x m e)
    by false e k = inr k

-- ---- marks that rise

abbrev IsBelow : Mark → List Mark → Type 0
IsBelow m ms = AllByRecursion (λ y. key_cmp (key_of m) y ≡ Less) (map key_of ms)

below_itself : (a : MarkKey) → key_cmp a a ≡ Less → ⊥
below_itself a h = no (sym h ∙ tied_itself names_total a)
  where
    no : Less ≡ Equal → ⊥
    no e = cc

below_each_other : (a b : MarkKey) → key_cmp a b ≡ Less → key_cmp b a ≡ Less → ⊥
below_each_other a b h k = below_itself a (names_total.trans a b a h k)

below_among : (m x : Mark) (ms : List Mark) → IsBelow m ms → IsAmong x ms → key_cmp (key_of m) (key_of x) ≡ Less
below_among m x [] below h = absurd (true_false (sym h))
below_among m x (n ∷ ns) below h = ⊎_elim
    (λ e. ap (λ (y : Mark). key_cmp (key_of m) (key_of y)) e ∙ below.0)
    (λ k. below_among m x ns below.1 k)
    (first_or_other x n ns h)

same_first : (m n : Mark) (ms ns : List Mark) → IsBelow m ms → IsBelow n ns
    → AreAmong (m ∷ ms) (n ∷ ns) → AreAmong (n ∷ ns) (m ∷ ms) → m ≡ n
same_first m n ms ns s t f g = ⊎_elim
    (λ e. e)
    (λ h. ⊎_elim
    (λ e. sym e)
    (λ k. absurd (below_each_other (key_of m) (key_of n) (below_among m n ms s k) (below_among n m ns t h)))
    (first_or_other n m ms (g n (first_among n ns))))
    (first_or_other m n ns (f m (first_among m ms)))

others_among : (m n : Mark) (ms ns : List Mark) → m ≡ n → IsBelow m ms → AreAmong (m ∷ ms) (n ∷ ns) → AreAmong ms ns
others_among m n ms ns e s f x h = ⊎_elim
    (λ k. absurd (below_itself (key_of m) (ap (λ (y : Mark). key_cmp (key_of m) (key_of y)) (e ∙ sym k) ∙ below_among m x ms s h)))
    (λ k. k)
    (first_or_other x n ns (f x (grows_right (matches_mark x.kind x.place m) (list_any (matches_mark x.kind x.place) ms) h)))

same_among : (ms ns : List Mark) → IsStrictlySortedBy key_cmp (map key_of ms) → IsStrictlySortedBy key_cmp (map key_of ns)
    → AreAmong ms ns → AreAmong ns ms → ms ≡ ns
unfolding IsStrictlySortedBy
same_among [] [] s t f g = refl
same_among [] (n ∷ ns) s t f g = absurd (true_false (sym (g n (first_among n ns))))
same_among (m ∷ ms) [] s t f g = absurd (true_false (sym (f m (first_among m ms))))
same_among (m ∷ ms) (n ∷ ns) s t f g =
    let e = same_first m n ms ns s.0 t.0 f g in
    ap₂ (λ x xs. x ∷ xs) e (same_among ms ns s.1 t.1 (others_among m n ms ns e s.0 f) (others_among n m ns ms (sym e) t.0 g))

-- lists of marks that rise and are parts of each other are one
pub same_marks : (ms ns : List Mark) → IsStrictlySortedBy key_cmp (map key_of ms) → IsStrictlySortedBy key_cmp (map key_of ns)
    → IsSubset (marks_of ms) (marks_of ns) → IsSubset (marks_of ns) (marks_of ms) → ms ≡ ns
same_marks ms ns s t p q = same_among ms ns s t (part_among ms ns p) (part_among ns ms q)
