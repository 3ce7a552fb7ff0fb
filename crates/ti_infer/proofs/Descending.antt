-- The union of accepted markings is accepted, and removing what is to blame ends at the greatest one.
use Rattle.std.proofs.Common.{◌≡◌, Bool, true, false, not, ◌&&◌, ◌||◌, List, [], ◌∷◌, refl, ap, ap₂, sym, ◌∙◌, subst}
use Rattle.std.specs.Bool.{Decides}
use Rattle.std.specs.List.{list_any}
use Rattle.std.proofs.lemmas.Bool.Decides.{Decides-and, Decides-eqb, Decides-like}
use Rattle.std.specs.Prelude.{◌==◌}
use Rattle.ti_base.specs.declared.place.Place.{Place}
use Rattle.ti_lang.specs.Program.Classes.{ProgramView}
use Rattle.ti_base.specs.Places.{same_place}
use Rattle.ti_rules.specs.SingleRules.{single_refusals}
use Rattle.ti_blame.specs.Marks.{Marks, IsSubset, marks_union}
use Rattle.ti_infer.specs.Marked.{marked}
use Rattle.ti_infer.specs.Stripped.{HavePlainResults}
use Rattle.ti_blame.specs.declared.reason.Reason.{Reason}
use Rattle.ti_blame.specs.declared.reason.Reason.TheVariants.{OfMethod, OfResult, OfVariable, OfCollective, Always}
use Rattle.ti_blame.specs.Marks.{holds}
use Rattle.ti_infer.specs.Limited.{every_one}
use Rattle.ti_infer.specs.Reason.{some_held, program_blamed, KeepsSingle}
use Rattle.ti_infer.specs.Descent.{is_method, is_result, is_variable, marks_without, is_fixed}
use Rattle.ti_infer.proofs.Truths.{Grows, true_false, or_swap, grows_left, grows_right}
use Rattle.ti_infer.proofs.Lists.{or_same}
use Rattle.ti_infer.proofs.Blaming.{blamed_sound}
use Rattle.ti_infer.proofs.Unblamed.{unblamed_complete}
use Rattle.ti_infer.proofs.Shrinking.{program_shrinks}

-- ---- parts

pub part_itself : (m : Marks) → IsSubset m m
part_itself m = record { methods = λ at h. h; results = λ at h. h; variables = λ at h. h }

pub part_trans : (a b d : Marks) → IsSubset a b → IsSubset b d → IsSubset a d
part_trans a b d g h = record { methods = λ at k. h.methods at (g.methods at k); results = λ at k. h.results at (g.results at k); variables = λ at k. h.variables at (g.variables at k) }

pub part_first : (m n : Marks) → IsSubset m (marks_union m n)
part_first m n = record { methods = λ at. grows_left _ _; results = λ at. grows_left _ _; variables = λ at. grows_left _ _ }

pub part_second : (m n : Marks) → IsSubset n (marks_union m n)
part_second m n = record { methods = λ at. grows_right _ _; results = λ at. grows_right _ _; variables = λ at. grows_right _ _ }

-- ---- where all collectives count, these are the rules

pub by_rules : (p : ProgramView) (m : Marks) → single_refusals (marked m p) ≡ [] → KeepsSingle every_one p m
by_rules p m h = blamed_sound p m m (part_itself m) h

pub by_reasons : (p : ProgramView) (m : Marks) → HavePlainResults p.methods → KeepsSingle every_one p m → single_refusals (marked m p) ≡ []
by_reasons p m plain h = unblamed_complete p m plain h

-- ---- lists of reasons

isnt : (a b : Bool) → Grows a b → b ≡ false → a ≡ false
isnt true b g h = absurd (true_false (sym (g refl) ∙ h))
isnt false b g h = refl

pub any_grows : (q r : Reason → Bool) → ((b : Reason) → Grows (q b) (r b)) → (xs : List Reason) → Grows (list_any q xs) (list_any r xs)
any_grows q r g [] h = h
any_grows q r g (x ∷ xs) h = by (q x) (g x) (any_grows q r g xs) h
  where
    here : (s t : Bool) → s ≡ true → (s || t) ≡ true
    here s t e = ap (λ b. b || t) e

    there : (s t : Bool) → t ≡ true → (s || t) ≡ true
    there true t e = refl
    there false t e = e

    by : (b : Bool) → Grows b (r x) → Grows (list_any q xs) (list_any r xs) → (b || list_any q xs) ≡ true → (r x || list_any r xs) ≡ true
    by true k rest e = here (r x) _ (k refl)
    by false k rest e = there (r x) _ (rest e)

union_held : (counts : Place → Bool) (m n : Marks) (xs : List Reason) → some_held counts (marks_union m n) xs ≡ (some_held counts m xs || some_held counts n xs)
union_held counts m n [] = refl
union_held counts m n (x ∷ xs) = ap₂ (λ a b. a || b) (one x) (union_held counts m n xs) ∙ or_swap (holds counts m x) (holds counts n x) _ _
  where
    one : (b : Reason) → holds counts (marks_union m n) b ≡ (holds counts m b || holds counts n b)
    one (OfMethod at) = refl
    one (OfResult at) = refl
    one (OfVariable at) = refl
    one (OfCollective at) = or_same (counts at)
    one Always = refl

-- nothing that is to blame under a marking is in a part that keeps the rules
pub none_in_part : (counts : Place → Bool) (p : ProgramView) (a u : Marks) → IsSubset a u → KeepsSingle counts p a → some_held counts a (program_blamed p u) ≡ false
none_in_part counts p a u part h = isnt _ _ (program_shrinks (holds counts a) p a u part) h

pub union_keeps : (counts : Place → Bool) (p : ProgramView) (m n : Marks) → KeepsSingle counts p m → KeepsSingle counts p n → KeepsSingle counts p (marks_union m n)
union_keeps counts p m n h k =
    union_held counts m n (program_blamed p (marks_union m n)) ∙ ap₂ (λ a b. a || b) (none_in_part counts p m (marks_union m n) (part_first m n) h) (none_in_part counts p n (marks_union m n) (part_second m n) k)

-- the fewer collectives count, the more markings keep the rules
pub fewer_keep : (fewer more : Place → Bool) (p : ProgramView) (m : Marks) → ((at : Place) → Grows (fewer at) (more at)) → KeepsSingle more p m → KeepsSingle fewer p m
fewer_keep fewer more p m g h = isnt _ _ (any_grows (holds fewer m) (holds more m) one (program_blamed p m)) h
  where
    one : (b : Reason) → Grows (holds fewer m b) (holds more m b)
    one (OfMethod at) = λ k. k
    one (OfResult at) = λ k. k
    one (OfVariable at) = λ k. k
    one (OfCollective at) = g at
    one Always = λ k. k

-- ---- taking away

place_same : (p q : Place) → Decides (same_place p q) (p ≡ q)
place_same p q =
    Decides-like (same_place p q) (λ e. λ j. record { line = e.0 j; col = e.1 j }) (λ e. (ap (λ (z : Place). z.line) e, ap (λ (z : Place). z.col) e))
    (Decides-and (p.line == q.line) (p.col == q.col) (Decides-eqb p.line q.line) (Decides-eqb p.col q.col))

and_not : (a b : Bool) → a ≡ true → (b ≡ true → ⊥) → (a && not b) ≡ true
and_not a true e n = absurd (n refl)
and_not a false e n = ap (λ b. b && true) e

module _ (counts : Place → Bool) (p : ProgramView) (a u : Marks) (part : IsSubset a u) (keeps : KeepsSingle counts p a) where
  apart : (q : Reason → Bool) → ((b : Reason) → Grows (q b) (holds counts a b)) → list_any q (program_blamed p u) ≡ true → ⊥
  apart q g h = true_false (sym (any_grows q (holds counts a) g (program_blamed p u) h) ∙ none_in_part counts p a u part keeps)

  named_method : (at : Place) → a.methods at ≡ true → (b : Reason) → Grows (is_method at b) (holds counts a b)
  named_method at e (OfMethod place) k = subst (λ z. a.methods z ≡ true) ((place_same at place).0 k) e
  named_method at e (OfResult place) k = absurd (true_false (sym k))
  named_method at e (OfVariable place) k = absurd (true_false (sym k))
  named_method at e (OfCollective place) k = absurd (true_false (sym k))
  named_method at e Always k = absurd (true_false (sym k))

  named_result : (at : Place) → a.results at ≡ true → (b : Reason) → Grows (is_result at b) (holds counts a b)
  named_result at e (OfResult place) k = subst (λ z. a.results z ≡ true) ((place_same at place).0 k) e
  named_result at e (OfMethod place) k = absurd (true_false (sym k))
  named_result at e (OfVariable place) k = absurd (true_false (sym k))
  named_result at e (OfCollective place) k = absurd (true_false (sym k))
  named_result at e Always k = absurd (true_false (sym k))

  named_variable : (at : Place) → a.variables at ≡ true → (b : Reason) → Grows (is_variable at b) (holds counts a b)
  named_variable at e (OfVariable place) k = subst (λ z. a.variables z ≡ true) ((place_same at place).0 k) e
  named_variable at e (OfMethod place) k = absurd (true_false (sym k))
  named_variable at e (OfResult place) k = absurd (true_false (sym k))
  named_variable at e (OfCollective place) k = absurd (true_false (sym k))
  named_variable at e Always k = absurd (true_false (sym k))

  -- a part that keeps the rules stays a part where what is to blame is taken away
  pub stays_part : IsSubset a (marks_without (program_blamed p u) u)
  stays_part = record {
    methods = λ at e. and_not _ _ (part.methods at e) (apart (is_method at) (named_method at e));
    results = λ at e. and_not _ _ (part.results at e) (apart (is_result at) (named_result at e));
    variables = λ at e. and_not _ _ (part.variables at e) (apart (is_variable at) (named_variable at e));
  }

  -- where something is to blame that no marking can take away, there is none
  pub none_keeps : list_any (is_fixed counts) (program_blamed p u) ≡ true → ⊥
  none_keeps = apart (is_fixed counts) fixed
    where
      fixed : (b : Reason) → Grows (is_fixed counts b) (holds counts a b)
      fixed (OfMethod at) k = absurd (true_false (sym k))
      fixed (OfResult at) k = absurd (true_false (sym k))
      fixed (OfVariable at) k = absurd (true_false (sym k))
      fixed (OfCollective at) k = k
      fixed Always k = refl

-- where nothing that is to blame is marked, and nothing fixed, the rules are kept: so each turn takes something away, or ends
same_itself : (at : Place) → same_place at at ≡ true
same_itself at = (place_same at at).1 refl

pub turn_ends : (counts : Place → Bool) (p : ProgramView) (u : Marks) → IsSubset u (marks_without (program_blamed p u) u) → list_any (is_fixed counts) (program_blamed p u) ≡ false → KeepsSingle counts p u
turn_ends counts p u stays h = by (program_blamed p u) (λ at k e. gone _ _ (stays.methods at k) e) (λ at k e. gone _ _ (stays.results at k) e) (λ at k e. gone _ _ (stays.variables at k) e) h
  where
    gone : (s t : Bool) → (s && not t) ≡ true → t ≡ true → ⊥
    gone s true k e = true_false (sym k ∙ and_false s)
      where
        and_false : (b : Bool) → (b && false) ≡ false
        and_false true = refl
        and_false false = refl
    gone s false k e = true_false (sym e)

    or_none : (s t : Bool) → (s || t) ≡ false → (s ≡ false) × (t ≡ false)
    or_none true t k = absurd (true_false k)
    or_none false t k = (refl, k)

    here : (s t : Bool) → s ≡ true → (s || t) ≡ true
    here s t e = ap (λ b. b || t) e

    there : (s t : Bool) → t ≡ true → (s || t) ≡ true
    there true t e = refl
    there false t e = e

    not_marked : (s t : Bool) → (s ≡ true → t ≡ true → ⊥) → t ≡ true → s ≡ false
    not_marked true t n e = absurd (n refl e)
    not_marked false t n e = refl

    by : (xs : List Reason) → ((at : Place) → u.methods at ≡ true → list_any (is_method at) xs ≡ true → ⊥) → ((at : Place) → u.results at ≡ true → list_any (is_result at) xs ≡ true → ⊥)
        → ((at : Place) → u.variables at ≡ true → list_any (is_variable at) xs ≡ true → ⊥) → list_any (is_fixed counts) xs ≡ false → some_held counts u xs ≡ false
    by [] f g v k = refl
    by (b ∷ xs) f g v k =
        let l = or_none _ _ k in
        ap₂ (λ s t. s || t) (one b f g v l.0) (by xs (λ at e i. f at e (there _ _ i)) (λ at e i. g at e (there _ _ i)) (λ at e i. v at e (there _ _ i)) l.1)
      where
        one : (b : Reason) → ((at : Place) → u.methods at ≡ true → list_any (is_method at) (b ∷ xs) ≡ true → ⊥) → ((at : Place) → u.results at ≡ true → list_any (is_result at) (b ∷ xs) ≡ true → ⊥)
            → ((at : Place) → u.variables at ≡ true → list_any (is_variable at) (b ∷ xs) ≡ true → ⊥) → is_fixed counts b ≡ false → holds counts u b ≡ false
        one (OfMethod at) f g v l = not_marked _ _ (f at) (here _ _ (same_itself at))
        one (OfResult at) f g v l = not_marked _ _ (g at) (here _ _ (same_itself at))
        one (OfVariable at) f g v l = not_marked _ _ (v at) (here _ _ (same_itself at))
        one (OfCollective at) f g v l = l
        one Always f g v l = absurd (true_false l)
