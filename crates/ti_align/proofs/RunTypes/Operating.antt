-- Conversions and operators keep to the types that the rules give them.
use Rattle.std.proofs.Common.{◌≡◌, ℕ, ℤ, ◌≤◌, nat_le, ◌^◌, length, ◌==◌, Bool, true, false, not, ◌&&◌, ◌||◌, if◌then◌else◌, ◌⊎◌, inl, inr, option_map, Option, Some, None, List, refl, ap, ap₂, sym, ◌∙◌, subst, eqb-true, eq-eqb}
use Rattle.std.proofs.lemmas.Bool.{leb-true}
use Rattle.std.specs.Int.{Width, w32, w64}
use Rattle.std.specs.Prelude.{bit_and, bit_or, bit_xor}
use Rattle.ti_base.specs.WholeNumbers.{Fits, wrap, quotient, remainder, shift_count, shift_left, shift_right, shift_right_unsigned}
use Rattle.std.specs.Option.{option_or}
use Rattle.ti_base.specs.declared.place.Place.{Place}
use Rattle.ti_base.specs.declared.point.Point.{Point}
use Rattle.ti_base.specs.declared.point.Rect.{Rect}
use Rattle.ti_base.specs.declared.value.Value.TheVariants as v
use Rattle.ti_base.specs.PointSets.{union, minus, meet}
use Rattle.ti_base.specs.Points.{pt_sum, pt_difference}
use Rattle.ti_base.specs.Rects.{points_of, size_of}
use Rattle.ti_base.specs.Rects as rect
use Rattle.ti_base.proofs.Lemmas.{length_points}
use Rattle.ti_syntax.specs.declared.tree.exprs.UnaryOperator.{UnaryOperator}
use Rattle.ti_syntax.specs.declared.tree.exprs.UnaryOperator.TheVariants as un
use Rattle.ti_syntax.specs.declared.tree.exprs.BinaryOperator.{BinaryOperator}
use Rattle.ti_syntax.specs.declared.tree.exprs.BinaryOperator.TheVariants as op
use Rattle.ti_lang.specs.Program.Types.{ValueType}
use Rattle.ti_lang.specs.Program.Types as t
use Rattle.ti_lang.specs.Program.Classes.{ProgramView}
use Rattle.ti_lang.specs.Typing.Kinds.{where_true, same_truth, same_type, is_whole, is_null, is_reference, is_local, as_global}
use Rattle.ti_lang.specs.Typing.Fits.{fits, casts}
use Rattle.ti_lang.specs.Typing.Operators.{whole_type, truth_type, point_type, rect_type, domain_type, Sum, row_type, binary_type, unary_type}
use Rattle.ti_lang.specs.Typing.TextTypes.{joined_type, product_type, operator_type}
use Rattle.ti_lang.specs.Meaning.Held.{Held, Plain, Dm, truth, truth_of, referent_of, points_in, dim_of, as_type}
use Rattle.ti_lang.specs.Meaning.Comp.{Comp, ◌>>=◌, gives}
use Rattle.ti_lang.specs.Meaning.Answers.{IsPointOf, IsRectOf}
use Rattle.ti_lang.specs.Meaning.Conversions.{most_points, to_domain, converted, domain_within, of_domains}
use Rattle.ti_lang.specs.Meaning.Operands.{Operands, Wholes, Truths, Points, Rects, Domains, Things, Regions, Others, operands, number, same_points}
use Rattle.ti_lang.specs.Meaning.Operators.{add_values, subtract_values, multiply_values, divide_values, bitwise_values, shift_value, compare_values, equal, apply_binary, short_circuit, operated_alone}
use Rattle.ti_lang.specs.Meaning.Evaluation.{is_own, unless_settled, with_right}
use Rattle.ti_align.specs.HeapTyping.{IsDomainOf, IsOf}
use Rattle.ti_align.specs.HeapTyping as there
use Rattle.ti_align.specs.Mirrors.Sound.{Sound}
use Rattle.ti_align.proofs.Runs.Vars.{true_false, and_left, and_right}
use Rattle.ti_align.proofs.RunTypes.Computing.{sound_then, weaker, sound_value, sound_guarded, sound_tested}
use Rattle.ti_align.proofs.RunTypes.Forms.{wraps_fit, widens, remainder_fits, rounded_fits, complement_fits, sum_point, difference_point, KeepsPoints, meet_points_kept, minus_points_kept, union_points_kept, points_placed, meet_form}

-- ---- tests

pub none_some : {A : Type 0} (a : A) → ◌≡◌ {A = Option A} None (Some a) → ⊥
none_some a e = cc

pub some_same : {A : Type 0} (a b : A) → ◌≡◌ {A = Option A} (Some a) (Some b) → a ≡ b
some_same a b e = cc

pub where_some : {A : Type 0} (b : Bool) (x y : A) → where_true b x ≡ Some y → (b ≡ true) × (x ≡ y)
where_some true x y e = (refl, some_same x y e)
where_some false x y e = absurd (none_some y e)

dims_same : (b : Bool) (n : ℕ) (r : ValueType) → option_map t.Dm (if b then Some n else None) ≡ Some r → b ≡ true
dims_same true n r e = refl
dims_same false n r e = absurd (none_some r e)

pub or_one : (b : Bool) → (b || false) ≡ true → b ≡ true
or_one true h = refl
or_one false h = absurd (true_false (sym h))

pub or_either : (a b : Bool) → (a || b) ≡ true → (a ≡ true) ⊎ (b ≡ true)
or_either true b h = inl refl
or_either false b h = inr h

false_true : {A : Type 0} → false ≡ true → A
false_true h = absurd (true_false (sym h))

pub truth_same : (a b : Bool) → same_truth a b ≡ true → a ≡ b
truth_same true true h = refl
truth_same true false h = false_true h
truth_same false true h = false_true h
truth_same false false h = refl

pub type_same : (x y : ValueType) → same_type x y ≡ true → x ≡ y
type_same t.Int t.Int h = refl
type_same t.Long t.Long h = refl
type_same t.Boolean t.Boolean h = refl
type_same (t.Pt n) (t.Pt m) h = ap t.Pt (eqb-true n m h)
type_same (t.Rc n) (t.Rc m) h = ap t.Rc (eqb-true n m h)
type_same (t.Dm n) (t.Dm m) h = ap t.Dm (eqb-true n m h)
type_same t.Region t.Region h = refl
type_same (t.Class c l) (t.Class d k) h = ap₂ t.Class (eqb-true c d (and_left _ _ h)) (truth_same l k (and_right (c == d) _ h))
type_same (t.Grid x n l) (t.Grid y m k) h =
    let both = and_left (same_type x y && (n == m)) _ h in
    let element = type_same x y (and_left _ _ both) in
    let dims = eqb-true n m (and_right (same_type x y) _ both) in
    let flags = truth_same l k (and_right (same_type x y && (n == m)) _ h) in
    ap₂ (λ (e : ValueType) (i : ℕ). t.Grid e i l) element dims ∙ ap (t.Grid y m) flags
type_same t.Null t.Null h = refl
type_same t.Void t.Void h = refl
type_same _ _ h = false_true h

-- ---- types as the text tells them

-- the second type is the first, but for dimensions
abbrev pub Seen : ValueType → ValueType → Type 0
Seen (t.Pt n) u = (m : ℕ) × (u ≡ t.Pt m)
Seen (t.Rc n) u = (m : ℕ) × (u ≡ t.Rc m)
Seen (t.Dm n) u = (m : ℕ) × (u ≡ t.Dm m)
Seen type u = u ≡ type

pub seen_same : (type : ValueType) → Seen type type
seen_same (t.Pt n) = (n, refl)
seen_same (t.Rc n) = (n, refl)
seen_same (t.Dm n) = (n, refl)
seen_same _ = refl

-- ---- global and local references

pub to_global : (w : there.HeapTyping) (a : ValueType) (h : Held) → IsOf w a h → IsOf w (as_global a) h
to_global w (t.Class c l) h k = (k.0, k.1, k.2, λ z. false_true z)
to_global w (t.Grid e n l) h k = (k.0, k.1, k.2, λ z. false_true z)
to_global w _ h k = k

-- what names a thing of the process, if the type is local
pub to_local : (w : there.HeapTyping) (a : ValueType) (h : Held) → IsOf w (as_global a) h → there.IsOwn w (is_local a) (referent_of h) → IsOf w a h
to_local w (t.Class c l) h k own = (k.0, k.1, k.2, λ z. subst (λ o. is_own w.owner o ≡ true) (ap referent_of k.1) (own z))
to_local w (t.Grid e n l) h k own = (k.0, k.1, k.2, λ z. subst (λ o. is_own w.owner o ≡ true) (ap referent_of k.1) (own z))
to_local w _ h k own = k

-- no global type is local
pub global_type : (a : ValueType) → is_local (as_global a) ≡ false
global_type (t.Class c l) = refl
global_type (t.Grid e n l) = refl
global_type t.Int = refl
global_type t.Long = refl
global_type t.Boolean = refl
global_type (t.Pt n) = refl
global_type (t.Rc n) = refl
global_type (t.Dm n) = refl
global_type t.Region = refl
global_type t.Null = refl
global_type t.Void = refl

-- ---- domains

-- the points of a rectangular domain that isn't too large
pub rect_domain : (n : ℕ) (r : Rect) → IsRectOf n r → nat_le (size_of r) most_points ≡ true → IsDomainOf n (points_of r)
rect_domain n r k h =
    let q = points_placed n r k in
    record { points = q.0; rises = q.1; few = subst (λ m. m ≤ most_points) (sym (length_points r)) (leb-true (size_of r) most_points h) }

module _ (p : ProgramView) (w : there.HeapTyping) where
  -- ---- conversions

  Goal : ValueType → Comp Held → Type 0
  Goal type m = Sound p (λ u h. IsOf u type h) w m

  pub to_any : (at : Place) (h : Held) → Sound p (λ u k. Unit {0}) w (to_domain at h)
  to_any at (Plain (v.Rc r)) = sound_guarded p _ w _ _ at _ tt
  to_any at _ = sound_value p _ w _ tt

  -- of a rectangular domain, or of one that is none
  abbrev pub IsSet : ℕ → Held → Type 0
  IsSet n h = IsOf w (t.Rc n) h ⊎ IsOf w (t.Dm n) h

  pub to_fine : (at : Place) (n : ℕ) (h : Held) → IsSet n h → Sound p (λ u k. IsOf u (t.Dm n) k) w (to_domain at h)
  to_fine at n h (inl k) =
      subst (λ z. Sound p (λ u k. IsOf u (t.Dm n) k) w (to_domain at z)) (sym k.1)
      (sound_tested p _ w _ _ at _ (λ z. (points_of k.0, ap (λ d. Dm d (points_of k.0)) k.2.dim_is, rect_domain n k.0 k.2 z)))
  to_fine at n h (inr k) = subst (λ z. Sound p (λ u k. IsOf u (t.Dm n) k) w (to_domain at z)) (sym k.1) (sound_value p _ w (Dm n k.0) (k.0, refl, k.2))

  plainly : (type : ValueType) (k : Held) → IsOf w type k → Sound p (λ u h. IsOf u type h) w (gives k)
  plainly type k h = sound_value p _ w k h

  -- a value that fits a type becomes one of it
  pub converted_fine : (at : Place) (s type u : ValueType) (h : Held) → fits s type ≡ true → Seen type u → IsOf w s h → Sound p (λ x k. IsOf x type k) w (converted at u h)
  converted_fine at t.Int t.Int u h f z k = subst (λ y. Sound p (λ x k. IsOf x t.Int k) w (converted at y h)) (sym z)
      (subst (λ y. Sound p (λ x k. IsOf x t.Int k) w (gives (as_type t.Int y))) (sym k.1) (plainly t.Int _ (_, refl, k.2)))
  converted_fine at t.Int t.Long u h f z k = subst (λ y. Sound p (λ x k. IsOf x t.Long k) w (converted at y h)) (sym z)
      (subst (λ y. Sound p (λ x k. IsOf x t.Long k) w (gives (as_type t.Long y))) (sym k.1) (plainly t.Long _ (_, refl, widens k.0 k.2)))
  converted_fine at t.Long t.Long u h f z k = subst (λ y. Sound p (λ x k. IsOf x t.Long k) w (converted at y h)) (sym z)
      (subst (λ y. Sound p (λ x k. IsOf x t.Long k) w (gives (as_type t.Long y))) (sym k.1) (plainly t.Long _ (_, refl, k.2)))
  converted_fine at t.Boolean t.Boolean u h f z k = subst (λ y. Sound p (λ x k. IsOf x t.Boolean k) w (converted at y h)) (sym z) (plainly t.Boolean h k)
  converted_fine at t.Region t.Region u h f z k = subst (λ y. Sound p (λ x k. IsOf x t.Region k) w (converted at y h)) (sym z) (plainly t.Region h k)
  converted_fine at t.Null t.Null u h f z k = subst (λ y. Sound p (λ x k. IsOf x t.Null k) w (converted at y h)) (sym z) (plainly t.Null h k)
  converted_fine at (t.Pt m) (t.Pt n) u h f z k =
      let e = eqb-true m n (or_one _ (or_one _ (or_one _ f))) in
      subst (λ y. Sound p (λ x k. IsOf x (t.Pt n) k) w (converted at y h)) (sym z.1) (plainly (t.Pt n) h (subst (λ i. IsOf w (t.Pt i) h) e k))
  converted_fine at (t.Rc m) (t.Rc n) u h f z k =
      let e = eqb-true m n (or_one _ (or_one _ (or_one _ f))) in
      subst (λ y. Sound p (λ x k. IsOf x (t.Rc n) k) w (converted at y h)) (sym z.1) (plainly (t.Rc n) h (subst (λ i. IsOf w (t.Rc i) h) e k))
  converted_fine at (t.Rc m) (t.Dm n) u h f z k =
      let e = eqb-true m n (or_one _ (or_one _ f)) in
      subst (λ y. Sound p (λ x k. IsOf x (t.Dm n) k) w (converted at y h)) (sym z.1) (to_fine at n h (inl (subst (λ i. IsOf w (t.Rc i) h) e k)))
  converted_fine at (t.Dm m) (t.Dm n) u h f z k =
      let e = eqb-true m n (or_one _ (or_one _ (or_one _ f))) in
      subst (λ y. Sound p (λ x k. IsOf x (t.Dm n) k) w (converted at y h)) (sym z.1) (to_fine at n h (inr (subst (λ i. IsOf w (t.Dm i) h) e k)))
  converted_fine at t.Null (t.Class c l) u h f z k =
      subst (λ y. Sound p (λ x k. IsOf x (t.Class c l) k) w (converted at y h)) (sym z)
      (subst (λ y. Sound p (λ x k. IsOf x (t.Class c l) k) w (gives (as_type (t.Class c l) y))) (sym k) (plainly (t.Class c l) _ (None, refl, (λ id e. absurd (none_some id e)), λ z. refl)))
  converted_fine at (t.Class d i) (t.Class c l) u h f z k =
      subst (λ y. Sound p (λ x k. IsOf x (t.Class c l) k) w (converted at y h)) (sym z)
      (subst (λ y. Sound p (λ x k. IsOf x (t.Class c l) k) w (gives (as_type (t.Class c l) y))) (sym k.1)
      (plainly (t.Class c l) _ (k.0, refl, (λ id e. k.2 id e ∙ ap Some same.0), λ z. k.3 (same.1 z))))
    where
      same : (d ≡ c) × (l ≡ true → i ≡ true)
      same = by (or_either _ _ (or_one _ f))
        where
          by : (((d == c) && same_truth i l) || false) ≡ true ⊎ ((d == c) && same_truth false l) ≡ true → (d ≡ c) × (l ≡ true → i ≡ true)
          by (inl x) = (eqb-true d c (and_left _ _ (or_one _ x)), λ z. truth_same i l (and_right (d == c) _ (or_one _ x)) ∙ z)
          by (inr x) = (eqb-true d c (and_left _ _ x), λ z. false_true (truth_same false l (and_right (d == c) _ x) ∙ z))
  converted_fine at t.Null (t.Grid e n l) u h f z k =
      subst (λ y. Sound p (λ x k. IsOf x (t.Grid e n l) k) w (converted at y h)) (sym z)
      (subst (λ y. Sound p (λ x k. IsOf x (t.Grid e n l) k) w (gives (as_type (t.Grid e n l) y))) (sym k) (plainly (t.Grid e n l) _ (None, refl, (λ id e. absurd (none_some id e)), λ z. refl)))
  converted_fine at (t.Grid d m i) (t.Grid e n l) u h f z k =
      subst (λ y. Sound p (λ x k. IsOf x (t.Grid e n l) k) w (converted at y h)) (sym z)
      (subst (λ y. Sound p (λ x k. IsOf x (t.Grid e n l) k) w (gives (as_type (t.Grid e n l) y))) (sym k.1)
      (plainly (t.Grid e n l) _ (k.0, refl, (λ id q. subst (λ (x : ValueType). there.IsGridOf w x n id) same.0 (subst (λ x. there.IsGridOf w d x id) same.1 (k.2 id q))), λ z. k.3 (same.2 z))))
    where
      same : (d ≡ e) × (m ≡ n) × (l ≡ true → i ≡ true)
      same = by (or_either _ _ (or_one _ f))
        where
          of : (same_type d e && (m == n)) ≡ true → (l ≡ true → i ≡ true) → (d ≡ e) × (m ≡ n) × (l ≡ true → i ≡ true)
          of x own = (type_same d e (and_left _ _ x), eqb-true m n (and_right (same_type d e) _ x), own)

          by : (((same_type d e && (m == n)) && same_truth i l) || false) ≡ true ⊎ ((same_type d e && (m == n)) && same_truth false l) ≡ true → (d ≡ e) × (m ≡ n) × (l ≡ true → i ≡ true)
          by (inl x) = of (and_left _ _ (or_one _ x)) (λ z. truth_same i l (and_right (same_type d e && (m == n)) _ (or_one _ x)) ∙ z)
          by (inr x) = of (and_left _ _ x) (λ z. false_true (truth_same false l (and_right (same_type d e && (m == n)) _ x) ∙ z))
  converted_fine at s t.Void u h f z k = subst (λ y. Sound p (λ x k. IsOf x t.Void k) w (converted at y h)) (sym z) (plainly t.Void h tt)
  converted_fine at _ _ u h f z k = false_true f

  -- ---- pairs of operands

  points_both : (a b : Point) → a.dim ≡ b.dim → operands (Plain (v.Pt a)) (Plain (v.Pt b)) ≡ Points a b
  points_both a b h = ap (λ z. if z then Points a b else Others) (eq-eqb a.dim b.dim h)

  rects_both : (a b : Rect) → a.dim ≡ b.dim → operands (Plain (v.Rc a)) (Plain (v.Rc b)) ≡ Rects a b
  rects_both a b h = ap (λ z. if z then Rects a b else Others) (eq-eqb a.dim b.dim h)

  domains_both : (n m : ℕ) → n ≡ m → (if n == m then Domains else Others) ≡ Domains
  domains_both n m h = ap (λ z. if z then Domains else Others) (eq-eqb n m h)

  -- two whole numbers
  pub record Wholly (r t' u' : ValueType) (x y : Held) : Type 0 where
    pub width : Width
    pub left : ℤ
    pub right : ℤ
    pub is : operands x y ≡ Wholes width left right
    pub fits : Fits width left
    pub gives : (n : ℤ) → Fits width n → IsOf w r (number width n)
    pub seen : joined_type t' u' ≡ r

  wholly : (a u r t' u' : ValueType) (x y : Held) → whole_type a u ≡ Some r → Seen a t' → Seen u u' → IsOf w a x → IsOf w u y → Wholly r t' u' x y
  wholly t.Int t.Int r t' u' x y e i j k l =
      subst (λ (z : ValueType). Wholly z t' u' x y) (some_same t.Int r e)
      (record {
        width = w32;
        left = k.0;
        right = l.0;
        is = ap₂ operands k.1 l.1;
        fits = k.2;
        gives = λ n f. (n, refl, f);
        seen = ap₂ joined_type i j;
      })
  wholly t.Int t.Long r t' u' x y e i j k l =
      subst (λ (z : ValueType). Wholly z t' u' x y) (some_same t.Long r e)
      (record {
        width = w64;
        left = k.0;
        right = l.0;
        is = ap₂ operands k.1 l.1;
        fits = widens k.0 k.2;
        gives = λ n f. (n, refl, f);
        seen = ap₂ joined_type i j;
      })
  wholly t.Long t.Int r t' u' x y e i j k l =
      subst (λ (z : ValueType). Wholly z t' u' x y) (some_same t.Long r e)
      (record {
        width = w64;
        left = k.0;
        right = l.0;
        is = ap₂ operands k.1 l.1;
        fits = k.2;
        gives = λ n f. (n, refl, f);
        seen = ap₂ joined_type i j;
      })
  wholly t.Long t.Long r t' u' x y e i j k l =
      subst (λ (z : ValueType). Wholly z t' u' x y) (some_same t.Long r e)
      (record {
        width = w64;
        left = k.0;
        right = l.0;
        is = ap₂ operands k.1 l.1;
        fits = k.2;
        gives = λ n f. (n, refl, f);
        seen = ap₂ joined_type i j;
      })
  wholly t.Int _ r t' u' x y e i j k l = absurd (none_some r e)
  wholly t.Long _ r t' u' x y e i j k l = absurd (none_some r e)
  wholly _ _ r t' u' x y e i j k l = absurd (none_some r e)

  -- two points
  pub record Pointly (r t' u' : ValueType) (x y : Held) : Type 0 where
    pub dims : ℕ
    pub left : Point
    pub right : Point
    pub is : operands x y ≡ Points left right
    pub left_is : IsPointOf dims left
    pub right_is : IsPointOf dims right
    pub gives : (q : Point) → IsPointOf dims q → IsOf w r (Plain (v.Pt q))
    pub seen : Seen r (joined_type t' u')

  pointly : (a u r t' u' : ValueType) (x y : Held) → point_type a u ≡ Some r → Seen a t' → Seen u u' → IsOf w a x → IsOf w u y → Pointly r t' u' x y
  pointly (t.Pt n) (t.Pt m) r t' u' x y e i j k l =
      let z = where_some (n == m) (t.Pt n) r e in
      subst (λ (z : ValueType). Pointly z t' u' x y) z.1
      (record {
        dims = n;
        left = k.0;
        right = l.0;
        is = ap₂ operands k.1 l.1 ∙ points_both k.0 l.0 (k.2.dim_is ∙ eqb-true n m z.0 ∙ sym l.2.dim_is);
        left_is = k.2;
        right_is = subst (λ d. IsPointOf d l.0) (sym (eqb-true n m z.0)) l.2;
        gives = λ q f. (q, refl, f);
        seen = (i.0, ap₂ joined_type i.1 j.1);
      })
  pointly (t.Pt n) _ r t' u' x y e i j k l = absurd (none_some r e)
  pointly _ _ r t' u' x y e i j k l = absurd (none_some r e)

  -- two domains
  pub record Setly (r t' u' : ValueType) (x y : Held) : Type 0 where
    pub dims : ℕ
    pub is_domain : r ≡ t.Dm dims
    pub left : IsSet dims x
    pub right : IsSet dims y
    pub is : ((a : Rect) × (b : Rect) × (operands x y ≡ Rects a b)) ⊎ (operands x y ≡ Domains)
    pub seen : Seen r (joined_type t' u')

  setly : (a u r t' u' : ValueType) (x y : Held) → domain_type a u ≡ Some r → Seen a t' → Seen u u' → IsOf w a x → IsOf w u y → Setly r t' u' x y
  setly (t.Rc n) (t.Rc m) r t' u' x y e i j k l = by (n == m) refl e
    where
      by : (b : Bool) → (n == m) ≡ b → option_map t.Dm (if b then Some n else None) ≡ Some r → Setly r t' u' x y
      by true q e = record {
        dims = n;
        is_domain = sym (some_same _ r e);
        left = inl k;
        right = inl (subst (λ d. IsOf w (t.Rc d) y) (sym (eqb-true n m q)) l);
        is = inl (k.0, l.0, ap₂ operands k.1 l.1 ∙ rects_both k.0 l.0 (k.2.dim_is ∙ eqb-true n m q ∙ sym l.2.dim_is));
        seen = subst (λ z. Seen z (joined_type t' u')) (some_same _ r e) (i.0, ap₂ joined_type i.1 j.1);
      }
      by false q e = absurd (none_some r e)
  setly (t.Rc n) (t.Dm m) r t' u' x y e i j k l = by (n == m) refl e
    where
      by : (b : Bool) → (n == m) ≡ b → option_map t.Dm (if b then Some n else None) ≡ Some r → Setly r t' u' x y
      by true q e = record {
        dims = n;
        is_domain = sym (some_same _ r e);
        left = inl k;
        right = inr (subst (λ d. IsOf w (t.Dm d) y) (sym (eqb-true n m q)) l);
        is = inr (ap₂ operands k.1 l.1 ∙ domains_both k.0.dim m (k.2.dim_is ∙ eqb-true n m q));
        seen = subst (λ z. Seen z (joined_type t' u')) (some_same _ r e) (i.0, ap₂ joined_type i.1 j.1);
      }
      by false q e = absurd (none_some r e)
  setly (t.Dm n) (t.Rc m) r t' u' x y e i j k l = by (n == m) refl e
    where
      by : (b : Bool) → (n == m) ≡ b → option_map t.Dm (if b then Some n else None) ≡ Some r → Setly r t' u' x y
      by true q e = record {
        dims = n;
        is_domain = sym (some_same _ r e);
        left = inr k;
        right = inl (subst (λ d. IsOf w (t.Rc d) y) (sym (eqb-true n m q)) l);
        is = inr (ap₂ operands k.1 l.1 ∙ domains_both n l.0.dim (eqb-true n m q ∙ sym l.2.dim_is));
        seen = subst (λ z. Seen z (joined_type t' u')) (some_same _ r e) (i.0, ap₂ joined_type i.1 j.1);
      }
      by false q e = absurd (none_some r e)
  setly (t.Dm n) (t.Dm m) r t' u' x y e i j k l = by (n == m) refl e
    where
      by : (b : Bool) → (n == m) ≡ b → option_map t.Dm (if b then Some n else None) ≡ Some r → Setly r t' u' x y
      by true q e = record {
        dims = n;
        is_domain = sym (some_same _ r e);
        left = inr k;
        right = inr (subst (λ d. IsOf w (t.Dm d) y) (sym (eqb-true n m q)) l);
        is = inr (ap₂ operands k.1 l.1 ∙ domains_both n m (eqb-true n m q));
        seen = subst (λ z. Seen z (joined_type t' u')) (some_same _ r e) (i.0, ap₂ joined_type i.1 j.1);
      }
      by false q e = absurd (none_some r e)
  setly (t.Rc n) _ r t' u' x y e i j k l = absurd (none_some r e)
  setly (t.Dm n) _ r t' u' x y e i j k l = absurd (none_some r e)
  setly _ _ r t' u' x y e i j k l = absurd (none_some r e)

  sets_fine : (both : List Point → List Point → List Point) (at : Place) (n : ℕ) (x y : Held) → KeepsPoints both → IsSet n x
      → ((u : there.HeapTyping) → there.Grows w u → IsSet n y) → Sound p (λ u k. IsOf u (t.Dm n) k) w (of_domains both at x y)
  sets_fine both at n x y d k l =
      sound_then p (λ u h. IsOf u (t.Dm n) h) _ w (to_domain at x) _ (to_fine at n x k) (λ u g a h.
      sound_then p (λ u h. IsOf u (t.Dm n) h) _ u (to_domain at y) _ (later u (l u g)) (λ v i b j.
      subst (λ z. Sound p (λ u k. IsOf u (t.Dm n) k) v (domain_within at (dim_of z) (both (points_in z) (points_in b)))) (sym h.1)
      (subst (λ z. Sound p (λ u k. IsOf u (t.Dm n) k) v (domain_within at n (both h.0 (points_in z)))) (sym j.1)
      (sound_tested p _ v _ _ at (Dm n (both h.0 j.0)) (λ o. (both h.0 j.0, refl, kept d h.0 j.0 h.2 j.2 o))))))
    where
      kept : KeepsPoints both → (ps qs : List Point) → IsDomainOf n ps → IsDomainOf n qs → nat_le (length (both ps qs)) most_points ≡ true → IsDomainOf n (both ps qs)
      kept d ps qs a b o = let q = d n ps qs (a.points, a.rises) (b.points, b.rises) in record { points = q.0; rises = q.1; few = leb-true (length (both ps qs)) most_points o }

      later : (u : there.HeapTyping) → IsSet n y → Sound p (λ u k. IsOf u (t.Dm n) k) u (to_domain at y)
      later u (inl k) =
          subst (λ z. Sound p (λ u k. IsOf u (t.Dm n) k) u (to_domain at z)) (sym k.1)
          (sound_tested p _ u _ _ at _ (λ z. (points_of k.0, ap (λ d. Dm d (points_of k.0)) k.2.dim_is, rect_domain n k.0 k.2 z)))
      later u (inr k) = subst (λ z. Sound p (λ u k. IsOf u (t.Dm n) k) u (to_domain at z)) (sym k.1) (sound_value p _ u (Dm n k.0) (k.0, refl, k.2))

  -- ---- rows of the table

  -- what an operator comes to, and the type that the text gives it
  abbrev pub Operates : ValueType → ValueType → Comp Held → Type 0
  Operates r seen m = Sound p (λ u h. IsOf u r h) w m × Seen r seen

  from_or : (a b : Option ValueType) (r : ValueType) → option_or a b ≡ Some r → (a ≡ Some r) ⊎ (b ≡ Some r)
  from_or None b r e = inr e
  from_or (Some x) b r e = inl e

  whole_seen : (r s : ValueType) → (r ≡ t.Int) ⊎ (r ≡ t.Long) → s ≡ r → Seen r s
  whole_seen r s (inl e) h = subst (λ z. Seen z s) (sym e) (h ∙ e)
  whole_seen r s (inr e) h = subst (λ z. Seen z s) (sym e) (h ∙ e)

  is_number : (a u r : ValueType) → whole_type a u ≡ Some r → (r ≡ t.Int) ⊎ (r ≡ t.Long)
  is_number t.Int t.Int r e = inl (sym (some_same t.Int r e))
  is_number t.Int t.Long r e = inr (sym (some_same t.Long r e))
  is_number t.Long t.Int r e = inr (sym (some_same t.Long r e))
  is_number t.Long t.Long r e = inr (sym (some_same t.Long r e))
  is_number t.Int _ r e = absurd (none_some r e)
  is_number t.Long _ r e = absurd (none_some r e)
  is_number _ _ r e = absurd (none_some r e)

  module _ (at : Place) (a u r t' u' : ValueType) (x y : Held) (i : Seen a t') (j : Seen u u') (k : IsOf w a x) (l : IsOf w u y) where
    sets_here : (both : List Point → List Point → List Point) → KeepsPoints both → (q : Setly r t' u' x y) → Sound p (λ u h. IsOf u r h) w (of_domains both at x y)
    sets_here both d q = subst (λ z. Sound p (λ u h. IsOf u z h) w (of_domains both at x y)) (sym q.is_domain) (sets_fine both at q.dims x y d q.left (λ u g. q.right))

    added_fine : row_type Sum a u ≡ Some r → Operates r (joined_type t' u') (add_values at x y (operands x y))
    added_fine e = by (from_or (whole_type a u) _ r e)
      where
        at_sets : (q : Setly r t' u' x y) → ((c : Rect) × (b : Rect) × (operands x y ≡ Rects c b)) ⊎ (operands x y ≡ Domains) → Sound p (λ u h. IsOf u r h) w (add_values at x y (operands x y))
        at_sets q (inl z) = subst (λ o. Sound p (λ u h. IsOf u r h) w (add_values at x y o)) (sym z.2) (sets_here union union_points_kept q)
        at_sets q (inr z) = subst (λ o. Sound p (λ u h. IsOf u r h) w (add_values at x y o)) (sym z) (sets_here union union_points_kept q)

        other : (point_type a u ≡ Some r) ⊎ (domain_type a u ≡ Some r) → Operates r (joined_type t' u') (add_values at x y (operands x y))
        other (inl z) =
            let q = pointly a u r t' u' x y z i j k l in (
              subst (λ o. Sound p (λ u h. IsOf u r h) w (add_values at x y o)) (sym q.is)
                  (sound_value p _ w _ (q.gives (pt_sum q.left q.right) (sum_point q.dims q.left q.right q.left_is q.right_is))),
              q.seen,
            )
        other (inr z) = let q = setly a u r t' u' x y z i j k l in (at_sets q q.is, q.seen)

        by : (whole_type a u ≡ Some r) ⊎ (option_or (point_type a u) (domain_type a u) ≡ Some r) → Operates r (joined_type t' u') (add_values at x y (operands x y))
        by (inl z) =
            let q = wholly a u r t' u' x y z i j k l in
            (subst (λ o. Sound p (λ u h. IsOf u r h) w (add_values at x y o)) (sym q.is) (sound_value p _ w _ (q.gives _ (wraps_fit q.width _))), whole_seen r _ (is_number a u r z) q.seen)
        by (inr z) = other (from_or (point_type a u) (domain_type a u) r z)

    subtracted_fine : row_type Sum a u ≡ Some r → Operates r (joined_type t' u') (subtract_values at x y (operands x y))
    subtracted_fine e = by (from_or (whole_type a u) _ r e)
      where
        at_sets : (q : Setly r t' u' x y) → ((c : Rect) × (b : Rect) × (operands x y ≡ Rects c b)) ⊎ (operands x y ≡ Domains) → Sound p (λ u h. IsOf u r h) w (subtract_values at x y (operands x y))
        at_sets q (inl z) = subst (λ o. Sound p (λ u h. IsOf u r h) w (subtract_values at x y o)) (sym z.2) (sets_here minus minus_points_kept q)
        at_sets q (inr z) = subst (λ o. Sound p (λ u h. IsOf u r h) w (subtract_values at x y o)) (sym z) (sets_here minus minus_points_kept q)

        other : (point_type a u ≡ Some r) ⊎ (domain_type a u ≡ Some r) → Operates r (joined_type t' u') (subtract_values at x y (operands x y))
        other (inl z) =
            let q = pointly a u r t' u' x y z i j k l in (
              subst (λ o. Sound p (λ u h. IsOf u r h) w (subtract_values at x y o)) (sym q.is)
                  (sound_value p _ w _ (q.gives (pt_difference q.left q.right)
                  (difference_point q.dims q.left q.right q.left_is q.right_is))),
              q.seen,
            )
        other (inr z) = let q = setly a u r t' u' x y z i j k l in (at_sets q q.is, q.seen)

        by : (whole_type a u ≡ Some r) ⊎ (option_or (point_type a u) (domain_type a u) ≡ Some r) → Operates r (joined_type t' u') (subtract_values at x y (operands x y))
        by (inl z) =
            let q = wholly a u r t' u' x y z i j k l in
            (subst (λ o. Sound p (λ u h. IsOf u r h) w (subtract_values at x y o)) (sym q.is) (sound_value p _ w _ (q.gives _ (wraps_fit q.width _))), whole_seen r _ (is_number a u r z) q.seen)
        by (inr z) = other (from_or (point_type a u) (domain_type a u) r z)

    multiplied_fine : option_or (whole_type a u) (option_or (rect_type a u) (domain_type a u)) ≡ Some r → Operates r (product_type t' u') (multiply_values at x y (operands x y))
    multiplied_fine e = by (from_or (whole_type a u) _ r e)
      where
        rects : (a u : ValueType) → rect_type a u ≡ Some r → Seen a t' → Seen u u' → IsOf w a x → IsOf w u y → Operates r (product_type t' u') (multiply_values at x y (operands x y))
        rects (t.Rc n) (t.Rc m) z i j k l =
            let q = where_some (n == m) (t.Rc n) r z in
            subst (λ z. Operates z (product_type t' u') (multiply_values at x y (operands x y))) q.1 (
              subst (λ o. Sound p (λ u h. IsOf u (t.Rc n) h) w (multiply_values at x y o)) (sym (ap₂ operands k.1 l.1 ∙ rects_both k.0 l.0 (k.2.dim_is ∙ eqb-true n m q.0 ∙ sym l.2.dim_is)))
                  (sound_value p _ w _ (rect.meet k.0 l.0, refl, meet_form n k.0 l.0 k.2 (subst (λ d. IsRectOf d l.0) (sym (eqb-true n m q.0)) l.2))),
              (i.0, ap₂ product_type i.1 j.1),
            )
        rects (t.Rc n) _ z i j k l = absurd (none_some r z)
        rects _ _ z i j k l = absurd (none_some r z)

        -- what is no pair of rectangular domains
        joined : (a u : ValueType) → domain_type a u ≡ Some r → Seen a t' → Seen u u' → Seen r (joined_type t' u') → Seen r (product_type t' u') ⊎ ((n : ℕ) × (m : ℕ) × (a ≡ t.Rc n) × (u ≡ t.Rc m))
        joined (t.Rc n) (t.Rc m) z i j h = inr (n, m, refl, refl)
        joined (t.Rc n) (t.Dm m) z i j h = inl (subst (λ q. Seen r q) (ap₂ joined_type i.1 j.1 ∙ sym (ap₂ product_type i.1 j.1)) h)
        joined (t.Dm n) (t.Rc m) z i j h = inl (subst (λ q. Seen r q) (ap₂ joined_type i.1 j.1 ∙ sym (ap₂ product_type i.1 j.1)) h)
        joined (t.Dm n) (t.Dm m) z i j h = inl (subst (λ q. Seen r q) (ap₂ joined_type i.1 j.1 ∙ sym (ap₂ product_type i.1 j.1)) h)
        joined (t.Rc n) _ z i j h = absurd (none_some r z)
        joined (t.Dm n) _ z i j h = absurd (none_some r z)
        joined _ _ z i j h = absurd (none_some r z)

        -- two rectangular domains of one dimension have a rectangular meet
        not_both : (n m : ℕ) → a ≡ t.Rc n → u ≡ t.Rc m → domain_type a u ≡ Some r → (rect_type a u ≡ None) → ⊥
        not_both n m b c z q = go (n == m) refl
          where
            dm : domain_type (t.Rc n) (t.Rc m) ≡ Some r
            dm = sym (ap₂ domain_type b c) ∙ z

            rc : rect_type (t.Rc n) (t.Rc m) ≡ None
            rc = sym (ap₂ rect_type b c) ∙ q

            some_none : (z : ValueType) → Some z ≡ None → ⊥
            some_none z e = cc

            go : (h : Bool) → (n == m) ≡ h → ⊥
            go true h = some_none (t.Rc n) (sym (ap (λ g. if g then Some (t.Rc n) else None) h) ∙ rc)
            go false h = none_some r (sym (ap (λ g. option_map t.Dm (if g then Some n else None)) h) ∙ dm)

        at_sets : (q : Setly r t' u' x y) → ((c : Rect) × (b : Rect) × (operands x y ≡ Rects c b)) ⊎ (operands x y ≡ Domains)
            → rect_type a u ≡ None → domain_type a u ≡ Some r → Operates r (product_type t' u') (multiply_values at x y (operands x y))
        at_sets q o n z = go (joined a u z i j q.seen) o
          where
            two : (n m : ℕ) → a ≡ t.Rc n → u ≡ t.Rc m → Operates r (product_type t' u') (multiply_values at x y (operands x y))
            two d m b c = absurd (not_both d m b c z n)

            no_rects : (a u : ValueType) → domain_type a u ≡ Some r → IsOf w a x → IsOf w u y → (operands x y ≡ Domains) ⊎ ((n : ℕ) × (m : ℕ) × (a ≡ t.Rc n) × (u ≡ t.Rc m))
            no_rects (t.Rc n) (t.Rc m) z k l = inr (n, m, refl, refl)
            no_rects (t.Rc n) (t.Dm m) z k l = inl (ap₂ operands k.1 l.1 ∙ domains_both k.0.dim m (k.2.dim_is ∙ eqb-true n m (dims_same (n == m) n r z)))
            no_rects (t.Dm n) (t.Rc m) z k l = inl (ap₂ operands k.1 l.1 ∙ domains_both n l.0.dim (eqb-true n m (dims_same (n == m) n r z) ∙ sym l.2.dim_is))
            no_rects (t.Dm n) (t.Dm m) z k l = inl (ap₂ operands k.1 l.1 ∙ domains_both n m (eqb-true n m (dims_same (n == m) n r z)))
            no_rects (t.Rc n) _ z k l = absurd (none_some r z)
            no_rects (t.Dm n) _ z k l = absurd (none_some r z)
            no_rects _ _ z k l = absurd (none_some r z)

            found : Seen r (product_type t' u') → (operands x y ≡ Domains) ⊎ ((n : ℕ) × (m : ℕ) × (a ≡ t.Rc n) × (u ≡ t.Rc m)) → Operates r (product_type t' u') (multiply_values at x y (operands x y))
            found h (inl d) = (subst (λ o. Sound p (λ u h. IsOf u r h) w (multiply_values at x y o)) (sym d) (sets_here meet meet_points_kept q), h)
            found h (inr g) = two g.0 g.1 g.2 g.3

            go : Seen r (product_type t' u') ⊎ ((n : ℕ) × (m : ℕ) × (a ≡ t.Rc n) × (u ≡ t.Rc m))
                → ((c : Rect) × (b : Rect) × (operands x y ≡ Rects c b)) ⊎ (operands x y ≡ Domains)
                → Operates r (product_type t' u') (multiply_values at x y (operands x y))
            go (inr g) o = two g.0 g.1 g.2 g.3
            go (inl h) o = found h (no_rects a u z k l)

        other : (o : Option ValueType) → rect_type a u ≡ o → option_or o (domain_type a u) ≡ Some r → Operates r (product_type t' u') (multiply_values at x y (operands x y))
        other (Some z) q h = rects a u (q ∙ h) i j k l
        other None q h = let s = setly a u r t' u' x y h i j k l in at_sets s s.is q h

        numbers : (a u : ValueType) → whole_type a u ≡ Some r → Seen a t' → Seen u u' → joined_type t' u' ≡ product_type t' u'
        numbers t.Int t.Int z i j = ap₂ joined_type i j ∙ sym (ap₂ product_type i j)
        numbers t.Int t.Long z i j = ap₂ joined_type i j ∙ sym (ap₂ product_type i j)
        numbers t.Long t.Int z i j = ap₂ joined_type i j ∙ sym (ap₂ product_type i j)
        numbers t.Long t.Long z i j = ap₂ joined_type i j ∙ sym (ap₂ product_type i j)
        numbers t.Int _ z i j = absurd (none_some r z)
        numbers t.Long _ z i j = absurd (none_some r z)
        numbers _ _ z i j = absurd (none_some r z)

        by : (whole_type a u ≡ Some r) ⊎ (option_or (rect_type a u) (domain_type a u) ≡ Some r) → Operates r (product_type t' u') (multiply_values at x y (operands x y))
        by (inl z) =
            let q = wholly a u r t' u' x y z i j k l in (
              subst (λ o. Sound p (λ u h. IsOf u r h) w (multiply_values at x y o)) (sym q.is)
                  (sound_value p _ w _ (q.gives _ (wraps_fit q.width _))),
              whole_seen r _ (is_number a u r z) (sym (numbers a u z i j) ∙ q.seen),
            )
        by (inr z) = other (rect_type a u) refl z

    divided_fine : (f : Width → ℤ → ℤ → ℤ) → ((w : Width) (m n : ℤ) → Fits w m → Fits w (f w m n)) → whole_type a u ≡ Some r → Operates r (joined_type t' u') (divide_values f at (operands x y))
    divided_fine f d z =
        let q = wholly a u r t' u' x y z i j k l in
        (subst (λ o. Sound p (λ u h. IsOf u r h) w (divide_values f at o)) (sym q.is) (sound_guarded p _ w _ _ at _ (q.gives _ (d q.width q.left q.right q.fits))), whole_seen r _ (is_number a u r z) q.seen)

    combined_fine : (f : ℕ → ℕ → ℕ) (g : Bool → Bool → Bool) → option_or (whole_type a u) (truth_type a u) ≡ Some r → Operates r (joined_type t' u') (gives (bitwise_values f g (operands x y)))
    combined_fine f g e = by (from_or (whole_type a u) _ r e)
      where
        truths : (a u : ValueType) → truth_type a u ≡ Some r → Seen a t' → Seen u u' → IsOf w a x → IsOf w u y → Operates r (joined_type t' u') (gives (bitwise_values f g (operands x y)))
        truths t.Boolean t.Boolean z i j k l =
            subst (λ q. Operates q (joined_type t' u') (gives (bitwise_values f g (operands x y)))) (some_same t.Boolean r z)
            (sound_value p _ w _ (g k.0 l.0, ap (bitwise_values f g) (ap₂ operands k.1 l.1)), ap₂ joined_type i j)
        truths t.Boolean _ z i j k l = absurd (none_some r z)
        truths _ _ z i j k l = absurd (none_some r z)

        by : (whole_type a u ≡ Some r) ⊎ (truth_type a u ≡ Some r) → Operates r (joined_type t' u') (gives (bitwise_values f g (operands x y)))
        by (inl z) =
            let q = wholly a u r t' u' x y z i j k l in
            (subst (λ o. Sound p (λ u h. IsOf u r h) w (gives (bitwise_values f g o))) (sym q.is) (sound_value p _ w _ (q.gives _ (wraps_fit q.width _))), whole_seen r _ (is_number a u r z) q.seen)
        by (inr z) = truths a u z i j k l

    shifted_fine : (f : Width → ℤ → ℤ → ℤ) → ((w : Width) (m n : ℤ) → Fits w m → Fits w (f w m n)) → where_true (is_whole a && is_whole u) a ≡ Some r → Operates r t' (gives (shift_value f x y))
    shifted_fine f d e = let z = where_some (is_whole a && is_whole u) a r e in subst (λ q. Operates q t' (gives (shift_value f x y))) z.1 (by a (and_left _ _ z.0) k, i)
      where
        by : (a : ValueType) → is_whole a ≡ true → IsOf w a x → Sound p (λ u h. IsOf u a h) w (gives (shift_value f x y))
        by t.Int h k = sound_value p _ w _ (f w32 k.0 _, ap (λ z. shift_value f z y) k.1, d w32 k.0 _ k.2)
        by t.Long h k = sound_value p _ w _ (f w64 k.0 _, ap (λ z. shift_value f z y) k.1, d w64 k.0 _ k.2)
        by _ h k = false_true h

    compared_fine : (test : ℤ → ℤ → Bool) (b : Bool) → where_true b t.Boolean ≡ Some r → Operates r t.Boolean (gives (compare_values test (operands x y)))
    compared_fine test b e =
        let z = where_some b t.Boolean r e in
        subst (λ q. Operates q t.Boolean (gives (compare_values test (operands x y)))) z.1 (sound_value p _ w _ (by (operands x y)), refl)
      where
        by : (o : Operands) → (b : Bool) × (compare_values test o ≡ truth b)
        by (Wholes q m n) = (_, refl)
        by (Points m n) = (_, refl)
        by _ = (false, refl)

    equal_any : (o : Operands) → Sound p (λ u b. Unit {0}) w (equal at x y o)
    equal_any Domains = sound_then p (λ u h. Unit {0}) _ w (to_domain at x) _ (to_any at x) (λ u g d h. weaker p _ _ u _ (tail u d) (λ v i b q. tt))
      where
        any_there : (u : there.HeapTyping) (z : Held) → Sound p (λ u k. Unit {0}) u (to_domain at z)
        any_there u (Plain (v.Rc r)) = sound_guarded p _ u _ _ at _ tt
        any_there u (Plain (v.Int n)) = sound_value p _ u _ tt
        any_there u (Plain (v.Long n)) = sound_value p _ u _ tt
        any_there u (Plain (v.Bool b)) = sound_value p _ u _ tt
        any_there u (Plain (v.Pt q)) = sound_value p _ u _ tt
        any_there u (Plain (v.Region n)) = sound_value p _ u _ tt
        any_there u (Plain (v.Obj o)) = sound_value p _ u _ tt
        any_there u (Plain (v.Grid o)) = sound_value p _ u _ tt
        any_there u (Dm n ps) = sound_value p _ u _ tt

        tail : (u : there.HeapTyping) (d : Held) → Sound p (λ u b. Unit {0}) u (to_domain at y >>= λ e. gives (same_points (points_in d) (points_in e)))
        tail u d = sound_then p (λ u h. Unit {0}) _ u (to_domain at y) _ (any_there u y) (λ v g e h. sound_value p _ v _ tt)
    equal_any (Wholes q m n) = sound_value p _ w _ tt
    equal_any (Truths m n) = sound_value p _ w _ tt
    equal_any (Points m n) = sound_value p _ w _ tt
    equal_any (Rects m n) = sound_value p _ w _ tt
    equal_any (Things m n) = sound_value p _ w _ tt
    equal_any (Regions m n) = sound_value p _ w _ tt
    equal_any Others = sound_value p _ w _ tt

    equal_fine : (g : Bool → Bool) (b : Bool) → where_true b t.Boolean ≡ Some r → Operates r t.Boolean (equal at x y (operands x y) >>= λ z. gives (truth (g z)))
    equal_fine g b e =
        let z = where_some b t.Boolean r e in
        subst (λ q. Operates q t.Boolean (equal at x y (operands x y) >>= λ z. gives (truth (g z)))) z.1
        (sound_then p (λ u b. Unit {0}) _ w (equal at x y (operands x y)) _ (equal_any (operands x y)) (λ u i b h. sound_value p _ u _ (g b, refl)), refl)

    logic_fine : truth_type a u ≡ Some r → Operates r t.Boolean (gives y)
    logic_fine e = by a u e l
      where
        by : (a u : ValueType) → truth_type a u ≡ Some r → IsOf w u y → Operates r t.Boolean (gives y)
        by t.Boolean t.Boolean e l = subst (λ q. Operates q t.Boolean (gives y)) (some_same t.Boolean r e) (sound_value p _ w y l, refl)
        by t.Boolean _ e l = absurd (none_some r e)
        by _ _ e l = absurd (none_some r e)

    pub operated_fine : (o : BinaryOperator) → binary_type o a u ≡ Some r → Operates r (operator_type o t' u') (apply_binary at o x y)
    operated_fine op.OrElse e = logic_fine e
    operated_fine op.AndThen e = logic_fine e
    operated_fine op.Or e = combined_fine bit_or (λ a b. a || b) e
    operated_fine op.Xor e = combined_fine bit_xor (λ a b. not (same_truth a b)) e
    operated_fine op.And e = combined_fine bit_and (λ a b. a && b) e
    operated_fine op.Equal e = equal_fine (λ b. b) _ e
    operated_fine op.NotEqual e = equal_fine not _ e
    operated_fine op.Less e = compared_fine _ _ e
    operated_fine op.LessEqual e = compared_fine _ _ e
    operated_fine op.Greater e = compared_fine _ _ e
    operated_fine op.GreaterEqual e = compared_fine _ _ e
    operated_fine op.ShiftLeft e = shifted_fine shift_left (λ w m n f. wraps_fit w _) e
    operated_fine op.ShiftRight e = shifted_fine shift_right (λ w m n f. rounded_fits w m (2 ^ shift_count w n) f) e
    operated_fine op.UnsignedShiftRight e = shifted_fine shift_right_unsigned (λ w m n f. wraps_fit w _) e
    operated_fine op.Add e = added_fine e
    operated_fine op.Subtract e = subtracted_fine e
    operated_fine op.Multiply e = multiplied_fine e
    operated_fine op.Divide e = divided_fine (λ w m n. wrap w (quotient m n)) (λ w m n f. wraps_fit w _) e
    operated_fine op.Remainder e = divided_fine (λ w m n. remainder m n) (λ w m n f. remainder_fits w m n f) e

  -- ---- operators in expressions

  -- what the left operand alone tells
  settled_fine : (o : BinaryOperator) (a u r : ValueType) (x z : Held) → binary_type o a u ≡ Some r → short_circuit o x ≡ Some z → IsOf w r z
  settled_fine o a u r x z e k = by o e k
    where
      logic : (a u : ValueType) → truth_type a u ≡ Some r → (b : Bool) → truth b ≡ z → IsOf w r z
      logic t.Boolean t.Boolean e b k = subst (λ q. IsOf w q z) (some_same t.Boolean r e) (b, sym k)
      logic t.Boolean _ e b k = absurd (none_some r e)
      logic _ _ e b k = absurd (none_some r e)

      left_or : (b : Bool) → (if b then Some (truth true) else None) ≡ Some z → (c : Bool) × (truth c ≡ z)
      left_or true k = (true, some_same _ z k)
      left_or false k = absurd (none_some z k)

      left_and : (b : Bool) → (if b then None else Some (truth false)) ≡ Some z → (c : Bool) × (truth c ≡ z)
      left_and true k = absurd (none_some z k)
      left_and false k = (false, some_same _ z k)

      by : (o : BinaryOperator) → binary_type o a u ≡ Some r → short_circuit o x ≡ Some z → IsOf w r z
      by op.OrElse e k = let q = left_or (truth_of x) k in logic a u e q.0 q.1
      by op.AndThen e k = let q = left_and (truth_of x) k in logic a u e q.0 q.1
      by _ e k = absurd (none_some z k)

  pub right_fine : (at : Place) (o : BinaryOperator) (a u r : ValueType) (x : Held) (right : Comp Held) → binary_type o a u ≡ Some r → Sound p (λ v h. IsOf v u h) w right
      → ((v : there.HeapTyping) → there.Grows w v → (y : Held) → IsOf v u y → Sound p (λ z h. IsOf z r h) v (apply_binary at o x y)) → Sound p (λ v h. IsOf v r h) w (with_right at o x right)
  right_fine at o a u r x right e k f = by (short_circuit o x) refl
    where
      by : (z : Option Held) → short_circuit o x ≡ z → Sound p (λ v h. IsOf v r h) w (unless_settled z (right >>= λ y. apply_binary at o x y))
      by (Some z) q = sound_value p _ w z (settled_fine o a u r x z e q)
      by None q = sound_then p (λ v h. IsOf v u h) (λ v h. IsOf v r h) w right _ k f

  pub alone_fine : (o : UnaryOperator) (a r t' : ValueType) (x : Held) → unary_type o a ≡ Some r → Seen a t' → IsOf w a x → IsOf w r (operated_alone o x) × Seen r t'
  alone_fine un.Not t.Boolean r t' x e i k = subst (λ q. IsOf w q (operated_alone un.Not x) × Seen q t') (some_same t.Boolean r e) ((_, refl), i)
  alone_fine un.Not _ r t' x e i k = absurd (none_some r e)
  alone_fine un.Plus a r t' x e i k = let z = where_some (is_whole a) a r e in subst (λ q. IsOf w q x × Seen q t') z.1 (k, i)
  alone_fine un.Minus a r t' x e i k = let z = where_some (is_whole a) a r e in subst (λ q. IsOf w q (operated_alone un.Minus x) × Seen q t') z.1 (by a z.0 k, i)
    where
      by : (a : ValueType) → is_whole a ≡ true → IsOf w a x → IsOf w a (operated_alone un.Minus x)
      by t.Int h k = (_, ap (operated_alone un.Minus) k.1, wraps_fit w32 _)
      by t.Long h k = (_, ap (operated_alone un.Minus) k.1, wraps_fit w64 _)
      by _ h k = false_true h
  alone_fine un.Complement a r t' x e i k = let z = where_some (is_whole a) a r e in subst (λ q. IsOf w q (operated_alone un.Complement x) × Seen q t') z.1 (by a z.0 k, i)
    where
      by : (a : ValueType) → is_whole a ≡ true → IsOf w a x → IsOf w a (operated_alone un.Complement x)
      by t.Int h k = (_, ap (operated_alone un.Complement) k.1, complement_fits w32 k.0 k.2)
      by t.Long h k = (_, ap (operated_alone un.Complement) k.1, complement_fits w64 k.0 k.2)
      by _ h k = false_true h

  -- ---- casts

  -- what is left of a cast is that a local reference is one
  pub cast_fine : (at : Place) (to a : ValueType) (h : Held) → casts to a ≡ true → IsOf w a h → Sound p (λ x k. IsOf x (as_global to) k) w (converted at to h)
  cast_fine at to a h f k = by (or_either _ _ f)
    where
      whole : (to a : ValueType) → (is_whole to && is_whole a) ≡ true → IsOf w a h → Sound p (λ x k. IsOf x (as_global to) k) w (converted at to h)
      whole t.Int t.Int f k = sound_value p _ w _ (k.0, ap (as_type t.Int) k.1, k.2)
      whole t.Int t.Long f k = sound_value p _ w _ (_, ap (as_type t.Int) k.1, wraps_fit w32 _)
      whole t.Long t.Int f k = sound_value p _ w _ (_, ap (as_type t.Long) k.1, widens k.0 k.2)
      whole t.Long t.Long f k = sound_value p _ w _ (k.0, ap (as_type t.Long) k.1, k.2)
      whole t.Int _ f k = false_true f
      whole t.Long _ f k = false_true f
      whole _ _ f k = false_true f

      null : (to a : ValueType) → (is_reference to && is_null a) ≡ true → IsOf w a h → Sound p (λ x k. IsOf x (as_global to) k) w (converted at to h)
      null (t.Class c l) t.Null f k = weaker p _ _ w _ (converted_fine at t.Null (t.Class c l) (t.Class c l) h refl refl k) (λ x g i o. to_global x (t.Class c l) i o)
      null (t.Grid e n l) t.Null f k = weaker p _ _ w _ (converted_fine at t.Null (t.Grid e n l) (t.Grid e n l) h refl refl k) (λ x g i o. to_global x (t.Grid e n l) i o)
      null (t.Class c l) _ f k = false_true f
      null (t.Grid e n l) _ f k = false_true f
      null _ _ f k = false_true f

      -- equal but for the local of the reference itself
      global : (to a : ValueType) → as_global to ≡ as_global a → IsOf w a h → IsOf w (as_global to) h
      global to a q k = subst (λ z. IsOf w z h) (sym q) (to_global w a h k)

      same : (to : ValueType) → IsOf w (as_global to) h → Sound p (λ x k. IsOf x (as_global to) k) w (converted at to h)
      same t.Int k = sound_value p _ w _ (k.0, ap (as_type t.Int) k.1, k.2)
      same t.Long k = sound_value p _ w _ (k.0, ap (as_type t.Long) k.1, k.2)
      same (t.Dm n) k = to_fine at n h (inr k)
      same (t.Class c l) k = subst (λ y. Sound p (λ x k. IsOf x (t.Class c false) k) w (gives (as_type (t.Class c l) y))) (sym k.1) (sound_value p _ w _ (k.0, refl, k.2, k.3))
      same (t.Grid e n l) k = subst (λ y. Sound p (λ x k. IsOf x (t.Grid e n false) k) w (gives (as_type (t.Grid e n l) y))) (sym k.1) (sound_value p _ w _ (k.0, refl, k.2, k.3))
      same t.Void k = sound_value p _ w h tt
      same _ k = sound_value p _ w h k

      by : ((same_type (as_global to) (as_global a) || (is_reference to && is_null a)) ≡ true) ⊎ ((is_whole to && is_whole a) ≡ true) → Sound p (λ x k. IsOf x (as_global to) k) w (converted at to h)
      by (inr q) = whole to a q k
      by (inl q) = other (or_either _ _ q)
        where
          other : (same_type (as_global to) (as_global a) ≡ true) ⊎ ((is_reference to && is_null a) ≡ true) → Sound p (λ x k. IsOf x (as_global to) k) w (converted at to h)
          other (inl q) = same to (global to a (type_same (as_global to) (as_global a) q) k)
          other (inr q) = null to a q k
