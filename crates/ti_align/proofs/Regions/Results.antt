-- What operators and literals give is a number, a boolean, a point or a domain.
use Rattle.std.proofs.Common.{◌≡◌, inl, inr, ℕ, ◌==◌, Bool, true, false, ◌&&◌, if◌then◌else◌, Option, Some, None, List, ◌∷◌, sym, subst}
use Rattle.std.specs.Option.{option_or}
use Rattle.ti_syntax.specs.declared.tree.exprs.UnaryOperator.{UnaryOperator}
use Rattle.ti_syntax.specs.declared.tree.exprs.UnaryOperator.TheVariants as un
use Rattle.ti_lang.specs.Program.Types.{ValueType}
use Rattle.ti_lang.specs.Program.Types as t
use Rattle.ti_lang.specs.Typing.Kinds.{is_whole, domain_dim}
use Rattle.ti_lang.specs.Typing.Operators.{wider, whole_type, truth_type, point_type, rect_type, same_dim, domain_type, are_ordered, are_comparable, Row, Sum, Product, Quotient, Shift, Bits, Logic, Order, Equality, row_type, unary_type}
use Rattle.ti_lang.specs.Typing.Expressions.{all_ints, all_points, range_of_points, rect_literal}
use Rattle.ti_align.proofs.Runs.Vars.{true_false, and_left}
use Rattle.ti_align.proofs.RunTypes.Operating.{none_some, some_same, where_some}
use Rattle.ti_align.proofs.RunTypes.Evaluating.{mapped, from_or}

-- a test that none of these types passes
pub record NoneOf (test : ValueType → Bool) : Type 0 where
  pub int : test t.Int ≡ false
  pub long : test t.Long ≡ false
  pub truth : test t.Boolean ≡ false
  pub point : (n : ℕ) → test (t.Pt n) ≡ false
  pub rect : (n : ℕ) → test (t.Rc n) ≡ false
  pub domain : (n : ℕ) → test (t.Dm n) ≡ false

pub either : {A : Type 0} (a b : Option ValueType) (r : ValueType) → option_or a b ≡ Some r → (a ≡ Some r → A) → (b ≡ Some r → A) → A
either a b r h f g = elim (from_or a b r h) [ inl x ↦ f x | inr x ↦ g x ]

-- no type that an operator or a literal gives passes it
module _ (test : ValueType → Bool) (none : NoneOf test) where
  abbrev Plain : ValueType → Type 0
  Plain r = test r ≡ false

  pub whole_plain : (a u r : ValueType) → whole_type a u ≡ Some r → Plain r
  whole_plain a u r h = subst Plain (where_some (is_whole a && is_whole u) (wider a u) r h).1 (by a u)
    where
      by : (a u : ValueType) → Plain (wider a u)
      by t.Int t.Int = none.int
      by t.Int _ = none.long
      by _ _ = none.long

  pub point_plain : (a u r : ValueType) → point_type a u ≡ Some r → Plain r
  point_plain (t.Pt n) (t.Pt m) r h = subst Plain (where_some (n == m) (t.Pt n) r h).1 (none.point _)
  point_plain (t.Pt n) _ r h = absurd (none_some r h)
  point_plain _ _ r h = absurd (none_some r h)

  pub rect_plain : (a u r : ValueType) → rect_type a u ≡ Some r → Plain r
  rect_plain (t.Rc n) (t.Rc m) r h = subst Plain (where_some (n == m) (t.Rc n) r h).1 (none.rect _)
  rect_plain (t.Rc n) _ r h = absurd (none_some r h)
  rect_plain _ _ r h = absurd (none_some r h)

  pub domain_plain : (a u r : ValueType) → domain_type a u ≡ Some r → Plain r
  domain_plain a u r h = subst Plain (mapped t.Dm (same_dim (domain_dim a) (domain_dim u)) r h).2 (none.domain _)

  pub truth_plain : (a u r : ValueType) → truth_type a u ≡ Some r → Plain r
  truth_plain t.Boolean t.Boolean r h = subst Plain (some_same t.Boolean r h) none.truth
  truth_plain t.Boolean _ r h = absurd (none_some r h)
  truth_plain _ _ r h = absurd (none_some r h)

  pub whole_is : (a : ValueType) → is_whole a ≡ true → Plain a
  whole_is t.Int h = none.int
  whole_is t.Long h = none.long
  whole_is _ h = absurd (true_false (sym h))

  pub row_plain : (row : Row) (a u r : ValueType) → row_type row a u ≡ Some r → Plain r
  row_plain Sum a u r h = either (whole_type a u) _ r h (whole_plain a u r) (λ k. either (point_type a u) (domain_type a u) r k (point_plain a u r) (domain_plain a u r))
  row_plain Product a u r h = either (whole_type a u) _ r h (whole_plain a u r) (λ k. either (rect_type a u) (domain_type a u) r k (rect_plain a u r) (domain_plain a u r))
  row_plain Quotient a u r h = whole_plain a u r h
  row_plain Shift a u r h = let q = where_some (is_whole a && is_whole u) a r h in subst Plain q.1 (whole_is a (and_left (is_whole a) _ q.0))
  row_plain Bits a u r h = either (whole_type a u) (truth_type a u) r h (whole_plain a u r) (truth_plain a u r)
  row_plain Logic a u r h = truth_plain a u r h
  row_plain Order a u r h = subst Plain (where_some (are_ordered a u) t.Boolean r h).1 none.truth
  row_plain Equality a u r h = subst Plain (where_some (are_comparable a u) t.Boolean r h).1 none.truth

  pub unary_plain : (o : UnaryOperator) (a r : ValueType) → unary_type o a ≡ Some r → Plain r
  unary_plain un.Not t.Boolean r h = subst Plain (some_same t.Boolean r h) none.truth
  unary_plain un.Not _ r h = absurd (none_some r h)
  unary_plain un.Plus a r h = let q = where_some (is_whole a) a r h in subst Plain q.1 (whole_is a q.0)
  unary_plain un.Minus a r h = let q = where_some (is_whole a) a r h in subst Plain q.1 (whole_is a q.0)
  unary_plain un.Complement a r h = let q = where_some (is_whole a) a r h in subst Plain q.1 (whole_is a q.0)

  pub range_plain : (ts : List ValueType) (r : ValueType) → range_of_points ts ≡ Some r → Plain r
  range_plain (t.Pt n ∷ ts) r h = subst Plain (where_some (all_points n ts) (t.Rc n) r h).1 (none.rect _)
  range_plain _ r h = absurd (none_some r h)

  pub rects_plain : (n : ℕ) (ts : List ValueType) (r : ValueType) → rect_literal n ts ≡ Some r → Plain r
  rects_plain n ts r h = by (all_ints ts) (n == 1) h
    where
      by : (a b : Bool) → (if a then Some (t.Rc n) else if b then range_of_points ts else None) ≡ Some r → Plain r
      by true b h = subst Plain (some_same (t.Rc n) r h) (none.rect _)
      by false true h = range_plain ts r h
      by false false h = absurd (none_some r h)
