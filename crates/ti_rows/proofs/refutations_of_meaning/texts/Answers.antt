use Rattle.std.proofs.Common.{◌≡◌, ℕ, List, [], ◌∷◌, ◌++◌, Some, refl, ap, arith}
use Rattle.ti_syntax.specs.declared.token.Token.{Token}
use Rattle.ti_syntax.specs.Trees.Expressions.{Exp}
use Rattle.ti_syntax.specs.Spelling.Expressions.{Ending, Whole, Prefixed, Postfixed}
use Rattle.ti_syntax.specs.Spelling.Expressions as s
use Rattle.ti_lang.specs.Program.Types as ty
use Rattle.ti_lang.specs.Program.Types.{ValueType}
use Rattle.ti_lang.specs.Typing.Kinds.{dim_of_type}
use Rattle.ti_rows.specs.Refuted.Things.{seven}
use Rattle.ti_rows.proofs.refutations_of_meaning.texts.Goals as goal

-- ---- what is spelled has tokens

abbrev HasTokens : List Token → Type 0
HasTokens [] = ⊥
HasTokens (t ∷ l) = Unit {0}

some_behind : (l m : List Token) (t : Token) → HasTokens (l ++ t ∷ m)
some_behind [] m t = tt
some_behind (u ∷ l) m t = tt

postfixed_has : (ending : Ending) (l : List Token) (x : Exp) → Postfixed ending l x → HasTokens l
postfixed_has ending l x (s.select {l = m} d t p a b) = some_behind m _ d
postfixed_has ending l x (s.member {l = m} d t o c p a b e f g) = some_behind m _ d
postfixed_has ending l x (s.index {l = m} o c p a b d e) = some_behind m _ o
postfixed_has ending l x p = tt

prefixed_has : (l : List Token) (x : Exp) → Prefixed l x → HasTokens l
prefixed_has l x (s.postfixed {ending = ending} p) = postfixed_has ending l x p
prefixed_has l x p = tt

whole_has : (n : ℕ) (l : List Token) (x : Exp) → Whole n l x → HasTokens l
whole_has n l x (s.operand p) = prefixed_has l x p
whole_has n l x (s.operation {a = a} {b = b} t p q r w) = some_behind a b t

pub returns-clause-a_number_is_spelled : goal.returns-clause-a_number_is_spelled
returns-clause-a_number_is_spelled c = s.operand (s.postfixed (s.int seven refl))

pub returns-clause-nothing_is_spelled : goal.returns-clause-nothing_is_spelled
returns-clause-nothing_is_spelled c = λ x w. whole_has 1 [] x w

-- ---- types

one_type : (t u : ValueType) → Some t ≡ Some u → u ≡ t
one_type t u e = cc

pub returns-clause-two_dimensions_in_scope : goal.returns-clause-two_dimensions_in_scope
returns-clause-two_dimensions_in_scope c = λ type e. one_type (ty.Pt 2) type e

pub returns-clause-one_dimension_in_scope : goal.returns-clause-one_dimension_in_scope
returns-clause-one_dimension_in_scope c = λ f.
    let k : 2 ≡ 1 = ap dim_of_type (f (ty.Pt 2) refl) in
    omega (arith, k)
