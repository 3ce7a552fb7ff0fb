-- Lemmas on the singleness of expressions with several parts.
use Rattle.std.proofs.Common.{◌≡◌, ℕ, Bool, ◌&&◌, List, map, Option, ap, ◌∙◌}
use Rattle.ti_base.specs.declared.place.Place.{Place}
use Rattle.ti_lang.specs.declared.program.exprs.Expr.{Expr}
use Rattle.ti_lang.specs.declared.program.exprs.Range.{Range}
use Rattle.ti_lang.specs.Program.Expressions.{NumberedExp, NumberedExps, numbered_exps, numbered_ranges}
use Rattle.ti_lang.specs.Program.Expressions as x
use Rattle.ti_lang.specs.Program.Classes.{ProgramView}
use Rattle.ti_lang.specs.Program.Views.{expression_of, bound_of}
use Rattle.ti_lang.specs.Typing.Kinds.{is_point_type}
use Rattle.ti_lang.specs.Typing.TextTypes.{syntactic_type}
use Rattle.ti_lang.specs.Typing.Called.{member_called}
use Rattle.ti_lang.specs.Typing.Singleness.{tells_of_domain, is_single_part, are_single, are_single_ranges}

-- the same list of arguments
pub same_arguments : (p : ProgramView) (this : Option ℕ) (singles : ℕ → Bool) (xs v : List Expr) (r : Bool) → xs ≡ v → r ≡ are_single p this singles (numbered_exps (map expression_of xs))
    → r ≡ are_single p this singles (numbered_exps (map expression_of v))
same_arguments p this singles xs v r is found = found ∙ ap (λ l. are_single p this singles (numbered_exps (map expression_of l))) is

-- the same list of ranges
pub same_ranges : (p : ProgramView) (this : Option ℕ) (singles : ℕ → Bool) (rs v : List Range) (r : Bool) → rs ≡ v → r ≡ are_single_ranges p this singles (numbered_ranges (map bound_of rs))
    → r ≡ are_single_ranges p this singles (numbered_ranges (map bound_of v))
same_ranges p this singles rs v r is found = found ∙ ap (λ l. are_single_ranges p this singles (numbered_ranges (map bound_of l))) is

three : (t b c t' b' c' r : Bool) → r ≡ t && (b && c) → t ≡ t' → b ≡ b' → c ≡ c' → r ≡ t' && (b' && c')
three t b c t' b' c' r is is_t is_b is_c = is ∙ ap (λ z. z && (b && c)) is_t ∙ ap (λ z. t' && (z && c)) is_b ∙ ap (λ z. t' && (b' && z)) is_c

-- an index
pub index_single : (p : ProgramView) (this : Option ℕ) (singles : ℕ → Bool) (at : Place) (a : NumberedExp) (xs : NumberedExps)
    (t b c r : Bool) → r ≡ t && (b && c) → t ≡ is_point_type (syntactic_type p this a)
    → b ≡ is_single_part p this singles a → c ≡ are_single p this singles xs → r ≡ is_single_part p this singles (x.Index at a xs)
index_single p this singles at a xs t b c r is is_t is_b is_c = three t b c _ _ _ r is is_t is_b is_c

-- a member of a domain
pub member_single : (p : ProgramView) (this : Option ℕ) (singles : ℕ → Bool) (at : Place) (a : NumberedExp) (name : ℕ)
    (xs : NumberedExps) (t b c r : Bool) → r ≡ t && (b && c) → t ≡ tells_of_domain (member_called p this a name)
    → b ≡ is_single_part p this singles a → c ≡ are_single p this singles xs → r ≡ is_single_part p this singles (x.Member at a name xs)
member_single p this singles at a name xs t b c r is is_t is_b is_c = three t b c _ _ _ r is is_t is_b is_c
