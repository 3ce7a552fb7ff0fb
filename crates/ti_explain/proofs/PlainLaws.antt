-- Lemmas on the plain parts of expressions with several parts.
use Rattle.std.proofs.Common.{◌≡◌, ℕ, Bool, List, map, if◌then◌else◌, Option, ap, ◌∙◌}
use Rattle.std.specs.Option.{option_or}
use Rattle.ti_base.specs.declared.place.Place.{Place}
use Rattle.ti_lang.specs.declared.program.exprs.Expr.{Expr}
use Rattle.ti_lang.specs.Program.Expressions.{NumberedExp, NumberedExps, numbered_exps}
use Rattle.ti_lang.specs.Program.Expressions as x
use Rattle.ti_lang.specs.Program.Classes.{ProgramView}
use Rattle.ti_lang.specs.Program.Views.{expression_of}
use Rattle.ti_lang.specs.Typing.Kinds.{is_point_type}
use Rattle.ti_lang.specs.Typing.TextTypes.{syntactic_type}
use Rattle.ti_lang.specs.Typing.Called.{member_called}
use Rattle.ti_lang.specs.Typing.Singleness.{tells_of_domain}
use Rattle.ti_explain.specs.declared.reason.PlainPart.{PlainPart}
use Rattle.ti_explain.specs.declared.reason.PlainCause.TheVariants as cause
use Rattle.ti_explain.specs.PlainParts.{plain_at, plain_part, plain_among}

-- the same list of arguments
pub same_among : (p : ProgramView) (this : Option ℕ) (singles : ℕ → Bool) (xs v : List Expr) (r : Option PlainPart) → xs ≡ v
    → r ≡ plain_among p this singles (numbered_exps (map expression_of xs)) → r ≡ plain_among p this singles (numbered_exps (map expression_of v))
same_among p this singles xs v r is found = found ∙ ap (λ l. plain_among p this singles (numbered_exps (map expression_of l))) is

chosen : (t t' : Bool) (b c f b' c' other r : Option PlainPart) → r ≡ (if t then f else other) → f ≡ option_or b c → t ≡ t' → b ≡ b' → c ≡ c'
    → r ≡ (if t' then option_or b' c' else other)
chosen t t' b c f b' c' other r is is_f is_t is_b is_c =
    is ∙ ap (λ z. if z then f else other) is_t ∙ ap (λ z. if t' then z else other) is_f
    ∙ ap (λ z. if t' then option_or z c else other) is_b ∙ ap (λ z. if t' then option_or b' z else other) is_c

-- an index
pub index_plain : (p : ProgramView) (this : Option ℕ) (singles : ℕ → Bool) (at : Place) (a : NumberedExp) (xs : NumberedExps)
    (t : Bool) (b c f r : Option PlainPart) → r ≡ (if t then f else plain_at at cause.Element) → f ≡ option_or b c
    → t ≡ is_point_type (syntactic_type p this a) → b ≡ plain_part p this singles a → c ≡ plain_among p this singles xs
    → r ≡ plain_part p this singles (x.Index at a xs)
index_plain p this singles at a xs t b c f r is is_f is_t is_b is_c = chosen t _ b c f _ _ _ r is is_f is_t is_b is_c

-- a member
pub member_plain : (p : ProgramView) (this : Option ℕ) (singles : ℕ → Bool) (at : Place) (a : NumberedExp) (name : ℕ) (xs : NumberedExps)
    (t : Bool) (b c f r : Option PlainPart) → r ≡ (if t then f else plain_at at cause.Member) → f ≡ option_or b c
    → t ≡ tells_of_domain (member_called p this a name) → b ≡ plain_part p this singles a → c ≡ plain_among p this singles xs
    → r ≡ plain_part p this singles (x.Member at a name xs)
member_plain p this singles at a name xs t b c f r is is_f is_t is_b is_c = chosen t _ b c f _ _ _ r is is_f is_t is_b is_c
