-- For proofs only: the model of the type parser, which has one token of lookahead.
use Rattle.std.specs.Prelude.{ℕ, zero, suc, ℤ, pos, negsuc, nat_le, ◌&&◌, if◌then◌else◌, List, [], ◌∷◌, ◌++◌, Option, Some, None, Ok, Err}
use Rattle.ti_syntax.specs.declared.token.TokenKind.{TokenKind}
use Rattle.ti_syntax.specs.declared.token.TokenKind.TheVariants as k
use Rattle.ti_syntax.specs.declared.tree.types.Base.{Base}
use Rattle.ti_syntax.specs.declared.tree.types.Base.TheVariants as b
use Rattle.ti_syntax.specs.declared.tree.types.Qualifier.{Qualifier}
use Rattle.ti_syntax.specs.declared.tree.types.QualifierWord.{QualifierWord}
use Rattle.ti_syntax.specs.Trees.Types.{GridTree, TypeTree}
use Rattle.ti_syntax.specs.Spelling.Operators.{qualifier_of}
use Rattle.ti_parse_expr.specs.Mirrors.Input.{Parser, OutOfFuel, ◌>>=◌, ◌>>◌, pure, refuse, peek, place_of_next, next_is, expect, take_token}

-- a number of dimensions, from 1 to 3
abbrev pub dim_from_int : ℤ → Option ℕ
dim_from_int (pos n) = if nat_le 1 n && nat_le n 3 then Some n else None
dim_from_int (negsuc n) = None

abbrev pub dimension_if : Option ℕ → Parser ℕ
dimension_if None = refuse
dimension_if (Some n) = take_token >> pure n

abbrev pub dimension_by : TokenKind → Parser ℕ
dimension_by (k.Int n) = dimension_if (dim_from_int n)
dimension_by _ = refuse

-- the number of an arity
abbrev pub arity_number : Parser ℕ
arity_number = peek >>= dimension_by

-- `<` n `>`
unfoldable pub arity : Parser ℕ
arity = do
  expect k.Less
  n ← arity_number
  expect k.Greater
  pure n

abbrev pub base_by : TokenKind → Parser Base
base_by k.KeywordInt = (do at ← place_of_next; take_token; pure (b.Int at))
base_by k.KeywordLong = (do at ← place_of_next; take_token; pure (b.Long at))
base_by k.KeywordBoolean = (do at ← place_of_next; take_token; pure (b.Boolean at))
base_by k.KeywordPoint = (do at ← place_of_next; take_token; n ← arity; pure (b.Point at n))
base_by k.KeywordRectDomain = (do at ← place_of_next; take_token; n ← arity; pure (b.RectDomain at n))
base_by (k.Name name) = (do at ← place_of_next; take_token; pure (b.Named at name))
base_by _ = refuse

unfoldable pub base : Parser Base
base = peek >>= base_by

abbrev pub qualifiers_if : (List Qualifier → Parser (List Qualifier)) → List Qualifier → Option QualifierWord → Parser (List Qualifier)
qualifiers_if more found None = pure found
qualifiers_if more found (Some word) = (do at ← place_of_next; take_token; more (found ++ record { word = word; place = at } ∷ []))

-- all qualifiers that follow, with fuel
unfoldable pub qualifiers : ℕ → List Qualifier → Parser (List Qualifier)
qualifiers zero found = λ i. Err OutOfFuel
qualifiers (suc n) found = (do kind ← peek; qualifiers_if (qualifiers n) found (qualifier_of kind))

abbrev pub grid_dimension_by : TokenKind → Parser ℕ
grid_dimension_by (k.Dim n) = dimension_if (dim_from_int (pos n))
grid_dimension_by _ = refuse

-- the number of dimensions of a grid
abbrev pub grid_dimension : Parser ℕ
grid_dimension = peek >>= grid_dimension_by

-- grid brackets with their qualifiers, after the `[`
unfoldable pub grid : ℕ → Parser GridTree
grid fuel = do
  n ← grid_dimension
  expect k.RightBracket
  qs ← qualifiers fuel []
  pure (record { dim = n; qualifiers = qs })

-- at most n more grid brackets
unfoldable pub grids : ℕ → ℕ → List GridTree → Parser (List GridTree)
grids fuel zero found = pure found
grids fuel (suc n) found = do
  is_more ← (λ i. Ok (next_is k.LeftBracket i, i))
  if is_more then (do take_token; g ← grid fuel; grids fuel n (found ++ g ∷ [])) else pure found

-- the type of a field, after its base
unfoldable pub field_type : ℕ → Base → Parser TypeTree
field_type fuel begin = do
  qs ← qualifiers fuel []
  gs ← grids fuel 3 []
  pure (record { base = begin; qualifiers = qs; grids = gs })
