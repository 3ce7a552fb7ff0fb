-- For proofs only: the model of parsing classes and their members. Loops have fuel.
use Rattle.std.specs.Prelude.{ℕ, zero, suc, Bool, true, false, if◌then◌else◌, List, [], ◌∷◌, ◌++◌, Option, Some, None, Ok, Err}
use Rattle.ti_base.specs.declared.place.Place.{Place}
use Rattle.ti_syntax.specs.declared.token.TokenKind.{TokenKind}
use Rattle.ti_syntax.specs.declared.token.TokenKind.TheVariants as k
use Rattle.ti_syntax.specs.declared.tree.classes.Modifier.{Modifier}
use Rattle.ti_syntax.specs.declared.tree.classes.ModifierWord.{ModifierWord}
use Rattle.ti_syntax.specs.Trees.Types.{TypeTree}
use Rattle.ti_syntax.specs.Trees.Classes.{ParamTree, ParamsTree, ResultTree, MemberTree, ClassTree, TextTree}
use Rattle.ti_syntax.specs.Trees.Classes as c
use Rattle.ti_syntax.specs.Spelling.Operators.{modifier_of, class_modifier_of}
use Rattle.ti_parse_expr.specs.Mirrors.Input.{Parser, At, OutOfFuel, ◌>>=◌, ◌>>◌, ◌<$>◌, pure, peek, place_of_next, kind, next_is, expect, any_name, take_token}
use Rattle.ti_parse.specs.Mirrors.ParserParams.{ParserParams}
use Rattle.ti_parse.specs.Mirrors.Parts.{is_wide, wide, field, any_type}
use Rattle.ti_parse.specs.Mirrors.Statements.{body}

module _ (w : ParserParams) (fuel : ℕ) where
  -- ---- methods

  -- one or more parameters, after `(` or a comma
  unfoldable pub more_params : ℕ → List ParamTree → Parser (List ParamTree)
  more_params zero found = λ i. Err OutOfFuel
  more_params (suc n) found = do
    ty ← any_type w fuel
    at ← place_of_next
    name ← any_name
    is_more ← (λ i. Ok (next_is k.Comma i, i))
    if is_more then take_token >> more_params n (found ++ record { ty = ty; place = at; name = name } ∷ []) else pure (found
        ++ record { ty = ty; place = at; name = name } ∷ [])

  -- the parameter `String[] x`, after `String`
  unfoldable pub words : Parser ParamsTree
  words = do
    expect k.LeftBracket
    expect k.RightBracket
    at ← place_of_next
    name ← any_name
    pure (c.MainArgs at name)

  abbrev pub params_by : TokenKind → Parser ParamsTree
  params_by k.RightParen = pure (c.Params [])
  params_by k.KeywordString = take_token >> words
  params_by _ = c.Params <$> more_params fuel []

  -- a method's parameter list, without its parentheses
  unfoldable pub params : Parser ParamsTree
  params = peek >>= params_by

  -- a method, after its name
  unfoldable pub method : List Modifier → ResultTree → Place → List ℕ → Parser MemberTree
  method ms result at name = do
    expect k.LeftParen
    ps ← params
    expect k.RightParen
    expect k.LeftBrace
    xs ← body w fuel
    end_at ← place_of_next
    expect k.RightBrace
    pure (c.MethodMember (record { modifiers = ms; result = result; place = at; name = name; params = ps; body = xs; end = end_at }))

  -- ---- members

  -- a method, after its result type
  unfoldable pub method_named : List Modifier → ResultTree → Parser MemberTree
  method_named ms result = do
    at ← place_of_next
    name ← any_name
    method ms result at name

  -- a field or a method, after the type
  unfoldable pub field_or_method : List Modifier → TypeTree → Parser MemberTree
  field_or_method ms ty = do
    at ← place_of_next
    name ← any_name
    is_field ← (λ i. Ok (next_is k.Semicolon i, i))
    if is_field then take_token >> pure (c.FieldMember (record { modifiers = ms; ty = ty; place = at; name = name })) else method ms
        (c.Typed ty) at name

  abbrev pub typed_member : List Modifier → Bool → Parser MemberTree
  typed_member ms true = (do ty ← wide w fuel; method_named ms (c.Typed ty))
  typed_member ms false = field w fuel >>= field_or_method ms

  abbrev pub member_by : List Modifier → TokenKind → Parser MemberTree
  member_by ms k.KeywordVoid = (do at ← place_of_next; take_token; method_named ms (c.Void at))
  member_by ms kind = typed_member ms (is_wide kind)

  -- a member, after its modifiers
  unfoldable pub member_from : List Modifier → Parser MemberTree
  member_from ms = peek >>= member_by ms

  abbrev pub modifiers_if : (List Modifier → Parser (List Modifier)) → List Modifier → Option ModifierWord → Parser (List Modifier)
  modifiers_if more found None = pure found
  modifiers_if more found (Some word) = (do at ← place_of_next; take_token; more (found ++ record { word = word; place = at } ∷ []))

  -- all modifiers that follow, with fuel
  unfoldable pub modifiers : (TokenKind → Option ModifierWord) → ℕ → List Modifier → Parser (List Modifier)
  modifiers word_of zero found = λ i. Err OutOfFuel
  modifiers word_of (suc n) found = (do kind ← peek; modifiers_if (modifiers word_of n) found (word_of kind))

  unfoldable pub member : Parser MemberTree
  member = modifiers modifier_of fuel [] >>= member_from

  unfoldable pub members : ℕ → List MemberTree → Parser (List MemberTree)
  members zero found = λ i. Err OutOfFuel
  members (suc n) found = do
    is_end ← (λ i. Ok (next_is k.RightBrace i, i))
    if is_end then pure found else (do x ← member; members n (found ++ x ∷ []))

  -- ---- classes

  -- a class, after its modifiers
  unfoldable pub class_from : List Modifier → Parser ClassTree
  class_from ms = do
    word ← place_of_next
    expect k.KeywordClass
    at ← place_of_next
    name ← any_name
    expect k.LeftBrace
    xs ← members fuel []
    expect k.RightBrace
    pure (record { modifiers = ms; word = word; place = at; name = name; members = xs })

  unfoldable pub class : Parser ClassTree
  class = modifiers class_modifier_of fuel [] >>= class_from

  -- all classes up to End, with fuel
  unfoldable pub classes : ℕ → List ClassTree → Parser TextTree
  classes zero found = λ i. Err OutOfFuel
  classes (suc n) found = do
    is_end ← (λ i. Ok (next_is k.End i, i))
    if is_end then pure found else (do x ← class; classes n (found ++ x ∷ []))

  -- nothing follows End
  abbrev pub ended : TextTree → Parser TextTree
  ended tree [] = Ok (tree, [])
  ended tree (t ∷ []) = Ok (tree, t ∷ [])
  ended tree (t ∷ u ∷ l) = Err (At (u ∷ l))

  unfoldable pub text : Parser TextTree
  text = classes fuel [] >>= ended
