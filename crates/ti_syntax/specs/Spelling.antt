-- The grammar, as inductive families between token lists and trees. It is declarative: nothing here says how a program is parsed.
pub mod Operators
pub mod Types
pub mod Expressions
pub mod Weights
pub mod Statements
pub mod Classes
pub mod Loads
use Rattle.std.specs.Prelude.{◌≡◌, ℕ, ◌<◌, List, [], ◌∷◌, ◌++◌, length, Option, Some, None, slice_get}
use Rattle.ti_base.specs.declared.place.Place.{Place}
use Rattle.ti_syntax.specs.declared.token.Token.{Token}
use Rattle.ti_syntax.specs.declared.token.TokenKind.TheVariants as k
use Rattle.ti_syntax.specs.Trees.Classes.{TextTree}
use Rattle.ti_syntax.specs.Spelling.Classes.{AllClasses}
use Rattle.ti_syntax.specs.Spelling.Loads.{Load, Free, Level, Weight, classes_loads}

-- the token list parses to the tree: it is the tokens of the tree's classes, followed by End
pub record Spells (list : List Token) (tree : TextTree) : Type 0 where
  pub front : List Token
  pub last : Token
  pub is : list ≡ front ++ last ∷ []
  pub ends : last.kind ≡ k.End
  pub classes : AllClasses front tree

-- some token list parses to the tree
abbrev pub IsSpelled : TextTree → Type 0
IsSpelled tree = (list : List Token) × Spells list tree

-- the list is a viable prefix: some continuation of it parses to a tree
abbrev pub BeginsText : List Token → Type 0
BeginsText list = (more : List Token) × (tree : TextTree) × Spells (list ++ more) tree

-- the nesting levels and weights of a program's tokens
abbrev pub loads_of : {list : List Token} {tree : TextTree} → Spells list tree → List Load
loads_of text = classes_loads text.classes ++ Free ∷ []

-- the limit on the nesting of compound statements
abbrev pub most_levels : ℕ
most_levels = 64

-- the limit on the weight of an expression: the number of its brackets, dots and operators
abbrev pub most_weight : ℕ
most_weight = 256

-- a level or a weight above its limit
abbrev pub IsAboveLimit : Option Load → Type 0
IsAboveLimit None = ⊥
IsAboveLimit (Some Free) = ⊥
IsAboveLimit (Some (Level n)) = most_levels < n
IsAboveLimit (Some (Weight n)) = most_weight < n

-- in every program whose tokens begin with this prefix and this token, the token's level or weight is above its limit
abbrev pub IsTooDeep : List Token → Token → Type 0
IsTooDeep front t =
    (more : List Token) (tree : TextTree) (text : Spells (front ++ t ∷ more) tree) → IsAboveLimit (slice_get (loads_of text) (length front))

-- no token of the list is above a limit
abbrev pub IsShallow : List Token → Type 0
IsShallow list = (front : List Token) (t : Token) (rest : List Token) → list ≡ front ++ t ∷ rest → IsTooDeep front t → ⊥

-- the syntax errors
pub data Misfit : Type 0 where
  Unexpected : Misfit
  TooDeep : Misfit

-- the token after this prefix of the list is the one at which the error is reported
pub data ShowsMisfit : Misfit → List Token → Token → Type 0 where
  -- the first token that makes the prefix not viable, if no token up to it is above a limit
  unexpected : {front : List Token} {t : Token} → BeginsText front → (BeginsText (front ++ t ∷ []) → ⊥) → IsShallow front
      → ShowsMisfit Unexpected front t
  -- the first token above a limit, if the prefix up to and including it is viable
  too_deep : {front : List Token} {t : Token} → BeginsText (front ++ t ∷ []) → IsTooDeep front t → IsShallow front
      → ShowsMisfit TooDeep front t

-- a syntax error of a token list and the position where it is reported; None exactly if the list parses to a tree and none of its
-- tokens is above a limit
pub data IsGrammarRefusal (list : List Token) : Option (Misfit × Place) → Type 0 where
  fits : {tree : TextTree} → Spells list tree → IsShallow list → IsGrammarRefusal list None
  refused : {misfit : Misfit} (front : List Token) (t : Token) (rest : List Token) → list ≡ front ++ t ∷ rest → ShowsMisfit misfit front t
      → IsGrammarRefusal list (Some (misfit, t.place))
