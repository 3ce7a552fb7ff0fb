-- The reason for a token that is nested too deeply: where the nest of statements, or the expression, begins that is above its limit there.
use Rattle.std.specs.Prelude.{◌≡◌, ℕ, zero, suc, ◌+◌, ◌-◌, ◌==◌, Bool, true, false, not, ◌&&◌, if◌then◌else◌, List, [], ◌∷◌, ◌++◌, reverse, slice_get, Option, Some, None}
use Rattle.ti_base.specs.declared.place.Place.{Place}
use Rattle.ti_syntax.specs.declared.token.Token.{Token}
use Rattle.ti_syntax.specs.declared.token.TokenKind.{TokenKind}
use Rattle.ti_syntax.specs.declared.token.TokenKind.TheVariants as k
use Rattle.ti_syntax.specs.Spelling.{most_weight, TooDeep, ShowsMisfit}
use Rattle.ti_syntax.specs.Spelling.Weights.{counts, arity_behind}
use Rattle.ti_explain.specs.declared.reason.RefusalReason.{RefusalReason}
use Rattle.ti_explain.specs.declared.reason.ReasonKind.TheVariants.{NestBegins, WeightBegins}

-- ---- expressions

-- The positions of the tokens that are counted in weights: brackets, dots and operators. The first n tokens belong to an arity.
abbrev pub counted_behind : ℕ → List Token → List Place
counted_behind n [] = []
counted_behind (suc n) (t ∷ l) = counted_behind n l
counted_behind zero (t ∷ l) =
    if counts t.kind then t.place ∷ counted_behind (arity_behind t.kind) l else counted_behind (arity_behind t.kind) l

-- The first token of an expression that is counted, given the tokens up to and including the first one above the limit: that is the
-- 257th token counted, so the first is the 257th from the end.
abbrev pub first_counted : List Token → Option Place
first_counted upto = slice_get (reverse (counted_behind 0 upto)) most_weight

-- ---- statements

-- the token is the first one of a compound statement
abbrev pub begins_compound : TokenKind → Bool
begins_compound k.LeftBrace = true
begins_compound k.KeywordIf = true
begins_compound k.KeywordWhile = true
begins_compound k.KeywordFor = true
begins_compound k.KeywordForeach = true
begins_compound kind = false

-- after this token a statement can begin that isn't part of another one
abbrev pub separates : TokenKind → Bool
separates k.LeftBrace = true
separates k.RightBrace = true
separates k.Semicolon = true
separates kind = false

-- the token continues an `if`
abbrev pub is_else : TokenKind → Bool
is_else k.KeywordElse = true
is_else kind = false

-- how many braces are open after this token
abbrev pub braces_after : ℕ → TokenKind → ℕ
braces_after n k.LeftBrace = n + 1
braces_after n k.RightBrace = n - 1
braces_after n kind = n

-- how many parentheses are open after this token
abbrev pub parens_after : ℕ → TokenKind → ℕ
parens_after n k.LeftParen = n + 1
parens_after n k.RightParen = n - 1
parens_after n kind = n

-- The positions of the statements directly in the bodies of methods: of tokens in two braces, of the class and of the method, and in no
-- parenthesis, that follow a brace or a semicolon and don't continue an `if`. So many braces and parentheses are open before the tokens;
-- the flag says whether a brace or a semicolon is before them.
abbrev pub body_statements : ℕ → ℕ → Bool → List Token → List Place
body_statements braces parens fresh [] = []
body_statements braces parens fresh (t ∷ l) =
    let rest = body_statements (braces_after braces t.kind) (parens_after parens t.kind) (separates t.kind) l in
    if fresh && (braces == 2) && (parens == 0) && not (is_else t.kind) then t.place ∷ rest else rest

-- the last statement directly in a method's body that begins with one of these tokens
abbrev pub outermost : List Token → Option Place
outermost upto = slice_get (reverse (body_statements 0 0 false upto)) 0

-- ---- reasons

abbrev pub nest_reason : Option Place → List RefusalReason
nest_reason None = []
nest_reason (Some at) = record { place = at; kind = NestBegins } ∷ []

abbrev pub weight_reason : Option Place → List RefusalReason
weight_reason None = []
weight_reason (Some at) = record { place = at; kind = WeightBegins } ∷ []

-- Where it begins, given the tokens up to and including the one that is too deep: the nest of statements if that token is the first of a
-- compound statement, else the counted tokens of the expression.
abbrev pub depth_reasons : TokenKind → List Token → List RefusalReason
depth_reasons kind upto = if begins_compound kind then nest_reason (outermost upto) else weight_reason (first_counted upto)

-- the reasons for refusing the first token that is above a limit
pub record AreTooDeepReasons (tokens : List Token) (at : Place) (reasons : List RefusalReason) : Type 0 where
  pub front : List Token
  pub here : Token
  pub rest : List Token
  pub is : tokens ≡ front ++ here ∷ rest
  pub place : here.place ≡ at
  pub misfit : ShowsMisfit TooDeep front here
  pub all : reasons ≡ depth_reasons here.kind (front ++ here ∷ [])
