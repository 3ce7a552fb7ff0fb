-- Which tokens could stand in the place of one that doesn't fit the grammar.
use Rattle.std.specs.Prelude.{◌≡◌, ℕ, List, [], ◌∷◌, ◌++◌, codes}
use Rattle.ti_base.specs.declared.place.Place.{Place}
use Rattle.ti_syntax.specs.declared.token.Token.{Token}
use Rattle.ti_syntax.specs.declared.token.TokenKind.TheVariants.{End}
use Rattle.ti_syntax.specs.Spelling.{BeginsText, Unexpected, ShowsMisfit}
use Rattle.ti_rules.specs.RefusalOf.{HasTokens}
use Rattle.ti_explain.specs.declared.reason.RefusalReason.{RefusalReason}
use Rattle.ti_explain.specs.declared.reason.ReasonKind.TheVariants.{Expected, ExpectedEnd}

-- The texts that are tried: each word, sign and operator of the language, each name that has a meaning of its own in the grammar, and one
-- text for each kind of token that has a value: a name, the dimensions, an int, a long and a string.
abbrev pub token_texts : List (List ℕ)
token_texts =
    codes "boolean" ∷ codes "break" ∷ codes "broadcast" ∷ codes "class" ∷ codes "continue" ∷ codes "Domain" ∷
    codes "else" ∷ codes "false" ∷ codes "final" ∷ codes "for" ∷ codes "foreach" ∷ codes "if" ∷ codes "int" ∷
    codes "local" ∷ codes "long" ∷ codes "new" ∷ codes "null" ∷ codes "Point" ∷ codes "println" ∷ codes "private" ∷
    codes "protected" ∷ codes "public" ∷ codes "RectDomain" ∷ codes "return" ∷ codes "SharedRegion" ∷ codes "single" ∷
    codes "static" ∷ codes "String" ∷ codes "System" ∷ codes "this" ∷ codes "Ti" ∷ codes "true" ∷ codes "void" ∷
    codes "while" ∷ codes "+" ∷ codes "-" ∷ codes "*" ∷ codes "/" ∷ codes "%" ∷ codes "<<" ∷ codes ">>" ∷ codes ">>>" ∷
    codes "<" ∷ codes "<=" ∷ codes ">" ∷ codes ">=" ∷ codes "==" ∷ codes "!=" ∷ codes "&" ∷ codes "|" ∷ codes "^" ∷
    codes "~" ∷ codes "!" ∷ codes "&&" ∷ codes "||" ∷ codes "=" ∷ codes "+=" ∷ codes "-=" ∷ codes "*=" ∷ codes "/=" ∷
    codes "%=" ∷ codes "&=" ∷ codes "|=" ∷ codes "^=" ∷ codes "<<=" ∷ codes ">>=" ∷ codes ">>>=" ∷ codes "++" ∷
    codes "--" ∷ codes "(" ∷ codes ")" ∷ codes "[" ∷ codes "]" ∷ codes "{" ∷ codes "}" ∷ codes ";" ∷ codes "," ∷
    codes "." ∷ codes ":" ∷ codes "barrier" ∷ codes "from" ∷ codes "in" ∷ codes "numProcs" ∷ codes "out" ∷
    codes "thisProc" ∷ codes "name" ∷ codes "1d" ∷ codes "2d" ∷ codes "3d" ∷ codes "0" ∷ codes "0L" ∷ codes "\"\"" ∷ []

-- the text is this one token, but for the end
abbrev pub IsTokenOf : List ℕ → Token → Type 0
IsTokenOf text t = (end : Token) × HasTokens text (t ∷ end ∷ [])

-- these tokens, followed by the token of this text at this position, begin some program
abbrev pub CanFollow : List Token → Place → List ℕ → Type 0
CanFollow front at text = (t : Token) × IsTokenOf text t × BeginsText (front ++ record { kind = t.kind; place = at } ∷ [])

-- the reason that says that a token of this text could stand there
abbrev pub expected_reason : Place → List ℕ → RefusalReason
expected_reason at text = record { place = at; kind = Expected text }

-- these are the reasons for exactly those of the texts whose token can follow, in their order
pub data AreExpected (front : List Token) (at : Place) : List (List ℕ) → List RefusalReason → Type 0 where
  no_text : AreExpected front at [] []
  can_stand : {texts : List (List ℕ)} {reasons : List RefusalReason} (text : List ℕ) → AreExpected front at texts reasons
      → CanFollow front at text → AreExpected front at (texts ++ text ∷ []) (reasons ++ expected_reason at text ∷ [])
  cannot_stand : {texts : List (List ℕ)} {reasons : List RefusalReason} (text : List ℕ) → AreExpected front at texts reasons
      → (CanFollow front at text → ⊥) → AreExpected front at (texts ++ text ∷ []) reasons

-- the tokens before it are a whole program, so that the source could end at this position
abbrev pub CanEnd : List Token → Place → Type 0
CanEnd front at = BeginsText (front ++ record { kind = End; place = at } ∷ [])

-- the reason that says that the source could end there
abbrev pub end_reason : Place → RefusalReason
end_reason at = record { place = at; kind = ExpectedEnd }

-- the reason for the end of the source, if it could be there
pub data IsEndExpected (front : List Token) (at : Place) : List RefusalReason → Type 0 where
  can_end : CanEnd front at → IsEndExpected front at (end_reason at ∷ [])
  cannot_end : (CanEnd front at → ⊥) → IsEndExpected front at []

-- The reasons for refusing the first token that no program can have there: the texts that could stand in its place, and the end of the source,
-- if that could.
pub record AreUnexpectedReasons (tokens : List Token) (at : Place) (reasons : List RefusalReason) : Type 0 where
  pub front : List Token
  pub here : Token
  pub rest : List Token
  pub is : tokens ≡ front ++ here ∷ rest
  pub place : here.place ≡ at
  pub misfit : ShowsMisfit Unexpected front here
  pub texts : List RefusalReason
  pub end : List RefusalReason
  pub expected : AreExpected front at token_texts texts
  pub end_expected : IsEndExpected front at end
  pub all : reasons ≡ texts ++ end
