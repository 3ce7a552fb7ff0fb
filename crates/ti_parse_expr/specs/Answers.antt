-- What `parse_expr` returns, as its public contract states it.
use Rattle.std.specs.Prelude.{◌≡◌, ◌⊎◌, ℕ, ◌+◌, ◌<◌, ◌≤◌, List, [], ◌∷◌, ◌++◌, length, drop, Result, Ok, Err}
use Rattle.ti_base.specs.declared.place.Place.{Place}
use Rattle.ti_syntax.specs.declared.token.Token.{Token}
use Rattle.ti_syntax.specs.declared.token.TokenKind.TheVariants as k
use Rattle.ti_syntax.specs.declared.tree.exprs.Expr.{Expr}
use Rattle.ti_syntax.specs.Trees.Expressions.{Exp}
use Rattle.ti_syntax.specs.Trees.Views.{exp_of}
use Rattle.ti_syntax.specs.Spelling.Expressions.{Ending, Whole, Postfixed}
use Rattle.ti_syntax.specs.Spelling.Weights.{weigh}
use Rattle.ti_rules.specs.declared.rule.Rule.{Rule}
use Rattle.ti_rules.specs.declared.rule.Rule.TheVariants.{G1, G2}
use Rattle.ti_parse_expr.specs.declared.parse.Form.{Form}
use Rattle.ti_parse_expr.specs.declared.parse.Form.TheVariants as form
use Rattle.ti_parse_expr.specs.declared.error.ParseErr.{ParseErr}
use Rattle.ti_parse_expr.specs.declared.error.ParseErr.TheVariants.{Refused, Memory}
use Rattle.ti_syntax.specs.Spelling.{most_weight}

-- the last token is End
abbrev pub EndsAtEnd : List Token → Type 0
EndsAtEnd list = (front : List Token) × (last : Token) × (list ≡ front ++ last ∷ []) × (last.kind ≡ k.End)

-- the phrases of each form
abbrev pub Phrase : Form → List Token → Exp → Type 0
Phrase form.Whole l x = Whole 1 l x
Phrase form.Mul l x = Whole 10 l x
Phrase form.Postfix l x = (ending : Ending) × Postfixed ending l x

-- the list is a viable prefix of a phrase of the form
abbrev pub BeginsPhrase : Form → List Token → Type 0
BeginsPhrase f l = (more : List Token) × (x : Exp) × Phrase f (l ++ more) x

-- the longest prefix (run) of the list that is a viable prefix of a phrase of the form, and the token after it
pub record IsViableRun (f : Form) (list run : List Token) (after : Token) : Type 0 where
  pub rest : List Token
  pub is : list ≡ run ++ after ∷ rest
  pub begins : BeginsPhrase f run
  pub longest : BeginsPhrase f (run ++ after ∷ []) → ⊥

-- no token of the list is above the weight limit, where weights are counted from `weight` on
abbrev pub IsLight : ℕ → List Token → Type 0
IsLight weight list =
    (front : List Token) (t : Token) (rest : List Token) → list ≡ front ++ t ∷ rest → weight + weigh (front ++ t ∷ []) ≤ most_weight

-- the run is a phrase, of this tree only, with no token above the weight limit; token number `size` of the list is the one after it
pub record IsPhrase (f : Form) (weight : ℕ) (list : List Token) (x : Exp) (size used : ℕ) : Type 0 where
  pub run : List Token
  pub after : Token
  pub is_run : IsViableRun f list run after
  pub light : IsLight weight run
  pub phrase : Phrase f run x
  pub only : (y : Exp) → Phrase f run y → y ≡ x
  pub long : length run ≡ size
  pub weighs : weight + weigh run ≡ used

-- a G1 error: the run is no phrase, and none of its tokens is above the weight limit; it is reported at the token after the run
pub record IsNoPhrase (f : Form) (weight : ℕ) (list : List Token) (place : Place) : Type 0 where
  pub run : List Token
  pub after : Token
  pub is_run : IsViableRun f list run after
  pub light : IsLight weight run
  pub no_phrase : (x : Exp) → Phrase f run x → ⊥
  pub at : after.place ≡ place

-- a G2 error: a token of the run is above the weight limit; it is reported at the first such token
pub record IsTooHeavy (f : Form) (weight : ℕ) (list : List Token) (place : Place) : Type 0 where
  pub front : List Token
  pub heavy : Token
  pub rest : List Token
  pub is : list ≡ front ++ heavy ∷ rest
  pub begins : BeginsPhrase f (front ++ heavy ∷ [])
  pub light : IsLight weight front
  pub above : most_weight < weight + weigh (front ++ heavy ∷ [])
  pub at : heavy.place ≡ place

-- the condition of each error
abbrev pub IsParseError : Form → ℕ → List Token → Rule → Place → Type 0
IsParseError f weight list G1 place = IsNoPhrase f weight list place
IsParseError f weight list G2 place = IsTooHeavy f weight list place
IsParseError f weight list _ place = ⊥

-- the result for the list from index `at` on: the tree, the index after its run, and the weight used; or an error
abbrev pub Answers : List Token → ℕ → Form → ℕ → Result (Expr × ℕ × ℕ) ParseErr → Type 0
Answers list at f weight (Ok p) = (size : ℕ) × (p.1 ≡ at + size) × IsPhrase f weight (drop at list) (exp_of p.0) size p.2
Answers list at f weight (Err (Refused r)) = IsParseError f weight (drop at list) r.rule r.place
Answers list at f weight (Err Memory) = Unit {0}

-- the result is this tree, with this index after its run and this weight used, or out of memory
abbrev pub GivesOnly : Result (Expr × ℕ × ℕ) ParseErr → Exp → ℕ → ℕ → Type 0
GivesOnly (Ok p) x end used = (exp_of p.0 ≡ x) × (p.1 ≡ end) × (p.2 ≡ used)
GivesOnly (Err error) x end used = error ≡ Memory

-- the result is this error or out of memory
abbrev pub RefusesOnly : Result (Expr × ℕ × ℕ) ParseErr → Rule → Place → Type 0
RefusesOnly (Ok p) rule place = ⊥
RefusesOnly (Err error) rule place = (error ≡ Refused (record { rule = rule; place = place })) ⊎ (error ≡ Memory)
