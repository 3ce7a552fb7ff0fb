-- For proofs only: the model of the parser's input, and the parser combinators.
use Rattle.std.specs.Prelude.{◌≡◌, ℕ, Bool, false, if◌then◌else◌, List, [], ◌∷◌, Result, Ok, Err}
use Rattle.std.specs.Str.{bytes_eq}
use Rattle.ti_base.specs.declared.place.Place.{Place}
use Rattle.ti_syntax.specs.declared.token.Token.{Token}
use Rattle.ti_syntax.specs.declared.token.TokenKind.{TokenKind}
use Rattle.ti_syntax.specs.declared.token.TokenKind.TheVariants as k
use Rattle.ti_syntax.specs.Tokens.{same_kind}
use Rattle.ti_parse_expr.specs.declared.parse_stop.ParseStop.{ParseStop}
use Rattle.ti_parse_expr.specs.declared.parse_stop.ParseStop.TheVariants as stop

-- ---- the next token; past the end it is End

abbrev pub kind : List Token → TokenKind
kind [] = k.End
kind (t ∷ ts) = t.kind

abbrev pub place : List Token → Place
place [] = record { line = 0; col = 0 }
place (t ∷ ts) = t.place

abbrev pub after_next : List Token → List Token
after_next [] = []
after_next (t ∷ ts) = ts

-- ---- parsers

-- why parsing failed: at an unexpected token (At, with the list from it on), at a token above a limit (Over, with the list from it
-- on), or out of fuel (Spent)
pub data Halt : Type 0 where
  At : List Token → Halt
  Over : List Token → Halt
  OutOfFuel : Halt

abbrev pub ParseOutcome : Type 0 → Type 0
ParseOutcome A = Result (A × List Token) Halt

abbrev pub Parser : Type 0 → Type 0
Parser A = List Token → ParseOutcome A

abbrev pub and_then : {A B : Type 0} → ParseOutcome A → (A → Parser B) → ParseOutcome B
and_then (Ok p) f = f p.0 p.1
and_then (Err e) f = Err e

infixl 10 ◌>>=◌
abbrev pub ◌>>=◌ : {A B : Type 0} → Parser A → (A → Parser B) → Parser B
p >>= f = λ i. and_then (p i) f

infixl 10 ◌>>◌
abbrev pub ◌>>◌ : {A B : Type 0} → Parser A → Parser B → Parser B
p >> q = p >>= (λ _. q)

abbrev pub pure : {A : Type 0} → A → Parser A
pure a = λ i. Ok (a, i)

infixr 11 ◌<$>◌
abbrev pub ◌<$>◌ : {A B : Type 0} → (A → B) → Parser A → Parser B
f <$> p = p >>= (λ x. pure (f x))

abbrev pub refuse : {A : Type 0} → Parser A
refuse = λ i. Err (At i)

abbrev pub peek : Parser TokenKind
peek = λ i. Ok (kind i, i)

abbrev pub place_of_next : Parser Place
place_of_next = λ i. Ok (place i, i)

-- ---- consuming tokens

abbrev pub take_token : Parser (Unit {0})
take_token = λ i. Ok (tt, after_next i)

abbrev pub next_is : TokenKind → List Token → Bool
next_is wanted i = same_kind (kind i) wanted

abbrev pub expect : TokenKind → Parser (Unit {0})
expect wanted i = if next_is wanted i then take_token i else Err (At i)

-- whether the kind is this name
abbrev pub spells : List ℕ → TokenKind → Bool
spells word (k.Name name) = bytes_eq name word
spells word _ = false

abbrev pub next_is_name : List ℕ → List Token → Bool
next_is_name word i = spells word (kind i)

abbrev pub expect_word : List ℕ → Parser (Unit {0})
expect_word word i = if next_is_name word i then take_token i else Err (At i)

abbrev pub name_of_kind : TokenKind → Parser (List ℕ)
name_of_kind (k.Name name) = take_token >> pure name
name_of_kind _ = refuse

abbrev pub any_name : Parser (List ℕ)
any_name = peek >>= name_of_kind

-- ---- what parsing functions ensure: the model's outcome, or out of memory; after an error, the failing token is the next one

abbrev pub Fails : {A : Type 0} → ParseOutcome A → ParseStop → List Token → Type 0
Fails outcome stop.Memory new = Unit {0}
Fails outcome stop.Refused new = outcome ≡ Err (At new)
Fails outcome stop.TooDeep new = outcome ≡ Err (Over new)
Fails outcome stop.OutOfFuel new = outcome ≡ Err OutOfFuel

abbrev pub Parses : {A : Type 0} → ParseOutcome A → Result A ParseStop → List Token → Type 0
Parses outcome (Ok a) new = outcome ≡ Ok (a, new)
Parses outcome (Err e) new = Fails outcome e new

-- what a parsing function ensures whose value has another type in the model
abbrev pub ParsesAs : {A B : Type 0} → (A → B) → ParseOutcome B → Result A ParseStop → List Token → Type 0
ParsesAs view outcome (Ok a) new = outcome ≡ Ok (view a, new)
ParsesAs view outcome (Err e) new = Fails outcome e new
