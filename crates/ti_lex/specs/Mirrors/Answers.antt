-- For proofs only: what the lexer's private functions return, in terms of the model.
use Rattle.std.specs.Prelude.{◌≡◌, ℕ, Option, Some, None, Result, Ok, Err}
use Rattle.ti_base.specs.declared.place.Place.{Place}
use Rattle.ti_base.specs.Places.{place_of}
use Rattle.ti_syntax.specs.Tokenizing as tokenizing
use Rattle.ti_rules.specs.declared.rule.Rule.TheVariants.{X1, X3}
use Rattle.ti_rules.specs.LexicalRefusals.{rule_of}
use Rattle.ti_lex.specs.declared.error.LexErr.{LexErr}
use Rattle.ti_lex.specs.declared.error.LexErr.TheVariants.{Refused, Memory}
use Rattle.ti_lex.specs.declared.input_element.InputElement.{InputElement}
use Rattle.ti_lex.specs.declared.input_element.InputElement.TheVariants as p
use Rattle.ti_lex.specs.Mirrors.Cursor.{CursorView, skip_bytes}
use Rattle.ti_lex.specs.Mirrors.Reading.{Reading, Matches, Rejects, Item, Gives, Closes, Breaks, Strays}

-- the lexical element that a Piece of the code represents
abbrev pub element_view : InputElement → tokenizing.Piece
element_view p.Space = tokenizing.Space
element_view (p.Token kind) = tokenizing.Lexeme kind

-- reading from the old position gave this reading, and ended at the new position
abbrev pub Scans : Reading → CursorView → CursorView → Result InputElement LexErr → Type 0
Scans (Matches piece end) old new (Ok found) = (element_view found ≡ piece) × (new ≡ record old { at = end })
Scans (Matches piece end) old new (Err (Refused refusal)) = ⊥
Scans (Rejects flaw fault) old new (Ok found) = ⊥
Scans (Rejects flaw fault) old new (Err (Refused refusal)) =
    refusal ≡ record { rule = rule_of flaw; place = place_of old.text fault }
Scans _ old new (Err Memory) = Unit {0}

-- reading one item of a string from the old position gave this item; `quote` is the position of the opening quote
abbrev pub ReadsItem : Item → Place → CursorView → CursorView → Result (Option ℕ) LexErr → Type 0
ReadsItem (Gives byte size) quote old new (Ok found) = (found ≡ Some byte) × (new ≡ skip_bytes size old)
ReadsItem Closes quote old new (Ok found) = (found ≡ None) × (new ≡ skip_bytes 1 old)
ReadsItem Breaks quote old new (Err error) = error ≡ Refused (record { rule = X3; place = quote })
ReadsItem Strays quote old new (Err error) =
    error ≡ Refused (record { rule = X1; place = place_of old.text old.at })
ReadsItem _ quote old new _ = ⊥
