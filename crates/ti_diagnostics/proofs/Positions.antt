-- Positions of a text, and the positions of its errors.
use Rattle.std.proofs.Common.{◌≡◌, ◌≤◌, ◌<◌, ◌+◌, ◌==◌, ◌&&◌, ℕ, Bool, true, false, List}
use Rattle.std.proofs.Common.{[], ◌∷◌, length, drop, arith, refl, sym, ap, ap₂, ◌∙◌}
use Rattle.std.proofs.Common.{subst, length-append, length-drop}
use Rattle.std.proofs.lemmas.Bool.{eq-eqb, eqb-true}
use Rattle.ti_base.specs.declared.place.Place.{Place}
use Rattle.ti_base.specs.Places.{place_of, end_place}
use Rattle.ti_syntax.specs.declared.token.Token.{Token}
use Rattle.ti_syntax.specs.declared.token.TokenKind.TheVariants.{End}
use Rattle.ti_syntax.specs.Tokenizing.{Flaw, HasFlaw, open_comment, open_string, stray_in_string}
use Rattle.ti_syntax.specs.Tokenizing.{wrong_number, stray_byte, IsTokenized, Pieces}
use Rattle.ti_syntax.specs.Tokenizing.{no_piece, space_and, token_and}
use Rattle.ti_syntax.specs.Spelling.{refused}
use Rattle.ti_rules.specs.declared.refusal.Refusal.{Refusal}
use Rattle.ti_rules.specs.LexicalRefusals.{most_bytes, too_long, flawed}
use Rattle.ti_rules.specs.RefusalOf.{IsRefusal, of_bytes, of_tokens, of_tree}
use Rattle.ti_diagnostics.specs.Rejections.{IsPosition}
use Rattle.ti_diagnostics.proofs.Places.Trees.{TokensPlaced}
use Rattle.ti_diagnostics.proofs.Places.Spelled.{split, join, text_placed}
use Rattle.ti_diagnostics.proofs.Places.Errors.{error_placed}

both_of : (a b : Bool) → (a && b) ≡ true → (a ≡ true) × (b ≡ true)
both_of true b h = (refl, h)
both_of false b h = absurd (cc)

-- two numbers each decide whether two positions are equal
pub same_decides : (p q : Place) (b : Bool) → b ≡ ((p.line == q.line) && (p.col == q.col))
    → (b ≡ true → p ≡ q) × (b ≡ false → p ≡ q → ⊥)
same_decides p q b is = (λ t. same (sym is ∙ t), λ f e. other (sym is ∙ f) e)
  where
    same : ((p.line == q.line) && (p.col == q.col)) ≡ true → p ≡ q
    same t = let e = both_of (p.line == q.line) (p.col == q.col) t in
        let l : p.line ≡ q.line = eqb-true p.line q.line e.0 in
        let k : p.col ≡ q.col = eqb-true p.col q.col e.1 in λ j. record { line = l j; col = k j }

    other : ((p.line == q.line) && (p.col == q.col)) ≡ false → p ≡ q → ⊥
    other f e =
        let l = eq-eqb p.line q.line (ap (λ (z : Place). z.line) e) in
        let k = eq-eqb p.col q.col (ap (λ (z : Place). z.col) e) in
        let t : ((p.line == q.line) && (p.col == q.col)) ≡ true = ap₂ (λ a b. a && b) l k in
        let apart : true ≡ false = sym t ∙ f in absurd (cc)

-- ---- the positions of errors

-- the elements of a text end within it
pieces_within : {text : List ℕ} {i j : ℕ} {tokens : List Token} → Pieces text i tokens j
    → i ≤ length text → j ≤ length text
pieces_within no_piece within = within
pieces_within {text = text} (space_and {i = i} {size = size} longest more) within =
    pieces_within more (omega (arith, longest.within, length-drop i text))
pieces_within {text = text} (token_and {i = i} {size = size} longest more) within =
    pieces_within more (omega (arith, longest.within, length-drop i text))

flaw_within : {l : List ℕ} {flaw : Flaw} {before : ℕ} → HasFlaw l flaw before → before ≤ length l
flaw_within (open_comment rest) = omega arith
flaw_within (open_string rest items ends) = omega arith
flaw_within (stray_in_string {items = items} rest are ends begins) =
    omega (arith, length-append items rest)
flaw_within (wrong_number digit rest is) = omega arith
flaw_within (stray_byte b rest no_comment no_quote no_digit) = omega arith

-- the position of each token is one of the text
pieces_placed : (text : List ℕ) (i j : ℕ) (tokens : List Token) → Pieces text i tokens j
    → i ≤ length text
    → TokensPlaced (IsPosition text) tokens
pieces_placed text i j tokens no_piece within = tt
pieces_placed text i j tokens (space_and {size = size} longest more) within =
    pieces_placed text _ _ _ more (omega (arith, longest.within, length-drop i text))
pieces_placed text i j tokens (token_and {size = size} longest more) within =
    let inside : i + size ≤ length text = omega (arith, longest.within, length-drop i text) in
    ((i, within, refl), pieces_placed text _ _ _ more inside)

tokens_placed : (text : List ℕ) (tokens : List Token) → IsTokenized text tokens
    → TokensPlaced (IsPosition text) tokens
tokens_placed text tokens is =
    let end : Token = record { kind = End; place = end_place text } in
    let before = pieces_placed text 0 (length text) is.spelled is.pieces (omega arith) in
    let last : TokensPlaced (IsPosition text) (end ∷ []) =
    ((length text, omega arith, refl), tt) in
    let all = join (IsPosition text) is.spelled (end ∷ []) before last in
    subst (λ (l : List Token). TokensPlaced (IsPosition text) l) (sym is.ended) all

-- the position of each error is one of the text
pub error_position : (text : List ℕ) (refusal : Refusal) → IsRefusal text refusal
    → IsPosition text refusal.place
error_position text _ (of_bytes (too_long h)) = (0, omega arith, refl)
error_position text _ (of_bytes (flawed {at = at} short f)) =
    let end : f.end ≤ length text = pieces_within f.pieces (omega arith) in
    let before : f.before ≤ length (drop f.end text) = flaw_within f.flawed in
    (at, omega (arith, f.place, length-drop f.end text), refl)
error_position text _ (of_tokens {tokens = tokens} has (refused front t rest split_so shows)) =
    let each = tokens_placed text tokens has.tokenized in
    let all = subst (λ (l : List Token). TokensPlaced (IsPosition text) l) split_so each in
    (split (IsPosition text) front (t ∷ rest) all).1.0
error_position text refusal (of_tree {tree = tree} has broken) =
    let all = tokens_placed text has.tokens has.has_tokens.tokenized in
    let placed = text_placed (IsPosition text) has.tokens tree has.spells all in
    error_placed (IsPosition text) tree refusal broken placed (0, omega arith, refl)

-- that of a text that is too long is at its first byte
pub first_place : (text : List ℕ) (refusal : Refusal) → IsRefusal text refusal
    → most_bytes < length text → place_of text 0 ≡ refusal.place
first_place text _ (of_bytes (too_long h)) long = refl
first_place text _ (of_bytes (flawed short f)) long = absurd (omega arith)
first_place text _ (of_tokens has g) long = absurd (omega (arith, has.short))
first_place text _ (of_tree has g) long = absurd (omega (arith, has.has_tokens.short))
