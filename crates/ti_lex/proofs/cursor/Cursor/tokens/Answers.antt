use Rattle.std.proofs.Common.{◌≡◌, ◌++◌, ◌∷◌, [], Ok, sym, ap, ◌∙◌, subst, arith}
use Rattle.std.proofs.lemmas.Result.{err_from_is_err_and}
use Rattle.ti_base.specs.declared.place.Place.{Place}
use Rattle.ti_base.specs.Places.{place_of}
use Rattle.ti_syntax.specs.declared.token.TokenKind.TheVariants as k
use Rattle.ti_syntax.specs.Tokenizing.{IsTokenized}
use Rattle.ti_lex.specs.Mirrors.Answers.{Scans}
use Rattle.ti_lex.specs.Mirrors.Cursor.{unread_bytes}
use Rattle.ti_lex.specs.Mirrors.Reading.{first_lexeme}
use Rattle.ti_lex.proofs.Texts.{IsReadTo, some, nothing_read, all_read, space_read, token_read, error_read, reads_further}
use Rattle.ti_lex.proofs.cursor.Cursor.tokens.Goals as goal

pub loop-byte-init : goal.loop-byte-init
loop-byte-init c =
    subst (λ ts. IsReadTo c.args.self.now.text ts c.args.self.now) (sym c.new-tokens.ensures.items) (nothing_read c.args.self.now c.requires.front)

pub returns-in_err-input_element : goal.returns-in_err-input_element
returns-in_err-input_element c =
    let p = err_from_is_err_and c.from_residual.result c.from_residual.ensures.1 in
    let more = some c.loop-byte.self c.in-Some.byte _ c.in-Some.ensures in
    rw (p.1, p.2) (error_read c.args.self.now.text c.loop-byte.tokens.items c.loop-byte.self c.input_element.new.self c.loop-byte.invariant more (omega arith) c.in_err-input_element.field-0.0 c.in_err-input_element.ensures)

pub loop-byte-smaller-in-Space : goal.loop-byte-smaller-in-Space
loop-byte-smaller-in-Space c =
    let more = some c.loop-byte.self c.in-Some.byte _ c.in-Some.ensures in
    reads_further c.args.self.now.text c.loop-byte.tokens.items c.loop-byte.self c.input_element.new.self c.loop-byte.invariant more c.in_ok-input_element.field-0 c.in_ok-input_element.ensures

pub loop-byte-preserved-in-Space : goal.loop-byte-preserved-in-Space
loop-byte-preserved-in-Space c =
    let spot = c.loop-byte.self in
    let more = some spot c.in-Some.byte _ c.in-Some.ensures in
    let told = subst (λ q. Scans (first_lexeme spot.at (unread_bytes spot)) spot c.input_element.new.self (Ok q)) c.in-Space.is c.in_ok-input_element.ensures in
    space_read c.args.self.now.text c.loop-byte.tokens.items spot c.input_element.new.self c.loop-byte.invariant more told

pub loop-byte-smaller : goal.loop-byte-smaller
loop-byte-smaller c =
    let more = some c.loop-byte.self c.in-Some.byte _ c.in-Some.ensures in
    reads_further c.args.self.now.text c.loop-byte.tokens.items c.loop-byte.self c.input_element.new.self c.loop-byte.invariant more c.in_ok-input_element.field-0 c.in_ok-input_element.ensures

pub loop-byte-preserved : goal.loop-byte-preserved
loop-byte-preserved c =
    let text = c.args.self.now.text in
    let before = c.loop-byte.tokens.items in
    let spot = c.loop-byte.self in
    let more = some spot c.in-Some.byte _ c.in-Some.ensures in
    let kind = c.in-Token.kind in
    let told = subst (λ q. Scans (first_lexeme spot.at (unread_bytes spot)) spot c.input_element.new.self (Ok q)) c.in-Token.is c.in_ok-input_element.ensures in
    let read = token_read text before spot c.input_element.new.self c.loop-byte.invariant more kind told in
    let here : place_of text spot.at ≡ c.place-place.result = ap (λ t. place_of t spot.at) (sym c.loop-byte.invariant.same) ∙ sym c.place-place.ensures in
    let added : before ++ record { kind = kind; place = place_of text spot.at } ∷ [] ≡ c.push.new.self.items =
    ap (λ (p : Place). before ++ record { kind = kind; place = p } ∷ []) here ∙ sym c.in_ok-push-in-Token.ensures.items in
    subst (λ ts. IsReadTo text ts c.input_element.new.self) added read

pub returns : goal.returns
returns c =
    let text = c.args.self.now.text in
    let tokens = c.loop-byte.tokens.items in
    let added : tokens ++ record { kind = k.End; place = place_of c.loop-byte.self.text c.loop-byte.self.at } ∷ []
    ≡ c.push-2.new.self.items = ap (λ (p : Place). tokens ++ record { kind = k.End; place = p } ∷ []) (sym c.place-place-2.ensures)
    ∙ sym c.in_ok-push.ensures.items in
    (c.requires.short, subst (IsTokenized text) added (all_read text tokens c.loop-byte.self c.loop-byte.invariant c.in_default.ensures))
