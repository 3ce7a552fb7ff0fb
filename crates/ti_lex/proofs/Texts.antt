-- Lemmas on the sequence of lexical elements of a source.
use Rattle.std.proofs.Common.{◌≡◌, ℕ, ◌+◌, ◌-◌, ◌≤◌, ◌<◌, Ok, Err, List, [], ◌∷◌, ◌++◌, length, drop, refl, sym, ap, ◌∙◌, subst, arith, length-drop}
use Rattle.ti_base.specs.declared.place.Place.{Place}
use Rattle.ti_base.specs.Places.{place_of, end_place}
use Rattle.ti_syntax.specs.declared.token.Token.{Token}
use Rattle.ti_syntax.specs.declared.token.TokenKind.{TokenKind}
use Rattle.ti_syntax.specs.declared.token.TokenKind.TheVariants as k
use Rattle.ti_syntax.specs.Tokenizing.{Piece, Space, Lexeme, IsLongest, Pieces, IsTokenized, BeginsNoPiece, Flaw, HasFlaw, IsFlawed}
use Rattle.ti_syntax.specs.Tokenizing as pieces
use Rattle.ti_rules.specs.declared.refusal.Refusal.{Refusal}
use Rattle.ti_rules.specs.LexicalRefusals.{most_bytes, rule_of, IsLexicalRefusal}
use Rattle.ti_rules.specs.LexicalRefusals as refusals
use Rattle.ti_lex.specs.declared.error.LexErr.{LexErr}
use Rattle.ti_lex.specs.declared.error.LexErr.TheVariants as e
use Rattle.ti_lex.specs.declared.input_element.InputElement as read
use Rattle.ti_lex.specs.declared.input_element.InputElement.TheVariants as p
use Rattle.ti_lex.specs.Answer.{Lexes}
use Rattle.ti_lex.specs.Mirrors.Answers.{Scans}
use Rattle.ti_lex.specs.Mirrors.Cursor.{CursorView, unread_bytes}
use Rattle.ti_lex.specs.Mirrors.Reading.{Reading, Matches, Rejects, first_lexeme}
use Rattle.ti_lex.proofs.Longest.{Tells, first_tells}

-- one more piece behind others
pub more_space : {text : List ℕ} {i j : ℕ} {tokens : List Token} → Pieces text i tokens j → (size : ℕ) → IsLongest (drop j text) size Space → Pieces text i tokens (j + size)
more_space pieces.no_piece size longest = pieces.space_and longest pieces.no_piece
more_space (pieces.space_and first others) size longest =
    pieces.space_and first (more_space others size longest)
more_space (pieces.token_and first others) size longest =
    pieces.token_and first (more_space others size longest)

more_token : {text : List ℕ} {i j : ℕ} {tokens : List Token} → Pieces text i tokens j → (size : ℕ) (kind : TokenKind)
    → IsLongest (drop j text) size (Lexeme kind) → Pieces text i (tokens ++ record { kind = kind; place = place_of text j } ∷ []) (j + size)
more_token pieces.no_piece size kind longest = pieces.token_and longest pieces.no_piece
more_token (pieces.space_and first others) size kind longest =
    pieces.space_and first (more_token others size kind longest)
more_token (pieces.token_and first others) size kind longest =
    pieces.token_and first (more_token others size kind longest)

-- what a loop over the pieces keeps
pub record IsReadTo (text : List ℕ) (tokens : List Token) (spot : CursorView) : Type 0 where
  pub same : spot.text ≡ text
  pub within : spot.at ≤ length text
  pub pieces : Pieces text 0 tokens spot.at

pub some : (spot : CursorView) (b : ℕ) (l : List ℕ) → unread_bytes spot ≡ b ∷ l → 0 < length (unread_bytes spot)
some spot b l h = let long = ap length h in omega arith

pub nothing_read : (spot : CursorView) → spot.at ≡ 0 → IsReadTo spot.text [] spot
nothing_read spot h = record { same = refl; within = omega arith; pieces = subst (Pieces spot.text 0 []) (sym h) pieces.no_piece }

-- where nothing is left, the tokens and the end are those of the text
pub all_read : (text : List ℕ) (tokens : List Token) (spot : CursorView) → IsReadTo text tokens spot → unread_bytes spot ≡ []
    → IsTokenized text (tokens ++ record { kind = k.End; place = place_of spot.text spot.at } ∷ [])
all_read text tokens spot before none =
    let left : length (drop spot.at spot.text) ≡ 0 = ap length none in
    let long : length spot.text ≡ length text = ap length before.same in
    let le = before.within in
    let done : spot.at ≡ length text = omega (arith, length-drop spot.at spot.text) in
    let end : place_of spot.text spot.at ≡ end_place text = ap (λ t. place_of t spot.at) before.same ∙ ap (place_of text) done in
    record { spelled = tokens; pieces = subst (Pieces text 0 tokens) done before.pieces; ended = ap (λ (p : Place). tokens ++ record { kind = k.End; place = p } ∷ []) end }

module _ (text : List ℕ) (tokens : List Token) (spot new : CursorView) (before : IsReadTo text tokens spot) (more : 0 < length (unread_bytes spot)) where
  abbrev front : List ℕ
  front = drop spot.at text

  front_is : unread_bytes spot ≡ front
  front_is = ap (drop spot.at) before.same

  told : (r : Reading) → first_lexeme spot.at (unread_bytes spot) ≡ r → Tells spot.at front r
  told r h =
      subst (Tells spot.at front) (ap (first_lexeme spot.at) (sym front_is) ∙ h) (first_tells spot.at front (subst (λ l. 0 < length l) front_is more))

  moves : (end size : ℕ) → end ≡ spot.at + size → size ≤ length front → new ≡ record spot { at = end } → (new.text ≡ text) × (new.at ≤ length text) × (spot.at + size ≡ new.at)
  moves end size to within h =
      let there : new.at ≡ end = ap (λ (z : CursorView). z.at) h in
      let far = before.within in
      (ap (λ (z : CursorView). z.text) h ∙ before.same, omega (arith, length-drop spot.at text), sym to ∙ sym there)

  -- a blank or a comment is passed over
  pub space_read : Scans (first_lexeme spot.at (unread_bytes spot)) spot new (Ok p.Space) → IsReadTo text tokens new
  space_read h = by (first_lexeme spot.at (unread_bytes spot)) refl h
    where
      by : (r : Reading) → first_lexeme spot.at (unread_bytes spot) ≡ r → Scans r spot new (Ok p.Space) → IsReadTo text tokens new
      by (Matches piece end) is (found, to_new) =
          let (size, to, positive, longest) = told (Matches piece end) is in
          let (same, within, there) = moves end size to longest.within to_new in
          record { same = same; within = within; pieces = subst (Pieces text 0 tokens) there (more_space before.pieces size (subst (IsLongest front size) (sym found) longest)) }
      by (Rejects flaw fault) is h = absurd h

  -- a token is added
  pub token_read : (kind : TokenKind) → Scans (first_lexeme spot.at (unread_bytes spot)) spot new (Ok (p.Token kind)) → IsReadTo text (tokens ++ record { kind = kind; place = place_of text spot.at } ∷ []) new
  token_read kind h = by (first_lexeme spot.at (unread_bytes spot)) refl h
    where
      by : (r : Reading) → first_lexeme spot.at (unread_bytes spot) ≡ r → Scans r spot new (Ok (p.Token kind)) → IsReadTo text (tokens ++ record { kind = kind; place = place_of text spot.at } ∷ []) new
      by (Matches piece end) is (found, to_new) =
          let (size, to, positive, longest) = told (Matches piece end) is in
          let (same, within, there) = moves end size to longest.within to_new in
          record {
            same = same;
            within = within;
            pieces = subst (Pieces text 0 (tokens
                ++ record { kind = kind; place = place_of text spot.at } ∷ [])) there
                (more_token before.pieces size kind (subst (IsLongest front size) (sym found) longest));
          }
      by (Rejects flaw fault) is h = absurd h

  -- a refusal is that of the text
  pub refusal_read : length text ≤ most_bytes → (refusal : Refusal) → Scans (first_lexeme spot.at (unread_bytes spot)) spot new (Err (e.Refused refusal)) → IsLexicalRefusal text refusal
  refusal_read short refusal h = by (first_lexeme spot.at (unread_bytes spot)) refl h
    where
      by : (r : Reading) → first_lexeme spot.at (unread_bytes spot) ≡ r → Scans r spot new (Err (e.Refused refusal)) → IsLexicalRefusal text refusal
      by (Matches piece end) is h = absurd h
      by (Rejects flaw fault) is refused =
          let (stuck, (back, to, flawed)) = told (Rejects flaw fault) is in
          let here : refusal ≡ record { rule = rule_of flaw; place = place_of text fault } = refused ∙ ap (λ t. record { rule = rule_of flaw; place = place_of t fault }) before.same in
          subst (IsLexicalRefusal text) (sym here) (refusals.flawed short
          (record {
            spelled = tokens;
            end = spot.at;
            pieces = before.pieces;
            stuck = stuck;
            before = back;
            flawed = flawed;
            place = to;
          }))

  -- so is any error that isn't want of memory
  pub error_read : length text ≤ most_bytes → (error : LexErr) → Scans (first_lexeme spot.at (unread_bytes spot)) spot new (Err error) → Lexes text (Err error)
  error_read short (e.Refused refusal) h = refusal_read short refusal h
  error_read short e.Memory h = tt

  -- what is read makes the rest shorter
  pub reads_further : (found : read.InputElement) → Scans (first_lexeme spot.at (unread_bytes spot)) spot new (Ok found) → length (unread_bytes new) < length (unread_bytes spot)
  reads_further found h = by (first_lexeme spot.at (unread_bytes spot)) refl h
    where
      by : (r : Reading) → first_lexeme spot.at (unread_bytes spot) ≡ r → Scans r spot new (Ok found) → length (unread_bytes new) < length (unread_bytes spot)
      by (Matches piece end) is (found, to_new) =
          let (size, to, positive, longest) = told (Matches piece end) is in
          let there : unread_bytes new ≡ drop end spot.text = ap unread_bytes to_new in
          let here : length (unread_bytes spot) ≡ length spot.text - spot.at = length-drop spot.at spot.text in
          let further : length (unread_bytes new) ≡ length spot.text - end = ap length there ∙ length-drop end spot.text in
          omega arith
      by (Rejects flaw fault) is h = absurd h
