-- Each source is proved to have one token list or one lexical error, and never both.
use Rattle.std.proofs.Common.{◌≡◌, ◌≢◌, ◌⊎◌, inl, inr, Result, Ok, Err, ℕ, zero, suc, ◌+◌, ◌≤◌, ◌<◌, ◌==◌, Bool, true, false, ◌||◌, cond, if◌then◌else◌, Option, Some, None, is_some, unwrap_or, List, [], ◌∷◌, ◌++◌, length, drop, codes, refl, sym, ap, ◌∙◌, subst, arith, length-drop}
use Rattle.std.proofs.lemmas.Bool.{cond_both, cases_lt, eqb-true}
use Rattle.std.proofs.lemmas.Bool.Decides.{nat_tests}
use Rattle.std.proofs.lemmas.List.{drop_all}
use Rattle.std.specs.Char.{is_ascii_digit}
use Rattle.std.specs.List.{prefix_len}
use Rattle.std.specs.Option.{option_map_or}
use Rattle.std.specs.declared.vec.Vec.{Vec}
use Rattle.std.specs.declared.alloc.Global.{Global}
use Rattle.ti_base.specs.Places.{place_of, end_place}
use Rattle.ti_syntax.specs.declared.token.Token.{Token}
use Rattle.ti_syntax.specs.declared.token.TokenKind.{TokenKind}
use Rattle.ti_syntax.specs.declared.token.TokenKind.TheVariants as k
use Rattle.ti_syntax.specs.Tokenizing.{Piece, Space, Lexeme, IsLongest, Pieces, IsTokenized, BeginsNoPiece, BeginsNoItem, IsItem, AreItems, OpensComment, breaks_string, is_unescaped, is_long_letter, escaped, first_passes, Flaw, StrayByte, OpenComment, OpenString, WrongNumber, HasFlaw, IsFlawed}
use Rattle.ti_syntax.specs.Tokenizing as pieces
use Rattle.ti_rules.specs.declared.refusal.Refusal.{Refusal}
use Rattle.ti_rules.specs.LexicalRefusals.{most_bytes, rule_of, IsLexicalRefusal}
use Rattle.ti_rules.specs.LexicalRefusals as refusals
use Rattle.ti_lex.specs.declared.error.LexErr.{LexErr}
use Rattle.ti_lex.specs.declared.error.LexErr.TheVariants as e
use Rattle.ti_lex.specs.Answer.{Lexes, GivesOnly, RefusesOnly}
use Rattle.ti_lex.specs.declared.byte_class.ByteClass.{ByteClass}
use Rattle.ti_lex.specs.declared.byte_class.ByteClass.TheVariants as c
use Rattle.ti_lex.specs.Mirrors.Reading.{Reading, Matches, Rejects, class_of_byte, dimension, value_from, most_of, kind_of_number, letters, is_number, digits, number_lexeme, string_from, escape_from, slash, first_by, first_lexeme}
use Rattle.ti_lex.proofs.Bytes.{IsOfClass, class_of_is, class_of_byte-digit}
use Rattle.ti_lex.proofs.Comments.{only_open}
use Rattle.ti_lex.proofs.Fronts.{IsRefusal}
use Rattle.ti_lex.proofs.Longest.{Tells, first_tells, longest_read, none_empty, opens}
use Rattle.ti_lex.proofs.Signs.{sign_refusal}
use Rattle.ti_lex.proofs.StringPieces.{items_read}

number_refusal : (at : ℕ) (l : List ℕ) → IsRefusal WrongNumber at (number_lexeme at l)
number_refusal at l = by (dimension l)
  where
    cases : (taken : Reading) (t : Bool) → IsRefusal WrongNumber at taken → IsRefusal WrongNumber at (cond t taken (Rejects WrongNumber at))
    cases taken true is = is
    cases taken false is = (refl, refl)

    by : (found : Option ℕ) → IsRefusal WrongNumber at (option_map_or (λ n. Matches (Lexeme (k.Dim n)) (at + 2)) found (digits at l))
    by (Some n) = tt
    by None =
        let size = prefix_len is_ascii_digit l in
        let long = first_passes is_long_letter (drop size l) in
        cases (Matches (Lexeme (kind_of_number long (value_from 0 l))) (at + size + letters long)) (is_number (first_passes (λ b. b == 48) l) size (most_of long) (value_from 0 l)) tt

-- where a string breaks, it is refused at its quote
breaks_refused : (quote : ℕ) (bytes : List ℕ) (at : ℕ) (l : List ℕ) → breaks_string l ≡ true → string_from quote bytes at l ≡ Rejects OpenString quote
breaks_refused quote bytes at [] h = refl
breaks_refused quote bytes at (b ∷ l) h =
    let quoted : (b == 34) ≡ false = grind (arith, nat_tests) in
    let begins : (b == 92) ≡ false = grind (arith, nat_tests) in
    let plain : is_unescaped b ≡ false = grind (arith, nat_tests) in
    rw (plain, quoted, begins, h) refl

escape_refused : (quote : ℕ) (bytes : List ℕ) (at : ℕ) (l : List ℕ) → BeginsNoItem (92 ∷ l) → escape_from quote bytes at l ≡ Rejects StrayByte at
escape_refused quote bytes at [] none = refl
escape_refused quote bytes at (b ∷ l) none = by (escaped b) refl
  where
    by : (found : Option ℕ) → escaped b ≡ found → (if is_some found then string_from quote (bytes ++ unwrap_or found 0 ∷ []) (at + 2) l else Rejects StrayByte at) ≡ Rejects StrayByte at
    by (Some byte) h = absurd (none.1 (92 ∷ b ∷ []) l byte (pieces.escape b h) refl)
    by None h = refl

-- where no item stands, and the string doesn't break, the byte is refused
stray_refused : (quote : ℕ) (bytes : List ℕ) (at : ℕ) (l : List ℕ) → breaks_string l ≡ false → BeginsNoItem l → string_from quote bytes at l ≡ Rejects StrayByte at
stray_refused quote bytes at [] h none = cc
stray_refused quote bytes at (b ∷ l) h none =
    let P : Reading → Type 0 = λ r. r ≡ Rejects StrayByte at in
    cond_both (b == 34) _ _ P (λ quoted. let both : true ≡ false = sym quoted ∙ none.0 in cc)
    (λ _. cond_both (b == 92) _ _ P (λ begins. escape_refused quote bytes at l
    (subst (λ d. BeginsNoItem (d ∷ l)) (eqb-true b 92 begins) none))
    (λ _. cond_both (is_unescaped b) _ _ P (λ plain. absurd (none.1 (b ∷ []) l b (pieces.plain b plain) refl))
    (λ _. cond_both (b == 10 || b == 13) _ _ P (λ breaks. let both : true ≡ false = sym breaks ∙ h in cc) (λ _. refl))))

abbrev head_of : List ℕ → ℕ
head_of [] = 0
head_of (b ∷ l) = b

slash_refusal : (at : ℕ) (l : List ℕ) → (OpensComment (47 ∷ l) → ⊥) → IsRefusal StrayByte at (slash at (47 ∷ l))
slash_refusal at l no_comment =
    let P : Reading → Type 0 = IsRefusal StrayByte at in
    cond_both (first_passes (λ b. b == 47) l) _ _ P (λ _. tt) (λ _. cond_both (first_passes (λ b. b == 42) l) _ _ P (λ star. absurd (no_comment (opens l star))) (λ _. sign_refusal at 47 l))

byte_refusal : (at b : ℕ) (l : List ℕ) → (OpensComment (b ∷ l) → ⊥) → b ≢ 34 → is_ascii_digit b ≡ false → IsRefusal StrayByte at (first_lexeme at (b ∷ l))
unfolding first_lexeme
byte_refusal at b l no_comment quote no_digit = by (class_of_byte b) (class_of_is b)
  where
    by : (q : ByteClass) → IsOfClass b q → IsRefusal StrayByte at (first_by q at (b ∷ l))
    by c.Blank h = tt
    by c.Letter h = tt
    by c.Digit h = let both : true ≡ false = sym h ∙ no_digit in cc
    by c.Quote h = absurd (quote h)
    by c.Slash h =
        subst (λ d. IsRefusal StrayByte at (slash at (d ∷ l))) (sym h) (slash_refusal at l (subst (λ d. OpensComment (d ∷ l) → ⊥) h no_comment))
    by c.Other h = sign_refusal at b l

digit_refusal : (at b : ℕ) (l : List ℕ) → is_ascii_digit b ≡ true → IsRefusal WrongNumber at (first_lexeme at (b ∷ l))
unfolding first_lexeme
digit_refusal at b l h =
    subst (λ q. IsRefusal WrongNumber at (first_by q at (b ∷ l))) (sym (class_of_byte-digit b h)) (number_refusal at (b ∷ l))

comment_refusal : (at : ℕ) (l : List ℕ) → IsRefusal OpenComment at (first_lexeme at (codes "/*" ++ l))
unfolding first_lexeme
comment_refusal at l = only_open at l

string_read : (at : ℕ) (l : List ℕ) → first_lexeme at (34 ∷ l) ≡ string_from at [] (at + 1) l
unfolding first_lexeme
string_read at l = refl

-- a list at whose front no piece stands is refused
stuck_refused : (at : ℕ) (l : List ℕ) → 0 < length l → BeginsNoPiece l → (flaw : Flaw) (fault : ℕ) → IsRefusal flaw fault (first_lexeme at l) → first_lexeme at l ≡ Rejects flaw fault
stuck_refused at l some stuck flaw fault h = by (first_lexeme at l) (first_tells at l some) h
  where
    by : (r : Reading) → Tells at l r → IsRefusal flaw fault r → r ≡ Rejects flaw fault
    by (Matches piece end) (size, to, positive, longest) h =
        absurd (stuck size piece longest.within longest.is_piece)
    by (Rejects other x) told (same, there) =
        ap (λ f. Rejects f x) same ∙ ap (Rejects flaw) there

-- what is wrong with a list is what is refused
flaw_refused : {l : List ℕ} {flaw : Flaw} {before : ℕ} → HasFlaw l flaw before → BeginsNoPiece l → (at : ℕ) → first_lexeme at l ≡ Rejects flaw (at + before)
flaw_refused (pieces.open_comment rest) stuck at =
    stuck_refused at (codes "/*" ++ rest) (omega arith) stuck OpenComment at (comment_refusal at rest) ∙ ap (Rejects OpenComment) (omega arith)
flaw_refused (pieces.open_string {items = items} {bytes = bytes} rest are breaks) stuck at =
    string_read at (items ++ rest) ∙ items_read are at [] (at + 1) rest ∙ breaks_refused at bytes (at + 1 + length items) rest breaks ∙ ap (Rejects OpenString) (omega arith)
flaw_refused (pieces.stray_in_string {items = items} {bytes = bytes} rest are breaks none) stuck at =
    string_read at (items ++ rest) ∙ items_read are at [] (at + 1) rest ∙ stray_refused at bytes (at + 1 + length items) rest breaks none ∙ ap (Rejects StrayByte) (omega arith)
flaw_refused (pieces.wrong_number digit rest h) stuck at =
    stuck_refused at (digit ∷ rest) (omega arith) stuck WrongNumber at (digit_refusal at digit rest h) ∙ ap (Rejects WrongNumber) (omega arith)
flaw_refused (pieces.stray_byte b rest no_comment quote no_digit) stuck at =
    stuck_refused at (b ∷ rest) (omega arith) stuck StrayByte at (byte_refusal at b rest no_comment quote no_digit) ∙ ap (Rejects StrayByte) (omega arith)

abbrev end_of : Reading → ℕ
end_of (Matches piece end) = end
end_of (Rejects flaw fault) = fault

-- two longest pieces at one place are one
same_longest : (i : ℕ) (l : List ℕ) (n m : ℕ) (p q : Piece) → IsLongest l n p → IsLongest l m q → (i + n ≡ i + m) × (p ≡ q)
same_longest i l n m p q one other =
    let both : Matches p (i + n) ≡ Matches q (i + m) = sym (longest_read i l n p one) ∙ longest_read i l m q other in
    (ap end_of both, cc)

-- the pieces of a text up to where they can't go on are one list
same_pieces : {text : List ℕ} {i j l : ℕ} {ts us : List Token} → Pieces text i ts j → BeginsNoPiece (drop j text) → Pieces text i us l → BeginsNoPiece (drop l text) → (ts ≡ us) × (j ≡ l)
same_pieces pieces.no_piece stuck pieces.no_piece stop = (refl, refl)
same_pieces pieces.no_piece stuck (pieces.space_and {size = n} one others) stop =
    absurd (stuck n Space one.within one.is_piece)
same_pieces pieces.no_piece stuck (pieces.token_and {size = n} {kind = kind} one others) stop =
    absurd (stuck n (Lexeme kind) one.within one.is_piece)
same_pieces (pieces.space_and {size = n} one others) stuck pieces.no_piece stop =
    absurd (stop n Space one.within one.is_piece)
same_pieces (pieces.token_and {size = n} {kind = kind} one others) stuck pieces.no_piece stop =
    absurd (stop n (Lexeme kind) one.within one.is_piece)
same_pieces {text} {i} {l = l} {us = us} (pieces.space_and {size = n} one others) stuck (pieces.space_and {size = m} two more) stop =
    let (to, same) = same_longest i (drop i text) n m Space Space one two in
    same_pieces others stuck (subst (λ x. Pieces text x us l) (sym to) more) stop
same_pieces {text} {i} (pieces.space_and {size = n} one others) stuck (pieces.token_and {size = m} {kind = kind} two more) stop =
    let (to, same) = same_longest i (drop i text) n m Space (Lexeme kind) one two in cc
same_pieces {text} {i} (pieces.token_and {size = n} {kind = kind} one others) stuck (pieces.space_and {size = m} two more) stop =
    let (to, same) = same_longest i (drop i text) n m (Lexeme kind) Space one two in cc
same_pieces {text} {i} {l = l} (pieces.token_and {size = n} {kind = kind} {tokens = ts} one others) stuck (pieces.token_and {size = m} {kind = other} {tokens = us} two more) stop =
    let (to, same) = same_longest i (drop i text) n m (Lexeme kind) (Lexeme other) one two in
    let (rest, there) = same_pieces others stuck (subst (λ x. Pieces text x us l) (sym to) more) stop in
    let named : kind ≡ other = cc in
    (ap (λ (q : TokenKind). record { kind = q; place = place_of text i } ∷ ts) named ∙ ap (λ t. record { kind = other; place = place_of text i } ∷ t) rest, there)

-- no piece stands behind the last byte
end_stuck : (text : List ℕ) → BeginsNoPiece (drop (length text) text)
end_stuck text =
    subst BeginsNoPiece (sym (drop_all (length text) text (omega arith))) none_empty

-- a text has one list of tokens
pub one_list : (text : List ℕ) (a b : List Token) → IsTokenized text a → IsTokenized text b → a ≡ b
one_list text a b this that =
    let (same, to) = same_pieces this.pieces (end_stuck text) that.pieces (end_stuck text) in
    this.ended ∙ ap (λ ts. ts ++ record { kind = k.End; place = end_place text } ∷ []) same ∙ sym that.ended

flaw_some : {l : List ℕ} {flaw : Flaw} {before : ℕ} → HasFlaw l flaw before → 0 < length l
flaw_some (pieces.open_comment rest) = omega arith
flaw_some (pieces.open_string rest are breaks) = omega arith
flaw_some (pieces.stray_in_string rest are breaks none) = omega arith
flaw_some (pieces.wrong_number digit rest h) = omega arith
flaw_some (pieces.stray_byte b rest no_comment quote no_digit) = omega arith

-- a text that has tokens isn't flawed
tokens_no_flaw : (text : List ℕ) (tokens : List Token) (flaw : Flaw) (at : ℕ) → IsTokenized text tokens → IsFlawed text flaw at → ⊥
tokens_no_flaw text tokens flaw at this that =
    let (same, to) = same_pieces this.pieces (end_stuck text) that.pieces that.stuck in
    let some = flaw_some that.flawed in
    omega (arith, length-drop that.end text)

pub never_both : (text : List ℕ) (tokens : List Token) (refusal : Refusal) → length text ≤ most_bytes → IsTokenized text tokens → IsLexicalRefusal text refusal → ⊥
never_both text tokens refusal short this (refusals.too_long long) = omega arith
never_both text tokens refusal short this (refusals.flawed {flaw = flaw} {at = at} _ flawed) =
    tokens_no_flaw text tokens flaw at this flawed

-- a text has one flaw
one_flaw : (text : List ℕ) (flaw other : Flaw) (at place : ℕ) → IsFlawed text flaw at → IsFlawed text other place → (flaw ≡ other) × (at ≡ place)
one_flaw text flaw other at place this that =
    let (same, to) = same_pieces this.pieces this.stuck that.pieces that.stuck in
    let here : first_lexeme this.end (drop this.end text) ≡ Rejects flaw at = flaw_refused this.flawed this.stuck this.end ∙ ap (Rejects flaw) (sym this.place) in
    let there : first_lexeme that.end (drop that.end text) ≡ Rejects other place = flaw_refused that.flawed that.stuck that.end ∙ ap (Rejects other) (sym that.place) in
    let both : Rejects flaw at ≡ Rejects other place = sym here ∙ ap (λ x. first_lexeme x (drop x text)) to ∙ there in
    (cc, ap end_of both)

-- a text has one refusal
pub one_refusal : (text : List ℕ) (a b : Refusal) → IsLexicalRefusal text a → IsLexicalRefusal text b → a ≡ b
one_refusal text a b (refusals.too_long _) (refusals.too_long _) = refl
one_refusal text a b (refusals.too_long long) (refusals.flawed short _) = absurd (omega arith)
one_refusal text a b (refusals.flawed short _) (refusals.too_long long) = absurd (omega arith)
one_refusal text a b (refusals.flawed {flaw = flaw} {at = at} _ this) (refusals.flawed {flaw = other} {at = place} _ that) =
    let (same, there) = one_flaw text flaw other at place this that in
    ap (λ f. record { rule = rule_of f; place = place_of text at }) same ∙ ap (λ x. record { rule = rule_of other; place = place_of text x }) there

-- from a place on a text has tokens or a flaw
abbrev GoesOn : List ℕ → ℕ → Type 0
GoesOn text i =
    ((tokens : List Token) × Pieces text i tokens (length text)) ⊎ ((tokens : List Token) × (end : ℕ) × (flaw : Flaw) × (before : ℕ)
    × Pieces text i tokens end × BeginsNoPiece (drop end text) × HasFlaw (drop end text) flaw before)

go_space : (text : List ℕ) (i size : ℕ) → IsLongest (drop i text) size Space → GoesOn text (i + size) → GoesOn text i
go_space text i size longest (inl (tokens, to_end)) = inl (tokens, pieces.space_and longest to_end)
go_space text i size longest (inr (tokens, end, flaw, before, to, stuck, flawed)) =
    inr (tokens, end, flaw, before, pieces.space_and longest to, stuck, flawed)

go_token : (text : List ℕ) (i size : ℕ) (kind : TokenKind) → IsLongest (drop i text) size (Lexeme kind) → GoesOn text (i + size) → GoesOn text i
go_token text i size kind longest (inl (tokens, to_end)) =
    inl (record { kind = kind; place = place_of text i } ∷ tokens, pieces.token_and longest to_end)
go_token text i size kind longest (inr (tokens, end, flaw, before, to, stuck, flawed)) =
    inr (record { kind = kind; place = place_of text i } ∷ tokens, end, flaw, before, pieces.token_and longest to, stuck, flawed)

goes_on : (text : List ℕ) (left i : ℕ) → i ≤ length text → length text ≤ i + left → GoesOn text i
goes_on text zero i within near =
    let at_end : i ≡ length text = omega arith in
    inl ([], subst (Pieces text i []) at_end pieces.no_piece)
goes_on text (suc left) i within near =
    elim (cases_lt i (length text)) [
      | inl more ↦ by (first_lexeme i (drop i text))
          (first_tells i (drop i text) (omega (arith, length-drop i text)))
          (λ size some fits. goes_on text left (i + size) (omega (arith, length-drop i text)) (omega arith))
      | inr done ↦ (let at_end : i
          ≡ length text = omega arith in inl ([], subst (Pieces text i []) at_end pieces.no_piece))
    ]
  where
    by : (r : Reading) → Tells i (drop i text) r → ((size : ℕ) → 0 < size → size ≤ length (drop i text) → GoesOn text (i + size)) → GoesOn text i
    by (Matches Space end) (size, to, some, longest) more =
        go_space text i size longest (more size some longest.within)
    by (Matches (Lexeme kind) end) (size, to, some, longest) more =
        go_token text i size kind longest (more size some longest.within)
    by (Rejects flaw fault) (stuck, (before, to, flawed)) more =
        inr ([], i, flaw, before, pieces.no_piece, stuck, flawed)

-- a text has tokens or a refusal
pub some_reading : (text : List ℕ) → ((tokens : List Token) × (length text ≤ most_bytes) × IsTokenized text tokens) ⊎ ((refusal : Refusal) × IsLexicalRefusal text refusal)
some_reading text =
    elim (cases_lt most_bytes (length text)) [
      | inl long ↦ inr (_, refusals.too_long long)
      | inr short ↦ elim (goes_on text (length text) 0 (omega arith) (omega arith)) [
        | inl (tokens, to_end) ↦ inl (_, short, record { spelled = tokens; pieces = to_end; ended = refl })
        | inr (
          tokens,
          end,
          flaw,
          before,
          to,
          stuck,
          flawed,
        ) ↦ inr (
          _,
          refusals.flawed short
              (record { spelled = tokens; end = end; pieces = to; stuck = stuck; before = before; flawed = flawed; place = refl }),
        )
      ]
    ]

-- from the answer: no other is possible
pub only_tokens : (text : List ℕ) (result : Result (Vec Token Global) LexErr) → Lexes text result → (tokens : List Token) → length text ≤ most_bytes → IsTokenized text tokens → GivesOnly result tokens
only_tokens text (Ok found) (short, is) tokens _ this = one_list text found.items tokens is this
only_tokens text (Err (e.Refused refusal)) is tokens short this = absurd (never_both text tokens refusal short this is)
only_tokens text (Err e.Memory) is tokens short this = refl

pub only_refusal : (text : List ℕ) (result : Result (Vec Token Global) LexErr) → Lexes text result → (refusal : Refusal) → IsLexicalRefusal text refusal → RefusesOnly result refusal
only_refusal text (Ok found) (short, is) refusal this = never_both text found.items refusal short is this
only_refusal text (Err (e.Refused other)) is refusal this = inl (ap e.Refused (one_refusal text other refusal is this))
only_refusal text (Err e.Memory) is refusal this = inr refl
