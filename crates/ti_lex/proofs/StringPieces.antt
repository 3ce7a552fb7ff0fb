-- The model's reading of string literals is proved correct for the lexical syntax.
use Rattle.std.proofs.Common.{◌≡◌, ◌≢◌, ◌⊎◌, ℕ, ◌+◌, ◌==◌, true, false, ◌||◌, if◌then◌else◌, Option, Some, None, is_some, unwrap_or, List, [], ◌∷◌, ◌++◌, length, inl, inr, refl, sym, ap, ◌∙◌, subst, arith, append_assoc, length-append}
use Rattle.std.proofs.lemmas.Bool.{cond_both, eqb-true, eqb-false}
use Rattle.std.proofs.lemmas.Bool.Decides.{nat_tests}
use Rattle.std.proofs.lemmas.List.{append-nil}
use Rattle.ti_syntax.specs.declared.token.TokenKind.TheVariants as k
use Rattle.ti_syntax.specs.Tokenizing.{Piece, Lexeme, Flaw, StrayByte, OpenString, IsPiece, HasFlaw, IsItem, AreItems, BeginsNoItem, breaks_string, first_passes, is_unescaped, escaped}
use Rattle.ti_syntax.specs.Tokenizing as pieces
use Rattle.ti_lex.specs.Mirrors.Reading.{Reading, Matches, Rejects, string_from, escape_from}
use Rattle.ti_lex.proofs.Fronts.{Beats, IsSound}

plain_apart : (b : ℕ) → is_unescaped b ≡ true → ((b == 34) ≡ false) × ((b == 92) ≡ false)
plain_apart b h = (grind (arith, nat_tests), grind (arith, nat_tests))

plain_read : (quote : ℕ) (before : List ℕ) (at b : ℕ) (l : List ℕ) → is_unescaped b ≡ true → string_from quote before at (b ∷ l) ≡ string_from quote (before ++ b ∷ []) (at + 1) l
plain_read quote before at b l h = let (quoted, begins) = plain_apart b h in rw (h, quoted, begins) refl

escape_read : (quote : ℕ) (before : List ℕ) (at b byte : ℕ) (l : List ℕ) → escaped b ≡ Some byte → string_from quote before at (92 ∷ b ∷ l) ≡ string_from quote (before ++ byte ∷ []) (at + 2) l
escape_read quote before at b byte l h =
    ap (λ o. if is_some o then string_from quote (before ++ unwrap_or o 0 ∷ []) (at + 2) l else Rejects StrayByte at) h

-- items are read one after the other
pub items_read : {items bytes : List ℕ} → AreItems items bytes → (quote : ℕ) (before : List ℕ) (at : ℕ) (rest : List ℕ)
    → string_from quote before at (items ++ rest) ≡ string_from quote (before ++ bytes) (at + length items) rest
items_read pieces.no_items quote before at rest =
    ap (λ b. string_from quote b at rest) (sym (append-nil before)) ∙ ap (λ p. string_from quote (before ++ []) p rest) (omega arith)
items_read (pieces.more_items {items = items} {bytes = bytes} (pieces.plain b h) more) quote before at rest =
    plain_read quote before at b (items ++ rest) h ∙ items_read more quote (before ++ b ∷ []) (at + 1) rest
    ∙ ap (λ t. string_from quote t (at + 1 + length items) rest) (append_assoc before (b ∷ []) bytes)
    ∙ ap (λ p. string_from quote (before ++ b ∷ bytes) p rest) (omega arith)
items_read (pieces.more_items {items = items} {bytes = bytes} (pieces.escape b {byte = byte} h) more) quote before at rest =
    escape_read quote before at b byte (items ++ rest) h ∙ items_read more quote (before ++ byte ∷ []) (at + 2) rest
    ∙ ap (λ t. string_from quote t (at + 2 + length items) rest) (append_assoc before (byte ∷ []) bytes)
    ∙ ap (λ p. string_from quote (before ++ byte ∷ bytes) p rest) (omega arith)

-- where a list begins with a string, that string is read
pub string_beats : (at : ℕ) (items bytes rest : List ℕ) → AreItems items bytes
    → Beats at (length (34 ∷ (items ++ 34 ∷ []))) (Lexeme (k.Str bytes)) (string_from at [] (at + 1) ((items ++ 34 ∷ []) ++ rest))
string_beats at items bytes rest are =
    let whole : string_from at [] (at + 1) ((items ++ 34 ∷ []) ++ rest) ≡ Matches (Lexeme (k.Str bytes)) (at + 1 + length items + 1) =
    ap (string_from at [] (at + 1)) (append_assoc items (34 ∷ []) rest) ∙ items_read are at [] (at + 1) (34 ∷ rest) in
    subst (Beats at (length (34 ∷ (items ++ 34 ∷ []))) (Lexeme (k.Str bytes))) (sym whole) (inr (omega (arith, length-append items (34 ∷ [])), refl))

module _ (quote : ℕ) where
  -- what is read of the rest of a string: items and the quote, or items up to a fault
  abbrev IsRest : List ℕ → ℕ → List ℕ → Reading → Type 0
  IsRest before at l (Matches piece end) =
      (items : List ℕ) × (bytes : List ℕ) × (rest : List ℕ) × AreItems items bytes × (l ≡ items ++ (34 ∷ rest)) × (piece ≡ Lexeme (k.Str (before ++ bytes))) × (end ≡ at + length items + 1)
  IsRest before at l (Rejects flaw fault) =
      (items : List ℕ) × (bytes : List ℕ) × (rest : List ℕ) × AreItems items bytes × (l ≡ items ++ rest)
      × (((flaw ≡ OpenString) × (fault ≡ quote) × (breaks_string rest ≡ true)) ⊎ ((flaw ≡ StrayByte) × (fault ≡ at + length items) × (breaks_string rest ≡ false) × BeginsNoItem rest))

  item_more : (item : List ℕ) (byte : ℕ) (before : List ℕ) (at : ℕ) (l : List ℕ) (r : Reading) → IsItem item byte → IsRest (before ++ byte ∷ []) (at + length item) l r → IsRest before at (item ++ l) r
  item_more item byte before at l (Matches piece end) is (items, bytes, rest, are, l_is, piece_is, to) = (
    item ++ items,
    byte ∷ bytes,
    rest,
    pieces.more_items is are,
    ap (λ t. item ++ t) l_is ∙ sym (append_assoc item items (34 ∷ rest)),
    piece_is ∙ ap (λ t. Lexeme (k.Str t)) (append_assoc before (byte ∷ []) bytes),
    omega (arith, length-append item items),
  )
  item_more item byte before at l (Rejects flaw fault) is (items, bytes, rest, are, l_is, why) = (
    item ++ items,
    byte ∷ bytes,
    rest,
    pieces.more_items is are,
    ap (λ t. item ++ t) l_is ∙ sym (append_assoc item items rest),
    elim why [
      | inl ended ↦ inl ended
      | inr (stray, fault_is, goes_on, none) ↦ inr (
        stray,
        omega (arith, length-append item items),
        goes_on,
        none,
      )
    ],
  )

  stray_here : (before : List ℕ) (at b : ℕ) (l : List ℕ) → (b == 34) ≡ false → (b == 10 || b == 13) ≡ false
      → ((item back : List ℕ) (byte : ℕ) → IsItem item byte → b ∷ l ≢ item ++ back) → IsRest before at (b ∷ l) (Rejects StrayByte at)
  stray_here before at b l quoted breaks none =
      ([], [], b ∷ l, pieces.no_items, refl, inr (refl, omega arith, breaks, (quoted, none)))

  abbrev head_of : List ℕ → ℕ
  head_of [] = 0
  head_of (b ∷ l) = b

  abbrev second_of : List ℕ → Option ℕ
  second_of [] = None
  second_of (b ∷ []) = None
  second_of (b ∷ c ∷ l) = Some c

  no_item : (b : ℕ) (l : List ℕ) → is_unescaped b ≡ false → (b == 92) ≡ false → (item back : List ℕ) (byte : ℕ) → IsItem item byte → b ∷ l ≢ item ++ back
  no_item b l plain begins item back byte (pieces.plain d h) is =
      let same : b ≡ d = ap head_of is in let both : true ≡ false = sym h ∙ ap is_unescaped (sym same) ∙ plain in cc
  no_item b l plain begins item back byte (pieces.escape d h) is = eqb-false b 92 begins (ap head_of is)

  no_escape : (l : List ℕ) → ((c : ℕ) (rest : List ℕ) → l ≡ c ∷ rest → escaped c ≡ None) → (item back : List ℕ) (byte : ℕ) → IsItem item byte → 92 ∷ l ≢ item ++ back
  no_escape l none item back byte (pieces.plain d h) is =
      let same : 92 ≡ d = ap head_of is in let both : true ≡ false = sym h ∙ ap is_unescaped (sym same) in cc
  no_escape [] none item back byte (pieces.escape d h) is = let apart : None ≡ Some d = ap second_of is in cc
  no_escape (c ∷ l) none item back byte (pieces.escape d h) is =
      let same : Some c ≡ Some d = ap second_of is in let both : Some byte ≡ None = sym h ∙ ap escaped (ap (λ o. unwrap_or o d) (sym same)) ∙ none c l refl in cc

  escaped_by : (before : List ℕ) (at b : ℕ) (l : List ℕ) → ((byte : ℕ)
      → IsRest (before ++ byte ∷ []) (at + 2) l (string_from quote (before ++ byte ∷ []) (at + 2) l)) → (found : Option ℕ) → escaped b
      ≡ found → IsRest before at (92 ∷ b ∷ l) (if is_some found then string_from quote (before ++ unwrap_or found 0 ∷ [])
      (at + 2) l else Rejects StrayByte at)
  escaped_by before at b l more (Some byte) h =
      item_more (92 ∷ b ∷ []) byte before at l (string_from quote (before ++ byte ∷ []) (at + 2) l) (pieces.escape b h) (more byte)
  escaped_by before at b l more None h =
      stray_here before at 92 (b ∷ l) refl refl (no_escape (b ∷ l) (λ c rest is. ap escaped (sym (ap head_of is)) ∙ h))

  mutual
    rest_of : (before : List ℕ) (at : ℕ) (l : List ℕ) → IsRest before at l (string_from quote before at l)
    rest_of before at [] = ([], [], [], pieces.no_items, refl, inl (refl, refl, refl))
    rest_of before at (b ∷ l) =
        let P : Reading → Type 0 = IsRest before at (b ∷ l) in
        cond_both (b == 34) _ _ P (λ h. (
          [],
          [],
          l,
          pieces.no_items,
          ap (λ d. d ∷ l) (eqb-true b 34 h),
          ap (λ t. Lexeme (k.Str t)) (sym (append-nil before)),
          omega arith,
        ))
        (λ quoted. cond_both (b == 92) _ _ P (λ h. subst (λ d. IsRest before at (d ∷ l) (escape_from quote before at l))
        (sym (eqb-true b 92 h)) (escape_rest before at l)) (λ begins. cond_both (is_unescaped b) _ _ P
        (λ h. item_more (b ∷ []) b before at l (string_from quote (before ++ b ∷ []) (at + 1) l) (pieces.plain b h)
        (rest_of (before ++ b ∷ []) (at + 1) l)) (λ plain. cond_both (b == 10 || b == 13) _ _ P
        (λ h. ([], [], b ∷ l, pieces.no_items, refl, inl (refl, refl, h)))
        (λ breaks. stray_here before at b l quoted breaks (no_item b l plain begins)))))

    escape_rest : (before : List ℕ) (at : ℕ) (l : List ℕ) → IsRest before at (92 ∷ l) (escape_from quote before at l)
    escape_rest before at [] = stray_here before at 92 [] refl refl (no_escape [] (λ c rest is. cc))
    escape_rest before at (b ∷ l) =
        escaped_by before at b l (λ byte. rest_of (before ++ byte ∷ []) (at + 2) l) (escaped b) refl

-- what is read of a string stands at the front
pub string_sound : (at : ℕ) (l : List ℕ) → IsSound at (34 ∷ l) (string_from at [] (at + 1) l)
string_sound at l = by (string_from at [] (at + 1) l) (rest_of at [] (at + 1) l)
  where
    by : (r : Reading) → IsRest at [] (at + 1) l r → IsSound at (34 ∷ l) r
    by (Matches piece end) (items, bytes, rest, are, l_is, piece_is, to) = (
      34 ∷ (items ++ 34 ∷ []),
      rest,
      ap (λ t. 34 ∷ t) (l_is ∙ sym (append_assoc items (34 ∷ []) rest)),
      omega arith,
      omega (arith, length-append items (34 ∷ [])),
      subst (IsPiece (34 ∷ (items ++ 34 ∷ [])) rest) (sym piece_is)
          (pieces.string are),
    )
    by (Rejects flaw fault) (items, bytes, rest, are, l_is, inl (open_is, fault_is, breaks)) =
        (0, fault_is ∙ omega arith, subst (λ f. HasFlaw (34 ∷ l) f 0) (sym open_is) (subst (λ t. HasFlaw (34 ∷ t) OpenString 0) (sym l_is) (pieces.open_string rest are breaks)))
    by (Rejects flaw fault) (items, bytes, rest, are, l_is, inr (stray_is, fault_is, breaks, none)) = (
      1 + length items,
      omega arith,
      subst (λ f. HasFlaw (34 ∷ l) f (1 + length items)) (sym stray_is)
          (subst (λ t. HasFlaw (34 ∷ t) StrayByte (1 + length items)) (sym l_is) (pieces.stray_in_string rest are breaks none)),
    )
