-- The model's reading of a string's items is proved correct for the lexical syntax.
use Rattle.std.proofs.Common.{◌≡◌, ℕ, ◌+◌, Bool, true, false, if◌then◌else◌, ◌==◌, ◌||◌, Option, Some, None, is_some, unwrap_or, Ok, Err, List, [], ◌∷◌, ◌++◌, drop, refl, sym, ap, ◌∙◌, subst}
use Rattle.std.proofs.lemmas.List.{drop-drop}
use Rattle.std.specs.Option.{option_map_or}
use Rattle.ti_base.specs.declared.place.Place.{Place}
use Rattle.ti_base.specs.Places.{place_of}
use Rattle.ti_syntax.specs.declared.token.TokenKind.TheVariants as k
use Rattle.ti_syntax.specs.Tokenizing.{Lexeme, StrayByte, OpenString, escaped, is_unescaped}
use Rattle.ti_lex.specs.declared.error.LexErr.{LexErr}
use Rattle.ti_rules.specs.declared.rule.Rule.TheVariants.{X1}
use Rattle.ti_lex.specs.Mirrors.Cursor.{CursorView, unread_bytes, skip_bytes}
use Rattle.ti_lex.specs.Mirrors.Reading.{Reading, Matches, Rejects, Item, Gives, Closes, Breaks, Strays, item, escape, string_from, escape_from}
use Rattle.ti_lex.specs.Mirrors.Answers.{Scans, ReadsItem}

-- what an item makes of the rest of a string
abbrev pub behind : ℕ → List ℕ → ℕ → List ℕ → Item → Reading
behind quote bytes at l (Gives byte size) = string_from quote (bytes ++ byte ∷ []) (at + size) (drop size l)
behind quote bytes at l Closes = Matches (Lexeme (k.Str bytes)) (at + 1)
behind quote bytes at l Breaks = Rejects OpenString quote
behind quote bytes at l Strays = Rejects StrayByte at

module _ (quote : ℕ) (bytes : List ℕ) (at : ℕ) where
  escape_from-item : (b : ℕ) (l : List ℕ) → escape_from quote bytes at l ≡ behind quote bytes at (b ∷ l) (escape l)
  escape_from-item b [] = refl
  escape_from-item b (c ∷ l) = by (escaped c)
    where
      by : (found : Option ℕ) → (if is_some found then string_from quote (bytes ++ unwrap_or found 0 ∷ [])
          (at + 2) l else Rejects StrayByte at) ≡ behind quote bytes at (b ∷ c ∷ l) (option_map_or (λ byte. Gives byte 2) found Strays)
      by (Some byte) = refl
      by None = refl

  chosen : (l : List ℕ) (b : ℕ) (closes begins plain breaks : Bool) (from : Reading) (e : Item) → from ≡ behind quote bytes at (b ∷ l) e
      → (if closes then Matches (Lexeme (k.Str bytes)) (at + 1) else (if begins then from
      else (if plain then string_from quote (bytes ++ b ∷ []) (at + 1) l
      else (if breaks then Rejects OpenString quote else Rejects StrayByte at))))
      ≡ behind quote bytes at (b ∷ l) (if closes then Closes else (if begins then e else (if plain then Gives b 1 else (if breaks then Breaks else Strays))))
  chosen l b true begins plain breaks from e h = refl
  chosen l b false true plain breaks from e h = h
  chosen l b false false true breaks from e h = refl
  chosen l b false false false true from e h = refl
  chosen l b false false false false from e h = refl

  pub string_from-item : (l : List ℕ) → string_from quote bytes at l ≡ behind quote bytes at l (item l)
  string_from-item [] = refl
  string_from-item (b ∷ l) =
      chosen l b (b == 34) (b == 92) (is_unescaped b) (b == 10 || b == 13) (escape_from quote bytes at l) (escape l) (escape_from-item b l)

module _ (quote : ℕ) (bytes : List ℕ) (spot after : CursorView) where
  given : (place : Place) (byte : ℕ) (i : Item) → ReadsItem i place spot after (Ok (Some byte)) → (after.text ≡ spot.text)
      × (string_from quote (bytes ++ byte ∷ []) after.at (unread_bytes after) ≡ behind quote bytes spot.at (unread_bytes spot) i)
  given place byte (Gives b size) (same, to) =
      let x : byte ≡ b = ap (λ o. unwrap_or o byte) same in
      let further = skip_bytes size spot in
      let here : string_from quote (bytes ++ b ∷ []) further.at (unread_bytes further)
      ≡ string_from quote (bytes ++ b ∷ []) (spot.at + size) (drop size (unread_bytes spot)) =
      ap (string_from quote (bytes ++ b ∷ []) (spot.at + size)) (sym (drop-drop size spot.at spot.text)) in
      (ap (λ (z : CursorView). z.text) to, ap (λ z. string_from quote (bytes ++ z ∷ []) after.at (unread_bytes after)) x ∙ ap (λ (z : CursorView). string_from quote (bytes ++ b ∷ []) z.at (unread_bytes z)) to ∙ here)
  given place byte Closes (same, to) = cc
  given place byte Breaks h = absurd h
  given place byte Strays h = absurd h

  -- behind an item the rest of the string is read as before it
  pub item_given : (place : Place) (byte : ℕ) → ReadsItem (item (unread_bytes spot)) place spot after (Ok (Some byte)) → (after.text ≡ spot.text)
      × (string_from quote (bytes ++ byte ∷ []) after.at (unread_bytes after) ≡ string_from quote bytes spot.at (unread_bytes spot))
  item_given place byte h =
      let (same, reads) = given place byte (item (unread_bytes spot)) h in
      (same, reads ∙ sym (string_from-item quote bytes spot.at (unread_bytes spot)))

  refused : (old new : CursorView) (e : LexErr) → old.text ≡ spot.text → (i : Item) → ReadsItem i (place_of old.text quote) spot after (Err e)
      → Scans (behind quote bytes spot.at (unread_bytes spot) i) old new (Err e)
  refused old new e same (Gives b size) h = absurd h
  refused old new e same Closes h = absurd h
  refused old new e same Breaks h =
      subst (λ z. Scans (Rejects OpenString quote) old new (Err z)) (sym h) refl
  refused old new e same Strays h =
      subst (λ z. Scans (Rejects StrayByte spot.at) old new (Err z)) (sym h) (ap (λ t. record { rule = X1; place = place_of t spot.at }) (sym same))

  -- where an item is refused, so is the string
  pub item_refused : (old new : CursorView) (e : LexErr) → old.text ≡ spot.text
      → ReadsItem (item (unread_bytes spot)) (place_of old.text quote) spot after (Err e)
      → Scans (string_from quote bytes spot.at (unread_bytes spot)) old new (Err e)
  item_refused old new e same h =
      subst (λ z. Scans z old new (Err e)) (sym (string_from-item quote bytes spot.at (unread_bytes spot))) (refused old new e same (item (unread_bytes spot)) h)
