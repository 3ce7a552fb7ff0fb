-- The position of each token of a source is proved to be one of the source, and the positions to strictly increase.
use Rattle.std.proofs.Common.{◌≡◌, ◌⊎◌, inl, inr, ℕ, zero, suc, ◌+◌, ◌-◌, ◌<◌, ◌≤◌, ◌==◌, ◌&&◌, nat_lt, Bool, true, false, not, List, [], ◌∷◌, ◌++◌, length, get_or, slice_get, take, drop, reverse, count_by, Some, Decides, refl, sym, ap, ◌∙◌, subst, arith, length-drop}
use Rattle.std.specs.List.{suffix_len}
use Rattle.std.proofs.lemmas.Bool.Decides.{Decides-or, Decides-and, Decides-eqb, Decides-ltb}
use Rattle.std.proofs.lemmas.List.Folds.{length-prefix_len}
use Rattle.std.proofs.lemmas.List.Sums.{count_by_more_yes, count_by_more_no, suffix_len-take_yes}
use Rattle.std.proofs.lemmas.Option.{same_Some, slice_get_within}
use Rattle.ti_base.specs.declared.place.Place.{Place}
use Rattle.ti_base.specs.Places.{ends_line, last_line, place_of, end_place, place_before}
use Rattle.ti_syntax.specs.declared.token.Token.{Token}
use Rattle.ti_syntax.specs.declared.token.TokenKind.TheVariants.{End}
use Rattle.ti_syntax.specs.Tokenizing.{Piece, IsLongest, Pieces, no_piece, space_and, token_and, IsTokenized}
use Rattle.ti_lex.proofs.Longest.{Tells, first_tells, longest_read, none_empty}
use Rattle.ti_lex.specs.Mirrors.Reading.{first_lexeme}

-- ---- positions

-- on an earlier line, or further left on the same line
abbrev IsBefore : Place → Place → Type 0
IsBefore p q = (p.line < q.line) ⊎ ((p.line ≡ q.line) × (p.col < q.col))

before_decides : (p q : Place) → Decides (place_before p q) (IsBefore p q)
before_decides p q =
    Decides-or (nat_lt p.line q.line) ((p.line == q.line) && nat_lt p.col q.col) (Decides-ltb p.line q.line)
    (Decides-and (p.line == q.line) (nat_lt p.col q.col) (Decides-eqb p.line q.line) (Decides-ltb p.col q.col))

before_trans : (p q r : Place) → IsBefore p q → IsBefore q r → IsBefore p r
before_trans p q r (inl a) (inl b) = inl (omega arith)
before_trans p q r (inl a) (inr (e, b)) = inl (omega arith)
before_trans p q r (inr (e, a)) (inl b) = inl (omega arith)
before_trans p q r (inr (e, a)) (inr (f, b)) = inr (omega arith, omega arith)

-- a byte that doesn't end its line
abbrev stays : ℕ → Bool
stays byte = not (ends_line byte)

column : (front : List ℕ) → length (last_line front) ≡ suffix_len stays front
column front = length-prefix_len stays (reverse front)

-- one byte further
next_byte : (text : List ℕ) (k : ℕ) → k < length text → IsBefore (place_of text k) (place_of text (k + 1))
next_byte text k within = by (ends_line (get_or text k 0)) refl
  where
    by : (b : Bool) → ends_line (get_or text k 0) ≡ b → IsBefore (place_of text k) (place_of text (k + 1))
    by true ends = inl (omega (arith, count_by_more_yes ends_line text k 0 within ends))
    by false on =
        let same : k + 1 - 1 ≡ k = omega arith in
        let here : stays (get_or text (k + 1 - 1) 0) ≡ true = ap (λ i. stays (get_or text i 0)) same ∙ ap not on in
        let more : suffix_len stays (take (k + 1) text) ≡ 1 + suffix_len stays (take k text) =
        suffix_len-take_yes stays text (k + 1) 0 (omega arith) (omega arith) here ∙ ap (λ i. 1 + suffix_len stays (take i text)) same in
        inr (
          omega (arith, count_by_more_no ends_line text k 0 within on),
          omega (arith, more, column (take k text), column (take (k + 1) text)),
        )

places_rise : (text : List ℕ) (i n : ℕ) → i + n < length text → IsBefore (place_of text i) (place_of text (i + n + 1))
places_rise text i zero within =
    let same : i + 1 ≡ i + 0 + 1 = omega arith in
    subst (λ k. IsBefore (place_of text i) (place_of text k)) same (next_byte text i (omega arith))
places_rise text i (suc n) within =
    let same : i + n + 1 + 1 ≡ i + suc n + 1 = omega arith in
    subst (λ k. IsBefore (place_of text i) (place_of text k)) same
    (before_trans (place_of text i) (place_of text (i + n + 1)) (place_of text (i + n + 1 + 1)) (places_rise text i n (omega arith))
    (next_byte text (i + n + 1) (omega arith)))

places_before : (text : List ℕ) (i j : ℕ) → i < j → j ≤ length text → place_before (place_of text i) (place_of text j) ≡ true
places_before text i j lt within =
    let same : i + (j - i - 1) + 1 ≡ j = omega arith in
    (before_decides (place_of text i) (place_of text j)).1
    (subst (λ k. IsBefore (place_of text i) (place_of text k)) same (places_rise text i (j - i - 1) (omega arith)))

-- ---- tokens

longest_nonempty : (l : List ℕ) (size : ℕ) (piece : Piece) → IsLongest l size piece → 0 < size
longest_nonempty [] size piece longest = absurd (none_empty size piece longest.within longest.is_piece)
longest_nonempty (b ∷ l) size piece longest =
    let (n, to, some, told) = subst (Tells 0 (b ∷ l)) (longest_read 0 (b ∷ l) size piece longest) (first_tells 0 (b ∷ l) (omega arith)) in
    omega arith

-- the token is at byte `low` of the source or behind it
record IsFrom (text : List ℕ) (low : ℕ) (t : Token) : Type 0 where
  at : ℕ
  above : low ≤ at
  within : at ≤ length text
  place : t.place ≡ place_of text at

lower : (text : List ℕ) (low size : ℕ) (t : Token) → IsFrom text (low + size) t → IsFrom text low t
lower text low size t from = record { at = from.at; above = omega (arith, from.above); within = from.within; place = from.place }

module _ (text : List ℕ) (end : Token) (ended : end.place ≡ end_place text) where
  from : {i : ℕ} {tokens : List Token} → Pieces text i tokens (length text) → i ≤ length text → (n : ℕ) (t : Token)
      → slice_get (tokens ++ end ∷ []) n ≡ Some t → IsFrom text i t
  from no_piece within zero t is =
      record { at = length text; above = omega arith; within = omega arith; place = ap (λ (x : Token). x.place) (sym (same_Some end t is)) ∙ ended }
  from no_piece within (suc n) t is = absurd (cc)
  from (space_and {i = i} {size = size} longest more) within n t is =
      lower text i size t (from more (omega (arith, longest.within, length-drop i text)) n t is)
  from (token_and {i = i} {kind = kind} longest more) within zero t is =
      record { at = i; above = omega arith; within = within; place = ap (λ (x : Token). x.place) (sym (same_Some (record { kind = kind; place = place_of text i }) t is)) }
  from (token_and {i = i} {size = size} longest more) within (suc n) t is =
      lower text i size t (from more (omega (arith, longest.within, length-drop i text)) n t is)

  rise : {i : ℕ} {tokens : List Token} → Pieces text i tokens (length text) → i ≤ length text → (m n : ℕ) (t u : Token) → m < n
      → slice_get (tokens ++ end ∷ []) m ≡ Some t → slice_get (tokens ++ end ∷ []) n ≡ Some u → place_before t.place u.place ≡ true
  rise no_piece within m n t u lt first second = absurd (omega (arith, slice_get_within (end ∷ []) n u second))
  rise (space_and {i = i} {size = size} longest more) within m n t u lt first second =
      rise more (omega (arith, longest.within, length-drop i text)) m n t u lt first second
  rise (token_and longest more) within m zero t u lt first second = absurd (omega arith)
  rise (token_and {i = i} {size = size} {kind = kind} longest more) within zero (suc n) t u lt first second =
      let here : place_of text i ≡ t.place = ap (λ (x : Token). x.place) (same_Some (record { kind = kind; place = place_of text i }) t first) in
      let later : IsFrom text (i + size) u = from more (omega (arith, longest.within, length-drop i text)) n u second in
      subst (λ p. place_before p u.place ≡ true) here
      (subst (λ p. place_before (place_of text i) p ≡ true) (sym later.place)
      (places_before text i later.at (omega (arith, later.above, longest_nonempty (drop i text) size _ longest)) later.within))
  rise (token_and {i = i} {size = size} longest more) within (suc m) (suc n) t u lt first second =
      rise more (omega (arith, longest.within, length-drop i text)) m n t u (omega arith) first second

-- ---- all tokens of a source

pub tokens_placed : (text : List ℕ) (tokens : List Token) → IsTokenized text tokens → (i : ℕ) (t : Token) → slice_get tokens i ≡ Some t
    → (k : ℕ) × (k ≤ length text) × (t.place ≡ place_of text k)
tokens_placed text tokens is i t here =
    let found = from text (record { kind = End; place = end_place text }) refl is.pieces (omega arith) i t
    (subst (λ l. slice_get l i ≡ Some t) is.ended here) in
    (found.at, found.within, found.place)

pub tokens_rise : (text : List ℕ) (tokens : List Token) → IsTokenized text tokens → (i j : ℕ) (t u : Token) → i < j → slice_get tokens i ≡ Some t
    → slice_get tokens j ≡ Some u → place_before t.place u.place ≡ true
tokens_rise text tokens is i j t u lt first second =
    rise text (record { kind = End; place = end_place text }) refl is.pieces (omega arith) i j t u lt
    (subst (λ l. slice_get l i ≡ Some t) is.ended first) (subst (λ l. slice_get l j ≡ Some u) is.ended second)
