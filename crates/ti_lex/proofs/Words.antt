-- The model's reading of names and reserved words is proved correct for the lexical syntax.
use Rattle.std.proofs.Common.{◌≡◌, ◌≢◌, ℕ, suc, ◌+◌, Bool, true, false, ◌||◌, cond, Option, Some, None, unwrap_or, List, [], ◌∷◌, ◌++◌, length, take, drop, inl, inr, refl, sym, ap, ◌∙◌, subst, arith, take-append-drop}
use Rattle.std.proofs.lemmas.Bool.{cases_lt}
use Rattle.std.proofs.Math.Seq.{take-append_seam}
use Rattle.std.proofs.lemmas.List.Folds.{length-prefix_len}
use Rattle.std.proofs.lemmas.Slice.Eq.{bytes_eq-Decides}
use Rattle.std.specs.Char.{is_ascii_digit}
use Rattle.std.specs.List.{list_all, prefix_len}
use Rattle.std.specs.Map.{lookup}
use Rattle.std.specs.Str.{bytes_eq}
use Rattle.ti_syntax.specs.declared.token.TokenKind.{TokenKind}
use Rattle.ti_syntax.specs.declared.token.TokenKind.TheVariants as k
use Rattle.ti_syntax.specs.Tokens.{word_of}
use Rattle.ti_syntax.specs.Tokenizing.{Lexeme, IsPiece, first_passes, begins_name, is_name_byte}
use Rattle.ti_syntax.specs.Tokenizing as pieces
use Rattle.ti_lex.specs.Mirrors.Reading.{Matches, reserved_words, kind_of_word, word}
use Rattle.ti_lex.proofs.Fronts.{Beats, IsSound}
use Rattle.ti_lex.proofs.Runs.{run_covers, run_passes}

-- a reserved word looks like a name, and is found in the table
abbrev IsFound : TokenKind → Option (List ℕ) → Type 0
IsFound kind None = Unit {0}
IsFound kind (Some word) =
    (first_passes begins_name word ≡ true) × (list_all is_name_byte word ≡ true) × (kind_of_word word ≡ kind)

all_found : (kind : TokenKind) → IsFound kind (word_of kind)
unfolding reserved_words
all_found k.KeywordBoolean = (refl, refl, refl)
all_found k.KeywordBreak = (refl, refl, refl)
all_found k.KeywordBroadcast = (refl, refl, refl)
all_found k.KeywordClass = (refl, refl, refl)
all_found k.KeywordContinue = (refl, refl, refl)
all_found k.KeywordDomain = (refl, refl, refl)
all_found k.KeywordElse = (refl, refl, refl)
all_found k.KeywordFalse = (refl, refl, refl)
all_found k.KeywordFinal = (refl, refl, refl)
all_found k.KeywordFor = (refl, refl, refl)
all_found k.KeywordForeach = (refl, refl, refl)
all_found k.KeywordIf = (refl, refl, refl)
all_found k.KeywordInt = (refl, refl, refl)
all_found k.KeywordLocal = (refl, refl, refl)
all_found k.KeywordLong = (refl, refl, refl)
all_found k.KeywordNew = (refl, refl, refl)
all_found k.KeywordNull = (refl, refl, refl)
all_found k.KeywordPoint = (refl, refl, refl)
all_found k.KeywordPrintln = (refl, refl, refl)
all_found k.KeywordPrivate = (refl, refl, refl)
all_found k.KeywordProtected = (refl, refl, refl)
all_found k.KeywordPublic = (refl, refl, refl)
all_found k.KeywordRectDomain = (refl, refl, refl)
all_found k.KeywordReturn = (refl, refl, refl)
all_found k.KeywordSharedRegion = (refl, refl, refl)
all_found k.KeywordSingle = (refl, refl, refl)
all_found k.KeywordStatic = (refl, refl, refl)
all_found k.KeywordString = (refl, refl, refl)
all_found k.KeywordSystem = (refl, refl, refl)
all_found k.KeywordThis = (refl, refl, refl)
all_found k.KeywordTi = (refl, refl, refl)
all_found k.KeywordTrue = (refl, refl, refl)
all_found k.KeywordVoid = (refl, refl, refl)
all_found k.KeywordWhile = (refl, refl, refl)
all_found _ = tt

pub reserved_found : (kind : TokenKind) (word : List ℕ) → word_of kind ≡ Some word → (first_passes begins_name word ≡ true) × (list_all is_name_byte word ≡ true) × (kind_of_word word ≡ kind)
reserved_found kind word h = subst (IsFound kind) h (all_found kind)

-- each row of the table tells how its kind is spelled
abbrev AreSpelled : List (List ℕ × TokenKind) → Type 0
AreSpelled [] = Unit {0}
AreSpelled (row ∷ rows) = (word_of row.1 ≡ Some row.0) × AreSpelled rows

all_spelled : AreSpelled reserved_words
unfolding reserved_words
all_spelled = (
  refl,
  (
    refl,
    (
      refl,
      (
        refl,
        (
          refl,
          (
            refl,
            (
              refl,
              (
                refl,
                (
                  refl,
                  (
                    refl,
                    (
                      refl,
                      (
                        refl,
                        (
                          refl,
                          (
                            refl,
                            (
                              refl,
                              (
                                refl,
                                (
                                  refl,
                                  (
                                    refl,
                                    (
                                      refl,
                                      (
                                        refl,
                                        (
                                          refl,
                                          (
                                            refl,
                                            (refl, (refl, (refl, (refl, (refl, (refl, (refl, (refl, (refl, (refl, (refl, (refl, tt)))))))))))),
                                          ),
                                        ),
                                      ),
                                    ),
                                  ),
                                ),
                              ),
                            ),
                          ),
                        ),
                      ),
                    ),
                  ),
                ),
              ),
            ),
          ),
        ),
      ),
    ),
  ),
)

abbrev IsSpelling : List ℕ → Option TokenKind → Type 0
IsSpelling word None = Unit {0}
IsSpelling word (Some kind) = word_of kind ≡ Some word

spelled_by : (word : List ℕ) (row : List ℕ × TokenKind) (others : Option TokenKind) → word_of row.1 ≡ Some row.0 → IsSpelling word others
    → (t : Bool) → bytes_eq word row.0 ≡ t → IsSpelling word (cond t (Some row.1) others)
spelled_by word row others this rest true h =
    this ∙ ap Some (sym ((bytes_eq-Decides word row.0).0 h))
spelled_by word row others this rest false h = rest

spelled : (word : List ℕ) (rows : List (List ℕ × TokenKind)) → AreSpelled rows → IsSpelling word (lookup (bytes_eq word) rows)
spelled word [] h = tt
spelled word (row ∷ rows) (this, others) =
    spelled_by word row (lookup (bytes_eq word) rows) this (spelled word rows others) (bytes_eq word row.0) refl

-- a word that isn't found is no reserved word
not_reserved : (word : List ℕ) → lookup (bytes_eq word) reserved_words ≡ None → (kind : TokenKind) → word_of kind ≢ Some word
not_reserved word none kind h =
    let (first, all, found) = reserved_found kind word h in
    let same : k.Name word ≡ kind = sym (ap (λ o. unwrap_or o (k.Name word)) none) ∙ found in
    let apart : None ≡ Some word = ap word_of same ∙ h in
    cc

-- what a word that looks like a name is
word_piece : (b : ℕ) (more rest : List ℕ) → begins_name b ≡ true → list_all is_name_byte more ≡ true → (found : Option TokenKind)
    → lookup (bytes_eq (b ∷ more)) reserved_words ≡ found → IsPiece (b ∷ more) rest (Lexeme (unwrap_or found (k.Name (b ∷ more))))
word_piece b more rest first others None h =
    pieces.name b more first others (not_reserved (b ∷ more) h)
word_piece b more rest first others (Some kind) h =
    pieces.reserved kind (subst (IsSpelling (b ∷ more)) h (spelled (b ∷ more) reserved_words all_spelled))

-- a word that is no reserved word is a name
pub name_found : (word : List ℕ) → ((kind : TokenKind) → word_of kind ≢ Some word) → kind_of_word word ≡ k.Name word
name_found word none = by (lookup (bytes_eq word) reserved_words) refl
  where
    by : (found : Option TokenKind) → lookup (bytes_eq word) reserved_words ≡ found → unwrap_or found (k.Name word) ≡ k.Name word
    by None h = refl
    by (Some kind) h = absurd (none kind (subst (IsSpelling word) h (spelled word reserved_words all_spelled)))

-- where a list begins with a word, that word or a longer one is read
pub word_beats : (at : ℕ) (name rest : List ℕ) (kind : TokenKind) → list_all is_name_byte name ≡ true → kind_of_word name ≡ kind → Beats at (length name) (Lexeme kind) (word at (name ++ rest))
word_beats at name rest kind all found =
    let covers = run_covers is_name_byte name rest all in
    elim (cases_lt (length name) (prefix_len is_name_byte (name ++ rest))) [
      | inl longer ↦ inl (omega arith)
      | inr short ↦ (let same : prefix_len is_name_byte (name ++ rest) ≡ length name = omega arith in
          inr (
            ap (λ n. at + n) same,
            ap (λ n. Lexeme (kind_of_word (take n (name ++ rest)))) same
                ∙ ap (λ w. Lexeme (kind_of_word w)) (take-append_seam name rest) ∙ ap Lexeme found,
          ))
    ]

sized : (at b : ℕ) (l : List ℕ) (n : ℕ) → begins_name b ≡ true → n ≡ prefix_len is_name_byte l → (size : ℕ) → size ≡ suc n
    → IsSound at (b ∷ l) (Matches (Lexeme (kind_of_word (take size (b ∷ l)))) (at + size))
sized at b l n first is size h =
    let all : list_all is_name_byte (take n l) ≡ true = subst (λ m. list_all is_name_byte (take m l) ≡ true) (sym is) (run_passes is_name_byte l) in
    let long : length (take n l) ≡ n = subst (λ m. length (take m l) ≡ m) (sym is) (length-prefix_len is_name_byte l) in
    let name = b ∷ take n l in
    subst (λ m. IsSound at (b ∷ l) (Matches (Lexeme (kind_of_word (take m (b ∷ l)))) (at + m))) (sym h) (
      name,
      drop n l,
      ap (λ t. b ∷ t) (sym (take-append-drop n l)),
      omega arith,
      omega arith,
      word_piece b (take n l) (drop n l) first all (lookup (bytes_eq name) reserved_words) refl,
    )

-- a word that is read stands at the front
pub word_sound : (at b : ℕ) (l : List ℕ) → begins_name b ≡ true → IsSound at (b ∷ l) (word at (b ∷ l))
word_sound at b l first =
    let passes : is_name_byte b ≡ true = ap (λ t. t || is_ascii_digit b) first in
    sized at b l (prefix_len is_name_byte l) first refl (prefix_len is_name_byte (b ∷ l)) (ap (λ t. cond t (1 + prefix_len is_name_byte l) 0) passes ∙ omega arith)
