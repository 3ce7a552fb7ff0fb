-- The model's reading of comments is proved correct for the lexical syntax.
use Rattle.std.proofs.Common.{◌≡◌, ◌≢◌, ℕ, ◌+◌, ◌==◌, Bool, true, false, not, ◌&&◌, cond, if◌then◌else◌, List, [], ◌∷◌, ◌++◌, length, take, drop, codes, refl, sym, ap, ◌∙◌, subst, arith, append_assoc, length-append, take-append-drop}
use Rattle.std.proofs.lemmas.Bool.{eqb-true, eqb-false}
use Rattle.std.proofs.lemmas.List.Folds.{length-prefix_len}
use Rattle.std.specs.List.{list_all}
use Rattle.ti_syntax.specs.Tokenizing.{Space, IsPiece, ClosesAtEnd, Flaw, OpenComment, HasFlaw}
use Rattle.ti_syntax.specs.Tokenizing as pieces
use Rattle.ti_lex.specs.Mirrors.Reading.{Reading, Matches, Rejects, comment_from, line_left}
use Rattle.ti_lex.proofs.Fronts.{Beats, IsSound, IsRefusal, beats_same}
use Rattle.ti_lex.proofs.Runs.{run_covers, run_passes}

-- the rest of a line is read as far as it goes
pub line_beats : (at : ℕ) (inner rest : List ℕ) → list_all (λ b. not (b == 10)) inner ≡ true
    → Beats at (length (codes "//" ++ inner)) Space (Matches Space (at + line_left (codes "//" ++ (inner ++ rest))))
line_beats at inner rest h =
    let covers = run_covers (λ b. not (b == 10)) inner rest h in
    beats_same at (length (codes "//" ++ inner)) (at + line_left (codes "//" ++ (inner ++ rest))) Space (omega arith)

pub line_sound : (at : ℕ) (l : List ℕ) → IsSound at (codes "//" ++ l) (Matches Space (at + line_left (codes "//" ++ l)))
line_sound at l =
    let n = line_left l in
    let long = length-prefix_len (λ b. not (b == 10)) l in
    (codes "//" ++ take n l, drop n l, ap (λ t. 47 ∷ 47 ∷ t) (sym (take-append-drop n l)), omega arith, omega arith, pieces.line_comment (take n l) (run_passes (λ b. not (b == 10)) l))

-- a `*` of the comment that may stand before its rest
abbrev star_of : Bool → List ℕ
star_of star = if star then 42 ∷ [] else []

-- without the first byte of a list its first `*/` still stands at its end
closes_behind : (b : ℕ) (l : List ℕ) → ClosesAtEnd (b ∷ l) → ClosesAtEnd l
closes_behind b l closes front back is = closes (b ∷ front) back (ap (λ t. b ∷ t) is)

without_star : (star : Bool) (l : List ℕ) → ClosesAtEnd (star_of star ++ l) → ClosesAtEnd l
without_star true l closes = closes_behind 42 l closes
without_star false l closes = closes

with_star : (b : ℕ) (l : List ℕ) → ClosesAtEnd (b ∷ l) → (star : Bool) → (b == 42) ≡ star → ClosesAtEnd (star_of star ++ l)
with_star b l closes true h =
    subst (λ d. ClosesAtEnd (d ∷ l)) (eqb-true b 42 h) closes
with_star b l closes false h = closes_behind b l closes

-- a `*/` isn't read before the end
closes_early : (star : Bool) (b : ℕ) (inner : List ℕ) → (star && (b == 47)) ≡ true → ClosesAtEnd (star_of star ++ (b ∷ (inner ++ codes "*/"))) → ⊥
closes_early true b inner h closes =
    let none = closes [] (inner ++ codes "*/") (ap (λ d. 42 ∷ d ∷ (inner ++ codes "*/")) (eqb-true b 47 h)) in
    let short : length (inner ++ codes "*/") ≡ 0 = ap length none in
    omega (arith, length-append inner (codes "*/"))
closes_early false b inner h closes = cc

no_length : (l : List ℕ) → length l ≡ 0 → l ≡ []
no_length [] h = refl
no_length (b ∷ l) h = absurd (omega arith)

-- the two bytes that close a comment
closes_alone : ClosesAtEnd (codes "*/")
closes_alone front back is =
    let same : 2 ≡ length (front ++ (codes "*/" ++ back)) = ap length is in
    no_length back (omega (arith, length-append front (codes "*/" ++ back)))

abbrev head_of : List ℕ → ℕ
head_of [] = 0
head_of (b ∷ l) = b

abbrev tail_of : List ℕ → List ℕ
tail_of [] = []
tail_of (b ∷ l) = l

-- a byte before a list closes nothing, unless it is a `*` that the list goes on from
closes_before : (b : ℕ) (l : List ℕ) → ((back : List ℕ) → b ∷ l ≢ codes "*/" ++ back) → ClosesAtEnd l → ClosesAtEnd (b ∷ l)
closes_before b l apart closes [] back is = absurd (apart back is)
closes_before b l apart closes (f ∷ front) back is = closes front back (ap tail_of is)

closes_star : (b : ℕ) (body : List ℕ) (star : Bool) → (b == 42) ≡ star → ClosesAtEnd (star_of star ++ body) → ClosesAtEnd (b ∷ body)
closes_star b body true h closes =
    subst (λ d. ClosesAtEnd (d ∷ body)) (sym (eqb-true b 42 h)) closes
closes_star b body false h closes =
    closes_before b body (λ back is. eqb-false b 42 h (ap head_of is)) closes

closes_both : (star : Bool) (b : ℕ) (body : List ℕ) → (star && (b == 47)) ≡ false → ClosesAtEnd (b ∷ body) → ClosesAtEnd (star_of star ++ (b ∷ body))
closes_both true b body h closes =
    closes_before 42 (b ∷ body) (λ back is. eqb-false b 47 h (ap (λ l. head_of (tail_of l)) is)) closes
closes_both false b body h closes = closes

-- a comment that has closed ends so
abbrev EndsClosed : List ℕ → Type 0
EndsClosed l = (inner : List ℕ) × (l ≡ inner ++ codes "*/")

module _ (slash : ℕ) where
  taken_by : (star : Bool) (b : ℕ) (inner rest : List ℕ) (at : ℕ) → ClosesAtEnd (star_of star ++ (b ∷ (inner ++ codes "*/")))
      → comment_from slash (b == 42) (at + 1) ((inner ++ codes "*/") ++ rest) ≡ Matches Space (at + 1 + (length inner + 2)) → (t : Bool)
      → (star && (b == 47)) ≡ t → cond t (Matches Space (at + 1)) (comment_from slash (b == 42) (at + 1) ((inner ++ codes "*/") ++ rest))
      ≡ Matches Space (at + (length (b ∷ inner) + 2))
  taken_by star b inner rest at closes more true h = absurd (closes_early star b inner h closes)
  taken_by star b inner rest at closes more false h = more ∙ ap (Matches Space) (omega arith)

  -- a comment that closes at its end is read to its end
  pub comment_taken : (inner rest : List ℕ) (star : Bool) (at : ℕ) → ClosesAtEnd (star_of star ++ (inner ++ codes "*/"))
      → comment_from slash star at ((inner ++ codes "*/") ++ rest) ≡ Matches Space (at + (length inner + 2))
  comment_taken [] rest true at closes = ap (Matches Space) (omega arith)
  comment_taken [] rest false at closes = ap (Matches Space) (omega arith)
  comment_taken (b ∷ inner) rest star at closes =
      let behind = with_star b (inner ++ codes "*/") (without_star star (b ∷ (inner ++ codes "*/")) closes) (b == 42) refl in
      taken_by star b inner rest at closes (comment_taken inner rest (b == 42) (at + 1) behind) (star && (b == 47)) refl

  -- what is read of the rest of a comment: it closes, for the first time, at its end; or it doesn't close
  abbrev IsRest : Bool → ℕ → List ℕ → Reading → Type 0
  IsRest star at l (Matches piece end) =
      (body : List ℕ) × (rest : List ℕ) × (l ≡ body ++ rest) × (end ≡ at + length body) × (piece ≡ Space) × ClosesAtEnd (star_of star ++ body) × EndsClosed (star_of star ++ body)
  IsRest star at l (Rejects flaw fault) = (flaw ≡ OpenComment) × (fault ≡ slash)

  closed_now : (star : Bool) (at b : ℕ) (l : List ℕ) → (star && (b == 47)) ≡ true → IsRest star at (b ∷ l) (Matches Space (at + 1))
  closed_now true at b l h =
      (b ∷ [], l, refl, refl, refl, subst (λ d. ClosesAtEnd (42 ∷ d ∷ [])) (sym (eqb-true b 47 h)) closes_alone, ([], ap (λ d. 42 ∷ d ∷ []) (eqb-true b 47 h)))
  closed_now false at b l h = cc

  goes_on : (star next : Bool) (at b : ℕ) (l : List ℕ) (r : Reading) → (b == 42) ≡ next → (star && (b == 47)) ≡ false → IsRest next (at + 1) l r → IsRest star at (b ∷ l) r
  goes_on star next at b l (Matches piece end) h still (body, rest, is, to, space, closes, ends) =
      (b ∷ body, rest, ap (λ t. b ∷ t) is, omega arith, space, closes_both star b body still (closes_star b body next h closes), ends_both next h ends)
    where
      ends_both : (next : Bool) → (b == 42) ≡ next → EndsClosed (star_of next ++ body) → EndsClosed (star_of star ++ (b ∷ body))
      ends_both true h (inner, ends) =
          (star_of star ++ inner, ap (λ d. star_of star ++ (d ∷ body)) (eqb-true b 42 h) ∙ ap (λ t. star_of star ++ t) ends ∙ sym (append_assoc (star_of star) inner (codes "*/")))
      ends_both false h (inner, ends) =
          (star_of star ++ (b ∷ inner), ap (λ t. star_of star ++ (b ∷ t)) ends ∙ sym (append_assoc (star_of star) (b ∷ inner) (codes "*/")))
  goes_on star next at b l (Rejects flaw fault) h still rest = rest

  rest_by : (star : Bool) (at b : ℕ) (l : List ℕ) → IsRest (b == 42) (at + 1) l (comment_from slash (b == 42) (at + 1) l) → (t : Bool)
      → (star && (b == 47)) ≡ t → IsRest star at (b ∷ l) (cond t (Matches Space (at + 1)) (comment_from slash (b == 42) (at + 1) l))
  rest_by star at b l more true h = closed_now star at b l h
  rest_by star at b l more false h =
      goes_on star (b == 42) at b l (comment_from slash (b == 42) (at + 1) l) refl h more

  rest_of : (star : Bool) (at : ℕ) (l : List ℕ) → IsRest star at l (comment_from slash star at l)
  rest_of star at [] = (refl, refl)
  rest_of star at (b ∷ l) =
      rest_by star at b l (rest_of (b == 42) (at + 1) l) (star && (b == 47)) refl

-- a comment is refused at its slash alone
pub only_open : (at : ℕ) (l : List ℕ) → IsRefusal OpenComment at (comment_from at false (at + 2) l)
only_open at l = by (comment_from at false (at + 2) l) (rest_of at false (at + 2) l)
  where
    by : (r : Reading) → IsRest at false (at + 2) l r → IsRefusal OpenComment at r
    by (Matches piece end) h = tt
    by (Rejects flaw fault) h = h

-- what is read of a comment stands at the front
pub comment_sound : (at : ℕ) (l : List ℕ) → IsSound at (codes "/*" ++ l) (comment_from at false (at + 2) l)
comment_sound at l = by (comment_from at false (at + 2) l) (rest_of at false (at + 2) l)
  where
    by : (r : Reading) → IsRest at false (at + 2) l r → IsSound at (codes "/*" ++ l) r
    by (Matches piece end) (body, rest, is, to, space, closes, (inner, ends)) =
        let whole : codes "/*" ++ l ≡ (codes "/*" ++ body) ++ rest = ap (λ t. 47 ∷ 42 ∷ t) is in
        let comment : IsPiece (codes "/*" ++ (inner ++ codes "*/")) rest Space = pieces.block_comment inner (subst ClosesAtEnd ends closes) in
        (codes "/*" ++ body, rest, whole, omega arith, omega arith, subst (λ p. IsPiece (codes "/*" ++ body) rest p) (sym space) (subst (λ t. IsPiece (codes "/*" ++ t) rest Space) (sym ends) comment))
    by (Rejects flaw fault) (unclosed, start) =
        (0, omega arith, subst (λ f. HasFlaw (codes "/*" ++ l) f 0) (sym unclosed) (pieces.open_comment l))
