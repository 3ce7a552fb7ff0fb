-- The type parser is proved sound, and its errors viable-prefix errors.
use Rattle.std.proofs.Common.{◌≡◌, ℕ, zero, suc, ℤ, pos, negsuc, ◌<◌, ◌≤◌, List, [], ◌∷◌, ◌++◌, length, Option, Some, None, Ok, refl, sym, ap, ◌∙◌, subst, append_assoc, arith, true, false, Bool, nat_le}
use Rattle.std.proofs.lemmas.Bool.{leb-true}
use Rattle.ti_syntax.specs.declared.token.Token.{Token}
use Rattle.ti_syntax.specs.declared.token.TokenKind.{TokenKind}
use Rattle.ti_syntax.specs.declared.token.TokenKind.TheVariants as k
use Rattle.ti_syntax.specs.declared.tree.types.Base.{Base}
use Rattle.ti_syntax.specs.declared.tree.types.Base.TheVariants as b
use Rattle.ti_syntax.specs.declared.tree.types.Qualifier.{Qualifier}
use Rattle.ti_syntax.specs.declared.tree.types.QualifierWord.{QualifierWord}
use Rattle.ti_syntax.specs.Trees.Types.{GridTree}
use Rattle.ti_syntax.specs.Tokens.{same_kind}
use Rattle.ti_syntax.specs.Spelling.Operators.{qualifier_of}
use Rattle.ti_syntax.specs.Spelling.Types.{Arity, Based, Qualified, Gridded, FieldType, is_name_alone}
use Rattle.ti_syntax.specs.Spelling.Types as grammar
use Rattle.ti_parse_expr.specs.Mirrors.Input.{Parser, and_then, expect, take_token}
use Rattle.ti_parse_expr.specs.Mirrors.Types as spec
use Rattle.ti_parse_expr.specs.Mirrors.Types.{dim_from_int, arity_number, arity, base, qualifiers, grid, grids, field_type}
use Rattle.ti_parse_expr.specs.Mirrors.Exprs.{begins_type}
use Rattle.ti_parse_expr.proofs.TokenKinds.{less_is, greater_is, bracket_is, shut_is}
use Rattle.ti_parse_expr.proofs.Law.{BeginsIn, Said, Any, then_said, after_said, as_said, done_said, want_said, last_said, refused_said, spent_said, if_said, append_nil, ended, token}

-- ---- arities

dim_is_by : (m n : ℕ) (low high : Bool) → nat_le 1 m ≡ low → nat_le m 3 ≡ high → dim_from_int (pos m) ≡ Some n → (m ≡ n) × (1 ≤ m) × (m ≤ 3)
dim_is_by m n true true l h is = let e : dim_from_int (pos m) ≡ Some m = rw (l, h) refl in let same : m ≡ n = cc in (same, leb-true 1 m l, leb-true m 3 h)
dim_is_by m n true false l h is = let e : dim_from_int (pos m) ≡ None = rw (l, h) refl in cc
dim_is_by m n false high l h is = let e : dim_from_int (pos m) ≡ None = rw l refl in cc

dim_is : (z : ℤ) (n : ℕ) → dim_from_int z ≡ Some n → (z ≡ pos n) × (1 ≤ n) × (n ≤ 3)
dim_is (pos m) n is =
    let (same, low, high) = dim_is_by m n (nat_le 1 m) (nat_le m 3) refl refl is in
    (ap pos same, omega (arith, same, low), omega (arith, same, high))
dim_is (negsuc m) n is = cc

-- the rest of an arity behind its number
arity_begins : (o : Token) → o.kind ≡ k.Less → BeginsIn (λ f n. Arity (o ∷ f) n) []
arity_begins o ho = (token (k.Int (pos 1)) ∷ token k.Greater ∷ [], 1, grammar.arity o (token (k.Int (pos 1))) (token k.Greater) ho refl (omega arith) (omega arith) refl)

abbrev rest_of_arity : ℕ → Parser ℕ
rest_of_arity n i = and_then (expect k.Greater i) (λ _ j. Ok (n, j))

dimension_if_says : {m : ℕ} (o t : Token) (ts : List Token) (z : ℤ) (d : Option ℕ) → o.kind ≡ k.Less → t.kind ≡ k.Int z → dim_from_int z ≡ d
    → Said m (λ f n. Arity (o ∷ f) n) Any (t ∷ ts) (and_then (spec.dimension_if d (t ∷ ts)) rest_of_arity)
dimension_if_says o t ts z None ho ht is = refused_said (arity_begins o ho)
dimension_if_says {m = m} o t ts z (Some n) ho ht is =
    let (same, low, high) = dim_is z n is in
    after_said {m = m} (omega arith) (last_said k.Greater greater_is refl n (λ c hc. grammar.arity o t c ho (ht ∙ ap k.Int same) low high hc))

dimension_by_says : {m : ℕ} (o t : Token) (ts : List Token) (q : TokenKind) → o.kind ≡ k.Less → t.kind ≡ q
    → Said m (λ f n. Arity (o ∷ f) n) Any (t ∷ ts) (and_then (spec.dimension_by q (t ∷ ts)) rest_of_arity)
dimension_by_says o t ts (k.Int z) ho h = dimension_if_says o t ts z (dim_from_int z) ho h refl
dimension_by_says o t ts _ ho h = refused_said (arity_begins o ho)

number_says : {m : ℕ} (o : Token) (l : List Token) → o.kind ≡ k.Less → Said m (λ f n. Arity (o ∷ f) n) Any l (and_then (arity_number l) rest_of_arity)
number_says o [] ho = refused_said (arity_begins o ho)
number_says o (t ∷ ts) ho = dimension_by_says o t ts t.kind ho refl

some_arity : BeginsIn Arity []
some_arity = let (w, n, s) = arity_begins (token k.Less) refl in (token k.Less ∷ w, n, s)

pub arity_says : {m : ℕ} (l : List Token) → Said m Arity Any l (arity l)
unfolding arity
arity_says {m = m} l =
    let (w, n, s) = arity_begins (token k.Less) refl in
    want_said {m = m} k.Less less_is refl (omega arith) (w, n, s) _ (λ o ts ho. number_says o ts ho)

-- ---- what a field's type begins with

pub some_base : BeginsIn Based []
some_base = (token k.KeywordInt ∷ [], b.Int (token k.KeywordInt).place, grammar.int (token k.KeywordInt) refl)

with_arity : {m : ℕ} (t : Token) (ts : List Token) (make : ℕ → Base) → ((f : List Token) (n : ℕ) → Arity f n → Based (t ∷ f) (make n))
    → Said m (λ f x. Based (t ∷ f) x) Any ts (and_then (arity ts) (λ n i. Ok (make n, i)))
with_arity {m = m} t ts make made =
    then_said {m = m} {Q = Any} (λ f x s. omega arith) (λ f n s. ([], make n, ended (λ g x. Based (t ∷ g) x) f (make n) (made f n s))) _ (arity_says {m = m} ts)
    (λ f r n s _. done_said (ended (λ g x. Based (t ∷ g) x) f (make n) (made f n s)) tt)

base_by_says : {m : ℕ} (t : Token) (ts : List Token) (q : TokenKind) → t.kind ≡ q → Said m Based Any (t ∷ ts) (spec.base_by q (t ∷ ts))
base_by_says {m = m} t ts k.KeywordInt h = after_said {m = m} (omega arith) (done_said (grammar.int t h) tt)
base_by_says {m = m} t ts k.KeywordLong h = after_said {m = m} (omega arith) (done_said (grammar.long t h) tt)
base_by_says {m = m} t ts k.KeywordBoolean h = after_said {m = m} (omega arith) (done_said (grammar.boolean t h) tt)
base_by_says {m = m} t ts k.KeywordPoint h = after_said {m = m} (omega arith) (with_arity t ts (b.Point t.place) (λ f n s. grammar.point t h s))
base_by_says {m = m} t ts k.KeywordRectDomain h = after_said {m = m} (omega arith) (with_arity t ts (b.RectDomain t.place) (λ f n s. grammar.rect_domain t h s))
base_by_says {m = m} t ts (k.Name name) h = after_said {m = m} (omega arith) (done_said (grammar.named t h) tt)
base_by_says t ts _ h = refused_said some_base

pub base_says : {m : ℕ} (l : List Token) → Said m Based Any l (base l)
unfolding base
base_says [] = refused_said some_base
base_says (t ∷ ts) = base_by_says t ts t.kind refl

-- ---- qualifiers

-- those found, and more
abbrev pub MoreQualifiers : List Qualifier → List Token → List Qualifier → Type 0
MoreQualifiers found f r = (ys : List Qualifier) × (r ≡ found ++ ys) × Qualified f ys

no_more : (found : List Qualifier) → MoreQualifiers found [] found
no_more found = ([], sym (append_nil found), grammar.none)

qualifiers_if_says : (m : ℕ) (found : List Qualifier) (rec : (found : List Qualifier) (l : List Token) → Said m (MoreQualifiers found) Any l (qualifiers m found l)) (t : Token) (ts : List Token)
    (q : Option QualifierWord) → qualifier_of t.kind ≡ q → Said (suc m) (MoreQualifiers found) Any (t ∷ ts) (spec.qualifiers_if (qualifiers m) found q (t ∷ ts))
qualifiers_if_says m found rec t ts None is = done_said (no_more found) tt
qualifiers_if_says m found rec t ts (Some word) is =
    let one : Qualifier = record { word = word; place = t.place } in
    after_said {m = m} (omega arith) (as_said {m = m} (omega arith) (λ g y (ys, e, s). (one ∷ ys, e ∙ append_assoc found (one ∷ []) ys, grammar.more t is s)) (λ _ _. tt) (rec (found ++ one ∷ []) ts))

pub qualifiers_say : (m : ℕ) (found : List Qualifier) (l : List Token) → Said m (MoreQualifiers found) Any l (qualifiers m found l)
unfolding qualifiers
qualifiers_say zero found l = spent_said
qualifiers_say (suc m) found [] = done_said (no_more found) tt
qualifiers_say (suc m) found (t ∷ ts) = qualifiers_if_says m found (qualifiers_say m) t ts (qualifier_of t.kind) refl

-- all of them
pub all_qualifiers_say : (m : ℕ) (l : List Token) → Said m Qualified Any l (qualifiers m [] l)
all_qualifiers_say m l = as_said {m = m} (omega arith) (λ g y (ys, e, s). subst (Qualified g) (sym e) s) (λ _ _. tt) (qualifiers_say m [] l)

-- ---- grids

-- the rest of a grid's brackets behind the opening one
abbrev pub GridRest : Token → List Token → GridTree → Type 0
GridRest o f g = Gridded (o ∷ f) (g ∷ [])

grid_some : (o : Token) → o.kind ≡ k.LeftBracket → BeginsIn (GridRest o) []
grid_some o ho = (
  token (k.Dim 1) ∷ token k.RightBracket ∷ [],
  record { dim = 1; qualifiers = [] },
  grammar.more o (token (k.Dim 1)) (token k.RightBracket) ho refl (omega arith) (omega arith) refl grammar.none grammar.none,
)

grid_made : (o t c : Token) (n : ℕ) (f : List Token) (qs : List Qualifier) → o.kind ≡ k.LeftBracket → t.kind ≡ k.Dim n → 1 ≤ n → n ≤ 3 → c.kind ≡ k.RightBracket → Qualified f qs
    → GridRest o (t ∷ c ∷ (f ++ [])) (record { dim = n; qualifiers = qs })
grid_made o t c n f qs ho ht low high hc s = grammar.more o t c ho ht low high hc s grammar.none

module _ (fuel : ℕ) where
  abbrev rest_of_grid : ℕ → Parser GridTree
  rest_of_grid n i = and_then (expect k.RightBracket i) (λ _ i. and_then (qualifiers fuel [] i) (λ qs j. Ok (record { dim = n; qualifiers = qs }, j)))

  grid_dimension_if_says : (o t : Token) (ts : List Token) (d : ℕ) (q : Option ℕ) → o.kind ≡ k.LeftBracket → t.kind ≡ k.Dim d → dim_from_int (pos d) ≡ q
      → Said fuel (GridRest o) Any (t ∷ ts) (and_then (spec.dimension_if q (t ∷ ts)) rest_of_grid)
  grid_dimension_if_says o t ts d None ho ht is = refused_said (grid_some o ho)
  grid_dimension_if_says o t ts d (Some n) ho hd is =
      let (same, low, high) = dim_is_by d n (nat_le 1 d) (nat_le d 3) refl refl is in
      let ht : t.kind ≡ k.Dim n = hd ∙ ap k.Dim same in
      let more : 1 ≤ n = omega (arith, same, low) in
      let few : n ≤ 3 = omega (arith, same, high) in
      after_said {m = fuel} (omega arith) (want_said {m = fuel} k.RightBracket shut_is refl (omega arith) (
        [],
        record { dim = n; qualifiers = [] },
        grid_made o t (token k.RightBracket) n [] [] ho ht more few refl grammar.none,
      ) _
      (λ c us hc. then_said {m = fuel} {S = Qualified} {Q = Any} (λ f x s. omega arith)
      (λ f qs s. ([], record { dim = n; qualifiers = qs }, grid_made o t c n f qs ho ht more few hc s)) _
      (all_qualifiers_say fuel us)
      (λ f r qs s _. done_said (grid_made o t c n f qs ho ht more few hc s) tt)))

  grid_dimension_by_says : (o t : Token) (ts : List Token) (q : TokenKind) → o.kind ≡ k.LeftBracket → t.kind ≡ q
      → Said fuel (GridRest o) Any (t ∷ ts) (and_then (spec.grid_dimension_by q (t ∷ ts)) rest_of_grid)
  grid_dimension_by_says o t ts (k.Dim d) ho ht = grid_dimension_if_says o t ts d (dim_from_int (pos d)) ho ht refl
  grid_dimension_by_says o t ts _ ho h = refused_said (grid_some o ho)

  pub grid_says : (o : Token) → o.kind ≡ k.LeftBracket → (l : List Token) → Said fuel (GridRest o) Any l (grid fuel l)
  unfolding grid
  grid_says o ho [] = refused_said (grid_some o ho)
  grid_says o ho (t ∷ ts) = grid_dimension_by_says o t ts t.kind ho refl

pub gridded_append : {l m : List Token} {gs hs : List GridTree} → Gridded l gs → Gridded m hs → Gridded (l ++ m) (gs ++ hs)
gridded_append grammar.none s = s
gridded_append {m = m} {hs = hs} (grammar.more {l = l} {m = v} {qs = words} {gs = gs} o t c {n = n} ho ht low high hc qs rest) s =
    subst (λ z. Gridded (o ∷ t ∷ c ∷ z) (record { dim = n; qualifiers = words } ∷ (gs ++ hs))) (sym (append_assoc l v m)) (grammar.more o t c ho ht low high hc qs (gridded_append rest s))

-- those found, and at most so many more
abbrev pub MoreGrids : ℕ → List GridTree → List Token → List GridTree → Type 0
MoreGrids n found f r = (ys : List GridTree) × (r ≡ found ++ ys) × Gridded f ys × (length ys ≤ n)

no_more_grids : (n : ℕ) (found : List GridTree) → MoreGrids n found [] found
no_more_grids n found = ([], sym (append_nil found), grammar.none, omega arith)

one_more_grid : (n : ℕ) (found : List GridTree) (t : Token) (f : List Token) (g : GridTree) → GridRest t f g → MoreGrids (suc n) found (t ∷ (f ++ [])) (found ++ g ∷ [])
one_more_grid n found t f g s = (g ∷ [], refl, ended (λ z x. Gridded (t ∷ z) x) f (g ∷ []) s, omega arith)

module _ (fuel : ℕ) where
  grids_more : (n : ℕ) (found : List GridTree) (rec : (found : List GridTree) (l : List Token)
      → Said fuel (MoreGrids n found) Any l (grids fuel n found l)) (t : Token) → t.kind ≡ k.LeftBracket → (ts : List Token)
      → Said fuel (λ f r. MoreGrids (suc n) found (t ∷ f) r) Any ts (and_then (grid fuel ts) (λ g. grids fuel n (found ++ g ∷ [])))
  grids_more n found rec t ht ts =
      then_said {m = fuel} {S = GridRest t} {Q = Any} (λ f g s. omega arith) (λ f g s. ([], found ++ g ∷ [], one_more_grid n found t f g s)) _ (grid_says fuel t ht ts)
      (λ f r g s _. as_said {m = fuel} (omega arith) (λ h y (ys, e, q, few). (
        g ∷ ys,
        e ∙ append_assoc found (g ∷ []) ys,
        gridded_append s q,
        omega (arith, few),
      )) (λ _ _. tt) (rec (found ++ g ∷ []) r))

  pub grids_say : (n : ℕ) (found : List GridTree) (l : List Token) → Said fuel (MoreGrids n found) Any l (grids fuel n found l)
  unfolding grids
  grids_say zero found l = done_said (no_more_grids 0 found) tt
  grids_say (suc n) found [] = done_said (no_more_grids (suc n) found) tt
  grids_say (suc n) found (t ∷ ts) =
      if_said (same_kind t.kind k.LeftBracket) _ _ (λ h. after_said {m = fuel} (omega arith) (grids_more n found (grids_say n) t (bracket_is t.kind h) ts))
      (λ _. done_said (no_more_grids (suc n) found) tt)

  -- the type of a field, which begins with the tokens a, where the qualifiers are so
  pub field_type_says : (a : List Token) (begin : Base) (P : List Qualifier → Type 0) → Based a begin → (l : List Token) → Said fuel (λ f qs. Qualified f qs × P qs) Any l (qualifiers fuel [] l)
      → Said fuel (λ f ty. FieldType (a ++ f) ty × (ty.base ≡ begin) × P ty.qualifiers) Any l (field_type fuel begin l)
  unfolding field_type
  field_type_says a begin P s l said =
      then_said {m = fuel} {S = λ f qs. Qualified f qs × P qs} {Q = Any} (λ f x q. omega arith)
      (λ f qs (q, holds). ([], record { base = begin; qualifiers = qs; grids = [] }, (grammar.field_type s q grammar.none (omega arith), refl, holds))) _ said
      (λ f r qs (q, holds) _. then_said {m = fuel} {S = MoreGrids 3 []} {Q = Any} (λ g x p. omega arith)
      (λ g gs (ys, e, p, few). (
        [],
        record { base = begin; qualifiers = qs; grids = gs },
        (grammar.field_type s q (ended Gridded g gs (subst (Gridded g) (sym e) p)) (omega (arith, few, ap length e)), refl, holds),
      )) _
      (grids_say 3 [] r)
      (λ g r2 gs (ys, e, p, few) _. done_said (grammar.field_type s q (ended Gridded g gs (subst (Gridded g) (sym e) p)) (omega (arith, few, ap length e)), refl, holds) tt))

  -- qualifiers, whatever they are
  pub any_qualifiers : (l : List Token) → Said fuel (λ f qs. Qualified f qs × Unit {0}) Any l (qualifiers fuel [] l)
  any_qualifiers l = as_said {m = fuel} (omega arith) (λ g y s. (s, tt)) (λ _ _. tt) (all_qualifiers_say fuel l)

-- at a qualifier there is one
qualified_if : (m : ℕ) (t : Token) (ts : List Token) (word : QualifierWord) → qualifier_of t.kind ≡ Some word → (q : Option QualifierWord) → qualifier_of t.kind ≡ q
    → Said (suc m) (λ f qs. Qualified f qs × (0 < length qs)) Any (t ∷ ts) (spec.qualifiers_if (qualifiers m) [] q (t ∷ ts))
qualified_if m t ts word is None other = let wrong : None ≡ Some word = sym other ∙ is in cc
qualified_if m t ts word is (Some w) other =
    let one : Qualifier = record { word = w; place = t.place } in
    after_said {m = m} (omega arith) (as_said {m = m} (omega arith)
    (λ g y (ys, e, s). (subst (λ z. Qualified (t ∷ g) z) (sym e) (grammar.more t other s), omega (arith, ap length e))) (λ _ _. tt)
    (qualifiers_say m (one ∷ []) ts))

pub qualified_says : (m : ℕ) (t : Token) (ts : List Token) (word : QualifierWord) → qualifier_of t.kind ≡ Some word
    → Said m (λ f qs. Qualified f qs × (0 < length qs)) Any (t ∷ ts) (qualifiers m [] (t ∷ ts))
unfolding qualifiers
qualified_says zero t ts word is = spent_said
qualified_says (suc m) t ts word is = qualified_if m t ts word is (qualifier_of t.kind) refl

-- ---- what isn't a name alone

abbrev pub is_named : Base → Bool
is_named (b.Named at name) = true
is_named _ = false

pub reserved_not_alone : (x : Base) (qs : List Qualifier) (gs : List GridTree) → is_named x ≡ false → is_name_alone x qs gs ≡ false
reserved_not_alone (b.Named at name) qs gs h = cc
reserved_not_alone _ qs gs h = refl

pub qualified_not_alone : (x : Base) (qs : List Qualifier) (gs : List GridTree) → 0 < length qs → is_name_alone x qs gs ≡ false
qualified_not_alone x [] gs h = absurd (omega (arith, h))
qualified_not_alone (b.Named at name) (q ∷ qs) gs h = refl
qualified_not_alone _ (q ∷ qs) gs h = refl

pub gridded_not_alone : (x : Base) (qs : List Qualifier) (g : GridTree) (gs : List GridTree) → is_name_alone x qs (g ∷ gs) ≡ false
gridded_not_alone (b.Named at name) [] g gs = refl
gridded_not_alone (b.Named at name) (q ∷ qs) g gs = refl
gridded_not_alone _ qs g gs = refl

-- a word that begins a type but no expression
reserved_arity : {m : ℕ} (t : Token) (ts : List Token) (make : ℕ → Base) → ((n : ℕ) → is_named (make n) ≡ false) → ((f : List Token) (n : ℕ) → Arity f n → Based (t ∷ f) (make n))
    → Said m (λ f x. Based (t ∷ f) x × (is_named x ≡ false)) Any ts (and_then (arity ts) (λ n i. Ok (make n, i)))
reserved_arity {m = m} t ts make plain made =
    then_said {m = m} {Q = Any} (λ f x s. omega arith) (λ f n s. ([], make n, (ended (λ g x. Based (t ∷ g) x) f (make n) (made f n s), plain n))) _ (arity_says {m = m} ts)
    (λ f r n s _. done_said (ended (λ g x. Based (t ∷ g) x) f (make n) (made f n s), plain n) tt)

reserved_by : {m : ℕ} (t : Token) (ts : List Token) (q : TokenKind) → t.kind ≡ q → begins_type q ≡ true → Said m (λ f x. Based f x × (is_named x ≡ false)) Any (t ∷ ts) (spec.base_by q (t ∷ ts))
reserved_by {m = m} t ts k.KeywordInt h r = after_said {m = m} (omega arith) (done_said (grammar.int t h, refl) tt)
reserved_by {m = m} t ts k.KeywordLong h r = after_said {m = m} (omega arith) (done_said (grammar.long t h, refl) tt)
reserved_by {m = m} t ts k.KeywordBoolean h r = after_said {m = m} (omega arith) (done_said (grammar.boolean t h, refl) tt)
reserved_by {m = m} t ts k.KeywordPoint h r = after_said {m = m} (omega arith) (reserved_arity t ts (b.Point t.place) (λ n. refl) (λ f n s. grammar.point t h s))
reserved_by {m = m} t ts k.KeywordRectDomain h r = after_said {m = m} (omega arith) (reserved_arity t ts (b.RectDomain t.place) (λ n. refl) (λ f n s. grammar.rect_domain t h s))
reserved_by t ts _ h r = cc

pub reserved_says : {m : ℕ} (t : Token) (ts : List Token) → begins_type t.kind ≡ true → Said m (λ f x. Based f x × (is_named x ≡ false)) Any (t ∷ ts) (base (t ∷ ts))
unfolding base
reserved_says t ts r = reserved_by t ts t.kind refl r
