-- The parser is proved sound for the parts of statements and members.
use Rattle.std.proofs.Common.{◌≡◌, ℕ, zero, suc, pos, ◌+◌, ◌<◌, ◌≤◌, List, [], ◌∷◌, ◌++◌, length, Option, Some, None, Ok, Err, refl, sym, ap, ◌∙◌, subst, append_assoc, arith, length-append, true, false, Bool, if◌then◌else◌, codes}
use Rattle.ti_base.specs.declared.place.Place.{Place}
use Rattle.ti_syntax.specs.declared.token.Token.{Token}
use Rattle.ti_syntax.specs.declared.token.TokenKind.{TokenKind}
use Rattle.ti_syntax.specs.declared.token.TokenKind.TheVariants as k
use Rattle.ti_syntax.specs.declared.tree.types.Base.{Base}
use Rattle.ti_syntax.specs.declared.tree.types.Base.TheVariants as b
use Rattle.ti_syntax.specs.declared.tree.types.QualifierWord.{QualifierWord}
use Rattle.ti_syntax.specs.declared.tree.exprs.BinaryOperator.{BinaryOperator}
use Rattle.ti_syntax.specs.declared.tree.stmts.StepOperator.{StepOperator}
use Rattle.ti_syntax.specs.Trees.Types.{GridTree, TypeTree}
use Rattle.ti_syntax.specs.Trees.Expressions.{Exp, RangeTree}
use Rattle.ti_syntax.specs.Trees.Expressions as e
use Rattle.ti_syntax.specs.Trees.Statements.{Stm}
use Rattle.ti_syntax.specs.Trees.Statements as tree
use Rattle.ti_syntax.specs.Spelling.Operators.{update_of, step_of, qualifier_of}
use Rattle.ti_syntax.specs.Spelling.Types.{Arity, Based, Qualified, Gridded, FieldType, WideType, Typed}
use Rattle.ti_syntax.specs.Spelling.Types as types
use Rattle.ti_syntax.specs.Spelling.Expressions.{Ending, Target, Call, Other, Whole, Postfixed, Ranges, Range}
use Rattle.ti_syntax.specs.Spelling.Expressions as exprs
use Rattle.ti_syntax.specs.Spelling.Statements.{starts, starts_so, Start, Region, Dims, Initial, Declared, Changed, Printer, Printed, Condition, First, Optional, Update, Stated}
use Rattle.ti_syntax.specs.Spelling.Statements as grammar
use Rattle.ti_parse_expr.specs.declared.parse.Form.TheVariants as form
use Rattle.ti_parse_expr.specs.Mirrors.Input.{At, Over, OutOfFuel, ParseOutcome, Parser, ◌>>=◌, ◌>>◌, pure, and_then, kind, next_is, expect}
use Rattle.ti_parse_expr.specs.Mirrors.Types.{arity, base, qualifiers, grid, grids, field_type}
use Rattle.ti_parse_expr.specs.Mirrors.Exprs.{Operand, is_dim_token}
use Rattle.ti_parse_expr.specs.Mirrors.Full.{language_limits, full, full_operand, full_behind_name, full_behind_bracket}
use Rattle.ti_parse_expr.proofs.Lemmas.{paren_is, close_is, bracket_is, shut_is, comma_is, dot_is, colon_is, BeginsIn, Said, Any, as_said}
use Rattle.ti_parse_expr.proofs.Lemmas.{token, ended, arity_says, base_says, some_base, all_qualifiers_say, any_qualifiers, field_type_says}
use Rattle.ti_parse_expr.proofs.Lemmas.{grid_says, grids_say, gridded_append, GridRest, MoreGrids, Post, ranges_snoc, postfixed_some}
use Rattle.ti_parse_expr.proofs.Lemmas.{whole_int, full_says, operand_says, behind_name_is, behind_bracket_is}
use Rattle.ti_parse.specs.Mirrors.ParserParams.{language_params}
use Rattle.ti_parse.specs.Mirrors.Parts as spec
use Rattle.ti_parse.specs.Mirrors.Parts.{is_wide, begins_declaration, NameStart, DeclaredType, PostfixStart, wide, field, any_type, range_from, more_ranges}
use Rattle.ti_parse.specs.Mirrors.Parts.{dims, region, new_grid, new_named, new_object_or_grid, new_thing, broadcast, initial, declared, change_of, expr_stmt}
use Rattle.ti_parse.specs.Mirrors.Parts.{change, bracket_start, name_start, printer, print_text_argument, print_argument, print, barrier, break_out}
use Rattle.ti_parse.specs.Mirrors.Parts.{continue_on, return_from, condition, first, optional_expr, update}
use Rattle.ti_parse.proofs.Laws.{Free, Tells, told, as_tells, done_tells, refused_tells, if_tells, if_sees, after_tells, then_tells, map_tells, want_here, want_tells, last_tells, word_here, word_tells, name_here}
use Rattle.ti_parse.proofs.SoundKinds.{assign_is, plus_is, semicolon_is, println_is}

-- ---- some phrases

abbrev zero_token : Token
zero_token = token (k.Int (pos 0))

abbrev zero_tree : Exp
zero_tree = e.Int zero_token.place (pos 0)

some_arity : BeginsIn Arity []
some_arity = (token k.Less ∷ token (k.Int (pos 1)) ∷ token k.Greater ∷ [], 1, types.arity (token k.Less) (token (k.Int (pos 1))) (token k.Greater) refl refl (omega arith) (omega arith) refl)

some_wide : BeginsIn WideType []
some_wide = (
  token k.KeywordSharedRegion ∷ [],
  record {
    base = b.SharedRegion (token k.KeywordSharedRegion).place;
    qualifiers = [];
    grids = [];
  },
  types.shared_region (token k.KeywordSharedRegion) refl types.none,
)

-- a type with nothing behind what it begins with
base_alone : {a : List Token} {x : Base} → Based a x → FieldType (a ++ []) (record { base = x; qualifiers = []; grids = [] })
base_alone s = types.field_type s types.none types.none (omega arith)

-- ---- statements that end with an `if` without `else`

abbrev pub ends_open : Stm → Bool
ends_open (tree.If at c x) = true
ends_open (tree.IfElse at c x y) = ends_open y
ends_open (tree.While at c x) = ends_open x
ends_open (tree.For at begin c step x) = ends_open x
ends_open (tree.Foreach at name_at name domain x) = ends_open x
ends_open _ = false

pub changed_shut : {l : List Token} {x : Stm} → Changed l x → ends_open x ≡ false
changed_shut (grammar.assign a s h q) = refl
changed_shut (grammar.update a s h q) = refl
changed_shut (grammar.step a s h) = refl

-- a statement that doesn't
abbrev pub Shut : List Token → Stm → Type 0
Shut f x = Stated false f x × (ends_open x ≡ false)

module _ (fuel : ℕ) where
  -- ---- what stands in this crate's phrases

  pub whole_tells : (l : List Token) → Tells fuel (Whole 1) Free l (full form.Whole l)
  whole_tells l = told (zero_token ∷ [], zero_tree, whole_int 1) (full_says form.Whole l)

  mul_tells : (l : List Token) → Tells fuel (Whole 10) Free l (full form.Mul l)
  mul_tells l = told (zero_token ∷ [], zero_tree, whole_int 10) (full_says form.Mul l)

  arity_tells : (l : List Token) → Tells fuel Arity Free l (arity l)
  arity_tells l = told some_arity (arity_says l)

  qualifiers_tell : (l : List Token) → Tells fuel Qualified Free l (qualifiers fuel [] l)
  qualifiers_tell l = told ([], [], types.none) (all_qualifiers_say fuel l)

  base_tells : (l : List Token) → Tells fuel Based Free l (base l)
  base_tells l = told some_base (base_says l)

  -- at most so many grids
  grids_tell : (n : ℕ) (l : List Token) → Tells fuel (λ f gs. Gridded f gs × (length gs ≤ n)) Free l (grids fuel n [] l)
  grids_tell n l =
      told ([], [], (types.none, omega arith))
      (as_said {m = fuel} (omega arith) (λ f gs (ys, is, s, few). (subst (Gridded f) (sym is) s, omega (arith, few, ap length is))) (λ _ _. tt) (grids_say fuel n [] l))

  -- ---- types

  wide_by_tells : (t : Token) (ts : List Token) (q : TokenKind) → t.kind ≡ q → Tells fuel WideType Free (t ∷ ts) (spec.wide_by language_params fuel q (t ∷ ts))
  wide_by_tells t ts k.KeywordDomain h = after_tells (then_tells _ (arity_tells ts) (λ f r n s. map_tells _ (λ g qs q. types.domain t h s q) (qualifiers_tell r)))
  wide_by_tells t ts k.KeywordSharedRegion h = after_tells (map_tells _ (λ g qs q. types.shared_region t h q) (qualifiers_tell ts))
  wide_by_tells t ts _ h = refused_tells some_wide

  pub wide_tells : (l : List Token) → Tells fuel WideType Free l (wide language_params fuel l)
  unfolding wide
  wide_tells [] = refused_tells some_wide
  wide_tells (t ∷ ts) = wide_by_tells t ts t.kind refl

  -- the type of a field behind what it begins with, the tokens a
  field_behind : (a : List Token) (x : Base) → Based a x → (l : List Token) → Tells fuel (λ f ty. FieldType (a ++ f) ty) Free l (field_type fuel x l)
  field_behind a x s l =
      told ([], record { base = x; qualifiers = []; grids = [] }, base_alone s)
      (as_said {m = fuel} (omega arith) (λ f ty (q, is, any). q) (λ _ _. tt) (field_type_says fuel a x (λ _. Unit {0}) s l (any_qualifiers fuel l)))

  pub field_tells : (l : List Token) → Tells fuel FieldType Free l (field language_params fuel l)
  unfolding field
  field_tells l = then_tells _ (base_tells l) (λ f r x s. field_behind f x s r)

  pub typed_tells : (l : List Token) → Tells fuel Typed Free l (any_type language_params fuel l)
  unfolding any_type
  typed_tells l = if_tells (is_wide (kind l)) _ _ (λ _. as_tells (λ f ty s. types.wide s) (wide_tells l)) (λ _. as_tells (λ f ty s. types.field s) (field_tells l))

  -- ---- right sides

  -- behind the lower bound
  pub range_from_tells : (a : List Token) (low : Exp) → Whole 1 a low → (l : List Token) → Tells fuel (λ f r. Range (a ++ f) r) Free l (range_from language_params fuel low l)
  unfolding range_from
  range_from_tells a low s l =
      want_tells k.Colon colon_is refl _ (λ c ts hc. then_tells _ (whole_tells ts) (λ f r high q.
      if_sees k.Colon colon_is refl _ _ (λ t us ht. after_tells (map_tells _ (λ g step p. exprs.stepped c t s hc q ht p) (whole_tells us)))
      (λ _. done_tells (exprs.plain c s hc (ended (Whole 1) f high q)))))

  -- some list of ranges so far, and the most that there may be
  abbrev pub FewRanges : ℕ → List Token → List RangeTree → Type 0
  FewRanges n f rs = Ranges f rs × (length rs ≤ n)

  pub more_ranges_tell : (n : ℕ) (a : List Token) (found : List RangeTree) → Ranges a found → length found + n ≤ 3 → (l : List Token)
      → Tells fuel (λ f rs. FewRanges 3 (a ++ f) rs) Free l (more_ranges language_params fuel n found l)
  unfolding more_ranges
  more_ranges_tell zero a found s few l = done_tells (ended Ranges a found s, omega (arith, few))
  more_ranges_tell (suc n) a found s few l =
      if_sees k.Comma comma_is refl _ _
      (λ t ts ht. after_tells (then_tells _ (whole_tells ts) (λ f r low q. then_tells _ (range_from_tells f low q r) (λ g r2 x p.
      as_tells (λ v y (all, some). (subst (λ z. Ranges z y) (append_assoc a (t ∷ (f ++ g)) v ∙ ap (λ z. a ++ t ∷ z) (append_assoc f g v)) all, some))
      (more_ranges_tell n (a ++ t ∷ (f ++ g)) (found ++ x ∷ []) (ranges_snoc t s ht p) (omega (arith, few, length-append found (x ∷ []))) r2)))))
      (λ _. done_tells (ended Ranges a found s, omega (arith, few)))

  pub dims_tell : (l : List Token) → Tells fuel Dims Free l (dims language_params fuel l)
  unfolding dims
  dims_tell l =
      then_tells _ (whole_tells l) (λ f r x s. if_tells (next_is k.Colon r) _ _
      (λ _. then_tells _ (range_from_tells f x s r) (λ g r2 y q. map_tells tree.Ranges (λ h rs (all, few). grammar.ranges (subst (λ z. Ranges z rs) (append_assoc f g h) all) few)
      (more_ranges_tell 2 (f ++ g) (y ∷ []) (exprs.last_range q) (omega arith) r2)))
      (λ _. done_tells (grammar.domain (ended (Whole 1) f x s))))

  pub region_tells : (l : List Token) → Tells fuel Region Free l (region language_params fuel l)
  unfolding region
  region_tells l =
      if_sees k.LeftParen paren_is refl _ _ (λ o ts ho. after_tells (then_tells _ (whole_tells ts) (λ f r x s. last_tells k.RightParen close_is refl (Some x) (λ c hc. grammar.some o c ho s hc))))
      (λ _. done_tells grammar.none)

  -- behind `new`, the region and the base, the tokens n, l and a
  pub new_grid_tells : (n : Token) (l a : List Token) (owner : Option Exp) (x : Base) → n.kind ≡ k.KeywordNew → Region l owner → Based a x → (i : List Token)
      → Tells fuel (λ f y. Initial (n ∷ (l ++ (a ++ f))) y) Free i (new_grid language_params fuel n.place owner x i)
  unfolding new_grid
  new_grid_tells n l a owner x hn placed based i =
      then_tells _ (qualifiers_tell i) (λ q r qs sq.
      want_here k.LeftBracket bracket_is refl
      (λ at. dims language_params fuel >>= (λ d. expect k.RightBracket >> (grids fuel 2 [] >>= (λ gs. pure (tree.NewGrid n.place owner (record { base = x; qualifiers = qs; grids = gs }) at d)))))
      (λ o us ho. then_tells _ (dims_tell us) (λ d r2 spread sd. want_tells k.RightBracket shut_is refl _
      (λ c vs hc. map_tells _ (λ g gs (sg, few). grammar.new_grid n o c hn placed based sq ho sd hc sg few) (grids_tell 2 vs)))))

  -- behind `new`, the region and a name
  pub new_named_tells : (n t : Token) (l : List Token) (owner : Option Exp) (name : List ℕ) → n.kind ≡ k.KeywordNew → Region l owner → t.kind ≡ k.Name name → (i : List Token)
      → Tells fuel (λ f y. Initial (n ∷ (l ++ t ∷ f)) y) Free i (new_named language_params fuel n.place owner t.place name i)
  unfolding new_named
  new_named_tells n t l owner name hn placed ht i =
      if_sees k.LeftParen paren_is refl _ _ (λ o ts ho. after_tells
      (last_tells k.RightParen close_is refl (tree.NewObject n.place owner t.place name)
      (λ c hc. grammar.new_object n t o c hn placed ht ho hc)))
      (λ _. new_grid_tells n l (t ∷ []) owner (b.Named t.place name) hn placed (types.named t ht) i)

  -- behind `new` and the region
  made_base : (n : Token) (l : List Token) (owner : Option Exp) → n.kind ≡ k.KeywordNew → Region l owner → (i : List Token)
      → Tells fuel (λ f y. Initial (n ∷ (l ++ f)) y) Free i (and_then (base i) (new_grid language_params fuel n.place owner))
  made_base n l owner hn placed i = then_tells _ (base_tells i) (λ f r x s. new_grid_tells n l f owner x hn placed s r)

  made_by_tells : (n : Token) (l : List Token) (owner : Option Exp) → n.kind ≡ k.KeywordNew → Region l owner → (t : Token) (ts : List Token) (q : TokenKind) → t.kind ≡ q
      → Tells fuel (λ f y. Initial (n ∷ (l ++ f)) y) Free (t ∷ ts) (spec.new_object_or_grid_by language_params fuel n.place owner q (t ∷ ts))
  made_by_tells n l owner hn placed t ts (k.Name name) h = after_tells (new_named_tells n t l owner name hn placed h ts)
  made_by_tells n l owner hn placed t ts _ h = made_base n l owner hn placed (t ∷ ts)

  pub made_tells : (n : Token) (l : List Token) (owner : Option Exp) → n.kind ≡ k.KeywordNew → Region l owner → (i : List Token)
      → Tells fuel (λ f y. Initial (n ∷ (l ++ f)) y) Free i (new_object_or_grid language_params fuel n.place owner i)
  unfolding new_object_or_grid
  made_tells n l owner hn placed [] = made_base n l owner hn placed []
  made_tells n l owner hn placed (t ∷ ts) = made_by_tells n l owner hn placed t ts t.kind refl

  -- behind `new`
  new_placed : (n : Token) → n.kind ≡ k.KeywordNew → (i : List Token) → Tells fuel (λ f y. Initial (n ∷ f) y) Free i (and_then (region language_params fuel i) (new_object_or_grid language_params fuel n.place))
  new_placed n hn i = then_tells _ (region_tells i) (λ f r owner s. made_tells n f owner hn s r)

  new_by_tells : (n : Token) → n.kind ≡ k.KeywordNew → (t : Token) (ts : List Token) (q : TokenKind) → t.kind ≡ q
      → Tells fuel (λ f y. Initial (n ∷ f) y) Free (t ∷ ts) (spec.new_by language_params fuel n.place q (t ∷ ts))
  new_by_tells n hn t ts k.KeywordSharedRegion h =
      after_tells (want_tells k.LeftParen paren_is refl _ (λ o us ho. last_tells k.RightParen close_is refl (tree.NewRegion n.place) (λ c hc. grammar.new_region n t o c hn h ho hc)))
  new_by_tells n hn t ts _ h = new_placed n hn (t ∷ ts)

  pub new_tells : (n : Token) → n.kind ≡ k.KeywordNew → (i : List Token) → Tells fuel (λ f y. Initial (n ∷ f) y) Free i (new_thing language_params fuel n.place i)
  unfolding new_thing
  new_tells n hn [] = new_placed n hn []
  new_tells n hn (t ∷ ts) = new_by_tells n hn t ts t.kind refl

  pub broadcast_tells : (w : Token) → w.kind ≡ k.KeywordBroadcast → (l : List Token) → Tells fuel (λ f y. Initial (w ∷ f) y) Free l (broadcast language_params fuel w.place l)
  unfolding broadcast
  broadcast_tells w hw l = then_tells _ (whole_tells l) (λ f r x s. word_tells (codes "from") _ (λ t ts ht. map_tells _ (λ g root q. grammar.broadcast w t hw s ht q) (whole_tells ts)))

  initial_by_tells : (t : Token) (ts : List Token) (q : TokenKind) → t.kind ≡ q → Tells fuel Initial Free (t ∷ ts) (spec.initial_by language_params fuel q (t ∷ ts))
  initial_by_tells t ts k.KeywordNew h = after_tells (new_tells t h ts)
  initial_by_tells t ts k.KeywordBroadcast h = after_tells (broadcast_tells t h ts)
  initial_by_tells t ts _ h = map_tells tree.Value (λ f x s. grammar.value s) (whole_tells (t ∷ ts))

  pub initial_tells : (l : List Token) → Tells fuel Initial Free l (initial language_params fuel l)
  unfolding initial
  initial_tells [] = map_tells tree.Value (λ f x s. grammar.value s) (whole_tells [])
  initial_tells (t ∷ ts) = initial_by_tells t ts t.kind refl

  -- ---- declarations

  -- behind the type, the tokens a
  pub declared_tells : (a : List Token) (ty : TypeTree) → Typed a ty → (l : List Token) → Tells fuel (λ f x. Declared (a ++ f) x) Free l (declared language_params fuel ty l)
  unfolding declared
  declared_tells a ty s l =
      name_here (λ at name. expect k.Assign >> (initial language_params fuel >>= (λ value. pure (tree.Declare at ty name value))))
      (λ t name ts ht. want_tells k.Assign assign_is refl _ (λ c us hc. map_tells _ (λ f x q. grammar.declared t c s ht hc q) (initial_tells us)))

-- ---- what begins a statement

starts_append : (a f : List Token) → starts_so a ≡ true → starts_so (a ++ f) ≡ true
starts_append [] f h = let wrong : false ≡ true = h in cc
starts_append (t ∷ a) f h = h

-- a Postfix that a statement can begin with
abbrev pub StartsSo : List Token → Operand → Type 0
StartsSo f x = Post f x × (starts_so f ≡ true)

some_start : BeginsIn StartsSo []
some_start = (token k.KeywordThis ∷ [], (e.This (token k.KeywordThis).place, Other), (exprs.this (token k.KeywordThis) refl, refl))

-- a front of a list that begins so does too
starts_front : (l f r : List Token) → starts (kind l) ≡ true → l ≡ f ++ r → 0 < length f → starts_so f ≡ true
starts_front l [] r h is some = absurd (omega (arith, some))
starts_front l (t ∷ f) r h is some = ap (λ z. starts (kind z)) (sym is) ∙ h

start_begins : (l f r : List Token) → starts (kind l) ≡ true → l ≡ f ++ r → BeginsIn Post f → BeginsIn StartsSo f
start_begins l [] r h is b = some_start
start_begins l (t ∷ f) r h is (w, x, s) = (w, x, (s, starts_front l (t ∷ f) r h is (omega arith)))

start_deeper : (l f u : List Token) (t : Token) → starts (kind l) ≡ true → l ≡ f ++ t ∷ u → BeginsIn Post (f ++ t ∷ []) → BeginsIn StartsSo (f ++ t ∷ [])
start_deeper l f u t h is b = start_begins l (f ++ t ∷ []) u h (is ∙ sym (append_assoc f (t ∷ []) u)) b

start_says : (n : ℕ) (l : List Token) → starts (kind l) ≡ true → (out : ParseOutcome Operand) → Said n Post Any l out → Said n StartsSo Any l out
start_says n l h (Ok p) said = let (f, is, s, any) = said.says in record { says = (f, is, (s, starts_front l f p.1 h is (postfixed_some s)), tt) }
start_says n l h (Err (At r)) said = let (f, is, b) = said.says in record { says = (f, is, start_begins l f r h is b) }
start_says n l h (Err (Over r)) said = let (f, t, u, is, at, b) = said.says in record { says = (f, t, u, is, at, start_deeper l f u t h is b) }
start_says n l h (Err OutOfFuel) said = record { says = said.says }

-- what a name begins: a type, or a Postfix
abbrev pub BegunIs : List Token → NameStart → Type 0
BegunIs f (DeclaredType ty) = Typed f ty
BegunIs f (PostfixStart x) = StartsSo f x

-- a print's first tokens, with the place of `println`
abbrev PrinterAt : List Token → Place → Type 0
PrinterAt f at = (p : Token) × Printer f p × (at ≡ p.place)

module _ (fuel : ℕ) where
  pub start_tells : (l : List Token) → starts (kind l) ≡ true → Tells fuel StartsSo Free l (full_operand l)
  start_tells l h = told some_start (start_says fuel l h (full_operand l) (operand_says l))

  -- ---- changes, behind their first operand, the tokens a

  some_change : (a : List Token) (target : Exp) → Start Target a target → BeginsIn (λ f x. Changed (a ++ f) x) []
  some_change a target s = (token k.Assign ∷ zero_token ∷ [], tree.Assign (token k.Assign).place target (tree.Value zero_tree), grammar.assign (token k.Assign) s refl (grammar.value (whole_int 1)))

  -- a member of any operand can be changed
  member_change : (a : List Token) (x : Exp) (ending : Ending) → Postfixed ending a x → starts_so a ≡ true → BeginsIn (λ f y. Changed (a ++ f) y) []
  member_change a x ending s so =
      let d : Token = token k.Dot in
      let n : Token = token (k.Name []) in
      let (w, y, new_object_or_grid) = some_change (a ++ d ∷ n ∷ []) (e.Select n.place x []) (grammar.start (exprs.select d n s refl refl) (starts_append a (d ∷ n ∷ []) so)) in
      (d ∷ n ∷ w, y, subst (λ z. Changed z y) (append_assoc a (d ∷ n ∷ []) w) new_object_or_grid)

  update_if_tells : (a : List Token) (target : Exp) → Start Target a target
      → (t : Token) (ts : List Token) (op : Option BinaryOperator) (step : Option StepOperator) → update_of t.kind ≡ op → step_of t.kind
      ≡ step
      → Tells fuel (λ f x. Changed (a ++ f) x) Free (t ∷ ts) (spec.update_if language_params fuel target op step (t ∷ ts))
  update_if_tells a target s t ts (Some op) step h h2 = after_tells (map_tells _ (λ g x q. grammar.update t s h q) (whole_tells fuel ts))
  update_if_tells a target s t ts None (Some op) h h2 = after_tells (done_tells (grammar.step t s h2))
  update_if_tells a target s t ts None None h h2 = refused_tells (some_change a target s)

  changed_by_tells : (a : List Token) (target : Exp) → Start Target a target → (t : Token) (ts : List Token) (q : TokenKind) → t.kind ≡ q
      → Tells fuel (λ f x. Changed (a ++ f) x) Free (t ∷ ts) (spec.change_of_by language_params fuel target q (t ∷ ts))
  changed_by_tells a target s t ts k.Assign h = after_tells (map_tells _ (λ g x q. grammar.assign t s h q) (initial_tells fuel ts))
  changed_by_tells a target s t ts q h = update_if_tells a target s t ts (update_of q) (step_of q) (ap update_of h) (ap step_of h)

  target_changed : (a : List Token) (x : Exp) → Start Target a x → (l : List Token) → Tells fuel (λ f y. Changed (a ++ f) y) Free l (spec.change_of_by language_params fuel x (kind l) l)
  target_changed a x s [] = refused_tells (some_change a x s)
  target_changed a x s (t ∷ ts) = changed_by_tells a x s t ts t.kind refl

  changed_if_tells : (a : List Token) (x : Exp) (ending : Ending) → Postfixed ending a x → starts_so a ≡ true → (l : List Token)
      → Tells fuel (λ f y. Changed (a ++ f) y) Free l (spec.change_of_if language_params fuel x ending l)
  changed_if_tells a x Target s so l = target_changed a x (grammar.start s so) l
  changed_if_tells a x Call s so l = refused_tells (member_change a x Call s so)
  changed_if_tells a x Other s so l = refused_tells (member_change a x Other s so)

  pub changed_tells : (a : List Token) (x : Operand) → StartsSo a x → (l : List Token) → Tells fuel (λ f y. Changed (a ++ f) y) Free l (change_of language_params fuel x l)
  unfolding change_of
  changed_tells a x (s, so) l = changed_if_tells a x.0 x.1 s so l

  pub change_tells : (l : List Token) → Tells fuel Changed Free l (change language_params fuel l)
  unfolding change
  change_tells l = if_tells (starts (kind l)) _ _ (λ h. then_tells _ (start_tells l h) (λ f r x s. changed_tells f x s r)) (λ _. refused_tells some)
    where
      some : BeginsIn Changed []
      some = let (w, x, (s, so)) = some_start in let (v, y, new_object_or_grid) = member_change w x.0 x.1 s so in (w ++ v, y, new_object_or_grid)

  -- ---- a call or a change with its semicolon

  change_closed : (a f : List Token) (x : Stm) (t : Token) → Changed (a ++ f) x → t.kind ≡ k.Semicolon → Shut (a ++ (f ++ t ∷ [])) x
  change_closed a f x t s h = (subst (λ z. Stated false z x) (append_assoc a f (t ∷ [])) (grammar.change t s h), changed_shut s)

  change_says : (a : List Token) (x : Operand) → StartsSo a x → (l : List Token) → Tells fuel (λ f y. Shut (a ++ f) y) Free l (spec.expr_stmt_if language_params fuel x false l)
  change_says a x s l = then_tells _ (changed_tells a x s l) (λ f r y q. last_tells k.Semicolon semicolon_is refl y (λ t h. change_closed a f y t q h))

  call_or_change : (a : List Token) (x : Exp) → StartsSo a (x, Call) → (l : List Token) (done : Bool) → next_is k.Semicolon l ≡ done
      → Tells fuel (λ f y. Shut (a ++ f) y) Free l (spec.expr_stmt_if language_params fuel (x, Call) done l)
  call_or_change a x s [] true h = cc
  call_or_change a x (s, so) (t ∷ ts) true h = after_tells (done_tells (grammar.call t (grammar.start s so) (semicolon_is t.kind h), refl))
  call_or_change a x s l false h = change_says a (x, Call) s l

  simple_by : (a : List Token) (x : Exp) (ending : Ending) → StartsSo a (x, ending) → (l : List Token) → Tells fuel (λ f y. Shut (a ++ f) y) Free l (expr_stmt language_params fuel (x, ending) l)
  unfolding expr_stmt
  simple_by a x Call s l = call_or_change a x s l (next_is k.Semicolon l) refl
  simple_by a x Target s l = change_says a (x, Target) s l
  simple_by a x Other s l = change_says a (x, Other) s l

  pub simple_tells : (a : List Token) (x : Operand) → StartsSo a x → (l : List Token) → Tells fuel (λ f y. Shut (a ++ f) y) Free l (expr_stmt language_params fuel x l)
  simple_tells a x s l = simple_by a x.0 x.1 s l

  -- ---- what begins with a name t

  start_behind : (t : Token) (name : List ℕ) → t.kind ≡ k.Name name → (ts : List Token) (out : ParseOutcome Operand) → full_operand (t ∷ ts) ≡ out
      → Tells fuel BegunIs Free (t ∷ ts) (and_then out (λ x j. Ok (PostfixStart x, j)))
  start_behind t name ht ts out is = map_tells PostfixStart (λ f x s. s) (subst (Tells fuel StartsSo Free (t ∷ ts)) is (start_tells (t ∷ ts) (ap starts ht)))

  abbrev grid_of_name : Token → List ℕ → List GridTree → TypeTree
  grid_of_name t name gs = record { base = b.Named t.place name; qualifiers = []; grids = gs }

  named_grid : (t o : Token) (name : List ℕ) → t.kind ≡ k.Name name → (f : List Token) (g : GridTree) (ys gs : List GridTree)
      → Gridded (o ∷ f) (g ∷ ys) → gs ≡ g ∷ ys → length ys ≤ 2 → Typed (t ∷ o ∷ f) (grid_of_name t name gs)
  named_grid t o name ht f g ys gs s is few = types.field (types.field_type (types.named t ht) types.none (subst (Gridded (o ∷ f)) (sym is) s) (omega (arith, few, ap length is)))

  -- grids behind the name t and the bracket o
  begun_grid : (t o : Token) (name : List ℕ) → t.kind ≡ k.Name name → o.kind ≡ k.LeftBracket → (l : List Token)
      → Tells fuel (λ f x. BegunIs (t ∷ o ∷ f) x) Free l (and_then (grid fuel l) (λ g i. and_then (grids fuel 2 (g ∷ []) i) (λ gs j. Ok (DeclaredType (grid_of_name t name gs), j))))
  begun_grid t o name ht ho l =
      then_tells _ (told some (grid_says fuel o ho l)) (λ f r g s. map_tells _
      (λ h gs (ys, is, q, few). named_grid t o name ht (f ++ h) g ys gs (gridded_append s q) is few)
      (told (no_more g) (grids_say fuel 2 (g ∷ []) r)))
    where
      some : BeginsIn (GridRest o) []
      some = (
        token (k.Dim 1) ∷ token k.RightBracket ∷ [],
        record { dim = 1; qualifiers = [] },
        types.more o (token (k.Dim 1)) (token k.RightBracket) ho refl (omega arith) (omega arith) refl types.none types.none,
      )

      no_more : (g : GridTree) → BeginsIn (MoreGrids 2 (g ∷ [])) []
      no_more g = ([], g ∷ [], ([], refl, types.none, omega arith))

  pub begun_bracket_tells : (t o : Token) (name : List ℕ) → t.kind ≡ k.Name name → o.kind ≡ k.LeftBracket → (l : List Token)
      → Tells fuel BegunIs Free (t ∷ o ∷ l) (bracket_start language_params fuel t.place name o.place l)
  unfolding bracket_start
  begun_bracket_tells t o name ht ho l = by (is_dim_token (kind l))
    where
      by : (is_grid : Bool) → Tells fuel BegunIs Free (t ∷ o ∷ l) ((if◌then◌else◌ {A = Parser NameStart} is_grid
          (λ i. and_then (grid fuel i) (λ g i. and_then (grids fuel 2 (g ∷ []) i)
          (λ gs j. Ok (DeclaredType (grid_of_name t name gs), j)))) (λ i. and_then (full_behind_bracket o.place t.place name i)
          (λ x j. Ok (PostfixStart x, j)))) l)
      by true = after_tells (after_tells (begun_grid t o name ht ho l))
      by false = start_behind t name ht (o ∷ l) (full_behind_bracket o.place t.place name l) (behind_bracket_is language_limits (omega arith) t o l name ht ho)

  begun_if_tells : (t : Token) (name : List ℕ) → t.kind ≡ k.Name name → (l : List Token) (q : Option QualifierWord) → Tells fuel BegunIs Free (t ∷ l) (spec.name_start_if language_params fuel t.place name q l)
  begun_if_tells t name ht l (Some word) = after_tells (map_tells DeclaredType (λ f ty s. types.field s) (field_behind fuel (t ∷ []) (b.Named t.place name) (types.named t ht) l))
  begun_if_tells t name ht l None = start_behind t name ht l (full_behind_name t.place name l) (behind_name_is language_limits t l name ht)

  begun_by_tells : (t : Token) (name : List ℕ) → t.kind ≡ k.Name name → (u : Token) (us : List Token) (q : TokenKind) → u.kind ≡ q
      → Tells fuel BegunIs Free (t ∷ u ∷ us) (spec.name_start_by language_params fuel t.place name q (u ∷ us))
  begun_by_tells t name ht u us (k.Name next) h = after_tells (done_tells (types.field (base_alone (types.named t ht))))
  begun_by_tells t name ht u us k.LeftBracket h = begun_bracket_tells t u name ht h us
  begun_by_tells t name ht u us q h = begun_if_tells t name ht (u ∷ us) (qualifier_of q)

  pub begun_tells : (t : Token) (name : List ℕ) → t.kind ≡ k.Name name → (l : List Token) → Tells fuel BegunIs Free (t ∷ l) (name_start language_params fuel t.place name l)
  unfolding name_start
  begun_tells t name ht [] = begun_if_tells t name ht [] None
  begun_tells t name ht (u ∷ us) = begun_by_tells t name ht u us u.kind refl

  -- ---- prints and barriers

  println_tells : (l : List Token) → Tells fuel PrinterAt Free l (spec.printer_by language_params fuel k.KeywordPrintln l)
  println_tells l = want_here k.KeywordPrintln println_is refl (λ at. pure at) (λ t ts h. done_tells (t, grammar.short t h, refl))

  printer_by_tells : (t : Token) (ts : List Token) (q : TokenKind) → t.kind ≡ q → Tells fuel PrinterAt Free (t ∷ ts) (spec.printer_by language_params fuel q (t ∷ ts))
  printer_by_tells t ts k.KeywordSystem h =
      after_tells (want_tells k.Dot dot_is refl _ (λ d us hd. word_tells (codes "out") _ (λ o vs ho. want_tells k.Dot dot_is refl _ (λ p ws hp.
      want_here k.KeywordPrintln println_is refl (λ at. pure at) (λ w xs hw. done_tells (w, grammar.long t d o p w h hd ho hp hw, refl))))))
  printer_by_tells t ts _ h = println_tells (t ∷ ts)

  pub printer_tells : (l : List Token) → Tells fuel PrinterAt Free l (printer language_params fuel l)
  unfolding printer
  printer_tells [] = println_tells []
  printer_tells (t ∷ ts) = printer_by_tells t ts t.kind refl

  printed_by_tells : (t : Token) (ts : List Token) (q : TokenKind) → t.kind ≡ q → Tells fuel Printed Free (t ∷ ts) (spec.print_argument_by language_params fuel q (t ∷ ts))
  unfolding print_text_argument
  printed_by_tells t ts k.RightParen h = done_tells grammar.nothing
  printed_by_tells t ts (k.Str text) h =
      after_tells (if_sees k.Plus plus_is refl _ _ (λ p us hp. after_tells (map_tells _ (λ f x s. grammar.text_and_value t p h hp s) (mul_tells fuel us))) (λ _. done_tells (grammar.text t h)))
  printed_by_tells t ts _ h = map_tells tree.Expression (λ f x s. grammar.value s) (whole_tells fuel (t ∷ ts))

  pub printed_tells : (l : List Token) → Tells fuel Printed Free l (print_argument language_params fuel l)
  unfolding print_argument
  printed_tells [] = map_tells tree.Expression (λ f x s. grammar.value s) (whole_tells fuel [])
  printed_tells (t ∷ ts) = printed_by_tells t ts t.kind refl

  pub print_tells : (l : List Token) → Tells fuel Shut Free l (print language_params fuel l)
  unfolding print
  print_tells l =
      then_tells _ (printer_tells l) (λ f r at (p, s, is). want_tells k.LeftParen paren_is refl _ (λ o us ho. then_tells _ (printed_tells us) (λ g r2 what q.
      want_tells k.RightParen close_is refl _ (λ c vs hc. last_tells k.Semicolon semicolon_is refl (tree.Print at what) (λ t ht.
      (subst (λ z. Stated false (f ++ o ∷ (g ++ c ∷ t ∷ [])) (tree.Print z what)) (sym is) (grammar.print p o c t s ho q hc ht), refl))))))

  -- behind `Ti`
  pub barrier_tells : (i : Token) → i.kind ≡ k.KeywordTi → (l : List Token) → Tells fuel (λ f x. Shut (i ∷ f) x) Free l (barrier language_params fuel l)
  unfolding barrier
  barrier_tells i hi l =
      want_tells k.Dot dot_is refl _ (λ d us hd.
      word_here (codes "barrier") (λ at. expect k.LeftParen >> (expect k.RightParen >> (expect k.Semicolon >> pure (tree.Barrier at)))) (λ w vs hw.
      want_tells k.LeftParen paren_is refl _ (λ o ws ho. want_tells k.RightParen close_is refl _
      (λ c xs hc. last_tells k.Semicolon semicolon_is refl (tree.Barrier w.place)
      (λ t ht. (grammar.barrier i d w o c t hi hd hw ho hc ht, refl))))))

  -- ---- jumps, where their words are the first tokens

  pub optional_tells : (l : List Token) → Tells fuel Optional Free l (optional_expr language_params fuel l)
  unfolding optional_expr
  optional_tells l = if_tells (next_is k.Semicolon l) _ _ (λ _. done_tells grammar.none) (λ _. map_tells _ (λ f x s. grammar.some s) (whole_tells fuel l))

  pub break_tells : (b : Token) → b.kind ≡ k.KeywordBreak → (l : List Token) → Tells fuel Shut Free (b ∷ l) (break_out language_params fuel (b ∷ l))
  unfolding break_out
  break_tells b hb l = after_tells (last_tells k.Semicolon semicolon_is refl (tree.Break b.place) (λ t ht. (grammar.break b t hb ht, refl)))

  pub continue_tells : (c : Token) → c.kind ≡ k.KeywordContinue → (l : List Token) → Tells fuel Shut Free (c ∷ l) (continue_on language_params fuel (c ∷ l))
  unfolding continue_on
  continue_tells c hc l = after_tells (last_tells k.Semicolon semicolon_is refl (tree.Continue c.place) (λ t ht. (grammar.continue c t hc ht, refl)))

  pub return_tells : (w : Token) → w.kind ≡ k.KeywordReturn → (l : List Token) → Tells fuel Shut Free (w ∷ l) (return_from language_params fuel (w ∷ l))
  unfolding return_from
  return_tells w hw l =
      after_tells (then_tells _ (optional_tells l) (λ f r x s. last_tells k.Semicolon semicolon_is refl (tree.Return w.place x) (λ t ht. (grammar.return w t hw s ht, refl))))

  -- ---- the heads of compound statements

  pub condition_tells : (l : List Token) → Tells fuel Condition Free l (condition language_params fuel l)
  unfolding condition
  condition_tells l = want_tells k.LeftParen paren_is refl _ (λ o ts ho. then_tells _ (whole_tells fuel ts)
      (λ f r x s. last_tells k.RightParen close_is refl x (λ c hc. grammar.condition o c ho s hc)))

  first_of_tells : (f : List Token) (x : NameStart) → BegunIs f x → (l : List Token) → Tells fuel (λ g y. First (f ++ g) (tree.SomeStm y)) Free l (spec.first_of language_params fuel x l)
  first_of_tells f (DeclaredType ty) s l = as_tells (λ g y q. grammar.declaration q) (declared_tells fuel f ty s l)
  first_of_tells f (PostfixStart x) s l = as_tells (λ g y q. grammar.change q) (changed_tells f x s l)

  first_unnamed : (l : List Token) (declares : Bool)
      → Tells fuel First Free l
      (and_then ((if◌then◌else◌ {A = Parser Stm} declares (λ i. and_then (any_type language_params fuel i) (declared language_params fuel))
      (change language_params fuel)) l) (λ x j. Ok (tree.SomeStm x, j)))
  first_unnamed l true = map_tells tree.SomeStm (λ f x s. grammar.declaration s) (then_tells _ (typed_tells fuel l) (λ f r ty s. declared_tells fuel f ty s r))
  first_unnamed l false = map_tells tree.SomeStm (λ f x s. grammar.change s) (change_tells l)

  first_by_tells : (t : Token) (ts : List Token) (q : TokenKind) → t.kind ≡ q → Tells fuel First Free (t ∷ ts) (spec.first_by language_params fuel q (t ∷ ts))
  first_by_tells t ts k.Semicolon h = done_tells grammar.none
  first_by_tells t ts (k.Name name) h = then_tells _ (begun_tells t name h ts) (λ f r x s. map_tells tree.SomeStm (λ g y q. q) (first_of_tells f x s r))
  first_by_tells t ts q h = first_unnamed (t ∷ ts) (begins_declaration q)

  pub first_tells : (l : List Token) → Tells fuel First Free l (first language_params fuel l)
  unfolding first
  first_tells [] = first_unnamed [] false
  first_tells (t ∷ ts) = first_by_tells t ts t.kind refl

  pub update_tells : (l : List Token) → Tells fuel Update Free l (update language_params fuel l)
  unfolding update
  update_tells l = if_tells (next_is k.RightParen l) _ _ (λ _. done_tells grammar.none) (λ _. map_tells tree.SomeStm (λ f x s. grammar.change s) (change_tells l))
