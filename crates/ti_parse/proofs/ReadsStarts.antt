-- The parser is proved complete for the operands and types at the start of statements, up to the first token above a limit.
use Rattle.std.proofs.Common.{◌≡◌, ℕ, ◌<◌, List, [], ◌∷◌, ◌++◌, length, Some, None, Ok, Err, refl, sym, ap, ◌∙◌, subst, append_assoc, arith, true, false, Bool}
use Rattle.std.proofs.lemmas.Bool.{false≢true}
use Rattle.std.proofs.lemmas.Option.{none-some}
use Rattle.ti_syntax.specs.declared.token.Token.{Token}
use Rattle.ti_syntax.specs.declared.token.TokenKind.{TokenKind}
use Rattle.ti_syntax.specs.declared.token.TokenKind.TheVariants as k
use Rattle.ti_syntax.specs.declared.tree.exprs.BinaryOperator.{BinaryOperator}
use Rattle.ti_syntax.specs.declared.tree.stmts.StepOperator.{StepOperator}
use Rattle.ti_syntax.specs.Tokens.{same_kind}
use Rattle.ti_syntax.specs.Trees.Types.{TypeTree}
use Rattle.ti_syntax.specs.Trees.Expressions.{Exp}
use Rattle.ti_syntax.specs.Trees.Statements.{InitTree, Stm, MaybeStm}
use Rattle.ti_syntax.specs.Trees.Statements as tree
use Rattle.ti_syntax.specs.Spelling.Operators.{qualifier_of, update_of, step_of}
use Rattle.ti_syntax.specs.Spelling.Types.{Typed}
use Rattle.ti_syntax.specs.Spelling.Types as types
use Rattle.ti_syntax.specs.Spelling.Expressions.{Ending, Target, Postfixed, Listed}
use Rattle.ti_syntax.specs.Spelling.Expressions as expressions
use Rattle.ti_syntax.specs.Spelling.Statements.{Start, Initial, Declared, Changed, First, Update, starts, starts_so}
use Rattle.ti_syntax.specs.Spelling.Statements as grammar
use Rattle.ti_syntax.specs.Spelling.Loads.{Load, Free, free, weights, initial_loads, declared_loads, changed_loads, first_loads, update_loads}
use Rattle.ti_parse_expr.specs.Mirrors.Input.{Parser, ParseOutcome, and_then, kind, after_next, next_is}
use Rattle.ti_parse_expr.specs.Mirrors.Exprs.{Operand, is_dim_token}
use Rattle.ti_parse_expr.specs.Mirrors.Full.{Limits, operand_to}
use Rattle.ti_parse_expr.proofs.Lemmas.{binds_small, test_reads as same_test, then_ok, and_then_assoc, goes, is_name, begins, front_whole}
use Rattle.ti_parse_expr.proofs.Lemmas.{not_dim, operand_reads, behind_name_is, behind_bracket_is}
use Rattle.ti_parse.specs.Mirrors.ParserParams.{up_to}
use Rattle.ti_parse.specs.Mirrors.Parts as spec
use Rattle.ti_parse.specs.Mirrors.Parts.{NameStart, DeclaredType, PostfixStart, begins_declaration, any_type, name_start, bracket_start, declared, change_of, change, first, update}
use Rattle.ti_parse.proofs.Limits.{IsRead, same_reads, then_reads, done_reads, last_reads, made_reads, regroup_reads, took, by_kind, test_reads, sees_reads, free_then, whole}
use Rattle.ti_parse.proofs.Lengths.{weights_loaded}
use Rattle.ti_parse.proofs.ReadsTypes.{name_ends, typed_reads, begun_declares}
use Rattle.ti_parse.proofs.ReadsParts.{EndsRight, initial_reads, declared_part}

-- ---- what can follow an operand that a statement begins with

pub record EndsOperand (q : TokenKind) : Type 0 where
  pub operand : goes q ≡ false
  pub call : same_kind q k.LeftParen ≡ false
  pub name : is_name q ≡ false
  pub qualifier : qualifier_of q ≡ None

assign_ends : {q : TokenKind} → q ≡ k.Assign → EndsOperand q
assign_ends h = record { operand = ap goes h; call = ap (λ z. same_kind z k.LeftParen) h; name = ap is_name h; qualifier = ap qualifier_of h }

pub call_ends : {q : TokenKind} → q ≡ k.Semicolon → EndsOperand q
call_ends h = record { operand = ap goes h; call = ap (λ z. same_kind z k.LeftParen) h; name = ap is_name h; qualifier = ap qualifier_of h }

update_ends : (q : TokenKind) (op : BinaryOperator) → update_of q ≡ Some op → EndsOperand q
update_ends k.Dot op h = cc
update_ends k.LeftBracket op h = cc
update_ends k.LeftParen op h = cc
update_ends (k.Name name) op h = cc
update_ends k.KeywordSingle op h = cc
update_ends k.KeywordLocal op h = cc
update_ends _ op h = record { operand = refl; call = refl; name = refl; qualifier = refl }

step_ends : (q : TokenKind) (op : StepOperator) → step_of q ≡ Some op → EndsOperand q
step_ends k.Dot op h = cc
step_ends k.LeftBracket op h = cc
step_ends k.LeftParen op h = cc
step_ends (k.Name name) op h = cc
step_ends k.KeywordSingle op h = cc
step_ends k.KeywordLocal op h = cc
step_ends _ op h = record { operand = refl; call = refl; name = refl; qualifier = refl }

-- ---- what can follow the first name of an operand

pub record BehindName (i : List Token) : Type 0 where
  pub name : is_name (kind i) ≡ false
  pub qualifier : qualifier_of (kind i) ≡ None
  pub dim : next_is k.LeftBracket i ≡ true → is_dim_token (kind (after_next i)) ≡ false

-- if the list begins with a name
abbrev pub FrontName : List Token → Type 0
FrontName [] = Unit {0}
FrontName (t ∷ ts) = is_name t.kind ≡ true → BehindName ts

not_bracket : (q : TokenKind) → goes q ≡ false → same_kind q k.LeftBracket ≡ false
not_bracket k.LeftBracket h = cc
not_bracket _ h = refl

no_bracket : {a b c : Bool} → a ≡ false → a ≡ true → b ≡ c
no_bracket h is = let wrong : true ≡ false = sym is ∙ h in cc

ends_behind : {i : List Token} → EndsOperand (kind i) → BehindName i
ends_behind {i = i} e = record { name = e.name; qualifier = e.qualifier; dim = no_bracket (not_bracket (kind i) e.operand) }

dot_behind : (d : Token) (i : List Token) → d.kind ≡ k.Dot → BehindName (d ∷ i)
dot_behind d i h = record { name = ap is_name h; qualifier = ap qualifier_of h; dim = no_bracket (ap (λ q. same_kind q k.LeftBracket) h) }

paren_behind : (o : Token) (i : List Token) → o.kind ≡ k.LeftParen → BehindName (o ∷ i)
paren_behind o i h = record { name = ap is_name h; qualifier = ap qualifier_of h; dim = no_bracket (ap (λ q. same_kind q k.LeftBracket) h) }

listed_front : {l : List Token} {xs : List Exp} → Listed l xs → (r : List Token) → begins (kind (l ++ r)) ≡ true
listed_front (expressions.last s) r = front_whole s r
listed_front (expressions.more {l = l} {m = m} t s h q) r = ap (λ z. begins (kind z)) (append_assoc l (t ∷ m) r) ∙ front_whole s (t ∷ (m ++ r))

index_behind : {m : List Token} {xs : List Exp} → Listed m xs → (o c : Token) (r : List Token) → o.kind ≡ k.LeftBracket → BehindName (o ∷ ((m ++ c ∷ []) ++ r))
index_behind {m = m} s o c r h = record {
  name = ap is_name h;
  qualifier = ap qualifier_of h;
  dim = λ _. not_dim (kind ((m ++ c ∷ []) ++ r)) (ap (λ z. begins (kind z)) (append_assoc m (c ∷ []) r) ∙ listed_front s (c ∷ r));
}

unnamed : {i : List Token} {p : TokenKind} (q : TokenKind) → p ≡ q → is_name q ≡ false → is_name p ≡ true → BehindName i
unnamed q h not is = let wrong : true ≡ false = sym is ∙ ap is_name h ∙ not in cc

-- behind the first name of an operand stands what can follow it
front_name : {ending : Ending} {l : List Token} {x : Exp} → Postfixed ending l x → (r : List Token) → BehindName r → FrontName (l ++ r)
front_name (expressions.int t {n = n} h) r behind = unnamed (k.Int n) h refl
front_name (expressions.long t {n = n} h) r behind = unnamed (k.LongInt n) h refl
front_name (expressions.truth t h) r behind = unnamed k.KeywordTrue h refl
front_name (expressions.falsehood t h) r behind = unnamed k.KeywordFalse h refl
front_name (expressions.null t h) r behind = unnamed k.KeywordNull h refl
front_name (expressions.this t h) r behind = unnamed k.KeywordThis h refl
front_name (expressions.name t h) r behind = λ _. behind
front_name (expressions.call {l = l} t o c h h2 s h3) r behind = λ _. paren_behind o ((l ++ c ∷ []) ++ r) h2
front_name (expressions.group o c h s h2) r behind = unnamed k.LeftParen h refl
front_name (expressions.rect o c h s few h2) r behind = unnamed k.LeftBracket h refl
front_name (expressions.point o c h s few h2) r behind = unnamed k.LeftBracket h refl
front_name (expressions.this_proc t d n o c h h2 h3 h4 h5) r behind = unnamed k.KeywordTi h refl
front_name (expressions.num_procs t d n o c h h2 h3 h4 h5) r behind = unnamed k.KeywordTi h refl
front_name (expressions.select {l = l} d t s h h2) r behind = subst FrontName (sym (append_assoc l (d ∷ t ∷ []) r)) (front_name s (d ∷ t ∷ r) (dot_behind d (t ∷ r) h))
front_name (expressions.member {l = l} {m = m} d t o c s h h2 h3 q h4) r behind =
    subst FrontName (sym (append_assoc l (d ∷ t ∷ o ∷ (m ++ c ∷ [])) r)) (front_name s (d ∷ t ∷ o ∷ ((m ++ c ∷ []) ++ r)) (dot_behind d (t ∷ o ∷ ((m ++ c ∷ []) ++ r)) h))
front_name (expressions.index {l = l} {m = m} o c s h q few h2) r behind =
    subst FrontName (sym (append_assoc l (o ∷ (m ++ c ∷ [])) r)) (front_name s (o ∷ ((m ++ c ∷ []) ++ r)) (index_behind q o c r h))

pub front_starts : (a r : List Token) → starts_so a ≡ true → starts (kind (a ++ r)) ≡ true
front_starts [] r h = cc
front_starts (t ∷ a) r h = h

pub starts_change : {l : List Token} {x : Stm} → Changed l x → (r : List Token) → starts (kind (l ++ r)) ≡ true
starts_change (grammar.assign {m = m} t (grammar.start {l = a} s h) h2 right) r = ap (λ z. starts (kind z)) (append_assoc a (t ∷ m) r) ∙ front_starts a (t ∷ (m ++ r)) h
starts_change (grammar.update {m = m} t (grammar.start {l = a} s h) h2 right) r = ap (λ z. starts (kind z)) (append_assoc a (t ∷ m) r) ∙ front_starts a (t ∷ (m ++ r)) h
starts_change (grammar.step t (grammar.start {l = a} s h) h2) r = ap (λ z. starts (kind z)) (append_assoc a (t ∷ []) r) ∙ front_starts a (t ∷ r) h

and_then_pure : {A : Type 0} (o : ParseOutcome A) → and_then o (λ x i. Ok (x, i)) ≡ o
and_then_pure (Ok p) = refl
and_then_pure (Err e) = refl

-- where a list begins as a statement does that begins with an operand, the reader reads the operand and goes on
pub record StartsWith {B : Type 0} (limits : Limits) (p : Parser B) (more : Operand → Parser B) : Type 0 where
  pub goes_on : (i : List Token) → starts (kind i) ≡ true → FrontName i → p i ≡ and_then (operand_to limits i) more

-- where a type stands before a name, the reader reads the type and goes on
pub record DeclaresWith {B : Type 0} (fuel : ℕ) (p : Parser B) (more : TypeTree → Parser B) : Type 0 where
  pub goes_on : {l : List Token} {ty : TypeTree} {after_next : List ℕ} → Typed l ty → (r : List Token) → kind r ≡ k.Name after_next → length l < fuel → p (l ++ r) ≡ more ty r

module _ (limits : Limits) (allows : 0 < limits.weight) (fuel : ℕ) where
  -- ---- an operand, and what follows it

  operand_part : {ending : Ending} {l : List Token} {x : Exp} → Postfixed ending l x → (r : List Token) → EndsOperand (kind r) → IsRead limits fuel (operand_to limits) (weights l) l r (x, ending)
  operand_part {ending = ending} {l = l} {x = x} s r e = record {
    loaded = weights_loaded l;
    reads = λ lt. let small = binds_small (kind r) in operand_reads limits ending l r x s (record { operand = e.operand; call = λ _. e.call; operators = omega arith });
  }

  pub start_reads : {B : Type 0} {p : Parser B} {more : Operand → Parser B} {ending : Ending} {a b r : List Token} {lb : List Load}
      {x : Exp} {y : B} → StartsWith limits p more → Start ending a x → EndsOperand (kind (b ++ r))
      → IsRead limits fuel (more (x, ending)) lb b r y → IsRead limits fuel p (weights a ++ lb) (a ++ b) r y
  start_reads {more = more} {b = b} {r = r} begin (grammar.start {l = a} s h) e part =
      let same = append_assoc a b r in
      same_reads _ (begin.goes_on ((a ++ b) ++ r) (ap (λ z. starts (kind z)) same ∙ front_starts a (b ++ r) h) (subst FrontName (sym same) (front_name s (b ++ r) (ends_behind e))))
      (then_reads more (operand_part s (b ++ r) e) part)

  -- ---- changes

  changed_update : (target : Exp) (q : TokenKind) (op : BinaryOperator) (i : List Token) → update_of q ≡ Some op
      → spec.change_of_by (up_to limits) fuel target q i ≡ spec.update_if (up_to limits) fuel target (Some op) (step_of q) i
  changed_update target k.Assign op i h = cc
  changed_update target q op i h = ap (λ z. spec.update_if (up_to limits) fuel target z (step_of q) i) h

  changed_step : (target : Exp) (q : TokenKind) (op : StepOperator) (i : List Token) → step_of q ≡ Some op
      → spec.change_of_by (up_to limits) fuel target q i ≡ spec.update_if (up_to limits) fuel target None (Some op) i
  changed_step target k.PlusPlus op i h = ap (λ z. spec.update_if (up_to limits) fuel target None z i) h
  changed_step target k.MinusMinus op i h = ap (λ z. spec.update_if (up_to limits) fuel target None z i) h
  changed_step target _ op i h = absurd (none-some op h)

  assign_part : {m : List Token} {value : InitTree} (target : Exp) (t : Token) (r : List Token) → t.kind ≡ k.Assign → (s : Initial m value) → EndsRight (kind r)
      → IsRead limits fuel (change_of (up_to limits) fuel (target, Target)) (Free ∷ initial_loads s) (t ∷ m) r (tree.Assign t.place target value)
  unfolding change_of
  assign_part target t r h s stop = by_kind (spec.change_of_by (up_to limits) fuel target) h (took (made_reads _ (initial_reads limits fuel s r stop) refl))

  update_part : {m : List Token} {x : Exp} (target : Exp) (t : Token) (op : BinaryOperator) (r : List Token) → update_of t.kind ≡ Some op → expressions.Whole 1 m x → EndsRight (kind r)
      → IsRead limits fuel (change_of (up_to limits) fuel (target, Target)) (Free ∷ weights m) (t ∷ m) r (tree.Update t.place op target x)
  unfolding change_of
  update_part {m = m} target t op r h s stop = same_reads (spec.update_if (up_to limits) fuel target (Some op) (step_of t.kind))
      (changed_update target t.kind op (t ∷ (m ++ r)) h) (took (made_reads _ (whole stop.closer s) refl))

  step_part : (target : Exp) (t : Token) (op : StepOperator) (r : List Token) → step_of t.kind ≡ Some op
      → IsRead limits fuel (change_of (up_to limits) fuel (target, Target)) (Free ∷ []) (t ∷ []) r (tree.Step t.place op target)
  unfolding change_of
  step_part target t op r h = same_reads (spec.update_if (up_to limits) fuel target None (Some op)) (changed_step target t.kind op (t ∷ r) h) (took done_reads)

  -- a change and what follows it, where behind its target a change is read on
  pub changed_reads : {B : Type 0} {p : Parser B} {more : Operand → Parser B} {l e r : List Token} {le : List Load} {x : Stm} {y : B} → StartsWith limits p more → (rest : Stm → Parser B)
      → ((target : Exp) (i : List Token) → more (target, Target) i ≡ and_then (change_of (up_to limits) fuel (target, Target) i) rest)
      → (s : Changed l x) → EndsRight (kind (e ++ r)) → IsRead limits fuel (rest x) le e r y → IsRead limits fuel p (changed_loads s ++ le) (l ++ e) r y
  changed_reads {e = e} {r = r} {le = le} begin rest goes_on (grammar.assign {l = a} {m = m} {target = target} t s h right) stop part =
      regroup_reads (weights a) (Free ∷ initial_loads right) le a (t ∷ m) e
      (start_reads begin s (assign_ends h) (same_reads _ (goes_on target _) (then_reads rest (assign_part target t (e ++ r) h right stop) part)))
  changed_reads {e = e} {r = r} {le = le} begin rest goes_on (grammar.update {l = a} {m = m} {target = target} t {op = op} s h x) stop part =
      regroup_reads (weights a) (Free ∷ weights m) le a (t ∷ m) e
      (start_reads begin s (update_ends t.kind op h) (same_reads _ (goes_on target _) (then_reads rest (update_part target t op (e ++ r) h x stop) part)))
  changed_reads {e = e} {r = r} {le = le} begin rest goes_on (grammar.step {l = a} {target = target} t {op = op} s h) stop part =
      regroup_reads (weights a) (Free ∷ []) le a (t ∷ []) e
      (start_reads begin s (step_ends t.kind op h) (same_reads _ (goes_on target _) (then_reads rest (step_part target t op (e ++ r) h) part)))

  change_starts : StartsWith limits (change (up_to limits) fuel) (change_of (up_to limits) fuel)
  unfolding change
  change_starts = record { goes_on = λ i h _. same_test (starts (kind i)) true _ _ i h }

  change_reads : {l : List Token} {x : Stm} (s : Changed l x) (r : List Token) → EndsRight (kind r) → IsRead limits fuel (change (up_to limits) fuel) (changed_loads s) l r x
  change_reads s r stop = last_reads (changed_reads change_starts (λ x i. Ok (x, i)) (λ target i. sym (and_then_pure _)) s stop done_reads)

  -- ---- declarations

  -- a declaration and what follows it
  pub declared_reads : {B : Type 0} {p : Parser B} {more : TypeTree → Parser B} {l e r : List Token} {le : List Load} {x : Stm} {y : B} → DeclaresWith fuel p more → (rest : Stm → Parser B)
      → ((ty : TypeTree) (i : List Token) → more ty i ≡ and_then (declared (up_to limits) fuel ty i) rest)
      → (s : Declared l x) → EndsRight (kind (e ++ r)) → IsRead limits fuel (rest x) le e r y → IsRead limits fuel p (declared_loads s ++ le) (l ++ e) r y
  declared_reads {more = more} {e = e} {r = r} {le = le} begin rest goes_on (grammar.declared {l = l} {m = m} {ty = ty} t a s ht ha right) stop part =
      regroup_reads (free l) (Free ∷ Free ∷ initial_loads right) le l (t ∷ a ∷ m) e
      (free_then l (more ty) (λ lt. begin.goes_on s _ ht lt) (same_reads _ (goes_on ty _) (then_reads rest (declared_part limits fuel ty t a (e ++ r) ht ha right stop) part)))

  -- a reader that goes on with what begins with a name, or else with a type
  pub declares_with : {B : Type 0} {p : Parser B} (more : TypeTree → Parser B)
      → ((t : Token) (ts r : List Token) (name : List ℕ) (ty : TypeTree) → t.kind ≡ k.Name name → name_start (up_to limits) fuel t.place name ts ≡ Ok (DeclaredType ty, r) → p (t ∷ ts) ≡ more ty r)
      → ((i : List Token) → begins_declaration (kind i) ≡ true → p i ≡ and_then (any_type (up_to limits) fuel i) more) → DeclaresWith fuel p more
  declares_with {p = p} more named reserved = record { goes_on = λ s r h lt. go s r h lt }
    where
      by_type : {l : List Token} {ty : TypeTree} {after_next : List ℕ} → Typed l ty → (r : List Token) → begins_declaration (kind (l ++ r)) ≡ true
          → kind r ≡ k.Name after_next → length l < fuel → p (l ++ r) ≡ more ty r
      by_type {l = l} s r word h lt = reserved (l ++ r) word ∙ then_ok more (typed_reads limits fuel s r (name_ends h) lt)

      go : {l : List Token} {ty : TypeTree} {after_next : List ℕ} → Typed l ty → (r : List Token) → kind r ≡ k.Name after_next → length l < fuel → p (l ++ r) ≡ more ty r
      go (types.field (types.field_type (types.int t h2) q g few)) r h lt = by_type (types.field (types.field_type (types.int t h2) q g few)) r (ap begins_declaration h2) h lt
      go (types.field (types.field_type (types.long t h2) q g few)) r h lt = by_type (types.field (types.field_type (types.long t h2) q g few)) r (ap begins_declaration h2) h lt
      go (types.field (types.field_type (types.boolean t h2) q g few)) r h lt = by_type (types.field (types.field_type (types.boolean t h2) q g few)) r (ap begins_declaration h2) h lt
      go (types.field (types.field_type (types.point t h2 n) q g few)) r h lt = by_type (types.field (types.field_type (types.point t h2 n) q g few)) r (ap begins_declaration h2) h lt
      go (types.field (types.field_type (types.rect_domain t h2 n) q g few)) r h lt = by_type (types.field (types.field_type (types.rect_domain t h2 n) q g few)) r (ap begins_declaration h2) h lt
      go (types.field (types.field_type {l = l} {m = m} (types.named t {name = name} h2) q g few)) r h lt =
          named t ((l ++ m) ++ r) r name _ h2 (begun_declares limits fuel q g few t.place name r h (omega (arith, lt)))
      go (types.wide (types.domain t h2 n q)) r h lt = by_type (types.wide (types.domain t h2 n q)) r (ap begins_declaration h2) h lt
      go (types.wide (types.shared_region t h2 q)) r h lt = by_type (types.wide (types.shared_region t h2 q)) r (ap begins_declaration h2) h lt

  -- ---- an operand that begins with a name

  begun_index : (t o : Token) (us : List Token) (name : List ℕ) → t.kind ≡ k.Name name → o.kind ≡ k.LeftBracket → is_dim_token (kind us) ≡ false
      → bracket_start (up_to limits) fuel t.place name o.place us ≡ and_then (operand_to limits (t ∷ o ∷ us)) (λ x i. Ok (PostfixStart x, i))
  unfolding bracket_start
  begun_index t o us name h h2 no_dim = same_test (is_dim_token (kind us)) false _ _ us no_dim ∙ ap (λ z. and_then z (λ x i. Ok (PostfixStart x, i))) (sym (behind_bracket_is limits allows t o us name h h2))

  begun_by_starts : (t : Token) (ts : List Token) (name : List ℕ) → t.kind ≡ k.Name name → (q : TokenKind) → kind ts ≡ q → is_name q ≡ false
      → qualifier_of q ≡ None → (next_is k.LeftBracket ts ≡ true → is_dim_token (kind (after_next ts)) ≡ false)
      → spec.name_start_by (up_to limits) fuel t.place name q ts ≡ and_then (operand_to limits (t ∷ ts)) (λ x i. Ok (PostfixStart x, i))
  begun_by_starts t ts name h (k.Name other) is no_name free no_dim = absurd (false≢true (sym no_name))
  begun_by_starts t [] name h k.LeftBracket is no_name free no_dim = cc
  begun_by_starts t (o ∷ us) name h k.LeftBracket is no_name free no_dim = begun_index t o us name h is (no_dim (ap (λ z. same_kind z k.LeftBracket) is))
  begun_by_starts t ts name h q is no_name free no_dim =
      ap (λ z. spec.name_start_if (up_to limits) fuel t.place name z ts) free ∙ ap (λ z. and_then z (λ x i. Ok (PostfixStart x, i))) (sym (behind_name_is limits t ts name h))

  begun_starts : (t : Token) (ts : List Token) (name : List ℕ) → t.kind ≡ k.Name name → BehindName ts
      → name_start (up_to limits) fuel t.place name ts ≡ and_then (operand_to limits (t ∷ ts)) (λ x i. Ok (PostfixStart x, i))
  unfolding name_start
  begun_starts t ts name h behind = begun_by_starts t ts name h (kind ts) refl behind.name behind.qualifier behind.dim

  pub named_starts : {B : Type 0} (t : Token) (ts : List Token) (name : List ℕ) (rest : NameStart → Parser B) → t.kind ≡ k.Name name
      → BehindName ts → and_then (name_start (up_to limits) fuel t.place name ts) rest
      ≡ and_then (operand_to limits (t ∷ ts)) (λ x. rest (PostfixStart x))
  named_starts t ts name rest h behind = ap (λ o. and_then o rest) (begun_starts t ts name h behind) ∙ and_then_assoc (operand_to limits (t ∷ ts)) (λ x i. Ok (PostfixStart x, i)) rest

  -- a reader that goes on with what begins with a name, or else with an operand
  pub starts_with : {B : Type 0} {p : Parser B} (more : Operand → Parser B)
      → ((t : Token) (ts : List Token) (name : List ℕ) → t.kind ≡ k.Name name → BehindName ts → p (t ∷ ts) ≡ and_then (operand_to limits (t ∷ ts)) more)
      → ((i : List Token) → is_name (kind i) ≡ false → starts (kind i) ≡ true → p i ≡ and_then (operand_to limits i) more) → StartsWith limits p more
  starts_with {p = p} more named other = record { goes_on = λ i h front. go i h front }
    where
      by_first : (t : Token) (ts : List Token) (q : TokenKind) → t.kind ≡ q → starts t.kind ≡ true → (is_name t.kind ≡ true → BehindName ts) → p (t ∷ ts) ≡ and_then (operand_to limits (t ∷ ts)) more
      by_first t ts (k.Name name) is h front = named t ts name is (front (ap is_name is))
      by_first t ts _ is h front = other (t ∷ ts) (ap is_name is) h

      go : (i : List Token) → starts (kind i) ≡ true → FrontName i → p i ≡ and_then (operand_to limits i) more
      go [] h front = cc
      go (t ∷ ts) h front = by_first t ts t.kind refl h front

  -- ---- what the head of a `for` begins with, and its update

  -- a statement, as it stands there
  abbrev some : Stm → Parser MaybeStm
  some x i = Ok (tree.SomeStm x, i)

  first_type : (q : TokenKind) (i : List Token) → begins_declaration q ≡ true → spec.first_by (up_to limits) fuel q i
      ≡ and_then (any_type (up_to limits) fuel i) (λ ty i. and_then (declared (up_to limits) fuel ty i) some)
  first_type k.KeywordInt i h = and_then_assoc (any_type (up_to limits) fuel i) (declared (up_to limits) fuel) some
  first_type k.KeywordLong i h = and_then_assoc (any_type (up_to limits) fuel i) (declared (up_to limits) fuel) some
  first_type k.KeywordBoolean i h = and_then_assoc (any_type (up_to limits) fuel i) (declared (up_to limits) fuel) some
  first_type k.KeywordPoint i h = and_then_assoc (any_type (up_to limits) fuel i) (declared (up_to limits) fuel) some
  first_type k.KeywordRectDomain i h = and_then_assoc (any_type (up_to limits) fuel i) (declared (up_to limits) fuel) some
  first_type k.KeywordDomain i h = and_then_assoc (any_type (up_to limits) fuel i) (declared (up_to limits) fuel) some
  first_type k.KeywordSharedRegion i h = and_then_assoc (any_type (up_to limits) fuel i) (declared (up_to limits) fuel) some
  first_type _ i h = absurd (false≢true h)

  first_declares : DeclaresWith fuel (first (up_to limits) fuel) (λ ty i. and_then (declared (up_to limits) fuel ty i) some)
  unfolding first
  first_declares =
      declares_with _ (λ t ts r name ty h is. ap (λ q. spec.first_by (up_to limits) fuel q (t ∷ ts)) h ∙ then_ok _ is) (λ i h. first_type (kind i) i h)

  first_operand : (q : TokenKind) (i : List Token) → is_name q ≡ false → starts q ≡ true → spec.first_by (up_to limits) fuel q i ≡ and_then (change (up_to limits) fuel i) some
  first_operand (k.Name name) i h h2 = absurd (false≢true (sym h))
  first_operand k.KeywordThis i h h2 = refl
  first_operand k.LeftParen i h h2 = refl
  first_operand _ i h h2 = absurd (false≢true h2)

  first_starts : StartsWith limits (first (up_to limits) fuel) (λ x i. and_then (change_of (up_to limits) fuel x i) some)
  unfolding first change
  first_starts =
      starts_with _ (λ t ts name h behind. ap (λ q. spec.first_by (up_to limits) fuel q (t ∷ ts)) h ∙ named_starts t ts name (λ x i. and_then (spec.first_of (up_to limits) fuel x i) some) h behind)
      (λ i h h2. first_operand (kind i) i h h2 ∙ ap (λ o. and_then o some) (same_test (starts (kind i)) true _ _ i h2) ∙ and_then_assoc (operand_to limits i) (change_of (up_to limits) fuel) some)

  pub first_reads : {l : List Token} {x : MaybeStm} (s : First l x) (r : List Token) → kind r ≡ k.Semicolon → EndsRight (kind r)
      → IsRead limits fuel (first (up_to limits) fuel) (first_loads s) l r x
  unfolding first
  first_reads grammar.none r h stop = by_kind (spec.first_by (up_to limits) fuel) h done_reads
  first_reads (grammar.declaration d) r h stop = last_reads (declared_reads first_declares some (λ ty i. refl) d stop done_reads)
  first_reads (grammar.change d) r h stop = last_reads (changed_reads first_starts some (λ target i. refl) d stop done_reads)

  not_paren : (q : TokenKind) → starts q ≡ true → same_kind q k.RightParen ≡ false
  not_paren k.RightParen h = cc
  not_paren _ h = refl

  pub update_reads : {l : List Token} {x : MaybeStm} (s : Update l x) (r : List Token) → kind r ≡ k.RightParen → EndsRight (kind r)
      → IsRead limits fuel (update (up_to limits) fuel) (update_loads s) l r x
  unfolding update
  update_reads grammar.none r h stop = sees_reads k.RightParen _ _ h done_reads
  update_reads (grammar.change {l = l} d) r h stop = test_reads (next_is k.RightParen) _ _ false (not_paren (kind (l ++ r)) (starts_change d r)) (made_reads _ (change_reads d r stop) refl)
