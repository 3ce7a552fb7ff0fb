-- If the parts of a statement are marked, so is the statement.
use Rattle.std.proofs.Common.{◌≡◌, ℕ, Bool, map, Option, Some, None, option_map, refl, ap, ap₂, sym, ◌∙◌}
use borrow.Enum.Known.{ValuesAt, at}
use borrow.Enum.Total.{values_d, values_d_at}
use Rattle.std.specs.declared.vec.Vec.{Vec}
use Rattle.std.specs.declared.boxed.Box.{Box}
use Rattle.std.specs.declared.alloc.Global.{Global}
use Rattle.ti_base.specs.declared.place.Place.{Place}
use Rattle.ti_syntax.specs.Trees.Views.{maybe_of}
use Rattle.ti_lang.specs.contracts.program.stmts.Stmt.{enum}
use Rattle.ti_lang.specs.declared.program.exprs.Expr.{Expr}
use Rattle.ti_lang.specs.declared.program.stmts.Stmt.{Stmt, Block, If, While, For, Foreach}
use Rattle.ti_lang.specs.Program.Expressions.{NumberedExp}
use Rattle.ti_lang.specs.Program.Statements.{NumberedStm, MaybeNumbered, NoStm, SomeStm, numbered_stms}
use Rattle.ti_lang.specs.Program.Statements as s
use Rattle.ti_lang.specs.Program.Views.{expression_of, statement_of}
use Rattle.ti_lang.proofs.Lemmas.{seen_numbered_block}
use Rattle.ti_single.specs.Mirrors.Maybe.{maybe_in}
use Rattle.ti_infer.specs.Marked.{marked_exp, marked_stm, marked_maybe}
use Rattle.ti_infer.proofs.Lists.{stms_of_map}

pub held_by : (k : ℕ) (v d : ValuesAt enum.parts k) (a : Stmt) → a ≡ at enum k v → values_d enum k d a ≡ v
held_by k v d a is = ap (values_d enum k d) is ∙ values_d_at enum k d v

-- an `if`, with what stands behind its `else`, if there is one
abbrev if_of : Place → NumberedExp → NumberedStm → MaybeNumbered → NumberedStm
if_of at c a NoStm = s.If at c a
if_of at c a (SomeStm b) = s.IfElse at c a b

pub if_seen : (at : Place) (c : Expr) (b : Box Stmt Global) (o : Option (Box Stmt Global)) → statement_of (If at c b o) ≡ if_of at (expression_of c) (statement_of b.value) (maybe_in o)
if_seen at c b None = refl
if_seen at c b (Some o) = refl

module _ (singles : ℕ → Bool) (declared : Place → Bool) where
  pub block_marked : (a : Stmt) (v w : Vec Stmt Global) → a ≡ Block v
      → map statement_of w.items ≡ map (marked_stm singles declared) (map statement_of v.items) → statement_of (Block w) ≡ marked_stm singles declared (statement_of a)
  block_marked a v w is h =
      seen_numbered_block (Block w) w refl ∙ ap s.Block (ap numbered_stms h ∙ stms_of_map singles declared _) ∙ sym (ap (marked_stm singles declared) (seen_numbered_block a v is))

  if_marked_of : (at : Place) (c : NumberedExp) (a : NumberedStm) (o : MaybeNumbered) → marked_stm singles declared (if_of at c a o)
      ≡ if_of at (marked_exp singles c) (marked_stm singles declared a) (marked_maybe singles declared o)
  if_marked_of at c a NoStm = refl
  if_marked_of at c a (SomeStm b) = refl

  pub if_marked : (a : Stmt) (at : Place) (c e : Expr) (b d : Box Stmt Global) (o p : Option (Box Stmt Global)) → a ≡ If at c b o → expression_of e ≡ marked_exp singles (expression_of c)
      → statement_of d.value ≡ marked_stm singles declared (statement_of b.value) → maybe_in p ≡ marked_maybe singles declared (maybe_in o)
      → statement_of (If at e d p) ≡ marked_stm singles declared (statement_of a)
  if_marked a at c e b d o p is f g h =
      if_seen at e d p ∙ ap₂ (λ x y. if_of at x y (maybe_in p)) f g ∙ ap (if_of at (marked_exp singles (expression_of c)) (marked_stm singles declared (statement_of b.value))) h
      ∙ sym (ap (λ z. marked_stm singles declared (statement_of z)) is ∙ ap (marked_stm singles declared) (if_seen at c b o) ∙ if_marked_of at (expression_of c) (statement_of b.value) (maybe_in o))

  pub while_marked : (a : Stmt) (at : Place) (c : Expr) (b : Box Stmt Global) (x : NumberedExp) (y : NumberedStm) → a ≡ While at c b → x ≡ marked_exp singles (expression_of c)
      → y ≡ marked_stm singles declared (statement_of b.value) → s.While at x y ≡ marked_stm singles declared (statement_of a)
  while_marked a at c b x y is f g = ap₂ (s.While at) f g ∙ sym (ap (λ z. marked_stm singles declared (statement_of z)) is)

  pub foreach_marked : (a : Stmt) (at : Place) (variable : ℕ) (c : Expr) (b : Box Stmt Global) (x : NumberedExp) (y : NumberedStm) → a
      ≡ Foreach at variable c b → x ≡ marked_exp singles (expression_of c)
      → y ≡ marked_stm singles declared (statement_of b.value) → s.Foreach at variable x y ≡ marked_stm singles declared (statement_of a)
  foreach_marked a at variable c b x y is f g = ap₂ (s.Foreach at variable) f g ∙ sym (ap (λ z. marked_stm singles declared (statement_of z)) is)

  for_seen : (at : Place) (o p : Option (Box Stmt Global)) (c : Option Expr) (b : Box Stmt Global) → statement_of (For at o c p b)
      ≡ s.For at (maybe_in o) (maybe_of expression_of c) (maybe_in p) (statement_of b.value)
  for_seen at None None c b = refl
  for_seen at None (Some p) c b = refl
  for_seen at (Some o) None c b = refl
  for_seen at (Some o) (Some p) c b = refl

  pub for_marked : (a : Stmt) (at : Place) (o p q r : Option (Box Stmt Global)) (c e : Option Expr) (b d : Box Stmt Global) → a ≡ For at o c p b
      → maybe_in q ≡ marked_maybe singles declared (maybe_in o) → maybe_of expression_of e ≡ option_map (marked_exp singles) (maybe_of expression_of c)
      → maybe_in r ≡ marked_maybe singles declared (maybe_in p) → statement_of d.value ≡ marked_stm singles declared (statement_of b.value)
      → statement_of (For at q e r d) ≡ marked_stm singles declared (statement_of a)
  for_marked a at o p q r c e b d is f g h k =
      for_seen at q r e d ∙ ap₂ (λ x y. s.For at x y (maybe_in r) (statement_of d.value)) f g
      ∙ ap₂ (s.For at (marked_maybe singles declared (maybe_in o)) (option_map (marked_exp singles) (maybe_of expression_of c))) h k
      ∙ sym (ap (λ z. marked_stm singles declared (statement_of z)) is ∙ ap (marked_stm singles declared) (for_seen at o p c b))
