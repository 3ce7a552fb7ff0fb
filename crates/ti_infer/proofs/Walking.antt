-- The constraints of the statements in a statement, appended one after the other.
use Rattle.std.proofs.Common.{◌≡◌, ℕ, ◌+◌, ◌<◌, List, ◌∷◌, ◌++◌, flat_map, drop, length, get_or, slice_get, Option, Some, None, Result, OnOk, refl, ap, ap₂, sym, ◌∙◌, append_assoc, length-append}
use Rattle.std.proofs.lemmas.Result.{on_ok_weaker}
use Rattle.std.proofs.lemmas.Option.{slice_get-get_or}
use Rattle.std.specs.declared.boxed.Box.{Box}
use Rattle.std.specs.declared.alloc.Global.{Global}
use Rattle.ti_base.specs.declared.place.Place.{Place}
use Rattle.ti_syntax.specs.Trees.Views.{maybe_of}
use Rattle.ti_lang.specs.declared.program.exprs.Expr.{Expr}
use Rattle.ti_lang.specs.declared.program.stmts.Stmt.{Stmt}
use Rattle.ti_lang.specs.declared.program.stmts.Stmt.TheVariants.{For}
use Rattle.ti_lang.specs.Program.Expressions.{NumberedExp}
use Rattle.ti_lang.specs.Program.Statements.{NumberedStm, MaybeNumbered}
use Rattle.ti_lang.specs.Program.Statements as st
use Rattle.ti_lang.specs.Program.Classes.{NumberedMethod, ProgramView}
use Rattle.ti_lang.specs.Program.Scope.{ScopeVariable, this_of}
use Rattle.ti_lang.specs.Program.Views.{expression_of, statement_of}
use Rattle.ti_lang.specs.Typing.Effects.{doings_of_maybe}
use Rattle.ti_single.specs.Mirrors.Maybe.{maybe_in}
use Rattle.ti_blame.specs.declared.reason.Reason.{Reason}
use Rattle.ti_blame.specs.declared.mark.Mark.{Mark}
use Rattle.ti_blame.specs.declared.implication.Conclusion.{Conclusion}
use Rattle.ti_blame.specs.declared.implication.Implication.{Implication}
use Rattle.ti_infer.specs.declared.constraints.site.StmtSite.{StmtSite}
use Rattle.ti_infer.specs.Reason.{reasons_of_maybe, return_reasons}
use Rattle.ti_infer.specs.Mirrors.Implications.{each, condition_edges, loop_targets, inside_foreach, variables_foreach, method_edges, methods_edges}
use Rattle.ti_infer.specs.Mirrors.Sites.{program_at, method_of_site, inside_of, dependencies_at}
use Rattle.ti_infer.specs.Mirrors.StmtSites.{variables_at, edges_with, edges_around, maybe_around, always_if}
use Rattle.ti_infer.proofs.Pushing.{drop_next}

pub for_is : (at : Place) (first : Option (Box Stmt Global)) (c : Option Expr) (update : Option (Box Stmt Global)) (body : Box Stmt Global)
    → statement_of (For at first c update body) ≡ st.For at (maybe_in first) (maybe_of expression_of c) (maybe_in update) (statement_of body.value)
for_is at None c None body = refl
for_is at None c (Some update) body = refl
for_is at (Some first) c None body = refl
for_is at (Some first) c (Some update) body = refl

pub pushed_four : {A : Type 0} (out one two three new a b d e : List A) → one ≡ out ++ a → two ≡ one ++ b → three ≡ two ++ d → new ≡ three ++ e → new ≡ out ++ (a ++ (b ++ (d ++ e)))
pushed_four out one two three new a b d e f g h k =
    k ∙ ap (λ z. z ++ e) (h ∙ ap (λ z. z ++ d) (g ∙ ap (λ z. z ++ b) f)) ∙ append_assoc ((out ++ a) ++ b) d e ∙ append_assoc (out ++ a) b (d ++ e) ∙ append_assoc out a (b ++ (d ++ e))

-- what falls by itself, and what falls inside
inner_walked : {V I R E : Type 0} (r : Result R E) (own_edges : List Conclusion → List Implication) (inside : V → I → ℕ → List Conclusion → NumberedStm
    → List Implication) (i : ℕ) (w v t : List Conclusion) (b body : NumberedStm) (vs vs' : V) (ins ins' : I)
    (around : ℕ → List Conclusion → NumberedStm → List Implication) (out own new : List Implication)
    → b ≡ body → w ≡ t → v ≡ t → vs ≡ vs' → ins ≡ ins' → around ≡ inside vs ins → own ≡ out ++ own_edges w
    → OnOk r (new ≡ own ++ around i v b) → OnOk r (new ≡ out ++ (own_edges t ++ inside vs' ins' i t body))
inner_walked r own_edges inside i w v t b body vs vs' ins ins' around out own new is_body is_w is_v is_vs is_ins is_around f k =
    let told : around i v b ≡ inside vs' ins' i t body =
    ap (λ (g : ℕ → List Conclusion → NumberedStm → List Implication). g i v b) (is_around ∙ ap₂ inside is_vs is_ins) ∙ ap₂ (inside vs' ins' i) is_v is_body in
    let step : new ≡ own ++ around i v b → new ≡ out ++ (own_edges t ++ inside vs' ins' i t body) =
    λ z. z ∙ ap (λ l. l ++ around i v b) f ∙ append_assoc out (own_edges w) (around i v b) ∙ ap (λ l. out ++ l) (ap₂ (λ s l. s ++ l) (ap own_edges is_w) told) in
    on_ok_weaker r step k

-- what falls with a method that isn't single, and what falls in it
pub method_walked : {R E : Type 0} (r : Result R E) (own_edges : Conclusion → List Implication) (inside : Conclusion → ℕ → List Implication) (w w' : Conclusion) (n n' : ℕ) (out own new : List Implication)
    → w ≡ w' → n ≡ n' → own ≡ out ++ own_edges w → OnOk r (new ≡ own ++ inside w n) → OnOk r (new ≡ out ++ (own_edges w' ++ inside w' n'))
method_walked r own_edges inside w w' n n' out own new is_w is_n f k =
    let step : new ≡ own ++ inside w n → new ≡ out ++ (own_edges w' ++ inside w' n') =
    λ z. z ∙ ap (λ l. l ++ inside w n) f ∙ append_assoc out (own_edges w) (inside w n) ∙ ap (λ l. out ++ l) (ap₂ (λ s l. s ++ l) (ap own_edges is_w) (ap₂ inside is_w is_n)) in
    on_ok_weaker r step k

module _ (a : StmtSite) (i : ℕ) (jump : List Conclusion) (at : Place) where
  -- a `for`
  pub for_walked : {R E : Type 0} (r : Result R E) (second third : ℕ) (w v : List Conclusion) (first update : MaybeNumbered) (c : Option NumberedExp) (b body : NumberedStm) (out own one two new : List Implication)
      → second ≡ i + length (reasons_of_maybe (program_at a.site) (method_of_site a.site) first) → third ≡ second + length (reasons_of_maybe (program_at a.site) (method_of_site a.site) update) → b ≡ body
      → w ≡ loop_targets (program_at a.site) (method_of_site a.site) a.whole second update b → v ≡ loop_targets (program_at a.site) (method_of_site a.site) a.whole second update b
      → own ≡ out ++ (condition_edges (program_at a.site) (method_of_site a.site) a.whole (inside_of a.inside.now) c w
      ++ always_if (doings_of_maybe (program_at a.site) (this_of (method_of_site a.site)) update).jumps)
      → one ≡ own ++ maybe_around a i jump first → two ≡ one ++ maybe_around a second jump update → OnOk r (new ≡ two ++ edges_around a third v b)
      → OnOk r (new ≡ out ++ edges_around a i jump (st.For at first c update body))
  for_walked r second third w v first update c b body out own one two new is_second is_third is_body is_w is_v f g h k =
      let p = program_at a.site in
      let m = method_of_site a.site in
      let start = i + length (reasons_of_maybe p m first) in
      let behind = start + length (reasons_of_maybe p m update) in
      let targets : ℕ → NumberedStm → List Conclusion = λ n x. loop_targets p m a.whole n update x in
      let told : targets second b ≡ targets start body = ap₂ targets is_second is_body in
      let always = always_if (doings_of_maybe p (this_of m) update).jumps in
      let condition : List Conclusion → List Implication = λ u. condition_edges p m a.whole (inside_of a.inside.now) c u ++ always in
      let inner : edges_around a third v b ≡ edges_around a behind (targets start body) body =
      ap₂ (λ n u. edges_around a n u b) (is_third ∙ ap (λ n. n + length (reasons_of_maybe p m update)) is_second) (is_v ∙ told) ∙ ap (edges_around a behind (targets start body)) is_body in
      on_ok_weaker r (λ z. pushed_four out own one two new (condition w) (maybe_around a i jump first) (maybe_around a second jump update) (edges_around a third v b) f g h z
      ∙ ap (λ l. out ++ l) (ap₂ (λ s l. s ++ (maybe_around a i jump first ++ l)) (ap condition (is_w ∙ told)) (ap₂ (λ s l. s ++ l) (ap (λ n. maybe_around a n jump update) is_second) inner))) k

  -- a foreach
  pub foreach_walked : {R E : Type 0} (r : Result R E) (variable : ℕ) (w v : List Conclusion) (domain : NumberedExp) (b body : NumberedStm) (vs : List ScopeVariable) (ins : List (ℕ × List (Option Mark)))
      (around : ℕ → List Conclusion → NumberedStm → List Implication) (out own new : List Implication)
      → b ≡ body → w ≡ loop_targets (program_at a.site) (method_of_site a.site) a.whole i st.NoStm b → v ≡ loop_targets (program_at a.site) (method_of_site a.site) a.whole i st.NoStm b
      → vs ≡ variables_foreach (program_at a.site) (method_of_site a.site) a.whole (variables_at a) variable domain
      → ins ≡ inside_foreach (program_at a.site) (method_of_site a.site) a.whole (variables_at a) (inside_of a.inside.now) variable domain
      → around ≡ edges_with a.site a.whole vs ins
      → own ≡ out ++ each (dependencies_at a.site a.inside.now domain) w → OnOk r (new ≡ own ++ around i v b)
      → OnOk r (new ≡ out ++ edges_around a i jump (st.Foreach at variable domain body))
  foreach_walked r variable w v domain b body vs ins around out own new is_body is_w is_v is_vs is_ins is_around f k =
      let targets : NumberedStm → List Conclusion = λ x. loop_targets (program_at a.site) (method_of_site a.site) a.whole i st.NoStm x in
      inner_walked r (each (dependencies_at a.site a.inside.now domain)) (edges_with a.site a.whole) i w v (targets body) b body vs
      (variables_foreach (program_at a.site) (method_of_site a.site) a.whole (variables_at a) variable domain) ins
      (inside_foreach (program_at a.site) (method_of_site a.site) a.whole (variables_at a) (inside_of a.inside.now) variable domain) around out
      own new is_body (is_w ∙ ap targets is_body) (is_v ∙ ap targets is_body) is_vs is_ins is_around f k

-- ---- methods

pub method_next : (ms : List NumberedMethod) (i : ℕ) (m : NumberedMethod) → i < length ms → slice_get ms i ≡ Some m → drop i ms ≡ m ∷ drop (i + 1) ms
method_next ms i m less here = drop_next ms i m less (sym same)
  where
    same : get_or ms i m ≡ m
    same = cc (sym (slice_get-get_or ms i m less) ∙ here)

-- one method more
module _ (p : ProgramView) (ms : List NumberedMethod) (i : ℕ) (m : NumberedMethod) (less : i < length ms) (here : slice_get ms i ≡ Some m) where
  pub reasons_step : (old new all : List Reason) → new ≡ old ++ return_reasons p m → old ++ flat_map (return_reasons p) (drop i ms) ≡ all → new ++ flat_map (return_reasons p) (drop (i + 1) ms) ≡ all
  reasons_step old new all f g =
      ap (λ l. l ++ flat_map (return_reasons p) (drop (i + 1) ms)) f ∙ append_assoc old (return_reasons p m) (flat_map (return_reasons p) (drop (i + 1) ms))
      ∙ ap (λ l. old ++ flat_map (return_reasons p) l) (sym (method_next ms i m less here)) ∙ g

  pub edges_step : (items more : List Reason) (old new all : List Implication) → more ≡ items ++ return_reasons p m → new ≡ old
      ++ method_edges p m (length items) → old ++ methods_edges p (drop i ms) (length items) ≡ all
      → new ++ methods_edges p (drop (i + 1) ms) (length more) ≡ all
  edges_step items more old new all e f g =
      ap₂ (λ l n. l ++ methods_edges p (drop (i + 1) ms) n) f (ap length e ∙ length-append items (return_reasons p m))
      ∙ append_assoc old (method_edges p m (length items)) (methods_edges p (drop (i + 1) ms) (length items + length (return_reasons p m)))
      ∙ ap (λ l. old ++ methods_edges p l (length items)) (sym (method_next ms i m less here)) ∙ g
