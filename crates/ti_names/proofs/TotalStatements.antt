-- If no naming rule is broken in statements, the model is proved to resolve them as specified.
use Rattle.std.proofs.Common.{◌≡◌, ℕ, Bool, true, false, nat_le, List, [], ◌∷◌, ◌++◌, length, Option, Some, None, is_some, refl, ap, sym, ◌∙◌, arith}
use Rattle.std.proofs.lemmas.Bool.Decides.{nat_tests}
use Rattle.std.specs.Option.{unwrap_or}
use Rattle.ti_base.specs.declared.place.Place.{Place}
use Rattle.ti_syntax.specs.Trees.Expressions.{Exp, ranges_tree}
use Rattle.ti_syntax.specs.Trees.Statements.{DimsTree, InitTree, PrintTree, Stm, MaybeStm, Stms, stms}
use Rattle.ti_syntax.specs.Trees.Statements as s
use Rattle.ti_lang.specs.Program.Types.{VariableUse, Foreach}
use Rattle.ti_lang.specs.Members.{class_named}
use Rattle.ti_lang.specs.Scopes.{Site, declares, past, past_maybe, site_after, behind_maybe, variable_named, most_variables, IsFresh, HasRoom}
use Rattle.ti_lang.specs.Nodes.{type_nodes, exp_nodes, maybe_nodes, dims_nodes, init_nodes, print_nodes, stm_nodes, maybe_stm_nodes, stms_nodes, node, VariableName}
use Rattle.ti_lang.specs.Numbering.{NumbersDims, NumbersInit, NumbersPrint, NumbersStm, NumbersMaybeStm, NumbersStms}
use Rattle.ti_rules.specs.declared.rule.Rule.TheVariants.{N2, N4}
use Rattle.ti_rules.specs.declared.refusal.Refusal.{Refusal}
use Rattle.ti_rules.specs.Refusals.{refused_if}
use Rattle.ti_names.specs.Mirrors.Numbered.{number_dims, number_init, number_print, number_stm, number_maybe_stm, number_stms}
use Rattle.ti_names.proofs.CleanNodes.{Clean, first_clean, rest_clean, clean_left, clean_right}
use Rattle.ti_names.proofs.Lists.{number_ranges_list}
use Rattle.ti_names.proofs.Total.{known_class, total_type, total_exp, total_ranges, total_maybe}

-- ---- right sides and prints

total_dims : (site : Site) (dims : DimsTree) → Clean (dims_nodes site dims) → NumbersDims site dims (number_dims site dims)
total_dims site (s.Domain x) c = NumbersDims.domain (total_exp site x c)
total_dims site (s.Ranges rs) c = NumbersDims.ranges (rw (← number_ranges_list site rs) (total_ranges site (ranges_tree rs) c))

total_object : (site : Site) (at name_at : Place) (region : Option Exp) (name : List ℕ) → Clean (maybe_nodes site region) → (class : ℕ) × (class_named site.text name ≡ Some class)
    → NumbersInit site (s.NewObject at region name_at name) (number_init site (s.NewObject at region name_at name))
total_object site at name_at region name c class =
    let is : Some class.0 ≡ Some (unwrap_or (class_named site.text name) 0) = sym (ap (λ o. Some (unwrap_or o 0)) class.1) in
    NumbersInit.new_object (total_maybe site region c) (class.1 ∙ is)

pub total_init : (site : Site) (value : InitTree) → Clean (init_nodes site value) → NumbersInit site value (number_init site value)
total_init site (s.Value x) c = NumbersInit.value (total_exp site x c)
total_init site (s.NewRegion at) c = NumbersInit.new_region
total_init site (s.NewObject at region name_at name) c =
    let class = first_clean (clean_right (maybe_nodes site region) _ c) in
    total_object site at name_at region name (clean_left (maybe_nodes site region) _ c) (known_class site.text name_at name (class_named site.text name) refl class)
total_init site (s.NewGrid at region element dims_at dims) c =
    let both = clean_left (maybe_nodes site region ++ type_nodes site element) _ c in
    NumbersInit.new_grid (total_maybe site region (clean_left (maybe_nodes site region) _ both)) (total_type site element (clean_right (maybe_nodes site region) _ both))
    (total_dims site dims (clean_right (maybe_nodes site region ++ type_nodes site element) _ c))
total_init site (s.Broadcast at x root) c = NumbersInit.broadcast (total_exp site x (clean_left (exp_nodes site x) _ c)) (total_exp site root (clean_right (exp_nodes site x) _ c))

total_print : (site : Site) (what : PrintTree) → Clean (print_nodes site what) → NumbersPrint site what (number_print site what)
total_print site s.Nothing c = NumbersPrint.nothing
total_print site (s.Text text) c = NumbersPrint.text
total_print site (s.Expression x) c = NumbersPrint.expression (total_exp site x c)
total_print site (s.TextAndExpression text x) c = NumbersPrint.text_and_expression (total_exp site x c)

-- ---- declarations

fresh : (v : Option VariableUse) (at : Place) (rest : List Refusal) → refused_if (is_some v) N2 at ++ rest ≡ [] → v ≡ None
fresh None at rest none = refl
fresh (Some v) at rest none = cc

room : (site : Site) (at : Place) (first : List Refusal) → first ++ refused_if (nat_le most_variables (length site.scope)) N4 at ≡ [] → HasRoom site
room site at [] none = by (nat_le most_variables (length site.scope)) refl none
  where
    by : (b : Bool) → nat_le most_variables (length site.scope) ≡ b → refused_if b N4 at ≡ [] → HasRoom site
    by true is none = cc
    by false is none = grind (arith, nat_tests, is)
room site at (f ∷ rest) none = cc

pub fresh_variable : (site : Site) (at : Place) (name : List ℕ) → Clean (node site (VariableName at name) ∷ []) → IsFresh site name
fresh_variable site at name c = fresh (variable_named site name) at (refused_if (nat_le most_variables (length site.scope)) N4 at) (first_clean c)

pub room_for_variable : (site : Site) (at : Place) (name : List ℕ) → Clean (node site (VariableName at name) ∷ []) → HasRoom site
room_for_variable site at name c = room site at (refused_if (is_some (variable_named site name)) N2 at) (first_clean c)

-- ---- statements

mutual
  pub total_stm : (site : Site) (x : Stm) → Clean (stm_nodes site x) → NumbersStm site x (number_stm site x)
  total_stm site s.Empty c = NumbersStm.empty
  total_stm site (s.Declare at ty name value) c =
      let head = type_nodes site ty ++ node site (VariableName at name) ∷ [] in
      let both = clean_left head _ c in
      let variable = clean_right (type_nodes site ty) _ both in
      NumbersStm.declare (total_type site ty (clean_left (type_nodes site ty) _ both)) (fresh_variable site at name variable) (room_for_variable site at name variable)
      (total_init site value (clean_right head _ c))
  total_stm site (s.Assign at target value) c = NumbersStm.assign (total_exp site target (clean_left (exp_nodes site target) _ c)) (total_init site value (clean_right (exp_nodes site target) _ c))
  total_stm site (s.Update at op target x) c = NumbersStm.update (total_exp site target (clean_left (exp_nodes site target) _ c)) (total_exp site x (clean_right (exp_nodes site target) _ c))
  total_stm site (s.Step at op target) c = NumbersStm.step (total_exp site target c)
  total_stm site (s.Call x) c = NumbersStm.call (total_exp site x c)
  total_stm site (s.Print at what) c = NumbersStm.print (total_print site what c)
  total_stm site (s.Barrier at) c = NumbersStm.barrier
  total_stm site (s.Break at) c = NumbersStm.break
  total_stm site (s.Continue at) c = NumbersStm.continue
  total_stm site (s.Return at value) c = NumbersStm.return (total_maybe site value c)
  total_stm site (s.Block body) c = NumbersStm.block (total_stms site body c)
  total_stm site (s.If at d x) c = NumbersStm.if_alone (total_exp site d (clean_left (exp_nodes site d) _ c)) (total_stm site x (clean_right (exp_nodes site d) _ c))
  total_stm site (s.IfElse at d x y) c =
      let head = exp_nodes site d ++ stm_nodes site x in
      let both = clean_left head _ c in
      NumbersStm.if_else (total_exp site d (clean_left (exp_nodes site d) _ both)) (total_stm site x (clean_right (exp_nodes site d) _ both)) (total_stm (past site x) y (clean_right head _ c))
  total_stm site (s.While at d body) c = NumbersStm.while (total_exp site d (clean_left (exp_nodes site d) _ c)) (total_stm site body (clean_right (exp_nodes site d) _ c))
  total_stm site (s.For at first d update body) c =
      let inside = behind_maybe site first in
      let two = maybe_stm_nodes site first ++ maybe_nodes inside d in
      let three = two ++ maybe_stm_nodes inside update in
      let both = clean_left two _ (clean_left three _ c) in
      NumbersStm.for (total_maybe_stm site first (clean_left (maybe_stm_nodes site first) _ both)) (total_maybe inside d (clean_right (maybe_stm_nodes site first) _ both))
      (total_maybe_stm inside update (clean_right two _ (clean_left three _ c))) (total_stm (past_maybe inside update) body (clean_right three _ c))
  total_stm site (s.Foreach at name_at name domain body) c =
      let head = node site (VariableName name_at name) ∷ exp_nodes site domain in
      let both = clean_left head _ c in
      NumbersStm.foreach (fresh_variable site name_at name (Clean.more_nodes (first_clean both) Clean.no_nodes))
      (room_for_variable site name_at name (Clean.more_nodes (first_clean both) Clean.no_nodes))
      (total_exp site domain (rest_clean both))
      (total_stm (declares site name Foreach) body (clean_right head _ c))

  pub total_maybe_stm : (site : Site) (x : MaybeStm) → Clean (maybe_stm_nodes site x) → NumbersMaybeStm site x (number_maybe_stm site x)
  total_maybe_stm site s.NoStm c = NumbersMaybeStm.no_stm
  total_maybe_stm site (s.SomeStm x) c = NumbersMaybeStm.some_stm (total_stm site x c)

  pub total_stms : (site : Site) (xs : Stms) → Clean (stms_nodes site xs) → NumbersStms site xs (number_stms site xs)
  total_stms site s.Nil c = NumbersStms.nil
  total_stms site (s.Cons x rest) c = NumbersStms.cons (total_stm site x (clean_left (stm_nodes site x) _ c)) (total_stms (site_after site x) rest (clean_right (stm_nodes site x) _ c))
