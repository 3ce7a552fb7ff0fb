-- The errors of a program by the rules of types and qualifiers are at its positions.
use Rattle.std.proofs.Common.{Bool, true, false, not, [], Option, Some, None, is_some, is_none}
use Rattle.ti_base.specs.declared.place.Place.{Place}
use Rattle.ti_syntax.specs.declared.tree.exprs.BinaryOperator.{BinaryOperator}
use Rattle.ti_lang.specs.Program.Types.{ValueType, Int}
use Rattle.ti_lang.specs.Program.Expressions.{NumberedExp, place_of_numbered}
use Rattle.ti_lang.specs.Program.Statements.{NumberedPrint, NumberedStm, MaybeNumbered}
use Rattle.ti_lang.specs.Program.Statements.{NumberedStms, numbered_stms}
use Rattle.ti_lang.specs.Program.Statements as st
use Rattle.ti_lang.specs.Program.Classes.{NumberedField, NumberedClass, NumberedParam}
use Rattle.ti_lang.specs.Program.Classes.{NumberedParams, NumberedResult, NumberedMethod}
use Rattle.ti_lang.specs.Program.Classes.{ProgramView}
use Rattle.ti_lang.specs.Program.Classes as c
use Rattle.ti_lang.specs.Program.Scope.{ScopeContents}
use Rattle.ti_lang.specs.Typing.Kinds.{is_void, domain_dim}
use Rattle.ti_lang.specs.Typing.Declared.{is_static_method, result_type}
use Rattle.ti_lang.specs.Typing.Expressions.{operand_type}
use Rattle.ti_rules.specs.declared.rule.Rule.TheVariants.{Y3, Y6, Y8}
use Rattle.ti_rules.specs.InitialTypes.{right_side_type, initial_type}
use Rattle.ti_rules.specs.Broken.Refused.{misfit}
use Rattle.ti_rules.specs.StmtInContext.{StmtContext, scope_of, StmtInContext, in_loop, in_foreach}
use Rattle.ti_rules.specs.StmtInContext.{inside, inside_maybe, inside_all, around_method}
use Rattle.ti_rules.specs.StmtInContext.{standing_in_method}
use Rattle.ti_rules.specs.Broken.Statements.{is_boolean, is_printed}
use Rattle.ti_rules.specs.Broken.Statements.{result_refusals as given_refusals}
use Rattle.ti_rules.specs.Broken.Statements.{update_refusals, operator_of, condition_refusals}
use Rattle.ti_rules.specs.Broken.Statements.{maybe_condition_refusals}
use Rattle.ti_rules.specs.Broken.Statements.{printed_refusals, print_refusals, given_back}
use Rattle.ti_rules.specs.Broken.Statements.{return_refusals, statement_refusals, standing_refusals}
use Rattle.ti_rules.specs.Broken.Words.{field_modifier_refusals, method_modifier_refusals}
use Rattle.ti_rules.specs.Broken.Words.{type_word_refusals}
use Rattle.ti_rules.specs.TypeRules.{field_refusals, class_refusals, result_refusals}
use Rattle.ti_rules.specs.TypeRules.{params_refusals, head_refusals, method_refusals}
use Rattle.ti_rules.specs.TypeRules.{type_refusals}
use Rattle.ti_diagnostics.proofs.Places.Elements.{HoldsOfEach, nil, cons, both, each_of, either}
use Rattle.ti_diagnostics.proofs.Places.Programs.{ExpPlaced, OptionPlaced, PrintPlaced, StmPlaced}
use Rattle.ti_diagnostics.proofs.Places.Programs.{MaybePlaced, StmsPlaced}
use Rattle.ti_diagnostics.proofs.Places.Programs.{FieldPlaced, ClassPlaced, ParamsPlaced}
use Rattle.ti_diagnostics.proofs.Places.Programs.{ResultPlaced, MethodPlaced, ProgramPlaced}
use Rattle.ti_diagnostics.proofs.Places.Programs.{place_placed}
use Rattle.ti_diagnostics.proofs.Places.Refused.{RefusalsPlaced, refused, operand_placed}
use Rattle.ti_diagnostics.proofs.Places.Refused.{misfit_placed, judged_placed, both_judged_placed}
use Rattle.ti_diagnostics.proofs.Places.Refused.{repeated_modifiers_placed, type_placed}
use Rattle.ti_diagnostics.proofs.Places.Expressions.{exp_placed, inner_placed, value_placed}
use Rattle.ti_diagnostics.proofs.Places.Expressions.{initial_placed, write_placed}

-- each position of the statement satisfies the predicate
abbrev pub StandingPlaced : (Place → Type 0) → StmtInContext → Type 0
StandingPlaced P x = StmPlaced P x.statement

module _ (P : Place → Type 0) where
  -- ---- nested statements

  mutual
    inside_placed : (p : ProgramView) (around : StmtContext) (x : NumberedStm) → StmPlaced P x
        → HoldsOfEach (StandingPlaced P) (inside p around x)
    inside_placed p around (st.Block body) h = cons h (inside_all_placed p around body h)
    inside_placed p around (st.If at c a) h = cons h (inside_placed p around a h.2)
    inside_placed p around (st.IfElse at c a b) h =
        cons h (both (inside_placed p around a h.2) (inside_placed p around b h.3))
    inside_placed p around (st.While at c body) h =
        cons h (inside_placed p (in_loop p around st.NoStm body) body h.2)
    inside_placed p around (st.For at first c update body) h =
        cons h (both (inside_maybe_placed p around first h.1)
        (both (inside_maybe_placed p around update h.3)
        (inside_placed p (in_loop p around update body) body h.4)))
    inside_placed p around (st.Foreach at number domain body) h =
        cons h (inside_placed p (in_foreach p around number domain body) body h.2)
    inside_placed p around x h = cons h nil

    inside_maybe_placed : (p : ProgramView) (around : StmtContext) (x : MaybeNumbered)
        → MaybePlaced P x → HoldsOfEach (StandingPlaced P) (inside_maybe p around x)
    inside_maybe_placed p around st.NoStm h = nil
    inside_maybe_placed p around (st.SomeStm x) h = inside_placed p around x h

    inside_all_placed : (p : ProgramView) (around : StmtContext) (xs : NumberedStms)
        → StmsPlaced P xs → HoldsOfEach (StandingPlaced P) (inside_all p around xs)
    inside_all_placed p around st.Nil h = nil
    inside_all_placed p around (st.Cons x rest) h =
        both (inside_placed p around x h.0) (inside_all_placed p around rest h.1)

  pub standing_placed : (p : ProgramView) (m : NumberedMethod) → MethodPlaced P m
      → HoldsOfEach (StandingPlaced P) (standing_in_method p m)
  standing_placed p m h = inside_all_placed p (around_method m) (numbered_stms m.body) h.4

  -- ---- statements

  given_placed : (at : Place) (r t : ValueType) → P at → RefusalsPlaced P (given_refusals at r t)
  given_placed at r t h = either _ nil (misfit_placed P at r t h)

  update_placed : (at : Place) (op : BinaryOperator) (t u : ValueType) → P at
      → RefusalsPlaced P (update_refusals at op t u)
  update_placed at op t u h =
      both (operand_placed P at _ _ h) (judged_placed P _ _ (λ r. given_placed at r t h))

  condition_placed : (p : ProgramView) (s : ScopeContents) (a : NumberedExp) → ExpPlaced P a
      → RefusalsPlaced P (condition_refusals p s a)
  condition_placed p s a h =
      both (inner_placed P p s a h)
      (judged_placed P (operand_type p s a) _
      (λ t. refused P (not (is_boolean t)) Y3 (place_of_numbered a) (place_placed P a h)))

  maybe_condition_placed : (p : ProgramView) (s : ScopeContents) (a : Option NumberedExp)
      → OptionPlaced P a → RefusalsPlaced P (maybe_condition_refusals p s a)
  maybe_condition_placed p s None h = nil
  maybe_condition_placed p s (Some a) h = condition_placed p s a h

  printed_placed : (p : ProgramView) (s : ScopeContents) (at : Place) (a : NumberedExp) → P at
      → ExpPlaced P a → RefusalsPlaced P (printed_refusals p s at a)
  printed_placed p s at a h i =
      both (inner_placed P p s a i) (judged_placed P (operand_type p s a) _
      (λ t. operand_placed P at (is_printed t) false h))

  print_placed : (p : ProgramView) (s : ScopeContents) (at : Place) (w : NumberedPrint) → P at
      → PrintPlaced P w → RefusalsPlaced P (print_refusals p s at w)
  print_placed p s at st.Nothing h i = nil
  print_placed p s at (st.Text literal) h i = nil
  print_placed p s at (st.Expression a) h i = printed_placed p s at a h i
  print_placed p s at (st.TextAndExpression literal a) h i = printed_placed p s at a h i

  given_back_placed : (at : Place) (result t : ValueType) → P at
      → RefusalsPlaced P (given_back at result t)
  given_back_placed at result t h = either _ (cons h nil) (misfit_placed P at t result h)

  return_placed : (p : ProgramView) (s : ScopeContents) (at : Place) (result : ValueType)
      (a : Option NumberedExp)
      → P at → OptionPlaced P a
      → RefusalsPlaced P (return_refusals p s at result a)
  return_placed p s at result None h i = refused P (not (is_void result)) Y6 at h
  return_placed p s at result (Some a) h i =
      both (inner_placed P p s a i)
      (judged_placed P (operand_type p s a) _ (λ t. given_back_placed at result t h))

  statement_placed : (p : ProgramView) (around : StmtContext) (x : NumberedStm) → StmPlaced P x
      → RefusalsPlaced P (statement_refusals p around x)
  statement_placed p around (st.Declare at type variable value) h =
      both (both (type_placed P true type h.1) (initial_placed P p (scope_of around) value h.2))
      (judged_placed P (initial_type p (scope_of around) value) _
      (λ t. misfit_placed P at t type.type h.0))
  statement_placed p around (st.Assign at target value) h =
      both (both (exp_placed P p (scope_of around) target h.1)
      (initial_placed P p (scope_of around) value h.2))
      (both_judged_placed P (operand_type p (scope_of around) target)
      (initial_type p (scope_of around) value) _
      (λ t u. write_placed P p (scope_of around) at target (misfit at u t) h.0
      (misfit_placed P at u t h.0)))
  statement_placed p around (st.Update at op target a) h =
      both (both (exp_placed P p (scope_of around) target h.1)
      (value_placed P p (scope_of around) a h.2))
      (both_judged_placed P (operand_type p (scope_of around) target)
      (right_side_type p (scope_of around) a) _
      (λ t u. write_placed P p (scope_of around) at target (update_refusals at op t u) h.0
      (update_placed at op t u h.0)))
  statement_placed p around (st.Step at op target) h =
      both (exp_placed P p (scope_of around) target h.1)
      (judged_placed P (operand_type p (scope_of around) target) _
      (λ t. write_placed P p (scope_of around) at target
      (update_refusals at (operator_of op) t Int) h.0
      (update_placed at (operator_of op) t Int h.0)))
  statement_placed p around (st.Call a) h = exp_placed P p (scope_of around) a h
  statement_placed p around (st.Print at what) h = print_placed p (scope_of around) at what h.0 h.1
  statement_placed p around (st.If at c a) h = condition_placed p (scope_of around) c h.1
  statement_placed p around (st.IfElse at c a b) h = condition_placed p (scope_of around) c h.1
  statement_placed p around (st.While at c body) h = condition_placed p (scope_of around) c h.1
  statement_placed p around (st.For at first c update body) h =
      maybe_condition_placed p (scope_of around) c h.2
  statement_placed p around (st.Foreach at number domain body) h =
      both (inner_placed P p (scope_of around) domain h.1)
      (judged_placed P (operand_type p (scope_of around) domain) _
      (λ t. operand_placed P at (is_some (domain_dim t)) false h.0))
  statement_placed p around (st.Break at) h = refused P (is_none around.jump_has) Y8 at h
  statement_placed p around (st.Continue at) h = refused P (is_none around.jump_has) Y8 at h
  statement_placed p around (st.Return at value) h =
      return_placed p (scope_of around) at (result_type around.method) value h.0 h.1
  statement_placed p around x h = nil

  -- ---- classes and methods

  field_placed : (f : NumberedField) → FieldPlaced P f → RefusalsPlaced P (field_refusals f)
  field_placed f h =
      both (both (repeated_modifiers_placed P [] f.modifiers h.0)
      (each_of field_modifier_refusals h.0 (λ m i. refused P _ _ _ i)))
      (type_placed P false f.ty h.1)

  class_placed : (x : NumberedClass) → ClassPlaced P x → RefusalsPlaced P (class_refusals x)
  class_placed x h =
      both (repeated_modifiers_placed P [] x.modifiers h.0)
      (each_of field_refusals h.1 field_placed)

  result_placed : (r : NumberedResult) → ResultPlaced P r → RefusalsPlaced P (result_refusals r)
  result_placed c.Void h = nil
  result_placed (c.Typed t) h = type_placed P true t h

  params_placed : (is_single : Bool) (params : NumberedParams) → ParamsPlaced P params
      → RefusalsPlaced P (params_refusals is_single params)
  params_placed is_single c.MainArgs h = nil
  params_placed is_single (c.Params params) h =
      each_of (λ (x : NumberedParam). type_word_refusals is_single x.ty) h
      (λ x i. type_placed P is_single x.ty i.1)

  head_placed : (m : NumberedMethod) → MethodPlaced P m → RefusalsPlaced P (head_refusals m)
  head_placed m h =
      both (both (both (repeated_modifiers_placed P [] m.modifiers h.0)
      (each_of (method_modifier_refusals (is_static_method m)) h.0 (λ x i. refused P _ _ _ i)))
      (result_placed m.result h.1)) (params_placed m.is_single m.params h.3)

  method_placed : (p : ProgramView) (m : NumberedMethod) → MethodPlaced P m
      → RefusalsPlaced P (method_refusals p m)
  method_placed p m h =
      both (both (head_placed m h) (refused P _ _ _ h.2))
      (each_of (standing_refusals p) (standing_placed p m h)
      (λ x i. statement_placed p x.around x.statement i))

  -- ---- programs

  pub types_placed : (p : ProgramView) → ProgramPlaced P p → RefusalsPlaced P (type_refusals p)
  types_placed p h =
      both (each_of class_refusals h.0 class_placed)
      (each_of (method_refusals p) h.1 (method_placed p))
