-- The errors of a program by the rules of single values are at its positions.
use Rattle.std.proofs.Common.{Bool, List, ◌∷◌, Option, Some, None}
use Rattle.ti_base.specs.declared.place.Place.{Place}
use Rattle.ti_lang.specs.Program.Expressions.{NumberedExp, NumberedExps}
use Rattle.ti_lang.specs.Program.Expressions as e
use Rattle.ti_lang.specs.Program.Statements.{NumberedInit, NumberedStm}
use Rattle.ti_lang.specs.Program.Statements as st
use Rattle.ti_lang.specs.Program.Classes.{NumberedParam, NumberedParams, NumberedResult}
use Rattle.ti_lang.specs.Program.Classes.{NumberedMethod, ProgramView}
use Rattle.ti_lang.specs.Program.Classes as c
use Rattle.ti_lang.specs.Program.Scope.{this_of}
use Rattle.ti_lang.specs.Typing.Called.{called_method}
use Rattle.ti_rules.specs.StmtInContext.{StmtContext}
use Rattle.ti_rules.specs.SingleRules.{argument_refusals, params_refusals, call_refusals}
use Rattle.ti_rules.specs.SingleRules.{whole_refusals, initial_refusals, return_refusals}
use Rattle.ti_rules.specs.SingleRules.{single_refusals_at, standing_single_refusals, word_refusals}
use Rattle.ti_rules.specs.SingleRules.{result_refusals, method_single_refusals, single_refusals}
use Rattle.ti_diagnostics.proofs.Places.Elements.{nil, both, each_of, either}
use Rattle.ti_diagnostics.proofs.Places.Programs.{ExpPlaced, ExpsPlaced, InitPlaced}
use Rattle.ti_diagnostics.proofs.Places.Programs.{StmPlaced, ResultPlaced, MethodPlaced}
use Rattle.ti_diagnostics.proofs.Places.Programs.{ProgramPlaced, place_placed}
use Rattle.ti_diagnostics.proofs.Places.Refused.{RefusalsPlaced, refused}
use Rattle.ti_diagnostics.proofs.Places.Statements.{standing_placed}

module _ (P : Place → Type 0) where
  -- ---- calls

  arguments_placed : (p : ProgramView) (around : StmtContext) (params : List NumberedParam)
      (args : NumberedExps)
      → ExpsPlaced P args
      → RefusalsPlaced P (argument_refusals p around params args)
  arguments_placed p around (w ∷ params) (e.MoreExp a rest) h =
      both (refused P _ _ _ (place_placed P a h.0)) (arguments_placed p around params rest h.1)
  arguments_placed p around _ _ h = nil

  params_placed : (p : ProgramView) (around : StmtContext) (params : NumberedParams)
      (args : NumberedExps)
      → ExpsPlaced P args
      → RefusalsPlaced P (params_refusals p around params args)
  params_placed p around c.MainArgs args h = nil
  params_placed p around (c.Params params) args h = arguments_placed p around params args h

  call_placed : (p : ProgramView) (around : StmtContext) (m : Option NumberedMethod)
      (args : NumberedExps)
      → ExpsPlaced P args
      → RefusalsPlaced P (call_refusals p around m args)
  call_placed p around None args h = nil
  call_placed p around (Some m) args h = params_placed p around m.params args h

  whole_placed : (p : ProgramView) (around : StmtContext) (a : NumberedExp) → ExpPlaced P a
      → RefusalsPlaced P (whole_refusals p around a)
  whole_placed p around (e.Call at method args) h =
      let m = called_method p (this_of around.method) (e.Call at method args) in
      call_placed p around m args h.1
  whole_placed p around (e.OwnCall at method args) h =
      let m = called_method p (this_of around.method) (e.OwnCall at method args) in
      call_placed p around m args h.1
  whole_placed p around (e.Member at a name args) h =
      let m = called_method p (this_of around.method) (e.Member at a name args) in
      both (call_placed p around m args h.2) (refused P _ _ at h.0)
  whole_placed p around a h = nil

  initial_placed : (p : ProgramView) (around : StmtContext) (v : NumberedInit) → InitPlaced P v
      → RefusalsPlaced P (initial_refusals p around v)
  initial_placed p around (st.Value a) h = whole_placed p around a h
  initial_placed p around (st.Broadcast at a root) h = refused P _ _ at h.0
  initial_placed p around value h = nil

  -- ---- statements

  return_placed : (p : ProgramView) (around : StmtContext) (at : Place) (a : Option NumberedExp)
      → P at → RefusalsPlaced P (return_refusals p around at a)
  return_placed p around at None h = nil
  return_placed p around at (Some a) h = refused P _ _ at h

  statement_placed : (p : ProgramView) (around : StmtContext) (x : NumberedStm) → StmPlaced P x
      → RefusalsPlaced P (single_refusals_at p around x)
  statement_placed p around (st.Declare at type variable value) h =
      both (initial_placed p around value h.2) (refused P _ _ at h.0)
  statement_placed p around (st.Assign at target value) h =
      both (initial_placed p around value h.2) (refused P _ _ at h.0)
  statement_placed p around (st.Update at op target a) h =
      both (whole_placed p around a h.2) (refused P _ _ at h.0)
  statement_placed p around (st.Call a) h = whole_placed p around a h
  statement_placed p around (st.If at c a) h = refused P _ _ at h.0
  statement_placed p around (st.IfElse at c a b) h = refused P _ _ at h.0
  statement_placed p around (st.While at c body) h = refused P _ _ at h.0
  statement_placed p around (st.For at first c update body) h =
      both (refused P _ _ at h.0) (refused P _ _ at h.0)
  statement_placed p around (st.Foreach at number domain body) h = refused P _ _ at h.0
  statement_placed p around (st.Return at value) h = return_placed p around at value h.0
  statement_placed p around x h = nil

  -- ---- methods

  result_placed : (is_single : Bool) (r : NumberedResult) → ResultPlaced P r
      → RefusalsPlaced P (result_refusals is_single r)
  result_placed is_single c.Void h = nil
  result_placed is_single (c.Typed t) h =
      either is_single nil (each_of word_refusals h.0 (λ q i. refused P _ _ _ i))

  method_placed : (p : ProgramView) (m : NumberedMethod) → MethodPlaced P m
      → RefusalsPlaced P (method_single_refusals p m)
  method_placed p m h =
      both (both (refused P _ _ _ h.2) (result_placed m.is_single m.result h.1))
      (each_of (standing_single_refusals p) (standing_placed P p m h)
      (λ x i. statement_placed p x.around x.statement i))

  -- ---- programs

  pub singles_placed : (p : ProgramView) → ProgramPlaced P p → RefusalsPlaced P (single_refusals p)
  singles_placed p h = each_of (method_single_refusals p) h.1 (method_placed p)
