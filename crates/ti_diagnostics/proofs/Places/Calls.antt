-- The errors of a call are at its position, or at those of its arguments.
use Rattle.std.proofs.Common.{ℕ, false, not, ◌==◌, nat_lt, List, [], ◌∷◌, length}
use Rattle.std.proofs.Common.{Option, Some, None}
use Rattle.ti_base.specs.declared.place.Place.{Place}
use Rattle.ti_lang.specs.Program.Types.{ValueType, Class, Grid}
use Rattle.ti_lang.specs.Program.Expressions.{NumberedExps}
use Rattle.ti_lang.specs.Program.Expressions as e
use Rattle.ti_lang.specs.Program.Classes.{NumberedParams, MainArgs, Params, NumberedMethod}
use Rattle.ti_lang.specs.Program.Classes.{ProgramView}
use Rattle.ti_lang.specs.Typing.Alike.{erase_dims}
use Rattle.ti_lang.specs.Typing.BuiltIn.{BuiltIn, Slice, Copy, Exchange, built_in, same_grids}
use Rattle.ti_lang.specs.Typing.Declared.{instance_method, types_of}
use Rattle.ti_lang.specs.Typing.Expressions.{all_ints}
use Rattle.ti_rules.specs.declared.rule.Rule.TheVariants.{Y1, Y4, Y5}
use Rattle.ti_rules.specs.Broken.Calls.{misfits, first_misfit, params_refusals, call_refusals}
use Rattle.ti_rules.specs.Broken.Calls.{has_member, argument_count}
use Rattle.ti_rules.specs.Broken.Calls.{instance_refusals, copy_refusals}
use Rattle.ti_rules.specs.Broken.Calls.{exchange_refusals, slice_refusals, argument_refusals}
use Rattle.ti_rules.specs.Broken.Calls.{built_in_refusals, member_refusals}
use Rattle.ti_rules.specs.Broken.Expressions.{places_of}
use Rattle.ti_diagnostics.proofs.Places.Elements.{HoldsOfEach, nil, cons, both, either}
use Rattle.ti_diagnostics.proofs.Places.Programs.{ExpsPlaced, place_placed}
use Rattle.ti_diagnostics.proofs.Places.Refused.{RefusalsPlaced, refused, operand_placed}
use Rattle.ti_diagnostics.proofs.Places.Refused.{refused_at, misfit_placed}

module _ (P : Place → Type 0) where
  pub places_placed : (xs : NumberedExps) → ExpsPlaced P xs → HoldsOfEach P (places_of xs)
  places_placed e.NoExp h = nil
  places_placed (e.MoreExp a rest) h = cons (place_placed P a h.0) (places_placed rest h.1)

  -- ---- declared methods

  misfits_placed : (places : List Place) (ts us : List ValueType) → HoldsOfEach P places
      → RefusalsPlaced P (misfits places ts us)
  misfits_placed (at ∷ places) (t ∷ ts) (u ∷ us) (cons h hs) =
      both (misfit_placed P at t u h) (misfits_placed places ts us hs)
  misfits_placed _ _ _ h = nil

  first_placed : (places : List Place) → HoldsOfEach P places
      → RefusalsPlaced P (first_misfit places)
  first_placed [] h = nil
  first_placed (at ∷ places) (cons h hs) = cons h nil

  params_placed : (at : Place) (places : List Place) (params : NumberedParams) (ts : List ValueType)
      → P at → HoldsOfEach P places
      → RefusalsPlaced P (params_refusals at places params ts)
  params_placed at places MainArgs ts h hs =
      either (length ts == 1) (first_placed places hs) (cons h nil)
  params_placed at places (Params params) ts h hs =
      either (length ts == length params) (misfits_placed places ts (types_of params) hs)
      (cons h nil)

  pub call_placed : (at : Place) (places : List Place) (m : Option NumberedMethod)
      (ts : List ValueType)
      → P at → HoldsOfEach P places
      → RefusalsPlaced P (call_refusals at places m ts)
  call_placed at places None ts h hs = nil
  call_placed at places (Some m) ts h hs = params_placed at places m.params ts h hs

  instance_placed : (at : Place) (places : List Place) (m : Option NumberedMethod)
      (ts : List ValueType)
      → P at → HoldsOfEach P places
      → RefusalsPlaced P (instance_refusals at places m ts)
  instance_placed at places None ts h hs = cons h nil
  instance_placed at places (Some m) ts h hs = params_placed at places m.params ts h hs

  -- ---- built-in members

  copy_placed : (at : Place) (t : ValueType) (ts : List ValueType) → P at
      → RefusalsPlaced P (copy_refusals at t ts)
  copy_placed at t [] h = nil
  copy_placed at t (u ∷ []) h =
      let others = same_grids (erase_dims t) (erase_dims u) in
      either (same_grids t u) (refused P _ _ at h) (operand_placed P at false others h)
  copy_placed at t (u ∷ v ∷ ts) h = nil

  exchange_placed : (at : Place) (t : ValueType) (ts : List ValueType) → P at
      → RefusalsPlaced P (exchange_refusals at t ts)
  exchange_placed at t [] h = nil
  exchange_placed at t (u ∷ []) h = both (operand_placed P at _ _ h) (refused P _ _ at h)
  exchange_placed at t (u ∷ v ∷ ts) h = nil

  slice_placed : (at : Place) (t : ValueType) (ts : List ValueType) → P at
      → RefusalsPlaced P (slice_refusals at t ts)
  slice_placed at (Grid t n local) ts h =
      either (nat_lt 1 n) (operand_placed P at (all_ints ts) false h) (refused_at P Y5 at h)
  slice_placed at _ ts h = nil

  arguments_placed : (at : Place) (b : BuiltIn) (t : ValueType) (ts : List ValueType) → P at
      → RefusalsPlaced P (argument_refusals at b t ts)
  arguments_placed at Slice t ts h = slice_placed at t ts h
  arguments_placed at Copy t ts h = copy_placed at t ts h
  arguments_placed at Exchange t ts h = exchange_placed at t ts h
  arguments_placed at b t ts h = operand_placed P at _ _ h

  built_in_placed : (at : Place) (b : Option BuiltIn) (t : ValueType) (ts : List ValueType) → P at
      → RefusalsPlaced P (built_in_refusals at b t ts)
  built_in_placed at None t ts h = cons h nil
  built_in_placed at (Some b) t ts h =
      either (not (has_member b t)) (refused_at P Y1 at h)
      (either (not (length ts == argument_count b)) (refused_at P Y4 at h)
      (arguments_placed at b t ts h))

  -- ---- both kinds of calls

  pub member_placed : (p : ProgramView) (at : Place) (places : List Place) (name : ℕ)
      (t : ValueType) (ts : List ValueType)
      → P at → HoldsOfEach P places
      → RefusalsPlaced P (member_refusals p at places name t ts)
  member_placed p at places name (Class c local) ts h hs =
      instance_placed at places (instance_method p c name) ts h hs
  member_placed p at places name t ts h hs = built_in_placed at (built_in p name) t ts h
