-- Where the global effect of a statement comes from: the first statement inside that has one of its own.
use Rattle.std.specs.Prelude.{Bool, false, if◌then◌else◌, Option, Some, None}
use Rattle.std.specs.Option.{option_map_or, option_or}
use Rattle.ti_base.specs.declared.place.Place.{Place}
use Rattle.ti_lang.specs.Program.Expressions.{NumberedExp, place_of_numbered}
use Rattle.ti_lang.specs.Program.Statements.{NumberedInit, NumberedStm, MaybeNumbered, NumberedStms}
use Rattle.ti_lang.specs.Program.Statements as st
use Rattle.ti_lang.specs.Program.Classes.{NumberedMethod, ProgramView}
use Rattle.ti_lang.specs.Program.Scope.{this_of}
use Rattle.ti_lang.specs.Typing.Called.{called_method}
use Rattle.ti_lang.specs.Typing.Effects.{is_collective_call, is_single_target, return_acts}
use Rattle.ti_rules.specs.StmtInContext.{loop_acts}
use Rattle.ti_explain.specs.declared.reason.GlobalEffect.{GlobalEffect}
use Rattle.ti_explain.specs.declared.reason.GlobalEffect.TheVariants as effect
use Rattle.ti_explain.specs.declared.reason.EffectAt.{EffectAt}

-- an effect at this position
abbrev pub effect_at : Place → GlobalEffect → Option EffectAt
effect_at at what = Some (record { place = at; effect = what })

-- if the test holds, there is an effect at this position
abbrev pub effect_if : Bool → Place → GlobalEffect → Option EffectAt
effect_if has at what = if has then effect_at at what else None

-- ---- calls and right sides

module _ (program : ProgramView) (m : NumberedMethod) where
  -- the expression is a call of a method that is declared single
  abbrev pub calls_single : NumberedExp → Bool
  calls_single e = option_map_or (λ (called : NumberedMethod). called.is_single) (called_method program (this_of m) e) false

  -- the effect of an expression that is a statement or a right side: that of a collective member, or of a method declared single
  abbrev pub call_effect : NumberedExp → Option EffectAt
  call_effect e =
      if is_collective_call program (this_of m) e then effect_at (place_of_numbered e) effect.Collective
      else effect_if (calls_single e) (place_of_numbered e) effect.SingleCall

  -- the effect of the right side of a declaration or an assignment
  abbrev pub initial_effect : NumberedInit → Option EffectAt
  initial_effect (st.Value e) = call_effect e
  initial_effect (st.NewRegion at) = effect_at at effect.NewRegion
  initial_effect (st.NewObject at region class) = None
  initial_effect (st.NewGrid at region element dims_at dims) = None
  initial_effect (st.Broadcast at e root) = effect_at at effect.Broadcast

  -- ---- statements

  abbrev mutual
    -- The first effect in a statement of the method, given whether a jump out of the innermost enclosing loop has one. A right side comes
    -- before its target, and the body of a loop before its update.
    pub first_effect : Bool → NumberedStm → Option EffectAt
    first_effect jump_has (st.Declare at type variable value) =
        option_or (initial_effect value) (effect_if type.is_single at effect.DeclaresSingle)
    first_effect jump_has (st.Assign at target value) =
        option_or (initial_effect value) (effect_if (is_single_target target) at effect.ChangesSingle)
    first_effect jump_has (st.Update at op target e) =
        option_or (call_effect e) (effect_if (is_single_target target) at effect.ChangesSingle)
    first_effect jump_has (st.Step at op target) = effect_if (is_single_target target) at effect.ChangesSingle
    first_effect jump_has (st.Call e) = call_effect e
    first_effect jump_has (st.Barrier at) = effect_at at effect.Barrier
    first_effect jump_has (st.Block body) = first_effect_of_all jump_has body
    first_effect jump_has (st.If at c a) = first_effect jump_has a
    first_effect jump_has (st.IfElse at c a b) = option_or (first_effect jump_has a) (first_effect jump_has b)
    -- a jump in a loop has an effect if the loop has one
    first_effect jump_has (st.While at c body) = first_effect (loop_acts program m st.NoStm body) body
    first_effect jump_has (st.For at first c update body) = option_or (first_effect_of_maybe jump_has first)
        (option_or (first_effect (loop_acts program m update body) body) (first_effect_of_maybe (loop_acts program m update body) update))
    first_effect jump_has (st.Foreach at variable domain body) = first_effect (loop_acts program m st.NoStm body) body
    first_effect jump_has (st.Break at) = effect_if jump_has at effect.Jump
    first_effect jump_has (st.Continue at) = effect_if jump_has at effect.Jump
    first_effect jump_has (st.Return at value) = effect_if (return_acts program m) at effect.Return
    first_effect jump_has st.Empty = None
    first_effect jump_has (st.Print at what) = None

    -- that of an optional statement
    pub first_effect_of_maybe : Bool → MaybeNumbered → Option EffectAt
    first_effect_of_maybe jump_has st.NoStm = None
    first_effect_of_maybe jump_has (st.SomeStm x) = first_effect jump_has x

    -- that of a list of statements
    pub first_effect_of_all : Bool → NumberedStms → Option EffectAt
    first_effect_of_all jump_has st.Nil = None
    first_effect_of_all jump_has (st.Cons x rest) = option_or (first_effect jump_has x) (first_effect_of_all jump_has rest)

  -- the first effect in the body and the update of a loop
  abbrev pub loop_effect : NumberedStm → Option EffectAt
  loop_effect (st.While at c body) = first_effect (loop_acts program m st.NoStm body) body
  loop_effect (st.For at first c update body) =
      option_or (first_effect (loop_acts program m update body) body) (first_effect_of_maybe (loop_acts program m update body) update)
  loop_effect (st.Foreach at variable domain body) = first_effect (loop_acts program m st.NoStm body) body
  loop_effect x = None
