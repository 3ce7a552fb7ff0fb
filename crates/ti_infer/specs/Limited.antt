-- The rules of single values if only some collectives are considered. Each other one is replaced by a statement or a value that isn't a
-- collective, so that it has no global effect and nothing in it has to be single; the value is single exactly if that of the collective
-- is.
use Rattle.std.specs.Prelude.{ℕ, pos, Bool, true, false, not, ◌&&◌, ◌||◌, if◌then◌else◌, List, map, flat_map, Option, Some, None}
use Rattle.ti_base.specs.declared.place.Place.{Place}
use Rattle.ti_base.specs.Places.{place_before, same_place}
use Rattle.ti_lang.specs.Program.Expressions.{NumberedExp, place_of_numbered}
use Rattle.ti_lang.specs.Program.Expressions as x
use Rattle.ti_lang.specs.Program.Statements.{NumberedInit, NumberedStm, MaybeNumbered, NumberedStms}
use Rattle.ti_lang.specs.Program.Statements as st
use Rattle.ti_lang.specs.Program.Classes.{NumberedMethod, ProgramView}
use Rattle.ti_lang.specs.Program.Scope.{this_of}
use Rattle.ti_lang.specs.Typing.TextTypes.{syntactic_type}
use Rattle.ti_lang.specs.Typing.Singleness.{is_single_sent}
use Rattle.ti_lang.specs.Typing.Effects.{is_collective_call}
use Rattle.ti_rules.specs.declared.refusal.Refusal.{Refusal}
use Rattle.ti_rules.specs.SingleRules.{method_single_refusals}

-- ---- which collectives are considered

-- all
abbrev pub every_one : Place → Bool
every_one at = true

-- those at places up to this one; all if no place is given
abbrev pub counts_to : Option Place → Place → Bool
counts_to None at = true
counts_to (Some last) at = place_before at last || same_place at last

-- ---- what replaces the others

-- a value that is single, or one that isn't
abbrev pub idle : Bool → Place → NumberedExp
idle true at = x.Int at (pos 0)
idle false at = x.Null at

module _ (counts : Place → Bool) (p : ProgramView) (this : Option ℕ) where
  -- of an expression that is a whole statement or right side: the values of an exchange and of a deletion aren't single
  abbrev pub limited_whole : NumberedExp → NumberedExp
  limited_whole e = if is_collective_call p this e && not (counts (place_of_numbered e)) then idle false (place_of_numbered e) else e

  -- of a right side: a new region is single, and so is a broadcast value if its type can be sent as a single value
  abbrev pub limited_initial : NumberedInit → NumberedInit
  limited_initial (st.Value e) = st.Value (limited_whole e)
  limited_initial (st.NewRegion at) = if counts at then st.NewRegion at else st.Value (idle true at)
  limited_initial (st.Broadcast at e root) =
      if counts at then st.Broadcast at e root else st.Value (idle (is_single_sent (syntactic_type p this e)) at)
  limited_initial value = value

  abbrev mutual
    -- of a statement and the statements in it
    pub limited_stm : NumberedStm → NumberedStm
    limited_stm (st.Declare at type variable value) = st.Declare at type variable (limited_initial value)
    limited_stm (st.Assign at target value) = st.Assign at target (limited_initial value)
    limited_stm (st.Update at op target e) = st.Update at op target (limited_whole e)
    limited_stm (st.Call e) = st.Call (limited_whole e)
    limited_stm (st.Barrier at) = if counts at then st.Barrier at else st.Empty
    limited_stm (st.Block body) = st.Block (limited_stms body)
    limited_stm (st.If at c a) = st.If at c (limited_stm a)
    limited_stm (st.IfElse at c a b) = st.IfElse at c (limited_stm a) (limited_stm b)
    limited_stm (st.While at c body) = st.While at c (limited_stm body)
    limited_stm (st.For at first c update body) = st.For at (limited_maybe first) c (limited_maybe update) (limited_stm body)
    limited_stm (st.Foreach at variable domain body) = st.Foreach at variable domain (limited_stm body)
    limited_stm s = s

    pub limited_maybe : MaybeNumbered → MaybeNumbered
    limited_maybe st.NoStm = st.NoStm
    limited_maybe (st.SomeStm s) = st.SomeStm (limited_stm s)

    pub limited_stms : NumberedStms → NumberedStms
    limited_stms st.Nil = st.Nil
    limited_stms (st.Cons s rest) = st.Cons (limited_stm s) (limited_stms rest)

-- ---- the rules

-- a method of a program, with only these collectives
abbrev pub limited_method : (Place → Bool) → ProgramView → NumberedMethod → NumberedMethod
limited_method counts p m = record m { body = map (limited_stm counts p (this_of m)) m.body }

-- the refusals of a program by the rules of single values if only these collectives are considered
abbrev pub limited_refusals : (Place → Bool) → ProgramView → List Refusal
limited_refusals counts p = flat_map (λ m. method_single_refusals p (limited_method counts p m)) p.methods
