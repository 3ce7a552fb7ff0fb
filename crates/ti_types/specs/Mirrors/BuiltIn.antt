-- For proofs only: the model of the typing of built-in members.
use Rattle.std.specs.Prelude.{ℕ, zero, suc, ◌==◌, map, is_some, not, if◌then◌else◌, List, [], ◌∷◌, Option, Some, None, option_and_then}
use Rattle.ti_base.specs.declared.place.Place.{Place}
use Rattle.ti_lang.specs.Program.Types.{ValueType}
use Rattle.ti_lang.specs.Typing.BuiltIn as member
use Rattle.ti_lang.specs.Typing.BuiltIn.{member_type}
use Rattle.ti_rules.specs.declared.rule.Rule.TheVariants.{Y1, Y4}
use Rattle.ti_rules.specs.declared.refusal.Refusal.{Refusal}
use Rattle.ti_lang.specs.Typing.Alike.{erase_dims}
use Rattle.ti_rules.specs.Broken.Refused.{refusal_at, operand_refusal}
use Rattle.ti_rules.specs.Broken.Calls.{has_member, argument_count, copy_refusals, exchange_refusals, slice_refusals}
use Rattle.ti_types.specs.Mirrors.Arguments.{OperandSummary}

-- the list of `count` types whose first two are these, if there are no more than two
abbrev pub argument_list : ℕ → Option ValueType → Option ValueType → Option (List ValueType)
argument_list count None u = if count == 0 then Some [] else None
argument_list count (Some t) None = if count == 1 then Some (t ∷ []) else None
argument_list count (Some t) (Some u) = if count == 2 then Some (t ∷ u ∷ []) else None

-- the result type of a built-in member with `count` arguments
abbrev pub summary_member_type : member.BuiltIn → ValueType → ℕ → OperandSummary → Option ValueType
summary_member_type b t count told = option_and_then (member_type b t) (argument_list count told.first told.second)

-- the errors of the arguments of a member that accepts them by their types
abbrev pub other_refusals : Place → member.BuiltIn → ValueType → List ValueType → List Refusal
other_refusals at b t ts = operand_refusal at (is_some (member_type b t ts)) (is_some (member_type b (erase_dims t) (map erase_dims ts)))

-- the errors of the argument of a member with one parameter
abbrev pub one_refusals : Place → member.BuiltIn → ValueType → ValueType → List Refusal
one_refusals at member.Copy t u = copy_refusals at t (u ∷ [])
one_refusals at member.Exchange t u = exchange_refusals at t (u ∷ [])
one_refusals at b t u = other_refusals at b t (u ∷ [])

-- the errors of a member's arguments, given that their number is right and their first two types are these
abbrev pub arguments_by : Place → member.BuiltIn → ValueType → ℕ → Option ValueType → Option ValueType → List Refusal
arguments_by at b t zero None v = other_refusals at b t []
arguments_by at b t (suc zero) (Some u) None = one_refusals at b t u
arguments_by at b t (suc (suc n)) (Some u) (Some v) = slice_refusals at t (u ∷ v ∷ [])
arguments_by at b t n u v = []

-- the errors of a member's arguments, given that their number is right and their summary is this
abbrev pub summary_argument_refusals : Place → member.BuiltIn → ValueType → OperandSummary
    → List Refusal
summary_argument_refusals at b t told = arguments_by at b t (argument_count b) told.first told.second

-- the errors of a built-in member with `count` arguments
abbrev pub summary_built_in_refusals : Place → Option member.BuiltIn → ValueType → ℕ
    → OperandSummary → List Refusal
summary_built_in_refusals at None t count told = refusal_at Y1 at
summary_built_in_refusals at (Some b) t count told =
    if not (has_member b t) then refusal_at Y1 at else
    if not (count == argument_count b) then refusal_at Y4 at else
    summary_argument_refusals at b t told
