-- For proofs only: the model of the summary of the types of operands, and of the parameters for which they are.
use Rattle.std.specs.Prelude.{ℕ, ◌&&◌, ◌==◌, Bool, true, false, is_none, if◌then◌else◌, List, [], ◌∷◌, length, Option, Some, None, option_map}
use Rattle.std.specs.List.{list_all}
use Rattle.ti_base.specs.declared.place.Place.{Place}
use Rattle.ti_lang.specs.Program.Types.{ValueType, Pt, Rc}
use Rattle.ti_lang.specs.Program.Classes.{NumberedParams, MainArgs, Params, NumberedMethod}
use Rattle.ti_lang.specs.Typing.Kinds.{where_true, is_point_type}
use Rattle.ti_lang.specs.Typing.Declared.{types_of, result_type}
use Rattle.ti_lang.specs.Typing.Expressions.{ExprTyping, plain, is_int, all_ints, range_of_points}
use Rattle.ti_rules.specs.declared.rule.Rule.TheVariants.{Y4}
use Rattle.ti_rules.specs.declared.refusal.Refusal.{Refusal}
use Rattle.ti_rules.specs.Mirrors.First.{earlier_of, earliest}
use Rattle.ti_rules.specs.Broken.Refused.{refusal_at, misfit}
use Rattle.ti_rules.specs.Broken.Calls.{misfits, first_misfit}
use Rattle.ti_types.specs.declared.operands.OperandTypes.{OperandTypes}
use Rattle.ti_lang.specs.Typing.TyRef.{ty_view}

-- the summary of the types of operands: whether all are ints, the first two, the domain that they are the bounds and the step of if
-- all are points of one dimension, whether all are points, and the first error of one that doesn't fit its parameter
pub record OperandSummary : Type 0 where
  pub ints : Bool
  pub first : Option ValueType
  pub second : Option ValueType
  pub range : Option ValueType
  pub points : Bool
  pub misfit : Option Refusal

-- the first of a list
abbrev pub head_type : List ValueType → Option ValueType
head_type [] = None
head_type (t ∷ ts) = Some t

-- the second of a list
abbrev pub second_type : List ValueType → Option ValueType
second_type [] = None
second_type (t ∷ ts) = head_type ts

-- the summary of the types `ts` at these positions, with parameters of the types `us`
abbrev pub summary : List Place → List ValueType → List ValueType → OperandSummary
summary places us ts = record {
  ints = all_ints ts;
  first = head_type ts;
  second = second_type ts;
  range = range_of_points ts;
  points = list_all is_point_type ts;
  misfit = earliest (misfits places ts us);
}

-- the error of a type that doesn't fit its parameter's type; None if there is no parameter
abbrev pub parameter_refusal : Place → ValueType → Option ValueType → Option Refusal
parameter_refusal at t None = None
parameter_refusal at t (Some u) = earliest (misfit at t u)

-- the domain is one of this dimension
abbrev pub has_dim : ℕ → Option ValueType → Bool
has_dim n (Some (Rc m)) = n == m
has_dim n range = false

-- the domain that points are the bounds and the step of with one of this type before them, from the first of them and their domain
abbrev pub range_before : ValueType → Option ValueType → Option ValueType → Option ValueType
range_before (Pt n) None range = Some (Rc n)
range_before (Pt n) (Some t) range = where_true (has_dim n range) (Rc n)
range_before u first range = None

-- the summary with one more operand prepended
abbrev pub prepend : Place → Option ValueType → ValueType → OperandSummary → OperandSummary
prepend at u t rest = record {
  ints = is_int t && rest.ints;
  first = Some t;
  second = rest.first;
  range = range_before t rest.first rest.range;
  points = is_point_type t && rest.points;
  misfit = earlier_of (parameter_refusal at t u) rest.misfit;
}

-- the model of the summary in the code
abbrev pub summary_of : OperandTypes → OperandSummary
summary_of t = record {
  ints = t.ints;
  first = option_map ty_view t.first;
  second = option_map ty_view t.second;
  range = option_map Rc t.common_dim;
  points = t.points;
  misfit = t.misfit;
}

-- the types of parameters; `String[] x` has none that a value could have
abbrev pub types_in : NumberedParams → List ValueType
types_in MainArgs = []
types_in (Params params) = types_of params

-- the parameter types of a method; none if there is no method
abbrev pub parameter_types : Option NumberedMethod → List ValueType
parameter_types None = []
parameter_types (Some m) = types_in m.params

-- whether parameters accept `count` arguments whose first misfit is this
abbrev pub params_accept : NumberedParams → ℕ → Option Refusal → Bool
params_accept MainArgs count misfit = false
params_accept (Params params) count misfit = (count == length params) && is_none misfit

-- the typing result of a call of this method with `count` arguments whose first misfit is this
abbrev pub method_call_typing : NumberedMethod → ℕ → Option Refusal → ExprTyping
method_call_typing m count misfit = record {
  type = where_true (params_accept m.params count misfit)
      (result_type m);
  is_call = true;
}

-- the first error of a call's arguments
abbrev pub summary_params_refusal : Place → List Place → NumberedParams → ℕ → Option Refusal → Option Refusal
summary_params_refusal at places MainArgs count misfit = if count == 1 then earliest (first_misfit places) else earliest (refusal_at Y4 at)
summary_params_refusal at places (Params params) count misfit = if count == length params then misfit else earliest (refusal_at Y4 at)

-- the first error of a call by itself; `otherwise` if there is no method, and none if an argument has no type
abbrev pub summary_call_refusal : Place → List Place → Option NumberedMethod → Option Refusal → ℕ
    → Option OperandSummary → Option Refusal
summary_call_refusal at places m otherwise count None = None
summary_call_refusal at places None otherwise count (Some summary) = otherwise
summary_call_refusal at places (Some m) otherwise count (Some summary) = summary_params_refusal at places m.params count summary.misfit

-- the typing result of a call with `count` arguments, by itself
abbrev pub summary_call : Option NumberedMethod → ℕ → Option OperandSummary → ExprTyping
summary_call m count None = plain None
summary_call None count (Some told) = plain None
summary_call (Some m) count (Some told) = method_call_typing m count told.misfit
