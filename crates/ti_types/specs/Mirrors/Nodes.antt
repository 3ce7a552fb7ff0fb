-- For proofs only: the model of the typing of indices, members and ranges, by the summaries of their parts' types.
use Rattle.std.specs.Prelude.{ℕ, ◌==◌, ◌&&◌, Bool, true, false, not, if◌then◌else◌, List, Option, Some, None, option_and_then}
use Rattle.ti_base.specs.declared.place.Place.{Place}
use Rattle.ti_lang.specs.Program.Types.{ValueType, Int, Pt, Rc, Class, Grid}
use Rattle.ti_lang.specs.Program.Classes.{NumberedMethod, ProgramView}
use Rattle.ti_lang.specs.Typing.Kinds.{where_true, read_through}
use Rattle.ti_lang.specs.Typing.BuiltIn as member
use Rattle.ti_lang.specs.Typing.BuiltIn.{built_in}
use Rattle.ti_lang.specs.Typing.Expressions.{ExprTyping, plain}
use Rattle.ti_lang.specs.Typing.Called.{method_behind}
use Rattle.ti_rules.specs.declared.rule.Rule.TheVariants.{Y1}
use Rattle.ti_rules.specs.declared.refusal.Refusal.{Refusal}
use Rattle.ti_rules.specs.Mirrors.First.{earliest}
use Rattle.ti_rules.specs.Broken.Refused.{refusal_at}
use Rattle.ti_types.specs.Results.{LiteralTypes}
use Rattle.ti_types.specs.Mirrors.Arguments.{OperandSummary, summary_call_refusal, summary_call}
use Rattle.ti_types.specs.Mirrors.BuiltIn.{summary_member_type, summary_built_in_refusals}

-- ---- indices

-- whether a grid of `dim` dimensions accepts `count` indices
abbrev pub are_indices : ℕ → ℕ → Option ValueType → Bool → Bool
are_indices dim count (Some (Pt m)) ints = (count == 1) && (dim == m)
are_indices dim count _ ints = ints && (count == dim)

-- the type of an element, or a coordinate, with `count` indices
abbrev pub summary_index_type : ℕ → ValueType → OperandSummary → Option ValueType
summary_index_type count (Pt n) told = where_true (told.ints && (count == 1)) Int
summary_index_type count (Grid t n local) told = where_true (are_indices n count told.first told.ints) (read_through local t)
summary_index_type count _ told = None

-- whether the index is an int or a point
abbrev pub is_index : Option ValueType → Bool
is_index (Some Int) = true
is_index (Some (Pt m)) = true
is_index _ = false

-- whether the number of indices or their dimension is what is wrong
abbrev pub summary_other_indices : ℕ → ValueType → OperandSummary → Bool
summary_other_indices count (Pt n) told = not (count == 1)
summary_other_indices count (Grid t n local) told = if count == 1 then is_index told.first else not (count == n)
summary_other_indices count _ told = false

-- ---- members

-- the method that a member call on a value refers to, if it is an object
abbrev pub member_method : ProgramView → Option ValueType → ℕ → Option NumberedMethod
member_method p None name = None
member_method p (Some t) name = method_behind p t name

-- the typing result of a member call on a value, by itself
abbrev pub summary_member : ProgramView → Option ValueType → ℕ → Option NumberedMethod → ℕ
    → Option OperandSummary → ExprTyping
summary_member p None name m count told = plain None
summary_member p (Some (Class c local)) name m count told = summary_call m count told
summary_member p (Some t) name m count None = plain None
summary_member p (Some t) name m count (Some told) =
    plain (option_and_then (λ (b : member.BuiltIn). summary_member_type b t count told) (built_in p name))

-- the first error of a member call on a value, by itself
abbrev pub summary_member_refusal : ProgramView → Place → List Place → Option ValueType → ℕ
    → Option NumberedMethod → ℕ → Option OperandSummary
    → Option Refusal
summary_member_refusal p at places None name m count told = None
summary_member_refusal p at places (Some (Class c local)) name m count told = summary_call_refusal at places m (earliest (refusal_at Y1 at)) count told
summary_member_refusal p at places (Some t) name m count None = None
summary_member_refusal p at places (Some t) name m count (Some told) = earliest (summary_built_in_refusals at (built_in p name) t count told)

-- ---- ranges

-- the type of a domain literal with `count` ranges
abbrev pub summary_rect_type : ℕ → OperandSummary → Option ValueType
summary_rect_type count told = if told.ints then Some
    (Rc count) else if count == 1 then told.range else None

-- whether there would be a type with dimensions ignored
abbrev pub summary_fits_other_dims : ℕ → OperandSummary → Bool
summary_fits_other_dims count told = if told.ints then true else if count == 1 then told.points else
    false

-- the type of `count` ranges as in a domain literal
abbrev pub summary_literal : ℕ → OperandSummary → LiteralTypes
summary_literal count told = record {
  type = summary_rect_type count told;
  fits_other_dims = summary_fits_other_dims count told;
}
