-- Why an expression is plain: its first part that is plain by itself.
use Rattle.std.specs.Prelude.{ℕ, Bool, not, if◌then◌else◌, Option, Some, None}
use Rattle.std.specs.Option.{option_map_or, option_or}
use Rattle.ti_base.specs.declared.place.Place.{Place}
use Rattle.ti_lang.specs.Program.Types.{Declaration, Typed, Foreach}
use Rattle.ti_lang.specs.Program.Expressions.{NumberedExp, NumberedExps, NumberedRange, NumberedRanges, place_of_numbered}
use Rattle.ti_lang.specs.Program.Expressions as x
use Rattle.ti_lang.specs.Program.Statements.{NumberedInit}
use Rattle.ti_lang.specs.Program.Statements as st
use Rattle.ti_lang.specs.Program.Classes.{NumberedMethod, ProgramView}
use Rattle.ti_lang.specs.Typing.Kinds.{is_local, is_point_type}
use Rattle.ti_lang.specs.Typing.TextTypes.{syntactic_type}
use Rattle.ti_lang.specs.Typing.Called.{called_method, member_called}
use Rattle.ti_lang.specs.Typing.Singleness.{tells_of_domain, has_single_result, is_single_sent}
use Rattle.ti_explain.specs.declared.reason.PlainCause.{PlainCause}
use Rattle.ti_explain.specs.declared.reason.PlainCause.TheVariants as cause
use Rattle.ti_explain.specs.declared.reason.PlainPart.{PlainPart}

-- a plain part at this position
abbrev pub plain_at : Place → PlainCause → Option PlainPart
plain_at at why = Some (record { place = at; cause = why; variable = None })

-- unless the test holds, there is a plain part at this position
abbrev pub plain_unless : Bool → Place → PlainCause → Option PlainPart
plain_unless single at why = if single then None else plain_at at why

-- a variable is plain unless it is declared single, or is the variable of a foreach over a single domain
abbrev pub plain_variable : (ℕ → Bool) → Place → ℕ → Declaration → Option PlainPart
plain_variable singles at number (Typed is_single type) =
    if is_single then None else Some (record { place = at; cause = cause.Variable; variable = Some number })
plain_variable singles at number Foreach = plain_unless (singles number) at cause.ForeachVariable

-- ---- parts of expressions

module _ (program : ProgramView) (this : Option ℕ) (singles : ℕ → Bool) where
  abbrev mutual
    -- the first part of an operand that is plain by itself; None if the operand is single
    pub plain_part : NumberedExp → Option PlainPart
    plain_part (x.Int at n) = None
    plain_part (x.Long at n) = None
    plain_part (x.Truth at b) = None
    plain_part (x.NumProcs at) = None
    plain_part (x.Variable at v) = plain_variable singles at v.number v.declared
    plain_part (x.Point at xs) = plain_among xs
    plain_part (x.Rect at ranges) = plain_among_ranges ranges
    plain_part (x.Unary at op a) = plain_part a
    plain_part (x.Binary at op a b) = option_or (plain_part a) (plain_part b)
    plain_part (x.Cast at to a) = if not (is_local to.type) then plain_part a else plain_at at cause.LocalCast
    -- a coordinate of a point is as single as the point and its index; an element of a grid is plain
    plain_part (x.Index at a xs) =
        if is_point_type (syntactic_type program this a) then option_or (plain_part a) (plain_among xs) else plain_at at cause.Element
    plain_part (x.Member at a name args) =
        if tells_of_domain (member_called program this a name) then option_or (plain_part a) (plain_among args)
        else plain_at at cause.Member
    plain_part (x.Null at) = plain_at at cause.Null
    plain_part (x.This at) = plain_at at cause.This
    plain_part (x.OwnField at field) = plain_at at cause.Field
    plain_part (x.Select at a name) = plain_at at cause.Field
    plain_part (x.ThisProc at) = plain_at at cause.ThisProc
    plain_part (x.Call at method args) = plain_at at cause.InnerCall
    plain_part (x.OwnCall at method args) = plain_at at cause.InnerCall

    -- the first one of a list of expressions
    pub plain_among : NumberedExps → Option PlainPart
    plain_among x.NoExp = None
    plain_among (x.MoreExp a rest) = option_or (plain_part a) (plain_among rest)

    -- the first one of the bounds and the stride
    pub plain_in_range : NumberedRange → Option PlainPart
    plain_in_range (x.Plain low high) = option_or (plain_part low) (plain_part high)
    plain_in_range (x.Stepped low high step) = option_or (plain_part low) (option_or (plain_part high) (plain_part step))

    -- the first one of a list of ranges
    pub plain_among_ranges : NumberedRanges → Option PlainPart
    plain_among_ranges x.NoRange = None
    plain_among_ranges (x.MoreRange r rest) = option_or (plain_in_range r) (plain_among_ranges rest)

  -- ---- right sides

  -- the plain part of a whole right side: a call of a declared method is plain unless the method has a single result
  abbrev pub plain_whole : NumberedExp → Option PlainPart
  plain_whole e = option_map_or (λ (m : NumberedMethod). plain_unless (has_single_result m) (place_of_numbered e) cause.PlainResult)
      (called_method program this e) (plain_part e)

  -- the plain part of the right side of a declaration or an assignment
  abbrev pub plain_initial : NumberedInit → Option PlainPart
  plain_initial (st.Value e) = plain_whole e
  plain_initial (st.NewRegion at) = None
  plain_initial (st.NewObject at region class) = plain_at at cause.NewObject
  plain_initial (st.NewGrid at region element dims_at dims) = plain_at at cause.NewGrid
  plain_initial (st.Broadcast at e root) = plain_unless (is_single_sent (syntactic_type program this e)) at cause.SentReference
