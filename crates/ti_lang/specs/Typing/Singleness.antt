-- Single expressions: those whose value is statically known to be the same in all processes.
use Rattle.std.specs.Prelude.{ℕ, Bool, true, false, not, ◌&&◌, Option, Some}
use Rattle.std.specs.Option.{option_map_or}
use Rattle.ti_lang.specs.Program.Types.{ValueType, Int, Long, Boolean, Pt, Rc, Declaration, Typed, Foreach}
use Rattle.ti_lang.specs.Program.Expressions.{NumberedExp, NumberedExps, NumberedRange, NumberedRanges}
use Rattle.ti_lang.specs.Program.Expressions as x
use Rattle.ti_lang.specs.Program.Statements.{NumberedInit}
use Rattle.ti_lang.specs.Program.Statements as st
use Rattle.ti_lang.specs.Program.Classes.{NumberedResult, NumberedMethod, ProgramView}
use Rattle.ti_lang.specs.Program.Classes as c
use Rattle.ti_lang.specs.Typing.Kinds.{is_local, is_point_type}
use Rattle.ti_lang.specs.Typing.BuiltIn.{BuiltIn, Size, Min, Max, Contains}
use Rattle.ti_lang.specs.Typing.TextTypes.{syntactic_type}
use Rattle.ti_lang.specs.Typing.Called.{called_method, member_called}

-- ---- variables and members

-- a variable is single if it is declared so; a foreach variable, as `singles` says for its number
abbrev pub declared_single : (ℕ → Bool) → ℕ → Declaration → Bool
declared_single singles number (Typed is_single type) = is_single
declared_single singles number Foreach = singles number

-- a built-in member that reads a domain, and so is single on a single receiver
abbrev pub tells_of_domain : Option BuiltIn → Bool
tells_of_domain (Some Size) = true
tells_of_domain (Some Min) = true
tells_of_domain (Some Max) = true
tells_of_domain (Some Contains) = true
tells_of_domain _ = false

-- ---- expressions

module _ (program : ProgramView) (this : Option ℕ) (singles : ℕ → Bool) where
  abbrev mutual
    -- an operand, or an expression that is no call of a declared method, is single, given which foreach variables are
    pub is_single_part : NumberedExp → Bool
    is_single_part (x.Int at n) = true
    is_single_part (x.Long at n) = true
    is_single_part (x.Truth at b) = true
    is_single_part (x.NumProcs at) = true
    is_single_part (x.Variable at v) = declared_single singles v.number v.declared
    is_single_part (x.Point at xs) = are_single xs
    is_single_part (x.Rect at ranges) = are_single_ranges ranges
    is_single_part (x.Unary at op a) = is_single_part a
    is_single_part (x.Binary at op a b) = is_single_part a && is_single_part b
    -- a cast to a local reference isn't single
    is_single_part (x.Cast at to a) = not (is_local to.type) && is_single_part a
    -- of the index expressions, a coordinate of a point can be single, and an element of a grid can't
    is_single_part (x.Index at a xs) = is_point_type (syntactic_type program this a) && (is_single_part a && are_single xs)
    is_single_part (x.Member at a name args) = tells_of_domain (member_called program this a name) && (is_single_part a && are_single args)
    -- a field, `this`, `null` and the process's own number aren't single, nor is a call inside an expression
    is_single_part e = false

    -- all of these are single
    pub are_single : NumberedExps → Bool
    are_single x.NoExp = true
    are_single (x.MoreExp a rest) = is_single_part a && are_single rest

    -- the bounds and the stride are single
    pub is_single_range : NumberedRange → Bool
    is_single_range (x.Plain low high) = is_single_part low && is_single_part high
    is_single_range (x.Stepped low high step) = (is_single_part low && is_single_part high) && is_single_part step

    -- all ranges are single
    pub are_single_ranges : NumberedRanges → Bool
    are_single_ranges x.NoRange = true
    are_single_ranges (x.MoreRange r rest) = is_single_range r && are_single_ranges rest

-- ---- whole right sides

-- the result is declared single
abbrev pub single_result : NumberedResult → Bool
single_result c.Void = false
single_result (c.Typed t) = t.is_single

-- the method has a single result
abbrev pub has_single_result : NumberedMethod → Bool
has_single_result m = single_result m.result

-- an expression that is a whole right side: a call of a method with a single result is single
abbrev pub is_single : ProgramView → Option ℕ → (ℕ → Bool) → NumberedExp → Bool
is_single program this singles e = option_map_or has_single_result (called_method program this e) (is_single_part program this singles e)

-- a value of this type is single after a broadcast; a reference isn't
abbrev pub is_single_sent : ValueType → Bool
is_single_sent Int = true
is_single_sent Long = true
is_single_sent Boolean = true
is_single_sent (Pt n) = true
is_single_sent (Rc n) = true
is_single_sent _ = false

-- the right side of a declaration or an assignment is single
abbrev pub is_single_initial : ProgramView → Option ℕ → (ℕ → Bool) → NumberedInit → Bool
is_single_initial program this singles (st.Value e) = is_single program this singles e
is_single_initial program this singles (st.NewRegion at) = true
is_single_initial program this singles (st.NewObject at region class) = false
is_single_initial program this singles (st.NewGrid at region element dims_at dims) = false
is_single_initial program this singles (st.Broadcast at e root) = is_single_sent (syntactic_type program this e)
