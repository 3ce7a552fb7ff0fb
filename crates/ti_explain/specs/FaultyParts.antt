-- The part of a statement that breaks a rule of types: the first expression in it that has the error, or that is at a position.
use Rattle.std.specs.Prelude.{Bool, false, ◌&&◌, ◌==◌, if◌then◌else◌, Option, Some, None}
use Rattle.std.specs.Option.{option_or}
use Rattle.ti_base.specs.Places.{same_place}
use Rattle.ti_lang.specs.Program.Expressions.{NumberedExp, NumberedExps, NumberedRange, NumberedRanges, place_of_numbered, numbered_ranges}
use Rattle.ti_lang.specs.Program.Expressions as x
use Rattle.ti_lang.specs.Program.Statements.{NumberedDims, NumberedInit, NumberedPrint, NumberedStm}
use Rattle.ti_lang.specs.Program.Statements as st
use Rattle.ti_lang.specs.Program.Classes.{ProgramView}
use Rattle.ti_lang.specs.Program.Scope.{ScopeContents}
use Rattle.ti_rules.specs.declared.refusal.Refusal.{Refusal}
use Rattle.ti_rules.specs.Rules.{rule_number}
use Rattle.ti_rules.specs.Mirrors.First.{earliest}
use Rattle.ti_rules.specs.Broken.Expressions.{exp_refusals}
use Rattle.ti_explain.specs.declared.faulty_parts.SoughtPart.{SoughtPart}
use Rattle.ti_explain.specs.declared.faulty_parts.SoughtPart.TheVariants.{At, Refused}

-- the error is there, and it is this one
abbrev pub is_this_error : Refusal → Option Refusal → Bool
is_this_error r None = false
is_this_error r (Some s) = same_place r.place s.place && (rule_number r.rule == rule_number s.rule)

-- the expression is at the position, or its first error by the rules of types is the one that is sought
abbrev pub is_sought : ProgramView → ScopeContents → SoughtPart → NumberedExp → Bool
is_sought p s (At at) e = same_place at (place_of_numbered e)
is_sought p s (Refused r) e = is_this_error r (earliest (exp_refusals p s e))

module _ (p : ProgramView) (s : ScopeContents) (sought : SoughtPart) where
  -- the expression itself, if it is sought
  abbrev pub itself : NumberedExp → Option NumberedExp
  itself e = if is_sought p s sought e then Some e else None

  abbrev mutual
    -- the first part of an expression that is sought; operands come before what they are part of
    pub first_part : NumberedExp → Option NumberedExp
    first_part (x.Call at method args) = option_or (first_among args) (itself (x.Call at method args))
    first_part (x.OwnCall at method args) = option_or (first_among args) (itself (x.OwnCall at method args))
    first_part (x.Point at xs) = option_or (first_among xs) (itself (x.Point at xs))
    first_part (x.Rect at ranges) = option_or (first_among_ranges ranges) (itself (x.Rect at ranges))
    first_part (x.Unary at op a) = option_or (first_part a) (itself (x.Unary at op a))
    first_part (x.Binary at op a b) = option_or (option_or (first_part a) (first_part b)) (itself (x.Binary at op a b))
    first_part (x.Cast at to a) = option_or (first_part a) (itself (x.Cast at to a))
    first_part (x.Select at a name) = option_or (first_part a) (itself (x.Select at a name))
    first_part (x.Member at a name args) = option_or (option_or (first_part a) (first_among args)) (itself (x.Member at a name args))
    first_part (x.Index at a xs) = option_or (option_or (first_part a) (first_among xs)) (itself (x.Index at a xs))
    first_part e = itself e

    -- the first one of a list of expressions
    pub first_among : NumberedExps → Option NumberedExp
    first_among x.NoExp = None
    first_among (x.MoreExp a rest) = option_or (first_part a) (first_among rest)

    -- the first one of the bounds and the stride of a range
    pub first_in_range : NumberedRange → Option NumberedExp
    first_in_range (x.Plain low high) = option_or (first_part low) (first_part high)
    first_in_range (x.Stepped low high step) = option_or (first_part low) (option_or (first_part high) (first_part step))

    -- the first one of a list of ranges
    pub first_among_ranges : NumberedRanges → Option NumberedExp
    first_among_ranges x.NoRange = None
    first_among_ranges (x.MoreRange r rest) = option_or (first_in_range r) (first_among_ranges rest)

  -- ---- in a statement

  abbrev pub first_in_maybe : Option NumberedExp → Option NumberedExp
  first_in_maybe None = None
  first_in_maybe (Some e) = first_part e

  abbrev pub first_in_dims : NumberedDims → Option NumberedExp
  first_in_dims (st.Domain e) = first_part e
  first_in_dims (st.Ranges ranges) = first_among_ranges (numbered_ranges ranges)

  -- of the right side of a declaration or an assignment
  abbrev pub first_in_initial : NumberedInit → Option NumberedExp
  first_in_initial (st.Value e) = first_part e
  first_in_initial (st.NewRegion at) = None
  first_in_initial (st.NewObject at region class) = first_in_maybe region
  first_in_initial (st.NewGrid at region element dims_at dims) = option_or (first_in_maybe region) (first_in_dims dims)
  first_in_initial (st.Broadcast at e root) = option_or (first_part e) (first_part root)

  abbrev pub first_in_print : NumberedPrint → Option NumberedExp
  first_in_print st.Nothing = None
  first_in_print (st.Text literal) = None
  first_in_print (st.Expression e) = first_part e
  first_in_print (st.TextAndExpression literal e) = first_part e

  -- of the expressions of a statement, without those of the statements in it
  abbrev pub first_in_statement : NumberedStm → Option NumberedExp
  first_in_statement (st.Declare at type variable value) = first_in_initial value
  first_in_statement (st.Assign at target value) = option_or (first_part target) (first_in_initial value)
  first_in_statement (st.Update at op target e) = option_or (first_part target) (first_part e)
  first_in_statement (st.Step at op target) = first_part target
  first_in_statement (st.Call e) = first_part e
  first_in_statement (st.Print at what) = first_in_print what
  first_in_statement (st.Return at value) = first_in_maybe value
  first_in_statement (st.If at c a) = first_part c
  first_in_statement (st.IfElse at c a b) = first_part c
  first_in_statement (st.While at c body) = first_part c
  first_in_statement (st.For at first c update body) = first_in_maybe c
  first_in_statement (st.Foreach at number domain body) = first_part domain
  first_in_statement other = None
