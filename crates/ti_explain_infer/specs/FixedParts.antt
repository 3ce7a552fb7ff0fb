-- What no annotation makes single of a collective: of the conditions around it, or of its root or region.
use Rattle.std.specs.Prelude.{ℕ, Bool, true, false, if◌then◌else◌, List, [], ◌∷◌, Option, Some, None}
use Rattle.std.specs.Option.{option_map, option_or, unwrap_or}
use Rattle.ti_base.specs.declared.place.Place.{Place}
use Rattle.ti_base.specs.Places.{same_place}
use Rattle.ti_lang.specs.Program.Expressions.{NumberedExp, place_of_numbered}
use Rattle.ti_lang.specs.Program.Expressions as x
use Rattle.ti_lang.specs.Program.Statements.{NumberedInit, NumberedStm, MaybeNumbered, NumberedStms, numbered_stms}
use Rattle.ti_lang.specs.Program.Statements as st
use Rattle.ti_lang.specs.Program.Classes.{NumberedMethod, ProgramView}
use Rattle.ti_lang.specs.Program.Scope.{ScopeContents, this_of}
use Rattle.ti_rules.specs.StmtInContext.{singles_in}
use Rattle.ti_explain.specs.declared.reason.PlainCause.{PlainCause}
use Rattle.ti_explain.specs.declared.reason.PlainCause.TheVariants as cause
use Rattle.ti_explain.specs.declared.reason.PlainPart.{PlainPart}
use Rattle.ti_explain.specs.PlainParts.{plain_part}

-- ---- parts of expressions

abbrev pub is_variable_cause : PlainCause → Bool
is_variable_cause cause.Variable = true
is_variable_cause cause.ForeachVariable = true
is_variable_cause why = false

-- a plain part other than a variable, which an annotation may make single
abbrev pub unless_variable : Option PlainPart → Option PlainPart
unless_variable None = None
unless_variable (Some part) = if is_variable_cause part.cause then None else Some part

-- whether a right-hand side is a collective at this position
abbrev pub is_initial_at : Place → NumberedInit → Bool
is_initial_at at (st.Value e) = same_place at (place_of_numbered e)
is_initial_at at (st.NewRegion place) = same_place at place
is_initial_at at (st.Broadcast place e root) = same_place at place
is_initial_at at value = false

module _ (p : ProgramView) (this : Option ℕ) (singles : ℕ → Bool) where
  -- in the operands of operators, the first plain part that no annotation makes single
  abbrev pub fixed_part : NumberedExp → Option PlainPart
  fixed_part (x.Unary at op a) = fixed_part a
  fixed_part (x.Binary at op a b) = option_or (fixed_part a) (fixed_part b)
  fixed_part e = unless_variable (plain_part p this singles e)

  -- the first such part of the region that a call deletes
  abbrev pub whole_part : NumberedExp → Option PlainPart
  whole_part (x.Member at a name args) = fixed_part a
  whole_part e = None

  -- the first such part of the root or the region of a collective that is a right-hand side
  abbrev pub initial_part : NumberedInit → Option PlainPart
  initial_part (st.Value e) = whole_part e
  initial_part (st.Broadcast at e root) = fixed_part root
  initial_part value = None

-- ---- statements

-- the collective with this part of its own is here, if it is
abbrev pub here : Bool → Bool → Option PlainPart → Option (Option PlainPart)
here of_conditions is part = if is then Some (if of_conditions then None else part) else None

module _ (p : ProgramView) (this : Option ℕ) (singles : ℕ → Bool) (of_conditions : Bool) where
  -- within a condition, whose own part comes first
  abbrev pub within_condition : NumberedExp → Option (Option PlainPart) → Option (Option PlainPart)
  within_condition c None = None
  within_condition c (Some part) = Some (if of_conditions then option_or (fixed_part p this singles c) part else part)

  abbrev pub within_maybe : Option NumberedExp → Option (Option PlainPart) → Option (Option PlainPart)
  within_maybe None found = found
  within_maybe (Some c) found = within_condition c found

  abbrev mutual
    -- if the collective at this position is in the statement, the first part that no annotation makes single of the conditions around it,
    -- or of its root or region
    pub part_around : Place → NumberedStm → Option (Option PlainPart)
    part_around at (st.Declare place type variable value) = here of_conditions (is_initial_at at value) (initial_part p this singles value)
    part_around at (st.Assign place target value) = here of_conditions (is_initial_at at value) (initial_part p this singles value)
    part_around at (st.Update place op target e) = here of_conditions (same_place at (place_of_numbered e)) (whole_part p this singles e)
    part_around at (st.Call e) = here of_conditions (same_place at (place_of_numbered e)) (whole_part p this singles e)
    part_around at (st.Barrier place) = here of_conditions (same_place at place) None
    part_around at (st.Block body) = part_around_all at body
    part_around at (st.If place c a) = within_condition c (part_around at a)
    part_around at (st.IfElse place c a b) = within_condition c (option_or (part_around at a) (part_around at b))
    part_around at (st.While place c body) = within_condition c (part_around at body)
    part_around at (st.For place first c update body) =
        option_or (part_around_maybe at first) (within_maybe c (option_or (part_around at body) (part_around_maybe at update)))
    part_around at (st.Foreach place variable domain body) = within_condition domain (part_around at body)
    part_around at s = None

    pub part_around_maybe : Place → MaybeNumbered → Option (Option PlainPart)
    part_around_maybe at st.NoStm = None
    part_around_maybe at (st.SomeStm s) = part_around at s

    pub part_around_all : Place → NumberedStms → Option (Option PlainPart)
    part_around_all at st.Nil = None
    part_around_all at (st.Cons s rest) = option_or (part_around at s) (part_around_all at rest)

-- ---- programs

-- the scope of a method without variables
abbrev pub bare_scope : NumberedMethod → ScopeContents
bare_scope m = record { this_class = this_of m; variables = [] }

abbrev pub part_in_method : ProgramView → Bool → Place → NumberedMethod → Option (Option PlainPart)
part_in_method p of_conditions at m = part_around_all p (this_of m) (singles_in (bare_scope m)) of_conditions at (numbered_stms m.body)

abbrev pub part_in_methods : ProgramView → Bool → Place → List NumberedMethod → Option (Option PlainPart)
part_in_methods p of_conditions at [] = None
part_in_methods p of_conditions at (m ∷ ms) = option_or (part_in_method p of_conditions at m) (part_in_methods p of_conditions at ms)

-- the first part that no annotation makes single of the conditions around the collective at this position, or of its root or region
abbrev pub collective_part : ProgramView → Bool → Place → Option PlainPart
collective_part p of_conditions at = unwrap_or (part_in_methods p of_conditions at p.methods) None
