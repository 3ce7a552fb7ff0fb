-- Whether a statement has global effects, given only its method and the position of the innermost loop.
use Rattle.std.specs.Prelude.{Bool, false, List, map, Option, Some, None, find, slice_get}
use Rattle.std.specs.Option.{option_map_or}
use Rattle.ti_base.specs.declared.place.Place.{Place}
use Rattle.ti_lang.specs.Program.Statements.{NumberedStm}
use Rattle.ti_lang.specs.Program.Statements as st
use Rattle.ti_lang.specs.Program.Classes.{NumberedMethod, ProgramView}
use Rattle.ti_lang.specs.Program.Scope.{Whereabouts, this_of}
use Rattle.ti_lang.specs.Typing.Effects.{Doings, no_effects, doings, return_acts, jump_acts, has_global_effects}
use Rattle.ti_base.specs.Places.{same_place}
use Rattle.ti_rules.specs.StmtInContext.{StmtInContext, doings_of_loop, standing_in_method}

-- ---- the loop at a position

-- a loop whose keyword is at this position
abbrev pub is_loop_at : Place → NumberedStm → Bool
is_loop_at at (st.While place c body) = same_place at place
is_loop_at at (st.For place first c update body) = same_place at place
is_loop_at at (st.Foreach place variable domain body) = same_place at place
is_loop_at at x = false

-- the statements of a method, with all statements in them
abbrev pub statements_in : ProgramView → NumberedMethod → List NumberedStm
statements_in p m = map (λ (x : StmtInContext). x.statement) (standing_in_method p m)

-- the first loop of a method at this position; None if no loop's keyword is there
abbrev pub loop_at : ProgramView → NumberedMethod → Place → Option NumberedStm
loop_at p m at = find (is_loop_at at) (statements_in p m)

-- ---- jumps out of the loop

-- the effect summary of a loop's update and body
abbrev pub effects_in_loop : ProgramView → NumberedMethod → NumberedStm → Doings
effects_in_loop p m (st.While place c body) = doings_of_loop p m st.NoStm body
effects_in_loop p m (st.For place first c update body) = doings_of_loop p m update body
effects_in_loop p m (st.Foreach place variable domain body) = doings_of_loop p m st.NoStm body
effects_in_loop p m x = no_effects

-- whether a jump out of the loop at this position counts as a global effect; false if there is no loop
abbrev pub jump_acts_at : ProgramView → NumberedMethod → Option Place → Bool
jump_acts_at p m None = false
jump_acts_at p m (Some at) = option_map_or (λ (x : NumberedStm). jump_acts (return_acts p m) (effects_in_loop p m x)) (loop_at p m at) false

-- ---- statements

-- whether a statement has global effects here; false outside of methods
abbrev pub has_effects_at : ProgramView → Whereabouts → NumberedStm → Bool
has_effects_at p at x =
    option_map_or (λ (m : NumberedMethod). has_global_effects (return_acts p m) (jump_acts_at p m at.innermost_loop)
    (doings p (this_of m) x)) (slice_get p.methods at.method) false
