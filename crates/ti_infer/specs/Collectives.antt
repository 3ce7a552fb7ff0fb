-- The collectives of a program.
use Rattle.std.specs.Prelude.{ℕ, if◌then◌else◌, List, [], ◌∷◌, flat_map, Option}
use Rattle.ti_base.specs.declared.place.Place.{Place}
use Rattle.ti_lang.specs.Program.Expressions.{NumberedExp, place_of_numbered}
use Rattle.ti_lang.specs.Program.Statements.{NumberedInit, NumberedStm}
use Rattle.ti_lang.specs.Program.Statements as st
use Rattle.ti_lang.specs.Program.Classes.{ProgramView}
use Rattle.ti_lang.specs.Program.Scope.{this_of}
use Rattle.ti_lang.specs.Typing.Effects.{is_collective_call}
use Rattle.ti_rules.specs.StmtInContext.{StmtInContext, standing_in}

module _ (p : ProgramView) (this : Option ℕ) where
  -- of an expression that is a whole statement or right side: an exchange, or the deletion of a region
  abbrev pub whole_collectives : NumberedExp → List Place
  whole_collectives e = if is_collective_call p this e then place_of_numbered e ∷ [] else []

  -- of a right side: also a new region, or a broadcast
  abbrev pub initial_collectives : NumberedInit → List Place
  initial_collectives (st.Value e) = whole_collectives e
  initial_collectives (st.NewRegion at) = at ∷ []
  initial_collectives (st.Broadcast at e root) = at ∷ []
  initial_collectives value = []

  -- of a statement, without the statements in it
  abbrev pub own_collectives : NumberedStm → List Place
  own_collectives (st.Declare at type variable value) = initial_collectives value
  own_collectives (st.Assign at target value) = initial_collectives value
  own_collectives (st.Update at op target e) = whole_collectives e
  own_collectives (st.Call e) = whole_collectives e
  own_collectives (st.Barrier at) = at ∷ []
  own_collectives s = []

-- the places of the collectives of a program, in source order
abbrev pub collectives : ProgramView → List Place
collectives p = flat_map (λ (s : StmtInContext). own_collectives p (this_of s.around.method) s.statement) (standing_in p)
