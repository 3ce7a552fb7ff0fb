-- The annotations that a program could have.
use Rattle.std.specs.Prelude.{List, [], ◌∷◌, ◌++◌, map, flat_map}
use Rattle.ti_base.specs.declared.place.Place.{Place}
use Rattle.ti_lang.specs.Program.Statements.{NumberedStm, MaybeNumbered, NumberedStms, numbered_stms}
use Rattle.ti_lang.specs.Program.Statements as st
use Rattle.ti_lang.specs.Program.Classes.{NumberedParam, NumberedParams, MainArgs, Params, NumberedResult, NumberedMethod, ProgramView}
use Rattle.ti_lang.specs.Program.Classes as c
use Rattle.ti_blame.specs.declared.mark.MarkKind.TheVariants as kind
use Rattle.ti_blame.specs.declared.mark.Mark.{Mark}

abbrev pub variable_candidate : Place → Mark
variable_candidate at = record { place = at; kind = kind.Variable }

abbrev mutual
  -- those of the variables that a statement declares; the variable of a foreach has none
  pub declared_candidates : NumberedStm → List Mark
  declared_candidates (st.Declare at type variable value) = variable_candidate at ∷ []
  declared_candidates (st.Block body) = declared_candidates_all body
  declared_candidates (st.If at c a) = declared_candidates a
  declared_candidates (st.IfElse at c a b) = declared_candidates a ++ declared_candidates b
  declared_candidates (st.While at c body) = declared_candidates body
  declared_candidates (st.For at first c update body) = declared_candidates_maybe first ++ (declared_candidates_maybe update ++ declared_candidates body)
  declared_candidates (st.Foreach at variable domain body) = declared_candidates body
  declared_candidates s = []

  pub declared_candidates_maybe : MaybeNumbered → List Mark
  declared_candidates_maybe st.NoStm = []
  declared_candidates_maybe (st.SomeStm s) = declared_candidates s

  pub declared_candidates_all : NumberedStms → List Mark
  declared_candidates_all st.Nil = []
  declared_candidates_all (st.Cons s rest) = declared_candidates s ++ declared_candidates_all rest

abbrev pub param_candidate : NumberedParam → Mark
param_candidate w = variable_candidate w.place

abbrev pub param_candidates : NumberedParams → List Mark
param_candidates MainArgs = []
param_candidates (Params ws) = map param_candidate ws

-- that of a result, at the name of its method; none for `void`
abbrev pub result_candidates : Place → NumberedResult → List Mark
result_candidates at c.Void = []
result_candidates at (c.Typed type) = record { place = at; kind = kind.Result } ∷ []

-- those of a method, its result, its parameters and its local variables
abbrev pub method_candidates : NumberedMethod → List Mark
method_candidates m = record { place = m.place; kind = kind.Method } ∷ (result_candidates m.place m.result
    ++ (param_candidates m.params ++ declared_candidates_all (numbered_stms m.body)))

-- those of a program
abbrev pub candidate_marks : ProgramView → List Mark
candidate_marks p = flat_map method_candidates p.methods
