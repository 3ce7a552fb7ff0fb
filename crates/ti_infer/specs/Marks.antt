-- Where the variables of a method are declared, and which of them a marking annotates.
use Rattle.std.specs.Prelude.{ℕ, ◌==◌, Bool, false, if◌then◌else◌, Option, Some, None, option_map, slice_get}
use Rattle.std.specs.Option.{option_map_or, option_or}
use Rattle.ti_base.specs.declared.place.Place.{Place}
use Rattle.ti_lang.specs.Program.Statements.{NumberedStm, MaybeNumbered, NumberedStms, numbered_stms}
use Rattle.ti_lang.specs.Program.Statements as st
use Rattle.ti_lang.specs.Program.Classes.{NumberedParam, NumberedParams, MainArgs, Params, NumberedMethod}
use Rattle.ti_blame.specs.Marks.{Marks}

-- parameters are the variables from number 0 on
abbrev pub params_place : NumberedParams → ℕ → Option Place
params_place MainArgs number = None
params_place (Params params) number = option_map (λ (w : NumberedParam). w.place) (slice_get params number)

abbrev mutual
  -- the place at which a statement declares the variable with this number
  pub declared_place : NumberedStm → ℕ → Option Place
  declared_place (st.Declare at type variable value) number = if variable == number then Some at else None
  declared_place (st.Block body) number = declared_place_all body number
  declared_place (st.If at c a) number = declared_place a number
  declared_place (st.IfElse at c a b) number = option_or (declared_place a number) (declared_place b number)
  declared_place (st.While at c body) number = declared_place body number
  declared_place (st.For at first c update body) number =
      option_or (declared_place_maybe first number) (option_or (declared_place_maybe update number) (declared_place body number))
  declared_place (st.Foreach at variable domain body) number = declared_place body number
  declared_place x number = None

  pub declared_place_maybe : MaybeNumbered → ℕ → Option Place
  declared_place_maybe st.NoStm number = None
  declared_place_maybe (st.SomeStm x) number = declared_place x number

  pub declared_place_all : NumberedStms → ℕ → Option Place
  declared_place_all st.Nil number = None
  declared_place_all (st.Cons x rest) number = option_or (declared_place x number) (declared_place_all rest number)

-- the place at which a method declares the variable with this number
abbrev pub variable_place : NumberedMethod → ℕ → Option Place
variable_place m number = option_or (params_place m.params number) (declared_place_all (numbered_stms m.body) number)

-- the marking annotates the variable with this number
abbrev pub marks_variable : Marks → NumberedMethod → ℕ → Bool
marks_variable marks m number = option_map_or marks.variables (variable_place m number) false
