-- Where a variable of a method is declared. The numbers of a method's variables differ, so there is one declaration of each.
use Rattle.std.specs.Prelude.{ℕ, ◌==◌, if◌then◌else◌, Option, Some, None, slice_get}
use Rattle.std.specs.Option.{option_map, option_or}
use Rattle.ti_base.specs.declared.place.Place.{Place}
use Rattle.ti_lang.specs.Program.Statements.{NumberedStm, MaybeNumbered, NumberedStms, numbered_stms}
use Rattle.ti_lang.specs.Program.Statements as st
use Rattle.ti_lang.specs.Program.Classes.{NumberedParam, NumberedParams, MainArgs, Params, NumberedMethod}

-- the position of the parameter of this number
abbrev pub parameter_place : NumberedParams → ℕ → Option Place
parameter_place MainArgs number = None
parameter_place (Params params) number = option_map (λ (p : NumberedParam). p.place) (slice_get params number)

-- the position, if the numbers are equal
abbrev pub declared_place_if : ℕ → ℕ → Place → Option Place
declared_place_if number variable at = if variable == number then Some at else None

abbrev mutual
  -- the position of the declaration of the local variable of this number in a statement; an update of a loop declares none
  pub declared_in : ℕ → NumberedStm → Option Place
  declared_in number (st.Declare at type variable value) = declared_place_if number variable at
  declared_in number (st.Block body) = declared_among number body
  declared_in number (st.If at c a) = declared_in number a
  declared_in number (st.IfElse at c a b) = option_or (declared_in number a) (declared_in number b)
  declared_in number (st.While at c body) = declared_in number body
  declared_in number (st.For at first c update body) = option_or (declared_in_maybe number first) (declared_in number body)
  declared_in number (st.Foreach at variable domain body) = declared_in number body
  declared_in number x = None

  pub declared_in_maybe : ℕ → MaybeNumbered → Option Place
  declared_in_maybe number st.NoStm = None
  declared_in_maybe number (st.SomeStm x) = declared_in number x

  pub declared_among : ℕ → NumberedStms → Option Place
  declared_among number st.Nil = None
  declared_among number (st.Cons x rest) = option_or (declared_in number x) (declared_among number rest)

-- the position of the declaration of the variable of this number: of a parameter, or of a local variable
abbrev pub declaration_of : NumberedMethod → ℕ → Option Place
declaration_of m number = option_or (parameter_place m.params number) (declared_among number (numbered_stms m.body))
