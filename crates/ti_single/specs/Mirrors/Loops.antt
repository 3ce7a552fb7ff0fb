-- For proofs only: the model of the lookup of a loop by position.
use Rattle.std.specs.Prelude.{if◌then◌else◌, Option, Some, None}
use Rattle.std.specs.Option.{option_or}
use Rattle.ti_base.specs.declared.place.Place.{Place}
use Rattle.ti_lang.specs.Program.Statements.{NumberedStm, MaybeNumbered, NumberedStms}
use Rattle.ti_lang.specs.Program.Statements as st
use Rattle.ti_base.specs.Places.{same_place}

abbrev mutual
  -- in a statement
  pub loop_in : Place → NumberedStm → Option NumberedStm
  loop_in at (st.Block body) = loop_in_all at body
  loop_in at (st.If place c x) = loop_in at x
  loop_in at (st.IfElse place c x y) = option_or (loop_in at x) (loop_in at y)
  loop_in at (st.While place c body) = if same_place at place then Some (st.While place c body) else loop_in at body
  loop_in at (st.For place first c update body) =
      if same_place at place then Some (st.For place first c update body) else
      option_or (loop_in_maybe at first) (option_or (loop_in_maybe at update) (loop_in at body))
  loop_in at (st.Foreach place variable domain body) =
      if same_place at place then Some (st.Foreach place variable domain body) else loop_in at body
  loop_in at x = None

  -- in an optional statement
  pub loop_in_maybe : Place → MaybeNumbered → Option NumberedStm
  loop_in_maybe at st.NoStm = None
  loop_in_maybe at (st.SomeStm x) = loop_in at x

  -- in a sequence of statements
  pub loop_in_all : Place → NumberedStms → Option NumberedStm
  loop_in_all at st.Nil = None
  loop_in_all at (st.Cons x rest) = option_or (loop_in at x) (loop_in_all at rest)
