-- Assignments of `single` annotations (markings) to the programs of `Programs`, as lists of annotated declarations.
use Rattle.std.specs.Prelude.{List, [], ◌∷◌}
use Rattle.ti_blame.specs.declared.mark.MarkKind.TheVariants as kind
use Rattle.ti_blame.specs.declared.mark.Mark.{Mark}
use Rattle.ti_rows_of_laws.specs.Texts.{pl}

-- no annotation
abbrev pub no_marks : List Mark
no_marks = []

-- the method `main` is annotated
abbrev pub main : List Mark
main = record { place = pl 1 40; kind = kind.Method } ∷ []

-- the variable that is declared first is annotated
abbrev pub the_first : List Mark
the_first = record { place = pl 1 66; kind = kind.Variable } ∷ []

-- the second variable of `two_numbers` is annotated
abbrev pub the_second : List Mark
the_second = record { place = pl 1 77; kind = kind.Variable } ∷ []

-- both variables of `two_numbers` are annotated, listed in increasing order of location
abbrev pub both_marks : List Mark
both_marks = record { place = pl 1 66; kind = kind.Variable } ∷ record { place = pl 1 77; kind = kind.Variable } ∷ []

-- both variables of `two_numbers` are annotated, listed in decreasing order of location
abbrev pub both_falling : List Mark
both_falling = record { place = pl 1 77; kind = kind.Variable } ∷ record { place = pl 1 66; kind = kind.Variable } ∷ []
