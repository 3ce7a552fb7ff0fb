-- The dimensions of foreach variables, as the code lists them.
use Rattle.std.specs.Prelude.{ℕ, ◌==◌, if◌then◌else◌, List, [], ◌∷◌}
use Rattle.ti_lang.specs.declared.typing.text.ForeachDims.{ForeachDims}

-- the number of dimensions of a foreach variable, by its first entry in the list; 1 if it has none
abbrev pub dims_in : List ForeachDims → ℕ → ℕ
dims_in [] number = 1
dims_in (d ∷ ds) number = if d.variable == number then d.dims else dims_in ds number
