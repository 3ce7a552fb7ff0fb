-- Mirrors the code: only contracts of private functions use this definition.
use Rattle.std.specs.Prelude.{ℕ, pos, ◌-ℤ◌, [], ◌∷◌}
use Rattle.ti_base.specs.declared.point.Point.{Point}
use Rattle.ti_lang.specs.Meaning.Literals.{point_of_numbers}

-- The element of the last of `procs` processes.
abbrev pub last_proc_element : ℕ → Point
last_proc_element procs = point_of_numbers ((pos procs -ℤ pos 1) ∷ [])
