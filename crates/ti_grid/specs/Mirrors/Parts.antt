-- Subranges, as restrictions compute them. What a restriction means is stated by the contract of `view_restrict`.
use Rattle.std.specs.Prelude.{◌≡◌, ℕ, ◌+◌, ◌*◌, ◌<◌, ℤ}
use Rattle.ti_base.specs.Ranges.{Range, IsOn, IsRange}
use Rattle.ti_grid.specs.Mirrors.Numbers.{steps_to}

-- part is a subrange of the range a, one step of which adds s to the cell index
pub record IsSubrange (a part : Range) (s : ℕ) : Type 0 where
  pub whole : IsRange a
  pub form : IsRange part
  pub inside : (x : ℤ) → IsOn part x → IsOn a x
  pub below : (x : ℤ) → IsOn part x → steps_to a x * s < 1048576

-- one step of the subrange adds k
abbrev pub IsStretched : Range → Range → ℕ → ℕ → Type 0
IsStretched a part s k = (x : ℤ) → IsOn part x → steps_to a x * s ≡ steps_to a part.low * s + steps_to part x * k
