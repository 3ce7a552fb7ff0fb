-- Models of types as written.
use Rattle.std.specs.Prelude.{ℕ, List}
use Rattle.ti_syntax.specs.declared.tree.types.Base.{Base}
use Rattle.ti_syntax.specs.declared.tree.types.Qualifier.{Qualifier}

-- one pair of grid brackets: the number of dimensions, and the qualifiers of the grid
pub record GridTree : Type 0 where
  pub dim : ℕ
  pub qualifiers : List Qualifier

-- a type: its base with the base's qualifiers, then the grid brackets after it, the outermost grid first
pub record TypeTree : Type 0 where
  pub base : Base
  pub qualifiers : List Qualifier
  pub grids : List GridTree
