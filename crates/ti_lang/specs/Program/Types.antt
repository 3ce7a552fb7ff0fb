-- Types, declarations and uses of variables.
use Rattle.std.specs.Prelude.{ℕ, Bool, List}
use Rattle.ti_syntax.specs.declared.tree.types.Qualifier.{Qualifier}
use Rattle.ti_syntax.specs.Trees.Types.{GridTree}

-- a type, without `single`
pub data ValueType : Type 0 where
  Int : ValueType
  Long : ValueType
  Boolean : ValueType
  Pt : (dim : ℕ) → ValueType
  Rc : (dim : ℕ) → ValueType
  Dm : (dim : ℕ) → ValueType
  Region : ValueType
  -- an object of the class of this number
  Class : (class : ℕ) (is_local : Bool) → ValueType
  Grid : (element : ValueType) (dim : ℕ) (is_local : Bool) → ValueType
  -- the type of `null`
  Null : ValueType
  -- the type of a call of a method without a result
  Void : ValueType

-- a type as it is written: the type, whether it is single, and the qualifiers of its base and of its grids
pub record NumberedType : Type 0 where
  pub type : ValueType
  pub is_single : Bool
  pub qualifiers : List Qualifier
  pub grids : List GridTree

-- the declaration of a variable: its type and whether it is single; that of a foreach variable has neither
pub data Declaration : Type 0 where
  Typed : (is_single : Bool) (type : ValueType) → Declaration
  Foreach : Declaration

-- a use of a variable: its number in its method, and its declaration
pub record VariableUse : Type 0 where
  pub number : ℕ
  pub declared : Declaration
