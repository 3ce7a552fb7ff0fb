-- Models of statements.
use Rattle.std.specs.Prelude.{ℕ, List, [], ◌∷◌, Option}
use Rattle.ti_base.specs.declared.place.Place.{Place}
use Rattle.ti_syntax.specs.declared.tree.exprs.BinaryOperator.{BinaryOperator}
use Rattle.ti_syntax.specs.declared.tree.stmts.StepOperator.{StepOperator}
use Rattle.ti_syntax.specs.Trees.Types.{TypeTree}
use Rattle.ti_syntax.specs.Trees.Expressions.{Exp, RangeTree}

-- the domain of a new grid
pub data DimsTree : Type 0 where
  Domain : (x : Exp) → DimsTree
  Ranges : (ranges : List RangeTree) → DimsTree

-- an initializer: the right-hand side of a declaration or an assignment
pub data InitTree : Type 0 where
  Value : (x : Exp) → InitTree
  NewRegion : (at : Place) → InitTree
  NewObject : (at : Place) (region : Option Exp) (name_at : Place) (name : List ℕ) → InitTree
  NewGrid : (at : Place) (region : Option Exp) (element : TypeTree) (dims_at : Place) (dims : DimsTree) → InitTree
  Broadcast : (at : Place) (x root : Exp) → InitTree

-- the argument of a print
pub data PrintTree : Type 0 where
  Nothing : PrintTree
  Text : (text : List ℕ) → PrintTree
  Expression : (x : Exp) → PrintTree
  TextAndExpression : (text : List ℕ) (x : Exp) → PrintTree

mutual
  -- a statement, with its source position
  pub data Stm : Type 0 where
    Empty : Stm
    Declare : (at : Place) (type : TypeTree) (name : List ℕ) (value : InitTree) → Stm
    Assign : (at : Place) (target : Exp) (value : InitTree) → Stm
    Update : (at : Place) (op : BinaryOperator) (target x : Exp) → Stm
    Step : (at : Place) (op : StepOperator) (target : Exp) → Stm
    Call : (x : Exp) → Stm
    Print : (at : Place) (what : PrintTree) → Stm
    Barrier : (at : Place) → Stm
    Break : (at : Place) → Stm
    Continue : (at : Place) → Stm
    Return : (at : Place) (value : Option Exp) → Stm
    Block : (body : Stms) → Stm
    If : (at : Place) (c : Exp) (x : Stm) → Stm
    IfElse : (at : Place) (c : Exp) (x y : Stm) → Stm
    While : (at : Place) (c : Exp) (body : Stm) → Stm
    For : (at : Place) (first : MaybeStm) (c : Option Exp) (update : MaybeStm) (body : Stm) → Stm
    Foreach : (at name_at : Place) (name : List ℕ) (domain : Exp) (body : Stm) → Stm

  pub data MaybeStm : Type 0 where
    NoStm : MaybeStm
    SomeStm : (x : Stm) → MaybeStm

  pub data Stms : Type 0 where
    Nil : Stms
    Cons : (first : Stm) (rest : Stms) → Stms

-- ---- list nodes, from lists

abbrev pub stms : List Stm → Stms
stms [] = Nil
stms (x ∷ xs) = Cons x (stms xs)

abbrev pub block : List Stm → Stm
block xs = Block (stms xs)
