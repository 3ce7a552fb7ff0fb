-- Models of expressions.
use Rattle.std.specs.Prelude.{ℕ, ℤ, Bool, List, [], ◌∷◌}
use Rattle.ti_base.specs.declared.place.Place.{Place}
use Rattle.ti_syntax.specs.declared.tree.exprs.UnaryOperator.{UnaryOperator}
use Rattle.ti_syntax.specs.declared.tree.exprs.BinaryOperator.{BinaryOperator}
use Rattle.ti_syntax.specs.Trees.Types.{TypeTree}

mutual
  -- an expression, with the source position of its node
  pub data Exp : Type 0 where
    Int : (at : Place) (n : ℤ) → Exp
    Long : (at : Place) (n : ℤ) → Exp
    Truth : (at : Place) (b : Bool) → Exp
    Null : (at : Place) → Exp
    This : (at : Place) → Exp
    Name : (at : Place) (name : List ℕ) → Exp
    Call : (at : Place) (name : List ℕ) (args : Exps) → Exp
    ThisProc : (at : Place) → Exp
    NumProcs : (at : Place) → Exp
    Point : (at : Place) (parts : Exps) → Exp
    Rect : (at : Place) (ranges : RangeTrees) → Exp
    Unary : (at : Place) (op : UnaryOperator) (x : Exp) → Exp
    Binary : (at : Place) (op : BinaryOperator) (x y : Exp) → Exp
    Cast : (at : Place) (to : TypeTree) (x : Exp) → Exp
    Select : (at : Place) (x : Exp) (name : List ℕ) → Exp
    Member : (at : Place) (x : Exp) (name : List ℕ) (args : Exps) → Exp
    Index : (at : Place) (x : Exp) (parts : Exps) → Exp

  pub data Exps : Type 0 where
    NoExp : Exps
    MoreExp : (first : Exp) (rest : Exps) → Exps

  -- a range, with or without a step
  pub data RangeTree : Type 0 where
    Plain : (low high : Exp) → RangeTree
    Stepped : (low high step : Exp) → RangeTree

  pub data RangeTrees : Type 0 where
    NoRange : RangeTrees
    MoreRange : (first : RangeTree) (rest : RangeTrees) → RangeTrees

-- ---- list nodes, from lists

abbrev pub exps : List Exp → Exps
exps [] = NoExp
exps (x ∷ xs) = MoreExp x (exps xs)

abbrev pub ranges_tree : List RangeTree → RangeTrees
ranges_tree [] = NoRange
ranges_tree (x ∷ xs) = MoreRange x (ranges_tree xs)

abbrev pub call : Place → List ℕ → List Exp → Exp
call at name xs = Call at name (exps xs)

abbrev pub point : Place → List Exp → Exp
point at xs = Point at (exps xs)

abbrev pub rect : Place → List RangeTree → Exp
rect at rs = Rect at (ranges_tree rs)

abbrev pub member : Place → Exp → List ℕ → List Exp → Exp
member at x name xs = Member at x name (exps xs)

abbrev pub index : Place → Exp → List Exp → Exp
index at x xs = Index at x (exps xs)

-- the source position of the root node
abbrev pub place_of_exp : Exp → Place
place_of_exp (Int at n) = at
place_of_exp (Long at n) = at
place_of_exp (Truth at b) = at
place_of_exp (Null at) = at
place_of_exp (This at) = at
place_of_exp (Name at name) = at
place_of_exp (Call at name args) = at
place_of_exp (ThisProc at) = at
place_of_exp (NumProcs at) = at
place_of_exp (Point at parts) = at
place_of_exp (Rect at ranges) = at
place_of_exp (Unary at op x) = at
place_of_exp (Binary at op x y) = at
place_of_exp (Cast at to x) = at
place_of_exp (Select at x name) = at
place_of_exp (Member at x name args) = at
place_of_exp (Index at x parts) = at
