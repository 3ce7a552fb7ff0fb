-- Models of classes and their members.
use Rattle.std.specs.Prelude.{ℕ, List}
use Rattle.ti_base.specs.declared.place.Place.{Place}
use Rattle.ti_syntax.specs.declared.tree.classes.Modifier.{Modifier}
use Rattle.ti_syntax.specs.Trees.Types.{TypeTree}
use Rattle.ti_syntax.specs.Trees.Statements.{Stm}

pub record FieldTree : Type 0 where
  pub modifiers : List Modifier
  pub ty : TypeTree
  pub place : Place
  pub name : List ℕ

pub record ParamTree : Type 0 where
  pub ty : TypeTree
  pub place : Place
  pub name : List ℕ

pub data ParamsTree : Type 0 where
  MainArgs : (at : Place) (name : List ℕ) → ParamsTree
  Params : (params : List ParamTree) → ParamsTree

-- a method's declared result
pub data ResultTree : Type 0 where
  Void : (at : Place) → ResultTree
  Typed : (type : TypeTree) → ResultTree

pub record MethodTree : Type 0 where
  pub modifiers : List Modifier
  pub result : ResultTree
  pub place : Place
  pub name : List ℕ
  pub params : ParamsTree
  pub body : List Stm
  pub end : Place

pub data MemberTree : Type 0 where
  FieldMember : (field : FieldTree) → MemberTree
  MethodMember : (method : MethodTree) → MemberTree

pub record ClassTree : Type 0 where
  pub modifiers : List Modifier
  pub word : Place
  pub place : Place
  pub name : List ℕ
  pub members : List MemberTree

-- a program: its classes in source order
abbrev pub TextTree : Type 0
TextTree = List ClassTree
