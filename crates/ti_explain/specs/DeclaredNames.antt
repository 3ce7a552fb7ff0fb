-- Declared names with their positions: the variables of a method, in scope or not, members and classes.
use Rattle.std.specs.Prelude.{ℕ, Bool, ◌||◌, if◌then◌else◌, List, [], ◌∷◌, ◌++◌, bytes_eq, false}
use Rattle.ti_base.specs.declared.place.Place.{Place}
use Rattle.ti_base.specs.Places.{place_before}
use Rattle.ti_syntax.specs.Trees.Statements.{Stm, MaybeStm, Stms, stms}
use Rattle.ti_syntax.specs.Trees.Statements as s
use Rattle.ti_syntax.specs.Trees.Classes.{ParamTree, ParamsTree, MainArgs, Params, MethodTree, MemberTree, FieldMember, MethodMember, ClassTree, TextTree}
use Rattle.ti_lang.specs.Members.{is_static}

-- a declared name, with its position
pub record NameAt : Type 0 where
  pub name : List ℕ
  pub place : Place

abbrev pub name_at : List ℕ → Place → NameAt
name_at name place = record { name = name; place = place }

-- ---- variables

abbrev mutual
  -- the variables that a statement declares, with all statements in it
  pub variables_in : Stm → List NameAt
  variables_in (s.Declare at type name value) = name_at name at ∷ []
  variables_in (s.Block body) = variables_among body
  variables_in (s.If at c x) = variables_in x
  variables_in (s.IfElse at c x y) = variables_in x ++ variables_in y
  variables_in (s.While at c body) = variables_in body
  variables_in (s.For at first c update body) = (variables_in_maybe first ++ variables_in_maybe update) ++ variables_in body
  variables_in (s.Foreach at there name domain body) = name_at name there ∷ variables_in body
  variables_in _ = []

  pub variables_in_maybe : MaybeStm → List NameAt
  variables_in_maybe s.NoStm = []
  variables_in_maybe (s.SomeStm x) = variables_in x

  pub variables_among : Stms → List NameAt
  variables_among s.Nil = []
  variables_among (s.Cons x rest) = variables_in x ++ variables_among rest

abbrev pub params_among : List ParamTree → List NameAt
params_among [] = []
params_among (p ∷ rest) = name_at p.name p.place ∷ params_among rest

-- the parameter `String[] x` is no variable
abbrev pub variables_in_params : ParamsTree → List NameAt
variables_in_params (MainArgs at name) = []
variables_in_params (Params params) = params_among params

-- the variables that a method declares, in source order
abbrev pub variables_in_method : MethodTree → List NameAt
variables_in_method m = variables_in_params m.params ++ variables_among (stms m.body)

-- those of these variables that are declared before a position
abbrev pub declared_before : Place → List NameAt → List NameAt
declared_before p [] = []
declared_before p (v ∷ rest) = (if place_before v.place p then v ∷ [] else []) ++ declared_before p rest

-- ---- members and classes

abbrev pub fields_at : List MemberTree → List NameAt
fields_at [] = []
fields_at (FieldMember f ∷ rest) = name_at f.name f.place ∷ fields_at rest
fields_at (MethodMember m ∷ rest) = fields_at rest

-- the methods; if not all are wanted, the static ones
abbrev pub methods_at : Bool → List MemberTree → List NameAt
methods_at all [] = []
methods_at all (FieldMember f ∷ rest) = methods_at all rest
methods_at all (MethodMember m ∷ rest) = (if all || is_static m then name_at m.name m.place ∷ [] else []) ++ methods_at all rest

abbrev pub classes_at : TextTree → List NameAt
classes_at [] = []
classes_at (c ∷ rest) = name_at c.name c.place ∷ classes_at rest

-- the static methods of the classes of this name
abbrev pub static_methods_at : List ℕ → TextTree → List NameAt
static_methods_at class [] = []
static_methods_at class (c ∷ rest) = (if bytes_eq class c.name then methods_at false c.members else []) ++ static_methods_at class rest
