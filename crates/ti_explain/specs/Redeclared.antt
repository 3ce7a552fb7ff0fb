-- Where a name that is declared again at a position is declared first, and the first variable in scope where there are too many.
use Rattle.std.specs.Prelude.{ℕ, Bool, true, false, ◌&&◌, ◌||◌, if◌then◌else◌, List, [], ◌∷◌, ◌++◌, Option, Some, None, find, bytes_eq}
use Rattle.std.specs.List.{list_any}
use Rattle.std.specs.Option.{option_map, option_or}
use Rattle.ti_base.specs.declared.place.Place.{Place}
use Rattle.ti_base.specs.Places.{same_place}
use Rattle.ti_syntax.specs.Trees.Statements.{Stm, MaybeStm, Stms, stms}
use Rattle.ti_syntax.specs.Trees.Statements as s
use Rattle.ti_syntax.specs.Trees.Classes.{ParamTree, ParamsTree, MainArgs, Params, MethodTree, MemberTree, FieldMember, MethodMember, ClassTree, TextTree}
use Rattle.ti_explain.specs.declared.name_reason.NameReason.{NameReason}
use Rattle.ti_explain.specs.declared.name_reason.NameReason.TheVariants as why
use Rattle.ti_explain.specs.declared.reason.RefusalReason.{RefusalReason}
use Rattle.ti_explain.specs.DeclaredNames.{NameAt, variables_in, variables_in_maybe, variables_among, params_among, variables_in_method, fields_at, methods_at, classes_at}
use Rattle.ti_explain.specs.NameReasons.{name_reason}

-- ---- classes and members

-- the first declaration of this name
abbrev pub first_named : List ℕ → List NameAt → Option Place
first_named name names = option_map (λ (d : NameAt). d.place) (find (λ (d : NameAt). bytes_eq name d.name) names)

-- The first declaration that has the name of a later one, which is at this position. `before` are the declarations before these.
abbrev pub first_before : Place → List NameAt → List NameAt → Option Place
first_before p before [] = None
first_before p before (d ∷ rest) =
    option_or (if same_place p d.place then first_named d.name before else None) (first_before p (before ++ d ∷ []) rest)

-- among declarations none of which may have the name of an earlier one
abbrev pub first_among : Place → List NameAt → Option Place
first_among p names = first_before p [] names

-- ---- variables

-- one of these variables is declared at this position
abbrev pub is_declared_at : Place → List NameAt → Bool
is_declared_at p variables = list_any (λ (d : NameAt). same_place p d.place) variables

-- the name that is looked for, or any name
abbrev pub fits_name : Bool → List ℕ → List ℕ → Bool
fits_name any name own = any || bytes_eq name own

-- a declaration of such a name at this position, if these variables are declared in its scope and one of them is at position p
abbrev pub outer_at : Place → Bool → List ℕ → List ℕ → Place → List NameAt → Option Place
outer_at p any name own at inside = if fits_name any name own && is_declared_at p inside then Some at else None

-- the same of a statement, which may be a declaration
abbrev pub outer_of : Place → Bool → List ℕ → Stm → List NameAt → Option Place
outer_of p any name (s.Declare at type own value) inside = outer_at p any name own at inside
outer_of p any name _ inside = None

-- the statement is a declaration of such a name
abbrev pub is_declaration_of : Bool → List ℕ → Stm → Bool
is_declaration_of any name (s.Declare at type own value) = fits_name any name own
is_declaration_of any name _ = false

abbrev pub outer_of_maybe : Place → Bool → List ℕ → MaybeStm → List NameAt → Option Place
outer_of_maybe p any name s.NoStm inside = None
outer_of_maybe p any name (s.SomeStm x) inside = outer_of p any name x inside

abbrev mutual
  -- The first variable of such a name that is declared in the statement, if one is declared at position p in its scope: the scope of a
  -- declaration is the rest of its block, that of the head of a loop is the loop.
  pub outer_in : Place → Bool → List ℕ → Stm → Option Place
  outer_in p any name (s.Block body) = outer_among p any name body
  outer_in p any name (s.If at c x) = outer_in p any name x
  outer_in p any name (s.IfElse at c x y) = option_or (outer_in p any name x) (outer_in p any name y)
  outer_in p any name (s.While at c body) = outer_in p any name body
  outer_in p any name (s.For at first c update body) =
      option_or (outer_of_maybe p any name first (variables_in_maybe update ++ variables_in body)) (outer_in p any name body)
  outer_in p any name (s.Foreach at there own domain body) =
      option_or (outer_at p any name own there (variables_in body)) (outer_in p any name body)
  outer_in p any name _ = None

  pub outer_among : Place → Bool → List ℕ → Stms → Option Place
  outer_among p any name s.Nil = None
  outer_among p any name (s.Cons x rest) =
      option_or (outer_of p any name x (variables_among rest)) (option_or (outer_in p any name x) (outer_among p any name rest))

-- the same of parameters, whose scope is the rest of the method: these are the variables of the body
abbrev pub outer_param : Place → Bool → List ℕ → List ParamTree → List NameAt → Option Place
outer_param p any name [] inside = None
outer_param p any name (q ∷ rest) inside =
    option_or (outer_at p any name q.name q.place (params_among rest ++ inside)) (outer_param p any name rest inside)

abbrev pub outer_of_params : Place → Bool → List ℕ → ParamsTree → List NameAt → Option Place
outer_of_params p any name (MainArgs at own) inside = None
outer_of_params p any name (Params params) inside = outer_param p any name params inside

-- the first variable of such a name in whose scope one is declared at position p
abbrev pub outer_in_method : Place → Bool → List ℕ → MethodTree → Option Place
outer_in_method p any name m =
    option_or (outer_of_params p any name m.params (variables_among (stms m.body))) (outer_among p any name (stms m.body))

-- if one of these variables is declared at position p, the first of its name or of any name in whose scope that is
abbrev pub outer_variable : Place → Bool → MethodTree → List NameAt → Option Place
outer_variable p any m [] = None
outer_variable p any m (d ∷ rest) =
    option_or (if same_place p d.place then outer_in_method p any d.name m else None) (outer_variable p any m rest)

-- ---- in a source program

abbrev pub first_in_member : Place → Bool → MemberTree → Option Place
first_in_member p any (FieldMember f) = None
first_in_member p any (MethodMember m) = outer_variable p any m (variables_in_method m)

abbrev pub first_in_members : Place → Bool → List MemberTree → Option Place
first_in_members p any [] = None
first_in_members p any (member ∷ rest) = option_or (first_in_member p any member) (first_in_members p any rest)

abbrev pub first_in_class : Place → ClassTree → Option Place
first_in_class p c =
    option_or (first_among p (fields_at c.members)) (option_or (first_among p (methods_at true c.members)) (first_in_members p false c.members))

abbrev pub first_in_classes : Place → List ClassTree → Option Place
first_in_classes p [] = None
first_in_classes p (c ∷ rest) = option_or (first_in_class p c) (first_in_classes p rest)

-- the first variable in scope where one is declared at position p
abbrev pub first_in_scope : Place → List ClassTree → Option Place
first_in_scope p [] = None
first_in_scope p (c ∷ rest) = option_or (first_in_members p true c.members) (first_in_scope p rest)

-- the declaration with which that at this position clashes
abbrev pub first_declaration : TextTree → Place → Option Place
first_declaration text p = option_or (first_among p (classes_at text)) (first_in_classes p text)

abbrev pub place_reason : Option Place → NameReason → List RefusalReason
place_reason None what = []
place_reason (Some at) what = name_reason at what ∷ []

-- the reasons why the name at this position can't be declared again
abbrev pub redeclared_reasons : TextTree → Place → List RefusalReason
redeclared_reasons text p = place_reason (first_declaration text p) why.FirstDeclaration

-- the reasons why no further variable can be declared at this position
abbrev pub full_scope_reasons : TextTree → Place → List RefusalReason
full_scope_reasons text p = place_reason (first_in_scope p text) why.FirstInScope
