-- Why nothing of a name can be used where the name is: what is sought there, and where the name, or one with nearly its spelling, is declared.
use Rattle.std.specs.Prelude.{ℕ, Bool, true, false, not, ◌&&◌, if◌then◌else◌, List, [], ◌∷◌, ◌++◌, Option, Some, None, bytes_eq}
use Rattle.std.specs.List.{list_any}
use Rattle.ti_base.specs.declared.place.Place.{Place}
use Rattle.ti_base.specs.Places.{place_before}
use Rattle.ti_syntax.specs.Trees.Classes.{ParamsTree, MainArgs, Params, MethodTree, MemberTree, FieldMember, MethodMember, ClassTree, TextTree}
use Rattle.ti_lang.specs.Members.{is_static}
use Rattle.ti_explain.specs.declared.name_reason.SoughtName.{SoughtName}
use Rattle.ti_explain.specs.declared.name_reason.SoughtName.TheVariants.{Variable, BeforeDot, Method, StaticMethod, StaticField, Class, This}
use Rattle.ti_explain.specs.declared.name_reason.NameReason.{NameReason}
use Rattle.ti_explain.specs.declared.name_reason.NameReason.TheVariants as why
use Rattle.ti_explain.specs.declared.reason.RefusalReason.{RefusalReason}
use Rattle.ti_explain.specs.declared.reason.ReasonKind.TheVariants.{Name}
use Rattle.ti_explain.specs.DeclaredNames.{NameAt, variables_in_method, declared_before, fields_at, methods_at, classes_at, static_methods_at}
use Rattle.ti_explain.specs.NameUses.{UsedName, use_in_type, use_in_method}
use Rattle.ti_explain.specs.NearSpelling.{is_near}

abbrev pub name_reason : Place → NameReason → RefusalReason
name_reason at what = record { place = at; kind = Name what }

abbrev pub reason_if : Bool → Place → NameReason → List RefusalReason
reason_if is at what = if is then name_reason at what ∷ [] else []

abbrev pub has_reason : List RefusalReason → Bool
has_reason [] = false
has_reason (r ∷ rest) = true

-- the first list, unless it is empty
abbrev pub first_nonempty : List RefusalReason → List RefusalReason → List RefusalReason
first_nonempty reasons others = if has_reason reasons then reasons else others

-- ---- the same name elsewhere

abbrev pub scope_reason : Bool → NameReason
scope_reason is_later = if is_later then why.DeclaredLater else why.OutOfScope

-- the variables of this name among those of the method: they aren't in scope at this position
abbrev pub scope_reasons : Place → List ℕ → List NameAt → List RefusalReason
scope_reasons p name [] = []
scope_reasons p name (v ∷ rest) =
    reason_if (bytes_eq name v.name) v.place (scope_reason (place_before p v.place)) ++ scope_reasons p name rest

-- the parameter of `main`, if it has this name
abbrev pub parameter_reasons : List ℕ → ParamsTree → List RefusalReason
parameter_reasons name (MainArgs at own) = reason_if (bytes_eq name own) at why.MainParameter
parameter_reasons name (Params params) = []

-- the fields of this name in a class of that name
abbrev pub fields_named : List ℕ → List ℕ → List MemberTree → List RefusalReason
fields_named class name [] = []
fields_named class name (FieldMember f ∷ rest) = reason_if (bytes_eq name f.name) f.place (why.FieldOf class) ++ fields_named class name rest
fields_named class name (MethodMember m ∷ rest) = fields_named class name rest

abbrev pub fields_named_in : List ℕ → TextTree → List RefusalReason
fields_named_in name [] = []
fields_named_in name (c ∷ rest) = fields_named c.name name c.members ++ fields_named_in name rest

abbrev pub method_reason : Bool → List ℕ → NameReason
method_reason is_static class = if is_static then why.StaticMethodOf class else why.MethodOf class

-- the methods of this name in a class of that name
abbrev pub methods_named : List ℕ → List ℕ → List MemberTree → List RefusalReason
methods_named class name [] = []
methods_named class name (FieldMember f ∷ rest) = methods_named class name rest
methods_named class name (MethodMember m ∷ rest) =
    reason_if (bytes_eq name m.name) m.place (method_reason (is_static m) class) ++ methods_named class name rest

abbrev pub methods_named_in : List ℕ → TextTree → List RefusalReason
methods_named_in name [] = []
methods_named_in name (c ∷ rest) = methods_named c.name name c.members ++ methods_named_in name rest

-- one of them has the name
abbrev pub has_name_among : List ℕ → List NameAt → Bool
has_name_among name names = list_any (λ (d : NameAt). bytes_eq name d.name) names

module _ (text : TextTree) (c : ClassTree) (m : MethodTree) (p : Place) where
  -- a static method around the use has no `this`, which the name would need
  abbrev pub around_if : Bool → List RefusalReason
  around_if needs_this = reason_if (is_static m && needs_this) m.place why.StaticAround

  -- where else a variable or a field of this name is
  abbrev pub standing_variable : List ℕ → List RefusalReason
  standing_variable name = ((scope_reasons p name (variables_in_method m) ++ parameter_reasons name m.params) ++ fields_named_in name text)
      ++ around_if (has_name_among name (fields_at c.members))

  -- where else the name is
  abbrev pub standing : SoughtName → List ℕ → List RefusalReason
  standing Variable name = standing_variable name
  standing BeforeDot name = standing_variable name
  standing Method name = methods_named_in name text ++ around_if (has_name_among name (methods_at true c.members))
  standing StaticMethod name = methods_named_in name text
  standing StaticField name = fields_named_in name text
  standing Class name = []
  standing This name = around_if true

  -- ---- nearly the same spelling

  -- the variables declared before the use, and the fields of `this`
  abbrev pub variables_near : List NameAt
  variables_near = declared_before p (variables_in_method m) ++ (if is_static m then [] else fields_at c.members)

  -- the names that could be meant
  abbrev pub candidates : SoughtName → List ℕ → List NameAt
  candidates Variable class = variables_near
  candidates BeforeDot class = variables_near ++ classes_at text
  candidates Method class = methods_at (not (is_static m)) c.members
  candidates StaticMethod class = static_methods_at class text
  candidates StaticField class = []
  candidates Class class = classes_at text
  candidates This class = []

-- those of the names that have nearly this spelling
abbrev pub near_reasons : Bool → List ℕ → List NameAt → List RefusalReason
near_reasons two name [] = []
near_reasons two name (d ∷ rest) = reason_if (is_near two name d.name) d.place (why.NearSpelling d.name) ++ near_reasons two name rest

-- those that differ in one letter, or if there are none, those that differ in two
abbrev pub spellings : List ℕ → List NameAt → List RefusalReason
spellings name names = first_nonempty (near_reasons false name names) (near_reasons true name names)

-- ---- a use

-- what is sought at a position
abbrev pub sought_reason : Place → SoughtName → List RefusalReason
sought_reason p sought = name_reason p (why.Sought sought) ∷ []

-- the reasons for the use of a name in the type of a field
abbrev pub type_reasons : TextTree → Place → Option UsedName → List RefusalReason
type_reasons text p None = []
type_reasons text p (Some u) = spellings u.name (classes_at text) ++ sought_reason p u.sought

-- the reasons for a use in a method: where else the name is, or else the nearest spellings, and what is sought
abbrev pub use_reasons : TextTree → ClassTree → MethodTree → Place → Option UsedName → List RefusalReason
use_reasons text c m p None = []
use_reasons text c m p (Some u) =
    first_nonempty (standing text c m p u.sought u.name) (spellings u.name (candidates text c m p u.sought u.class)) ++ sought_reason p u.sought

-- ---- in a source program

abbrev pub member_reasons : TextTree → ClassTree → Place → MemberTree → List RefusalReason
member_reasons text c p (FieldMember f) = type_reasons text p (use_in_type p f.ty)
member_reasons text c p (MethodMember m) = use_reasons text c m p (use_in_method p m)

abbrev pub unknown_among : TextTree → ClassTree → Place → List MemberTree → List RefusalReason
unknown_among text c p [] = []
unknown_among text c p (member ∷ rest) = first_nonempty (member_reasons text c p member) (unknown_among text c p rest)

abbrev pub unknown_in : TextTree → Place → List ClassTree → List RefusalReason
unknown_in text p [] = []
unknown_in text p (c ∷ rest) = first_nonempty (unknown_among text c p c.members) (unknown_in text p rest)

-- the reasons why nothing of the name at this position can be used there
abbrev pub unknown_reasons : TextTree → Place → List RefusalReason
unknown_reasons text p = unknown_in text p text
