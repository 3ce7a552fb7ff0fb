-- In a tree with other modifiers and qualifiers each name resolves to the same declaration, and types are equal except for `single`.
use Rattle.std.proofs.Common.{◌≡◌, ℕ, ◌+◌, ◌==◌, Bool, false, not, ◌&&◌, cond, nat_lt, List, [], ◌∷◌, ◌++◌, map, flat_map, fold, position, slice_get, option_map, Option, Some, None, bytes_eq, refl, ap, ap₂, sym, ◌∙◌}
use Rattle.std.specs.List.{list_any, position_or_len}
use Rattle.std.specs.Option.{option_map_or}
use Rattle.std.proofs.lemmas.Option.{slice_get-map}
use Rattle.std.proofs.lemmas.List.{length-map}
use Rattle.ti_base.specs.declared.place.Place.{Place}
use Rattle.ti_syntax.specs.declared.tree.types.Base.{Base}
use Rattle.ti_syntax.specs.declared.tree.types.Base.TheVariants as b
use Rattle.ti_syntax.specs.declared.tree.types.Qualifier.{Qualifier}
use Rattle.ti_syntax.specs.declared.tree.classes.Modifier.{Modifier}
use Rattle.ti_syntax.specs.Trees.Types.{GridTree, TypeTree}
use Rattle.ti_syntax.specs.Trees.Statements.{Stm, MaybeStm, Stms, stms}
use Rattle.ti_syntax.specs.Trees.Statements as s
use Rattle.ti_syntax.specs.Trees.Classes.{FieldTree, ParamsTree, MethodTree, MemberTree, FieldMember, MethodMember, ClassTree, TextTree}
use Rattle.ti_lang.specs.Members.{class_named, fields_in, field_named, OwnMethod, methods_in, methods_from, methods_of, method_named, is_static_word, is_static, is_static_method, name_of_member, with_name, built_in, names_of, name_number}
use Rattle.ti_lang.specs.Scopes.{has_local, class_type, base_type, grid_type, value_type, literals, literals_of, literals_in, literals_of_text}
use Rattle.ti_lang.specs.Program.Types.{ValueType}
use Rattle.ti_lang.specs.Program.Types as t
use Rattle.ti_lang.specs.Numbering.{IsKnownBase}
use Rattle.ti_infer.specs.Remarked.{Remarking, remarked_grid, remarked_type, remarked_stm, remarked_maybe, remarked_all, remarked_field, remarked_method, remarked_member, remarked_class, remarked_text}

abbrev pub any_static : List Modifier → Bool
any_static ms = list_any (λ (m : Modifier). is_static_word m.word) ms

-- the other words have `local` and `static` where the words have
pub record IsMild (r : Remarking) : Type 0 where
  pub words : (qs : List Qualifier) → has_local (r.words qs) ≡ has_local qs
  pub declared : (at : Place) (qs : List Qualifier) → has_local (r.declared at qs) ≡ has_local qs
  pub results : (at : Place) (qs : List Qualifier) → has_local (r.results at qs) ≡ has_local qs
  pub methods : (params : ParamsTree) (at : Place) (ms : List Modifier) → any_static (r.methods params at ms) ≡ any_static ms

position_map : {A B : Type 0} (f : A → B) (test : B → Bool) (xs : List A) → position test (map f xs) ≡ position (λ y. test (f y)) xs
position_map {A} f test xs = ap₂ (λ n k. cond (nat_lt n k) (Some n) None) (by xs) (length-map xs f)
  where
    by : (xs : List A) → position_or_len test (map f xs) ≡ position_or_len (λ y. test (f y)) xs
    by [] = refl
    by (y ∷ ys) = ap (λ n. cond (not (test (f y))) (1 + n) 0) (by ys)

pub map_both : {A B : Type 0} (f : A → B) (xs ys : List A) → map f (xs ++ ys) ≡ map f xs ++ map f ys
map_both f [] ys = refl
map_both f (z ∷ xs) ys = ap (λ zs. f z ∷ zs) (map_both f xs ys)

module _ (r : Remarking) where
  abbrev pub remarked_own : OwnMethod → OwnMethod
  remarked_own own = record { class = own.class; method = remarked_method r own.method }

  -- ---- classes and fields

  pub class_same : (text : TextTree) (name : List ℕ) → class_named (remarked_text r text) name ≡ class_named text name
  class_same text name = position_map (remarked_class r) (λ (c : ClassTree). bytes_eq name c.name) text

  pub fields_same : (ms : List MemberTree) → fields_in (map (remarked_member r) ms) ≡ map (remarked_field r) (fields_in ms)
  fields_same [] = refl
  fields_same (FieldMember f ∷ ms) = ap (λ fs. remarked_field r f ∷ fs) (fields_same ms)
  fields_same (MethodMember m ∷ ms) = fields_same ms

  abbrev named_in : List ℕ → List FieldTree → Option ℕ
  named_in name fs = position (λ (f : FieldTree). bytes_eq name f.name) fs

  pub field_same : (text : TextTree) (class : ℕ) (name : List ℕ)
      → field_named (remarked_text r text) class name ≡ field_named text class name
  field_same text class name =
      ap (λ o. named_in name (option_map_or (λ (d : ClassTree). fields_in d.members) o [])) (slice_get-map (remarked_class r) text class)
      ∙ by (slice_get text class)
    where
      by : (o : Option ClassTree)
          → named_in name (option_map_or (λ (d : ClassTree). fields_in d.members) (option_map (remarked_class r) o) [])
          ≡ named_in name (option_map_or (λ (d : ClassTree). fields_in d.members) o [])
      by None = refl
      by (Some d) =
          ap (named_in name) (fields_same d.members)
          ∙ position_map (remarked_field r) (λ (f : FieldTree). bytes_eq name f.name) (fields_in d.members)

  -- ---- methods

  methods_in_same : (class : ℕ) (ms : List MemberTree)
      → methods_in class (map (remarked_member r) ms) ≡ map remarked_own (methods_in class ms)
  methods_in_same class [] = refl
  methods_in_same class (FieldMember f ∷ ms) = methods_in_same class ms
  methods_in_same class (MethodMember m ∷ ms) =
      ap (λ os. remarked_own (record { class = class; method = m }) ∷ os) (methods_in_same class ms)

  methods_from_same : (class : ℕ) (cs : List ClassTree)
      → methods_from class (map (remarked_class r) cs) ≡ map remarked_own (methods_from class cs)
  methods_from_same class [] = refl
  methods_from_same class (d ∷ cs) =
      ap₂ (λ a b. a ++ b) (methods_in_same class d.members) (methods_from_same (class + 1) cs)
      ∙ sym (map_both remarked_own (methods_in class d.members) (methods_from (class + 1) cs))

  pub methods_same : (text : TextTree) → methods_of (remarked_text r text) ≡ map remarked_own (methods_of text)
  methods_same text = methods_from_same 0 text

  pub method_same : (text : TextTree) (class : ℕ) (name : List ℕ)
      → method_named (remarked_text r text) class name ≡ method_named text class name
  method_same text class name =
      ap (position (λ (own : OwnMethod). (own.class == class) && bytes_eq name own.method.name)) (methods_same text)
      ∙ position_map remarked_own (λ (own : OwnMethod). (own.class == class) && bytes_eq name own.method.name) (methods_of text)

  pub static_kept : (k : IsMild r) (m : MethodTree) → is_static (remarked_method r m) ≡ is_static m
  static_kept k m = k.methods m.params m.place m.modifiers

  pub static_same : (k : IsMild r) (text : TextTree) (n : ℕ) → is_static_method (remarked_text r text) n ≡ is_static_method text n
  static_same k text n =
      ap (λ os. option_map_or (λ (own : OwnMethod). is_static own.method) (slice_get os n) false) (methods_same text)
      ∙ ap (λ o. option_map_or (λ (own : OwnMethod). is_static own.method) o false) (slice_get-map remarked_own (methods_of text) n)
      ∙ by (slice_get (methods_of text) n)
    where
      by : (o : Option OwnMethod)
          → option_map_or (λ (own : OwnMethod). is_static own.method) (option_map remarked_own o) false
          ≡ option_map_or (λ (own : OwnMethod). is_static own.method) o false
      by None = refl
      by (Some own) = static_kept k own.method

  -- ---- names of members

  member_names_same : (ms : List MemberTree) → map name_of_member (map (remarked_member r) ms) ≡ map name_of_member ms
  member_names_same [] = refl
  member_names_same (FieldMember f ∷ ms) = ap (λ ns. f.name ∷ ns) (member_names_same ms)
  member_names_same (MethodMember m ∷ ms) = ap (λ ns. m.name ∷ ns) (member_names_same ms)

  class_names_same : (cs : List ClassTree)
      → flat_map (λ (d : ClassTree). map name_of_member d.members) (map (remarked_class r) cs)
      ≡ flat_map (λ (d : ClassTree). map name_of_member d.members) cs
  class_names_same [] = refl
  class_names_same (d ∷ cs) = ap₂ (λ a b. a ++ b) (member_names_same d.members) (class_names_same cs)

  pub names_same : (text : TextTree) → names_of (remarked_text r text) ≡ names_of text
  names_same text = ap (fold with_name built_in) (class_names_same text)

  pub name_same : (text : TextTree) (name : List ℕ) → name_number (remarked_text r text) name ≡ name_number text name
  name_same text name = ap (position_or_len (bytes_eq name)) (names_same text)

  -- ---- types

  base_same : (text : TextTree) (ps qs : List Qualifier) (base : Base) → has_local ps ≡ has_local qs
      → base_type (remarked_text r text) ps base ≡ base_type text qs base
  base_same text ps qs (b.Named at name) h = ap₂ class_type h (class_same text name)
  base_same text ps qs _ h = refl

  grids_same : (k : IsMild r) (e : ValueType) (gs : List GridTree) → grid_type e (map (remarked_grid r) gs) ≡ grid_type e gs
  grids_same k e [] = refl
  grids_same k e (g ∷ gs) = ap₂ (λ u l. t.Grid u g.dim l) (grids_same k e gs) (k.words g.qualifiers)

  pub value_same : (k : IsMild r) (text : TextTree) (words : List Qualifier → List Qualifier) (y : TypeTree)
      → has_local (words y.qualifiers) ≡ has_local y.qualifiers
      → value_type (remarked_text r text) (remarked_type r words y) ≡ value_type text y
  value_same k text words y h =
      ap (λ e. grid_type e (map (remarked_grid r) y.grids)) (base_same text (words y.qualifiers) y.qualifiers y.base h)
      ∙ grids_same k (base_type text y.qualifiers y.base) y.grids

  -- a type of a cast keeps its words
  pub cast_same : (text : TextTree) (y : TypeTree) → value_type (remarked_text r text) y ≡ value_type text y
  cast_same text y = ap (λ e. grid_type e y.grids) (base_same text y.qualifiers y.qualifiers y.base refl)

  pub known_same : (text : TextTree) (base : Base) → IsKnownBase text base → IsKnownBase (remarked_text r text) base
  known_same text (b.Named at name) k = (k.0, class_same text name ∙ k.1)
  known_same text _ k = tt

  -- ---- literals

  mutual
    literals_same : (y : Stm) → literals (remarked_stm r y) ≡ literals y
    literals_same (s.Block body) = literals_in_same body
    literals_same (s.If at a y) = literals_same y
    literals_same (s.IfElse at a y z) = ap₂ (λ u v. u ++ v) (literals_same y) (literals_same z)
    literals_same (s.While at a body) = literals_same body
    literals_same (s.For at first a update body) =
        ap₂ (λ u v. u ++ v) (ap₂ (λ u v. u ++ v) (literals_of_same first) (literals_of_same update)) (literals_same body)
    literals_same (s.Foreach at name_at name domain body) = literals_same body
    literals_same _ = refl

    literals_of_same : (y : MaybeStm) → literals_of (remarked_maybe r y) ≡ literals_of y
    literals_of_same s.NoStm = refl
    literals_of_same (s.SomeStm y) = literals_same y

    literals_in_same : (ys : Stms) → literals_in (remarked_all r ys) ≡ literals_in ys
    literals_in_same s.Nil = refl
    literals_in_same (s.Cons y rest) = ap₂ (λ u v. u ++ v) (literals_same y) (literals_in_same rest)

  pub remarked_map : (ys : List Stm) → remarked_all r (stms ys) ≡ stms (map (remarked_stm r) ys)
  remarked_map [] = refl
  remarked_map (y ∷ ys) = ap (s.Cons (remarked_stm r y)) (remarked_map ys)

  pub body_literals : (own : OwnMethod) → literals_in (stms (remarked_own own).method.body) ≡ literals_in (stms own.method.body)
  body_literals own = ap literals_in (sym (remarked_map own.method.body)) ∙ literals_in_same (stms own.method.body)

  all_literals : (owns : List OwnMethod)
      → flat_map (λ (own : OwnMethod). literals_in (stms own.method.body)) (map remarked_own owns)
      ≡ flat_map (λ (own : OwnMethod). literals_in (stms own.method.body)) owns
  all_literals [] = refl
  all_literals (own ∷ owns) = ap₂ (λ u v. u ++ v) (body_literals own) (all_literals owns)

  pub text_literals : (text : TextTree) → literals_of_text (remarked_text r text) ≡ literals_of_text text
  text_literals text =
      ap (flat_map (λ (own : OwnMethod). literals_in (stms own.method.body))) (methods_same text) ∙ all_literals (methods_of text)
