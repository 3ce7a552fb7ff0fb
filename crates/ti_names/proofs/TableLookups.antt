-- Lookups in the symbol tables are proved to agree with the specification.
use Rattle.std.proofs.Common.{◌≡◌, ℕ, zero, suc, ◌+◌, ◌<◌, ◌==◌, Bool, true, false, cond, not, ◌&&◌, ◌||◌, if◌then◌else◌, List, [], ◌∷◌, ◌++◌, map, length, Option, Some, None, is_some, slice_get, position, bytes_eq, refl, ap, sym, ◌∙◌, true≢false, arith}
use Rattle.std.specs.Map.{lookup}
use Rattle.std.specs.List.{list_any, position_from, position_or_len}
use Rattle.std.specs.Option.{option_or, option_map, option_map_or, option_and_then, unwrap_or}
use Rattle.std.proofs.lemmas.Bool.Decides.{nat_tests}
use Rattle.std.proofs.lemmas.Iterator.Adapters.{position_from-zero}
use Rattle.std.proofs.lemmas.Slice.Eq.{bytes_eq-Decides}
use Rattle.ti_syntax.specs.Trees.Classes.{FieldTree, MemberTree, FieldMember, MethodMember, ClassTree, TextTree}
use Rattle.ti_lang.specs.Members.{class_named, fields_in, field_named, OwnMethod, methods_in, methods_from, methods_of, method_named, is_static, is_static_method, names_of, name_number, with_name}
use Rattle.ti_names.specs.Mirrors.Tables.{with_new_name, with_numbered, with_indices, lookup_in, class_names, field_names, names_of_methods, class_table, field_tables, method_tables, static_table}

-- ---- lists of pairs

lookup_append : {V : Type 0} (t : List ℕ → Bool) (xs ys : List (List ℕ × V)) → lookup t (xs ++ ys) ≡ option_or (lookup t xs) (lookup t ys)
lookup_append t [] ys = refl
lookup_append t (x ∷ xs) ys = by (t x.0) (lookup_append t xs ys)
  where
    by : (b : Bool) → lookup t (xs ++ ys) ≡ option_or (lookup t xs) (lookup t ys) → cond b (Some x.1) (lookup t (xs ++ ys)) ≡ option_or (cond b (Some x.1) (lookup t xs)) (lookup t ys)
    by true e = refl
    by false e = e

-- a name that is found as another is the other
found_apart : (table : List (List ℕ × ℕ)) (q name : List ℕ) → lookup (bytes_eq q) table ≡ None → is_some (lookup (bytes_eq name) table) ≡ true → bytes_eq q name ≡ false
found_apart table q name none there = by (bytes_eq q name) refl
  where
    by : (b : Bool) → bytes_eq q name ≡ b → b ≡ false
    by false e = refl
    by true e =
        let same : q ≡ name = (bytes_eq-Decides q name).0 e in
        absurd (true≢false (sym there ∙ ap (λ z. is_some (lookup (bytes_eq z) table)) (sym same) ∙ ap is_some none))

first_or : (table : List (List ℕ × ℕ)) (q name : List ℕ) (n : ℕ) (more : Option ℕ)
    → option_or (lookup (bytes_eq q) (with_new_name table name n)) more ≡ option_or (lookup (bytes_eq q) table) (cond (bytes_eq q name) (Some n) more)
first_or table q name n more = by (is_some (lookup (bytes_eq name) table)) refl
  where
    by : (b : Bool) → is_some (lookup (bytes_eq name) table) ≡ b
        → option_or (lookup (bytes_eq q) (if b then table else table ++ (name, n) ∷ [])) more ≡ option_or (lookup (bytes_eq q) table) (cond (bytes_eq q name) (Some n) more)
    by true there = found (lookup (bytes_eq q) table) refl
      where
        found : (o : Option ℕ) → lookup (bytes_eq q) table ≡ o → option_or o more ≡ option_or o (cond (bytes_eq q name) (Some n) more)
        found (Some v) e = refl
        found None e = sym (ap (λ b. cond b (Some n) more) (found_apart table q name e there))
    by false lacks = ap (λ o. option_or o more) (lookup_append (bytes_eq q) table ((name, n) ∷ [])) ∙ found (lookup (bytes_eq q) table) (bytes_eq q name)
      where
        found : (o : Option ℕ) (b : Bool) → option_or (option_or o (cond b (Some n) None)) more ≡ option_or o (cond b (Some n) more)
        found (Some v) b = refl
        found None true = refl
        found None false = refl

lookup_numbered : (q : List ℕ) (table : List (List ℕ × ℕ)) (n : ℕ) (names : List (List ℕ))
    → lookup (bytes_eq q) (with_numbered table n names) ≡ option_or (lookup (bytes_eq q) table) (position_from (bytes_eq q) n names)
lookup_numbered q table n [] = none_or (lookup (bytes_eq q) table)
  where
    none_or : (o : Option ℕ) → o ≡ option_or o None
    none_or None = refl
    none_or (Some v) = refl
lookup_numbered q table n (name ∷ rest) = lookup_numbered q (with_new_name table name n) (n + 1) rest ∙ first_or table q name n (position_from (bytes_eq q) (n + 1) rest)

position_names : {A : Type 0} (name : A → List ℕ) (q : List ℕ) (n : ℕ) (xs : List A) → position_from (bytes_eq q) n (map name xs) ≡ position_from (λ x. bytes_eq q (name x)) n xs
position_names name q n [] = refl
position_names name q n (x ∷ xs) = ap (cond (bytes_eq q (name x)) (Some n)) (position_names name q (n + 1) xs)

-- ---- classes and fields

pub class_told : (text : TextTree) (name : List ℕ) → lookup (bytes_eq name) (class_table text) ≡ class_named text name
class_told text name =
    lookup_numbered name [] 0 (class_names text) ∙ position_names (λ (c : ClassTree). c.name) name 0 text ∙ sym (position_from-zero (λ (c : ClassTree). bytes_eq name c.name) text)

get_map : {A B : Type 0} (f : A → B) (xs : List A) (i : ℕ) → slice_get (map f xs) i ≡ option_map f (slice_get xs i)
get_map f [] i = refl
get_map f (x ∷ xs) zero = refl
get_map f (x ∷ xs) (suc i) = get_map f xs i

fields_told_in : (fs : List FieldTree) (name : List ℕ) → lookup (bytes_eq name) (with_numbered [] 0 (field_names fs)) ≡ position (λ (f : FieldTree). bytes_eq name f.name) fs
fields_told_in fs name =
    lookup_numbered name [] 0 (field_names fs) ∙ position_names (λ (f : FieldTree). f.name) name 0 fs ∙ sym (position_from-zero (λ (f : FieldTree). bytes_eq name f.name) fs)

pub field_told : (text : TextTree) (class : ℕ) (name : List ℕ) → lookup_in (field_tables text) class name ≡ field_named text class name
field_told text class name =
    ap (option_and_then (λ table. lookup (bytes_eq name) table)) (get_map (λ (c : ClassTree). with_numbered [] 0 (field_names (fields_in c.members))) text class) ∙ by (slice_get text class)
  where
    by : (o : Option ClassTree) → option_and_then (λ table. lookup (bytes_eq name) table) (option_map (λ (c : ClassTree). with_numbered [] 0 (field_names (fields_in c.members))) o)
        ≡ position (λ (f : FieldTree). bytes_eq name f.name) (option_map_or (λ (c : ClassTree). fields_in c.members) o [])
    by None = refl
    by (Some c) = fields_told_in (fields_in c.members) name

-- ---- methods

abbrev test : ℕ → List ℕ → OwnMethod → Bool
test class name own = (own.class == class) && bytes_eq name own.method.name

position_append : {A : Type 0} (t : A → Bool) (n : ℕ) (xs ys : List A) → position_from t n (xs ++ ys) ≡ option_or (position_from t n xs) (position_from t (n + length xs) ys)
position_append t n [] ys = let e : n ≡ n + 0 = omega arith in ap (λ k. position_from t k ys) e
position_append t n (x ∷ xs) ys = by (t x) (position_append t (n + 1) xs ys)
  where
    by : (b : Bool) → position_from t (n + 1) (xs ++ ys) ≡ option_or (position_from t (n + 1) xs) (position_from t (n + 1 + length xs) ys)
        → cond b (Some n) (position_from t (n + 1) (xs ++ ys)) ≡ option_or (cond b (Some n) (position_from t (n + 1) xs)) (position_from t (n + suc (length xs)) ys)
    by true e = refl
    by false e = let more : n + 1 + length xs ≡ n + suc (length xs) = omega arith in e ∙ ap (λ k. option_or (position_from t (n + 1) xs) (position_from t k ys)) more

own_position : (class : ℕ) (name : List ℕ) (n : ℕ) (ms : List MemberTree) → position_from (bytes_eq name) n (names_of_methods ms) ≡ position_from (test class name) n (methods_in class ms)
own_position class name n [] = refl
own_position class name n (FieldMember f ∷ ms) = own_position class name n ms
own_position class name n (MethodMember m ∷ ms) =
    let self : (class == class) ≡ true = grind (arith, nat_tests) in
    ap (cond (bytes_eq name m.name) (Some n)) (own_position class name (n + 1) ms)
    ∙ ap (λ b. cond (b && bytes_eq name m.name) (Some n) (position_from (test class name) (n + 1) (methods_in class ms))) (sym self)

other_position : (class other : ℕ) (name : List ℕ) (n : ℕ) (ms : List MemberTree) → (other == class) ≡ false → position_from (test class name) n (methods_in other ms) ≡ None
other_position class other name n [] apart = refl
other_position class other name n (FieldMember f ∷ ms) apart = other_position class other name n ms apart
other_position class other name n (MethodMember m ∷ ms) apart =
    ap (λ b. cond (b && bytes_eq name m.name) (Some n) (position_from (test class name) (n + 1) (methods_in other ms))) apart ∙ other_position class other name (n + 1) ms apart

later_position : (class m : ℕ) (name : List ℕ) (n : ℕ) (cs : List ClassTree) → class < m → position_from (test class name) n (methods_from m cs) ≡ None
later_position class m name n [] lt = refl
later_position class m name n (c ∷ cs) lt =
    let apart : (m == class) ≡ false = grind (arith, nat_tests, lt) in
    position_append (test class name) n (methods_in m c.members) (methods_from (m + 1) cs)
    ∙ (λ j. option_or (other_position class m name n c.members apart j) (later_position class (m + 1) name (n + length (methods_in m c.members)) cs (omega arith) j))

length_names : (class : ℕ) (ms : List MemberTree) → length (names_of_methods ms) ≡ length (methods_in class ms)
length_names class [] = refl
length_names class (FieldMember f ∷ ms) = length_names class ms
length_names class (MethodMember m ∷ ms) = ap suc (length_names class ms)

or_none : (o : Option ℕ) → option_or o None ≡ o
or_none None = refl
or_none (Some v) = refl

methods_told_from : (m n i : ℕ) (cs : List ClassTree) (name : List ℕ) → lookup_in (method_tables n cs) i name ≡ position_from (test (m + i) name) n (methods_from m cs)
methods_told_from m n i [] name = refl
methods_told_from m n zero (c ∷ cs) name =
    let here : m + 0 ≡ m = omega arith in
    lookup_numbered name [] n (names_of_methods c.members) ∙ own_position m name n c.members ∙ sym (or_none _)
    ∙ sym (ap (option_or (position_from (test m name) n (methods_in m c.members))) (later_position m (m + 1) name (n + length (methods_in m c.members)) cs (omega arith)))
    ∙ sym (position_append (test m name) n (methods_in m c.members) (methods_from (m + 1) cs)) ∙ ap (λ k. position_from (test k name) n (methods_from m (c ∷ cs))) (sym here)
methods_told_from m n (suc i) (c ∷ cs) name =
    let apart : (m == m + suc i) ≡ false = grind (arith, nat_tests) in
    let class : m + 1 + i ≡ m + suc i = omega arith in
    methods_told_from (m + 1) (n + length (names_of_methods c.members)) i cs name
    ∙ (λ j. position_from (test (class j) name) (n + length_names m c.members j) (methods_from (m + 1) cs))
    ∙ sym (ap (λ o. option_or o (position_from (test (m + suc i) name) (n + length (methods_in m c.members)) (methods_from (m + 1) cs))) (other_position (m + suc i) m name n c.members apart))
    ∙ sym (position_append (test (m + suc i) name) n (methods_in m c.members) (methods_from (m + 1) cs))

pub method_told : (text : TextTree) (class : ℕ) (name : List ℕ) → lookup_in (method_tables 0 text) class name ≡ method_named text class name
method_told text class name =
    let here : 0 + class ≡ class = omega arith in
    methods_told_from 0 0 class text name ∙ ap (λ k. position_from (test k name) 0 (methods_of text)) here ∙ sym (position_from-zero (test class name) (methods_of text))

pub static_told : (text : TextTree) (number : ℕ) → unwrap_or (slice_get (static_table (methods_of text)) number) false ≡ is_static_method text number
static_told text number = ap (λ o. unwrap_or o false) (get_map (λ (own : OwnMethod). is_static own.method) (methods_of text) number) ∙ by (slice_get (methods_of text) number)
  where
    by : (o : Option OwnMethod) → unwrap_or (option_map (λ (own : OwnMethod). is_static own.method) o) false ≡ option_map_or (λ (own : OwnMethod). is_static own.method) o false
    by None = refl
    by (Some own) = refl

-- ---- names of members

names_told_from : (q : List ℕ) (n : ℕ) (names : List (List ℕ)) → unwrap_or (lookup (bytes_eq q) (with_indices n names)) (n + length names) ≡ n + position_or_len (bytes_eq q) names
names_told_from q n [] = refl
names_told_from q n (name ∷ rest) = by (bytes_eq q name) (names_told_from q (n + 1) rest)
  where
    by : (b : Bool) → unwrap_or (lookup (bytes_eq q) (with_indices (n + 1) rest)) (n + 1 + length rest) ≡ n + 1 + position_or_len (bytes_eq q) rest
        → unwrap_or (cond b (Some n) (lookup (bytes_eq q) (with_indices (n + 1) rest))) (n + suc (length rest)) ≡ n + cond (not b) (1 + position_or_len (bytes_eq q) rest) 0
    by true e = omega arith
    by false e =
        let more : n + suc (length rest) ≡ n + 1 + length rest = omega arith in
        ap (unwrap_or (lookup (bytes_eq q) (with_indices (n + 1) rest))) more ∙ e ∙ omega arith

pub name_told : (text : TextTree) (name : List ℕ) → unwrap_or (lookup (bytes_eq name) (with_indices 0 (names_of text))) (length (names_of text)) ≡ name_number text name
name_told text name =
    let start : length (names_of text) ≡ 0 + length (names_of text) = omega arith in
    ap (unwrap_or (lookup (bytes_eq name) (with_indices 0 (names_of text)))) start ∙ names_told_from name 0 (names_of text) ∙ omega arith

named_any : (q : List ℕ) (n : ℕ) (names : List (List ℕ)) → is_some (lookup (bytes_eq q) (with_indices n names)) ≡ list_any (bytes_eq q) names
named_any q n [] = refl
named_any q n (name ∷ rest) = by (bytes_eq q name) (named_any q (n + 1) rest)
  where
    by : (b : Bool) → is_some (lookup (bytes_eq q) (with_indices (n + 1) rest)) ≡ list_any (bytes_eq q) rest
        → is_some (cond b (Some n) (lookup (bytes_eq q) (with_indices (n + 1) rest))) ≡ (b || list_any (bytes_eq q) rest)
    by true e = refl
    by false e = e

numbered_more : (n : ℕ) (names : List (List ℕ)) (name : List ℕ) → with_indices n (names ++ name ∷ []) ≡ with_indices n names ++ (name, n + length names) ∷ []
numbered_more n [] name = let e : n ≡ n + 0 = omega arith in ap (λ k. (name, k) ∷ []) e
numbered_more n (x ∷ rest) name = let e : n + 1 + length rest ≡ n + suc (length rest) = omega arith in
    ap (λ xs. (x, n) ∷ xs) (numbered_more (n + 1) rest name ∙ ap (λ k. with_indices (n + 1) rest ++ (name, k) ∷ []) e)

-- a name that is there isn't added
pub names_kept : (names : List (List ℕ)) (name : List ℕ) → is_some (lookup (bytes_eq name) (with_indices 0 names)) ≡ true → names ≡ with_name names name
names_kept names name there = sym (ap (λ b. if b then names else names ++ name ∷ []) (sym (named_any name 0 names) ∙ there))

-- another goes last, in the table too
pub names_more : (names : List (List ℕ)) (name : List ℕ) → is_some (lookup (bytes_eq name) (with_indices 0 names)) ≡ false → names ++ name ∷ [] ≡ with_name names name
names_more names name lacks = sym (ap (λ b. if b then names else names ++ name ∷ []) (sym (named_any name 0 names) ∙ lacks))

pub table_more : (names : List (List ℕ)) (name : List ℕ) → is_some (lookup (bytes_eq name) (with_indices 0 names)) ≡ false
    → with_new_name (with_indices 0 names) name (length names) ≡ with_indices 0 (names ++ name ∷ [])
table_more names name lacks =
    let start : length names ≡ 0 + length names = omega arith in
    ap (λ b. if b then with_indices 0 names else with_indices 0 names ++ (name, length names) ∷ []) lacks ∙ ap (λ k. with_indices 0 names ++ (name, k) ∷ []) start ∙ sym (numbered_more 0 names name)
