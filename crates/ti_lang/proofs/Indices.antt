-- A lookup in the tables of first fields and first methods yields the number of the first declaration in the program.
use Rattle.std.proofs.Common.{◌≡◌, ℕ, zero, suc, ◌+◌, ◌<◌, ◌==◌, nat_lt, Bool, true, false, cond, ◌&&◌, if◌then◌else◌, List, [], ◌∷◌, ◌++◌, map, length, drop, drop-cons, get_or, find, Option, Some, None, is_some, slice_get, position, refl, ap, sym, ◌∙◌, true≢false, arith}
use Rattle.std.specs.Map.{lookup}
use Rattle.std.specs.List.{position_from, position_or_len}
use Rattle.std.specs.Option.{option_or, option_map_or, option_and_then}
use Rattle.std.proofs.lemmas.Bool.Decides.{nat_tests}
use Rattle.std.proofs.lemmas.List.Folds.{find_at}
use Rattle.std.proofs.lemmas.Option.{slice_get_past}
use Rattle.std.proofs.lemmas.Iterator.Adapters.{position_from-zero}
use Rattle.indexmap.specs.IndexMap.{IndexMap, insert_entry}
use Rattle.indexmap.proofs.CallerLemmas.{insert_entry-new}
use Rattle.ti_lang.specs.declared.program.classes.Class.{Class}
use Rattle.ti_lang.specs.declared.program.classes.Field.{Field}
use Rattle.ti_lang.specs.declared.program.classes.Method.{Method}
use Rattle.ti_lang.specs.declared.program.classes.ProgramData.{ProgramData}
use Rattle.ti_lang.specs.Program.Classes.{NumberedField, NumberedClass, NumberedMethod}
use Rattle.ti_lang.specs.Program.Views.{numbered_field_of, numbered_class_of, numbered_method_of, program_of}
use Rattle.ti_lang.specs.Typing.Declared.{field_numbered}
use Rattle.ti_lang.specs.Mirrors.Indices.{Key, same_key, with_first, with_firsts, numbered_fields, field_rows, method_rows}

-- ---- keys

keys_agree : (a b : Key) → same_key a b ≡ true → a ≡ b
keys_agree (c, n) (d, m) e = by (c == d) refl (n == m) refl e
  where
    by : (x : Bool) → (c == d) ≡ x → (y : Bool) → (n == m) ≡ y → (x && y) ≡ true → ◌≡◌ {A = Key} (c, n) (d, m)
    by true is_x true is_y e =
        let first : c ≡ d = grind (arith, nat_tests, is_x) in
        let second : n ≡ m = grind (arith, nat_tests, is_y) in
        ap (λ z. (z, n)) first ∙ ap (λ z. (d, z)) second
    by true is_x false is_y e = absurd (true≢false (sym e))
    by false is_x y is_y e = absurd (true≢false (sym e))

-- ---- one pair more

nothing : {A : Type 0} (o : Option A) → is_some o ≡ false → o ≡ None
nothing None absent = refl
nothing (Some a) absent = absurd (true≢false absent)

-- a key that is there isn't added
pub kept : (table es : List (Key × ℕ)) (key : Key) (number : ℕ) → es ≡ table → is_some (lookup (same_key key) es) ≡ true → table ≡ with_first table key number
kept table es key number is there =
    let found : is_some (lookup (same_key key) table) ≡ true = sym (ap (λ t. is_some (lookup (same_key key) t)) is) ∙ there in
    sym (ap (λ (b : Bool). if b then table else table ++ (key, number) ∷ []) found)

-- another goes last
pub added : {S : Type 0} (table : List (Key × ℕ)) (m : IndexMap Key ℕ S) (key : Key) (number : ℕ) (new : List (Key × ℕ)) → m.entries ≡ table
    → is_some (lookup (same_key key) m.entries) ≡ false → new ≡ insert_entry same_key m.entries key number → new ≡ with_first table key number
added table m key number new is absent inserted =
    let lacks : is_some (lookup (same_key key) table) ≡ false = sym (ap (λ t. is_some (lookup (same_key key) t)) is) ∙ absent in
    inserted ∙ insert_entry-new same_key m key number (nothing _ absent) ∙ ap (λ t. t ++ (key, number) ∷ []) is
    ∙ sym (ap (λ (b : Bool). if b then table else table ++ (key, number) ∷ []) lacks)

-- ---- the first pair of a key

lookup_append : (t : Key → Bool) (xs ys : List (Key × ℕ)) → lookup t (xs ++ ys) ≡ option_or (lookup t xs) (lookup t ys)
lookup_append t [] ys = refl
lookup_append t (x ∷ xs) ys = by (t x.0) (lookup_append t xs ys)
  where
    by : (b : Bool) → lookup t (xs ++ ys) ≡ option_or (lookup t xs) (lookup t ys) → cond b (Some x.1) (lookup t (xs ++ ys)) ≡ option_or (cond b (Some x.1) (lookup t xs)) (lookup t ys)
    by true e = refl
    by false e = e

found_apart : (table : List (Key × ℕ)) (q k : Key) → lookup (same_key q) table ≡ None → is_some (lookup (same_key k) table) ≡ true → same_key q k ≡ false
found_apart table q k none there = by (same_key q k) refl
  where
    by : (b : Bool) → same_key q k ≡ b → b ≡ false
    by false e = refl
    by true e = absurd (true≢false (sym there ∙ ap (λ z. is_some (lookup (same_key z) table)) (sym (keys_agree q k e)) ∙ ap is_some none))

first_or : (table : List (Key × ℕ)) (q k : Key) (n : ℕ) (more : Option ℕ)
    → option_or (lookup (same_key q) (with_first table k n)) more ≡ option_or (lookup (same_key q) table) (cond (same_key q k) (Some n) more)
first_or table q k n more = by (is_some (lookup (same_key k) table)) refl
  where
    by : (b : Bool) → is_some (lookup (same_key k) table) ≡ b
        → option_or (lookup (same_key q) (if b then table else table ++ (k, n) ∷ [])) more ≡ option_or (lookup (same_key q) table) (cond (same_key q k) (Some n) more)
    by true there = found (lookup (same_key q) table) refl
      where
        found : (o : Option ℕ) → lookup (same_key q) table ≡ o → option_or o more ≡ option_or o (cond (same_key q k) (Some n) more)
        found (Some v) e = refl
        found None e = sym (ap (λ b. cond b (Some n) more) (found_apart table q k e there))
    by false lacks = ap (λ o. option_or o more) (lookup_append (same_key q) table ((k, n) ∷ [])) ∙ found (lookup (same_key q) table) (same_key q k)
      where
        found : (o : Option ℕ) (b : Bool) → option_or (option_or o (cond b (Some n) None)) more ≡ option_or o (cond b (Some n) more)
        found (Some v) b = refl
        found None true = refl
        found None false = refl

or_none : (o : Option ℕ) → option_or o None ≡ o
or_none None = refl
or_none (Some v) = refl

lookup_firsts : (q : Key) (table rows : List (Key × ℕ)) → lookup (same_key q) (with_firsts table rows) ≡ option_or (lookup (same_key q) table) (lookup (same_key q) rows)
lookup_firsts q table [] = sym (or_none (lookup (same_key q) table))
lookup_firsts q table (row ∷ rest) = lookup_firsts q (with_first table row.0 row.1) rest ∙ first_or table q row.0 row.1 (lookup (same_key q) rest)

pub firsts_append : (table xs ys : List (Key × ℕ)) → with_firsts table (xs ++ ys) ≡ with_firsts (with_firsts table xs) ys
firsts_append table [] ys = refl
firsts_append table (x ∷ xs) ys = firsts_append (with_first table x.0 x.1) xs ys

-- ---- fields

same_class : (class : ℕ) → (class == class) ≡ true
same_class class = grind (arith, nat_tests)

turned : (a b : ℕ) → (a == b) ≡ (b == a)
turned a b = by (a == b) refl
  where
    by : (x : Bool) → (a == b) ≡ x → x ≡ (b == a)
    by true e = let s : a ≡ b = grind (arith, nat_tests, e) in sym (ap (λ z. z == a) (sym s) ∙ same_class a)
    by false e = grind (arith, nat_tests, e)

own_fields : (class name n : ℕ) (fs : List Field) → lookup (same_key (class, name)) (numbered_fields class n fs) ≡ position_from (λ (f : NumberedField). f.name == name) n (map numbered_field_of fs)
own_fields class name n [] = refl
own_fields class name n (f ∷ fs) =
    ap (λ b. cond (b && (name == f.name)) (Some n) (lookup (same_key (class, name)) (numbered_fields class (n + 1) fs))) (same_class class)
    ∙ ap (λ b. cond b (Some n) (lookup (same_key (class, name)) (numbered_fields class (n + 1) fs))) (turned name f.name)
    ∙ ap (cond (f.name == name) (Some n)) (own_fields class name (n + 1) fs)

other_fields : (class other name n : ℕ) (fs : List Field) → (class == other) ≡ false → lookup (same_key (class, name)) (numbered_fields other n fs) ≡ None
other_fields class other name n [] apart = refl
other_fields class other name n (f ∷ fs) apart =
    ap (λ b. cond (b && (name == f.name)) (Some n) (lookup (same_key (class, name)) (numbered_fields other (n + 1) fs))) apart ∙ other_fields class other name (n + 1) fs apart

later_fields : (class m name : ℕ) (cs : List Class) → class < m → lookup (same_key (class, name)) (field_rows m cs) ≡ None
later_fields class m name [] lt = refl
later_fields class m name (c ∷ cs) lt =
    let apart : (class == m) ≡ false = grind (arith, nat_tests, lt) in
    lookup_append (same_key (class, name)) (numbered_fields m 0 c.fields.items) (field_rows (m + 1) cs)
    ∙ (λ j. option_or (other_fields class m name 0 c.fields.items apart j) (later_fields class (m + 1) name cs (omega (arith, lt)) j))

fields_at : (m i name : ℕ) (cs : List Class) → lookup (same_key (m + i, name)) (field_rows m cs)
    ≡ position (λ (f : NumberedField). f.name == name) (option_map_or (λ (c : NumberedClass). c.fields)
    (slice_get (map numbered_class_of cs) i) [])
fields_at m i name [] = refl
fields_at m zero name (c ∷ cs) =
    let here : m + 0 ≡ m = omega arith in
    ap (λ k. lookup (same_key (k, name)) (field_rows m (c ∷ cs))) here
    ∙ lookup_append (same_key (m, name)) (numbered_fields m 0 c.fields.items) (field_rows (m + 1) cs)
    ∙ ap (option_or (lookup (same_key (m, name)) (numbered_fields m 0 c.fields.items))) (later_fields m (m + 1) name cs (omega arith))
    ∙ or_none _ ∙ own_fields m name 0 c.fields.items ∙ sym (position_from-zero (λ (f : NumberedField). f.name == name) (map numbered_field_of c.fields.items))
fields_at m (suc i) name (c ∷ cs) =
    let apart : (m + suc i == m) ≡ false = grind (arith, nat_tests) in
    let class : m + suc i ≡ m + 1 + i = omega arith in
    lookup_append (same_key (m + suc i, name)) (numbered_fields m 0 c.fields.items) (field_rows (m + 1) cs)
    ∙ ap (λ o. option_or o (lookup (same_key (m + suc i, name)) (field_rows (m + 1) cs))) (other_fields (m + suc i) m name 0 c.fields.items apart)
    ∙ ap (λ k. lookup (same_key (k, name)) (field_rows (m + 1) cs)) class ∙ fields_at (m + 1) i name cs

-- the first field of a class and a name is found
pub field_told : (p : ProgramData) (class name : ℕ) → lookup (same_key (class, name)) (with_firsts [] (field_rows 0 p.classes.items)) ≡ field_numbered (program_of p) name class
field_told p class name =
    let here : 0 + class ≡ class = omega arith in
    lookup_firsts (class, name) [] (field_rows 0 p.classes.items) ∙ sym (ap (λ k. lookup (same_key (k, name)) (field_rows 0 p.classes.items)) here) ∙ fields_at 0 class name p.classes.items

-- ---- methods

methods_from : (class name n : ℕ) (ms : List Method) → lookup (same_key (class, name)) (method_rows n ms)
    ≡ position_from (λ (m : NumberedMethod). (m.class == class) && (m.name == name)) n (map numbered_method_of ms)
methods_from class name n [] = refl
methods_from class name n (m ∷ ms) =
    ap (λ b. cond (b && (name == m.name)) (Some n) (lookup (same_key (class, name)) (method_rows (n + 1) ms))) (turned class m.class)
    ∙ ap (λ b. cond ((m.class == class) && b) (Some n) (lookup (same_key (class, name)) (method_rows (n + 1) ms))) (turned name m.name)
    ∙ ap (cond ((m.class == class) && (m.name == name)) (Some n)) (methods_from class name (n + 1) ms)

-- the first method of a class and a name is found
pub method_told : (ms : List Method) (class name : ℕ) → lookup (same_key (class, name)) (with_firsts [] (method_rows 0 ms))
    ≡ position (λ (m : NumberedMethod). (m.class == class) && (m.name == name)) (map numbered_method_of ms)
method_told ms class name =
    lookup_firsts (class, name) [] (method_rows 0 ms) ∙ methods_from class name 0 ms
    ∙ sym (position_from-zero (λ (m : NumberedMethod). (m.class == class) && (m.name == name)) (map numbered_method_of ms))

-- ---- what stands where it is first

-- the element at the number of the first that passes is the first that passes
pub found_at : {A : Type 0} (t : A → Bool) (xs : List A) → option_and_then (slice_get xs) (position t xs) ≡ find t xs
found_at t xs = by (nat_lt (position_or_len t xs) (length xs)) refl ∙ sym (find_at t xs)
  where
    by : (b : Bool) → nat_lt (position_or_len t xs) (length xs) ≡ b → option_and_then (slice_get xs) (cond b (Some (position_or_len t xs)) None) ≡ slice_get xs (position_or_len t xs)
    by true e = refl
    by false e = sym (slice_get_past xs (position_or_len t xs) (grind (arith, nat_tests, e)))

-- ---- one after the other

pub next_class_row : (table : List (Key × ℕ)) (i : ℕ) (classes : List Class) (d : Class) → i < length classes
    → with_firsts table (field_rows i (drop i classes)) ≡ with_firsts (with_firsts table (numbered_fields i 0 (get_or classes i d).fields.items)) (field_rows (i + 1) (drop (i + 1) classes))
next_class_row table i classes d lt =
    let one : suc i ≡ i + 1 = omega arith in
    let own : List (Key × ℕ) = numbered_fields i 0 (get_or classes i d).fields.items in
    ap (λ l. with_firsts table (field_rows i l)) (drop-cons classes i d lt) ∙ ap (λ k. with_firsts table (own ++ field_rows (i + 1) (drop k classes))) one
    ∙ firsts_append table own (field_rows (i + 1) (drop (i + 1) classes))
