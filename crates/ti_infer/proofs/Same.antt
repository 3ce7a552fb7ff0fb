-- What doesn't depend on annotations: static types, and which methods and members are called.
use Rattle.std.proofs.Common.{◌≡◌, ◌==◌, ◌+◌, not, ◌&&◌, ℕ, Bool, true, false, ◌||◌, if◌then◌else◌, List, [], ◌∷◌, ◌++◌, map, find, slice_get, Option, Some, None, option_map, refl, ap, ap₂, sym, ◌∙◌}
use Rattle.std.specs.List.{list_any}
use Rattle.std.specs.Option.{option_map_or}
use Rattle.std.proofs.lemmas.Option.{slice_get-map}
use Rattle.std.proofs.lemmas.List.Folds.{list_any-append}
use Rattle.ti_base.specs.declared.place.Place.{Place}
use Rattle.ti_syntax.specs.declared.tree.classes.Modifier.{Modifier}
use Rattle.ti_syntax.specs.declared.tree.classes.ModifierWord.TheVariants as word
use Rattle.ti_lang.specs.Members.{only_if, is_static_word}
use Rattle.ti_lang.specs.Program.Types.{ValueType, Declaration, Typed, Foreach}
use Rattle.ti_lang.specs.Program.Types as t
use Rattle.ti_lang.specs.Program.Expressions.{NumberedExp, NumberedExps, NumberedRange, NumberedRanges}
use Rattle.ti_lang.specs.Program.Expressions as e
use Rattle.ti_lang.specs.Program.Classes.{NumberedResult, NumberedMethod, ProgramView}
use Rattle.ti_lang.specs.Program.Classes as c
use Rattle.ti_lang.specs.Program.Scope.{this_of}
use Rattle.ti_lang.specs.Typing.Kinds.{dim_of_type, is_object}
use Rattle.ti_lang.specs.Typing.BuiltIn.{built_in}
use Rattle.ti_lang.specs.Typing.Declared.{is_static_method, instance_method, named_field_type, type_of_result, result_type}
use Rattle.ti_lang.specs.Typing.Expressions.{range_count}
use Rattle.ti_lang.specs.Typing.TextTypes.{used_type, operator_type, static_field_type, static_element_type, built_in_type, static_member_type, how_many, type_at, dims_of_range, dims_of_ranges, syntactic_type}
use Rattle.ti_lang.specs.Typing.Called.{method_behind, called_method, member_called}
use Rattle.ti_blame.specs.Marks.{Marks}
use Rattle.ti_infer.specs.Marked.{marked_declaration, marked_exp, marked_exps, marked_range, marked_ranges, marked_result, marked_method, marked}

-- ---- methods

or_false : (x : Bool) → (x || false) ≡ x
or_false true = refl
or_false false = refl

-- the word is no `static`
static_behind : (words : List Modifier) (b : Bool) (m : Modifier) → is_static_word m.word ≡ false
    → list_any (λ (x : Modifier). is_static_word x.word) (words ++ (if b then m ∷ [] else [])) ≡ list_any (λ (x : Modifier). is_static_word x.word) words
static_behind words true m h = list_any-append (λ (x : Modifier). is_static_word x.word) words (m ∷ [])
    ∙ ap (λ b. list_any (λ (x : Modifier). is_static_word x.word) words || (b || false)) h ∙ or_false _
static_behind words false m h = list_any-append (λ (x : Modifier). is_static_word x.word) words [] ∙ or_false _

pub static_same : (marks : Marks) (m : NumberedMethod) → is_static_method (marked_method marks m) ≡ is_static_method m
static_same marks m = static_behind m.modifiers (marks.methods m.place) (record { word = word.Single; place = m.place }) refl

pub this_same : (marks : Marks) (m : NumberedMethod) → this_of (marked_method marks m) ≡ this_of m
this_same marks m = ap (λ b. if b then None else Some m.class) (static_same marks m)

pub result_same : (marks : Marks) (m : NumberedMethod) → result_type (marked_method marks m) ≡ result_type m
result_same marks m = by (marks.results m.place) m.place m.result
  where
    by : (b : Bool) (at : Place) (r : NumberedResult) → type_of_result (marked_result b at r) ≡ type_of_result r
    by b at c.Void = refl
    by b at (c.Typed type) = refl

pub method_same : (marks : Marks) (p : ProgramView) (k : ℕ) → slice_get (marked marks p).methods k ≡ option_map (marked_method marks) (slice_get p.methods k)
method_same marks p k = slice_get-map (marked_method marks) p.methods k

found_map : {A : Type 0} (f : A → A) (test : A → Bool) (a : A) (xs : List A) (b : Bool) → test (f a) ≡ b → test a ≡ b → find test (map f xs) ≡ option_map f (find test xs)
    → find test (map f (a ∷ xs)) ≡ option_map f (find test (a ∷ xs))
found_map f test a xs true h k rest = ap (λ b. if b then Some (f a) else find test (map f xs)) h ∙ sym (ap (λ b. option_map f (if b then Some a else find test xs)) k)
found_map f test a xs false h k rest = ap (λ b. if b then Some (f a) else find test (map f xs)) h ∙ rest ∙ sym (ap (λ b. option_map f (if b then Some a else find test xs)) k)

find_map : {A : Type 0} (f : A → A) (test : A → Bool) (xs : List A) → ((a : A) → test (f a) ≡ test a) → find test (map f xs) ≡ option_map f (find test xs)
find_map f test [] same = refl
find_map f test (a ∷ xs) same = found_map f test a xs (test a) (same a) refl (find_map f test xs same)

only_map : {A : Type 0} (f : A → A) (test : A → Bool) (o : Option A) → ((a : A) → test (f a) ≡ test a) → only_if test (option_map f o) ≡ option_map f (only_if test o)
only_map f test None same = refl
only_map f test (Some a) same = ap (λ b. if b then Some (f a) else None) (same a) ∙ by (test a)
  where
    by : (b : Bool) → (if b then Some (f a) else None) ≡ option_map f (if b then Some a else None)
    by true = refl
    by false = refl

pub instance_same : (marks : Marks) (p : ProgramView) (class name : ℕ) → instance_method (marked marks p) class name ≡ option_map (marked_method marks) (instance_method p class name)
unfolding instance_method
instance_same marks p class name =
    ap (only_if (λ (m : NumberedMethod). not (is_static_method m))) (find_map (marked_method marks) (λ (m : NumberedMethod). (m.class == class) && (m.name == name)) p.methods (λ m. refl))
    ∙ only_map (marked_method marks) (λ (m : NumberedMethod). not (is_static_method m))
    (find (λ (m : NumberedMethod). (m.class == class) && (m.name == name)) p.methods) (λ m. ap not (static_same marks m))

-- what a method gives that is there or not
given_same : (marks : Marks) (o : Option NumberedMethod) → option_map_or result_type (option_map (marked_method marks) o) t.Void ≡ option_map_or result_type o t.Void
given_same marks None = refl
given_same marks (Some m) = result_same marks m

called_same : (marks : Marks) (p : ProgramView) (k : ℕ) → option_map_or result_type (slice_get (marked marks p).methods k) t.Void ≡ option_map_or result_type (slice_get p.methods k) t.Void
called_same marks p k = ap (λ o. option_map_or result_type o t.Void) (method_same marks p k) ∙ given_same marks (slice_get p.methods k)

-- ---- types in the text

used_same : (dims : ℕ → ℕ) (number : ℕ) (b : Bool) (d : Declaration) → used_type dims number (marked_declaration b d) ≡ used_type dims number d
used_same dims number b (Typed is_single type) = refl
used_same dims number b Foreach = refl

field_same : (marks : Marks) (p : ProgramView) (name : ℕ) (x : ValueType) → static_field_type (marked marks p) name x ≡ static_field_type p name x
unfolding named_field_type
field_same marks p name x = by x
  where
    by : (x : ValueType) → static_field_type (marked marks p) name x ≡ static_field_type p name x
    by (t.Class class is_local) = refl
    by t.Int = refl
    by t.Long = refl
    by t.Boolean = refl
    by (t.Pt n) = refl
    by (t.Rc n) = refl
    by (t.Dm n) = refl
    by t.Region = refl
    by (t.Grid element dim is_local) = refl
    by t.Null = refl
    by t.Void = refl

pub built_in_same : (marks : Marks) (p : ProgramView) (name : ℕ) → built_in (marked marks p) name ≡ built_in p name
unfolding built_in
built_in_same marks p name = refl

member_same : (marks : Marks) (p : ProgramView) (name : ℕ) (x : ValueType) → static_member_type (marked marks p) name x ≡ static_member_type p name x
member_same marks p name (t.Class class is_local) = ap (λ o. option_map_or result_type o t.Void) (instance_same marks p class name) ∙ given_same marks (instance_method p class name)
member_same marks p name t.Int = ap (λ b. built_in_type b t.Int) (built_in_same marks p name)
member_same marks p name t.Long = ap (λ b. built_in_type b t.Long) (built_in_same marks p name)
member_same marks p name t.Boolean = ap (λ b. built_in_type b t.Boolean) (built_in_same marks p name)
member_same marks p name (t.Pt n) = ap (λ b. built_in_type b (t.Pt n)) (built_in_same marks p name)
member_same marks p name (t.Rc n) = ap (λ b. built_in_type b (t.Rc n)) (built_in_same marks p name)
member_same marks p name (t.Dm n) = ap (λ b. built_in_type b (t.Dm n)) (built_in_same marks p name)
member_same marks p name t.Region = ap (λ b. built_in_type b t.Region) (built_in_same marks p name)
member_same marks p name (t.Grid element dim is_local) = ap (λ b. built_in_type b (t.Grid element dim is_local)) (built_in_same marks p name)
member_same marks p name t.Null = ap (λ b. built_in_type b t.Null) (built_in_same marks p name)
member_same marks p name t.Void = ap (λ b. built_in_type b t.Void) (built_in_same marks p name)

pub many_same : (singles : ℕ → Bool) (xs : NumberedExps) → how_many (marked_exps singles xs) ≡ how_many xs
many_same singles e.NoExp = refl
many_same singles (e.MoreExp x xs) = ap (λ n. n + 1) (many_same singles xs)

pub count_same : (singles : ℕ → Bool) (rs : NumberedRanges) → range_count (marked_ranges singles rs) ≡ range_count rs
count_same singles e.NoRange = refl
count_same singles (e.MoreRange r rs) = ap (λ n. 1 + n) (count_same singles rs)

module _ (marks : Marks) (p : ProgramView) (this : Option ℕ) (dims : ℕ → ℕ) (singles : ℕ → Bool) where
  mutual
    pub type_same : (x : NumberedExp) → type_at (marked marks p) this dims (marked_exp singles x) ≡ type_at p this dims x
    type_same (e.Variable at v) = used_same dims v.number (singles v.number) v.declared
    type_same (e.Call at method args) = called_same marks p method
    type_same (e.OwnCall at method args) = called_same marks p method
    type_same (e.Point at parts) = ap t.Pt (many_same singles parts)
    type_same (e.Rect at ranges) = ap t.Rc (ranges_same ranges)
    type_same (e.Unary at o x) = type_same x
    type_same (e.Binary at o x y) = ap₂ (operator_type o) (type_same x) (type_same y)
    type_same (e.Select at x name) = field_same marks p name _ ∙ ap (static_field_type p name) (type_same x)
    type_same (e.Member at x name args) = member_same marks p name _ ∙ ap (static_member_type p name) (type_same x)
    type_same (e.Index at x parts) = ap static_element_type (type_same x)
    type_same _ = refl

    range_same : (r : NumberedRange) → dims_of_range (marked marks p) this dims (marked_range singles r) ≡ dims_of_range p this dims r
    range_same (e.Plain low high) = ap dim_of_type (type_same low)
    range_same (e.Stepped low high step) = ap dim_of_type (type_same low)

    ranges_same : (rs : NumberedRanges) → dims_of_ranges (marked marks p) this dims (marked_ranges singles rs) ≡ dims_of_ranges p this dims rs
    ranges_same e.NoRange = refl
    ranges_same (e.MoreRange r e.NoRange) = range_same r
    ranges_same (e.MoreRange r (e.MoreRange q rs)) = ap (λ n. 1 + (1 + n)) (count_same singles rs)

pub text_same : (marks : Marks) (p : ProgramView) (this : Option ℕ) (singles : ℕ → Bool) (x : NumberedExp) → syntactic_type (marked marks p) this (marked_exp singles x) ≡ syntactic_type p this x
text_same marks p this singles x = type_same marks p this (λ number. 1) singles x

-- ---- what is called

behind_same : (marks : Marks) (p : ProgramView) (name : ℕ) (x : ValueType) → method_behind (marked marks p) x name ≡ option_map (marked_method marks) (method_behind p x name)
behind_same marks p name (t.Class class is_local) = instance_same marks p class name
behind_same marks p name _ = refl

pub call_same : (marks : Marks) (p : ProgramView) (this : Option ℕ) (singles : ℕ → Bool) (x : NumberedExp)
    → called_method (marked marks p) this (marked_exp singles x) ≡ option_map (marked_method marks) (called_method p this x)
call_same marks p this singles (e.Call at method args) = method_same marks p method
call_same marks p this singles (e.OwnCall at method args) = method_same marks p method
call_same marks p this singles (e.Member at x name args) = behind_same marks p name _ ∙ ap (λ y. option_map (marked_method marks) (method_behind p y name)) (text_same marks p this singles x)
call_same marks p this singles _ = refl

pub language_same : (marks : Marks) (p : ProgramView) (this : Option ℕ) (singles : ℕ → Bool) (x : NumberedExp) (name : ℕ)
    → member_called (marked marks p) this (marked_exp singles x) name ≡ member_called p this x name
language_same marks p this singles x name = ap (λ y. if is_object y then None else built_in (marked marks p) name)
    (text_same marks p this singles x) ∙ ap (λ b. if is_object (syntactic_type p this x) then None else b) (built_in_same marks p name)
