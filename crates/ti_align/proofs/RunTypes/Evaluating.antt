-- What a typed expression comes to is a value of its type, and all that it asks for is there.
use Rattle.std.proofs.Common.{w32, ◌≡◌, ℕ, ℤ, pos, pred, ◌+◌, ◌-◌, ◌^◌, ◌<◌, ◌≤◌, nat_lt, ◌==◌, int_le, ◌⊎◌, inl, inr, Bool, true, false}
use Rattle.std.proofs.Common.{not, ◌&&◌, ◌||◌, cond, if◌then◌else◌, length, find, position, slice_get, slice_index_or, unwrap_or}
use Rattle.std.proofs.Common.{option_map, option_and_then, Option, Some, None, List, [], ◌∷◌, ◌++◌, refl, ap, ap₂, sym, ◌∙◌, subst, arith}
use Rattle.std.proofs.Common.{eqb-true}
use Rattle.std.specs.List.{list_all, position_or_len}
use Rattle.std.specs.Option.{option_map_or}
use Rattle.std.proofs.lemmas.Bool.{lt-ltb, ltb-true, leb-true}
use Rattle.std.proofs.lemmas.List.{length-append, length-map, length-take-le}
use Rattle.std.proofs.lemmas.List.Folds.{find_at}
use Rattle.std.proofs.lemmas.Option.{slice_get_within}
use Rattle.ti_base.specs.declared.place.Place.{Place}
use Rattle.ti_base.specs.declared.point.Point.{Point}
use Rattle.ti_base.specs.declared.value.Id.{Id}
use Rattle.ti_base.specs.declared.value.Value.TheVariants as v
use Rattle.ti_base.specs.declared.fault.FaultKind.TheVariants as fault
use Rattle.ti_base.specs.declared.action.Action.TheVariants as act
use Rattle.ti_base.specs.declared.action.ViewHow.{ViewHow}
use Rattle.ti_base.specs.declared.action.ViewHow.TheVariants as how
use Rattle.ti_base.specs.Ranges.{natural}
use Rattle.ti_syntax.specs.declared.tree.exprs.UnaryOperator.{UnaryOperator}
use Rattle.ti_syntax.specs.declared.tree.exprs.UnaryOperator.TheVariants as un
use Rattle.ti_syntax.specs.declared.tree.exprs.BinaryOperator.{BinaryOperator}
use Rattle.ti_syntax.specs.declared.tree.exprs.BinaryOperator.TheVariants as op
use Rattle.std.specs.Option.{option_or}
use Rattle.ti_base.specs.Points.{IsDim}
use Rattle.ti_base.specs.Rects.{size_of}
use Rattle.ti_base.specs.WholeNumbers.{Fits}
use Rattle.ti_lang.specs.Members.{only_if}
use Rattle.ti_lang.specs.Program.Types.{ValueType, Declaration, VariableUse}
use Rattle.ti_lang.specs.Program.Types as t
use Rattle.ti_lang.specs.Program.Expressions.{NumberedExp, NumberedExps, NumberedRange, NumberedRanges}
use Rattle.ti_lang.specs.Program.Expressions as e
use Rattle.ti_lang.specs.Program.Classes.{NumberedField, ProgramView}
use Rattle.ti_lang.specs.Program.Scope.{ScopeContents, this_of}
use Rattle.ti_lang.specs.Typing.Kinds.{domain_dim, same_type, is_whole, is_void, is_point_type, is_object, is_local, as_global, read_through, dim_of_type, class_of_type, where_true}
use Rattle.ti_lang.specs.Typing.Fits.{casts}
use Rattle.ti_lang.specs.Typing.Operators.{wider, whole_type, truth_type, point_type, rect_type, same_dim, domain_type, unary_type, binary_type}
use Rattle.ti_lang.specs.Typing.BuiltIn.{BuiltIn, Size, Min, Max, Contains, Domain, Restrict, Translate, Slice, Copy, Exchange, Delete, built_in, member_type}
use Rattle.ti_lang.specs.Typing.Declared.{variable_type, fields_of_class, field_type, named_field_type, field_numbered, instance_method}
use Rattle.ti_lang.specs.Typing.Expressions.{ExprTyping, plain, operand, and_then_both, append_both, one, is_int, all_ints, point_literal, all_points, range_of_points, rect_literal, index_type, select_type, called, member_given, range_count, type_result, operands, bound_types, bounds, operand_type}
use Rattle.ti_lang.specs.Typing.Expressions as typing
use Rattle.ti_lang.specs.Typing.TextTypes.{operator_type, used_type, how_many, static_field_type, static_element_type, slice_type, built_in_type, static_member_type}
use Rattle.ti_lang.specs.Typing.Called.{member_called}
use Rattle.ti_lang.specs.Meaning.Held.{Held, Plain, zero_of, no_value, referent_of, point_of, rect_of, int_of, where_dim}
use Rattle.ti_lang.specs.Meaning.Comp.{ValueOf, NewThing, Reference, request_through, found_or, needed}
use Rattle.ti_lang.specs.Meaning.Literals.{coordinates_of, numbers_in, point_of_numbers}
use Rattle.ti_lang.specs.Meaning.Conversions.{most_points, converted}
use Rattle.ti_lang.specs.Meaning.CellRefs.{Field, Element, fetched, domain_asked, domain_of, viewed, indexed}
use Rattle.ti_lang.specs.Meaning.MemberForms.{greatest_size, domain_size, extreme, member_value}
use Rattle.ti_lang.specs.Meaning.Answers.{IsPointOf, IsRectOf}
use Rattle.ti_lang.specs.Meaning.Scoping.{Env, type_of, field_selected}
use Rattle.ti_lang.specs.Meaning.Evaluation.{is_own, eval, eval_all, eval_numbers, eval_range, eval_ranges}
use Rattle.ti_lang.proofs.Lemmas.{dim_is, how_many_is}
use Rattle.ti_align.specs.HeapTyping.{HeapTyping, with_owner, Grows, IsGridOf, IsOwn, IsOf, DimsFine}
use Rattle.ti_align.specs.Existing.{SameForm, SuitsView, dims_viewed}
use Rattle.ti_align.specs.Mirrors.Sound.{ReferenceFits, Sound}
use Rattle.ti_align.specs.Mirrors.Fitting.{EnvFits, IsWritten, AreWritten, IsRangeWritten, AreRangesWritten}
use Rattle.ti_align.specs.Heap.{FieldsFit}
use Rattle.ti_align.proofs.Runs.Vars.{true_false, and_left, and_right}
use Rattle.ti_align.proofs.RunTypes.Computing.{grid_stays, of_stays, same_owner, seen_from, own_of, sound_then, weaker, sound_value, sound_guarded, sound_tested, sound_found, sound_asked, goes_through, Names, names_own, names_thing, needed_as}
use Rattle.ti_align.proofs.RunTypes.Forms.{zero_fits, long_zero, natural_fits, AllFit, both_fit, get_fits, coordinates_fit, numbers_point, origin_point, empty_form, AreOf, bounds_form}
use Rattle.ti_align.proofs.RunTypes.Operating.{none_some, some_same, where_some, Seen, seen_same, type_same, to_global, to_local, global_type, operated_fine, right_fine, alone_fine, cast_fine}

-- ---- what there is

pub and_then : {A B : Type 0} (f : A → Option B) (o : Option A) (b : B) → option_and_then f o ≡ Some b → (a : A) × (o ≡ Some a) × (f a ≡ Some b)
and_then f None b h = absurd (none_some b h)
and_then f (Some a) b h = (a, refl, h)

pub mapped : {A B : Type 0} (f : A → B) (o : Option A) (b : B) → option_map f o ≡ Some b → (a : A) × (o ≡ Some a) × (f a ≡ b)
mapped f None b h = absurd (none_some b h)
mapped f (Some a) b h = (a, refl, some_same (f a) b h)

pub both_there : {A B C : Type 0} (f : A → B → Option C) (o : Option A) (q : Option B) (c : C) → and_then_both o q f ≡ Some c → (a : A) × (b : B) × (o ≡ Some a) × (q ≡ Some b) × (f a b ≡ Some c)
both_there f None q c h = absurd (none_some c h)
both_there f (Some a) None c h = absurd (none_some c h)
both_there f (Some a) (Some b) c h = (a, b, refl, refl, h)

pub joined_there : {A : Type 0} (o q : Option (List A)) (zs : List A) → append_both o q ≡ Some zs → (xs : List A) × (ys : List A) × (o ≡ Some xs) × (q ≡ Some ys) × (xs ++ ys ≡ zs)
joined_there None q zs h = absurd (none_some zs h)
joined_there (Some xs) None zs h = absurd (none_some zs h)
joined_there (Some xs) (Some ys) zs h = (xs, ys, refl, refl, some_same (xs ++ ys) zs h)

pub one_there : {A : Type 0} (o : Option A) (xs : List A) → one o ≡ Some xs → (a : A) × (o ≡ Some a) × (xs ≡ a ∷ [])
one_there None xs h = absurd (none_some xs h)
one_there (Some a) xs h = (a, refl, sym (some_same (a ∷ []) xs h))

-- an operand's type
pub not_void : (o : Option ValueType) (u : ValueType) → only_if (λ x. not (is_void x)) o ≡ Some u → (o ≡ Some u) × (is_void u ≡ false)
not_void None u h = absurd (none_some u h)
not_void (Some x) u h = by (is_void x) refl h
  where
    by : (b : Bool) → is_void x ≡ b → (if not b then Some x else None) ≡ Some u → (Some x ≡ Some u) × (is_void u ≡ false)
    by true z h = absurd (none_some u h)
    by false z h = (h, subst (λ y. is_void y ≡ false) (some_same x u h) z)

pub no_call : (k : ExprTyping) (u : ValueType) → operand k ≡ Some u → (k.is_call ≡ false) × (k.type ≡ Some u) × (is_void u ≡ false)
no_call k u h = by k.is_call refl h
  where
    by : (b : Bool) → k.is_call ≡ b → (if b then None else only_if (λ x. not (is_void x)) k.type) ≡ Some u → (k.is_call ≡ false) × (k.type ≡ Some u) × (is_void u ≡ false)
    by true z h = absurd (none_some u h)
    by false z h = let q = not_void k.type u h in (z, q.0, q.1)

-- ---- fields by name

found_at : (test : NumberedField → Bool) (xs : List NumberedField) (f : NumberedField) → find test xs ≡ Some f → (k : ℕ) × (position test xs ≡ Some k) × (slice_get xs k ≡ Some f)
found_at test xs f h =
    let at : slice_get xs (position_or_len test xs) ≡ Some f = sym (find_at test xs) ∙ h in
    (position_or_len test xs, ap (λ b. cond b (Some (position_or_len test xs)) None) (lt-ltb _ _ (slice_get_within xs (position_or_len test xs) f at)), at)

pub named_field : (p : ProgramView) (class name : ℕ) (type : ValueType) → named_field_type p class name ≡ Some type → (k : ℕ)
    × (field_numbered p name class ≡ Some k) × (field_type p class k ≡ Some type)
unfolding named_field_type
named_field p class name type h =
    let f = mapped (λ (f : NumberedField). f.ty.type) (find (λ (f : NumberedField). f.name == name) (fields_of_class p class)) type h in
    let k = found_at (λ (f : NumberedField). f.name == name) (fields_of_class p class) f.0 f.1 in
    (k.0, k.1, ap (option_map (λ (f : NumberedField). f.ty.type)) k.2 ∙ ap Some f.2)

-- ---- reads

-- what is read from the memory of a process, which is the own one where it's read through a local reference
pub read_of : (w : HeapTyping) (i : ℕ) (l : Bool) (type : ValueType) (h : Held) → (l ≡ true → i ≡ w.owner) → IsOf (with_owner i w) type h → IsOf w (read_through l type) h
read_of w i true type h e k = seen_from (with_owner i w) w.owner type h (λ z. e refl) k
read_of w i false type h e k = seen_from (with_owner i w) w.owner (as_global type) h (λ z. absurd (true_false (sym z ∙ global_type type))) (to_global (with_owner i w) type h k)

-- a view lies in the memory in which the grid does that is viewed
view_of : (w : HeapTyping) (i : ℕ) (l : Bool) (element : ValueType) (n : ℕ) (h : Held) → (l ≡ true → i ≡ w.owner) → IsOf (with_owner i w) (t.Grid element n true) h → IsOf w (t.Grid element n l) h
view_of w i true element n h e k = read_of w i true (t.Grid element n true) h e k
view_of w i false element n h e k = read_of w i false (t.Grid element n true) h e k

read_dims : (l : Bool) (type : ValueType) → DimsFine type → DimsFine (read_through l type)
read_dims true type k = k
read_dims false (t.Class c l) k = k
read_dims false (t.Grid e n l) k = k
read_dims false t.Int k = k
read_dims false t.Long k = k
read_dims false t.Boolean k = k
read_dims false (t.Pt n) k = k
read_dims false (t.Rc n) k = k
read_dims false (t.Dm n) k = k
read_dims false t.Region k = k
read_dims false t.Null k = k
read_dims false t.Void k = k

-- what is read has the form of the cell
pub read_form : (l : Bool) (type : ValueType) → SameForm (read_through l type) type
read_form true type = refl
read_form false (t.Class c l) = refl
read_form false (t.Grid e n l) = refl
read_form false t.Int = refl
read_form false t.Long = refl
read_form false t.Boolean = refl
read_form false (t.Pt n) = refl
read_form false (t.Rc n) = refl
read_form false (t.Dm n) = refl
read_form false t.Region = refl
read_form false t.Null = refl
read_form false t.Void = refl

-- so has what the text says of it
pub seen_form : (u type : ValueType) (l : Bool) → u ≡ read_through l type → SameForm u type
seen_form u type l z = ap as_global z ∙ read_form l type

-- grids of some elements and dimensions
abbrev pub IsGridType : ValueType → Type 0
IsGridType type = (element : ValueType) × (n : ℕ) × (l : Bool) × (type ≡ t.Grid element n l)

module _ (p : ProgramView) where
  -- a field of an object of this class
  pub field_fine : (w : HeapTyping) (at : Place) (type through : ValueType) (h : Held) (field class : ℕ) (l : Bool) (of : ValueType) → through
      ≡ t.Class class l → ((id : Id) → referent_of h ≡ Some id → w.class_at id ≡ Some class) → IsOwn w (is_local through) (referent_of h)
      → field_type p class field ≡ Some of → SameForm type of → Sound p (λ u k. IsOf u (read_through (is_local through) of) k) w (fetched at type (Field h through field))
  field_fine w at type through h field class l of through_is k own f same =
      sound_then p (λ u r. Names (λ u id. u.class_at id ≡ Some class) through u r) _ w (needed at through h) _
      (needed_as p w at through h (λ u id. u.class_at id ≡ Some class) k own)
      (λ u g r z. sound_asked p _ u (request_through r at (act.GetField r.thing field) (ValueOf type)) (
        (of, (class, z.thing, f)),
        goes_through u r (act.GetField r.thing field) refl (names_thing _ through (t.Class class l) u r through_is z z.thing),
        (of, type, (class, z.thing, f), refl, same),
      )
      (λ x i answer q. read_of x r.thing.owner (is_local through) of _ (names_own _ through u x r i z) (q of (class, i.classes r.thing class z.thing, f))))

  -- an element of a grid of such elements
  pub element_fine : (w : HeapTyping) (at : Place) (type through : ValueType) (h : Held) (index : Point) (element : ValueType) (n : ℕ)
      (l : Bool) → through ≡ t.Grid element n l → ((id : Id) → referent_of h ≡ Some id → IsGridOf w element n id)
      → IsOwn w (is_local through) (referent_of h)
      → IsPointOf n index → SameForm type element → Sound p (λ u k. IsOf u (read_through (is_local through) element) k) w (fetched at type (Element h through index))
  element_fine w at type through h index element n l through_is k own d same =
      sound_then p (λ u r. Names (λ u id. IsGridOf u element n id) through u r) _ w (needed at through h) _
      (needed_as p w at through h (λ u id. IsGridOf u element n id) k own)
      (λ u g r z. sound_asked p _ u (request_through r at (act.GetElem r.thing index) (ValueOf type)) (
        (element, n, z.thing, d),
        goes_through u r (act.GetElem r.thing index) refl (names_thing _ through (t.Grid element n l) u r through_is z z.thing),
        (element, type, n, z.thing, refl, same),
      )
      (λ x i answer q. read_of x r.thing.owner (is_local through) element _ (names_own _ through u x r i z) (q element n (grid_stays u x element n r.thing i z.thing))))

  pub domain_fine : (w : HeapTyping) (at : Place) (r : Reference) (element : ValueType) (n : ℕ) → IsGridOf w element n r.thing
      → ReferenceFits w r → dim_of_type r.type ≡ n → Sound p (λ u k. IsOf u (t.Rc n) k) w (domain_asked at r)
  domain_fine w at r element n z named d =
      sound_asked p _ w (request_through r at (act.DomainOf r.thing) (ValueOf (t.Rc (dim_of_type r.type)))) (
        (element, n, z),
        goes_through w r (act.DomainOf r.thing) refl named,
        (element, n, z, ap (λ m. ValueOf (t.Rc m)) d),
      )
      (λ x i answer q. q element n (grid_stays w x element n r.thing i z))

  pub viewed_fine : (w : HeapTyping) (at : Place) (type : ValueType) (view : ViewHow) (through : ValueType) (h : Held) (element : ValueType)
      (n : ℕ) (l : Bool) → through ≡ t.Grid element n l → ((id : Id) → referent_of h ≡ Some id → IsGridOf w element n id)
      → IsOwn w (is_local through) (referent_of h)
      → SuitsView view n → IsGridType type → Sound p (λ u k. IsOf u (t.Grid element (dims_viewed view n) (is_local through)) k) w (viewed at type view through h)
  viewed_fine w at type view through h element n l through_is k own s g =
      sound_then p (λ u r. Names (λ u id. IsGridOf u element n id) through u r) _ w (needed at through h) _
      (needed_as p w at through h (λ u id. IsGridOf u element n id) k own)
      (λ u o r z. sound_asked p _ u (request_through r at (act.MakeView r.thing view) (NewThing type)) (
        (element, n, z.thing, s),
        goes_through u r (act.MakeView r.thing view) refl (names_thing _ through (t.Grid element n l) u r through_is z z.thing),
        (g.0, g.1, g.2, ap NewThing g.3),
      )
      (λ x i answer q. view_of x r.thing.owner (is_local through) element (dims_viewed view n) _ (names_own _ through u x r i z) (q element n (grid_stays u x element n r.thing i z.thing))))

-- what a reference names
pub object_of : (w : HeapTyping) (c : ℕ) (l : Bool) (h : Held) → IsOf w (t.Class c l) h → (id : Id) → referent_of h ≡ Some id → w.class_at id ≡ Some c
object_of w c l h k id z = k.2 id (sym (ap referent_of k.1) ∙ z)

pub grid_in : (w : HeapTyping) (element : ValueType) (n : ℕ) (l : Bool) (h : Held) → IsOf w (t.Grid element n l) h → (id : Id) → referent_of h ≡ Some id → IsGridOf w element n id
grid_in w element n l h k id z = k.2 id (sym (ap referent_of k.1) ∙ z)

-- ---- numbers

-- how many numbers a value has
abbrev pub count_of : ValueType → ℕ
count_of (t.Pt n) = n
count_of type = 1

-- so many numbers, of 32 bits
abbrev pub Numbers : ℕ → List ℤ → Type 0
Numbers n zs = (length zs ≡ n) × AllFit zs

abbrev pub counts : List ValueType → ℕ
counts [] = 0
counts (x ∷ xs) = count_of x + counts xs

three : (p : Point) → p.dim ≤ 3 → length (coordinates_of p) ≡ p.dim
three p h = length-take-le p.dim (p.x1 ∷ p.x2 ∷ p.x3 ∷ []) h

numbers_count : (w : HeapTyping) (type : ValueType) (h : Held) → is_void type ≡ false → DimsFine type → IsOf w type h → length (numbers_in h) ≡ count_of type
numbers_count w (t.Pt n) h z d k = ap (λ x. length (numbers_in x)) k.1 ∙ three k.0 (subst (λ m. m ≤ 3) (sym k.2.dim_is) d.1) ∙ k.2.dim_is
numbers_count w t.Null h z d k = ap (λ x. length (numbers_in x)) k
numbers_count w t.Void h z d k = absurd (true_false z)
numbers_count w _ h z d k = ap (λ x. length (numbers_in x)) k.1

-- they are of 32 bits
numbers_fit : (w : HeapTyping) (type : ValueType) (h : Held) → is_void type ≡ false → IsOf w type h → AllFit (numbers_in h)
numbers_fit w t.Int h z k = subst (λ x. AllFit (numbers_in x)) (sym k.1) (k.2, tt)
numbers_fit w (t.Pt n) h z k = subst (λ x. AllFit (numbers_in x)) (sym k.1) (coordinates_fit k.0 k.2.coordinates)
numbers_fit w t.Null h z k = subst (λ x. AllFit (numbers_in x)) (sym k) (zero_fits, tt)
numbers_fit w t.Void h z k = absurd (true_false z)
numbers_fit w _ h z k = subst (λ x. AllFit (numbers_in x)) (sym k.1) (zero_fits, tt)

pub ints_count : (ts : List ValueType) → all_ints ts ≡ true → counts ts ≡ length ts
ints_count [] h = refl
ints_count (t.Int ∷ ts) h = omega (arith, ints_count ts h)
ints_count (_ ∷ ts) h = absurd (true_false (sym h))

-- values of all these types have so many numbers
abbrev AllCount : ℕ → List ValueType → Type 0
AllCount c [] = Unit {0}
AllCount c (x ∷ xs) = (count_of x ≡ c) × AllCount c xs

counts_both : (c : ℕ) (xs ys : List ValueType) → AllCount c (xs ++ ys) → AllCount c xs × AllCount c ys
counts_both c [] ys h = (tt, h)
counts_both c (x ∷ xs) ys h = let q = counts_both c xs ys h.1 in ((h.0, q.0), q.1)

ints_each : (ts : List ValueType) → all_ints ts ≡ true → AllCount 1 ts
ints_each [] h = tt
ints_each (t.Int ∷ ts) h = (refl, ints_each ts h)
ints_each (_ ∷ ts) h = absurd (true_false (sym h))

points_each : (n : ℕ) (ts : List ValueType) → all_points n ts ≡ true → AllCount n ts
points_each n [] h = tt
points_each n (x ∷ xs) h = (ap count_of (sym (type_same (t.Pt n) x (and_left (same_type (t.Pt n) x) (all_points n xs) h))), points_each n xs (and_right (same_type (t.Pt n) x) (all_points n xs) h))

-- the bounds and steps of a literal have the same number of numbers: one each, or those of the points
literal_counts : (ranges : ℕ) (ts : List ValueType) (r : ValueType) → rect_literal ranges ts ≡ Some r → (c : ℕ) × AllCount c ts
literal_counts ranges ts r h = by (all_ints ts) refl h
  where
    points : (ts : List ValueType) → range_of_points ts ≡ Some r → (c : ℕ) × AllCount c ts
    points (t.Pt n ∷ ts) h = (n, (refl, points_each n ts (where_some (all_points n ts) (t.Rc n) r h).0))
    points [] h = absurd (none_some r h)
    points (_ ∷ ts) h = absurd (none_some r h)

    one_range : (b : Bool) → (if b then range_of_points ts else None) ≡ Some r → (c : ℕ) × AllCount c ts
    one_range true h = points ts h
    one_range false h = absurd (none_some r h)

    by : (b : Bool) → all_ints ts ≡ b → (if b then Some (t.Rc ranges) else if ranges == 1 then range_of_points ts else None) ≡ Some r → (c : ℕ) × AllCount c ts
    by true a h = (1, ints_each ts a)
    by false a h = one_range (ranges == 1) h

all_both : (test : ValueType → Bool) (xs ys : List ValueType) → list_all test (xs ++ ys) ≡ true → (list_all test xs ≡ true) × (list_all test ys ≡ true)
all_both test [] ys h = (refl, h)
all_both test (x ∷ xs) ys h = by (test x) refl h (λ k. all_both test xs ys k)
  where
    by : (b : Bool) → test x ≡ b → list_all test ((x ∷ xs) ++ ys) ≡ true
        → (list_all test (xs ++ ys) ≡ true → (list_all test xs ≡ true) × (list_all test ys ≡ true)) → (list_all test (x ∷ xs) ≡ true)
        × (list_all test ys ≡ true)
    by true z h ih = let q = ih (sym (ap (λ c. c && list_all test (xs ++ ys)) z) ∙ h) in (ap₂ (λ c d. c && d) z q.0, q.1)
    by false z h ih = absurd (true_false (sym h ∙ ap (λ c. c && list_all test (xs ++ ys)) z))

-- ---- ranges, by their types

module _ (p : ProgramView) (s : ScopeContents) where
  abbrev maybe_count : Option ValueType → ℕ
  maybe_count None = 0
  maybe_count (Some type) = count_of type

  -- how many numbers the lower bounds have
  abbrev pub lows : NumberedRanges → ℕ
  lows e.NoRange = 0
  lows (e.MoreRange (e.Plain low high) rest) = maybe_count (operand_type p s low) + lows rest
  lows (e.MoreRange (e.Stepped low high step) rest) = maybe_count (operand_type p s low) + lows rest

  -- the type of the lower bound comes first
  abbrev First : NumberedExp → List ValueType → Type 0
  First low ts = (type : ValueType) × (rest : List ValueType) × (operand_type p s low ≡ Some type) × (ts ≡ type ∷ rest)

  first_of_range : (low : NumberedExp) (o : Option (List ValueType)) (ts : List ValueType) → append_both (one (operand_type p s low)) o ≡ Some ts → First low ts
  first_of_range low o ts h =
      let j = joined_there (one (operand_type p s low)) o ts h in
      let k = one_there (operand_type p s low) j.0 j.2 in
      (k.0, j.1, k.1, sym j.4 ∙ ap (λ xs. xs ++ j.1) k.2)

  first_stepped : (low high step : NumberedExp) (ts : List ValueType) → bound_types p s (e.Stepped low high step) ≡ Some ts → First low ts
  first_stepped low high step ts h =
      let j = joined_there (append_both (one (operand_type p s low)) (one (operand_type p s high))) (one (operand_type p s step)) ts h in
      let k = first_of_range low (one (operand_type p s high)) j.0 j.2 in
      (k.0, k.1 ++ j.1, k.2, sym j.4 ∙ ap (λ xs. xs ++ j.1) k.3)

  -- the type of the first lower bound
  abbrev pub first_low : NumberedRanges → Option ValueType
  first_low e.NoRange = None
  first_low (e.MoreRange (e.Plain low high) rest) = operand_type p s low
  first_low (e.MoreRange (e.Stepped low high step) rest) = operand_type p s low

  first : (r : NumberedRange) (ts : List ValueType) → bound_types p s r ≡ Some ts
      → (low : NumberedExp) × First low ts × ((rest : NumberedRanges) → lows (e.MoreRange r rest)
      ≡ maybe_count (operand_type p s low) + lows rest) × ((rest : NumberedRanges) → first_low (e.MoreRange r rest)
      ≡ operand_type p s low)
  first (e.Plain low high) ts h = (low, first_of_range low (one (operand_type p s high)) ts h, (λ rest. refl), λ rest. refl)
  first (e.Stepped low high step) ts h = (low, first_stepped low high step ts h, (λ rest. refl), λ rest. refl)

  int_count : (type : ValueType) → is_int type ≡ true → count_of type ≡ 1
  int_count t.Int h = refl
  int_count _ h = absurd (true_false (sym h))

  -- ranges of ints: one number each
  ints_lows : (rs : NumberedRanges) (ts : List ValueType) → bounds p s rs ≡ Some ts → all_ints ts ≡ true → lows rs ≡ range_count rs
  ints_lows e.NoRange ts h k = refl
  ints_lows (e.MoreRange r rest) ts h k =
      let j = joined_there (bound_types p s r) (bounds p s rest) ts h in
      let f = first r j.0 j.2 in
      let a = all_both is_int j.0 j.1 (subst (λ xs. all_ints xs ≡ true) (sym j.4) k) in
      let i : count_of f.1.0 ≡ 1 = int_count f.1.0 (and_left (is_int f.1.0) (list_all is_int f.1.1) (subst (λ xs. list_all is_int xs ≡ true) f.1.3 a.0)) in
      f.2 rest ∙ ap₂ (λ x y. x + y) (ap maybe_count f.1.2 ∙ i) (ints_lows rest j.1 j.3 a.1)

  point_range : (ts : List ValueType) (r : ValueType) → range_of_points ts ≡ Some r → (n : ℕ) × (rest : List ValueType) × (ts ≡ t.Pt n ∷ rest) × (r ≡ t.Rc n)
  point_range (t.Pt n ∷ ts) r h = (n, ts, refl, sym (where_some (all_points n ts) (t.Rc n) r h).1)
  point_range [] r h = absurd (none_some r h)
  point_range (_ ∷ ts) r h = absurd (none_some r h)

  same_first : (x y : ValueType) (xs ys : List ValueType) → x ∷ xs ≡ y ∷ ys → x ≡ y
  same_first x y xs ys h = cc

  -- a literal has the dimensions of its lower bounds: as many as ranges, or those of the points
  pub literal_dims : (rs : NumberedRanges) (ts : List ValueType) (r : ValueType) → bounds p s rs ≡ Some ts → rect_literal (range_count rs) ts ≡ Some r
      → (r ≡ t.Rc (lows rs)) × ((lows rs ≡ range_count rs) ⊎ ((n : ℕ) × (first_low rs ≡ Some (t.Pt n)) × (lows rs ≡ n)))
  literal_dims rs ts r h k = by (all_ints ts) refl k
    where
      one_range : (rs : NumberedRanges) → bounds p s rs ≡ Some ts → (range_count rs == 1) ≡ true → range_of_points ts ≡ Some r
          → (r ≡ t.Rc (lows rs)) × ((n : ℕ) × (first_low rs ≡ Some (t.Pt n)) × (lows rs ≡ n))
      one_range e.NoRange h c k = absurd (none_some r (ap range_of_points (some_same [] ts h) ∙ k))
      one_range (e.MoreRange q e.NoRange) h c k =
          let j = joined_there (bound_types p s q) (bounds p s e.NoRange) ts h in
          let f = first q j.0 j.2 in
          let z = point_range ts r k in
          let type : f.1.0 ≡ t.Pt z.0 = same_first _ _ _ _ (sym (ap (λ xs. xs ++ j.1) f.1.3) ∙ j.4 ∙ z.2) in
          let n : lows (e.MoreRange q e.NoRange) ≡ z.0 = f.2 e.NoRange ∙ ap (λ o. maybe_count o + 0) (f.1.2 ∙ ap Some type) ∙ plus_zero z.0 in
          (z.3 ∙ ap t.Rc (sym n), (z.0, f.3 e.NoRange ∙ f.1.2 ∙ ap Some type, n))
        where
          plus_zero : (n : ℕ) → n + 0 ≡ n
          plus_zero n = omega arith
      one_range (e.MoreRange q (e.MoreRange q' rest)) h c k = absurd (more (range_count rest) (eqb-true _ 1 c))
        where
          more : (n : ℕ) → 1 + (1 + n) ≡ 1 → ⊥
          more n h = absurd (omega arith)

      points : (b : Bool) → (range_count rs == 1) ≡ b → (if b then range_of_points ts else None) ≡ Some r → (r ≡ t.Rc (lows rs))
          × ((lows rs ≡ range_count rs) ⊎ ((n : ℕ) × (first_low rs ≡ Some (t.Pt n)) × (lows rs ≡ n)))
      points true c k = let z = one_range rs h c k in (z.0, inr z.1)
      points false c k = absurd (none_some r k)

      by : (b : Bool) → all_ints ts ≡ b → (if b then Some (t.Rc (range_count rs)) else if range_count rs == 1 then range_of_points ts else None) ≡ Some r
          → (r ≡ t.Rc (lows rs)) × ((lows rs ≡ range_count rs) ⊎ ((n : ℕ) × (first_low rs ≡ Some (t.Pt n)) × (lows rs ≡ n)))
      by true a k = let z = ints_lows rs ts h a in (sym (some_same _ r k) ∙ ap t.Rc (sym z), inl z)
      by false a k = points (range_count rs == 1) refl k

-- ---- members

abbrev pub AllOfTypes : HeapTyping → List ValueType → List Held → Type 0
AllOfTypes w [] [] = Unit {0}
AllOfTypes w (x ∷ xs) (h ∷ hs) = IsOf w x h × AllOfTypes w xs hs
AllOfTypes w xs hs = ⊥

module _ (p : ProgramView) (w : HeapTyping) where
  few : (n : ℕ) → n ≤ greatest_size → n < 2 ^ 31
  few n h = omega (arith, h)

  fewer : (n : ℕ) → n ≤ most_points → n < 2 ^ 31
  fewer n h = few n (omega (arith, h))

  sized_fine : (at : Place) (h : Held) (n : ℕ) → (IsOf w (t.Rc n) h) ⊎ (IsOf w (t.Dm n) h) → Sound p (λ u k. IsOf u t.Int k) w (domain_size at h)
  sized_fine at h n (inl k) = subst (λ z. Sound p (λ u k. IsOf u t.Int k) w (domain_size at z)) (sym k.1)
      (sound_tested p _ w _ _ at _ (λ q. (
        _,
        refl,
        natural_fits (size_of k.0)
            (few (size_of k.0) (leb-true (size_of k.0) greatest_size q)),
      )))
  sized_fine at h n (inr k) = subst (λ z. Sound p (λ u k. IsOf u t.Int k) w (domain_size at z)) (sym k.1) (sound_value p _ w _ (_, refl, natural_fits (length k.0) (fewer (length k.0) k.2.few)))

  rect_is : (n : ℕ) (h : Held) → IsOf w (t.Rc n) h → IsRectOf n (rect_of h)
  rect_is n h k = subst (IsRectOf n) (sym (ap rect_of k.1)) k.2

  point_is : (n : ℕ) (h : Held) → IsOf w (t.Pt n) h → IsPointOf n (point_of h)
  point_is n h k = subst (IsPointOf n) (sym (ap point_of k.1)) k.2

  int_is : (h : Held) → IsOf w t.Int h → Fits w32 (int_of h)
  int_is h k = subst (λ z. Fits w32 (int_of z)) (sym k.1) k.2

  -- two numbers
  int_args : (hs : List Held) → AllOfTypes w (t.Int ∷ t.Int ∷ []) hs → Fits w32 (int_of (slice_index_or hs 0 no_value)) × Fits w32 (int_of (slice_index_or hs 1 no_value))
  int_args [] a = absurd a
  int_args (x ∷ []) a = absurd a.1
  int_args (x ∷ y ∷ []) a = (int_is x a.0, int_is y a.1.0)
  int_args (x ∷ y ∷ z ∷ hs) a = absurd a.1.1

  -- a view through a reference whose type the text tells
  view_seen : (at : Place) (wanted : ValueType) (view : ViewHow) (through : ValueType) (h : Held) (x : ValueType) (n : ℕ) (l : Bool)
      → through ≡ t.Grid x n l → IsOf w (t.Grid x n l) h → SuitsView view n → IsGridType wanted
      → Sound p (λ u k. IsOf u (t.Grid x (dims_viewed view n) l) k) w (viewed at wanted view through h)
  view_seen at wanted view through h x n l y k s g =
      subst (λ q. Sound p (λ u k. IsOf u (t.Grid x (dims_viewed view n) l) k) w (viewed at wanted view q h)) (sym y)
      (viewed_fine p w at wanted view (t.Grid x n l) h x n l refl (grid_in w x n l h k) (own_of w (t.Grid x n l) h k) s g)

  pub member_fine : (at : Place) (wanted through : ValueType) (b : BuiltIn) (type r : ValueType) (ts : List ValueType) (h : Held)
      (hs : List Held) → member_type b type ts ≡ Some r → is_void r ≡ false → Seen type through → IsOf w type h → AllOfTypes w ts hs
      → wanted ≡ built_in_type (Some b) through → Sound p (λ u k. IsOf u r k) w (member_value at wanted (Some b) through h hs)
  member_fine at wanted through Size (t.Rc n) r [] h hs e z y k a same = subst (λ q. Sound p (λ u k. IsOf u q k) w (domain_size at h)) (some_same t.Int r e) (sized_fine at h n (inl k))
  member_fine at wanted through Size (t.Dm n) r [] h hs e z y k a same = subst (λ q. Sound p (λ u k. IsOf u q k) w (domain_size at h)) (some_same t.Int r e) (sized_fine at h n (inr k))
  member_fine at wanted through Min (t.Rc n) r [] h hs e z y k a same =
      subst (λ q. Sound p (λ u k. IsOf u q k) w (extreme at h (rect_of h).lo)) (some_same (t.Pt n) r e) (sound_guarded p _ w _ _ at _ ((rect_of h).lo, refl, (rect_is n h k).low))
  member_fine at wanted through Max (t.Rc n) r [] h hs e z y k a same =
      subst (λ q. Sound p (λ u k. IsOf u q k) w (extreme at h (rect_of h).hi)) (some_same (t.Pt n) r e) (sound_guarded p _ w _ _ at _ ((rect_of h).hi, refl, (rect_is n h k).high))
  member_fine at wanted through Contains (t.Rc n) r (t.Pt m ∷ []) h hs e z y k a same =
      subst (λ q. Sound p (λ u k. IsOf u q k) w (member_value at wanted (Some Contains) through h hs)) (where_some (n == m) t.Boolean r e).1 (sound_value p _ w _ (_, refl))
  member_fine at wanted through Contains (t.Dm n) r (t.Pt m ∷ []) h hs e z y k a same =
      subst (λ q. Sound p (λ u k. IsOf u q k) w (member_value at wanted (Some Contains) through h hs)) (where_some (n == m) t.Boolean r e).1 (sound_value p _ w _ (_, refl))
  member_fine at wanted through Domain (t.Grid x n l) r [] h hs e z y k a same =
      subst (λ q. Sound p (λ u k. IsOf u q k) w (domain_of at through h)) (some_same (t.Rc n) r e)
      (subst (λ q. Sound p (λ u k. IsOf u (t.Rc n) k) w (domain_of at q h)) (sym y)
      (sound_then p (λ u r. Names (λ u id. IsGridOf u x n id) (t.Grid x n l) u r) _ w (needed at (t.Grid x n l) h) _
      (needed_as p w at (t.Grid x n l) h (λ u id. IsGridOf u x n id) (grid_in w x n l h k) (own_of w (t.Grid x n l) h k))
      (λ u g y i. domain_fine p u at y x n i.thing (names_thing _ (t.Grid x n l) (t.Grid x n l) u y refl i i.thing) (ap dim_of_type i.type))))
  member_fine at wanted through Restrict (t.Grid x n l) r (t.Rc m ∷ []) h (c ∷ []) e z y k a same =
      let q = where_some (n == m) (t.Grid x n l) r e in
      subst (λ o. Sound p (λ u k. IsOf u o k) w (viewed at wanted (how.Restrict (rect_of c)) through h)) q.1
      (view_seen at wanted (how.Restrict (rect_of c)) through h x n l y k (subst (λ d. IsRectOf d (rect_of c)) (sym (eqb-true n m q.0)) (rect_is m c a.0)) (x, n, l, same ∙ y))
  member_fine at wanted through Translate (t.Grid x n l) r (t.Pt m ∷ []) h (c ∷ []) e z y k a same =
      let q = where_some (n == m) (t.Grid x n l) r e in
      subst (λ o. Sound p (λ u k. IsOf u o k) w (viewed at wanted (how.Translate (point_of c)) through h)) q.1
      (view_seen at wanted (how.Translate (point_of c)) through h x n l y k (subst (λ d. IsPointOf d (point_of c)) (sym (eqb-true n m q.0)) (point_is m c a.0)) (x, n, l, same ∙ y))
  member_fine at wanted through Slice (t.Grid x n l) r (t.Int ∷ t.Int ∷ []) h hs e z y k a same =
      let q = where_some (nat_lt 1 n) (t.Grid x (n - 1) l) r e in
      subst (λ o. Sound p (λ u k. IsOf u o k) w (member_value at wanted (Some Slice) through h hs)) q.1
      (view_seen at wanted (how.Slice (int_of (slice_index_or hs 0 no_value)) (int_of (slice_index_or hs 1 no_value))) through h x n l y k
      (let two = int_args hs a in (ltb-true 1 n q.0, two.0, two.1)) (x, n - 1, l, same ∙ ap slice_type y))
  member_fine at wanted through Restrict (t.Grid x n l) r (t.Rc m ∷ []) h [] e z y k a same = absurd a
  member_fine at wanted through Restrict (t.Grid x n l) r (t.Rc m ∷ []) h (c ∷ d ∷ hs) e z y k a same = absurd a.1
  member_fine at wanted through Translate (t.Grid x n l) r (t.Pt m ∷ []) h [] e z y k a same = absurd a
  member_fine at wanted through Translate (t.Grid x n l) r (t.Pt m ∷ []) h (c ∷ d ∷ hs) e z y k a same = absurd a.1
  member_fine at wanted through Copy type r (c ∷ []) h hs e z y k a same = absurd (true_false (ap is_void (where_some _ t.Void r e).1 ∙ z))
  member_fine at wanted through Exchange type r (c ∷ []) h hs e z y k a same = absurd (true_false (ap is_void (where_some _ t.Void r e).1 ∙ z))
  member_fine at wanted through Delete t.Region r [] h hs e z y k a same = absurd (true_false (ap is_void (some_same t.Void r e) ∙ z))
  member_fine at wanted through _ type r ts h hs e z y k a same = absurd (none_some r e)

-- ---- expressions

-- a value of its type, with the dimensions that types have, and the type that the text tells
pub record Evaluates (w : HeapTyping) (env : Env) (x : NumberedExp) (type : ValueType) : Type 0 where
  pub sound : Sound env.program (λ u h. IsOf u type h) w (eval env x)
  pub dims : DimsFine type
  pub seen : Seen type (type_of env x)

pub env_stays : (uses : VariableUse → Bool) (s : ScopeContents) (u w : HeapTyping) (env : Env) → Grows u w → EnvFits uses s u env → EnvFits uses s w env
env_stays uses s u w env g f = record {
  owner = sym g.owner ∙ f.owner;
  number = f.number;
  procs = f.procs;
  this_class = f.this_class;
  this = λ c z id k. g.classes id c (f.this c z id k);
  variables = λ x type b z. of_stays u w type _ g (f.variables x type b z);
  dims = f.dims;
  points = f.points;
}

-- an index: a coordinate, or an element of a grid
indexed_fine : (p : ProgramView) (w : HeapTyping) (at : Place) (wanted u type r : ValueType) (ts : List ValueType) (h : Held) (zs : List ℤ)
    → index_type type ts ≡ Some r → Seen type u → DimsFine type → IsOf w type h → Numbers (counts ts) zs → wanted ≡ static_element_type u
    → Sound p (λ x k. IsOf x r k) w (indexed (is_point_type u) at wanted u h zs) × DimsFine r × Seen r (static_element_type u)
indexed_fine p w at wanted u (t.Pt n) r (t.Int ∷ []) h zs e i d k l same =
    subst (λ q. Sound p (λ x k. IsOf x q k) w (indexed (is_point_type u) at wanted u h zs) × DimsFine q × Seen q (static_element_type u)) (some_same t.Int r e) (
      subst (λ b. Sound p (λ x k. IsOf x t.Int k) w (indexed b at wanted u h zs)) (sym (ap is_point_type i.1))
          (sound_then p (λ x (y : ℤ). Fits w32 y) _ w (found_or fault.Bounds at
          (if int_le (pos 1) (slice_index_or zs 0 (pos 0)) then slice_get (coordinates_of (point_of h))
          (pred (natural (slice_index_or zs 0 (pos 0)))) else None)) _
          (sound_found p _ w fault.Bounds at _ (λ y z. coordinate_fits (int_le (pos 1) (slice_index_or zs 0 (pos 0)))
          (pred (natural (slice_index_or zs 0 (pos 0)))) y z)) (λ x g y z. sound_value p _ x _ (y, refl, z))),
      tt,
      ap static_element_type i.1,
    )
  where
    coordinate_fits : (b : Bool) (c : ℕ) (y : ℤ) → (if b then slice_get (coordinates_of (point_of h)) c else None) ≡ Some y → Fits w32 y
    coordinate_fits true c y z = get_fits (coordinates_of (point_of h)) c y (coordinates_fit (point_of h) (subst (λ q. IsPointOf n (point_of q)) (sym k.1) k.2).coordinates) z
    coordinate_fits false c y z = absurd (none_some y z)
indexed_fine p w at wanted u (t.Grid element n l) r ts h zs e i d k c same = by (dims_are ts e)
  where
    dims_are : (ts : List ValueType) → index_type (t.Grid element n l) ts ≡ Some r → (counts ts ≡ n) × (read_through l element ≡ r)
    dims_are (t.Pt m ∷ []) e = let q = where_some (n == m) (read_through l element) r e in (plus_zero m ∙ sym (eqb-true n m q.0), q.1)
      where
        plus_zero : (m : ℕ) → m + 0 ≡ m
        plus_zero m = omega arith
    dims_are ts e = let q = where_some (all_ints ts && (length ts == n)) (read_through l element) r e in (
      ints_count ts (and_left (all_ints ts) (length ts == n) q.0)
          ∙ eqb-true (length ts) n (and_right (all_ints ts) (length ts == n) q.0),
      q.1,
    )

    by : (counts ts ≡ n) × (read_through l element ≡ r) → Sound p (λ x k. IsOf x r k) w (indexed (is_point_type u) at wanted u h zs) × DimsFine r × Seen r (static_element_type u)
    by q =
        subst (λ z. Sound p (λ x k. IsOf x z k) w (indexed (is_point_type u) at wanted u h zs) × DimsFine z × Seen z (static_element_type u)) q.1 (
          subst (λ b. Sound p (λ x k. IsOf x (read_through l element) k) w (indexed b at wanted u h zs)) (sym (ap is_point_type i))
              (subst (λ o. Sound p (λ x k. IsOf x (read_through l element) k) w (indexed false at wanted o h zs)) (sym i)
              (element_fine p w at wanted (t.Grid element n l) h (point_of_numbers zs) element n l refl (grid_in w element n l h k)
              (own_of w (t.Grid element n l) h k) (numbers_point zs n (c.0 ∙ q.0) d.0 c.1)
              (seen_form wanted element l (same ∙ ap static_element_type i)))),
          read_dims l element d.1,
          subst (λ z. Seen (read_through l element) (static_element_type z)) (sym i) (seen_same (read_through l element)),
        )
indexed_fine p w at wanted u _ r ts h zs e i d k c same = absurd (none_some r e)

-- `this` has a global type
pub this_global : (o : Option ℕ) → is_local (option_map_or (λ class. t.Class class false) o t.Void) ≡ false
this_global None = refl
this_global (Some class) = refl

-- what the test of a cast tells
cast_own : (w : HeapTyping) (i : ℕ) (type : ValueType) (h : Held) → w.owner ≡ i → (not (is_local type) || is_own i (referent_of h)) ≡ true → IsOwn w (is_local type) (referent_of h)
cast_own w i type h e k l = same_owner i w.owner (referent_of h) (sym e) (sym (ap (λ b. not b || is_own i (referent_of h)) l) ∙ k)

to_type : (w : HeapTyping) (env : Env) (x : NumberedExp) (a b : ValueType) → a ≡ b → Evaluates w env x a → Evaluates w env x b
to_type w env x a b z k = subst (λ (c : ValueType). Evaluates w env x c) z k

-- the type of a node of which no operand is judged
of_plain : (a b : ValueType) → operand (plain (Some a)) ≡ Some b → a ≡ b
of_plain a b h = some_same a b (no_call (plain (Some a)) b h).1

used_seen : (d : Declaration) (s : ScopeContents) (n : ℕ) (type : ValueType) → variable_type s (record { number = n; declared = d })
    ≡ Some type → (d ≡ t.Foreach → (m : ℕ) × (type ≡ t.Pt m)) → Seen type (used_type (λ number. 1) n d)
used_seen (t.Typed l of) s n type z f = subst (λ q. Seen q of) (some_same of type z) (seen_same of)
used_seen t.Foreach s n type z f = let q = f refl in subst (λ y. Seen y (t.Pt 1)) (sym q.1) (1, refl)

pub never_called : (m : Option _) (o : Option (List ValueType)) (type : ValueType) → operand (called m o) ≡ Some type → ⊥
never_called m None type h = none_some type h
never_called None (Some ts) type h = none_some type h
never_called (Some m) (Some ts) type h = none_some type h

zero_there : (n : ℕ) (h : Held) → IsDim n → where_dim n h ≡ h
zero_there n h d = ap (λ b. if b then h else no_value) (dim_is n d)

-- a zero of each type
pub zero_fine : (w : HeapTyping) (type : ValueType) → DimsFine type → IsOf w type (zero_of type)
zero_fine w t.Int d = (_, refl, zero_fits)
zero_fine w t.Long d = (_, refl, long_zero)
zero_fine w t.Boolean d = (_, refl)
zero_fine w (t.Pt n) d = (_, zero_there n _ d, origin_point n d)
zero_fine w (t.Rc n) d = (_, zero_there n _ d, empty_form n d)
zero_fine w (t.Dm n) d = ([], zero_there n _ d, record { points = tt; rises = tt; few = omega arith })
zero_fine w t.Region d = (0, refl, inl refl)
zero_fine w (t.Class c l) d = (None, refl, (λ id z. absurd (none_some id z)), λ z. refl)
zero_fine w (t.Grid x n l) d = (None, refl, (λ id z. absurd (none_some id z)), λ z. refl)
zero_fine w t.Null d = refl
zero_fine w t.Void d = tt

binary_seen : (p : ProgramView) (w : HeapTyping) (o : BinaryOperator) (a u r t' u' : ValueType) → binary_type o a u ≡ Some r → DimsFine a
    → DimsFine u → Seen a t' → Seen u u' → Seen r (operator_type o t' u')
binary_seen p w o a u r t' u' e d f i j = (operated_fine p w (record { line = 0; col = 0 }) a u r t' u' (zero_of a) (zero_of u) i j (zero_fine w a d) (zero_fine w u f) o e).1

unary_seen : (p : ProgramView) (w : HeapTyping) (o : UnaryOperator) (a r t' : ValueType) → unary_type o a ≡ Some r → DimsFine a → Seen a t' → Seen r t'
unary_seen p w o a r t' e d i = (alone_fine p w o a r t' (zero_of a) e i (zero_fine w a d)).1

pub from_or : (a b : Option ValueType) (r : ValueType) → option_or a b ≡ Some r → (a ≡ Some r) ⊎ (b ≡ Some r)
from_or None b r e = inr e
from_or (Some x) b r e = inl e

whole_dims : (a u r : ValueType) → whole_type a u ≡ Some r → DimsFine r
whole_dims a u r e = subst DimsFine (where_some (is_whole a && is_whole u) (wider a u) r e).1 (by a u)
  where
    by : (a u : ValueType) → DimsFine (wider a u)
    by t.Int t.Int = tt
    by t.Int _ = tt
    by _ _ = tt

paired_dims : (a u r : ValueType) → point_type a u ≡ Some r → DimsFine a → DimsFine r
paired_dims (t.Pt n) (t.Pt m) r e d = subst DimsFine (where_some (n == m) (t.Pt n) r e).1 d
paired_dims (t.Pt n) _ r e d = absurd (none_some r e)
paired_dims _ _ r e d = absurd (none_some r e)

rects_dims : (a u r : ValueType) → rect_type a u ≡ Some r → DimsFine a → DimsFine r
rects_dims (t.Rc n) (t.Rc m) r e d = subst DimsFine (where_some (n == m) (t.Rc n) r e).1 d
rects_dims (t.Rc n) _ r e d = absurd (none_some r e)
rects_dims _ _ r e d = absurd (none_some r e)

pub dims_in : (a : ValueType) (n : ℕ) → domain_dim a ≡ Some n → DimsFine a → IsDim n
dims_in (t.Rc m) n e d = subst IsDim (some_same m n e) d
dims_in (t.Dm m) n e d = subst IsDim (some_same m n e) d
dims_in _ n e d = absurd (none_some n e)

domain_dims : (a u r : ValueType) → domain_type a u ≡ Some r → DimsFine a → DimsFine r
domain_dims a u r e d = let q = mapped t.Dm (same_dim (domain_dim a) (domain_dim u)) r e in subst DimsFine q.2 (by (domain_dim a) refl (domain_dim u) q.0 q.1)
  where
    by : (x : Option ℕ) → domain_dim a ≡ x → (y : Option ℕ) (n : ℕ) → same_dim x y ≡ Some n → IsDim n
    by (Some i) z (Some j) n h = dims_in a n (z ∙ ap Some (where_some (i == j) i n h).1) d
    by (Some i) z None n h = absurd (none_some n h)
    by None z y n h = absurd (none_some n h)

truth_dims : (a u r : ValueType) → truth_type a u ≡ Some r → DimsFine r
truth_dims t.Boolean t.Boolean r e = subst DimsFine (some_same t.Boolean r e) tt
truth_dims t.Boolean _ r e = absurd (none_some r e)
truth_dims _ _ r e = absurd (none_some r e)

binary_dims : (o : BinaryOperator) (a u r : ValueType) → binary_type o a u ≡ Some r → DimsFine a → DimsFine r
binary_dims o a u r e d = by o e
  where
    sum : option_or (whole_type a u) (option_or (point_type a u) (domain_type a u)) ≡ Some r → DimsFine r
    sum e = one_of (from_or (whole_type a u) _ r e)
      where
        two_of : (point_type a u ≡ Some r) ⊎ (domain_type a u ≡ Some r) → DimsFine r
        two_of (inl z) = paired_dims a u r z d
        two_of (inr z) = domain_dims a u r z d

        one_of : (whole_type a u ≡ Some r) ⊎ (option_or (point_type a u) (domain_type a u) ≡ Some r) → DimsFine r
        one_of (inl z) = whole_dims a u r z
        one_of (inr z) = two_of (from_or (point_type a u) (domain_type a u) r z)

    product : option_or (whole_type a u) (option_or (rect_type a u) (domain_type a u)) ≡ Some r → DimsFine r
    product e = one_of (from_or (whole_type a u) _ r e)
      where
        two_of : (rect_type a u ≡ Some r) ⊎ (domain_type a u ≡ Some r) → DimsFine r
        two_of (inl z) = rects_dims a u r z d
        two_of (inr z) = domain_dims a u r z d

        one_of : (whole_type a u ≡ Some r) ⊎ (option_or (rect_type a u) (domain_type a u) ≡ Some r) → DimsFine r
        one_of (inl z) = whole_dims a u r z
        one_of (inr z) = two_of (from_or (rect_type a u) (domain_type a u) r z)

    bits : option_or (whole_type a u) (truth_type a u) ≡ Some r → DimsFine r
    bits e = one_of (from_or (whole_type a u) (truth_type a u) r e)
      where
        one_of : (whole_type a u ≡ Some r) ⊎ (truth_type a u ≡ Some r) → DimsFine r
        one_of (inl z) = whole_dims a u r z
        one_of (inr z) = truth_dims a u r z

    tested : (b : Bool) (x : ValueType) → DimsFine x → where_true b x ≡ Some r → DimsFine r
    tested b x y e = subst DimsFine (where_some b x r e).1 y

    by : (o : BinaryOperator) → binary_type o a u ≡ Some r → DimsFine r
    by op.OrElse e = truth_dims a u r e
    by op.AndThen e = truth_dims a u r e
    by op.Or e = bits e
    by op.Xor e = bits e
    by op.And e = bits e
    by op.ShiftLeft e = tested _ a d e
    by op.ShiftRight e = tested _ a d e
    by op.UnsignedShiftRight e = tested _ a d e
    by op.Add e = sum e
    by op.Subtract e = sum e
    by op.Multiply e = product e
    by op.Divide e = whole_dims a u r e
    by op.Remainder e = whole_dims a u r e
    by _ e = tested _ t.Boolean tt e

unary_dims : (o : UnaryOperator) (a r : ValueType) → unary_type o a ≡ Some r → DimsFine a → DimsFine r
unary_dims un.Not t.Boolean r e d = subst DimsFine (some_same t.Boolean r e) tt
unary_dims un.Not _ r e d = absurd (none_some r e)
unary_dims un.Plus a r e d = subst DimsFine (where_some (is_whole a) a r e).1 d
unary_dims un.Minus a r e d = subst DimsFine (where_some (is_whole a) a r e).1 d
unary_dims un.Complement a r e d = subst DimsFine (where_some (is_whole a) a r e).1 d

index_static : (type u r : ValueType) (ts : List ValueType) → index_type type ts ≡ Some r → Seen type u → DimsFine type → DimsFine r × Seen r (static_element_type u)
index_static (t.Pt n) u r (t.Int ∷ []) e i d = subst (λ q. DimsFine q × Seen q (static_element_type u)) (some_same t.Int r e) (tt, ap static_element_type i.1)
index_static (t.Grid x n l) u r ts e i d = by ts e
  where
    done : read_through l x ≡ r → DimsFine r × Seen r (static_element_type u)
    done q = subst (λ z. DimsFine z × Seen z (static_element_type u)) q (read_dims l x d.1, subst (λ z. Seen (read_through l x) (static_element_type z)) (sym i) (seen_same (read_through l x)))

    by : (ts : List ValueType) → index_type (t.Grid x n l) ts ≡ Some r → DimsFine r × Seen r (static_element_type u)
    by (t.Pt m ∷ []) e = done (where_some (n == m) (read_through l x) r e).1
    by ts e = done (where_some (all_ints ts && (length ts == n)) (read_through l x) r e).1
index_static _ u r ts e i d = absurd (none_some r e)

-- ---- members of the language

abbrev pub MemberThere : ProgramView → Option ValueType → Option (List ValueType) → ℕ → ValueType → Type 0
MemberThere p o q name r =
    (type : ValueType) × (ts : List ValueType) × (o ≡ Some type) × (q ≡ Some ts) × (b : BuiltIn) × (built_in p name ≡ Some b)
    × (member_type b type ts ≡ Some r) × (is_object type ≡ false) × (is_void r ≡ false)

pub member_there : (p : ProgramView) (o : Option ValueType) (q : Option (List ValueType)) (name : ℕ) (r : ValueType) → operand (typing.member_typing p o name q) ≡ Some r → MemberThere p o q name r
member_there p None q name r h = absurd (none_some r h)
member_there p (Some type) None name r h = absurd (none_some r h)
member_there p (Some type) (Some ts) name r h = by type h
  where
    given : (type : ValueType) → is_object type ≡ false → operand (plain
        (option_and_then (λ (b : BuiltIn). member_type b type ts) (built_in p name))) ≡ Some r
        → MemberThere p (Some type) (Some ts) name r
    given type z h =
        let k = no_call (plain (option_and_then (λ (b : BuiltIn). member_type b type ts) (built_in p name))) r h in
        let q = and_then (λ (b : BuiltIn). member_type b type ts) (built_in p name) r k.1 in
        (type, ts, refl, refl, q.0, q.1, q.2, z, k.2)

    by : (type : ValueType) → operand (member_given p type name ts) ≡ Some r → MemberThere p (Some type) (Some ts) name r
    by (t.Class c l) h = absurd (never_called (instance_method p c name) (Some ts) r h)
    by t.Int h = given t.Int refl h
    by t.Long h = given t.Long refl h
    by t.Boolean h = given t.Boolean refl h
    by (t.Pt n) h = given (t.Pt n) refl h
    by (t.Rc n) h = given (t.Rc n) refl h
    by (t.Dm n) h = given (t.Dm n) refl h
    by t.Region h = given t.Region refl h
    by (t.Grid x n l) h = given (t.Grid x n l) refl h
    by t.Null h = given t.Null refl h
    by t.Void h = given t.Void refl h

pub not_object : (type u : ValueType) → is_object type ≡ false → Seen type u → is_object u ≡ false
not_object (t.Pt n) u z i = ap is_object i.1
not_object (t.Rc n) u z i = ap is_object i.1
not_object (t.Dm n) u z i = ap is_object i.1
not_object (t.Class c l) u z i = absurd (true_false z)
not_object _ u z i = ap is_object i

built_in_seen : (p : ProgramView) (name : ℕ) (u : ValueType) → is_object u ≡ false → static_member_type p name u ≡ built_in_type (built_in p name) u
built_in_seen p name (t.Class c l) z = absurd (true_false z)
built_in_seen p name _ z = refl

member_static : (b : BuiltIn) (type u r : ValueType) (ts : List ValueType) → member_type b type ts ≡ Some r → is_void r ≡ false
    → DimsFine type → Seen type u → DimsFine r × Seen r (built_in_type (Some b) u)
member_static Size (t.Rc n) u r [] e z d i = subst (λ q. DimsFine q × Seen q t.Int) (some_same t.Int r e) (tt, refl)
member_static Size (t.Dm n) u r [] e z d i = subst (λ q. DimsFine q × Seen q t.Int) (some_same t.Int r e) (tt, refl)
member_static Min (t.Rc n) u r [] e z d i = subst (λ q. DimsFine q × Seen q (t.Pt (dim_of_type u))) (some_same (t.Pt n) r e) (d, (_, refl))
member_static Max (t.Rc n) u r [] e z d i = subst (λ q. DimsFine q × Seen q (t.Pt (dim_of_type u))) (some_same (t.Pt n) r e) (d, (_, refl))
member_static Contains (t.Rc n) u r (t.Pt m ∷ []) e z d i = subst (λ q. DimsFine q × Seen q t.Boolean) (where_some (n == m) t.Boolean r e).1 (tt, refl)
member_static Contains (t.Dm n) u r (t.Pt m ∷ []) e z d i = subst (λ q. DimsFine q × Seen q t.Boolean) (where_some (n == m) t.Boolean r e).1 (tt, refl)
member_static Domain (t.Grid x n l) u r [] e z d i = subst (λ q. DimsFine q × Seen q (t.Rc (dim_of_type u))) (some_same (t.Rc n) r e) (d.0, (_, refl))
member_static Restrict (t.Grid x n l) u r (t.Rc m ∷ []) e z d i = subst (λ q. DimsFine q × Seen q u) (where_some (n == m) (t.Grid x n l) r e).1 (d, i)
member_static Translate (t.Grid x n l) u r (t.Pt m ∷ []) e z d i = subst (λ q. DimsFine q × Seen q u) (where_some (n == m) (t.Grid x n l) r e).1 (d, i)
member_static Slice (t.Grid x n l) u r (t.Int ∷ t.Int ∷ []) e z d i =
    let q = where_some (nat_lt 1 n) (t.Grid x (n - 1) l) r e in
    subst (λ q. DimsFine q × Seen q (slice_type u)) q.1 ((fewer n (ltb-true 1 n q.0) d.0, d.1), ap slice_type i)
  where
    fewer : (n : ℕ) → 1 < n → IsDim n → IsDim (n - 1)
    fewer n a b = (omega (arith, b.0), omega (arith, b.1))
member_static Copy type u r (y ∷ []) e z d i = absurd (true_false (ap is_void (where_some _ t.Void r e).1 ∙ z))
member_static Exchange type u r (y ∷ []) e z d i = absurd (true_false (ap is_void (where_some _ t.Void r e).1 ∙ z))
member_static Delete t.Region u r [] e z d i = absurd (true_false (ap is_void (some_same t.Void r e) ∙ z))
member_static _ type u r ts e z d i = absurd (none_some r e)

-- ---- selections

-- the type of a field in the text
pub select_seen : (p : ProgramView) (env : Env) (a : NumberedExp) (name c : ℕ) (l : Bool) (of : ValueType) → type_of env a ≡ t.Class c l
    → named_field_type p c name ≡ Some of → static_field_type p name (type_of env a) ≡ read_through l of
select_seen p env a name c l of z k = ap (static_field_type p name) z ∙ ap (λ o. option_map_or (read_through l) o t.Void) k

pub own_seen : (env : Env) (at : Place) (field c : ℕ) (of : ValueType) → this_of env.method ≡ Some c → field_type env.program c field
    ≡ Some of → type_of env (e.OwnField at field) ≡ read_through false of
own_seen env at field c of z k =
    ap (λ o. unwrap_or (option_map as_global (option_and_then (λ class. field_type env.program class field) o)) t.Void) z
    ∙ ap (λ o. unwrap_or (option_map as_global o) t.Void) k

selected : (w : HeapTyping) (env : Env) → FieldsFit env.program → (at : Place) (a : NumberedExp) (name : ℕ) (type r : ValueType)
    → select_type env.program type name ≡ Some r → Evaluates w env a type → Evaluates w env (e.Select at a name) r
selected w env g at a name (t.Class c l) r h k =
    let p = env.program in
    let q = mapped (read_through l) (named_field_type p c name) r h in
    let f = named_field p c name q.0 q.1 in
    let number : field_selected env a name ≡ f.0 = ap (λ u. unwrap_or (option_and_then (field_numbered p name) (class_of_type u)) 0) k.seen ∙ ap (λ o. unwrap_or o 0) f.1 in
    let seen = select_seen p env a name c l q.0 k.seen q.1 in
    to_type w env (e.Select at a name) (read_through l q.0) r q.2 (record {
      sound = sound_then p (λ u h. IsOf u (t.Class c l) h) _ w (eval env a) _ k.sound (λ u i h y.
          subst (λ m. Sound p (λ u h. IsOf u (read_through l q.0) h) u (fetched at (type_of env (e.Select at a name)) (Field h (type_of env a) m))) (sym number)
          (subst (λ o. Sound p (λ u h. IsOf u (read_through l q.0) h) u (fetched at (type_of env (e.Select at a name)) (Field h o f.0))) (sym k.seen)
          (field_fine p u at _ (t.Class c l) h f.0 c l q.0 refl (object_of u c l h y) (own_of u (t.Class c l) h y) f.2 (seen_form _ q.0 l seen))));
      dims = read_dims l q.0 (g c f.0 q.0 f.2);
      seen = subst (λ y. Seen (read_through l q.0) y) (sym seen) (seen_same (read_through l q.0));
    })
selected w env g at a name _ r h k = absurd (none_some r h)

counted : (p : ProgramView) (s : ScopeContents) (type : ValueType) (low high : NumberedExp) → operand_type p s low ≡ Some type → count_of type ≡ lows p s (e.MoreRange (e.Plain low high) e.NoRange)
counted p s type low high h = sym (ap (λ o. maybe_count p s o + 0) h ∙ plus_zero (count_of type))
  where
    plus_zero : (n : ℕ) → n + 0 ≡ n
    plus_zero n = omega arith

lows_more : (p : ProgramView) (s : ScopeContents) (r : NumberedRange) (rest : NumberedRanges) → lows p s (e.MoreRange r e.NoRange) + lows p s rest ≡ lows p s (e.MoreRange r rest)
lows_more p s (e.Plain low high) rest = omega arith
lows_more p s (e.Stepped low high step) rest = omega arith

-- how many numbers an operand has
number_fine : (w : HeapTyping) (env : Env) (s : ScopeContents) (x : NumberedExp) (type : ValueType) → operand_type env.program s x ≡ Some type
    → (n : ℕ) → count_of type ≡ n → Evaluates w env x type → Sound env.program (λ u h. Numbers n (numbers_in h)) w (eval env x)
number_fine w env s x type z n c r = weaker env.program _ _ w _ r.sound (λ u i h y. let v = (no_call (type_result env.program s x) type z).2 in
    (numbers_count u type h v r.dims y ∙ c, numbers_fit u type h v y))

module _ (uses : VariableUse → Bool) (s : ScopeContents) where
  mutual
    pub eval_fine : (w : HeapTyping) (env : Env) → EnvFits uses s w env → FieldsFit env.program → (x : NumberedExp) → IsWritten uses x
        → (type : ValueType) → operand_type env.program s x ≡ Some type → Evaluates w env x type
    eval_fine w env f g (e.Int at n) k type z = to_type w env (e.Int at n) t.Int type (of_plain t.Int type z) (record { sound = sound_value env.program _ w _ (n, refl, k); dims = tt; seen = refl })
    eval_fine w env f g (e.Long at n) k type z = to_type w env (e.Long at n) t.Long type (of_plain t.Long type z)
        (record { sound = sound_value env.program _ w _ (n, refl, k); dims = tt; seen = refl })
    eval_fine w env f g (e.Truth at b) k type z = to_type w env (e.Truth at b) t.Boolean type (of_plain t.Boolean type z)
        (record { sound = sound_value env.program _ w _ (b, refl); dims = tt; seen = refl })
    eval_fine w env f g (e.Null at) k type z = to_type w env (e.Null at) t.Null type (of_plain t.Null type z) (record { sound = sound_value env.program _ w _ refl; dims = tt; seen = refl })
    eval_fine w env f g (e.ThisProc at) k type z = to_type w env (e.ThisProc at) t.Int type (of_plain t.Int type z)
        (record { sound = sound_value env.program _ w _ (_, refl, f.number); dims = tt; seen = refl })
    eval_fine w env f g (e.NumProcs at) k type z = to_type w env (e.NumProcs at) t.Int type (of_plain t.Int type z)
        (record { sound = sound_value env.program _ w _ (_, refl, f.procs); dims = tt; seen = refl })
    eval_fine w env f g (e.This at) k type z =
        let q = mapped (λ c. t.Class c false) s.this_class type (no_call (plain (option_map (λ c. t.Class c false) s.this_class)) type z).1 in
        to_type w env (e.This at) (t.Class q.0 false) type q.2
        (record {
          sound = sound_value env.program _ w _ (env.this, refl, f.this q.0 q.1, λ z. absurd (true_false (sym z)));
          dims = tt;
          seen = ap (λ o. option_map_or (λ class. t.Class class false) o t.Void) (sym f.this_class ∙ q.1);
        })
    eval_fine w env f g (e.Variable at x) k type z =
        let q = (no_call (plain (variable_type s x)) type z).1 in
        record { sound = sound_value env.program _ w _ (f.variables x type k q); dims = f.dims x type k q; seen = used_seen x.declared s x.number type q (λ d. f.points x type k d q) }
    eval_fine w env f g (e.OwnField at field) k type z =
        let p = env.program in
        let q = mapped as_global (option_and_then (λ c. field_type p c field) s.this_class) type
        (no_call (plain (option_map as_global (option_and_then (λ c. field_type p c field) s.this_class))) type z).1 in
        let c = and_then (λ c. field_type p c field) s.this_class q.0 q.1 in
        let seen = own_seen env at field c.0 q.0 (sym f.this_class ∙ c.1) c.2 in
        to_type w env (e.OwnField at field) (as_global q.0) type q.2 (record {
          sound =
              subst (λ b. Sound p (λ u h. IsOf u (read_through b q.0) h) w (eval env (e.OwnField at field))) (this_global (this_of env.method))
              (field_fine p w at _ (type_of env (e.This at)) (Plain (v.Obj env.this)) field c.0 false q.0
              (ap (λ o. option_map_or (λ class. t.Class class false) o t.Void) (sym f.this_class ∙ c.1)) (λ id y. f.this c.0 c.1 id y)
              (λ z. absurd (true_false (sym z ∙ this_global (this_of env.method)))) c.2 (seen_form _ q.0 false seen));
          dims = read_dims false q.0 (g c.0 field q.0 c.2);
          seen = subst (λ y. Seen (as_global q.0) y) (sym seen) (seen_same (as_global q.0));
        })
    eval_fine w env f g (e.Call at method args) k type z = absurd (never_called (slice_get env.program.methods method) (operands env.program s args) type z)
    eval_fine w env f g (e.OwnCall at method args) k type z = absurd (never_called (slice_get env.program.methods method) (operands env.program s args) type z)
    eval_fine w env f g (e.Point at parts) k type z =
        let p = env.program in
        let q = and_then point_literal (operands p s parts) type (no_call (plain (option_and_then point_literal (operands p s parts))) type z).1 in
        let i = where_some (all_ints q.0) (t.Pt (length q.0)) type q.2 in
        let n = how_many_is p s parts q.0 q.1 in
        to_type w env (e.Point at parts) (t.Pt (length q.0)) type i.1 (record {
          sound = sound_then p (λ u zs. Numbers (counts q.0) zs) _ w (eval_numbers env parts) _ (numbers_fine w env f g parts k.1 q.0 q.1)
              (λ u h zs y. sound_value p _ u _ (
                point_of_numbers zs,
                refl,
                numbers_point zs (length q.0) (y.0 ∙ ints_count q.0 i.0) (subst IsDim (sym n) k.0) y.1,
              ));
          dims = subst IsDim (sym n) k.0;
          seen = (how_many parts, refl);
        })
    eval_fine w env f g (e.Rect at ranges) k type z =
        let p = env.program in
        let q = and_then (rect_literal (range_count ranges)) (bounds p s ranges) type (no_call (plain (option_and_then (rect_literal (range_count ranges)) (bounds p s ranges))) type z).1 in
        let i = literal_dims p s ranges q.0 type q.1 q.2 in
        let c = literal_counts (range_count ranges) q.0 type q.2 in
        let d = rect_dims w env f g ranges i.1 k.0 k.1 in
        to_type w env (e.Rect at ranges) (t.Rc (lows p s ranges)) type (sym i.0) (record {
          sound = sound_then p (λ u b. AreOf (lows p s ranges) b) _ w (eval_ranges env ranges) _ (ranges_fine w env f g ranges k.1 q.0 q.1 c.0 c.1)
              (λ u h b y. sound_tested p _ u _ _ at _ (λ q. (_, refl, bounds_form (lows p s ranges) b y d q)));
          dims = d;
          seen = (_, refl);
        })
    eval_fine w env f g (e.Unary at op a) k type z =
        let p = env.program in
        let q = and_then (unary_type op) (operand_type p s a) type (no_call (plain (option_and_then (unary_type op) (operand_type p s a))) type z).1 in
        let r = eval_fine w env f g a k q.0 q.1 in
        record {
          sound = sound_then p (λ u h. IsOf u q.0 h) _ w (eval env a) _ r.sound (λ u i h y. sound_value p _ u _ (alone_fine p u op q.0 type (type_of env a) h q.2 r.seen y).0);
          dims = unary_dims op q.0 type q.2 r.dims;
          seen = unary_seen p w op q.0 type (type_of env a) q.2 r.dims r.seen;
        }
    eval_fine w env f g (e.Binary at op a b) k type z =
        let p = env.program in
        let q = both_there (binary_type op) (operand_type p s a) (operand_type p s b) type (no_call (plain (and_then_both (operand_type p s a) (operand_type p s b) (binary_type op))) type z).1 in
        let l = eval_fine w env f g a k.0 q.0 q.2 in
        let r = eval_fine w env f g b k.1 q.1 q.3 in
        record {
          sound = sound_then p (λ u h. IsOf u q.0 h) _ w (eval env a) _ l.sound (λ u i h y.
              right_fine p u at op q.0 q.1 type h (eval env b) q.4 (eval_fine u env (env_stays uses s w u env i f) g b k.1 q.1 q.3).sound
              (λ x j m o. (operated_fine p x at q.0 q.1 type (type_of env a) (type_of env b) h m l.seen r.seen (of_stays u x q.0 h j y) o op q.4).0));
          dims = binary_dims op q.0 q.1 type q.4 l.dims;
          seen = binary_seen p w op q.0 q.1 type (type_of env a) (type_of env b) q.4 l.dims r.dims l.seen r.seen;
        }
    eval_fine w env f g (e.Cast at to a) k type z =
        let p = env.program in
        let q = and_then (λ u. where_true (casts to.type u) to.type) (operand_type p s a) type
        (no_call (plain (option_and_then (λ u. where_true (casts to.type u) to.type) (operand_type p s a))) type z).1 in
        let c = where_some (casts to.type q.0) to.type type q.2 in
        to_type w env (e.Cast at to a) to.type type c.1 (record {
          sound = sound_then p (λ u h. IsOf u q.0 h) _ w (eval env a) _ (eval_fine w env f g a k.1 q.0 q.1).sound (λ u i h y.
              sound_then p (λ u h. IsOf u (as_global to.type) h) _ u (converted at to.type h) _ (cast_fine p u at to.type q.0 h c.0 y) (λ x j m o.
              sound_tested p _ x _ _ at m (λ own. to_local x to.type m o (cast_own x env.number to.type m (sym j.owner ∙ sym i.owner ∙ f.owner) own))));
          dims = k.0;
          seen = seen_same to.type;
        })
    eval_fine w env f g (e.Select at a name) k type z =
        let p = env.program in
        let q = and_then (λ u. select_type p u name) (operand_type p s a) type (no_call (plain (option_and_then (λ u. select_type p u name) (operand_type p s a))) type z).1 in
        let r = eval_fine w env f g a k q.0 q.1 in
        selected w env g at a name q.0 type q.2 r
    eval_fine w env f g (e.Member at a name args) k type z =
        let p = env.program in
        let q = member_there p (operand_type p s a) (operands p s args) name type z in
        let r = eval_fine w env f g a k.0 q.0 q.2 in
        let is : member_called p (this_of env.method) a name ≡ Some q.4 = ap (λ b. if b then None else built_in p name) (not_object q.0 (type_of env a) q.7 r.seen) ∙ q.5 in
        let seen : type_of env (e.Member at a name args) ≡ built_in_type (Some q.4) (type_of env a) =
        built_in_seen p name (type_of env a) (not_object q.0 (type_of env a) q.7 r.seen)
        ∙ ap (λ b. built_in_type b (type_of env a)) q.5 in
        record {
          sound = sound_then p (λ u h. IsOf u q.0 h) _ w (eval env a) _ r.sound (λ u i h y.
              sound_then p (λ u hs. AllOfTypes u q.1 hs) _ u (eval_all env args) _ (all_fine u env (env_stays uses s w u env i f) g args k.1 q.1 q.3) (λ x j hs o.
              subst (λ b. Sound p (λ u h. IsOf u type h) x (member_value at (type_of env (e.Member at a name args)) b (type_of env a) h hs)) (sym is)
              (member_fine p x at (type_of env (e.Member at a name args)) (type_of env a) q.4 q.0 type q.1 h hs q.6 q.8 r.seen (of_stays u x q.0 h j y) o seen)));
          dims = (member_static q.4 q.0 (type_of env a) type q.1 q.6 q.8 r.dims r.seen).0;
          seen = subst (λ y. Seen type y) (sym seen) (member_static q.4 q.0 (type_of env a) type q.1 q.6 q.8 r.dims r.seen).1;
        }
    eval_fine w env f g (e.Index at a parts) k type z =
        let p = env.program in
        let q = both_there index_type (operand_type p s a) (operands p s parts) type (no_call (plain (and_then_both (operand_type p s a) (operands p s parts) index_type)) type z).1 in
        let r = eval_fine w env f g a k.0 q.0 q.2 in
        let i = index_static q.0 (type_of env a) type q.1 q.4 r.seen r.dims in
        record {
          sound = sound_then p (λ u h. IsOf u q.0 h) _ w (eval env a) _ r.sound (λ u l h y.
              sound_then p (λ u zs. Numbers (counts q.1) zs) _ u (eval_numbers env parts) _ (numbers_fine u env (env_stays uses s w u env l f) g parts k.1 q.1 q.3) (λ x j zs o.
              (indexed_fine p x at (type_of env (e.Index at a parts)) (type_of env a) q.0 type q.1 h zs q.4 r.seen r.dims (of_stays u x q.0 h j y) o refl).0));
          dims = i.0;
          seen = i.1;
        }

    pub all_fine : (w : HeapTyping) (env : Env) → EnvFits uses s w env → FieldsFit env.program → (xs : NumberedExps) → AreWritten uses xs
        → (ts : List ValueType) → operands env.program s xs ≡ Some ts → Sound env.program (λ u hs. AllOfTypes u ts hs) w (eval_all env xs)
    all_fine w env f g e.NoExp k ts z = subst (λ q. Sound env.program (λ u hs. AllOfTypes u q hs) w (eval_all env e.NoExp)) (some_same [] ts z) (sound_value env.program _ w [] tt)
    all_fine w env f g (e.MoreExp x xs) k ts z =
        let p = env.program in
        let j = joined_there (one (operand_type p s x)) (operands p s xs) ts z in
        let o = one_there (operand_type p s x) j.0 j.2 in
        subst (λ q. Sound p (λ u hs. AllOfTypes u q hs) w (eval_all env (e.MoreExp x xs))) (sym (ap (λ q. q ++ j.1) o.2) ∙ j.4)
        (sound_then p (λ u h. IsOf u o.0 h) _ w (eval env x) _ (eval_fine w env f g x k.0 o.0 o.1).sound (λ u i h y.
        sound_then p (λ u hs. AllOfTypes u j.1 hs) _ u (eval_all env xs) _ (all_fine u env (env_stays uses s w u env i f) g xs k.1 j.1 j.3) (λ v l hs m.
        sound_value p _ v _ (of_stays u v o.0 h l y, m))))

    pub numbers_fine : (w : HeapTyping) (env : Env) → EnvFits uses s w env → FieldsFit env.program → (xs : NumberedExps) → AreWritten uses xs
        → (ts : List ValueType) → operands env.program s xs ≡ Some ts
        → Sound env.program (λ u zs. Numbers (counts ts) zs) w (eval_numbers env xs)
    numbers_fine w env f g e.NoExp k ts z = sound_value env.program _ w [] (ap counts (some_same [] ts z), tt)
    numbers_fine w env f g (e.MoreExp x xs) k ts z =
        let p = env.program in
        let j = joined_there (one (operand_type p s x)) (operands p s xs) ts z in
        let o = one_there (operand_type p s x) j.0 j.2 in
        let r = eval_fine w env f g x k.0 o.0 o.1 in
        sound_then p (λ u h. IsOf u o.0 h) _ w (eval env x) _ r.sound (λ u i h y.
        sound_then p (λ u zs. Numbers (counts j.1) zs) _ u (eval_numbers env xs) _ (numbers_fine u env (env_stays uses s w u env i f) g xs k.1 j.1 j.3) (λ l m zs n.
        let v = (no_call (type_result p s x) o.0 o.1).2 in
        sound_value p _ l _ (
          length-append (numbers_in h) zs ∙ ap₂ (λ a b. a + b) (numbers_count u o.0 h v r.dims y) n.0
              ∙ ap counts (sym (ap (λ q. q ++ j.1) o.2) ∙ j.4),
          both_fit (numbers_in h) zs (numbers_fit u o.0 h v y) n.1,
        )))

    -- the bounds and steps of a range, each of so many numbers
    range_fine : (w : HeapTyping) (env : Env) → EnvFits uses s w env → FieldsFit env.program → (r : NumberedRange) → IsRangeWritten uses r
        → (ts : List ValueType) → bound_types env.program s r ≡ Some ts → (c : ℕ) → AllCount c ts
        → Sound env.program (λ u b. AreOf (lows env.program s (e.MoreRange r e.NoRange)) b) w (eval_range env r)
    range_fine w env f g (e.Plain low high) k ts z c each =
        let p = env.program in
        let j = joined_there (one (operand_type p s low)) (one (operand_type p s high)) ts z in
        let o = one_there (operand_type p s low) j.0 j.2 in
        let h = one_there (operand_type p s high) j.1 j.3 in
        let all : AllCount c (o.0 ∷ h.0 ∷ []) = subst (AllCount c) (sym j.4 ∙ ap₂ (λ a b. a ++ b) o.2 h.2) each in
        let n : c ≡ lows p s (e.MoreRange (e.Plain low high) e.NoRange) = sym all.0 ∙ counted p s o.0 low high o.1 in
        sound_then p (λ u a. Numbers (lows p s (e.MoreRange (e.Plain low high) e.NoRange)) (numbers_in a)) _ w (eval env low) _
        (number_fine w env s low o.0 o.1 _ (all.0 ∙ n) (eval_fine w env f g low k.0 o.0 o.1)) (λ u i a y.
        sound_then p (λ u b. Numbers (lows p s (e.MoreRange (e.Plain low high) e.NoRange)) (numbers_in b)) _ u (eval env high) _
        (number_fine u env s high h.0 h.1 _ (all.1.0 ∙ n) (eval_fine u env (env_stays uses s w u env i f) g high k.1 h.0 h.1))
        (λ l m b q.
        sound_value p _ l _ (record { low = y.0; high = q.0; step = length-map (numbers_in a) _ ∙ y.0; lows = y.1; highs = q.1 })))
    range_fine w env f g (e.Stepped low high step) k ts z c each =
        let p = env.program in
        let j = joined_there (append_both (one (operand_type p s low)) (one (operand_type p s high))) (one (operand_type p s step)) ts z in
        let l = joined_there (one (operand_type p s low)) (one (operand_type p s high)) j.0 j.2 in
        let o = one_there (operand_type p s low) l.0 l.2 in
        let h = one_there (operand_type p s high) l.1 l.3 in
        let d = one_there (operand_type p s step) j.1 j.3 in
        let all : AllCount c (o.0 ∷ h.0 ∷ d.0 ∷ []) = subst (AllCount c) (sym j.4 ∙ ap₂ (λ a b. a ++ b) (sym l.4 ∙ ap₂ (λ a b. a ++ b) o.2 h.2) d.2) each in
        let n : c ≡ lows p s (e.MoreRange (e.Stepped low high step) e.NoRange) = sym all.0 ∙ counted p s o.0 low high o.1 in
        sound_then p (λ u a. Numbers (lows p s (e.MoreRange (e.Stepped low high step) e.NoRange)) (numbers_in a)) _ w (eval env low) _
        (number_fine w env s low o.0 o.1 _ (all.0 ∙ n) (eval_fine w env f g low k.0 o.0 o.1)) (λ u i a y.
        sound_then p (λ u b. Numbers (lows p s (e.MoreRange (e.Stepped low high step) e.NoRange)) (numbers_in b)) _ u (eval env high) _
        (number_fine u env s high h.0 h.1 _ (all.1.0 ∙ n) (eval_fine u env (env_stays uses s w u env i f) g high k.1 h.0 h.1))
        (λ x m b q.
        sound_then p (λ u b. Numbers (lows p s (e.MoreRange (e.Stepped low high step) e.NoRange)) (numbers_in b)) _ x (eval env step) _
        (number_fine x env s step d.0 d.1 _ (all.1.1.0 ∙ n) (eval_fine x env
        (env_stays uses s u x env m (env_stays uses s w u env i f)) g step k.2 d.0 d.1)) (λ v r e t.
        sound_value p _ v _ (record { low = y.0; high = q.0; step = t.0; lows = y.1; highs = q.1 }))))

    ranges_fine : (w : HeapTyping) (env : Env) → EnvFits uses s w env → FieldsFit env.program → (rs : NumberedRanges) → AreRangesWritten uses rs
        → (ts : List ValueType) → bounds env.program s rs ≡ Some ts → (c : ℕ) → AllCount c ts
        → Sound env.program (λ u b. AreOf (lows env.program s rs) b) w (eval_ranges env rs)
    ranges_fine w env f g e.NoRange k ts z c each = sound_value env.program _ w _ (record { low = refl; high = refl; step = refl; lows = tt; highs = tt })
    ranges_fine w env f g (e.MoreRange r rest) k ts z c each =
        let p = env.program in
        let j = joined_there (bound_types p s r) (bounds p s rest) ts z in
        let all = counts_both c j.0 j.1 (subst (AllCount c) (sym j.4) each) in
        sound_then p (λ u b. AreOf (lows p s (e.MoreRange r e.NoRange)) b) _ w (eval_range env r) _ (range_fine w env f g r k.0 j.0 j.2 c all.0) (λ u i a y.
        sound_then p (λ u b. AreOf (lows p s rest) b) _ u (eval_ranges env rest) _ (ranges_fine u env (env_stays uses s w u env i f) g rest k.1 j.1 j.3 c all.1) (λ l m b n.
        sound_value p _ l _ (record {
          low = length-append a.low b.low ∙ ap₂ (λ c d. c + d) y.low n.low ∙ lows_more p s r rest;
          high = length-append a.high b.high ∙ ap₂ (λ c d. c + d) y.high n.high ∙ lows_more p s r rest;
          step = length-append a.step b.step ∙ ap₂ (λ c d. c + d) y.step n.step ∙ lows_more p s r rest;
          lows = both_fit a.low b.low y.lows n.lows;
          highs = both_fit a.high b.high y.highs n.highs;
        })))

    -- the dimensions of a literal
    rect_dims : (w : HeapTyping) (env : Env) → EnvFits uses s w env → FieldsFit env.program → (rs : NumberedRanges)
        → (lows env.program s rs ≡ range_count rs) ⊎ ((n : ℕ) × (first_low env.program s rs ≡ Some (t.Pt n)) × (lows env.program s rs ≡ n))
        → IsDim (range_count rs) → AreRangesWritten uses rs → IsDim (lows env.program s rs)
    rect_dims w env f g rs (inl c) d k = subst IsDim (sym c) d
    rect_dims w env f g (e.MoreRange (e.Plain low high) rest) (inr c) d k = subst IsDim (sym c.2) (eval_fine w env f g low k.0.0 (t.Pt c.0) c.1).dims
    rect_dims w env f g (e.MoreRange (e.Stepped low high step) rest) (inr c) d k = subst IsDim (sym c.2) (eval_fine w env f g low k.0.0 (t.Pt c.0) c.1).dims
    rect_dims w env f g e.NoRange (inr c) d k = absurd (none_some (t.Pt c.0) c.1)
