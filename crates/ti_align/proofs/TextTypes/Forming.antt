-- Types of expressions are formed: they have one to three dimensions, wherever they have any, and elements that may be there.
use Rattle.std.proofs.Common.{◌≡◌, ℕ, ◌-◌, ◌<◌, ◌==◌, nat_lt, ◌⊎◌, inl, inr, Bool, true, false, not, ◌&&◌, if◌then◌else◌, length, slice_get, option_map, option_and_then, Option, Some, None, List, [], ◌∷◌, ◌++◌, refl, ap, ap₂, sym, ◌∙◌, subst, arith}
use Rattle.std.specs.Option.{option_or}
use Rattle.std.proofs.lemmas.Bool.{ltb-true}
use Rattle.ti_syntax.specs.declared.tree.exprs.UnaryOperator.{UnaryOperator}
use Rattle.ti_syntax.specs.declared.tree.exprs.UnaryOperator.TheVariants as un
use Rattle.ti_syntax.specs.declared.tree.exprs.BinaryOperator.{BinaryOperator}
use Rattle.ti_syntax.specs.declared.tree.exprs.BinaryOperator.TheVariants as op
use Rattle.ti_lang.specs.Program.Types.{ValueType, Declaration}
use Rattle.ti_lang.specs.Program.Types as t
use Rattle.ti_lang.specs.Program.Expressions.{NumberedExp, NumberedRange, NumberedRanges}
use Rattle.ti_lang.specs.Program.Expressions as e
use Rattle.ti_lang.specs.Program.Classes.{NumberedMethod, ProgramView}
use Rattle.ti_lang.specs.Program.Scope.{ScopeVariable, ScopeContents, this_of, method_scope}
use Rattle.ti_lang.specs.Typing.Kinds.{domain_dim, is_whole, is_void, as_global, read_through, where_true}
use Rattle.ti_lang.specs.Typing.Fits.{casts}
use Rattle.ti_lang.specs.Typing.Operators.{wider, whole_type, truth_type, point_type, rect_type, same_dim, domain_type, unary_type, binary_type}
use Rattle.ti_lang.specs.Typing.BuiltIn.{BuiltIn, Size, Min, Max, Contains, Domain, Restrict, Translate, Slice, Copy, Exchange, Delete, same_grids, can_copy, can_exchange, has_local_elements, member_type}
use Rattle.ti_lang.specs.Typing.Declared.{in_scope, declared_type, variable_type, field_type, named_field_type}
use Rattle.ti_lang.specs.Typing.Expressions.{plain, and_then_both, append_both, one, all_ints, point_literal, all_points, range_of_points, rect_literal, index_type, select_type, range_count, operands, bound_types, bounds, operand_type}
use Rattle.ti_base.specs.Forms.{is_dim}
use Rattle.ti_align.specs.HeapTyping.{IsStorable, DimsFine}
use Rattle.ti_align.specs.Mirrors.ContItem.{has_dims}
use Rattle.ti_align.proofs.Runs.Vars.{true_false, and_left, and_right}
use Rattle.ti_align.proofs.RunTypes.Operating.{none_some, some_same, where_some}
use Rattle.ti_lang.proofs.Lemmas.{dims_are, dim_is, how_many_is}
use Rattle.ti_align.proofs.RunTypes.Evaluating.{never_called, from_or, and_then, mapped, both_there, joined_there, one_there, no_call, named_field, member_there}
use Rattle.ti_align.proofs.TextTypes.Meant.{storable, formed, among, means, ExpMeant, RangeMeant, RangesMeant, FieldsMeant}

-- ---- what formed types are

pub formed_dims : (type : ValueType) → formed type ≡ true → has_dims type ≡ true
formed_dims (t.Pt n) h = h
formed_dims (t.Rc n) h = h
formed_dims (t.Dm n) h = h
formed_dims (t.Grid x n l) h =
    ap₂ (λ a b. a && b) (and_left (is_dim n) (storable x && formed x) h) (formed_dims x (and_right (storable x) (formed x) (and_right (is_dim n) (storable x && formed x) h)))
formed_dims _ h = refl

pub formed_fine : (type : ValueType) → formed type ≡ true → DimsFine type
formed_fine (t.Pt n) h = dims_are n h
formed_fine (t.Rc n) h = dims_are n h
formed_fine (t.Dm n) h = dims_are n h
formed_fine (t.Grid x n l) h =
    (dims_are n (and_left (is_dim n) (storable x && formed x) h), formed_fine x (and_right (storable x) (formed x) (and_right (is_dim n) (storable x && formed x) h)))
formed_fine _ h = tt

pub storable_is : (type : ValueType) → (storable type && formed type) ≡ true → IsStorable type
storable_is (t.Dm n) h = absurd (true_false (sym h))
storable_is t.Region h = absurd (true_false (sym h))
storable_is t.Null h = absurd (true_false (sym h))
storable_is t.Void h = absurd (true_false (sym h))
storable_is (t.Pt n) h = dims_are n h
storable_is (t.Rc n) h = dims_are n h
storable_is _ h = tt

pub storable_something : (l : Bool) (type : ValueType) → storable type ≡ true → is_void (read_through l type) ≡ false
storable_something l (t.Dm n) h = absurd (true_false (sym h))
storable_something l t.Region h = absurd (true_false (sym h))
storable_something l t.Null h = absurd (true_false (sym h))
storable_something l t.Void h = absurd (true_false (sym h))
storable_something true t.Int h = refl
storable_something true t.Long h = refl
storable_something true t.Boolean h = refl
storable_something true (t.Pt n) h = refl
storable_something true (t.Rc n) h = refl
storable_something true (t.Class c l) h = refl
storable_something true (t.Grid x n l) h = refl
storable_something false t.Int h = refl
storable_something false t.Long h = refl
storable_something false t.Boolean h = refl
storable_something false (t.Pt n) h = refl
storable_something false (t.Rc n) h = refl
storable_something false (t.Class c l) h = refl
storable_something false (t.Grid x n l) h = refl

pub global_formed : (type : ValueType) → formed type ≡ true → formed (as_global type) ≡ true
global_formed (t.Class c l) h = refl
global_formed _ h = h

pub read_formed : (l : Bool) (type : ValueType) → formed type ≡ true → formed (read_through l type) ≡ true
read_formed true type h = h
read_formed false type h = global_formed type h

-- all of these are
abbrev pub AllFormed : List ValueType → Type 0
AllFormed [] = Unit {0}
AllFormed (x ∷ xs) = (formed x ≡ true) × AllFormed xs

pub formed_both : (xs ys : List ValueType) → AllFormed xs → AllFormed ys → AllFormed (xs ++ ys)
formed_both [] ys a b = b
formed_both (x ∷ xs) ys a b = (a.0, formed_both xs ys a.1 b)

-- ---- operators

abbrev Formed : ValueType → Type 0
Formed type = formed type ≡ true

whole_formed : (a u r : ValueType) → whole_type a u ≡ Some r → Formed r
whole_formed a u r e = subst Formed (where_some (is_whole a && is_whole u) (wider a u) r e).1 (by a u)
  where
    by : (a u : ValueType) → Formed (wider a u)
    by t.Int t.Int = refl
    by t.Int _ = refl
    by _ _ = refl

paired_formed : (a u r : ValueType) → point_type a u ≡ Some r → Formed a → Formed r
paired_formed (t.Pt n) (t.Pt m) r e d = subst Formed (where_some (n == m) (t.Pt n) r e).1 d
paired_formed (t.Pt n) _ r e d = absurd (none_some r e)
paired_formed _ _ r e d = absurd (none_some r e)

rects_formed : (a u r : ValueType) → rect_type a u ≡ Some r → Formed a → Formed r
rects_formed (t.Rc n) (t.Rc m) r e d = subst Formed (where_some (n == m) (t.Rc n) r e).1 d
rects_formed (t.Rc n) _ r e d = absurd (none_some r e)
rects_formed _ _ r e d = absurd (none_some r e)

pub dim_in : (a : ValueType) (n : ℕ) → domain_dim a ≡ Some n → Formed a → is_dim n ≡ true
dim_in (t.Rc m) n e d = subst (λ k. is_dim k ≡ true) (some_same m n e) d
dim_in (t.Dm m) n e d = subst (λ k. is_dim k ≡ true) (some_same m n e) d
dim_in _ n e d = absurd (none_some n e)

domain_formed : (a u r : ValueType) → domain_type a u ≡ Some r → Formed a → Formed r
domain_formed a u r e d = let q = mapped t.Dm (same_dim (domain_dim a) (domain_dim u)) r e in subst Formed q.2 (by (domain_dim a) refl (domain_dim u) q.0 q.1)
  where
    by : (x : Option ℕ) → domain_dim a ≡ x → (y : Option ℕ) (n : ℕ) → same_dim x y ≡ Some n → is_dim n ≡ true
    by (Some i) z (Some j) n h = dim_in a n (z ∙ ap Some (where_some (i == j) i n h).1) d
    by (Some i) z None n h = absurd (none_some n h)
    by None z y n h = absurd (none_some n h)

truth_formed : (a u r : ValueType) → truth_type a u ≡ Some r → Formed r
truth_formed t.Boolean t.Boolean r e = subst Formed (some_same t.Boolean r e) refl
truth_formed t.Boolean _ r e = absurd (none_some r e)
truth_formed _ _ r e = absurd (none_some r e)

binary_formed : (o : BinaryOperator) (a u r : ValueType) → binary_type o a u ≡ Some r → Formed a → Formed r
binary_formed o a u r e d = by o e
  where
    sum : option_or (whole_type a u) (option_or (point_type a u) (domain_type a u)) ≡ Some r → Formed r
    sum e = one_of (from_or (whole_type a u) _ r e)
      where
        two_of : (point_type a u ≡ Some r) ⊎ (domain_type a u ≡ Some r) → Formed r
        two_of (inl z) = paired_formed a u r z d
        two_of (inr z) = domain_formed a u r z d

        one_of : (whole_type a u ≡ Some r) ⊎ (option_or (point_type a u) (domain_type a u) ≡ Some r) → Formed r
        one_of (inl z) = whole_formed a u r z
        one_of (inr z) = two_of (from_or (point_type a u) (domain_type a u) r z)

    product : option_or (whole_type a u) (option_or (rect_type a u) (domain_type a u)) ≡ Some r → Formed r
    product e = one_of (from_or (whole_type a u) _ r e)
      where
        two_of : (rect_type a u ≡ Some r) ⊎ (domain_type a u ≡ Some r) → Formed r
        two_of (inl z) = rects_formed a u r z d
        two_of (inr z) = domain_formed a u r z d

        one_of : (whole_type a u ≡ Some r) ⊎ (option_or (rect_type a u) (domain_type a u) ≡ Some r) → Formed r
        one_of (inl z) = whole_formed a u r z
        one_of (inr z) = two_of (from_or (rect_type a u) (domain_type a u) r z)

    bits : option_or (whole_type a u) (truth_type a u) ≡ Some r → Formed r
    bits e = one_of (from_or (whole_type a u) (truth_type a u) r e)
      where
        one_of : (whole_type a u ≡ Some r) ⊎ (truth_type a u ≡ Some r) → Formed r
        one_of (inl z) = whole_formed a u r z
        one_of (inr z) = truth_formed a u r z

    tested : (b : Bool) (x : ValueType) → Formed x → where_true b x ≡ Some r → Formed r
    tested b x y e = subst Formed (where_some b x r e).1 y

    by : (o : BinaryOperator) → binary_type o a u ≡ Some r → Formed r
    by op.Add e = sum e
    by op.Subtract e = sum e
    by op.Multiply e = product e
    by op.Divide e = whole_formed a u r e
    by op.Remainder e = whole_formed a u r e
    by op.ShiftLeft e = tested _ a d e
    by op.ShiftRight e = tested _ a d e
    by op.UnsignedShiftRight e = tested _ a d e
    by op.Or e = bits e
    by op.Xor e = bits e
    by op.And e = bits e
    by op.OrElse e = truth_formed a u r e
    by op.AndThen e = truth_formed a u r e
    by _ e = tested _ t.Boolean refl e

unary_formed : (o : UnaryOperator) (a r : ValueType) → unary_type o a ≡ Some r → Formed a → Formed r
unary_formed un.Not t.Boolean r e d = subst Formed (some_same t.Boolean r e) refl
unary_formed un.Not _ r e d = absurd (none_some r e)
unary_formed un.Plus a r e d = subst Formed (where_some (is_whole a) a r e).1 d
unary_formed un.Minus a r e d = subst Formed (where_some (is_whole a) a r e).1 d
unary_formed un.Complement a r e d = subst Formed (where_some (is_whole a) a r e).1 d

-- ---- literals

points_formed : (ts : List ValueType) (r : ValueType) → range_of_points ts ≡ Some r → AllFormed ts → Formed r
points_formed (t.Pt n ∷ ts) r e a = subst Formed (where_some (all_points n ts) (t.Rc n) r e).1 a.0
points_formed _ r e a = absurd (none_some r e)

literal_formed : (n : ℕ) (ts : List ValueType) (r : ValueType) → rect_literal n ts ≡ Some r → is_dim n ≡ true → AllFormed ts → Formed r
literal_formed n ts r e d a = by (all_ints ts) (n == 1) e
  where
    by : (b c : Bool) → (if b then Some (t.Rc n) else if c then range_of_points ts else None) ≡ Some r → Formed r
    by true c e = subst Formed (some_same (t.Rc n) r e) d
    by false true e = points_formed ts r e a
    by false false e = absurd (none_some r e)

-- ---- parts and members

index_formed : (a r : ValueType) (ts : List ValueType) → index_type a ts ≡ Some r → Formed a → Formed r
index_formed (t.Pt n) r (t.Int ∷ []) e d = subst Formed (some_same t.Int r e) refl
index_formed (t.Grid x n l) r ts e d = by ts e
  where
    element : Formed (read_through l x)
    element = read_formed l x (and_right (storable x) (formed x) (and_right (is_dim n) (storable x && formed x) d))

    tested : (b : Bool) → where_true b (read_through l x) ≡ Some r → Formed r
    tested b e = subst Formed (where_some b (read_through l x) r e).1 element

    by : (ts : List ValueType) → index_type (t.Grid x n l) ts ≡ Some r → Formed r
    by (t.Pt m ∷ []) e = tested (n == m) e
    by ts e = tested (all_ints ts && (length ts == n)) e
index_formed _ r ts e d = absurd (none_some r e)

fewer : (n : ℕ) → nat_lt 1 n ≡ true → is_dim n ≡ true → is_dim (n - 1) ≡ true
fewer n h d = let a : 1 < n = ltb-true 1 n h in let k = dims_are n d in dim_is (n - 1) (omega (arith, a, k), omega (arith, a, k))

member_formed : (b : BuiltIn) (a r : ValueType) (ts : List ValueType) → member_type b a ts ≡ Some r → Formed a → Formed r
member_formed Size (t.Rc n) r [] e d = subst Formed (some_same t.Int r e) refl
member_formed Size (t.Dm n) r [] e d = subst Formed (some_same t.Int r e) refl
member_formed Min (t.Rc n) r [] e d = subst Formed (some_same (t.Pt n) r e) d
member_formed Max (t.Rc n) r [] e d = subst Formed (some_same (t.Pt n) r e) d
member_formed Contains (t.Rc n) r (t.Pt m ∷ []) e d = subst Formed (where_some (n == m) t.Boolean r e).1 refl
member_formed Contains (t.Dm n) r (t.Pt m ∷ []) e d = subst Formed (where_some (n == m) t.Boolean r e).1 refl
member_formed Domain (t.Grid x n l) r [] e d = subst Formed (some_same (t.Rc n) r e) (and_left (is_dim n) (storable x && formed x) d)
member_formed Restrict (t.Grid x n l) r (t.Rc m ∷ []) e d = subst Formed (where_some (n == m) (t.Grid x n l) r e).1 d
member_formed Translate (t.Grid x n l) r (t.Pt m ∷ []) e d = subst Formed (where_some (n == m) (t.Grid x n l) r e).1 d
member_formed Slice (t.Grid x n l) r (t.Int ∷ t.Int ∷ []) e d =
    let q = where_some (nat_lt 1 n) (t.Grid x (n - 1) l) r e in
    subst Formed q.1 (ap₂ (λ a b. a && b) (fewer n q.0 (and_left (is_dim n) (storable x && formed x) d)) (and_right (is_dim n) (storable x && formed x) d))
member_formed Copy a r (u ∷ []) e d = subst Formed (where_some (same_grids a u && can_copy a u) t.Void r e).1 refl
member_formed Exchange a r (u ∷ []) e d = subst Formed (where_some (can_exchange a u && not (has_local_elements a)) t.Void r e).1 refl
member_formed Delete t.Region r [] e d = subst Formed (some_same t.Void r e) refl
member_formed _ a r ts e d = absurd (none_some r e)

-- ---- scopes

-- what is in scope within these foreach loops of a method
pub record Surrounds (m : NumberedMethod) (s : ScopeContents) (turns : List ℕ) : Type 0 where
  pub this : s.this_class ≡ this_of m
  pub turning : (number : ℕ) → among turns number ≡ true → (v : ScopeVariable) × (n : ℕ) × (in_scope s number ≡ Some v) × (v.type ≡ t.Pt n) × (is_dim n ≡ true)
  pub others : (number : ℕ) → among turns number ≡ false → in_scope s number ≡ in_scope (method_scope m) number

-- a variable that is used has a type, which is formed and isn't that of nothing
pub variable_formed : (m : NumberedMethod) (s : ScopeContents) (turns : List ℕ) → Surrounds m s turns → (number : ℕ) (d : Declaration) → means m turns number d ≡ true
    → (type : ValueType) × (declared_type s number d ≡ Some type) × (formed type ≡ true) × (is_void type ≡ false)
variable_formed m s turns k number (t.Typed is_single type) h = (type, refl, and_left (formed type) (not (is_void type)) h, not_it (is_void type) (and_right (formed type) (not (is_void type)) h))
  where
    not_it : (b : Bool) → not b ≡ true → b ≡ false
    not_it true h = absurd (true_false (sym h))
    not_it false h = refl
variable_formed m s turns k number t.Foreach h =
    let q = k.turning number (and_left (among turns number) _ h) in
    (t.Pt q.1, ap (option_map (λ (v : ScopeVariable). v.type)) q.2 ∙ ap Some q.3, q.4, refl)

-- ---- expressions

module _ (p : ProgramView) (fields : FieldsMeant p) (m : NumberedMethod) (s : ScopeContents) (turns : List ℕ) (around : Surrounds m s turns) where
  pub field_formed : (class field : ℕ) (type : ValueType) → field_type p class field ≡ Some type → (storable type ≡ true) × (formed type ≡ true)
  field_formed class field type z = let h = fields class field type z in (and_left (storable type) (formed type) h, and_right (storable type) (formed type) h)

  -- a field of an object, which holds something
  pub selected : (name : ℕ) (a type : ValueType) → select_type p a name ≡ Some type → (formed type ≡ true) × (is_void type ≡ false)
  selected name (t.Class c l) type z =
      let q = mapped (read_through l) (named_field_type p c name) type z in
      let f = named_field p c name q.0 q.1 in
      let k = field_formed c f.0 q.0 f.2 in
      subst (λ u. (formed u ≡ true) × (is_void u ≡ false)) q.2 (read_formed l q.0 k.1, storable_something l q.0 k.0)
  selected name _ type z = absurd (none_some type z)

  mutual
    pub exp_formed : (x : NumberedExp) → ExpMeant p m turns x → (type : ValueType) → operand_type p s x ≡ Some type → formed type ≡ true
    exp_formed (e.Int at n) k type z = subst Formed (some_same t.Int type z) refl
    exp_formed (e.Long at n) k type z = subst Formed (some_same t.Long type z) refl
    exp_formed (e.Truth at b) k type z = subst Formed (some_same t.Boolean type z) refl
    exp_formed (e.Null at) k type z = subst Formed (some_same t.Null type z) refl
    exp_formed (e.This at) k type z =
        let q = mapped (λ c. t.Class c false) s.this_class type (no_call (plain (option_map (λ c. t.Class c false) s.this_class)) type z).1 in
        subst Formed q.2 refl
    exp_formed (e.Variable at v) k type z =
        let q = variable_formed m s turns around v.number v.declared k in
        subst Formed (some_same q.0 type (sym q.1 ∙ (no_call (plain (variable_type s v)) type z).1)) q.2
    exp_formed (e.OwnField at field) k type z =
        let o = option_and_then (λ c. field_type p c field) s.this_class in
        let q = mapped as_global o type (no_call (plain (option_map as_global o)) type z).1 in
        let c = and_then (λ c. field_type p c field) s.this_class q.0 q.1 in
        subst Formed q.2 (global_formed q.0 (field_formed c.0 field q.0 c.2).1)
    exp_formed (e.Call at method args) k type z = absurd (never_called (slice_get p.methods method) (operands p s args) type z)
    exp_formed (e.OwnCall at method args) k type z = absurd (never_called (slice_get p.methods method) (operands p s args) type z)
    exp_formed (e.ThisProc at) k type z = subst Formed (some_same t.Int type z) refl
    exp_formed (e.NumProcs at) k type z = subst Formed (some_same t.Int type z) refl
    exp_formed (e.Point at parts) k type z =
        let q = and_then point_literal (operands p s parts) type (no_call (plain (option_and_then point_literal (operands p s parts))) type z).1 in
        let i = where_some (all_ints q.0) (t.Pt (length q.0)) type q.2 in
        subst Formed i.1 (subst (λ n. is_dim n ≡ true) (sym (how_many_is p s parts q.0 q.1)) k.0)
    exp_formed (e.Rect at ranges) k type z =
        let q = and_then (rect_literal (range_count ranges)) (bounds p s ranges) type (no_call (plain (option_and_then (rect_literal (range_count ranges)) (bounds p s ranges))) type z).1 in
        literal_formed (range_count ranges) q.0 type q.2 k.0 (bounds_formed ranges k.1 q.0 q.1)
    exp_formed (e.Unary at op a) k type z =
        let q = and_then (unary_type op) (operand_type p s a) type (no_call (plain (option_and_then (unary_type op) (operand_type p s a))) type z).1 in
        unary_formed op q.0 type q.2 (exp_formed a k q.0 q.1)
    exp_formed (e.Binary at op a b) k type z =
        let q = both_there (binary_type op) (operand_type p s a) (operand_type p s b) type (no_call (plain (and_then_both (operand_type p s a) (operand_type p s b) (binary_type op))) type z).1 in
        binary_formed op q.0 q.1 type q.4 (exp_formed a k.0 q.0 q.2)
    exp_formed (e.Cast at to a) k type z =
        let q = and_then (λ u. where_true (casts to.type u) to.type) (operand_type p s a) type
        (no_call (plain (option_and_then (λ u. where_true (casts to.type u) to.type) (operand_type p s a))) type z).1 in
        subst Formed (where_some (casts to.type q.0) to.type type q.2).1 k.0
    exp_formed (e.Select at a name) k type z =
        let q = and_then (λ u. select_type p u name) (operand_type p s a) type (no_call (plain (option_and_then (λ u. select_type p u name) (operand_type p s a))) type z).1 in
        (selected name q.0 type q.2).0
    exp_formed (e.Member at a name args) k type z =
        let q = member_there p (operand_type p s a) (operands p s args) name type z in
        member_formed q.4 q.0 type q.1 q.6 (exp_formed a k.0 q.0 q.2)
    exp_formed (e.Index at a parts) k type z =
        let q = both_there index_type (operand_type p s a) (operands p s parts) type (no_call (plain (and_then_both (operand_type p s a) (operands p s parts) index_type)) type z).1 in
        index_formed q.0 type q.1 q.4 (exp_formed a k.0 q.0 q.2)

    bounds_formed : (rs : NumberedRanges) → RangesMeant p m turns rs → (ts : List ValueType) → bounds p s rs ≡ Some ts → AllFormed ts
    bounds_formed e.NoRange k ts z = subst AllFormed (some_same [] ts z) tt
    bounds_formed (e.MoreRange r rest) k ts z =
        let j = joined_there (bound_types p s r) (bounds p s rest) ts z in
        subst AllFormed j.4 (formed_both j.0 j.1 (bound_formed r k.0 j.0 j.2) (bounds_formed rest k.1 j.1 j.3))

    bound_formed : (r : NumberedRange) → RangeMeant p m turns r → (ts : List ValueType) → bound_types p s r ≡ Some ts → AllFormed ts
    bound_formed (e.Plain low high) k ts z =
        let j = joined_there (one (operand_type p s low)) (one (operand_type p s high)) ts z in
        let o = one_there (operand_type p s low) j.0 j.2 in
        let h = one_there (operand_type p s high) j.1 j.3 in
        subst AllFormed j.4 (formed_both j.0 j.1 (subst AllFormed (sym o.2) (exp_formed low k.0 o.0 o.1, tt)) (subst AllFormed (sym h.2) (exp_formed high k.1 h.0 h.1, tt)))
    bound_formed (e.Stepped low high step) k ts z =
        let j = joined_there (append_both (one (operand_type p s low)) (one (operand_type p s high))) (one (operand_type p s step)) ts z in
        let l = joined_there (one (operand_type p s low)) (one (operand_type p s high)) j.0 j.2 in
        let o = one_there (operand_type p s low) l.0 l.2 in
        let h = one_there (operand_type p s high) l.1 l.3 in
        let d = one_there (operand_type p s step) j.1 j.3 in
        subst AllFormed j.4 (formed_both j.0 j.1
        (subst AllFormed l.4 (formed_both l.0 l.1 (subst AllFormed (sym o.2) (exp_formed low k.0 o.0 o.1, tt)) (subst AllFormed (sym h.2) (exp_formed high k.1 h.0 h.1, tt))))
        (subst AllFormed (sym d.2) (exp_formed step k.2 d.0 d.1, tt)))
