-- Where the rules give an expression a type, that is the one that it has in the text.
use Rattle.std.proofs.Common.{◌≡◌, ℕ, ◌+◌, Bool, true, false, not, ◌&&◌, ◌==◌, if◌then◌else◌, Option, Some, None, List, [], ◌∷◌, ◌++◌, length, slice_get, refl, sym, ◌∙◌, ap, subst, arith, length-append, append-nil, eqb-true}
use Rattle.std.specs.Option.{option_map, option_and_then, option_map_or, unwrap_or, option_or}
use Rattle.ti_lang.specs.Members.{only_if}
use Rattle.ti_syntax.specs.declared.tree.exprs.UnaryOperator.{UnaryOperator}
use Rattle.ti_syntax.specs.declared.tree.exprs.UnaryOperator.TheVariants as un
use Rattle.ti_syntax.specs.declared.tree.exprs.BinaryOperator.{BinaryOperator}
use Rattle.ti_syntax.specs.declared.tree.exprs.BinaryOperator.TheVariants as op
use Rattle.ti_lang.specs.Program.Types.{ValueType, Declaration, Typed, Foreach}
use Rattle.ti_lang.specs.Program.Types as t
use Rattle.ti_lang.specs.Program.Expressions.{NumberedExp, NumberedExps, NumberedRange, NumberedRanges}
use Rattle.ti_lang.specs.Program.Expressions as e
use Rattle.ti_lang.specs.Program.Classes.{NumberedMethod, ProgramView}
use Rattle.ti_lang.specs.Program.Scope.{ScopeContents}
use Rattle.ti_lang.specs.Typing.Fits.{casts}
use Rattle.ti_lang.specs.Typing.Kinds.{where_true, is_void, is_whole, as_global, read_through, dim_of_type}
use Rattle.ti_lang.specs.Typing.Operators.{whole_type, truth_type, point_type, rect_type, domain_type, binary_type, unary_type}
use Rattle.ti_lang.specs.Typing.BuiltIn.{BuiltIn, Size, Min, Max, Contains, Domain, Restrict, Translate, Slice, Copy, Exchange, Delete, built_in, member_type}
use Rattle.ti_lang.specs.Typing.Expressions.{is_int, and_then_both, append_both, one, all_ints, point_literal, range_of_points, rect_literal, index_type, select_type, called, member_given, member_typing, range_count, type_result, operand, operands, bound_types, bounds, expr_type}
use Rattle.ti_lang.specs.Typing.Declared.{declared_type, field_type, named_field_type, instance_method, result_type}
use Rattle.ti_lang.specs.Typing.TextTypes.{IsDimOf, AreDims, IsRangeDims, AreRangesDims, used_type, how_many, joined_type, product_type, operator_type, static_field_type, static_element_type, built_in_type, static_member_type, type_at, dims_of_range, dims_of_ranges}
use Rattle.ti_lang.proofs.MeaningLaws.NewThings.{both_true}

some_same : {A : Type 0} (a b : A) → ◌≡◌ {A = Option A} (Some a) (Some b) → a ≡ b
some_same a b h = cc

no_some : {A : Type 0} {B : Type 0} (b : B) → ◌≡◌ {A = Option B} None (Some b) → A
no_some {A} {B} b h = absurd (wrong b h)
  where
    wrong : (b : B) → ◌≡◌ {A = Option B} None (Some b) → ⊥
    wrong b h = cc

where_some : {A : Type 0} (test : Bool) (a b : A) → where_true test a ≡ Some b → a ≡ b
where_some true a b h = some_same a b h
where_some false a b h = no_some b h

-- ---- operators

unary_agrees : (o : UnaryOperator) (u ty : ValueType) → unary_type o u ≡ Some ty → u ≡ ty
unary_agrees un.Not t.Boolean ty h = some_same _ _ h
unary_agrees un.Not u ty h = no_some ty h
unary_agrees un.Minus u ty h = where_some (is_whole u) u ty h
unary_agrees un.Plus u ty h = where_some (is_whole u) u ty h
unary_agrees un.Complement u ty h = where_some (is_whole u) u ty h

-- of two possible types the first that is there
first_of : {A : Type 0} (test : Bool) (a b : A) (o : Option A) → o ≡ None → option_or (where_true test a) o ≡ Some b → a ≡ b
first_of true a b o z h = some_same a b h
first_of false a b o z h = no_some b (sym z ∙ h)

domain_some : (test : Bool) (n : ℕ) (ty : ValueType) → option_map t.Dm (where_true test n) ≡ Some ty → t.Dm n ≡ ty
domain_some true n ty h = some_same _ _ h
domain_some false n ty h = no_some ty h

sum_agrees : (u w ty : ValueType) → option_or (whole_type u w) (option_or (point_type u w) (domain_type u w)) ≡ Some ty → joined_type u w ≡ ty
sum_agrees t.Int t.Int ty h = some_same _ _ h
sum_agrees t.Int t.Long ty h = some_same _ _ h
sum_agrees t.Long t.Int ty h = some_same _ _ h
sum_agrees t.Long t.Long ty h = some_same _ _ h
sum_agrees (t.Pt n) (t.Pt m) ty h = first_of (n == m) _ _ _ refl h
sum_agrees (t.Rc n) (t.Rc m) ty h = domain_some (n == m) n ty h
sum_agrees (t.Rc n) (t.Dm m) ty h = domain_some (n == m) n ty h
sum_agrees (t.Dm n) (t.Rc m) ty h = domain_some (n == m) n ty h
sum_agrees (t.Dm n) (t.Dm m) ty h = domain_some (n == m) n ty h
sum_agrees u w ty h = no_some ty h

product_agrees : (u w ty : ValueType) → option_or (whole_type u w) (option_or (rect_type u w) (domain_type u w)) ≡ Some ty → product_type u w ≡ ty
product_agrees t.Int t.Int ty h = some_same _ _ h
product_agrees t.Int t.Long ty h = some_same _ _ h
product_agrees t.Long t.Int ty h = some_same _ _ h
product_agrees t.Long t.Long ty h = some_same _ _ h
product_agrees (t.Rc n) (t.Rc m) ty h = rects (n == m) h
  where
    rects : (test : Bool) → option_or (where_true test (t.Rc n)) (option_map t.Dm (where_true test n)) ≡ Some ty → t.Rc n ≡ ty
    rects true h = some_same _ _ h
    rects false h = no_some ty h
product_agrees (t.Rc n) (t.Dm m) ty h = domain_some (n == m) n ty h
product_agrees (t.Dm n) (t.Rc m) ty h = domain_some (n == m) n ty h
product_agrees (t.Dm n) (t.Dm m) ty h = domain_some (n == m) n ty h
product_agrees u w ty h = no_some ty h

whole_agrees : (u w ty : ValueType) → whole_type u w ≡ Some ty → joined_type u w ≡ ty
whole_agrees t.Int t.Int ty h = some_same _ _ h
whole_agrees t.Int t.Long ty h = some_same _ _ h
whole_agrees t.Long t.Int ty h = some_same _ _ h
whole_agrees t.Long t.Long ty h = some_same _ _ h
whole_agrees u w ty h = no_some ty h

bits_agree : (u w ty : ValueType) → option_or (whole_type u w) (truth_type u w) ≡ Some ty → joined_type u w ≡ ty
bits_agree t.Int t.Int ty h = some_same _ _ h
bits_agree t.Int t.Long ty h = some_same _ _ h
bits_agree t.Long t.Int ty h = some_same _ _ h
bits_agree t.Long t.Long ty h = some_same _ _ h
bits_agree t.Boolean t.Boolean ty h = some_same _ _ h
bits_agree u w ty h = no_some ty h

truth_agrees : (u w ty : ValueType) → truth_type u w ≡ Some ty → t.Boolean ≡ ty
truth_agrees t.Boolean t.Boolean ty h = some_same _ _ h
truth_agrees u w ty h = no_some ty h

pub binary_agrees : (o : BinaryOperator) (u w ty : ValueType) → binary_type o u w ≡ Some ty → operator_type o u w ≡ ty
binary_agrees op.Add u w ty h = sum_agrees u w ty h
binary_agrees op.Subtract u w ty h = sum_agrees u w ty h
binary_agrees op.Multiply u w ty h = product_agrees u w ty h
binary_agrees op.Divide u w ty h = whole_agrees u w ty h
binary_agrees op.Remainder u w ty h = whole_agrees u w ty h
binary_agrees op.And u w ty h = bits_agree u w ty h
binary_agrees op.Or u w ty h = bits_agree u w ty h
binary_agrees op.Xor u w ty h = bits_agree u w ty h
binary_agrees op.ShiftLeft u w ty h = where_some _ u ty h
binary_agrees op.ShiftRight u w ty h = where_some _ u ty h
binary_agrees op.UnsignedShiftRight u w ty h = where_some _ u ty h
binary_agrees op.OrElse u w ty h = truth_agrees u w ty h
binary_agrees op.AndThen u w ty h = truth_agrees u w ty h
binary_agrees op.Less u w ty h = where_some _ t.Boolean ty h
binary_agrees op.LessEqual u w ty h = where_some _ t.Boolean ty h
binary_agrees op.Greater u w ty h = where_some _ t.Boolean ty h
binary_agrees op.GreaterEqual u w ty h = where_some _ t.Boolean ty h
binary_agrees op.Equal u w ty h = where_some _ t.Boolean ty h
binary_agrees op.NotEqual u w ty h = where_some _ t.Boolean ty h

-- ---- options

map_some : {A B : Type 0} (f : A → B) (o : Option A) (d b : B) → option_map f o ≡ Some b → option_map_or f o d ≡ b
map_some f None d b h = no_some b h
map_some f (Some a) d b h = some_same _ _ h

unwrapped : {A : Type 0} (o : Option A) (d a : A) → o ≡ Some a → unwrap_or o d ≡ a
unwrapped None d a h = no_some a h
unwrapped (Some x) d a h = some_same _ _ h

-- what is there at the end of two steps is there after the first
pub record Stepped {A B : Type 0} (o : Option A) (f : A → Option B) (b : B) : Type 0 where
  pub first : A
  pub is : o ≡ Some first
  pub next : f first ≡ Some b

stepped : {A B : Type 0} (o : Option A) (f : A → Option B) (b : B) → option_and_then f o ≡ Some b → Stepped o f b
stepped None f b h = no_some b h
stepped (Some a) f b h = record { first = a; is = refl; next = h }

pub record Paired {A B C : Type 0} (o : Option A) (p : Option B) (f : A → B → Option C) (c : C) : Type 0 where
  pub left : A
  pub right : B
  pub left_is : o ≡ Some left
  pub right_is : p ≡ Some right
  pub next : f left right ≡ Some c

paired : {A B C : Type 0} (o : Option A) (p : Option B) (f : A → B → Option C) (c : C) → and_then_both o p f ≡ Some c → Paired o p f c
paired None p f c h = no_some c h
paired (Some a) None f c h = no_some c h
paired (Some a) (Some b) f c h = record { left = a; right = b; left_is = refl; right_is = refl; next = h }

only_some : (test : ValueType → Bool) (o : Option ValueType) (u : ValueType) → only_if test o ≡ Some u → o ≡ Some u
only_some test None u h = h
only_some test (Some x) u h = by_test (test x) h
  where
    by_test : (b : Bool) → (if b then Some x else None) ≡ Some u → Some x ≡ Some u
    by_test true h = h
    by_test false h = no_some u h

operand_some : (b : Bool) (o : Option ValueType) (u : ValueType) → (if b then None else only_if (λ x. not (is_void x)) o) ≡ Some u → o ≡ Some u
operand_some true o u h = no_some u h
operand_some false o u h = only_some _ o u h

-- ---- parts and members

index_agrees : (u : ValueType) (ts : List ValueType) (ty : ValueType) → index_type u ts ≡ Some ty → static_element_type u ≡ ty
index_agrees (t.Pt n) (t.Int ∷ []) ty h = some_same _ _ h
index_agrees (t.Pt n) ts ty h = no_some ty h
index_agrees (t.Grid x n l) (t.Pt m ∷ []) ty h = where_some (n == m) _ ty h
index_agrees (t.Grid x n l) ts ty h = where_some (all_ints ts && (length ts == n)) _ ty h
index_agrees u ts ty h = no_some ty h

select_agrees : (program : ProgramView) (name : ℕ) (u ty : ValueType) → select_type program u name ≡ Some ty → static_field_type program name u ≡ ty
select_agrees program name (t.Class c l) ty h = map_some (read_through l) (named_field_type program c name) t.Void ty h
select_agrees program name u ty h = no_some ty h

built_in_agrees : (b : BuiltIn) (u : ValueType) (ts : List ValueType) (ty : ValueType) → member_type b u ts ≡ Some ty → built_in_type (Some b) u ≡ ty
built_in_agrees Size (t.Rc n) [] ty h = some_same _ _ h
built_in_agrees Size (t.Dm n) [] ty h = some_same _ _ h
built_in_agrees Min (t.Rc n) [] ty h = some_same _ _ h
built_in_agrees Max (t.Rc n) [] ty h = some_same _ _ h
built_in_agrees Contains (t.Rc n) (t.Pt m ∷ []) ty h = where_some (n == m) _ ty h
built_in_agrees Contains (t.Dm n) (t.Pt m ∷ []) ty h = where_some (n == m) _ ty h
built_in_agrees Domain (t.Grid x n l) [] ty h = some_same _ _ h
built_in_agrees Restrict (t.Grid x n l) (t.Rc m ∷ []) ty h = where_some (n == m) _ ty h
built_in_agrees Translate (t.Grid x n l) (t.Pt m ∷ []) ty h = where_some (n == m) _ ty h
built_in_agrees Slice (t.Grid x n l) (t.Int ∷ t.Int ∷ []) ty h = where_some _ _ ty h
built_in_agrees Copy u (w ∷ []) ty h = where_some _ t.Void ty h
built_in_agrees Exchange u (w ∷ []) ty h = where_some _ t.Void ty h
built_in_agrees Delete t.Region [] ty h = some_same _ _ h
built_in_agrees b u ts ty h = no_some ty h

given_agrees : (o : Option BuiltIn) (u : ValueType) (ts : List ValueType) (ty : ValueType) → option_and_then (λ b. member_type b u ts) o ≡ Some ty → built_in_type o u ≡ ty
given_agrees None u ts ty h = no_some ty h
given_agrees (Some b) u ts ty h = built_in_agrees b u ts ty h

call_agrees : (o : Option NumberedMethod) (ts : Option (List ValueType)) (ty : ValueType) → (called o ts).type ≡ Some ty → option_map_or result_type o t.Void ≡ ty
call_agrees o None ty h = no_some ty h
call_agrees None (Some ts) ty h = no_some ty h
call_agrees (Some m) (Some ts) ty h = where_some _ _ ty h

member_agrees : (program : ProgramView) (name : ℕ) (u : ValueType) (ts : List ValueType) (ty : ValueType) → (member_given program u name ts).type ≡ Some ty → static_member_type program name u ≡ ty
member_agrees program name (t.Class c l) ts ty h = call_agrees (instance_method program c name) (Some ts) ty h
member_agrees program name t.Int ts ty h = given_agrees (built_in program name) _ ts ty h
member_agrees program name t.Long ts ty h = given_agrees (built_in program name) _ ts ty h
member_agrees program name t.Boolean ts ty h = given_agrees (built_in program name) _ ts ty h
member_agrees program name (t.Pt n) ts ty h = given_agrees (built_in program name) _ ts ty h
member_agrees program name (t.Rc n) ts ty h = given_agrees (built_in program name) _ ts ty h
member_agrees program name (t.Dm n) ts ty h = given_agrees (built_in program name) _ ts ty h
member_agrees program name t.Region ts ty h = given_agrees (built_in program name) _ ts ty h
member_agrees program name (t.Grid x n l) ts ty h = given_agrees (built_in program name) _ ts ty h
member_agrees program name t.Null ts ty h = given_agrees (built_in program name) _ ts ty h
member_agrees program name t.Void ts ty h = given_agrees (built_in program name) _ ts ty h

-- ---- lists of types

one_length : (o : Option ValueType) (ts : List ValueType) → one o ≡ Some ts → length ts ≡ 1
one_length None ts h = no_some ts h
one_length (Some u) ts h = ap length (sym (some_same _ _ h))

joined_length : (o p : Option (List ValueType)) (ts : List ValueType) (n m : ℕ) → ((us : List ValueType) → o ≡ Some us → length us ≡ n)
    → ((us : List ValueType) → p ≡ Some us → length us ≡ m) → append_both o p ≡ Some ts → length ts ≡ n + m
joined_length None p ts n m f g h = no_some ts h
joined_length (Some us) None ts n m f g h = no_some ts h
joined_length (Some us) (Some ws) ts n m f g h = omega (arith, ap length (some_same (us ++ ws) ts h), length-append us ws, f us refl, g ws refl)

pub how_many_is : (program : ProgramView) (s : ScopeContents) (xs : NumberedExps) (ts : List ValueType) → operands program s xs ≡ Some ts → length ts ≡ how_many xs
how_many_is program s e.NoExp ts h = ap length (sym (some_same _ _ h))
how_many_is program s (e.MoreExp x xs) ts h =
    omega (arith, joined_length (one (operand (type_result program s x))) (operands program s xs) ts 1 (how_many xs) (one_length (operand (type_result program s x))) (how_many_is program s xs) h)

point_agrees : (ts : List ValueType) (ty : ValueType) (n : ℕ) → length ts ≡ n → point_literal ts ≡ Some ty → t.Pt n ≡ ty
point_agrees ts ty n z h = ap t.Pt (sym z) ∙ where_some (all_ints ts) _ ty h

-- ---- ranges

int_only : (u : ValueType) (b : Bool) → (is_int u && b) ≡ true → u ≡ t.Int
int_only t.Int b h = refl
int_only u b h = absurd (wrong h)
  where
    wrong : false ≡ true → ⊥
    wrong h = cc

low_int : (o : Option ValueType) (p : Option (List ValueType)) (ts : List ValueType) → append_both (one o) p ≡ Some ts → all_ints ts ≡ true → o ≡ Some t.Int
low_int None p ts h z = no_some ts h
low_int (Some u) None ts h z = no_some ts h
low_int (Some u) (Some ws) ts h z = ap Some (int_only u (all_ints ws) (subst (λ x. all_ints x ≡ true) (sym (some_same (u ∷ ws) ts h)) z))

pub record LowPoint (o : Option ValueType) (ty : ValueType) : Type 0 where
  pub dim : ℕ
  pub is : o ≡ Some (t.Pt dim)
  pub gives : t.Rc dim ≡ ty

by_first : (u : ValueType) (ws : List ValueType) (ty : ValueType) → range_of_points (u ∷ ws) ≡ Some ty → LowPoint (Some u) ty
by_first (t.Pt n) ws ty h = record { dim = n; is = refl; gives = where_some _ _ ty h }
by_first u ws ty h = no_some ty h

low_point : (o : Option ValueType) (p : Option (List ValueType)) (ts : List ValueType) (ty : ValueType) → append_both (one o) p ≡ Some ts → range_of_points ts ≡ Some ty → LowPoint o ty
low_point None p ts ty h z = no_some ts h
low_point (Some u) None ts ty h z = no_some ts h
low_point (Some u) (Some ws) ts ty h z = by_first u ws ty (subst (λ x. range_of_points x ≡ Some ty) (sym (some_same (u ∷ ws) ts h)) z)

-- the first of three comes before the other two
flat : (o : Option ValueType) (p q : Option (List ValueType)) (ts : List ValueType) → append_both (append_both (one o) p) q ≡ Some ts → append_both (one o) (append_both p q) ≡ Some ts
flat None p q ts h = h
flat (Some u) None q ts h = h
flat (Some u) (Some ps) None ts h = h
flat (Some u) (Some ps) (Some qs) ts h = h

ints_split : (us ws : List ValueType) → all_ints (us ++ ws) ≡ true → (all_ints us ≡ true) × (all_ints ws ≡ true)
ints_split [] ws h = (refl, h)
ints_split (u ∷ us) ws h =
    let k = both_true (is_int u) (all_ints (us ++ ws)) h in
    let m = ints_split us ws k.1 in
    (ap (λ b. b && all_ints us) k.0 ∙ m.0, m.1)

pub record Split (o p : Option (List ValueType)) (ts : List ValueType) : Type 0 where
  pub front : List ValueType
  pub back : List ValueType
  pub front_is : o ≡ Some front
  pub back_is : p ≡ Some back
  pub whole : front ++ back ≡ ts

split : (o p : Option (List ValueType)) (ts : List ValueType) → append_both o p ≡ Some ts → Split o p ts
split None p ts h = no_some ts h
split (Some us) None ts h = no_some ts h
split (Some us) (Some ws) ts h = record { front = us; back = ws; front_is = refl; back_is = refl; whole = some_same (us ++ ws) ts h }

-- ---- expressions

module _ (program : ProgramView) (s : ScopeContents) (dims : ℕ → ℕ) where
  variable_agrees : (number : ℕ) (d : Declaration) → IsDimOf s dims number d → (ty : ValueType) → declared_type s number d ≡ Some ty → used_type dims number d ≡ ty
  variable_agrees number (Typed is_single type) k ty h = some_same _ _ h
  variable_agrees number Foreach k ty h = sym (k ty h)

  operand_of : (x : NumberedExp) → ((ty : ValueType) → expr_type program s x ≡ Some ty → type_at program s.this_class dims x ≡ ty)
      → (u : ValueType) → operand (type_result program s x) ≡ Some u → type_at program s.this_class dims x ≡ u
  operand_of x f u h = f u (operand_some (type_result program s x).is_call (type_result program s x).type u h)

  rect_agrees : (rs : NumberedRanges) (ts : List ValueType) (ty : ValueType)
      → (all_ints ts ≡ true → dims_of_ranges program s.this_class dims rs ≡ range_count rs)
      → (range_count rs ≡ 1 → range_of_points ts ≡ Some ty → t.Rc (dims_of_ranges program s.this_class dims rs) ≡ ty)
      → (b c : Bool) → all_ints ts ≡ b → (range_count rs == 1) ≡ c → (if b then Some (t.Rc (range_count rs)) else if c then range_of_points ts else None) ≡ Some ty
      → t.Rc (dims_of_ranges program s.this_class dims rs) ≡ ty
  rect_agrees rs ts ty f g true c e d h = ap t.Rc (f e) ∙ some_same _ _ h
  rect_agrees rs ts ty f g false true e d h = g (eqb-true (range_count rs) 1 d) h
  rect_agrees rs ts ty f g false false e d h = no_some ty h

  mutual
    pub agrees : (x : NumberedExp) → AreDims s dims x → (ty : ValueType) → expr_type program s x ≡ Some ty → type_at program s.this_class dims x ≡ ty
    agrees (e.Int at n) are ty h = some_same _ _ h
    agrees (e.Long at n) are ty h = some_same _ _ h
    agrees (e.Truth at b) are ty h = some_same _ _ h
    agrees (e.Null at) are ty h = some_same _ _ h
    agrees (e.This at) are ty h = map_some (λ class. t.Class class false) s.this_class t.Void ty h
    agrees (e.Variable at v) are ty h = variable_agrees v.number v.declared are ty h
    agrees (e.OwnField at field) are ty h = unwrapped (option_map as_global (option_and_then (λ class. field_type program class field) s.this_class)) t.Void ty h
    agrees (e.Call at method args) are ty h = call_agrees (slice_get program.methods method) (operands program s args) ty h
    agrees (e.OwnCall at method args) are ty h = call_agrees (slice_get program.methods method) (operands program s args) ty h
    agrees (e.ThisProc at) are ty h = some_same _ _ h
    agrees (e.NumProcs at) are ty h = some_same _ _ h
    agrees (e.Point at parts) are ty h =
        let k = stepped (operands program s parts) point_literal ty h in
        point_agrees k.first ty (how_many parts) (how_many_is program s parts k.first k.is) k.next
    agrees (e.Rect at ranges) are ty h =
        let k = stepped (bounds program s ranges) (rect_literal (range_count ranges)) ty h in
        rect_agrees ranges k.first ty (ranges_ints ranges are k.first k.is) (ranges_points ranges are k.first ty k.is) (all_ints k.first) (range_count ranges == 1) refl refl k.next
    agrees (e.Unary at o x) are ty h =
        let k = stepped (operand (type_result program s x)) (unary_type o) ty h in
        operand_of x (agrees x are) k.first k.is ∙ unary_agrees o k.first ty k.next
    agrees (e.Binary at o x y) are ty h =
        let k = paired (operand (type_result program s x)) (operand (type_result program s y)) (binary_type o) ty h in
        ap (λ u. operator_type o u (type_at program s.this_class dims y)) (operand_of x (agrees x are.0) k.left k.left_is)
        ∙ (ap (λ u. operator_type o k.left u) (operand_of y (agrees y are.1) k.right k.right_is)
        ∙ binary_agrees o k.left k.right ty k.next)
    agrees (e.Cast at to x) are ty h =
        let k = stepped (operand (type_result program s x)) (λ u. where_true (casts to.type u) to.type) ty h in where_some _ to.type ty k.next
    agrees (e.Select at x name) are ty h =
        let k = stepped (operand (type_result program s x)) (λ u. select_type program u name) ty h in
        ap (static_field_type program name) (operand_of x (agrees x are) k.first k.is) ∙ select_agrees program name k.first ty k.next
    agrees (e.Member at x name args) are ty h = by_operands (operand (type_result program s x)) (operands program s args) (operand_of x (agrees x are)) h
      where
        by_operands : (o : Option ValueType) (ts : Option (List ValueType))
            → ((u : ValueType) → o ≡ Some u → type_at program s.this_class dims x ≡ u) → (member_typing program o name ts).type ≡ Some ty
            → static_member_type program name (type_at program s.this_class dims x) ≡ ty
        by_operands None ts f h = no_some ty h
        by_operands (Some u) None f h = no_some ty h
        by_operands (Some u) (Some ts) f h = ap (static_member_type program name) (f u refl) ∙ member_agrees program name u ts ty h
    agrees (e.Index at x parts) are ty h =
        let k = paired (operand (type_result program s x)) (operands program s parts) index_type ty h in
        ap static_element_type (operand_of x (agrees x are) k.left k.left_is) ∙ index_agrees k.left k.right ty k.next

    range_ints : (r : NumberedRange) → IsRangeDims s dims r → (ts : List ValueType) → bound_types program s r ≡ Some ts → all_ints ts ≡ true
        → dims_of_range program s.this_class dims r ≡ 1
    range_ints (e.Plain low high) are ts h z =
        ap dim_of_type (operand_of low (agrees low are) t.Int (low_int (operand (type_result program s low)) (one (operand (type_result program s high))) ts h z))
    range_ints (e.Stepped low high step) are ts h z =
        ap dim_of_type (operand_of low (agrees low are) t.Int (low_int (operand (type_result program s low)) (append_both (one (operand (type_result program s high))) (one (operand (type_result program s step)))) ts
        (flat (operand (type_result program s low)) (one (operand (type_result program s high))) (one (operand (type_result program s step))) ts h) z))

    ranges_ints : (rs : NumberedRanges) → AreRangesDims s dims rs → (ts : List ValueType) → bounds program s rs ≡ Some ts → all_ints ts
        ≡ true → dims_of_ranges program s.this_class dims rs ≡ range_count rs
    ranges_ints e.NoRange are ts h z = refl
    ranges_ints (e.MoreRange r e.NoRange) are ts h z =
        let k = split (bound_types program s r) (Some []) ts h in
        let m = ints_split k.front k.back (subst (λ x. all_ints x ≡ true) (sym k.whole) z) in
        range_ints r are.0 k.front k.front_is m.0
    ranges_ints (e.MoreRange r (e.MoreRange q rs)) are ts h z = refl

    range_points : (r : NumberedRange) → IsRangeDims s dims r → (ts : List ValueType) (ty : ValueType) → bound_types program s r ≡ Some ts
        → range_of_points ts ≡ Some ty → t.Rc (dims_of_range program s.this_class dims r) ≡ ty
    range_points (e.Plain low high) are ts ty h z =
        let k = low_point (operand (type_result program s low)) (one (operand (type_result program s high))) ts ty h z in
        ap (λ u. t.Rc (dim_of_type u)) (operand_of low (agrees low are) (t.Pt k.dim) k.is) ∙ k.gives
    range_points (e.Stepped low high step) are ts ty h z =
        let k = low_point (operand (type_result program s low)) (append_both (one (operand (type_result program s high)))
        (one (operand (type_result program s step)))) ts ty (flat (operand (type_result program s low)) (one (operand (type_result program s high)))
        (one (operand (type_result program s step))) ts h) z in
        ap (λ u. t.Rc (dim_of_type u)) (operand_of low (agrees low are) (t.Pt k.dim) k.is) ∙ k.gives

    ranges_points : (rs : NumberedRanges) → AreRangesDims s dims rs → (ts : List ValueType) (ty : ValueType) → bounds program s rs ≡ Some ts
        → range_count rs ≡ 1 → range_of_points ts ≡ Some ty → t.Rc (dims_of_ranges program s.this_class dims rs) ≡ ty
    ranges_points e.NoRange are ts ty h n z = absurd (omega (arith, n))
    ranges_points (e.MoreRange r e.NoRange) are ts ty h n z =
        let k = split (bound_types program s r) (Some []) ts h in
        let nil : [] ≡ k.back = some_same _ _ k.back_is in
        let same : k.front ≡ ts = sym (append-nil k.front) ∙ (ap (λ x. k.front ++ x) nil ∙ k.whole) in
        range_points r are.0 k.front ty k.front_is (subst (λ x. range_of_points x ≡ Some ty) (sym same) z)
    ranges_points (e.MoreRange r (e.MoreRange q rs)) are ts ty h n z = absurd (omega (arith, n))
