-- In the text an expression has the class or the grid as its type that the rules give it in a scope, wherever they give it one.
use Rattle.std.proofs.Common.{◌≡◌, ℕ, ◌-◌, ◌==◌, nat_lt, Bool, true, false, ◌&&◌, if◌then◌else◌, length, is_none, slice_get, option_map, option_and_then, unwrap_or, Option, Some, None, List, [], ◌∷◌, refl, ap, sym, ◌∙◌, subst}
use Rattle.std.specs.Option.{option_or, option_map_or}
use Rattle.std.proofs.lemmas.List.Folds.{find-append}
use Rattle.ti_syntax.specs.declared.tree.exprs.UnaryOperator.{UnaryOperator}
use Rattle.ti_syntax.specs.declared.tree.exprs.UnaryOperator.TheVariants as un
use Rattle.ti_syntax.specs.declared.tree.exprs.BinaryOperator.{BinaryOperator}
use Rattle.ti_syntax.specs.declared.tree.exprs.BinaryOperator.TheVariants as op
use Rattle.ti_lang.specs.Program.Types.{ValueType, Declaration}
use Rattle.ti_lang.specs.Program.Types as t
use Rattle.ti_lang.specs.Program.Expressions.{NumberedExp}
use Rattle.ti_lang.specs.Program.Expressions as e
use Rattle.ti_lang.specs.Program.Classes.{NumberedMethod, ProgramView}
use Rattle.ti_lang.specs.Program.Scope.{ScopeVariable, ScopeContents, this_of, method_scope}
use Rattle.ti_lang.specs.Typing.Kinds.{where_true, is_whole, is_void, is_object, is_reference, as_global, read_through, domain_dim}
use Rattle.ti_lang.specs.Typing.Operators.{wider, whole_type, truth_type, point_type, rect_type, same_dim, domain_type, Row, Sum, Product, Shift, Bits, row_of, row_type, unary_type, binary_type}
use Rattle.ti_lang.specs.Typing.BuiltIn.{BuiltIn, Size, Min, Max, Contains, Domain, Restrict, Translate, Slice, Copy, Exchange, Delete, built_in, member_type}
use Rattle.ti_lang.specs.Typing.Declared.{in_scope, declared_type, field_type, named_field_type}
use Rattle.ti_lang.specs.Typing.Expressions.{plain, operand, and_then_both, all_ints, point_literal, rect_literal, index_type, select_type, called, range_count, operands, bounds, operand_type}
use Rattle.ti_lang.specs.Typing.TextTypes.{used_type, joined_type, product_type, operator_type, static_field_type, static_element_type, slice_type, built_in_type, static_member_type, syntactic_type}
use Rattle.ti_lang.specs.Typing.Fits.{casts}
use Rattle.ti_rules.specs.StmtInContext.{with_foreach_variable, variables_inside}
use Rattle.ti_align.specs.Mirrors.Fitting.{IsWritten}
use Rattle.ti_align.specs.Mirrors.ContItem.{may_use, uses_of}
use Rattle.ti_align.proofs.Runs.Vars.{true_false, and_left}
use Rattle.ti_align.proofs.RunTypes.Operating.{none_some, some_same, where_some}
use Rattle.ti_align.proofs.Regions.Results.{NoneOf, either}
use Rattle.ti_align.proofs.Regions.Results as result
use Rattle.ti_align.proofs.RunTypes.Evaluating.{and_then, mapped, both_there, no_call, member_there}

-- ---- what is no reference

abbrev Plain : ValueType → Type 0
Plain r = is_reference r ≡ false

no_references : NoneOf is_reference
no_references = record { int = refl; long = refl; truth = refl; point = λ n. refl; rect = λ n. refl; domain = λ n. refl }

whole_is : (a : ValueType) → is_whole a ≡ true → Plain a
whole_is a h = result.whole_is is_reference no_references a h

row_plain : (row : Row) (a u r : ValueType) → row_type row a u ≡ Some r → Plain r
row_plain row a u r h = result.row_plain is_reference no_references row a u r h

rects_plain : (n : ℕ) (ts : List ValueType) (r : ValueType) → rect_literal n ts ≡ Some r → Plain r
rects_plain n ts r h = result.rects_plain is_reference no_references n ts r h

-- a left operand that is no reference either
dim_plain : (a : ValueType) (n : ℕ) → domain_dim a ≡ Some n → Plain a
dim_plain (t.Rc m) n h = refl
dim_plain (t.Dm m) n h = refl
dim_plain _ n h = absurd (none_some n h)

domain_left : (a u r : ValueType) → domain_type a u ≡ Some r → Plain a
domain_left a u r h = by (domain_dim a) refl (domain_dim u) (mapped t.Dm (same_dim (domain_dim a) (domain_dim u)) r h).1
  where
    by : (x : Option ℕ) → domain_dim a ≡ x → (y : Option ℕ) {n : ℕ} → same_dim x y ≡ Some n → Plain a
    by None z y h = absurd (none_some _ h)
    by (Some k) z y h = dim_plain a k z

whole_left : (a u r : ValueType) → whole_type a u ≡ Some r → Plain a
whole_left a u r h = whole_is a (and_left (is_whole a) _ (where_some (is_whole a && is_whole u) (wider a u) r h).0)

point_left : (a u r : ValueType) → point_type a u ≡ Some r → Plain a
point_left (t.Pt n) u r h = refl
point_left _ u r h = absurd (none_some r h)

rect_left : (a u r : ValueType) → rect_type a u ≡ Some r → Plain a
rect_left (t.Rc n) u r h = refl
rect_left _ u r h = absurd (none_some r h)

truth_left : (a u r : ValueType) → truth_type a u ≡ Some r → Plain a
truth_left t.Boolean u r h = refl
truth_left _ u r h = absurd (none_some r h)

-- what an operator gives of what is no reference is none
joined_plain : (x y : ValueType) → Plain x → Plain (joined_type x y)
joined_plain t.Int t.Long h = refl
joined_plain (t.Rc n) y h = refl
joined_plain t.Int _ h = h
joined_plain _ y h = h

product_plain : (x y : ValueType) → Plain x → Plain (product_type x y)
product_plain (t.Rc n) (t.Rc m) h = refl
product_plain (t.Rc n) _ h = refl
product_plain t.Int y h = joined_plain t.Int y h
product_plain _ y h = h

sum_left : (a u r : ValueType) → row_type Sum a u ≡ Some r → Plain a
sum_left a u r h = either (whole_type a u) _ r h (whole_left a u r) (λ k. either (point_type a u) (domain_type a u) r k (point_left a u r) (domain_left a u r))

product_left : (a u r : ValueType) → row_type Product a u ≡ Some r → Plain a
product_left a u r h = either (whole_type a u) _ r h (whole_left a u r) (λ k. either (rect_type a u) (domain_type a u) r k (rect_left a u r) (domain_left a u r))

bits_left : (a u r : ValueType) → row_type Bits a u ≡ Some r → Plain a
bits_left a u r h = either (whole_type a u) (truth_type a u) r h (whole_left a u r) (truth_left a u r)

shift_left : (a u r : ValueType) → row_type Shift a u ≡ Some r → Plain a
shift_left a u r h = whole_is a (and_left (is_whole a) _ (where_some (is_whole a && is_whole u) a r h).0)

operator_plain : (o : BinaryOperator) (a u r x y : ValueType) → binary_type o a u ≡ Some r → (Plain a → Plain x) → Plain (operator_type o x y)
operator_plain op.Add a u r x y h f = joined_plain x y (f (sum_left a u r h))
operator_plain op.Subtract a u r x y h f = joined_plain x y (f (sum_left a u r h))
operator_plain op.Multiply a u r x y h f = product_plain x y (f (product_left a u r h))
operator_plain op.Divide a u r x y h f = joined_plain x y (f (whole_left a u r h))
operator_plain op.Remainder a u r x y h f = joined_plain x y (f (whole_left a u r h))
operator_plain op.And a u r x y h f = joined_plain x y (f (bits_left a u r h))
operator_plain op.Or a u r x y h f = joined_plain x y (f (bits_left a u r h))
operator_plain op.Xor a u r x y h f = joined_plain x y (f (bits_left a u r h))
operator_plain op.ShiftLeft a u r x y h f = f (shift_left a u r h)
operator_plain op.ShiftRight a u r x y h f = f (shift_left a u r h)
operator_plain op.UnsignedShiftRight a u r x y h f = f (shift_left a u r h)
operator_plain _ a u r x y h f = refl

-- an operand and what an operator gives of it
unary_plain : (o : UnaryOperator) (a r : ValueType) → unary_type o a ≡ Some r → Plain a × Plain r
unary_plain un.Not t.Boolean r h = (refl, subst Plain (some_same t.Boolean r h) refl)
unary_plain un.Not _ r h = absurd (none_some r h)
unary_plain un.Plus a r h = let q = where_some (is_whole a) a r h in (whole_is a q.0, subst Plain q.1 (whole_is a q.0))
unary_plain un.Minus a r h = let q = where_some (is_whole a) a r h in (whole_is a q.0, subst Plain q.1 (whole_is a q.0))
unary_plain un.Complement a r h = let q = where_some (is_whole a) a r h in (whole_is a q.0, subst Plain q.1 (whole_is a q.0))

-- ---- scopes

-- the variables of foreach loops are points
abbrev pub Points : NumberedMethod → ScopeContents → Type 0
Points m s = (number : ℕ) (type : ValueType) → is_none (in_scope (method_scope m) number) ≡ true → declared_type s number t.Foreach ≡ Some type → (n : ℕ) × (type ≡ t.Pt n)

pub method_points : (m : NumberedMethod) → Points m (method_scope m)
method_points m number type k h = absurd (by (in_scope (method_scope m) number) k h)
  where
    by : (o : Option ScopeVariable) → is_none o ≡ true → option_map (λ (v : ScopeVariable). v.type) o ≡ Some type → ⊥
    by None k h = none_some type h
    by (Some v) k h = true_false (sym k)

pub inside_points : (p : ProgramView) (m : NumberedMethod) (s : ScopeContents) (number : ℕ) (domain : NumberedExp) → Points m s
    → Points m (record s { variables = variables_inside p s number domain })
inside_points p m s number domain f = by _ (option_and_then domain_dim (operand_type p s domain))
  where
    of : (k : ℕ) (type : ValueType) (a b : Option ScopeVariable) → ((c : ValueType) → option_map (λ (v : ScopeVariable). v.type) a ≡ Some c → (n : ℕ) × (c ≡ t.Pt n))
        → ((c : ValueType) → option_map (λ (v : ScopeVariable). v.type) b ≡ Some c → (n : ℕ) × (c ≡ t.Pt n))
        → option_map (λ (v : ScopeVariable). v.type) (option_or a b) ≡ Some type → (n : ℕ) × (type ≡ t.Pt n)
    of k type None b f g h = g type h
    of k type (Some v) b f g h = f type h

    one : (is_single : Bool) (n : ℕ) (test : Bool) (c : ValueType)
        → option_map (λ (v : ScopeVariable). v.type) (if test then Some (record { number = number; type = t.Pt n; is_single = is_single }) else None) ≡ Some c → (n : ℕ) × (c ≡ t.Pt n)
    one is_single n true c h = (n, sym (some_same (t.Pt n) c h))
    one is_single n false c h = absurd (none_some c h)

    by : (is_single : Bool) (o : Option ℕ) → Points m (record s { variables = with_foreach_variable s.variables number is_single o })
    by is_single None = f
    by is_single (Some n) = λ k type z h.
        of k type (in_scope s k) _ (λ c i. f k c z i) (one is_single n (number == k))
        (sym (ap (option_map (λ (v : ScopeVariable). v.type)) (find-append (λ (v : ScopeVariable). v.number == k) s.variables
        (record { number = number; type = t.Pt n; is_single = is_single } ∷ []))) ∙ h)

-- ---- references

-- the second type is the first one, or neither is a reference
abbrev pub Alike : ValueType → ValueType → Type 0
Alike r u = (is_reference r ≡ true → u ≡ r) × (Plain r → Plain u)

exact : (r u : ValueType) → u ≡ r → Alike r u
exact r u h = (λ k. h, λ k. subst Plain (sym h) k)

neither : (r u : ValueType) → Plain r → Plain u → Alike r u
neither r u h k = (λ z. absurd (true_false (sym z ∙ h)), λ z. k)

selected : (p : ProgramView) (u : ValueType) (name : ℕ) (r : ValueType) → select_type p u name ≡ Some r → (is_reference u ≡ true) × (static_field_type p name u ≡ r)
selected p (t.Class c l) name r z = let q = mapped (read_through l) (named_field_type p c name) r z in (refl, ap (λ o. option_map_or (read_through l) o t.Void) q.1 ∙ q.2)
selected p _ name r z = absurd (none_some r z)

element_plain : (u : ValueType) → Plain u → Plain (static_element_type u)
element_plain (t.Pt n) h = refl
element_plain (t.Grid x n l) h = absurd (true_false h)
element_plain _ h = refl

indexed : (u x : ValueType) (ts : List ValueType) (r : ValueType) → index_type u ts ≡ Some r → Alike u x → Alike r (static_element_type x)
indexed (t.Pt n) x (t.Int ∷ []) r z f = neither r (static_element_type x) (subst Plain (some_same t.Int r z) refl) (element_plain x (f.1 refl))
indexed (t.Grid e n l) x ts r z f = exact r (static_element_type x) (ap static_element_type (f.0 refl) ∙ by ts z)
  where
    by : (ts : List ValueType) → index_type (t.Grid e n l) ts ≡ Some r → read_through l e ≡ r
    by (t.Pt k ∷ []) z = (where_some (n == k) (read_through l e) r z).1
    by ts z = (where_some (all_ints ts && (length ts == n)) (read_through l e) r z).1
indexed _ x ts r z f = absurd (none_some r z)

something : {A : Type 0} (r : ValueType) → t.Void ≡ r → is_void r ≡ false → A
something r z h = absurd (true_false (ap is_void z ∙ h))

member_alike : (b : BuiltIn) (u x : ValueType) (ts : List ValueType) (r : ValueType) → member_type b u ts ≡ Some r → is_void r ≡ false → Alike u x → Alike r (built_in_type (Some b) x)
member_alike Size (t.Rc n) x [] r z v f = neither r _ (subst Plain (some_same t.Int r z) refl) refl
member_alike Size (t.Dm n) x [] r z v f = neither r _ (subst Plain (some_same t.Int r z) refl) refl
member_alike Min (t.Rc n) x [] r z v f = neither r _ (subst Plain (some_same (t.Pt n) r z) refl) refl
member_alike Max (t.Rc n) x [] r z v f = neither r _ (subst Plain (some_same (t.Pt n) r z) refl) refl
member_alike Contains (t.Rc n) x (t.Pt k ∷ []) r z v f = neither r _ (subst Plain (where_some (n == k) t.Boolean r z).1 refl) refl
member_alike Contains (t.Dm n) x (t.Pt k ∷ []) r z v f = neither r _ (subst Plain (where_some (n == k) t.Boolean r z).1 refl) refl
member_alike Domain (t.Grid e n l) x [] r z v f = neither r _ (subst Plain (some_same (t.Rc n) r z) refl) refl
member_alike Restrict (t.Grid e n l) x (t.Rc k ∷ []) r z v f = exact r x (f.0 refl ∙ (where_some (n == k) (t.Grid e n l) r z).1)
member_alike Translate (t.Grid e n l) x (t.Pt k ∷ []) r z v f = exact r x (f.0 refl ∙ (where_some (n == k) (t.Grid e n l) r z).1)
member_alike Slice (t.Grid e n l) x (t.Int ∷ t.Int ∷ []) r z v f = exact r (slice_type x) (ap slice_type (f.0 refl) ∙ (where_some (nat_lt 1 n) (t.Grid e (n - 1) l) r z).1)
member_alike Copy u x (y ∷ []) r z v f = something r (where_some _ t.Void r z).1 v
member_alike Exchange u x (y ∷ []) r z v f = something r (where_some _ t.Void r z).1 v
member_alike Delete t.Region x [] r z v f = something r (some_same t.Void r z) v
member_alike _ u x ts r z v f = absurd (none_some r z)

-- behind no object a member of the language
built_in_is : (p : ProgramView) (name : ℕ) (u : ValueType) (b : BuiltIn) → built_in p name ≡ Some b → is_object u ≡ false → static_member_type p name u ≡ built_in_type (Some b) u
built_in_is p name (t.Class c l) b z k = absurd (true_false k)
built_in_is p name t.Int b z k = ap (λ o. built_in_type o t.Int) z
built_in_is p name t.Long b z k = ap (λ o. built_in_type o t.Long) z
built_in_is p name t.Boolean b z k = ap (λ o. built_in_type o t.Boolean) z
built_in_is p name (t.Pt n) b z k = ap (λ o. built_in_type o (t.Pt n)) z
built_in_is p name (t.Rc n) b z k = ap (λ o. built_in_type o (t.Rc n)) z
built_in_is p name (t.Dm n) b z k = ap (λ o. built_in_type o (t.Dm n)) z
built_in_is p name t.Region b z k = ap (λ o. built_in_type o t.Region) z
built_in_is p name (t.Grid x n l) b z k = ap (λ o. built_in_type o (t.Grid x n l)) z
built_in_is p name t.Null b z k = ap (λ o. built_in_type o t.Null) z
built_in_is p name t.Void b z k = ap (λ o. built_in_type o t.Void) z

plain_object : (x : ValueType) → Plain x → is_object x ≡ false
plain_object (t.Class c l) h = absurd (true_false h)
plain_object _ h = refl

pub no_object : (u x : ValueType) → is_object u ≡ false → Alike u x → is_object x ≡ false
no_object (t.Class c l) x k f = absurd (true_false k)
no_object (t.Grid e n l) x k f = ap is_object (f.0 refl)
no_object _ x k f = plain_object x (f.1 refl)

module _ (p : ProgramView) (m : NumberedMethod) (s : ScopeContents) (this : s.this_class ≡ this_of m) (points : Points m s) where
  never_called : (o : Option NumberedMethod) (ts : Option (List ValueType)) (r : ValueType) → operand (called o ts) ≡ Some r → ⊥
  never_called o None r h = none_some r h
  never_called None (Some ts) r h = none_some r h
  never_called (Some c) (Some ts) r h = none_some r h

  literal_is : (a r : ValueType) → operand (plain (Some a)) ≡ Some r → Alike r a
  literal_is a r z = exact r a (some_same a r (no_call (plain (Some a)) r z).1)

  this_is : (o : Option ℕ) (r : ValueType) → operand (plain (option_map (λ c. t.Class c false) o)) ≡ Some r → option_map_or (λ c. t.Class c false) o t.Void ≡ r
  this_is None r h = absurd (none_some r h)
  this_is (Some c) r h = some_same (t.Class c false) r (no_call (plain (Some (t.Class c false))) r h).1

  variable_is : (number : ℕ) (d : Declaration) (r : ValueType) → may_use m number d ≡ true → operand (plain (declared_type s number d)) ≡ Some r → Alike r (used_type (λ k. 1) number d)
  variable_is number (t.Typed is_single type) r k z = literal_is type r z
  variable_is number t.Foreach r k z = let q = points number r k (no_call (plain (declared_type s number t.Foreach)) r z).1 in neither r (t.Pt 1) (subst Plain (sym q.1) refl) refl

  field_is : (o : Option ValueType) (r : ValueType) → operand (plain o) ≡ Some r → unwrap_or o t.Void ≡ r
  field_is o r z = ap (λ x. unwrap_or x t.Void) (no_call (plain o) r z).1

  -- an expression inside another has in the text its type, where that or this is a reference
  pub in_text : (x : NumberedExp) → IsWritten (uses_of m) x → (r : ValueType) → operand_type p s x ≡ Some r → Alike r (syntactic_type p (this_of m) x)
  in_text (e.Int at n) k r z = literal_is t.Int r z
  in_text (e.Long at n) k r z = literal_is t.Long r z
  in_text (e.Truth at b) k r z = literal_is t.Boolean r z
  in_text (e.Null at) k r z = literal_is t.Null r z
  in_text (e.ThisProc at) k r z = literal_is t.Int r z
  in_text (e.NumProcs at) k r z = literal_is t.Int r z
  in_text (e.This at) k r z = exact r _ (this_is (this_of m) r (subst (λ o. operand (plain (option_map (λ c. t.Class c false) o)) ≡ Some r) this z))
  in_text (e.Variable at v) k r z = variable_is v.number v.declared r k z
  in_text (e.OwnField at field) k r z =
      exact r _ (field_is (option_map as_global (option_and_then (λ c. field_type p c field) (this_of m))) r
      (subst (λ o. operand (plain (option_map as_global (option_and_then (λ c. field_type p c field) o))) ≡ Some r) this z))
  in_text (e.Call at method args) k r z = absurd (never_called (slice_get p.methods method) (operands p s args) r z)
  in_text (e.OwnCall at method args) k r z = absurd (never_called (slice_get p.methods method) (operands p s args) r z)
  in_text (e.Point at parts) k r z =
      let q = and_then point_literal (operands p s parts) r (no_call (plain (option_and_then point_literal (operands p s parts))) r z).1 in
      neither r _ (subst Plain (where_some (all_ints q.0) (t.Pt (length q.0)) r q.2).1 refl) refl
  in_text (e.Rect at ranges) k r z =
      let o = option_and_then (rect_literal (range_count ranges)) (bounds p s ranges) in
      let q = and_then (rect_literal (range_count ranges)) (bounds p s ranges) r (no_call (plain o) r z).1 in
      neither r _ (rects_plain (range_count ranges) q.0 r q.2) refl
  in_text (e.Unary at op x) k r z =
      let q = and_then (unary_type op) (operand_type p s x) r (no_call (plain (option_and_then (unary_type op) (operand_type p s x))) r z).1 in
      let f = unary_plain op q.0 r q.2 in
      neither r _ f.1 ((in_text x k q.0 q.1).1 f.0)
  in_text (e.Binary at op x y) k r z =
      let q = both_there (binary_type op) (operand_type p s x) (operand_type p s y) r (no_call (plain (and_then_both (operand_type p s x) (operand_type p s y) (binary_type op))) r z).1 in
      neither r _ (row_plain (row_of op) q.0 q.1 r q.4) (operator_plain op q.0 q.1 r _ (syntactic_type p (this_of m) y) q.4 (in_text x k.0 q.0 q.2).1)
  in_text (e.Cast at to x) k r z =
      let cast = λ (u : ValueType). where_true (casts to.type u) to.type in
      let q = and_then cast (operand_type p s x) r (no_call (plain (option_and_then cast (operand_type p s x))) r z).1 in
      exact r _ (where_some (casts to.type q.0) to.type r q.2).1
  in_text (e.Select at x name) k r z =
      let select = λ (u : ValueType). select_type p u name in
      let q = and_then select (operand_type p s x) r (no_call (plain (option_and_then select (operand_type p s x))) r z).1 in
      let f = selected p q.0 name r q.2 in
      exact r _ (ap (static_field_type p name) ((in_text x k q.0 q.1).0 f.0) ∙ f.1)
  in_text (e.Member at x name args) k r z =
      let q = member_there p (operand_type p s x) (operands p s args) name r z in
      let f = in_text x k.0 q.0 q.2 in
      let u = syntactic_type p (this_of m) x in
      subst (λ y. Alike r y) (sym (built_in_is p name u q.4 q.5 (no_object q.0 u q.7 f))) (member_alike q.4 q.0 u q.1 r q.6 q.8 f)
  in_text (e.Index at x parts) k r z =
      let q = both_there index_type (operand_type p s x) (operands p s parts) r (no_call (plain (and_then_both (operand_type p s x) (operands p s parts) index_type)) r z).1 in
      indexed q.0 _ q.1 r q.4 (in_text x k.0 q.0 q.2)
