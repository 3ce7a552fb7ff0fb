-- The checked types of expressions don't depend on annotations.
use Rattle.std.proofs.Common.{◌≡◌, ℕ, Bool, false, List, [], ◌∷◌, map, slice_get, Option, Some, None, option_map, option_and_then, is_some, refl, ap, ap₂, ◌∙◌}
use Rattle.ti_lang.specs.Program.Types.{ValueType, Declaration, Typed, Foreach}
use Rattle.ti_lang.specs.Program.Types as t
use Rattle.ti_lang.specs.Program.Expressions.{NumberedExp, NumberedExps, NumberedRange, NumberedRanges}
use Rattle.ti_lang.specs.Program.Expressions as e
use Rattle.ti_lang.specs.Program.Classes.{NumberedParam, NumberedParams, MainArgs, Params, NumberedMethod, ProgramView}
use Rattle.ti_lang.specs.Program.Scope.{ScopeVariable, ScopeContents}
use Rattle.ti_lang.specs.Typing.Kinds.{where_true, as_global}
use Rattle.ti_lang.specs.Typing.Operators.{unary_type, binary_type}
use Rattle.ti_lang.specs.Typing.BuiltIn.{BuiltIn, member_type}
use Rattle.ti_lang.specs.Typing.Declared.{in_scope, declared_type, field_type, named_field_type, types_of}
use Rattle.ti_lang.specs.Typing.Fits.{casts}
use Rattle.ti_lang.specs.Typing.Expressions as typing
use Rattle.ti_lang.specs.Typing.Expressions.{plain, operand, and_then_both, append_both, one, point_literal, rect_literal, index_type, select_type, takes, call_type, called, member_given, member_typing, type_result, operands, bound_types, bounds, operand_type}
use Rattle.ti_blame.specs.Marks.{Marks}
use Rattle.ti_infer.specs.Marked.{marked_declaration, marked_exp, marked_exps, marked_range, marked_ranges, marked_param, marked_params, marked_method, marked}
use Rattle.ti_infer.proofs.Same.{result_same, method_same, instance_same, built_in_same, count_same}

-- two scopes tell the same of types
pub record SameTypes (s r : ScopeContents) : Type 0 where
  pub this : s.this_class ≡ r.this_class
  pub types : (number : ℕ) → option_map (λ (v : ScopeVariable). v.type) (in_scope s number) ≡ option_map (λ (v : ScopeVariable). v.type) (in_scope r number)

declared_known : (s r : ScopeContents) (number : ℕ) (b : Bool) (d : Declaration) → SameTypes s r → declared_type s number (marked_declaration b d) ≡ declared_type r number d
declared_known s r number b (Typed is_single type) h = refl
declared_known s r number b Foreach h = h.types number

-- ---- calls

pub types_known : (marks : Marks) (ws : List NumberedParam) → types_of (map (marked_param marks) ws) ≡ types_of ws
types_known marks [] = refl
types_known marks (w ∷ ws) = ap (λ ts. w.ty.type ∷ ts) (types_known marks ws)

takes_known : (marks : Marks) (ws : NumberedParams) (ts : List ValueType) → takes (marked_params marks ws) ts ≡ takes ws ts
takes_known marks MainArgs ts = refl
takes_known marks (Params ws) ts = ap (typing.all_fit ts) (types_known marks ws)

call_known : (marks : Marks) (o : Option NumberedMethod) (ts : List ValueType) → call_type (option_map (marked_method marks) o) ts ≡ call_type o ts
call_known marks None ts = refl
call_known marks (Some m) ts = ap₂ where_true (takes_known marks m.params ts) (result_same marks m)

there_known : (marks : Marks) (o : Option NumberedMethod) → is_some (option_map (marked_method marks) o) ≡ is_some o
there_known marks None = refl
there_known marks (Some m) = refl

called_known : (marks : Marks) (o : Option NumberedMethod) (ts : Option (List ValueType)) → called (option_map (marked_method marks) o) ts ≡ called o ts
called_known marks o None = refl
called_known marks o (Some ts) = λ j. record { type = call_known marks o ts j; is_call = there_known marks o j }

given_known : (marks : Marks) (p : ProgramView) (x : ValueType) (name : ℕ) (ts : List ValueType) → member_given (marked marks p) x name ts ≡ member_given p x name ts
given_known marks p (t.Class class is_local) name ts = ap (λ o. called o (Some ts)) (instance_same marks p class name) ∙ called_known marks _ (Some ts)
given_known marks p t.Int name ts = ap (λ o. plain (option_and_then (λ (b : BuiltIn). member_type b t.Int ts) o)) (built_in_same marks p name)
given_known marks p t.Long name ts = ap (λ o. plain (option_and_then (λ (b : BuiltIn). member_type b t.Long ts) o)) (built_in_same marks p name)
given_known marks p t.Boolean name ts = ap (λ o. plain (option_and_then (λ (b : BuiltIn). member_type b t.Boolean ts) o)) (built_in_same marks p name)
given_known marks p (t.Pt n) name ts = ap (λ o. plain (option_and_then (λ (b : BuiltIn). member_type b (t.Pt n) ts) o)) (built_in_same marks p name)
given_known marks p (t.Rc n) name ts = ap (λ o. plain (option_and_then (λ (b : BuiltIn). member_type b (t.Rc n) ts) o)) (built_in_same marks p name)
given_known marks p (t.Dm n) name ts = ap (λ o. plain (option_and_then (λ (b : BuiltIn). member_type b (t.Dm n) ts) o)) (built_in_same marks p name)
given_known marks p t.Region name ts = ap (λ o. plain (option_and_then (λ (b : BuiltIn). member_type b t.Region ts) o)) (built_in_same marks p name)
given_known marks p (t.Grid u n l) name ts = ap (λ o. plain (option_and_then (λ (b : BuiltIn). member_type b (t.Grid u n l) ts) o)) (built_in_same marks p name)
given_known marks p t.Null name ts = ap (λ o. plain (option_and_then (λ (b : BuiltIn). member_type b t.Null ts) o)) (built_in_same marks p name)
given_known marks p t.Void name ts = ap (λ o. plain (option_and_then (λ (b : BuiltIn). member_type b t.Void ts) o)) (built_in_same marks p name)

member_known : (marks : Marks) (p : ProgramView) (x : Option ValueType) (name : ℕ) (ts : Option (List ValueType)) → member_typing (marked marks p) x name ts ≡ member_typing p x name ts
member_known marks p (Some x) name (Some ts) = given_known marks p x name ts
member_known marks p (Some x) name None = refl
member_known marks p None name ts = refl

pub select_known : (marks : Marks) (p : ProgramView) (x : ValueType) (name : ℕ) → select_type (marked marks p) x name ≡ select_type p x name
unfolding named_field_type
select_known marks p x name = by x
  where
    by : (x : ValueType) → select_type (marked marks p) x name ≡ select_type p x name
    by (t.Class class is_local) = refl
    by t.Int = refl
    by t.Long = refl
    by t.Boolean = refl
    by (t.Pt n) = refl
    by (t.Rc n) = refl
    by (t.Dm n) = refl
    by t.Region = refl
    by (t.Grid element dim is_local) = refl
    by t.Null = refl
    by t.Void = refl

selected : (marks : Marks) (p : ProgramView) (x : Option ValueType) (name : ℕ) → option_and_then (λ y. select_type (marked marks p) y name) x ≡ option_and_then (λ y. select_type p y name) x
selected marks p None name = refl
selected marks p (Some x) name = select_known marks p x name

-- ---- expressions

module _ (marks : Marks) (p : ProgramView) (singles : ℕ → Bool) (s r : ScopeContents) (same : SameTypes s r) where
  mutual
    pub known_same : (x : NumberedExp) → type_result (marked marks p) s (marked_exp singles x) ≡ type_result p r x
    known_same (e.This at) = ap (λ o. plain (option_map (λ c. t.Class c false) o)) same.this
    known_same (e.Variable at v) = ap plain (declared_known s r v.number (singles v.number) v.declared same)
    known_same (e.OwnField at field) = ap (λ o. plain (option_map as_global (option_and_then (λ c. field_type p c field) o))) same.this
    known_same (e.Call at method args) = ap₂ called (method_same marks p method) (operands_same args) ∙ called_known marks (slice_get p.methods method) _
    known_same (e.OwnCall at method args) = ap₂ called (method_same marks p method) (operands_same args) ∙ called_known marks (slice_get p.methods method) _
    known_same (e.Point at parts) = ap (λ o. plain (option_and_then point_literal o)) (operands_same parts)
    known_same (e.Rect at ranges) = ap₂ (λ n o. plain (option_and_then (rect_literal n) o)) (count_same singles ranges) (bounds_same ranges)
    known_same (e.Unary at op a) = ap (λ k. plain (option_and_then (unary_type op) (operand k))) (known_same a)
    known_same (e.Binary at op a b) = ap₂ (λ k l. plain (and_then_both (operand k) (operand l) (binary_type op))) (known_same a) (known_same b)
    known_same (e.Cast at to a) = ap (λ k. plain (option_and_then (λ y. where_true (casts to.type y) to.type) (operand k))) (known_same a)
    known_same (e.Select at a name) = ap plain (selected marks p _ name ∙ ap (λ k. option_and_then (λ y. select_type p y name) (operand k)) (known_same a))
    known_same (e.Member at a name args) = member_known marks p _ name _ ∙ ap₂ (λ k o. member_typing p (operand k) name o) (known_same a) (operands_same args)
    known_same (e.Index at a parts) = ap₂ (λ k o. plain (and_then_both (operand k) o index_type)) (known_same a) (operands_same parts)
    known_same _ = refl

    pub operands_same : (xs : NumberedExps) → operands (marked marks p) s (marked_exps singles xs) ≡ operands p r xs
    operands_same e.NoExp = refl
    operands_same (e.MoreExp a rest) = ap₂ (λ k o. append_both (one (operand k)) o) (known_same a) (operands_same rest)

    bound_same : (x : NumberedRange) → bound_types (marked marks p) s (marked_range singles x) ≡ bound_types p r x
    bound_same (e.Plain low high) = ap₂ (λ k l. append_both (one (operand k)) (one (operand l))) (known_same low) (known_same high)
    bound_same (e.Stepped low high step) = ap₂ append_both (ap₂ (λ k l. append_both (one (operand k)) (one (operand l))) (known_same low) (known_same high)) (ap (λ k. one (operand k)) (known_same step))

    pub bounds_same : (xs : NumberedRanges) → bounds (marked marks p) s (marked_ranges singles xs) ≡ bounds p r xs
    bounds_same e.NoRange = refl
    bounds_same (e.MoreRange x rest) = ap₂ append_both (bound_same x) (bounds_same rest)

  pub operand_same : (x : NumberedExp) → operand_type (marked marks p) s (marked_exp singles x) ≡ operand_type p r x
  operand_same x = ap operand (known_same x)
