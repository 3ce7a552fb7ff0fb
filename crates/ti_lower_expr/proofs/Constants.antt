-- Proves that the constants of an expression's code are those of the source and zeros of types, by lemmas on pieces of code.
use Rattle.std.proofs.Common.{◌≡◌, ◌⊎◌, inl, inr, ℕ, zero, suc, Bool, true, false, if◌then◌else◌, IsTrue, nat_le, List, [], ◌∷◌, ◌++◌, Option, Some, None, refl, sym, subst}
use Rattle.std.specs.Prelude.{All}
use Rattle.std.specs.List.{list_all}
use Rattle.std.proofs.lemmas.Bool.{false≢true, and_parts, leb-true}
use Rattle.std.proofs.lemmas.List.Elements.{All-nil, All-cons, All-append}
use Rattle.ti_base.specs.declared.place.Place.{Place}
use Rattle.ti_base.specs.declared.value.Value.TheVariants as v
use Rattle.ti_base.specs.Points.{IsDim}
use Rattle.ti_base.specs.Forms.{is_dim}
use Rattle.ti_base.specs.Rects.{empty_rect}
use Rattle.ti_syntax.specs.declared.tree.exprs.UnaryOperator.{UnaryOperator}
use Rattle.ti_syntax.specs.declared.tree.exprs.UnaryOperator.TheVariants as un
use Rattle.ti_lang.specs.Program.Types.{ValueType, VariableUse, Declaration, Typed, Foreach}
use Rattle.ti_lang.specs.Program.Types as t
use Rattle.ti_lang.specs.Program.Expressions.{NumberedExp, NumberedExps, NumberedRange, NumberedRanges}
use Rattle.ti_lang.specs.Program.Expressions as e
use Rattle.ti_lang.specs.Program.Classes.{ProgramView}
use Rattle.ti_lang.specs.Typing.Kinds.{is_local, is_point_type}
use Rattle.ti_lang.specs.Typing.Called.{member_called}
use Rattle.ti_lang.specs.Typing.TextTypes.{syntactic_type, how_many}
use Rattle.ti_lang.specs.Meaning.Held.{Held, Plain, Dm, no_value, zero_of, zero_point}
use Rattle.ti_lang.specs.Meaning.Scoping.{zero_declared}
use Rattle.ti_code.specs.declared.instr.Instr.{Instr}
use Rattle.ti_code.specs.declared.instr.Instr.TheVariants as i
use Rattle.ti_code.specs.declared.instr.Operation.{Operation}
use Rattle.ti_code.specs.declared.instr.ValueMember.{ValueMember}
use Rattle.ti_code.specs.Forms.{IsFormedInstr}
use Rattle.ti_lower_expr.specs.Slots.{Name, find_slot, has_this}
use Rattle.ti_lower_expr.specs.declared.kinds.OperandClass.{OperandClass}
use Rattle.ti_lower_expr.specs.declared.kinds.OperandClass.TheVariants.{Points}
use Rattle.ti_lower_expr.specs.declared.kinds.StaticRepr.{StaticRepr}
use Rattle.ti_lower_expr.specs.declared.kinds.StaticRepr.TheVariants as known
use Rattle.ti_lower_expr.specs.declared.kinds.ShortCircuit.{ShortCircuit}
use Rattle.ti_lower_expr.specs.declared.kinds.ShortCircuit.TheVariants.{Never, Where}
use Rattle.ti_lower_expr.specs.Knowing.{known_of}
use Rattle.ti_lower_expr.specs.Coding.{constant, load_variable, load_this, conversion, local_test, unary_code, operation_in, short_circuit_of, jump_where, lazy_code, operator_code, pops, kind_code, shown_member, index_code, rect_instr, how_many_ranges, kind_of_ranges, code_of, code_of_all, code_of_range, code_of_ranges}

-- ---- constants

-- no point and no domain is in it
abbrev pub is_simple : Instr → Bool
is_simple (i.Const (v.Pt p)) = false
is_simple (i.Const (v.Rc r)) = false
is_simple (i.EmptyDom dim) = false
is_simple other = true

-- an instruction that code may have: a point or a domain in it is the zero of a type
abbrev pub IsLowered : Instr → Type 0
IsLowered x = (is_simple x ≡ true) ⊎ ((d : Declaration) × (x ≡ constant (zero_declared d)))

-- each of these instructions is one
pub record AllCome (is : List Instr) : Type 0 where
  pub each : All IsLowered is

-- ---- they are in their form

simple_formed : (x : Instr) → is_simple x ≡ true → IsFormedInstr x
simple_formed (i.Const (v.Pt p)) e = absurd (false≢true e)
simple_formed (i.Const (v.Rc r)) e = absurd (false≢true e)
simple_formed (i.EmptyDom dim) e = absurd (false≢true e)
simple_formed x e = tt

some_dim : (n : ℕ) → is_dim n ≡ true → IsDim n
some_dim n e = let parts = and_parts (nat_le 1 n) (nat_le n 3) e in (leb-true 1 n parts.0, leb-true n 3 parts.1)

-- where the dimension is one, so is the value
where_formed : (n : ℕ) (h : Held) → (IsDim n → IsFormedInstr (constant h)) → IsFormedInstr (constant (if is_dim n then h else no_value))
where_formed n h f = by (is_dim n) refl
  where
    by : (b : Bool) → is_dim n ≡ b → IsFormedInstr (constant (if b then h else no_value))
    by true e = f (some_dim n e)
    by false e = tt

zero_formed : (type : ValueType) → IsFormedInstr (constant (zero_of type))
zero_formed (t.Pt n) = where_formed n (Plain (v.Pt (zero_point n))) (λ d. record { dim = d; second = λ l. refl; third = λ l. refl })
zero_formed (t.Rc n) = where_formed n (Plain (v.Rc (empty_rect n))) (λ d. (d, inl refl))
zero_formed (t.Dm n) = where_formed n (Dm n []) (λ d. d)
zero_formed type = tt

declared_formed : (d : Declaration) → IsFormedInstr (constant (zero_declared d))
declared_formed (Typed is_single type) = zero_formed type
declared_formed Foreach = tt

-- what code may have is in its form
pub formed_from_comes : (x : Instr) → IsLowered x → IsFormedInstr x
formed_from_comes x (inl e) = simple_formed x e
formed_from_comes x (inr z) = subst IsFormedInstr (sym z.1) (declared_formed z.0)

-- ---- pieces of code

all_simple : (is : List Instr) → IsTrue (list_all is_simple is) → All IsLowered is
all_simple [] e = All-nil IsLowered
all_simple (x ∷ xs) e = let parts = and_parts (is_simple x) (list_all is_simple xs) e in All-cons IsLowered x xs (inl parts.0) (all_simple xs parts.1)

pub simple_come : {is : List Instr} → IsTrue (list_all is_simple is) → AllCome is
simple_come {is} e = record { each = all_simple is e }

pub both_come : {xs ys : List Instr} → AllCome xs → AllCome ys → AllCome (xs ++ ys)
both_come {xs} {ys} f g = record { each = All-append IsLowered xs ys f.each g.each }

-- an instruction comes first
pub next_comes : {x : Instr} {xs : List Instr} → IsLowered x → AllCome xs → AllCome (x ∷ xs)
next_comes {x} {xs} c f = record { each = All-cons IsLowered x xs c f.each }

-- a simple one
pub then_come : {x : Instr} {xs : List Instr} → is_simple x ≡ true → AllCome xs → AllCome (x ∷ xs)
then_come {x} {xs} e f = record { each = All-cons IsLowered x xs (inl e) f.each }

-- ---- instructions of expressions

pub loaded_comes : (o : Option ℕ) (x : VariableUse) → IsLowered (load_variable o x)
loaded_comes (Some k) x = inl refl
loaded_comes None x = inr (x.declared, refl)

pub own_simple : (has : Bool) → is_simple (load_this has) ≡ true
own_simple true = refl
own_simple false = refl

rect_simple : (kind : OperandClass) (n : ℕ) (at : Place) → is_simple (rect_instr kind n at) ≡ true
rect_simple Points (suc zero) at = refl
rect_simple kind n at = refl

jump_simple : (where_is : Bool) (target : ℕ) → is_simple (jump_where where_is target) ≡ true
jump_simple true target = refl
jump_simple false target = refl

pub conversion_comes : (at : Place) (type : ValueType) (k : StaticRepr) → AllCome (conversion at type k)
conversion_comes at t.Long known.Long = simple_come refl
conversion_comes at t.Long k = simple_come refl
conversion_comes at t.Int known.Int = simple_come refl
conversion_comes at t.Int k = simple_come refl
conversion_comes at (t.Class class is_local) known.Object = simple_come refl
conversion_comes at (t.Class class is_local) k = simple_come refl
conversion_comes at (t.Grid element dim is_local) known.Grid = simple_come refl
conversion_comes at (t.Grid element dim is_local) k = simple_come refl
conversion_comes at type k = simple_come refl

local_comes : (at : Place) (is : Bool) → AllCome (local_test at is)
local_comes at true = simple_come refl
local_comes at false = simple_come refl

alone_comes : (op : UnaryOperator) → AllCome (unary_code op)
alone_comes un.Minus = simple_come refl
alone_comes un.Plus = simple_come refl
alone_comes un.Not = simple_come refl
alone_comes un.Complement = simple_come refl

index_comes : (is : Bool) (n : ℕ) (at : Place) → AllCome (index_code is n at)
index_comes true n at = simple_come refl
index_comes false n at = simple_come refl

pub pops_come : (n : ℕ) → AllCome (pops n)
pops_come zero = simple_come refl
pops_come (suc n) = then_come refl (pops_come n)

kind_comes : (m : Option ValueMember) (n : ℕ) (at : Place) → AllCome (kind_code m n at)
kind_comes (Some k) n at = simple_come refl
kind_comes None n at = both_come (pops_come (suc n)) (simple_come refl)

-- ---- the code of expressions

lazy_comes : (left : Bool) (at : ℕ) (right : ℕ → List Instr) → ((from : ℕ) → AllCome (right from)) → AllCome (lazy_code left at right)
lazy_comes left at right f = then_come (jump_simple left _) (both_come (f _) (simple_come refl))

operator_comes : (l : ShortCircuit) (name : Operation) (p : Place) (at : ℕ) (right : ℕ → List Instr) → ((from : ℕ) → AllCome (right from)) → AllCome (operator_code l name p at right)
operator_comes Never name p at right f = both_come (f at) (simple_come refl)
operator_comes (Where left) name p at right f = lazy_comes left at right f

module _ (program : ProgramView) (this : Option ℕ) (names : List Name) where
  mutual
    pub code_comes : (x : NumberedExp) (at : ℕ) → AllCome (code_of program this names x at)
    code_comes (e.This p) at = then_come (own_simple (has_this names)) (simple_come refl)
    code_comes (e.Variable p x) at = next_comes (loaded_comes (find_slot x names) x) (simple_come refl)
    code_comes (e.OwnField p field) at = then_come (own_simple (has_this names)) (simple_come refl)
    code_comes (e.Point p parts) at = both_come (all_come parts at) (simple_come refl)
    code_comes (e.Rect p ranges) at =
        both_come (ranges_come ranges at) (then_come (rect_simple (kind_of_ranges program this ranges) (how_many_ranges ranges) p) (simple_come refl))
    code_comes (e.Unary p op x) at = both_come (code_comes x at) (alone_comes op)
    code_comes (e.Binary p op x y) at =
        both_come (code_comes x at) (operator_comes (short_circuit_of op) (operation_in program this op x y) p _ (code_of program this names y) (code_comes y))
    code_comes (e.Cast p type x) at =
        both_come (code_comes x at) (both_come (conversion_comes p type.type (known_of program this x)) (local_comes p (is_local type.type)))
    code_comes (e.Select p x name) at = both_come (code_comes x at) (simple_come refl)
    code_comes (e.Member p x name args) at =
        both_come (code_comes x at) (both_come (all_come args _) (kind_comes (shown_member (member_called program this x name)) (how_many args) p))
    code_comes (e.Index p x parts) at =
        both_come (code_comes x at) (both_come (all_come parts _) (index_comes (is_point_type (syntactic_type program this x)) (how_many parts) p))
    code_comes x at = simple_come refl

    pub all_come : (xs : NumberedExps) (at : ℕ) → AllCome (code_of_all program this names xs at)
    all_come e.NoExp at = simple_come refl
    all_come (e.MoreExp x xs) at = both_come (code_comes x at) (all_come xs _)

    range_comes : (r : NumberedRange) (at : ℕ) → AllCome (code_of_range program this names r at)
    range_comes (e.Plain low high) at = both_come (code_comes low at) (both_come (code_comes high _) (simple_come refl))
    range_comes (e.Stepped low high step) at = both_come (code_comes low at) (both_come (code_comes high _) (code_comes step _))

    ranges_come : (rs : NumberedRanges) (at : ℕ) → AllCome (code_of_ranges program this names rs at)
    ranges_come e.NoRange at = simple_come refl
    ranges_come (e.MoreRange r rs) at = both_come (range_comes r at) (ranges_come rs _)
