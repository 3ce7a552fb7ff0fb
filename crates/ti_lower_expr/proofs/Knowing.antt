-- Proves that what is statically known of a value holds.
use Rattle.std.proofs.Common.{◌≡◌, ℕ, ℤ, pos, ◌-ℤ◌, neg_ℤ, ◌==◌, ◌&&◌, ◌||◌, not, bit_and, bit_or, bit_xor, Bool, true, false, if◌then◌else◌, List, Option, Some, None, refl, sym, subst}
use Rattle.std.specs.Int.{Width, w32, w64}
use Rattle.ti_base.specs.declared.place.Place.{Place}
use Rattle.ti_base.specs.declared.point.Point.{Point}
use Rattle.ti_base.specs.declared.fault.FaultKind.{FaultKind}
use Rattle.ti_base.specs.declared.value.Id.{Id}
use Rattle.ti_base.specs.declared.value.Value.{Value}
use Rattle.ti_base.specs.declared.value.Value.TheVariants as v
use Rattle.ti_base.specs.declared.entry.Answer.{Answer}
use Rattle.ti_base.specs.PointSets as sets
use Rattle.ti_base.specs.WholeNumbers.{negation, shift_left, shift_right, shift_right_unsigned}
use Rattle.ti_syntax.specs.declared.tree.exprs.BinaryOperator.{BinaryOperator}
use Rattle.ti_syntax.specs.declared.tree.exprs.BinaryOperator.TheVariants as op
use Rattle.ti_syntax.specs.declared.tree.exprs.UnaryOperator.{UnaryOperator}
use Rattle.ti_syntax.specs.declared.tree.exprs.UnaryOperator.TheVariants as un
use Rattle.ti_lang.specs.Program.Types.{ValueType, VariableUse, Declaration, Typed, Foreach}
use Rattle.ti_lang.specs.Program.Types as t
use Rattle.ti_lang.specs.Program.Expressions.{NumberedExp}
use Rattle.ti_lang.specs.Program.Expressions as e
use Rattle.ti_lang.specs.Program.Scope.{this_of}
use Rattle.ti_lang.specs.Typing.BuiltIn as b
use Rattle.ti_lang.specs.Typing.Kinds.{same_truth, same_type, is_point_type}
use Rattle.ti_lang.specs.Typing.Called.{member_called}
use Rattle.ti_lang.specs.Typing.TextTypes.{used_type}
use Rattle.ti_lang.specs.Meaning.Comp.{CompResult, Gives, Asks, Fails, Comp, ◌>>=◌, bind_result, gives, guard, found_or}
use Rattle.ti_lang.specs.Meaning.Held.{Held, Plain, Dm, no_value, as_type, zero_of}
use Rattle.ti_lang.specs.Meaning.Conversions.{converted, to_domain, of_domains}
use Rattle.ti_lang.specs.Meaning.Evaluation.{eval, eval_all, eval_numbers, kept_local, with_right}
use Rattle.ti_lang.specs.Meaning.MemberForms.{member_value, domain_size}
use Rattle.ti_lang.specs.Meaning.Operands.{Operands, Wholes, Points, Rects, Domains, Others, plain_operands, operands, number}
use Rattle.ti_lang.specs.Meaning.Operators.{add_values, subtract_values, multiply_values, divide_values, bitwise_values, shift_value, apply_binary, apply_signed, operated_alone}
use Rattle.ti_lang.specs.Meaning.CellRefs.{indexed}
use Rattle.ti_lang.specs.Meaning.Processes.{Variable}
use Rattle.ti_lang.specs.Meaning.Scoping.{Env, same_declaration, same_variable, zero_declared, declared_type, find_variable, value_by, type_of}
use Rattle.ti_lang.specs.Meaning.Turns.{Turn}
use Rattle.ti_code.specs.declared.instr.Instr.{Instr}
use Rattle.ti_code.specs.Effects.{LocalState, Who}
use Rattle.ti_lower_expr.specs.Doing.{ReachesResult, Implements}
use Rattle.ti_lower_expr.specs.declared.kinds.StaticRepr.{StaticRepr}
use Rattle.ti_lower_expr.specs.declared.kinds.StaticRepr.TheVariants as known
use Rattle.ti_lower_expr.specs.Knowing.{HasRepr, known_of_type, known_declared, joined_known, narrow_known, operated_known, unary_known, member_known, index_known, known_of}
use Rattle.ti_lower_expr.specs.Slots.{Name, SlotsHold, none, object, variable, turn, hidden}

-- ---- what computations come to

-- what comes out, if something does, is such a one
abbrev pub On : {A : Type 0} → (A → Type 0) → CompResult A → Type 0
On P (Gives a rest) = P a
On P (Asks q) = Unit {0}
On P (Fails kind at) = Unit {0}

abbrev pub Comes : {A : Type 0} → (A → Type 0) → Comp A → Type 0
Comes P m = (rs : List Answer) → On P (m rs)

on_all : {A : Type 0} (P : A → Type 0) (g : CompResult A) → ((a : A) → P a) → On P g
on_all P (Gives a rest) f = f a
on_all P (Asks q) f = tt
on_all P (Fails kind at) f = tt

pub comes_all : {A : Type 0} (P : A → Type 0) (m : Comp A) → ((a : A) → P a) → Comes P m
comes_all P m f rs = on_all P (m rs) f

-- nothing is told
pub untold : (m : Comp Held) → Comes (HasRepr known.Other) m
untold m = comes_all (HasRepr known.Other) m (λ h. tt)

on_then : {A B : Type 0} (P : A → Type 0) (Q : B → Type 0) (g : CompResult A) (k : A → Comp B) → On P g → ((a : A) → P a → Comes Q (k a)) → On Q (bind_result g k)
on_then P Q (Gives a rest) k p f = f a p rest
on_then P Q (Asks q) k p f = tt
on_then P Q (Fails kind at) k p f = tt

pub comes_then : {A B : Type 0} (P : A → Type 0) (Q : B → Type 0) (m : Comp A) (k : A → Comp B) → Comes P m → ((a : A) → P a → Comes Q (k a)) → Comes Q (m >>= k)
comes_then P Q m k p f rs = on_then P Q (m rs) k (p rs) f

-- whatever comes before
comes_behind : {A B : Type 0} (Q : B → Type 0) (m : Comp A) (k : A → Comp B) → ((a : A) → Comes Q (k a)) → Comes Q (m >>= k)
comes_behind {A} Q m k f = comes_then (λ (a : A). Unit {0}) Q m k (comes_all (λ (a : A). Unit {0}) m (λ a. tt)) (λ a p. f a)

comes_guarded : {A : Type 0} (P : A → Type 0) (test : Bool) (kind : FaultKind) (at : Place) (a : A) → P a → Comes P (guard test kind at a)
comes_guarded P true kind at a p rs = p
comes_guarded P false kind at a p rs = tt

-- instructions that do a computation end with such a value
pub does_known : {A : Type 0} (w : Who) (c : List Instr) (P : A → Type 0) (Q : A → LocalState → Type 0) (s : LocalState) (m : Comp A) → Comes P m → Implements w c s m Q → Implements w c s m (λ a t. Q a t × P a)
does_known {A} w c P Q s m known d rs = by (m rs) (known rs) (d rs)
  where
    by : (g : CompResult A) → On P g → ReachesResult w c Q s rs g → ReachesResult w c (λ a t. Q a t × P a) s rs g
    by (Gives a rest) p o = (o.0, o.1, (o.2, p))
    by (Asks q) p o = o
    by (Fails kind at) p o = o

-- ---- values of types

as_int_stays : (h : Held) → HasRepr known.Int (as_type t.Int h)
as_int_stays (Plain (v.Long n)) = refl
as_int_stays (Plain value) = refl
as_int_stays (Dm dim points) = refl

as_long_stays : (h : Held) → HasRepr known.Long (as_type t.Long h)
as_long_stays (Plain (v.Int n)) = refl
as_long_stays (Plain value) = refl
as_long_stays (Dm dim points) = refl

-- a value that became one of a type
pub converted_known : (p : Place) (type : ValueType) (h : Held) → Comes (HasRepr (known_of_type type)) (converted p type h)
converted_known p t.Int h = λ rs. as_int_stays h
converted_known p t.Long h = λ rs. as_long_stays h
converted_known p (t.Class class is_local) h = λ rs. refl
converted_known p (t.Grid element dim is_local) h = λ rs. refl
converted_known p (t.Dm dim) h = untold (converted p (t.Dm dim) h)
converted_known p type h = λ rs. tt

kept_known : (n : ℕ) (p : Place) (type : ValueType) (h : Held) (k : StaticRepr) → HasRepr k h → Comes (HasRepr k) (kept_local n p type h)
kept_known n p type h k z = comes_guarded (HasRepr k) _ _ p h z

-- ---- numbers

-- it is neither an int nor a long
abbrev IsNoNumber : Held → Type 0
IsNoNumber h = (as_type t.Int h ≡ h) × (as_type t.Long h ≡ h)

-- What is known of operands: of what width their numbers are. An operator tells nothing of references.
abbrev AreKnown : StaticRepr → Operands → Type 0
AreKnown known.Int (Wholes w a b) = w ≡ w32
AreKnown known.Long (Wholes w a b) = w ≡ w64
AreKnown known.Object o = ⊥
AreKnown known.Grid o = ⊥
AreKnown k o = Unit {0}

number_known : (k : StaticRepr) (w : Width) (a b n : ℤ) → AreKnown k (Wholes w a b) → HasRepr k (number w n)
number_known known.Int w a b n z = subst (λ w. HasRepr known.Int (number w n)) (sym z) refl
number_known known.Long w a b n z = subst (λ w. HasRepr known.Long (number w n)) (sym z) refl
number_known known.Object w a b n z = absurd z
number_known known.Grid w a b n z = absurd z
number_known known.Other w a b n z = tt

no_number : (k : StaticRepr) (o : Operands) (h : Held) → AreKnown k o → IsNoNumber h → HasRepr k h
no_number known.Int o h z x = x.0
no_number known.Long o h z x = x.1
no_number known.Object o h z x = absurd z
no_number known.Grid o h z x = absurd z
no_number known.Other o h z x = tt

-- an int doesn't stay as a long, and a long doesn't as an int
never_long : (n : ℤ) → HasRepr known.Long (Plain (v.Int n)) → ⊥
never_long n e = cc

never_int : (n : ℤ) → HasRepr known.Int (Plain (v.Long n)) → ⊥
never_int n e = cc

test_known : (k : StaticRepr) (test : Bool) (x y : Operands) → AreKnown k x → AreKnown k y → AreKnown k (if test then x else y)
test_known k true x y p q = p
test_known k false x y p q = q

both_ints : (x y : Value) → HasRepr known.Int (Plain x) → HasRepr known.Int (Plain y) → AreKnown known.Int (plain_operands x y)
both_ints (v.Long a) y p q = absurd (never_int a p)
both_ints (v.Int a) (v.Int c) p q = refl
both_ints (v.Int a) (v.Long c) p q = absurd (never_int c q)
both_ints (v.Bool a) (v.Bool c) p q = tt
both_ints (v.Pt a) (v.Pt c) p q = test_known known.Int (a.dim == c.dim) (Points a c) Others tt tt
both_ints (v.Rc a) (v.Rc c) p q = test_known known.Int (a.dim == c.dim) (Rects a c) Others tt tt
both_ints (v.Obj a) (v.Obj c) p q = tt
both_ints (v.Grid a) (v.Grid c) p q = tt
both_ints (v.Region a) (v.Region c) p q = tt
both_ints x y p q = tt

left_long : (x y : Value) → HasRepr known.Long (Plain x) → AreKnown known.Long (plain_operands x y)
left_long (v.Int a) y p = absurd (never_long a p)
left_long (v.Long a) (v.Int c) p = refl
left_long (v.Long a) (v.Long c) p = refl
left_long (v.Bool a) (v.Bool c) p = tt
left_long (v.Pt a) (v.Pt c) p = test_known known.Long (a.dim == c.dim) (Points a c) Others tt tt
left_long (v.Rc a) (v.Rc c) p = test_known known.Long (a.dim == c.dim) (Rects a c) Others tt tt
left_long (v.Obj a) (v.Obj c) p = tt
left_long (v.Grid a) (v.Grid c) p = tt
left_long (v.Region a) (v.Region c) p = tt
left_long x y p = tt

right_long : (x y : Value) → HasRepr known.Long (Plain y) → AreKnown known.Long (plain_operands x y)
right_long (v.Int a) (v.Int c) p = absurd (never_long c p)
right_long (v.Int a) (v.Long c) p = refl
right_long (v.Long a) (v.Int c) p = refl
right_long (v.Long a) (v.Long c) p = refl
right_long (v.Bool a) (v.Bool c) p = tt
right_long (v.Pt a) (v.Pt c) p = test_known known.Long (a.dim == c.dim) (Points a c) Others tt tt
right_long (v.Rc a) (v.Rc c) p = test_known known.Long (a.dim == c.dim) (Rects a c) Others tt tt
right_long (v.Obj a) (v.Obj c) p = tt
right_long (v.Grid a) (v.Grid c) p = tt
right_long (v.Region a) (v.Region c) p = tt
right_long x y p = tt

-- two values of which not both are plain
domains_known : (k : StaticRepr) (test : Bool) → AreKnown k Domains → AreKnown k Others → AreKnown k (if test then Domains else Others)
domains_known k test p q = test_known k test Domains Others p q

ints_known : (x y : Held) → HasRepr known.Int x → HasRepr known.Int y → AreKnown known.Int (operands x y)
ints_known (Plain x) (Plain y) p q = both_ints x y p q
ints_known (Plain x) (Dm n ps) p q = domains_known known.Int _ tt tt
ints_known (Dm n ps) (Plain y) p q = domains_known known.Int _ tt tt
ints_known (Dm n ps) (Dm m qs) p q = domains_known known.Int _ tt tt

left_known : (x y : Held) → HasRepr known.Long x → AreKnown known.Long (operands x y)
left_known (Plain x) (Plain y) p = left_long x y p
left_known (Plain x) (Dm n ps) p = domains_known known.Long _ tt tt
left_known (Dm n ps) (Plain y) p = domains_known known.Long _ tt tt
left_known (Dm n ps) (Dm m qs) p = domains_known known.Long _ tt tt

right_known : (x y : Held) → HasRepr known.Long y → AreKnown known.Long (operands x y)
right_known (Plain x) (Plain y) p = right_long x y p
right_known (Plain x) (Dm n ps) p = domains_known known.Long _ tt tt
right_known (Dm n ps) (Plain y) p = domains_known known.Long _ tt tt
right_known (Dm n ps) (Dm m qs) p = domains_known known.Long _ tt tt

operands_known : (j k : StaticRepr) (x y : Held) → HasRepr j x → HasRepr k y → AreKnown (joined_known j k) (operands x y)
operands_known known.Long k x y p q = left_known x y p
operands_known known.Int known.Long x y p q = right_known x y q
operands_known known.Object known.Long x y p q = right_known x y q
operands_known known.Grid known.Long x y p q = right_known x y q
operands_known known.Other known.Long x y p q = right_known x y q
operands_known known.Int known.Int x y p q = ints_known x y p q
operands_known j k x y p q = tt

-- ---- operators

of_domains_known : (k : StaticRepr) (o : Operands) (both : List Point → List Point → List Point) (p : Place) (x y : Held) → AreKnown k o → Comes (HasRepr k) (of_domains both p x y)
of_domains_known k o both p x y z =
    comes_behind (HasRepr k) (to_domain p x) _
    (λ d. comes_behind (HasRepr k) (to_domain p y) _ (λ c. comes_guarded (HasRepr k) _ _ p _ (no_number k o _ z (refl, refl))))

added_known : (k : StaticRepr) (p : Place) (x y : Held) (o : Operands) → AreKnown k o → Comes (HasRepr k) (add_values p x y o)
added_known k p x y (Wholes w a c) z = λ rs. number_known k w a c _ z
added_known k p x y (Points a c) z = λ rs. no_number k (Points a c) _ z (refl, refl)
added_known k p x y (Rects r s) z = of_domains_known k (Rects r s) sets.union p x y z
added_known k p x y Domains z = of_domains_known k Domains sets.union p x y z
added_known k p x y o z = λ rs. no_number k o no_value z (refl, refl)

subtracted_known : (k : StaticRepr) (p : Place) (x y : Held) (o : Operands) → AreKnown k o → Comes (HasRepr k) (subtract_values p x y o)
subtracted_known k p x y (Wholes w a c) z = λ rs. number_known k w a c _ z
subtracted_known k p x y (Points a c) z = λ rs. no_number k (Points a c) _ z (refl, refl)
subtracted_known k p x y (Rects r s) z = of_domains_known k (Rects r s) sets.minus p x y z
subtracted_known k p x y Domains z = of_domains_known k Domains sets.minus p x y z
subtracted_known k p x y o z = λ rs. no_number k o no_value z (refl, refl)

multiplied_known : (k : StaticRepr) (p : Place) (x y : Held) (o : Operands) → AreKnown k o → Comes (HasRepr k) (multiply_values p x y o)
multiplied_known k p x y (Wholes w a c) z = λ rs. number_known k w a c _ z
multiplied_known k p x y (Rects r s) z = λ rs. no_number k (Rects r s) _ z (refl, refl)
multiplied_known k p x y Domains z = of_domains_known k Domains sets.meet p x y z
multiplied_known k p x y o z = λ rs. no_number k o no_value z (refl, refl)

divided_known : (k : StaticRepr) (f : Width → ℤ → ℤ → ℤ) (p : Place) (o : Operands) → AreKnown k o → Comes (HasRepr k) (divide_values f p o)
divided_known k f p (Wholes w a c) z = comes_guarded (HasRepr k) _ _ p _ (number_known k w a c _ z)
divided_known k f p o z = λ rs. no_number k o _ z (refl, refl)

combined_known : (k : StaticRepr) (f : ℕ → ℕ → ℕ) (g : Bool → Bool → Bool) (o : Operands) → AreKnown k o → HasRepr k (bitwise_values f g o)
combined_known k f g (Wholes w a c) z = number_known k w a c _ z
combined_known k f g o z = no_number k o _ z (refl, refl)

shifted_known : (k : StaticRepr) (f : Width → ℤ → ℤ → ℤ) (x y : Held) → HasRepr k x → HasRepr (narrow_known k) (shift_value f x y)
shifted_known known.Int f (Plain (v.Long a)) y z = absurd (never_int a z)
shifted_known known.Int f (Plain x) y z = refl
shifted_known known.Int f (Dm n ps) y z = refl
shifted_known k f x y z = tt

signed_known : (k : StaticRepr) (f : Width → ℤ → ℤ) (x : Held) → HasRepr k x → HasRepr (narrow_known k) (apply_signed f x)
signed_known known.Int f (Plain (v.Long a)) z = absurd (never_int a z)
signed_known known.Int f (Plain x) z = refl
signed_known known.Int f (Dm n ps) z = refl
signed_known k f x z = tt

pub alone_is_known : (o : UnaryOperator) (k : StaticRepr) (x : Held) → HasRepr k x → HasRepr (unary_known o k) (operated_alone o x)
alone_is_known un.Minus k x z = signed_known k negation x z
alone_is_known un.Complement k x z = signed_known k (λ w n. neg_ℤ n -ℤ pos 1) x z
alone_is_known un.Plus k x z = z
alone_is_known un.Not k x z = tt

pub operated_is_known : (p : Place) (o : BinaryOperator) (j k : StaticRepr) (x y : Held) → HasRepr j x → HasRepr k y → Comes (HasRepr (operated_known o j k)) (apply_binary p o x y)
operated_is_known p op.Add j k x y u z = added_known (joined_known j k) p x y (operands x y) (operands_known j k x y u z)
operated_is_known p op.Subtract j k x y u z = subtracted_known (joined_known j k) p x y (operands x y) (operands_known j k x y u z)
operated_is_known p op.Multiply j k x y u z = multiplied_known (joined_known j k) p x y (operands x y) (operands_known j k x y u z)
operated_is_known p op.Divide j k x y u z = divided_known (joined_known j k) _ p (operands x y) (operands_known j k x y u z)
operated_is_known p op.Remainder j k x y u z = divided_known (joined_known j k) _ p (operands x y) (operands_known j k x y u z)
operated_is_known p op.And j k x y u z = λ rs. combined_known (joined_known j k) bit_and (λ a c. a && c) (operands x y) (operands_known j k x y u z)
operated_is_known p op.Or j k x y u z = λ rs. combined_known (joined_known j k) bit_or (λ a c. a || c) (operands x y) (operands_known j k x y u z)
operated_is_known p op.Xor j k x y u z = λ rs. combined_known (joined_known j k) bit_xor (λ a c. not (same_truth a c)) (operands x y) (operands_known j k x y u z)
operated_is_known p op.ShiftLeft j k x y u z = λ rs. shifted_known j shift_left x y u
operated_is_known p op.ShiftRight j k x y u z = λ rs. shifted_known j shift_right x y u
operated_is_known p op.UnsignedShiftRight j k x y u z = λ rs. shifted_known j shift_right_unsigned x y u
operated_is_known p o j k x y u z = untold (apply_binary p o x y)

-- behind the left operand
with_right_known : (p : Place) (o : BinaryOperator) (j k : StaticRepr) (x : Held) (right : Comp Held) → HasRepr j x → Comes (HasRepr k) right
    → Comes (HasRepr (operated_known o j k)) (with_right p o x right)
with_right_known p op.AndThen j k x right u z = untold (with_right p op.AndThen x right)
with_right_known p op.OrElse j k x right u z = untold (with_right p op.OrElse x right)
with_right_known p o j k x right u z =
    comes_then (HasRepr k) (HasRepr (operated_known o j k)) right (λ y. apply_binary p o x y) z (λ y w. operated_is_known p o j k x y u w)

-- ---- variables

zero_known : (type : ValueType) → HasRepr (known_of_type type) (zero_of type)
zero_known t.Int = refl
zero_known t.Long = refl
zero_known (t.Class class is_local) = refl
zero_known (t.Grid element dim is_local) = refl
zero_known type = tt

declared_zero : (d : Declaration) → HasRepr (known_declared d) (zero_declared d)
declared_zero (Typed is_single type) = zero_known type
declared_zero Foreach = tt

-- a value that became one of the type that is written where a variable is declared
pub declared_known : (d : Declaration) → known_of_type (declared_type d) ≡ known_declared d
declared_known (Typed is_single type) = refl
declared_known Foreach = refl

pub used_known : (d : Declaration) (n : ℕ) → known_of_type (used_type (λ number. 1) n d) ≡ known_declared d
used_known (Typed is_single type) n = refl
used_known Foreach n = refl

-- the same is known of values of the same type
same_type_known : (x y : ValueType) → same_type x y ≡ true → known_of_type x ≡ known_of_type y
same_type_known t.Int t.Int e = refl
same_type_known t.Long t.Long e = refl
same_type_known t.Boolean t.Boolean e = refl
same_type_known (t.Pt n) (t.Pt m) e = refl
same_type_known (t.Rc n) (t.Rc m) e = refl
same_type_known (t.Dm n) (t.Dm m) e = refl
same_type_known t.Region t.Region e = refl
same_type_known (t.Class n l) (t.Class m k) e = refl
same_type_known (t.Grid x n l) (t.Grid y m k) e = refl
same_type_known t.Null t.Null e = refl
same_type_known t.Void t.Void e = refl
same_type_known x y e = absurd (not_true e)
  where
    not_true : false ≡ true → ⊥
    not_true e = cc

right_holds : (a c : Bool) → (a && c) ≡ true → c ≡ true
right_holds true c e = e
right_holds false c e = absurd (not_true e)
  where
    not_true : false ≡ true → ⊥
    not_true e = cc

same_declared_known : (x y : Declaration) → same_declaration x y ≡ true → known_declared x ≡ known_declared y
same_declared_known (Typed s x) (Typed r y) e = same_type_known x y (right_holds (same_truth s r) (same_type x y) e)
same_declared_known Foreach Foreach e = refl
same_declared_known (Typed s x) Foreach e = absurd (not_true e)
  where
    not_true : false ≡ true → ⊥
    not_true e = cc
same_declared_known Foreach (Typed s x) e = absurd (not_true e)
  where
    not_true : false ≡ true → ⊥
    not_true e = cc

pub same_known : (x y : VariableUse) → same_variable x y ≡ true → known_declared x.declared ≡ known_declared y.declared
same_known x y e = same_declared_known x.declared y.declared (right_holds (x.number == y.number) (same_declaration x.declared y.declared) e)

pub found_known : (this : Option Id) (ns : List Name) (vs : List Variable) (ts : List Turn) (hs : List Held) → SlotsHold this ns vs ts hs
    → (x : VariableUse) → HasRepr (known_declared x.declared) (find_variable x vs)
found_known this ns vs ts hs (none z) x = declared_zero x.declared
found_known this ns vs ts hs object x = declared_zero x.declared
found_known this ns vs ts hs (variable {ns = ms} {vs = us} {ts = rs} {hs = gs} {x = y} {h = g} k h) x = by (same_variable x y) (found_known this ms us rs gs h x) refl
  where
    by : (b : Bool) → HasRepr (known_declared x.declared) (find_variable x us) → same_variable x y ≡ b → HasRepr (known_declared x.declared) (if b then g else find_variable x us)
    by true older e = subst (λ z. HasRepr z g) (sym (same_known x y e)) k
    by false older e = older
found_known this ns vs ts hs (turn {ns = ms} {vs = us} {ts = rs} {hs = gs} h) x = found_known this ms us rs gs h x
found_known this ns vs ts hs (hidden {ns = ms} {vs = us} {ts = rs} {hs = gs} h) x = found_known this ms us rs gs h x

-- ---- expressions

sized_known : (p : Place) (h : Held) → Comes (HasRepr known.Int) (domain_size p h)
sized_known p (Plain (v.Rc r)) = comes_guarded (HasRepr known.Int) _ _ p _ refl
sized_known p (Plain x) = λ rs. refl
sized_known p (Dm dim points) = λ rs. refl

member_is_known : (o : Option b.BuiltIn) (p : Place) (type through : ValueType) (h : Held) (hs : List Held) → Comes (HasRepr (member_known o)) (member_value p type o through h hs)
member_is_known (Some b.Size) p type through h hs = sized_known p h
member_is_known o p type through h hs = untold (member_value p type o through h hs)

found_or_known : (o : Option ℤ) (kind : FaultKind) (p : Place) → Comes (HasRepr known.Int) (found_or kind p o >>= λ x. gives (Plain (v.Int x)))
found_or_known (Some x) kind p rs = refl
found_or_known None kind p rs = tt

indexed_known : (is_pt : Bool) (p : Place) (type through : ValueType) (h : Held) (ns : List ℤ) → Comes (HasRepr (index_known is_pt)) (indexed is_pt p type through h ns)
indexed_known true p type through h ns = found_or_known _ _ p
indexed_known false p type through h ns = untold (indexed false p type through h ns)

module _ (env : Env) (names : List Name) (slots : List Held) (holds : SlotsHold env.this names env.variables env.turns slots) where
  abbrev pub told : NumberedExp → StaticRepr
  told = known_of env.program (this_of env.method)

  value_known : (d : Declaration) (x : VariableUse) → x.declared ≡ d → HasRepr (known_declared d) (value_by d env x)
  value_known (Typed is_single type) x e =
      subst (λ d. HasRepr (known_declared d) (find_variable x env.variables)) e (found_known env.this names env.variables env.turns slots holds x)
  value_known Foreach x e = tt

  pub known_is_so : (x : NumberedExp) → Comes (HasRepr (told x)) (eval env x)
  known_is_so (e.Int p n) = λ rs. refl
  known_is_so (e.Long p n) = λ rs. refl
  known_is_so (e.Null p) = λ rs. refl
  known_is_so (e.This p) = λ rs. refl
  known_is_so (e.Variable p x) = λ rs. value_known x.declared x refl
  known_is_so (e.ThisProc p) = λ rs. refl
  known_is_so (e.NumProcs p) = λ rs. refl
  known_is_so (e.Unary p o x) =
      comes_then (HasRepr (told x)) (HasRepr (unary_known o (told x))) (eval env x) (λ h. gives (operated_alone o h)) (known_is_so x) (λ h z rs. alone_is_known o (told x) h z)
  known_is_so (e.Binary p o x y) =
      comes_then (HasRepr (told x)) (HasRepr (operated_known o (told x) (told y))) (eval env x) (λ h. with_right p o h (eval env y)) (known_is_so x)
      (λ h z. with_right_known p o (told x) (told y) h (eval env y) z (known_is_so y))
  known_is_so (e.Cast p type x) =
      let k = known_of_type type.type in
      comes_behind (HasRepr k) (eval env x) (λ h. converted p type.type h >>= λ h. kept_local env.number p type.type h)
      (λ h. comes_then (HasRepr k) (HasRepr k) (converted p type.type h) (λ h. kept_local env.number p type.type h) (converted_known p type.type h)
      (λ h z. kept_known env.number p type.type h k z))
  known_is_so (e.Member p x name args) =
      let m = member_called env.program (this_of env.method) x name in
      let type = type_of env (e.Member p x name args) in
      let through = type_of env x in
      comes_behind (HasRepr (member_known m)) (eval env x) (λ h. eval_all env args >>= λ hs. member_value p type m through h hs)
      (λ h. comes_behind (HasRepr (member_known m)) (eval_all env args) (λ hs. member_value p type m through h hs) (λ hs. member_is_known m p type through h hs))
  known_is_so (e.Index p x parts) =
      let is_pt = is_point_type (type_of env x) in
      let type = type_of env (e.Index p x parts) in
      let through = type_of env x in
      comes_behind (HasRepr (index_known is_pt)) (eval env x) (λ h. eval_numbers env parts >>= λ ns. indexed is_pt p type through h ns)
      (λ h. comes_behind (HasRepr (index_known is_pt)) (eval_numbers env parts) (λ ns. indexed is_pt p type through h ns) (λ ns. indexed_known is_pt p type through h ns))
  known_is_so x = untold (eval env x)
