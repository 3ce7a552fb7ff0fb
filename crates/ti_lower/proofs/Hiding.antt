-- Proves that temporary slots don't affect what names denote.
use Rattle.std.proofs.Common.{◌≡◌, ◌∙◌, refl, ap, ℕ, zero, suc, ◌+◌, Bool, true, false, ◌&&◌, ◌==◌, if◌then◌else◌, List, [], ◌∷◌, ◌++◌, map, reverse, length, Option, Some, None, arith}
use Rattle.ti_lang.specs.Program.Types.{VariableUse, Declaration, Typed, Foreach, ValueType}
use Rattle.ti_lang.specs.Program.Types as t
use Rattle.ti_lang.specs.Program.Expressions.{NumberedExp, NumberedExps, NumberedRange, NumberedRanges}
use Rattle.ti_lang.specs.Program.Expressions as e
use Rattle.ti_lang.specs.declared.program.classes.Param.{Param}
use Rattle.ti_lang.specs.Program.Classes.{ProgramView}
use Rattle.ti_lang.specs.Program.Views.{numbered_param_of}
use Rattle.ti_lang.specs.Typing.Kinds.{is_point_type}
use Rattle.ti_lang.specs.Typing.Called.{member_called}
use Rattle.ti_lang.specs.Typing.TextTypes.{syntactic_type, how_many}
use Rattle.ti_lang.specs.Meaning.Calls.{parameters_from}
use Rattle.ti_code.specs.declared.instr.Instr.{Instr}
use Rattle.ti_code.specs.declared.instr.Instr.TheVariants as i
use Rattle.ti_code.specs.declared.instr.Operation.{Operation}
use Rattle.ti_base.specs.declared.place.Place.{Place}
use Rattle.ti_code.specs.Leading.{pc_after}
use Rattle.ti_lower_expr.specs.declared.slots.SlotName.{SlotName}
use Rattle.ti_lower_expr.specs.declared.slots.SlotName.TheVariants as slot
use Rattle.ti_lower_expr.specs.Views.{slot_name_of, slot_names_of}
use Rattle.ti_lower_expr.specs.Slots.{Name, This, Of, Point, Hidden, is_meant, find_by, find_slot, has_this}
use Rattle.ti_lower_expr.specs.declared.kinds.ShortCircuit.{ShortCircuit}
use Rattle.ti_lower_expr.specs.declared.kinds.ShortCircuit.TheVariants.{Never, Where}
use Rattle.ti_lower_expr.specs.Coding.{load_variable, operator_code, short_circuit_of, operation_in, lazy_code, member_code, index_code, code_of, code_of_all, code_of_range, code_of_ranges}
use Rattle.ti_lower.specs.Receivers.{written_slot}
use Rattle.ti_lower.specs.Mirrors.Positions.{with_temporaries}

pub length_hidden : (n : ℕ) (names : List Name) → length (with_temporaries n names) ≡ length names + n
length_hidden zero names = omega arith
length_hidden (suc n) names = let others = length_hidden n names in omega (arith, others)

pub this_hidden : (n : ℕ) (names : List Name) → has_this (with_temporaries n names) ≡ has_this names
this_hidden zero names = refl
this_hidden (suc n) names = this_hidden n names

-- ---- variables

found_one : (d : Declaration) (x : VariableUse) (names : List Name) → find_by d x (Hidden ∷ names) ≡ find_by d x names
found_one (Typed is_single type) x names = refl
found_one Foreach x names = refl

pub found_hidden : (n : ℕ) (d : Declaration) (x : VariableUse) (names : List Name) → find_by d x (with_temporaries n names) ≡ find_by d x names
found_hidden zero d x names = refl
found_hidden (suc n) d x names = found_one d x (with_temporaries n names) ∙ found_hidden n d x names

-- for a variable of a type it is the same which type
meant_typed : (a b : Bool) (t u : ValueType) (x : VariableUse) (n : Name) → is_meant (Typed a t) x n ≡ is_meant (Typed b u) x n
meant_typed a b t u x This = refl
meant_typed a b t u x (Of y) = refl
meant_typed a b t u x (Point k) = refl
meant_typed a b t u x Hidden = refl

found_typed : (a b : Bool) (t u : ValueType) (x : VariableUse) (names : List Name) → find_by (Typed a t) x names ≡ find_by (Typed b u) x names
found_typed a b t u x [] = refl
found_typed a b t u x (n ∷ ns) =
    ap (λ c. if c then Some (length ns) else find_by (Typed a t) x ns) (meant_typed a b t u x n)
    ∙ ap (λ k. if is_meant (Typed b u) x n then Some (length ns) else k) (found_typed a b t u x ns)

-- the slot of a variable of a type that is written is that which is found
pub written_typed : (w number : ℕ) (single : Bool) (type : ValueType) (names : List Name)
    → written_slot (record { number = number; declared = Typed single type }) (with_temporaries w names) ≡ find_slot (record { number = number; declared = Typed single type }) names
written_typed w number single type names =
    let x : VariableUse = record { number = number; declared = Typed single type } in
    found_hidden w (Typed false t.Void) x names ∙ found_typed false single t.Void type x names

and_false : (b : Bool) → (b && false) ≡ false
and_false true = refl
and_false false = refl

-- a foreach variable has no slot that is written: slots of variables have types
foreach_absent : (number : ℕ) (xs : List SlotName) → find_by (Typed false t.Void) (record { number = number; declared = Foreach }) (map slot_name_of xs) ≡ None
foreach_absent number [] = refl
foreach_absent number (slot.This ∷ xs) = foreach_absent number xs
foreach_absent number (slot.Of k single ty ∷ xs) =
    ap (λ c. if c then Some (length (map slot_name_of xs)) else find_by (Typed false t.Void) (record { number = number; declared = Foreach })
    (map slot_name_of xs)) (and_false (number == k)) ∙ foreach_absent number xs
foreach_absent number (slot.Point k ∷ xs) = foreach_absent number xs
foreach_absent number (slot.Hidden ∷ xs) = foreach_absent number xs

pub written_foreach : (w number : ℕ) (xs : List SlotName) → written_slot (record { number = number; declared = Foreach }) (with_temporaries w (slot_names_of xs)) ≡ None
written_foreach w number xs = found_hidden w (Typed false t.Void) (record { number = number; declared = Foreach }) (slot_names_of xs) ∙ foreach_absent number (reverse xs)

-- ---- expressions

both_same : (at : ℕ) (a b : List Instr) (f g : ℕ → List Instr) → a ≡ b → ((n : ℕ) → f n ≡ g n) → a ++ f (pc_after at a) ≡ b ++ g (pc_after at b)
both_same at a b f g p q = ap (λ z. z ++ f (pc_after at z)) p ∙ ap (λ z. b ++ z) (q (pc_after at b))

front_same : (a b c : List Instr) → a ≡ b → a ++ c ≡ b ++ c
front_same a b c p = ap (λ z. z ++ c) p

operators_same : (l : ShortCircuit) (name : Operation) (p : Place) (at : ℕ) (f g : ℕ → List Instr) → ((n : ℕ) → f n ≡ g n) → operator_code l name p at f ≡ operator_code l name p at g
operators_same Never name p at f g h = ap (λ z. z ++ i.Operate name p ∷ []) (h at)
operators_same (Where left) name p at f g h =
    ap (λ z. lazy_code left at (λ n. z)) (h (at + 1))

module _ (program : ProgramView) (this : Option ℕ) (names : List Name) where
  abbrev one : NumberedExp → ℕ → List Instr
  one = code_of program this (Hidden ∷ names)

  abbrev none : NumberedExp → ℕ → List Instr
  none = code_of program this names

  mutual
    same : (x : NumberedExp) (at : ℕ) → one x at ≡ none x at
    same (e.Variable p x) at = ap (λ k. load_variable k x ∷ []) (found_one x.declared x names)
    same (e.Point p parts) at = front_same _ _ _ (all_same parts at)
    same (e.Rect p ranges) at = front_same _ _ _ (ranges_same ranges at)
    same (e.Unary p op x) at = front_same _ _ _ (same x at)
    same (e.Binary p op x y) at =
        both_same at (one x at) (none x at) (λ j. operator_code (short_circuit_of op) (operation_in program this op x y) p j (one y))
        (λ j. operator_code (short_circuit_of op) (operation_in program this op x y) p j (none y)) (same x at)
        (λ j. operators_same (short_circuit_of op) (operation_in program this op x y) p j (one y) (none y) (λ n. same y n))
    same (e.Cast p type x) at = front_same _ _ _ (same x at)
    same (e.Select p x name) at = front_same _ _ _ (same x at)
    same (e.Member p x name args) at =
        let last = member_code (member_called program this x name) (how_many args) p in
        both_same at (one x at) (none x at) (λ j. code_of_all program this (Hidden ∷ names) args j ++ last) (λ j. code_of_all program this names args j ++ last) (same x at)
        (λ j. front_same (code_of_all program this (Hidden ∷ names) args j) (code_of_all program this names args j) last (all_same args j))
    same (e.Index p x parts) at =
        let last = index_code (is_point_type (syntactic_type program this x)) (how_many parts) p in
        both_same at (one x at) (none x at) (λ j. code_of_all program this (Hidden ∷ names) parts j ++ last) (λ j. code_of_all program this names parts j ++ last) (same x at)
        (λ j. front_same (code_of_all program this (Hidden ∷ names) parts j) (code_of_all program this names parts j) last (all_same parts j))
    same _ at = refl

    all_same : (xs : NumberedExps) (at : ℕ) → code_of_all program this (Hidden ∷ names) xs at ≡ code_of_all program this names xs at
    all_same e.NoExp at = refl
    all_same (e.MoreExp x xs) at =
        both_same at (one x at) (none x at) (code_of_all program this (Hidden ∷ names) xs) (code_of_all program this names xs) (same x at) (λ j. all_same xs j)

    range_same : (r : NumberedRange) (at : ℕ) → code_of_range program this (Hidden ∷ names) r at ≡ code_of_range program this names r at
    range_same (e.Plain low high) at =
        both_same at (one low at) (none low at) (λ j. one high j ++ i.Step ∷ []) (λ j. none high j ++ i.Step ∷ []) (same low at) (λ j. front_same _ _ _ (same high j))
    range_same (e.Stepped low high step) at =
        both_same at (one low at) (none low at) (λ j. one high j ++ one step (pc_after j (one high j))) (λ j. none high j ++ none step (pc_after j (none high j))) (same low at)
        (λ j. both_same j (one high j) (none high j) (one step) (none step) (same high j) (λ n. same step n))

    ranges_same : (rs : NumberedRanges) (at : ℕ) → code_of_ranges program this (Hidden ∷ names) rs at ≡ code_of_ranges program this names rs at
    ranges_same e.NoRange at = refl
    ranges_same (e.MoreRange r rs) at =
        both_same at (code_of_range program this (Hidden ∷ names) r at) (code_of_range program this names r at) (code_of_ranges program this (Hidden ∷ names) rs)
        (code_of_ranges program this names rs) (range_same r at) (λ j. ranges_same rs j)

pub code_hidden : (program : ProgramView) (this : Option ℕ) (w : ℕ) (names : List Name) (x : NumberedExp) (at : ℕ)
    → code_of program this (with_temporaries w names) x at ≡ code_of program this names x at
code_hidden program this zero names x at = refl
code_hidden program this (suc w) names x at = same program this (with_temporaries w names) x at ∙ code_hidden program this w names x at

-- ---- parameters

pub count_params : (n : ℕ) (ps : List Param) → length (parameters_from n (map numbered_param_of ps)) ≡ length ps
count_params n [] = refl
count_params n (p ∷ ps) = let others = count_params (n + 1) ps in omega (arith, others)

pub ruleset hidden_slots = (length_hidden, this_hidden, code_hidden, written_typed, written_foreach, count_params)
