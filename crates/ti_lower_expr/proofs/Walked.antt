-- Proves that what the generator appends is the code of the expression.
use Rattle.std.proofs.Common.{◌≡◌, ◌∙◌, refl, sym, ap, ℕ, ◌+◌, Bool, List, [], ◌∷◌, ◌++◌, length, set, append_assoc, arith, Option, unwrap_or, option_and_then}
use Rattle.std.proofs.Math.Seq.{set-append_seam}
use Rattle.std.proofs.lemmas.List.{length-append, append-nil}
use Rattle.ti_base.specs.declared.place.Place.{Place}
use Rattle.ti_base.specs.declared.value.Value.TheVariants as v
use Rattle.ti_lang.specs.Program.Expressions.{NumberedExp, NumberedExps, NumberedRange, NumberedRanges}
use Rattle.ti_lang.specs.Program.Expressions as e
use Rattle.ti_lang.specs.Program.Classes.{ProgramView}
use Rattle.ti_lang.specs.Typing.Kinds.{is_local, is_point_type, class_of_type}
use Rattle.ti_lang.specs.Typing.Declared.{field_numbered}
use Rattle.ti_lang.specs.Typing.Called.{member_called}
use Rattle.ti_lang.specs.Typing.TextTypes.{syntactic_type, how_many}
use Rattle.ti_code.specs.declared.instr.Instr.{Instr}
use Rattle.ti_code.specs.declared.instr.Instr.TheVariants as i
use Rattle.ti_code.specs.declared.instr.Operation.{Operation}
use Rattle.ti_code.specs.Leading.{pc_after}
use Rattle.ti_lower_expr.specs.Slots.{Name, has_this}
use Rattle.ti_lower_expr.specs.declared.kinds.ShortCircuit.{ShortCircuit}
use Rattle.ti_lower_expr.specs.declared.kinds.ShortCircuit.TheVariants.{Never, Where}
use Rattle.ti_lower_expr.specs.Knowing.{known_of}
use Rattle.ti_lower_expr.specs.Coding.{jump_where, operator_code, short_circuit_of, operation_in, unary_code, conversion, local_test, load_this, rect_instr, kind_of_ranges, how_many_ranges, member_code, index_code, code_of, code_of_all, code_of_range, code_of_ranges}
use Rattle.ti_lower_expr.specs.Mirrors.Walking.{around, append_expr, append_operator, append_exprs, append_range, append_ranges}

pub behind_counts : (at : ℕ) (xs : List Instr) → pc_after at xs ≡ at + length xs
behind_counts at [] = omega arith
behind_counts at (x ∷ xs) = let others = behind_counts (at + 1) xs in omega (arith, others)

pub length_behind : (code a : List Instr) → length (code ++ a) ≡ pc_after (length code) a
length_behind code a = length-append code a ∙ sym (behind_counts (length code) a)

-- code, and code behind it that depends on where it stands
pub two : (code m a : List Instr) (f : ℕ → List Instr) → m ≡ code ++ a → m ++ f (length m) ≡ code ++ (a ++ f (pc_after (length code) a))
two code m a f p =
    ap (λ z. z ++ f (length z)) p ∙ append_assoc code a (f (length (code ++ a))) ∙ ap (λ k. code ++ (a ++ f k)) (length_behind code a)

-- the same where what is behind is written by a function
pub further : (code m n a : List Instr) (f : ℕ → List Instr) → m ≡ code ++ a → n ≡ m ++ f (length m) → n ≡ code ++ (a ++ f (pc_after (length code) a))
further code m n a f p q = q ∙ two code m a f p

around_is : (left : Bool) (m r : List Instr) → around left (length m) (m ++ jump_where left 0 ∷ [] ++ r)
    ≡ m ++ (jump_where left (pc_after (length m + 1) r + 1) ∷ r ++ i.Jump (pc_after (length m + 1) r + 1 + 1) ∷ i.Const (v.Bool left) ∷ [])
around_is left m r =
    let all = m ++ jump_where left 0 ∷ [] ++ r in
    let long : length all ≡ pc_after (length m + 1) r =
    length-append (m ++ jump_where left 0 ∷ []) r ∙ ap (λ k. k + length r) (length-append m (jump_where left 0 ∷ [])) ∙ sym (behind_counts (length m + 1) r) in
    let two_more : pc_after (length m + 1) r + 2 ≡ pc_after (length m + 1) r + 1 + 1 = omega arith in
    let last = i.Const (v.Bool left) ∷ [] in
    ap (λ k. set all (length m) (jump_where left (k + 1)) ++ i.Jump (k + 2) ∷ last) long
    ∙ ap (λ z. set z (length m) (jump_where left (pc_after (length m + 1) r + 1)) ++ i.Jump (pc_after (length m + 1) r + 2) ∷ last) (append_assoc m (jump_where left 0 ∷ []) r)
    ∙ ap (λ z. z ++ i.Jump (pc_after (length m + 1) r + 2) ∷ last) (set-append_seam m (jump_where left 0) r (jump_where left (pc_after (length m + 1) r + 1)))
    ∙ append_assoc m (jump_where left (pc_after (length m + 1) r + 1) ∷ r) (i.Jump (pc_after (length m + 1) r + 2) ∷ last)
    ∙ ap (λ k. m ++ (jump_where left (pc_after (length m + 1) r + 1) ∷ r ++ i.Jump k ∷ last)) two_more

operated_is : (l : ShortCircuit) (name : Operation) (p : Place) (right : List Instr → List Instr) (code : ℕ → List Instr) (m : List Instr)
    → ((n : List Instr) → right n ≡ n ++ code (length n)) → append_operator l name p right m ≡ m ++ operator_code l name p (length m) code
operated_is Never name p right code m h = two m (right m) (code (length m)) (λ j. i.Operate name p ∷ []) (h m)
operated_is (Where left) name p right code m h =
    let start = m ++ jump_where left 0 ∷ [] in
    let long : length start ≡ length m + 1 = length-append m (jump_where left 0 ∷ []) in
    ap (around left (length m)) (h start ∙ ap (λ k. start ++ code k) long) ∙ around_is left m (code (length m + 1))

module _ (program : ProgramView) (this : Option ℕ) (names : List Name) where
  abbrev on : NumberedExp → List Instr → List Instr
  on = append_expr program this names

  abbrev of : NumberedExp → ℕ → List Instr
  of = code_of program this names

  mutual
    pub walked_is : (x : NumberedExp) (code : List Instr) → on x code ≡ code ++ of x (length code)
    walked_is (e.OwnField p field) code = append_assoc code (load_this (has_this names) ∷ []) (i.GetField field p ∷ [])
    walked_is (e.Point p parts) code = two code (append_exprs program this names parts code)
        (code_of_all program this names parts (length code)) (λ j. i.MakePt (how_many parts) ∷ []) (all_is parts code)
    walked_is (e.Rect p ranges) code = two code (append_ranges program this names ranges code) (code_of_ranges program this names ranges (length code))
        (λ j. rect_instr (kind_of_ranges program this ranges) (how_many_ranges ranges) p ∷ []) (ranges_is ranges code)
    walked_is (e.Unary p op x) code = two code (on x code) (of x (length code)) (λ j. unary_code op) (walked_is x code)
    walked_is (e.Binary p op x y) code =
        further code (on x code) (on (e.Binary p op x y) code) (of x (length code)) (λ j. operator_code (short_circuit_of op) (operation_in program this op x y) p j (of y)) (walked_is x code)
        (operated_is (short_circuit_of op) (operation_in program this op x y) p (on y) (of y) (on x code) (λ n. walked_is y n))
    walked_is (e.Cast p type x) code =
        append_assoc (on x code) (conversion p type.type (known_of program this x)) (local_test p (is_local type.type))
        ∙ two code (on x code) (of x (length code)) (λ j. conversion p type.type (known_of program this x) ++ local_test p (is_local type.type)) (walked_is x code)
    walked_is (e.Select p x name) code =
        two code (on x code) (of x (length code))
        (λ j. i.GetField (unwrap_or (option_and_then (field_numbered program name) (class_of_type (syntactic_type program this x))) 0) p ∷ []) (walked_is x code)
    walked_is (e.Member p x name args) code =
        further code (on x code) (on (e.Member p x name args) code) (of x (length code)) (λ j. code_of_all program this names args j
        ++ member_code (member_called program this x name) (how_many args) p) (walked_is x code)
        (two (on x code) (append_exprs program this names args (on x code)) (code_of_all program this names args (length (on x code)))
        (λ j. member_code (member_called program this x name) (how_many args) p) (all_is args (on x code)))
    walked_is (e.Index p x parts) code =
        further code (on x code) (on (e.Index p x parts) code) (of x (length code)) (λ j. code_of_all program this names parts j
        ++ index_code (is_point_type (syntactic_type program this x)) (how_many parts) p) (walked_is x code)
        (two (on x code) (append_exprs program this names parts (on x code)) (code_of_all program this names parts (length (on x code)))
        (λ j. index_code (is_point_type (syntactic_type program this x)) (how_many parts) p) (all_is parts (on x code)))
    walked_is _ code = refl

    pub all_is : (xs : NumberedExps) (code : List Instr) → append_exprs program this names xs code ≡ code ++ code_of_all program this names xs (length code)
    all_is e.NoExp code = sym (append-nil code)
    all_is (e.MoreExp x xs) code =
        further code (on x code) (append_exprs program this names xs (on x code)) (of x (length code)) (code_of_all program this names xs) (walked_is x code) (all_is xs (on x code))

    pub range_is : (r : NumberedRange) (code : List Instr) → append_range program this names r code ≡ code ++ code_of_range program this names r (length code)
    range_is (e.Plain low high) code =
        further code (on low code) (append_range program this names (e.Plain low high) code) (of low (length code)) (λ j. of high j ++ i.Step ∷ []) (walked_is low code)
        (two (on low code) (on high (on low code)) (of high (length (on low code))) (λ j. i.Step ∷ []) (walked_is high (on low code)))
    range_is (e.Stepped low high step) code =
        further code (on low code) (append_range program this names (e.Stepped low high step) code) (of low (length code)) (λ j. of high j ++ of step (pc_after j (of high j))) (walked_is low code)
        (further (on low code) (on high (on low code)) (on step (on high (on low code))) (of high (length (on low code))) (of step)
        (walked_is high (on low code)) (walked_is step (on high (on low code))))

    pub ranges_is : (rs : NumberedRanges) (code : List Instr) → append_ranges program this names rs code ≡ code ++ code_of_ranges program this names rs (length code)
    ranges_is e.NoRange code = sym (append-nil code)
    ranges_is (e.MoreRange r rs) code =
        further code (append_range program this names r code) (append_ranges program this names rs (append_range program this names r code)) (code_of_range program this names r (length code))
        (code_of_ranges program this names rs) (range_is r code) (ranges_is rs (append_range program this names r code))
