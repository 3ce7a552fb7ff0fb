-- Code with that of expressions appended, as it is generated.
use Rattle.std.specs.Prelude.{ℕ, ◌+◌, Bool, List, [], ◌∷◌, ◌++◌, length, set, false, Option, None, unwrap_or, option_and_then}
use Rattle.ti_base.specs.declared.place.Place.{Place}
use Rattle.ti_base.specs.declared.value.Value.TheVariants as v
use Rattle.ti_lang.specs.Program.Expressions.{NumberedExp, NumberedExps, NumberedRange, NumberedRanges}
use Rattle.ti_lang.specs.Program.Expressions as e
use Rattle.ti_lang.specs.Program.Classes.{ProgramView}
use Rattle.ti_lang.specs.Typing.Kinds.{is_local, is_point_type, class_of_type}
use Rattle.ti_lang.specs.Typing.Declared.{field_numbered}
use Rattle.ti_lang.specs.Typing.Called.{member_called}
use Rattle.ti_lang.specs.Typing.TextTypes.{syntactic_type, how_many}
use Rattle.ti_code.specs.declared.instr.Instr.{Instr}
use Rattle.ti_code.specs.declared.instr.Instr.TheVariants as i
use Rattle.ti_code.specs.declared.instr.Operation.{Operation}
use Rattle.ti_lower_expr.specs.Slots.{Name, find_slot, has_this}
use Rattle.ti_lower_expr.specs.declared.kinds.ShortCircuit.{ShortCircuit}
use Rattle.ti_lower_expr.specs.declared.kinds.ShortCircuit.TheVariants.{Never, Where}
use Rattle.ti_lower_expr.specs.Knowing.{known_of}
use Rattle.ti_lower_expr.specs.Coding as coding

-- Completes the jumps around a right operand once their targets are known; `jump` is the position of the first of them.
abbrev pub around : Bool → ℕ → List Instr → List Instr
around left jump code = set code jump (coding.jump_where left (length code + 1)) ++ i.Jump (length code + 2) ∷ i.Const (v.Bool left) ∷ []

-- Code with the right operand of an operator and the operator appended, given the code with its left operand.
abbrev pub append_operator : ShortCircuit → Operation → Place → (List Instr → List Instr) → List Instr → List Instr
append_operator Never name p right code = right code ++ i.Operate name p ∷ []
append_operator (Where left) name p right code = around left (length code) (right (code ++ coding.jump_where left 0 ∷ []))

module _ (program : ProgramView) (this : Option ℕ) (names : List Name) where
  abbrev mutual
    -- Code with that of an expression appended.
    pub append_expr : NumberedExp → List Instr → List Instr
    append_expr (e.Int p n) code = code ++ i.Const (v.Int n) ∷ []
    append_expr (e.Long p n) code = code ++ i.Const (v.Long n) ∷ []
    append_expr (e.Truth p x) code = code ++ i.Const (v.Bool x) ∷ []
    append_expr (e.Null p) code = code ++ i.Const (v.Obj None) ∷ []
    append_expr (e.This p) code = code ++ coding.load_this (has_this names) ∷ []
    append_expr (e.Variable p x) code = code ++ coding.load_variable (find_slot x names) x ∷ []
    append_expr (e.OwnField p field) code = code ++ coding.load_this (has_this names) ∷ [] ++ i.GetField field p ∷ []
    append_expr (e.ThisProc p) code = code ++ i.ThisProc ∷ []
    append_expr (e.NumProcs p) code = code ++ i.NumProcs ∷ []
    append_expr (e.Point p parts) code = append_exprs parts code ++ i.MakePt (how_many parts) ∷ []
    append_expr (e.Rect p ranges) code =
        append_ranges ranges code ++ coding.rect_instr (coding.kind_of_ranges program this ranges) (coding.how_many_ranges ranges) p ∷ []
    append_expr (e.Unary p op x) code = append_expr x code ++ coding.unary_code op
    append_expr (e.Binary p op x y) code = append_operator (coding.short_circuit_of op) (coding.operation_in program this op x y) p (append_expr y) (append_expr x code)
    append_expr (e.Cast p type x) code =
        append_expr x code ++ coding.conversion p type.type (known_of program this x) ++ coding.local_test p (is_local type.type)
    append_expr (e.Select p x name) code =
        append_expr x code ++ i.GetField (unwrap_or (option_and_then (field_numbered program name) (class_of_type (syntactic_type program this x)))
        0) p ∷ []
    append_expr (e.Member p x name args) code =
        append_exprs args (append_expr x code) ++ coding.member_code (member_called program this x name) (how_many args) p
    append_expr (e.Index p x parts) code =
        append_exprs parts (append_expr x code) ++ coding.index_code (is_point_type (syntactic_type program this x)) (how_many parts) p
    append_expr (e.Call p method args) code = code ++ i.Const (v.Bool false) ∷ []
    append_expr (e.OwnCall p method args) code = code ++ i.Const (v.Bool false) ∷ []

    pub append_exprs : NumberedExps → List Instr → List Instr
    append_exprs e.NoExp code = code
    append_exprs (e.MoreExp x xs) code = append_exprs xs (append_expr x code)

    pub append_range : NumberedRange → List Instr → List Instr
    append_range (e.Plain low high) code = append_expr high (append_expr low code) ++ i.Step ∷ []
    append_range (e.Stepped low high step) code = append_expr step (append_expr high (append_expr low code))

    pub append_ranges : NumberedRanges → List Instr → List Instr
    append_ranges e.NoRange code = code
    append_ranges (e.MoreRange r rs) code = append_ranges rs (append_range r code)
