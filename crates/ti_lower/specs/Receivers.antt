-- The code that stores a value where it is needed.
use Rattle.std.specs.Prelude.{ℕ, ◌+◌, false, List, [], ◌∷◌, ◌++◌, length, Option, Some, None}
use Rattle.std.specs.Prelude.{unwrap_or, option_and_then}
use Rattle.ti_base.specs.declared.place.Place.{Place}
use Rattle.ti_base.specs.declared.value.Value.TheVariants as v
use Rattle.ti_syntax.specs.declared.tree.exprs.BinaryOperator.{BinaryOperator}
use Rattle.ti_lang.specs.Program.Types.{ValueType, VariableUse, Typed}
use Rattle.ti_lang.specs.Program.Types as t
use Rattle.ti_lang.specs.Program.Expressions.{NumberedExp, place_of_numbered}
use Rattle.ti_lang.specs.Program.Expressions as e
use Rattle.ti_lang.specs.Program.Classes.{ProgramView}
use Rattle.ti_lang.specs.Typing.Kinds.{class_of_type}
use Rattle.ti_lang.specs.Typing.Declared.{field_numbered}
use Rattle.ti_lang.specs.Typing.TextTypes.{syntactic_type, how_many}
use Rattle.ti_lang.specs.Meaning.Processes.{Receiver, Nowhere, Declared, Assigned, Updated}
use Rattle.ti_lang.specs.Meaning.Scoping.{declared_type}
use Rattle.ti_code.specs.declared.instr.Instr.{Instr}
use Rattle.ti_code.specs.declared.instr.Instr.TheVariants as i
use Rattle.ti_code.specs.declared.instr.Operation.{Operation}
use Rattle.ti_code.specs.Leading.{pc_after}
use Rattle.ti_lower_expr.specs.Slots.{Name, Of, Hidden, find_by, has_this}
use Rattle.ti_lower_expr.specs.declared.kinds.OperandClass.{OperandClass}
use Rattle.ti_lower_expr.specs.declared.kinds.StaticRepr.{StaticRepr}
use Rattle.ti_lower_expr.specs.declared.kinds.StaticRepr.TheVariants as known
use Rattle.ti_lower_expr.specs.Knowing.{known_declared, operated_known}
use Rattle.ti_lower_expr.specs.Coding.{kind_of_type, operation, conversion, load_variable, load_this, code_of, code_of_all}

-- ---- variables

-- The slot of a variable that is written.
abbrev pub written_slot : VariableUse → List Name → Option ℕ
written_slot x names = find_by (Typed false t.Void) x names

-- A value is stored in the slot of a variable; if there is no slot, it is dropped.
abbrev pub keep_code : Option ℕ → Instr
keep_code (Some k) = i.Keep k
keep_code None = i.Pop

-- The names of the slots after a value is stored.
abbrev pub names_behind : Receiver → List Name → List Name
names_behind (Declared p x) names = Of x ∷ names
names_behind r names = names

-- ---- targets

-- The target of an assignment: a slot, a field, or an element.
pub data TargetKind : Type 0 where
  InSlot : (x : VariableUse) → TargetKind
  InField : (field : ℕ) → TargetKind
  InElement : TargetKind

-- Stores the top operand; the reference and the index of the target are below it.
abbrev pub store_code : List Name → Place → TargetKind → List Instr
store_code names p (InSlot x) = keep_code (written_slot x names) ∷ []
store_code names p (InField field) = i.PutField field p ∷ []
store_code names p InElement = i.PutElem p ∷ []

-- What is known of the value in a target: nothing, if it is a field or an element.
abbrev pub held_known : TargetKind → StaticRepr
held_known (InSlot x) = known_declared x.declared
held_known (InField field) = known.Other
held_known InElement = known.Other

-- A compound assignment: the target's value and the right side become its new value by an operator, of whose result this is known. The
-- right side's code is given for a position and names of slots, since the index of an element is kept in a temporary slot.
abbrev pub update_code : List Name → Place → Place → Operation → StaticRepr → ValueType → TargetKind → (List Name → ℕ → List Instr) → ℕ
    → List Instr
update_code names p q name k type (InSlot x) right at =
    load_variable (written_slot x names) x ∷ (right names (at + 1) ++ i.Operate name p ∷ (conversion p type k ++ store_code names p (InSlot x)))
update_code names p q name k type (InField field) right at =
    i.Dup ∷ i.GetField field q ∷ (right names (at + 1 + 1) ++ i.Operate name p
    ∷ (conversion p type k ++ store_code names p (InField field)))
update_code names p q name k type InElement right at =
    let n = length names in
    i.Keep n ∷ i.Dup ∷ i.Load n ∷ i.GetElem q ∷ (right (Hidden ∷ names) (at + 1 + 1 + 1 + 1) ++ i.Operate name p
    ∷ (conversion p type k ++ i.Keep (n + 1) ∷ i.Load n ∷ i.Load (n + 1) ∷ i.PutElem p ∷ i.Trim n ∷ []))

module _ (program : ProgramView) (this : Option ℕ) where
  -- The number of the field that `x.f` denotes.
  abbrev pub field_in : NumberedExp → ℕ → ℕ
  field_in x name = unwrap_or (option_and_then (field_numbered program name) (class_of_type (syntactic_type program this x))) 0

  abbrev pub kind_of_target : NumberedExp → TargetKind
  kind_of_target (e.Variable q x) = InSlot x
  kind_of_target (e.OwnField q field) = InField field
  kind_of_target (e.Select q x name) = InField (field_in x name)
  kind_of_target (e.Index q x parts) = InElement
  kind_of_target other = InField 0

  -- The reference and the index of a target.
  abbrev pub place_code : List Name → NumberedExp → ℕ → List Instr
  place_code names (e.Variable q x) at = []
  place_code names (e.OwnField q field) at = load_this (has_this names) ∷ []
  place_code names (e.Select q x name) at = code_of program this names x at
  place_code names (e.Index q x parts) at =
      code_of program this names x at ++ (code_of_all program this names parts (pc_after at (code_of program this names x at))
      ++ i.MakePt (how_many parts) ∷ [])
  place_code names other at = i.Const (v.Bool false) ∷ []

  -- The operator's name in a compound assignment whose right operand has this kind.
  abbrev pub updating : BinaryOperator → NumberedExp → OperandClass → Operation
  updating op target right = operation op (kind_of_type (syntactic_type program this target)) right

  -- A right side, of whose value this is known, is evaluated and stored.
  abbrev pub into_code : Receiver → OperandClass → StaticRepr → (List Name → ℕ → List Instr) → List Name → ℕ → List Instr
  into_code Nowhere kind k right names at = right names at ++ i.Pop ∷ []
  into_code (Declared p x) kind k right names at =
      right names at ++ (conversion p (declared_type x.declared) k ++ i.Keep (length names) ∷ [])
  into_code (Assigned p target) kind k right names at =
      place_code names target at ++ (right names (pc_after at (place_code names target at))
      ++ (conversion p (syntactic_type program this target) k ++ store_code names p (kind_of_target target)))
  into_code (Updated p op target) kind k right names at =
      place_code names target at ++ update_code names p (place_of_numbered target) (updating op target kind)
      (operated_known op (held_known (kind_of_target target)) k) (syntactic_type program this target)
      (kind_of_target target) right (pc_after at (place_code names target at))

  -- Spills a value to a temporary slot while its target is evaluated.
  abbrev pub waiting_code : Receiver → OperandClass → StaticRepr → List Name → ℕ → List Instr
  waiting_code r kind k names at =
      i.Keep (length names)
      ∷ (into_code r kind k (λ ns from. i.Load (length names) ∷ []) (Hidden ∷ names) (at + 1) ++ i.Trim (length names) ∷ [])

  -- Stores the value of a call, a `new` or a collective, which is on top already.
  abbrev pub late_code : Receiver → OperandClass → StaticRepr → List Name → ℕ → List Instr
  late_code Nowhere kind k names at = i.Pop ∷ []
  late_code (Declared p x) kind k names at = conversion p (declared_type x.declared) k ++ i.Keep (length names) ∷ []
  late_code (Assigned p (e.Variable q x)) kind k names at =
      conversion p (syntactic_type program this (e.Variable q x)) k ++ keep_code (written_slot x names) ∷ []
  late_code r kind k names at = waiting_code r kind k names at
