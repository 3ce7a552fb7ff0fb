-- Code with that of expressions, of stores, and of right sides appended.
use Rattle.std.specs.Prelude.{ℕ, ◌+◌, Bool, true, false, List, [], ◌∷◌, ◌++◌, length, set, Option, None, Some}
use Rattle.ti_base.specs.declared.place.Place.{Place}
use Rattle.ti_base.specs.declared.action.CollKind.TheVariants as coll
use Rattle.ti_base.specs.declared.value.Value.TheVariants as v
use Rattle.ti_syntax.specs.declared.tree.exprs.BinaryOperator.{BinaryOperator}
use Rattle.ti_lang.specs.Program.Types.{ValueType, VariableUse}
use Rattle.ti_lang.specs.Program.Expressions.{NumberedExp, NumberedExps, numbered_ranges, place_of_numbered}
use Rattle.ti_lang.specs.Program.Expressions as e
use Rattle.ti_lang.specs.Program.Statements.{NumberedDims, NumberedInit, NumberedPrint}
use Rattle.ti_lang.specs.Program.Statements as s
use Rattle.ti_lang.specs.Typing.BuiltIn.{BuiltIn, Copy, Exchange, Delete}
use Rattle.ti_lang.specs.Typing.Called.{called_method, member_called}
use Rattle.ti_lang.specs.Typing.Kinds.{is_void, element_of}
use Rattle.ti_lang.specs.Typing.Declared.{result_type}
use Rattle.ti_lang.specs.Typing.TextTypes.{syntactic_type, how_many}
use Rattle.ti_lang.specs.Meaning.Calls.{Call, call_by, parameters_of}
use Rattle.ti_lang.specs.Meaning.Processes.{Receiver, Nowhere, Declared, Assigned, Updated}
use Rattle.ti_lang.specs.Meaning.Scoping.{declared_type}
use Rattle.ti_lang.specs.Meaning.Zeros.{zero_of_type}
use Rattle.ti_code.specs.declared.instr.Instr.{Instr}
use Rattle.ti_code.specs.declared.instr.Instr.TheVariants as i
use Rattle.ti_code.specs.declared.instr.Operation.{Operation}
use Rattle.ti_code.specs.declared.instr.Operation.TheVariants as o
use Rattle.ti_lower_expr.specs.Slots.{has_this}
use Rattle.ti_lower_expr.specs.declared.kinds.OperandClass.{OperandClass}
use Rattle.ti_lower_expr.specs.declared.kinds.OperandClass.TheVariants.{Numbers}
use Rattle.ti_lower_expr.specs.declared.kinds.StaticRepr.{StaticRepr}
use Rattle.ti_lower_expr.specs.declared.kinds.StaticRepr.TheVariants as known
use Rattle.ti_lower_expr.specs.Knowing.{known_of, operated_known}
use Rattle.ti_lower_expr.specs.Coding.{code_of, conversion, operation}
use Rattle.ti_lower_expr.specs.Coding.{load_variable, load_this, kind_in}
use Rattle.ti_lower.specs.Calling.{number_called}
use Rattle.ti_lower.specs.Receivers.{TargetKind, InSlot, InField, InElement, written_slot, keep_code, store_code, held_known, updating, kind_of_target}
use Rattle.ti_lower.specs.StmtCode.{as_element, first_code, elements_code, copied_code, taken_code, grids_code, team_code, gives_nothing}
use Rattle.ti_lower.specs.declared.values.StoreSource.{StoreSource}
use Rattle.ti_lower.specs.Mirrors.Positions.{Where, Source, Computed, Kept, with_temporary}
use Rattle.ti_lower.specs.Mirrors.Positions.{source_of, source_kind, source_known}

-- ---- expressions

abbrev pub value_on : Where → NumberedExp → List Instr → List Instr
value_on w x code = code ++ code_of w.program w.this w.names x (length code)

abbrev pub values_on : Where → NumberedExps → List Instr → List Instr
values_on w e.NoExp code = code
values_on w (e.MoreExp x xs) code = values_on w xs (value_on w x code)

abbrev pub source_on : Where → Source → List Instr → List Instr
source_on w (Computed x) code = value_on w x code
source_on w (Kept k) code = code ++ i.Load k ∷ []

-- ---- targets

abbrev pub place_on : Where → NumberedExp → List Instr → List Instr
place_on w (e.Variable q x) code = code
place_on w (e.OwnField q field) code = code ++ load_this (has_this w.names) ∷ []
place_on w (e.Select q x name) code = value_on w x code
place_on w (e.Index q x parts) code = values_on w parts (value_on w x code) ++ i.MakePt (how_many parts) ∷ []
place_on w other code = code ++ i.Const (v.Bool false) ∷ []

-- The top operand is stored in a target.
abbrev pub stored_on : Where → Place → ValueType → StaticRepr → TargetKind → List Instr → List Instr
stored_on w p type k target code = code ++ conversion p type k ++ store_code w.names p target

-- A right side, and an operator on it and the operand below it.
abbrev pub operated_on : Where → Place → Operation → Source → List Instr → List Instr
operated_on w p name right code = source_on w right code ++ i.Operate name p ∷ []

abbrev pub update_on : Where → Place → Place → Operation → StaticRepr → ValueType → TargetKind → Source → List Instr → List Instr
update_on w p q name k type (InSlot x) right code =
    stored_on w p type k (InSlot x) (operated_on w p name right (code ++ load_variable (written_slot x w.names) x ∷ []))
update_on w p q name k type (InField field) right code =
    stored_on w p type k (InField field) (operated_on w p name right (code ++ i.Dup ∷ i.GetField field q ∷ []))
update_on w p q name k type InElement right code =
    operated_on (with_temporary w) p name right (code ++ i.Keep (length w.names) ∷ i.Dup ∷ i.Load (length w.names) ∷ i.GetElem q ∷ [])
    ++ conversion p type k
    ++ i.Keep (length w.names + 1) ∷ i.Load (length w.names) ∷ i.Load (length w.names + 1) ∷ i.PutElem p ∷ i.Trim (length w.names) ∷ []

-- ---- stores

-- The top operand is stored in a new variable.
abbrev pub declared_on : Where → Place → ValueType → StaticRepr → List Instr → List Instr
declared_on w p type k code = code ++ conversion p type k ++ i.Keep (length w.names) ∷ []

-- A right side is stored in the target of an assignment.
abbrev pub assigned_on : Where → Place → NumberedExp → StaticRepr → Source → List Instr → List Instr
assigned_on w p target k right code =
    stored_on w p (syntactic_type w.program w.this target) k (kind_of_target w.program w.this target)
    (source_on w right (place_on w target code))

abbrev pub into_on : Where → Receiver → OperandClass → StaticRepr → Source → List Instr → List Instr
into_on w Nowhere kind k right code = source_on w right code ++ i.Pop ∷ []
into_on w (Declared p x) kind k right code = declared_on w p (declared_type x.declared) k (source_on w right code)
into_on w (Assigned p target) kind k right code = assigned_on w p target k right code
into_on w (Updated p op target) kind k right code =
    update_on w p (place_of_numbered target) (updating w.program w.this op target kind)
    (operated_known op (held_known (kind_of_target w.program w.this target)) k) (syntactic_type w.program w.this target)
    (kind_of_target w.program w.this target) right (place_on w target code)

-- The same from a right side of the code: what is known of it follows from the source.
abbrev pub update_from : Where → Place → Place → BinaryOperator → OperandClass → StaticRepr
    → ValueType → TargetKind → StoreSource → List Instr → List Instr
update_from w p q op left held type target right code =
    update_on w p q (operation op left (source_kind w.program w.this right))
    (operated_known op held (source_known w.program w.this right)) type target (source_of right)
    code

abbrev pub into_from : Where → Receiver → StoreSource → List Instr → List Instr
into_from w r right code =
    into_on w r (source_kind w.program w.this right) (source_known w.program w.this right)
    (source_of right) code

abbrev pub spill_on : Where → Receiver → OperandClass → StaticRepr → List Instr → List Instr
spill_on w r kind k code =
    into_on (with_temporary w) r kind k (Kept (length w.names)) (code ++ i.Keep (length w.names) ∷ []) ++ i.Trim (length w.names) ∷ []

abbrev pub store_result_on : Where → Receiver → OperandClass → StaticRepr → List Instr → List Instr
store_result_on w Nowhere kind k code = code ++ i.Pop ∷ []
store_result_on w (Declared p x) kind k code = declared_on w p (declared_type x.declared) k code
store_result_on w (Assigned p (e.Variable q x)) kind k code =
    code ++ conversion p (syntactic_type w.program w.this (e.Variable q x)) k ++ keep_code (written_slot x w.names) ∷ []
store_result_on w r kind k code = spill_on w r kind k code

-- ---- calls

abbrev pub arg_on : Where → ValueType → NumberedExp → List Instr → List Instr
arg_on w type x code = value_on w x code ++ conversion (place_of_numbered x) type (known_of w.program w.this x)

abbrev pub args_on : Where → List VariableUse → NumberedExps → List Instr → List Instr
args_on w (p ∷ ps) (e.MoreExp x xs) code = args_on w ps xs (arg_on w (declared_type p.declared) x code)
args_on w ps xs code = code

abbrev pub object_on : Where → Option NumberedExp → List Instr → List Instr
object_on w None code = code
object_on w (Some x) code = value_on w x code

abbrev pub call_on : Where → ℕ → Call → List Instr → List Instr
call_on w k c code = args_on w (parameters_of c.method.params) c.args (object_on w c.object code) ++ i.Call k c.place ∷ []

-- ---- right sides

abbrev pub valued_on : Where → Receiver → NumberedExp → Option Call → List Instr → List Instr
valued_on w r x None code = into_on w r (kind_in w.program w.this x) (known_of w.program w.this x) (Computed x) code
valued_on w r x (Some c) code = store_result_on w r (kind_in w.program w.this x) known.Other (call_on w (number_called w.program w.this x) c code)

abbrev pub region_on : Where → Option NumberedExp → List Instr → List Instr
region_on w None code = code ++ i.Const (v.Region 0) ∷ []
region_on w (Some x) code = value_on w x code

abbrev pub spread_on : Where → Place → NumberedDims → List Instr → List Instr
spread_on w p (s.Domain x) code = value_on w x code
spread_on w p (s.Ranges ranges) code = value_on w (e.Rect p (numbered_ranges ranges)) code

-- The jump around the right side of a broadcast, once its target is known.
abbrev pub root_on : Where → Place → NumberedExp → List Instr → List Instr
root_on w p x code =
    let start = code ++ i.RootTest p ∷ i.Dup ∷ i.ThisProc ∷ i.Operate o.Eq p ∷ [] in
    let inner = value_on w x (start ++ i.JumpIfNot 0 ∷ []) in
    set inner (length start) (i.JumpIfNot (length inner + 1))
    ++ i.Jump (length inner + 2) ∷ i.Const (v.Bool false) ∷ i.Arrive coll.Broadcast p ∷ i.Depart p ∷ []

abbrev pub init_on : Where → Receiver → NumberedInit → List Instr → List Instr
init_on w r (s.Value x) code = valued_on w r x (call_by x (called_method w.program w.this x)) code
init_on w r (s.NewRegion p) code = store_result_on w r Numbers known.Other (code ++ i.Arrive coll.MakeRegion p ∷ i.Depart p ∷ [])
init_on w r (s.NewObject p region class) code = store_result_on w r Numbers known.Other (region_on w region code ++ i.NewObj class p ∷ [])
init_on w r (s.NewGrid p region element q dims) code =
    store_result_on w r Numbers known.Other (spread_on w q dims (region_on w region code) ++ i.NewGrid (zero_of_type element.type) p ∷ [])
init_on w r (s.Broadcast p x root) code = store_result_on w r (kind_in w.program w.this x) known.Other (root_on w p x (value_on w root code))

-- ---- expression statements

abbrev pub both_on : Where → NumberedExp → NumberedExps → List Instr → List Instr
both_on w x args code = values_on w args (value_on w x code) ++ first_code (how_many args)

-- A loop over the points of the domain on top.
abbrev pub elements_on : Place → ℕ → List Instr → List Instr → List Instr
elements_on p n read code = code ++ elements_code p n read (length code)

abbrev pub grids_on : Place → ℕ → List Instr → List Instr
grids_on p n code = code ++ grids_code p n (length code)

abbrev pub copy_on : Where → Place → NumberedExp → NumberedExps → List Instr → List Instr
copy_on w p x args code =
    elements_on p (length w.names) (copied_code p (length w.names)) (grids_on p (length w.names) (both_on w x args code))

abbrev pub exchange_on : Where → Place → NumberedExp → NumberedExps → List Instr → List Instr
exchange_on w p x args code =
    elements_on p (length w.names) (taken_code p (length w.names))
    (both_on w x args code ++ as_element (element_of (syntactic_type w.program w.this x)) ++ team_code p (length w.names))

abbrev pub form_on : Where → Option BuiltIn → Place → NumberedExp → NumberedExps → NumberedExp → List Instr → List Instr
form_on w (Some Copy) p x args whole code = copy_on w p x args code
form_on w (Some Exchange) p x args whole code = exchange_on w p x args code
form_on w (Some Delete) p x args whole code = value_on w x code ++ i.Arrive coll.DeleteRegion p ∷ i.Depart p ∷ []
form_on w m p x args whole code = value_on w whole code ++ i.Pop ∷ []

abbrev pub other_on : Where → NumberedExp → List Instr → List Instr
other_on w (e.Member p x name args) code = form_on w (member_called w.program w.this x name) p x args (e.Member p x name args) code
other_on w x code = value_on w x code ++ i.Pop ∷ []

abbrev pub alone_on : Where → Bool → NumberedExp → Option Call → List Instr → List Instr
alone_on w is_void x None code = other_on w x code
alone_on w true x (Some c) code = call_on w (number_called w.program w.this x) c code
alone_on w false x (Some c) code = call_on w (number_called w.program w.this x) c code ++ i.Pop ∷ []

abbrev pub nothing_in : Call → Bool
nothing_in c = is_void (result_type c.method)

abbrev pub stands_on : Where → NumberedExp → List Instr → List Instr
stands_on w x code =
    alone_on w (gives_nothing w.program w.this (call_by x (called_method w.program w.this x))) x
    (call_by x (called_method w.program w.this x)) code

-- ---- prints

abbrev pub print_on : Where → Place → NumberedPrint → List Instr → List Instr
print_on w p s.Nothing code = code ++ i.Print None false p ∷ []
print_on w p (s.Text literal) code = code ++ i.Print (Some literal) false p ∷ []
print_on w p (s.Expression x) code = value_on w x code ++ i.Print None true p ∷ []
print_on w p (s.TextAndExpression literal x) code = value_on w x code ++ i.Print (Some literal) true p ∷ []

-- ---- returns

abbrev pub returned_on : Where → Place → ValueType → Option NumberedExp → List Instr → List Instr
returned_on w p result None code = code ++ i.Return ∷ []
returned_on w p result (Some x) code = value_on w x code ++ conversion p result (known_of w.program w.this x) ++ i.ReturnValue ∷ []
