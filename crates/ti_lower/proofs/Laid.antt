-- Proves that what the generator appends is the code of expressions, stores and right sides.
use Rattle.std.proofs.Common.{◌≡◌, ◌∙◌, refl, sym, ap, ℕ, ◌+◌, Bool, true, false, List, [], ◌∷◌, ◌++◌, length, set, append_assoc, arith, Option, Some, None}
use Rattle.std.proofs.Math.Seq.{set-append_seam}
use Rattle.std.proofs.lemmas.List.{length-append, append-nil}
use Rattle.ti_base.specs.declared.place.Place.{Place}
use Rattle.ti_base.specs.declared.action.CollKind.TheVariants as coll
use Rattle.ti_base.specs.declared.value.Value.TheVariants as v
use Rattle.ti_lang.specs.Program.Types.{ValueType, VariableUse}
use Rattle.ti_lang.specs.Program.Expressions.{NumberedExp, NumberedExps, numbered_ranges, place_of_numbered}
use Rattle.ti_lang.specs.Program.Expressions as e
use Rattle.ti_lang.specs.Program.Statements.{NumberedDims, NumberedInit, NumberedPrint}
use Rattle.ti_lang.specs.Program.Statements as s
use Rattle.ti_lang.specs.Program.Classes.{ProgramView}
use Rattle.ti_lang.specs.Typing.BuiltIn.{BuiltIn, Copy, Exchange, Delete}
use Rattle.ti_lang.specs.Typing.Called.{called_method, member_called}
use Rattle.ti_lang.specs.Typing.Kinds.{element_of}
use Rattle.ti_lang.specs.Typing.TextTypes.{syntactic_type, how_many}
use Rattle.ti_lang.specs.Meaning.Calls.{Call, call_by, parameters_of}
use Rattle.ti_lang.specs.Meaning.Processes.{Receiver, Nowhere, Declared, Assigned, Updated}
use Rattle.ti_lang.specs.Meaning.Scoping.{declared_type}
use Rattle.ti_lang.specs.Meaning.Zeros.{zero_of_type}
use Rattle.ti_code.specs.declared.instr.Instr.{Instr}
use Rattle.ti_code.specs.declared.instr.Instr.TheVariants as i
use Rattle.ti_code.specs.declared.instr.Operation.{Operation}
use Rattle.ti_code.specs.declared.instr.Operation.TheVariants as o
use Rattle.ti_code.specs.Leading.{pc_after}
use Rattle.ti_lower_expr.specs.Slots.{Name, has_this}
use Rattle.ti_lower_expr.specs.declared.kinds.OperandClass.{OperandClass}
use Rattle.ti_lower_expr.specs.declared.kinds.OperandClass.TheVariants.{Numbers}
use Rattle.ti_lower_expr.specs.declared.kinds.StaticRepr.{StaticRepr}
use Rattle.ti_lower_expr.specs.declared.kinds.StaticRepr.TheVariants as known
use Rattle.ti_lower_expr.specs.Knowing.{known_of, operated_known}
use Rattle.ti_lower_expr.specs.Coding.{kind_in, code_of, code_of_all, conversion, load_variable, load_this}
use Rattle.ti_lower_expr.proofs.Lemmas.{behind_counts, two}
use Rattle.ti_lower.specs.Calling.{number_called, args_code, object_code, call_code}
use Rattle.ti_lower.specs.Receivers.{TargetKind, InSlot, InField, InElement, written_slot, keep_code, store_code, update_code, held_known, updating, kind_of_target, place_code, into_code, waiting_code, late_code}
use Rattle.ti_lower.specs.StmtCode.{LoopTargets, first_code, as_element, elements_code, copied_code, taken_code, grids_code, team_code, print_code, root_code, region_code, spread_code, valued_code, init_code, both_code, copy_code, exchange_code, form_code, other_code, alone_code, gives_nothing, stm_code}
use Rattle.ti_lower.specs.Mirrors.Positions.{Where, Source, Computed, Kept, with_temporary}
use Rattle.ti_lower.specs.Mirrors.Values.{value_on, values_on, source_on, place_on, update_on, into_on, spill_on, store_result_on, args_on}
use Rattle.ti_lower.specs.Mirrors.Values.{object_on, call_on, valued_on, region_on, spread_on, root_on, init_on, both_on, elements_on}
use Rattle.ti_lower.specs.Mirrors.Values.{grids_on, copy_on, exchange_on, form_on, other_on, alone_on, stands_on, print_on, returned_on}

-- ---- what is written behind code

-- behind any code such code is written, which is told by the number of instructions before it
pub record Laid (written : List Instr → List Instr) (laid : ℕ → List Instr) : Type 0 where
  pub is : (code : List Instr) → written code ≡ code ++ laid (length code)

-- one behind the other
pub after : {a b : List Instr → List Instr} {f g : ℕ → List Instr} → Laid a f → Laid b g → Laid (λ code. b (a code)) (λ at. f at ++ g (pc_after at (f at)))
after {a = a} {b = b} {f = f} {g = g} p q = record { is = λ code. q.is (a code) ∙ two code (a code) (f (length code)) g (p.is code) }

pub fixed : (xs : List Instr) → Laid (λ code. code ++ xs) (λ at. xs)
fixed xs = record { is = λ code. refl }

pub nothing : Laid (λ code. code) (λ at. [])
nothing = record { is = λ code. sym (append-nil code) }

-- the code of a right side, from an instruction on, where slots have these names
abbrev pub right_code : ProgramView → Option ℕ → Source → List Name → ℕ → List Instr
right_code program this (Computed x) = λ ns from. code_of program this ns x from
right_code program this (Kept k) = λ ns from. i.Load k ∷ []

-- ---- expressions

pub value : (w : Where) (x : NumberedExp) → Laid (value_on w x) (code_of w.program w.this w.names x)
value w x = record { is = λ code. refl }

pub values : (w : Where) (xs : NumberedExps) → Laid (values_on w xs) (code_of_all w.program w.this w.names xs)
values w e.NoExp = nothing
values w (e.MoreExp x xs) = after (value w x) (values w xs)

pub source : (w : Where) (right : Source) → Laid (source_on w right) (right_code w.program w.this right w.names)
source w (Computed x) = value w x
source w (Kept k) = fixed (i.Load k ∷ [])

-- ---- targets

pub place : (w : Where) (x : NumberedExp) → Laid (place_on w x) (place_code w.program w.this w.names x)
place w (e.Variable q x) = nothing
place w (e.OwnField q field) = fixed (load_this (has_this w.names) ∷ [])
place w (e.Select q x name) = value w x
place w (e.Index q x parts) = after (value w x) (after (values w parts) (fixed (i.MakePt (how_many parts) ∷ [])))
place w other = fixed (i.Const (v.Bool false) ∷ [])

pub update : (w : Where) (p q : Place) (name : Operation) (k : StaticRepr) (type : ValueType) (target : TargetKind) (right : Source)
    → Laid (update_on w p q name k type target right) (update_code w.names p q name k type target (right_code w.program w.this right))
update w p q name k type (InSlot x) right =
    after (fixed (load_variable (written_slot x w.names) x ∷ [])) (after (source w right) (after (fixed (i.Operate name p ∷ []))
    (after (fixed (conversion p type k)) (fixed (store_code w.names p (InSlot x))))))
update w p q name k type (InField field) right =
    after (fixed (i.Dup ∷ i.GetField field q ∷ [])) (after (source w right) (after (fixed (i.Operate name p ∷ []))
    (after (fixed (conversion p type k)) (fixed (store_code w.names p (InField field))))))
update w p q name k type InElement right =
    let n = length w.names in
    after (fixed (i.Keep n ∷ i.Dup ∷ i.Load n ∷ i.GetElem q ∷ [])) (after (source (with_temporary w) right) (after (fixed (i.Operate name p ∷ []))
    (after (fixed (conversion p type k)) (fixed (i.Keep (n + 1) ∷ i.Load n ∷ i.Load (n + 1) ∷ i.PutElem p ∷ i.Trim n ∷ [])))))

-- ---- ways of values

pub into : (w : Where) (r : Receiver) (kind : OperandClass) (k : StaticRepr) (right : Source)
    → Laid (into_on w r kind k right) (into_code w.program w.this r kind k (right_code w.program w.this right) w.names)
into w Nowhere kind k right = after (source w right) (fixed (i.Pop ∷ []))
into w (Declared p x) kind k right =
    after (source w right) (after (fixed (conversion p (declared_type x.declared) k)) (fixed (i.Keep (length w.names) ∷ [])))
into w (Assigned p target) kind k right =
    after (place w target) (after (source w right)
    (after (fixed (conversion p (syntactic_type w.program w.this target) k)) (fixed (store_code w.names p (kind_of_target w.program w.this target)))))
into w (Updated p op target) kind k right =
    after (place w target) (update w p (place_of_numbered target) (updating w.program w.this op target kind)
    (operated_known op (held_known (kind_of_target w.program w.this target)) k) (syntactic_type w.program w.this target)
    (kind_of_target w.program w.this target) right)

pub waiting : (w : Where) (r : Receiver) (kind : OperandClass) (k : StaticRepr) → Laid (spill_on w r kind k) (waiting_code w.program w.this r kind k w.names)
waiting w r kind k =
    after (fixed (i.Keep (length w.names) ∷ [])) (after (into (with_temporary w) r kind k (Kept (length w.names))) (fixed (i.Trim (length w.names) ∷ [])))

pub late : (w : Where) (r : Receiver) (kind : OperandClass) (k : StaticRepr) → Laid (store_result_on w r kind k) (late_code w.program w.this r kind k w.names)
late w Nowhere kind k = fixed (i.Pop ∷ [])
late w (Declared p x) kind k = after (fixed (conversion p (declared_type x.declared) k)) (fixed (i.Keep (length w.names) ∷ []))
late w (Assigned p (e.Variable q x)) kind k =
    after (fixed (conversion p (syntactic_type w.program w.this (e.Variable q x)) k)) (fixed (keep_code (written_slot x w.names) ∷ []))
late w r kind k = waiting w r kind k

-- ---- calls

pub args : (w : Where) (ps : List VariableUse) (xs : NumberedExps) → Laid (args_on w ps xs) (args_code w.program w.this w.names ps xs)
args w (p ∷ ps) (e.MoreExp x xs) =
    after (after (value w x) (fixed (conversion (place_of_numbered x) (declared_type p.declared) (known_of w.program w.this x)))) (args w ps xs)
args w ps xs = nothing

pub object : (w : Where) (x : Option NumberedExp) → Laid (object_on w x) (object_code w.program w.this w.names x)
object w None = nothing
object w (Some x) = value w x

pub call : (w : Where) (k : ℕ) (c : Call) → Laid (call_on w k c) (call_code w.program w.this w.names k c)
call w k c = after (object w c.object) (after (args w (parameters_of c.method.params) c.args) (fixed (i.Call k c.place ∷ [])))

-- ---- right sides

pub valued : (w : Where) (r : Receiver) (x : NumberedExp) (c : Option Call) → Laid (valued_on w r x c) (valued_code w.program w.this r x c w.names)
valued w r x None = into w r (kind_in w.program w.this x) (known_of w.program w.this x) (Computed x)
valued w r x (Some c) = after (call w (number_called w.program w.this x) c) (late w r (kind_in w.program w.this x) known.Other)

pub region : (w : Where) (x : Option NumberedExp) → Laid (region_on w x) (region_code w.program w.this w.names x)
region w None = fixed (i.Const (v.Region 0) ∷ [])
region w (Some x) = value w x

pub spread : (w : Where) (p : Place) (dims : NumberedDims) → Laid (spread_on w p dims) (spread_code w.program w.this w.names p dims)
spread w p (s.Domain x) = value w x
spread w p (s.Ranges ranges) = value w (e.Rect p (numbered_ranges ranges))

-- an instruction that stands for another until it is known how long the code behind it is
changed : (m r last : List Instr) (old new : Instr) → set (m ++ old ∷ [] ++ r) (length m) new ++ last ≡ m ++ (new ∷ r ++ last)
changed m r last old new =
    ap (λ z. set z (length m) new ++ last) (append_assoc m (old ∷ []) r)
    ∙ ap (λ z. z ++ last) (set-append_seam m old r new)
    ∙ append_assoc m (new ∷ r) last

pub root_is : (w : Where) (p : Place) (x : NumberedExp) (code : List Instr) → root_on w p x code ≡ code ++ root_code w.program w.this p w.names x (length code)
root_is w p x code =
    let first = i.RootTest p ∷ i.Dup ∷ i.ThisProc ∷ i.Operate o.Eq p ∷ [] in
    let before = code ++ first in
    let of = code_of w.program w.this w.names x in
    let last = i.Const (v.Bool false) ∷ i.Arrive coll.Broadcast p ∷ i.Depart p ∷ [] in
    let at = length code + 1 + 1 + 1 + 1 + 1 in
    let here : length (before ++ i.JumpIfNot 0 ∷ []) ≡ at =
    length-append before (i.JumpIfNot 0 ∷ []) ∙ ap (λ n. n + 1) (length-append code first ∙ omega arith) in
    let long : length (before ++ i.JumpIfNot 0 ∷ [] ++ of at) ≡ pc_after at (of at) =
    length-append (before ++ i.JumpIfNot 0 ∷ []) (of at) ∙ ap (λ n. n + length (of at)) here ∙ sym (behind_counts at (of at)) in
    let further : pc_after at (of at) + 2 ≡ pc_after at (of at) + 1 + 1 = omega arith in
    ap (λ n. set (before ++ i.JumpIfNot 0 ∷ [] ++ of n) (length before) (i.JumpIfNot (length (before ++ i.JumpIfNot 0 ∷ [] ++ of n) + 1))
    ++ i.Jump (length (before ++ i.JumpIfNot 0 ∷ [] ++ of n) + 2) ∷ last) here
    ∙ ap (λ n. set (before ++ i.JumpIfNot 0 ∷ [] ++ of at) (length before) (i.JumpIfNot (n + 1)) ++ i.Jump (n + 2) ∷ last) long
    ∙ changed before (of at) (i.Jump (pc_after at (of at) + 2) ∷ last) (i.JumpIfNot 0) (i.JumpIfNot (pc_after at (of at) + 1))
    ∙ append_assoc code first (i.JumpIfNot (pc_after at (of at) + 1) ∷ of at ++ i.Jump (pc_after at (of at) + 2) ∷ last)
    ∙ ap (λ n. code ++ (first ++ (i.JumpIfNot (pc_after at (of at) + 1) ∷ of at ++ i.Jump n ∷ last))) further

pub root : (w : Where) (p : Place) (x : NumberedExp) → Laid (root_on w p x) (root_code w.program w.this p w.names x)
root w p x = record { is = root_is w p x }

pub init : (w : Where) (r : Receiver) (x : NumberedInit) → Laid (init_on w r x) (init_code w.program w.this r x w.names)
init w r (s.Value x) = valued w r x (call_by x (called_method w.program w.this x))
init w r (s.NewRegion p) = after (fixed (i.Arrive coll.MakeRegion p ∷ i.Depart p ∷ [])) (late w r Numbers known.Other)
init w r (s.NewObject p x class) = after (after (region w x) (fixed (i.NewObj class p ∷ []))) (late w r Numbers known.Other)
init w r (s.NewGrid p x element q dims) =
    after (after (region w x) (after (spread w q dims) (fixed (i.NewGrid (zero_of_type element.type) p ∷ [])))) (late w r Numbers known.Other)
init w r (s.Broadcast p x y) = after (after (value w y) (root w p x)) (late w r (kind_in w.program w.this x) known.Other)

-- ---- expressions that stand alone

pub both : (w : Where) (x : NumberedExp) (xs : NumberedExps) → Laid (both_on w x xs) (both_code w.program w.this w.names x xs)
both w x xs = after (value w x) (after (values w xs) (fixed (first_code (how_many xs))))

pub elements : (p : Place) (n : ℕ) (read : List Instr) → Laid (elements_on p n read) (elements_code p n read)
elements p n read = record { is = λ code. refl }

pub grids : (p : Place) (n : ℕ) → Laid (grids_on p n) (grids_code p n)
grids p n = record { is = λ code. refl }

pub copy : (w : Where) (p : Place) (x : NumberedExp) (xs : NumberedExps) → Laid (copy_on w p x xs) (copy_code w.program w.this p w.names x xs)
copy w p x xs = after (both w x xs) (after (grids p (length w.names)) (elements p (length w.names) (copied_code p (length w.names))))

pub exchange : (w : Where) (p : Place) (x : NumberedExp) (xs : NumberedExps) → Laid (exchange_on w p x xs) (exchange_code w.program w.this p w.names x xs)
exchange w p x xs =
    after (after (both w x xs) (fixed (as_element (element_of (syntactic_type w.program w.this x)))))
    (after (fixed (team_code p (length w.names))) (elements p (length w.names) (taken_code p (length w.names))))

pub dropped_value : (w : Where) (x : NumberedExp)
    → Laid (λ code. value_on w x code ++ i.Pop ∷ []) (λ at. code_of w.program w.this w.names x at ++ i.Pop ∷ [])
dropped_value w x = after (value w x) (fixed (i.Pop ∷ []))

pub form : (w : Where) (m : Option BuiltIn) (p : Place) (x : NumberedExp) (xs : NumberedExps) (whole : NumberedExp)
    → Laid (form_on w m p x xs whole)
    (λ at. form_code w.program w.this m p w.names x xs at (code_of w.program w.this w.names whole at ++ i.Pop ∷ []))
form w (Some Copy) p x xs whole = copy w p x xs
form w (Some Exchange) p x xs whole = exchange w p x xs
form w (Some Delete) p x xs whole = after (value w x) (fixed (i.Arrive coll.DeleteRegion p ∷ i.Depart p ∷ []))
form w m p x xs whole = dropped_value w whole

pub other : (w : Where) (x : NumberedExp) → Laid (other_on w x) (other_code w.program w.this w.names x)
other w (e.Member p x name xs) = form w (member_called w.program w.this x name) p x xs (e.Member p x name xs)
other w x = dropped_value w x

pub alone : (w : Where) (is_void : Bool) (x : NumberedExp) (c : Option Call)
    → Laid (alone_on w is_void x c) (alone_code w.program w.this is_void x c w.names)
alone w is_void x None = other w x
alone w true x (Some c) = call w (number_called w.program w.this x) c
alone w false x (Some c) = after (call w (number_called w.program w.this x) c) (fixed (i.Pop ∷ []))

-- ---- prints

pub print : (w : Where) (p : Place) (x : NumberedPrint) → Laid (print_on w p x) (print_code w.program w.this p w.names x)
print w p s.Nothing = fixed (i.Print None false p ∷ [])
print w p (s.Text literal) = fixed (i.Print (Some literal) false p ∷ [])
print w p (s.Expression x) = after (value w x) (fixed (i.Print None true p ∷ []))
print w p (s.TextAndExpression literal x) = after (value w x) (fixed (i.Print (Some literal) true p ∷ []))

-- ---- returns

pub returned : (w : Where) (p : Place) (result : ValueType) (x : Option NumberedExp) (l : Option LoopTargets)
    → Laid (returned_on w p result x) (stm_code w.program w.this result (s.Return p x) l w.names)
returned w p result None l = fixed (i.Return ∷ [])
returned w p result (Some x) l = after (value w x) (after (fixed (conversion p result (known_of w.program w.this x))) (fixed (i.ReturnValue ∷ [])))

-- ---- the same, said of the code

pub init_is : (w : Where) (r : Receiver) (x : NumberedInit) (code : List Instr)
    → init_on w r x code ≡ code ++ init_code w.program w.this r x w.names (length code)
init_is w r x code = (init w r x).is code

pub stands_is : (w : Where) (x : NumberedExp) (code : List Instr)
    → stands_on w x code
    ≡ code ++ alone_code w.program w.this (gives_nothing w.program w.this (call_by x (called_method w.program w.this x))) x
    (call_by x (called_method w.program w.this x)) w.names (length code)
stands_is w x code =
    let c = call_by x (called_method w.program w.this x) in
    (alone w (gives_nothing w.program w.this c) x c).is code

pub print_is : (w : Where) (p : Place) (x : NumberedPrint) (code : List Instr)
    → print_on w p x code ≡ code ++ print_code w.program w.this p w.names x (length code)
print_is w p x code = (print w p x).is code

pub returned_is : (w : Where) (p : Place) (result : ValueType) (x : Option NumberedExp) (l : Option LoopTargets) (code : List Instr)
    → returned_on w p result x code ≡ code ++ stm_code w.program w.this result (s.Return p x) l w.names (length code)
returned_is w p result x l code = (returned w p result x l).is code
