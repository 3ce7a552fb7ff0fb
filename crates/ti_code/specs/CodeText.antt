-- The listing of code, byte for byte.
use Rattle.std.specs.Prelude.{ℕ, ◌+◌, Bool, true, false, List, [], ◌∷◌, ◌++◌, Option, None, Some, codes, decimal}
use Rattle.ti_base.specs.declared.place.Place.{Place}
use Rattle.ti_watch.specs.Texts.{place_text, trace_value_text, zero_text}
use Rattle.ti_watch.specs.Acts.{optional, literal_number_text, collective_text}
use Rattle.ti_code.specs.declared.code.MethodCode.{MethodCode}
use Rattle.ti_code.specs.declared.instr.Instr.{Instr}
use Rattle.ti_code.specs.declared.instr.Instr.TheVariants as i
use Rattle.ti_code.specs.declared.instr.Operation.{Operation}
use Rattle.ti_code.specs.declared.instr.Operation.TheVariants as o
use Rattle.ti_code.specs.declared.instr.OneOperand.{OneOperand}
use Rattle.ti_code.specs.declared.instr.OneOperand.TheVariants as one
use Rattle.ti_code.specs.declared.instr.ValueMember.{ValueMember}
use Rattle.ti_code.specs.declared.instr.ValueMember.TheVariants as kind
use Rattle.ti_code.specs.Programs.{Code}

-- ---- names

abbrev pub operation_word : Operation → List ℕ
operation_word o.Add = codes "add"
operation_word o.Sub = codes "sub"
operation_word o.Mul = codes "mul"
operation_word o.Div = codes "div"
operation_word o.Rem = codes "rem"
operation_word o.Shl = codes "shl"
operation_word o.Shr = codes "shr"
operation_word o.Ushr = codes "ushr"
operation_word o.And = codes "and"
operation_word o.Or = codes "or"
operation_word o.Xor = codes "xor"
operation_word o.Eq = codes "eq"
operation_word o.Ne = codes "ne"
operation_word o.Lt = codes "lt"
operation_word o.Le = codes "le"
operation_word o.Gt = codes "gt"
operation_word o.Ge = codes "ge"
operation_word o.PtAdd = codes "ptAdd"
operation_word o.PtSub = codes "ptSub"
operation_word o.RectMeet = codes "rectMeet"
operation_word o.DomUnion = codes "domUnion"
operation_word o.DomMinus = codes "domMinus"
operation_word o.DomMeet = codes "domMeet"
operation_word o.AndThen = codes "andThen"
operation_word o.OrElse = codes "orElse"

abbrev pub unary_word : OneOperand → List ℕ
unary_word one.Neg = codes "neg"
unary_word one.Com = codes "com"
unary_word one.Not = codes "not"

abbrev pub member_word : ValueMember → List ℕ
member_word kind.Size = codes "size"
member_word kind.Min = codes "min"
member_word kind.Max = codes "max"
member_word kind.Contains = codes "contains"
member_word kind.DomainOf = codes "domainOf"
member_word kind.Restrict = codes "view restrict"
member_word kind.Translate = codes "view translate"
member_word kind.Slice = codes "view slice"

-- The name of an instruction.
abbrev pub instr_name : Instr → List ℕ
instr_name (i.Const value) = codes "const"
instr_name (i.EmptyDom dim) = codes "emptyDom"
instr_name i.Pop = codes "pop"
instr_name i.Dup = codes "dup"
instr_name (i.Load k) = codes "load"
instr_name (i.Keep k) = codes "keep"
instr_name (i.Trim k) = codes "trim"
instr_name i.ThisProc = codes "thisProc"
instr_name i.NumProcs = codes "numProcs"
instr_name (i.Operate op at) = operation_word op
instr_name (i.Alone op) = unary_word op
instr_name i.Widen = codes "widen"
instr_name i.Narrow = codes "narrow"
instr_name i.AsObj = codes "asObject"
instr_name i.AsGrid = codes "asGrid"
instr_name (i.MakePt n) = codes "makePt"
instr_name (i.Coord n at) = codes "coord"
instr_name i.Step = codes "step"
instr_name (i.MakeRect n at) = codes "makeRect"
instr_name (i.RectOfPts at) = codes "rectOfPts"
instr_name i.Common = codes "rectMeet"
instr_name (i.ToDom at) = codes "toDom"
instr_name (i.Member k n at) = member_word k
instr_name (i.CastLocal at) = codes "castLocal"
instr_name (i.Jump target) = codes "jump"
instr_name (i.JumpIf target) = codes "jumpIf"
instr_name (i.JumpIfNot target) = codes "jumpIfNot"
instr_name (i.Next k target) = codes "next"
instr_name (i.Tick at) = codes "tick"
instr_name (i.GetField field at) = codes "getField"
instr_name (i.PutField field at) = codes "putField"
instr_name (i.GetElem at) = codes "getElem"
instr_name (i.PutElem at) = codes "putElem"
instr_name (i.NewObj class at) = codes "newObj"
instr_name (i.NewGrid initial at) = codes "newGrid"
instr_name (i.Print literal value at) = codes "print"
instr_name (i.RootTest at) = codes "rootTest"
instr_name (i.GridTest at) = codes "gridTest"
instr_name (i.Arrive kind at) = codes "arrive"
instr_name (i.Depart at) = codes "depart"
instr_name (i.Take at) = codes "take"
instr_name (i.Call k at) = codes "call"
instr_name i.Return = codes "return"
instr_name i.ReturnValue = codes "returnValue"
instr_name (i.Stop at) = codes "stop"

-- ---- operands, each after a space

abbrev pub number_part : ℕ → List ℕ
number_part n = codes " " ++ decimal n

abbrev pub place_part : Place → List ℕ
place_part at = codes " " ++ place_text at

abbrev pub bool_text : Bool → List ℕ
bool_text true = codes "true"
bool_text false = codes "false"

-- Of operators, `/`, `%` and the union of domains show their place.
abbrev pub operation_part : Operation → Place → List ℕ
operation_part o.Div at = place_part at
operation_part o.Rem at = place_part at
operation_part o.DomUnion at = place_part at
operation_part op at = []

-- Of members, each but `contains` shows its place.
abbrev pub member_part : ValueMember → Place → List ℕ
member_part kind.Contains at = []
member_part k at = place_part at

abbrev pub print_part : Option ℕ → Bool → Place → List ℕ
print_part literal value at = codes " " ++ optional literal_number_text literal ++ codes " " ++ bool_text value ++ place_part at

-- The operands of an instruction that the listing shows.
abbrev pub operands_text : Instr → List ℕ
operands_text (i.Const value) = codes " " ++ trace_value_text value
operands_text (i.EmptyDom dim) = number_part dim
operands_text i.Pop = []
operands_text i.Dup = []
operands_text (i.Load k) = number_part k
operands_text (i.Keep k) = number_part k
operands_text (i.Trim k) = number_part k
operands_text i.ThisProc = []
operands_text i.NumProcs = []
operands_text (i.Operate op at) = operation_part op at
operands_text (i.Alone op) = []
operands_text i.Widen = []
operands_text i.Narrow = []
operands_text i.AsObj = []
operands_text i.AsGrid = []
operands_text (i.MakePt n) = number_part n
operands_text (i.Coord n at) = place_part at
operands_text i.Step = []
operands_text (i.MakeRect n at) = number_part n ++ place_part at
operands_text (i.RectOfPts at) = place_part at
operands_text i.Common = []
operands_text (i.ToDom at) = place_part at
operands_text (i.Member k n at) = member_part k at
operands_text (i.CastLocal at) = place_part at
operands_text (i.Jump target) = number_part target
operands_text (i.JumpIf target) = number_part target
operands_text (i.JumpIfNot target) = number_part target
operands_text (i.Next k target) = number_part k ++ number_part target
operands_text (i.Tick at) = place_part at
operands_text (i.GetField field at) = number_part field ++ place_part at
operands_text (i.PutField field at) = number_part field ++ place_part at
operands_text (i.GetElem at) = place_part at
operands_text (i.PutElem at) = place_part at
operands_text (i.NewObj class at) = number_part class ++ place_part at
operands_text (i.NewGrid initial at) = codes " " ++ zero_text initial ++ place_part at
operands_text (i.Print literal value at) = print_part literal value at
operands_text (i.RootTest at) = place_part at
operands_text (i.GridTest at) = place_part at
operands_text (i.Arrive kind at) = codes " " ++ collective_text kind ++ place_part at
operands_text (i.Depart at) = place_part at
operands_text (i.Take at) = place_part at
operands_text (i.Call k at) = number_part k ++ place_part at
operands_text i.Return = []
operands_text i.ReturnValue = []
operands_text (i.Stop at) = place_part at

-- ---- lines

abbrev pub instr_text : Instr → List ℕ
instr_text x = instr_name x ++ operands_text x

-- Two spaces, the number of the instruction, and the instruction.
abbrev pub instr_line : ℕ → Instr → List ℕ
instr_line n x = codes "  " ++ decimal n ++ codes " " ++ instr_text x ++ codes "\n"

-- The lines of instructions, numbered from n on.
abbrev pub instr_lines : ℕ → List Instr → List ℕ
instr_lines n [] = []
instr_lines n (x ∷ xs) = instr_line n x ++ instr_lines (n + 1) xs

-- The number of a method, and how many parameters it has besides `this`.
abbrev pub method_head : ℕ → ℕ → List ℕ
method_head k params = codes "method " ++ decimal k ++ codes " params " ++ decimal params ++ codes "\n"

-- The lines of methods, numbered from k on.
abbrev pub method_lines : ℕ → List MethodCode → List ℕ
method_lines k [] = []
method_lines k (m ∷ ms) = (method_head k m.params ++ instr_lines 0 m.instrs) ++ method_lines (k + 1) ms

abbrev pub code_text : Code → List ℕ
code_text c = method_lines 0 c.methods
