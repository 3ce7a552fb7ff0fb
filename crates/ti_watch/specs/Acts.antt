-- How operations and their results are written in reports.
use Rattle.std.specs.Prelude.{ℕ, List, [], ◌++◌, Option, Some, None, codes, decimal}
use Rattle.std.specs.Fmt.{signed_decimal}
use Rattle.ti_base.specs.declared.action.Action.{Action}
use Rattle.ti_base.specs.declared.action.Action.TheVariants as act
use Rattle.ti_base.specs.declared.action.CollKind.{CollKind}
use Rattle.ti_base.specs.declared.action.CollKind.TheVariants.{Barrier, Broadcast, Exchange, MakeRegion, DeleteRegion}
use Rattle.ti_base.specs.declared.action.Deposit.{Deposit}
use Rattle.ti_base.specs.declared.action.Deposit.TheVariants.{Nothing, One, Count}
use Rattle.ti_base.specs.declared.action.ViewHow.{ViewHow}
use Rattle.ti_base.specs.declared.action.ViewHow.TheVariants.{Restrict, Translate, Slice}
use Rattle.ti_base.specs.declared.entry.Answer.{Answer}
use Rattle.ti_base.specs.declared.entry.Answer.TheVariants.{Done, Val}
use Rattle.ti_base.specs.declared.point.Point.{Point}
use Rattle.ti_base.specs.declared.point.Rect.{Rect}
use Rattle.ti_base.specs.declared.value.Id.{Id}
use Rattle.ti_base.specs.declared.value.Value.{Value}
use Rattle.ti_base.specs.declared.value.Zero.{Zero}
use Rattle.ti_base.specs.FaultNames.{name_of}
use Rattle.ti_watch.specs.Texts.{point_text, rect_text, object_text, grid_text, trace_value_text, zero_text}

-- the name of an operation
abbrev pub action_word : Action → List ℕ
action_word (act.GetField obj field) = codes "getField"
action_word (act.PutField obj field value) = codes "putField"
action_word (act.NewObj class region) = codes "newObj"
action_word (act.NewGrid zero domain region) = codes "newGrid"
action_word (act.GetElem grid at) = codes "getElem"
action_word (act.PutElem grid at value) = codes "putElem"
action_word (act.MakeView grid how) = codes "makeView"
action_word (act.DomainOf grid) = codes "domainOf"
action_word (act.Print literal value) = codes "print"
action_word (act.Arrive kind arg deposit) = codes "arrive"
action_word act.Depart = codes "depart"
action_word (act.Take who) = codes "take"
action_word act.End = codes "end"
action_word (act.Fault kind) = codes "fault"

-- ---- operands, each after a space

-- an optional operand is written as `-` if it is missing
abbrev pub optional : {A : Type 0} → (A → List ℕ) → Option A → List ℕ
optional text None = codes "-"
optional text (Some x) = text x

abbrev pub literal_number_text : ℕ → List ℕ
literal_number_text number = codes "s" ++ decimal number

abbrev pub collective_text : CollKind → List ℕ
collective_text Barrier = codes "barrier"
collective_text Broadcast = codes "broadcast"
collective_text Exchange = codes "exchange"
collective_text MakeRegion = codes "makeRegion"
collective_text DeleteRegion = codes "deleteRegion"

-- what a process contributes at its arrival
abbrev pub deposit_text : Deposit → List ℕ
deposit_text Nothing = codes "-"
deposit_text (One value) = trace_value_text value
deposit_text (Count n) = codes "count:" ++ decimal n

-- how a view is made
abbrev pub view_text : ViewHow → List ℕ
view_text (Restrict r) = codes "restrict " ++ rect_text r
view_text (Translate by) = codes "translate " ++ point_text by
view_text (Slice k j) = codes "slice " ++ signed_decimal k ++ codes " " ++ signed_decimal j

abbrev pub field_text : Id → ℕ → List ℕ
field_text obj field = codes " " ++ object_text obj ++ codes " " ++ decimal field

abbrev pub element_text : Id → Point → List ℕ
element_text grid at = codes " " ++ grid_text grid ++ codes " " ++ point_text at

abbrev pub new_grid_text : Zero → Rect → ℕ → List ℕ
new_grid_text zero domain region = codes " " ++ zero_text zero ++ codes " " ++ rect_text domain ++ codes " " ++ decimal region

abbrev pub view_of_text : Id → ViewHow → List ℕ
view_of_text grid how = codes " " ++ grid_text grid ++ codes " " ++ view_text how

abbrev pub print_text : Option ℕ → Option Value → List ℕ
print_text literal value = codes " " ++ optional literal_number_text literal ++ codes " " ++ optional trace_value_text value

abbrev pub arrival_text : CollKind → Option ℕ → Deposit → List ℕ
arrival_text kind arg deposit = codes " " ++ collective_text kind ++ codes " " ++ optional decimal arg ++ codes " " ++ deposit_text deposit

-- all operands of an operation
abbrev pub action_operands_text : Action → List ℕ
action_operands_text (act.GetField obj field) = field_text obj field
action_operands_text (act.PutField obj field value) = field_text obj field ++ codes " " ++ trace_value_text value
action_operands_text (act.NewObj class region) = codes " " ++ decimal class ++ codes " " ++ decimal region
action_operands_text (act.NewGrid zero domain region) = new_grid_text zero domain region
action_operands_text (act.GetElem grid at) = element_text grid at
action_operands_text (act.PutElem grid at value) = element_text grid at ++ codes " " ++ trace_value_text value
action_operands_text (act.MakeView grid how) = view_of_text grid how
action_operands_text (act.DomainOf grid) = codes " " ++ grid_text grid
action_operands_text (act.Print literal value) = print_text literal value
action_operands_text (act.Arrive kind arg deposit) = arrival_text kind arg deposit
action_operands_text act.Depart = []
action_operands_text (act.Take who) = codes " " ++ decimal who
action_operands_text act.End = []
action_operands_text (act.Fault kind) = codes " " ++ name_of kind

-- ---- operations and results

abbrev pub act_text : Action → List ℕ
act_text a = action_word a ++ action_operands_text a

abbrev pub answer_text : Answer → List ℕ
answer_text Done = codes "done"
answer_text (Val value) = trace_value_text value
