-- The context in which code is generated, and the parameters of the functions that generate it.
use Rattle.std.specs.Prelude.{ℕ, zero, suc, List, ◌∷◌, map, Option, None, Some}
use Rattle.ti_lang.specs.Program.Classes.{ProgramView}
use Rattle.ti_lang.specs.Program.Expressions.{NumberedExp, numbered_exps}
use Rattle.ti_lang.specs.Program.Expressions as e
use Rattle.ti_lang.specs.Program.Views.{program_of, expression_of, variable_of, type_use_of, numbered_method_of}
use Rattle.ti_lang.specs.Meaning.Calls.{Call}
use Rattle.ti_lang.specs.Meaning.Processes as to
use Rattle.ti_lang.specs.Meaning.Statements.{declared_as}
use Rattle.ti_lower_expr.specs.Slots.{Name, Hidden}
use Rattle.ti_lower_expr.specs.Contents.{names_in}
use Rattle.ti_lower_expr.specs.declared.kinds.OperandClass.{OperandClass}
use Rattle.ti_lower_expr.specs.declared.kinds.StaticRepr.{StaticRepr}
use Rattle.ti_lower_expr.specs.Coding.{kind_in}
use Rattle.ti_lower_expr.specs.Knowing.{known_of}
use Rattle.ti_lower.specs.declared.emit_context.EmitContext.{EmitContext}
use Rattle.ti_lower.specs.declared.values.StoreSource.{StoreSource}
use Rattle.ti_lower.specs.declared.values.StoreSource.TheVariants as right
use Rattle.ti_lower.specs.declared.targets.StoreTarget.{StoreTarget}
use Rattle.ti_lower.specs.declared.targets.StoreTarget.TheVariants as target
use Rattle.ti_lower.specs.declared.receivers.Receiver.{Receiver}
use Rattle.ti_lower.specs.declared.receivers.Receiver.TheVariants as receiver
use Rattle.ti_lower.specs.declared.calls.CallObject.{CallObject}
use Rattle.ti_lower.specs.declared.calls.CallObject.TheVariants as object
use Rattle.ti_lower.specs.declared.calls.CallSite.{CallSite}
use Rattle.ti_lower.specs.Receivers.{TargetKind, InSlot, InField, InElement}
use Rattle.ti_base.specs.declared.place.Place.{Place}

-- A method of a program with this class of `this`, while the slots have these names.
pub record Where : Type 0 where
  pub program : ProgramView
  pub this : Option ℕ
  pub names : List Name

-- These names, and after them n slots of temporaries.
abbrev pub with_temporaries : ℕ → List Name → List Name
with_temporaries zero names = names
with_temporaries (suc n) names = Hidden ∷ with_temporaries n names

abbrev pub where_of : EmitContext → Where
where_of p = record { program = program_of p.site.program.now; this = p.site.this; names = with_temporaries p.temporaries (names_in p.site.slots.now) }

-- One more temporary.
abbrev pub with_temporary : Where → Where
with_temporary w = record w { names = Hidden ∷ w.names }

-- A right side: an expression, or a value in a temporary slot.
pub data Source : Type 0 where
  Computed : (x : NumberedExp) → Source
  Kept : (k : ℕ) → Source

abbrev pub source_of : StoreSource → Source
source_of (right.Value x) = Computed (expression_of x.now)
source_of (right.Temporary slot kind k) = Kept slot

-- The kind of a right side's type, and what is known of its value.
abbrev pub source_kind : ProgramView → Option ℕ → StoreSource → OperandClass
source_kind program this (right.Value x) = kind_in program this (expression_of x.now)
source_kind program this (right.Temporary slot kind k) = kind

abbrev pub source_known : ProgramView → Option ℕ → StoreSource → StaticRepr
source_known program this (right.Value x) = known_of program this (expression_of x.now)
source_known program this (right.Temporary slot kind k) = k

abbrev pub target_kind : StoreTarget → TargetKind
target_kind (target.Slot v) = InSlot (variable_of v.now)
target_kind (target.Field field) = InField field
target_kind target.Element = InElement

abbrev pub dest_of : Receiver → to.Receiver
dest_of receiver.Nowhere = to.Nowhere
dest_of (receiver.Declared at variable ty) = to.Declared at (declared_as (type_use_of ty.now) variable)
dest_of (receiver.Assigned at target) = to.Assigned at (expression_of target.now)
dest_of (receiver.Updated at op target) = to.Updated at op (expression_of target.now)

-- The object of a call at a place, if it has one.
abbrev pub object_of : Place → CallObject → Option NumberedExp
object_of at object.None = None
object_of at object.This = Some (e.This at)
object_of at (object.Of x) = Some (expression_of x.now)

abbrev pub call_site_of : CallSite → Call
call_site_of c = record {
  place = c.place;
  method = numbered_method_of c.method.now;
  object = object_of c.place c.object;
  args = numbered_exps (map expression_of c.args.now);
}
