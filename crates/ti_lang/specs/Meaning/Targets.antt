-- Assignment targets, and the stores of declarations, assignments and compound assignments.
use Rattle.std.specs.Prelude.{List}
use Rattle.ti_base.specs.declared.place.Place.{Place}
use Rattle.ti_base.specs.declared.value.Value.TheVariants as v
use Rattle.ti_base.specs.declared.action.Action.TheVariants as act
use Rattle.ti_lang.specs.Program.Types.{ValueType, VariableUse, Void}
use Rattle.ti_lang.specs.Program.Expressions.{NumberedExp, place_of_numbered}
use Rattle.ti_lang.specs.Program.Expressions as e
use Rattle.ti_lang.specs.Meaning.Held.{Held, Plain, no_value, plain_of}
use Rattle.ti_lang.specs.Meaning.Comp.{ToBeDone, request_through, Comp, ◌>>=◌, gives, asked, needed}
use Rattle.ti_lang.specs.Meaning.Literals.{point_of_numbers}
use Rattle.ti_lang.specs.Meaning.Conversions.{converted}
use Rattle.ti_lang.specs.Meaning.Operators.{apply_binary}
use Rattle.ti_lang.specs.Meaning.Processes.{Variable, Receiver, Nowhere, Declared, Assigned, Updated}
use Rattle.ti_lang.specs.Meaning.Scoping.{Env, find_variable, with_new, with_changed, type_of, declared_type, field_selected}
use Rattle.ti_lang.specs.Meaning.CellRefs.{Part, Field, Element, fetched}
use Rattle.ti_lang.specs.Meaning.Evaluation.{eval, eval_numbers}

-- the target of an assignment: a variable or a cell
pub data Target : Type 0 where
  InVariable : (variable : VariableUse) → Target
  InPart : (part : Part) → Target

-- the target that an expression denotes, with its reference and index evaluated; no other expression is a target
abbrev pub located : Env → NumberedExp → Comp Target
located env (e.Variable at variable) = gives (InVariable variable)
located env (e.OwnField at field) = gives (InPart (Field (Plain (v.Obj env.this)) (type_of env (e.This at)) field))
located env (e.Select at x name) = do
  h ← eval env x
  gives (InPart (Field h (type_of env x) (field_selected env x name)))
located env (e.Index at x parts) = do
  h ← eval env x
  indices ← eval_numbers env parts
  gives (InPart (Element h (type_of env x) (point_of_numbers indices)))
located env other = gives (InPart (Field no_value Void 0))

-- the value in a target of this type
abbrev pub held_in : Env → Place → ValueType → Target → Comp Held
held_in env at type (InVariable variable) = gives (find_variable variable env.variables)
held_in env at type (InPart part) = fetched at type part

-- the variables in scope after storing a value in a target
abbrev pub stored : Env → Place → Target → Held → Comp (List Variable)
stored env at (InVariable variable) h = gives (with_changed variable h env.variables)
stored env at (InPart (Field object through field)) h = do
  r ← needed at through object
  done ← asked (request_through r at (act.PutField r.thing field (plain_of h)) ToBeDone)
  gives env.variables
stored env at (InPart (Element grid through index)) h = do
  r ← needed at through grid
  done ← asked (request_through r at (act.PutElem r.thing index (plain_of h)) ToBeDone)
  gives env.variables

-- The variables in scope after storing the value of a right side in its receiver. The reference and index of the receiver are
-- evaluated before the right side, except that the value of a call, a `new` or a broadcast is computed before both.
abbrev pub into : Env → Receiver → Comp Held → Comp (List Variable)
into env Nowhere right = do
  h ← right
  gives env.variables
into env (Declared at variable) right = do
  h ← right
  k ← converted at (declared_type variable.declared) h
  gives (with_new variable k env.variables)
into env (Assigned at target) right = do
  place ← located env target
  h ← right
  k ← converted at (type_of env target) h
  stored env at place k
into env (Updated at op target) right = do
  place ← located env target
  old ← held_in env (place_of_numbered target) (type_of env target) place
  h ← right
  new ← apply_binary at op old h
  k ← converted at (type_of env target) new
  stored env at place k
