-- What contracts see of calls in the code.
use Rattle.std.specs.Prelude.{map, Option, None, Some}
use Rattle.ti_base.specs.declared.place.Place.{Place}
use Rattle.ti_lang.specs.Program.Expressions.{NumberedExp, numbered_exps}
use Rattle.ti_lang.specs.Program.Expressions as e
use Rattle.ti_lang.specs.Program.Classes.{ProgramView}
use Rattle.ti_lang.specs.Program.Views.{expression_of}
use Rattle.ti_lang.specs.Meaning.Calls as calls
use Rattle.ti_moves.specs.declared.calls.Call.{Call}
use Rattle.ti_moves.specs.declared.calls.Object.{Object}
use Rattle.ti_moves.specs.declared.calls.Object.TheVariants as o
use Rattle.ti_moves.specs.Outcomes.{method_at}

-- The object of a call at a place, if it has one.
abbrev pub object_seen : Place → Object → Option NumberedExp
object_seen at o.Missing = None
object_seen at o.This = Some (e.This at)
object_seen at (o.Of x) = Some (expression_of x.now)

abbrev pub call_seen : ProgramView → Call → calls.Call
call_seen program c = record {
  place = c.place;
  method = method_at program c.method;
  object = object_seen c.place c.object;
  args = numbered_exps (map expression_of c.args.now);
}
