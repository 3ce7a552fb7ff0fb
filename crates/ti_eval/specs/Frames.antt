-- What contracts see of a call in progress: its variables, and its pending work.
use Rattle.std.specs.Prelude.{ℕ, ◌-◌, ◌==◌, false, if◌then◌else◌, List, [], ◌∷◌, ◌++◌, drop, map, filter, reverse, Option, Some, None}
use Rattle.std.specs.Borrow.{Bor}
use Rattle.ti_base.specs.declared.place.Place.{Place}
use Rattle.ti_base.specs.declared.point.Point.{Point}
use Rattle.ti_base.specs.declared.value.Id.{Id}
use Rattle.ti_base.specs.PointSets.{is_lex_lt}
use Rattle.ti_lang.specs.declared.program.classes.Method.{Method}
use Rattle.ti_lang.specs.Program.Types as t
use Rattle.ti_lang.specs.Program.Expressions.{NumberedExp, NumberedExps}
use Rattle.ti_lang.specs.Program.Expressions as e
use Rattle.ti_lang.specs.Program.Statements.{NumberedStm, MaybeNumbered, NoStm, NumberedStms}
use Rattle.ti_lang.specs.Program.Statements as s
use Rattle.ti_lang.specs.Program.Classes.{NumberedMethod, ProgramView, Void, MainArgs}
use Rattle.ti_lang.specs.Program.Views.{numbered_method_of, variable_of}
use Rattle.ti_lang.specs.Typing.TextTypes.{syntactic_type}
use Rattle.ti_lang.specs.Meaning.Held.{Held, points_in, dim_of}
use Rattle.ti_lang.specs.Meaning.Comp.{Reference}
use Rattle.ti_lang.specs.Meaning.Copies.{count_up}
use Rattle.ti_lang.specs.Meaning.Processes.{Variable, Loop, While, Foreach, ContItem, Do, End, Before, Behind, CopyAll, TakeAll}
use Rattle.ti_eval.specs.declared.frame.Slot.{Slot}
use Rattle.ti_eval.specs.declared.frame.Resume.{Resume}
use Rattle.ti_eval.specs.declared.frame.Resume.TheVariants as resume
use Rattle.ti_eval.specs.declared.frame.StmtFrame.{StmtFrame}
use Rattle.ti_eval.specs.declared.frame.ChildIndex.TheVariants as part
use Rattle.ti_eval.specs.Places.{list_of, child_of, inside}

-- ---- variables

abbrev pub slot_of : Slot → Variable
slot_of s = record { named = variable_of s.variable; held = s.held }

-- The variables in scope, the newest first.
abbrev pub slots_of : List Slot → List Variable
slots_of slots = map slot_of (reverse slots)

-- ---- methods

abbrev pub nowhere : Place
nowhere = record { line = 0; col = 0 }

-- A placeholder for a method that doesn't exist.
abbrev pub no_method : NumberedMethod
no_method = record {
  class = 0;
  modifiers = [];
  is_single = false;
  result = Void;
  place = nowhere;
  name = 0;
  params = MainArgs;
  body = [];
  end = nowhere;
}

abbrev pub method_seen : Option (Bor Method) → NumberedMethod
method_seen None = no_method
method_seen (Some m) = numbered_method_of m.now

-- ---- the parts of statements

-- The place of a loop.
abbrev pub loop_place_of : NumberedStm → Place
loop_place_of (s.While at c body) = at
loop_place_of (s.For at first c update body) = at
loop_place_of (s.Foreach at variable domain body) = at
loop_place_of x = nowhere

-- The condition of a loop.
abbrev pub condition_in : NumberedStm → Option NumberedExp
condition_in (s.While at c body) = Some c
condition_in (s.For at first c update body) = c
condition_in x = None

-- The update of a loop, which ends each iteration.
abbrev pub update_in : NumberedStm → MaybeNumbered
update_in (s.For at first c update body) = update
update_in x = NoStm

-- The domain of a `foreach`.
abbrev pub domain_in : NumberedStm → NumberedExp
domain_in (s.Foreach at variable domain body) = domain
domain_in x = e.Null nowhere

-- The statements of a block.
abbrev pub list_in : NumberedStm → List NumberedStm
list_in (s.Block body) = list_of body
list_in x = []

abbrev pub member_place : NumberedStm → Place
member_place (s.Call (e.Member at x name args)) = at
member_place x = nowhere

abbrev pub member_receiver : NumberedStm → NumberedExp
member_receiver (s.Call (e.Member at x name args)) = x
member_receiver x = e.Null nowhere

abbrev pub member_args : NumberedStm → NumberedExps
member_args (s.Call (e.Member at x name args)) = args
member_args x = e.NoExp

-- ---- work

-- The program, the class of `this`, and the number of processes.
pub record MethodContext : Type 0 where
  pub program : ProgramView
  pub this : Option ℕ
  pub procs : ℕ

-- A `while` or `for` as a loop, given any statement.
abbrev pub loop_of : NumberedStm → Loop
loop_of x = While (loop_place_of x) (condition_in x) (update_in x) (child_of x part.Body)

abbrev pub foreach_of : NumberedStm → ℕ → List Point → Loop
foreach_of x variable points = Foreach (loop_place_of x) variable (domain_in x) points (child_of x part.Body)

-- The end of a `for`.
abbrev pub end_of_for : NumberedStm → List ContItem
end_of_for (s.For at first c update body) = End (s.For at first c update body) ∷ []
end_of_for x = []

-- The points of a domain after another point of its dimension, in lexicographic order.
abbrev pub points_above : Held → Option Point → List Point
points_above h None = points_in h
points_above h (Some p) = if p.dim == dim_of h then filter (is_lex_lt p) (points_in h) else []

-- A point, if there is one, and those after it.
abbrev pub from_point : Held → Option Point → List Point
from_point domain None = []
from_point domain (Some p) = p ∷ points_above domain (Some p)

-- A reference to an object or a grid, with the type of the expression that yielded it.
abbrev pub reference : MethodContext → NumberedExp → Id → Reference
reference site x id = record { thing = id; type = syntactic_type site.program site.this x }

abbrev pub first_reference : MethodContext → NumberedExps → Id → Reference
first_reference site e.NoExp id = record { thing = id; type = t.Void }
first_reference site (e.MoreExp x xs) id = reference site x id

-- The pending work of a statement.
abbrev pub work_of : MethodContext → NumberedStm → Resume → List ContItem
work_of site x resume.Here = Do x ∷ []
work_of site x resume.Inside = []
work_of site x (resume.From n) = map Do (drop n (list_in x)) ++ End x ∷ []
work_of site x resume.Ending = End x ∷ []
work_of site x resume.Before = Before (loop_of x) ∷ end_of_for x
work_of site x resume.Behind = Behind (loop_of x) ∷ end_of_for x
work_of site x (resume.Each variable domain last) = Before (foreach_of x variable (points_above domain.value last)) ∷ []
work_of site x (resume.Turn variable domain at) = Behind (foreach_of x variable (at.point ∷ points_above domain.value (Some at.point))) ∷ []
work_of site x (resume.Copying copy last) =
    CopyAll (member_place x) (reference site (member_receiver x) copy.value.to) (first_reference site (member_args x) copy.value.from)
    (points_above copy.value.domain last) ∷ []
work_of site x (resume.Taking grid next) =
    TakeAll (member_place x) (reference site (member_receiver x) grid) (count_up next (site.procs - next)) ∷ []

-- The pending work of the body of a method.
abbrev pub work_of_body : NumberedStms → Resume → List ContItem
work_of_body body (resume.From n) = map Do (drop n (list_of body))
work_of_body body t = []

-- The pending work of a frame, from that of the innermost statement on.
abbrev pub pending_of : MethodContext → NumberedStms → List StmtFrame → Resume → List ContItem
pending_of site body [] t = work_of_body body t
pending_of site body (l ∷ ls) t = work_of site (inside body (l ∷ ls)) t ++ pending_of site body ls l.resume

-- The pending work after the innermost statement.
abbrev pub rest_of : MethodContext → NumberedStms → List StmtFrame → List ContItem
rest_of site body [] = []
rest_of site body (l ∷ ls) = pending_of site body ls l.resume
