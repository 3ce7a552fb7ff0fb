use Rattle.ti_lang.specs.Program.Views.{program_of, statement_of, numbered_method_of}
use Rattle.ti_slice.proofs.Effects.{each_acts, turn_acts}
use Rattle.ti_slice.proofs.acts.acts_at.Goals as goal

pub returns-in-Each : goal.returns-in-Each
returns-in-Each c =
    λ site. each_acts (program_of c.args.program.now.parts) (numbered_method_of c.args.method.now) c.foreach_acts.result
    (statement_of c.args.stmt.now) c.args.todo.now c.in-Each.variable c.in-Each.domain c.in-Each.last c.in-Each.is
    c.foreach_acts.ensures site _

pub returns-in-Turn : goal.returns-in-Turn
returns-in-Turn c =
    λ site. turn_acts (program_of c.args.program.now.parts) (numbered_method_of c.args.method.now) c.foreach_acts-in-Turn.result
    (statement_of c.args.stmt.now) c.args.todo.now c.in-Turn.variable c.in-Turn.domain c.in-Turn.at c.in-Turn.is
    c.foreach_acts-in-Turn.ensures site _
