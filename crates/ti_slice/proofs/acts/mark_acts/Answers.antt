use Rattle.std.proofs.Common.{ap}
use Rattle.ti_lang.specs.Program.Views.{program_of, statement_of, numbered_method_of}
use Rattle.ti_moves.specs.Receiving.{stm_seen}
use Rattle.ti_slice.proofs.Effects.{turn_mark}
use Rattle.ti_slice.proofs.acts.mark_acts.Goals as goal

pub returns-in-Turn : goal.returns-in-Turn
returns-in-Turn c =
    turn_mark (program_of c.args.program.now.parts) (numbered_method_of c.args.method.now) c.foreach_acts.result (stm_seen c.args.stmt)
    (statement_of c.in-Some.stmt.now) c.args.todo.now c.in-Turn.variable c.in-Turn.domain c.in-Turn.at
    c.in-Turn.is (ap stm_seen c.in-Some.is) c.foreach_acts.ensures
