use Rattle.std.proofs.Common.{ap, ◌∙◌, arith}
use Rattle.ti_lang.specs.Program.Views.{program_of}
use Rattle.ti_lang.specs.Typing.Effects.{together}
use Rattle.ti_single.specs.Effects.{effects_of}
use Rattle.ti_single.proofs.Together.{doings_step}
use Rattle.ti_single.proofs.statements.+doings.Goals as goal

pub stmts_effects-loop-x-preserved : goal.stmts_effects-loop-x-preserved
stmts_effects-loop-x-preserved t c =
    doings_step (program_of c.args.program.now.parts) c.args.this c.args.stmts.now c.loop-x.x-index c.x-item.result (effects_of c.loop-x.found)
    (effects_of c.merge-found.result) _ (omega arith) c.x-item.is c.loop-x.invariant
    (c.merge-found.ensures ∙ ap (together (effects_of c.loop-x.found)) c.stmt_effects.ensures)
