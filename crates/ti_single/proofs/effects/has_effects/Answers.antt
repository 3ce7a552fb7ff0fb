use Rattle.ti_lang.specs.Program.Scope.{whereabouts_of}
use Rattle.ti_lang.specs.Program.Views.{program_of, statement_of, numbered_method_of}
use Rattle.ti_single.specs.Effects.{effects_of}
use Rattle.ti_single.proofs.Together.{effects_in}
use Rattle.ti_single.proofs.effects.has_effects.Goals as goal

pub returns-in-Some : goal.returns-in-Some
returns-in-Some c =
    effects_in (program_of c.args.program.now.parts) (whereabouts_of c.args.scope.now) (statement_of c.args.stmt.now)
    (numbered_method_of c.in-Some.m.now) c.this_of.result c.return_acts-returns.result c.jump_acts_at-jumps.result
    c.has_global_effects.result (effects_of c.stmt_effects.result) c.in-Some.ensures c.return_acts-returns.ensures
    c.jump_acts_at-jumps.ensures c.this_of.ensures c.stmt_effects.ensures c.has_global_effects.ensures
