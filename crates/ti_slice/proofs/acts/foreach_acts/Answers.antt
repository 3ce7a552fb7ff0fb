use Rattle.ti_lang.specs.Program.Views.{program_of, statement_of, numbered_method_of}
use Rattle.ti_single.specs.Effects.{effects_of}
use Rattle.ti_slice.proofs.Effects.{foreach_has}
use Rattle.ti_slice.proofs.acts.foreach_acts.Goals as goal

pub returns-in-Some : goal.returns-in-Some
returns-in-Some c =
    λ variable points. foreach_has (program_of c.args.program.now.parts) (numbered_method_of c.args.method.now) c.this_of.result
    (statement_of c.in-Some.body.now) _ (effects_of c.stmt_effects.result) c.acts_in_loop.result
    c.acts_in_loop.ensures c.stmt_effects.ensures c.this_of.ensures c.in-Some.ensures
