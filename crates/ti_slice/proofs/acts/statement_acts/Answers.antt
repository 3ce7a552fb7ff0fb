use Rattle.std.proofs.Common.{refl, reverse}
use Rattle.ti_lang.specs.Program.Statements.{numbered_stms}
use Rattle.ti_lang.specs.Program.Views.{program_of, statement_of, numbered_method_of}
use Rattle.ti_eval.specs.Frames.{rest_of}
use Rattle.ti_single.specs.Effects.{effects_of}
use Rattle.ti_slice.proofs.Effects.{statement_has}
use Rattle.ti_slice.proofs.acts.statement_acts.Goals as goal

pub returns-then-acts_in_loop : goal.returns-then-acts_in_loop
returns-then-acts_in_loop c =
    let m = numbered_method_of c.args.method.now in
    λ site. statement_has (program_of c.args.program.now.parts) m c.this_of.result (statement_of c.args.stmt.now)
    (effects_of c.stmt_effects-d.result) (rest_of site (numbered_stms m.body) (reverse c.args.levels.now)) c.acts_in_loop.result
    c.acts_in_loop.result
    c.stmt_effects-d.ensures c.this_of.ensures c.acts_in_loop.ensures (rw c.if-acts_in_loop.true refl)

pub returns-then-d : goal.returns-then-d
returns-then-d c =
    let m = numbered_method_of c.args.method.now in
    λ site. statement_has (program_of c.args.program.now.parts) m c.this_of.result (statement_of c.args.stmt.now)
    (effects_of c.stmt_effects-d.result) (rest_of site (numbered_stms m.body) (reverse c.args.levels.now)) c.acts_in_loop.result
    c.jump_acts.result
    c.stmt_effects-d.ensures c.this_of.ensures c.acts_in_loop.ensures (rw (c.if-acts_in_loop.false, c.if-d.true) (c.jump_acts.ensures site))

pub returns-else-d : goal.returns-else-d
returns-else-d c =
    let m = numbered_method_of c.args.method.now in
    λ site. statement_has (program_of c.args.program.now.parts) m c.this_of.result (statement_of c.args.stmt.now)
    (effects_of c.stmt_effects-d.result) (rest_of site (numbered_stms m.body) (reverse c.args.levels.now)) c.acts_in_loop.result
    c.stmt_effects-d.result.jumps
    c.stmt_effects-d.ensures c.this_of.ensures c.acts_in_loop.ensures (rw (c.if-acts_in_loop.false, c.if-d.false) refl)
