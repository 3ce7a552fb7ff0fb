use Rattle.std.proofs.Common.{ap, ◌∙◌}
use Rattle.ti_lang.specs.declared.program.stmts.Stmt.{For}
use Rattle.ti_lang.specs.Program.Views.{program_of, statement_of, numbered_method_of}
use Rattle.ti_lang.specs.Typing.Effects.{doings}
use Rattle.ti_single.specs.Effects.{effects_of}
use Rattle.ti_single.specs.EffectsAt.{effects_in_loop}
use Rattle.ti_single.proofs.Together.{in_loop_alone, in_loop_updated}
use Rattle.ti_single.proofs.loops.effects_in_loop.Goals as goal

pub returns-in-While : goal.returns-in-While
returns-in-While c =
    let p = program_of c.args.program.now.parts in
    let m = numbered_method_of c.args.method.now in
    in_loop_alone p m c.this_of-this.result (statement_of c.in-While.body.value) (statement_of c.args.stmt.now) (effects_of c.stmt_effects.result) c.this_of-this.ensures
    (c.stmt_effects.ensures ∙ ap (λ z. doings p c.this_of-this.result (statement_of z)) c.deref_stmt.ensures) (ap (λ z. effects_in_loop p m (statement_of z)) c.in-While.is)

pub returns-in-Foreach : goal.returns-in-Foreach
returns-in-Foreach c =
    let p = program_of c.args.program.now.parts in
    let m = numbered_method_of c.args.method.now in
    in_loop_alone p m c.this_of-this.result (statement_of c.in-Foreach.body.value) (statement_of c.args.stmt.now) (effects_of c.stmt_effects-in-Foreach.result) c.this_of-this.ensures
    (c.stmt_effects-in-Foreach.ensures ∙ ap (λ z. doings p c.this_of-this.result (statement_of z))
    c.deref_stmt-in-Foreach.ensures) (ap (λ z. effects_in_loop p m (statement_of z)) c.in-Foreach.is)

pub returns-in-Some : goal.returns-in-Some
returns-in-Some c =
    let p = program_of c.args.program.now.parts in
    let m = numbered_method_of c.args.method.now in
    in_loop_updated p m c.this_of-this.result (statement_of c.in-Some.update.value) (statement_of c.in-For.body.value)
    (statement_of c.args.stmt.now) (effects_of c.stmt_effects-in-Some.result) (effects_of c.stmt_effects-body.result)
    (effects_of c.merge.result) c.this_of-this.ensures c.merge.ensures (c.stmt_effects-in-Some.ensures
    ∙ ap (λ z. doings p c.this_of-this.result (statement_of z)) c.deref_stmt-in-Some.ensures)
    (c.stmt_effects-body.ensures ∙ ap (λ z. doings p c.this_of-this.result (statement_of z)) c.deref_stmt-in-For.ensures)
    (ap (λ z. effects_in_loop p m (statement_of z)) c.in-For.is ∙ ap (λ u. effects_in_loop p m (statement_of (For c.in-For.place c.in-For.first c.in-For.condition u c.in-For.body))) c.in-Some.is)

pub returns-in-None : goal.returns-in-None
returns-in-None c =
    let p = program_of c.args.program.now.parts in
    let m = numbered_method_of c.args.method.now in
    in_loop_alone p m c.this_of-this.result (statement_of c.in-For.body.value) (statement_of c.args.stmt.now) (effects_of c.stmt_effects-body.result) c.this_of-this.ensures
    (c.stmt_effects-body.ensures ∙ ap (λ z. doings p c.this_of-this.result (statement_of z)) c.deref_stmt-in-For.ensures)
    (ap (λ z. effects_in_loop p m (statement_of z)) c.in-For.is ∙ ap (λ u. effects_in_loop p m (statement_of (For c.in-For.place c.in-For.first c.in-For.condition u c.in-For.body))) c.in-None.is)
