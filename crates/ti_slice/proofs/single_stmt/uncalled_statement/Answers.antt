use Rattle.std.proofs.Common.{sym, subst, None}
use Rattle.ti_lang.specs.declared.program.exprs.Expr.{Expr}
use Rattle.ti_lang.specs.Program.Expressions.{NumberedExp}
use Rattle.ti_lang.specs.Program.Scope.{this_of}
use Rattle.ti_lang.specs.Program.Views.{expression_of}
use Rattle.ti_lang.specs.Typing.Called.{member_called}
use Rattle.ti_lang.proofs.Lemmas.{seen_numbered_member}
use Rattle.ti_align.specs.Slice.{single_alone, single_member}
use Rattle.ti_eval.specs.Comes.{ComesAs}
use Rattle.ti_eval.specs.Envs.{env_of}
use Rattle.ti_moves.specs.Outcomes.{move_after}
use Rattle.ti_slice.proofs.single_stmt.uncalled_statement.Goals as goal

pub returns-in-Member : goal.returns-in-Member
returns-in-Member c = λ x.
    let E = env_of c.args.env.now in
    let i = c.in-Member in
    subst (λ (y : NumberedExp). ComesAs (move_after E x) c.member_statement.result (single_alone E y None c.args.answers.now)) (sym (seen_numbered_member c.args.expr.now i.place i.receiver i.name i.args i.is))
    (subst (λ (z : Expr). ComesAs (move_after E x) c.member_statement.result
    (single_member E i.place (expression_of z) (member_called E.program (this_of E.method) (expression_of z) i.name)
    c.args.answers.now))
    c.deref.ensures (c.member_statement.ensures x))
