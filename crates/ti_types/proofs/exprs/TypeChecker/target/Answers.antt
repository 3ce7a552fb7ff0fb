use Rattle.std.proofs.Common.{List, map, ap, sym, ◌∙◌, subst, rules}
use Rattle.ti_lang.specs.declared.program.exprs.Expr.{Expr}
use Rattle.ti_lang.specs.Program.Expressions.{NumberedExp, numbered_exps}
use Rattle.ti_lang.specs.Program.Expressions as x
use Rattle.ti_lang.specs.Program.Scope.{contents_of}
use Rattle.ti_lang.specs.Program.Views.{program_of, expression_of}
use Rattle.ti_lang.specs.Typing.Expressions.{operand}
use Rattle.ti_lang.proofs.Lemmas.{seen_numbered_index}
use Rattle.ti_types.specs.Results.{IsTypedExpr, receiver_type}
use Rattle.ti_types.specs.Mirrors.Walk.{IsTyped}
use Rattle.ti_types.proofs.exprs.TypeChecker.target.Goals as goal

pub returns-in-Index-clause-whole : goal.returns-in-Index-clause-whole
returns-in-Index-clause-whole c =
    let receiver = expression_of c.in-Index.receiver.value in
    subst (λ (z : NumberedExp). IsTyped c.args.self.now c.args.scope.now z c.index.result.whole)
    (ap (λ (xs : List Expr). x.Index c.in-Index.place receiver
    (numbered_exps (map expression_of xs))) c.deref-in-Index-3.ensures.value
    ∙ sym (seen_numbered_index c.args.expr.now c.in-Index.place c.in-Index.receiver
    c.in-Index.indices c.in-Index.is))
    (c.index.ensures.whole receiver (search rules) (search rules))

pub returns-in-Index-clause-receiver : goal.returns-in-Index-clause-receiver
returns-in-Index-clause-receiver c =
    let p = program_of c.args.self.now.program.now in
    let s = contents_of c.args.scope.now in
    let receiver = expression_of c.in-Index.receiver.value in
    let is : IsTypedExpr p s receiver c.exp-judged.result = search rules in
    c.index.ensures.receiver ∙ ap operand is.0
    ∙ sym (ap (receiver_type p s) (seen_numbered_index c.args.expr.now c.in-Index.place
    c.in-Index.receiver c.in-Index.indices c.in-Index.is))
