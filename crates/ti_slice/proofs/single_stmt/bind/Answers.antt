use Rattle.std.proofs.Common.{◌≡◌, ◌∙◌, sym, subst, drop, get_or, map, arith}
use Rattle.std.proofs.lemmas.Result.{err_from_is_err_and}
use Rattle.ti_lang.specs.declared.program.exprs.Expr.{Expr}
use Rattle.ti_lang.specs.declared.program.classes.Param.{Param}
use Rattle.ti_lang.specs.Program.Expressions.{numbered_exps}
use Rattle.ti_lang.specs.Program.Views.{expression_of}
use Rattle.ti_lang.specs.Meaning.Comp.{Gives}
use Rattle.ti_eval.specs.Comes.{Stops}
use Rattle.ti_eval.specs.Envs.{env_of}
use Rattle.ti_eval.specs.Frames.{slots_of}
use Rattle.ti_moves.proofs.Lemmas.{from_params, variable_at}
use Rattle.ti_slice.specs.Mirrors.SingleCalls.{single_found}
use Rattle.ti_slice.proofs.StatedCalls.{found_stops, found_next, no_params, no_args}
use Rattle.ti_slice.proofs.single_stmt.bind.Goals as goal
use Rattle.ti_slice.proofs.single_stmt.bind.Goals.{then-loop-i-test+else-i-args, else-loop-i-test}

pub returns-in_err-more : goal.returns-in_err-more
returns-in_err-more c =
    let E = env_of c.args.env.now in
    let i = c.loop-i.i in
    let left = c.loop-i.left.now in
    let found = slots_of c.loop-i.found.items in
    let s = c.in_err-more.field-0.0 in
    let p = err_from_is_err_and c.from_residual.result c.from_residual.ensures.1 in
    rw (p.1, p.2)
    (found_stops s E c.args.params.now c.args.args.now i c.index-params-i.result c.index-args-i.result found left _ c.loop-i-test.true c.if-i-args.true c.loop-i.invariant.same
    (subst (λ (x : Expr). Stops s (single_found E (variable_at i (get_or c.args.params.now i c.index-params-i.result)) (expression_of x) found left)) c.index-args-i.is
    (subst (λ (p : Param). Stops s (single_found E (variable_at i p) (expression_of c.index-args-i.result) found left)) c.index-params-i.is c.in_err-more.ensures)))

pub loop-i-preserved : goal.loop-i-preserved
loop-i-preserved c =
    let E = env_of c.args.env.now in
    let params = c.args.params.now in
    let args = c.args.args.now in
    let i = c.loop-i.i in
    let left = c.loop-i.left.now in
    let rest = c.in_ok-more.rest.now in
    let found = slots_of c.loop-i.found.items in
    let more = slots_of c.in_ok-more.more.items in
    let e = subst (λ (x : Expr). single_found E (variable_at i (get_or params i c.index-params-i.result)) (expression_of x) found left ≡ Gives more rest) c.index-args-i.is
    (subst (λ (p : Param). single_found E (variable_at i p) (expression_of c.index-args-i.result) found left ≡ Gives more rest) c.index-params-i.is c.in_ok-more.ensures) in
    record {
      within = omega (arith, c.loop-i-test.true);
      same = found_next E params args i c.index-params-i.result c.index-args-i.result found more left rest _ c.loop-i-test.true c.if-i-args.true c.loop-i.invariant.same e;
    }

pub returns : goal.returns
returns c =
    let E = env_of c.args.env.now in
    let params = c.args.params.now in
    let args = c.args.args.now in
    let i = c.loop-i.i in
    let found = slots_of c.loop-i.found.items in
    let left = c.loop-i.left.now in
    elim c.loop-i-test.branch [
      | then-loop-i-test+else-i-args w ↦ sym c.loop-i.invariant.same ∙ no_args E (from_params i (drop i params)) args i found left w.if-i-args.false
      | else-loop-i-test w ↦ sym c.loop-i.invariant.same ∙ no_params E params (numbered_exps (map expression_of (drop i args))) i found left w.loop-i-test.false
    ]
