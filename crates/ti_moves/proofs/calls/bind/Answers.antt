use Rattle.std.proofs.Common.{◌≡◌, ◌∙◌, sym, ap, subst, ◌+◌, List, drop, get_or, map, arith}
use Rattle.std.proofs.lemmas.Result.{err_from_is_err_and}
use Rattle.ti_lang.specs.declared.program.exprs.Expr.{Expr}
use Rattle.ti_lang.specs.declared.program.classes.Param.{Param}
use Rattle.ti_lang.specs.Program.Expressions.{numbered_exps}
use Rattle.ti_lang.specs.Program.Views.{expression_of}
use Rattle.ti_lang.specs.Meaning.Comp.{Gives}
use Rattle.ti_lang.specs.Meaning.Calls.{bind_params}
use Rattle.ti_lang.specs.Meaning.Processes.{Variable}
use Rattle.ti_eval.specs.Comes.{Stops}
use Rattle.ti_eval.specs.Envs.{env_of}
use Rattle.ti_eval.specs.Frames.{slot_of, slots_of}
use Rattle.ti_eval.proofs.Lemmas.{one_more}
use Rattle.ti_moves.specs.Arguments.{bound_argument}
use Rattle.ti_moves.proofs.Calling.{from_params, variable_at, bound_stops, bound_next, no_params, no_args}
use Rattle.ti_moves.proofs.calls.bind.Goals as goal
use Rattle.ti_moves.proofs.calls.bind.Goals.{then-loop-i-test+else-i-args, else-loop-i-test}

pub returns-in_err-slot : goal.returns-in_err-slot
returns-in_err-slot c =
    let E = env_of c.args.env.now in
    let i = c.loop-i.i in
    let left = c.loop-i.left.now in
    let s = c.in_err-slot.field-0.0 in
    let p = err_from_is_err_and c.from_residual.result c.from_residual.ensures.1 in
    rw (p.1, p.2)
    (bound_stops s E c.args.params.now c.args.args.now i c.index-params-i.result c.index-args-i.result (slots_of c.loop-i.found.items) left _ c.loop-i-test.true c.if-i-args.true c.loop-i.invariant.same
    (subst (λ (x : Expr). Stops s (bound_argument E (variable_at i (get_or c.args.params.now i c.index-params-i.result)) (expression_of x) left)) c.index-args-i.is
    (subst (λ (p : Param). Stops s (bound_argument E (variable_at i p) (expression_of c.index-args-i.result) left)) c.index-params-i.is c.in_err-slot.ensures)))

pub loop-i-preserved : goal.loop-i-preserved
loop-i-preserved c =
    let E = env_of c.args.env.now in
    let params = c.args.params.now in
    let args = c.args.args.now in
    let i = c.loop-i.i in
    let left = c.loop-i.left.now in
    let rest = c.in_ok-slot.rest.now in
    let w = slot_of c.in_ok-slot.slot in
    let found = c.loop-i.found.items in
    let e = subst (λ (x : Expr). bound_argument E (variable_at i (get_or params i c.index-params-i.result)) (expression_of x) left ≡ Gives w rest) c.index-args-i.is
    (subst (λ (p : Param). bound_argument E (variable_at i p) (expression_of c.index-args-i.result) left ≡ Gives w rest) c.index-params-i.is c.in_ok-slot.ensures) in
    let n = bound_next E params args i c.index-params-i.result c.index-args-i.result (slots_of found) w left rest _ c.loop-i-test.true c.if-i-args.true c.loop-i.invariant.same e in
    let more = λ (ws : List Variable). bind_params E (from_params (i + 1) (drop (i + 1) params)) (numbered_exps (map expression_of (drop (i + 1) args))) ws rest in
    record {
      within = omega (arith, c.loop-i-test.true);
      same = ap more (ap slots_of c.in_ok-push.ensures.items ∙ one_more found c.in_ok-slot.slot) ∙ n;
    }

pub returns : goal.returns
returns c =
    let E = env_of c.args.env.now in
    let params = c.args.params.now in
    let args = c.args.args.now in
    let i = c.loop-i.i in
    let found = slots_of c.loop-i.found.items in
    let left = c.loop-i.left.now in
    elim c.loop-i-test.branch [
      | then-loop-i-test+else-i-args w ↦ sym c.loop-i.invariant.same ∙ no_args E (from_params i (drop i params)) args i found left w.if-i-args.false
      | else-loop-i-test w ↦ sym c.loop-i.invariant.same ∙ no_params E params (numbered_exps (map expression_of (drop i args))) i i found left w.loop-i-test.false
    ]
