use Rattle.std.proofs.Common.{ap, ◌∙◌, arith}
use Rattle.ti_rules.specs.Mirrors.First.{earlier_of}
use Rattle.ti_single.specs.Contexts.{program_at, around_of}
use Rattle.ti_single.proofs.Arguments.{none_sooner}
use Rattle.ti_single.proofs.Arguments.{argument_step, params_end, args_end}
use Rattle.ti_single.proofs.context.SingleContext.arguments.Goals as goal

pub loop-i-init : goal.loop-i-init
loop-i-init c = none_sooner _

pub loop-i-preserved : goal.loop-i-preserved
loop-i-preserved c =
    argument_step (program_at c.args.self) (around_of c.args.self) c.args.params.now c.args.args.now c.loop-i.i c.index-params-i.result
    c.index-args-i.result _ c.loop-i.found c.earlier_of-found.result (omega arith) (omega arith)
    c.index-params-i.is c.index-args-i.is c.loop-i.invariant (c.earlier_of-found.ensures ∙ ap (earlier_of c.loop-i.found) c.argument.ensures)

pub returns : goal.returns
returns c = args_end (program_at c.args.self) (around_of c.args.self) c.args.params.now c.args.args.now c.loop-i.i _ c.loop-i.found (omega arith) c.loop-i.invariant

pub returns-then-i-params : goal.returns-then-i-params
returns-then-i-params c = params_end (program_at c.args.self) (around_of c.args.self) c.args.params.now c.args.args.now c.loop-i.i _ c.loop-i.found (omega arith) c.loop-i.invariant
