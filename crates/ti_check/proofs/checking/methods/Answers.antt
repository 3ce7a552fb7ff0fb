use Rattle.std.proofs.Common.{slice_get, ap, sym, ◌∙◌, arith}
use Rattle.std.proofs.lemmas.List.{length-map}
use Rattle.ti_lang.specs.Program.Views.{program_of, numbered_method_of}
use Rattle.ti_rules.specs.TypeRules.{method_refusals}
use Rattle.ti_rules.specs.SingleRules.{method_single_refusals}
use Rattle.ti_types.proofs.Lemmas.{each_end}
use Rattle.ti_check.proofs.StmtReport.{left_first, at_step}
use Rattle.ti_check.proofs.checking.methods.Goals as goal

pub loop-i-init : goal.loop-i-init
loop-i-init c = left_first _ _ c.nothing-found.result c.nothing-found.ensures.first

pub method-requires-clause-is_method : goal.method-requires-clause-is_method
method-requires-clause-is_method c = ap (slice_get (program_of c.args.program.now.parts).methods) c.in_ok-number.ensures.value ∙ c.method_at-m.ensures

pub loop-i-preserved : goal.loop-i-preserved
loop-i-preserved c =
    let p = program_of c.args.program.now.parts in
    let m = numbered_method_of c.method_at-m.result.now in
    let count = length-map c.args.program.now.parts.methods.items numbered_method_of in (
      c.loop-i.invariant.0 ∙ at_step (method_refusals p) p.methods c.loop-i.i m c.loop-i.found.types c.in_ok-next.next.types
          c.and-found.result.types (omega (arith, count)) c.method_at-m.ensures c.in_ok-next.ensures.0 c.and-found.ensures.types,
      c.loop-i.invariant.1 ∙ at_step (method_single_refusals p) p.methods c.loop-i.i m c.loop-i.found.single c.in_ok-next.next.single
          c.and-found.result.single (omega (arith, count)) c.method_at-m.ensures c.in_ok-next.ensures.1 c.and-found.ensures.single,
    )

pub returns : goal.returns
returns c =
    let p = program_of c.args.program.now.parts in
    let count = length-map c.args.program.now.parts.methods.items numbered_method_of in (
      sym (c.loop-i.invariant.0 ∙ each_end (method_refusals p) p.methods c.loop-i.i c.loop-i.found.types (omega (arith, count))),
      sym (c.loop-i.invariant.1 ∙ each_end (method_single_refusals p) p.methods c.loop-i.i c.loop-i.found.single (omega (arith, count))),
    )
