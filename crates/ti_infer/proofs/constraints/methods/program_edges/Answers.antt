use Rattle.std.proofs.Common.{arith}
use Rattle.std.proofs.lemmas.List.{length-map}
use Rattle.ti_lang.specs.Program.Views.{program_of, numbered_method_of}
use Rattle.ti_infer.proofs.Walking.{reasons_step, edges_step}
use Rattle.ti_infer.proofs.constraints.methods.program_edges.Goals as goal

pub loop-i-preserved : goal.loop-i-preserved
loop-i-preserved c =
    let p = program_of c.args.program.now.parts in
    let m = numbered_method_of c.method_at-m.result.now in
    let count = length-map c.args.program.now.parts.methods.items numbered_method_of in (
      reasons_step p p.methods c.loop-i.i m (omega (arith, count)) c.method_at-m.ensures c.loop-i.items.items c.method_edges.new.items.items _ c.in_ok-method_edges.ensures.items c.loop-i.invariant.0,
      edges_step p p.methods c.loop-i.i m (omega (arith, count)) c.method_at-m.ensures c.loop-i.items.items c.method_edges.new.items.items
          c.loop-i.edges.items c.method_edges.new.out.items _ c.in_ok-method_edges.ensures.items
          c.in_ok-method_edges.ensures.edges c.loop-i.invariant.1,
    )
