use Rattle.std.proofs.Common.{arith, ◌-◌, ◌∷◌, [], refl}
use Rattle.ti_code.specs.declared.instr.Instr.TheVariants as i
use Rattle.ti_lower_expr.proofs.Beginning.{on_any_err, same_begins, added_begins, both_begin}
use Rattle.ti_lower_expr.proofs.Growing.{pops_more}
use Rattle.ti_lower_expr.proofs.emission.add_pops.Goals as goal

pub loop-left-init : goal.loop-left-init
loop-left-init c = record { code = refl; begins = same_begins refl }

pub loop-left-preserved : goal.loop-left-preserved
loop-left-preserved c = record {
  code = pops_more c.loop-left.out.items c.push.new.self.items _ c.loop-left.left (c.loop-left.left - 1) (omega (arith, c.loop-left-test.true)) c.in_ok-push.ensures.items
      c.loop-left.invariant.code;
  begins = both_begin c.loop-left.invariant.begins (added_begins (i.Pop ∷ []) c.in_ok-push.ensures.items);
}

pub returns-in_err-push-clause-err : goal.returns-in_err-push-clause-err
returns-in_err-push-clause-err c = on_any_err c.from_residual.result (both_begin c.loop-left.invariant.begins (same_begins c.in_err-push.ensures.items))
