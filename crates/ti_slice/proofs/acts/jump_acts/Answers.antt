use Rattle.std.proofs.Common.{◌∙◌, sym, arith}
use Rattle.ti_lang.specs.Program.Statements.{numbered_stms}
use Rattle.ti_lang.specs.Program.Views.{program_of, numbered_method_of}
use Rattle.ti_moves.specs.Receiving.{stm_seen}
use Rattle.ti_slice.proofs.Effects.{jump_found, jump_further, jump_nowhere}
use Rattle.ti_slice.proofs.acts.jump_acts.Goals as goal

pub returns-then-is_mark : goal.returns-then-is_mark
returns-then-is_mark c =
    let m = numbered_method_of c.args.method.now in
    jump_found (program_of c.args.program.now.parts) m (numbered_stms m.body) c.args.levels.now c.loop-n.n c.index-levels-n.result
    c.mark_acts.result (stm_seen c.statement_at.result) (omega (arith, c.loop-n-test.true))
    (omega (arith, c.loop-n.invariant.within)) (rw c.deref.ensures.value at c.statement_at.ensures) c.mark_acts.ensures c.loop-n.invariant.same

pub loop-n-preserved : goal.loop-n-preserved
loop-n-preserved c =
    let m = numbered_method_of c.args.method.now in
    record {
      within = omega (arith, c.loop-n.invariant.within);
      same = jump_further (program_of c.args.program.now.parts) m (numbered_stms m.body) c.args.levels.now c.loop-n.n c.index-levels-n.result
          (omega (arith, c.loop-n-test.true)) (omega (arith, c.loop-n.invariant.within))
          (sym c.is_mark.ensures ∙ c.if-is_mark.false) c.loop-n.invariant.same;
    }

pub returns : goal.returns
returns c =
    let m = numbered_method_of c.args.method.now in
    jump_nowhere (program_of c.args.program.now.parts) m (numbered_stms m.body) c.args.levels.now c.loop-n.n (omega (arith, c.loop-n-test.false)) c.loop-n.invariant.same
