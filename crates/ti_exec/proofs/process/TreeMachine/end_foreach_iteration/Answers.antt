use Rattle.std.proofs.Common.{refl}
use Rattle.ti_eval.specs.declared.frame.Resume.TheVariants as left
use Rattle.ti_exec.proofs.Begun.{went, turn_done}
use Rattle.ti_exec.proofs.process.TreeMachine.end_foreach_iteration.Goals as goal

pub returns : goal.returns
returns c =
    let w = c.args.self.now in
    λ p. went p w c.complete_with.new.self (left.Turn c.args.variable c.args.domain c.args.point) _ _ _ (turn_done p w c.args.variable c.args.domain c.args.point c.requires) refl (c.complete_with.ensures p)
