use Rattle.ti_rect.specs.Axes.{range}
use Rattle.ti_rect.proofs.MeetLaws.{Walked}
use Rattle.ti_rect.proofs.meet.next_common.Given as goal

abbrev pub invariant-loop-steps : goal.invariant-loop-steps
invariant-loop-steps l = Walked (range l.left) (range l.right) l.from l.x l._steps
