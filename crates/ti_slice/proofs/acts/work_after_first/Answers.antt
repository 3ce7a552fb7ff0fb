use Rattle.ti_moves.specs.Receiving.{stm_seen}
use Rattle.ti_slice.proofs.Effects.{one_left, before_end, behind_end}
use Rattle.ti_slice.proofs.acts.work_after_first.Goals as goal

pub returns-in-Before : goal.returns-in-Before
returns-in-Before c = λ site levels h a. before_end site (stm_seen c.args.stmt) c.args.resume.now c.after_loop.result c.in-Before.is (c.after_loop.ensures site)

pub returns-in-Behind : goal.returns-in-Behind
returns-in-Behind c = λ site levels h a. behind_end site (stm_seen c.args.stmt) c.args.resume.now c.after_loop-in-Behind.result c.in-Behind.is (c.after_loop-in-Behind.ensures site)

pub returns-in_default : goal.returns-in_default
returns-in_default c = λ site levels h a. one_left site (stm_seen c.args.stmt) c.args.resume.now levels c.in_default.not-Before c.in_default.not-Behind h a
