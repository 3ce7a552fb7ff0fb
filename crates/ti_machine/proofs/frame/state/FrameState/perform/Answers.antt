use Rattle.std.proofs.Common.{sym, subst}
use Rattle.ti_machine.specs.Mirrors.FrameStates.{local_state_of, who, InstrOutcome}
use Rattle.ti_machine.proofs.frame.state.FrameState.perform.Goals as goal

pub returns-in-Const : goal.returns-in-Const
returns-in-Const c rs = subst (λ x. InstrOutcome (who c.args.team rs) x c.constant.result (local_state_of c.args.self.now) (local_state_of c.constant.new.self))
    (sym c.in-Const.is) (c.constant.ensures (who c.args.team rs))

pub returns-in-EmptyDom : goal.returns-in-EmptyDom
returns-in-EmptyDom c rs = subst (λ x. InstrOutcome (who c.args.team rs) x c.empty_domain.result (local_state_of c.args.self.now)
    (local_state_of c.empty_domain.new.self)) (sym c.in-EmptyDom.is) (c.empty_domain.ensures (who c.args.team rs))

pub returns-in-Pop : goal.returns-in-Pop
returns-in-Pop c rs = subst (λ x. InstrOutcome (who c.args.team rs) x c.drop_one.result (local_state_of c.args.self.now) (local_state_of c.drop_one.new.self)) (sym c.in-Pop.is) (c.drop_one.ensures (who c.args.team rs))

pub returns-in-Dup : goal.returns-in-Dup
returns-in-Dup c rs = subst (λ x. InstrOutcome (who c.args.team rs) x c.double.result (local_state_of c.args.self.now) (local_state_of c.double.new.self)) (sym c.in-Dup.is) (c.double.ensures (who c.args.team rs))

pub returns-in-Load : goal.returns-in-Load
returns-in-Load c rs = subst (λ x. InstrOutcome (who c.args.team rs) x c.load.result (local_state_of c.args.self.now) (local_state_of c.load.new.self)) (sym c.in-Load.is) (c.load.ensures (who c.args.team rs))

pub returns-in-Keep : goal.returns-in-Keep
returns-in-Keep c rs = subst (λ x. InstrOutcome (who c.args.team rs) x c.keep.result (local_state_of c.args.self.now) (local_state_of c.keep.new.self)) (sym c.in-Keep.is) (c.keep.ensures (who c.args.team rs))

pub returns-in-Trim : goal.returns-in-Trim
returns-in-Trim c rs = subst (λ x. InstrOutcome (who c.args.team rs) x c.trim.result (local_state_of c.args.self.now) (local_state_of c.trim.new.self)) (sym c.in-Trim.is) (c.trim.ensures (who c.args.team rs))

pub returns-in-ThisProc : goal.returns-in-ThisProc
returns-in-ThisProc c rs = subst (λ x. InstrOutcome (who c.args.team rs) x c.this_proc.result (local_state_of c.args.self.now) (local_state_of c.this_proc.new.self)) (sym c.in-ThisProc.is) (c.this_proc.ensures rs)

pub returns-in-NumProcs : goal.returns-in-NumProcs
returns-in-NumProcs c rs = subst (λ x. InstrOutcome (who c.args.team rs) x c.num_procs.result (local_state_of c.args.self.now) (local_state_of c.num_procs.new.self)) (sym c.in-NumProcs.is) (c.num_procs.ensures rs)

pub returns-in-Operate : goal.returns-in-Operate
returns-in-Operate c rs = subst (λ x. InstrOutcome (who c.args.team rs) x c.operate.result (local_state_of c.args.self.now) (local_state_of c.operate.new.self))
    (sym c.in-Operate.is) (c.operate.ensures (who c.args.team rs))

pub returns-in-Alone : goal.returns-in-Alone
returns-in-Alone c rs = subst (λ x. InstrOutcome (who c.args.team rs) x c.operate_unary.result (local_state_of c.args.self.now)
    (local_state_of c.operate_unary.new.self)) (sym c.in-Alone.is) (c.operate_unary.ensures (who c.args.team rs))

pub returns-in-Widen : goal.returns-in-Widen
returns-in-Widen c rs = subst (λ x. InstrOutcome (who c.args.team rs) x c.widen.result (local_state_of c.args.self.now) (local_state_of c.widen.new.self)) (sym c.in-Widen.is) (c.widen.ensures (who c.args.team rs))

pub returns-in-Narrow : goal.returns-in-Narrow
returns-in-Narrow c rs = subst (λ x. InstrOutcome (who c.args.team rs) x c.narrow.result (local_state_of c.args.self.now) (local_state_of c.narrow.new.self)) (sym c.in-Narrow.is) (c.narrow.ensures (who c.args.team rs))

pub returns-in-AsObj : goal.returns-in-AsObj
returns-in-AsObj c rs = subst (λ x. InstrOutcome (who c.args.team rs) x c.as_object.result (local_state_of c.args.self.now)
    (local_state_of c.as_object.new.self)) (sym c.in-AsObj.is) (c.as_object.ensures (who c.args.team rs))

pub returns-in-AsGrid : goal.returns-in-AsGrid
returns-in-AsGrid c rs = subst (λ x. InstrOutcome (who c.args.team rs) x c.as_grid.result (local_state_of c.args.self.now) (local_state_of c.as_grid.new.self)) (sym c.in-AsGrid.is) (c.as_grid.ensures (who c.args.team rs))

pub returns-in-MakePt : goal.returns-in-MakePt
returns-in-MakePt c rs = subst (λ x. InstrOutcome (who c.args.team rs) x c.make_point.result (local_state_of c.args.self.now)
    (local_state_of c.make_point.new.self)) (sym c.in-MakePt.is) (c.make_point.ensures (who c.args.team rs))

pub returns-in-Coord : goal.returns-in-Coord
returns-in-Coord c rs = subst (λ x. InstrOutcome (who c.args.team rs) x c.coordinate.result (local_state_of c.args.self.now)
    (local_state_of c.coordinate.new.self)) (sym c.in-Coord.is) (c.coordinate.ensures (who c.args.team rs))

pub returns-in-Step : goal.returns-in-Step
returns-in-Step c rs = subst (λ x. InstrOutcome (who c.args.team rs) x c.step.result (local_state_of c.args.self.now) (local_state_of c.step.new.self)) (sym c.in-Step.is) (c.step.ensures (who c.args.team rs))

pub returns-in-MakeRect : goal.returns-in-MakeRect
returns-in-MakeRect c rs = subst (λ x. InstrOutcome (who c.args.team rs) x c.make_rect.result (local_state_of c.args.self.now)
    (local_state_of c.make_rect.new.self)) (sym c.in-MakeRect.is) (c.make_rect.ensures (who c.args.team rs))

pub returns-in-RectOfPts : goal.returns-in-RectOfPts
returns-in-RectOfPts c rs = subst (λ x. InstrOutcome (who c.args.team rs) x c.make_rect-in-RectOfPts.result (local_state_of c.args.self.now)
    (local_state_of c.make_rect-in-RectOfPts.new.self)) (sym c.in-RectOfPts.is) (c.make_rect-in-RectOfPts.ensures (who c.args.team rs))

pub returns-in-Common : goal.returns-in-Common
returns-in-Common c rs = subst (λ x. InstrOutcome (who c.args.team rs) x c.meet.result (local_state_of c.args.self.now) (local_state_of c.meet.new.self)) (sym c.in-Common.is) (c.meet.ensures (who c.args.team rs))

pub returns-in-ToDom : goal.returns-in-ToDom
returns-in-ToDom c rs = subst (λ x. InstrOutcome (who c.args.team rs) x c.as_domain.result (local_state_of c.args.self.now)
    (local_state_of c.as_domain.new.self)) (sym c.in-ToDom.is) (c.as_domain.ensures (who c.args.team rs))

pub returns-in-Member : goal.returns-in-Member
returns-in-Member c rs = subst (λ x. InstrOutcome (who c.args.team rs) x c.member.result (local_state_of c.args.self.now) (local_state_of c.member.new.self)) (sym c.in-Member.is) (c.member.ensures (who c.args.team rs))

pub returns-in-CastLocal : goal.returns-in-CastLocal
returns-in-CastLocal c rs = subst (λ x. InstrOutcome (who c.args.team rs) x c.cast_local.result (local_state_of c.args.self.now) (local_state_of c.cast_local.new.self)) (sym c.in-CastLocal.is) (c.cast_local.ensures rs)

pub returns-in-Jump : goal.returns-in-Jump
returns-in-Jump c rs = subst (λ x. InstrOutcome (who c.args.team rs) x c.jump.result (local_state_of c.args.self.now) (local_state_of c.jump.new.self)) (sym c.in-Jump.is) (c.jump.ensures (who c.args.team rs))

pub returns-in-JumpIf : goal.returns-in-JumpIf
returns-in-JumpIf c rs = subst (λ x. InstrOutcome (who c.args.team rs) x c.jump_if.result (local_state_of c.args.self.now) (local_state_of c.jump_if.new.self)) (sym c.in-JumpIf.is) (c.jump_if.ensures (who c.args.team rs))

pub returns-in-JumpIfNot : goal.returns-in-JumpIfNot
returns-in-JumpIfNot c rs = subst (λ x. InstrOutcome (who c.args.team rs) x c.jump_if_not.result (local_state_of c.args.self.now)
    (local_state_of c.jump_if_not.new.self)) (sym c.in-JumpIfNot.is) (c.jump_if_not.ensures (who c.args.team rs))

pub returns-in-Next : goal.returns-in-Next
returns-in-Next c rs = subst (λ x. InstrOutcome (who c.args.team rs) x c.next_point.result (local_state_of c.args.self.now)
    (local_state_of c.next_point.new.self)) (sym c.in-Next.is) (c.next_point.ensures (who c.args.team rs))

pub returns-in-GetField : goal.returns-in-GetField
returns-in-GetField c rs = subst (λ x. InstrOutcome (who c.args.team rs) x c.get_field.result (local_state_of c.args.self.now)
    (local_state_of c.get_field.new.self)) (sym c.in-GetField.is) (c.get_field.ensures (who c.args.team rs))

pub returns-in-PutField : goal.returns-in-PutField
returns-in-PutField c rs = subst (λ x. InstrOutcome (who c.args.team rs) x c.put_field.result (local_state_of c.args.self.now)
    (local_state_of c.put_field.new.self)) (sym c.in-PutField.is) (c.put_field.ensures (who c.args.team rs))

pub returns-in-GetElem : goal.returns-in-GetElem
returns-in-GetElem c rs = subst (λ x. InstrOutcome (who c.args.team rs) x c.get_element.result (local_state_of c.args.self.now)
    (local_state_of c.get_element.new.self)) (sym c.in-GetElem.is) (c.get_element.ensures (who c.args.team rs))

pub returns-in-PutElem : goal.returns-in-PutElem
returns-in-PutElem c rs = subst (λ x. InstrOutcome (who c.args.team rs) x c.put_element.result (local_state_of c.args.self.now)
    (local_state_of c.put_element.new.self)) (sym c.in-PutElem.is) (c.put_element.ensures (who c.args.team rs))

pub returns-in-NewObj : goal.returns-in-NewObj
returns-in-NewObj c rs = subst (λ x. InstrOutcome (who c.args.team rs) x c.new_object.result (local_state_of c.args.self.now)
    (local_state_of c.new_object.new.self)) (sym c.in-NewObj.is) (c.new_object.ensures (who c.args.team rs))

pub returns-in-NewGrid : goal.returns-in-NewGrid
returns-in-NewGrid c rs = subst (λ x. InstrOutcome (who c.args.team rs) x c.new_grid.result (local_state_of c.args.self.now)
    (local_state_of c.new_grid.new.self)) (sym c.in-NewGrid.is) (c.new_grid.ensures (who c.args.team rs))

pub returns-in-Print : goal.returns-in-Print
returns-in-Print c rs = subst (λ x. InstrOutcome (who c.args.team rs) x c.print.result (local_state_of c.args.self.now) (local_state_of c.print.new.self)) (sym c.in-Print.is) (c.print.ensures (who c.args.team rs))

pub returns-in-RootTest : goal.returns-in-RootTest
returns-in-RootTest c rs = subst (λ x. InstrOutcome (who c.args.team rs) x c.root_test.result (local_state_of c.args.self.now) (local_state_of c.root_test.new.self)) (sym c.in-RootTest.is) (c.root_test.ensures rs)

pub returns-in-GridTest : goal.returns-in-GridTest
returns-in-GridTest c rs = subst (λ x. InstrOutcome (who c.args.team rs) x c.grid_test.result (local_state_of c.args.self.now) (local_state_of c.grid_test.new.self)) (sym c.in-GridTest.is) (c.grid_test.ensures rs)

pub returns-in-Take : goal.returns-in-Take
returns-in-Take c rs = subst (λ x. InstrOutcome (who c.args.team rs) x c.take.result (local_state_of c.args.self.now) (local_state_of c.take.new.self)) (sym c.in-Take.is) (c.take.ensures (who c.args.team rs))
