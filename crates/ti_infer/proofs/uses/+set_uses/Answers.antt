use Rattle.std.proofs.Common.{arith}
use borrow.Enum.Known.{ValuesAt}
use Rattle.ti_lang.specs.contracts.program.exprs.Expr.{enum}
use Rattle.ti_lang.specs.Program.Views.{expression_of, bound_of}
use Rattle.ti_infer.specs.Marked.{marked_exp, marked_range}
use Rattle.ti_infer.proofs.Turning.{turned}
use Rattle.ti_infer.proofs.MarkedUses.{held_at, held_by, call_marked, own_call_marked, point_marked, rect_marked}
use Rattle.ti_infer.proofs.MarkedUses.{box_marked, member_marked, index_marked}
use Rattle.ti_infer.proofs.uses.+set_uses.Goals as goal

pub set_uses-returns-in-Call : goal.set_uses-returns-in-Call
set_uses-returns-in-Call g t c =
    rw (held_at 7 (c.in-Call.place, (c.in-Call.method, (c.in-Call.args, tt))) c.args.node.now c.in-Call.is)
    (call_marked _ c.args.node.now c.in-Call.place c.in-Call.method c.in-Call.args c.set_in_all.new.exprs c.in-Call.is
    (rw c.in-Call.args-is at c.set_in_all.ensures))

pub set_uses-returns-in-OwnCall : goal.set_uses-returns-in-OwnCall
set_uses-returns-in-OwnCall g t c =
    rw (held_at 8 (c.in-OwnCall.place, (c.in-OwnCall.method, (c.in-OwnCall.args, tt))) c.args.node.now c.in-OwnCall.is)
    (own_call_marked _ c.args.node.now c.in-OwnCall.place c.in-OwnCall.method c.in-OwnCall.args c.set_in_all-in-OwnCall.new.exprs c.in-OwnCall.is
    (rw c.in-OwnCall.args-is at c.set_in_all-in-OwnCall.ensures))

pub set_uses-returns-in-Point : goal.set_uses-returns-in-Point
set_uses-returns-in-Point g t c =
    rw (held_at 11 (c.in-Point.field-0, (c.in-Point.parts, tt)) c.args.node.now c.in-Point.is)
    (point_marked _ c.args.node.now c.in-Point.field-0 c.in-Point.parts c.set_in_all-in-Point.new.exprs c.in-Point.is
    (rw c.in-Point.parts-is at c.set_in_all-in-Point.ensures))

pub set_uses-returns-in-Rect : goal.set_uses-returns-in-Rect
set_uses-returns-in-Rect g t c =
    rw (held_at 12 (c.in-Rect.field-0, (c.in-Rect.ranges, tt)) c.args.node.now c.in-Rect.is)
    (rect_marked _ c.args.node.now c.in-Rect.field-0 c.in-Rect.ranges c.set_in_ranges.new.ranges c.in-Rect.is
    (rw c.in-Rect.ranges-is at c.set_in_ranges.ensures))

pub set_uses-returns-in-Member : goal.set_uses-returns-in-Member
set_uses-returns-in-Member g t c =
    let v : ValuesAt enum.parts 17 = (c.in-Member.place, (c.in-Member.receiver, (c.in-Member.name, (c.in-Member.args, tt)))) in
    rw (held_by 17 v v c.args.node.now c.in-Member.is)
    (member_marked _ c.args.node.now c.in-Member.place c.in-Member.receiver
    (record c.in-Member.receiver { value = c.set_uses-in-Member.new.node })
    c.in-Member.name c.in-Member.args c.set_in_all-in-Member.new.exprs c.in-Member.is
    (box_marked _ c.deref_mut-in-Member.result.now c.set_uses-in-Member.new.node _ c.in-Member.receiver
    c.set_uses-in-Member.ensures c.deref_mut-in-Member.ensures.value c.in-Member.receiver-is)
    (rw c.in-Member.args-is at c.set_in_all-in-Member.ensures))

pub set_uses-returns-in-Index : goal.set_uses-returns-in-Index
set_uses-returns-in-Index g t c =
    let v : ValuesAt enum.parts 18 = (c.in-Index.place, (c.in-Index.receiver, (c.in-Index.indices, tt))) in
    rw (held_by 18 v v c.args.node.now c.in-Index.is)
    (index_marked _ c.args.node.now c.in-Index.place c.in-Index.receiver
    (record c.in-Index.receiver { value = c.set_uses-in-Index.new.node })
    c.in-Index.indices c.set_in_all-in-Index.new.exprs c.in-Index.is
    (box_marked _ c.deref_mut-in-Index.result.now c.set_uses-in-Index.new.node _ c.in-Index.receiver
    c.set_uses-in-Index.ensures c.deref_mut-in-Index.ensures.value c.in-Index.receiver-is)
    (rw c.in-Index.indices-is at c.set_in_all-in-Index.ensures))

pub set_in_all-returns : goal.set_in_all-returns
set_in_all-returns g t c =
    turned expression_of (marked_exp (g.S.Singles.says c.args.singles.now)) _ _ c.loop-i.invariant.0.0
    (λ k d lt. c.loop-i.invariant.1 k d (omega (arith, c.len-i-end.ensures)))

pub set_in_ranges-returns : goal.set_in_ranges-returns
set_in_ranges-returns g t c =
    turned bound_of (marked_range (g.S.Singles.says c.args.singles.now)) _ _ c.loop-i.invariant.0.0
    (λ k d lt. c.loop-i.invariant.1 k d (omega (arith, c.len-i-end.ensures)))
