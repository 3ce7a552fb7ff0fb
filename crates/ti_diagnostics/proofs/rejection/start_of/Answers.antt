use Rattle.std.proofs.Common.{arith}
use Rattle.ti_diagnostics.proofs.Positions.{error_position}
use Rattle.ti_diagnostics.proofs.rejection.start_of.Goals as goal

pub unreachable-requires : goal.unreachable-requires
unreachable-requires c =
    let at = error_position c.args.text.now c.args.refusal c.requires in
    c.offset_of.ensures.none c.in-None.is (omega arith) at.0 at.1 at.2
