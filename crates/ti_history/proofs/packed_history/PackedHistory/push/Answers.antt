use Rattle.std.proofs.Common.{ap, ◌∙◌}
use Rattle.ti_history.specs.Mirrors.Held.{lists_in}
use Rattle.ti_history.proofs.Packed.{push_shown, push_packed}
use Rattle.ti_history.proofs.packed_history.PackedHistory.push.Goals as goal

pub invariant_of-self : goal.invariant_of-self
invariant_of-self c =
    rw (c.append.ensures, c.push_reserved.ensures.items, c.of.ensures)
    (push_packed c.self.inside.heads.items (lists_in c.self.inside.columns) c.args.entry c.self.invariant)

pub returns : goal.returns
returns c =
    rw (c.append.ensures, c.push_reserved.ensures.items, c.of.ensures, ← c.self.view_is)
    (push_shown c.self.inside.heads.items (lists_in c.self.inside.columns) c.args.entry c.self.invariant)
