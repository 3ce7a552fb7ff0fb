use Rattle.std.proofs.Common.{ap, ◌∙◌}
use Rattle.ti_lower_expr.specs.Views.{slot_names_of}
use Rattle.ti_lower_expr.proofs.Naming.{kept}
use Rattle.ti_lower_expr.proofs.slots.Slots.cut.Goals as goal

pub returns : goal.returns
returns c = ap slot_names_of c.truncate.ensures.items ∙ kept c.args.self.now.names.items c.args.len
