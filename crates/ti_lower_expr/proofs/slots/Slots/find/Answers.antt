use Rattle.ti_lang.specs.Program.Views.{variable_of}
use Rattle.ti_lower_expr.proofs.Naming.{search_from}
use Rattle.ti_lower_expr.proofs.slots.Slots.find.Goals as goal

pub loop-n-init : goal.loop-n-init
loop-n-init c = record {
  within = c.end-n.ensures.within;
  same = search_from (variable_of c.args.variable.now) c.args.self.now.names.items c.end-n.result c.end-n.ensures.none_behind c.end-n.ensures.within;
}
