use Rattle.std.proofs.Common.{sym, ap, ◌∙◌}
use Rattle.ti_rules.specs.Mirrors.First.{earliest}
use Rattle.ti_check.proofs.Again.{again_is}
use Rattle.ti_check.proofs.modifiers.repeated_modifiers.Goals as goal

pub returns : goal.returns
returns c = c.repetition_by_set.ensures ∙ sym (ap earliest (again_is c.args.words.now))
