use Rattle.std.proofs.Common.{map, flat_map, ap, ◌∙◌}
use Rattle.ti_lang.specs.Program.Views.{program_of, numbered_class_of}
use Rattle.ti_rules.specs.Mirrors.First.{earliest}
use Rattle.ti_rules.specs.TypeRules.{class_refusals}
use Rattle.ti_check.proofs.Heads.{types_are}
use Rattle.ti_check.proofs.checking.first_refusals.Goals as goal

pub returns-clause-types : goal.returns-clause-types
returns-clause-types c =
    types_are (program_of c.args.program.now.parts) c.classes.result c.earlier_of.result c.in_ok-found.found
    (c.classes.ensures ∙ ap (λ l. earliest (flat_map class_refusals (map numbered_class_of l))) c.deref.ensures.value) c.in_ok-found.ensures c.earlier_of.ensures
