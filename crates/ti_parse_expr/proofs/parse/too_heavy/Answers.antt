use Rattle.std.proofs.Common.{ap, ◌∙◌}
use Rattle.ti_base.specs.declared.place.Place.{Place}
use Rattle.ti_rules.specs.declared.rule.Rule.TheVariants.{G2}
use Rattle.ti_rules.specs.declared.refusal.Refusal.{Refusal}
use Rattle.ti_parse_expr.specs.declared.error.ParseErr.TheVariants.{Refused}
use Rattle.ti_parse_expr.proofs.parse.too_heavy.Goals as goal

abbrev at : Place → Refusal
at place = record { rule = G2; place = place }

pub returns : goal.returns
returns c = λ before last is. c.parse_error.ensures ∙ ap (λ p. Refused (at p)) (c.last_place.ensures before last is)
