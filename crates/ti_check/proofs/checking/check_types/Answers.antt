use Rattle.std.proofs.Common.{sym, ◌∙◌}
use Rattle.ti_lang.specs.Program.Views.{program_of}
use Rattle.ti_rules.specs.TypeRules.{type_refusals}
use Rattle.ti_check.proofs.checking.check_types.Goals as goal

pub returns-in-Some : goal.returns-in-Some
returns-in-Some c = c.first_counts.ensures.some (type_refusals (program_of c.args.program.now.parts)) c.in-Some.refusal (sym c.in_ok-found.ensures.types ∙ c.in-Some.is)

pub returns-in-None : goal.returns-in-None
returns-in-None c = c.first_counts.ensures.none (type_refusals (program_of c.args.program.now.parts)) (sym c.in_ok-found.ensures.types ∙ c.in-None.is)
