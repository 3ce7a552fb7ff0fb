use Rattle.std.proofs.Common.{sym, ◌∙◌}
use Rattle.ti_lang.specs.Program.Views.{program_of}
use Rattle.ti_rules.proofs.Lemmas.{found, nothing_found}
use Rattle.ti_check.proofs.checking.check.Goals as goal

pub of-requires : goal.of-requires
of-requires c = nothing_found (program_of c.args.program.parts) (sym c.in_ok-found.ensures ∙ c.in-None.is)

pub returns-in-Some : goal.returns-in-Some
returns-in-Some c = found (program_of c.args.program.parts) c.in-Some.refusal (sym c.in_ok-found.ensures ∙ c.in-Some.is)
