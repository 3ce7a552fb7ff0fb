-- Which programs are rejected, and by which rule.
use Rattle.std.specs.Prelude.{◌≡◌, List, Some, is_none, true}
use Rattle.std.specs.List.{list_all}
use Rattle.ti_base.specs.declared.place.Place.{Place}
use Rattle.ti_lang.specs.Program.Classes.{ProgramView}
use Rattle.ti_lang.specs.Meaning.Processes.{RunConfig}
use Rattle.ti_rules.specs.declared.rule.Rule.{Rule}
use Rattle.ti_rules.specs.Mirrors.ProgramRefusal.{program_refusal}

-- the first refusal of the program is by this rule at this place
abbrev pub Refuses : ProgramView → Rule → Place → Type 0
Refuses p rule at = program_refusal p ≡ Some (record { rule = rule; place = at })

-- the programs of these runs break no rule
abbrev pub AreAccepted : List RunConfig → Type 0
AreAccepted rows = list_all (λ (s : RunConfig). is_none (program_refusal s.program)) rows ≡ true
