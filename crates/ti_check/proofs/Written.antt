-- The first error of an assignment is proved to follow from the first error of its value.
use Rattle.std.proofs.Common.{◌≡◌, Bool, true, false, List, ◌++◌, if◌then◌else◌, refl, sym}
use Rattle.ti_base.specs.declared.place.Place.{Place}
use Rattle.ti_lang.specs.Program.Expressions.{NumberedExp}
use Rattle.ti_lang.specs.Program.Classes.{ProgramView}
use Rattle.ti_lang.specs.Program.Scope.{ScopeContents}
use Rattle.ti_rules.specs.declared.rule.Rule.TheVariants.{Y1, Y2, Q2}
use Rattle.ti_rules.specs.declared.refusal.Refusal.{Refusal}
use Rattle.ti_rules.specs.Refusals.{refused_if}
use Rattle.ti_rules.specs.Mirrors.First.{earlier_of, earliest}
use Rattle.ti_rules.specs.Broken.Refused.{refusal_at}
use Rattle.ti_rules.specs.Broken.Targets.{is_foreach_variable, is_point_coordinate, is_hidden_local, write_refusals}
use Rattle.ti_rules.proofs.Lemmas.{first_append}
use Rattle.ti_check.specs.Mirrors.Targets.{write_refusal}

choose : (b : Bool) (l parts value : List Refusal) → (if b then earliest l else earlier_of (earliest parts) (earliest value)) ≡ earliest (if b then l else parts ++ value)
choose true l parts value = refl
choose false l parts value = sym (first_append parts value)

pub written_is : (p : ProgramView) (s : ScopeContents) (at : Place) (target : NumberedExp) (value : List Refusal)
    → write_refusal p s at target (earliest value) ≡ earliest (write_refusals p s at target value)
written_is p s at target value = choose (is_point_coordinate p s target) (refusal_at Y1 at) (refused_if (is_foreach_variable target) Y2 at ++ refused_if (is_hidden_local p s target) Q2 at) value

pub ruleset written_laws = (written_is)
