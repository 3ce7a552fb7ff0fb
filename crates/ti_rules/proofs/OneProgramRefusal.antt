-- A program breaks no rule, or has exactly one first error, and never both.
use Rattle.std.proofs.Common.{◌≡◌, List, [], length, Contains, Option, Some, None, refl, ap, ◌∙◌, arith}
use Rattle.std.specs.Option.{option_or}
use Rattle.ti_lang.specs.Program.Classes.{ProgramView}
use Rattle.ti_rules.specs.declared.refusal.Refusal.{Refusal}
use Rattle.ti_rules.specs.Mirrors.First.{earliest}
use Rattle.ti_rules.specs.TypeRules.{type_refusals}
use Rattle.ti_rules.specs.SingleRules.{single_refusals}
use Rattle.ti_rules.specs.ProgramRefusals.{IsProgramRefusal, of_types, of_single, BreaksNothing}
use Rattle.ti_rules.specs.Mirrors.ProgramRefusal.{program_refusal}
use Rattle.ti_rules.proofs.First.{first_is, first_none}
use Rattle.ti_rules.proofs.FirstRefusal.{first_only}

pub found : (p : ProgramView) (r : Refusal) → program_refusal p ≡ Some r → IsProgramRefusal p r
found p r e = by (earliest (type_refusals p)) refl e
  where
    by : (o : Option Refusal) → earliest (type_refusals p) ≡ o → option_or o (earliest (single_refusals p)) ≡ Some r → IsProgramRefusal p r
    by None is e = of_single (first_none (type_refusals p) is) (first_is (single_refusals p) r e)
    by (Some t) is e = of_types (first_is (type_refusals p) r (is ∙ e))

pub nothing_found : (p : ProgramView) → program_refusal p ≡ None → BreaksNothing p
nothing_found p e = by (earliest (type_refusals p)) refl e
  where
    by : (o : Option Refusal) → earliest (type_refusals p) ≡ o → option_or o (earliest (single_refusals p)) ≡ None → BreaksNothing p
    by None is e = record { types = first_none (type_refusals p) is; single = first_none (single_refusals p) e }
    by (Some t) is e = cc

pub not_among : (xs : List Refusal) (r : Refusal) → xs ≡ [] → Contains xs r → ⊥
not_among xs r e c = omega (arith, c.1, ap length e)

pub one_first : (p : ProgramView) (r s : Refusal) → IsProgramRefusal p r → IsProgramRefusal p s → r ≡ s
one_first p r s (of_types first) (of_types other) = first_only (Contains (type_refusals p)) r s first other
one_first p r s (of_types first) (of_single none other) = absurd (not_among (type_refusals p) r none first.is_broken)
one_first p r s (of_single none first) (of_types other) = absurd (not_among (type_refusals p) s none other.is_broken)
one_first p r s (of_single none first) (of_single nothing other) = first_only (Contains (single_refusals p)) r s first other

pub not_both : (p : ProgramView) (r : Refusal) → BreaksNothing p → IsProgramRefusal p r → ⊥
not_both p r fine (of_types first) = not_among (type_refusals p) r fine.types first.is_broken
not_both p r fine (of_single none first) = not_among (single_refusals p) r fine.single first.is_broken
