-- The error that is reported for a resolved program, and which programs break no rule.
use Rattle.std.specs.Prelude.{◌≡◌, [], Contains}
use Rattle.ti_lang.specs.Program.Classes.{ProgramView}
use Rattle.ti_lang.specs.Numbering.{IsNumbered}
use Rattle.ti_rules.specs.declared.refusal.Refusal.{Refusal}
use Rattle.ti_rules.specs.Refusals.{IsFirstRefusal}
use Rattle.ti_rules.specs.TypeRules.{type_refusals}
use Rattle.ti_rules.specs.SingleRules.{single_refusals}

-- the first error by the rules of types and qualifiers, or, if there is none, the first by the rules of single values
pub data IsProgramRefusal (p : ProgramView) : Refusal → Type 0 where
  of_types : {refusal : Refusal} → IsFirstRefusal (Contains (type_refusals p)) refusal → IsProgramRefusal p refusal
  of_single : {refusal : Refusal} → type_refusals p ≡ [] → IsFirstRefusal (Contains (single_refusals p)) refusal
      → IsProgramRefusal p refusal

-- no rule of types, qualifiers or single values is broken
pub record BreaksNothing (p : ProgramView) : Type 0 where
  pub types : type_refusals p ≡ []
  pub single : single_refusals p ≡ []

-- a resolved program that breaks no rule
pub record IsChecked (p : ProgramView) : Type 0 where
  pub numbered : ∥ IsNumbered p ∥₁
  pub unbroken : BreaksNothing p
