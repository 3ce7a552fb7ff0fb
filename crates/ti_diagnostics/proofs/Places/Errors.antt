-- The error of a tree is at one of its positions, or at the first position of the text.
use Rattle.std.proofs.Common.{[]}
use Rattle.ti_base.specs.declared.place.Place.{Place}
use Rattle.ti_base.specs.Places.{place_after}
use Rattle.ti_syntax.specs.Trees.Classes.{TextTree}
use Rattle.ti_lang.specs.Program.Classes.{ProgramView}
use Rattle.ti_rules.specs.declared.refusal.Refusal.{Refusal}
use Rattle.ti_rules.specs.BrokenNames.{name_refusals}
use Rattle.ti_rules.specs.ProgramRefusals.{IsProgramRefusal, of_types, of_single}
use Rattle.ti_rules.specs.TypeRules.{type_refusals}
use Rattle.ti_rules.specs.SingleRules.{single_refusals}
use Rattle.ti_rules.specs.RefusalOf.{IsTreeRefusal, of_names, of_program}
use Rattle.ti_diagnostics.proofs.Places.Elements.{contained}
use Rattle.ti_diagnostics.proofs.Places.Trees.{TextPlaced}
use Rattle.ti_diagnostics.proofs.Places.Programs.{ProgramPlaced}
use Rattle.ti_diagnostics.proofs.Places.Numbered.{program_placed}
use Rattle.ti_diagnostics.proofs.Places.Names.{names_placed}
use Rattle.ti_diagnostics.proofs.Places.Statements.{types_placed}
use Rattle.ti_diagnostics.proofs.Places.Singles.{singles_placed}

module _ (P : Place → Type 0) where
  abbrev AtPlaced : Refusal → Type 0
  AtPlaced refusal = P refusal.place

  program_error_placed : (p : ProgramView) (refusal : Refusal) → IsProgramRefusal p refusal
      → ProgramPlaced P p → P refusal.place
  program_error_placed p refusal (of_types first) h =
      contained AtPlaced (type_refusals p) refusal (types_placed P p h) first.is_broken
  program_error_placed p refusal (of_single none first) h =
      contained AtPlaced (single_refusals p) refusal (singles_placed P p h) first.is_broken

  -- the position of the error satisfies what each position of the tree and the first of the text do
  pub error_placed : (tree : TextTree) (refusal : Refusal) → IsTreeRefusal tree refusal
      → TextPlaced P tree → P (place_after [])
      → P refusal.place
  error_placed tree refusal (of_names broken) h first =
      contained AtPlaced (name_refusals tree) refusal (names_placed P tree h first) broken.is_broken
  error_placed tree refusal (of_program {program = p} none numbers broken) h first =
      program_error_placed p refusal broken (program_placed P tree p numbers h)
