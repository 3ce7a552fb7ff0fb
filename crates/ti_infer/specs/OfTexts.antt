-- Inference for a text: its greatest marking, and its refusal, whatever marks it has.
use Rattle.std.specs.Prelude.{◌≡◌, ℕ, List, [], Contains}
use Rattle.ti_base.specs.declared.place.Place.{Place}
use Rattle.ti_syntax.specs.Trees.Classes.{TextTree}
use Rattle.ti_lang.specs.Program.Classes.{ProgramView}
use Rattle.ti_lang.specs.Numbering.{Numbers}
use Rattle.ti_rules.specs.declared.rule.Rule.TheVariants.{B1}
use Rattle.ti_rules.specs.declared.refusal.Refusal.{Refusal}
use Rattle.ti_rules.specs.Refusals.{IsFirstRefusal}
use Rattle.ti_rules.specs.BrokenNames.{BreaksNames}
use Rattle.ti_rules.specs.TypeRules.{type_refusals}
use Rattle.ti_rules.specs.RefusalOf.{HasNone, HasTree, IsRefusal}
use Rattle.ti_blame.specs.declared.mark.Mark.{Mark}
use Rattle.ti_infer.specs.Stripped.{stripped}
use Rattle.ti_infer.specs.Answer.{IsGreatestMarking, IsFirstUnaligned}

-- ---- what is inferred

-- the greatest marking of a text: that of its program with all marks removed, which breaks no rule of types and qualifiers
pub record HasMarking (text : List ℕ) (marks : List Mark) : Type 0 where
  pub tree : TextTree
  pub has_tree : HasTree text tree
  pub named : HasNone (BreaksNames tree)
  pub program : ProgramView
  pub numbers : Numbers tree program
  pub typed : type_refusals (stripped program) ≡ []
  pub greatest : IsGreatestMarking (stripped program) marks

-- some marking is the greatest
abbrev pub HasSomeMarking : List ℕ → Type 0
HasSomeMarking text = (marks : List Mark) × HasMarking text marks

-- ---- refusals

-- the refusal of a tree: by the rules of names; if none of them is broken, by those of types and qualifiers, with all marks removed; and if
-- none of these is broken either, at the first collective that no marking aligns
pub data IsUnmarkedTreeRefusal (tree : TextTree) : Refusal → Type 0 where
  of_names : {refusal : Refusal} → IsFirstRefusal (BreaksNames tree) refusal → IsUnmarkedTreeRefusal tree refusal
  of_types : {program : ProgramView} {refusal : Refusal} → HasNone (BreaksNames tree) → Numbers tree program
      → IsFirstRefusal (Contains (type_refusals (stripped program))) refusal → IsUnmarkedTreeRefusal tree refusal
  of_marks : {program : ProgramView} {place : Place} → HasNone (BreaksNames tree) → Numbers tree program
      → type_refusals (stripped program) ≡ []
      → IsFirstUnaligned (stripped program) place → IsUnmarkedTreeRefusal tree (record { rule = B1; place = place })

-- the refusal of a text, whatever marks it has: that of its tree, or if it has no tree, that of every mode
pub data IsUnmarkedRefusal (text : List ℕ) : Refusal → Type 0 where
  of_text : {refusal : Refusal} → ((tree : TextTree) → HasTree text tree → ⊥) → IsRefusal text refusal → IsUnmarkedRefusal text refusal
  of_tree : {tree : TextTree} {refusal : Refusal} → HasTree text tree → IsUnmarkedTreeRefusal tree refusal → IsUnmarkedRefusal text refusal
