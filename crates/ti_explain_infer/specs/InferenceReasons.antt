-- What an explanation of a text in mode infer is: its refusal there, with the reasons for it. These
-- are those of mode check where both modes refuse the text alike, and a chain of constraints for a
-- collective that no annotations align.
use Rattle.std.specs.Prelude.{◌≡◌, ℕ, List, [], map, Contains, Option, Some, None, Result, Ok, Err}
use Rattle.ti_base.specs.declared.memory.Memory.{Memory}
use Rattle.ti_base.specs.declared.place.Place.{Place}
use Rattle.ti_syntax.specs.Trees.Classes.{TextTree}
use Rattle.ti_lang.specs.Program.Classes.{ProgramView}
use Rattle.ti_lang.specs.Numbering.{Numbers}
use Rattle.ti_rules.specs.declared.rule.Rule.TheVariants.{B1}
use Rattle.ti_rules.specs.declared.refusal.Refusal.{Refusal}
use Rattle.ti_rules.specs.BrokenNames.{BreaksNames}
use Rattle.ti_rules.specs.Refusals.{IsFirstRefusal}
use Rattle.ti_rules.specs.TypeRules.{type_refusals}
use Rattle.ti_rules.specs.RefusalOf.{HasNone, HasTree, IsRefusal}
use Rattle.ti_blame.specs.declared.chains.ChainStep.{ChainStep}
use Rattle.ti_infer.specs.Stripped.{stripped}
use Rattle.ti_infer.specs.OfTexts.{HasSomeMarking, IsUnmarkedRefusal}
use Rattle.ti_infer.specs.Unaligned.{IsProgramChain}
use Rattle.ti_explain.specs.declared.reason.RefusalReason.{RefusalReason}
use Rattle.ti_explain.specs.declared.reason.Explanation.{Explanation}
use Rattle.ti_explain.specs.Explanations.{AreReasons}
use Rattle.ti_explain.specs.ReasonSpans.{without_len, HasLengths}
use Rattle.ti_explain_infer.specs.ChainReasons.{chain_reasons}

-- the program of a text that breaks no rule of bytes, tokens and names
pub record IsResolved (text : List ℕ) (program : ProgramView) : Type 0 where
  pub tree : TextTree
  pub has_tree : HasTree text tree
  pub named : HasNone (BreaksNames tree)
  pub numbers : Numbers tree program

-- the first refusal, by the rules of types and qualifiers, of the program without its annotations
pub record IsTypeRefusal (text : List ℕ) (refusal : Refusal) : Type 0 where
  pub program : ProgramView
  pub resolved : IsResolved text program
  pub first : IsFirstRefusal (Contains (type_refusals (stripped program))) refusal

-- the steps are a chain of constraints of the program to the collective at this position
pub record IsTextChain (text : List ℕ) (program : ProgramView) (at : Place) (steps : List ChainStep)
    : Type 0 where
  pub resolved : IsResolved text program
  pub chain : IsProgramChain (stripped program) at steps

-- the reasons for a refusal of a text by mode infer
pub data AreInferenceReasons (text : List ℕ) (refusal : Refusal)
    : List RefusalReason → Type 0 where
  -- mode check refuses the text alike, for these reasons
  of_check : {reasons : List RefusalReason} → IsRefusal text refusal
      → AreReasons text refusal reasons → AreInferenceReasons text refusal reasons
  -- it doesn't, since an annotation breaks a rule sooner
  of_types : IsTypeRefusal text refusal → (IsRefusal text refusal → ⊥)
      → AreInferenceReasons text refusal []
  -- no annotations align the collective
  of_chain : (program : ProgramView) (steps : List ChainStep) → refusal.rule ≡ B1
      → IsTextChain text program refusal.place steps
      → AreInferenceReasons text refusal (chain_reasons (stripped program) refusal.place steps)

-- the refusal of a text in mode infer, the reasons for it, and their lengths
pub record IsInferenceExplained (text : List ℕ) (e : Explanation) : Type 0 where
  pub refused : IsUnmarkedRefusal text e.refusal
  pub reasons : AreInferenceReasons text e.refusal (map without_len e.reasons.items)
  pub lengths : HasLengths text e

-- None if mode infer accepts the text, that is, if it has a greatest marking; else its refusal,
-- explained; out of memory is always possible
abbrev pub ExplainsInference : List ℕ → Result (Option Explanation) Memory → Type 0
ExplainsInference text (Ok None) = HasSomeMarking text
ExplainsInference text (Ok (Some e)) = IsInferenceExplained text e
ExplainsInference text (Err memory) = Unit {0}
