-- For proofs only: what the phases answer.
use Rattle.std.specs.Prelude.{◌≡◌, ℕ, Bool, not, ◌&&◌, List, map, Option, Some, None, Result, Ok, Err}
use Rattle.ti_base.specs.declared.memory.Memory.{Memory}
use Rattle.ti_lang.specs.declared.program.numbered.Program.{Program}
use Rattle.ti_lang.specs.Program.Classes.{ProgramView}
use Rattle.ti_lang.specs.Program.Views.{program_of}
use Rattle.ti_rules.specs.declared.rule.Rule.TheVariants.{B1}
use Rattle.ti_rules.specs.declared.refusal.Refusal.{Refusal}
use Rattle.ti_rules.specs.Refusals.{counts_before}
use Rattle.ti_rules.specs.RefusalOf.{IsRefusal}
use Rattle.ti_blame.specs.declared.chains.ChainStep.{ChainStep}
use Rattle.ti_blame.specs.declared.mark.Mark.{Mark}
use Rattle.ti_infer.specs.Answer.{IsGreatestMarking, IsFirstUnaligned}
use Rattle.ti_infer.specs.OfTexts.{IsUnmarkedRefusal}
use Rattle.ti_infer.specs.Unaligned.{IsProgramChain}
use Rattle.ti_explain.specs.declared.reason.Explanation.{Explanation}
use Rattle.ti_explain.specs.ReasonSpans.{without_len, HasLengths}
use Rattle.ti_explain_infer.specs.ChainReasons.{chain_reasons}
use Rattle.ti_explain_infer.specs.InferenceReasons.{IsResolved, AreInferenceReasons}

-- the text is refused alike, whatever marks it has
pub record IsUnread (text : List ℕ) : Type 0 where
  pub refusal : Refusal
  pub refused : IsRefusal text refusal
  pub unmarked : IsUnmarkedRefusal text refusal

-- the program of a text, or none
abbrev pub GivesProgram : List ℕ → Result (Option Program) Memory → Type 0
GivesProgram text (Ok (Some program)) = IsResolved text (program_of program.parts)
GivesProgram text (Ok None) = IsUnread text
GivesProgram text (Err memory) = Unit {0}

-- neither refusal counts before the other, so they are one
abbrev pub neither_before : Refusal → Refusal → Bool
neither_before r s = not (counts_before r s) && not (counts_before s r)

-- this refusal of a text, explained
pub record IsExplainedAs (text : List ℕ) (refusal : Refusal) (e : Explanation) : Type 0 where
  pub same : e.refusal ≡ refusal
  pub reasons : AreInferenceReasons text refusal (map without_len e.reasons.items)
  pub lengths : HasLengths text e

-- a program that no annotations align
pub record IsChainExplained (text : List ℕ) (p : ProgramView) (e : Explanation) : Type 0 where
  pub rule : e.refusal.rule ≡ B1
  pub first : IsFirstUnaligned p e.refusal.place
  pub steps : List ChainStep
  pub chain : IsProgramChain p e.refusal.place steps
  pub reasons : map without_len e.reasons.items ≡ chain_reasons p e.refusal.place steps
  pub lengths : HasLengths text e

-- why no annotations align a program, or none if it has a greatest marking
abbrev pub GivesChainExplained
    : List ℕ → ProgramView → Result (Option Explanation) Memory → Type 0
GivesChainExplained text p (Ok None) = (marks : List Mark) × IsGreatestMarking p marks
GivesChainExplained text p (Ok (Some e)) = IsChainExplained text p e
GivesChainExplained text p (Err memory) = Unit {0}
