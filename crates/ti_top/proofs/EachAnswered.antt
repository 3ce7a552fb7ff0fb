-- Each text has a program or a refusal, since each phase has an answer.
use Rattle.std.proofs.Common.{◌≡◌, ◌⊎◌, inl, inr, ℕ, ◌≤◌, List, length, Option, None, Some, refl}
use Rattle.ti_base.specs.declared.place.Place.{Place}
use Rattle.ti_base.specs.Places.{end_place}
use Rattle.ti_syntax.specs.declared.token.Token.{Token}
use Rattle.ti_syntax.specs.declared.token.TokenKind.TheVariants as k
use Rattle.ti_syntax.specs.Tokenizing.{IsTokenized}
use Rattle.ti_syntax.specs.Trees.Classes.{TextTree}
use Rattle.ti_syntax.specs.Spelling.{Misfit, IsGrammarRefusal, fits}
use Rattle.ti_lang.specs.Program.Classes.{ProgramView}
use Rattle.ti_lang.specs.Numbering.{Numbers}
use Rattle.ti_rules.specs.declared.refusal.Refusal.{Refusal}
use Rattle.ti_rules.specs.Refusals.{IsFirstRefusal}
use Rattle.ti_rules.specs.LexicalRefusals.{most_bytes, IsLexicalRefusal}
use Rattle.ti_rules.specs.ProgramRefusals.{IsProgramRefusal, BreaksNothing}
use Rattle.ti_rules.specs.Mirrors.ProgramRefusal.{program_refusal}
use Rattle.ti_rules.specs.BrokenNames.{BreaksNames}
use Rattle.ti_rules.specs.RefusalOf.{HasNone, of_names, of_program, HasTokens, HasTree, IsRefusal, of_bytes, of_tokens, of_tree, HasProgram}
use Rattle.ti_parse_expr.specs.Answers.{EndsAtEnd}

-- that the phases have answers
pub record Answered : Type 0 where
  pub reading : (text : List ℕ) → ((tokens : List Token) × (length text ≤ most_bytes) × IsTokenized text tokens) ⊎ ((refusal : Refusal) × IsLexicalRefusal text refusal)
  pub fitting : (list : List Token) → EndsAtEnd list → (a : Option (Misfit × Place)) × IsGrammarRefusal list a
  pub numbering : (tree : TextTree) → ((program : ProgramView) × Numbers tree program) ⊎ ((refusal : Refusal) × IsFirstRefusal (BreaksNames tree) refusal)
  pub unbroken : (tree : TextTree) (program : ProgramView) → Numbers tree program → HasNone (BreaksNames tree)
  pub found : (p : ProgramView) (r : Refusal) → program_refusal p ≡ Some r → IsProgramRefusal p r
  pub fine : (p : ProgramView) → program_refusal p ≡ None → BreaksNothing p

abbrev Answer : List ℕ → Type 0
Answer text = ((program : ProgramView) × HasProgram text program) ⊎ ((refusal : Refusal) × IsRefusal text refusal)

-- a tree that has a program
numbered_answer : Answered → (text : List ℕ) (tree : TextTree) (program : ProgramView) → HasTree text tree → HasNone (BreaksNames tree) → Numbers tree program → (o : Option Refusal)
    → program_refusal program ≡ o → Answer text
numbered_answer known text tree program has none numbers None found =
    inl (program, record { tree = tree; has_tree = has; named = none; numbers = numbers; unbroken = known.fine program found })
numbered_answer known text tree program has none numbers (Some refusal) found = inr (refusal, of_tree has (of_program none numbers (known.found program refusal found)))

tree_answer : Answered → (text : List ℕ) (tree : TextTree) → HasTree text tree → Answer text
tree_answer known text tree has =
    elim (known.numbering tree) [
      | inl found ↦ numbered_answer known text tree found.0 has (known.unbroken tree found.0 found.1) found.1 (program_refusal found.0) refl
      | inr broken ↦ inr (broken.0, of_tree has (of_names broken.1))
    ]

tokens_answer : Answered → (text : List ℕ) (tokens : List Token) → HasTokens text tokens → (a : Option (Misfit × Place)) → IsGrammarRefusal tokens a → Answer text
tokens_answer known text tokens has None (fits {tree = tree} spells shallow) = tree_answer known text tree (record { tokens = tokens; has_tokens = has; spells = spells; shallow = shallow })
tokens_answer known text tokens has (Some misfit) is = inr (_, of_tokens has is)

pub some_answer : Answered → (text : List ℕ) → Answer text
some_answer known text =
    elim (known.reading text) [
      | inl read ↦
          let has : HasTokens text read.0 = record { short = read.1; tokenized = read.2 } in
          let ended : EndsAtEnd read.0 = (has.tokenized.spelled, record { kind = k.End; place = end_place text }, has.tokenized.ended, refl) in
          let fitting = known.fitting read.0 ended in
          tokens_answer known text read.0 has fitting.0 fitting.1
      | inr flaw ↦ inr (flaw.0, of_bytes flaw.1)
    ]
