-- The error that is reported for a source program. The rules are checked in passes: bytes, tokens, names, types and qualifiers, single
-- values; an error of a pass is reported only if the passes before it have none.
use Rattle.std.specs.Prelude.{ℕ, ◌≤◌, List, length, Some}
use Rattle.ti_base.specs.declared.place.Place.{Place}
use Rattle.ti_syntax.specs.declared.token.Token.{Token}
use Rattle.ti_syntax.specs.Tokenizing.{IsTokenized}
use Rattle.ti_syntax.specs.Trees.Classes.{TextTree}
use Rattle.ti_syntax.specs.Spelling.{Spells, IsShallow, Misfit, Unexpected, TooDeep, IsGrammarRefusal}
use Rattle.ti_lang.specs.Program.Classes.{ProgramView}
use Rattle.ti_lang.specs.Numbering.{Numbers}
use Rattle.ti_rules.specs.declared.rule.Rule.{Rule}
use Rattle.ti_rules.specs.declared.rule.Rule.TheVariants.{G1, G2}
use Rattle.ti_rules.specs.declared.refusal.Refusal.{Refusal}
use Rattle.ti_rules.specs.Refusals.{IsFirstRefusal}
use Rattle.ti_rules.specs.LexicalRefusals.{most_bytes, IsLexicalRefusal}
use Rattle.ti_rules.specs.BrokenNames.{BreaksNames}
use Rattle.ti_rules.specs.ProgramRefusals.{IsProgramRefusal, BreaksNothing}

-- ---- passes over trees

-- there is no such error
abbrev pub HasNone : (Refusal → Type 0) → Type 0
HasNone broken = (refusal : Refusal) → broken refusal → ⊥

-- the error of a tree: the first by the rules of names, or, if there is none, that of its resolved program
pub data IsTreeRefusal (tree : TextTree) : Refusal → Type 0 where
  of_names : {refusal : Refusal} → IsFirstRefusal (BreaksNames tree) refusal → IsTreeRefusal tree refusal
  of_program : {program : ProgramView} {refusal : Refusal} → HasNone (BreaksNames tree) → Numbers tree program
      → IsProgramRefusal program refusal → IsTreeRefusal tree refusal

-- ---- source programs

-- the source isn't too long, and its token sequence is `tokens`
pub record HasTokens (text : List ℕ) (tokens : List Token) : Type 0 where
  pub short : length text ≤ most_bytes
  pub tokenized : IsTokenized text tokens

-- the tokens of the source parse to this tree, and none is nested too deeply
pub record HasTree (text : List ℕ) (tree : TextTree) : Type 0 where
  pub tokens : List Token
  pub has_tokens : HasTokens text tokens
  pub spells : Spells tokens tree
  pub shallow : IsShallow tokens

-- the rule that a token breaks which doesn't fit the grammar
abbrev pub rule_of_misfit : Misfit → Rule
rule_of_misfit Unexpected = G1
rule_of_misfit TooDeep = G2

-- the error of a source program
pub data IsRefusal (text : List ℕ) : Refusal → Type 0 where
  of_bytes : {refusal : Refusal} → IsLexicalRefusal text refusal → IsRefusal text refusal
  of_tokens : {tokens : List Token} {misfit : Misfit} {place : Place} → HasTokens text tokens
      → IsGrammarRefusal tokens (Some (misfit, place))
      → IsRefusal text (record { rule = rule_of_misfit misfit; place = place })
  of_tree : {tree : TextTree} {refusal : Refusal} → HasTree text tree → IsTreeRefusal tree refusal → IsRefusal text refusal

-- the resolved program of a source program without errors
pub record HasProgram (text : List ℕ) (program : ProgramView) : Type 0 where
  pub tree : TextTree
  pub has_tree : HasTree text tree
  pub named : HasNone (BreaksNames tree)
  pub numbers : Numbers tree program
  pub unbroken : BreaksNothing program
