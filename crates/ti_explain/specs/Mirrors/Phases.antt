-- For proofs only: what the phases answer.
use Rattle.std.specs.Prelude.{◌⊎◌, ℕ, List, Option, Some, None, Result, Ok, Err}
use Rattle.ti_base.specs.declared.memory.Memory.{Memory}
use Rattle.ti_syntax.specs.declared.token.Token.{Token}
use Rattle.ti_syntax.specs.Trees.Classes.{TextTree}
use Rattle.ti_syntax.specs.Spelling.{Spells, IsShallow}
use Rattle.ti_lang.specs.Program.Classes.{ProgramView}
use Rattle.ti_lang.specs.Numbering.{Numbers}
use Rattle.ti_rules.specs.BrokenNames.{BreaksNames}
use Rattle.ti_rules.specs.ProgramRefusals.{BreaksNothing}
use Rattle.ti_rules.specs.RefusalOf.{HasNone, IsRefusal}
use Rattle.ti_explain.specs.declared.reason.RefusalReasons.{RefusalReasons}
use Rattle.ti_explain.specs.Explanations.{AreProgramReasons, AreTreeReasons, AreTokenReasons, AreReasons}

-- of a program
abbrev pub ProgramExplained : TextTree → ProgramView → Result (Option RefusalReasons) Memory → Type 0
ProgramExplained tree p (Ok None) = BreaksNothing p
ProgramExplained tree p (Ok (Some e)) = AreProgramReasons tree p e.refusal e.reasons.items
ProgramExplained tree p (Err memory) = Unit {0}

-- a tree that breaks no rule
pub record IsFine (tree : TextTree) : Type 0 where
  pub program : ProgramView
  pub named : HasNone (BreaksNames tree)
  pub numbers : Numbers tree program
  pub unbroken : BreaksNothing program

-- of a tree
abbrev pub TreeExplained : TextTree → Result (Option RefusalReasons) Memory → Type 0
TreeExplained tree (Ok None) = IsFine tree
TreeExplained tree (Ok (Some e)) = AreTreeReasons tree e.refusal e.reasons.items
TreeExplained tree (Err memory) = Unit {0}

-- tokens that fit the grammar
pub record IsParsed (tokens : List Token) (tree : TextTree) : Type 0 where
  pub spells : Spells tokens tree
  pub shallow : IsShallow tokens

-- of tokens
abbrev pub TokensExplained : List Token → Result (Option RefusalReasons) Memory → Type 0
TokensExplained tokens (Ok None) = (tree : TextTree) × IsParsed tokens tree × IsFine tree
TokensExplained tokens (Ok (Some e)) =
    AreTokenReasons tokens e.refusal e.reasons.items
    ⊎ ((tree : TextTree) × IsParsed tokens tree × AreTreeReasons tree e.refusal e.reasons.items)
TokensExplained tokens (Err memory) = Unit {0}

-- of a text
abbrev pub TextExplained : List ℕ → Result (Option RefusalReasons) Memory → Type 0
TextExplained text (Ok None) = HasNone (IsRefusal text)
TextExplained text (Ok (Some e)) = IsRefusal text e.refusal × AreReasons text e.refusal e.reasons.items
TextExplained text (Err memory) = Unit {0}
