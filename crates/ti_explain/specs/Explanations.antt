-- What an explanation of a text is: its refusal, with the reasons for it. Each phase that refuses says which reasons there are.
use Rattle.std.specs.Prelude.{◌≡◌, ℕ, List, [], map, Contains, Option, Some, None, Result, Ok, Err}
use Rattle.ti_base.specs.declared.memory.Memory.{Memory}
use Rattle.ti_syntax.specs.declared.token.Token.{Token}
use Rattle.ti_syntax.specs.Trees.Classes.{TextTree}
use Rattle.ti_lang.specs.Program.Classes.{ProgramView}
use Rattle.ti_lang.specs.Numbering.{Numbers}
use Rattle.ti_rules.specs.declared.rule.Rule.TheVariants.{G1, G2}
use Rattle.ti_rules.specs.declared.refusal.Refusal.{Refusal}
use Rattle.ti_rules.specs.LexicalRefusals.{IsLexicalRefusal}
use Rattle.ti_rules.specs.BrokenNames.{BreaksNames}
use Rattle.ti_rules.specs.Refusals.{IsFirstRefusal}
use Rattle.ti_rules.specs.TypeRules.{type_refusals}
use Rattle.ti_rules.specs.SingleRules.{single_refusals}
use Rattle.ti_rules.specs.RefusalOf.{HasNone, HasTokens, HasTree, IsRefusal}
use Rattle.ti_explain.specs.declared.reason.RefusalReason.{RefusalReason}
use Rattle.ti_explain.specs.declared.reason.Explanation.{Explanation}
use Rattle.ti_explain.specs.Expected.{AreUnexpectedReasons}
use Rattle.ti_explain.specs.DepthReasons.{AreTooDeepReasons}
use Rattle.ti_explain.specs.RefusedNames.{refused_name_reasons}
use Rattle.ti_explain.specs.ReasonSpans.{without_len, HasLengths}
use Rattle.ti_explain.specs.SingleReasons.{AreSingleReasons}
use Rattle.ti_explain.specs.TypeReasons.{AreTypeReasons}

-- the reasons for the first refusal of a program by the rules of types and qualifiers, or else by those of single values
pub data AreProgramReasons (tree : TextTree) (p : ProgramView) (refusal : Refusal) : List RefusalReason → Type 0 where
  of_types : {reasons : List RefusalReason} → IsFirstRefusal (Contains (type_refusals p)) refusal → AreTypeReasons tree p refusal reasons
      → AreProgramReasons tree p refusal reasons
  of_single : {reasons : List RefusalReason} → type_refusals p ≡ [] → IsFirstRefusal (Contains (single_refusals p)) refusal
      → AreSingleReasons p refusal reasons → AreProgramReasons tree p refusal reasons

-- the reasons for the refusal of a tree by the rules of names, or else of its program
pub data AreTreeReasons (tree : TextTree) (refusal : Refusal) : List RefusalReason → Type 0 where
  of_names : IsFirstRefusal (BreaksNames tree) refusal → AreTreeReasons tree refusal (refused_name_reasons tree refusal)
  of_program : {program : ProgramView} {reasons : List RefusalReason} → HasNone (BreaksNames tree) → Numbers tree program
      → AreProgramReasons tree program refusal reasons → AreTreeReasons tree refusal reasons

-- the reasons for the refusal of a list of tokens that doesn't fit the grammar
pub data AreTokenReasons (tokens : List Token) (refusal : Refusal) : List RefusalReason → Type 0 where
  of_unexpected : {reasons : List RefusalReason} → refusal.rule ≡ G1 → AreUnexpectedReasons tokens refusal.place reasons
      → AreTokenReasons tokens refusal reasons
  of_depth : {reasons : List RefusalReason} → refusal.rule ≡ G2 → AreTooDeepReasons tokens refusal.place reasons
      → AreTokenReasons tokens refusal reasons

-- the reasons for the refusal of a text
pub data AreReasons (text : List ℕ) (refusal : Refusal) : List RefusalReason → Type 0 where
  of_bytes : IsLexicalRefusal text refusal → AreReasons text refusal []
  of_tokens : {tokens : List Token} {reasons : List RefusalReason} → HasTokens text tokens → AreTokenReasons tokens refusal reasons
      → AreReasons text refusal reasons
  of_tree : {tree : TextTree} {reasons : List RefusalReason} → HasTree text tree → AreTreeReasons tree refusal reasons
      → AreReasons text refusal reasons

-- None if the text has no refusal, else its refusal with the reasons for it, and their lengths; out of memory is always possible
abbrev pub Explains : List ℕ → Result (Option Explanation) Memory → Type 0
Explains text (Ok None) = HasNone (IsRefusal text)
Explains text (Ok (Some e)) = IsRefusal text e.refusal × AreReasons text e.refusal (map without_len e.reasons.items) × HasLengths text e
Explains text (Err memory) = Unit {0}
