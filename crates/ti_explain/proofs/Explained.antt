-- From the answers of the phases to the explanation of a text.
use Rattle.std.proofs.Common.{◌≡◌, inl, inr, ℕ, List, [], Contains, Option, Some, None, Result, Ok, Err, sym, ap, ◌∙◌, subst, arith}
use Rattle.ti_base.specs.declared.memory.Memory.{Memory}
use Rattle.ti_base.specs.declared.place.Place.{Place}
use Rattle.ti_syntax.specs.declared.token.Token.{Token}
use Rattle.ti_syntax.specs.Trees.Classes.{TextTree}
use Rattle.ti_syntax.specs.Spelling.{Misfit, Unexpected, TooDeep, IsGrammarRefusal, refused}
use Rattle.ti_lang.specs.Program.Classes.{ProgramView}
use Rattle.ti_lang.specs.Numbering.{Numbers}
use Rattle.ti_rules.specs.declared.rule.Rule.{Rule}
use Rattle.ti_rules.specs.declared.rule.Rule.TheVariants.{G1, G2}
use Rattle.ti_rules.specs.Rules.{rule_number}
use Rattle.ti_rules.specs.declared.refusal.Refusal.{Refusal}
use Rattle.ti_rules.specs.LexicalRefusals.{IsLexicalRefusal}
use Rattle.ti_rules.specs.Refusals.{IsFirstRefusal}
use Rattle.ti_rules.specs.BrokenNames.{BreaksNames}
use Rattle.ti_rules.specs.TypeRules.{type_refusals}
use Rattle.ti_rules.specs.SingleRules.{single_refusals}
use Rattle.ti_rules.specs.ProgramRefusals.{IsProgramRefusal, BreaksNothing}
use Rattle.ti_rules.specs.ProgramRefusals as refusals
use Rattle.ti_rules.specs.RefusalOf.{HasNone, IsTreeRefusal, HasTokens, HasTree, rule_of_misfit, IsRefusal}
use Rattle.ti_rules.specs.RefusalOf as text
use Rattle.ti_rules.proofs.Lemmas.{OneReading, never_both, not_among}
use Rattle.ti_parse.specs.Answer.{Parsed}
use Rattle.ti_parse_expr.specs.declared.error.ParseErr.TheVariants as parser
use Rattle.ti_explain.specs.declared.reason.RefusalReason.{RefusalReason}
use Rattle.ti_explain.specs.declared.reason.RefusalReasons.{RefusalReasons}
use Rattle.ti_explain.specs.Expected.{AreUnexpectedReasons}
use Rattle.ti_explain.specs.DepthReasons.{AreTooDeepReasons}
use Rattle.ti_explain.specs.Explanations.{AreProgramReasons, AreTreeReasons, AreTokenReasons, AreReasons}
use Rattle.ti_explain.specs.Explanations as explained
use Rattle.ti_explain.specs.Mirrors.Phases.{ProgramExplained, TreeExplained, TokensExplained, TextExplained, IsParsed}

-- ---- explained is refused

program_refused : (tree : TextTree) (p : ProgramView) (r : Refusal) (l : List RefusalReason) → AreProgramReasons tree p r l → IsProgramRefusal p r
program_refused tree p r l (explained.of_types first reasons) = refusals.of_types first
program_refused tree p r l (explained.of_single none first reasons) = refusals.of_single none first

tree_refused : (tree : TextTree) (r : Refusal) (l : List RefusalReason) → AreTreeReasons tree r l → IsTreeRefusal tree r
tree_refused tree r l (explained.of_names first) = text.of_names first
tree_refused tree r l (explained.of_program {program = p} {reasons = reasons} named numbers is) = text.of_program named numbers (program_refused tree p r reasons is)

refusal_at : Rule → Place → Refusal
refusal_at rule place = record { rule = rule; place = place }

misfit_refused : (bytes : List ℕ) (tokens : List Token) (r : Refusal) (misfit : Misfit) → HasTokens bytes tokens → r.rule ≡ rule_of_misfit misfit
    → IsGrammarRefusal tokens (Some (misfit, r.place)) → IsRefusal bytes r
unfolding refusal_at
misfit_refused bytes tokens r misfit has rule is = subst (IsRefusal bytes) (ap (λ x. refusal_at x r.place) (sym rule)) (text.of_tokens has is)

unexpected_refused : (tokens : List Token) (at : Place) (l : List RefusalReason) → AreUnexpectedReasons tokens at l → IsGrammarRefusal tokens (Some (Unexpected, at))
unexpected_refused tokens at l is =
    subst (λ p. IsGrammarRefusal tokens (Some (Unexpected, p))) is.place (refused is.front is.here is.rest is.is is.misfit)

depth_refused : (tokens : List Token) (at : Place) (l : List RefusalReason) → AreTooDeepReasons tokens at l → IsGrammarRefusal tokens (Some (TooDeep, at))
depth_refused tokens at l is = subst (λ p. IsGrammarRefusal tokens (Some (TooDeep, p))) is.place (refused is.front is.here is.rest is.is is.misfit)

tokens_refused : (bytes : List ℕ) (tokens : List Token) (r : Refusal) (l : List RefusalReason) → HasTokens bytes tokens → AreTokenReasons tokens r l → IsRefusal bytes r
tokens_refused bytes tokens r l has (explained.of_unexpected {reasons = reasons} rule is) =
    misfit_refused bytes tokens r Unexpected has rule (unexpected_refused tokens r.place reasons is)
tokens_refused bytes tokens r l has (explained.of_depth {reasons = reasons} rule is) =
    misfit_refused bytes tokens r TooDeep has rule (depth_refused tokens r.place reasons is)

-- ---- a refusal without reasons

pub alone : (P : Refusal → List RefusalReason → Type 0) (r : Refusal) (e : RefusalReasons) → e.refusal ≡ r → e.reasons.items ≡ [] → P r [] → P e.refusal e.reasons.items
alone P r e refusal reasons is = subst (P e.refusal) (sym reasons) (subst (λ x. P x []) (sym refusal) is)

-- ---- the phases

-- a program without a broken rule of types has its first refusal by those of single values
pub by_single : (p q : ProgramView) (r : Refusal) → q ≡ p → type_refusals p ≡ [] → IsProgramRefusal q r → IsFirstRefusal (Contains (single_refusals p)) r
by_single p q r same none is = of_this (subst (λ x. IsProgramRefusal x r) same is)
  where
    of_this : IsProgramRefusal p r → IsFirstRefusal (Contains (single_refusals p)) r
    of_this (refusals.of_types first) = absurd (not_among (type_refusals p) r none first.is_broken)
    of_this (refusals.of_single nothing first) = first

pub program_then : (tree : TextTree) (p : ProgramView) (o : Result (Option RefusalReasons) Memory) → HasNone (BreaksNames tree) → Numbers tree p → ProgramExplained tree p o
    → TreeExplained tree o
program_then tree p (Ok None) named numbers is = record { program = p; named = named; numbers = numbers; unbroken = is }
program_then tree p (Ok (Some e)) named numbers is = explained.of_program named numbers is
program_then tree p (Err memory) named numbers is = tt

pub tree_then : (tokens : List Token) (tree : TextTree) (o : Result (Option RefusalReasons) Memory) → IsParsed tokens tree → TreeExplained tree o → TokensExplained tokens o
tree_then tokens tree (Ok None) parsed is = (tree, parsed, is)
tree_then tokens tree (Ok (Some e)) parsed is = inr (tree, parsed, is)
tree_then tokens tree (Err memory) parsed is = tt

-- a list of tokens of a text has this tree
tree_of_text : (bytes : List ℕ) (tokens : List Token) (tree : TextTree) → HasTokens bytes tokens → IsParsed tokens tree → HasTree bytes tree
tree_of_text bytes tokens tree has parsed = record { tokens = tokens; has_tokens = has; spells = parsed.spells; shallow = parsed.shallow }

pub tokens_then : OneReading → (bytes : List ℕ) (tokens : List Token) (o : Result (Option RefusalReasons) Memory) → HasTokens bytes tokens → TokensExplained tokens o → TextExplained bytes o
tokens_then known bytes tokens (Ok None) has (tree, parsed, fine) =
    λ r is. never_both known bytes fine.program r
    (record { tree = tree; has_tree = tree_of_text bytes tokens tree has parsed; named = fine.named; numbers = fine.numbers; unbroken = fine.unbroken }) is
tokens_then known bytes tokens (Ok (Some e)) has (inl reasons) = (tokens_refused bytes tokens e.refusal e.reasons.items has reasons, explained.of_tokens has reasons)
tokens_then known bytes tokens (Ok (Some e)) has (inr (tree, parsed, reasons)) =
    let whole = tree_of_text bytes tokens tree has parsed in
    (text.of_tree whole (tree_refused tree e.refusal e.reasons.items reasons), explained.of_tree whole reasons)
tokens_then known bytes tokens (Err memory) has is = tt

pub bytes_then : (bytes : List ℕ) (r : Refusal) (e : RefusalReasons) → e.refusal ≡ r → e.reasons.items ≡ [] → IsLexicalRefusal bytes r → TextExplained bytes (Ok (Some e))
bytes_then bytes r e refusal reasons is =
    alone (λ x l. IsRefusal bytes x × AreReasons bytes x l) r e refusal reasons (text.of_bytes is, explained.of_bytes is)

two_rules : (r : Rule) → r ≡ G1 → r ≡ G2 → ⊥
two_rules r one other = omega (arith, ap rule_number (sym one ∙ other))

-- a refusal by G1 is one of an unexpected token
pub unexpected_here : (tokens : List Token) (r : Refusal) → Parsed tokens (Err (parser.Refused r)) → r.rule ≡ G1 → IsGrammarRefusal tokens (Some (Unexpected, r.place))
unexpected_here tokens r (Unexpected, rule, is) one = is
unexpected_here tokens r (TooDeep, rule, is) one = absurd (two_rules r.rule one rule)

-- another one is one of a token that is too deep
pub depth_here : (tokens : List Token) (r : Refusal) → Parsed tokens (Err (parser.Refused r)) → (r.rule ≡ G1 → ⊥)
    → (r.rule ≡ G2) × IsGrammarRefusal tokens (Some (TooDeep, r.place))
depth_here tokens r (Unexpected, rule, is) never = absurd (never rule)
depth_here tokens r (TooDeep, rule, is) never = (rule, is)
