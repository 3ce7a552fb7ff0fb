-- A text without a program is refused alike by all modes, so its explanation in mode check is the one in mode infer.
use Rattle.std.proofs.Common.{ℕ, List, Option, Some, None, Result, Ok, Err, sym, ap, subst}
use Rattle.ti_base.specs.declared.memory.Memory.{Memory}
use Rattle.ti_base.specs.declared.place.Place.{Place}
use Rattle.ti_syntax.specs.declared.token.Token.{Token}
use Rattle.ti_syntax.specs.Trees.Classes.{TextTree}
use Rattle.ti_syntax.specs.Spelling.{Spells, IsShallow}
use Rattle.ti_lang.specs.Program.Classes.{ProgramView}
use Rattle.ti_lang.specs.Numbering.{Numbers}
use Rattle.ti_rules.specs.declared.rule.Rule.{Rule}
use Rattle.ti_rules.specs.declared.refusal.Refusal.{Refusal}
use Rattle.ti_rules.specs.LexicalRefusals.{IsLexicalRefusal}
use Rattle.ti_rules.specs.Refusals.{IsFirstRefusal}
use Rattle.ti_rules.specs.BrokenNames.{BreaksNames}
use Rattle.ti_rules.specs.RefusalOf.{HasNone, HasTokens, HasTree, IsRefusal}
use Rattle.ti_rules.specs.RefusalOf as refusal
use Rattle.ti_rules.proofs.Lemmas.{OneReading, one_refusal, tokens_or_bytes, tree_or_misfit}
use Rattle.ti_parse.specs.Answer.{Parsed}
use Rattle.ti_parse_expr.specs.declared.error.ParseErr.TheVariants as parser
use Rattle.ti_infer.specs.OfTexts.{IsUnmarkedRefusal}
use Rattle.ti_infer.specs.OfTexts as unmarked
use Rattle.ti_explain.specs.declared.reason.Explanation.{Explanation}
use Rattle.ti_explain.specs.Explanations.{Explains}
use Rattle.ti_explain_infer.specs.InferenceReasons.{IsResolved, ExplainsInference, of_check}
use Rattle.ti_explain_infer.specs.Mirrors.Phases.{IsUnread}

-- the text has no tokens
pub not_lexed : OneReading → (text : List ℕ) (r : Refusal) → IsLexicalRefusal text r → IsUnread text
not_lexed known text r is = record {
  refusal = r;
  refused = refusal.of_bytes is;
  unmarked = unmarked.of_text (λ tree has. tokens_or_bytes known text has.tokens r has.has_tokens is) (refusal.of_bytes is);
}

refusal_at : Rule → Place → Refusal
refusal_at rule place = record { rule = rule; place = place }

-- its tokens have no tree
pub not_parsed : OneReading → (text : List ℕ) (tokens : List Token) (r : Refusal) → HasTokens text tokens → Parsed tokens (Err (parser.Refused r)) → IsUnread text
unfolding refusal_at
not_parsed known text tokens r has (misfit, rule, is) =
    let refused : IsRefusal text r = subst (IsRefusal text) (ap (λ x. refusal_at x r.place) (sym rule)) (refusal.of_tokens has is) in
    record {
      refusal = r;
      refused = refused;
      unmarked = unmarked.of_text (λ tree read. tree_or_misfit known text tree tokens (misfit, r.place) read has is) refused;
    }

-- its tree breaks a rule of names
pub not_named : (text : List ℕ) (tree : TextTree) (r : Refusal) → HasTree text tree → IsFirstRefusal (BreaksNames tree) r → IsUnread text
not_named text tree r has first = record {
  refusal = r;
  refused = refusal.of_tree has (refusal.of_names first);
  unmarked = unmarked.of_tree has (unmarked.of_names first);
}

pub has_tree : (text : List ℕ) (tokens : List Token) (tree : TextTree) → HasTokens text tokens → Spells tokens tree → IsShallow tokens → HasTree text tree
has_tree text tokens tree has spells shallow = record { tokens = tokens; has_tokens = has; spells = spells; shallow = shallow }

pub resolved : (text : List ℕ) (tree : TextTree) (p : ProgramView) → HasTree text tree → HasNone (BreaksNames tree) → Numbers tree p → IsResolved text p
resolved text tree p has named numbers = record { tree = tree; has_tree = has; named = named; numbers = numbers }

-- mode check explains it, and so does mode infer
pub unread : OneReading → (text : List ℕ) (o : Result (Option Explanation) Memory) → IsUnread text → Explains text o → ExplainsInference text o
unread known text (Ok None) is none = absurd (none is.refusal is.refused)
unread known text (Ok (Some e)) is explained = record {
  refused = subst (IsUnmarkedRefusal text) (one_refusal known text is.refusal e.refusal is.refused explained.0) is.unmarked;
  reasons = of_check explained.0 explained.1;
  lengths = explained.2;
}
unread known text (Err memory) is none = tt
