-- A source program has at most one error or one resolved program, and not both, given that its tokens, tree and resolution are unique.
use Rattle.std.proofs.Common.{◌≡◌, ℕ, ◌≤◌, List, length, Option, None, Some, ap, subst}
use Rattle.std.proofs.lemmas.Option.{same_Some, none-some}
use Rattle.ti_base.specs.declared.place.Place.{Place}
use Rattle.ti_syntax.specs.declared.token.Token.{Token}
use Rattle.ti_syntax.specs.Tokenizing.{IsTokenized}
use Rattle.ti_syntax.specs.Trees.Classes.{TextTree}
use Rattle.ti_syntax.specs.Spelling.{Spells, Misfit, IsGrammarRefusal, fits}
use Rattle.ti_lang.specs.Program.Classes.{ProgramView}
use Rattle.ti_lang.specs.Numbering.{Numbers}
use Rattle.ti_rules.specs.declared.refusal.Refusal.{Refusal}
use Rattle.ti_rules.specs.LexicalRefusals.{most_bytes, IsLexicalRefusal}
use Rattle.ti_rules.specs.BrokenNames.{BreaksNames}
use Rattle.ti_rules.specs.ProgramRefusals.{IsProgramRefusal}
use Rattle.ti_rules.specs.RefusalOf.{IsTreeRefusal, of_names, of_program, HasTokens, HasTree, rule_of_misfit, IsRefusal, of_bytes, of_tokens, of_tree, HasProgram}
use Rattle.ti_rules.proofs.FirstRefusal.{first_only}
use Rattle.ti_rules.proofs.OneProgramRefusal.{one_first as only_refusal, not_both as unbroken_or_refused_by}

-- that texts, lists of tokens and trees are read in one way
pub record OneReading : Type 0 where
  pub one_list : (text : List ℕ) (a b : List Token) → IsTokenized text a → IsTokenized text b → a ≡ b
  pub one_flaw : (text : List ℕ) (a b : Refusal) → IsLexicalRefusal text a → IsLexicalRefusal text b → a ≡ b
  pub not_both : (text : List ℕ) (tokens : List Token) (refusal : Refusal) → length text ≤ most_bytes → IsTokenized text tokens → IsLexicalRefusal text refusal → ⊥
  pub one_tree : (list : List Token) (a b : TextTree) → Spells list a → Spells list b → a ≡ b
  pub one_misfit : (list : List Token) (a b : Option (Misfit × Place)) → IsGrammarRefusal list a → IsGrammarRefusal list b → a ≡ b
  pub one_numbered : (tree : TextTree) (p q : ProgramView) → Numbers tree p → Numbers tree q → p ≡ q

-- a text that is tokens has no flaw of bytes
pub tokens_or_bytes : OneReading → (text : List ℕ) (tokens : List Token) (refusal : Refusal) → HasTokens text tokens → IsLexicalRefusal text refusal → ⊥
tokens_or_bytes known text tokens refusal has is = known.not_both text tokens refusal has.short has.tokenized is

-- a text that is a tree has tokens that fit the grammar
pub tree_or_misfit : OneReading → (text : List ℕ) (tree : TextTree) (tokens : List Token) (misfit : Misfit × Place) → HasTree text tree → HasTokens text tokens → IsGrammarRefusal tokens (Some misfit) → ⊥
tree_or_misfit known text tree tokens misfit has others is =
    let same = known.one_list text tokens has.tokens others.tokenized has.has_tokens.tokenized in
    none-some misfit (known.one_misfit has.tokens None (Some misfit) (fits has.spells has.shallow) (subst (λ (list : List Token). IsGrammarRefusal list (Some misfit)) same is))

-- a text is one tree
pub one_tree_of : OneReading → (text : List ℕ) (a b : TextTree) → HasTree text a → HasTree text b → a ≡ b
one_tree_of known text a b has other =
    let same = known.one_list text has.tokens other.tokens has.has_tokens.tokenized other.has_tokens.tokenized in
    known.one_tree other.tokens a b (subst (λ (list : List Token). Spells list a) same has.spells) other.spells

abbrev refusal_at : Misfit × Place → Refusal
refusal_at found = record { rule = rule_of_misfit found.0; place = found.1 }

one_tree_refusal : OneReading → (tree : TextTree) (r s : Refusal) → IsTreeRefusal tree r → IsTreeRefusal tree s → r ≡ s
one_tree_refusal known tree r s (of_names first) (of_names other) = first_only (BreaksNames tree) r s first other
one_tree_refusal known tree r s (of_names first) (of_program none numbers is) = absurd (none r first.is_broken)
one_tree_refusal known tree r s (of_program none numbers is) (of_names other) = absurd (none s other.is_broken)
one_tree_refusal known tree r s (of_program {program = p} none numbers is) (of_program {program = q} nothing others other) =
    only_refusal q r s (subst (λ (x : ProgramView). IsProgramRefusal x r) (known.one_numbered tree p q numbers others) is) other

pub one_refusal : OneReading → (text : List ℕ) (r s : Refusal) → IsRefusal text r → IsRefusal text s → r ≡ s
one_refusal known text r s (of_bytes is) (of_bytes other) = known.one_flaw text r s is other
one_refusal known text r s (of_bytes is) (of_tokens {tokens = tokens} has other) = absurd (tokens_or_bytes known text tokens r has is)
one_refusal known text r s (of_bytes is) (of_tree has other) = absurd (tokens_or_bytes known text has.tokens r has.has_tokens is)
one_refusal known text r s (of_tokens {tokens = tokens} has is) (of_bytes other) = absurd (tokens_or_bytes known text tokens s has other)
one_refusal known text r s (of_tokens {tokens = tokens} {misfit = misfit} {place = place} has is) (of_tokens {tokens = others} {misfit = another} {place = elsewhere} other_has other) =
    let same = known.one_list text tokens others has.tokenized other_has.tokenized in
    let found = known.one_misfit others (Some (misfit, place)) (Some (another, elsewhere)) (subst (λ (list : List Token). IsGrammarRefusal list (Some (misfit, place))) same is) other in
    ap refusal_at (same_Some (misfit, place) (another, elsewhere) found)
one_refusal known text r s (of_tokens {tokens = tokens} {misfit = misfit} {place = place} has is) (of_tree {tree = tree} has_tree other) =
    absurd (tree_or_misfit known text tree tokens (misfit, place) has_tree has is)
one_refusal known text r s (of_tree has is) (of_bytes other) = absurd (tokens_or_bytes known text has.tokens s has.has_tokens other)
one_refusal known text r s (of_tree {tree = tree} has_tree is) (of_tokens {tokens = tokens} {misfit = misfit} {place = place} has other) =
    absurd (tree_or_misfit known text tree tokens (misfit, place) has_tree has other)
one_refusal known text r s (of_tree {tree = tree} has is) (of_tree {tree = another} other_has other) =
    one_tree_refusal known another r s (subst (λ (t : TextTree). IsTreeRefusal t r) (one_tree_of known text tree another has other_has) is) other

unbroken_or_refused : OneReading → (text : List ℕ) (program : ProgramView) (has : HasProgram text program) (r : Refusal) → IsTreeRefusal has.tree r → ⊥
unbroken_or_refused known text program has r (of_names first) = has.named r first.is_broken
unbroken_or_refused known text program has r (of_program {program = other} none numbers is) =
    unbroken_or_refused_by program r has.unbroken (subst (λ (x : ProgramView). IsProgramRefusal x r) (known.one_numbered has.tree other program numbers has.numbers) is)

pub never_both : OneReading → (text : List ℕ) (program : ProgramView) (r : Refusal) → HasProgram text program → IsRefusal text r → ⊥
never_both known text program r has (of_bytes is) = tokens_or_bytes known text has.has_tree.tokens r has.has_tree.has_tokens is
never_both known text program r has (of_tokens {tokens = tokens} {misfit = misfit} {place = place} others is) = tree_or_misfit known text has.tree tokens (misfit, place) has.has_tree others is
never_both known text program r has (of_tree {tree = tree} other is) =
    unbroken_or_refused known text program has r (subst (λ (t : TextTree). IsTreeRefusal t r) (one_tree_of known text tree has.tree other has.has_tree) is)

pub one_program : OneReading → (text : List ℕ) (p q : ProgramView) → HasProgram text p → HasProgram text q → p ≡ q
one_program known text p q has other =
    let same = one_tree_of known text has.tree other.tree has.has_tree other.has_tree in
    known.one_numbered other.tree p q (subst (λ (t : TextTree). Numbers t p) same has.numbers) other.numbers
