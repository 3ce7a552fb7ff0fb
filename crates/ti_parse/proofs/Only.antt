-- A token list is proved to have one result: one tree, or one error.
use Rattle.std.proofs.Common.{◌≡◌, inl, inr, List, Option, Some, None, Result, Ok, Err, refl, ap, ◌∙◌}
use Rattle.ti_base.specs.declared.place.Place.{Place}
use Rattle.ti_syntax.specs.declared.token.Token.{Token}
use Rattle.ti_syntax.specs.declared.tree.text.Tree.{Tree}
use Rattle.ti_syntax.specs.Trees.Classes.{TextTree}
use Rattle.ti_syntax.specs.Trees.Text.{tree_of}
use Rattle.ti_syntax.specs.Spelling.{Spells, IsShallow, Misfit, IsGrammarRefusal, fits}
use Rattle.ti_rules.specs.declared.rule.Rule.{Rule}
use Rattle.ti_rules.specs.declared.refusal.Refusal.{Refusal}
use Rattle.ti_rules.specs.RefusalOf.{rule_of_misfit}
use Rattle.ti_parse_expr.specs.declared.error.ParseErr.{ParseErr}
use Rattle.ti_parse_expr.specs.declared.error.ParseErr.TheVariants.{Refused, Memory}
use Rattle.ti_parse.specs.Answer.{Parsed, GivesOnly, RefusesOnly}
use Rattle.ti_parse.proofs.OneTree.{one_tree}
use Rattle.ti_parse.proofs.Unique.{one_refusal}

-- what is refused has no tree without a token too deep
not_both : (list : List Token) (misfit : Misfit) (place : Place) (tree : TextTree) → IsGrammarRefusal list (Some (misfit, place)) → Spells list tree → IsShallow list → ⊥
not_both list misfit place tree g s low = let e : ◌≡◌ {A = Option (Misfit × Place)} (Some (misfit, place)) None = one_refusal g (fits s low) in cc

abbrev refusal_at : Rule → Place → Refusal
refusal_at rule place = record { rule = rule; place = place }

pub only_tree : (list : List Token) (answer : Result Tree ParseErr) → Parsed list answer → (tree : TextTree) → Spells list tree → IsShallow list → GivesOnly answer tree
only_tree list (Ok t) (s, low) tree q low2 = one_tree list (tree_of t) tree s q
only_tree list (Err (Refused r)) (misfit, is, g) tree q low = absurd (not_both list misfit r.place tree g q low)
only_tree list (Err Memory) h tree q low = refl

pub only_refusal : (list : List Token) (answer : Result Tree ParseErr) → Parsed list answer → (misfit : Misfit) (place : Place)
    → IsGrammarRefusal list (Some (misfit, place)) → RefusesOnly answer misfit place
only_refusal list (Ok t) (s, low) misfit place g = not_both list misfit place (tree_of t) g s low
only_refusal list (Err (Refused r)) (misfit2, is, g2) misfit place g =
    let e : ◌≡◌ {A = Option (Misfit × Place)} (Some (misfit2, r.place)) (Some (misfit, place)) = one_refusal g2 g in
    let pair : ◌≡◌ {A = Misfit × Place} (misfit2, r.place) (misfit, place) = cc in
    let same : misfit2 ≡ misfit = ap (λ (p : Misfit × Place). p.0) pair in
    let there : r.place ≡ place = ap (λ (p : Misfit × Place). p.1) pair in
    inl (ap (λ z. Refused (refusal_at z r.place)) (is ∙ ap rule_of_misfit same) ∙ ap (λ z. Refused (refusal_at (rule_of_misfit misfit) z)) there)
only_refusal list (Err Memory) h misfit place g = inr refl
