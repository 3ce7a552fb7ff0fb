-- A refusal by the rule of `main` has a reason: it is none of a name.
use Rattle.std.proofs.Common.{◌≡◌, inl, inr, ℕ, nat_le, ◌&&◌, List, [], ◌++◌, flat_map, length, Contains, Option, is_some, is_none, ap, sym, ◌∙◌, subst, arith}
use Rattle.std.proofs.lemmas.List.Elements.{Contains-append_cases}
use Rattle.ti_base.specs.declared.place.Place.{Place}
use Rattle.ti_syntax.specs.Trees.Expressions.{Exp}
use Rattle.ti_syntax.specs.Trees.Expressions as t
use Rattle.ti_syntax.specs.Trees.Classes.{TextTree}
use Rattle.ti_lang.specs.Members.{class_named, field_named, method_named}
use Rattle.ti_lang.specs.Scopes.{Site, variable_named, own_field_named, own_method_named, class_before_dot, most_variables}
use Rattle.ti_lang.specs.Nodes.{Written, ClassName, FieldName, MethodName, VariableName, ClassUse, Expression, Node, nodes_of}
use Rattle.ti_rules.specs.declared.rule.Rule.{Rule}
use Rattle.ti_rules.specs.declared.rule.Rule.TheVariants.{N1, N2, N3, N4}
use Rattle.ti_rules.specs.declared.refusal.Refusal.{Refusal}
use Rattle.ti_rules.specs.Rules.{rule_number}
use Rattle.ti_rules.specs.Refusals.{refused_if}
use Rattle.ti_rules.specs.MainForm.{is_another, main_refusals}
use Rattle.ti_rules.specs.BrokenNames.{lacks_method, expression_refusals, written_refusals, node_refusals, BreaksNames}
use Rattle.ti_explain.specs.RefusedNames.{reasons_of_rule, refused_name_reasons}
use Rattle.ti_explain.proofs.MethodLaws.{flat_contains}
use Rattle.ti_explain.proofs.MainLaws.{nothing_in, HasSome, of_refused, main_some}

-- a refusal by this rule, which isn't that of `main`
other_rule : (broken : _) (rule : Rule) (at : Place) (r : Refusal) → (rule_number rule ≡ rule_number N3 → ⊥) → Contains (refused_if broken rule at) r → r.rule ≡ N3 → ⊥
other_rule broken rule at r other among is =
    other (ap rule_number (ap (λ (x : Refusal). x.rule) (of_refused broken rule at r among).1 ∙ is))

first : rule_number N1 ≡ rule_number N3 → ⊥
first is = omega (arith, is)

second : rule_number N2 ≡ rule_number N3 → ⊥
second is = omega (arith, is)

fourth : rule_number N4 ≡ rule_number N3 → ⊥
fourth is = omega (arith, is)

in_expression : (site : Site) (x : Exp) (r : Refusal) → Contains (expression_refusals site x) r → r.rule ≡ N3 → ⊥
in_expression site (t.This at) r among is = other_rule site.static N1 at r first among is
in_expression site (t.Name at name) r among is = other_rule (is_none (variable_named site name) && is_none (own_field_named site name)) N1 at r first among is
in_expression site (t.Call at name args) r among is = other_rule (is_none (own_method_named site name)) N1 at r first among is
in_expression site (t.Select at x name) r among is = other_rule (is_some (class_before_dot site x)) N1 at r first among is
in_expression site (t.Member at x name args) r among is = other_rule (lacks_method site (class_before_dot site x) name) N1 at r first among is
in_expression site (t.Int at n) r among is = nothing_in r among
in_expression site (t.Long at n) r among is = nothing_in r among
in_expression site (t.Truth at b) r among is = nothing_in r among
in_expression site (t.Null at) r among is = nothing_in r among
in_expression site (t.ThisProc at) r among is = nothing_in r among
in_expression site (t.NumProcs at) r among is = nothing_in r among
in_expression site (t.Point at parts) r among is = nothing_in r among
in_expression site (t.Rect at ranges) r among is = nothing_in r among
in_expression site (t.Unary at op x) r among is = nothing_in r among
in_expression site (t.Binary at op x y) r among is = nothing_in r among
in_expression site (t.Cast at to x) r among is = nothing_in r among
in_expression site (t.Index at x parts) r among is = nothing_in r among

in_written : (site : Site) (w : Written) (r : Refusal) → Contains (written_refusals site w) r → r.rule ≡ N3 → ⊥
in_written site (ClassName number c) r among is = other_rule (is_another (class_named site.text c.name) number) N2 c.place r second among is
in_written site (FieldName number f) r among is = other_rule (is_another (field_named site.text site.class f.name) number) N2 f.place r second among is
in_written site (MethodName number own) r among is =
    other_rule (is_another (method_named site.text own.class own.method.name) number) N2 own.method.place r second among is
in_written site (VariableName at name) r among is =
    elim (Contains-append_cases (refused_if (is_some (variable_named site name)) N2 at) (refused_if (nat_le most_variables (length site.scope)) N4 at) r among) [
      | inl twice ↦ other_rule (is_some (variable_named site name)) N2 at r second twice is
      | inr full ↦ other_rule (nat_le most_variables (length site.scope)) N4 at r fourth full is
    ]
in_written site (ClassUse at name) r among is = other_rule (is_none (class_named site.text name)) N1 at r first among is
in_written site (Expression x) r among is = in_expression site x r among is

in_nodes : (nodes : List Node) (r : Refusal) → Contains (flat_map node_refusals nodes) r → r.rule ≡ N3 → ⊥
in_nodes nodes r among is = by (flat_contains node_refusals nodes r among)
  where
    by : (n : Node) × Contains nodes n × Contains (node_refusals n) r → ⊥
    by (n, there, own) = in_written n.site n.written r own is

-- it has a reason
pub main_named : (text : TextTree) (r : Refusal) → BreaksNames text r → r.rule ≡ N3 → refused_name_reasons text r ≡ [] → ⊥
main_named text r among is =
    subst (λ rule. HasSome (reasons_of_rule text rule r.place)) (sym is)
    (elim (Contains-append_cases (flat_map node_refusals (nodes_of text)) (main_refusals text) r among) [
      | inl named ↦ absurd (in_nodes (nodes_of text) r named is)
      | inr of_main ↦ main_some text r of_main
    ])
