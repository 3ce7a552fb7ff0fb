-- Lemmas on the first broken rule of several nodes.
use Rattle.std.proofs.Common.{◌≡◌, ℕ, if◌then◌else◌, List, [], ◌∷◌, ◌++◌, flat_map, Option, None, is_some, is_none, refl, ap, sym, ◌∙◌}
use Rattle.std.specs.declared.vec.Vec.{Vec}
use Rattle.std.specs.declared.alloc.Global.{Global}
use Rattle.std.specs.declared.boxed.Box.{Box}
use Rattle.ti_base.specs.declared.place.Place.{Place}
use Rattle.ti_syntax.specs.declared.tree.exprs.Range.{Range}
use Rattle.ti_syntax.specs.declared.tree.exprs.Expr.{Expr, Call, Point, Rect, Member, Index}
use Rattle.ti_syntax.specs.Trees.Expressions.{Exp, Exps, exps, ranges_tree}
use Rattle.ti_syntax.specs.Trees.Expressions as t
use Rattle.ti_syntax.specs.Trees.Views.{exp_of, exps_of, ranges_of}
use Rattle.ti_syntax.proofs.Lemmas.{seen_call, seen_point, seen_rect, seen_member, seen_index}
use Rattle.ti_syntax.specs.Trees.Classes.{TextTree}
use Rattle.ti_lang.specs.Members.{methods_of}
use Rattle.ti_lang.specs.Scopes.{Site, own_method_named, class_before_dot}
use Rattle.ti_lang.specs.Nodes.{Node, node, Expression, exp_nodes, exps_nodes, ranges_nodes, classes_nodes, methods_nodes, nodes_of}
use Rattle.ti_rules.specs.declared.rule.Rule.TheVariants.{N1}
use Rattle.ti_rules.specs.declared.refusal.Refusal.{Refusal}
use Rattle.ti_rules.specs.Refusals.{refused_if}
use Rattle.ti_rules.specs.Mirrors.First.{earlier_of, earliest}
use Rattle.ti_rules.specs.BrokenNames.{lacks_method, node_refusals, name_refusals}
use Rattle.ti_rules.specs.MainForm.{main_refusals}
use Rattle.ti_rules.proofs.Lemmas.{sooner_none, sooner_assoc, first_append, first_append_each, first_alone, first_nil}
use Rattle.ti_names.specs.Found.{first_in}

pub none_sooner : (a : Option Refusal) → earlier_of None a ≡ a
unfolding earlier_of
none_sooner a = refl

pub in_none : first_in [] ≡ None
unfolding first_in earliest
in_none = refl

pub in_one : (n : Node) → first_in (n ∷ []) ≡ earliest (node_refusals n)
unfolding first_in
in_one n = first_alone (node_refusals n)

pub in_more : (n : Node) (rest : List Node) → first_in (n ∷ rest) ≡ earlier_of (earliest (node_refusals n)) (first_in rest)
unfolding first_in
in_more n rest = first_append (node_refusals n) (flat_map node_refusals rest)

pub in_append : (xs ys : List Node) → first_in (xs ++ ys) ≡ earlier_of (first_in xs) (first_in ys)
unfolding first_in
in_append xs ys = first_append_each node_refusals xs ys

pub ruleset in_nodes = (none_sooner, sooner_none, in_none, in_one, in_more, in_append)

-- ---- in expressions that hold a list

pub in_call : (site : Site) (a : Expr) (at : Place) (name : List ℕ) (v : Vec Expr Global) → a ≡ Call at name v
    → first_in (exp_nodes site (exp_of a)) ≡ earlier_of (earliest (refused_if (is_none (own_method_named site name)) N1 at)) (first_in (exps_nodes site (exps (exps_of v))))
in_call site a at name v is = ap (λ z. first_in (exp_nodes site z)) (seen_call a at name v is) ∙ in_more (node site (Expression (t.call at name (exps_of v)))) (exps_nodes site (exps (exps_of v)))

pub in_point : (site : Site) (a : Expr) (at : Place) (v : Vec Expr Global) → a ≡ Point at v → first_in (exp_nodes site (exp_of a)) ≡ first_in (exps_nodes site (exps (exps_of v)))
in_point site a at v is = ap (λ z. first_in (exp_nodes site z)) (seen_point a at v is)

pub in_rect : (site : Site) (a : Expr) (at : Place) (v : Vec Range Global) → a ≡ Rect at v → first_in (exp_nodes site (exp_of a)) ≡ first_in (ranges_nodes site (ranges_tree (ranges_of v)))
in_rect site a at v is = ap (λ z. first_in (exp_nodes site z)) (seen_rect a at v is)

pub in_member : (site : Site) (a : Expr) (at : Place) (x : Box Expr Global) (name : List ℕ) (v : Vec Expr Global) → a ≡ Member at x name v
    → first_in (exp_nodes site (exp_of a))
    ≡ earlier_of (earlier_of (earliest (refused_if (lacks_method site (class_before_dot site (exp_of x.value)) name) N1 at))
    (first_in (if is_some (class_before_dot site (exp_of x.value)) then [] else exp_nodes site (exp_of x.value))))
    (first_in (exps_nodes site (exps (exps_of v))))
in_member site a at x name v is =
    let e = exp_of x.value in
    let receiver : List Node = if is_some (class_before_dot site e) then [] else exp_nodes site e in
    let own = node site (Expression (t.member at e name (exps_of v))) in
    ap (λ z. first_in (exp_nodes site z)) (seen_member a at x name v is) ∙ in_append (own ∷ receiver) (exps_nodes site (exps (exps_of v)))
    ∙ ap (λ z. earlier_of z (first_in (exps_nodes site (exps (exps_of v))))) (in_more own receiver)

pub in_index : (site : Site) (a : Expr) (at : Place) (x : Box Expr Global) (v : Vec Expr Global) → a ≡ Index at x v
    → first_in (exp_nodes site (exp_of a)) ≡ earlier_of (first_in (exp_nodes site (exp_of x.value))) (first_in (exps_nodes site (exps (exps_of v))))
in_index site a at x v is = ap (λ z. first_in (exp_nodes site z)) (seen_index a at x v is) ∙ in_append (exp_nodes site (exp_of x.value)) (exps_nodes site (exps (exps_of v)))

pub ruleset in_expressions = (in_call, in_point, in_rect, in_member, in_index)

-- ---- lists that are walked

-- one element more
pub in_step : (found next whole : Option Refusal) (all head rest : List Node) → earlier_of found (first_in all) ≡ whole → all ≡ head ++ rest
    → next ≡ earlier_of found (first_in head) → earlier_of next (first_in rest) ≡ whole
in_step found next whole all head rest so is more =
    ap (λ z. earlier_of z (first_in rest)) more ∙ sooner_assoc found (first_in head) (first_in rest) ∙ ap (earlier_of found) (sym (in_append head rest)) ∙ sym (ap (λ z. earlier_of found (first_in z)) is) ∙ so

pub in_end : (found whole : Option Refusal) (all : List Node) → earlier_of found (first_in all) ≡ whole → all ≡ [] → found ≡ whole
in_end found whole all so is = sym (sooner_none found) ∙ ap (earlier_of found) (sym in_none) ∙ sym (ap (λ z. earlier_of found (first_in z)) is) ∙ so

-- the same of a list of refusals
pub list_step : (found next whole : Option Refusal) (all head rest : List Refusal) → earlier_of found (earliest all) ≡ whole → all ≡ head
    ++ rest → next ≡ earlier_of found (earliest head) → earlier_of next (earliest rest) ≡ whole
list_step found next whole all head rest so is more =
    ap (λ z. earlier_of z (earliest rest)) more ∙ sooner_assoc found (earliest head) (earliest rest) ∙ ap (earlier_of found) (sym (first_append head rest)) ∙ sym (ap (λ z. earlier_of found (earliest z)) is) ∙ so

pub list_end : (found whole : Option Refusal) (all : List Refusal) → earlier_of found (earliest all) ≡ whole → all ≡ [] → found ≡ whole
list_end found whole all so is = sym (sooner_none found) ∙ ap (earlier_of found) (sym first_nil) ∙ sym (ap (λ z. earlier_of found (earliest z)) is) ∙ so

-- ---- of a text

pub in_text : (text : TextTree) → earlier_of (earlier_of (first_in (classes_nodes text 0 text))
    (first_in (methods_nodes text 0 0 (methods_of text)))) (earliest (main_refusals text)) ≡ earliest (name_refusals text)
unfolding first_in
in_text text =
    ap (λ z. earlier_of z (earliest (main_refusals text))) (sym (first_append_each node_refusals (classes_nodes text 0 text) (methods_nodes text 0 0 (methods_of text))))
    ∙ sym (first_append (flat_map node_refusals (nodes_of text)) (main_refusals text))
