use Rattle.std.proofs.Common.{◌≡◌, map, not, ap, sym, ◌∙◌}
use Rattle.ti_syntax.specs.Trees.Text.{tree_of}
use Rattle.ti_syntax.specs.Trees.Views.{class_of, text_tree_of}
use Rattle.ti_rules.specs.declared.rule.Rule.TheVariants.{N3}
use Rattle.ti_rules.specs.Refusals.{refused_if}
use Rattle.ti_rules.specs.Mirrors.First.{earliest}
use Rattle.ti_rules.specs.MainForm.{form_refusals}
use Rattle.ti_rules.proofs.Lemmas.{first_nil}
use Rattle.ti_names.specs.MethodDecl.{method_decl_of}
use Rattle.ti_names.proofs.MainPlaces.{form_within, form_beyond, class_beyond}
use Rattle.ti_names.proofs.main_form.check_form.Goals as goal

pub returns-in-Some-get-2 : goal.returns-in-Some-get-2
returns-in-Some-get-2 c =
    let text = tree_of c.args.tree.now in
    let m = (method_decl_of c.in-Some-get-2.own.now).method in
    let found = c.in-Some-get-2.ensures.lookup in
    let seen = form_within text c.in-Some.class c.in-Some-number.number c.args.methods.now c.in-Some-get-2.own.now c.requires found.3.0 found.1 in
    c.refused_if-in-Some-get-2.ensures ∙ ap (λ b. earliest (refused_if (not b) N3 m.place)) c.has_main_form.ensures ∙ sym (ap earliest seen)
    ∙ (λ j. earliest (form_refusals text (sym c.in-Some.is j) (sym c.in-Some-number.is j)))

pub returns-in-None-get : goal.returns-in-None-get
returns-in-None-get c =
    let text = tree_of c.args.tree.now in
    let seen = form_beyond text c.in-Some.class c.in-Some-number.number c.args.methods.now c.requires c.in-None-get.ensures.lookup.3 in
    sym first_nil ∙ sym (ap earliest seen) ∙ (λ j. earliest (form_refusals text (sym c.in-Some.is j) (sym c.in-Some-number.is j)))

pub returns-in-None : goal.returns-in-None
returns-in-None c =
    let seen = class_beyond c.deref.result.now c.in-Some.class c.in-None.ensures.lookup.3 in
    let at : text_tree_of c.args.tree.now.classes ≡ map class_of c.deref.result.now = ap (map class_of) (sym c.deref.ensures.value) in
    sym first_nil ∙ sym (ap earliest seen) ∙ (λ j. earliest (form_refusals (sym at j) (sym c.in-Some.is j) (sym c.in_default-number.is j)))
