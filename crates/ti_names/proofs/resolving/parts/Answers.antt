use Rattle.std.proofs.Common.{◌≡◌, ◌∙◌, map, flat_map, ap}
use Rattle.std.specs.Option.{unwrap_or}
use Rattle.ti_syntax.specs.Trees.Statements.{stms}
use Rattle.ti_syntax.specs.Trees.Text.{tree_of}
use Rattle.ti_syntax.specs.Trees.Views.{class_of}
use Rattle.ti_lang.specs.Program.Views.{numbered_class_of, numbered_method_of}
use Rattle.ti_lang.specs.Members.{OwnMethod, methods_of, names_of}
use Rattle.ti_lang.specs.Scopes.{literals_in, literals_of_text}
use Rattle.ti_lang.specs.Nodes.{classes_nodes, methods_nodes}
use Rattle.ti_rules.specs.Mirrors.First.{earlier_of, earliest}
use Rattle.ti_rules.specs.MainForm.{main_method, main_refusals}
use Rattle.ti_names.specs.Found.{first_in}
use Rattle.ti_names.specs.Mirrors.Numbered.{number_classes, number_methods}
use Rattle.ti_names.specs.MethodDecl.{method_decl_of}
use Rattle.ti_names.specs.Seen.{text_of_tables}
use Rattle.ti_names.proofs.Firsts.{in_text}
use Rattle.ti_names.proofs.resolving.parts.Goals as goal

pub returns-clause-refusal : goal.returns-clause-refusal
returns-clause-refusal c =
    let text = tree_of c.args.tree.now in
    let same : text_of_tables c.args.tables.now ≡ text = c.requires.tables in
    let owns : map method_decl_of c.args.own.now ≡ methods_of text = c.requires.own in
    let classes : map class_of c.deref.result.now ≡ text = ap (map class_of) c.deref.ensures.value in
    let of_classes : c.in_ok-of_classes.of_classes ≡ first_in (classes_nodes text 0 text) = c.in_ok-of_classes.ensures ∙ (λ j. first_in (classes_nodes (same j) 0 (classes j))) in
    let of_methods : c.in_ok-methods.field-0.refusal ≡ first_in (methods_nodes text 0 0 (methods_of text)) = c.in_ok-methods.ensures.refusal ∙ (λ j. first_in (methods_nodes (same j) 0 0 (owns j))) in
    let of_main : c.in_ok-of_main.of_main ≡ earliest (main_refusals text) = c.in_ok-of_main.ensures in
    c.earlier_of-2.ensures ∙ ap (λ z. earlier_of z c.in_ok-of_main.of_main) c.earlier_of.ensures ∙ (λ j. earlier_of (earlier_of (of_classes j) (of_methods j)) (of_main j)) ∙ in_text text

pub returns-clause-part : goal.returns-clause-part
returns-clause-part c =
    let text = tree_of c.args.tree.now in
    let same : text_of_tables c.args.tables.now ≡ text = c.requires.tables in
    let owns : map method_decl_of c.args.own.now ≡ methods_of text = c.requires.own in
    let classes : map class_of c.deref-2.result.now ≡ text = ap (map class_of) c.deref-2.ensures.value in
    let classes_are : map numbered_class_of c.in_ok-numbered.numbered.items ≡ number_classes text text = c.in_ok-numbered.ensures ∙ (λ j. number_classes (same j) (classes j)) in
    let methods_are : map numbered_method_of c.in_ok-methods.field-0.methods.items ≡ number_methods text 0 (methods_of text) =
    c.in_ok-methods.ensures.part ∙ (λ j. number_methods (same j) 0 (owns j)) in
    let literals_are : c.in_ok-methods.field-0.literals.texts.items ≡ literals_of_text text = c.in_ok-methods.ensures.literals
    ∙ ap (flat_map (λ (own : OwnMethod). literals_in (stms own.method.body))) owns in
    let names_are : c.args.names.items ≡ names_of text = c.requires.names in
    let main_is : c.main_number-main.result ≡ unwrap_or (main_method text) 0 = c.main_number-main.ensures ∙ ap (λ t. unwrap_or (main_method t) 0) same in
    c.in_ok-part.ensures ∙ (λ j. record { classes = classes_are j; methods = methods_are j; main = main_is j; names = names_are j; literals = literals_are j })
