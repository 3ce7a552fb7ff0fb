use Rattle.std.proofs.Common.{◌+◌, ◌∷◌, map, drop, arith, ap, ◌∙◌}
use Rattle.std.proofs.lemmas.List.{drop_all}
use Rattle.ti_syntax.specs.Trees.Views.{class_of}
use Rattle.ti_lang.specs.Members.{fields_in}
use Rattle.ti_lang.specs.Scopes.{class_site}
use Rattle.ti_lang.specs.Nodes.{node, ClassName, fields_nodes, classes_nodes}
use Rattle.ti_rules.specs.Mirrors.First.{earlier_of}
use Rattle.ti_names.specs.Found.{first_in}
use Rattle.ti_names.specs.Seen.{text_of_tables}
use Rattle.ti_names.proofs.Firsts.{in_step, in_end}
use Rattle.ti_names.proofs.Walks.{drop_next}
use Rattle.ti_names.proofs.classes.check_classes.Goals as goal

pub loop-class-preserved : goal.loop-class-preserved
loop-class-preserved c =
    let text = text_of_tables c.args.tables.now in
    let x = class_of c.class-item.result in
    let number = c.loop-class.number in
    let rest = map class_of (drop (c.loop-class.class-index + 1) c.args.classes.now) in
    let step = drop_next c.args.classes.now c.loop-class.class-index c.class-item.result (omega arith) c.class-item.is in
    ap (λ n. earlier_of c.earlier_of-found.result (first_in (classes_nodes text n rest))) c.in_ok-number.ensures
    ∙ in_step c.loop-class.found c.earlier_of-found.result _ _ (node (class_site text number) (ClassName number x) ∷ fields_nodes
    (class_site text number) 0 (fields_in x.members)) (classes_nodes text (number + 1) rest)
    c.loop-class.invariant (ap (λ l. classes_nodes text number (map class_of l)) step) (c.earlier_of-found.ensures ∙ ap (earlier_of c.loop-class.found) c.in_ok-check_class.ensures)

pub returns : goal.returns
returns c =
    in_end c.loop-class.found _ _ c.loop-class.invariant (ap (λ l. classes_nodes (text_of_tables c.args.tables.now) c.loop-class.number
    (map class_of l)) (drop_all c.loop-class.class-index c.args.classes.now (omega arith)))
