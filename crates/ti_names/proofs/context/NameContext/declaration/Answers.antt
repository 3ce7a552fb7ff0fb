use Rattle.std.proofs.Common.{List, [], ◌∷◌, ◌++◌, ap, sym, ◌∙◌}
use Rattle.ti_syntax.specs.Trees.Views.{type_tree_of, init_of}
use Rattle.ti_lang.specs.Nodes.{Node, node, VariableName, type_nodes, init_nodes}
use Rattle.ti_rules.specs.Mirrors.First.{earlier_of}
use Rattle.ti_names.specs.Found.{first_in}
use Rattle.ti_names.specs.Seen.{site_of}
use Rattle.ti_names.proofs.Firsts.{in_append}
use Rattle.ti_names.proofs.context.NameContext.declaration.Goals as goal

pub returns-clause-refusal : goal.returns-clause-refusal
returns-clause-refusal c =
    let site = site_of c.args.self.now in
    let type : List Node = type_nodes site (type_tree_of c.args.ty.now) in
    let named : List Node = node site (VariableName c.args.place c.args.name.now) ∷ [] in
    let value : List Node = init_nodes site (init_of c.args.value.now) in
    c.earlier_of-refusal.ensures ∙ ap (λ z. earlier_of z c.check_init.result) c.earlier_of-head.ensures ∙ (λ j. earlier_of (earlier_of (c.check_type.ensures j) (c.check_variable.ensures j)) (c.check_init.ensures j))
    ∙ ap (λ z. earlier_of z (first_in value)) (sym (in_append type named)) ∙ sym (in_append (type ++ named) value)
