use Rattle.std.proofs.Common.{◌≡◌, ◌+◌, ◌++◌, ◌∷◌, [], map, drop, arith, ap, sym, ◌∙◌}
use Rattle.std.proofs.lemmas.List.{drop_all}
use Rattle.ti_syntax.specs.Trees.Views.{param_of, type_tree_of}
use Rattle.ti_lang.specs.Program.Views.{numbered_param_of}
use Rattle.ti_lang.specs.Scopes.{declares, typed_as, behind_params}
use Rattle.ti_lang.specs.Scopes as scopes
use Rattle.ti_lang.specs.Nodes.{node, VariableName, type_nodes, param_list_nodes}
use Rattle.ti_rules.specs.Mirrors.First.{earlier_of}
use Rattle.ti_names.specs.Found.{first_in}
use Rattle.ti_names.specs.Mirrors.Numbered.{number_param, number_param_list}
use Rattle.ti_names.specs.Seen.{site_of, text_of_tables}
use Rattle.ti_names.proofs.Firsts.{in_step, in_end}
use Rattle.ti_names.proofs.Walks.{map_push, drop_next}
use Rattle.ti_names.proofs.context.NameContext.param_list.Goals as goal

pub loop-param-preserved : goal.loop-param-preserved
loop-param-preserved c =
    let site = site_of c.loop-param.self in
    let text = text_of_tables c.loop-param.self.tables.now in
    let behind = c.param.new.self in
    let x = c.param-item.result in
    let done = map numbered_param_of c.loop-param.done.items in
    let rest = map param_of (drop (c.loop-param.param-index + 1) c.args.params.now) in
    let step = drop_next c.args.params.now c.loop-param.param-index x (omega arith) c.param-item.is in
    let inner = declares site x.name (typed_as text (type_tree_of x.ty)) in
    let moved : site_of behind ≡ inner = c.in_ok-param.ensures.site in
    let same : text_of_tables behind.tables.now ≡ text = ap (λ (z : scopes.Site). z.text) moved in
    record {
      text = same ∙ c.loop-param.invariant.text;
      part = map_push numbered_param_of c.loop-param.done.items c.push.new.self.items c.in_ok-param.param.part
          (number_param text (param_of x)) (number_param_list (text_of_tables behind.tables.now) rest) c.in_ok-push.ensures.items
          c.in_ok-param.ensures.part
          ∙ ap (λ t. done ++ (number_param text (param_of x) ∷ number_param_list t rest)) same
          ∙ sym (ap (λ l. done ++ number_param_list text (map param_of l)) step) ∙ c.loop-param.invariant.part;
      refusal = ap (λ z. earlier_of c.earlier_of-refusal.result (first_in (param_list_nodes z rest))) moved
          ∙ in_step c.loop-param.refusal c.earlier_of-refusal.result _ _ (type_nodes site (type_tree_of x.ty)
          ++ node site (VariableName x.place x.name) ∷ []) (param_list_nodes inner rest) c.loop-param.invariant.refusal
          (ap (λ l. param_list_nodes site (map param_of l)) step) (c.earlier_of-refusal.ensures ∙ ap (earlier_of c.loop-param.refusal) c.in_ok-param.ensures.refusal);
      site = ap (λ z. behind_params z rest) moved ∙ sym (ap (λ l. behind_params site (map param_of l)) step) ∙ c.loop-param.invariant.site;
    }

pub returns-clause-refusal : goal.returns-clause-refusal
returns-clause-refusal c =
    in_end c.loop-param.refusal _ _ c.loop-param.invariant.refusal
    (ap (λ l. param_list_nodes (site_of c.loop-param.self) (map param_of l))
    (drop_all c.loop-param.param-index c.args.params.now (omega arith)))
