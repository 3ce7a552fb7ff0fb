use Rattle.std.proofs.Common.{◌≡◌, ◌∷◌, ◌++◌, map, ap, sym, ◌∙◌}
use Rattle.ti_syntax.specs.Trees.Statements.{stms}
use Rattle.ti_syntax.specs.Trees.Views.{stm_of}
use Rattle.ti_lang.specs.Scopes.{body_site}
use Rattle.ti_lang.specs.Nodes.{node, MethodName, result_nodes, params_nodes, stms_nodes}
use Rattle.ti_rules.specs.Mirrors.First.{earlier_of}
use Rattle.ti_names.specs.Found.{first_in}
use Rattle.ti_names.specs.MethodDecl.{method_decl_of}
use Rattle.ti_names.specs.Seen.{site_of}
use Rattle.ti_names.proofs.Firsts.{in_append}
use Rattle.ti_names.proofs.context.NameContext.method.Goals as goal

pub returns-clause-refusal : goal.returns-clause-refusal
returns-clause-refusal c =
    let own = method_decl_of c.args.own in
    let site = site_of c.args.self.now in
    let head = node site (MethodName c.args.number own) ∷ result_nodes site own.method.result in
    let params = params_nodes site own.method.params in
    let body = stms_nodes (body_site site own.method.params) (stms own.method.body) in
    let is_body : c.in_ok-body.body.refusal ≡ first_in body = c.in_ok-body.ensures.refusal
    ∙ (λ j. first_in (stms_nodes (c.in_ok-params.ensures.site j) (stms (map stm_of (c.deref.ensures.value j))))) in
    c.earlier_of-2.ensures ∙ ap (λ z. earlier_of z c.in_ok-body.body.refusal) c.earlier_of.ensures ∙ (λ j. earlier_of (earlier_of (c.check_head-head.ensures j) (c.in_ok-params.ensures.refusal j)) (is_body j))
    ∙ ap (λ z. earlier_of z (first_in body)) (sym (in_append head params)) ∙ sym (in_append (head ++ params) body)
