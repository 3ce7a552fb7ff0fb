use Rattle.std.proofs.Common.{sym, ◌∙◌}
use Rattle.ti_syntax.specs.Trees.Views.{exp_of, init_of}
use Rattle.ti_lang.specs.Nodes.{exp_nodes, init_nodes}
use Rattle.ti_rules.specs.Mirrors.First.{earlier_of}
use Rattle.ti_names.specs.Seen.{site_of}
use Rattle.ti_names.proofs.Firsts.{in_append}
use Rattle.ti_names.proofs.context.NameContext.assignment.Goals as goal

pub returns-clause-refusal : goal.returns-clause-refusal
returns-clause-refusal c =
    let site = site_of c.args.self.now in
    c.earlier_of-refusal.ensures ∙ (λ j. earlier_of (c.check_exp.ensures j) (c.check_init.ensures j)) ∙ sym (in_append (exp_nodes site (exp_of c.args.target.now)) (init_nodes site (init_of c.args.value.now)))
