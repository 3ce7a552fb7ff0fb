use Rattle.std.proofs.Common.{sym, ◌∙◌}
use Rattle.ti_syntax.specs.Trees.Views.{exp_of}
use Rattle.ti_lang.specs.Nodes.{exp_nodes}
use Rattle.ti_rules.specs.Mirrors.First.{earlier_of}
use Rattle.ti_names.specs.Seen.{site_of}
use Rattle.ti_names.proofs.Firsts.{in_append}
use Rattle.ti_names.proofs.context.NameContext.update.Goals as goal

pub returns-clause-refusal : goal.returns-clause-refusal
returns-clause-refusal c =
    let site = site_of c.args.self.now in
    c.earlier_of-refusal.ensures ∙ (λ j. earlier_of (c.check_exp.ensures j) (c.check_exp-2.ensures j)) ∙ sym (in_append (exp_nodes site (exp_of c.args.target.now)) (exp_nodes site (exp_of c.args.value.now)))
