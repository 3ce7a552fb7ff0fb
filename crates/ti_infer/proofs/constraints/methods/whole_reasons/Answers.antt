use Rattle.std.proofs.Common.{ap, ap₂, ◌∙◌, length}
use Rattle.std.proofs.lemmas.List.{length-append}
use Rattle.ti_blame.specs.declared.implication.Conclusion.TheVariants.{Between}
use Rattle.ti_infer.specs.Reason.{return_reasons}
use Rattle.ti_infer.specs.Mirrors.Sites.{program_at, method_of_site}
use Rattle.ti_infer.proofs.constraints.methods.whole_reasons.Goals as goal

pub returns-clause-whole : goal.returns-clause-whole
returns-clause-whole c =
    ap₂ Between c.count-i.ensures (c.count.ensures ∙ ap length c.in_ok-return_reasons.ensures ∙ length-append c.args.items.now.items (return_reasons (program_at c.args.site) (method_of_site c.args.site)))
