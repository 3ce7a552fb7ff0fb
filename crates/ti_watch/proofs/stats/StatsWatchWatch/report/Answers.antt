use Rattle.std.proofs.Common.{◌++◌, List, ap, ◌∙◌}
use Rattle.ti_base.specs.declared.entry.Entry.{Entry}
use Rattle.ti_watch.specs.declared.acts.ActKind.{ActKind}
use Rattle.ti_watch.specs.Mirrors.{kind_stats_text}
use Rattle.ti_watch.specs.Reports.{stats_text}
use Rattle.ti_watch.proofs.KindCounts.{same_stats}
use Rattle.ti_watch.proofs.stats.StatsWatchWatch.report.Goals as goal

pub returns-in-Ok-clause-text : goal.returns-in-Ok-clause-text
returns-in-Ok-clause-text c =
    let told = c.self.inside.told.entries in
    let kinds = c.deref.ensures.value ∙ c.self.invariant in
    c.in-Ok.ensures.text
    ∙ ap (λ (ks : List ActKind). c.args.out.now.items ++ kind_stats_text ks) kinds
    ∙ ap (λ text. c.args.out.now.items ++ text) (same_stats told)
    ∙ ap (λ (es : List Entry). c.args.out.now.items ++ stats_text es) c.self.view_is
