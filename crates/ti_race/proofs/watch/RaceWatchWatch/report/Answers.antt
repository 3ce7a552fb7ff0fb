use Rattle.std.proofs.Common.{◌++◌, ◌∙◌, ap, sym}
use Rattle.ti_lang.specs.Meaning.Spots.{races_text}
use Rattle.ti_race.specs.Mirrors.HistoryIndex.{report_of}
use Rattle.ti_race.proofs.SameSpots.{report_like}
use Rattle.ti_race.proofs.watch.RaceWatchWatch.report.Goals as goal

pub returns-in-Ok-clause-text : goal.returns-in-Ok-clause-text
returns-in-Ok-clause-text c =
    let out = c.args.out.now.items in
    let kept = c.self.inside in
    let same = report_like kept.heard.entries kept.uses.found.items c.self.invariant.uses c.self.invariant.listed in
    c.in-Ok.ensures.text ∙ ap (λ us. out ++ report_of us) c.deref.ensures.value ∙ ap (λ text. out ++ text) (sym same ∙ ap races_text c.self.view_is)
