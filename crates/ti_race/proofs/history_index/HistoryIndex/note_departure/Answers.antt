use Rattle.std.proofs.Common.{rules, ◌∙◌, ◌==◌, ap, sym}
use Rattle.ti_race.specs.Mirrors.HistoryIndex.{phase_in}
use Rattle.ti_race.proofs.IndexedObjects.{phases_more, same_at, on_err}
use Rattle.ti_race.proofs.history_index.HistoryIndex.note_departure.Goals as goal

pub returns-in_ok-insert-clause-phases : goal.returns-in_ok-insert-clause-phases
returns-in_ok-insert-clause-phases c h tells i =
    phases_more c.args.self.now.phases c.insert.new.self c.args.entry.now h c.in-Some.phase (sym c.departs.ensures ∙ c.if-departs.true) (search rules) c.in_ok-insert.ensures.updates tells i

pub returns-in_err-insert-clause-kept : goal.returns-in_err-insert-clause-kept
returns-in_err-insert-clause-kept c = on_err c.from_residual.result (λ h tells i. ap phase_in (same_at ◌==◌ c.args.self.now.phases c.insert.new.self i c.in_err-insert.ensures.err) ∙ tells i)
