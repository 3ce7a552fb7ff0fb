use Rattle.std.proofs.Common.{◌∙◌}
use Rattle.ti_race.specs.contracts.spots.IdKeyPartialEq.TheImpl as name_eq
use Rattle.ti_race.specs.Mirrors.HistoryIndex.{id_key}
use Rattle.ti_race.proofs.IndexedObjects.{same_at, on_err}
use Rattle.ti_race.proofs.history_index.HistoryIndex.note_object.Goals as goal

pub returns-in_err-insert-clause-kept : goal.returns-in_err-insert-clause-kept
returns-in_err-insert-clause-kept c = on_err c.from_residual.result
    (λ h tells id. same_at (name_eq.ghosts).eq c.args.self.now.objects c.insert.new.self (id_key id) c.in_err-insert.ensures.err
    ∙ tells id)
