use Rattle.std.proofs.Common.{◌==◌, not, ◌&&◌, ◌||◌, ap, ◌∙◌}
use Rattle.ti_race.specs.Mirrors.AccessTable.{others, users_in, writers_in}
use Rattle.ti_race.proofs.Noting.{updated}
use Rattle.ti_race.proofs.table.note.Goals as goal

pub returns-clause-users : goal.returns-clause-users
returns-clause-users c key i =
    updated users_in c.args.table.now c.insert_full.new.self (c.args.access.spot, c.args.access.phase) c.with_access.result (λ i. not (c.args.access.proc == i)) c.in_ok-place.ensures.updates
    (λ i. c.with_access.ensures.users i ∙ ap (λ o. others (users_in o) i || not (c.args.access.proc == i)) (c.copied-seen.ensures ∙ c.get.ensures.value)) key i

pub returns-clause-writers : goal.returns-clause-writers
returns-clause-writers c key i =
    updated writers_in c.args.table.now c.insert_full.new.self (c.args.access.spot, c.args.access.phase) c.with_access.result (λ i. c.args.access.writes && not (c.args.access.proc == i)) c.in_ok-place.ensures.updates
    (λ i. c.with_access.ensures.writers i ∙ ap (λ o. others (writers_in o) i || (c.args.access.writes && not (c.args.access.proc == i))) (c.copied-seen.ensures ∙ c.get.ensures.value)) key i
