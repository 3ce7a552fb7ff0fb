use Rattle.std.proofs.Common.{sym, subst}
use Rattle.std.specs.List.{All}
use Rattle.std.proofs.lemmas.List.Elements.{All-get_or, All-set}
use Rattle.ti_turnstile.specs.Turnstiles.{identity_of}
use Rattle.ti_runtime.specs.Mirrors.Tasks.{BelongsTo}
use Rattle.ti_runtime.proofs.Fit.{fit_first}
use Rattle.ti_runtime.proofs.threads.assigned.put.Goals as goal

pub returns-clause-groups : goal.returns-clause-groups
returns-clause-groups g c =
    let table = identity_of c.args.turnstile.now in
    let groups = c.args.groups.now.items in
    let v = c.index_mut.result.now in
    let was : All (BelongsTo table) v.items = subst (λ w. All (BelongsTo table) w.items) (sym c.index_mut.ensures.value)
    (All-get_or (λ w. All (BelongsTo table) w.items) groups c.args.group v c.requires.group c.requires.groups) in
    All-set (λ w. All (BelongsTo table) w.items) groups c.args.group c.insert.new.self
    (fit_first table v.items c.insert.new.self.items c.args.task was c.requires.task c.in_ok-insert.ensures.items) c.requires.groups
