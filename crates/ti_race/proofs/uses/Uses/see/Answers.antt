use Rattle.std.proofs.Common.{◌∙◌, ap, sym, take}
use Rattle.std.proofs.lemmas.List.{take_at}
use Rattle.ti_race.specs.Mirrors.HistoryIndex.{one_or_none}
use Rattle.ti_race.proofs.IndexedObjects.{on_err}
use Rattle.ti_race.proofs.ToldUses.{gathers_more, gathers_still}
use Rattle.ti_race.proofs.uses.Uses.see.Goals as goal

pub returns-in_err-push_use-clause-kept : goal.returns-in_err-push_use-clause-kept
returns-in_err-push_use-clause-kept c = on_err c.from_residual.result (λ es gathers. gathers_still c.args.self.now _ es gathers (λ h tells. tells) c.in_err-push_use.ensures.kept)

pub returns-in-Ok-clause-told : goal.returns-in-Ok-clause-told
returns-in-Ok-clause-told c es gathers =
    gathers_more c.args.self.now _ es c.args.entry.now c.use_of-u.result gathers c.in-Ok.ensures.told c.use_of-u.ensures.told c.use_of-u.ensures.entry c.in_ok-push_use.ensures.items

pub returns-in-Err-clause-kept : goal.returns-in-Err-clause-kept
returns-in-Err-clause-kept c es gathers =
    let was = c.args.self.now.found in
    let size = c.len-len.ensures ∙ was.ok.0 in
    gathers_still c.args.self.now _ es gathers c.in-Err.ensures.kept
    (c.truncate.ensures.items ∙ ap (take c.len-len.result) c.in_ok-push_use.ensures.items ∙ take_at was.items (one_or_none c.use_of-u.result) c.len-len.result (sym size))
