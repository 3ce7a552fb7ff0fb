use Rattle.std.proofs.Common.{◌∙◌, sym, ap, subst}
use Rattle.std.specs.List.{list_all}
use Rattle.ti_lang.specs.Meaning.Runs.{IsRun}
use Rattle.ti_store.specs.Stores.{config_of}
use Rattle.ti_runtime.proofs.Finishing.{has_ended, fault_told, came_faulted, came_ended}
use Rattle.ti_runtime.proofs.runner.go_on.Goals as goal

pub returns-then-ends_with_fault : goal.returns-then-ends_with_fault
returns-then-ends_with_fault g c =
    let es = c.args.store.now.entries in
    let run = subst (λ s. IsRun s es) c.has_its_config.ensures c.history.ensures.run in
    let fault = fault_told (config_of c.args.store.now) es c.history.result.now.items c.ends_with_fault.result c.history.ensures.entries
    c.history.ensures.run c.ends_with_fault.ensures ∙ c.if-ends_with_fault.true in
    came_faulted g.J.CodeOf.code g.J.RunConfigOf.config es c.args.scheduler.now.processes.items run c.requires.count c.requires.seated fault

pub returns-then-have_ended : goal.returns-then-have_ended
returns-then-have_ended g c =
    let es = c.args.store.now.entries in
    let run = subst (λ s. IsRun s es) c.has_its_config.ensures c.history.ensures.run in
    let fault = fault_told (config_of c.args.store.now) es c.history.result.now.items c.ends_with_fault.result c.history.ensures.entries
    c.history.ensures.run c.ends_with_fault.ensures ∙ c.if-ends_with_fault.false in
    let ended = sym (ap (list_all has_ended) c.deref.ensures.value) ∙ sym c.have_ended.ensures ∙ c.if-have_ended.true in
    came_ended g.J.CodeOf.code g.J.RunConfigOf.config es c.args.scheduler.now.processes.items run c.requires.count c.requires.seated fault ended
