use Rattle.std.proofs.Common.{◌≤◌, ◌∙◌, length, sym, subst, arith}
use Rattle.ti_lang.specs.Meaning.Runs.{IsSolo}
use Rattle.ti_align.specs.Alignment.{IsAlignedRun}
use Rattle.ti_store.specs.Stores.{config_of}
use Rattle.ti_runtime.specs.declared.runner.How.TheVariants as how
use Rattle.ti_runtime.specs.Mirrors.Processes.{IsSoloState, SoloOutcome}
use Rattle.ti_runtime.proofs.Turns.{law_of, same_setting, open_on}
use Rattle.ti_runtime.proofs.Endings.{ends}
use Rattle.ti_runtime.proofs.runner.run_solo.Goals as goal

pub turns-preserved : goal.turns-preserved
turns-preserved g c =
    let code = c.args.code.now in
    let old = c.turns.store in
    let new = c.step.new.store in
    let is = c.in-Ok.ensures.store in
    let same = same_setting old new is in
    let leaves = c.in-Ok.ensures.leaves in
    let on = leaves.stands in
    record {
      same = same ∙ c.turns.invariant.same;
      open_still = open_on code old new is on.goes_on c.turns.invariant.open_still;
      solo = λ solo. subst (λ s. IsSolo s new.entries) (sym same) (leaves.solo (c.turns.invariant.solo solo));
      stands = subst (λ s. IsSoloState code s new.entries c.step.new.self.processes.items c.step.new.self.cursor) (sym same) on;
    }

pub returns : goal.returns
returns g c =
    let code = c.args.code.now in
    let store = c.turns.store in
    let processes = c.turns.scheduler.processes.items in
    let s = config_of store in
    let may = c.turns.invariant.open_still.may in
    let aligned = law_of IsAlignedRun s store.entries may.aligned may.runs.within c.turns.invariant.stands.run in
    let past : length processes ≤ c.turns.scheduler.cursor.next_proc = omega arith in
    let before = c.args.store.now.entries in
    let same = c.turns.invariant.same in
    let solo = λ (first : IsSolo s before). c.turns.invariant.solo (subst (λ s. IsSolo s before) same first) in
    subst (λ s. SoloOutcome code s before store.entries processes how.Ended) same (ends code s before store.entries processes c.turns.scheduler.cursor solo c.turns.invariant.stands past aligned.none_stuck)
