use Rattle.std.proofs.Common.{◌<◌, ◌∙◌, sym, subst}
use Rattle.ti_lang.specs.Meaning.Histories.{entries_of}
use Rattle.ti_store.specs.declared.run_state.ActOutcome.TheVariants.{Answered, Faulted}
use Rattle.ti_store.specs.Conditions.{HasNextAfter}
use Rattle.ti_store.specs.Stores.{StoreState, config_of, next_of}
use Rattle.ti_store.specs.Mirrors.Parts.{Steps}
use Rattle.ti_store.specs.Mirrors.Store.{IsRunState}
use Rattle.ti_store.proofs.Stepping.{waits_before, may_act, ledger_steps, same_terms, form_answered}
use Rattle.ti_store.proofs.store.Store.act.Goals as goal

pub is_enabled-requires-clause-waits : goal.is_enabled-requires-clause-waits
is_enabled-requires-clause-waits g c =
    let s = c.self.inside in
    let run_state = subst (IsRunState s.run_state s.fuel) c.if-self-2.false c.self.invariant.run_state in
    let inside = subst (λ (t : StoreState). c.args.proc < t.procs) (sym c.self.view_is) c.requires.process in
    let next = subst (λ (t : StoreState). HasNextAfter (config_of t) c.args.proc (entries_of c.args.proc t.entries) (next_of c.args.place c.args.action)) (sym c.self.view_is) c.requires.next in
    waits_before s.run_state s.fuel c.args.proc c.args.place c.args.action run_state inside next

pub step-requires-clause-may : goal.step-requires-clause-may
step-requires-clause-may g c =
    let s = c.self.inside in
    let run_state = subst (IsRunState s.run_state s.fuel) c.if-self-2.false c.self.invariant.run_state in
    let inside = subst (λ (t : StoreState). c.args.proc < t.procs) (sym c.self.view_is) c.requires.process in
    let next = subst (λ (t : StoreState). HasNextAfter (config_of t) c.args.proc (entries_of c.args.proc t.entries) (next_of c.args.place c.args.action)) (sym c.self.view_is) c.requires.next in
    may_act s.run_state s.fuel c.args.proc c.args.place c.args.action run_state inside next (c.is_enabled.ensures.0 c.if-not-is_enabled.false)

pub invariant_of-self : goal.invariant_of-self
invariant_of-self g c =
    let s = c.self.inside in
    let run_state = subst (IsRunState s.run_state s.fuel) c.if-self-2.false c.self.invariant.run_state in
    let inside = subst (λ (t : StoreState). c.args.proc < t.procs) (sym c.self.view_is) c.requires.process in
    let next = subst (λ (t : StoreState). HasNextAfter (config_of t) c.args.proc (entries_of c.args.proc t.entries) (next_of c.args.place c.args.action)) (sym c.self.view_is) c.requires.next in
    let steps = subst (λ r. Steps s.run_state c.args.proc c.args.place c.args.action r c.step.new.self) c.in-Ok-Answered.field-0-is c.in-Ok-Answered.ensures.ok in
    record {
      run_state = subst (IsRunState c.step.new.self s.fuel) (sym c.if-self-2.false)
          (ledger_steps s.run_state c.step.new.self s.fuel c.args.proc c.args.place c.args.action (Answered c.in-Ok-Answered.answer) run_state inside next (c.is_enabled.ensures.0 c.if-not-is_enabled.false) steps);
      terms_are = same_terms s.run_state c.step.new.self s.fuel c.args.proc c.args.place c.args.action (Answered c.in-Ok-Answered.answer) steps ∙ c.self.invariant.terms_are;
    }

pub invariant_of-self-in-Ok-Faulted : goal.invariant_of-self-in-Ok-Faulted
invariant_of-self-in-Ok-Faulted g c =
    let s = c.self.inside in
    let run_state = subst (IsRunState s.run_state s.fuel) c.if-self-2.false c.self.invariant.run_state in
    let inside = subst (λ (t : StoreState). c.args.proc < t.procs) (sym c.self.view_is) c.requires.process in
    let next = subst (λ (t : StoreState). HasNextAfter (config_of t) c.args.proc (entries_of c.args.proc t.entries) (next_of c.args.place c.args.action)) (sym c.self.view_is) c.requires.next in
    let steps = subst (λ r. Steps s.run_state c.args.proc c.args.place c.args.action r c.step.new.self) c.in-Ok-Faulted.field-0-is c.in-Ok-Faulted.ensures.ok in
    record {
      run_state = ledger_steps s.run_state c.step.new.self s.fuel c.args.proc c.args.place c.args.action (Faulted c.in-Ok-Faulted.kind) run_state inside next (c.is_enabled.ensures.0 c.if-not-is_enabled.false) steps;
      terms_are = same_terms s.run_state c.step.new.self s.fuel c.args.proc c.args.place c.args.action (Faulted c.in-Ok-Faulted.kind) steps ∙ c.self.invariant.terms_are;
    }

pub returns-in-Ok-Answered-clause-form : goal.returns-in-Ok-Answered-clause-form
returns-in-Ok-Answered-clause-form g c =
    let s = c.self.inside in
    let run_state = subst (IsRunState s.run_state s.fuel) c.if-self-2.false c.self.invariant.run_state in
    let steps = subst (λ r. Steps s.run_state c.args.proc c.args.place c.args.action r c.step.new.self) c.in-Ok-Answered.field-0-is c.in-Ok-Answered.ensures.ok in
    form_answered s.run_state c.step.new.self s.fuel c.args.proc c.args.place c.args.action c.in-Ok-Answered.answer run_state steps
