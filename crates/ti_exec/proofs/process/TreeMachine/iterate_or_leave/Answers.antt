use Rattle.std.proofs.Common.{◌≡◌, Bool, ap, subst, sym}
use Rattle.ti_base.specs.declared.fault.FaultKind.TheVariants.{Fuel}
use Rattle.ti_lang.specs.Program.Views.{program_of}
use Rattle.ti_lang.specs.Meaning.Steps.{To, Faults}
use Rattle.ti_exec.specs.States.{process_of}
use Rattle.ti_exec.specs.Pending.{step_if}
use Rattle.ti_exec.proofs.Begun.{turn_over, turn_fails, turn_begins}
use Rattle.ti_exec.proofs.process.TreeMachine.iterate_or_leave.Goals as goal

pub returns-then-not-again : goal.returns-then-not-again
returns-then-not-again c =
    let p = program_of c.args.program.now in
    let w = c.args.self.now in
    subst (λ (b : Bool). step_if p w b ≡ To (process_of p c.complete_with.new.self)) (sym c.if-not-again.true)
    (turn_over p w c.complete_with.new.self _ c.after_loop.result c.requires c.current_stmt-x.ensures c.after_loop.ensures (c.complete_with.ensures p))

pub returns-then-self : goal.returns-then-self
returns-then-self c =
    let p = program_of c.args.program.now in
    let w = c.args.self.now in (
      ap (process_of p) c.stays.ensures,
      subst (λ (b : Bool). step_if p w b ≡ Faults Fuel c.loop_place.result) (sym c.if-not-again.false)
          (turn_fails p w _ _ c.if-self.true c.current_stmt-x.ensures c.loop_place.ensures),
    )

pub returns : goal.returns
returns c =
    let p = program_of c.args.program.now in
    let w = c.args.self.now in
    subst (λ (b : Bool). step_if p w b ≡ To (process_of p c.enter.new.self)) (sym c.if-not-again.false) (turn_begins p w c.enter.new.self c.requires c.if-self.false (c.in_ok-enter.ensures p))
