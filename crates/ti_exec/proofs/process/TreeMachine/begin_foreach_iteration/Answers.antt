use Rattle.std.proofs.Common.{ap, refl}
use Rattle.ti_lang.specs.Program.Views.{program_of}
use Rattle.ti_eval.specs.declared.frame.Resume.TheVariants as left
use Rattle.ti_exec.specs.States.{process_of}
use Rattle.ti_exec.proofs.Begun.{went_out, each_done, each_fails, each_turns}
use Rattle.ti_exec.proofs.process.TreeMachine.begin_foreach_iteration.Goals as goal

pub returns-then-self : goal.returns-then-self
returns-then-self c =
    let p = program_of c.args.program.now in (
      ap (process_of p) c.stays.ensures,
      each_fails p c.args.self.now c.args.variable c.args.domain c.args.last c.in-Some.p _ _ _ c.requires
          (rw c.deref.ensures at c.in-Some.ensures.value) c.if-self.true c.current_stmt.ensures c.loop_place-at.ensures,
    )

pub returns-in_ok-enter-in-Some : goal.returns-in_ok-enter-in-Some
returns-in_ok-enter-in-Some c =
    let p = program_of c.args.program.now in
    each_turns p c.args.self.now c.enter.new.self c.args.variable c.args.domain _ c.args.last c.in-Some.p c.requires
    (rw c.deref.ensures at c.in-Some.ensures.value) c.if-self.false refl (c.in_ok-enter-in-Some.ensures p)

pub returns-in-None : goal.returns-in-None
returns-in-None c =
    let p = program_of c.args.program.now in
    went_out p c.args.self.now c.complete_with.new.self (left.Each c.args.variable c.args.domain c.args.last) _
    (each_done p c.args.self.now c.args.variable c.args.domain c.args.last c.requires (rw c.deref.ensures at c.in-None.ensures.value))
    (c.complete_with.ensures p)
