use Rattle.std.proofs.Common.{subst}
use Rattle.ti_lang.specs.Program.Views.{program_of}
use Rattle.ti_exec.specs.States.{wait_in}
use Rattle.ti_exec.proofs.Lemmas.{fits_formed}
use Rattle.ti_slice.specs.Mirrors.Answer.{wanted_of, OutcomeFits}
use Rattle.ti_slice.proofs.Meeting.{no_tick, no_fit, leaving}
use Rattle.ti_slice.proofs.answer.Slice.departs.Goals as goal

pub returns-then-self : goal.returns-then-self
returns-then-self c = no_tick (program_of c.args.checked.now.program.parts) c.args.self.now c.requires c.args.outcome.now c.args.self.now c.if-self.true

pub leaves-requires-clause-form : goal.leaves-requires-clause-form
leaves-requires-clause-form c =
    let p = program_of c.args.checked.now.program.parts in
    let s = c.args.self.now in
    let wanted = wanted_of (wait_in p s.machine s.machine.mode) in
    fits_formed wanted c.args.outcome.now (subst (OutcomeFits wanted c.args.outcome.now) c.if-fitting.true c.in_ok-fitting.ensures)

pub returns-then-fitting : goal.returns-then-fitting
returns-then-fitting c =
    let p = program_of c.args.checked.now.program.parts in
    let s = c.args.self.now in
    leaving p s c.requires c.args.outcome.now c.leaves.new.self c.if-self.false
    (subst (OutcomeFits (wanted_of (wait_in p s.machine s.machine.mode)) c.args.outcome.now) c.if-fitting.true c.in_ok-fitting.ensures)
    (c.in_ok-leaves.ensures.told p) (c.in_ok-leaves.ensures.gone p)

pub returns : goal.returns
returns c =
    let p = program_of c.args.checked.now.program.parts in
    let s = c.args.self.now in
    no_fit p s c.requires c.args.outcome.now s c.if-self.false (subst (OutcomeFits (wanted_of (wait_in p s.machine s.machine.mode)) c.args.outcome.now) c.if-fitting.false c.in_ok-fitting.ensures)
