use Rattle.std.proofs.Common.{◌<◌, ◌≤◌, length, subst, ℕ, [], arith}
use Rattle.ti_lang.specs.Program.Views.{program_of}
use Rattle.ti_lang.specs.Meaning.Processes.{RunConfig}
use Rattle.ti_align.specs.Slice.{SliceComes, SliceAnswers}
use Rattle.ti_exec.specs.States.{process_of}
use Rattle.ti_exec.proofs.Lemmas.{of_result}
use Rattle.ti_slice.specs.Mirrors.Answer.{SliceMeets}
use Rattle.ti_slice.proofs.Meeting.{begins_free, begins_all, takes_on, takes_none, taken_all}
use Rattle.ti_slice.proofs.answer.slice_next.Goals as goal

pub loop-k-init : goal.loop-k-init
loop-k-init c =
    let n : RunConfig = record { program = program_of c.args.checked.now.program.parts; procs = c.args.procs; fuel = c.args.fuel } in
    let s = c.begin-slice in
    record { free = begins_free n s.result s.ensures.process; leads = λ x z. begins_all n s.result c.args.outcomes.now x s.ensures.process s.ensures.gone z }

pub loop-k-preserved : goal.loop-k-preserved
loop-k-preserved c =
    let n : RunConfig = record { program = program_of c.args.checked.now.program.parts; procs = c.args.procs; fuel = c.args.fuel } in
    let h : c.loop-k.k < length c.args.outcomes.now = grind arith in
    let m = subst (SliceMeets n.program c.loop-k.slice _ c.meets.new.self) c.if-not-met.false c.in_ok-met.ensures in
    record { free = m.0; leads = takes_on n c.loop-k.slice c.meets.new.self c.args.outcomes.now c.loop-k.k _ h c.loop-k.invariant.leads m }

pub returns-then-not-met : goal.returns-then-not-met
returns-then-not-met c =
    let n : RunConfig = record { program = program_of c.args.checked.now.program.parts; procs = c.args.procs; fuel = c.args.fuel } in
    let h : c.loop-k.k < length c.args.outcomes.now = grind arith in
    let m = subst (SliceMeets n.program c.loop-k.slice _ c.meets.new.self) c.if-not-met.true c.in_ok-met.ensures in
    takes_none n c.loop-k.slice c.meets.new.self c.args.outcomes.now c.loop-k.k _ h c.loop-k.invariant.leads m

pub returns : goal.returns
returns c =
    let n : RunConfig = record { program = program_of c.args.checked.now.program.parts; procs = c.args.procs; fuel = c.args.fuel } in
    let s = c.loop-k.slice in
    let h : length c.args.outcomes.now ≤ c.loop-k.k = grind arith in
    of_result c.comes_to.result (λ x. (k : ℕ) → SliceComes (process_of n.program s.machine) s.gone.items k [] x) (λ x. SliceAnswers n c.args.outcomes.now x)
    (λ x z. taken_all n s c.args.outcomes.now c.loop-k.k h c.loop-k.invariant.leads x z) c.comes_to.ensures
