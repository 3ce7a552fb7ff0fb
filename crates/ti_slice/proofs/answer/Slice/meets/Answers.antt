use Rattle.std.proofs.Common.{refl}
use Rattle.ti_lang.specs.Program.Views.{program_of}
use Rattle.ti_slice.specs.declared.answer.Slice.{Slice}
use Rattle.ti_slice.specs.Mirrors.Answer.{Departs, SliceMeets}
use Rattle.ti_exec.proofs.Lemmas.{of_result}
use Rattle.ti_slice.proofs.Coming.{checked}
use Rattle.ti_slice.proofs.Meeting.{gone_as, arrival_tick, arrival_waits, meets, meets_end, meets_fault}
use Rattle.ti_slice.proofs.answer.Slice.meets.Goals as goal

pub apply_answer-requires-clause-tick : goal.apply_answer-requires-clause-tick
apply_answer-requires-clause-tick c =
    let p = program_of c.args.checked.now.program.parts in
    let g = gone_as p c.args.self.now.machine c.run_to_stop.new.machine _ _ _ _ c.deref.ensures.value c.in-Arrives.is c.in_ok-on_answer.ensures in
    arrival_tick p c.run_to_stop.new.machine c.args.self.now.gone.items _ _ _ _ g.stands

pub departs-requires : goal.departs-requires
departs-requires c =
    let p = program_of c.args.checked.now.program.parts in
    let g = gone_as p c.args.self.now.machine c.run_to_stop.new.machine _ _ _ _ c.deref.ensures.value c.in-Arrives.is c.in_ok-on_answer.ensures in
    arrival_waits p c.run_to_stop.new.machine c.apply_answer.new.machine c.args.self.now.gone.items _ _ _ _ (checked c.args.checked.now) g.free g.stands (c.in_ok-apply_answer-in-Arrives.ensures p)

pub returns-in_ok-apply_answer-in-Arrives : goal.returns-in_ok-apply_answer-in-Arrives
returns-in_ok-apply_answer-in-Arrives c =
    let p = program_of c.args.checked.now.program.parts in
    let old = c.args.self.now in
    let mid : Slice = record { machine = c.apply_answer.new.machine; gone = old.gone } in
    let r = c.args.outcome.now in
    let g = gone_as p old.machine c.run_to_stop.new.machine _ _ _ _ c.deref.ensures.value c.in-Arrives.is c.in_ok-on_answer.ensures in
    of_result c.departs.result (λ b. Departs p mid r c.departs.new.self b) (λ b. SliceMeets p old r c.departs.new.self b)
    (λ b d. meets p old mid c.run_to_stop.new.machine _ _ _ _ g (c.in_ok-apply_answer-in-Arrives.ensures p) refl r c.departs.new.self b d) c.departs.ensures

pub returns-in-Ends : goal.returns-in-Ends
returns-in-Ends c =
    let p = program_of c.args.checked.now.program.parts in
    let old = c.args.self.now in
    meets_end p old old c.run_to_stop.new.machine c.args.outcome.now (gone_as p old.machine c.run_to_stop.new.machine _ _ _ _ c.deref.ensures.value c.in-Ends.is c.in_ok-on_answer.ensures)

pub returns-in-Fails : goal.returns-in-Fails
returns-in-Fails c =
    let p = program_of c.args.checked.now.program.parts in
    let old = c.args.self.now in
    meets_fault p old old c.run_to_stop.new.machine _ _ c.args.outcome.now (gone_as p old.machine c.run_to_stop.new.machine _ _ _ _ c.deref.ensures.value c.in-Fails.is c.in_ok-on_answer.ensures)
