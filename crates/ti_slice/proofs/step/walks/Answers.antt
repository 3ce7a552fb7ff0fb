use Rattle.std.proofs.Common.{◌≡◌, ◌∙◌, sym, subst, ◌<◌, length, [], ◌∷◌, arith}
use Rattle.std.proofs.lemmas.Bool.Decides.{nat_tests}
use Rattle.ti_lang.specs.Program.Statements.{NumberedStm}
use Rattle.ti_lang.specs.Program.Views.{program_of}
use Rattle.ti_lang.specs.Meaning.Processes.{ContItem}
use Rattle.ti_eval.specs.Frames.{work_of}
use Rattle.ti_exec.specs.States.{IsAtHand, AtHandIn, context_of_call}
use Rattle.ti_slice.specs.Mirrors.Step.{ActsIn}
use Rattle.ti_slice.proofs.Stepping.{slice_ends_at, passing}
use Rattle.ti_slice.proofs.step.walks.Goals as goal

pub returns-then-is_empty : goal.returns-then-is_empty
returns-then-is_empty c =
    let e : length c.args.machine.now.top.levels.items ≡ 0 = grind (arith, nat_tests) in
    let p = program_of c.args.checked.now.program.parts in
    slice_ends_at p c.args.machine.now c.returns.new.self c.returns.result c.requires.mode e c.requires.settled (c.returns.ensures p [] [])

pub work_acts-requires-clause-at_hand : goal.work_acts-requires-clause-at_hand
work_acts-requires-clause-at_hand c = subst (AtHandIn (program_of c.args.checked.now.program.parts) c.args.machine.now.top) c.in-Walks.is c.requires.settled

pub acts-requires-clause-acts : goal.acts-requires-clause-acts
acts-requires-clause-acts c =
    let w = c.args.machine.now in
    subst (ActsIn (program_of c.args.checked.now.program.parts) w) (sym c.in-Walks.is) (λ x ws e. sym (c.work_acts.ensures w.rank.procs x ws e) ∙ c.if-work_acts.true)

pub returns : goal.returns
returns c =
    let p = program_of c.args.checked.now.program.parts in
    let w = c.args.machine.now in
    let n = length w.top.levels.items in
    let site = context_of_call p w.rank.procs w.top in
    let resume = c.in-Walks.resume in
    let h : 0 < n = grind (arith, nat_tests) in
    let s : IsAtHand _ n resume = subst (AtHandIn p w.top) c.in-Walks.is c.requires.settled in
    let l = subst (λ (y : NumberedStm). (x : ContItem) × (work_of site y resume ≡ x ∷ work_of site y c.work_after_first-left.result)) c.current_stmt.ensures
    (c.work_after_first-left.ensures site n h (subst (λ (y : NumberedStm). IsAtHand y n resume) (sym c.current_stmt.ensures) s)) in
    passing p w c.complete_with.new.self resume c.work_after_first-left.result l.0 h c.in-Walks.is (λ ws e. sym (c.work_acts.ensures w.rank.procs l.0 ws e) ∙ c.if-work_acts.false) l.1 (c.complete_with.ensures p)
