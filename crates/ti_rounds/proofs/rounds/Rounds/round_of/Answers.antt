use Rattle.std.proofs.Common.{◌≡◌, Some, sym, ap, subst, ◌∙◌}
use Rattle.ti_rounds.specs.Seats.{seat_at, round_at}
use Rattle.ti_rounds.specs.declared.proc_rounds.ProcRounds.{ProcRounds}
use Rattle.ti_rounds.specs.Courses.{AllSay}
use Rattle.ti_rounds.proofs.KeptCourses.{latest_said, all_said}
use Rattle.ti_rounds.proofs.rounds.Rounds.round_of.Goals as goal

pub returns-clause-own : goal.returns-clause-own
returns-clause-own c = λ courses keeps.
    let is : (seat_at c.args.self.now c.args.process).latest ≡ Some c.in-Some.arrival = ap (λ (s : ProcRounds). s.latest) (sym c.seat.ensures.value) ∙ c.in-Some.is in
    latest_said c.args.self.now courses c.args.process c.in-Some.arrival keeps is ∙ ap Some (sym c.collective.ensures)

pub returns-clause-all : goal.returns-clause-all
returns-clause-all c = λ courses keeps.
    let is : (seat_at c.args.self.now c.args.process).latest ≡ Some c.in-Some.arrival = ap (λ (s : ProcRounds). s.latest) (sym c.seat.ensures.value) ∙ c.in-Some.is in
    subst (AllSay courses (round_at c.args.self.now c.args.process)) (sym c.collective.ensures)
    (all_said c.args.self.now courses c.args.process c.in-Some.arrival keeps c.requires.process c.seat.ensures.in_step is)
