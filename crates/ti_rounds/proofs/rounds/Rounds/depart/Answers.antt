use Rattle.std.proofs.Common.{◌≡◌, set, sym, ap, subst, ◌∙◌}
use Rattle.ti_rounds.specs.Seats.{seat_at}
use Rattle.ti_rounds.specs.Mirrors.{AreInStep, after_departure}
use Rattle.ti_rounds.proofs.InStep.{departed_in_step}
use Rattle.ti_rounds.proofs.KeptCourses.{keeps_departure}
use Rattle.ti_rounds.proofs.rounds.Rounds.depart.Goals as goal

pub keep-requires-clause-in_step : goal.keep-requires-clause-in_step
keep-requires-clause-in_step c =
    let seats = c.args.self.now in
    let p = c.args.process in
    let seat : c.after_departure.result ≡ after_departure (seat_at seats p) = c.after_departure.ensures ∙ ap after_departure c.seat-seat.ensures.value in
    subst (λ s. AreInStep (set seats p s)) (sym seat) (departed_in_step seats p c.requires.process c.seat-seat.ensures.in_step c.requires.waits c.requires.complete)

pub returns-clause-left : goal.returns-clause-left
returns-clause-left c = λ courses keeps.
    let seats = c.args.self.now in
    let p = c.args.process in
    let seat : c.after_departure.result ≡ after_departure (seat_at seats p) = c.after_departure.ensures ∙ ap after_departure c.seat-seat.ensures.value in
    c.keep.ensures ∙ ap (set seats p) seat ∙ keeps_departure seats courses p keeps
