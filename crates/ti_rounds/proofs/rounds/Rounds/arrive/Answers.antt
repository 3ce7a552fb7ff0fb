use Rattle.std.proofs.Common.{◌≡◌, set, sym, ap, subst, ◌∙◌}
use Rattle.ti_rounds.specs.declared.arrival.Arrival.{Arrival}
use Rattle.ti_rounds.specs.Seats.{seat_at}
use Rattle.ti_rounds.specs.Mirrors.{AreInStep, after_arrival}
use Rattle.ti_rounds.proofs.InStep.{arrived_in_step}
use Rattle.ti_rounds.proofs.KeptCourses.{keeps_arrival, agrees_kept}
use Rattle.ti_rounds.proofs.rounds.Rounds.arrive.Goals as goal

pub keep-requires-clause-in_step : goal.keep-requires-clause-in_step
keep-requires-clause-in_step c =
    let seats = c.args.self.now in
    let p = c.args.process in
    let a : Arrival = record { kind = c.args.kind; place = c.args.place; arg = c.args.arg; deposit = c.args.contribution } in
    let seat : c.after_arrival.result ≡ after_arrival (seat_at seats p) a = c.after_arrival.ensures ∙ ap (λ s. after_arrival s a) c.seat-seat.ensures.value in
    let all = c.requires.agrees in
    subst (λ s. AreInStep (set seats p s)) (sym seat)
    (arrived_in_step seats p a c.requires.process c.seat-seat.ensures.in_step c.requires.goes
    (agrees_kept seats all.0 p a all.1 c.requires.process c.seat-seat.ensures.in_step all.2))

pub returns : goal.returns
returns c = λ courses keeps.
    let seats = c.args.self.now in
    let p = c.args.process in
    let a : Arrival = record { kind = c.args.kind; place = c.args.place; arg = c.args.arg; deposit = c.args.contribution } in
    let seat : c.after_arrival.result ≡ after_arrival (seat_at seats p) a = c.after_arrival.ensures ∙ ap (λ s. after_arrival s a) c.seat-seat.ensures.value in
    c.keep.ensures ∙ ap (set seats p) seat ∙ keeps_arrival seats courses p a keeps
