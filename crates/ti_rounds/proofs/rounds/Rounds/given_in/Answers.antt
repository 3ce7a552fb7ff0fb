use Rattle.std.proofs.Common.{◌≡◌, ◌<◌, length, ap, subst, ◌∙◌}
use Rattle.std.proofs.lemmas.List.{get_or_read}
use Rattle.ti_rounds.specs.Seats.{new_seat, seat_at}
use Rattle.ti_rounds.specs.Courses.{deposit_of}
use Rattle.ti_rounds.specs.Mirrors.{kept_at}
use Rattle.ti_rounds.proofs.KeptCourses.{kept_arrival}
use Rattle.ti_rounds.proofs.rounds.Rounds.given_in.Goals as goal

pub returns-in-Some : goal.returns-in-Some
returns-in-Some c = λ courses keeps.
    let seats = c.args.self.now in
    let who = c.args.who in
    let same : c.deref.result.now ≡ seats = c.deref.ensures.value ∙ c.self.view_is in
    let found = c.in-Some.ensures.lookup in
    let within : who < length seats = subst (λ s. who < length s) same found.3.0 in
    let seat : c.in-Some.seat.now ≡ seat_at seats who = get_or_read c.deref.result.now who c.in-Some.seat.now found.3.0 found.1 new_seat ∙ ap (λ s. seat_at s who) same in
    c.given_at.ensures ∙ ap (λ s. deposit_of (kept_at c.args.round s)) seat ∙ ap deposit_of (kept_arrival seats courses who c.args.round keeps (c.requires.kept who within))
