use Rattle.std.proofs.Common.{◌≡◌, replicate, arith, ◌∙◌}
use Rattle.std.proofs.lemmas.Grind.{common_steps}
use Rattle.ti_rounds.specs.Seats.{new_seat}
use Rattle.ti_rounds.proofs.KeptCourses.{new_kept}
use Rattle.ti_rounds.proofs.rounds.Rounds.new.Goals as goal

pub returns : goal.returns
returns c =
    let seats : c.resize.new.self.items ≡ replicate c.args.procs new_seat = grind (arith, common_steps) in
    seats ∙ new_kept c.args.procs
