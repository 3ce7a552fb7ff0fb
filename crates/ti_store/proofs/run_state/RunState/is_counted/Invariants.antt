use Rattle.std.proofs.Common.{◌≡◌, ℕ, ◌<◌, false, List}
use Rattle.ti_rounds.specs.Seats.{round_at}
use Rattle.ti_rounds.specs.Courses.{Course, Keeps, given_at}
use Rattle.ti_lang.specs.Meaning.RoundsOf.{is_positive_count}
use Rattle.ti_store.proofs.run_state.RunState.is_counted.Given as goal

abbrev pub invariant-loop-who : goal.invariant-loop-who
invariant-loop-who l = (q : ℕ) → q < l.who → (courses : List Course) → Keeps l.self.rounds courses → is_positive_count (given_at courses q (round_at l.self.rounds l.proc)) ≡ false
