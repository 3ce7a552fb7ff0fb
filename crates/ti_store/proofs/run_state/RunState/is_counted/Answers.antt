use Rattle.std.proofs.Common.{sym, ap, ◌∙◌, arith}
use Rattle.ti_rounds.specs.Seats.{round_at}
use Rattle.ti_lang.specs.Meaning.RoundsOf.{is_positive_count, was_counted}
use Rattle.ti_store.specs.Mirrors.Parts.{history_in}
use Rattle.ti_store.proofs.Courses.{round_is}
use Rattle.ti_store.proofs.Deposits.{given_counted, none_counted}
use Rattle.ti_store.proofs.Meeting.{rounds_wait, arrived_reached}
use Rattle.ti_store.proofs.run_state.RunState.is_counted.Goals as goal

pub given-requires-clause-waits : goal.given-requires-clause-waits
given-requires-clause-waits c = let l = c.args.self.now in rounds_wait l.procs l.entries.items l.rounds c.args.proc c.requires.kept.rounds c.requires.waits

pub given-requires-clause-complete : goal.given-requires-clause-complete
given-requires-clause-complete c = let l = c.args.self.now in arrived_reached l.procs l.entries.items l.rounds c.args.proc c.requires.kept.rounds c.requires.waits c.requires.arrived

pub returns-then-is_positive_count : goal.returns-then-is_positive_count
returns-then-is_positive_count c =
    let l = c.args.self.now in
    let k = c.requires.kept.rounds in
    sym (ap (λ n. was_counted n (history_in l)) (sym (round_is l.procs (history_in l) l.rounds c.args.proc k))
    ∙ given_counted l.procs (history_in l) k.courses k.are c.loop-who.who (round_at l.rounds c.args.proc)
    (ap is_positive_count (sym (c.given.ensures k.courses k.keeps)) ∙ sym c.is_positive_count.ensures ∙ c.if-is_positive_count.true))

pub returns : goal.returns
returns c =
    let l = c.args.self.now in
    let k = c.requires.kept.rounds in
    sym (ap (λ n. was_counted n (history_in l)) (sym (round_is l.procs (history_in l) l.rounds c.args.proc k))
    ∙ none_counted l.procs (history_in l) k.courses k.are (round_at l.rounds c.args.proc) c.requires.kept.ours (λ who inside. c.loop-who.invariant who (omega arith) k.courses k.keeps))
