use Rattle.std.proofs.Common.{ap, ◌∙◌, sym, refl}
use Rattle.ti_base.specs.declared.action.Action.TheVariants as act
use Rattle.ti_rounds.specs.Seats.{left_by}
use Rattle.ti_lang.specs.Meaning.HeapAnswers.{Answers}
use Rattle.ti_store.specs.Mirrors.RunState.{answer_given}
use Rattle.ti_store.specs.Mirrors.Parts.{program_in, history_in}
use Rattle.ti_store.proofs.Meeting.{rounds_inside, rounds_go, gave_ours, take_answer, left_positive, left_round}
use Rattle.ti_store.proofs.Replies.{read_does}
use Rattle.ti_store.proofs.run_state.RunState.take.Goals as goal

pub take-requires-clause-process : goal.take-requires-clause-process
take-requires-clause-process c = let l = c.args.self.now in rounds_inside l.procs (history_in l) l.rounds c.args.proc c.requires.kept.rounds c.requires.process

pub take-requires-clause-giver : goal.take-requires-clause-giver
take-requires-clause-giver c =
    let l = c.args.self.now in
    rounds_inside l.procs (history_in l) l.rounds c.args.who c.requires.kept.rounds (gave_ours (program_in l) l.procs (history_in l) c.args.proc c.args.who c.requires.kept.ours c.requires.may.possible).0

pub take-requires-clause-goes : goal.take-requires-clause-goes
take-requires-clause-goes c = let l = c.args.self.now in rounds_go l.procs l.entries.items l.rounds c.args.proc c.requires.kept.rounds c.requires.may.balance

pub take-requires-clause-left : goal.take-requires-clause-left
take-requires-clause-left c =
    let l = c.args.self.now in
    left_positive l.procs l.entries.items l.rounds c.args.proc c.requires.kept.rounds c.requires.may.balance
    (gave_ours (program_in l) l.procs (history_in l) c.args.proc c.args.who c.requires.kept.ours c.requires.may.possible).1

pub returns : goal.returns
returns c =
    let l = c.args.self.now in
    let k = c.requires.kept in
    read_does l c.args.proc c.args.place (act.Take c.args.who) c.answer_given.result c.requires refl refl refl refl
    (take_answer (program_in l) l.procs (history_in l) k.rounds.courses c.args.proc c.args.who (left_by l.rounds c.args.proc) k.rounds.are
    (left_round l.procs l.entries.items l.rounds c.args.proc k.rounds c.requires.may.balance) c.requires.may.possible
    ∙ ap (λ d. Answers (answer_given d)) (sym (c.take.ensures k.rounds.courses k.rounds.keeps))
    ∙ ap Answers (sym c.answer_given.ensures))
