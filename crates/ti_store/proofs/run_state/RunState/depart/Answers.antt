use Rattle.std.proofs.Common.{◌<◌, ap, ◌∙◌, sym, subst, refl}
use Rattle.ti_base.specs.declared.value.Value.TheVariants.{Region}
use Rattle.ti_base.specs.declared.action.Action.TheVariants as act
use Rattle.ti_base.specs.declared.entry.Answer.TheVariants.{Val}
use Rattle.ti_base.specs.declared.entry.Entry.{Entry}
use Rattle.ti_rounds.specs.Seats.{round_at}
use Rattle.ti_rounds.specs.Courses.{with_departure}
use Rattle.ti_heap.specs.Things.{contents}
use Rattle.ti_lang.specs.Meaning.RoundsOf.{Arrival}
use Rattle.ti_lang.specs.Meaning.HeapAnswers.{Answers}
use Rattle.ti_store.specs.Mirrors.RunState.{answer_given}
use Rattle.ti_store.specs.Mirrors.Parts.{program_in, history_in}
use Rattle.ti_store.proofs.OneMore.{some_same}
use Rattle.ti_store.proofs.RegionRounds.{quiet_region_rounds}
use Rattle.ti_store.proofs.Courses.{round_is, departure_courses}
use Rattle.ti_store.proofs.HeapSteps.{quiet_keeps}
use Rattle.ti_store.proofs.Meeting.{rounds_inside, rounds_wait, arrived_reached, is_plain_kind, plain_kind, depart_answer, last_said, region_answer}
use Rattle.ti_store.proofs.Doing.{still_regions}
use Rattle.ti_store.proofs.Deleting.{same_gone, making_gone}
use Rattle.ti_store.proofs.run_state.RunState.depart.Goals as goal

pub round_of-kind-requires-clause-waits : goal.round_of-kind-requires-clause-waits
round_of-kind-requires-clause-waits c = let l = c.args.self.now in rounds_wait l.procs l.entries.items l.rounds c.args.proc c.requires.kept.rounds c.requires.may.balance

pub depart-requires-clause-waits : goal.depart-requires-clause-waits
depart-requires-clause-waits c = let l = c.args.self.now in rounds_wait l.procs l.entries.items l.rounds c.args.proc c.requires.kept.rounds c.requires.may.balance

pub depart-requires-clause-complete : goal.depart-requires-clause-complete
depart-requires-clause-complete c =
    let l = c.args.self.now in arrived_reached l.procs l.entries.items l.rounds c.args.proc c.requires.kept.rounds c.requires.may.balance (c.requires.may.arrived refl)

pub depart-given-requires-clause-waits : goal.depart-given-requires-clause-waits
depart-given-requires-clause-waits c = let l = c.args.self.now in rounds_wait l.procs l.entries.items l.rounds c.args.proc c.requires.kept.rounds c.requires.may.balance

pub depart-given-requires-clause-complete : goal.depart-given-requires-clause-complete
depart-given-requires-clause-complete c =
    let l = c.args.self.now in arrived_reached l.procs l.entries.items l.rounds c.args.proc c.requires.kept.rounds c.requires.may.balance (c.requires.may.arrived refl)

pub depart-given-requires-clause-process : goal.depart-given-requires-clause-process
depart-given-requires-clause-process c = let l = c.args.self.now in rounds_inside l.procs (history_in l) l.rounds c.args.proc c.requires.kept.rounds c.requires.process

pub leave_delete-requires-clause-last : goal.leave_delete-requires-clause-last
leave_delete-requires-clause-last c =
    let l = c.args.self.now in
    let k = c.requires.kept in
    let round = round_is l.procs (history_in l) l.rounds c.args.proc k.rounds in
    let said = last_said l.procs (history_in l) k.rounds.courses c.args.proc
    (round_at l.rounds c.args.proc) c.round_of-kind.result k.rounds.are round
    (c.round_of-kind.ensures.own k.rounds.courses k.rounds.keeps) in
    (said.0, said.1, said.2 ∙ c.in-DeleteRegion.is, said.3)

pub of-region-requires : goal.of-region-requires
of-region-requires c = let l = c.args.self.now in subst (λ n. c.args.proc < n) (sym c.requires.kept.region_rounds_are.count) c.requires.process

pub returns-in-MakeRegion : goal.returns-in-MakeRegion
returns-in-MakeRegion c =
    let l = c.args.self.now in
    let k = c.requires.kept in
    let round = round_is l.procs (history_in l) l.rounds c.args.proc k.rounds in
    let said = last_said l.procs (history_in l) k.rounds.courses c.args.proc
    (round_at l.rounds c.args.proc) c.round_of-kind.result k.rounds.are round
    (c.round_of-kind.ensures.own k.rounds.courses k.rounds.keeps) in
    let e : Entry = record { proc = c.args.proc; place = c.args.place; act = act.Depart; answer = Val (Region c.of-region.result) } in
    record {
      answer = region_answer (program_in l) (history_in l) c.args.proc said.0 said.1 (said.2 ∙ c.in-MakeRegion.is)
          ∙ ap (λ n. Answers (Val (Region n))) (sym (c.of-region.ensures ∙ k.region_rounds_are.each c.args.proc));
      kept = record {
        ours = (c.requires.process, tt, k.ours);
        rounds = record {
          courses = with_departure k.rounds.courses c.args.proc;
          keeps = c.depart.ensures.left k.rounds.courses k.rounds.keeps;
          are = departure_courses l.procs (history_in l) k.rounds.courses c.args.proc c.args.place (Val (Region c.of-region.result)) c.requires.process k.rounds.are;
        };
        region_rounds_are = quiet_region_rounds l.procs e (history_in l) l.region_rounds refl k.region_rounds_are;
        heap = quiet_keeps (program_in l) l.procs e (history_in l) (contents l.heap) refl refl (λ r. making_gone e (history_in l) said.0 r said.1 (said.2 ∙ c.in-MakeRegion.is)) k.heap;
        regions_are = still_regions e (history_in l) l.regions refl (λ r. making_gone e (history_in l) said.0 r said.1 (said.2 ∙ c.in-MakeRegion.is)) k.regions_are;
        refs = k.refs;
      };
      same = refl;
    }

pub returns-in_default : goal.returns-in_default
returns-in_default c =
    let l = c.args.self.now in
    let k = c.requires.kept in
    let round = round_is l.procs (history_in l) l.rounds c.args.proc k.rounds in
    let said = last_said l.procs (history_in l) k.rounds.courses c.args.proc
    (round_at l.rounds c.args.proc) c.round_of-kind.result k.rounds.are round
    (c.round_of-kind.ensures.own k.rounds.courses k.rounds.keeps) in
    let e : Entry = record { proc = c.args.proc; place = c.args.place; act = act.Depart; answer = c.answer_given.result } in
    let plain = plain_kind said.0.kind (λ make. c.in_default.not-MakeRegion (sym said.2 ∙ make)) (λ delete. c.in_default.not-DeleteRegion (sym said.2 ∙ delete)) in
    record {
      answer = depart_answer (program_in l) l.procs (history_in l) k.rounds.courses c.args.proc k.rounds.are
          (λ b is. ap (λ (a : Arrival). is_plain_kind a.kind) (some_same b said.0 (sym is ∙ said.1)) ∙ plain) c.requires.may.possible
          ∙ ap (λ d. Answers (answer_given d)) (sym (c.depart-given.ensures.value k.rounds.courses k.rounds.keeps))
          ∙ ap Answers (sym c.answer_given.ensures);
      kept = record {
        ours = (c.requires.process, tt, k.ours);
        rounds = record {
          courses = with_departure k.rounds.courses c.args.proc;
          keeps = c.depart-given.ensures.left k.rounds.courses k.rounds.keeps;
          are = departure_courses l.procs (history_in l) k.rounds.courses c.args.proc c.args.place c.answer_given.result c.requires.process k.rounds.are;
        };
        region_rounds_are = quiet_region_rounds l.procs e (history_in l) l.region_rounds refl k.region_rounds_are;
        heap = quiet_keeps (program_in l) l.procs e (history_in l) (contents l.heap) refl refl (λ r. same_gone e (history_in l) said.0 r said.1 plain) k.heap;
        regions_are = still_regions e (history_in l) l.regions refl (λ r. same_gone e (history_in l) said.0 r said.1 plain) k.regions_are;
        refs = k.refs;
      };
      same = refl;
    }
