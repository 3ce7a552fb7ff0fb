use Rattle.std.proofs.Common.{ℕ, Option, ◌^◌, ◌-◌, ◌<◌, ◌∷◌, arith, refl, sym, subst}
use Rattle.ti_base.specs.declared.place.Place.{Place}
use Rattle.ti_base.specs.declared.action.CollKind.{CollKind}
use Rattle.ti_base.specs.declared.action.Action.TheVariants as act
use Rattle.ti_base.specs.declared.entry.Answer.TheVariants.{Done}
use Rattle.ti_base.specs.declared.entry.Entry.{Entry}
use Rattle.ti_rounds.specs.Courses.{with_arrival}
use Rattle.ti_heap.specs.Things.{contents}
use Rattle.ti_store.specs.Mirrors.Parts.{program_in, history_in}
use Rattle.ti_store.specs.Mirrors.Rounds.{KeepsRegionRounds}
use Rattle.ti_store.proofs.Courses.{arrival_courses}
use Rattle.ti_store.proofs.RegionRounds.{arrival_makings}
use Rattle.ti_store.proofs.HeapSteps.{quiet_keeps}
use Rattle.ti_store.proofs.Meeting.{rounds_inside, rounds_go, all_say, countable}
use Rattle.ti_store.proofs.Deleting.{arrival_regions}
use Rattle.ti_store.proofs.run_state.RunState.reach.Goals as goal

pub arrive-requires-clause-process : goal.arrive-requires-clause-process
arrive-requires-clause-process c = let l = c.args.self.now in rounds_inside l.procs (history_in l) l.rounds c.args.proc c.requires.ready.kept.rounds c.requires.ready.process

pub arrive-requires-clause-goes : goal.arrive-requires-clause-goes
arrive-requires-clause-goes c = let l = c.args.self.now in rounds_go l.procs l.entries.items l.rounds c.args.proc c.requires.ready.kept.rounds c.requires.ready.may.balance

pub arrive-requires-clause-agrees : goal.arrive-requires-clause-agrees
arrive-requires-clause-agrees c =
    let l = c.args.self.now in
    let k = c.requires.ready.kept.rounds in
    let said : CollKind × Place × Option ℕ = (c.args.kind, c.args.place, c.args.arg) in
    (k.courses, k.keeps, all_say l.procs l.entries.items l.rounds c.args.proc said k (c.requires.ready.may.agrees said refl c.requires.answered))

pub arrive-requires-clause-countable : goal.arrive-requires-clause-countable
arrive-requires-clause-countable c =
    let l = c.args.self.now in
    countable l.procs l.entries.items l.rounds c.args.proc (2 ^ 64 - 1) c.requires.ready.kept.rounds
    (omega (arith, c.len-bound.ensures.len, c.len-bound.ensures.bound))

pub count-requires-clause-process : goal.count-requires-clause-process
count-requires-clause-process c = let l = c.args.self.now in subst (λ n. c.args.proc < n) (sym c.requires.ready.kept.region_rounds_are.count) c.requires.ready.process

pub count-requires-clause-few : goal.count-requires-clause-few
count-requires-clause-few c = let l = c.args.self.now in subst (λ n. n < 2 ^ 32 - 1) (sym (c.requires.ready.kept.region_rounds_are.each c.args.proc)) c.requires.ready.may.few

pub returns : goal.returns
returns c =
    let l = c.args.self.now in
    let k = c.requires.ready.kept in
    let e : Entry = record { proc = c.args.proc; place = c.args.place; act = act.Arrive c.args.kind c.args.arg c.args.given; answer = Done } in
    record {
      answer = c.requires.answered;
      kept = record {
        ours = (c.requires.ready.process, c.requires.ready.may.formed, k.ours);
        rounds = record {
          courses = with_arrival k.rounds.courses c.args.proc (record { kind = c.args.kind; place = c.args.place; arg = c.args.arg; deposit = c.args.given });
          keeps = c.arrive.ensures k.rounds.courses k.rounds.keeps;
          are = arrival_courses l.procs (history_in l) k.rounds.courses c.args.proc c.args.place c.args.kind c.args.arg c.args.given Done c.requires.ready.process k.rounds.are;
        };
        region_rounds_are = subst (KeepsRegionRounds l.procs (e ∷ history_in l)) (sym c.count.ensures)
            (arrival_makings l.procs (history_in l) l.region_rounds c.args.proc c.args.place c.args.kind c.args.arg c.args.given Done c.requires.ready.process k.region_rounds_are);
        heap = quiet_keeps (program_in l) l.procs e (history_in l) (contents l.heap) refl refl (λ r. refl) k.heap;
        regions_are = arrival_regions e (history_in l) l.regions c.requires.there (λ r. refl) k.regions_are;
        refs = k.refs;
      };
      same = refl;
    }
