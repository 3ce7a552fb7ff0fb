use Rattle.std.proofs.Common.{◌∷◌, true, false, not, refl, sym, ap, subst, ◌∙◌}
use Rattle.std.proofs.lemmas.Bool.{true≢false}
use Rattle.ti_base.specs.declared.fault.FaultKind.TheVariants.{RegionInUse}
use Rattle.ti_base.specs.declared.action.Action.TheVariants as act
use Rattle.ti_base.specs.declared.entry.Answer.TheVariants.{Done}
use Rattle.ti_base.specs.declared.entry.Entry.{Entry}
use Rattle.ti_rounds.specs.Seats.{Waits, round_at, IsReached}
use Rattle.ti_rounds.specs.Courses.{Keeps, with_departure}
use Rattle.ti_region.specs.Counting.{IsMadeRegion}
use Rattle.ti_heap.specs.Contents.{without_region}
use Rattle.ti_heap.specs.Things.{all_values_in, contents}
use Rattle.ti_heap.proofs.Lemmas.{cells_listed}
use Rattle.ti_store.specs.declared.run_state.RunState.{RunState}
use Rattle.ti_store.specs.declared.run_state.ActOutcome.TheVariants.{Answered}
use Rattle.ti_store.specs.Mirrors.Parts.{program_in, history_in, KeepsParts, HasEffect}
use Rattle.ti_store.proofs.RegionRounds.{still, quiet_region_rounds}
use Rattle.ti_store.proofs.Courses.{departure_courses}
use Rattle.ti_store.proofs.HeapSteps.{quiet_keeps, drop_keeps}
use Rattle.ti_store.proofs.Meeting.{rounds_wait, arrived_reached}
use Rattle.ti_store.proofs.Forgetting.{refs_left}
use Rattle.ti_store.proofs.Doing.{still_regions}
use Rattle.ti_store.proofs.Deleting.{made_there, is_delete, goes, went, left_later, left_first, nowhere_left, drop_regions}
use Rattle.ti_store.proofs.Replies.{fault_does}
use Rattle.ti_store.proofs.run_state.RunState.leave_delete.Goals as goal

pub is_first-requires-clause-waits : goal.is_first-requires-clause-waits
is_first-requires-clause-waits c = c.requires.ready.may.balance

pub depart-requires-clause-waits : goal.depart-requires-clause-waits
depart-requires-clause-waits c = let l = c.args.self.now in rounds_wait l.procs l.entries.items l.rounds c.args.proc c.requires.ready.kept.rounds c.requires.ready.may.balance

pub depart-requires-clause-complete : goal.depart-requires-clause-complete
depart-requires-clause-complete c =
    let l = c.args.self.now in arrived_reached l.procs l.entries.items l.rounds c.args.proc c.requires.ready.kept.rounds c.requires.ready.may.balance (c.requires.ready.may.arrived refl)

pub returns-then-not-is_first : goal.returns-then-not-is_first
returns-then-not-is_first c =
    let l = c.args.self.now in
    let h = history_in l in
    let k = c.requires.ready.kept in
    let a = c.requires.last in
    let arg = a.3 ∙ c.in-Some.is in
    let r = c.in-Some.region in
    let e : Entry = record { proc = c.args.proc; place = c.args.place; act = act.Depart; answer = Done } in
    let leaving = c.requires.ready.may.regions.leaving refl r (is_delete (program_in l) h c.args.proc c.args.place r a.0 a.1 a.2 arg) in
    let left = leaving.later (λ f. true≢false (sym (c.is_first.ensures.1 f) ∙ c.if-not-is_first.true)) in
    record {
      answer = left_later (program_in l) h c.args.proc c.args.place r a.0 a.1 a.2 arg left.1;
      kept = record {
        ours = (c.requires.ready.process, tt, k.ours);
        rounds = record {
          courses = with_departure k.rounds.courses c.args.proc;
          keeps = c.depart.ensures.left k.rounds.courses k.rounds.keeps;
          are = departure_courses l.procs h k.rounds.courses c.args.proc c.args.place Done c.requires.ready.process k.rounds.are;
        };
        region_rounds_are = quiet_region_rounds l.procs e h l.region_rounds refl k.region_rounds_are;
        heap = quiet_keeps (program_in l) l.procs e h (contents l.heap) refl refl (λ q. went (program_in l) h c.args.proc c.args.place r a.0 a.1 a.2 arg Done q left.0) k.heap;
        regions_are = still_regions e h l.regions refl (λ q. went (program_in l) h c.args.proc c.args.place r a.0 a.1 a.2 arg Done q left.0) k.regions_are;
        refs = k.refs;
      };
      same = refl;
    }

pub returns-then-region-eq0 : goal.returns-then-region-eq0
returns-then-region-eq0 c =
    let l = c.args.self.now in
    let h = history_in l in
    let a = c.requires.last in
    let arg = a.3 ∙ c.in-Some.is in
    let r = c.in-Some.region in
    let leaving = c.requires.ready.may.regions.leaving refl r (is_delete (program_in l) h c.args.proc c.args.place r a.0 a.1 a.2 arg) in
    let left = leaving.first (c.is_first.ensures.0 c.if-not-is_first.false) in
    fault_does l l.heap c.args.proc c.args.place act.Depart RegionInUse c.requires.ready refl
    (nowhere_left (program_in l) h c.args.proc c.args.place r a.0 a.1 a.2 arg left.1 c.if-region-eq0.true c.requires.ready.may.regions.nowhere_behind)

pub is_in_use-requires-clause-made : goal.is_in_use-requires-clause-made
is_in_use-requires-clause-made c =
    let l = c.args.self.now in
    let h = history_in l in
    let a = c.requires.last in
    let r = c.in-Some.region in
    let leaving = c.requires.ready.may.regions.leaving refl r (is_delete (program_in l) h c.args.proc c.args.place r a.0 a.1 a.2 (a.3 ∙ c.in-Some.is)) in
    made_there h l.regions r c.requires.ready.kept.regions_are c.requires.ready.may.regions.numbered leaving.made c.if-region-eq0.false

pub returns-then-is_in_use : goal.returns-then-is_in_use
returns-then-is_in_use c =
    let l = c.args.self.now in
    let h = history_in l in
    let a = c.requires.last in
    let arg = a.3 ∙ c.in-Some.is in
    let r = c.in-Some.region in
    let leaving = c.requires.ready.may.regions.leaving refl r (is_delete (program_in l) h c.args.proc c.args.place r a.0 a.1 a.2 arg) in
    let left = leaving.first (c.is_first.ensures.0 c.if-not-is_first.false) in
    fault_does l l.heap c.args.proc c.args.place act.Depart RegionInUse c.requires.ready refl
    (left_first (program_in l) h c.args.proc c.args.place r a.0 a.1 a.2 arg left.1 true (sym c.is_in_use.ensures.value ∙ c.if-is_in_use.true))

pub drop_region-requires-clause-live : goal.drop_region-requires-clause-live
drop_region-requires-clause-live c =
    let l = c.args.self.now in
    let h = history_in l in
    let k = c.requires.ready.kept in
    let a = c.requires.last in
    let r = c.in-Some.region in
    let leaving = c.requires.ready.may.regions.leaving refl r (is_delete (program_in l) h c.args.proc c.args.place r a.0 a.1 a.2 (a.3 ∙ c.in-Some.is)) in
    let left = leaving.first (c.is_first.ensures.0 c.if-not-is_first.false) in
    let made = made_there h l.regions r k.regions_are c.requires.ready.may.regions.numbered leaving.made c.if-region-eq0.false in
    k.regions_are.live r made ∙ ap not left.0

pub depart-requires-2-clause-waits : goal.depart-requires-2-clause-waits
depart-requires-2-clause-waits c =
    let l = c.args.self.now in
    subst (λ (m : RunState). Waits m.rounds c.args.proc) (sym c.drop_region.ensures.same) (rounds_wait l.procs l.entries.items l.rounds c.args.proc c.requires.ready.kept.rounds c.requires.ready.may.balance)

pub depart-requires-2-clause-complete : goal.depart-requires-2-clause-complete
depart-requires-2-clause-complete c =
    let l = c.args.self.now in
    subst (λ (m : RunState). IsReached m.rounds (round_at m.rounds c.args.proc)) (sym c.drop_region.ensures.same)
    (arrived_reached l.procs l.entries.items l.rounds c.args.proc c.requires.ready.kept.rounds c.requires.ready.may.balance (c.requires.ready.may.arrived refl))

pub returns : goal.returns
returns c =
    let l = c.args.self.now in
    let h = history_in l in
    let k = c.requires.ready.kept in
    let a = c.requires.last in
    let arg = a.3 ∙ c.in-Some.is in
    let r = c.in-Some.region in
    let values = all_values_in r l.heap in
    let e : Entry = record { proc = c.args.proc; place = c.args.place; act = act.Depart; answer = Done } in
    let leaving = c.requires.ready.may.regions.leaving refl r (is_delete (program_in l) h c.args.proc c.args.place r a.0 a.1 a.2 arg) in
    let left = leaving.first (c.is_first.ensures.0 c.if-not-is_first.false) in
    let made : IsMadeRegion l.regions r = made_there h l.regions r k.regions_are c.requires.ready.may.regions.numbered leaving.made c.if-region-eq0.false in
    let lists = cells_listed l.heap r in
    let now = goes (program_in l) h c.args.proc c.args.place r a.0 a.1 a.2 arg Done in
    let seats = c.depart-2.new.self in
    let kept : Keeps c.drop_region.new.self.rounds k.rounds.courses = subst (λ (m : RunState). Keeps m.rounds k.rounds.courses) (sym c.drop_region.ensures.same) k.rounds.keeps in
    subst (λ (m : RunState). HasEffect l c.args.proc c.args.place act.Depart (Answered Done) (record m { rounds = seats })) (sym c.drop_region.ensures.same) (record {
      answer = left_first (program_in l) h c.args.proc c.args.place r a.0 a.1 a.2 arg left.1 false (sym c.is_in_use.ensures.value ∙ c.if-is_in_use.false);
      kept = subst (λ s. KeepsParts (program_in l) l.procs (e ∷ h) s seats l.region_rounds c.drop_region.new.self.regions) (sym c.drop_region.ensures.heap)
          (subst (λ rs. KeepsParts (program_in l) l.procs (e ∷ h) (without_region r (contents l.heap)) seats l.region_rounds rs) (sym c.drop_region.ensures.regions) (record {
            ours = (c.requires.ready.process, tt, k.ours);
            rounds = record {
              courses = with_departure k.rounds.courses c.args.proc;
              keeps = c.depart-2.ensures.left k.rounds.courses kept;
              are = departure_courses l.procs h k.rounds.courses c.args.proc c.args.place Done c.requires.ready.process k.rounds.are;
            };
            region_rounds_are = quiet_region_rounds l.procs e h l.region_rounds refl k.region_rounds_are;
            heap = drop_keeps (program_in l) l.procs e h (contents l.heap) r refl refl now k.heap;
            regions_are = drop_regions e h (contents l.heap) l.regions r values refl now k.refs lists made (λ i. still i e h refl) k.regions_are;
            refs = refs_left (contents l.heap) l.regions r values k.refs lists (without_region r (contents l.heap)).held (λ c. refl) made;
          }));
      same = refl;
    })
