use Rattle.std.proofs.Common.{◌∷◌, length, refl, sym, subst, arith}
use Rattle.ti_base.specs.declared.action.Action.TheVariants as act
use Rattle.ti_base.specs.declared.entry.Answer.TheVariants.{Done}
use Rattle.ti_region.specs.Counting.{CanGain, counted_for, one_less}
use Rattle.ti_heap.specs.Things.{contents}
use Rattle.ti_store.specs.Mirrors.Refs.{NamesPlaced}
use Rattle.ti_store.specs.declared.run_state.ActOutcome.TheVariants.{Answered}
use Rattle.ti_store.specs.Mirrors.Parts.{program_in, history_in, entry_after, KeepsParts}
use Rattle.ti_store.proofs.Referring.{can_gain}
use Rattle.ti_store.proofs.Doing.{names_there, put_elem_there, elem_can_lose, put_elem_done, put_elem_never, put_elem_fault}
use Rattle.ti_store.proofs.Replies.{room_for, fault_does}
use Rattle.ti_store.proofs.run_state.RunState.put_elem.Goals as goal

pub get_elem-requires : goal.get_elem-requires
get_elem-requires c =
    let l = c.args.self.now in
    put_elem_there (program_in l) l.procs (history_in l) (contents l.heap) c.args.proc c.args.grid c.args.point c.args.value c.requires.kept.heap c.requires.may.regions.living.used c.requires.may.possible

pub note_put-requires-clause-before : goal.note_put-requires-clause-before
note_put-requires-clause-before c =
    let l = c.args.self.now in
    elem_can_lose (program_in l) l.procs (history_in l) (contents l.heap) l.regions c.args.proc c.args.grid c.args.point c.in-Ok.before
    c.args.value c.requires.kept.heap c.requires.kept.refs c.requires.may.regions.living.used
    c.requires.may.possible c.in-Ok.ensures.value

pub note_put-requires-clause-after : goal.note_put-requires-clause-after
note_put-requires-clause-after c =
    let l = c.args.self.now in
    can_gain l.regions c.args.grid.region (length (history_in l)) c.in-Ok.before c.args.value
    (names_there (history_in l) l.regions c.args.value c.requires.kept.regions_are c.requires.may.regions.numbered c.requires.may.regions.written) c.requires.kept.regions_are.few
    (room_for l.entries.items (omega (arith, c.len-bound.ensures.len, c.len-bound.ensures.bound)))
    (elem_can_lose (program_in l) l.procs (history_in l) (contents l.heap) l.regions c.args.proc c.args.grid c.args.point c.in-Ok.before
    c.args.value c.requires.kept.heap c.requires.kept.refs c.requires.may.regions.living.used
    c.requires.may.possible c.in-Ok.ensures.value)

pub put_elem-requires : goal.put_elem-requires
put_elem-requires c =
    let l = c.args.self.now in
    put_elem_there (program_in l) l.procs (history_in l) (contents l.heap) c.args.proc c.args.grid c.args.point c.args.value c.requires.kept.heap c.requires.may.regions.living.used c.requires.may.possible

pub returns-in-Err : goal.returns-in-Err
returns-in-Err c =
    let l = c.args.self.now in
    fault_does l l.heap c.args.proc c.args.place (act.PutElem c.args.grid c.args.point c.args.value) c.in-Err.kind c.requires refl
    (put_elem_fault (program_in l) l.procs (history_in l) (contents l.heap) c.args.proc c.args.grid c.args.point c.args.value c.in-Err.kind
    c.requires.kept.heap c.requires.may.regions.living.used c.requires.may.possible
    c.in-Err.ensures.value)

pub returns : goal.returns
returns c =
    let l = c.args.self.now in
    let h = history_in l in
    let alive = c.requires.may.regions.living.used in
    let placed : NamesPlaced l.regions c.args.value = names_there h l.regions c.args.value c.requires.kept.regions_are c.requires.may.regions.numbered c.requires.may.regions.written in
    let may : CanGain (one_less l.regions (counted_for c.args.grid.region c.in-Ok.before)) (counted_for c.args.grid.region c.args.value) =
    can_gain l.regions c.args.grid.region (length h) c.in-Ok.before c.args.value
    placed c.requires.kept.regions_are.few
    (room_for l.entries.items (omega (arith, c.len-bound.ensures.len, c.len-bound.ensures.bound)))
    (elem_can_lose (program_in l) l.procs h (contents l.heap) l.regions c.args.proc c.args.grid c.args.point c.in-Ok.before c.args.value
    c.requires.kept.heap c.requires.kept.refs alive c.requires.may.possible c.in-Ok.ensures.value) in
    let done = put_elem_done (program_in l) l.procs h (contents l.heap)
    (contents c.put_elem.new.self) l.rounds l.region_rounds l.regions c.args.proc c.args.place c.args.grid c.args.point c.in-Ok.before c.args.value
    c.requires.process c.requires.may.formed alive placed c.in-Ok.ensures.value may c.requires.kept c.requires.may.possible c.in-Ok-put_elem.ensures.value in
    record {
      answer = done.0;
      kept = subst (λ rs. KeepsParts (program_in l) l.procs (entry_after c.args.proc c.args.place
          (act.PutElem c.args.grid c.args.point c.args.value) (Answered Done) ∷ h) (contents c.put_elem.new.self) l.rounds l.region_rounds rs)
          (sym c.note_put.ensures) done.1;
      same = refl;
    }

pub unreachable-requires : goal.unreachable-requires
unreachable-requires c =
    let l = c.args.self.now in
    put_elem_never (program_in l) l.procs (history_in l) (contents l.heap)
    (contents c.put_elem.new.self) c.args.proc c.args.grid c.args.point c.in-Ok.before c.args.value c.in-Err-put_elem.field-0
    c.requires.kept.heap
    c.requires.may.regions.living.used c.requires.may.possible c.in-Ok.ensures.value c.in-Err-put_elem.ensures.value
