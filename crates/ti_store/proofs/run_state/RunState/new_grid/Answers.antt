use Rattle.std.proofs.Common.{length, Err, refl, sym, subst, ◌∙◌}
use Rattle.ti_base.specs.declared.fault.FaultKind.TheVariants.{RegionGone}
use Rattle.ti_base.specs.declared.action.Action.TheVariants as act
use Rattle.ti_base.specs.Rects.{points_of}
use Rattle.ti_heap.specs.declared.error.HeapErr.{HeapErr}
use Rattle.ti_heap.specs.Contents.{FaultsAs, new_fault}
use Rattle.ti_heap.specs.Things.{contents}
use Rattle.ti_store.specs.Mirrors.Parts.{program_in, history_in}
use Rattle.ti_store.proofs.Doing.{place_in, maker_is, numbers_left, grid_place, grid_gone, grid_done, grid_full}
use Rattle.ti_store.proofs.Replies.{fault_does}
use Rattle.ti_store.proofs.run_state.RunState.new_grid.Goals as goal

pub new_grid-requires-clause-proc : goal.new_grid-requires-clause-proc
new_grid-requires-clause-proc c =
    let l = c.args.self.now in maker_is (program_in l) l.procs (history_in l) (contents l.heap) c.args.proc c.requires.kept.heap c.requires.process

pub new_grid-requires-clause-serial : goal.new_grid-requires-clause-serial
new_grid-requires-clause-serial c = let l = c.args.self.now in numbers_left (program_in l) l.procs (history_in l) (contents l.heap) c.args.proc c.requires.kept.heap c.requires.may.things

pub returns-in-Ok-clause-ok : goal.returns-in-Ok-clause-ok
returns-in-Ok-clause-ok c =
    let l = c.args.self.now in
    let e = c.in-Ok.ensures in
    let done = grid_done (program_in l) l.procs (history_in l) (contents l.heap)
    (contents c.new_grid.new.self) l.rounds l.region_rounds l.regions c.args.proc c.args.place c.args.zero c.args.dom c.args.region c.in-Ok.id
    c.requires.process c.requires.kept (sym c.is_gone.ensures ∙ c.if-is_gone.false) c.requires.may.formed c.requires.may.possible e.fault e.id e.made in
    record { answer = done.0; kept = done.1; same = refl }

pub returns-in-Err-Faulted-clause-ok : goal.returns-in-Err-Faulted-clause-ok
returns-in-Err-Faulted-clause-ok c =
    let l = c.args.self.now in
    let e = c.in-Err-Faulted.ensures in
    let told = subst (λ (x : HeapErr). FaultsAs (new_fault c.args.proc (length (points_of c.args.dom)) (contents l.heap)) (Err x)) c.in-Err-Faulted.field-0-is e.fault in
    fault_does l c.new_grid.new.self c.args.proc c.args.place (act.NewGrid c.args.zero c.args.dom c.args.region) c.in-Err-Faulted.kind c.requires e.err
    (grid_full (program_in l) l.procs (history_in l) (contents l.heap) c.args.proc c.args.zero c.args.dom c.args.region c.in-Err-Faulted.kind c.requires.kept.heap
    (sym c.is_gone.ensures ∙ c.if-is_gone.false) c.requires.may.possible told)

pub is_gone-requires-clause-place : goal.is_gone-requires-clause-place
is_gone-requires-clause-place c =
    let l = c.args.self.now in
    place_in (history_in l) l.regions c.args.region c.requires.kept.regions_are
    (c.requires.may.regions.numbered c.args.region (grid_place (program_in l)
    (history_in l) c.args.proc c.args.zero c.args.dom c.args.region c.requires.may.possible))

pub returns-then-is_gone-clause-ok : goal.returns-then-is_gone-clause-ok
returns-then-is_gone-clause-ok c =
    let l = c.args.self.now in
    fault_does l l.heap c.args.proc c.args.place (act.NewGrid c.args.zero c.args.dom c.args.region) RegionGone c.requires refl
    (grid_gone (program_in l) (history_in l) c.args.proc c.args.zero c.args.dom c.args.region c.requires.may.possible (sym c.is_gone.ensures ∙ c.if-is_gone.true))
