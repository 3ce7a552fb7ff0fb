use Rattle.std.proofs.Common.{Err, refl, subst}
use Rattle.std.specs.Option.{IsSomeAnd}
use Rattle.ti_base.specs.declared.action.Action.TheVariants as act
use Rattle.ti_heap.specs.declared.error.HeapErr.{HeapErr}
use Rattle.ti_heap.specs.Contents.{FaultsAs, seen_fault}
use Rattle.ti_heap.specs.Things.{contents}
use Rattle.ti_store.specs.Mirrors.Parts.{program_in, history_in}
use Rattle.ti_store.proofs.Doing.{maker_is, numbers_left, view_formed, viewed_there, view_done, view_full}
use Rattle.ti_store.proofs.Replies.{fault_does}
use Rattle.ti_store.proofs.run_state.RunState.make_view.Goals as goal

pub make_view-requires-clause-proc : goal.make_view-requires-clause-proc
make_view-requires-clause-proc c =
    let l = c.args.self.now in maker_is (program_in l) l.procs (history_in l) (contents l.heap) c.args.proc c.requires.kept.heap c.requires.process

pub make_view-requires-clause-serial : goal.make_view-requires-clause-serial
make_view-requires-clause-serial c = let l = c.args.self.now in numbers_left (program_in l) l.procs (history_in l) (contents l.heap) c.args.proc c.requires.kept.heap c.requires.may.things

pub make_view-requires-clause-how : goal.make_view-requires-clause-how
make_view-requires-clause-how c = view_formed c.args.how c.requires.may.formed

pub make_view-requires-clause-grid : goal.make_view-requires-clause-grid
make_view-requires-clause-grid c =
    let l = c.args.self.now in
    viewed_there (program_in l) l.procs (history_in l) (contents l.heap) c.args.proc c.args.grid c.args.how c.requires.kept.heap c.requires.may.regions.living.used c.requires.may.possible

pub returns-in-Ok-clause-ok : goal.returns-in-Ok-clause-ok
returns-in-Ok-clause-ok c =
    let l = c.args.self.now in
    let e = c.in-Ok.ensures in
    let done = view_done (program_in l) l.procs (history_in l) (contents l.heap) (contents c.make_view.new.self) l.rounds l.region_rounds l.regions c.args.proc c.args.place c.args.grid c.args.how c.in-Ok.id
    c.requires.process c.requires.kept c.requires.may.regions.living.used c.requires.may.formed c.requires.may.possible e.fault e.id e.made in
    record { answer = done.0; kept = done.1; same = refl }

pub returns-in-Err-Faulted-clause-ok : goal.returns-in-Err-Faulted-clause-ok
returns-in-Err-Faulted-clause-ok c =
    let l = c.args.self.now in
    let e = c.in-Err-Faulted.ensures in
    let told = subst (λ (x : HeapErr). IsSomeAnd ((contents l.heap).grid c.args.grid)
    (λ m. FaultsAs (seen_fault c.args.proc c.args.how m (contents l.heap)) (Err x))) c.in-Err-Faulted.field-0-is e.fault in
    fault_does l c.make_view.new.self c.args.proc c.args.place (act.MakeView c.args.grid c.args.how) c.in-Err-Faulted.kind c.requires e.err
    (view_full (program_in l) l.procs (history_in l) (contents l.heap) c.args.proc c.args.grid c.args.how c.in-Err-Faulted.kind
    c.requires.kept.heap c.requires.may.regions.living.used c.requires.may.possible told)
