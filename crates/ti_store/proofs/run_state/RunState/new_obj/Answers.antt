use Rattle.std.proofs.Common.{◌≡◌, length, slice_get, Some, Err, refl, sym, ap, subst, ◌∙◌}
use Rattle.std.specs.Option.{option_map}
use Rattle.ti_base.specs.declared.fault.FaultKind.TheVariants.{RegionGone}
use Rattle.ti_base.specs.declared.action.Action.TheVariants as act
use Rattle.ti_heap.specs.declared.error.HeapErr.{HeapErr}
use Rattle.ti_heap.specs.Contents.{FaultsAs, new_fault}
use Rattle.ti_heap.specs.Things.{contents}
use Rattle.ti_lang.specs.declared.program.classes.Class.{Class}
use Rattle.ti_lang.specs.Meaning.Zeros.{zeros_of_class}
use Rattle.ti_store.specs.Mirrors.Parts.{field_zeros, program_in, history_in}
use Rattle.ti_store.proofs.OneMore.{get_some}
use Rattle.ti_store.proofs.Doing.{place_in, maker_is, numbers_left, class_zeros, object_place, object_gone, object_done, object_full}
use Rattle.ti_store.proofs.Replies.{fault_does}
use Rattle.ti_store.proofs.run_state.RunState.new_obj.Goals as goal

pub new_obj-requires-clause-proc : goal.new_obj-requires-clause-proc
new_obj-requires-clause-proc c =
    let l = c.args.self.now in maker_is (program_in l) l.procs (history_in l) (contents l.heap) c.args.proc c.requires.kept.heap c.requires.process

pub new_obj-requires-clause-serial : goal.new_obj-requires-clause-serial
new_obj-requires-clause-serial c = let l = c.args.self.now in numbers_left (program_in l) l.procs (history_in l) (contents l.heap) c.args.proc c.requires.kept.heap c.requires.may.things

pub returns-in-Ok-clause-ok : goal.returns-in-Ok-clause-ok
returns-in-Ok-clause-ok c =
    let l = c.args.self.now in
    let e = c.in-Ok.ensures in
    let look = c.in-Some.ensures.lookup in
    let found : slice_get l.program.parts.classes.items c.args.class ≡ Some c.in-Some.class.now =
    subst (λ xs. slice_get xs c.args.class ≡ Some c.in-Some.class.now) c.deref.ensures.value (get_some c.deref.result.now c.args.class c.in-Some.class.now look.3.0 look.1) in
    let zeros : c.deref-3.result.now ≡ field_zeros c.in-Some.class.now.fields.items = c.deref-3.ensures.value ∙ c.in_ok-zeros.ensures ∙ ap field_zeros c.deref-2.ensures.value in
    let is : zeros_of_class (program_in l) c.args.class ≡ Some c.deref-3.result.now =
    class_zeros l.program.parts c.args.class ∙ ap (option_map (λ (c : Class). field_zeros c.fields.items)) found ∙ ap Some (sym zeros) in
    let done = object_done (program_in l) l.procs (history_in l) (contents l.heap)
    (contents c.new_obj.new.self) l.rounds l.region_rounds l.regions c.args.proc c.args.place c.args.class c.args.region c.deref-3.result.now
    c.in-Ok.id
    c.requires.process c.requires.kept (sym c.is_gone.ensures ∙ c.if-is_gone.false) c.requires.may.possible is e.fault e.id e.made in
    record { answer = done.0; kept = done.1; same = refl }

pub returns-in-Err-Faulted-clause-ok : goal.returns-in-Err-Faulted-clause-ok
returns-in-Err-Faulted-clause-ok c =
    let l = c.args.self.now in
    let e = c.in-Err-Faulted.ensures in
    let look = c.in-Some.ensures.lookup in
    let found : slice_get l.program.parts.classes.items c.args.class ≡ Some c.in-Some.class.now =
    subst (λ xs. slice_get xs c.args.class ≡ Some c.in-Some.class.now) c.deref.ensures.value (get_some c.deref.result.now c.args.class c.in-Some.class.now look.3.0 look.1) in
    let zeros : c.deref-3.result.now ≡ field_zeros c.in-Some.class.now.fields.items = c.deref-3.ensures.value ∙ c.in_ok-zeros.ensures ∙ ap field_zeros c.deref-2.ensures.value in
    let is : zeros_of_class (program_in l) c.args.class ≡ Some c.deref-3.result.now =
    class_zeros l.program.parts c.args.class ∙ ap (option_map (λ (c : Class). field_zeros c.fields.items)) found ∙ ap Some (sym zeros) in
    let told = subst (λ (x : HeapErr). FaultsAs (new_fault c.args.proc (length c.deref-3.result.now) (contents l.heap)) (Err x)) c.in-Err-Faulted.field-0-is e.fault in
    fault_does l c.new_obj.new.self c.args.proc c.args.place (act.NewObj c.args.class c.args.region) c.in-Err-Faulted.kind c.requires e.err
    (object_full (program_in l) l.procs (history_in l) (contents l.heap) c.args.proc c.args.class c.args.region c.deref-3.result.now c.in-Err-Faulted.kind c.requires.kept.heap
    (sym c.is_gone.ensures ∙ c.if-is_gone.false) c.requires.may.possible is told)

pub is_gone-requires-clause-place : goal.is_gone-requires-clause-place
is_gone-requires-clause-place c =
    let l = c.args.self.now in
    place_in (history_in l) l.regions c.args.region c.requires.kept.regions_are
    (c.requires.may.regions.numbered c.args.region (object_place (program_in l)
    (history_in l) c.args.proc c.args.class c.args.region c.requires.may.possible))

pub returns-then-is_gone-clause-ok : goal.returns-then-is_gone-clause-ok
returns-then-is_gone-clause-ok c =
    let l = c.args.self.now in
    fault_does l l.heap c.args.proc c.args.place (act.NewObj c.args.class c.args.region) RegionGone c.requires refl
    (object_gone (program_in l) (history_in l) c.args.proc c.args.class c.args.region c.requires.may.possible (sym c.is_gone.ensures ∙ c.if-is_gone.true))
