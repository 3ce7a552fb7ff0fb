use Rattle.std.proofs.Common.{◌∷◌, length, refl, sym, subst, arith}
use Rattle.ti_base.specs.declared.action.Action.TheVariants as act
use Rattle.ti_base.specs.declared.entry.Answer.TheVariants.{Done}
use Rattle.ti_region.specs.Counting.{CanGain, counted_for, one_less}
use Rattle.ti_heap.specs.Contents.{cell_at}
use Rattle.ti_heap.specs.Things.{contents}
use Rattle.ti_store.specs.Mirrors.Refs.{NamesPlaced}
use Rattle.ti_store.specs.declared.run_state.ActOutcome.TheVariants.{Answered}
use Rattle.ti_store.specs.Mirrors.Parts.{program_in, history_in, entry_after, KeepsParts}
use Rattle.ti_store.proofs.Referring.{can_lose, can_gain}
use Rattle.ti_store.proofs.Doing.{names_there, put_there, put_answer, put_parts}
use Rattle.ti_store.proofs.Replies.{room_for}
use Rattle.ti_store.proofs.run_state.RunState.put_field.Goals as goal

pub get_field-before-requires : goal.get_field-before-requires
get_field-before-requires c =
    let l = c.args.self.now in
    put_there (program_in l) l.procs (history_in l) (contents l.heap) c.args.proc c.args.obj c.args.field c.args.value c.requires.kept.heap c.requires.may.regions.living.used c.requires.may.possible

pub note_put-requires-clause-before : goal.note_put-requires-clause-before
note_put-requires-clause-before c =
    let l = c.args.self.now in can_lose (contents l.heap).held l.regions (cell_at c.args.obj c.args.field) c.get_field-before.result c.requires.kept.refs c.get_field-before.ensures

pub note_put-requires-clause-after : goal.note_put-requires-clause-after
note_put-requires-clause-after c =
    let l = c.args.self.now in
    let h = history_in l in
    can_gain l.regions c.args.obj.region (length h) c.get_field-before.result c.args.value
    (names_there h l.regions c.args.value c.requires.kept.regions_are c.requires.may.regions.numbered c.requires.may.regions.written) c.requires.kept.regions_are.few
    (room_for l.entries.items (omega (arith, c.len-bound.ensures.len, c.len-bound.ensures.bound)))
    (can_lose (contents l.heap).held l.regions (cell_at c.args.obj c.args.field) c.get_field-before.result c.requires.kept.refs c.get_field-before.ensures)

pub put_field-requires : goal.put_field-requires
put_field-requires c =
    let l = c.args.self.now in
    put_there (program_in l) l.procs (history_in l) (contents l.heap) c.args.proc c.args.obj c.args.field c.args.value c.requires.kept.heap c.requires.may.regions.living.used c.requires.may.possible

pub returns : goal.returns
returns c =
    let l = c.args.self.now in
    let h = history_in l in
    let placed : NamesPlaced l.regions c.args.value = names_there h l.regions c.args.value c.requires.kept.regions_are c.requires.may.regions.numbered c.requires.may.regions.written in
    let may : CanGain (one_less l.regions (counted_for c.args.obj.region c.get_field-before.result))
    (counted_for c.args.obj.region c.args.value) = can_gain l.regions c.args.obj.region
    (length h) c.get_field-before.result c.args.value
    placed c.requires.kept.regions_are.few
    (room_for l.entries.items (omega (arith, c.len-bound.ensures.len, c.len-bound.ensures.bound)))
    (can_lose (contents l.heap).held l.regions (cell_at c.args.obj c.args.field) c.get_field-before.result c.requires.kept.refs c.get_field-before.ensures) in
    record {
      answer = put_answer (program_in l) h c.args.proc c.args.obj c.args.field c.args.value c.requires.may.possible;
      kept = subst (λ rs. KeepsParts (program_in l) l.procs (entry_after c.args.proc c.args.place
          (act.PutField c.args.obj c.args.field c.args.value) (Answered Done) ∷ h)
          (contents c.put_field.new.self) l.rounds l.region_rounds rs) (sym c.note_put.ensures)
          (put_parts (program_in l) l.procs h (contents l.heap) (contents c.put_field.new.self) l.rounds l.region_rounds l.regions c.args.proc
          c.args.place c.args.obj c.args.field c.get_field-before.result c.args.value
          c.requires.process c.requires.may.formed c.requires.may.regions.living.used placed c.get_field-before.ensures may c.requires.kept c.requires.may.possible c.put_field.ensures);
      same = refl;
    }
