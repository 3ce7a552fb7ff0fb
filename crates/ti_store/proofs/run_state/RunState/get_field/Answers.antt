use Rattle.std.proofs.Common.{refl}
use Rattle.ti_base.specs.declared.action.Action.TheVariants as act
use Rattle.ti_base.specs.declared.entry.Answer.TheVariants.{Val}
use Rattle.ti_heap.specs.Things.{contents}
use Rattle.ti_store.specs.Mirrors.Parts.{program_in, history_in}
use Rattle.ti_store.proofs.Doing.{field_there, field_read}
use Rattle.ti_store.proofs.Replies.{read_does}
use Rattle.ti_store.proofs.run_state.RunState.get_field.Goals as goal

pub get_field-requires : goal.get_field-requires
get_field-requires c =
    let l = c.args.self.now in field_there (program_in l) l.procs (history_in l)
    (contents l.heap) c.args.proc c.args.obj c.args.field c.requires.kept.heap c.requires.may.regions.living.used c.requires.may.possible

pub returns : goal.returns
returns c =
    let l = c.args.self.now in
    read_does l c.args.proc c.args.place (act.GetField c.args.obj c.args.field) (Val c.get_field.result) c.requires refl refl refl refl
    (field_read (program_in l) l.procs (history_in l) (contents l.heap) c.args.proc c.args.obj c.args.field c.get_field.result
    c.requires.kept.heap c.requires.may.regions.living.used c.requires.may.possible c.get_field.ensures)
