use Rattle.std.proofs.Common.{Ok, Err, refl}
use Rattle.ti_base.specs.declared.action.Action.TheVariants as act
use Rattle.ti_base.specs.declared.entry.Answer.TheVariants.{Val}
use Rattle.ti_heap.specs.Things.{contents}
use Rattle.ti_store.specs.Mirrors.Parts.{program_in, history_in}
use Rattle.ti_store.proofs.Doing.{get_there, get_answer}
use Rattle.ti_store.proofs.Replies.{read_does, fault_does}
use Rattle.ti_store.proofs.run_state.RunState.get_elem.Goals as goal

pub get_elem-requires : goal.get_elem-requires
get_elem-requires c =
    let l = c.args.self.now in get_there (program_in l) l.procs (history_in l)
    (contents l.heap) c.args.proc c.args.grid c.args.point c.requires.kept.heap c.requires.may.regions.living.used c.requires.may.possible

pub returns-in-Ok : goal.returns-in-Ok
returns-in-Ok c =
    let l = c.args.self.now in
    read_does l c.args.proc c.args.place (act.GetElem c.args.grid c.args.point) (Val c.in-Ok.value) c.requires refl refl refl refl
    (get_answer (program_in l) l.procs (history_in l) (contents l.heap) c.args.proc c.args.grid c.args.point
    (Ok c.in-Ok.value) c.requires.kept.heap c.requires.may.regions.living.used c.requires.may.possible c.in-Ok.ensures.value)

pub returns-in-Err : goal.returns-in-Err
returns-in-Err c =
    let l = c.args.self.now in
    fault_does l l.heap c.args.proc c.args.place (act.GetElem c.args.grid c.args.point) c.in-Err.kind c.requires refl
    (get_answer (program_in l) l.procs (history_in l) (contents l.heap) c.args.proc c.args.grid c.args.point
    (Err c.in-Err.kind) c.requires.kept.heap c.requires.may.regions.living.used c.requires.may.possible c.in-Err.ensures.value)
