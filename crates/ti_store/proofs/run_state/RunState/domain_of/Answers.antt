use Rattle.std.proofs.Common.{refl}
use Rattle.ti_base.specs.declared.value.Value.TheVariants.{Rc}
use Rattle.ti_base.specs.declared.action.Action.TheVariants as act
use Rattle.ti_base.specs.declared.entry.Answer.TheVariants.{Val}
use Rattle.ti_heap.specs.Things.{contents}
use Rattle.ti_store.specs.Mirrors.Parts.{program_in, history_in}
use Rattle.ti_store.proofs.Doing.{domain_there, domain_answer}
use Rattle.ti_store.proofs.Replies.{read_does}
use Rattle.ti_store.proofs.run_state.RunState.domain_of.Goals as goal

pub domain_of-requires : goal.domain_of-requires
domain_of-requires c =
    let l = c.args.self.now in domain_there (program_in l) l.procs (history_in l) (contents l.heap) c.args.proc c.args.grid c.requires.kept.heap c.requires.may.regions.living.used c.requires.may.possible

pub returns : goal.returns
returns c =
    let l = c.args.self.now in
    read_does l c.args.proc c.args.place (act.DomainOf c.args.grid) (Val (Rc c.domain_of.result)) c.requires refl refl refl refl
    (domain_answer (program_in l) l.procs (history_in l) (contents l.heap) c.args.proc c.args.grid c.domain_of.result c.requires.kept.heap
    c.requires.may.regions.living.used c.requires.may.possible c.domain_of.ensures)
