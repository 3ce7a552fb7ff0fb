use Rattle.ti_store.proofs.Meeting.{rounds_wait, unleft_first, first_unleft}
use Rattle.ti_store.specs.Mirrors.Parts.{history_in}
use Rattle.ti_store.proofs.run_state.RunState.is_first.Goals as goal

pub first_out-requires-clause-waits : goal.first_out-requires-clause-waits
first_out-requires-clause-waits c = rounds_wait c.args.self.now.procs c.args.self.now.entries.items c.args.self.now.rounds c.args.proc c.requires.kept c.requires.waits

pub returns : goal.returns
returns c =
    let l = c.args.self.now in (
      λ t. unleft_first l.procs (history_in l) l.rounds c.args.proc c.requires.kept (c.first_out.ensures.0 t),
      λ all. c.first_out.ensures.1 (first_unleft l.procs (history_in l) l.rounds c.args.proc c.requires.kept all),
    )
