use Rattle.ti_store.proofs.Meeting.{rounds_wait, reached_arrived, arrived_reached}
use Rattle.ti_store.proofs.run_state.RunState.all_arrived.Goals as goal

pub complete-requires-clause-waits : goal.complete-requires-clause-waits
complete-requires-clause-waits c = rounds_wait c.args.self.now.procs c.args.self.now.entries.items c.args.self.now.rounds c.args.proc c.requires.kept c.requires.waits

pub returns : goal.returns
returns c =
    let l = c.args.self.now in (
      λ t. reached_arrived l.procs l.entries.items l.rounds c.args.proc c.requires.kept c.requires.waits (c.complete.ensures.0 t),
      λ all. c.complete.ensures.1 (arrived_reached l.procs l.entries.items l.rounds c.args.proc c.requires.kept c.requires.waits all),
    )
