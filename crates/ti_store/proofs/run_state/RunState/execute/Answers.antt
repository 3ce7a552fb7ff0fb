use Rattle.ti_store.proofs.Stepping.{end_comes, fault_comes, no_end, no_fault}
use Rattle.ti_store.proofs.run_state.RunState.execute.Goals as goal

pub returns-in-End-clause-ok : goal.returns-in-End-clause-ok
returns-in-End-clause-ok c = end_comes c.args.self.now c.args.proc c.args.place c.args.action c.requires.process c.requires.kept c.in-End.is

pub returns-in-Fault-clause-ok : goal.returns-in-Fault-clause-ok
returns-in-Fault-clause-ok c = fault_comes c.args.self.now c.args.proc c.args.place c.args.action c.in-Fault.kind c.requires.process c.requires.kept c.in-Fault.is

pub perform-requires-clause-ready : goal.perform-requires-clause-ready
perform-requires-clause-ready c = record {
  process = c.requires.process;
  kept = c.requires.kept;
  may = c.requires.may (no_end c.args.action c.in_default.not-End) (no_fault c.args.action c.in_default.not-Fault);
  room = c.requires.room;
}

pub perform-requires-clause-goes_on : goal.perform-requires-clause-goes_on
perform-requires-clause-goes_on c = no_end c.args.action c.in_default.not-End

pub perform-requires-clause-no_fault : goal.perform-requires-clause-no_fault
perform-requires-clause-no_fault c = no_fault c.args.action c.in_default.not-Fault
