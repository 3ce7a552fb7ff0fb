use Rattle.std.proofs.Common.{◌≡◌, ◌-◌, [], reverse}
use Rattle.ti_code.specs.Effects.{top_operands, under}
use Rattle.ti_machine.specs.Mirrors.FrameStates.{local_state_of}
use Rattle.ti_machine.proofs.frame.state.FrameState.take_args_into.Given as goal

abbrev pub invariant-loop-k : goal.invariant-loop-k
invariant-loop-k l = record {
  args : top_operands l.count (local_state_of l.initial.self).stack [] ≡ top_operands (l.count - l.k) (local_state_of l.self).stack (reverse l.args.items);
  rest : under l.count (local_state_of l.initial.self).stack ≡ under (l.count - l.k) (local_state_of l.self).stack;
  same : local_state_of l.self ≡ record (local_state_of l.initial.self) { stack = (local_state_of l.self).stack };
}
