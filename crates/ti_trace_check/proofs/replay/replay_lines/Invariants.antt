use Rattle.std.proofs.Common.{◌≡◌, ◌++◌, true, length}
use Rattle.ti_io.specs.Source.{SameFiles}
use Rattle.ti_store.specs.Stores.{config_of}
use Rattle.ti_trace_check.specs.Mirrors.LineReader.{held, IsRoom}
use Rattle.ti_trace_check.specs.Mirrors.Replaying.{IsReplayState, turns_left}
use Rattle.ti_trace_check.proofs.OfLines.{Goes}
use Rattle.ti_trace_check.proofs.replay.replay_lines.Given as goal

abbrev pub invariant-lines : goal.invariant-lines
invariant-lines g l = record {
  store : l.store ≡ record l.fn.store { entries = l.store.entries };
  stands : IsReplayState l.code (config_of l.fn.store) l.store.entries l.processes.items;
  taken : l.taken ≡ length l.store.entries;
  room : IsRoom l.line_reader;
  still : (g.S.Source.state l.source).faults ≡ (g.S.Source.state l.fn.source).faults;
  same : SameFiles (g.S.Source.state l.fn.source) (g.S.Source.state l.source);
  told : (g.S.Source.state l.fn.source).tells ≡ true → Goes (g.S.Source.state l.fn.source).left l.store.entries l.line (held l.line_reader ++ (g.S.Source.state l.source).left);
}

abbrev pub decreases-lines : goal.decreases-lines
decreases-lines g l = turns_left (config_of l.fn.store) l.store.entries l.processes.items
