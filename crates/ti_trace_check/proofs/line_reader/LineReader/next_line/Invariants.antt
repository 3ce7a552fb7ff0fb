use Rattle.std.proofs.Common.{◌≡◌, ◌-◌, ◌++◌, true, length}
use Rattle.ti_io.specs.Source.{SameFiles}
use Rattle.ti_trace_check.specs.Mirrors.LineReader.{held, IsRoom}
use Rattle.ti_trace_check.proofs.Taking.{Taken}
use Rattle.ti_trace_check.proofs.line_reader.LineReader.next_line.Given as goal

abbrev pub invariant-line_reader : goal.invariant-line_reader
invariant-line_reader g l = record {
  room : IsRoom l.self;
  still : (g.S.Source.state l.source).faults ≡ (g.S.Source.state l.initial.source).faults;
  same : SameFiles (g.S.Source.state l.initial.source) (g.S.Source.state l.source);
  told : (g.S.Source.state l.initial.source).tells ≡ true → Taken (held l.initial.self ++ (g.S.Source.state l.initial.source).left) l.line (held l.self) (g.S.Source.state l.source).left;
}

abbrev pub decreases-line_reader : goal.decreases-line_reader
decreases-line_reader g l = 512 - length l.line
