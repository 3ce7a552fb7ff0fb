use Rattle.std.proofs.Common.{◌≡◌, ◌++◌, Ok}
use Rattle.ti_io.specs.Sink.{Writes}
use Rattle.ti_io.specs.declared.source.Failed.{Failed}
use Rattle.ti_lang.specs.Program.Views.{program_of}
use Rattle.ti_lang.specs.Meaning.Lines.{lines_of}
use Rattle.ti_top.specs.Mirrors.Line.{HasLineRoom}
use Rattle.ti_top.proofs.printing.write_entries.Given as goal

abbrev pub invariant-entries : goal.invariant-entries
invariant-entries g l = record {
  left : l.history.items ≡ l.yielded ++ l.entry-iterator;
  written : Writes {T = Unit {0}} {E = Failed} (lines_of (program_of l.program.parts) l.yielded) (g.K.Sink.state l.initial.out) (g.K.Sink.state l.out) (Ok tt);
  room : HasLineRoom l.program.parts.literals.items l.line;
}
