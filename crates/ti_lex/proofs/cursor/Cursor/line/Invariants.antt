use Rattle.std.proofs.Common.{◌≡◌, ◌+◌, length}
use Rattle.ti_lex.specs.Mirrors.Cursor.{unread_bytes}
use Rattle.ti_lex.specs.Mirrors.Reading.{line_left}
use Rattle.ti_lex.proofs.cursor.Cursor.line.Given as goal

abbrev pub invariant-loop-byte : goal.invariant-loop-byte
invariant-loop-byte l = record { same : l.self.text ≡ l.initial.self.text; end : l.self.at + line_left (unread_bytes l.self) ≡ l.initial.self.at + line_left (unread_bytes l.initial.self) }

abbrev pub decreases-loop-byte : goal.decreases-loop-byte
decreases-loop-byte l = length (unread_bytes l.self)
