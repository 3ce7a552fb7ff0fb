use Rattle.std.proofs.Common.{◌≡◌, length}
use Rattle.ti_lex.specs.Mirrors.Cursor.{unread_bytes}
use Rattle.ti_lex.specs.Mirrors.Reading.{string_from}
use Rattle.ti_lex.proofs.cursor.Cursor.string.Given as goal

abbrev pub invariant-loop-bytes : goal.invariant-loop-bytes
invariant-loop-bytes l = record {
  same : l.self.text ≡ l.initial.self.text;
  reads : string_from l.fn.self.at l.bytes.items l.self.at (unread_bytes l.self)
      ≡ string_from l.fn.self.at l.initial.bytes.items l.initial.self.at (unread_bytes l.initial.self);
}

abbrev pub decreases-loop-bytes : goal.decreases-loop-bytes
decreases-loop-bytes l = length (unread_bytes l.self)
