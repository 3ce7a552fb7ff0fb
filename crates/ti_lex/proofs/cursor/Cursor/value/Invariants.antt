use Rattle.std.proofs.Common.{◌≡◌, ◌≤◌, ◌+◌, length}
use Rattle.std.specs.Char.{is_ascii_digit}
use Rattle.std.specs.List.{prefix_len}
use Rattle.ti_lex.specs.Mirrors.Cursor.{unread_bytes}
use Rattle.ti_lex.specs.Mirrors.Reading.{value_from, too_large}
use Rattle.ti_lex.proofs.cursor.Cursor.value.Given as goal

abbrev pub invariant-loop-byte : goal.invariant-loop-byte
invariant-loop-byte l = record {
  same : l.self.text ≡ l.initial.self.text;
  fits : l.value ≤ too_large;
  value : value_from l.value (unread_bytes l.self) ≡ value_from 0 (unread_bytes l.initial.self);
  end : l.self.at + prefix_len is_ascii_digit (unread_bytes l.self) ≡ l.initial.self.at + prefix_len is_ascii_digit (unread_bytes l.initial.self);
}

abbrev pub decreases-loop-byte : goal.decreases-loop-byte
decreases-loop-byte l = length (unread_bytes l.self)
