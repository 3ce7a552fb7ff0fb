use Rattle.std.proofs.Common.{◌≡◌, ◌+◌, ◌≤◌, length}
use Rattle.std.specs.List.{prefix_len}
use Rattle.ti_syntax.specs.Tokenizing.{is_name_byte}
use Rattle.ti_lex.specs.Mirrors.Cursor.{unread_bytes, skip_bytes}
use Rattle.ti_lex.proofs.cursor.Cursor.name.Given as goal

abbrev pub invariant-loop-byte : goal.invariant-loop-byte
invariant-loop-byte l = record {
  moves : l.self ≡ skip_bytes l.size l.initial.self;
  within : l.size ≤ length l.rest;
  end : l.size + prefix_len is_name_byte (unread_bytes l.self) ≡ prefix_len is_name_byte (unread_bytes l.initial.self);
}

abbrev pub decreases-loop-byte : goal.decreases-loop-byte
decreases-loop-byte l = length (unread_bytes l.self)
