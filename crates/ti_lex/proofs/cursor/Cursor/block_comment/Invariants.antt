use Rattle.std.proofs.Common.{◌≡◌, length}
use Rattle.ti_lex.specs.Mirrors.Cursor.{unread_bytes}
use Rattle.ti_lex.specs.Mirrors.Reading.{comment_from}
use Rattle.ti_lex.proofs.cursor.Cursor.block_comment.Given as goal

abbrev pub invariant-loop-byte : goal.invariant-loop-byte
invariant-loop-byte l = record {
  same : l.self.text ≡ l.initial.self.text;
  reads : comment_from l.fn.self.at l.star l.self.at (unread_bytes l.self)
      ≡ comment_from l.fn.self.at l.initial.star l.initial.self.at (unread_bytes l.initial.self);
}

abbrev pub decreases-loop-byte : goal.decreases-loop-byte
decreases-loop-byte l = length (unread_bytes l.self)
