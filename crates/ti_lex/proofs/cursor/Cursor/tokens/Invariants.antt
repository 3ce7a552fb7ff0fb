use Rattle.std.proofs.Common.{length}
use Rattle.ti_lex.specs.Mirrors.Cursor.{unread_bytes}
use Rattle.ti_lex.proofs.Texts.{IsReadTo}
use Rattle.ti_lex.proofs.cursor.Cursor.tokens.Given as goal

abbrev pub invariant-loop-byte : goal.invariant-loop-byte
invariant-loop-byte l = IsReadTo l.fn.self.text l.tokens.items l.self

abbrev pub decreases-loop-byte : goal.decreases-loop-byte
decreases-loop-byte l = length (unread_bytes l.self)
