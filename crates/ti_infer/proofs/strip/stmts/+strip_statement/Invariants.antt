use Rattle.std.proofs.Common.{◌≡◌, ℕ, ◌<◌, get_or}
use Rattle.ti_lang.specs.declared.program.stmts.Stmt.{Stmt}
use Rattle.ti_lang.specs.Program.Views.{statement_of}
use Rattle.ti_infer.specs.Stripped.{plain_stm}
use Rattle.ti_infer.proofs.strip.stmts.+strip_statement.Given as goal

abbrev pub invariant-strip_statements-loop-i : goal.invariant-strip_statements-loop-i
invariant-strip_statements-loop-i l =
    goal.unvisited-strip_statements-loop-i l
    × ((k : ℕ) (d : Stmt) → k < l.i
    → statement_of (get_or l.stmts.items k d) ≡ plain_stm (statement_of (get_or l.initial.stmts.items k d)))
