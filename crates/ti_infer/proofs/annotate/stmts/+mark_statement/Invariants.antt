use Rattle.std.proofs.Common.{◌≡◌, ℕ, false, ◌<◌, get_or}
use Rattle.ti_lang.specs.declared.program.stmts.Stmt.{Stmt}
use Rattle.ti_lang.specs.Program.Views.{statement_of}
use Rattle.ti_blame.specs.Marks.{marks_of}
use Rattle.ti_infer.specs.Marked.{marked_stm}
use Rattle.ti_infer.proofs.annotate.stmts.+mark_statement.Given as goal

abbrev pub invariant-mark_statements-loop-i : goal.invariant-mark_statements-loop-i
invariant-mark_statements-loop-i l =
    goal.unvisited-mark_statements-loop-i l
    × ((k : ℕ) (d : Stmt) → k < l.i → statement_of (get_or l.stmts.items k d)
    ≡ marked_stm (λ number. get_or l.variables.singles.items number false) (marks_of l.marks).variables
    (statement_of (get_or l.initial.stmts.items k d)))
