use Rattle.std.proofs.Common.{map, drop}
use Rattle.ti_lang.specs.Program.Statements.{numbered_stms}
use Rattle.ti_lang.specs.Program.Views.{statement_of}
use Rattle.ti_rules.specs.Mirrors.Literals.{InStms}
use Rattle.ti_rules.proofs.reading.+read_statement.Given as goal

abbrev pub invariant-read_statements-loop-stmt : goal.invariant-read_statements-loop-stmt
invariant-read_statements-loop-stmt l = InStms (numbered_stms (map statement_of (drop l.stmt-index l.stmts))) → InStms (numbered_stms (map statement_of l.stmts))
