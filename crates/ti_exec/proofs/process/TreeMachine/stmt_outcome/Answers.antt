use Rattle.ti_exec.proofs.process.TreeMachine.stmt_outcome.Goals as goal

pub returns : goal.returns
returns c = rw (c.env.ensures, c.current_stmt.ensures, c.deref.ensures.value) at c.statement.ensures
