use Rattle.ti_slice.proofs.step.statement_outcome.Goals as goal

pub returns : goal.returns
returns c = rw (c.env.ensures, c.current_stmt.ensures, c.deref.ensures.value) at c.single_statement.ensures
