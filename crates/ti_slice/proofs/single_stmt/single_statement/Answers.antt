use Rattle.std.proofs.Common.{Option, sym, subst}
use Rattle.std.specs.Borrow.{Bor}
use Rattle.ti_lang.specs.declared.program.stmts.Stmt.{Stmt}
use Rattle.ti_align.specs.Slice.{single_statement}
use Rattle.ti_eval.specs.Comes.{ComesAs}
use Rattle.ti_eval.specs.Envs.{env_of}
use Rattle.ti_moves.specs.Outcomes.{move_after}
use Rattle.ti_moves.specs.Receiving.{stm_seen}
use Rattle.ti_slice.proofs.single_stmt.single_statement.Goals as goal

pub returns-in-Some : goal.returns-in-Some
returns-in-Some c =
    let E = env_of c.args.env.now in
    subst (λ (o : Option (Bor Stmt)). ComesAs (move_after E (stm_seen o)) c.existing_statement.result (single_statement E (stm_seen o) c.args.answers.now)) (sym c.in-Some.is) c.existing_statement.ensures

pub returns-in-None : goal.returns-in-None
returns-in-None c =
    let E = env_of c.args.env.now in
    subst (λ (o : Option (Bor Stmt)). ComesAs (move_after E (stm_seen o)) c.statement.result (single_statement E (stm_seen o) c.args.answers.now)) (sym c.in-None.is) c.statement.ensures
