use Rattle.std.proofs.Common.{◌∙◌, ap, sym, subst}
use Rattle.ti_lang.specs.Program.Statements.{NumberedStm}
use Rattle.ti_lang.specs.Program.Views.{statement_of}
use Rattle.ti_lang.specs.Meaning.Performing as performing
use Rattle.ti_eval.specs.Comes.{Comes}
use Rattle.ti_eval.specs.Envs.{env_of}
use Rattle.ti_eval.specs.Frames.{condition_in}
use Rattle.ti_moves.specs.Receiving.{stm_seen}
use Rattle.ti_moves.proofs.stmt_path.condition.Goals as goal

pub returns-in-While : goal.returns-in-While
returns-in-While c =
    subst (λ (x : NumberedStm). Comes c.evaluate.result (performing.condition (env_of c.args.env.now) (condition_in x) c.args.answers.now))
    (sym (ap stm_seen c.in-Some.is ∙ ap statement_of c.in-While.is)) c.evaluate.ensures
