use Rattle.std.proofs.Common.{Option, sym, subst}
use Rattle.ti_syntax.specs.Trees.Views.{maybe_of}
use Rattle.ti_lang.specs.declared.program.exprs.Expr.{Expr}
use Rattle.ti_lang.specs.Program.Views.{expression_of}
use Rattle.ti_lang.specs.Meaning.Performing as performing
use Rattle.ti_eval.specs.Comes.{Comes}
use Rattle.ti_eval.specs.Envs.{env_of}
use Rattle.ti_moves.proofs.stmt_path.for_condition.Goals as goal

pub returns-in-Some : goal.returns-in-Some
returns-in-Some c =
    subst (λ (o : Option Expr). Comes c.evaluate.result (performing.condition (env_of c.args.env.now) (maybe_of expression_of o) c.args.answers.now)) (sym c.in-Some.is) c.evaluate.ensures
