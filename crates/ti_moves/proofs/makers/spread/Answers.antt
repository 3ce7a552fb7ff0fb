use Rattle.std.proofs.Common.{sym, subst, map, List}
use Rattle.ti_lang.specs.declared.program.exprs.Range.{Range}
use Rattle.ti_lang.specs.declared.program.stmts.Dims.{Dims}
use Rattle.ti_lang.specs.Program.Expressions.{numbered_ranges}
use Rattle.ti_lang.specs.Program.Views.{bound_of, extent_of}
use Rattle.ti_lang.specs.Meaning.Comp.{bind_result}
use Rattle.ti_lang.specs.Meaning.Evaluation.{eval_ranges}
use Rattle.ti_lang.specs.Meaning.Literals.{rect_within}
use Rattle.ti_lang.specs.Meaning.Makers.{spread}
use Rattle.ti_eval.specs.Comes.{Comes}
use Rattle.ti_eval.specs.Envs.{env_of}
use Rattle.ti_moves.proofs.makers.spread.Goals as goal

pub returns-in-Domain : goal.returns-in-Domain
returns-in-Domain c =
    subst (λ (d : Dims). Comes c.evaluate.result (spread (env_of c.args.env.now) c.args.place (extent_of d) c.args.answers.now)) (sym c.in-Domain.is) c.evaluate.ensures

pub returns-in-Ranges : goal.returns-in-Ranges
returns-in-Ranges c =
    let E = env_of c.args.env.now in
    let at = c.args.place in
    let answers = c.args.answers.now in
    subst (λ (d : Dims). Comes c.rectangle.result (spread E at (extent_of d) answers)) (sym c.in-Ranges.is)
    (subst (λ (rs : List Range). Comes c.rectangle.result (bind_result (eval_ranges E (numbered_ranges (map bound_of rs)) answers) (λ b. rect_within at b))) c.deref.ensures.value c.rectangle.ensures)
