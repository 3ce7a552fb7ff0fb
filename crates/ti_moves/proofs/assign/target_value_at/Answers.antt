use Rattle.std.proofs.Common.{subst}
use Rattle.ti_base.specs.declared.place.Place.{Place}
use Rattle.ti_lang.specs.Program.Views.{expression_of}
use Rattle.ti_lang.specs.Meaning.Scoping.{type_of}
use Rattle.ti_lang.specs.Meaning.Targets.{held_in}
use Rattle.ti_eval.specs.Comes.{Comes}
use Rattle.ti_eval.specs.Envs.{env_of}
use Rattle.ti_moves.specs.Targets.{target_of}
use Rattle.ti_moves.proofs.assign.target_value_at.Goals as goal

pub returns : goal.returns
returns c = λ through.
    let E = env_of c.args.env.now in
    let t = type_of E (expression_of c.args.expr.now) in
    subst (λ (at : Place). Comes c.target_value.result (held_in E at t (target_of through c.args.target.now) c.args.answers.now)) c.place.ensures (c.target_value.ensures through t)
