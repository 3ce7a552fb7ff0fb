use Rattle.std.proofs.Common.{◌≡◌, ◌∙◌, sym, subst, List}
use Rattle.ti_lang.specs.Program.Types.{ValueType}
use Rattle.ti_lang.specs.Program.Expressions.{place_of_numbered}
use Rattle.ti_lang.specs.Program.Views.{expression_of}
use Rattle.ti_lang.specs.Meaning.Comp.{CompResult, Gives}
use Rattle.ti_lang.specs.Meaning.Conversions.{converted}
use Rattle.ti_lang.specs.Meaning.Processes.{Variable, Updated}
use Rattle.ti_lang.specs.Meaning.Scoping.{type_of}
use Rattle.ti_lang.specs.Meaning.Targets.{located, held_in, stored, into}
use Rattle.ti_eval.specs.Comes.{ComesAs}
use Rattle.ti_eval.specs.Envs.{env_of}
use Rattle.ti_moves.specs.declared.outcomes.VarUpdate.{VarUpdate}
use Rattle.ti_moves.specs.Outcomes.{update_variables}
use Rattle.ti_moves.specs.Receiving.{right_seen}
use Rattle.ti_moves.specs.Targets.{target_of, through_of}
use Rattle.ti_moves.proofs.Goings.{goes_on}
use Rattle.ti_moves.proofs.assign.update_target.Goals as goal

pub returns : goal.returns
returns c =
    let E = env_of c.args.env.now in
    let at = c.args.place in
    let x = expression_of c.args.target.now in
    let t = type_of E x in
    let through = through_of E x in
    let place = target_of through c.in_ok-located_target.located_target in
    let old : held_in E (place_of_numbered x) t place c.in_ok-located_target.answers.now ≡ Gives c.in_ok-old.old c.in_ok-old.answers.now = c.in_ok-old.ensures through in
    let k : converted at t c.in_ok-new.new c.in_ok-new.answers.now ≡ Gives c.in_ok-k.k c.in_ok-k.answers.now =
    subst (λ (u : ValueType). converted at u c.in_ok-new.new c.in_ok-new.answers.now ≡ Gives c.in_ok-k.k c.in_ok-k.answers.now) c.type_of.ensures c.in_ok-k.ensures in
    let same : into E (Updated at c.args.operator x) (right_seen E c.args.right) c.args.answers.now ≡ stored E at place c.in_ok-k.k c.in_ok-k.answers.now =
    goes_on (located E x c.args.answers.now) _ _ _ c.in_ok-located_target.ensures ∙ goes_on _ _ _ _ old ∙ goes_on _ _ _ _ c.in_ok-h.ensures ∙ goes_on _ _ _ _ c.in_ok-new.ensures ∙ goes_on _ _ _ _ k in
    subst (λ (g : CompResult (List Variable)). ComesAs (λ (d : VarUpdate). update_variables d E.variables) c.store.result g) (sym same) (c.store.ensures E through)
