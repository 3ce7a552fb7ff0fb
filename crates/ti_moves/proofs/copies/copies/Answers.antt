use Rattle.std.proofs.Common.{rules, ◌≡◌, ◌∙◌, ap, sym, map, List}
use Rattle.ti_base.specs.declared.point.Rect.{Rect}
use Rattle.ti_lang.specs.Program.Expressions.{Member, numbered_exps}
use Rattle.ti_lang.specs.Program.Statements.{Call}
use Rattle.ti_lang.specs.Program.Types.{Rc}
use Rattle.ti_lang.specs.Program.Views.{expression_of}
use Rattle.ti_lang.specs.Typing.Kinds.{dim_of_type}
use Rattle.ti_lang.specs.Meaning.Comp.{Gives, ValueOf, needed}
use Rattle.ti_lang.specs.Meaning.Copies.{common_points, first_type}
use Rattle.ti_lang.specs.Meaning.Evaluation.{eval, eval_all}
use Rattle.ti_lang.specs.Meaning.Held.{Held, rect_of, points_in}
use Rattle.ti_lang.specs.Meaning.Moves.{Move, Goes}
use Rattle.ti_lang.specs.Meaning.Processes.{ContItem}
use Rattle.ti_lang.specs.Meaning.Scoping.{type_of}
use Rattle.ti_eval.specs.declared.frame.Copy.{Copy}
use Rattle.ti_eval.specs.Envs.{env_of}
use Rattle.ti_moves.specs.References.{typed_reference}
use Rattle.ti_moves.proofs.CopyLaws.{copy_left}
use Rattle.ti_moves.proofs.Goings.{goes_on}
use Rattle.ti_moves.proofs.copies.copies.Goals as goal

pub returns : goal.returns
returns c = λ name.
    let E = env_of c.args.env.now in
    let at = c.args.place in
    let x = expression_of c.args.receiver.now in
    let xs = numbered_exps (map expression_of c.args.args.now) in
    let t = type_of E x in
    let u = first_type E xs in
    let d = c.in_ok-d.d in
    let e = c.in_ok-e.e in
    let to = c.in_ok-to.to in
    let from = c.in_ok-from.from in
    let rest = c.in_ok-e.answers.now in
    let copy : Copy = record { to = to; from = from; domain = c.common_domain-domain.result } in
    let is : c.in_ok-copy.copy.value ≡ copy = search rules in
    let points : points_in c.common_domain-domain.result ≡ common_points (rect_of d) (rect_of e) =
    c.common_domain-domain.ensures ∙ ap (λ (r : Rect). common_points r c.rect-2.result) c.rect.ensures.value ∙ ap (λ (r : Rect). common_points (rect_of d) r) c.rect-2.ensures.value in
    let named : needed at u c.first_or_false.result c.in_ok-to.answers.now ≡ Gives (typed_reference u from) c.in_ok-from.answers.now = c.in_ok-from.ensures u in
    goes_on (eval E x c.args.answers.now) _ _ _ c.in_ok-h.ensures
    ∙ goes_on (eval_all E xs c.in_ok-h.answers.now) _ _ _ c.in_ok-hs.ensures
    ∙ goes_on (needed at t c.in_ok-h.h c.in_ok-hs.answers.now) _ _ _ (c.in_ok-to.ensures t)
    ∙ goes_on _ _ _ _ (ap (λ (h : Held). needed at u h c.in_ok-to.answers.now) (sym c.first_or_false.ensures) ∙ named)
    ∙ goes_on _ _ _ _ (c.in_ok-d.ensures t (ValueOf (Rc (dim_of_type t))))
    ∙ goes_on _ _ _ _ (c.in_ok-e.ensures u (ValueOf (Rc (dim_of_type u))))
    ∙ ap (λ (ws : List ContItem). Gives (Goes E.variables ws) rest) (copy_left E at x name xs c.in_ok-copy.copy to from c.common_domain-domain.result _ is points)
    ∙ ap (λ (m : Move). Gives m rest) (sym (c.continue_with.ensures E (Call (Member at x name xs))))
