use Rattle.std.proofs.Common.{◌≡◌, false, List, [], ap, sym, subst, ◌∙◌}
use Rattle.std.specs.Option.{option_map_or}
use Rattle.std.specs.declared.vec.Vec.{Vec}
use Rattle.std.specs.declared.alloc.Global.{Global}
use Rattle.std.proofs.lemmas.Result.{on_ok_weaker}
use Rattle.ti_blame.specs.declared.implication.Conclusion.{Conclusion}
use Rattle.ti_blame.specs.Keys.{key_of}
use Rattle.ti_blame.specs.Mirrors.Propagation.{conclusions, any_left}
use Rattle.ti_blame.proofs.worklist.propagate.Goals as goal

pub returns-in-Some-clause-covered : goal.returns-in-Some-clause-covered
returns-in-Some-clause-covered c =
    let e : conclusions c.args.waiting.now (key_of c.args.mark) ≡ c.deref.result.now =
    ap (conclusions c.args.waiting.now) (sym c.of-name.ensures) ∙ ap (λ o. option_map_or (λ (v : Vec Conclusion Global). v.items) o []) (sym c.in-Some.ensures.value) ∙ sym c.deref.ensures.value in
    on_ok_weaker c.rule_out_conclusions.result (λ f held h. f held (subst (λ (ts : List Conclusion). any_left held c.args.items.now ts ≡ false) e h)) c.rule_out_conclusions.ensures.covered
