use Rattle.std.proofs.Common.{◌≡◌, ℕ, ◌<◌, length, get_or, List, sym, subst, arith}
use Rattle.std.proofs.lemmas.List.{get_or_default}
use Rattle.ti_blame.specs.declared.chains.ChainStep.{ChainStep}
use Rattle.ti_blame.proofs.Walking.{link0, Walked, walked_begin, walked_more, walked_end}
use Rattle.ti_blame.proofs.search.walk.Goals as goal

pub walk-init : goal.walk-init
walk-init c = record {
  within = c.requires.within;
  walks = walked_begin c.args.links.now c.args.start c.args.first c.in_ok-steps.steps.items c.in_ok-steps.ensures;
}

pub walk-preserved : goal.walk-preserved
walk-preserved c =
    let links = c.args.links.now in
    let k = c.walk.k in
    let i = c.walk.invariant in
    let link = get_or links k link0 in
    let pos : 0 < k = c.walk-test.true in
    record {
      within = omega (arith, c.requires.earlier k link0 pos i.within, i.within);
      walks = subst (Walked links c.args.start c.args.first link.next) (sym c.in_ok-push.ensures.items)
          (walked_more links c.args.start c.args.first k c.walk.steps.items link pos i.within (λ d. get_or_default links k d link0 i.within) i.walks);
    }

pub walk-smaller : goal.walk-smaller
walk-smaller c = omega (arith, c.requires.earlier c.walk.k link0 c.walk-test.true c.walk.invariant.within)

pub returns : goal.returns
returns c = walked_end c.args.links.now c.args.start c.args.first c.walk.k c.walk.steps.items (omega arith) c.walk.invariant.walks
