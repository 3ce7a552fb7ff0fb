use Rattle.std.proofs.Common.{◌≡◌, Bool, true, refl, rules}
use Rattle.std.specs.List.{list_any}
use Rattle.std.proofs.lemmas.Result.{on_ok_weaker}
use Rattle.ti_blame.specs.Implications.{meaning}
use Rattle.ti_blame.specs.Mirrors.Search.{same_reason}
use Rattle.ti_blame.proofs.Chaining.{same_contained}
use Rattle.ti_blame.proofs.search.add_premise.Goals as goal

pub returns-in-Some-clause-links : goal.returns-in-Some-clause-links
returns-in-Some-clause-links c =
    let out : list_any (same_reason c.args.reason) (meaning c.args.items.now c.args.implication.then) ≡ true = search rules in
    on_ok_weaker c.reach.result
    (λ f edges contains are. f c.args.items.now edges (c.in-Some.m, c.in-Some.is, refl) (contains, same_contained c.args.reason (meaning c.args.items.now c.args.implication.then) out) c.requires are)
    c.reach.ensures.links
