use Rattle.std.proofs.Common.{◌≡◌, false, take}
use Rattle.std.specs.List.{list_any}
use Rattle.std.specs.BTreeSet.{contains}
use Rattle.ti_blame.specs.Keys.{key_cmp}
use Rattle.ti_blame.specs.Mirrors.Search.{can_start, is_open, AreLinks, IsSoundSearch, Extends}
use Rattle.ti_blame.proofs.search.add_premises.Given as goal

abbrev pub invariant-loop-e : goal.invariant-loop-e
invariant-loop-e l = record {
  extends : Extends l.fn.state l.state;
  sound : IsSoundSearch l.state;
  links : AreLinks l.items l.implications l.state.links.items;
  closed : list_any (can_start (contains key_cmp l.fn.state.named) l.items l.reason) l.implications ≡ false
      → list_any (is_open (contains key_cmp l.state.named) (contains key_cmp l.state.unseen) l.items l.reason) (take l.e-index l.implications) ≡ false;
}
