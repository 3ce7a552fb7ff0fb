use Rattle.std.proofs.Common.{ℕ, ◌+◌, ◌-◌, ◌<◌, length}
use Rattle.std.specs.BTreeSet.{btree_set_len}
use Rattle.ti_blame.specs.Mirrors.Search.{AreLinks, IsSoundSearch, Extends, IsClosed}
use Rattle.ti_blame.proofs.search.find_chain.Given as goal

abbrev pub invariant-links : goal.invariant-links
invariant-links l = record {
  extends : Extends l.fn.state l.state;
  sound : IsSoundSearch l.state;
  links : AreLinks l.items l.implications l.state.links.items;
  closed : (j : ℕ) → j < l.k → IsClosed l.items l.implications l.state j;
}

abbrev pub decreases-links : goal.decreases-links
decreases-links l = (btree_set_len l.state.unseen + length l.state.links.items) - l.k
