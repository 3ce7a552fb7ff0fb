use Rattle.std.proofs.Common.{◌≡◌, ◌+◌, ◌*◌, Bool, true, false, length}
use Rattle.std.specs.BTreeSet.{contains, btree_set_len}
use Rattle.ti_blame.specs.declared.reason.Reason.{Reason}
use Rattle.ti_blame.specs.declared.mark.MarkKey.{MarkKey}
use Rattle.ti_blame.specs.Keys.{key_cmp}
use Rattle.ti_blame.specs.Mirrors.Propagation.{left, IsUpperBound, Apart, AreDone, IsTracked, IsFair}
use Rattle.ti_blame.proofs.worklist.run.Given as goal

abbrev pub invariant-worklist : goal.invariant-worklist
invariant-worklist l = record {
  opened : (n : MarkKey) → IsTracked l.items l.state l.waiting n;
  apart : Apart l.state;
  done : AreDone l.items l.state;
  stays : (b : Reason) → left l.state b ≡ true → left l.fn.state b ≡ true;
  fewer : (n : MarkKey) → contains key_cmp l.state.assumed n ≡ true → contains key_cmp l.fn.state.assumed n ≡ true;
  covered : (held : Reason → Bool) → IsFair l.items held l.waiting → IsUpperBound held l.fn.state → IsUpperBound held l.state;
}

abbrev pub decreases-worklist : goal.decreases-worklist
decreases-worklist l = 2 * btree_set_len l.state.assumed + length l.state.worklist.items
