use Rattle.std.proofs.Common.{◌≡◌, ℕ, ◌<◌, ◌≤◌, length, get_or}
use Rattle.ti_infer.proofs.strip.lists.strip_each.Given as goal

abbrev pub invariant-loop-i : goal.invariant-loop-i
invariant-loop-i g l = record {
  len : length l.items.items ≡ length l.initial.items.items;
  rest : (k : ℕ) (d : _) → l.i ≤ k → get_or l.items.items k d ≡ get_or l.initial.items.items k d;
  done : (k : ℕ) (d : _) → k < l.i → g.T.Stripped.plain (get_or l.initial.items.items k d) (get_or l.items.items k d);
}
