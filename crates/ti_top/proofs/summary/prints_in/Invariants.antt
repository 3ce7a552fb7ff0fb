use Rattle.std.proofs.Common.{◌≡◌, ◌++◌}
use Rattle.std.specs.Int.{w32}
use Rattle.ti_base.specs.WholeNumbers.{wrap}
use Rattle.ti_top.specs.Summary.{print_count, printed_sum}
use Rattle.ti_top.proofs.summary.prints_in.Given as goal

abbrev pub invariant-entries : goal.invariant-entries
invariant-entries l = record {
  left : l.history.items ≡ l.yielded ++ l.entry-iterator;
  count : l.count ≡ print_count l.yielded;
  sum : l.sum ≡ wrap w32 (printed_sum l.yielded);
}
