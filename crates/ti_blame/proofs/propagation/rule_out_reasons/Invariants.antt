use Rattle.std.proofs.Common.{◌≡◌, Bool, false, take}
use Rattle.std.specs.List.{list_any}
use Rattle.ti_blame.specs.declared.reason.Reason.{Reason}
use Rattle.ti_blame.specs.Mirrors.Propagation.{left, IsUpperBound, PropagatesTo}
use Rattle.ti_blame.proofs.propagation.rule_out_reasons.Given as goal

abbrev pub invariant-loop-b : goal.invariant-loop-b
invariant-loop-b l = record {
  step : PropagatesTo l.fn.state l.state;
  gone : list_any (left l.state) (take l.b-index l.found) ≡ false;
  covered : (held : Reason → Bool) → list_any held l.found ≡ false → IsUpperBound held l.fn.state → IsUpperBound held l.state;
  done : l.state.done ≡ l.fn.state.done;
}
