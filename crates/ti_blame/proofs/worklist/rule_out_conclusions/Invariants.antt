use Rattle.std.proofs.Common.{◌≡◌, Bool, false, take}
use Rattle.ti_blame.specs.declared.reason.Reason.{Reason}
use Rattle.ti_blame.specs.Mirrors.Propagation.{left, IsUpperBound, PropagatesTo, AreDone, any_left}
use Rattle.ti_blame.proofs.worklist.rule_out_conclusions.Given as goal

abbrev pub invariant-loop-what : goal.invariant-loop-what
invariant-loop-what l = record {
  step : PropagatesTo l.fn.state l.state;
  gone : any_left (left l.state) l.items (take l.what-index l.found) ≡ false;
  covered : (held : Reason → Bool) → any_left held l.items l.found ≡ false → IsUpperBound held l.fn.state → IsUpperBound held l.state;
  done : AreDone l.items l.state;
}
