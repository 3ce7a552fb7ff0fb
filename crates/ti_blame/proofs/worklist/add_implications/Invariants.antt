use Rattle.std.proofs.Common.{◌≡◌, Bool, false, take}
use Rattle.std.specs.List.{list_any}
use Rattle.ti_blame.specs.declared.reason.Reason.{Reason}
use Rattle.ti_blame.specs.declared.implication.Implication.{Implication}
use Rattle.ti_blame.specs.declared.mark.MarkKey.{MarkKey}
use Rattle.ti_blame.specs.Implications.{Satisfies}
use Rattle.ti_blame.specs.Mirrors.Propagation.{IsUpperBound, PropagatesTo, AreDone, IsAdded, IsTracked, IsFair}
use Rattle.ti_blame.proofs.worklist.add_implications.Given as goal

abbrev pub invariant-loop-e : goal.invariant-loop-e
invariant-loop-e l = record {
  step : PropagatesTo l.fn.state l.state;
  kept : (test : Implication → Bool) → ((e : Implication) → IsAdded l.items l.state l.waiting e → test e ≡ false) → list_any test (take l.e-index l.implications) ≡ false;
  opened : (n : MarkKey) → IsTracked l.items l.state l.waiting n;
  fair : (held : Reason → Bool) → Satisfies held l.items l.implications → IsFair l.items held l.fn.waiting → IsFair l.items held l.waiting;
  covered : (held : Reason → Bool) → Satisfies held l.items l.implications → IsUpperBound held l.fn.state → IsUpperBound held l.state;
  done : AreDone l.items l.state;
}
