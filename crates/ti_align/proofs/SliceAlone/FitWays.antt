-- Ways of processes on which what each departure is answered suits what is wanted there.
use Rattle.std.specs.Prelude.{◌≡◌, ℕ, false, List, [], ◌∷◌, ◌++◌, Option}
use Rattle.std.proofs.Common.{refl}
use Rattle.ti_base.specs.declared.place.Place.{Place}
use Rattle.ti_base.specs.declared.action.Action.{Action}
use Rattle.ti_base.specs.declared.action.Action.TheVariants as act
use Rattle.ti_base.specs.declared.action.CollKind.{CollKind}
use Rattle.ti_base.specs.declared.action.Deposit.{Deposit}
use Rattle.ti_base.specs.declared.entry.Answer.{Answer}
use Rattle.ti_lang.specs.Meaning.Comp.{Wanted}
use Rattle.ti_lang.specs.Meaning.Processes.{Process}
use Rattle.ti_lang.specs.Meaning.Steps.{To, At, step}
use Rattle.ti_lang.specs.Meaning.NextStep.{Reaches, here, later}
use Rattle.ti_lang.specs.Meaning.Histories.{is_arrival, is_departure}
use Rattle.ti_align.proofs.Runs.Ways.{Asked, asking, Meeting, Came, Left}
use Rattle.ti_align.proofs.Runs.Running.{meeting}

-- a process makes silent steps and actions, which get answers; those of departures suit what is wanted there
pub data FitWay (F : Wanted → Answer → Type 0) : Process → List Meeting → Process → Type 0 where
  stop : {p : Process} → FitWay F p [] p
  silent : {p q r : Process} {ms : List Meeting} → step p ≡ To q → FitWay F q ms r → FitWay F p ms r
  alone : {p r : Process} {ms : List Meeting} {at : Place} {a : Action} {wanted : Asked} {go : Answer → Process} {answer : Answer} →
      step p ≡ At (asking at a wanted) go → is_arrival a ≡ false → is_departure a ≡ false → FitWay F (go answer) ms r → FitWay F p ms r
  came : {p r : Process} {ms : List Meeting} {at : Place} {kind : CollKind} {arg : Option ℕ} {given : Deposit} {wanted : Asked} {go : Answer → Process} {answer : Answer} →
      step p ≡ At (asking at (act.Arrive kind arg given) wanted) go → FitWay F (go answer) ms r → FitWay F p (Came at kind arg ∷ ms) r
  left : {p r : Process} {ms : List Meeting} {at : Place} {wanted : Asked} {go : Answer → Process} {answer : Answer} →
      step p ≡ At (asking at act.Depart wanted) go → F wanted.1 answer → FitWay F (go answer) ms r → FitWay F p (Left answer ∷ ms) r

pub fit_then : {F : Wanted → Answer → Type 0} (p q r : Process) (ms ns : List Meeting) → FitWay F p ms q → FitWay F q ns r → FitWay F p (ms ++ ns) r
fit_then p q r ms ns stop y = y
fit_then p q r ms ns (silent e x) y = silent e (fit_then _ q r ms ns x y)
fit_then p q r ms ns (alone e a b x) y = alone e a b (fit_then _ q r ms ns x y)
fit_then p q r (m ∷ ms) ns (came e x) y = came e (fit_then _ q r ms ns x y)
fit_then p q r (m ∷ ms) ns (left e f x) y = left e f (fit_then _ q r ms ns x y)

pub fit_reach : {F : Wanted → Answer → Type 0} (p q r : Process) (ns : List Meeting) → Reaches p q → FitWay F q ns r → FitWay F p ns r
fit_reach p q r ns here y = y
fit_reach p q r ns (later e x) y = silent e (fit_reach _ q r ns x y)

pub fit_one : {F : Wanted → Answer → Type 0} (p : Process) (at : Place) (a : Action) (w : Asked) (go : Answer → Process) (r : Answer)
    → step p ≡ At (asking at a w) go → (a ≡ act.Depart → F w.1 r) → FitWay F p (meeting at a r) (go r)
fit_one p at (act.Arrive kind arg given) w go r e f = came e stop
fit_one p at act.Depart w go r e f = left e (f refl) stop
fit_one p at _ w go r e f = alone e refl refl stop
