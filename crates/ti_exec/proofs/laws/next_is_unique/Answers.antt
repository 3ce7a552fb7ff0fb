use Rattle.std.proofs.Common.{◌≡◌, subst}
use Rattle.ti_lang.specs.Meaning.NextStep.{IsNext}
use Rattle.ti_lang.proofs.Lemmas.{after_same, next_same}
use Rattle.ti_exec.specs.Standing.{initial_process_of}
use Rattle.ti_exec.proofs.laws.next_is_unique.Goals as goal

pub returns : goal.returns
returns c = λ s m n x y.
    let same : x.0 ≡ y.0 = after_same (initial_process_of s) x.0 y.0 s.told x.1 y.1 in
    next_same y.0 m n (subst (λ p. IsNext p m) same x.2) y.2
