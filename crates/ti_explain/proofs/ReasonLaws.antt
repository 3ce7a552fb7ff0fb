-- A list of reasons is empty exactly if its length is 0.
use Rattle.std.proofs.Common.{◌≡◌, ◌==◌, not, List, [], ◌∷◌, length, refl, ap, sym, ne_eqb, arith}
use Rattle.ti_explain.specs.declared.reason.RefusalReason.{RefusalReason}
use Rattle.ti_explain.specs.NameReasons.{has_reason}

pub has_reason_is : (l : List RefusalReason) → has_reason l ≡ not (length l == 0)
has_reason_is [] = refl
has_reason_is (r ∷ rest) = sym (ap not (ne_eqb (length (r ∷ rest)) 0 (λ is. omega (arith, is))))
