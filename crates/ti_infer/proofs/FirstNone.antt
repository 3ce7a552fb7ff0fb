-- There is no first refusal if and only if there is no refusal.
use Rattle.std.proofs.Common.{◌≡◌, Bool, true, false, if◌then◌else◌, List, [], ◌∷◌, Option, Some, None, is_some, not, refl}
use Rattle.ti_rules.specs.declared.refusal.Refusal.{Refusal}
use Rattle.ti_rules.specs.Refusals.{counts_before}
use Rattle.ti_rules.specs.Mirrors.First.{earlier_of, earliest}
use Rattle.ti_infer.specs.Mirrors.Fits.{is_none as no_refusal}

some_sooner : (r : Refusal) (o : Option Refusal) → not (is_some (earlier_of (Some r) o)) ≡ false
unfolding earlier_of
some_sooner r None = refl
some_sooner r (Some s) = by (counts_before s r)
  where
    by : (b : Bool) → not (is_some (if b then Some s else Some r)) ≡ false
    by true = refl
    by false = refl

pub none_first : (rs : List Refusal) → not (is_some (earliest rs)) ≡ no_refusal rs
unfolding earliest
none_first [] = refl
none_first (r ∷ rs) = some_sooner r (earliest rs)
