-- One to three dimensions, as a test and as a fact.
use Rattle.std.proofs.Common.{◌≡◌, ℕ, true, ◌&&◌, ap₂, arith}
use Rattle.std.proofs.lemmas.Bool.{le-leb}
use Rattle.std.proofs.lemmas.Bool.Decides.{nat_tests}
use Rattle.ti_base.specs.Points.{IsDim}
use Rattle.ti_base.specs.Forms.{is_dim}

pub dims_are : (n : ℕ) → is_dim n ≡ true → IsDim n
dims_are n h = grind (arith, nat_tests)

pub dim_is : (n : ℕ) → IsDim n → is_dim n ≡ true
dim_is n d = ap₂ (λ a b. a && b) (le-leb 1 n d.0) (le-leb n 3 d.1)
