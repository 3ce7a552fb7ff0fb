use Rattle.std.proofs.Common.{◌≡◌, ℕ, ◌<◌, Some, slice_get}
use Rattle.ti_syntax.specs.declared.token.Token.{Token}
use Rattle.ti_explain.proofs.expected.first_at.Given as goal

abbrev pub invariant-loop-i : goal.invariant-loop-i
invariant-loop-i l = (k : ℕ) (t : Token) → k < l.i → slice_get l.tokens k ≡ Some t → t.place ≡ l.place → ⊥
