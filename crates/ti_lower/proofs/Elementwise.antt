-- Proves that the positions and slots in the code of copies and exchanges are those of the specification.
use Rattle.std.proofs.Common.{◌≡◌, refl, ℕ, ◌+◌, List, [], ◌∷◌}
use Rattle.ti_base.specs.declared.place.Place.{Place}
use Rattle.ti_code.specs.declared.instr.Instr.{Instr}
use Rattle.ti_code.specs.declared.instr.Instr.TheVariants as i
use Rattle.ti_lower.specs.StmtCode.{elements_code, copied_code}

abbrev pub copied : Place → (r w q a b d : ℕ) → List Instr
copied p r w q a b d =
    i.Jump a ∷ i.Load w ∷ i.Load q ∷ i.Load r ∷ i.Load q ∷ i.GetElem p ∷ i.PutElem p ∷ i.Next q b ∷ i.Jump d ∷ i.Trim r ∷ i.Pop ∷ []

pub elements_copied : (p : Place) (n k r w q a b d : ℕ) → r ≡ n → w ≡ n + 1 → q ≡ n + 1 + 1 → a ≡ k + 1 + 1 + 1 + 1 + 1 + 1 + 1 → b ≡ k + 1 + 1 + 1 + 1 + 1 + 1 + 1 + 1 + 1
    → d ≡ k + 1 → copied p r w q a b d ≡ elements_code p n (copied_code p n) k
elements_copied p n k r w q a b d e f g h j m = rw (e, f, g, h, j, m) refl
