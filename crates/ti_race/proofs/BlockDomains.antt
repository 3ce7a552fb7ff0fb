-- The test for domains of blocks accepts exactly the canonical domains with few enough points.
use Rattle.std.proofs.Common.{◌≡◌, ◌↔◌, ap, ap₂, ℕ, ◌<◌, ◌≤◌, nat_le, leb-true, Bool, false, ◌&&◌, IsTrue, arith}
use Rattle.ti_base.specs.declared.point.Rect.{Rect}
use Rattle.ti_base.specs.Forms.{is_rect}
use Rattle.ti_base.specs.Rects.{IsRect, size_of}
use Rattle.ti_lang.specs.Meaning.HeapOf.{most_cells}
use Rattle.ti_lang.specs.Meaning.Spots.{is_block}
use Rattle.ti_race.proofs.Seen.{not_true}

pub no_block : (r : Rect) → (IsTrue (is_rect r) ↔ IsRect r) → (IsRect r → ⊥) → is_block r ≡ false
no_block r told formless = ap (λ b. b && nat_le (size_of r) most_cells) (not_true (is_rect r) (λ e. formless (told.0 e)))

pub block_sized : (r : Rect) (small : Bool) → (IsTrue (is_rect r) ↔ IsRect r) → IsRect r → nat_le (size_of r) most_cells ≡ small → is_block r ≡ small
block_sized r small told form size = ap₂ (λ a b. a && b) (told.1 form) size

pub too_many : (size count : ℕ) → count ≡ size → 2147483647 < count → nat_le size most_cells ≡ false
too_many size count same many = not_true (nat_le size most_cells) (λ e. never (leb-true size most_cells e))
  where
    never : size ≤ most_cells → ⊥
    never few = absurd (omega arith)
