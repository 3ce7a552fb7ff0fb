-- The test of a field's name.
use Rattle.std.proofs.Common.{◌≡◌, ◌↔◌, IsTrue, ℕ, Bool, List, map, codes, arith}
use Rattle.std.proofs.lemmas.Slice.Eq.{bytes_eq-Decides}
use Rattle.std.specs.Char.{to_ascii_lowercase}
use Rattle.ti_lsp_frames.specs.HeaderFields.{is_length_name}

pub is_test : (name : List ℕ) (b : Bool) → (IsTrue b ↔ (map to_ascii_lowercase name ≡ codes "content-length")) → b ≡ is_length_name name
is_test name b h = grind (arith, bytes_eq-Decides (map to_ascii_lowercase name) (codes "content-length"))
