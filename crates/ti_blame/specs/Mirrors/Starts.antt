-- Mirrors the code, for contracts of private functions: the initial state of the worklist algorithm.
use Rattle.std.specs.Prelude.{◌≡◌, ℕ, Bool, List, [], get_or, None}
use Rattle.std.specs.List.{list_any}
use Rattle.std.specs.BTreeMap.{is_at}
use Rattle.std.specs.BTreeSet.{contains}
use Rattle.ti_blame.specs.declared.mark.Mark.{Mark}
use Rattle.ti_blame.specs.declared.mark.MarkKey.{MarkKey}
use Rattle.ti_blame.specs.declared.propagation.Propagation.{Propagation}
use Rattle.ti_blame.specs.Keys.{key_of, key_cmp}

-- the key is that of one of these annotations
abbrev pub has_key : List Mark → MarkKey → Bool
has_key names n = list_any (λ m. is_at (key_cmp n) (key_of m)) names

-- these annotations are assumed, and nothing has been ruled out
pub record IsStart (names : List Mark) (s : Propagation) : Type 0 where
  pub assumed : (n : MarkKey) → contains key_cmp s.assumed n ≡ has_key names n
  pub worklist : s.worklist.items ≡ []
  pub blamed : s.blamed ≡ None
  pub done : (i : ℕ) → get_or s.done.items i 0 ≡ 0
