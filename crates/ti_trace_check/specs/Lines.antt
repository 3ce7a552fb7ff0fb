-- Lines of a text.
use Rattle.std.specs.Prelude.{ℕ, ◌==◌, Bool, not, if◌then◌else◌, List, [], ◌∷◌}
use Rattle.std.specs.List.{list_all}

-- no byte is a line end
abbrev pub has_no_end : List ℕ → Bool
has_no_end bytes = list_all (λ c. not (c == 10)) bytes

-- the first line of a text: its bytes up to and with the first line end, or all of them where there is none
abbrev pub first_line : List ℕ → List ℕ
first_line [] = []
first_line (c ∷ cs) = if c == 10 then c ∷ [] else c ∷ first_line cs
