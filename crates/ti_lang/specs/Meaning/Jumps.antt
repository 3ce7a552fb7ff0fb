-- Jumps out of the innermost loop in progress, whose mark in a continuation is its item `Behind`.
use Rattle.std.specs.Prelude.{Bool, true, false, List, [], ◌∷◌}
use Rattle.ti_lang.specs.Meaning.Processes.{Variable, ContItem, End, Behind}
use Rattle.ti_lang.specs.Meaning.Scoping.{without_variables}
use Rattle.ti_lang.specs.Meaning.Performing.{declared_in}

-- there is a loop in progress in the continuation
abbrev pub has_mark : List ContItem → Bool
has_mark [] = false
has_mark (Behind loop ∷ left) = true
has_mark (w ∷ left) = has_mark left

-- the continuation from the mark on: for a `continue`, the loop's update and its next iteration are left
abbrev pub from_mark : List ContItem → List ContItem
from_mark [] = []
from_mark (Behind loop ∷ left) = Behind loop ∷ left
from_mark (w ∷ left) = from_mark left

-- the continuation after the mark: for a `break`, the loop is left
abbrev pub past_mark : List ContItem → List ContItem
past_mark [] = []
past_mark (Behind loop ∷ left) = left
past_mark (w ∷ left) = past_mark left

-- the variables in scope at the mark: without those of the blocks that the jump leaves
abbrev pub variables_at_mark : List ContItem → List Variable → List Variable
variables_at_mark [] variables = variables
variables_at_mark (Behind loop ∷ left) variables = variables
variables_at_mark (End x ∷ left) variables = variables_at_mark left (without_variables (declared_in x) variables)
variables_at_mark (w ∷ left) variables = variables_at_mark left variables
