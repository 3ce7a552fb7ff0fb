-- The enclosing foreach loops of an item of work: the points of their iterations and the dimensions of their variables.
use Rattle.std.specs.Prelude.{ℕ, ◌==◌, if◌then◌else◌, List, [], ◌∷◌, Option}
use Rattle.ti_base.specs.declared.point.Point.{Point}
use Rattle.ti_base.specs.declared.value.Value.TheVariants as v
use Rattle.ti_lang.specs.Program.Classes.{ProgramView}
use Rattle.ti_lang.specs.Typing.Kinds.{dim_of_type}
use Rattle.ti_lang.specs.Typing.TextTypes.{type_at}
use Rattle.ti_lang.specs.Meaning.Held.{Held, Plain, no_value}
use Rattle.ti_lang.specs.Meaning.Processes.{Loop, While, Foreach, ContItem, Behind}

-- ---- points

-- the iteration of a foreach loop: its variable, by number, and the point that this holds
pub record Turn : Type 0 where
  pub variable : ℕ
  pub point : Point

-- the iteration of a loop added to those of the enclosing loops; only a `foreach` in progress adds one
abbrev pub turn_before : Loop → List Turn → List Turn
turn_before (While at c update body) turns = turns
turn_before (Foreach at variable domain [] body) turns = turns
turn_before (Foreach at variable domain (p ∷ ps) body) turns = record { variable = variable; point = p } ∷ turns

-- the iterations of the foreach loops that are in progress in a continuation, the innermost first
abbrev pub turns_at : List ContItem → List Turn
turns_at [] = []
turns_at (Behind loop ∷ left) = turn_before loop (turns_at left)
turns_at (w ∷ left) = turns_at left

-- the value of a foreach variable: the point of the innermost loop with this variable
abbrev pub point_at : ℕ → List Turn → Held
point_at number [] = no_value
point_at number (t ∷ ts) = if t.variable == number then Plain (v.Pt t.point) else point_at number ts

-- ---- dimensions

-- the dimensions of foreach variables in the body of a loop, from those outside it
abbrev pub dims_inside : ProgramView → Option ℕ → Loop → (ℕ → ℕ) → ℕ → ℕ
dims_inside program this (While at c update body) dims number = dims number
dims_inside program this (Foreach at variable domain points body) dims number =
    if variable == number then dim_of_type (type_at program this dims domain) else dims number

-- the static dimensions of the foreach variables whose loops are in progress in a continuation; 1 for other variables
abbrev pub dims_at : ProgramView → Option ℕ → List ContItem → ℕ → ℕ
dims_at program this [] number = 1
dims_at program this (Behind loop ∷ left) number = dims_inside program this loop (dims_at program this left) number
dims_at program this (w ∷ left) number = dims_at program this left number
