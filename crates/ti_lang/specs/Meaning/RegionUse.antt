-- When a region that is to be deleted is still in use.
use Rattle.std.specs.Prelude.{ℕ, ◌==◌, Bool, false, ◌&&◌, ◌||◌, not, Option, Some, None}
use Rattle.std.specs.List.{list_any}
use Rattle.std.specs.Option.{option_map_or}
use Rattle.ti_base.specs.declared.value.Id.{Id}
use Rattle.ti_base.specs.declared.value.Value.{Value}
use Rattle.ti_base.specs.Cells.{Cell, thing_of, named_by}
use Rattle.ti_lang.specs.Program.Classes.{ProgramView}
use Rattle.ti_lang.specs.Meaning.Histories.{History}
use Rattle.ti_lang.specs.Meaning.RoundsOf.{was_counted}
use Rattle.ti_lang.specs.Meaning.RegionsOf.{is_gone}
use Rattle.ti_lang.specs.Meaning.HeapOf.{cells_of, cell_value}

-- the value refers into region r
abbrev pub names : ℕ → Option Value → Bool
names r None = false
names r (Some value) = option_map_or (λ (id : Id). id.region == r) (named_by value) false

-- the cell is neither in region r nor in a deleted region
abbrev pub is_outside : ℕ → Cell → History → Bool
is_outside r cell h = not ((thing_of cell).region == r) && not (is_gone (thing_of cell).region h)

-- region r is in use if a cell outside refers into it, or if some process arrived at the round that deletes it with a count above
-- 0, that is, with variables that refer into it
abbrev pub is_in_use : ProgramView → ℕ → ℕ → History → Bool
is_in_use program r round h =
    list_any (λ cell. is_outside r cell h && names r (cell_value program cell h)) (cells_of program h) || was_counted round h
