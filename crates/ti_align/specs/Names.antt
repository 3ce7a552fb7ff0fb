-- Names of objects and grids and numbers of regions in a run have 32 bits.
use Rattle.std.specs.Prelude.{◌≡◌, ℕ, true, List, Some}
use Rattle.ti_base.specs.declared.value.Id.{Id}
use Rattle.ti_base.specs.declared.entry.Entry.{Entry}
use Rattle.ti_base.specs.Cells.{Grid}
use Rattle.ti_lang.specs.Meaning.Answers.{IsCount, IsName}
use Rattle.ti_lang.specs.Meaning.Processes.{RunConfig}
use Rattle.ti_lang.specs.Meaning.Histories.{History, history_of}
use Rattle.ti_lang.specs.Meaning.RegionsOf.{is_made}
use Rattle.ti_lang.specs.Meaning.HeapOf.{class_of_object, grid_of_id}

-- all objects and grids that exist have names of 32 bits, and all regions that were made have numbers of 32 bits
pub record NamesFit (h : History) : Type 0 where
  pub objects : (id : Id) (class : ℕ) → class_of_object id h ≡ Some class → IsName (Some id)
  pub grids : (id : Id) (g : Grid) → grid_of_id id h ≡ Some g → IsName (Some id)
  pub regions : (r : ℕ) → is_made r h ≡ true → IsCount r

-- the names of a run fit
abbrev pub RunNamesFit : RunConfig → List Entry → Type 0
RunNamesFit s es = NamesFit (history_of es)
