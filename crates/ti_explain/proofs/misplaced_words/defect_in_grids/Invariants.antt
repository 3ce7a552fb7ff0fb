use Rattle.std.proofs.Common.{◌≡◌, map, drop}
use Rattle.ti_syntax.specs.Trees.Views.{grid_of}
use Rattle.ti_explain.specs.MisplacedWords.{defect_in_grids}
use Rattle.ti_explain.proofs.misplaced_words.defect_in_grids.Given as goal

abbrev pub invariant-loop-grid : goal.invariant-loop-grid
invariant-loop-grid l = defect_in_grids l.place (map grid_of l.grids) ≡ defect_in_grids l.place (map grid_of (drop l.grid-index l.grids))
