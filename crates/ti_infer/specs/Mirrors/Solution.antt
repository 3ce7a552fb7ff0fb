-- Mirrors the code, for contracts of private functions: the solution of the constraints of a program.
use Rattle.std.specs.Prelude.{◌≡◌, List, ◌++◌, Option, Some, None}
use Rattle.ti_base.specs.declared.place.Place.{Place}
use Rattle.ti_lang.specs.Program.Classes.{ProgramView}
use Rattle.ti_blame.specs.declared.mark.Mark.{Mark}
use Rattle.ti_blame.specs.Solutions.{IsSolution}
use Rattle.ti_blame.specs.Chains.{IsChain, CanHold}
use Rattle.ti_infer.specs.declared.inference.Solved.{Solved}
use Rattle.ti_infer.specs.declared.inference.Unaligned.{Unaligned}
use Rattle.ti_infer.specs.Candidates.{candidate_marks}
use Rattle.ti_infer.specs.Inferred.{IsInferred}
use Rattle.ti_infer.specs.Mirrors.Implications.{all_reasons, program_edges}
use Rattle.ti_infer.specs.Mirrors.Fits.{fit_edges}

-- these annotations and the first refuted collective are those of the program
pub record AreInferred (p : ProgramView) (marks : List Mark) (first : Option Place) : Type 0 where
  pub settled : IsSolution (candidate_marks p) (all_reasons p) (program_edges p ++ fit_edges p) marks first
  pub inferred : IsInferred p (candidate_marks p) marks first

-- the constraints of the program, and their solution
pub record IsSolved (p : ProgramView) (found : Solved) : Type 0 where
  pub all_names : found.names.items ≡ candidate_marks p
  pub all_items : found.items.items ≡ all_reasons p
  pub all_edges : found.edges.items ≡ program_edges p ++ fit_edges p
  pub solved : AreInferred p found.solution.marks.items found.solution.blamed

-- a chain of these constraints to the collective at this place, or none if it can hold
abbrev pub GivesChainTo : Solved → Place → Option Unaligned → Type 0
GivesChainTo found at None = CanHold found.names.items found.items.items found.edges.items at
GivesChainTo found at (Some u) = (u.place ≡ at) × IsChain found.names.items found.items.items found.edges.items at u.steps.items
