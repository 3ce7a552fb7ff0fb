-- Why no marking of a program is accepted: a chain of its constraints to the first collective that no marking aligns.
use Rattle.std.specs.Prelude.{List, ◌++◌, Option, Some, None}
use Rattle.ti_base.specs.declared.place.Place.{Place}
use Rattle.ti_lang.specs.Program.Classes.{ProgramView}
use Rattle.ti_blame.specs.declared.mark.Mark.{Mark}
use Rattle.ti_blame.specs.declared.chains.ChainStep.{ChainStep}
use Rattle.ti_blame.specs.Chains.{IsChain}
use Rattle.ti_infer.specs.declared.inference.Unaligned.{Unaligned}
use Rattle.ti_infer.specs.Candidates.{candidate_marks}
use Rattle.ti_infer.specs.Answer.{IsGreatestMarking, IsFirstUnaligned}
use Rattle.ti_infer.specs.Mirrors.Implications.{all_reasons, program_edges}
use Rattle.ti_infer.specs.Mirrors.Fits.{fit_edges}

-- The steps are a chain of constraints of the program to the collective at this place: those that its statements make, and those on where
-- annotations can be. The law `edges_are_rules` says that these are the rules.
abbrev pub IsProgramChain : ProgramView → Place → List ChainStep → Type 0
IsProgramChain p at steps = IsChain (candidate_marks p) (all_reasons p) (program_edges p ++ fit_edges p) at steps

-- no marking of the program is accepted, this is the first collective up to which none is, and the steps are a chain to it
pub record IsUnaligned (p : ProgramView) (found : Unaligned) : Type 0 where
  pub first : IsFirstUnaligned p found.place
  pub chain : IsProgramChain p found.place found.steps.items

-- why no marking is accepted, or none if there is a greatest accepted one
abbrev pub GivesUnaligned : ProgramView → Option Unaligned → Type 0
GivesUnaligned p None = (marks : List Mark) × IsGreatestMarking p marks
GivesUnaligned p (Some found) = IsUnaligned p found
