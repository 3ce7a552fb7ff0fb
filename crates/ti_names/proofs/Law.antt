-- A tree is proved to have one resolved program if it breaks no naming rule, and a first broken rule otherwise.
use Rattle.std.proofs.Common.{◌≡◌, ◌⊎◌, inl, inr, [], ◌++◌, flat_map, Contains, Option, None, Some, refl, sym, subst, ◌∙◌, arith}
use Rattle.ti_syntax.specs.Trees.Classes.{TextTree}
use Rattle.ti_lang.specs.Program.Classes.{ProgramView}
use Rattle.ti_lang.specs.Nodes.{nodes_of}
use Rattle.ti_lang.specs.Numbering.{Numbers}
use Rattle.ti_rules.specs.declared.refusal.Refusal.{Refusal}
use Rattle.ti_rules.specs.Mirrors.First.{earliest}
use Rattle.ti_rules.specs.Refusals.{IsFirstRefusal}
use Rattle.ti_rules.specs.MainForm.{main_refusals}
use Rattle.ti_rules.specs.BrokenNames.{node_refusals, name_refusals, BreaksNames}
use Rattle.ti_rules.proofs.Lemmas.{first_is, first_none}
use Rattle.ti_names.specs.Mirrors.Numbered.{number_program}
use Rattle.ti_names.proofs.CleanNodes.{empty_left, empty_right, clean_of, of_clean}
use Rattle.ti_names.proofs.CleanPrograms.{clean_program}
use Rattle.ti_names.proofs.TotalPrograms.{total_program}
use Rattle.ti_names.proofs.OnlyOne.{only_program}
use Rattle.ti_names.proofs.MainForms.{clean_main, main_of_clean}

pub accepted : (text : TextTree) → earliest (name_refusals text) ≡ None → Numbers text (number_program text)
accepted text e =
    let none = first_none (name_refusals text) e in
    let nodes = flat_map node_refusals (nodes_of text) in
    total_program text (clean_of (nodes_of text) (empty_left nodes (main_refusals text) none)) (main_of_clean text (empty_right nodes (main_refusals text) none))

-- by what counts of all that is wrong
pub program_or_refusal : (text : TextTree) → ((program : ProgramView) × Numbers text program) ⊎ ((r : Refusal) × IsFirstRefusal (BreaksNames text) r)
program_or_refusal text = by (earliest (name_refusals text)) refl
  where
    by : (found : Option Refusal) → earliest (name_refusals text) ≡ found → ((program : ProgramView) × Numbers text program) ⊎ ((r : Refusal) × IsFirstRefusal (BreaksNames text) r)
    by None e = inl (number_program text, accepted text e)
    by (Some r) e = inr (r, first_is (name_refusals text) r e)

pub unbroken_program : (text : TextTree) (program : ProgramView) → Numbers text program → (r : Refusal) → BreaksNames text r → ⊥
unbroken_program text program numbers r broken =
    let nodes = of_clean (nodes_of text) (clean_program numbers) in
    let main = clean_main text program.main numbers.main in
    nothing (subst (λ rs. Contains rs r) (λ j. nodes j ++ main j) broken)
  where
    nothing : Contains [] r → ⊥
    nothing c = omega (arith, c.1)

pub same_program : (text : TextTree) (p q : ProgramView) → Numbers text p → Numbers text q → p ≡ q
same_program text p q a b = only_program a ∙ sym (only_program b)
