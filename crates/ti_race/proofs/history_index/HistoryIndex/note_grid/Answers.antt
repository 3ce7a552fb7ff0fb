use Rattle.std.proofs.Common.{refl, ◌∙◌, sym, subst, Option, Some}
use Rattle.std.specs.HashMap.{Updates}
use Rattle.ti_race.specs.declared.spots.IdKey.{IdKey}
use Rattle.ti_lang.specs.Meaning.Spots.{grid_told}
use Rattle.ti_race.specs.contracts.spots.IdKeyPartialEq.TheImpl as name_eq
use Rattle.ti_race.specs.declared.grid_layout.GridLayout.{GridLayout}
use Rattle.ti_race.specs.Mirrors.HistoryIndex.{id_key, IsLayoutIn, lying_in}
use Rattle.ti_race.proofs.IndexedObjects.{grids_more, grids_stay, no_making, no_name, no_some, same_at, on_err}
use Rattle.ti_race.proofs.history_index.HistoryIndex.note_grid.Goals as goal

pub returns-in_ok-insert-clause-grids : goal.returns-in_ok-insert-clause-grids
returns-in_ok-insert-clause-grids c h counted tells id =
    grids_more c.args.self.now.grids c.insert.new.self c.args.entry.now h c.in-Some.made c.grid_made-lying.result (sym c.makes_grid.ensures ∙ c.if-makes_grid.true) (sym c.grid_of.ensures ∙ c.in-Some.is)
    (subst (λ (k : IdKey). Updates (name_eq.ghosts).eq c.args.self.now.grids c.insert.new.self k (Some c.grid_made-lying.result))
    c.id_key.ensures c.in_ok-insert.ensures.updates) (c.grid_made-lying.ensures c.args.entry.now h counted tells refl) tells id

pub returns-in_default-clause-grids : goal.returns-in_default-clause-grids
returns-in_default-clause-grids c h counted tells id = grids_stay c.args.entry.now h id _
    (no_name c.args.entry.now id (sym c.grid_of.ensures ∙ no_some c.grid_of.result (λ made is. c.in_default.not-Some made is))) (tells id)

pub returns-else-makes_grid-clause-grids : goal.returns-else-makes_grid-clause-grids
returns-else-makes_grid-clause-grids c h counted tells id = grids_stay c.args.entry.now h id _ (no_making c.args.entry.now id (sym c.makes_grid.ensures ∙ c.if-makes_grid.false)) (tells id)

pub returns-in_err-insert-clause-kept : goal.returns-in_err-insert-clause-kept
returns-in_err-insert-clause-kept c = on_err c.from_residual.result
    (λ h tells id. subst (λ (l : Option (Option GridLayout)). IsLayoutIn h (lying_in l) (grid_told id h))
    (sym (same_at (name_eq.ghosts).eq c.args.self.now.grids c.insert.new.self (id_key id) c.in_err-insert.ensures.err)) (tells id))
