use Rattle.std.proofs.Common.{◌++◌, false, is_some, option_map, ap, sym, ◌∙◌}
use Rattle.ti_syntax.specs.Trees.Views.{maybe_of}
use Rattle.ti_lang.specs.Program.Views.{expression_of, type_use_of, extent_of}
use Rattle.ti_lang.specs.Typing.Expressions.{and_then_both}
use Rattle.ti_rules.specs.Mirrors.First.{earlier_of, earliest}
use Rattle.ti_rules.specs.InitialTypes.{region_type, dims_spread, new_grid_type}
use Rattle.ti_rules.specs.Broken.Refused.{both_judged, operand_refusal}
use Rattle.ti_rules.specs.Broken.Words.{type_word_refusals}
use Rattle.ti_rules.specs.Broken.RightSides.{region_refusals, dims_refusals, one_dim_spread}
use Rattle.ti_rules.proofs.Lemmas.{first_append}
use Rattle.ti_types.specs.Results.{LiteralTypes, literal_of}
use Rattle.ti_check.specs.Mirrors.RightSides.{summary_grid_type, summary_fits_other_dims}
use Rattle.ti_check.specs.Mirrors.Contexts.{program_at, scope_at}
use Rattle.ti_check.proofs.Grids.{grid_told, grid_refused}
use Rattle.ti_check.proofs.context.CheckContext.new_grid.Goals as goal

pub returns-clause-ty : goal.returns-clause-ty
returns-clause-ty c =
    let p = program_at c.args.self in
    let s = scope_at c.args.self in
    let region = region_type p s (maybe_of expression_of c.args.region.now) in
    let element = (type_use_of c.args.element.now).type in
    c.maybe_grid.ensures ∙ ap (λ o. and_then_both o (option_map literal_of c.spread-spread.result.types) (summary_grid_type element)) c.region-region.ensures.ty
    ∙ ap (λ o. and_then_both region o (summary_grid_type element)) c.spread-spread.ensures.types ∙ grid_told element region (dims_spread p s (extent_of c.args.dims.now))

pub returns-clause-first : goal.returns-clause-first
returns-clause-first c =
    let p = program_at c.args.self in
    let s = scope_at c.args.self in
    let region = region_type p s (maybe_of expression_of c.args.region.now) in
    let over = dims_spread p s (extent_of c.args.dims.now) in
    let element = (type_use_of c.args.element.now).type in
    let regions = region_refusals p s (maybe_of expression_of c.args.region.now) in
    let words = type_word_refusals false (type_use_of c.args.element.now) in
    let dims = dims_refusals p s (extent_of c.args.dims.now) in
    let own = both_judged region over (λ r d. operand_refusal c.args.place (is_some (new_grid_type element r d)) (is_some (new_grid_type element r (one_dim_spread d)))) in
    c.earlier_of.ensures
    ∙ ap (λ a. earlier_of a c.grid_refusal.result)
    (c.earlier_of-parts.ensures ∙ ap (λ a. earlier_of a c.spread-spread.result.first) (c.earlier_of-words.ensures
    ∙ ap (λ a. earlier_of a c.type_words.result) c.region-region.ensures.first ∙ ap (earlier_of (earliest regions)) c.type_words.ensures
    ∙ sym (first_append regions words))
    ∙ ap (earlier_of (earliest (regions ++ words))) c.spread-spread.ensures.first ∙ sym (first_append (regions ++ words) dims))
    ∙ ap (earlier_of (earliest ((regions ++ words) ++ dims)))
    (c.grid_refusal.ensures
    ∙ ap (λ o. earliest (both_judged o (option_map literal_of c.spread-spread.result.types)
    (λ r (l : LiteralTypes). operand_refusal c.args.place (is_some (summary_grid_type element r l)) (summary_fits_other_dims r l)))) c.region-region.ensures.ty
    ∙ ap (λ o. earliest (both_judged region o (λ r (l : LiteralTypes). operand_refusal c.args.place (is_some (summary_grid_type element r l)) (summary_fits_other_dims r l)))) c.spread-spread.ensures.types
    ∙ ap earliest (grid_refused c.args.place element region over))
    ∙ sym (first_append ((regions ++ words) ++ dims) own)
