-- The errors of right sides, and of expressions inside statements.
use Rattle.std.specs.Prelude.{false, List, [], ◌++◌, map, flat_map, Option, is_some}
use Rattle.std.specs.Option.{option_map_or}
use Rattle.ti_lang.specs.Program.Expressions.{NumberedExp, place_of_numbered, numbered_ranges}
use Rattle.ti_lang.specs.Program.Statements.{NumberedDims, NumberedInit}
use Rattle.ti_lang.specs.Program.Statements as st
use Rattle.ti_lang.specs.Program.Classes.{ProgramView}
use Rattle.ti_lang.specs.Program.Scope.{ScopeContents}
use Rattle.ti_lang.specs.Typing.Expressions.{expr_type, operand_type}
use Rattle.ti_rules.specs.declared.rule.Rule.TheVariants.{Y6}
use Rattle.ti_rules.specs.declared.refusal.Refusal.{Refusal}
use Rattle.ti_rules.specs.Refusals.{refused_if}
use Rattle.ti_lang.specs.Typing.Alike.{erase_dims}
use Rattle.ti_rules.specs.InitialTypes.{is_region_type, region_type, Spread, Over, Ranged, dims_spread, new_grid_type, broadcast_type}
use Rattle.ti_rules.specs.Parts.{parts_of_ranges}
use Rattle.ti_rules.specs.Broken.Refused.{judged, both_judged, operand_refusal}
use Rattle.ti_rules.specs.Broken.Words.{type_word_refusals}
use Rattle.ti_rules.specs.Broken.Misplaced.{gives_nothing, misplaced, bounds_misplaced}
use Rattle.ti_rules.specs.Broken.Expressions.{refusals_at, exp_refusals}

-- the errors of an expression where no call is allowed
abbrev pub inner_refusals : ProgramView → ScopeContents → NumberedExp → List Refusal
inner_refusals p s e = exp_refusals p s e ++ misplaced p s e

-- the errors of an expression that is a whole right side: a call with a result is allowed
abbrev pub value_refusals : ProgramView → ScopeContents → NumberedExp → List Refusal
value_refusals p s e = exp_refusals p s e ++ refused_if (gives_nothing (expr_type p s e)) Y6 (place_of_numbered e)

-- the errors of the region of a `new`, if it has one
abbrev pub region_refusals : ProgramView → ScopeContents → Option NumberedExp → List Refusal
region_refusals p s region = option_map_or (inner_refusals p s) region []

-- the errors of the domain of a new grid; ranges are checked as in a literal
abbrev pub dims_refusals : ProgramView → ScopeContents → NumberedDims → List Refusal
dims_refusals p s (st.Domain e) = inner_refusals p s e
dims_refusals p s (st.Ranges ranges) =
    flat_map (refusals_at p s) (parts_of_ranges (numbered_ranges ranges)) ++ bounds_misplaced p s (numbered_ranges ranges)

-- the domain with each number of dimensions replaced by 1
abbrev pub one_dim_spread : Spread → Spread
one_dim_spread (Over t) = Over (erase_dims t)
one_dim_spread (Ranged ranges ts) = Ranged ranges (map erase_dims ts)

-- the errors of a whole right side
abbrev pub initial_refusals : ProgramView → ScopeContents → NumberedInit → List Refusal
initial_refusals p s (st.Value e) = value_refusals p s e
initial_refusals p s (st.NewRegion at) = []
-- the region of a new object is a region
initial_refusals p s (st.NewObject at region class) =
    region_refusals p s region ++ judged (region_type p s region) (λ r. operand_refusal at (is_region_type r) false)
-- the region of a new grid is a region, its domain is rectangular, and its elements aren't single
initial_refusals p s (st.NewGrid at region element dims_at dims) =
    ((region_refusals p s region ++ type_word_refusals false element) ++ dims_refusals p s dims)
    ++ both_judged (region_type p s region) (dims_spread p s dims) (λ r d. operand_refusal at (is_some (new_grid_type element.type r d))
    (is_some (new_grid_type element.type r (one_dim_spread d))))
-- the root of a broadcast is an int, and the type of its value can be broadcast
initial_refusals p s (st.Broadcast at e root) =
    (inner_refusals p s e ++ inner_refusals p s root) ++ both_judged (operand_type p s e) (operand_type p s root)
    (λ t r. operand_refusal at (is_some (broadcast_type t r)) false)
