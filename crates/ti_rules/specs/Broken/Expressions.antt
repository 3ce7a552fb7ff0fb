-- The errors of expressions by the typing rules, form by form.
use Rattle.std.specs.Prelude.{Bool, false, not, ◌||◌, ◌==◌, List, [], ◌∷◌, ◌++◌, map, flat_map, length, is_some, slice_get}
use Rattle.ti_base.specs.declared.place.Place.{Place}
use Rattle.ti_lang.specs.Program.Types.{ValueType, Pt, Grid}
use Rattle.ti_lang.specs.Program.Expressions.{NumberedExp, NumberedExps, place_of_numbered}
use Rattle.ti_lang.specs.Program.Expressions as x
use Rattle.ti_lang.specs.Program.Classes.{ProgramView}
use Rattle.ti_lang.specs.Program.Scope.{ScopeContents}
use Rattle.ti_lang.specs.Typing.Kinds.{is_point_type}
use Rattle.ti_lang.specs.Typing.Fits.{casts}
use Rattle.ti_lang.specs.Typing.Operators.{unary_type, binary_type}
use Rattle.ti_lang.specs.Typing.Expressions.{operand_type, operands, bounds, range_count, is_int, all_ints, rect_literal, index_type, select_type}
use Rattle.ti_rules.specs.declared.refusal.Refusal.{Refusal}
use Rattle.ti_lang.specs.Typing.Alike.{erase_dims}
use Rattle.ti_rules.specs.Parts.{parts}
use Rattle.ti_rules.specs.Broken.Refused.{judged, both_judged, operand_refusal}
use Rattle.ti_rules.specs.Broken.Misplaced.{misplaced, all_misplaced, bounds_misplaced}
use Rattle.ti_rules.specs.Broken.Calls.{call_refusals, member_refusals}
use Rattle.ti_rules.specs.Broken.Words.{type_word_refusals}

-- the positions of arguments
abbrev pub places_of : NumberedExps → List Place
places_of x.NoExp = []
places_of (x.MoreExp a rest) = place_of_numbered a ∷ places_of rest

-- indices that aren't accepted would be in another number or with another number of dimensions
abbrev pub other_indices : ValueType → List ValueType → Bool
other_indices (Pt n) ts = not (length ts == 1)
other_indices (Grid t n local) (u ∷ []) = is_int u || is_point_type u
other_indices (Grid t n local) ts = not (length ts == n)
other_indices _ ts = false

-- the errors of one expression in a scope, apart from those of its operands
abbrev pub refusals_at : ProgramView → ScopeContents → NumberedExp → List Refusal
refusals_at p s (x.Call at method args) =
    all_misplaced p s args ++ judged (operands p s args) (λ ts. call_refusals at (places_of args) (slice_get p.methods method) ts)
refusals_at p s (x.OwnCall at method args) =
    all_misplaced p s args ++ judged (operands p s args) (λ ts. call_refusals at (places_of args) (slice_get p.methods method) ts)
-- coordinates are ints
refusals_at p s (x.Point at xs) =
    all_misplaced p s xs ++ judged (operands p s xs) (λ ts. operand_refusal at (all_ints ts) false)
-- the bounds and strides are ints, or those of a single range are points of the same dimension
refusals_at p s (x.Rect at ranges) =
    bounds_misplaced p s ranges ++ judged (bounds p s ranges) (λ ts. operand_refusal at (is_some (rect_literal (range_count ranges) ts))
    (is_some (rect_literal (range_count ranges) (map erase_dims ts))))
refusals_at p s (x.Unary at op a) =
    misplaced p s a ++ judged (operand_type p s a) (λ t. operand_refusal at (is_some (unary_type op t)) false)
refusals_at p s (x.Binary at op a b) =
    (misplaced p s a ++ misplaced p s b) ++ both_judged (operand_type p s a) (operand_type p s b)
    (λ t u. operand_refusal at (is_some (binary_type op t u)) (is_some (binary_type op (erase_dims t) (erase_dims u))))
-- the target type of a cast can't be single
refusals_at p s (x.Cast at to a) =
    (type_word_refusals false to ++ misplaced p s a) ++ judged (operand_type p s a)
    (λ t. operand_refusal at (casts to.type t) (casts (erase_dims to.type) (erase_dims t)))
-- the receiver is an object of a class that has the field
refusals_at p s (x.Select at a name) =
    misplaced p s a ++ judged (operand_type p s a) (λ t. operand_refusal at (is_some (select_type p t name)) false)
refusals_at p s (x.Member at a name args) =
    (misplaced p s a ++ all_misplaced p s args) ++ both_judged (operand_type p s a) (operands p s args)
    (λ t ts. member_refusals p at (places_of args) name t ts)
refusals_at p s (x.Index at a xs) =
    (misplaced p s a ++ all_misplaced p s xs) ++ both_judged (operand_type p s a) (operands p s xs)
    (λ t ts. operand_refusal at (is_some (index_type t ts)) (other_indices t ts))
-- a literal, a name, `this`, `Ti.thisProc()` and `Ti.numProcs()` break no rule
refusals_at p s e = []

-- the errors of an expression and all expressions in it
abbrev pub exp_refusals : ProgramView → ScopeContents → NumberedExp → List Refusal
exp_refusals p s e = flat_map (refusals_at p s) (parts e)
