-- The errors of an expression, of a right side and of what is stored are at their positions.
use Rattle.std.proofs.Common.{false, List, map, Option, Some, None, is_some}
use Rattle.std.proofs.Common.{slice_get}
use Rattle.ti_base.specs.declared.place.Place.{Place}
use Rattle.ti_lang.specs.Program.Expressions.{NumberedExp, NumberedExps, NumberedRange}
use Rattle.ti_lang.specs.Program.Expressions.{NumberedRanges, numbered_ranges, place_of_numbered}
use Rattle.ti_lang.specs.Program.Expressions as e
use Rattle.ti_lang.specs.Program.Statements.{NumberedDims, NumberedInit}
use Rattle.ti_lang.specs.Program.Statements as st
use Rattle.ti_lang.specs.Program.Classes.{ProgramView}
use Rattle.ti_lang.specs.Program.Scope.{ScopeContents}
use Rattle.ti_lang.specs.Typing.Alike.{erase_dims}
use Rattle.ti_lang.specs.Typing.Fits.{casts}
use Rattle.ti_lang.specs.Typing.Operators.{unary_type, binary_type}
use Rattle.ti_lang.specs.Typing.Expressions.{expr_type, operand_type, operands, bounds, range_count}
use Rattle.ti_lang.specs.Typing.Expressions.{all_ints, rect_literal, index_type, select_type}
use Rattle.ti_rules.specs.declared.rule.Rule.TheVariants.{Y6}
use Rattle.ti_rules.specs.InitialTypes.{is_region_type, region_type, dims_spread, new_grid_type}
use Rattle.ti_rules.specs.InitialTypes.{broadcast_type}
use Rattle.ti_rules.specs.declared.refusal.Refusal.{Refusal}
use Rattle.ti_rules.specs.Parts.{parts, parts_of_all, parts_of_range, parts_of_ranges}
use Rattle.ti_rules.specs.Broken.Expressions.{places_of, other_indices, refusals_at, exp_refusals}
use Rattle.ti_rules.specs.Broken.RightSides.{inner_refusals, value_refusals, region_refusals}
use Rattle.ti_rules.specs.Broken.RightSides.{dims_refusals, initial_refusals}
use Rattle.ti_rules.specs.Broken.RightSides.{one_dim_spread}
use Rattle.ti_rules.specs.Broken.Misplaced.{gives_nothing}
use Rattle.ti_rules.specs.Broken.Targets.{write_refusals}
use Rattle.ti_diagnostics.proofs.Places.Elements.{HoldsOfEach, nil, cons, both, each_of, either}
use Rattle.ti_diagnostics.proofs.Places.Programs.{ExpPlaced, ExpsPlaced, RangePlaced, RangesPlaced}
use Rattle.ti_diagnostics.proofs.Places.Programs.{OptionPlaced, DimsPlaced, InitPlaced}
use Rattle.ti_diagnostics.proofs.Places.Programs.{place_placed}
use Rattle.ti_diagnostics.proofs.Places.Refused.{RefusalsPlaced, refused, operand_placed}
use Rattle.ti_diagnostics.proofs.Places.Refused.{judged_placed, both_judged_placed, type_placed}
use Rattle.ti_diagnostics.proofs.Places.Refused.{misplaced_placed, all_misplaced_placed}
use Rattle.ti_diagnostics.proofs.Places.Refused.{bounds_misplaced_placed}
use Rattle.ti_diagnostics.proofs.Places.Calls.{places_placed, call_placed, member_placed}

module _ (P : Place → Type 0) where
  -- ---- subexpressions

  mutual
    pub parts_placed : (a : NumberedExp) → ExpPlaced P a → HoldsOfEach (ExpPlaced P) (parts a)
    parts_placed (e.Call at method args) h = both (all_parts_placed args h.1) (cons h nil)
    parts_placed (e.OwnCall at method args) h = both (all_parts_placed args h.1) (cons h nil)
    parts_placed (e.Point at xs) h = both (all_parts_placed xs h.1) (cons h nil)
    parts_placed (e.Rect at ranges) h = both (ranges_parts_placed ranges h.1) (cons h nil)
    parts_placed (e.Unary at op a) h = both (parts_placed a h.1) (cons h nil)
    parts_placed (e.Binary at op a b) h =
        both (both (parts_placed a h.1) (parts_placed b h.2)) (cons h nil)
    parts_placed (e.Cast at to a) h = both (parts_placed a h.2) (cons h nil)
    parts_placed (e.Select at a name) h = both (parts_placed a h.1) (cons h nil)
    parts_placed (e.Member at a name args) h =
        both (both (parts_placed a h.1) (all_parts_placed args h.2)) (cons h nil)
    parts_placed (e.Index at a xs) h =
        both (both (parts_placed a h.1) (all_parts_placed xs h.2)) (cons h nil)
    parts_placed a h = cons h nil

    all_parts_placed : (xs : NumberedExps) → ExpsPlaced P xs
        → HoldsOfEach (ExpPlaced P) (parts_of_all xs)
    all_parts_placed e.NoExp h = nil
    all_parts_placed (e.MoreExp a rest) h = both (parts_placed a h.0) (all_parts_placed rest h.1)

    range_parts_placed : (r : NumberedRange) → RangePlaced P r
        → HoldsOfEach (ExpPlaced P) (parts_of_range r)
    range_parts_placed (e.Plain low high) h = both (parts_placed low h.0) (parts_placed high h.1)
    range_parts_placed (e.Stepped low high step) h =
        both (both (parts_placed low h.0) (parts_placed high h.1)) (parts_placed step h.2)

    ranges_parts_placed : (rs : NumberedRanges) → RangesPlaced P rs
        → HoldsOfEach (ExpPlaced P) (parts_of_ranges rs)
    ranges_parts_placed e.NoRange h = nil
    ranges_parts_placed (e.MoreRange r rest) h =
        both (range_parts_placed r h.0) (ranges_parts_placed rest h.1)

  -- ---- expressions

  -- the errors of an expression apart from those of its operands
  own_placed : (p : ProgramView) (s : ScopeContents) (a : NumberedExp) → ExpPlaced P a
      → RefusalsPlaced P (refusals_at p s a)
  own_placed p s (e.Call at method args) h =
      let places = places_placed P args h.1 in
      both (all_misplaced_placed P p s args h.1) (judged_placed P (operands p s args) _
      (λ ts. call_placed P at (places_of args) (slice_get p.methods method) ts h.0 places))
  own_placed p s (e.OwnCall at method args) h =
      let places = places_placed P args h.1 in
      both (all_misplaced_placed P p s args h.1) (judged_placed P (operands p s args) _
      (λ ts. call_placed P at (places_of args) (slice_get p.methods method) ts h.0 places))
  own_placed p s (e.Point at xs) h =
      both (all_misplaced_placed P p s xs h.1)
      (judged_placed P (operands p s xs) _ (λ ts. operand_placed P at (all_ints ts) false h.0))
  own_placed p s (e.Rect at ranges) h =
      let n = range_count ranges in
      both (bounds_misplaced_placed P p s ranges h.1)
      (judged_placed P (bounds p s ranges) _
      (λ ts. operand_placed P at (is_some (rect_literal n ts))
      (is_some (rect_literal n (map erase_dims ts))) h.0))
  own_placed p s (e.Unary at op a) h =
      both (misplaced_placed P p s a h.1) (judged_placed P (operand_type p s a) _
      (λ t. operand_placed P at (is_some (unary_type op t)) false h.0))
  own_placed p s (e.Binary at op a b) h =
      both (both (misplaced_placed P p s a h.1) (misplaced_placed P p s b h.2))
      (both_judged_placed P (operand_type p s a) (operand_type p s b) _
      (λ t u. operand_placed P at (is_some (binary_type op t u))
      (is_some (binary_type op (erase_dims t) (erase_dims u))) h.0))
  own_placed p s (e.Cast at to a) h =
      both (both (type_placed P false to h.1) (misplaced_placed P p s a h.2))
      (judged_placed P (operand_type p s a) _ (λ t. operand_placed P at (casts to.type t)
      (casts (erase_dims to.type) (erase_dims t)) h.0))
  own_placed p s (e.Select at a name) h =
      both (misplaced_placed P p s a h.1) (judged_placed P (operand_type p s a) _
      (λ t. operand_placed P at (is_some (select_type p t name)) false h.0))
  own_placed p s (e.Member at a name args) h =
      both (both (misplaced_placed P p s a h.1) (all_misplaced_placed P p s args h.2))
      (both_judged_placed P (operand_type p s a) (operands p s args) _
      (λ t ts. member_placed P p at (places_of args) name t ts h.0 (places_placed P args h.2)))
  own_placed p s (e.Index at a xs) h =
      both (both (misplaced_placed P p s a h.1) (all_misplaced_placed P p s xs h.2))
      (both_judged_placed P (operand_type p s a) (operands p s xs) _
      (λ t ts. operand_placed P at (is_some (index_type t ts)) (other_indices t ts) h.0))
  own_placed p s a h = nil

  pub exp_placed : (p : ProgramView) (s : ScopeContents) (a : NumberedExp) → ExpPlaced P a
      → RefusalsPlaced P (exp_refusals p s a)
  exp_placed p s a h = each_of (refusals_at p s) (parts_placed a h) (own_placed p s)

  -- ---- right sides

  pub inner_placed : (p : ProgramView) (s : ScopeContents) (a : NumberedExp) → ExpPlaced P a
      → RefusalsPlaced P (inner_refusals p s a)
  inner_placed p s a h = both (exp_placed p s a h) (misplaced_placed P p s a h)

  pub value_placed : (p : ProgramView) (s : ScopeContents) (a : NumberedExp) → ExpPlaced P a
      → RefusalsPlaced P (value_refusals p s a)
  value_placed p s a h =
      both (exp_placed p s a h)
      (refused P (gives_nothing (expr_type p s a)) Y6 (place_of_numbered a) (place_placed P a h))

  region_placed : (p : ProgramView) (s : ScopeContents) (a : Option NumberedExp) → OptionPlaced P a
      → RefusalsPlaced P (region_refusals p s a)
  region_placed p s None h = nil
  region_placed p s (Some a) h = inner_placed p s a h

  dims_placed : (p : ProgramView) (s : ScopeContents) (d : NumberedDims) → DimsPlaced P d
      → RefusalsPlaced P (dims_refusals p s d)
  dims_placed p s (st.Domain a) h = inner_placed p s a h
  dims_placed p s (st.Ranges ranges) h =
      let inner = ranges_parts_placed (numbered_ranges ranges) h in
      both (each_of (refusals_at p s) inner (own_placed p s))
      (bounds_misplaced_placed P p s (numbered_ranges ranges) h)

  pub initial_placed : (p : ProgramView) (s : ScopeContents) (v : NumberedInit) → InitPlaced P v
      → RefusalsPlaced P (initial_refusals p s v)
  initial_placed p s (st.Value a) h = value_placed p s a h
  initial_placed p s (st.NewRegion at) h = nil
  initial_placed p s (st.NewObject at region class) h =
      both (region_placed p s region h.1) (judged_placed P (region_type p s region) _
      (λ r. operand_placed P at (is_region_type r) false h.0))
  initial_placed p s (st.NewGrid at region element dims_at dims) h =
      both (both (both (region_placed p s region h.1) (type_placed P false element h.2))
      (dims_placed p s dims h.4))
      (both_judged_placed P (region_type p s region) (dims_spread p s dims) _
      (λ r d. operand_placed P at (is_some (new_grid_type element.type r d))
      (is_some (new_grid_type element.type r (one_dim_spread d))) h.0))
  initial_placed p s (st.Broadcast at a root) h =
      both (both (inner_placed p s a h.1) (inner_placed p s root h.2))
      (both_judged_placed P (operand_type p s a) (operand_type p s root) _
      (λ t r. operand_placed P at (is_some (broadcast_type t r)) false h.0))

  -- ---- targets

  pub write_placed : (p : ProgramView) (s : ScopeContents) (at : Place) (target : NumberedExp)
      (value : List Refusal)
      → P at → RefusalsPlaced P value
      → RefusalsPlaced P (write_refusals p s at target value)
  write_placed p s at target value h hs =
      either _ (cons h nil) (both (both (refused P _ _ at h) (refused P _ _ at h)) hs)
