-- The summary of a new grid's domain is proved to determine what the typing rules need of its types.
use Rattle.std.proofs.Common.{◌≡◌, ℕ, ◌==◌, Bool, true, false, ◌&&◌, if◌then◌else◌, List, [], ◌∷◌, map, Option, Some, None, is_some, option_map, option_and_then, refl, sym, ap, ◌∙◌}
use Rattle.ti_base.specs.declared.place.Place.{Place}
use Rattle.ti_lang.specs.Program.Types.{ValueType, Pt, Rc, Dm, Class, Grid}
use Rattle.ti_lang.specs.Typing.Alike.{erase_dims}
use Rattle.ti_lang.specs.Typing.Kinds.{where_true}
use Rattle.ti_lang.specs.Typing.Expressions.{and_then_both, all_ints, all_points, range_of_points, rect_literal}
use Rattle.ti_rules.specs.InitialTypes.{is_region_type, Spread, Over, Ranged, grid_over, new_grid_type}
use Rattle.ti_rules.specs.Broken.Refused.{both_judged, operand_refusal}
use Rattle.ti_rules.specs.Broken.RightSides.{one_dim_spread}
use Rattle.ti_types.specs.Results.{LiteralTypes}
use Rattle.ti_check.specs.Mirrors.RightSides.{is_rect_type, extent_summary, summary_grid_type, summary_fits_other_dims}

told_type : (element r : ValueType) (d : Spread) → summary_grid_type element r (extent_summary d) ≡ new_grid_type element r d
told_type element r (Over t) = refl
told_type element r (Ranged n ts) = refl

over_near : (element t : ValueType) → is_some (grid_over element (erase_dims t)) ≡ is_rect_type t
over_near element (Rc n) = refl
over_near element (Pt n) = refl
over_near element (Dm n) = refl
over_near element (Grid t n local) = refl
over_near element (Class c local) = refl
over_near element t = refl

-- where the test holds, a domain
where_rect : (element : ValueType) (b : Bool) (n : ℕ) → is_some (option_and_then (grid_over element) (where_true b (Rc n))) ≡ is_some (where_true b (Rc n))
where_rect element true n = refl
where_rect element false n = refl

points_near : (element : ValueType) (ts : List ValueType) → is_some (option_and_then (grid_over element) (range_of_points ts)) ≡ is_some (range_of_points ts)
points_near element [] = refl
points_near element (Pt n ∷ ts) = where_rect element (all_points n ts) n
points_near element (t ∷ ts) = refl

literal_near : (element : ValueType) (n : ℕ) (ts : List ValueType) → is_some (option_and_then (grid_over element) (rect_literal n ts)) ≡ is_some (rect_literal n ts)
literal_near element n ts = by (all_ints ts) (n == 1)
  where
    by : (b c : Bool) → is_some (option_and_then (grid_over element) (if b then Some (Rc n) else if c then range_of_points ts else None))
        ≡ is_some (if b then Some (Rc n) else if c then range_of_points ts else None)
    by true c = refl
    by false true = points_near element ts
    by false false = refl

in_region : (b : Bool) (element : ValueType) (o : Option ValueType) (c : Bool) → is_some (option_and_then (grid_over element) o) ≡ c
    → is_some (if b then option_and_then (grid_over element) o else None) ≡ b && c
in_region true element o c is = is
in_region false element o c is = refl

near_told : (element r : ValueType) (d : Spread) → is_some (new_grid_type element r (one_dim_spread d)) ≡ summary_fits_other_dims r (extent_summary d)
near_told element r (Over t) = in_region (is_region_type r) element (Some (erase_dims t)) (is_rect_type t) (over_near element t)
near_told element r (Ranged n ts) = in_region (is_region_type r) element (rect_literal n (map erase_dims ts)) (is_some (rect_literal n (map erase_dims ts))) (literal_near element n (map erase_dims ts))

-- the type
pub grid_told : (element : ValueType) (o : Option ValueType) (q : Option Spread) → and_then_both o (option_map extent_summary q) (summary_grid_type element) ≡ and_then_both o q (new_grid_type element)
grid_told element None q = refl
grid_told element (Some r) None = refl
grid_told element (Some r) (Some d) = told_type element r d

-- what is wrong with it
pub grid_refused : (at : Place) (element : ValueType) (o : Option ValueType) (q : Option Spread)
    → both_judged o (option_map extent_summary q) (λ r (l : LiteralTypes). operand_refusal at (is_some (summary_grid_type element r l)) (summary_fits_other_dims r l))
    ≡ both_judged o q (λ r d. operand_refusal at (is_some (new_grid_type element r d)) (is_some (new_grid_type element r (one_dim_spread d))))
grid_refused at element None q = refl
grid_refused at element (Some r) None = refl
grid_refused at element (Some r) (Some d) = ap (λ z. operand_refusal at (is_some z) (summary_fits_other_dims r (extent_summary d))) (told_type element r d)
    ∙ ap (λ z. operand_refusal at (is_some (new_grid_type element r d)) z) (sym (near_told element r d))
