-- The type rules of a statement don't depend on annotations, except for those of the qualifiers of declared variables.
use Rattle.std.proofs.Common.{◌≡◌, ℕ, Bool, true, false, not, if◌then◌else◌, List, [], ◌∷◌, ◌++◌, map, flat_map, Option, Some, None, option_map, option_and_then, is_none, refl, ap, ap₂, ◌∙◌}
use Rattle.std.specs.Option.{option_map_or}
use Rattle.ti_base.specs.declared.place.Place.{Place}
use Rattle.ti_lang.specs.Members.{only_if}
use Rattle.ti_lang.specs.Program.Types.{ValueType, Int, Pt, Region, Class, Grid, Declaration, Typed, Foreach}
use Rattle.ti_lang.specs.Program.Types as t
use Rattle.ti_lang.specs.Program.Expressions.{NumberedExp, NumberedRange, numbered_ranges}
use Rattle.ti_lang.specs.Program.Expressions as e
use Rattle.ti_lang.specs.Program.Statements.{NumberedDims, NumberedInit, NumberedPrint, NumberedStm}
use Rattle.ti_lang.specs.Program.Statements as st
use Rattle.ti_lang.specs.Program.Classes.{NumberedMethod, ProgramView}
use Rattle.ti_lang.specs.Program.Scope.{ScopeVariable, ScopeContents}
use Rattle.ti_lang.specs.Typing.Kinds.{is_void, is_point_type, is_local}
use Rattle.ti_lang.specs.Typing.Declared.{field_type, named_field_type, result_type}
use Rattle.ti_lang.specs.Typing.Expressions.{and_then_both, range_count, bounds, expr_type, operand_type}
use Rattle.ti_rules.specs.declared.refusal.Refusal.{Refusal}
use Rattle.ti_rules.specs.declared.rule.Rule.TheVariants.{Y1, Y2, Y3, Y6, Y8, Q2}
use Rattle.ti_rules.specs.Refusals.{refused_if}
use Rattle.ti_rules.specs.InitialTypes.{right_side_type, broadcast_type, region_type, object_type, Over, Ranged, dims_spread, new_grid_type, initial_type}
use Rattle.ti_rules.specs.Broken.Refused.{refusal_at, misfit}
use Rattle.ti_rules.specs.Broken.Misplaced.{gives_nothing, bounds_misplaced}
use Rattle.ti_rules.specs.Broken.Expressions.{refusals_at}
use Rattle.ti_rules.specs.Broken.Words.{type_word_refusals}
use Rattle.ti_rules.specs.Broken.RightSides.{inner_refusals, value_refusals, region_refusals, dims_refusals, initial_refusals}
use Rattle.ti_rules.specs.Broken.Targets.{is_foreach_use, is_foreach_variable, is_point_coordinate, maybe_local, hidden_field, hidden_element, is_hidden_local, write_refusals}
use Rattle.ti_rules.specs.Broken.Statements.{update_refusals, operator_of, is_boolean, condition_refusals, maybe_condition_refusals, printed_refusals, print_refusals, return_refusals, statement_refusals}
use Rattle.ti_rules.specs.Parts.{parts_of_ranges}
use Rattle.ti_rules.specs.StmtInContext.{StmtContext, scope_of}
use Rattle.ti_blame.specs.Marks.{Marks}
use Rattle.ti_infer.specs.Marked.{marked_declaration, marked_exp, marked_range, marked_ranges, marked_dims, marked_init, marked_print, marked_stm, marked_type, marked_method, marked}
use Rattle.ti_infer.proofs.Same.{result_same, count_same}
use Rattle.ti_infer.proofs.Knowing.{SameTypes, known_same, bounds_same, operand_same}
use Rattle.ti_infer.proofs.Lists.{none_both, both_none}
use Rattle.ti_infer.proofs.Erasing.{place_same, judged_same, both_same, misplaced_same, bounds_misplaced_same, exp_same, spread_same}

pub ranges_listed : (singles : ℕ → Bool) (rs : List NumberedRange) → numbered_ranges (map (marked_range singles) rs) ≡ marked_ranges singles (numbered_ranges rs)
ranges_listed singles [] = refl
ranges_listed singles (r ∷ rs) = ap (e.MoreRange (marked_range singles r)) (ranges_listed singles rs)

hidden_field_same : (marks : Marks) (p : ProgramView) (o : Option ValueType) (name : ℕ) → hidden_field (marked marks p) o name ≡ hidden_field p o name
unfolding named_field_type
hidden_field_same marks p o name = by o
  where
    by : (o : Option ValueType) → hidden_field (marked marks p) o name ≡ hidden_field p o name
    by None = refl
    by (Some (t.Class class is_local)) = refl
    by (Some t.Int) = refl
    by (Some t.Long) = refl
    by (Some t.Boolean) = refl
    by (Some (t.Pt n)) = refl
    by (Some (t.Rc n)) = refl
    by (Some (t.Dm n)) = refl
    by (Some t.Region) = refl
    by (Some (t.Grid u n l)) = refl
    by (Some t.Null) = refl
    by (Some t.Void) = refl

module _ (marks : Marks) (p : ProgramView) (singles : ℕ → Bool) (s r : ScopeContents) (same : SameTypes s r) where
  types : (x : NumberedExp) → operand_type (marked marks p) s (marked_exp singles x) ≡ operand_type p r x
  types x = operand_same marks p singles s r same x

  inner_same : (x : NumberedExp) → inner_refusals (marked marks p) s (marked_exp singles x) ≡ inner_refusals p r x
  inner_same x = ap₂ (λ a b. a ++ b) (exp_same marks p singles s r same x) (misplaced_same marks p singles s r same x)

  typed_same : (x : NumberedExp) → expr_type (marked marks p) s (marked_exp singles x) ≡ expr_type p r x
  typed_same x = ap (λ k. k.type) (known_same marks p singles s r same x)

  value_same : (x : NumberedExp) → value_refusals (marked marks p) s (marked_exp singles x) ≡ value_refusals p r x
  value_same x = ap₂ (λ a b. a ++ b) (exp_same marks p singles s r same x) (ap₂ (λ o at. refused_if (gives_nothing o) Y6 at) (typed_same x) (place_same singles x))

  value_type_same : (x : NumberedExp) → right_side_type (marked marks p) s (marked_exp singles x) ≡ right_side_type p r x
  value_type_same x = ap (only_if (λ u. not (is_void u))) (typed_same x)

  region_type_same : (o : Option NumberedExp) → region_type (marked marks p) s (option_map (marked_exp singles) o) ≡ region_type p r o
  region_type_same None = refl
  region_type_same (Some x) = types x

  region_same : (o : Option NumberedExp) → region_refusals (marked marks p) s (option_map (marked_exp singles) o) ≡ region_refusals p r o
  region_same None = refl
  region_same (Some x) = inner_same x

  spread_type_same : (d : NumberedDims) → dims_spread (marked marks p) s (marked_dims singles d) ≡ dims_spread p r d
  spread_type_same (st.Domain x) = ap (option_map Over) (types x)
  spread_type_same (st.Ranges rs) =
      ap (λ q. option_map (Ranged (range_count q)) (bounds (marked marks p) s q)) (ranges_listed singles rs)
      ∙ ap₂ (λ n o. option_map (Ranged n) o) (count_same singles (numbered_ranges rs)) (bounds_same marks p singles s r same (numbered_ranges rs))

  dims_same : (d : NumberedDims) → dims_refusals (marked marks p) s (marked_dims singles d) ≡ dims_refusals p r d
  dims_same (st.Domain x) = inner_same x
  dims_same (st.Ranges rs) =
      ap (λ q. flat_map (refusals_at (marked marks p) s) (parts_of_ranges q) ++ bounds_misplaced (marked marks p) s q) (ranges_listed singles rs)
      ∙ ap₂ (λ a b. a ++ b) (spread_same marks p singles s r same (numbered_ranges rs)) (bounds_misplaced_same marks p singles s r same (numbered_ranges rs))

  initial_type_same : (v : NumberedInit) → initial_type (marked marks p) s (marked_init singles v) ≡ initial_type p r v
  initial_type_same (st.Value x) = value_type_same x
  initial_type_same (st.NewRegion at) = refl
  initial_type_same (st.NewObject at region class) = ap (option_and_then (object_type class)) (region_type_same region)
  initial_type_same (st.NewGrid at region element dims_at dims) = ap₂ (λ a b. and_then_both a b (new_grid_type element.type)) (region_type_same region) (spread_type_same dims)
  initial_type_same (st.Broadcast at x root) = ap₂ (λ a b. and_then_both a b broadcast_type) (types x) (types root)

  initial_same : (v : NumberedInit) → initial_refusals (marked marks p) s (marked_init singles v) ≡ initial_refusals p r v
  initial_same (st.Value x) = value_same x
  initial_same (st.NewRegion at) = refl
  initial_same (st.NewObject at region class) = ap₂ (λ a b. a ++ b) (region_same region) (judged_same _ _ _ _ (region_type_same region) (λ y. refl))
  initial_same (st.NewGrid at region element dims_at dims) =
      ap₂ (λ a b. a ++ b) (ap₂ (λ a b. (a ++ type_word_refusals false element) ++ b) (region_same region) (dims_same dims))
      (both_same _ _ _ _ _ _ (region_type_same region) (spread_type_same dims) (λ y z. refl))
  initial_same (st.Broadcast at x root) = ap₂ (λ a b. a ++ b) (ap₂ (λ a b. a ++ b) (inner_same x) (inner_same root)) (both_same _ _ _ _ _ _ (types x) (types root) (λ y z. refl))

  -- ---- targets

  foreach_same : (x : NumberedExp) → is_foreach_variable (marked_exp singles x) ≡ is_foreach_variable x
  foreach_same (e.Variable at v) = by v.declared
    where
      by : (d : Declaration) → is_foreach_use (marked_declaration (singles v.number) d) ≡ is_foreach_use d
      by (Typed is_single type) = refl
      by Foreach = refl
  foreach_same _ = refl

  coordinate_same : (x : NumberedExp) → is_point_coordinate (marked marks p) s (marked_exp singles x) ≡ is_point_coordinate p r x
  coordinate_same (e.Index at a xs) = ap (λ o. option_map_or is_point_type o false) (types a)
  coordinate_same _ = refl

  hidden_same : (x : NumberedExp) → is_hidden_local (marked marks p) s (marked_exp singles x) ≡ is_hidden_local p r x
  hidden_same (e.OwnField at field) = ap (λ o. maybe_local (option_and_then (λ c. field_type p c field) o)) same.this
  hidden_same (e.Select at a name) = hidden_field_same marks p _ name ∙ ap (λ o. hidden_field p o name) (types a)
  hidden_same (e.Index at a xs) = ap hidden_element (types a)
  hidden_same _ = refl

  write_same : (at : Place) (x : NumberedExp) (value : List Refusal) → write_refusals (marked marks p) s at (marked_exp singles x) value ≡ write_refusals p r at x value
  write_same at x value =
      ap (λ c. if c then refusal_at Y1 at else (refused_if (is_foreach_variable (marked_exp singles x)) Y2 at
      ++ refused_if (is_hidden_local (marked marks p) s (marked_exp singles x)) Q2 at) ++ value) (coordinate_same x)
      ∙ ap₂ (λ f h. if is_point_coordinate p r x then refusal_at Y1 at else (refused_if f Y2 at ++ refused_if h Q2 at) ++ value) (foreach_same x) (hidden_same x)

  -- ---- parts of statements

  condition_same : (x : NumberedExp) → condition_refusals (marked marks p) s (marked_exp singles x) ≡ condition_refusals p r x
  condition_same x = ap₂ (λ a b. a ++ b) (inner_same x) (judged_same _ _ _ _ (types x) (λ y. ap (refused_if (not (is_boolean y)) Y3) (place_same singles x)))

  maybe_condition_same : (o : Option NumberedExp) → maybe_condition_refusals (marked marks p) s (option_map (marked_exp singles) o) ≡ maybe_condition_refusals p r o
  maybe_condition_same None = refl
  maybe_condition_same (Some x) = condition_same x

  printed_same : (at : Place) (x : NumberedExp) → printed_refusals (marked marks p) s at (marked_exp singles x) ≡ printed_refusals p r at x
  printed_same at x = ap₂ (λ a b. a ++ b) (inner_same x) (judged_same _ _ _ _ (types x) (λ y. refl))

  print_same : (at : Place) (x : NumberedPrint) → print_refusals (marked marks p) s at (marked_print singles x) ≡ print_refusals p r at x
  print_same at st.Nothing = refl
  print_same at (st.Text literal) = refl
  print_same at (st.Expression x) = printed_same at x
  print_same at (st.TextAndExpression literal x) = printed_same at x

  return_same : (at : Place) (result : ValueType) (o : Option NumberedExp) → return_refusals (marked marks p) s at result (option_map (marked_exp singles) o) ≡ return_refusals p r at result o
  return_same at result None = refl
  return_same at result (Some x) = ap₂ (λ a b. a ++ b) (inner_same x) (judged_same _ _ _ _ (types x) (λ y. refl))

-- ---- statements

-- the words at the declarations of a statement are right, with those that are marked
abbrev pub WordsFit : (Place → Bool) → NumberedStm → Type 0
WordsFit declared (st.Declare at type variable value) = type_word_refusals true (marked_type (declared at) at type) ≡ []
WordsFit declared x = Unit {0}

module _ (marks : Marks) (p : ProgramView) (m : NumberedMethod) (singles : ℕ → Bool) (vs ws : List ScopeVariable) (j k : Option Bool)
    (same : SameTypes (scope_of (record { method = marked_method marks m; variables = vs; jump_has = j })) (scope_of (record { method = m; variables = ws; jump_has = k }))) (looped : is_none j ≡ is_none k) where
  abbrev pub there : StmtContext
  there = record { method = marked_method marks m; variables = vs; jump_has = j }

  abbrev pub here : StmtContext
  here = record { method = m; variables = ws; jump_has = k }

  pub statement_fits : (x : NumberedStm) → statement_refusals p here x ≡ [] → WordsFit marks.variables x → statement_refusals (marked marks p) there (marked_stm singles marks.variables x) ≡ []
  statement_fits (st.Declare at type variable value) h w =
      let f = none_both _ _ h in
      let g = none_both _ _ f.0 in
      both_none _ _ (both_none _ _ w (initial_same marks p singles _ _ same value ∙ g.1)) (judged_same _ _ _ _ (initial_type_same marks p singles _ _ same value) (λ y. refl) ∙ f.1)
  statement_fits (st.Assign at target value) h w =
      ap₂ (λ a b. a ++ b) (ap₂ (λ a b. a ++ b) (exp_same marks p singles _ _ same target) (initial_same marks p singles _ _ same value))
      (both_same _ _ _ _ _ _ (operand_same marks p singles _ _ same target) (initial_type_same marks p singles _ _ same value)
      (λ y z. write_same marks p singles _ _ same at target (misfit at z y))) ∙ h
  statement_fits (st.Update at op target x) h w =
      ap₂ (λ a b. a ++ b) (ap₂ (λ a b. a ++ b) (exp_same marks p singles _ _ same target) (value_same marks p singles _ _ same x))
      (both_same _ _ _ _ _ _ (operand_same marks p singles _ _ same target) (value_type_same marks p singles _ _ same x)
      (λ y z. write_same marks p singles _ _ same at target (update_refusals at op y z))) ∙ h
  statement_fits (st.Step at op target) h w =
      ap₂ (λ a b. a ++ b) (exp_same marks p singles _ _ same target)
      (judged_same _ _ _ _ (operand_same marks p singles _ _ same target) (λ y. write_same marks p singles _ _ same at target (update_refusals at (operator_of op) y Int))) ∙ h
  statement_fits (st.Call x) h w = exp_same marks p singles _ _ same x ∙ h
  statement_fits (st.Print at what) h w = print_same marks p singles _ _ same at what ∙ h
  statement_fits (st.If at c a) h w = condition_same marks p singles _ _ same c ∙ h
  statement_fits (st.IfElse at c a b) h w = condition_same marks p singles _ _ same c ∙ h
  statement_fits (st.While at c body) h w = condition_same marks p singles _ _ same c ∙ h
  statement_fits (st.For at first c update body) h w = maybe_condition_same marks p singles _ _ same c ∙ h
  statement_fits (st.Foreach at number domain body) h w =
      ap₂ (λ a b. a ++ b) (inner_same marks p singles _ _ same domain) (judged_same _ _ _ _ (operand_same marks p singles _ _ same domain) (λ y. refl)) ∙ h
  statement_fits (st.Break at) h w = ap (λ b. refused_if b Y8 at) looped ∙ h
  statement_fits (st.Continue at) h w = ap (λ b. refused_if b Y8 at) looped ∙ h
  statement_fits (st.Return at value) h w = ap (λ u. return_refusals (marked marks p) (scope_of there) at u
      (option_map (marked_exp singles) value)) (result_same marks m) ∙ return_same marks p singles _ _ same at (result_type m) value ∙ h
  statement_fits (st.Block body) h w = refl
  statement_fits (st.Barrier at) h w = refl
  statement_fits st.Empty h w = refl
