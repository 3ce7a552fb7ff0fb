-- Expressions, right sides and targets in which no rule is broken have types, and are written so that they fit these.
use Rattle.std.proofs.Common.{◌≡◌, ℕ, ◌==◌, Bool, true, false, not, ◌&&◌, ◌||◌, if◌then◌else◌, length, map, flat_map, find, is_some, is_none, slice_get, option_map, option_and_then, Option, Some, None, List, [], ◌∷◌, ◌++◌, refl, ap, ap₂, sym, ◌∙◌, subst, eqb-true}
use Rattle.std.specs.Option.{option_or, option_map_or}
use Rattle.std.proofs.lemmas.List.Folds.{find-append}
use Rattle.ti_base.specs.declared.place.Place.{Place}
use Rattle.ti_syntax.specs.declared.tree.exprs.BinaryOperator.{BinaryOperator}
use Rattle.ti_syntax.specs.declared.tree.stmts.StepOperator.{StepOperator}
use Rattle.ti_syntax.specs.declared.tree.stmts.StepOperator.TheVariants.{Increment, Decrement}
use Rattle.ti_lang.specs.Members.{only_if}
use Rattle.ti_lang.specs.Program.Types.{ValueType, Declaration}
use Rattle.ti_lang.specs.Program.Types as t
use Rattle.ti_lang.specs.Program.Expressions.{NumberedExp, NumberedExps, NumberedRange, NumberedRanges, place_of_numbered, numbered_ranges}
use Rattle.ti_lang.specs.Program.Expressions as e
use Rattle.ti_lang.specs.Program.Statements.{NumberedDims, NumberedInit}
use Rattle.ti_lang.specs.Program.Statements as st
use Rattle.ti_lang.specs.Program.Classes.{NumberedField, NumberedClass, NumberedMethod, ProgramView}
use Rattle.ti_lang.specs.Program.Scope.{ScopeVariable, ScopeContents, this_of, method_scope}
use Rattle.ti_lang.specs.Typing.Kinds.{domain_dim, is_void, as_global, read_through, where_true}
use Rattle.ti_lang.specs.Typing.Fits.{fits}
use Rattle.ti_lang.specs.Typing.Operators.{binary_type}
use Rattle.ti_lang.specs.Typing.Declared.{in_scope, variable_type, field_type}
use Rattle.ti_lang.specs.Typing.Expressions.{plain, operand, and_then_both, is_int, all_ints, rect_literal, index_type, select_type, range_count, type_result, operands, bounds, expr_type, operand_type}
use Rattle.ti_lang.specs.Typing.Alike.{erase_dims}
use Rattle.ti_base.specs.Forms.{is_dim}
use Rattle.ti_lang.specs.Meaning.Zeros.{zero_of_type}
use Rattle.ti_lang.specs.Meaning.Processes.{Assigned, Updated}
use Rattle.ti_lang.specs.Meaning.Statements.{one_more}
use Rattle.ti_rules.specs.declared.rule.Rule.TheVariants.{Y1, Y2, Y6, Q2}
use Rattle.ti_rules.specs.declared.refusal.Refusal.{Refusal}
use Rattle.ti_rules.specs.Refusals.{refused_if}
use Rattle.ti_rules.specs.Known.{IsThere, IsKnown, AreKnown, IsKnownRange, AreKnownRanges}
use Rattle.ti_rules.specs.Parts.{parts_of_ranges}
use Rattle.ti_rules.specs.InitialTypes.{right_side_type, can_broadcast, broadcast_type, region_type, is_region_type, object_type, Spread, Over, Ranged, dims_spread, spread_type, grid_over, new_grid_type, initial_type}
use Rattle.ti_lang.specs.Typing.Singleness.{is_single_part}
use Rattle.ti_rules.specs.StmtInContext.{singles_in, with_foreach_variable, variables_inside}
use Rattle.ti_rules.specs.Broken.Refused.{refusal_at, judged, both_judged, operand_refusal, misfit}
use Rattle.ti_rules.specs.Broken.Words.{type_word_refusals}
use Rattle.ti_rules.specs.Broken.Misplaced.{gives_nothing, misplaced, bounds_misplaced}
use Rattle.ti_rules.specs.Broken.Expressions.{refusals_at, exp_refusals}
use Rattle.ti_rules.specs.Broken.RightSides.{inner_refusals, value_refusals, region_refusals, dims_refusals, one_dim_spread, initial_refusals}
use Rattle.ti_rules.specs.Broken.Targets.{is_foreach_variable, is_point_coordinate, is_hidden_local, write_refusals}
use Rattle.ti_rules.specs.Broken.Statements.{narrows, result_refusals, update_refusals, operator_of}
use Rattle.ti_rules.proofs.Lemmas.{nil_left, nil_right, not_refused, not_mistaken, no_misfit, there_is, operand_there, has_type}
use Rattle.ti_align.specs.Mirrors.Fitting.{IsWritten, AreWritten, IsRangeWritten, AreRangesWritten}
use Rattle.ti_align.specs.Mirrors.ContItem.{may_use, uses_of, domain_written, IsInner, IsWhole, WholeFits, ReceiverFits, RegionFits, InitFits}
use Rattle.ti_align.proofs.Runs.Vars.{true_false, or_false, and_left, and_right}
use Rattle.ti_align.proofs.RunTypes.Operating.{none_some, some_same}
use Rattle.ti_align.proofs.RunTypes.Evaluating.{and_then, mapped, both_there}
use Rattle.ti_align.proofs.TextTypes.Meant.{storable, formed, among, means, covers, is_place, ExpMeant, ExpsMeant, RangeMeant, RangesMeant, OptionMeant, DimsMeant, InitMeant, TargetMeant, FieldsMeant}
use Rattle.ti_align.proofs.TextTypes.Forming.{formed_dims, formed_fine, storable_is, storable_something, Surrounds, variable_formed, field_formed, exp_formed, selected}
use Rattle.ti_lang.proofs.Lemmas.{dims_are}

-- ---- lists of refusals

-- what is judged of operands that are there
pub judged_at : {A : Type 0} (o : Option A) (rule : A → List Refusal) (a : A) → o ≡ Some a → judged o rule ≡ [] → rule a ≡ []
judged_at o rule a f h = ap (λ x. judged x rule) (sym f) ∙ h

pub both_at : {A B : Type 0} (o : Option A) (q : Option B) (rule : A → B → List Refusal) (a : A) (b : B) → o ≡ Some a → q ≡ Some b → both_judged o q rule ≡ [] → rule a b ≡ []
both_at o q rule a b f g h = ap₂ (λ x y. both_judged x y rule) (sym f) (sym g) ∙ h

-- nothing is wrong with one more
one_more_fine : {A : Type 0} (f : A → List Refusal) (xs : List A) (x : A) → flat_map f xs ≡ [] → f x ≡ [] → flat_map f (xs ++ x ∷ []) ≡ []
one_more_fine f [] x h k = ap (λ l. l ++ []) k
one_more_fine f (y ∷ xs) x h k =
    ap₂ (λ a b. a ++ b) (nil_left (f y) (flat_map f xs) h) (one_more_fine f xs x (nil_right (f y) (flat_map f xs) h) k)

-- what may be written
write_fine : (p : ProgramView) (s : ScopeContents) (at : Place) (target : NumberedExp) (value : List Refusal) → write_refusals p s at target value ≡ []
    → ((is_foreach_variable target ≡ false) × (is_hidden_local p s target ≡ false)) × (value ≡ [])
write_fine p s at target value h = by (is_point_coordinate p s target) h
  where
    turned : List Refusal
    turned = refused_if (is_foreach_variable target) Y2 at

    hidden : List Refusal
    hidden = refused_if (is_hidden_local p s target) Q2 at

    by : (b : Bool) → (if b then refusal_at Y1 at else (turned ++ hidden) ++ value) ≡ [] → ((is_foreach_variable target ≡ false) × (is_hidden_local p s target ≡ false)) × (value ≡ [])
    by true h = absurd (never h)
      where
        never : refusal_at Y1 at ≡ [] → ⊥
        never h = cc
    by false h =
        let and_then_both = nil_left (turned ++ hidden) value h in (
          (
            not_refused (is_foreach_variable target) Y2 at (nil_left turned hidden and_then_both),
            not_refused (is_hidden_local p s target) Q2 at (nil_right turned hidden and_then_both),
          ),
          nil_right (turned ++ hidden) value h,
        )

result_fine : (at : Place) (r u : ValueType) → result_refusals at r u ≡ [] → (narrows r u || fits r u) ≡ true
result_fine at r u h = by (narrows r u) h
  where
    by : (b : Bool) → (if b then [] else misfit at r u) ≡ [] → (b || fits r u) ≡ true
    by true h = refl
    by false h = no_misfit at r u h

update_fine : (at : Place) (op : BinaryOperator) (u type : ValueType) → update_refusals at op u type ≡ [] → (r : ValueType) × (binary_type op u type ≡ Some r) × ((narrows r u || fits r u) ≡ true)
update_fine at op u type h =
    let taken = operand_refusal at (is_some (binary_type op u type)) (is_some (binary_type op (erase_dims u) (erase_dims type))) in
    let rule = λ (r : ValueType). result_refusals at r u in
    let r = there_is (binary_type op u type) (not_mistaken at _ _ (nil_left taken (judged (binary_type op u type) rule) h)) in
    (r.0, r.1, result_fine at r.0 u (judged_at (binary_type op u type) rule r.0 r.1 (nil_right taken (judged (binary_type op u type) rule) h)))

-- ---- scopes

-- at the first statement of a method
pub surrounds_method : (m : NumberedMethod) → Surrounds m (method_scope m) []
surrounds_method m = record { this = refl; turning = λ number h. absurd (true_false (sym h)); others = λ number h. refl }

or_none : {A : Type 0} (o : Option A) → option_or o None ≡ o
or_none None = refl
or_none (Some a) = refl

none_is : {A : Type 0} (o : Option A) → is_none o ≡ true → o ≡ None
none_is None h = refl
none_is (Some a) h = absurd (true_false (sym h))

-- the variable of a foreach
abbrev turn_variable : ℕ → Bool → ℕ → ScopeVariable
turn_variable number is_single n = record { number = number; type = t.Pt n; is_single = is_single }

-- the variable of a number among those of a scope and one of a foreach
abbrev found_with : ScopeContents → ScopeVariable → ℕ → Option ScopeVariable
found_with s new k = find (λ (v : ScopeVariable). v.number == k) (s.variables ++ new ∷ [])

-- in the body of one foreach more
surrounds_point : (m : NumberedMethod) (s : ScopeContents) (turns : List ℕ) → Surrounds m s turns → (number : ℕ) → among turns number ≡ false → is_none (in_scope (method_scope m) number) ≡ true
    → (is_single : Bool) (n : ℕ) → is_dim n ≡ true → Surrounds m (record s { variables = with_foreach_variable s.variables number is_single (Some n) }) (number ∷ turns)
surrounds_point m s turns around number apart fresh is_single n dim = record {
  this = around.this;
  turning = λ k h. one_of k (number == k) refl h;
  others = λ k h. all_of k (or_false (number == k) (among turns k) h);
}
  where
    found : (k : ℕ) → found_with s (turn_variable number is_single n) k ≡ option_or (in_scope s k) (if number == k then Some (turn_variable number is_single n) else None)
    found k = find-append (λ (v : ScopeVariable). v.number == k) s.variables (turn_variable number is_single n ∷ [])

    none_yet : (k : ℕ) → number ≡ k → in_scope s k ≡ None
    none_yet k i = subst (λ j. in_scope s j ≡ None) i (around.others number apart ∙ none_is (in_scope (method_scope m) number) fresh)

    one_of : (k : ℕ) (b : Bool) → (number == k) ≡ b → (b || among turns k) ≡ true
        → (v : ScopeVariable) × (j : ℕ) × (found_with s (turn_variable number is_single n) k ≡ Some v) × (v.type ≡ t.Pt j) × (is_dim j ≡ true)
    one_of k true i h = (
      turn_variable number is_single n,
      n,
      found k ∙ ap₂ (λ (o : Option ScopeVariable) (b : Bool). option_or o
          (if b then Some (turn_variable number is_single n) else None)) (none_yet k (eqb-true number k i)) i,
      refl,
      dim,
    )
    one_of k false i h =
        let q = around.turning k h in
        (q.0, q.1, found k ∙ ap (λ (o : Option ScopeVariable). option_or o (if number == k then Some (turn_variable number is_single n) else None)) q.2, q.3, q.4)

    all_of : (k : ℕ) → ((number == k) ≡ false) × (among turns k ≡ false)
        → found_with s (turn_variable number is_single n) k ≡ in_scope (method_scope m) k
    all_of k q =
        found k ∙ ap (λ (b : Bool). option_or (in_scope s k) (if b then Some (turn_variable number is_single n) else None)) q.0 ∙ or_none (in_scope s k) ∙ around.others k q.1

-- ---- expressions

operand_plain : (o : Option ValueType) (u : ValueType) → o ≡ Some u → is_void u ≡ false → operand (plain o) ≡ Some u
operand_plain o u h k = ap (λ x. operand (plain x)) h ∙ ap (λ b. if not b then Some u else None) k

index_something : (a r : ValueType) (ts : List ValueType) → index_type a ts ≡ Some r → formed a ≡ true → is_void r ≡ false
index_something (t.Pt n) r (t.Int ∷ []) h d = subst (λ u. is_void u ≡ false) (some_same t.Int r h) refl
index_something (t.Grid x n l) r ts h d = by ts h
  where
    tested : (b : Bool) → where_true b (read_through l x) ≡ Some r → is_void r ≡ false
    tested true h = subst (λ u. is_void u ≡ false) (some_same (read_through l x) r h) (storable_something l x (and_left (storable x) (formed x) (and_right (is_dim n) (storable x && formed x) d)))
    tested false h = absurd (none_some r h)

    by : (ts : List ValueType) → index_type (t.Grid x n l) ts ≡ Some r → is_void r ≡ false
    by (t.Pt m ∷ []) h = tested (n == m) h
    by ts h = tested (all_ints ts && (length ts == n)) h
index_something _ r ts h d = absurd (none_some r h)

covering : (o q : Option ℕ) (class : ℕ) → covers o q ≡ true → o ≡ Some class → q ≡ Some class
covering None q class h k = absurd (none_some class k)
covering (Some c) None class h k = absurd (true_false (sym h))
covering (Some c) (Some d) class h k = ap Some (sym (eqb-true c d h) ∙ some_same c class k)

int_is : (r : ValueType) → is_int r ≡ true → r ≡ t.Int
int_is t.Int h = refl
int_is _ h = absurd (true_false (sym h))

pub region_is : (r : ValueType) → is_region_type r ≡ true → r ≡ t.Region
region_is t.Region h = refl
region_is _ h = absurd (true_false (sym h))

module _ (p : ProgramView) (fields : FieldsMeant p) (m : NumberedMethod) (s : ScopeContents) (turns : List ℕ) (around : Surrounds m s turns) where
  -- a variable that is used may be
  used : (number : ℕ) (d : Declaration) → means m turns number d ≡ true → may_use m number d ≡ true
  used number (t.Typed is_single type) h = formed_dims type (and_left (formed type) (not (is_void type)) h)
  used number t.Foreach h = and_right (among turns number) _ h

  served : (o : Option NumberedMethod) → option_map_or (λ (called : NumberedMethod). covers (this_of called) (this_of m)) o false ≡ true → IsThere o
  served None h = absurd (true_false (sym h))
  served (Some called) h = (called, refl)

  mutual
    -- what is meant is written so
    pub written : (x : NumberedExp) → ExpMeant p m turns x → IsWritten (uses_of m) x
    written (e.Int at n) k = k
    written (e.Long at n) k = k
    written (e.Variable at v) k = used v.number v.declared k
    written (e.Point at parts) k = (dims_are _ k.0, all_written parts k.1)
    written (e.Rect at ranges) k = (dims_are (range_count ranges) k.0, ranges_written ranges k.1)
    written (e.Unary at op a) k = written a k
    written (e.Binary at op a b) k = (written a k.0, written b k.1)
    written (e.Cast at to a) k = (formed_fine to.type k.0, written a k.1)
    written (e.Select at a name) k = written a k
    written (e.Member at a name args) k = (written a k.0, all_written args k.1)
    written (e.Index at a parts) k = (written a k.0, all_written parts k.1)
    written _ k = tt

    pub all_written : (xs : NumberedExps) → ExpsMeant p m turns xs → AreWritten (uses_of m) xs
    all_written e.NoExp k = tt
    all_written (e.MoreExp a rest) k = (written a k.0, all_written rest k.1)

    range_written : (r : NumberedRange) → RangeMeant p m turns r → IsRangeWritten (uses_of m) r
    range_written (e.Plain low high) k = (written low k.0, written high k.1)
    range_written (e.Stepped low high step) k = (written low k.0, written high k.1, written step k.2)

    pub ranges_written : (rs : NumberedRanges) → RangesMeant p m turns rs → AreRangesWritten (uses_of m) rs
    ranges_written e.NoRange k = tt
    ranges_written (e.MoreRange r rest) k = (range_written r k.0, ranges_written rest k.1)

  mutual
    -- its names mean something in the scope
    pub names_known : (x : NumberedExp) → ExpMeant p m turns x → IsKnown p s x
    names_known (e.This at) k = there_is s.this_class (subst (λ o. is_some o ≡ true) (sym around.this) k)
    names_known (e.Variable at v) k = let q = variable_formed m s turns around v.number v.declared k in (q.0, q.1)
    names_known (e.OwnField at field) k =
        there_is (option_and_then (λ c. field_type p c field) s.this_class) (subst (λ o. is_some (option_and_then (λ c. field_type p c field) o) ≡ true) (sym around.this) k)
    names_known (e.Call at method args) k = (there_is (slice_get p.methods method) k.0, all_known args k.1)
    names_known (e.OwnCall at method args) k = (served (slice_get p.methods method) k.0, all_known args k.1)
    names_known (e.Point at parts) k = all_known parts k.1
    names_known (e.Rect at ranges) k = ranges_known ranges k.1
    names_known (e.Unary at op a) k = names_known a k
    names_known (e.Binary at op a b) k = (names_known a k.0, names_known b k.1)
    names_known (e.Cast at to a) k = names_known a k.1
    names_known (e.Select at a name) k = names_known a k
    names_known (e.Member at a name args) k = (names_known a k.0, all_known args k.1)
    names_known (e.Index at a parts) k = (names_known a k.0, all_known parts k.1)
    names_known _ k = tt

    all_known : (xs : NumberedExps) → ExpsMeant p m turns xs → AreKnown p s xs
    all_known e.NoExp k = tt
    all_known (e.MoreExp a rest) k = (names_known a k.0, all_known rest k.1)

    range_known : (r : NumberedRange) → RangeMeant p m turns r → IsKnownRange p s r
    range_known (e.Plain low high) k = (names_known low k.0, names_known high k.1)
    range_known (e.Stepped low high step) k = (names_known low k.0, names_known high k.1, names_known step k.2)

    ranges_known : (rs : NumberedRanges) → RangesMeant p m turns rs → AreKnownRanges p s rs
    ranges_known e.NoRange k = tt
    ranges_known (e.MoreRange r rest) k = (range_known r k.0, ranges_known rest k.1)

  -- a whole expression
  whole_written : (x : NumberedExp) → ExpMeant p m turns x → IsWhole p m s x
  whole_written (e.Call at method args) k = all_written args k.1
  whole_written (e.OwnCall at method args) k = (
    all_written args k.1,
    λ called is class this. around.this ∙ covering (this_of called) (this_of m) class
        (sym (ap (λ (o : Option NumberedMethod). option_map_or (λ (called : NumberedMethod). covers (this_of called) (this_of m)) o false) is) ∙ k.0) this,
  )
  whole_written x k = written x k

  pub whole_fits : (x : NumberedExp) → ExpMeant p m turns x → exp_refusals p s x ≡ [] → (type : ValueType) × WholeFits p m s x type
  whole_fits x k h = let q = has_type p s x (names_known x k) h in (q.0, (q.1, whole_written x k))

  -- an expression inside another
  pub inner_fits : (x : NumberedExp) → ExpMeant p m turns x → inner_refusals p s x ≡ [] → (type : ValueType) × IsInner p m s x type
  inner_fits x k h =
      let q = operand_there (type_result p s x) (place_of_numbered x) (has_type p s x (names_known x k)
      (nil_left (exp_refusals p s x) (misplaced p s x) h)) (nil_right (exp_refusals p s x) (misplaced p s x) h) in
      (q.0, (written x k, q.1))

  -- ---- right sides

  pub value_fits : (x : NumberedExp) → ExpMeant p m turns x → value_refusals p s x ≡ [] → (type : ValueType) × InitFits p m s (st.Value x) type × (right_side_type p s x ≡ Some type)
  value_fits x k h =
      let nothing = refused_if (gives_nothing (expr_type p s x)) Y6 (place_of_numbered x) in
      let q = whole_fits x k (nil_left (exp_refusals p s x) nothing h) in
      let some : is_void q.0 ≡ false = sym (ap gives_nothing q.1.0) ∙ not_refused (gives_nothing (expr_type p s x)) Y6 (place_of_numbered x) (nil_right (exp_refusals p s x) nothing h) in
      (q.0, (q.1, some), ap (λ o. only_if (λ u. not (is_void u)) o) q.1.0 ∙ ap (λ b. if not b then Some q.0 else None) some)

  region_fits : (region : Option NumberedExp) → OptionMeant p m turns region → region_refusals p s region ≡ []
      → (r : ValueType) × (region_type p s region ≡ Some r) × (is_region_type r ≡ true → RegionFits p m s region)
  region_fits None k h = (t.Region, refl, λ i. tt)
  region_fits (Some x) k h = let q = inner_fits x k h in (q.0, q.1.1, λ i. (q.1.0, q.1.1 ∙ ap Some (region_is q.0 i)))

  -- the bounds of ranges in which nothing is broken
  bounds_there : (at : Place) (rs : NumberedRanges) → RangesMeant p m turns rs → flat_map (refusals_at p s) (parts_of_ranges rs) ≡ [] → bounds_misplaced p s rs ≡ [] → IsThere (bounds p s rs)
  bounds_there at rs k h i = by (bounds p s rs) refl
    where
      rule : List ValueType → List Refusal
      rule = λ (ts : List ValueType). operand_refusal at (is_some (rect_literal (range_count rs) ts)) (is_some (rect_literal (range_count rs) (map erase_dims ts)))

      by : (o : Option (List ValueType)) → bounds p s rs ≡ o → IsThere (bounds p s rs)
      by (Some ts) z = (ts, z)
      by None z =
          let own : refusals_at p s (e.Rect at rs) ≡ [] = ap₂ (λ a o. a
          ++ judged o (λ (ts : List ValueType). operand_refusal at (is_some (rect_literal (range_count rs) ts))
          (is_some (rect_literal (range_count rs) (map erase_dims ts))))) i z in
          let q = has_type p s (e.Rect at rs) (ranges_known rs k) (one_more_fine (refusals_at p s) (parts_of_ranges rs) (e.Rect at rs) h own) in
          absurd (none_some q.0 (ap (option_and_then (rect_literal (range_count rs))) (sym z) ∙ q.1))

  spread_fits : (at : Place) (dims : NumberedDims) → DimsMeant p m turns dims → dims_refusals p s dims ≡ []
      → (over : Spread) × (dims_spread p s dims ≡ Some over) × ((n : ℕ) → spread_type over ≡ Some (t.Rc n) → IsInner p m s (domain_written at dims) (t.Rc n))
  spread_fits at (st.Domain x) k h = let q = inner_fits x k h in (Over q.0, ap (option_map Over) q.1.1, λ n i. (q.1.0, q.1.1 ∙ i))
  spread_fits at (st.Ranges ranges) k h =
      let rs = numbered_ranges ranges in
      let q = bounds_there at rs k.1 (nil_left (flat_map (refusals_at p s) (parts_of_ranges rs)) (bounds_misplaced p s rs) h)
      (nil_right (flat_map (refusals_at p s) (parts_of_ranges rs)) (bounds_misplaced p s rs) h) in (
        Ranged (range_count rs) q.0,
        ap (option_map (Ranged (range_count rs))) q.1,
        λ n i. (
          (dims_are (range_count rs) k.0, ranges_written rs k.1),
          operand_plain (option_and_then (rect_literal (range_count rs)) (bounds p s rs)) (t.Rc n)
              (ap (option_and_then (rect_literal (range_count rs))) q.1 ∙ i) refl,
        ),
      )

  grid_there : (element r : ValueType) (over : Spread) → is_some (new_grid_type element r over) ≡ true
      → (n : ℕ) × (is_region_type r ≡ true) × (spread_type over ≡ Some (t.Rc n)) × (new_grid_type element r over ≡ Some (t.Grid element n true))
  grid_there element r over h = by (is_region_type r) refl (spread_type over) refl h
    where
      of_type : (u : ValueType) → spread_type over ≡ Some u → is_region_type r ≡ true → is_some (grid_over element u) ≡ true
          → (n : ℕ) × (is_region_type r ≡ true) × (spread_type over ≡ Some (t.Rc n))
          × ((if is_region_type r then option_and_then (grid_over element) (spread_type over) else None) ≡ Some (t.Grid element n true))
      of_type (t.Rc n) z i h = (n, i, z, ap₂ (λ (b : Bool) (o : Option ValueType). if b then option_and_then (grid_over element) o else None) i z)
      of_type _ z i h = absurd (true_false (sym h))

      by : (b : Bool) → is_region_type r ≡ b → (o : Option ValueType) → spread_type over ≡ o → is_some (if b then option_and_then (grid_over element) o else None) ≡ true
          → (n : ℕ) × (is_region_type r ≡ true) × (spread_type over ≡ Some (t.Rc n))
          × ((if is_region_type r then option_and_then (grid_over element) (spread_type over) else None) ≡ Some (t.Grid element n true))
      by true i (Some u) z h = of_type u z i h
      by true i None z h = absurd (true_false (sym h))
      by false i o z h = absurd (true_false (sym h))

  where_is : {A : Type 0} (b : Bool) (a : A) → is_some (where_true b a) ≡ true → b ≡ true
  where_is true a h = refl
  where_is false a h = absurd (true_false (sym h))

  both_typed : {A B : Type 0} (o : Option A) (q : Option B) (f : A → B → Option ValueType) (a : A) (b : B) (type : ValueType) → o ≡ Some a → q ≡ Some b → f a b ≡ Some type → and_then_both o q f ≡ Some type
  both_typed o q f a b type g h k = ap₂ (λ x y. and_then_both x y f) g h ∙ k

  -- a right side
  pub init_fits : (value : NumberedInit) → InitMeant p m turns value → initial_refusals p s value ≡ [] → (type : ValueType) × InitFits p m s value type × (initial_type p s value ≡ Some type)
  init_fits (st.Value x) k h = value_fits x k h
  init_fits (st.NewRegion at) k h = (t.Region, refl, refl)
  init_fits (st.NewObject at region class) k h =
      let rule = λ (r : ValueType). operand_refusal at (is_region_type r) false in
      let q = region_fits region k.0 (nil_left (region_refusals p s region) (judged (region_type p s region) rule) h) in
      let i = not_mistaken at (is_region_type q.0) false (judged_at (region_type p s region) rule q.0 q.1 (nil_right (region_refusals p s region) (judged (region_type p s region) rule) h)) in
      let c = there_is (slice_get p.classes class) k.1 in (
        t.Class class true,
        (refl, q.2 i, (_, ap (option_map (λ (c : NumberedClass). map (λ (f : NumberedField). zero_of_type f.ty.type) c.fields)) c.1)),
        ap (option_and_then (object_type class)) q.1 ∙ ap (λ b. where_true b (t.Class class true)) i,
      )
  init_fits (st.NewGrid at region element dims_at dims) k h =
      let rule = λ (r : ValueType) (d : Spread). operand_refusal at (is_some (new_grid_type element.type r d)) (is_some (new_grid_type element.type r (one_dim_spread d))) in
      let own = both_judged (region_type p s region) (dims_spread p s dims) rule in
      let parts = nil_left ((region_refusals p s region ++ type_word_refusals false element) ++ dims_refusals p s dims) own h in
      let words = nil_left (region_refusals p s region ++ type_word_refusals false element) (dims_refusals p s dims) parts in
      let q = region_fits region k.0 (nil_left (region_refusals p s region) (type_word_refusals false element) words) in
      let d = spread_fits dims_at dims k.2 (nil_right (region_refusals p s region ++ type_word_refusals false element) (dims_refusals p s dims) parts) in
      let i = both_at (region_type p s region) (dims_spread p s dims) rule q.0 d.0 q.1 d.1 (nil_right ((region_refusals p s region ++ type_word_refusals false element) ++ dims_refusals p s dims) own h) in
      let g = grid_there element.type q.0 d.0 (not_mistaken at _ _ i) in (
        t.Grid element.type g.0 true,
        (g.0, refl {a = t.Grid element.type g.0 true}, q.2 g.1, d.2 g.0 g.2, storable_is element.type k.1),
        both_typed (region_type p s region) (dims_spread p s dims) (new_grid_type element.type) q.0 d.0 (t.Grid element.type g.0 true) q.1 d.1 g.3,
      )
  init_fits (st.Broadcast at x root) k h =
      let rule = λ (u r : ValueType). operand_refusal at (is_some (broadcast_type u r)) false in
      let own = both_judged (operand_type p s x) (operand_type p s root) rule in
      let parts = nil_left (inner_refusals p s x ++ inner_refusals p s root) own h in
      let q = inner_fits x k.0 (nil_left (inner_refusals p s x) (inner_refusals p s root) parts) in
      let r = inner_fits root k.1 (nil_right (inner_refusals p s x) (inner_refusals p s root) parts) in
      let i = where_is (can_broadcast q.0 && is_int r.0) (as_global q.0)
      (not_mistaken at _ false (both_at (operand_type p s x) (operand_type p s root) rule q.0 r.0 q.1.1 r.1.1
      (nil_right (inner_refusals p s x ++ inner_refusals p s root) own h))) in (
        as_global q.0,
        (q.0, refl {a = as_global q.0}, q.1, (r.1.0, r.1.1 ∙ ap Some (int_is r.0 (and_right (can_broadcast q.0) (is_int r.0) i))), and_left (can_broadcast q.0) (is_int r.0) i),
        both_typed (operand_type p s x) (operand_type p s root) broadcast_type q.0 r.0 (as_global q.0) q.1.1 r.1.1 (ap (λ b. where_true b (as_global q.0)) i),
      )

  -- ---- targets

  target_operand : (x : NumberedExp) → ExpMeant p m turns x → is_place x ≡ true → (u : ValueType) → expr_type p s x ≡ Some u → operand_type p s x ≡ Some u
  target_operand (e.Variable at v) k h u z =
      let q = variable_formed m s turns around v.number v.declared k in
      operand_plain (variable_type s v) u z (subst (λ type. is_void type ≡ false) (some_same q.0 u (sym q.1 ∙ z)) q.3)
  target_operand (e.OwnField at field) k h u z =
      let o = option_and_then (λ c. field_type p c field) s.this_class in
      let q = mapped as_global o u z in
      let c = and_then (λ c. field_type p c field) s.this_class q.0 q.1 in
      operand_plain (option_map as_global o) u z (subst (λ type. is_void type ≡ false) q.2 (storable_something false q.0 (field_formed p fields m s turns around c.0 field q.0 c.2).0))
  target_operand (e.Select at a name) k h u z =
      let q = and_then (λ type. select_type p type name) (operand_type p s a) u z in
      operand_plain (option_and_then (λ type. select_type p type name) (operand_type p s a)) u z (selected p fields m s turns around name q.0 u q.2).1
  target_operand (e.Index at a parts) k h u z =
      let q = both_there index_type (operand_type p s a) (operands p s parts) u z in
      operand_plain (and_then_both (operand_type p s a) (operands p s parts) index_type) u z (index_something q.0 u q.1 q.4 (exp_formed p fields m s turns around a k.0 q.0 q.2))
  target_operand _ k h u z = absurd (true_false (sym h))

  pub target_fits : (x : NumberedExp) → TargetMeant p m turns x → exp_refusals p s x ≡ [] → (u : ValueType) × IsInner p m s x u
  target_fits x k h = let q = has_type p s x (names_known x k.0) h in (q.0, (written x k.0, target_operand x k.0 k.1 q.0 q.1))

  -- a value of a type goes into a target
  pub assigned_fits : (at : Place) (target : NumberedExp) (u type : ValueType) → IsInner p m s target u
      → write_refusals p s at target (misfit at type u) ≡ [] → ReceiverFits p m s (Assigned at target) type
  assigned_fits at target u type i h = let q = write_fine p s at target (misfit at type u) h in (u, (i, q.0.0, q.0.1), no_misfit at type u q.1)

  pub updated_fits : (at : Place) (op : BinaryOperator) (target : NumberedExp) (u type : ValueType) → IsInner p m s target u → write_refusals p s at target (update_refusals at op u type) ≡ []
      → ReceiverFits p m s (Updated at op target) type
  updated_fits at op target u type i h =
      let q = write_fine p s at target (update_refusals at op u type) h in
      let r = update_fine at op u type q.1 in
      (u, r.0, (i, q.0.0, q.0.1), r.1, r.2)

-- in the body of a foreach over such a domain
pub surrounds_inside : (p : ProgramView) (m : NumberedMethod) (s : ScopeContents) (turns : List ℕ) → Surrounds m s turns → (number : ℕ) (domain : NumberedExp) (n : ℕ)
    → among turns number ≡ false → is_none (in_scope (method_scope m) number) ≡ true → option_and_then domain_dim (operand_type p s domain) ≡ Some n → is_dim n ≡ true
    → Surrounds m (record s { variables = variables_inside p s number domain }) (number ∷ turns)
surrounds_inside p m s turns around number domain n apart fresh h dim =
    let is_single = is_single_part p s.this_class (singles_in s) domain in
    subst (λ o. Surrounds m (record s { variables = with_foreach_variable s.variables number is_single o }) (number ∷ turns)) (sym h) (surrounds_point m s turns around number apart fresh is_single n dim)

pub same_step : (op : StepOperator) → operator_of op ≡ one_more op
same_step Increment = refl
same_step Decrement = refl
