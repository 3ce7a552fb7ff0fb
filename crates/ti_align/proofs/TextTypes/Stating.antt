-- Statements in which no rule is broken fit the types.
use Rattle.std.proofs.Common.{◌≡◌, ℕ, Bool, true, false, not, if◌then◌else◌, flat_map, is_some, is_none, option_and_then, Option, Some, None, List, [], ◌∷◌, ◌++◌, refl, ap, sym, ◌∙◌, subst}
use Rattle.ti_base.specs.declared.place.Place.{Place}
use Rattle.ti_syntax.specs.declared.tree.exprs.BinaryOperator.{BinaryOperator}
use Rattle.ti_syntax.specs.declared.tree.stmts.StepOperator.{StepOperator}
use Rattle.ti_lang.specs.Program.Types.{ValueType, NumberedType}
use Rattle.ti_lang.specs.Program.Types as t
use Rattle.ti_lang.specs.Program.Expressions.{NumberedExp, place_of_numbered}
use Rattle.ti_lang.specs.Program.Statements.{NumberedInit, NumberedPrint, NumberedStm, MaybeNumbered, NumberedStms}
use Rattle.ti_lang.specs.Program.Statements as st
use Rattle.ti_lang.specs.Program.Classes.{NumberedMethod, ProgramView}
use Rattle.ti_lang.specs.Program.Scope.{ScopeContents, method_scope}
use Rattle.ti_lang.specs.Typing.Kinds.{domain_dim, is_void}
use Rattle.ti_lang.specs.Typing.Fits.{fits}
use Rattle.ti_lang.specs.Typing.Declared.{in_scope, result_type}
use Rattle.ti_lang.specs.Typing.Expressions.{operand_type}
use Rattle.ti_lang.specs.Meaning.Processes.{Updated}
use Rattle.ti_rules.specs.declared.rule.Rule.TheVariants.{Y3, Y6}
use Rattle.ti_rules.specs.Refusals.{refused_if}
use Rattle.ti_rules.specs.InitialTypes.{right_side_type, initial_type}
use Rattle.ti_rules.specs.StmtInContext.{StmtContext, StmtInContext, scope_of, stands, in_loop, in_foreach, inside, inside_maybe, inside_all}
use Rattle.ti_rules.specs.Broken.Refused.{refusal_at, judged, both_judged, operand_refusal, misfit}
use Rattle.ti_rules.specs.Broken.Words.{type_word_refusals}
use Rattle.ti_rules.specs.Broken.Expressions.{exp_refusals}
use Rattle.ti_rules.specs.Broken.RightSides.{inner_refusals, value_refusals, initial_refusals}
use Rattle.ti_rules.specs.Broken.Targets.{write_refusals}
use Rattle.ti_rules.specs.Broken.Statements.{update_refusals, operator_of, is_boolean, condition_refusals, maybe_condition_refusals, is_printed, printed_refusals, print_refusals, given_back, statement_refusals, standing_refusals}
use Rattle.ti_rules.proofs.Lemmas.{nil_left, nil_right, each_left, each_right, not_refused, not_mistaken, no_misfit, there_is}
use Rattle.ti_align.specs.Mirrors.ContItem.{IsInner, ReceiverFits, PrintFits, ConditionFits, DomainFits, StmFits, MaybeFits, StmsFit}
use Rattle.ti_align.proofs.Runs.Vars.{true_false}
use Rattle.ti_align.proofs.TextTypes.Meant.{among, ExpMeant, OptionMeant, PrintMeant, StmMeant, MaybeMeant, StmsMeant, FieldsMeant}
use Rattle.ti_align.proofs.TextTypes.Forming.{dim_in, Surrounds, exp_formed}
use Rattle.ti_lang.proofs.Lemmas.{dims_are}
use Rattle.ti_align.proofs.TextTypes.Written.{judged_at, both_at, inner_fits, whole_fits, value_fits, init_fits, target_fits, assigned_fits, updated_fits, surrounds_inside, same_step}

-- ---- conditions, prints and results

boolean_is : (type : ValueType) → not (is_boolean type) ≡ false → type ≡ t.Boolean
boolean_is t.Boolean h = refl
boolean_is _ h = absurd (true_false h)

given_fits : (at : Place) (result type : ValueType) → given_back at result type ≡ [] → fits type result ≡ true
given_fits at result type h = by (is_void result) h
  where
    by : (b : Bool) → (if b then refusal_at Y6 at else misfit at type result) ≡ [] → fits type result ≡ true
    by true h = absurd (never h)
      where
        never : refusal_at Y6 at ≡ [] → ⊥
        never h = cc
    by false h = no_misfit at type result h

module _ (p : ProgramView) (fields : FieldsMeant p) (m : NumberedMethod) (s : ScopeContents) (turns : List ℕ) (around : Surrounds m s turns) where
  condition_fits : (c : NumberedExp) → ExpMeant p m turns c → condition_refusals p s c ≡ [] → IsInner p m s c t.Boolean
  condition_fits c k h =
      let rule = λ (type : ValueType). refused_if (not (is_boolean type)) Y3 (place_of_numbered c) in
      let q = inner_fits p fields m s turns around c k (nil_left (inner_refusals p s c) (judged (operand_type p s c) rule) h) in
      let i = not_refused (not (is_boolean q.0)) Y3 (place_of_numbered c) (judged_at (operand_type p s c) rule q.0 q.1.1 (nil_right (inner_refusals p s c) (judged (operand_type p s c) rule) h)) in
      (q.1.0, q.1.1 ∙ ap Some (boolean_is q.0 i))

  maybe_condition_fits : (c : Option NumberedExp) → OptionMeant p m turns c → maybe_condition_refusals p s c ≡ [] → ConditionFits p m s c
  maybe_condition_fits None k h = tt
  maybe_condition_fits (Some c) k h = condition_fits c k h

  printed_fits : (at : Place) (x : NumberedExp) → ExpMeant p m turns x → printed_refusals p s at x ≡ [] → (type : ValueType) × IsInner p m s x type
  printed_fits at x k h =
      let rule = λ (type : ValueType). operand_refusal at (is_printed type) false in
      inner_fits p fields m s turns around x k (nil_left (inner_refusals p s x) (judged (operand_type p s x) rule) h)

  print_fits : (at : Place) (what : NumberedPrint) → PrintMeant p m turns what → print_refusals p s at what ≡ [] → PrintFits p m s what
  print_fits at st.Nothing k h = tt
  print_fits at (st.Text literal) k h = tt
  print_fits at (st.Expression x) k h = printed_fits at x k h
  print_fits at (st.TextAndExpression literal x) k h = printed_fits at x k h

  returned_fits : (at : Place) (result : ValueType) (x : NumberedExp) → ExpMeant p m turns x → inner_refusals p s x
      ++ judged (operand_type p s x) (λ (type : ValueType). given_back at result type) ≡ []
      → (u : ValueType) × IsInner p m s x u × (fits u result ≡ true)
  returned_fits at result x k h =
      let rule = λ (type : ValueType). given_back at result type in
      let q = inner_fits p fields m s turns around x k (nil_left (inner_refusals p s x) (judged (operand_type p s x) rule) h) in
      (q.0, q.1, given_fits at result q.0 (judged_at (operand_type p s x) rule q.0 q.1.1 (nil_right (inner_refusals p s x) (judged (operand_type p s x) rule) h)))

  -- a domain, and how many dimensions it has
  domain_fits : (at : Place) (number : ℕ) (domain : NumberedExp) → ExpMeant p m turns domain → among turns number ≡ false → is_none (in_scope (method_scope m) number) ≡ true
      → inner_refusals p s domain ++ judged (operand_type p s domain) (λ (type : ValueType). operand_refusal at (is_some (domain_dim type)) false) ≡ [] → (n : ℕ) × DomainFits p m s number domain n
  domain_fits at number domain k apart fresh h =
      let rule = λ (type : ValueType). operand_refusal at (is_some (domain_dim type)) false in
      let q = inner_fits p fields m s turns around domain k (nil_left (inner_refusals p s domain) (judged (operand_type p s domain) rule) h) in
      let n = there_is (domain_dim q.0) (not_mistaken at _ false (judged_at (operand_type p s domain) rule q.0 q.1.1
      (nil_right (inner_refusals p s domain) (judged (operand_type p s domain) rule) h))) in (
        n.0,
        ((q.0, q.1, n.1), subst (λ o. is_none o ≡ true) (sym (around.others number apart)) fresh, dims_are n.0 (dim_in q.0 n.0 n.1 (exp_formed p fields m s turns around domain k q.0 q.1.1))),
      )

-- ---- statements

-- nothing is wrong with what stands there
abbrev pub Clean : ProgramView → List StmtInContext → Type 0
Clean p xs = flat_map (standing_refusals p) xs ≡ []

-- nor with the first
own : (p : ProgramView) (a : StmtContext) (x : NumberedStm) (xs : List StmtInContext) → Clean p (stands a x ∷ xs) → statement_refusals p a x ≡ []
own p a x xs h = nil_left (statement_refusals p a x) (flat_map (standing_refusals p) xs) h

within : (p : ProgramView) (a : StmtContext) (x : NumberedStm) (xs : List StmtInContext) → Clean p (stands a x ∷ xs) → Clean p xs
within p a x xs h = nil_right (statement_refusals p a x) (flat_map (standing_refusals p) xs) h

module _ (p : ProgramView) (fields : FieldsMeant p) where
  abbrev Stands : StmtContext → List ℕ → Type 0
  Stands a turns = Surrounds a.method (scope_of a) turns

  -- where names mean something and no rule is broken in it, a statement fits
  abbrev FitsThere : StmtContext → List ℕ → NumberedStm → Type 0
  FitsThere a turns x = StmMeant p a.method turns x → Clean p (inside p a x) → StmFits p a.method (scope_of a) x

  declare_fits : (a : StmtContext) (turns : List ℕ) → Stands a turns → (at : Place) (type : NumberedType) (variable : ℕ) (value : NumberedInit) → FitsThere a turns (st.Declare at type variable value)
  declare_fits a turns around at type variable value k h =
      let s = scope_of a in
      let rule = λ (u : ValueType). misfit at u type.type in
      let r = own p a (st.Declare at type variable value) [] h in
      let words = type_word_refusals true type in
      let q = init_fits p fields a.method s turns around value k (nil_right words (initial_refusals p s value)
      (nil_left (words ++ initial_refusals p s value) (judged (initial_type p s value) rule) r)) in
      (q.0, q.1, no_misfit at q.0 type.type (judged_at (initial_type p s value) rule q.0 q.2 (nil_right (words ++ initial_refusals p s value) (judged (initial_type p s value) rule) r)))

  assign_fits : (a : StmtContext) (turns : List ℕ) → Stands a turns → (at : Place) (target : NumberedExp) (value : NumberedInit) → FitsThere a turns (st.Assign at target value)
  assign_fits a turns around at target value k h =
      let s = scope_of a in
      let rule = λ (u type : ValueType). write_refusals p s at target (misfit at type u) in
      let r = own p a (st.Assign at target value) [] h in
      let judge = both_judged (operand_type p s target) (initial_type p s value) rule in
      let parts = nil_left (exp_refusals p s target ++ initial_refusals p s value) judge r in
      let g = target_fits p fields a.method s turns around target k.0 (nil_left (exp_refusals p s target) (initial_refusals p s value) parts) in
      let q = init_fits p fields a.method s turns around value k.1 (nil_right (exp_refusals p s target) (initial_refusals p s value) parts) in
      let w = both_at (operand_type p s target) (initial_type p s value) rule g.0 q.0 g.1.1 q.2 (nil_right (exp_refusals p s target ++ initial_refusals p s value) judge r) in
      (q.0, q.1, assigned_fits p fields a.method s turns around at target g.0 q.0 g.1 w)

  update_fits : (a : StmtContext) (turns : List ℕ) → Stands a turns → (at : Place) (op : BinaryOperator) (target x : NumberedExp) → FitsThere a turns (st.Update at op target x)
  update_fits a turns around at op target x k h =
      let s = scope_of a in
      let rule = λ (u type : ValueType). write_refusals p s at target (update_refusals at op u type) in
      let r = own p a (st.Update at op target x) [] h in
      let judge = both_judged (operand_type p s target) (right_side_type p s x) rule in
      let parts = nil_left (exp_refusals p s target ++ value_refusals p s x) judge r in
      let g = target_fits p fields a.method s turns around target k.0 (nil_left (exp_refusals p s target) (value_refusals p s x) parts) in
      let q = value_fits p fields a.method s turns around x k.1 (nil_right (exp_refusals p s target) (value_refusals p s x) parts) in
      let w = both_at (operand_type p s target) (right_side_type p s x) rule g.0 q.0 g.1.1 q.2 (nil_right (exp_refusals p s target ++ value_refusals p s x) judge r) in
      (q.0, q.1, updated_fits p fields a.method s turns around at op target g.0 q.0 g.1 w)

  step_fits : (a : StmtContext) (turns : List ℕ) → Stands a turns → (at : Place) (op : StepOperator) (target : NumberedExp) → FitsThere a turns (st.Step at op target)
  step_fits a turns around at op target k h =
      let s = scope_of a in
      let rule = λ (u : ValueType). write_refusals p s at target (update_refusals at (operator_of op) u t.Int) in
      let r = own p a (st.Step at op target) [] h in
      let judge = judged (operand_type p s target) rule in
      let g = target_fits p fields a.method s turns around target k (nil_left (exp_refusals p s target) judge r) in
      let w = judged_at (operand_type p s target) rule g.0 g.1.1 (nil_right (exp_refusals p s target) judge r) in
      subst (λ o. ReceiverFits p a.method s (Updated at o target) t.Int) (same_step op) (updated_fits p fields a.method s turns around at (operator_of op) target g.0 t.Int g.1 w)

  mutual
    pub stm_fits : (a : StmtContext) (turns : List ℕ) → Stands a turns → (x : NumberedStm) → FitsThere a turns x
    stm_fits a turns around (st.Declare at type variable value) k h = declare_fits a turns around at type variable value k h
    stm_fits a turns around (st.Assign at target value) k h = assign_fits a turns around at target value k h
    stm_fits a turns around (st.Update at op target x) k h = update_fits a turns around at op target x k h
    stm_fits a turns around (st.Step at op target) k h = step_fits a turns around at op target k h
    stm_fits a turns around (st.Call x) k h =
        let q = whole_fits p fields a.method (scope_of a) turns around x k.0 (own p a (st.Call x) [] h) in
        (q.0, q.1, k.1)
    stm_fits a turns around (st.Print at what) k h = print_fits p fields a.method (scope_of a) turns around at what k (own p a (st.Print at what) [] h)
    stm_fits a turns around (st.Return at (Some x)) k h = returned_fits p fields a.method (scope_of a) turns around at (result_type a.method) x k (own p a (st.Return at (Some x)) [] h)
    stm_fits a turns around (st.Block body) k h = stms_fit a turns around body k (within p a (st.Block body) (inside_all p a body) h)
    stm_fits a turns around (st.If at c x) k h =
        (condition_fits p fields a.method (scope_of a) turns around c k.0 (own p a (st.If at c x) (inside p a x) h), stm_fits a turns around x k.1 (within p a (st.If at c x) (inside p a x) h))
    stm_fits a turns around (st.IfElse at c x y) k h =
        let both = inside p a x ++ inside p a y in
        let r = within p a (st.IfElse at c x y) both h in (
          condition_fits p fields a.method (scope_of a) turns around c k.0 (own p a (st.IfElse at c x y) both h),
          stm_fits a turns around x k.1 (each_left (standing_refusals p) (inside p a x) (inside p a y) r),
          stm_fits a turns around y k.2 (each_right (standing_refusals p) (inside p a x) (inside p a y) r),
        )
    stm_fits a turns around (st.While at c body) k h =
        let b = in_loop p a st.NoStm body in (
          condition_fits p fields a.method (scope_of a) turns around c k.0 (own p a (st.While at c body) (inside p b body) h),
          stm_fits b turns around body k.1 (within p a (st.While at c body) (inside p b body) h),
        )
    stm_fits a turns around (st.For at first c update body) k h =
        let b = in_loop p a update body in
        let rest = inside_maybe p a update ++ inside p b body in
        let all = inside_maybe p a first ++ rest in
        let r = within p a (st.For at first c update body) all h in
        let q = each_right (standing_refusals p) (inside_maybe p a first) rest r in (
          maybe_fits a turns around first k.0 (each_left (standing_refusals p) (inside_maybe p a first) rest r),
          maybe_condition_fits p fields a.method (scope_of a) turns around c k.1 (own p a (st.For at first c update body) all h),
          maybe_fits a turns around update k.2 (each_left (standing_refusals p) (inside_maybe p a update) (inside p b body) q),
          stm_fits b turns around body k.3 (each_right (standing_refusals p) (inside_maybe p a update) (inside p b body) q),
        )
    stm_fits a turns around (st.Foreach at number domain body) k h =
        let b = in_foreach p a number domain body in
        let q = domain_fits p fields a.method (scope_of a) turns around at number domain k.0 k.1 k.2 (own p a (st.Foreach at number domain body) (inside p b body) h) in
        let i : option_and_then domain_dim (operand_type p (scope_of a) domain) ≡ Some q.0 = ap (option_and_then domain_dim) q.1.0.1.1 ∙ q.1.0.2 in
        let dim = dim_in q.1.0.0 q.0 q.1.0.2 (exp_formed p fields a.method (scope_of a) turns around domain k.0 q.1.0.0 q.1.0.1.1) in (
          q,
          stm_fits b (number ∷ turns) (surrounds_inside p a.method (scope_of a) turns around number domain q.0 k.1 k.2 i dim) body k.3
              (within p a (st.Foreach at number domain body) (inside p b body) h),
        )
    stm_fits a turns around _ k h = tt

    maybe_fits : (a : StmtContext) (turns : List ℕ) → Stands a turns → (x : MaybeNumbered) → MaybeMeant p a.method turns x → Clean p (inside_maybe p a x) → MaybeFits p a.method (scope_of a) x
    maybe_fits a turns around st.NoStm k h = tt
    maybe_fits a turns around (st.SomeStm x) k h = stm_fits a turns around x k h

    pub stms_fit : (a : StmtContext) (turns : List ℕ) → Stands a turns → (xs : NumberedStms) → StmsMeant p a.method turns xs → Clean p (inside_all p a xs) → StmsFit p a.method (scope_of a) xs
    stms_fit a turns around st.Nil k h = tt
    stms_fit a turns around (st.Cons x rest) k h = (
      stm_fits a turns around x k.0 (each_left (standing_refusals p) (inside p a x) (inside_all p a rest) h),
      stms_fit a turns around rest k.1 (each_right (standing_refusals p) (inside p a x) (inside_all p a rest) h),
    )
