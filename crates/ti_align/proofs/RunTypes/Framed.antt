-- Where the work that is left in a frame fits, the first piece of it is performed where it fits.
use Rattle.std.proofs.Common.{◌≡◌, ◌⊎◌, ℕ, ◌==◌, find, is_none, Bool, true, false, inl, inr, if◌then◌else◌, Option, Some, None, List, [], ◌∷◌, ◌++◌, option_and_then, refl, ap, sym, ◌∙◌, subst, eqb-true}
use Rattle.ti_base.specs.Points.{IsDim}
use Rattle.ti_lang.specs.Program.Types.{ValueType, Declaration, VariableUse}
use Rattle.ti_lang.specs.Program.Types as t
use Rattle.ti_lang.specs.Program.Classes.{NumberedMethod, ProgramView}
use Rattle.ti_lang.specs.Program.Scope.{ScopeVariable, ScopeContents, method_scope}
use Rattle.ti_lang.specs.Typing.Declared.{in_scope, variable_type, declared_type}
use Rattle.ti_lang.specs.Typing.Kinds.{domain_dim}
use Rattle.ti_lang.specs.Typing.Singleness.{is_single_part}
use Rattle.ti_base.specs.declared.value.Value.TheVariants as val
use Rattle.ti_base.specs.Forms.{is_dim}
use Rattle.ti_lang.specs.Meaning.Held.{Plain}
use Rattle.ti_lang.specs.Meaning.Turns.{turns_at, point_at}
use Rattle.ti_lang.specs.Meaning.Processes.{Process, Frame, While, Foreach, ContItem, Do, End, Before, Behind, Receive, CopyAll, TakeAll}
use Rattle.ti_lang.specs.Meaning.Scoping.{env_of, find_variable, value_by}
use Rattle.ti_rules.specs.StmtInContext.{singles_in, with_foreach_variable, variables_inside}
use Rattle.ti_align.specs.HeapTyping.{HeapTyping, IsOf, DimsFine, VariablesFit, ThisFits}
use Rattle.ti_align.specs.Mirrors.Fitting.{EnvFits}
use Rattle.ti_align.specs.Heap.{FieldsFit, FieldsStorable}
use Rattle.ti_align.specs.Mirrors.Sound.{Sound}
use Rattle.ti_lang.specs.Meaning.Performing.{exec_item}
use Rattle.ti_lang.specs.Meaning.Scoping as scoping
use Rattle.ti_lang.proofs.Lemmas.{dims_are}
use Rattle.ti_align.proofs.RunTypes.Dimmed.{this_over, text_type}
use Rattle.ti_align.proofs.RunTypes.Stated.{work_fine}
use Rattle.ti_align.specs.Mirrors.ContItem.{has_dims, may_use, uses_of, MethodsFit, HasNumber, taken_type, WorksFit, MoveFits}
use Rattle.ti_align.specs.Given.{scope_over, contribution_type}
use Rattle.ti_align.proofs.Runs.Vars.{true_false, and_left, and_right}
use Rattle.ti_align.proofs.RunTypes.Operating.{none_some, some_same}
use Rattle.ti_align.proofs.RunTypes.Evaluating.{mapped}
use Rattle.ti_align.proofs.RunTypes.Storing.{found_fits}

-- ---- dimensions

dims_fine : (a : ValueType) → has_dims a ≡ true → DimsFine a
dims_fine (t.Pt n) h = dims_are n h
dims_fine (t.Rc n) h = dims_are n h
dims_fine (t.Dm n) h = dims_are n h
dims_fine (t.Grid x n l) h = (dims_are n (and_left (is_dim n) (has_dims x) h), dims_fine x (and_right (is_dim n) (has_dims x) h))
dims_fine _ h = tt

-- ---- foreach variables

-- with one variable behind others
found_last : (xs : List ScopeVariable) (y : ScopeVariable) (number : ℕ) (r : ScopeVariable) → find (λ (v : ScopeVariable). v.number == number) (xs ++ y ∷ []) ≡ Some r
    → (find (λ (v : ScopeVariable). v.number == number) xs ≡ Some r) ⊎ ((y.number == number) ≡ true) × (y ≡ r)
found_last [] y number r h = by (y.number == number) refl h
  where
    by : (b : Bool) → (y.number == number) ≡ b → (if b then Some y else None) ≡ Some r → (None ≡ Some r) ⊎ ((y.number == number) ≡ true) × (y ≡ r)
    by true z h = inr (z, some_same y r h)
    by false z h = absurd (none_some r h)
found_last (x ∷ xs) y number r h = by (x.number == number) h (λ k. found_last xs y number r k)
  where
    by : (b : Bool) → (if b then Some x else find (λ (v : ScopeVariable). v.number == number) (xs ++ y ∷ [])) ≡ Some r
        → (find (λ (v : ScopeVariable). v.number == number) (xs ++ y ∷ []) ≡ Some r → (find (λ (v : ScopeVariable). v.number == number) xs ≡ Some r) ⊎ ((y.number == number) ≡ true) × (y ≡ r))
        → ((if b then Some x else find (λ (v : ScopeVariable). v.number == number) xs) ≡ Some r) ⊎ ((y.number == number) ≡ true) × (y ≡ r)
    by true h k = inl h
    by false h k = k h

none_is : {A : Type 0} (o : Option A) (a : A) → is_none o ≡ true → o ≡ Some a → ⊥
none_is o a h z = true_false (sym h ∙ ap is_none z)

module _ (p : ProgramView) (m : NumberedMethod) (base : ScopeContents) (w : HeapTyping) where
  -- a foreach variable in scope stands at a point of its dimensions
  abbrev Stands : ScopeVariable → List ContItem → ℕ → Type 0
  Stands v left number = (n : ℕ) × (v.type ≡ t.Pt n) × IsDim n × IsOf w (t.Pt n) (point_at number (turns_at left))

  turn_fits : (left : List ContItem) (number : ℕ) (v : ScopeVariable) → WorksFit p m base w left → is_none (in_scope base number) ≡ true
      → in_scope (scope_over p base left) number ≡ Some v → Stands v left number
  turn_fits [] number v f h z = absurd (none_is (in_scope base number) v h z)
  turn_fits (Do x ∷ left) number v f h z = turn_fits left number v f.1 h z
  turn_fits (End x ∷ left) number v f h z = turn_fits left number v f.1 h z
  turn_fits (Before l ∷ left) number v f h z = turn_fits left number v f.1 h z
  turn_fits (Receive r k ∷ left) number v f h z = turn_fits left number v f.1 h z
  turn_fits (CopyAll at x y ps ∷ left) number v f h z = turn_fits left number v f.1 h z
  turn_fits (TakeAll at g is ∷ left) number v f h z = turn_fits left number v f.1 h z
  turn_fits (Behind (While at c u b) ∷ left) number v f h z = turn_fits left number v f.1 h z
  turn_fits (Behind (Foreach at own domain [] b) ∷ left) number v f h z = absurd f.0.1
  turn_fits (Behind (Foreach at own domain (q ∷ qs) b) ∷ left) number v f h z =
      by (found_last (scope_over p base left).variables (record { number = own; type = t.Pt n; is_single = single }) number v
      (sym (ap (λ xs. find (λ (v : ScopeVariable). v.number == number) xs) inside) ∙ z)) (λ i. turn_fits left number v f.1 h i)
    where
      n : ℕ
      n = f.0.0.0.0

      single : Bool
      single = is_single_part p (scope_over p base left).this_class (singles_in (scope_over p base left)) domain

      inside : variables_inside p (scope_over p base left) own domain ≡ (scope_over p base left).variables ++ record { number = own; type = t.Pt n; is_single = single } ∷ []
      inside = ap (with_foreach_variable (scope_over p base left).variables own single) (ap (option_and_then domain_dim) f.0.0.0.1.0.1.1 ∙ f.0.0.0.1.0.2)

      other : (b : Bool) → (own == number) ≡ b → in_scope (scope_over p base left) number ≡ Some v → Stands v left number → (k : ℕ)
          × (v.type ≡ t.Pt k) × IsDim k × IsOf w (t.Pt k) (if b then Plain (val.Pt q) else point_at number (turns_at left))
      other true e z k = absurd (none_is (in_scope (scope_over p base left) own) v f.0.0.0.1.1 (subst (λ i. in_scope (scope_over p base left) i ≡ Some v) (sym (eqb-true own number e)) z))
      other false e z k = k

      by : (in_scope (scope_over p base left) number ≡ Some v) ⊎ ((own == number) ≡ true)
          × (record { number = own; type = t.Pt n; is_single = single } ≡ v)
          → (in_scope (scope_over p base left) number ≡ Some v → Stands v left number)
          → Stands v (Behind (Foreach at own domain (q ∷ qs) b) ∷ left) number
      by (inl z) k = other (own == number) refl z (k z)
      by (inr z) k = (
        n,
        ap (λ (v : ScopeVariable). v.type) (sym z.1),
        f.0.0.0.1.2,
        subst (IsOf w (t.Pt n)) (sym (ap (λ b. if b then Plain (val.Pt q) else point_at number (turns_at left)) z.0)) (
          q,
          refl,
          f.0.0.0.2.0,
        ),
      )

-- where the first piece of work of a frame is performed
frame_env : (pr : Process) (f : Frame) (left : List ContItem) (w : HeapTyping) → w.owner ≡ pr.number → HasNumber pr → VariablesFit w f.variables
    → ThisFits w f.method f.this → WorksFit pr.setting.program f.method (method_scope f.method) w left
    → EnvFits (uses_of f.method) (scope_over pr.setting.program (method_scope f.method) left) w (env_of pr f left)
frame_env pr f left w own n vs this k = record {
  owner = own;
  number = n.0;
  procs = n.1;
  this_class = this_over p (method_scope m) left;
  this = λ c z id q. this c (sym (this_over p (method_scope m) left) ∙ z) id q;
  variables = λ x type u z. value_fits x.declared x type u z;
  dims = λ x type u z. dims_fit x.declared x.number type u z;
  points = λ x type u d z. point_fits x.declared x.number type u d z;
}
  where
    p : ProgramView
    p = pr.setting.program

    m : NumberedMethod
    m = f.method

    s : ScopeContents
    s = scope_over p (method_scope m) left

    stands : (number : ℕ) (type : ValueType) → may_use m number t.Foreach ≡ true → declared_type s number t.Foreach ≡ Some type → (n : ℕ)
        × (type ≡ t.Pt n) × IsDim n × IsOf w (t.Pt n) (point_at number (turns_at left))
    stands number type u z =
        let q = mapped (λ (v : ScopeVariable). v.type) (in_scope s number) type z in
        let k = turn_fits p m (method_scope m) w left number q.0 k u q.1 in
        (k.0, sym q.2 ∙ k.1, k.2, k.3)

    value_fits : (d : Declaration) (x : VariableUse) (type : ValueType) → uses_of m x ≡ true → variable_type s x ≡ Some type → IsOf w type (value_by x.declared (env_of pr f left) x)
    value_fits d x type u z = by x.declared refl u z
      where
        by : (d : Declaration) → x.declared ≡ d → may_use m x.number d ≡ true → declared_type s x.number d ≡ Some type → IsOf w type (value_by d (env_of pr f left) x)
        by (t.Typed l a) e u z = subst (λ b. IsOf w b (find_variable x f.variables)) (some_same a type z)
            (subst (λ d. IsOf w (scoping.declared_type d) (find_variable x f.variables)) e
            (found_fits w x f.variables (subst (λ d. DimsFine (scoping.declared_type d)) (sym e) (dims_fine a u)) vs))
        by t.Foreach e u z = let k = stands x.number type u z in subst (λ b. IsOf w b (point_at x.number (turns_at left))) (sym k.1) k.3

    dims_fit : (d : Declaration) (number : ℕ) (type : ValueType) → may_use m number d ≡ true → declared_type s number d ≡ Some type → DimsFine type
    dims_fit (t.Typed l a) number type u z = subst DimsFine (some_same a type z) (dims_fine a u)
    dims_fit t.Foreach number type u z = let k = stands number type u z in subst DimsFine (sym k.1) k.2

    point_fits : (d : Declaration) (number : ℕ) (type : ValueType) → may_use m number d ≡ true → d ≡ t.Foreach → declared_type s number d ≡ Some type → (n : ℕ) × (type ≡ t.Pt n)
    point_fits (t.Typed l a) number type u d z = cc
    point_fits t.Foreach number type u d z = let k = stands number type u z in (k.0, k.1)

-- the first piece of work of a frame comes to a move that fits
pub frame_fine : (pr : Process) (f : Frame) (left : List ContItem) (w : HeapTyping) (x : ContItem) → w.owner ≡ pr.number → HasNumber pr
    → VariablesFit w f.variables → ThisFits w f.method f.this → FieldsFit pr.setting.program → FieldsStorable pr.setting.program
    → MethodsFit pr.setting.program pr.setting.program.methods
    → WorksFit pr.setting.program f.method (method_scope f.method) w (x ∷ left)
    → Sound pr.setting.program (λ u move. MoveFits pr.setting.program f.method
    (contribution_type pr.setting.program (scope_over pr.setting.program (method_scope f.method) left) x) (taken_type x)
    (scope_over pr.setting.program (method_scope f.method) left) u move) w (exec_item (env_of pr f left) x)
frame_fine pr f left w x own n vs this g d ms k =
    work_fine (scope_over pr.setting.program (method_scope f.method) left) (env_of pr f left) w
    (record {
      fits = frame_env pr f left w own n vs this k.1;
      variables = vs;
      fields = g;
      store = d;
      methods = ms;
      types = λ y type l z. text_type pr.setting.program f.method w left k.1 y type l z;
    }) x k.0
