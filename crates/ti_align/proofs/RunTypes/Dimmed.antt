-- In work that fits an expression has the type in the text that the rules give it, with the dimensions of the foreach loops around.
use Rattle.std.proofs.Common.{◌≡◌, ℕ, ◌==◌, find, is_none, Bool, true, false, if◌then◌else◌, Option, Some, None, List, [], ◌∷◌, ◌++◌, option_map, option_and_then, refl, ap, sym, ◌∙◌, subst, eqb-true}
use Rattle.ti_lang.specs.Program.Types.{ValueType, Declaration, Typed}
use Rattle.ti_lang.specs.Program.Types as t
use Rattle.ti_lang.specs.Program.Expressions.{NumberedExp, NumberedRange, NumberedRanges}
use Rattle.ti_lang.specs.Program.Expressions as e
use Rattle.ti_lang.specs.Program.Classes.{NumberedMethod, ProgramView}
use Rattle.ti_lang.specs.Program.Scope.{ScopeVariable, ScopeContents, this_of, method_scope}
use Rattle.ti_lang.specs.Typing.Kinds.{domain_dim, dim_of_type}
use Rattle.ti_lang.specs.Typing.Declared.{in_scope}
use Rattle.ti_lang.specs.Typing.Expressions.{type_result, operand_type}
use Rattle.ti_lang.specs.Typing.Singleness.{is_single_part}
use Rattle.ti_lang.specs.Typing.TextTypes.{type_at, IsDimOf, AreDims, IsRangeDims, AreRangesDims}
use Rattle.ti_lang.specs.Meaning.Processes.{While, Foreach, ContItem, Do, End, Before, Behind, Receive, CopyAll, TakeAll}
use Rattle.ti_lang.specs.Meaning.Turns.{dims_at}
use Rattle.ti_lang.proofs.Lemmas.{agrees}
use Rattle.ti_rules.specs.StmtInContext.{singles_in, with_foreach_variable}
use Rattle.ti_align.specs.HeapTyping.{HeapTyping}
use Rattle.ti_align.specs.Mirrors.Fitting.{IsWritten, IsRangeWritten, AreRangesWritten}
use Rattle.ti_align.specs.Mirrors.ContItem.{may_use, uses_of, WorksFit}
use Rattle.ti_align.specs.Given.{scope_over}
use Rattle.ti_align.proofs.Runs.Vars.{true_false}
use Rattle.ti_align.proofs.RunTypes.Operating.{none_some, some_same}
use Rattle.ti_align.proofs.RunTypes.Evaluating.{no_call}

pub this_over : (p : ProgramView) (s : ScopeContents) (left : List ContItem) → (scope_over p s left).this_class ≡ s.this_class
this_over p s [] = refl
this_over p s (Behind (While at c u b) ∷ left) = this_over p s left
this_over p s (Behind (Foreach at n d ps b) ∷ left) = this_over p s left
this_over p s (Do x ∷ left) = this_over p s left
this_over p s (End x ∷ left) = this_over p s left
this_over p s (Before l ∷ left) = this_over p s left
this_over p s (Receive r h ∷ left) = this_over p s left
this_over p s (CopyAll at x y ps ∷ left) = this_over p s left
this_over p s (TakeAll at g is ∷ left) = this_over p s left

-- ---- one variable behind others

found_past : (xs : List ScopeVariable) (y : ScopeVariable) (number : ℕ) → (y.number == number) ≡ false
    → find (λ (v : ScopeVariable). v.number == number) (xs ++ y ∷ []) ≡ find (λ (v : ScopeVariable). v.number == number) xs
found_past [] y number h = ap (λ b. if b then Some y else None) h
found_past (x ∷ xs) y number h = ap (λ o. if x.number == number then Some x else o) (found_past xs y number h)

found_here : (xs : List ScopeVariable) (y : ScopeVariable) (number : ℕ) → (y.number == number) ≡ true
    → find (λ (v : ScopeVariable). v.number == number) xs ≡ None → find (λ (v : ScopeVariable). v.number == number) (xs ++ y ∷ []) ≡ Some y
found_here [] y number h z = ap (λ b. if b then Some y else None) h
found_here (x ∷ xs) y number h z = by (x.number == number) z (found_here xs y number h)
  where
    by : (b : Bool) → (if b then Some x else find (λ (v : ScopeVariable). v.number == number) xs) ≡ None
        → (find (λ (v : ScopeVariable). v.number == number) xs ≡ None → find (λ (v : ScopeVariable). v.number == number) (xs ++ y ∷ []) ≡ Some y)
        → (if b then Some x else find (λ (v : ScopeVariable). v.number == number) (xs ++ y ∷ [])) ≡ Some y
    by true z k = absurd (none_some x (sym z))
    by false z k = k z

none_when : {A : Type 0} (o : Option A) → is_none o ≡ true → o ≡ None
none_when None h = refl
none_when (Some a) h = absurd (true_false (sym h))

-- ---- dimensions

-- the foreach variables that a method may use are points in a scope, of these dimensions
abbrev pub Dimmed : NumberedMethod → ScopeContents → (ℕ → ℕ) → Type 0
Dimmed m s dims = (number : ℕ) → may_use m number t.Foreach ≡ true → IsDimOf s dims number t.Foreach

-- so are those of a scope with the variable of one foreach more
one_more : (m : NumberedMethod) (s : ScopeContents) (dims inner : ℕ → ℕ) (own n : ℕ) (single : Bool) → Dimmed m s dims → in_scope s own
    ≡ None → ((number : ℕ) → inner number ≡ (if own == number then n else dims number))
    → Dimmed m (record s { variables = s.variables ++ record { number = own; type = t.Pt n; is_single = single } ∷ [] }) inner
one_more m s dims inner own n single old fresh deeper number k type z = by (own == number) refl
  where
    new : ScopeVariable
    new = record { number = own; type = t.Pt n; is_single = single }

    by : (c : Bool) → (own == number) ≡ c → type ≡ t.Pt (inner number)
    by true h =
        some_same type (t.Pt n) (sym z ∙ ap (option_map (λ (v : ScopeVariable). v.type)) (found_here s.variables new number h (subst (λ j. in_scope s j ≡ None) (eqb-true own number h) fresh)))
        ∙ ap t.Pt (sym (deeper number ∙ ap (λ c. if c then n else dims number) h))
    by false h =
        old number k type (sym (ap (option_map (λ (v : ScopeVariable). v.type)) (found_past s.variables new number h)) ∙ z) ∙ ap t.Pt (sym (deeper number ∙ ap (λ c. if c then n else dims number) h))

module _ (m : NumberedMethod) (s : ScopeContents) (dims : ℕ → ℕ) (dimmed : Dimmed m s dims) where
  dim_of : (number : ℕ) (d : Declaration) → may_use m number d ≡ true → IsDimOf s dims number d
  dim_of number (Typed is_single type) k = tt
  dim_of number t.Foreach k = dimmed number k

  mutual
    -- so the dimensions are those of each expression that uses no others
    are_dims : (x : NumberedExp) → IsWritten (uses_of m) x → AreDims s dims x
    are_dims (e.Variable at v) k = dim_of v.number v.declared k
    are_dims (e.Rect at ranges) k = are_ranges ranges k.1
    are_dims (e.Unary at op x) k = are_dims x k
    are_dims (e.Binary at op x y) k = (are_dims x k.0, are_dims y k.1)
    are_dims (e.Select at x name) k = are_dims x k
    are_dims (e.Member at x name args) k = are_dims x k.0
    are_dims (e.Index at x parts) k = are_dims x k.0
    are_dims _ k = tt

    is_range : (r : NumberedRange) → IsRangeWritten (uses_of m) r → IsRangeDims s dims r
    is_range (e.Plain low high) k = are_dims low k.0
    is_range (e.Stepped low high step) k = are_dims low k.0

    are_ranges : (rs : NumberedRanges) → AreRangesWritten (uses_of m) rs → AreRangesDims s dims rs
    are_ranges e.NoRange k = tt
    are_ranges (e.MoreRange r rs) k = (is_range r k.0, are_ranges rs k.1)

  -- an expression that fits has its type in the text
  typed_there : (p : ProgramView) → s.this_class ≡ this_of m → (x : NumberedExp) (type : ValueType) → IsWritten (uses_of m) x → operand_type p s x ≡ Some type → type_at p (this_of m) dims x ≡ type
  typed_there p c x type k z = subst (λ c. type_at p c dims x ≡ type) c (agrees p s dims x (are_dims x k) type (no_call (type_result p s x) type z).1)

-- ---- work

dim_there : (type : ValueType) (n : ℕ) → domain_dim type ≡ Some n → dim_of_type type ≡ n
dim_there (t.Rc m) n h = some_same m n h
dim_there (t.Dm m) n h = some_same m n h
dim_there _ n h = absurd (none_some n h)

module _ (p : ProgramView) (m : NumberedMethod) (w : HeapTyping) where
  abbrev scope : List ContItem → ScopeContents
  scope left = scope_over p (method_scope m) left

  turned : (left : List ContItem) (own n : ℕ) (domain : NumberedExp) (type : ValueType) (at : _) (points : _) (body : _)
      → Dimmed m (scope left) (dims_at p (this_of m) left) → IsWritten (uses_of m) domain → operand_type p (scope left) domain ≡ Some type
      → domain_dim type ≡ Some n → is_none (in_scope (scope left) own) ≡ true
      → Dimmed m (scope (Behind (Foreach at own domain points body) ∷ left))
      (dims_at p (this_of m) (Behind (Foreach at own domain points body) ∷ left))
  turned left own n domain type at points body old k z d fresh =
      subst (λ vs. Dimmed m (record (scope left) { variables = vs }) (dims_at p (this_of m) (Behind (Foreach at own domain points body) ∷ left)))
      (sym (ap (with_foreach_variable (scope left).variables own (is_single_part p (scope left).this_class (singles_in (scope left)) domain)) (ap (option_and_then domain_dim) z ∙ d)))
      (one_more m (scope left) (dims_at p (this_of m) left) (dims_at p (this_of m) (Behind (Foreach at own domain points body) ∷ left)) own n _ old (none_when (in_scope (scope left) own) fresh)
      (λ number. ap (λ k. if own == number then k else dims_at p (this_of m) left number)
      (ap dim_of_type (typed_there m (scope left) (dims_at p (this_of m) left) old p
      (this_over p (method_scope m) left) domain type k z) ∙ dim_there type n d)))

  dimmed : (left : List ContItem) → WorksFit p m (method_scope m) w left → Dimmed m (scope left) (dims_at p (this_of m) left)
  dimmed [] k = λ number free type z. absurd (none_some type (sym (ap (option_map (λ (v : ScopeVariable). v.type)) (none_when (in_scope (method_scope m) number) free)) ∙ z))
  dimmed (Do x ∷ left) k = dimmed left k.1
  dimmed (End x ∷ left) k = dimmed left k.1
  dimmed (Before l ∷ left) k = dimmed left k.1
  dimmed (Receive r h ∷ left) k = dimmed left k.1
  dimmed (CopyAll at x y ps ∷ left) k = dimmed left k.1
  dimmed (TakeAll at g is ∷ left) k = dimmed left k.1
  dimmed (Behind (While at c u body) ∷ left) k = dimmed left k.1
  dimmed (Behind (Foreach at own domain points body) ∷ left) k =
      let f = k.0.0.0 in
      turned left own f.0 domain f.1.0.0 at points body (dimmed left k.1) f.1.0.1.0 f.1.0.1.1 f.1.0.2 f.1.1

  -- before such work an expression that fits has its type in the text
  pub text_type : (left : List ContItem) → WorksFit p m (method_scope m) w left → (x : NumberedExp) (type : ValueType) → IsWritten (uses_of m) x
      → operand_type p (scope_over p (method_scope m) left) x ≡ Some type
      → type_at p (this_of m) (dims_at p (this_of m) left) x ≡ type
  text_type left k x type l z = typed_there m (scope left) (dims_at p (this_of m) left) (dimmed left k) p (this_over p (method_scope m) left) x type l z
