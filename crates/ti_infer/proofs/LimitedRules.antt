-- The rules by reasons are the rules of single values, whichever collectives are considered.
use Rattle.std.proofs.Common.{◌≡◌, ℕ, Bool, true, false, not, ◌&&◌, ◌||◌, if◌then◌else◌, List, [], ◌∷◌, ◌++◌, map, flat_map, Option, option_map, refl, ap, ap₂, sym, ◌∙◌}
use Rattle.std.specs.List.{list_any}
use Rattle.std.proofs.lemmas.List.Folds.{list_any-append}
use Rattle.ti_base.specs.declared.place.Place.{Place}
use Rattle.ti_lang.specs.Program.Expressions.{NumberedExp, NumberedExps}
use Rattle.ti_lang.specs.Program.Expressions as e
use Rattle.ti_lang.specs.Program.Statements.{NumberedInit, NumberedStm, MaybeNumbered, NumberedStms}
use Rattle.ti_lang.specs.Program.Statements as st
use Rattle.ti_lang.specs.Program.Classes.{NumberedMethod, ProgramView}
use Rattle.ti_lang.specs.Program.Scope.{this_of}
use Rattle.ti_lang.specs.Typing.TextTypes.{syntactic_type}
use Rattle.ti_lang.specs.Typing.Called.{member_called}
use Rattle.ti_lang.specs.Typing.Singleness.{is_single_sent}
use Rattle.ti_lang.specs.Typing.Effects.{is_collective, is_collective_call}
use Rattle.ti_rules.specs.SingleRules.{method_single_refusals, single_refusals}
use Rattle.ti_blame.specs.Marks.{Marks, holds}
use Rattle.ti_infer.specs.Marks.{marks_variable}
use Rattle.ti_infer.specs.Marked.{marked_type, marked_exp, marked_exps, marked_init, marked_stm, marked_maybe, marked_stms, marked_method, marked}
use Rattle.ti_infer.specs.Stripped.{HavePlainResults}
use Rattle.ti_infer.specs.Limited.{every_one, idle, limited_whole, limited_initial, limited_stm, limited_maybe, limited_stms, limited_method, limited_refusals}
use Rattle.ti_infer.specs.Reason.{method_blamed, KeepsSingle}
use Rattle.ti_infer.proofs.Same.{this_same, text_same, language_same}
use Rattle.ti_infer.proofs.Lists.{none_both, both_none}
use Rattle.ti_infer.proofs.Blaming.{method_sound}
use Rattle.ti_infer.proofs.Unblamed.{method_complete}
use Rattle.ti_infer.proofs.Descending.{part_itself}
use Rattle.ti_infer.proofs.Truths.{true_false}
use Rattle.ti_infer.proofs.Limiting.{marks_kept, method_blamed_alike}

-- ---- the marked method without the collectives that don't count is the method without them, marked

module _ (counts : Place → Bool) (p : ProgramView) (marks : Marks) (m : NumberedMethod) (f : ℕ → Bool) where
  whole_swap : (x : NumberedExp) → limited_whole counts (marked marks p) (this_of (marked_method marks m)) (marked_exp f x) ≡ marked_exp f (limited_whole counts p (this_of m) x)
  whole_swap (e.Member at a name args) =
      ap (λ b. if is_collective b && not (counts at) then e.Null at else e.Member at (marked_exp f a) name (marked_exps f args))
      (ap (λ this. member_called (marked marks p) this (marked_exp f a) name) (this_same marks m) ∙ language_same marks p (this_of m) f a name)
      ∙ by (is_collective (member_called p (this_of m) a name) && not (counts at))
    where
      by : (b : Bool) → (if b then e.Null at else e.Member at (marked_exp f a) name (marked_exps f args)) ≡ marked_exp f (if b then e.Null at else e.Member at a name args)
      by true = refl
      by false = refl
  whole_swap _ = refl

  initial_swap : (v : NumberedInit)
      → limited_initial counts (marked marks p) (this_of (marked_method marks m)) (marked_init f v) ≡ marked_init f (limited_initial counts p (this_of m) v)
  initial_swap (st.Value x) = ap st.Value (whole_swap x)
  initial_swap (st.NewRegion at) = by (counts at)
    where
      by : (d : Bool) → (if d then st.NewRegion at else st.Value (idle true at)) ≡ marked_init f (if d then st.NewRegion at else st.Value (idle true at))
      by true = refl
      by false = refl
  initial_swap (st.Broadcast at x root) =
      ap (λ type. if counts at then st.Broadcast at (marked_exp f x) (marked_exp f root) else st.Value (idle (is_single_sent type) at))
      (ap (λ this. syntactic_type (marked marks p) this (marked_exp f x)) (this_same marks m) ∙ text_same marks p (this_of m) f x)
      ∙ by (counts at) (is_single_sent (syntactic_type p (this_of m) x))
    where
      by : (d s : Bool) → (if d then st.Broadcast at (marked_exp f x) (marked_exp f root) else st.Value (idle s at))
          ≡ marked_init f (if d then st.Broadcast at x root else st.Value (idle s at))
      by true s = refl
      by false true = refl
      by false false = refl
  initial_swap _ = refl

  mutual
    stm_swap : (s : NumberedStm) → limited_stm counts (marked marks p) (this_of (marked_method marks m)) (marked_stm f marks.variables s)
        ≡ marked_stm f marks.variables (limited_stm counts p (this_of m) s)
    stm_swap (st.Declare at type number value) = ap (st.Declare at (marked_type (marks.variables at) at type) number) (initial_swap value)
    stm_swap (st.Assign at target value) = ap (st.Assign at (marked_exp f target)) (initial_swap value)
    stm_swap (st.Update at op target x) = ap (st.Update at op (marked_exp f target)) (whole_swap x)
    stm_swap (st.Call x) = ap st.Call (whole_swap x)
    stm_swap (st.Barrier at) = by (counts at)
      where
        by : (d : Bool) → (if d then st.Barrier at else st.Empty) ≡ marked_stm f marks.variables (if d then st.Barrier at else st.Empty)
        by true = refl
        by false = refl
    stm_swap (st.Block body) = ap st.Block (stms_swap body)
    stm_swap (st.If at x a) = ap (st.If at (marked_exp f x)) (stm_swap a)
    stm_swap (st.IfElse at x a b) = ap₂ (st.IfElse at (marked_exp f x)) (stm_swap a) (stm_swap b)
    stm_swap (st.While at x body) = ap (st.While at (marked_exp f x)) (stm_swap body)
    stm_swap (st.For at first x update body) = λ i. st.For at (maybe_swap first i) (option_map (marked_exp f) x) (maybe_swap update i) (stm_swap body i)
    stm_swap (st.Foreach at number domain body) = ap (st.Foreach at number (marked_exp f domain)) (stm_swap body)
    stm_swap _ = refl

    maybe_swap : (s : MaybeNumbered) → limited_maybe counts (marked marks p) (this_of (marked_method marks m)) (marked_maybe f marks.variables s)
        ≡ marked_maybe f marks.variables (limited_maybe counts p (this_of m) s)
    maybe_swap st.NoStm = refl
    maybe_swap (st.SomeStm s) = ap st.SomeStm (stm_swap s)

    stms_swap : (ss : NumberedStms) → limited_stms counts (marked marks p) (this_of (marked_method marks m)) (marked_stms f marks.variables ss)
        ≡ marked_stms f marks.variables (limited_stms counts p (this_of m) ss)
    stms_swap st.Nil = refl
    stms_swap (st.Cons s rest) = ap₂ st.Cons (stm_swap s) (stms_swap rest)

  list_swap : (xs : List NumberedStm) → map (limited_stm counts (marked marks p) (this_of (marked_method marks m))) (map (marked_stm f marks.variables) xs)
      ≡ map (marked_stm f marks.variables) (map (limited_stm counts p (this_of m)) xs)
  list_swap [] = refl
  list_swap (x ∷ xs) = ap₂ (λ y ys. y ∷ ys) (stm_swap x) (list_swap xs)

method_swap : (counts : Place → Bool) (p : ProgramView) (marks : Marks) (m : NumberedMethod)
    → limited_method counts (marked marks p) (marked_method marks m) ≡ marked_method marks (limited_method counts p m)
method_swap counts p marks m =
    ap (λ body. record (marked_method marks m) { body = body })
    (list_swap counts p marks m (marks_variable marks m) m.body
    ∙ ap (λ f. map (marked_stm f marks.variables) (map (limited_stm counts p (this_of m)) m.body)) (sym (marks_kept counts p m marks)))

-- ---- the rules by reasons

module _ (counts : Place → Bool) (p : ProgramView) (marks : Marks) where
  methods_by_rules : (ms : List NumberedMethod) → flat_map (λ m. method_single_refusals (marked marks p) (limited_method counts (marked marks p) m)) (map (marked_method marks) ms) ≡ []
      → list_any (holds counts marks) (flat_map (λ m. method_blamed p m marks) ms) ≡ false
  methods_by_rules [] h = refl
  methods_by_rules (m ∷ ms) h =
      let f = none_both _ _ h in
      let sound = method_sound p (limited_method counts p m) marks marks (part_itself marks)
      (ap (method_single_refusals (marked marks p)) (sym (method_swap counts p marks m)) ∙ f.0) in
      list_any-append (holds counts marks) (method_blamed p m marks) (flat_map (λ m. method_blamed p m marks) ms)
      ∙ ap₂ (λ a b. a || b) (sym (method_blamed_alike counts marks p m).same ∙ sound) (methods_by_rules ms f.1)

  or_both : (a b : Bool) → (a || b) ≡ false → (a ≡ false) × (b ≡ false)
  or_both true b h = absurd (true_false h)
  or_both false b h = (refl, h)

  methods_by_reasons : (ms : List NumberedMethod) → HavePlainResults ms → list_any (holds counts marks) (flat_map (λ m. method_blamed p m marks) ms) ≡ false
      → flat_map (λ m. method_single_refusals (marked marks p) (limited_method counts (marked marks p) m)) (map (marked_method marks) ms) ≡ []
  methods_by_reasons [] plain h = refl
  methods_by_reasons (m ∷ ms) plain h =
      let f = or_both _ _ (sym (list_any-append (holds counts marks) (method_blamed p m marks) (flat_map (λ m. method_blamed p m marks) ms)) ∙ h) in
      both_none _ _
      (ap (method_single_refusals (marked marks p)) (method_swap counts p marks m)
      ∙ method_complete p (limited_method counts p m) marks plain.0 ((method_blamed_alike counts marks p m).same ∙ f.0))
      (methods_by_reasons ms plain.1 f.1)

pub limited_by_rules : (counts : Place → Bool) (p : ProgramView) (m : Marks) → limited_refusals counts (marked m p) ≡ [] → KeepsSingle counts p m
limited_by_rules counts p m h = methods_by_rules counts p m p.methods h

pub limited_by_reasons : (counts : Place → Bool) (p : ProgramView) (m : Marks) → HavePlainResults p.methods → KeepsSingle counts p m → limited_refusals counts (marked m p) ≡ []
limited_by_reasons counts p m plain h = methods_by_reasons counts p m p.methods plain h

-- ---- where all collectives count, they are the rules

module _ (p : ProgramView) (this : Option ℕ) where
  whole_left : (x : NumberedExp) → limited_whole every_one p this x ≡ x
  whole_left x = by (is_collective_call p this x)
    where
      by : (b : Bool) → (if b && not true then idle false (e.place_of_numbered x) else x) ≡ x
      by true = refl
      by false = refl

  initial_left : (v : NumberedInit) → limited_initial every_one p this v ≡ v
  initial_left (st.Value x) = ap st.Value (whole_left x)
  initial_left _ = refl

  mutual
    stm_left : (s : NumberedStm) → limited_stm every_one p this s ≡ s
    stm_left (st.Declare at type number value) = ap (st.Declare at type number) (initial_left value)
    stm_left (st.Assign at target value) = ap (st.Assign at target) (initial_left value)
    stm_left (st.Update at op target x) = ap (st.Update at op target) (whole_left x)
    stm_left (st.Call x) = ap st.Call (whole_left x)
    stm_left (st.Block body) = ap st.Block (stms_left body)
    stm_left (st.If at x a) = ap (st.If at x) (stm_left a)
    stm_left (st.IfElse at x a b) = ap₂ (st.IfElse at x) (stm_left a) (stm_left b)
    stm_left (st.While at x body) = ap (st.While at x) (stm_left body)
    stm_left (st.For at first x update body) = λ i. st.For at (maybe_left first i) x (maybe_left update i) (stm_left body i)
    stm_left (st.Foreach at number domain body) = ap (st.Foreach at number domain) (stm_left body)
    stm_left _ = refl

    maybe_left : (s : MaybeNumbered) → limited_maybe every_one p this s ≡ s
    maybe_left st.NoStm = refl
    maybe_left (st.SomeStm s) = ap st.SomeStm (stm_left s)

    stms_left : (ss : NumberedStms) → limited_stms every_one p this ss ≡ ss
    stms_left st.Nil = refl
    stms_left (st.Cons s rest) = ap₂ st.Cons (stm_left s) (stms_left rest)

  list_left : (xs : List NumberedStm) → map (limited_stm every_one p this) xs ≡ xs
  list_left [] = refl
  list_left (x ∷ xs) = ap₂ (λ y ys. y ∷ ys) (stm_left x) (list_left xs)

method_left : (p : ProgramView) (m : NumberedMethod) → limited_method every_one p m ≡ m
method_left p m = ap (λ body. record m { body = body }) (list_left p (this_of m) m.body)

methods_left : (p : ProgramView) (ms : List NumberedMethod) → flat_map (λ m. method_single_refusals p (limited_method every_one p m)) ms ≡ flat_map (method_single_refusals p) ms
methods_left p [] = refl
methods_left p (m ∷ ms) = ap₂ (λ xs ys. xs ++ ys) (ap (method_single_refusals p) (method_left p m)) (methods_left p ms)

pub limited_to_all : (p : ProgramView) → limited_refusals every_one p ≡ single_refusals p
limited_to_all p = methods_left p p.methods
