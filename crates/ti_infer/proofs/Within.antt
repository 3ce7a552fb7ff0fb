-- Collectives that are to blame are collectives of the program, and nothing is unconditionally to blame if no statement has effects
-- unconditionally and no update has a jump.
use Rattle.std.proofs.Common.{◌≡◌, Bool, true, false, not, ◌||◌, List, [], ◌∷◌, ◌++◌, flat_map, Option, Some, None, refl, ap₂, sym, ◌∙◌}
use Rattle.std.specs.List.{list_any}
use Rattle.std.proofs.lemmas.List.Folds.{list_any-append}
use Rattle.ti_base.specs.declared.place.Place.{Place}
use Rattle.ti_lang.specs.Program.Types.{Declaration, Typed, Foreach}
use Rattle.ti_lang.specs.Program.Expressions.{NumberedExp, NumberedExps}
use Rattle.ti_lang.specs.Program.Expressions as e
use Rattle.ti_lang.specs.Program.Statements.{NumberedInit, NumberedStm, MaybeNumbered, NumberedStms, numbered_stms}
use Rattle.ti_lang.specs.Program.Statements as st
use Rattle.ti_lang.specs.Program.Classes.{NumberedParam, NumberedParams, MainArgs, Params, NumberedResult, NumberedMethod, ProgramView}
use Rattle.ti_lang.specs.Program.Classes as c
use Rattle.ti_lang.specs.Program.Scope.{ScopeVariable, parameters, this_of}
use Rattle.ti_lang.specs.Typing.BuiltIn.{BuiltIn, Delete, Exchange}
use Rattle.ti_lang.specs.Typing.BuiltIn as b
use Rattle.ti_lang.specs.Typing.Called.{called_method, member_called}
use Rattle.ti_lang.specs.Typing.Effects.{is_collective, doings, doings_of_maybe}
use Rattle.ti_rules.specs.StmtInContext.{scope_of, variables_inside}
use Rattle.ti_rules.specs.SingleRules.{is_delete}
use Rattle.ti_blame.specs.declared.reason.Reason.{Reason}
use Rattle.ti_blame.specs.declared.reason.Reason.TheVariants.{OfMethod, OfResult, OfVariable, OfCollective, Always}
use Rattle.ti_blame.specs.Marks.{Marks}
use Rattle.ti_infer.specs.Marks.{marks_variable, variable_place}
use Rattle.ti_infer.specs.Marked.{marked_exp, marked_params, marked_method, marked}
use Rattle.ti_blame.specs.Marks.{holds}
use Rattle.ti_infer.specs.Reason.{reasons_if, method_reasons, acts_reasons, initial_reasons, place_reasons, declared_reasons, target_reasons}
use Rattle.ti_infer.specs.Reason.{reasons, reasons_of_maybe, reasons_of_all, result_reasons, return_reasons, loop_reasons, effect_reasons}
use Rattle.ti_infer.specs.Reason.{blame_around, plain_here, arguments_blamed, params_blamed, call_blamed, whole_blamed, initial_blamed}
use Rattle.ti_infer.specs.Reason.{condition_plain, own_blamed, blamed, blamed_of_maybe, blamed_of_all, method_blamed, program_blamed}
use Rattle.ti_infer.specs.Limited.{every_one}
use Rattle.ti_infer.specs.Reason.{KeepsSingle}
use Rattle.ti_infer.specs.Collectives.{collectives}
use Rattle.ti_infer.specs.Descent.{is_always}
use Rattle.ti_infer.proofs.Truths.{Grows, true_false, grows_left, grows_right}
use Rattle.ti_infer.proofs.Collecting.{is_collective_at, program_reasons, collectives_found}

-- a collective that passes a test, or what is there in any case, where that counts
abbrev hits : (Place → Bool) → Bool → Reason → Bool
hits test always (OfMethod at) = false
hits test always (OfResult at) = false
hits test always (OfVariable at) = false
hits test always (OfCollective at) = test at
hits test always Always = always

-- no update in a statement has a jump in it
module _ (p : ProgramView) (m : NumberedMethod) where
  abbrev mutual
    pub Still : NumberedStm → Type 0
    Still (st.Block body) = StillAll body
    Still (st.If at c a) = Still a
    Still (st.IfElse at c a b) = Still a × Still b
    Still (st.While at c body) = Still body
    Still (st.For at first c update body) = ((doings_of_maybe p (this_of m) update).jumps ≡ false) × StillMaybe first × StillMaybe update × Still body
    Still (st.Foreach at variable domain body) = Still body
    Still s = Unit {0}

    pub StillMaybe : MaybeNumbered → Type 0
    StillMaybe st.NoStm = Unit {0}
    StillMaybe (st.SomeStm s) = Still s

    pub StillAll : NumberedStms → Type 0
    StillAll st.Nil = Unit {0}
    StillAll (st.Cons s rest) = Still s × StillAll rest

abbrev pub MethodsStill : ProgramView → List NumberedMethod → Type 0
MethodsStill p [] = Unit {0}
MethodsStill p (m ∷ ms) = StillAll p m (numbered_stms m.body) × MethodsStill p ms

module _ (test : Place → Bool) (always : Bool) where
  abbrev found : List Reason → Bool
  found xs = list_any (hits test always) xs

  none : (xs ys : List Reason) → found xs ≡ false → Grows (found xs) (found ys)
  none xs ys h = λ k. absurd (true_false (sym k ∙ h))

  first : (xs ys : List Reason) → Grows (found xs) (found (xs ++ ys))
  first xs ys k = list_any-append (hits test always) xs ys ∙ grows_left _ _ k

  second : (xs ys : List Reason) → Grows (found ys) (found (xs ++ ys))
  second xs ys k = list_any-append (hits test always) xs ys ∙ grows_right _ _ k

  either : (a b d : Bool) → (a || b) ≡ true → Grows a d → Grows b d → d ≡ true
  either true b d h f g = f refl
  either false b d h f g = g h

  both : (xs ys : List Reason) (d : Bool) → Grows (found xs) d → Grows (found ys) d → Grows (found (xs ++ ys)) d
  both xs ys d f g k = either _ _ d (sym (list_any-append (hits test always) xs ys) ∙ k) f g

  behind : (t : Bool) (xs : List Reason) (d : Bool) → Grows (found xs) d → Grows (found (reasons_if t xs)) d
  behind true xs d f = f
  behind false xs d f = λ k. absurd (true_false (sym k))

  -- a jump in an update
  jumping_within : (b : Bool) (d : Bool) → (always ≡ true → b ≡ false) → Grows (found (reasons_if b (Always ∷ []))) d
  jumping_within true d f = λ k. absurd (true_false (f (plain always k)))
    where
      plain : (a : Bool) → (a || false) ≡ true → a ≡ true
      plain true k = refl
      plain false k = k
  jumping_within false d f = λ k. absurd (true_false (sym k))

  module _ (p : ProgramView) (m : NumberedMethod) (marks : Marks) (all : Bool) (returns : Grows (found (return_reasons p m)) all) where
    loop_within : (update : MaybeNumbered) (body : NumberedStm) → Grows (found (reasons_of_maybe p m update)) all
        → Grows (found (reasons p m body)) all → Grows (found (loop_reasons p m update body)) all
    loop_within update body f g =
        both (reasons_of_maybe p m update ++ reasons p m body) _ all (both (reasons_of_maybe p m update) (reasons p m body) all f g)
        (both (reasons_if (doings_of_maybe p (this_of m) update).returns (return_reasons p m)) _ all (behind _ (return_reasons p m) all returns) (behind _ (return_reasons p m) all returns))

    effect_within : (jumping : List Reason) (s : NumberedStm) → Grows (found jumping) all → Grows (found (reasons p m s)) all → Grows (found (effect_reasons p m jumping s)) all
    effect_within jumping s f g =
        both (reasons p m s ++ reasons_if (doings p (this_of m) s).returns (return_reasons p m)) _ all (both (reasons p m s) _ all g (behind _ (return_reasons p m) all returns)) (behind _ jumping all f)

    no_variable : (o : Option Place) → found (place_reasons p m o) ≡ false
    no_variable None = refl
    no_variable (Some at) = refl

    no_target : (x : NumberedExp) → found (target_reasons p m x) ≡ false
    no_target (e.Variable at v) = by v.declared
      where
        by : (d : Declaration) → found (declared_reasons p m v.number d) ≡ false
        by (Typed is_single type) = no_variable (variable_place m v.number)
        by Foreach = refl
    no_target _ = refl

    no_result : (r : NumberedResult) → found (result_reasons p m r) ≡ false
    no_result c.Void = refl
    no_result (c.Typed type) = refl

    no_arguments : (vs : List ScopeVariable) (params : List NumberedParam) (args : NumberedExps) → Grows (found (arguments_blamed p m marks vs params args)) all
    no_arguments vs [] e.NoExp = λ k. absurd (true_false (sym k))
    no_arguments vs [] (e.MoreExp a rest) = λ k. absurd (true_false (sym k))
    no_arguments vs (w ∷ params) e.NoExp = λ k. absurd (true_false (sym k))
    no_arguments vs (w ∷ params) (e.MoreExp a rest) =
        both (reasons_if (plain_here p m marks vs a) (OfVariable w.place ∷ [])) (arguments_blamed p m marks vs params rest) all
        (behind _ (OfVariable w.place ∷ []) all (λ k. absurd (true_false (sym k)))) (no_arguments vs params rest)

    no_call : (vs : List ScopeVariable) (o : Option NumberedMethod) (args : NumberedExps) → Grows (found (call_blamed p m marks vs o args)) all
    no_call vs None args = λ k. absurd (true_false (sym k))
    no_call vs (Some y) args = by y.params
      where
        by : (ws : NumberedParams) → Grows (found (params_blamed p m marks vs ws args)) all
        by MainArgs = λ k. absurd (true_false (sym k))
        by (Params ws) = no_arguments vs ws args

    -- a delete is a collective
    deleting : (o : Option BuiltIn) (at : Place) (xs : List Reason) → Grows (found (reasons_if (is_delete o) (OfCollective at ∷ []))) (found (xs ++ reasons_if (is_collective o) (OfCollective at ∷ [])))
    deleting (Some b.Delete) at xs = second xs (OfCollective at ∷ [])
    deleting (Some b.Size) at xs = λ k. absurd (true_false (sym k))
    deleting (Some b.Min) at xs = λ k. absurd (true_false (sym k))
    deleting (Some b.Max) at xs = λ k. absurd (true_false (sym k))
    deleting (Some b.Contains) at xs = λ k. absurd (true_false (sym k))
    deleting (Some b.Domain) at xs = λ k. absurd (true_false (sym k))
    deleting (Some b.Restrict) at xs = λ k. absurd (true_false (sym k))
    deleting (Some b.Translate) at xs = λ k. absurd (true_false (sym k))
    deleting (Some b.Slice) at xs = λ k. absurd (true_false (sym k))
    deleting (Some b.Copy) at xs = λ k. absurd (true_false (sym k))
    deleting (Some b.Exchange) at xs = λ k. absurd (true_false (sym k))
    deleting None at xs = λ k. absurd (true_false (sym k))

    whole_within : (vs : List ScopeVariable) (x : NumberedExp) → Grows (found (acts_reasons p m x)) all → Grows (found (whole_blamed p m marks vs x)) all
    whole_within vs (e.Call at method args) f = no_call vs _ args
    whole_within vs (e.OwnCall at method args) f = no_call vs _ args
    whole_within vs (e.Member at a name args) f =
        both (call_blamed p m marks vs (called_method p (this_of m) (e.Member at a name args)) args) _ all (no_call vs _ args)
        (behind (plain_here p m marks vs a) (reasons_if (is_delete (member_called p (this_of m) a name)) (OfCollective at ∷ [])) all
        (λ k. f (deleting (member_called p (this_of m) a name) at (method_reasons (called_method p (this_of m) (e.Member at a name args))) k)))
    whole_within vs _ f = λ k. absurd (true_false (sym k))

    initial_within : (vs : List ScopeVariable) (v : NumberedInit) → Grows (found (initial_reasons p m v)) all → Grows (found (initial_blamed p m marks vs v)) all
    initial_within vs (st.Value x) f = whole_within vs x f
    initial_within vs (st.Broadcast at x root) f = behind (plain_here p m marks vs root) (OfCollective at ∷ []) all f
    initial_within vs (st.NewRegion at) f = λ k. absurd (true_false (sym k))
    initial_within vs (st.NewObject at region class) f = λ k. absurd (true_false (sym k))
    initial_within vs (st.NewGrid at region element dims_at dims) f = λ k. absurd (true_false (sym k))

    own_within : (vs : List ScopeVariable) (jumping : List Reason) (s : NumberedStm) → (always ≡ true → Still p m s)
        → Grows (found jumping) all → Grows (found (reasons p m s)) all → Grows (found (own_blamed p m marks vs jumping s)) all
    own_within vs jumping (st.Declare at type variable value) h f g =
        both (initial_blamed p m marks vs value) _ all (initial_within vs value (λ k. g k))
        (behind _ (OfVariable at ∷ []) all (λ k. absurd (true_false (sym k))))
    own_within vs jumping (st.Assign at target value) h f g = both (initial_blamed p m marks vs value) _ all
        (initial_within vs value (λ k. g (second (target_reasons p m target) (initial_reasons p m value) k)))
        (behind _ (target_reasons p m target) all (λ k. absurd (true_false (sym k ∙ no_target target))))
    own_within vs jumping (st.Update at op target x) h f g = both (whole_blamed p m marks vs x) _ all
        (whole_within vs x (λ k. g (second (target_reasons p m target) (acts_reasons p m x) k)))
        (behind _ (target_reasons p m target) all (λ k. absurd (true_false (sym k ∙ no_target target))))
    own_within vs jumping (st.Call x) h f g = whole_within vs x g
    own_within vs jumping (st.If at c a) h f g = behind _ (effect_reasons p m jumping (st.If at c a)) all (effect_within jumping (st.If at c a) f g)
    own_within vs jumping (st.IfElse at c a b) h f g = behind _ (effect_reasons p m jumping (st.IfElse at c a b)) all (effect_within jumping (st.IfElse at c a b) f g)
    own_within vs jumping (st.While at c body) h f g = behind _ (loop_reasons p m st.NoStm body) all (loop_within st.NoStm body (λ k. absurd (true_false (sym k))) g)
    own_within vs jumping (st.For at initial c update body) h f g =
        both (reasons_if (condition_plain p m marks vs c) (loop_reasons p m update body)) _ all
        (behind _ (loop_reasons p m update body) all (loop_within update body
        (λ k. g (second (reasons_of_maybe p m initial) _ (first (reasons_of_maybe p m update) (reasons p m body) k)))
        (λ k. g (second (reasons_of_maybe p m initial) _ (second (reasons_of_maybe p m update) (reasons p m body) k)))))
        (jumping_within _ all (λ k. (h k).0))
    own_within vs jumping (st.Foreach at variable domain body) h f g = behind _ (loop_reasons p m st.NoStm body) all (loop_within st.NoStm body (λ k. absurd (true_false (sym k))) g)
    own_within vs jumping (st.Return at None) h f g = λ k. absurd (true_false (sym k))
    own_within vs jumping (st.Return at (Some x)) h f g = behind _ (result_reasons p m m.result) all (λ k. absurd (true_false (sym k ∙ no_result m.result)))
    own_within vs jumping _ h f g = λ k. absurd (true_false (sym k))

    mutual
      within : (s : NumberedStm) (vs : List ScopeVariable) (jumping : List Reason) → (always ≡ true → Still p m s)
          → Grows (found jumping) all → Grows (found (reasons p m s)) all → Grows (found (blamed p m marks vs jumping s)) all
      within (st.Block body) vs jumping h f g = within_all body vs jumping h f g
      within (st.If at c a) vs jumping h f g = both (own_blamed p m marks vs jumping (st.If at c a)) (blamed p m marks vs jumping a) all
          (own_within vs jumping (st.If at c a) h f g) (within a vs jumping h f g)
      within (st.IfElse at c a d) vs jumping h f g =
          both (own_blamed p m marks vs jumping (st.IfElse at c a d)) (blamed p m marks vs jumping a ++ blamed p m marks vs jumping d) all (own_within vs jumping (st.IfElse at c a d) h f g)
          (both (blamed p m marks vs jumping a) (blamed p m marks vs jumping d) all
          (within a vs jumping (λ k. (h k).0) f (λ k. g (first (reasons p m a) (reasons p m d) k)))
          (within d vs jumping (λ k. (h k).1) f (λ k. g (second (reasons p m a) (reasons p m d) k))))
      within (st.While at c body) vs jumping h f g =
          both (own_blamed p m marks vs jumping (st.While at c body)) (blamed p m marks vs (loop_reasons p m st.NoStm body) body) all (own_within vs jumping (st.While at c body) h f g)
          (within body vs (loop_reasons p m st.NoStm body) h (loop_within st.NoStm body (λ k. absurd (true_false (sym k))) g) g)
      within (st.For at initial c update body) vs jumping h f g =
          let up : Grows (found (reasons_of_maybe p m update)) all = λ k. g (second (reasons_of_maybe p m initial) _ (first (reasons_of_maybe p m update) (reasons p m body) k)) in
          let inner : Grows (found (reasons p m body)) all = λ k. g (second (reasons_of_maybe p m initial) _ (second (reasons_of_maybe p m update) (reasons p m body) k)) in
          both (own_blamed p m marks vs jumping (st.For at initial c update body)) (blamed_of_maybe p m marks vs jumping initial
          ++ (blamed_of_maybe p m marks vs jumping update ++ blamed p m marks vs (loop_reasons p m update body) body)) all
          (own_within vs jumping (st.For at initial c update body) h f g)
          (both (blamed_of_maybe p m marks vs jumping initial) (blamed_of_maybe p m marks vs jumping update
          ++ blamed p m marks vs (loop_reasons p m update body) body) all
          (within_maybe initial vs jumping (λ k. (h k).1) f (λ k. g (first (reasons_of_maybe p m initial) _ k)))
          (both (blamed_of_maybe p m marks vs jumping update) (blamed p m marks vs (loop_reasons p m update body) body) all (within_maybe update vs jumping (λ k. (h k).2) f up)
          (within body vs (loop_reasons p m update body) (λ k. (h k).3) (loop_within update body up inner) inner)))
      within (st.Foreach at variable domain body) vs jumping h f g =
          both (own_blamed p m marks vs jumping (st.Foreach at variable domain body))
          (blamed p m marks (variables_inside (marked marks p) (scope_of (blame_around p m marks vs)) variable
          (marked_exp (marks_variable marks m) domain)) (loop_reasons p m st.NoStm body) body) all
          (own_within vs jumping (st.Foreach at variable domain body) h f g)
          (within body _ (loop_reasons p m st.NoStm body) h (loop_within st.NoStm body (λ k. absurd (true_false (sym k))) g) g)
      within (st.Declare at type variable value) vs jumping h f g = own_within vs jumping (st.Declare at type variable value) h f g
      within (st.Assign at target value) vs jumping h f g = own_within vs jumping (st.Assign at target value) h f g
      within (st.Update at op target x) vs jumping h f g = own_within vs jumping (st.Update at op target x) h f g
      within (st.Call x) vs jumping h f g = own_within vs jumping (st.Call x) h f g
      within (st.Return at value) vs jumping h f g = own_within vs jumping (st.Return at value) h f g
      within _ vs jumping h f g = λ k. absurd (true_false (sym k))

      within_maybe : (s : MaybeNumbered) (vs : List ScopeVariable) (jumping : List Reason) → (always ≡ true → StillMaybe p m s)
          → Grows (found jumping) all → Grows (found (reasons_of_maybe p m s)) all
          → Grows (found (blamed_of_maybe p m marks vs jumping s)) all
      within_maybe st.NoStm vs jumping h f g = λ k. absurd (true_false (sym k))
      within_maybe (st.SomeStm s) vs jumping h f g = within s vs jumping h f g

      within_all : (ss : NumberedStms) (vs : List ScopeVariable) (jumping : List Reason) → (always ≡ true → StillAll p m ss)
          → Grows (found jumping) all → Grows (found (reasons_of_all p m ss)) all
          → Grows (found (blamed_of_all p m marks vs jumping ss)) all
      within_all st.Nil vs jumping h f g = λ k. absurd (true_false (sym k))
      within_all (st.Cons s rest) vs jumping h f g =
          both (blamed p m marks vs jumping s) (blamed_of_all p m marks vs jumping rest) all
          (within s vs jumping (λ k. (h k).0) f (λ k. g (first (reasons p m s) (reasons_of_all p m rest) k)))
          (within_all rest vs jumping (λ k. (h k).1) f (λ k. g (second (reasons p m s) (reasons_of_all p m rest) k)))

  method_within : (p : ProgramView) (m : NumberedMethod) (marks : Marks) → (always ≡ true → StillAll p m (numbered_stms m.body))
      → Grows (found (method_blamed p m marks)) (found (reasons_of_all p m (numbered_stms m.body)))
  method_within p m marks h =
      let all = found (reasons_of_all p m (numbered_stms m.body)) in
      let returns : Grows (found (return_reasons p m)) all = both (result_reasons p m m.result)
      (reasons_of_all p m (numbered_stms m.body)) all (λ k. absurd (true_false (sym k ∙ by m.result))) (λ k. k) in
      let plain = not (marked_method marks m).is_single in
      let effects = effect_reasons p m [] (st.Block (numbered_stms m.body)) in
      let result = result_reasons p m m.result in
      both (reasons_if plain effects ++ reasons_if plain result) (blamed_of_all p m marks (parameters (marked_params marks m.params)) [] (numbered_stms m.body)) all
      (both (reasons_if plain effects) (reasons_if plain result) all
      (behind plain effects all (effect_within p m marks all returns [] (st.Block (numbered_stms m.body)) (λ k. absurd (true_false (sym k))) (λ k. k)))
      (behind plain result all (λ k. absurd (true_false (sym k ∙ by m.result)))))
      (within_all p m marks all returns (numbered_stms m.body) _ [] h (λ k. absurd (true_false (sym k))) (λ k. k))
    where
      by : (r : NumberedResult) → found (result_reasons p m r) ≡ false
      by c.Void = refl
      by (c.Typed type) = refl

  methods_within : (p : ProgramView) (marks : Marks) (ms : List NumberedMethod) → (always ≡ true → MethodsStill p ms)
      → Grows (found (flat_map (λ m. method_blamed p m marks) ms)) (found (flat_map (λ m. reasons_of_all p m (numbered_stms m.body)) ms))
  methods_within p marks [] h = λ k. k
  methods_within p marks (m ∷ ms) h =
      both (method_blamed p m marks) (flat_map (λ m. method_blamed p m marks) ms) _
      (λ k. first (reasons_of_all p m (numbered_stms m.body)) _ (method_within p m marks (λ z. (h z).0) k))
      (λ k. second (reasons_of_all p m (numbered_stms m.body)) _ (methods_within p marks ms (λ z. (h z).1) k))

is_hit : (test : Place → Bool) (xs : List Reason) → list_any (is_collective_at test) xs ≡ list_any (hits test false) xs
is_hit test [] = refl
is_hit test (x ∷ xs) = ap₂ (λ a b. a || b) (one x) (is_hit test xs)
  where
    one : (b : Reason) → is_collective_at test b ≡ hits test false b
    one (OfMethod at) = refl
    one (OfResult at) = refl
    one (OfVariable at) = refl
    one (OfCollective at) = refl
    one Always = refl

is_hit_always : (xs : List Reason) → list_any is_always xs ≡ list_any (hits (λ at. false) true) xs
is_hit_always [] = refl
is_hit_always (x ∷ xs) = ap₂ (λ a b. a || b) (one x) (is_hit_always xs)
  where
    one : (b : Reason) → is_always b ≡ hits (λ at. false) true b
    one (OfMethod at) = refl
    one (OfResult at) = refl
    one (OfVariable at) = refl
    one (OfCollective at) = refl
    one Always = refl

pub collectives_within : (test : Place → Bool) (p : ProgramView) (marks : Marks)
    → Grows (list_any (is_collective_at test) (program_blamed p marks)) (list_any (is_collective_at test) (program_reasons p))
collectives_within test p marks k =
    is_hit test (program_reasons p) ∙ methods_within test false p marks p.methods (λ z. absurd (true_false (sym z))) (sym (is_hit test (program_blamed p marks)) ∙ k)

-- where no statement acts in any case, and no update jumps, nothing is to blame in any case
pub never_blamed : (p : ProgramView) (marks : Marks) → MethodsStill p p.methods → list_any is_always (program_reasons p) ≡ false → list_any is_always (program_blamed p marks) ≡ false
never_blamed p marks still none = by (list_any is_always (program_blamed p marks)) refl
  where
    by : (b : Bool) → list_any is_always (program_blamed p marks) ≡ b → b ≡ false
    by true e =
        absurd (true_false (sym (is_hit_always (program_reasons p) ∙ methods_within (λ at. false) true p marks p.methods (λ z. still) (sym (is_hit_always (program_blamed p marks)) ∙ e)) ∙ none))
    by false e = refl

-- ---- up to the last collective

is_false : (b : Bool) → (b ≡ true → ⊥) → b ≡ false
is_false true n = absurd (n refl)
is_false false n = refl

not_counted : (counts : Place → Bool) (at : Place) → not (counts at) ≡ false → counts at ≡ true
not_counted counts at h = by (counts at) h
  where
    by : (b : Bool) → not b ≡ false → b ≡ true
    by true h = refl
    by false h = absurd (true_false h)

counted_held : (counts : Place → Bool) (m : Marks) (xs : List Reason) → list_any (is_collective_at (λ at. not (counts at))) xs ≡ false
    → list_any (holds counts m) xs ≡ false → list_any (holds every_one m) xs ≡ false
counted_held counts m [] h k = refl
counted_held counts m (x ∷ xs) h k =
    let f = or_none _ _ h in
    let g = or_none _ _ k in
    ap₂ (λ a b. a || b) (one x f.0 g.0) (counted_held counts m xs f.1 g.1)
  where
    or_none : (s t : Bool) → (s || t) ≡ false → (s ≡ false) × (t ≡ false)
    or_none true t k = absurd (true_false k)
    or_none false t k = (refl, k)

    one : (b : Reason) → is_collective_at (λ at. not (counts at)) b ≡ false → holds counts m b ≡ false → holds every_one m b ≡ false
    one (OfMethod at) h k = k
    one (OfResult at) h k = k
    one (OfVariable at) h k = k
    one (OfCollective at) h k = absurd (true_false (sym (not_counted counts at h) ∙ k))
    one Always h k = k

-- where all collectives of the program count, the rules are kept as where every one does
pub all_counted : (counts : Place → Bool) (p : ProgramView) (m : Marks)
    → list_any (λ at. not (counts at)) (collectives p) ≡ false → KeepsSingle counts p m → KeepsSingle every_one p m
all_counted counts p m h k =
    let none = collectives_found p (λ at. not (counts at)) ∙ h in
    counted_held counts m (program_blamed p m) (is_false _ (λ t. true_false (sym (collectives_within (λ at. not (counts at)) p m t) ∙ none))) k
