-- What is to blame in a program with some collectives replaced is what is to blame in the program, without these collectives.
use Rattle.std.proofs.Common.{◌≡◌, ℕ, Bool, true, false, not, ◌&&◌, ◌||◌, if◌then◌else◌, List, [], ◌∷◌, ◌++◌, map, Option, Some, None, refl, ap, ap₂, sym, ◌∙◌}
use Rattle.std.specs.List.{list_any}
use Rattle.std.specs.Option.{option_map_or, option_or}
use Rattle.std.proofs.lemmas.List.Folds.{list_any-append}
use Rattle.ti_base.specs.declared.place.Place.{Place}
use Rattle.ti_lang.specs.Program.Types.{ValueType, Declaration, Typed, Foreach}
use Rattle.ti_lang.specs.Program.Types as ty
use Rattle.ti_lang.specs.Program.Expressions.{NumberedExp, NumberedExps}
use Rattle.ti_lang.specs.Program.Expressions as e
use Rattle.ti_lang.specs.Program.Statements.{NumberedInit, NumberedStm, MaybeNumbered, NumberedStms, numbered_stms}
use Rattle.ti_lang.specs.Program.Statements as st
use Rattle.ti_lang.specs.Program.Classes.{NumberedParam, NumberedParams, MainArgs, Params, NumberedResult, NumberedMethod, ProgramView}
use Rattle.ti_lang.specs.Program.Classes as c
use Rattle.ti_lang.specs.Program.Scope.{ScopeVariable, parameters, this_of}
use Rattle.ti_lang.specs.Typing.BuiltIn.{BuiltIn, Exchange, Delete, built_in}
use Rattle.ti_lang.specs.Typing.Kinds.{is_object}
use Rattle.ti_lang.specs.Typing.TextTypes.{syntactic_type}
use Rattle.ti_lang.specs.Typing.Called.{method_behind, called_method, member_called}
use Rattle.ti_lang.specs.Typing.Singleness.{tells_of_domain, is_single_sent, is_single_part, are_single, is_single, is_single_initial, has_single_result}
use Rattle.ti_lang.specs.Typing.Effects.{is_collective, Doings, doings, doings_of_maybe, doings_of_all}
use Rattle.ti_rules.specs.StmtInContext.{scope_of, singles_in, variables_inside}
use Rattle.ti_rules.specs.SingleRules.{is_plain_part, is_plain, is_plain_initial, is_delete}
use Rattle.ti_blame.specs.declared.reason.Reason.{Reason}
use Rattle.ti_blame.specs.declared.reason.Reason.TheVariants.{OfMethod, OfVariable, OfCollective, Always}
use Rattle.ti_blame.specs.Marks.{Marks, holds}
use Rattle.ti_infer.specs.Marks.{params_place, declared_place, declared_place_maybe, declared_place_all, variable_place, marks_variable}
use Rattle.ti_infer.specs.Marked.{marked_exp, marked_exps, marked_init, marked_params, marked_method, marked}
use Rattle.ti_infer.specs.Limited.{every_one, idle, limited_whole, limited_initial, limited_stm, limited_maybe, limited_stms, limited_method}
use Rattle.ti_infer.specs.Reason.{reasons_if, method_reasons, acts_reasons, initial_reasons, place_reasons, declared_reasons, target_reasons, reasons, reasons_of_maybe, reasons_of_all, result_reasons, return_reasons, loop_reasons, effect_reasons}
use Rattle.ti_infer.specs.Reason.{blame_around, plain_here, arguments_blamed, params_blamed, call_blamed, whole_blamed, initial_blamed, condition_plain, own_blamed}
use Rattle.ti_infer.specs.Reason.{blamed, blamed_of_maybe, blamed_of_all, method_blamed}
use Rattle.ti_infer.proofs.Truths.{true_false}
use Rattle.ti_infer.proofs.Same.{this_same, text_same, language_same}

-- ---- collectives among members

-- what has a collective as a member has no methods
pub no_method : (p : ProgramView) (type : ValueType) (name : ℕ) → is_collective (if is_object type then None else built_in p name) ≡ true → method_behind p type name ≡ None
no_method p (ty.Class class is_local) name h = absurd (true_false (sym h))
no_method p _ name h = refl

-- a collective tells nothing of a domain
tells_nothing : (b : Option BuiltIn) → is_collective b ≡ true → tells_of_domain b ≡ false
tells_nothing (Some Exchange) h = refl
tells_nothing (Some Delete) h = refl
tells_nothing _ h = absurd (true_false (sym h))

-- the deletion of a region is a collective
delete_meets : (b : Option BuiltIn) → is_delete b ≡ true → is_collective b ≡ true
delete_meets (Some Delete) h = refl
delete_meets _ h = absurd (true_false (sym h))

-- ---- what is the same without the collectives

module _ (counts : Place → Bool) (p : ProgramView) (this : Option ℕ) where
  barrier_place : (b : Bool) (at : Place) (number : ℕ) → declared_place (if b then st.Barrier at else st.Empty) number ≡ None
  barrier_place true at number = refl
  barrier_place false at number = refl

  mutual
    place_kept : (s : NumberedStm) (number : ℕ) → declared_place (limited_stm counts p this s) number ≡ declared_place s number
    place_kept (st.Barrier at) number = barrier_place (counts at) at number
    place_kept (st.Block body) number = places_kept body number
    place_kept (st.If at x a) number = place_kept a number
    place_kept (st.IfElse at x a b) number = ap₂ option_or (place_kept a number) (place_kept b number)
    place_kept (st.While at x body) number = place_kept body number
    place_kept (st.For at first x update body) number =
        ap₂ option_or (maybe_place_kept first number) (ap₂ option_or (maybe_place_kept update number) (place_kept body number))
    place_kept (st.Foreach at variable domain body) number = place_kept body number
    place_kept _ number = refl

    maybe_place_kept : (s : MaybeNumbered) (number : ℕ) → declared_place_maybe (limited_maybe counts p this s) number ≡ declared_place_maybe s number
    maybe_place_kept st.NoStm number = refl
    maybe_place_kept (st.SomeStm s) number = place_kept s number

    places_kept : (ss : NumberedStms) (number : ℕ) → declared_place_all (limited_stms counts p this ss) number ≡ declared_place_all ss number
    places_kept st.Nil number = refl
    places_kept (st.Cons s rest) number = ap₂ option_or (place_kept s number) (places_kept rest number)

  pub stms_limited : (xs : List NumberedStm) → numbered_stms (map (limited_stm counts p this) xs) ≡ limited_stms counts p this (numbered_stms xs)
  stms_limited [] = refl
  stms_limited (x ∷ xs) = ap (st.Cons (limited_stm counts p this x)) (stms_limited xs)

pub variable_kept : (counts : Place → Bool) (p : ProgramView) (m : NumberedMethod) (number : ℕ) → variable_place (limited_method counts p m) number ≡ variable_place m number
variable_kept counts p m number =
    ap (λ o. option_or (params_place m.params number) o)
    (ap (λ ss. declared_place_all ss number) (stms_limited counts p (this_of m) m.body) ∙ places_kept counts p (this_of m) (numbered_stms m.body) number)

pub marks_kept : (counts : Place → Bool) (p : ProgramView) (m : NumberedMethod) (marks : Marks) → marks_variable marks (limited_method counts p m) ≡ marks_variable marks m
marks_kept counts p m marks = λ i. λ number. ap (λ o. option_map_or marks.variables o false) (variable_kept counts p m number) i

-- returns and jumps of the first are those of the second
pub record SameWays (d f : Doings) : Type 0 where
  pub returns : d.returns ≡ f.returns
  pub jumps : d.jumps ≡ f.jumps

same_ways : (d : Doings) → SameWays d d
same_ways d = record { returns = refl; jumps = refl }

module _ (counts : Place → Bool) (p : ProgramView) (this : Option ℕ) where
  barrier_ways : (b : Bool) (at : Place) → SameWays (doings p this (if b then st.Barrier at else st.Empty)) (doings p this (st.Barrier at))
  barrier_ways true at = record { returns = refl; jumps = refl }
  barrier_ways false at = record { returns = refl; jumps = refl }

  mutual
    ways_kept : (s : NumberedStm) → SameWays (doings p this (limited_stm counts p this s)) (doings p this s)
    ways_kept (st.Barrier at) = barrier_ways (counts at) at
    ways_kept (st.Block body) = all_ways_kept body
    ways_kept (st.If at x a) = ways_kept a
    ways_kept (st.IfElse at x a b) =
        let h = ways_kept a in
        let k = ways_kept b in
        record { returns = ap₂ (λ s t. s || t) h.returns k.returns; jumps = ap₂ (λ s t. s || t) h.jumps k.jumps }
    ways_kept (st.While at x body) = record { returns = (ways_kept body).returns; jumps = refl }
    ways_kept (st.For at first x update body) =
        let h = maybe_ways_kept first in
        record {
          returns = ap₂ (λ s t. s || t) h.returns (ap₂ (λ s t. s || t) (maybe_ways_kept update).returns (ways_kept body).returns);
          jumps = ap (λ s. s || false) h.jumps;
        }
    ways_kept (st.Foreach at variable domain body) = record { returns = (ways_kept body).returns; jumps = refl }
    ways_kept _ = record { returns = refl; jumps = refl }

    maybe_ways_kept : (s : MaybeNumbered) → SameWays (doings_of_maybe p this (limited_maybe counts p this s)) (doings_of_maybe p this s)
    maybe_ways_kept st.NoStm = record { returns = refl; jumps = refl }
    maybe_ways_kept (st.SomeStm s) = ways_kept s

    all_ways_kept : (ss : NumberedStms) → SameWays (doings_of_all p this (limited_stms counts p this ss)) (doings_of_all p this ss)
    all_ways_kept st.Nil = record { returns = refl; jumps = refl }
    all_ways_kept (st.Cons s rest) =
        let h = ways_kept s in
        let k = all_ways_kept rest in
        record { returns = ap₂ (λ s t. s || t) h.returns k.returns; jumps = ap₂ (λ s t. s || t) h.jumps k.jumps }

-- ---- lists of reasons

-- where all collectives count, one of the first is there exactly where one of the second is, where these collectives count
pub record Alike (counts : Place → Bool) (marks : Marks) (xs ys : List Reason) : Type 0 where
  pub same : list_any (holds every_one marks) xs ≡ list_any (holds counts marks) ys

module _ {counts : Place → Bool} {marks : Marks} where
  no_reason : Alike counts marks [] []
  no_reason = record { same = refl }

  both : {vs bs xs ys : List Reason} → Alike counts marks vs xs → Alike counts marks bs ys → Alike counts marks (vs ++ bs) (xs ++ ys)
  both {vs = a} {bs = b} {xs = x} {ys = y} h k =
      record { same = list_any-append (holds every_one marks) a b ∙ ap₂ (λ s t. s || t) h.same k.same ∙ sym (list_any-append (holds counts marks) x y) }

  where_same : {b d : Bool} {xs ys : List Reason} → b ≡ d → Alike counts marks xs ys → Alike counts marks (reasons_if b xs) (reasons_if d ys)
  where_same {b = b} {d = d} {xs = xs} {ys = ys} h k = record { same = ap (λ z. list_any (holds every_one marks) (reasons_if z xs)) h ∙ by d }
    where
      by : (z : Bool) → list_any (holds every_one marks) (reasons_if z xs) ≡ list_any (holds counts marks) (reasons_if z ys)
      by true = k.same
      by false = refl

  nothing_where : {xs : List Reason} (b : Bool) → Alike counts marks [] xs → Alike counts marks [] (reasons_if b xs)
  nothing_where true h = h
  nothing_where false h = no_reason

  variable : (at : Place) → Alike counts marks (OfVariable at ∷ []) (OfVariable at ∷ [])
  variable at = record { same = refl }

  counted : (at : Place) → counts at ≡ true → Alike counts marks (OfCollective at ∷ []) (OfCollective at ∷ [])
  counted at h = record { same = ap (λ z. z || false) (sym h) }

  uncounted : (at : Place) → counts at ≡ false → Alike counts marks [] (OfCollective at ∷ [])
  uncounted at h = record { same = ap (λ z. z || false) (sym h) }

  if_counted : (b : Bool) (at : Place) → (b ≡ true → counts at ≡ true) → Alike counts marks (reasons_if b (OfCollective at ∷ [])) (reasons_if b (OfCollective at ∷ []))
  if_counted true at h = counted at (h refl)
  if_counted false at h = no_reason

  method_alike : (o : Option NumberedMethod) → Alike counts marks (method_reasons o) (method_reasons o)
  method_alike None = no_reason
  method_alike (Some y) = by y.is_single
    where
      by : (b : Bool) → Alike counts marks ((if b then Always else OfMethod y.place) ∷ []) ((if b then Always else OfMethod y.place) ∷ [])
      by true = record { same = refl }
      by false = record { same = refl }

module _ (counts : Place → Bool) (marks : Marks) (p : ProgramView) (m : NumberedMethod) where
  -- ---- why a statement acts

  -- an expression that calls no method
  none_called : (a : NumberedExp) (name : ℕ) (at : Place) (args : NumberedExps) → is_collective (member_called p (this_of m) a name) ≡ true → called_method p (this_of m) (e.Member at a name args) ≡ None
  none_called a name at args h = no_method p (syntactic_type p (this_of m) a) name h

  -- not both a collective, and none
  isnt : {A : Type 0} (b : Bool) → b ≡ true → b ≡ false → A
  isnt b h k = absurd (true_false (sym h ∙ k))

  acts_alike : (x : NumberedExp) → Alike counts marks (acts_reasons p m (limited_whole counts p (this_of m) x)) (acts_reasons p m x)
  acts_alike (e.Member at a name args) = by (is_collective (member_called p (this_of m) a name)) (counts at) refl refl
    where
      by : (b d : Bool) → is_collective (member_called p (this_of m) a name) ≡ b → counts at ≡ d
          → Alike counts marks (acts_reasons p m (if b && not d then e.Null at else e.Member at a name args)) (acts_reasons p m (e.Member at a name args))
      by true false h k =
          both {vs = []} {bs = []} (record { same = ap (λ o. list_any (holds counts marks) (method_reasons o)) (sym (none_called a name at args h)) })
          (nothing_where _ (uncounted at k))
      by true true h k = both (method_alike (called_method p (this_of m) (e.Member at a name args))) (if_counted (is_collective (member_called p (this_of m) a name)) at (λ z. k))
      by false d h k = both (method_alike (called_method p (this_of m) (e.Member at a name args))) (if_counted (is_collective (member_called p (this_of m) a name)) at (λ z. isnt _ z h))
  acts_alike (e.Call at method args) = both (method_alike (called_method p (this_of m) (e.Call at method args))) no_reason
  acts_alike (e.OwnCall at method args) = both (method_alike (called_method p (this_of m) (e.OwnCall at method args))) no_reason
  acts_alike _ = no_reason

  initial_alike : (v : NumberedInit) → Alike counts marks (initial_reasons p m (limited_initial counts p (this_of m) v)) (initial_reasons p m v)
  initial_alike (st.Value x) = acts_alike x
  initial_alike (st.NewRegion at) = by (counts at) refl
    where
      by : (d : Bool) → counts at ≡ d → Alike counts marks (initial_reasons p m (if d then st.NewRegion at else st.Value (idle true at))) (OfCollective at ∷ [])
      by true k = counted at k
      by false k = uncounted at k
  initial_alike (st.Broadcast at x root) = by (counts at) (is_single_sent (syntactic_type p (this_of m) x)) refl
    where
      by : (d s : Bool) → counts at ≡ d → Alike counts marks (initial_reasons p m (if d then st.Broadcast at x root else st.Value (idle s at))) (OfCollective at ∷ [])
      by true s k = counted at k
      by false true k = uncounted at k
      by false false k = uncounted at k
  initial_alike _ = no_reason

  place_alike : (o : Option Place) → Alike counts marks (place_reasons p m o) (place_reasons p m o)
  place_alike None = no_reason
  place_alike (Some at) = variable at

  target_alike : (x : NumberedExp) → Alike counts marks (target_reasons p (limited_method counts p m) x) (target_reasons p m x)
  target_alike (e.Variable at v) = by v.declared
    where
      by : (d : Declaration) → Alike counts marks (declared_reasons p (limited_method counts p m) v.number d) (declared_reasons p m v.number d)
      by (Typed is_single type) = record { same = ap (λ o. list_any (holds every_one marks) (place_reasons p m o)) (variable_kept counts p m v.number) ∙ (place_alike (variable_place m v.number)).same }
      by Foreach = no_reason
  target_alike _ = no_reason

  mutual
    reasons_alike : (s : NumberedStm) → Alike counts marks (reasons p (limited_method counts p m) (limited_stm counts p (this_of m) s)) (reasons p m s)
    reasons_alike (st.Declare at type number value) = both (variable at) (initial_alike value)
    reasons_alike (st.Assign at target value) = both (target_alike target) (initial_alike value)
    reasons_alike (st.Update at op target x) = both (target_alike target) (acts_alike x)
    reasons_alike (st.Step at op target) = target_alike target
    reasons_alike (st.Call x) = acts_alike x
    reasons_alike (st.Barrier at) = by (counts at) refl
      where
        by : (d : Bool) → counts at ≡ d → Alike counts marks (reasons p (limited_method counts p m) (if d then st.Barrier at else st.Empty)) (OfCollective at ∷ [])
        by true k = counted at k
        by false k = uncounted at k
    reasons_alike (st.Block body) = all_alike body
    reasons_alike (st.If at x a) = reasons_alike a
    reasons_alike (st.IfElse at x a b) = both (reasons_alike a) (reasons_alike b)
    reasons_alike (st.While at x body) = reasons_alike body
    reasons_alike (st.For at first x update body) = both (maybe_alike first) (both (maybe_alike update) (reasons_alike body))
    reasons_alike (st.Foreach at number domain body) = reasons_alike body
    reasons_alike _ = no_reason

    maybe_alike : (s : MaybeNumbered) → Alike counts marks (reasons_of_maybe p (limited_method counts p m) (limited_maybe counts p (this_of m) s)) (reasons_of_maybe p m s)
    maybe_alike st.NoStm = no_reason
    maybe_alike (st.SomeStm s) = reasons_alike s

    all_alike : (ss : NumberedStms) → Alike counts marks (reasons_of_all p (limited_method counts p m) (limited_stms counts p (this_of m) ss)) (reasons_of_all p m ss)
    all_alike st.Nil = no_reason
    all_alike (st.Cons s rest) = both (reasons_alike s) (all_alike rest)

  result_alike : Alike counts marks (result_reasons p (limited_method counts p m) m.result) (result_reasons p m m.result)
  result_alike = by m.result
    where
      by : (r : NumberedResult) → Alike counts marks (result_reasons p (limited_method counts p m) r) (result_reasons p m r)
      by c.Void = no_reason
      by (c.Typed type) = record { same = refl }

  return_alike : Alike counts marks (return_reasons p (limited_method counts p m)) (return_reasons p m)
  return_alike = both result_alike (record {
    same = ap (λ ss. list_any (holds every_one marks) (reasons_of_all p (limited_method counts p m) ss)) (stms_limited counts p (this_of m) m.body) ∙ (all_alike (numbered_stms m.body)).same;
  })

  loop_alike : (update : MaybeNumbered) (body : NumberedStm) → Alike counts marks
      (loop_reasons p (limited_method counts p m) (limited_maybe counts p (this_of m) update) (limited_stm counts p (this_of m) body)) (loop_reasons p m update body)
  loop_alike update body =
      both (both (maybe_alike update) (reasons_alike body))
      (both (where_same (maybe_ways_kept counts p (this_of m) update).returns return_alike) (where_same (ways_kept counts p (this_of m) body).returns return_alike))

  effect_alike : (there here : List Reason) (s : NumberedStm) → Alike counts marks there here
      → Alike counts marks (effect_reasons p (limited_method counts p m) there (limited_stm counts p (this_of m) s)) (effect_reasons p m here s)
  effect_alike there here s j =
      both (both (reasons_alike s) (where_same (ways_kept counts p (this_of m) s).returns return_alike)) (where_same (ways_kept counts p (this_of m) s).jumps j)

  -- ---- what is plain

  plain_kept : (vs : List ScopeVariable) (x : NumberedExp) → plain_here p (limited_method counts p m) marks vs x ≡ plain_here p m marks vs x
  plain_kept vs x = ap (λ f. is_plain_part (marked marks p) (blame_around p m marks vs) (marked_exp f x)) (marks_kept counts p m marks)

  module _ (f s : ℕ → Bool) where
    -- what is called in the marked program is called in the program
    meets_marked : (a : NumberedExp) (name : ℕ) → is_collective (member_called p (this_of m) a name) ≡ true
        → is_collective (member_called (marked marks p) (this_of (marked_method marks m)) (marked_exp f a) name) ≡ true
    meets_marked a name h =
        ap (λ this. is_collective (member_called (marked marks p) this (marked_exp f a) name)) (this_same marks m)
        ∙ ap is_collective (language_same marks p (this_of m) f a name) ∙ h

    whole_kept : (x : NumberedExp)
        → is_single (marked marks p) (this_of (marked_method marks m)) s (marked_exp f (limited_whole counts p (this_of m) x))
        ≡ is_single (marked marks p) (this_of (marked_method marks m)) s (marked_exp f x)
    whole_kept (e.Member at a name args) = by (is_collective (member_called p (this_of m) a name)) (counts at) refl
      where
        by : (b d : Bool) → is_collective (member_called p (this_of m) a name) ≡ b
            → is_single (marked marks p) (this_of (marked_method marks m)) s (marked_exp f (if b && not d then e.Null at else e.Member at a name args))
            ≡ is_single (marked marks p) (this_of (marked_method marks m)) s (marked_exp f (e.Member at a name args))
        by true true h = refl
        by false d h = refl
        by true false h =
            let rest = is_single_part (marked marks p) (this_of (marked_method marks m)) s (marked_exp f a)
            && are_single (marked marks p) (this_of (marked_method marks m)) s (marked_exps f args) in
            sym (ap₂ (λ (o : Option NumberedMethod) (b : Bool). option_map_or has_single_result o (b && rest))
            (no_method (marked marks p) (syntactic_type (marked marks p) (this_of (marked_method marks m)) (marked_exp f a)) name (meets_marked a name h))
            (tells_nothing (member_called (marked marks p) (this_of (marked_method marks m)) (marked_exp f a) name) (meets_marked a name h)))
    whole_kept _ = refl

    initial_kept : (v : NumberedInit)
        → is_single_initial (marked marks p) (this_of (marked_method marks m)) s (marked_init f (limited_initial counts p (this_of m) v))
        ≡ is_single_initial (marked marks p) (this_of (marked_method marks m)) s (marked_init f v)
    initial_kept (st.Value x) = whole_kept x
    initial_kept (st.NewRegion at) = by (counts at)
      where
        by : (d : Bool)
            → is_single_initial (marked marks p) (this_of (marked_method marks m)) s (marked_init f (if d then st.NewRegion at else st.Value (idle true at)))
            ≡ true
        by true = refl
        by false = refl
    initial_kept (st.Broadcast at x root) = by (counts at) (is_single_sent (syntactic_type p (this_of m) x)) refl
      where
        sent : is_single_sent (syntactic_type (marked marks p) (this_of (marked_method marks m)) (marked_exp f x)) ≡ is_single_sent (syntactic_type p (this_of m) x)
        sent = ap (λ this. is_single_sent (syntactic_type (marked marks p) this (marked_exp f x))) (this_same marks m) ∙ ap is_single_sent (text_same marks p (this_of m) f x)

        by : (d b : Bool) → is_single_sent (syntactic_type p (this_of m) x) ≡ b
            → is_single_initial (marked marks p) (this_of (marked_method marks m)) s (marked_init f (if d then st.Broadcast at x root else st.Value (idle b at)))
            ≡ is_single_initial (marked marks p) (this_of (marked_method marks m)) s (marked_init f (st.Broadcast at x root))
        by true b h = refl
        by false true h = sym (sent ∙ h)
        by false false h = sym (sent ∙ h)
    initial_kept _ = refl

  plain_whole_kept : (vs : List ScopeVariable) (x : NumberedExp)
      → is_plain (marked marks p) (blame_around p (limited_method counts p m) marks vs) (marked_exp (marks_variable marks (limited_method counts p m)) (limited_whole counts p (this_of m) x))
      ≡ is_plain (marked marks p) (blame_around p m marks vs) (marked_exp (marks_variable marks m) x)
  plain_whole_kept vs x =
      ap (λ f. is_plain (marked marks p) (blame_around p m marks vs) (marked_exp f (limited_whole counts p (this_of m) x))) (marks_kept counts p m marks)
      ∙ ap not (whole_kept (marks_variable marks m) (singles_in (scope_of (blame_around p m marks vs))) x)

  plain_initial_kept : (vs : List ScopeVariable) (v : NumberedInit)
      → is_plain_initial (marked marks p) (blame_around p (limited_method counts p m) marks vs) (marked_init (marks_variable marks (limited_method counts p m)) (limited_initial counts p (this_of m) v))
      ≡ is_plain_initial (marked marks p) (blame_around p m marks vs) (marked_init (marks_variable marks m) v)
  plain_initial_kept vs v =
      ap (λ f. is_plain_initial (marked marks p) (blame_around p m marks vs) (marked_init f (limited_initial counts p (this_of m) v))) (marks_kept counts p m marks)
      ∙ ap not (initial_kept (marks_variable marks m) (singles_in (scope_of (blame_around p m marks vs))) v)

  condition_kept : (vs : List ScopeVariable) (x : Option NumberedExp) → condition_plain p (limited_method counts p m) marks vs x ≡ condition_plain p m marks vs x
  condition_kept vs None = refl
  condition_kept vs (Some x) = plain_kept vs x

  inside_kept : (vs : List ScopeVariable) (number : ℕ) (domain : NumberedExp)
      → variables_inside (marked marks p) (scope_of (blame_around p (limited_method counts p m) marks vs)) number (marked_exp (marks_variable marks (limited_method counts p m)) domain)
      ≡ variables_inside (marked marks p) (scope_of (blame_around p m marks vs)) number (marked_exp (marks_variable marks m) domain)
  inside_kept vs number domain =
      ap (λ f. variables_inside (marked marks p) (scope_of (blame_around p m marks vs)) number (marked_exp f domain)) (marks_kept counts p m marks)

  -- ---- by the rules

  module _ (vs : List ScopeVariable) where
    arguments_alike : (params : List NumberedParam) (args : NumberedExps)
        → Alike counts marks (arguments_blamed p (limited_method counts p m) marks vs params args) (arguments_blamed p m marks vs params args)
    arguments_alike [] e.NoExp = no_reason
    arguments_alike [] (e.MoreExp x rest) = no_reason
    arguments_alike (w ∷ params) e.NoExp = no_reason
    arguments_alike (w ∷ params) (e.MoreExp x rest) = both (where_same (plain_kept vs x) (variable w.place)) (arguments_alike params rest)

    params_alike : (params : NumberedParams) (args : NumberedExps)
        → Alike counts marks (params_blamed p (limited_method counts p m) marks vs params args) (params_blamed p m marks vs params args)
    params_alike MainArgs args = no_reason
    params_alike (Params params) args = arguments_alike params args

    call_alike : (o : Option NumberedMethod) (args : NumberedExps)
        → Alike counts marks (call_blamed p (limited_method counts p m) marks vs o args) (call_blamed p m marks vs o args)
    call_alike None args = no_reason
    call_alike (Some y) args = params_alike y.params args

    whole_alike : (x : NumberedExp)
        → Alike counts marks (whole_blamed p (limited_method counts p m) marks vs (limited_whole counts p (this_of m) x)) (whole_blamed p m marks vs x)
    whole_alike (e.Call at method args) = call_alike (called_method p (this_of m) (e.Call at method args)) args
    whole_alike (e.OwnCall at method args) = call_alike (called_method p (this_of m) (e.OwnCall at method args)) args
    whole_alike (e.Member at a name args) = by (is_collective (member_called p (this_of m) a name)) (counts at) refl refl
      where
        here : Option NumberedMethod
        here = called_method p (this_of m) (e.Member at a name args)

        by : (b d : Bool) → is_collective (member_called p (this_of m) a name) ≡ b → counts at ≡ d
            → Alike counts marks (whole_blamed p (limited_method counts p m) marks vs (if b && not d then e.Null at else e.Member at a name args)) (whole_blamed p m marks vs (e.Member at a name args))
        by true false h k =
            both {vs = []} {bs = []} (record { same = ap (λ o. list_any (holds counts marks) (call_blamed p m marks vs o args)) (sym (none_called a name at args h)) })
            (nothing_where _ (nothing_where _ (uncounted at k)))
        by true true h k =
            both (call_alike (called_method p (this_of m) (e.Member at a name args)) args)
            (where_same (plain_kept vs a) (if_counted (is_delete (member_called p (this_of m) a name)) at (λ z. k)))
        by false d h k =
            both (call_alike (called_method p (this_of m) (e.Member at a name args)) args)
            (where_same (plain_kept vs a) (if_counted (is_delete (member_called p (this_of m) a name)) at (λ z. isnt _ (delete_meets _ z) h)))
    whole_alike _ = no_reason

    initial_blame_alike : (v : NumberedInit)
        → Alike counts marks (initial_blamed p (limited_method counts p m) marks vs (limited_initial counts p (this_of m) v)) (initial_blamed p m marks vs v)
    initial_blame_alike (st.Value x) = whole_alike x
    initial_blame_alike (st.NewRegion at) = by (counts at)
      where
        by : (d : Bool) → Alike counts marks (initial_blamed p (limited_method counts p m) marks vs (if d then st.NewRegion at else st.Value (idle true at))) []
        by true = no_reason
        by false = no_reason
    initial_blame_alike (st.Broadcast at x root) = by (counts at) (is_single_sent (syntactic_type p (this_of m) x)) refl
      where
        by : (d s : Bool) → counts at ≡ d
            → Alike counts marks (initial_blamed p (limited_method counts p m) marks vs (if d then st.Broadcast at x root else st.Value (idle s at))) (initial_blamed p m marks vs (st.Broadcast at x root))
        by true s k = where_same (plain_kept vs root) (counted at k)
        by false true k = nothing_where _ (uncounted at k)
        by false false k = nothing_where _ (uncounted at k)
    initial_blame_alike _ = no_reason

    module _ (there here : List Reason) (jumping : Alike counts marks there here) where
      own_alike : (s : NumberedStm)
          → Alike counts marks (own_blamed p (limited_method counts p m) marks vs there (limited_stm counts p (this_of m) s)) (own_blamed p m marks vs here s)
      own_alike (st.Declare at type number value) = both (initial_blame_alike value) (where_same (plain_initial_kept vs value) (variable at))
      own_alike (st.Assign at target value) = both (initial_blame_alike value) (where_same (plain_initial_kept vs value) (target_alike target))
      own_alike (st.Update at op target x) = both (whole_alike x) (where_same (plain_whole_kept vs x) (target_alike target))
      own_alike (st.Call x) = whole_alike x
      own_alike (st.If at x a) = where_same (plain_kept vs x) (effect_alike there here (st.If at x a) jumping)
      own_alike (st.IfElse at x a b) = where_same (plain_kept vs x) (effect_alike there here (st.IfElse at x a b) jumping)
      own_alike (st.While at x body) = where_same (plain_kept vs x) (loop_alike st.NoStm body)
      own_alike (st.For at first x update body) =
          both (where_same (condition_kept vs x) (loop_alike update body)) (where_same (maybe_ways_kept counts p (this_of m) update).jumps (record { same = refl }))
      own_alike (st.Foreach at number domain body) = where_same (plain_kept vs domain) (loop_alike st.NoStm body)
      own_alike (st.Return at None) = no_reason
      own_alike (st.Return at (Some x)) = where_same (plain_kept vs x) result_alike
      own_alike (st.Barrier at) = by (counts at)
        where
          by : (d : Bool) → Alike counts marks (own_blamed p (limited_method counts p m) marks vs there (if d then st.Barrier at else st.Empty)) []
          by true = no_reason
          by false = no_reason
      own_alike _ = no_reason

  mutual
    blamed_alike : (s : NumberedStm) (vs : List ScopeVariable) (there here : List Reason) → Alike counts marks there here
        → Alike counts marks (blamed p (limited_method counts p m) marks vs there (limited_stm counts p (this_of m) s)) (blamed p m marks vs here s)
    blamed_alike (st.Block body) vs there here j = all_blamed_alike body vs there here j
    blamed_alike (st.If at x a) vs there here j = both (own_alike vs there here j (st.If at x a)) (blamed_alike a vs there here j)
    blamed_alike (st.IfElse at x a b) vs there here j =
        both (own_alike vs there here j (st.IfElse at x a b)) (both (blamed_alike a vs there here j) (blamed_alike b vs there here j))
    blamed_alike (st.While at x body) vs there here j =
        both (own_alike vs there here j (st.While at x body)) (blamed_alike body vs _ (loop_reasons p m st.NoStm body) (loop_alike st.NoStm body))
    blamed_alike (st.For at first x update body) vs there here j =
        both (own_alike vs there here j (st.For at first x update body))
        (both (maybe_blamed_alike first vs there here j)
        (both (maybe_blamed_alike update vs there here j) (blamed_alike body vs _ (loop_reasons p m update body) (loop_alike update body))))
    blamed_alike (st.Foreach at number domain body) vs there here j =
        both (own_alike vs there here j (st.Foreach at number domain body)) (record {
          same =
              ap (λ ws. list_any (holds every_one marks) (blamed p (limited_method counts p m) marks ws
              (loop_reasons p (limited_method counts p m) st.NoStm (limited_stm counts p (this_of m) body)) (limited_stm counts p (this_of m) body)))
              (inside_kept vs number domain)
              ∙ (blamed_alike body (variables_inside (marked marks p) (scope_of (blame_around p m marks vs)) number
              (marked_exp (marks_variable marks m) domain)) _ (loop_reasons p m st.NoStm body) (loop_alike st.NoStm body)).same;
        })
    blamed_alike (st.Barrier at) vs there here j = by (counts at)
      where
        by : (d : Bool) → Alike counts marks (blamed p (limited_method counts p m) marks vs there (if d then st.Barrier at else st.Empty)) []
        by true = no_reason
        by false = no_reason
    blamed_alike (st.Declare at type number value) vs there here j = own_alike vs there here j (st.Declare at type number value)
    blamed_alike (st.Assign at target value) vs there here j = own_alike vs there here j (st.Assign at target value)
    blamed_alike (st.Update at op target x) vs there here j = own_alike vs there here j (st.Update at op target x)
    blamed_alike (st.Call x) vs there here j = own_alike vs there here j (st.Call x)
    blamed_alike (st.Return at value) vs there here j = own_alike vs there here j (st.Return at value)
    blamed_alike _ vs there here j = no_reason

    maybe_blamed_alike : (s : MaybeNumbered) (vs : List ScopeVariable) (there here : List Reason) → Alike counts marks there here
        → Alike counts marks (blamed_of_maybe p (limited_method counts p m) marks vs there (limited_maybe counts p (this_of m) s)) (blamed_of_maybe p m marks vs here s)
    maybe_blamed_alike st.NoStm vs there here j = no_reason
    maybe_blamed_alike (st.SomeStm s) vs there here j = blamed_alike s vs there here j

    all_blamed_alike : (ss : NumberedStms) (vs : List ScopeVariable) (there here : List Reason) → Alike counts marks there here
        → Alike counts marks (blamed_of_all p (limited_method counts p m) marks vs there (limited_stms counts p (this_of m) ss)) (blamed_of_all p m marks vs here ss)
    all_blamed_alike st.Nil vs there here j = no_reason
    all_blamed_alike (st.Cons s rest) vs there here j = both (blamed_alike s vs there here j) (all_blamed_alike rest vs there here j)

  -- ---- a method

  effects_of_all_alike : Alike counts marks (effect_reasons p (limited_method counts p m) [] (st.Block (numbered_stms (limited_method counts p m).body)))
      (effect_reasons p m [] (st.Block (numbered_stms m.body)))
  effects_of_all_alike = record {
    same =
        ap (λ ss. list_any (holds every_one marks) (effect_reasons p (limited_method counts p m) [] (st.Block ss))) (stms_limited counts p (this_of m) m.body)
        ∙ (effect_alike [] [] (st.Block (numbered_stms m.body)) no_reason).same;
  }

  body_alike : Alike counts marks (blamed_of_all p (limited_method counts p m) marks (parameters (marked_params marks m.params)) [] (numbered_stms (limited_method counts p m).body))
      (blamed_of_all p m marks (parameters (marked_params marks m.params)) [] (numbered_stms m.body))
  body_alike = record {
    same =
        ap (λ ss. list_any (holds every_one marks) (blamed_of_all p (limited_method counts p m) marks (parameters (marked_params marks m.params)) [] ss))
        (stms_limited counts p (this_of m) m.body)
        ∙ (all_blamed_alike (numbered_stms m.body) (parameters (marked_params marks m.params)) [] [] no_reason).same;
  }

  pub method_blamed_alike : Alike counts marks (method_blamed p (limited_method counts p m) marks) (method_blamed p m marks)
  method_blamed_alike = both (both (where_same refl effects_of_all_alike) (where_same refl result_alike)) body_alike
