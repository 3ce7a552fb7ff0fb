-- The collectives among the reasons of the statements of a program are the collectives of the program.
use Rattle.std.proofs.Common.{◌≡◌, Bool, true, false, ◌||◌, if◌then◌else◌, List, [], ◌∷◌, ◌++◌, flat_map, Contains, Option, Some, None, refl, ap, ap₂, sym, ◌∙◌}
use Rattle.std.specs.List.{list_any}
use Rattle.std.proofs.lemmas.List.Folds.{list_any-append}
use Rattle.std.proofs.lemmas.Map.Views.{Contains-from_any}
use Rattle.ti_base.specs.declared.place.Place.{Place}
use Rattle.ti_base.specs.Places.{same_place}
use Rattle.ti_lang.specs.Program.Types.{Declaration, Typed, Foreach}
use Rattle.ti_lang.specs.Program.Expressions.{NumberedExp, place_of_numbered}
use Rattle.ti_lang.specs.Program.Expressions as e
use Rattle.ti_lang.specs.Program.Statements.{NumberedInit, NumberedStm, MaybeNumbered, NumberedStms, numbered_stms}
use Rattle.ti_lang.specs.Program.Statements as st
use Rattle.ti_lang.specs.Program.Classes.{NumberedMethod, ProgramView}
use Rattle.ti_lang.specs.Program.Scope.{this_of}
use Rattle.ti_lang.specs.Typing.Called.{called_method}
use Rattle.ti_lang.specs.Typing.Effects.{is_collective_call}
use Rattle.ti_rules.specs.StmtInContext.{StmtContext, StmtInContext, in_loop, in_foreach, inside, inside_maybe, inside_all, around_method, standing_in_method}
use Rattle.ti_blame.specs.declared.reason.Reason.{Reason}
use Rattle.ti_blame.specs.declared.reason.Reason.TheVariants.{OfMethod, OfCollective, Always}
use Rattle.ti_infer.specs.Marks.{variable_place}
use Rattle.ti_infer.specs.Reason.{reasons_if, method_reasons, acts_reasons, initial_reasons, place_reasons, declared_reasons, target_reasons, reasons, reasons_of_maybe, reasons_of_all}
use Rattle.ti_infer.specs.Collectives.{whole_collectives, initial_collectives, own_collectives, collectives}
use Rattle.ti_infer.proofs.Lists.{flat_append}
use Rattle.ti_infer.proofs.ImplicationsOfProgram.{same_places}

-- a collective at a place that passes a test
abbrev pub is_collective_at : (Place → Bool) → Reason → Bool
is_collective_at test (OfCollective at) = test at
is_collective_at test b = false

-- why the statements of a program act
abbrev pub program_reasons : ProgramView → List Reason
program_reasons p = flat_map (λ m. reasons_of_all p m (numbered_stms m.body)) p.methods

or_false : (b : Bool) → (b || false) ≡ b
or_false true = refl
or_false false = refl

module _ (p : ProgramView) (test : Place → Bool) where
  -- some reason is such a collective
  abbrev found : List Reason → Bool
  found xs = list_any (is_collective_at test) xs

  -- what statements perform themselves, where they stand
  abbrev there : List StmtInContext → List Place
  there xs = flat_map (λ (s : StmtInContext). own_collectives p (this_of s.around.method) s.statement) xs

  both_found : (xs ys : List Reason) (ss ts : List StmtInContext) → found xs ≡ list_any test (there ss) → found ys ≡ list_any test (there ts)
      → found (xs ++ ys) ≡ list_any test (there (ss ++ ts))
  both_found xs ys ss ts h k =
      list_any-append (is_collective_at test) xs ys ∙ ap₂ (λ a b. a || b) h k ∙ sym (list_any-append test (there ss) (there ts))
      ∙ ap (list_any test) (sym (flat_append (λ (s : StmtInContext). own_collectives p (this_of s.around.method) s.statement) ss ts))

  method_none : (o : Option NumberedMethod) → found (method_reasons o) ≡ false
  method_none None = refl
  method_none (Some y) = by y.is_single
    where
      by : (b : Bool) → found ((if b then Always else OfMethod y.place) ∷ []) ≡ false
      by true = refl
      by false = refl

  module _ (m : NumberedMethod) where
    whole_found : (x : NumberedExp) → found (acts_reasons p m x) ≡ list_any test (whole_collectives p (this_of m) x)
    whole_found x =
        list_any-append (is_collective_at test) (method_reasons (called_method p (this_of m) x)) _
        ∙ ap (λ b. b || found (reasons_if (is_collective_call p (this_of m) x) (OfCollective (place_of_numbered x) ∷ []))) (method_none (called_method p (this_of m) x))
        ∙ by (is_collective_call p (this_of m) x)
      where
        by : (b : Bool) → found (reasons_if b (OfCollective (place_of_numbered x) ∷ [])) ≡ list_any test (if b then place_of_numbered x ∷ [] else [])
        by true = refl
        by false = refl

    initial_found : (v : NumberedInit) → found (initial_reasons p m v) ≡ list_any test (initial_collectives p (this_of m) v)
    initial_found (st.Value x) = whole_found x
    initial_found (st.NewRegion at) = refl
    initial_found (st.Broadcast at x root) = refl
    initial_found _ = refl

    place_none : (o : Option Place) → found (place_reasons p m o) ≡ false
    place_none None = refl
    place_none (Some at) = refl

    target_none : (x : NumberedExp) → found (target_reasons p m x) ≡ false
    target_none (e.Variable at v) = by v.declared
      where
        by : (d : Declaration) → found (declared_reasons p m v.number d) ≡ false
        by (Typed is_single type) = place_none (variable_place m v.number)
        by Foreach = refl
    target_none _ = refl

    after_target : (x : NumberedExp) (ys : List Reason) → found (target_reasons p m x ++ ys) ≡ found ys
    after_target x ys = list_any-append (is_collective_at test) (target_reasons p m x) ys ∙ ap (λ b. b || found ys) (target_none x)

  -- one statement alone
  alone : (xs : List Place) → list_any test xs ≡ list_any test (xs ++ [])
  alone xs = sym (list_any-append test xs [] ∙ or_false (list_any test xs))

  mutual
    stm_found : (s : NumberedStm) (around : StmtContext) → found (reasons p around.method s) ≡ list_any test (there (inside p around s))
    stm_found (st.Declare at type variable value) around = initial_found around.method value ∙ alone (initial_collectives p (this_of around.method) value)
    stm_found (st.Assign at target value) around =
        after_target around.method target (initial_reasons p around.method value) ∙ initial_found around.method value
        ∙ alone (initial_collectives p (this_of around.method) value)
    stm_found (st.Update at op target x) around =
        after_target around.method target (acts_reasons p around.method x) ∙ whole_found around.method x
        ∙ alone (whole_collectives p (this_of around.method) x)
    stm_found (st.Step at op target) around = target_none around.method target
    stm_found (st.Call x) around = whole_found around.method x ∙ alone (whole_collectives p (this_of around.method) x)
    stm_found (st.Barrier at) around = refl
    stm_found (st.Block body) around = all_found body around
    stm_found (st.If at x a) around = stm_found a around
    stm_found (st.IfElse at x a b) around = both_found (reasons p around.method a) (reasons p around.method b) (inside p around a) (inside p around b) (stm_found a around) (stm_found b around)
    stm_found (st.While at x body) around = stm_found body (in_loop p around st.NoStm body)
    stm_found (st.For at first x update body) around =
        both_found (reasons_of_maybe p around.method first) (reasons_of_maybe p around.method update ++ reasons p around.method body)
        (inside_maybe p around first) (inside_maybe p around update ++ inside p (in_loop p around update body) body) (maybe_found first around)
        (both_found (reasons_of_maybe p around.method update) (reasons p around.method body) (inside_maybe p around update)
        (inside p (in_loop p around update body) body) (maybe_found update around) (stm_found body (in_loop p around update body)))
    stm_found (st.Foreach at number domain body) around = stm_found body (in_foreach p around number domain body)
    stm_found _ around = refl

    maybe_found : (s : MaybeNumbered) (around : StmtContext) → found (reasons_of_maybe p around.method s) ≡ list_any test (there (inside_maybe p around s))
    maybe_found st.NoStm around = refl
    maybe_found (st.SomeStm s) around = stm_found s around

    all_found : (ss : NumberedStms) (around : StmtContext) → found (reasons_of_all p around.method ss) ≡ list_any test (there (inside_all p around ss))
    all_found st.Nil around = refl
    all_found (st.Cons s rest) around =
        both_found (reasons p around.method s) (reasons_of_all p around.method rest) (inside p around s) (inside_all p around rest)
        (stm_found s around) (all_found rest around)

  methods_found : (ms : List NumberedMethod) → found (flat_map (λ m. reasons_of_all p m (numbered_stms m.body)) ms) ≡ list_any test (there (flat_map (standing_in_method p) ms))
  methods_found [] = refl
  methods_found (m ∷ ms) =
      both_found (reasons_of_all p m (numbered_stms m.body)) (flat_map (λ m. reasons_of_all p m (numbered_stms m.body)) ms)
      (standing_in_method p m) (flat_map (standing_in_method p) ms)
      (all_found (numbered_stms m.body) (around_method m)) (methods_found ms)

pub collectives_found : (p : ProgramView) (test : Place → Bool) → list_any (is_collective_at test) (program_reasons p) ≡ list_any test (collectives p)
collectives_found p test = methods_found p test p.methods

-- a collective among the reasons is one of the program
pub is_among : (p : ProgramView) (at : Place) → list_any (is_collective_at (same_place at)) (program_reasons p) ≡ true → Contains (collectives p) at
is_among p at h = Contains-from_any same_places at (collectives p) (sym (collectives_found p (same_place at)) ∙ h)
