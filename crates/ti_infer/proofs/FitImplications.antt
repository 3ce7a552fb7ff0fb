-- Annotations are allowed where they are if and only if the marking satisfies the constraints that rule out those that aren't.
use Rattle.std.proofs.Common.{◌≡◌, Bool, true, false, not, ◌&&◌, ◌||◌, if◌then◌else◌, List, [], ◌∷◌, ◌++◌, map, flat_map, Some, refl, ap, ap₂, sym, ◌∙◌, append-nil}
use Rattle.std.specs.List.{list_any}
use Rattle.std.proofs.lemmas.List.Folds.{list_any-append}
use Rattle.ti_base.specs.declared.place.Place.{Place}
use Rattle.ti_syntax.specs.declared.tree.types.Qualifier.{Qualifier}
use Rattle.ti_syntax.specs.declared.tree.types.QualifierWord.TheVariants.{Single}
use Rattle.ti_syntax.specs.declared.tree.classes.Modifier.{Modifier}
use Rattle.ti_syntax.specs.declared.tree.classes.ModifierWord.{ModifierWord}
use Rattle.ti_syntax.specs.declared.tree.classes.ModifierWord.TheVariants as word
use Rattle.ti_lang.specs.Members.{is_single_word, is_single}
use Rattle.ti_lang.specs.Program.Types.{NumberedType}
use Rattle.ti_lang.specs.Program.Statements.{NumberedStm, MaybeNumbered, NumberedStms, numbered_stms}
use Rattle.ti_lang.specs.Program.Statements as st
use Rattle.ti_lang.specs.Program.Classes.{NumberedParam, NumberedParams, MainArgs, Params, NumberedResult, NumberedMethod, ProgramView}
use Rattle.ti_lang.specs.Program.Classes as c
use Rattle.ti_lang.specs.Typing.Kinds.{is_object}
use Rattle.ti_lang.specs.Typing.Declared.{is_static_method}
use Rattle.ti_rules.specs.declared.refusal.Refusal.{Refusal}
use Rattle.ti_rules.specs.declared.rule.Rule.TheVariants.{Y7}
use Rattle.ti_rules.specs.Refusals.{refused_if}
use Rattle.ti_rules.specs.Broken.Words.{base_of, is_grid_type, repeated_qualifiers, same_word, repeated_modifiers, base_word_refusals, grid_refusals, type_word_refusals, method_modifier_refusals}
use Rattle.ti_rules.specs.Broken.Statements.{standing_refusals}
use Rattle.ti_rules.specs.StmtInContext.{StmtContext, StmtInContext, in_loop, in_foreach, inside, inside_maybe, inside_all, around_method}
use Rattle.ti_rules.specs.TypeRules.{result_refusals, params_refusals, head_refusals, method_refusals, class_refusals, type_refusals}
use Rattle.ti_blame.specs.declared.reason.Reason.{Reason}
use Rattle.ti_blame.specs.declared.reason.Reason.TheVariants.{OfMethod, OfResult, OfVariable}
use Rattle.ti_blame.specs.declared.implication.Conclusion.TheVariants.{One}
use Rattle.ti_blame.specs.declared.implication.Implication.{Implication}
use Rattle.ti_blame.specs.Marks.{Marks}
use Rattle.ti_blame.specs.Implications.{holds_conditionally, is_triggered, is_violated, Satisfies}
use Rattle.ti_infer.specs.Marked.{marked_type, marked_param, marked_params, marked_result, marked_method}
use Rattle.ti_infer.specs.Fitting.{FitsIn, FitsMaybe, FitsAll, MarksFitMethod, MarksFitMethods, MarksFit}
use Rattle.ti_infer.specs.Mirrors.Dependencies.{method_mark}
use Rattle.ti_infer.specs.Mirrors.Implications.{one_each, own_dependencies}
use Rattle.ti_infer.specs.Mirrors.Fits.{is_none, rule_out_unless, accepts_single, declared_edges, declared_edges_maybe, declared_edges_all, method_accepts_single, result_edges, param_edges, all_param_edges, method_fit_edges, fit_edges}
use Rattle.ti_infer.proofs.Truths.{true_false}
use Rattle.ti_infer.proofs.Same.{static_same}
use Rattle.ti_infer.proofs.Lists.{none_both, both_none, refused_none, none_refused, flat_append}
use Rattle.ti_infer.proofs.FittingTogether.{type_more}
use Rattle.ti_infer.proofs.ImplicationsMeant.{fired_one}

-- ---- none

none_is : (rs : List Refusal) → is_none rs ≡ true → rs ≡ []
none_is [] h = refl
none_is (r ∷ rs) h = absurd (true_false (sym h))

is_no : (rs : List Refusal) → rs ≡ [] → is_none rs ≡ true
is_no rs h = ap is_none h

or_both : (a b : Bool) → (a || b) ≡ false → (a ≡ false) × (b ≡ false)
or_both true b h = absurd (true_false h)
or_both false b h = (refl, h)

-- ---- what is told of a program without marks

-- a type that isn't marked
unmarked : (s : Bool) (at : Place) (t : NumberedType) → type_word_refusals s t ≡ [] → type_word_refusals s (marked_type false at t) ≡ []
unmarked s at t h = ap (λ (qs : List Qualifier). (repeated_qualifiers [] qs ++ flat_map (base_word_refusals s t.type) qs) ++ flat_map grid_refusals t.grids) (append-nil t.qualifiers) ∙ h

abbrev ill : ProgramView → List StmtInContext → List Refusal
ill p xs = flat_map (standing_refusals p) xs

ill_both : (p : ProgramView) (xs ys : List StmtInContext) → ill p (xs ++ ys) ≡ [] → (ill p xs ≡ []) × (ill p ys ≡ [])
ill_both p xs ys h = none_both _ _ (sym (flat_append (standing_refusals p) xs ys) ∙ h)

abbrev nothing_at : Place → Bool
nothing_at at = false

module _ (p : ProgramView) where
  mutual
    plain_stm : (x : NumberedStm) (a : StmtContext) → ill p (inside p a x) ≡ [] → FitsIn nothing_at x
    plain_stm (st.Declare at type variable value) a h = unmarked true at type (none_both _ _ (none_both _ _ (none_both _ _ h).0).0).0
    plain_stm (st.Block body) a h = plain_stms body a h
    plain_stm (st.If at c x) a h = plain_stm x a (none_both _ _ h).1
    plain_stm (st.IfElse at c x y) a h =
        let d = ill_both p (inside p a x) (inside p a y) (none_both _ _ h).1 in
        (plain_stm x a d.0, plain_stm y a d.1)
    plain_stm (st.While at c body) a h = plain_stm body (in_loop p a st.NoStm body) (none_both _ _ h).1
    plain_stm (st.For at first c update body) a h =
        let inner = inside p (in_loop p a update body) body in
        let d = ill_both p (inside_maybe p a first) (inside_maybe p a update ++ inner) (none_both _ _ h).1 in
        let n = ill_both p (inside_maybe p a update) inner d.1 in
        (plain_maybe first a d.0, plain_maybe update a n.0, plain_stm body (in_loop p a update body) n.1)
    plain_stm (st.Foreach at number domain body) a h = plain_stm body (in_foreach p a number domain body) (none_both _ _ h).1
    plain_stm _ a h = tt

    plain_maybe : (x : MaybeNumbered) (a : StmtContext) → ill p (inside_maybe p a x) ≡ [] → FitsMaybe nothing_at x
    plain_maybe st.NoStm a h = tt
    plain_maybe (st.SomeStm x) a h = plain_stm x a h

    plain_stms : (xs : NumberedStms) (a : StmtContext) → ill p (inside_all p a xs) ≡ [] → FitsAll nothing_at xs
    plain_stms st.Nil a h = tt
    plain_stms (st.Cons x rest) a h =
        let g = ill_both p (inside p a x) (inside_all p a rest) h in
        (plain_stm x a g.0, plain_stms rest a g.1)

-- ---- a word that stands once

isnt_not : (b : Bool) → not b ≡ false → b ≡ true
isnt_not true h = refl
isnt_not false h = absurd (true_false h)

takes_both : (s b : Bool) → (s && not b) ≡ true → (s ≡ true) × (b ≡ false)
takes_both true true h = absurd (true_false (sym h))
takes_both true false h = (refl, refl)
takes_both false b h = absurd (true_false (sym h))

same_single : (w : ModifierWord) → same_word word.Single w ≡ is_single_word w
same_single word.Public = refl
same_single word.Private = refl
same_single word.Protected = refl
same_single word.Static = refl
same_single word.Final = refl
same_single word.Single = refl

-- the word behind words that break no rule
one_single : (at : Place) (before ws : List Modifier) → repeated_modifiers before ws ≡ [] → list_any (λ (other : Modifier). same_word word.Single other.word) before ≡ false → is_single ws ≡ false
    → repeated_modifiers before (ws ++ record { word = word.Single; place = at } ∷ []) ≡ []
one_single at before [] h b k = both_none _ _ (none_refused _ Y7 at b) refl
one_single at before (m ∷ ws) h b k =
    let n = none_both _ _ h in
    let l = or_both (is_single_word m.word) (is_single ws) k in
    both_none _ _ n.0 (one_single at (m ∷ before) ws n.1 (ap₂ (λ s t. s || t) (same_single m.word ∙ l.0) b) l.1)

not_before : (at : Place) (before ws : List Modifier) → repeated_modifiers before (ws ++ record { word = word.Single; place = at } ∷ [])
    ≡ [] → list_any (λ (other : Modifier). same_word word.Single other.word) before ≡ false
not_before at before [] h = refused_none _ Y7 at (none_both _ _ h).0
not_before at before (m ∷ ws) h = (or_both (same_word word.Single m.word) _ (not_before at (m ∷ before) ws (none_both _ _ h).1)).1

single_once : (at : Place) (before ws : List Modifier) → repeated_modifiers before (ws ++ record { word = word.Single; place = at } ∷ []) ≡ [] → is_single ws ≡ false
single_once at before [] h = refl
single_once at before (m ∷ ws) h =
    let n = none_both _ _ h in
    ap₂ (λ s t. s || t) (sym (same_single m.word) ∙ (or_both (same_word word.Single m.word) _ (not_before at (m ∷ before) ws n.1)).0) (single_once at (m ∷ before) ws n.1)

-- ---- one edge

module _ (counts : Place → Bool) (marks : Marks) (items : List Reason) where
  abbrev broken : List Implication → Bool
  broken es = list_any (is_violated (holds_conditionally counts marks) items) es

  broken_both : (es fs : List Implication) → broken (es ++ fs) ≡ false → (broken es ≡ false) × (broken fs ≡ false)
  broken_both es fs h = or_both _ _ (sym (list_any-append (is_violated (holds_conditionally counts marks) items) es fs) ∙ h)

  both_broken : (es fs : List Implication) → broken es ≡ false → broken fs ≡ false → broken (es ++ fs) ≡ false
  both_broken es fs h k = list_any-append (is_violated (holds_conditionally counts marks) items) es fs ∙ ap₂ (λ a b. a || b) h k

  -- what falls unless a test holds isn't broken where the test holds or nothing stands
  unless : (b : Bool) (x : Reason) → (holds_conditionally counts marks x ≡ true → b ≡ true) → broken (rule_out_unless b x) ≡ false
  unless true x f = refl
  unless false x f = by (holds_conditionally counts marks x) f
    where
      by : (s : Bool) → (s ≡ true → false ≡ true) → ((s || false) || false) ≡ false
      by true g = absurd (true_false (sym (g refl)))
      by false g = refl

  then_holds : (b : Bool) (x : Reason) → broken (rule_out_unless b x) ≡ false → holds_conditionally counts marks x ≡ true → b ≡ true
  then_holds true x h k = refl
  then_holds false x h k = absurd (true_false (sym (ap (λ s. (s || false) || false) k) ∙ h))

  -- ---- declarations

  declared_fits : (b : Bool) (at : Place) (t : NumberedType) → (b ≡ true → accepts_single at t ≡ true)
      → type_word_refusals true (marked_type false at t) ≡ [] → type_word_refusals true (marked_type b at t) ≡ []
  declared_fits true at t f h = none_is _ (f refl)
  declared_fits false at t f h = h

  fits_declared : (b : Bool) (at : Place) (t : NumberedType) → type_word_refusals true (marked_type b at t) ≡ [] → b ≡ true → accepts_single at t ≡ true
  fits_declared true at t h k = is_no _ h
  fits_declared false at t h k = absurd (true_false (sym k))

  mutual
    stm_fits : (x : NumberedStm) → FitsIn nothing_at x → broken (declared_edges x) ≡ false → FitsIn marks.variables x
    stm_fits (st.Declare at type variable value) h k = declared_fits (marks.variables at) at type (then_holds (accepts_single at type) (OfVariable at) k) h
    stm_fits (st.Block body) h k = stms_fit body h k
    stm_fits (st.If at c a) h k = stm_fits a h k
    stm_fits (st.IfElse at c a b) h k = let g = broken_both (declared_edges a) (declared_edges b) k in (stm_fits a h.0 g.0, stm_fits b h.1 g.1)
    stm_fits (st.While at c body) h k = stm_fits body h k
    stm_fits (st.For at first c update body) h k =
        let g = broken_both (declared_edges_maybe first) (declared_edges_maybe update ++ declared_edges body) k in
        let l = broken_both (declared_edges_maybe update) (declared_edges body) g.1 in
        (maybe_fits first h.0 g.0, maybe_fits update h.1 l.0, stm_fits body h.2 l.1)
    stm_fits (st.Foreach at variable domain body) h k = stm_fits body h k
    stm_fits _ h k = tt

    maybe_fits : (x : MaybeNumbered) → FitsMaybe nothing_at x → broken (declared_edges_maybe x) ≡ false → FitsMaybe marks.variables x
    maybe_fits st.NoStm h k = tt
    maybe_fits (st.SomeStm x) h k = stm_fits x h k

    stms_fit : (xs : NumberedStms) → FitsAll nothing_at xs → broken (declared_edges_all xs) ≡ false → FitsAll marks.variables xs
    stms_fit st.Nil h k = tt
    stms_fit (st.Cons x rest) h k = let g = broken_both (declared_edges x) (declared_edges_all rest) k in (stm_fits x h.0 g.0, stms_fit rest h.1 g.1)

  mutual
    fits_stm : (x : NumberedStm) → FitsIn marks.variables x → broken (declared_edges x) ≡ false
    fits_stm (st.Declare at type variable value) h = unless (accepts_single at type) (OfVariable at) (fits_declared (marks.variables at) at type h)
    fits_stm (st.Block body) h = fits_stms body h
    fits_stm (st.If at c a) h = fits_stm a h
    fits_stm (st.IfElse at c a b) h = both_broken (declared_edges a) (declared_edges b) (fits_stm a h.0) (fits_stm b h.1)
    fits_stm (st.While at c body) h = fits_stm body h
    fits_stm (st.For at first c update body) h =
        both_broken (declared_edges_maybe first) (declared_edges_maybe update ++ declared_edges body) (fits_maybe first h.0)
        (both_broken (declared_edges_maybe update) (declared_edges body) (fits_maybe update h.1) (fits_stm body h.2))
    fits_stm (st.Foreach at variable domain body) h = fits_stm body h
    fits_stm _ h = refl

    fits_maybe : (x : MaybeNumbered) → FitsMaybe marks.variables x → broken (declared_edges_maybe x) ≡ false
    fits_maybe st.NoStm h = refl
    fits_maybe (st.SomeStm x) h = fits_stm x h

    fits_stms : (xs : NumberedStms) → FitsAll marks.variables xs → broken (declared_edges_all xs) ≡ false
    fits_stms st.Nil h = refl
    fits_stms (st.Cons x rest) h = both_broken (declared_edges x) (declared_edges_all rest) (fits_stm x h.0) (fits_stms rest h.1)

  -- ---- parameters

  own_dependent : (m : NumberedMethod) → list_any (is_triggered (holds_conditionally counts marks)) (own_dependencies m) ≡ not (m.is_single || marks.methods m.place)
  own_dependent m = by m.is_single
    where
      or_end : (a : Bool) → (a || false) ≡ a
      or_end true = refl
      or_end false = refl

      by : (b : Bool) → list_any (is_triggered (holds_conditionally counts marks)) (if b then [] else Some (method_mark m.place) ∷ []) ≡ not (b || marks.methods m.place)
      by true = refl
      by false = or_end (not (marks.methods m.place))

  own_broken : (m : NumberedMethod) (at : Place) → broken (one_each (own_dependencies m) (One (OfVariable at))) ≡ (not (m.is_single || marks.methods m.place) && (marks.variables at || false))
  own_broken m at = fired_one (holds_conditionally counts marks) counts marks items (own_dependencies m) (One (OfVariable at)) ∙ ap (λ b. b && (marks.variables at || false)) (own_dependent m)

  -- a marked parameter of a method that isn't single is refused
  refused_param : (at : Place) (t : NumberedType) → type_word_refusals false (marked_type true at t) ≡ [] → ⊥
  refused_param at t h =
      let words = flat_append (base_word_refusals false t.type) t.qualifiers (record { word = Single; place = at } ∷ []) in
      let last = (none_both (flat_map (base_word_refusals false t.type) t.qualifiers) _ (sym words ∙ (none_both _ _ (none_both _ _ h).0).1)).1 in
      ends (is_object (base_of t.type) || is_grid_type t.type) (refused_none _ Y7 at (none_both _ _ last).0)
    where
      ends : (b : Bool) → (b || true) ≡ false → ⊥
      ends true e = true_false e
      ends false e = true_false e

  param_fits : (s b v : Bool) (at : Place) (t : NumberedType) → type_word_refusals s t ≡ [] → (v ≡ true → accepts_single at t ≡ true)
      → (not (s || b) && (v || false)) ≡ false → type_word_refusals (s || b) (marked_type v at t) ≡ []
  param_fits s b false at t h f k = type_more s b (marked_type false at t) (unmarked s at t h)
  param_fits s b true at t h f k = by (s || b) k
    where
      by : (o : Bool) → (not o && true) ≡ false → type_word_refusals o (marked_type true at t) ≡ []
      by true e = none_is _ (f refl)
      by false e = absurd (true_false e)

  fits_param : (o v : Bool) (at : Place) (t : NumberedType) → type_word_refusals o (marked_type v at t) ≡ [] → (v ≡ true → accepts_single at t ≡ true) × ((not o && (v || false)) ≡ false)
  fits_param true true at t h = ((λ k. is_no _ h), refl)
  fits_param false true at t h = absurd (refused_param at t h)
  fits_param true false at t h = ((λ k. absurd (true_false (sym k))), refl)
  fits_param false false at t h = ((λ k. absurd (true_false (sym k))), refl)

  params_fit : (m : NumberedMethod) (ws : List NumberedParam) → flat_map (λ (x : NumberedParam). type_word_refusals m.is_single x.ty) ws ≡ [] → broken (param_edges m ws) ≡ false
      → flat_map (λ (x : NumberedParam). type_word_refusals (m.is_single || marks.methods m.place) x.ty) (map (marked_param marks) ws) ≡ []
  params_fit m [] h k = refl
  params_fit m (w ∷ ws) h k =
      let g = none_both _ _ h in
      let l = broken_both (rule_out_unless (accepts_single w.place w.ty) (OfVariable w.place) ++ one_each (own_dependencies m) (One (OfVariable w.place))) (param_edges m ws) k in
      let d = broken_both (rule_out_unless (accepts_single w.place w.ty) (OfVariable w.place)) (one_each (own_dependencies m) (One (OfVariable w.place))) l.0 in
      both_none _ _ (param_fits m.is_single (marks.methods m.place) (marks.variables w.place) w.place w.ty g.0
      (then_holds (accepts_single w.place w.ty) (OfVariable w.place) d.0) (sym (own_broken m w.place) ∙ d.1)) (params_fit m ws g.1 l.1)

  fits_params : (m : NumberedMethod) (ws : List NumberedParam) → flat_map
      (λ (x : NumberedParam). type_word_refusals (m.is_single || marks.methods m.place) x.ty) (map (marked_param marks) ws) ≡ []
      → broken (param_edges m ws) ≡ false
  fits_params m [] h = refl
  fits_params m (w ∷ ws) h =
      let g = none_both _ _ h in
      let d = fits_param (m.is_single || marks.methods m.place) (marks.variables w.place) w.place w.ty g.0 in
      both_broken (rule_out_unless (accepts_single w.place w.ty) (OfVariable w.place) ++ one_each (own_dependencies m) (One (OfVariable w.place))) (param_edges m ws)
      (both_broken (rule_out_unless (accepts_single w.place w.ty) (OfVariable w.place)) (one_each (own_dependencies m) (One (OfVariable w.place)))
      (unless (accepts_single w.place w.ty) (OfVariable w.place) d.0) (own_broken m w.place ∙ d.1)) (fits_params m ws g.1)

  all_params_fit : (m : NumberedMethod) (ws : NumberedParams) → params_refusals m.is_single ws ≡ [] → broken (all_param_edges m ws) ≡ false
      → params_refusals (m.is_single || marks.methods m.place) (marked_params marks ws) ≡ []
  all_params_fit m MainArgs h k = refl
  all_params_fit m (Params ws) h k = params_fit m ws h k

  fits_all_params : (m : NumberedMethod) (ws : NumberedParams) → params_refusals (m.is_single || marks.methods m.place) (marked_params marks ws) ≡ [] → broken (all_param_edges m ws) ≡ false
  fits_all_params m MainArgs h = refl
  fits_all_params m (Params ws) h = fits_params m ws h

  -- ---- results and modifiers

  result_fits : (m : NumberedMethod) (r : NumberedResult) → result_refusals r ≡ [] → broken (result_edges m r) ≡ false → result_refusals (marked_result (marks.results m.place) m.place r) ≡ []
  result_fits m c.Void h k = refl
  result_fits m (c.Typed t) h k = declared_fits (marks.results m.place) m.place t (then_holds (accepts_single m.place t) (OfResult m.place) k) (unmarked true m.place t h)

  fits_result : (m : NumberedMethod) (r : NumberedResult) → result_refusals (marked_result (marks.results m.place) m.place r) ≡ [] → broken (result_edges m r) ≡ false
  fits_result m c.Void h = refl
  fits_result m (c.Typed t) h = unless (accepts_single m.place t) (OfResult m.place) (fits_declared (marks.results m.place) m.place t h)

  abbrev words_refused : Bool → List Modifier → List Refusal
  words_refused s ws = repeated_modifiers [] ws ++ flat_map (method_modifier_refusals s) ws

  words_fit : (b s t : Bool) (at : Place) (ws : List Modifier) → t ≡ s → words_refused s ws ≡ [] → (b ≡ true → (s && not (is_single ws)) ≡ true)
      → words_refused t (ws ++ (if b then record { word = word.Single; place = at } ∷ [] else [])) ≡ []
  words_fit true s t at ws e h f =
      let n = none_both _ _ h in
      let l = takes_both s (is_single ws) (f refl) in
      ap (λ z. words_refused z (ws ++ record { word = word.Single; place = at } ∷ [])) e
      ∙ both_none _ _ (one_single at [] ws n.0 refl l.1)
      (flat_append (method_modifier_refusals s) ws (record { word = word.Single; place = at } ∷ [])
      ∙ both_none _ _ n.1 (both_none (refused_if (not s) Y7 at) [] (none_refused (not s) Y7 at (ap not l.0)) refl))
  words_fit false s t at ws e h f = ap₂ (λ z qs. words_refused z qs) e (append-nil ws) ∙ h

  fit_words : (b s t : Bool) (at : Place) (ws : List Modifier) → t ≡ s
      → words_refused t (ws ++ (if b then record { word = word.Single; place = at } ∷ [] else [])) ≡ [] → b ≡ true
      → (s && not (is_single ws)) ≡ true
  fit_words true s t at ws e h k =
      let n = none_both _ _ (ap (λ z. words_refused z (ws ++ record { word = word.Single; place = at } ∷ [])) (sym e) ∙ h) in
      let last = (none_both (flat_map (method_modifier_refusals s) ws) _ (sym (flat_append (method_modifier_refusals s) ws (record { word = word.Single; place = at } ∷ [])) ∙ n.1)).1 in
      ap₂ (λ a b. a && not b) (isnt_not s (refused_none (not s) Y7 at (none_both _ _ last).0)) (single_once at [] ws n.0)
  fit_words false s t at ws e h k = absurd (true_false (sym k))

  -- ---- methods

  pub method_fits : (m : NumberedMethod) → head_refusals m ≡ [] → FitsAll nothing_at (numbered_stms m.body) → broken (method_fit_edges m) ≡ false → MarksFitMethod marks m
  method_fits m h body k =
      let g = broken_both ((rule_out_unless (method_accepts_single m) (OfMethod m.place) ++ result_edges m m.result) ++ all_param_edges m m.params) (declared_edges_all (numbered_stms m.body)) k in
      let l = broken_both (rule_out_unless (method_accepts_single m) (OfMethod m.place) ++ result_edges m m.result) (all_param_edges m m.params) g.0 in
      let d = broken_both (rule_out_unless (method_accepts_single m) (OfMethod m.place)) (result_edges m m.result) l.0 in
      let n = none_both _ _ h in
      let o = none_both _ _ n.0 in (
        both_none _ _
            (both_none _ _ (words_fit (marks.methods m.place) (is_static_method m)
            (is_static_method (marked_method marks m)) m.place m.modifiers (static_same marks m) o.0
            (then_holds (method_accepts_single m) (OfMethod m.place) d.0))
            (result_fits m m.result o.1 d.1))
            (all_params_fit m m.params n.1 l.1),
        stms_fit (numbered_stms m.body) body g.1,
      )

  pub fits_method : (m : NumberedMethod) → MarksFitMethod marks m → broken (method_fit_edges m) ≡ false
  fits_method m h =
      let n = none_both _ _ h.0 in
      let o = none_both _ _ n.0 in
      both_broken ((rule_out_unless (method_accepts_single m) (OfMethod m.place) ++ result_edges m m.result) ++ all_param_edges m m.params) (declared_edges_all (numbered_stms m.body))
      (both_broken (rule_out_unless (method_accepts_single m) (OfMethod m.place) ++ result_edges m m.result) (all_param_edges m m.params)
      (both_broken (rule_out_unless (method_accepts_single m) (OfMethod m.place)) (result_edges m m.result)
      (unless (method_accepts_single m) (OfMethod m.place) (fit_words (marks.methods m.place) (is_static_method m)
      (is_static_method (marked_method marks m)) m.place m.modifiers (static_same marks m) o.0))
      (fits_result m m.result o.1))
      (fits_all_params m m.params n.1))
      (fits_stms (numbered_stms m.body) h.1)

  methods_fit : (p : ProgramView) (ms : List NumberedMethod) → flat_map (method_refusals p) ms ≡ [] → broken (flat_map method_fit_edges ms) ≡ false → MarksFitMethods marks ms
  methods_fit p [] h k = tt
  methods_fit p (m ∷ ms) h k =
      let g = none_both _ _ h in
      let d = none_both _ _ g.0 in
      let l = broken_both (method_fit_edges m) (flat_map method_fit_edges ms) k in
      (method_fits m (none_both _ _ d.0).0 (plain_stms p (numbered_stms m.body) (around_method m) d.1) l.0, methods_fit p ms g.1 l.1)

  fit_methods : (ms : List NumberedMethod) → MarksFitMethods marks ms → broken (flat_map method_fit_edges ms) ≡ false
  fit_methods [] h = refl
  fit_methods (m ∷ ms) h = both_broken (method_fit_edges m) (flat_map method_fit_edges ms) (fits_method m h.0) (fit_methods ms h.1)

-- marks that break none of these edges can stand where they do
pub edges_fit : (counts : Place → Bool) (marks : Marks) (items : List Reason) (p : ProgramView) → type_refusals p ≡ [] → Satisfies (holds_conditionally counts marks) items (fit_edges p) → MarksFit marks p
edges_fit counts marks items p h k = methods_fit counts marks items p p.methods (none_both (flat_map class_refusals p.classes) _ h).1 k

pub fit_edges_kept : (counts : Place → Bool) (marks : Marks) (items : List Reason) (p : ProgramView) → MarksFit marks p → Satisfies (holds_conditionally counts marks) items (fit_edges p)
fit_edges_kept counts marks items p h = fit_methods counts marks items p.methods h
