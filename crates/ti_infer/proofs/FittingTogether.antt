-- If the annotations of two markings are allowed where they are, so are those of their union.
use Rattle.std.proofs.Common.{◌≡◌, Bool, true, false, not, ◌||◌, if◌then◌else◌, List, [], ◌∷◌, ◌++◌, map, flat_map, refl, ap, sym, ◌∙◌}
use Rattle.ti_base.specs.declared.place.Place.{Place}
use Rattle.ti_syntax.specs.declared.tree.types.Qualifier.{Qualifier}
use Rattle.ti_syntax.specs.declared.tree.classes.Modifier.{Modifier}
use Rattle.ti_syntax.specs.declared.tree.classes.ModifierWord.TheVariants as word
use Rattle.ti_lang.specs.Scopes as qualifier
use Rattle.ti_lang.specs.Program.Types.{ValueType, NumberedType}
use Rattle.ti_lang.specs.Program.Statements.{NumberedStm, MaybeNumbered, NumberedStms, numbered_stms}
use Rattle.ti_lang.specs.Program.Statements as st
use Rattle.ti_lang.specs.Program.Classes.{NumberedParam, NumberedParams, MainArgs, Params, NumberedResult, NumberedMethod, ProgramView}
use Rattle.ti_lang.specs.Program.Classes as c
use Rattle.ti_lang.specs.Typing.Kinds.{is_object}
use Rattle.ti_rules.specs.declared.rule.Rule.TheVariants.{Y7}
use Rattle.ti_rules.specs.Refusals.{refused_if}
use Rattle.ti_rules.specs.Broken.Words.{base_of, is_grid_type, repeated_modifiers, base_word_refusals, type_word_refusals, method_modifier_refusals}
use Rattle.ti_rules.specs.TypeRules.{result_refusals, params_refusals, head_refusals, type_refusals}
use Rattle.ti_blame.specs.Marks.{Marks, marks_union}
use Rattle.ti_infer.specs.Marked.{marked_type, marked_param, marked_params, marked_result, marked_method}
use Rattle.ti_infer.specs.Fitting.{FitsIn, FitsMaybe, FitsAll, MarksFitMethods}
use Rattle.ti_infer.specs.Accepted.{IsAccepted}
use Rattle.ti_infer.proofs.Truths.{true_false}
use Rattle.ti_infer.proofs.Same.{static_same}
use Rattle.ti_infer.proofs.Lists.{none_both, both_none, refused_none, none_refused}
use Rattle.ti_infer.specs.Limited.{every_one}
use Rattle.ti_infer.specs.Stripped.{HavePlainResults}
use Rattle.ti_infer.proofs.Descending.{by_rules, by_reasons, union_keeps}
use Rattle.ti_infer.proofs.ErasingPrograms.{marks_fit_types, types_fit_marks}

-- ---- words of types

-- what may be single may have each word that it may have where it may not
word_more : (t : ValueType) (q : Qualifier) → base_word_refusals false t q ≡ [] → base_word_refusals true t q ≡ []
word_more t q h = by (qualifier.is_single_word q.word) (is_object (base_of t) || is_grid_type t) (refused_none _ Y7 q.place h)
  where
    by : (w o : Bool) → (if w then o || true else not (is_object (base_of t))) ≡ false → refused_if (if w then o || false else not (is_object (base_of t))) Y7 q.place ≡ []
    by true true e = absurd (true_false e)
    by true false e = refl
    by false o e = none_refused _ Y7 q.place e

words_more : (t : ValueType) (qs : List Qualifier) → flat_map (base_word_refusals false t) qs ≡ [] → flat_map (base_word_refusals true t) qs ≡ []
words_more t [] h = refl
words_more t (q ∷ qs) h =
    let f = none_both _ _ h in
    both_none _ _ (word_more t q f.0) (words_more t qs f.1)

pub type_more : (s b : Bool) (t : NumberedType) → type_word_refusals s t ≡ [] → type_word_refusals (s || b) t ≡ []
type_more true b t h = h
type_more false false t h = h
type_more false true t h =
    let f = none_both _ _ h in
    let g = none_both _ _ f.0 in
    both_none _ _ (both_none _ _ g.0 (words_more t.type t.qualifiers g.1)) f.1

-- a declaration marked by either
either_type : (a b : Bool) (at : Place) (t : NumberedType) → type_word_refusals true (marked_type a at t) ≡ []
    → type_word_refusals true (marked_type b at t) ≡ [] → type_word_refusals true (marked_type (a || b) at t) ≡ []
either_type true b at t h k = h
either_type false b at t h k = k

-- ---- statements

module _ (m n : Marks) where
  mutual
    stm_together : (x : NumberedStm) → FitsIn m.variables x → FitsIn n.variables x → FitsIn (marks_union m n).variables x
    stm_together (st.Declare at type variable value) h k = either_type (m.variables at) (n.variables at) at type h k
    stm_together (st.Block body) h k = stms_together body h k
    stm_together (st.If at c a) h k = stm_together a h k
    stm_together (st.IfElse at c a b) h k = (stm_together a h.0 k.0, stm_together b h.1 k.1)
    stm_together (st.While at c body) h k = stm_together body h k
    stm_together (st.For at first c update body) h k = (maybe_together first h.0 k.0, maybe_together update h.1 k.1, stm_together body h.2 k.2)
    stm_together (st.Foreach at variable domain body) h k = stm_together body h k
    stm_together _ h k = tt

    maybe_together : (x : MaybeNumbered) → FitsMaybe m.variables x → FitsMaybe n.variables x → FitsMaybe (marks_union m n).variables x
    maybe_together st.NoStm h k = tt
    maybe_together (st.SomeStm x) h k = stm_together x h k

    stms_together : (xs : NumberedStms) → FitsAll m.variables xs → FitsAll n.variables xs → FitsAll (marks_union m n).variables xs
    stms_together st.Nil h k = tt
    stms_together (st.Cons x rest) h k = (stm_together x h.0 k.0, stms_together rest h.1 k.1)

-- ---- heads

modifiers_together : (ws : List Modifier) (at : Place) (a b s t u : Bool) → s ≡ u → t ≡ u
    → (let f = ws ++ (if a then record { word = word.Single; place = at } ∷ [] else []) in repeated_modifiers [] f ++ flat_map (method_modifier_refusals s) f) ≡ []
    → (let f = ws ++ (if b then record { word = word.Single; place = at } ∷ [] else []) in repeated_modifiers [] f ++ flat_map (method_modifier_refusals t) f) ≡ []
    → (let f = ws ++ (if a || b then record { word = word.Single; place = at } ∷ [] else []) in repeated_modifiers [] f ++ flat_map (method_modifier_refusals u) f) ≡ []
modifiers_together ws at true b s t u e g h k = ap (λ z. repeated_modifiers [] (ws ++ record { word = word.Single; place = at } ∷ [])
    ++ flat_map (method_modifier_refusals z) (ws ++ record { word = word.Single; place = at } ∷ [])) (sym e) ∙ h
modifiers_together ws at false b s t u e g h k = ap (λ z. repeated_modifiers [] (ws
    ++ (if b then record { word = word.Single; place = at } ∷ [] else []))
    ++ flat_map (method_modifier_refusals z) (ws ++ (if b then record { word = word.Single; place = at } ∷ [] else []))) (sym g) ∙ k

results_together : (a b : Bool) (at : Place) (r : NumberedResult) → result_refusals (marked_result a at r) ≡ []
    → result_refusals (marked_result b at r) ≡ [] → result_refusals (marked_result (a || b) at r) ≡ []
results_together a b at c.Void h k = refl
results_together true b at (c.Typed t) h k = h
results_together false b at (c.Typed t) h k = k

-- a parameter of a method that is single in any case, or by one of two marks
param_together : (s a b f g : Bool) (at : Place) (t : NumberedType) → type_word_refusals (s || a) (marked_type f at t) ≡ []
    → type_word_refusals (s || b) (marked_type g at t) ≡ [] → type_word_refusals (s || (a || b)) (marked_type (f || g) at t) ≡ []
param_together true a b true g at t h k = h
param_together true a b false g at t h k = k
param_together false a b true g at t h k = type_more a b (marked_type true at t) h
param_together false true b false g at t h k = by b k
  where
    by : (b : Bool) → type_word_refusals b (marked_type g at t) ≡ [] → type_word_refusals true (marked_type g at t) ≡ []
    by true e = e
    by false e = type_more false true (marked_type g at t) e
param_together false false b false g at t h k = k

param_list_together : (m n : Marks) (s a b : Bool) (ws : List NumberedParam)
    → flat_map (λ (x : NumberedParam). type_word_refusals (s || a) x.ty) (map (marked_param m) ws) ≡ []
    → flat_map (λ (x : NumberedParam). type_word_refusals (s || b) x.ty) (map (marked_param n) ws) ≡ []
    → flat_map (λ (x : NumberedParam). type_word_refusals (s || (a || b)) x.ty) (map (marked_param (marks_union m n)) ws) ≡ []
param_list_together m n s a b [] h k = refl
param_list_together m n s a b (w ∷ ws) h k =
    let f = none_both _ _ h in
    let g = none_both _ _ k in
    both_none _ _ (param_together s a b (m.variables w.place) (n.variables w.place) w.place w.ty f.0 g.0) (param_list_together m n s a b ws f.1 g.1)

params_together : (m n : Marks) (s a b : Bool) (ws : NumberedParams) → params_refusals (s || a) (marked_params m ws) ≡ []
    → params_refusals (s || b) (marked_params n ws) ≡ [] → params_refusals (s || (a || b)) (marked_params (marks_union m n) ws) ≡ []
params_together m n s a b MainArgs h k = refl
params_together m n s a b (Params ws) h k = param_list_together m n s a b ws h k

head_together : (m n : Marks) (x : NumberedMethod) → head_refusals (marked_method m x) ≡ [] → head_refusals (marked_method n x) ≡ [] → head_refusals (marked_method (marks_union m n) x) ≡ []
head_together m n x h k =
    let f = none_both _ _ h in
    let g = none_both _ _ k in
    let d = none_both _ _ f.0 in
    let e = none_both _ _ g.0 in
    both_none _ _
    (both_none _ _
    (modifiers_together x.modifiers x.place (m.methods x.place) (n.methods x.place) _ _ _ (static_same m x
    ∙ sym (static_same (marks_union m n) x)) (static_same n x ∙ sym (static_same (marks_union m n) x)) d.0 e.0)
    (results_together (m.results x.place) (n.results x.place) x.place x.result d.1 e.1))
    (params_together m n x.is_single (m.methods x.place) (n.methods x.place) x.params f.1 g.1)

-- ---- programs

fits_together : (m n : Marks) (xs : List NumberedMethod) → MarksFitMethods m xs → MarksFitMethods n xs → MarksFitMethods (marks_union m n) xs
fits_together m n [] h k = tt
fits_together m n (x ∷ xs) h k = ((head_together m n x h.0.0 k.0.0, stms_together m n (numbered_stms x.body) h.0.1 k.0.1), fits_together m n xs h.1 k.1)

-- the union of two accepted markings is accepted
pub union_accepted : (p : ProgramView) (m n : Marks) → type_refusals p ≡ [] → HavePlainResults p.methods → IsAccepted p m → IsAccepted p n → IsAccepted p (marks_union m n)
union_accepted p m n plain results h k = record {
  types = marks_fit_types p (marks_union m n) plain (fits_together m n p.methods (types_fit_marks p m h.types) (types_fit_marks p n k.types));
  single = by_reasons p (marks_union m n) results (union_keeps every_one p m n (by_rules p m h.single) (by_rules p n k.single));
}
