-- What is to blame in a program under a marking is what is ruled out by its constraints whose premise the marking lacks.
use Rattle.std.proofs.Common.{◌≡◌, ℕ, ◌+◌, ◌==◌, Bool, true, false, not, ◌&&◌, ◌||◌, if◌then◌else◌, List, [], ◌∷◌, ◌++◌, length, flat_map, Option, Some, None, refl, ap, ap₂, sym, ◌∙◌, append-nil}
use Rattle.std.specs.List.{list_any}
use Rattle.std.proofs.lemmas.Bool.{eqb-true}
use Rattle.std.proofs.lemmas.List.Folds.{list_any-append}
use Rattle.ti_base.specs.declared.place.Place.{Place}
use Rattle.ti_base.specs.Places.{same_place}
use Rattle.ti_lang.specs.Program.Statements.{NumberedStm, NumberedStms, numbered_stms}
use Rattle.ti_lang.specs.Program.Statements as st
use Rattle.ti_lang.specs.Program.Classes.{NumberedMethod, ProgramView}
use Rattle.ti_lang.specs.Program.Scope.{parameters, this_of}
use Rattle.ti_lang.specs.Typing.Effects.{doings}
use Rattle.ti_blame.specs.declared.reason.Reason.{Reason}
use Rattle.ti_blame.specs.declared.reason.Reason.TheVariants.{OfMethod, OfResult, OfVariable, OfCollective, Always}
use Rattle.ti_blame.specs.declared.mark.MarkKind.{MarkKind}
use Rattle.ti_blame.specs.declared.mark.MarkKind.TheVariants as kind
use Rattle.ti_blame.specs.declared.mark.Mark.{Mark}
use Rattle.ti_blame.specs.Marks.{Marks, same_mark_kind, matches_mark, holds}
use Rattle.ti_blame.specs.Implications.{holds_conditionally, meaning, is_triggered, Satisfies}
use Rattle.ti_infer.specs.Marked.{marked_params, marked_method}
use Rattle.ti_infer.specs.Reason.{reasons_if, reasons_of_all, result_reasons, return_reasons, effect_reasons, method_blamed, program_blamed, KeepsSingle}
use Rattle.ti_infer.specs.Descent.{is_always}
use Rattle.ti_infer.specs.Mirrors.Dependencies.{method_mark}
use Rattle.ti_infer.specs.Mirrors.Implications.{same_dependency, one_each, own_dependencies, method_conclusion, first_inside, method_edges, methods_edges, all_reasons, program_edges}
use Rattle.ti_infer.proofs.Truths.{Grows, true_false}
use Rattle.ti_infer.proofs.Descending.{any_grows}
use Rattle.ti_infer.proofs.ErasingPrograms.{types_parameters}
use Rattle.ti_infer.proofs.ImplicationsMeant.{PartAt, part_first, part_second, part_meaning, fires, fired, fired_one, any_guarded, all_meant, alike_first, or_none}

-- ---- what is asked for once more

both : (a b : Bool) → (a && b) ≡ true → (a ≡ true) × (b ≡ true)
both true b h = (refl, h)
both false b h = absurd (true_false (sym h))

pub same_places : (p q : Place) → same_place p q ≡ true → p ≡ q
same_places p q h =
    let g = both (p.line == q.line) (p.col == q.col) h in
    let l : p.line ≡ q.line = eqb-true p.line q.line g.0 in
    let k : p.col ≡ q.col = eqb-true p.col q.col g.1 in
    λ j. record { line = l j; col = k j }

same_kinds : (k l : MarkKind) → same_mark_kind k l ≡ true → k ≡ l
same_kinds kind.Method kind.Method h = refl
same_kinds kind.Method kind.Result h = absurd (true_false (sym h))
same_kinds kind.Method kind.Variable h = absurd (true_false (sym h))
same_kinds kind.Result kind.Method h = absurd (true_false (sym h))
same_kinds kind.Result kind.Result h = refl
same_kinds kind.Result kind.Variable h = absurd (true_false (sym h))
same_kinds kind.Variable kind.Method h = absurd (true_false (sym h))
same_kinds kind.Variable kind.Result h = absurd (true_false (sym h))
same_kinds kind.Variable kind.Variable h = refl

pub mark_is : (m n : Mark) → matches_mark m.kind m.place n ≡ true → m ≡ n
mark_is m n h =
    let g = both (same_mark_kind m.kind n.kind) (same_place m.place n.place) h in
    ap (λ (p : Place). record m { place = p }) (same_places m.place n.place g.1) ∙ ap (λ (k : MarkKind). record n { kind = k }) (same_kinds m.kind n.kind g.0)

dependency_is : (a b : Option Mark) → same_dependency a b ≡ true → a ≡ b
dependency_is None None h = refl
dependency_is None (Some n) h = absurd (true_false (sym h))
dependency_is (Some m) None h = absurd (true_false (sym h))
dependency_is (Some m) (Some n) h = ap Some (mark_is m n h)

pub asked : (test : Option Mark → Bool) (a : Option Mark) (old : List (Option Mark)) → list_any (same_dependency a) old ≡ true → test a ≡ true → list_any test old ≡ true
asked test a [] h k = absurd (true_false (sym h))
asked test a (b ∷ old) h k = by (same_dependency a b) refl h (λ l. asked test a old l k)
  where
    here : (s t : Bool) → s ≡ true → (s || t) ≡ true
    here s t e = ap (λ z. z || t) e

    there : (s t : Bool) → t ≡ true → (s || t) ≡ true
    there true t e = refl
    there false t e = e

    by : (s : Bool) → same_dependency a b ≡ s → (s || list_any (same_dependency a) old) ≡ true → (list_any (same_dependency a) old ≡ true → list_any test old ≡ true) → (test b || list_any test old) ≡ true
    by true e l rest = here (test b) _ (ap test (sym (dependency_is a b e)) ∙ k)
    by false e l rest = there (test b) _ (rest l)

-- ---- methods

module _ (f : Reason → Bool) (counts : Place → Bool) (marks : Marks) (items : List Reason) (p : ProgramView) where
  own_open : (m : NumberedMethod) → list_any (is_triggered (holds_conditionally counts marks)) (own_dependencies m) ≡ not (marked_method marks m).is_single
  own_open m = by m.is_single
    where
      by : (b : Bool) → list_any (is_triggered (holds_conditionally counts marks)) (if b then [] else Some (method_mark m.place) ∷ []) ≡ not (b || marks.methods m.place)
      by true = refl
      by false = or_none (not (marks.methods m.place))

  effects : (n s r t j : Bool) → ((n && ((r || (t && (s || r))) || (j && false))) || (n && s)) ≡ (n && (s || r))
  effects false s r t j = refl
  effects true true r t j = ends ((r || (t && true)) || (j && false))
    where
      ends : (b : Bool) → (b || true) ≡ true
      ends true = refl
      ends false = refl
  effects true false true t j = refl
  effects true false false true true = refl
  effects true false false true false = refl
  effects true false false false true = refl
  effects true false false false false = refl

  module _ (m : NumberedMethod) (i : ℕ) (part : PartAt items i (return_reasons p m)) where
    abbrev body : NumberedStms
    body = numbered_stms m.body

    whole_is : list_any f (meaning items (method_conclusion p m i)) ≡ list_any f (return_reasons p m)
    whole_is = ap (list_any f) (part_meaning items i (return_reasons p m) part)

    abbrev isnt_single : Bool
    isnt_single = not (marked_method marks m).is_single

    effect_is : list_any f (effect_reasons p m [] (st.Block body))
        ≡ ((list_any f (reasons_of_all p m body) || ((doings p (this_of m) (st.Block body)).returns &&
        (list_any f (result_reasons p m m.result) || list_any f (reasons_of_all p m body)))) ||
        ((doings p (this_of m) (st.Block body)).jumps && false))
    effect_is =
        list_any-append f (reasons_of_all p m body ++ reasons_if (doings p (this_of m) (st.Block body)).returns (return_reasons p m)) (reasons_if (doings p (this_of m) (st.Block body)).jumps [])
        ∙ ap₂ (λ a b. a || b)
        (list_any-append f (reasons_of_all p m body) (reasons_if (doings p (this_of m) (st.Block body)).returns (return_reasons p m))
        ∙ ap (λ b. list_any f (reasons_of_all p m body) || b)
        (any_guarded f counts marks items (doings p (this_of m) (st.Block body)).returns (return_reasons p m)
        ∙ ap (λ b. (doings p (this_of m) (st.Block body)).returns && b)
        (list_any-append f (result_reasons p m m.result) (reasons_of_all p m body))))
        (any_guarded f counts marks items (doings p (this_of m) (st.Block body)).jumps [])

    pub method_meant : list_any f (method_blamed p m marks) ≡ fired f counts marks items (method_edges p m i)
    method_meant =
        list_any-append f (reasons_if isnt_single (effect_reasons p m [] (st.Block body)) ++ reasons_if isnt_single (result_reasons p m m.result)) _
        ∙ ap₂ (λ a b. a || b)
        (list_any-append f (reasons_if isnt_single (effect_reasons p m [] (st.Block body))) (reasons_if isnt_single (result_reasons p m m.result))
        ∙ ap₂ (λ a b. a || b) (any_guarded f counts marks items isnt_single (effect_reasons p m [] (st.Block body))
        ∙ ap (λ b. isnt_single && b) effect_is) (any_guarded f counts marks items isnt_single (result_reasons p m m.result))
        ∙ effects isnt_single (list_any f (result_reasons p m m.result)) (list_any f (reasons_of_all p m body))
        (doings p (this_of m) (st.Block body)).returns (doings p (this_of m) (st.Block body)).jumps
        ∙ sym (fired_one f counts marks items (own_dependencies m) (method_conclusion p m i) ∙ ap₂ (λ a b. a && b) (own_open m) (whole_is ∙ list_any-append f (result_reasons p m m.result) (reasons_of_all p m body))))
        (all_meant f counts marks items p m (method_conclusion p m i) whole_is (asked (is_triggered (holds_conditionally counts marks)))
        (parameters (marked_params marks m.params)) (parameters m.params) (first_inside m.params) (alike_first counts marks m.params)
        (types_parameters marks m.params)
        (i + length (result_reasons p m m.result)) [] [] body (part_second items i (result_reasons p m m.result) (reasons_of_all p m body) part) refl)
        ∙ sym (list_any-append (fires f counts marks items) (one_each (own_dependencies m) (method_conclusion p m i)) _)

  pub methods_meant : (ms : List NumberedMethod) (i : ℕ) → PartAt items i (flat_map (return_reasons p) ms)
      → list_any f (flat_map (λ m. method_blamed p m marks) ms) ≡ fired f counts marks items (methods_edges p ms i)
  methods_meant [] i part = refl
  methods_meant (m ∷ ms) i part =
      list_any-append f (method_blamed p m marks) (flat_map (λ m. method_blamed p m marks) ms)
      ∙ ap₂ (λ a b. a || b) (method_meant m i (part_first items i (return_reasons p m) (flat_map (return_reasons p) ms) part))
      (methods_meant ms (i + length (return_reasons p m)) (part_second items i (return_reasons p m)
      (flat_map (return_reasons p) ms) part))
      ∙ sym (list_any-append (fires f counts marks items) (method_edges p m i) (methods_edges p ms (i + length (return_reasons p m))))

-- ---- programs

all_part : (xs : List Reason) → PartAt xs 0 xs
all_part xs = record { before = []; behind = []; is = sym (append-nil xs); at = refl }

pub program_meant : (f : Reason → Bool) (counts : Place → Bool) (marks : Marks) (p : ProgramView) → list_any f (program_blamed p marks) ≡ fired f counts marks (all_reasons p) (program_edges p)
program_meant f counts marks p = methods_meant f counts marks (all_reasons p) p p.methods 0 (all_part (all_reasons p))

-- what keeps the rules of single values breaks no edge of the program
pub kept_edges : (counts : Place → Bool) (p : ProgramView) (marks : Marks) → KeepsSingle counts p marks → Satisfies (holds_conditionally counts marks) (all_reasons p) (program_edges p)
kept_edges counts p marks h = sym (program_meant (holds_conditionally counts marks) counts marks p) ∙ isnt _ _ (any_grows (holds_conditionally counts marks) (holds counts marks) less (program_blamed p marks)) h
  where
    less : (b : Reason) → Grows (holds_conditionally counts marks b) (holds counts marks b)
    less (OfMethod at) k = k
    less (OfResult at) k = k
    less (OfVariable at) k = k
    less (OfCollective at) k = k
    less Always k = refl

    isnt : (a b : Bool) → Grows a b → b ≡ false → a ≡ false
    isnt true b g e = absurd (true_false (sym (g refl) ∙ e))
    isnt false b g e = refl

-- where nothing is to blame in any case, what breaks no edge keeps the rules
pub edges_kept : (counts : Place → Bool) (p : ProgramView) (marks : Marks) → list_any is_always (program_blamed p marks) ≡ false
    → Satisfies (holds_conditionally counts marks) (all_reasons p) (program_edges p) → KeepsSingle counts p marks
edges_kept counts p marks none h = by (program_blamed p marks) none (program_meant (holds_conditionally counts marks) counts marks p ∙ h)
  where
    or_none_both : (a b : Bool) → (a || b) ≡ false → (a ≡ false) × (b ≡ false)
    or_none_both true b k = absurd (true_false k)
    or_none_both false b k = (refl, k)

    one : (b : Reason) → is_always b ≡ false → holds_conditionally counts marks b ≡ false → holds counts marks b ≡ false
    one (OfMethod at) n k = k
    one (OfResult at) n k = k
    one (OfVariable at) n k = k
    one (OfCollective at) n k = k
    one Always n k = absurd (true_false n)

    by : (xs : List Reason) → list_any is_always xs ≡ false → list_any (holds_conditionally counts marks) xs ≡ false → list_any (holds counts marks) xs ≡ false
    by [] n k = refl
    by (x ∷ xs) n k =
        let l = or_none_both _ _ n in
        let g = or_none_both _ _ k in
        ap₂ (λ a b. a || b) (one x l.0 g.0) (by xs l.1 g.1)
