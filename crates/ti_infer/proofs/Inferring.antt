-- The solution of the constraints is the greatest accepted marking, or has the first collective that no marking aligns.
use Rattle.std.proofs.Common.{◌≡◌, Bool, true, false, ◌&&◌, ◌||◌, List, [], ◌∷◌, ◌++◌, Option, Some, None, IfSome, refl, ap₂, sym, subst, ◌∙◌, arith}
use Rattle.std.specs.List.{list_any}
use Rattle.std.proofs.lemmas.Bool.Decides.{nat_tests}
use Rattle.std.proofs.lemmas.Bool.{eq-eqb}
use Rattle.std.proofs.lemmas.List.Folds.{list_any-append}
use Rattle.ti_base.specs.declared.place.Place.{Place}
use Rattle.ti_base.specs.Places.{place_before, same_place}
use Rattle.ti_lang.specs.Program.Classes.{ProgramView}
use Rattle.ti_rules.specs.TypeRules.{type_refusals}
use Rattle.ti_blame.specs.declared.reason.Reason.{Reason}
use Rattle.ti_blame.specs.declared.reason.Reason.TheVariants.{OfMethod, OfResult, OfVariable, OfCollective, Always}
use Rattle.ti_blame.specs.declared.mark.Mark.{Mark}
use Rattle.ti_blame.specs.Marks.{Marks, IsSubset, marks_of}
use Rattle.ti_blame.specs.Implications.{holds_conditionally, is_violated, Satisfies, before}
use Rattle.ti_blame.specs.Solutions.{IsSolution}
use Rattle.ti_infer.specs.Marked.{marked}
use Rattle.ti_infer.specs.Stripped.{HavePlainResults}
use Rattle.ti_infer.specs.Accepted.{IsAccepted}
use Rattle.ti_infer.specs.Fitting.{MarksFit}
use Rattle.ti_infer.specs.Limited.{every_one, counts_to}
use Rattle.ti_infer.specs.Reason.{program_blamed, KeepsSingle}
use Rattle.ti_infer.specs.Descent.{is_always}
use Rattle.ti_infer.specs.Inferred.{IsAcceptedTo, IsInferred}
use Rattle.ti_infer.specs.Mirrors.Implications.{all_reasons, program_edges}
use Rattle.ti_infer.specs.Mirrors.Fits.{fit_edges}
use Rattle.ti_infer.proofs.Truths.{Grows, true_false, grows_right}
use Rattle.ti_infer.proofs.Descending.{by_rules, by_reasons, fewer_keep}
use Rattle.ti_infer.proofs.ErasingPrograms.{marks_fit_types, types_fit_marks}
use Rattle.ti_infer.proofs.Collecting.{is_collective_at, program_reasons, is_among}
use Rattle.ti_infer.proofs.LimitedRules.{limited_by_rules, limited_by_reasons}
use Rattle.ti_infer.proofs.Within.{collectives_within}
use Rattle.ti_infer.proofs.ImplicationsOfProgram.{program_meant, kept_edges, edges_kept, same_places}
use Rattle.ti_infer.proofs.FitImplications.{edges_fit, fit_edges_kept}

or_both : (a b : Bool) → (a || b) ≡ false → (a ≡ false) × (b ≡ false)
or_both true b h = absurd (true_false h)
or_both false b h = (refl, h)

isnt : (a b : Bool) → Grows a b → b ≡ false → a ≡ false
isnt true b g e = absurd (true_false (sym (g refl) ∙ e))
isnt false b g e = refl

-- ---- places

same_itself : (p : Place) → same_place p p ≡ true
same_itself p = ap₂ (λ a b. a && b) (eq-eqb p.line p.line refl) (eq-eqb p.col p.col refl)

pub before_trans : (p q r : Place) → place_before p q ≡ true → place_before q r ≡ true → place_before p r ≡ true
before_trans p q r h k = grind (arith, nat_tests)

-- a place up to one that stands before another
counted_before : (c at p : Place) → place_before c at ≡ true → counts_to (Some c) p ≡ true → place_before p at ≡ true
counted_before c at p h k = by (place_before p c) refl k
  where
    by : (b : Bool) → place_before p c ≡ b → (b || same_place p c) ≡ true → place_before p at ≡ true
    by true e l = before_trans p c at e h
    by false e l = subst (λ (q : Place). place_before q at ≡ true) (sym (same_places p c l)) h

-- ---- edges

module _ (p : ProgramView) (names marks : List Mark) (first : Option Place) (plain : type_refusals p ≡ [])
    (results : HavePlainResults p.methods) (none_always : (m : Marks) → list_any is_always (program_blamed p m) ≡ false)
    (s : IsSolution names (all_reasons p) (program_edges p ++ fit_edges p) marks first) where
  both_kept : (held : Reason → Bool) → Satisfies held (all_reasons p) (program_edges p) → Satisfies held (all_reasons p) (fit_edges p)
      → Satisfies held (all_reasons p) (program_edges p ++ fit_edges p)
  both_kept held h k = list_any-append (is_violated held (all_reasons p)) (program_edges p) (fit_edges p) ∙ ap₂ (λ a b. a || b) h k

  kept_both : (held : Reason → Bool) → Satisfies held (all_reasons p) (program_edges p ++ fit_edges p)
      → Satisfies held (all_reasons p) (program_edges p) × Satisfies held (all_reasons p) (fit_edges p)
  kept_both held h = or_both _ _ (sym (list_any-append (is_violated held (all_reasons p)) (program_edges p) (fit_edges p)) ∙ h)

  -- a marking that breaks no rule breaks no edge
  keeps_all : (counts : Place → Bool) (a : Marks) → type_refusals (marked a p) ≡ [] → KeepsSingle counts p a → Satisfies (holds_conditionally counts a) (all_reasons p) (program_edges p ++ fit_edges p)
  keeps_all counts a types single = both_kept (holds_conditionally counts a) (kept_edges counts p a single) (fit_edges_kept counts a (all_reasons p) p (types_fit_marks p a types))

  left : Satisfies (holds_conditionally (before first) (marks_of marks)) (all_reasons p) (program_edges p) × Satisfies (holds_conditionally (before first) (marks_of marks)) (all_reasons p) (fit_edges p)
  left = kept_both (holds_conditionally (before first) (marks_of marks)) s.keeps

  left_fits : MarksFit (marks_of marks) p
  left_fits = edges_fit (before first) (marks_of marks) (all_reasons p) p plain left.1

  left_types : type_refusals (marked (marks_of marks) p) ≡ []
  left_types = marks_fit_types p (marks_of marks) plain left_fits

  left_single : KeepsSingle (before first) p (marks_of marks)
  left_single = edges_kept (before first) p (marks_of marks) (none_always (marks_of marks)) left.0

  left_accepted : first ≡ None → IsAccepted p (marks_of marks)
  left_accepted e = record { types = left_types; single = by_reasons p (marks_of marks) results (subst (λ (o : Option Place). KeepsSingle (before o) p (marks_of marks)) e left_single) }

  left_greatest : (a : Marks) → IsSubset a (marks_of names) → IsAccepted p a → IsSubset a (marks_of marks)
  left_greatest a part h = s.greatest every_one a part (keeps_all every_one a h.types (by_rules p a h.single))

  -- ---- the first collective that falls

  module _ (at : Place) (is : first ≡ Some at) where
    first_not : (counts : Place → Bool) (a : Marks) → IsSubset a (marks_of names) → Satisfies (holds_conditionally counts a) (all_reasons p) (program_edges p ++ fit_edges p) → counts at ≡ false
    first_not counts a part h = subst (λ (o : Option Place). IfSome o (λ x. counts x ≡ false)) is (s.first counts a part h)

    up_to_itself : counts_to (Some at) at ≡ true
    up_to_itself = grows_right (place_before at at) (same_place at at) (same_itself at)

    none_to : (a : Marks) → IsSubset a (marks_of names) → IsAcceptedTo (Some at) p a → ⊥
    none_to a part h = true_false (sym up_to_itself ∙ first_not (counts_to (Some at)) a part (keeps_all (counts_to (Some at)) a h.types (limited_by_rules (counts_to (Some at)) p a h.single)))

    kept_sooner : (c : Place) → place_before c at ≡ true → IsAcceptedTo (Some c) p (marks_of marks)
    kept_sooner c h = record {
      types = left_types;
      single = limited_by_reasons (counts_to (Some c)) p (marks_of marks) results
          (fewer_keep (counts_to (Some c)) (before (Some at)) p (marks_of marks) (λ q k. counted_before c at q h k)
          (subst (λ (o : Option Place). KeepsSingle (before o) p (marks_of marks)) is left_single));
    }

    -- those before it, and itself
    abbrev with_it : Place → Bool
    with_it q = place_before q at || same_place at q

    with_it-at : with_it at ≡ true
    with_it-at = grows_right (place_before at at) (same_place at at) (same_itself at)

    either_held : (xs : List Reason) → list_any (holds_conditionally (before (Some at)) (marks_of marks)) xs ≡ false
        → list_any (is_collective_at (same_place at)) xs ≡ false → list_any (holds_conditionally with_it (marks_of marks)) xs ≡ false
    either_held [] h k = refl
    either_held (x ∷ xs) h k =
        let f = or_both _ _ h in
        let g = or_both _ _ k in
        ap₂ (λ a b. a || b) (one x f.0 g.0) (either_held xs f.1 g.1)
      where
        one : (b : Reason) → holds_conditionally (before (Some at)) (marks_of marks) b ≡ false → is_collective_at (same_place at) b ≡ false → holds_conditionally with_it (marks_of marks) b ≡ false
        one (OfMethod q) h k = h
        one (OfResult q) h k = h
        one (OfVariable q) h k = h
        one (OfCollective q) h k = ap₂ (λ a b. a || b) h k
        one Always h k = refl

    is_blamed : list_any (is_collective_at (same_place at)) (program_reasons p) ≡ true
    is_blamed = by (list_any (is_collective_at (same_place at)) (program_reasons p)) refl
      where
        by : (b : Bool) → list_any (is_collective_at (same_place at)) (program_reasons p) ≡ b → b ≡ true
        by true e = refl
        by false e =
            let blamed = isnt _ _ (collectives_within (same_place at) p (marks_of marks)) e in
            let before_held : list_any (holds_conditionally (before (Some at)) (marks_of marks)) (program_blamed p (marks_of marks)) ≡ false =
            subst (λ (o : Option Place). list_any (holds_conditionally (before o) (marks_of marks)) (program_blamed p (marks_of marks)) ≡ false) is
            (program_meant (holds_conditionally (before first) (marks_of marks)) (before first) (marks_of marks) p ∙ left.0) in
            let kept : Satisfies (holds_conditionally with_it (marks_of marks)) (all_reasons p) (program_edges p) =
            sym (program_meant (holds_conditionally with_it (marks_of marks)) with_it (marks_of marks) p) ∙ either_held (program_blamed p (marks_of marks)) before_held blamed in
            absurd (true_false (sym with_it-at ∙ first_not with_it (marks_of marks) s.part
            (both_kept (holds_conditionally with_it (marks_of marks)) kept (fit_edges_kept with_it (marks_of marks)
            (all_reasons p) p left_fits))))

pub inferred : (p : ProgramView) (names marks : List Mark) (first : Option Place) → type_refusals p ≡ [] → HavePlainResults p.methods
    → ((m : Marks) → list_any is_always (program_blamed p m) ≡ false)
    → IsSolution names (all_reasons p) (program_edges p ++ fit_edges p) marks first → IsInferred p names marks first
inferred p names marks None plain results none s = record {
  accepted = left_accepted p names marks None plain results none s;
  greatest = left_greatest p names marks None plain results none s;
  none = tt;
  sooner = tt;
  collective = tt;
}
inferred p names marks (Some at) plain results none s = record {
  accepted = left_accepted p names marks (Some at) plain results none s;
  greatest = left_greatest p names marks (Some at) plain results none s;
  none = none_to p names marks (Some at) plain results none s at refl;
  sooner = kept_sooner p names marks (Some at) plain results none s at refl;
  collective = is_among p at (is_blamed p names marks (Some at) plain results none s at refl);
}
