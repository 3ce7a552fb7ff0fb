-- If the marked program breaks no rule of types and qualifiers, `main` isn't annotated: its `single` would be a duplicate.
use Rattle.std.proofs.Common.{◌≡◌, ℕ, zero, suc, Bool, true, false, ◌&&◌, ◌||◌, if◌then◌else◌, List, [], ◌∷◌, ◌++◌, length, slice_get, Option, Some, None, refl, ap, sym, ◌∙◌, subst, ◌==◌}
use Rattle.std.proofs.Math.Bool.{Bool-set}
use Rattle.std.proofs.Math.Logic.{∥∥₁_elim}
use Rattle.std.specs.List.{list_any}
use Rattle.std.specs.Option.{option_map_or}
use Rattle.ti_base.specs.declared.place.Place.{Place}
use Rattle.ti_syntax.specs.declared.tree.classes.Modifier.{Modifier}
use Rattle.ti_syntax.specs.declared.tree.classes.ModifierWord.{ModifierWord}
use Rattle.ti_syntax.specs.declared.tree.classes.ModifierWord.TheVariants as w
use Rattle.ti_syntax.specs.Trees.Classes.{MethodTree, TextTree}
use Rattle.ti_lang.specs.MainForm.{is_public, has_main_form}
use Rattle.ti_lang.specs.Members.{is_single_word, is_single, is_static, methods_of}
use Rattle.ti_lang.specs.Program.Classes.{NumberedMethod, ProgramView}
use Rattle.ti_lang.specs.Numbering.{Numbers, IsNumbered}
use Rattle.ti_rules.specs.Broken.Words.{same_word, repeated_modifiers}
use Rattle.ti_rules.specs.TypeRules.{type_refusals}
use Rattle.ti_blame.specs.Marks.{Marks}
use Rattle.ti_infer.specs.Fitting.{MarksFitMethod, MarksFitMethods}
use Rattle.ti_infer.specs.Marked.{marked, marks_main}
use Rattle.ti_infer.proofs.Truths.{true_false}
use Rattle.ti_infer.proofs.Lists.{refused_none, none_both}
use Rattle.ti_infer.proofs.ErasingPrograms.{types_fit_marks}
use Rattle.ti_infer.proofs.MarkedNumbers.{method_at}

-- whether a word is one of modifiers
abbrev stands_in : ModifierWord → List Modifier → Bool
stands_in word ms = list_any (λ (k : Modifier). same_word word k.word) ms

neither : (a b : Bool) → (a || b) ≡ false → (a ≡ false) × (b ≡ false)
neither false b h = (refl, h)
neither true b h = absurd (true_false h)

single_word : (word : ModifierWord) → is_single_word word ≡ same_word w.Single word
single_word w.Single = refl
single_word w.Static = refl
single_word w.Public = refl
single_word w.Private = refl
single_word w.Protected = refl
single_word w.Final = refl

-- where `single` may stand behind modifiers, it's none of them
alone_behind : (before ms : List Modifier) (at : Place) → repeated_modifiers before (ms ++ record { word = w.Single; place = at } ∷ []) ≡ []
    → (stands_in w.Single before ≡ false) × (is_single ms ≡ false)
alone_behind before [] at h = (refused_none _ _ _ (none_both _ _ h).0, refl)
alone_behind before (k ∷ ms) at h =
    let later = alone_behind (k ∷ before) ms at (none_both _ _ h).1 in
    let here = neither (same_word w.Single k.word) (stands_in w.Single before) later.0 in
    (here.1, ap (λ b. b || is_single ms) (single_word k.word ∙ here.0) ∙ later.1)

fits_at : (marks : Marks) (ns : List NumberedMethod) → MarksFitMethods marks ns → (i : ℕ) (y : NumberedMethod) → slice_get ns i ≡ Some y
    → MarksFitMethod marks y
fits_at marks [] f i y at = absurd (none_some y at)
  where
    none_some : (a : NumberedMethod) → ◌≡◌ {A = Option NumberedMethod} None (Some a) → ⊥
    none_some a e = cc
fits_at marks (n ∷ ns) f zero y at = subst (MarksFitMethod marks) (some_same n y at) f.0
  where
    some_same : (a d : NumberedMethod) → ◌≡◌ {A = Option NumberedMethod} (Some a) (Some d) → a ≡ d
    some_same a d e = cc
fits_at marks (n ∷ ns) f (suc i) y at = fits_at marks ns f.1 i y at

single_method : (marks : Marks) (y : NumberedMethod) → MarksFitMethod marks y → is_single y.modifiers ≡ true → marks.methods y.place ≡ false
single_method marks y f single = by (marks.methods y.place) (none_both _ _ (none_both _ _ (none_both _ _ f.0).0).0).0
  where
    by : (b : Bool) → repeated_modifiers [] (y.modifiers ++ (if b then record { word = w.Single; place = y.place } ∷ [] else [])) ≡ []
        → b ≡ false
    by true h = absurd (true_false (sym single ∙ (alone_behind [] y.modifiers y.place h).1))
    by false h = refl

main_single : (tree : MethodTree) → has_main_form tree ≡ true → is_single tree.modifiers ≡ true
main_single tree h = by ((length tree.modifiers == 3) && is_public tree.modifiers) (is_static tree) (is_single tree.modifiers) _ h
  where
    by : (a b d e : Bool) → ((a && (b && d)) && e) ≡ true → d ≡ true
    by true true true e h = refl
    by true true false e h = absurd (true_false (sym h))
    by true false d e h = absurd (true_false (sym h))
    by false b d e h = absurd (true_false (sym h))

pub main_unmarked : (p : ProgramView) (marks : Marks) → ∥ IsNumbered p ∥₁ → type_refusals (marked marks p) ≡ []
    → marks_main marks p ≡ false
main_unmarked p marks numbered h = ∥∥₁_elim numbered (Bool-set _ _) (λ n. by n.0 n.2)
  where
    by : (text : TextTree) → Numbers text p → marks_main marks p ≡ false
    by text n =
        let there = method_at text 0 0 (methods_of text) p.methods n.methods p.main n.main.own n.main.stands in
        ap (λ (o : Option NumberedMethod). option_map_or (λ (w : NumberedMethod). marks.methods w.place) o false) there.1
        ∙ single_method marks there.0 (fits_at marks p.methods (types_fit_marks p marks h) p.main there.0 there.1)
        (ap is_single there.2.1 ∙ main_single n.main.own.method n.main.form)
