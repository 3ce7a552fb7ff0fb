-- The table of places has the place of the declaration of each variable, by its number.
use Rattle.std.proofs.Common.{◌≡◌, ℕ, zero, suc, ◌+◌, ◌<◌, ◌==◌, Bool, true, false, if◌then◌else◌, List, [], ◌∷◌, drop, length, get_or, is_none, slice_get, option_map, Option, Some, None, refl, ap, ap₂, sym, ◌∙◌, subst, eqb-true, eq-eqb}
use Rattle.std.specs.Option.{option_or}
use Rattle.std.proofs.Math.ListN.{set}
use Rattle.std.proofs.lemmas.List.{get_or-set_same, get_or-set_other}
use Rattle.ti_base.specs.declared.place.Place.{Place}
use Rattle.ti_lang.specs.Program.Statements.{numbered_stms}
use Rattle.ti_lang.specs.Program.Classes.{NumberedParam, NumberedParams, MainArgs, Params, NumberedMethod}
use Rattle.ti_infer.specs.declared.local.Local.{Local}
use Rattle.ti_infer.specs.Marks.{params_place, variable_place}
use Rattle.ti_infer.specs.Mirrors.Places.{listed_place, places_of_params, place_if, AreAdded}
use Rattle.ti_infer.specs.Mirrors.Locals.{locals_in_all, place_among, declared_params}
use Rattle.ti_infer.proofs.LocalsTold.{or_assoc, places_told_all}
use Rattle.ti_infer.proofs.Truths.{true_false}
use Rattle.ti_infer.proofs.Pushing.{drop_next}

-- ---- lists of places

pub place_get : (xs : List (Option Place)) (n : ℕ) → listed_place xs n ≡ get_or xs n None
place_get [] n = refl
place_get (x ∷ xs) zero = refl
place_get (x ∷ xs) (suc n) = place_get xs n

param_place : (ws : List NumberedParam) (n : ℕ) → listed_place (places_of_params ws) n ≡ option_map (λ (w : NumberedParam). w.place) (slice_get ws n)
param_place [] n = refl
param_place (w ∷ ws) zero = refl
param_place (w ∷ ws) (suc n) = param_place ws n

all_params_place : (ps : NumberedParams) (n : ℕ) → listed_place (places_of_params (declared_params ps)) n ≡ params_place ps n
all_params_place MainArgs n = refl
all_params_place (Params ws) n = param_place ws n

-- all places of a method
pub all_placed : (m : NumberedMethod) (new : List (Option Place))
    → AreAdded (places_of_params (declared_params m.params)) new (place_among (locals_in_all (numbered_stms m.body))) → (n : ℕ) → listed_place new n
    ≡ variable_place m n
all_placed m new h n = h n ∙ ap₂ option_or (all_params_place m.params n) (places_told_all n (numbered_stms m.body))

-- ---- one more

or_none : (o : Option Place) → o ≡ option_or o None
or_none None = refl
or_none (Some at) = refl

none_is : (o : Option Place) → is_none o ≡ true → o ≡ None
none_is None h = refl
none_is (Some at) h = cc

or_some : (o q : Option Place) → is_none o ≡ false → o ≡ option_or o q
or_some None q h = cc
or_some (Some at) q h = refl

-- other places stay
module _ (old mid : List (Option Place)) (number : ℕ) (at : Place) (same : (n : ℕ) → get_or mid n None ≡ get_or old n None) where
  place_same : (n : ℕ) → get_or mid n None ≡ listed_place old n
  place_same n = same n ∙ sym (place_get old n)

  other : (n : ℕ) → (number == n) ≡ false → get_or mid n None ≡ option_or (listed_place old n) (place_if number at n)
  other n h = place_same n ∙ or_none (listed_place old n) ∙ sym (ap (λ (b : Bool). option_or (listed_place old n) (if b then Some at else None)) h)

  -- a place is set where there was none
  pub place_set : number < length mid → is_none (get_or mid number None) ≡ true → AreAdded old (set mid number (Some at)) (place_if number at)
  place_set less empty n = place_get (set mid number (Some at)) n ∙ by (number == n) refl
    where
      none_yet : listed_place old number ≡ None
      none_yet = sym (place_same number) ∙ none_is _ empty

      by : (b : Bool) → (number == n) ≡ b → get_or (set mid number (Some at)) n None ≡ option_or (listed_place old n) (place_if number at n)
      by true h =
          let here : number ≡ n = eqb-true number n h in
          subst (λ k. get_or (set mid number (Some at)) k None ≡ option_or (listed_place old k) (place_if number at k)) here
          (get_or-set_same mid number (Some at) None less ∙ sym (ap₂ (λ (o : Option Place) (b : Bool). option_or o (if b then Some at else None)) none_yet (eq-eqb number number refl)))
      by false h = get_or-set_other mid number n (Some at) None (λ same. absurd (differs same h)) ∙ other n h
        where
          differs : n ≡ number → (number == n) ≡ false → ⊥
          differs same h = true_false (sym (eq-eqb number number refl) ∙ subst (λ k. (number == k) ≡ false) same h)

  -- it stays where there was one
  pub place_kept : is_none (get_or mid number None) ≡ false → AreAdded old mid (place_if number at)
  place_kept there n = place_get mid n ∙ by (number == n) refl
    where
      by : (b : Bool) → (number == n) ≡ b → get_or mid n None ≡ option_or (listed_place old n) (place_if number at n)
      by true h =
          let here : number ≡ n = eqb-true number n h in
          place_same n ∙ or_some (listed_place old n) (place_if number at n) (subst (λ k. is_none (listed_place old k) ≡ false) here (ap is_none (sym (place_same number)) ∙ there))
      by false h = other n h

-- ---- all of these

pub places_step : (old new start : List (Option Place)) (found : List Local) (i : ℕ) (l : Local) → i < length found → l ≡ get_or found i l → AreAdded old new (place_if l.number l.place)
    → ((n : ℕ) → option_or (listed_place old n) (place_among (drop i found) n) ≡ option_or (listed_place start n) (place_among found n))
    → (n : ℕ) → option_or (listed_place new n) (place_among (drop (i + 1) found) n) ≡ option_or (listed_place start n) (place_among found n)
places_step old new start found i l less here added so n =
    ap (λ (o : Option Place). option_or o (place_among (drop (i + 1) found) n)) (added n)
    ∙ or_assoc (listed_place old n) (place_if l.number l.place n) (place_among (drop (i + 1) found) n)
    ∙ sym (ap (λ (ls : List Local). option_or (listed_place old n) (place_among ls n)) (drop_next found i l less here))
    ∙ so n
