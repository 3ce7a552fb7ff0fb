-- The names, constraints and places of the variables that statements declare are functions of the list of these variables.
use Rattle.std.proofs.Common.{◌≡◌, ℕ, List, [], ◌∷◌, ◌++◌, Option, Some, None, refl, ap, ap₂, sym, ◌∙◌, append-nil}
use Rattle.std.specs.Option.{option_or}
use Rattle.ti_lang.specs.Program.Statements.{NumberedStm, MaybeNumbered, NumberedStms}
use Rattle.ti_lang.specs.Program.Statements as st
use Rattle.ti_blame.specs.declared.reason.Reason.TheVariants.{OfVariable}
use Rattle.ti_infer.specs.declared.local.Local.{Local}
use Rattle.ti_infer.specs.Marks.{declared_place, declared_place_maybe, declared_place_all}
use Rattle.ti_infer.specs.Candidates.{variable_candidate, declared_candidates, declared_candidates_maybe, declared_candidates_all}
use Rattle.ti_infer.specs.Mirrors.Fits.{rule_out_unless, declared_edges, declared_edges_maybe, declared_edges_all}
use Rattle.ti_infer.specs.Mirrors.Places.{place_if}
use Rattle.ti_infer.specs.Mirrors.Locals.{locals_in, locals_in_maybe, locals_in_all, place_among, local_candidates, local_edges}
use Rattle.ti_infer.proofs.Lists.{flat_append}

none_more : {A : Type 0} (o : Option A) → option_or o None ≡ o
none_more None = refl
none_more (Some a) = refl

pub or_assoc : {A : Type 0} (a b c : Option A) → option_or (option_or a b) c ≡ option_or a (option_or b c)
or_assoc None b c = refl
or_assoc (Some x) b c = refl

names_both : (xs ys : List Local) → local_candidates (xs ++ ys) ≡ local_candidates xs ++ local_candidates ys
names_both [] ys = refl
names_both (x ∷ xs) ys = ap (λ z. variable_candidate x.place ∷ z) (names_both xs ys)

edges_both : (xs ys : List Local) → local_edges (xs ++ ys) ≡ local_edges xs ++ local_edges ys
edges_both xs ys = flat_append (λ (l : Local). rule_out_unless l.accepts (OfVariable l.place)) xs ys

places_both : (n : ℕ) (xs ys : List Local) → place_among (xs ++ ys) n ≡ option_or (place_among xs n) (place_among ys n)
places_both n [] ys = refl
places_both n (x ∷ xs) ys = ap (option_or (place_if x.number x.place n)) (places_both n xs ys) ∙ sym (or_assoc (place_if x.number x.place n) (place_among xs n) (place_among ys n))

-- ---- names

mutual
  names_told : (x : NumberedStm) → local_candidates (locals_in x) ≡ declared_candidates x
  names_told (st.Block body) = names_told_all body
  names_told (st.If at c a) = names_told a
  names_told (st.IfElse at c a b) = names_both (locals_in a) (locals_in b) ∙ ap₂ (λ a b. a ++ b) (names_told a) (names_told b)
  names_told (st.While at c body) = names_told body
  names_told (st.For at first c update body) =
      names_both (locals_in_maybe first) (locals_in_maybe update ++ locals_in body)
      ∙ ap₂ (λ a b. a ++ b) (names_told_maybe first) (names_both (locals_in_maybe update) (locals_in body) ∙ ap₂ (λ a b. a ++ b) (names_told_maybe update) (names_told body))
  names_told (st.Foreach at variable domain body) = names_told body
  names_told _ = refl

  names_told_maybe : (x : MaybeNumbered) → local_candidates (locals_in_maybe x) ≡ declared_candidates_maybe x
  names_told_maybe st.NoStm = refl
  names_told_maybe (st.SomeStm x) = names_told x

  pub names_told_all : (xs : NumberedStms) → local_candidates (locals_in_all xs) ≡ declared_candidates_all xs
  names_told_all st.Nil = refl
  names_told_all (st.Cons x rest) = names_both (locals_in x) (locals_in_all rest) ∙ ap₂ (λ a b. a ++ b) (names_told x) (names_told_all rest)

-- ---- edges

mutual
  edges_told : (x : NumberedStm) → local_edges (locals_in x) ≡ declared_edges x
  edges_told (st.Declare at type variable value) = append-nil _
  edges_told (st.Block body) = edges_told_all body
  edges_told (st.If at c a) = edges_told a
  edges_told (st.IfElse at c a b) = edges_both (locals_in a) (locals_in b) ∙ ap₂ (λ a b. a ++ b) (edges_told a) (edges_told b)
  edges_told (st.While at c body) = edges_told body
  edges_told (st.For at first c update body) =
      edges_both (locals_in_maybe first) (locals_in_maybe update ++ locals_in body)
      ∙ ap₂ (λ a b. a ++ b) (edges_told_maybe first) (edges_both (locals_in_maybe update) (locals_in body) ∙ ap₂ (λ a b. a ++ b) (edges_told_maybe update) (edges_told body))
  edges_told (st.Foreach at variable domain body) = edges_told body
  edges_told _ = refl

  edges_told_maybe : (x : MaybeNumbered) → local_edges (locals_in_maybe x) ≡ declared_edges_maybe x
  edges_told_maybe st.NoStm = refl
  edges_told_maybe (st.SomeStm x) = edges_told x

  pub edges_told_all : (xs : NumberedStms) → local_edges (locals_in_all xs) ≡ declared_edges_all xs
  edges_told_all st.Nil = refl
  edges_told_all (st.Cons x rest) = edges_both (locals_in x) (locals_in_all rest) ∙ ap₂ (λ a b. a ++ b) (edges_told x) (edges_told_all rest)

-- ---- places

mutual
  places_told : (n : ℕ) (x : NumberedStm) → place_among (locals_in x) n ≡ declared_place x n
  places_told n (st.Declare at type variable value) = none_more _
  places_told n (st.Block body) = places_told_all n body
  places_told n (st.If at c a) = places_told n a
  places_told n (st.IfElse at c a b) = places_both n (locals_in a) (locals_in b) ∙ ap₂ option_or (places_told n a) (places_told n b)
  places_told n (st.While at c body) = places_told n body
  places_told n (st.For at first c update body) =
      places_both n (locals_in_maybe first) (locals_in_maybe update ++ locals_in body)
      ∙ ap₂ option_or (places_told_maybe n first) (places_both n (locals_in_maybe update) (locals_in body) ∙ ap₂ option_or (places_told_maybe n update) (places_told n body))
  places_told n (st.Foreach at variable domain body) = places_told n body
  places_told n _ = refl

  places_told_maybe : (n : ℕ) (x : MaybeNumbered) → place_among (locals_in_maybe x) n ≡ declared_place_maybe x n
  places_told_maybe n st.NoStm = refl
  places_told_maybe n (st.SomeStm x) = places_told n x

  pub places_told_all : (n : ℕ) (xs : NumberedStms) → place_among (locals_in_all xs) n ≡ declared_place_all xs n
  places_told_all n st.Nil = refl
  places_told_all n (st.Cons x rest) = places_both n (locals_in x) (locals_in_all rest) ∙ ap₂ option_or (places_told n x) (places_told_all n rest)
