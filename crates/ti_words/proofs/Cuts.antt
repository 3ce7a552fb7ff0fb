-- Reading options one after the other yields the uses of the specification, if none is used twice.
use Rattle.std.proofs.Common.{append-nil, append_assoc, ◌≡◌, ◌∙◌, ◌&&◌, ◌||◌, Bool, true, false, true≢false, refl, sym, ap, ap₂, List, [], ◌∷◌, ◌++◌, Option, Some, None, codes}
use Rattle.std.specs.Prelude.{not, option_and_then}
use Rattle.std.specs.List.{list_all}
use Rattle.std.specs.Str.{bytes_eq}
use Rattle.std.proofs.lemmas.List.Folds.{list_any-append}
use Rattle.std.proofs.lemmas.Slice.Eq.{bytes_eq-Decides}
use Rattle.ti_words.specs.Uses.{ArgKind, OptionUse, Word, and_uses, awaits, gives, is_each_once, is_used, plain, option_uses, wrong}
use Rattle.ti_words.proofs.Turns.{guard}
use Rattle.ti_words.proofs.Matched.{after, file_use}

bytes_eq-sym : (a b : Word) → bytes_eq a b ≡ bytes_eq b a
bytes_eq-sym a b = go (bytes_eq a b) refl (bytes_eq b a) refl
  where
    go : (s : Bool) → bytes_eq a b ≡ s → (t : Bool) → bytes_eq b a ≡ t → s ≡ t
    go true e true f = refl
    go false e false f = refl
    go true e false f = absurd (true≢false (sym ((bytes_eq-Decides b a).1 (sym ((bytes_eq-Decides a b).0 e))) ∙ f))
    go false e true f = absurd (true≢false (sym ((bytes_eq-Decides a b).1 (sym ((bytes_eq-Decides b a).0 f))) ∙ e))

-- none of the later uses is of an argument of the earlier ones
abbrev apart : List OptionUse → List OptionUse → Bool
apart us vs = list_all (λ v. not (is_used v.name us)) vs

apart_first : (vs : List OptionUse) → apart [] vs ≡ true
apart_first [] = refl
apart_first (v ∷ vs) = apart_first vs

apart_push : (us : List OptionUse) (u : OptionUse) (vs : List OptionUse) → apart (us ++ u ∷ []) vs ≡ (apart us vs && not (is_used u.name vs))
apart_push us u [] = refl
apart_push us u (v ∷ vs) =
    ap₂ (λ a b. not a && b) (list_any-append (λ (w : OptionUse). bytes_eq w.name v.name) us (u ∷ []) ∙ ap (λ b. is_used v.name us || (b || false)) (bytes_eq-sym u.name v.name)) (apart_push us u vs)
    ∙ go (is_used v.name us) (bytes_eq v.name u.name) (apart us vs) (is_used u.name vs)
  where
    go : (a b c d : Bool) → (not (a || (b || false)) && (c && not d)) ≡ ((not a && c) && not (b || d))
    go true b c d = refl
    go false true true d = refl
    go false true false d = refl
    go false false c d = refl

-- the cut, if none is used twice
abbrev cut_after : List OptionUse → Option (List OptionUse) → Option (List OptionUse)
cut_after us = option_and_then (λ vs. guard (is_each_once vs && apart us vs) (Some (us ++ vs)))

cut_more : (us : List OptionUse) (u : OptionUse) (rest : Option (List OptionUse)) → guard (not (is_used u.name us)) (cut_after (us ++ u ∷ []) rest) ≡ cut_after us (and_uses u rest)
cut_more us u None = go (not (is_used u.name us))
  where
    go : (b : Bool) → guard {X = List OptionUse} b None ≡ None
    go true = refl
    go false = refl
cut_more us u (Some vs) =
    ap₂ (λ (b : Bool) (ws : List OptionUse). guard (not (is_used u.name us)) (guard (is_each_once vs && b) (Some ws))) (apart_push us u vs) (append_assoc us (u ∷ []) vs)
    ∙ go (is_used u.name us) (is_each_once vs) (apart us vs) (is_used u.name vs) (us ++ u ∷ vs)
  where
    go : (a b c d : Bool) (ws : List OptionUse) → guard (not a) (guard (b && (c && not d)) (Some ws)) ≡ guard ((not d && b) && (not a && c)) (Some ws)
    go true true c true ws = refl
    go true true c false ws = refl
    go true false c true ws = refl
    go true false c false ws = refl
    go false true true true ws = refl
    go false true true false ws = refl
    go false true false true ws = refl
    go false true false false ws = refl
    go false false c true ws = refl
    go false false c false ws = refl

cuts_after : (us : List OptionUse) (ps : List ArgKind) → after us ps ≡ cut_after us (option_uses ps)
cuts_after us [] = ap Some (sym (append-nil us))
cuts_after us (gives u ∷ ps) = ap (guard (not (is_used u.name us))) (cuts_after (us ++ u ∷ []) ps) ∙ cut_more us u (option_uses ps)
cuts_after us (plain file ∷ ps) = ap (guard (not (is_used (codes "FILE") us))) (cuts_after (us ++ file_use file ∷ []) ps) ∙ cut_more us (file_use file) (option_uses ps)
cuts_after us (awaits name ∷ plain value ∷ ps) =
    let u : OptionUse = record { name = name; value = value } in
    ap (guard (not (is_used name us))) (cuts_after (us ++ u ∷ []) ps) ∙ cut_more us u (option_uses ps)
cuts_after us (awaits name ∷ []) = refl
cuts_after us (awaits name ∷ awaits other ∷ ps) = refl
cuts_after us (awaits name ∷ gives u ∷ ps) = refl
cuts_after us (awaits name ∷ wrong ∷ ps) = refl
cuts_after us (wrong ∷ ps) = refl

pub cuts : (ps : List ArgKind) → after [] ps ≡ option_and_then (λ vs. guard (is_each_once vs) (Some vs)) (option_uses ps)
cuts ps = cuts_after [] ps ∙ go (option_uses ps)
  where
    and_true : (b : Bool) → (b && true) ≡ b
    and_true true = refl
    and_true false = refl

    go : (o : Option (List OptionUse)) → cut_after [] o ≡ option_and_then (λ vs. guard (is_each_once vs) (Some vs)) o
    go None = refl
    go (Some vs) = ap (λ b. guard b (Some vs)) (ap (λ b. is_each_once vs && b) (apart_first vs) ∙ and_true (is_each_once vs))
