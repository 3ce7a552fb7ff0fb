-- What is kept of a list of watchers.
use Rattle.std.proofs.Common.{◌≡◌, Bool, true, false, List, [], ◌∷◌, map, filter, cond, refl, ap, ◌∙◌}
use Rattle.std.specs.List.Retain.{IsFiltered}
use Rattle.std.proofs.lemmas.Fn.{filter_same}
use Rattle.ti_words.specs.declared.job.Job.{Job}
use Rattle.ti_top.specs.Reports.{Watcher, is_wanted, wanted_watchers}

map_cond : {X Y : Type 0} (b : Bool) (f : X → Y) (x : X) (xs ys : List X) → map f (cond b (x ∷ xs) ys) ≡ cond b (f x ∷ map f xs) (map f ys)
map_cond true f x xs ys = refl
map_cond false f x xs ys = refl

map_filter : {X Y : Type 0} (f : X → Y) (p : Y → Bool) (xs : List X) → map f (filter (λ x. p (f x)) xs) ≡ filter p (map f xs)
map_filter f p [] = refl
map_filter f p (x ∷ xs) =
    map_cond (p (f x)) f x (filter (λ x. p (f x)) xs) (filter (λ x. p (f x)) xs) ∙ ap (λ ys. cond (p (f x)) (f x ∷ ys) ys) (map_filter f p xs)

pub kept_wanted : {X P : Type 0} (R : P → X → Bool → P → Type 0) (f : X → Watcher) (job : Job) (p : P)
    → ((x : X) (b : Bool) (q : P) → R p x b q → (b ≡ is_wanted job (f x)) × (q ≡ p)) → (xs ys : List X) → IsFiltered R p xs ys → map f ys
    ≡ wanted_watchers job (map f xs)
kept_wanted R f job p says xs ys h =
    ap (map f) (filter_same R (λ x. is_wanted job (f x)) p says xs ys h) ∙ map_filter f (is_wanted job) xs
