-- Lemmas on lists of nodes at which no naming rule is broken.
use Rattle.std.proofs.Common.{◌≡◌, List, [], ◌∷◌, ◌++◌, flat_map, refl, ap, ◌∙◌}
use Rattle.ti_lang.specs.Nodes.{Node}
use Rattle.ti_rules.specs.BrokenNames.{node_refusals}

-- nothing is wrong at any of the nodes
pub data Clean : List Node → Type 0 where
  no_nodes : Clean []
  more_nodes : {n : Node} {rest : List Node} → node_refusals n ≡ [] → Clean rest → Clean (n ∷ rest)

pub first_clean : {n : Node} {rest : List Node} → Clean (n ∷ rest) → node_refusals n ≡ []
first_clean (Clean.more_nodes e c) = e

pub rest_clean : {n : Node} {rest : List Node} → Clean (n ∷ rest) → Clean rest
rest_clean (Clean.more_nodes e c) = c

pub clean_append : {xs ys : List Node} → Clean xs → Clean ys → Clean (xs ++ ys)
clean_append Clean.no_nodes d = d
clean_append (Clean.more_nodes e c) d = Clean.more_nodes e (clean_append c d)

pub clean_left : (xs ys : List Node) → Clean (xs ++ ys) → Clean xs
clean_left [] ys c = Clean.no_nodes
clean_left (n ∷ xs) ys c = Clean.more_nodes (first_clean c) (clean_left xs ys (rest_clean c))

pub clean_right : (xs ys : List Node) → Clean (xs ++ ys) → Clean ys
clean_right [] ys c = c
clean_right (n ∷ xs) ys c = clean_right xs ys (rest_clean c)

-- ---- lists of refusals

pub empty_left : {A : Type 0} (xs ys : List A) → xs ++ ys ≡ [] → xs ≡ []
empty_left [] ys e = refl
empty_left (x ∷ xs) ys e = cc

pub empty_right : {A : Type 0} (xs ys : List A) → xs ++ ys ≡ [] → ys ≡ []
empty_right [] ys e = e
empty_right (x ∷ xs) ys e = cc

pub clean_of : (nodes : List Node) → flat_map node_refusals nodes ≡ [] → Clean nodes
clean_of [] e = Clean.no_nodes
clean_of (n ∷ rest) e = Clean.more_nodes (empty_left (node_refusals n) (flat_map node_refusals rest) e) (clean_of rest (empty_right (node_refusals n) (flat_map node_refusals rest) e))

pub of_clean : (nodes : List Node) → Clean nodes → flat_map node_refusals nodes ≡ []
of_clean [] c = refl
of_clean (n ∷ rest) c = ap (λ rs. rs ++ flat_map node_refusals rest) (first_clean c) ∙ of_clean rest (rest_clean c)
