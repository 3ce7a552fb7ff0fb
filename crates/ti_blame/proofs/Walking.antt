-- Following the links of the search gives a chain.
use Rattle.std.proofs.Common.{◌≡◌, ℕ, ◌⊎◌, inl, inr, ◌+◌, ◌<◌, ◌≤◌, Bool, true, false, ◌&&◌, List, [], ◌∷◌, ◌++◌, length, get_or, Contains, Option, Some, None, find, refl, ap, sym, subst, ◌∙◌, arith}
use Rattle.std.specs.List.{list_any}
use Rattle.std.specs.BTreeSet.{contains}
use Rattle.std.proofs.lemmas.Bool.{and_parts, cases_lt}
use Rattle.std.proofs.lemmas.List.{append_assoc, append-nil}
use Rattle.ti_blame.specs.declared.reason.Reason.{Reason}
use Rattle.ti_blame.specs.declared.reason.Reason.TheVariants.{OfMethod}
use Rattle.ti_blame.specs.declared.implication.Conclusion.TheVariants.{One}
use Rattle.ti_blame.specs.declared.implication.Implication.{Implication}
use Rattle.ti_blame.specs.declared.chains.ChainStep.{ChainStep}
use Rattle.ti_blame.specs.declared.search.Link.{Link}
use Rattle.ti_blame.specs.declared.search.Search.{Search}
use Rattle.ti_blame.specs.Keys.{key_cmp}
use Rattle.ti_blame.specs.Chains.{IsPremise, IsStep, LeadsTo}
use Rattle.ti_blame.specs.Mirrors.Search.{rules_out, never_among, can_start, is_open, IsLink, AreLinks, IsSoundSearch, Extends, IsClosed, IsFoundChain, WalksFrom, IsTurned}
use Rattle.ti_blame.proofs.Linking.{closed_later}
use Rattle.ti_blame.proofs.Chaining.{first_found, none_found, same_contained}

-- what an index past the end reads
abbrev pub link0 : Link
link0 = record { reason = OfMethod (record { line = 0; col = 0 }); step = record { implication = record { from = None; then = One (OfMethod (record { line = 0; col = 0 })) }; ruled_out = OfMethod (record { line = 0; col = 0 }) }; next = 0 }

-- whatever leads on from link number k, the steps so far and it are the first step and what leads on from link number `first`
abbrev pub Walked : List Link → ChainStep → ℕ → ℕ → List ChainStep → Type 0
Walked links start first k steps =
    (items : List Reason) (edges : List Implication) (d : Link) → AreLinks items edges links
    → (rest : List ChainStep) → LeadsTo items edges (get_or links 0 d).reason (get_or links k d).reason rest
    → (whole : List ChainStep) × (steps ++ rest ≡ start ∷ whole) × LeadsTo items edges (get_or links 0 d).reason (get_or links first d).reason whole

pub walked_begin : (links : List Link) (start : ChainStep) (first : ℕ) (steps : List ChainStep) → steps ≡ start ∷ [] → Walked links start first first steps
walked_begin links start first steps e items edges d are rest h = (rest, ap (λ (xs : List ChainStep). xs ++ rest) e, h)

pub walked_more : (links : List Link) (start : ChainStep) (first k : ℕ) (steps : List ChainStep) (link : Link) → 0 < k → k < length links
    → ((d : Link) → get_or links k d ≡ link) → Walked links start first k steps → Walked links start first link.next (steps ++ link.step ∷ [])
walked_more links start first k steps link pos lt here walked items edges d are rest h =
    let is : IsLink items edges links k link = subst (IsLink items edges links k) (here d) (are k d pos lt) in
    let w = walked items edges d are (link.step ∷ rest) (
      subst (λ (l : Link). IsPremise l.reason link.step.implication.from) (sym (here d)) is.premise,
      is.is_step,
      subst (λ (b : Reason). LeadsTo items edges (get_or links 0 d).reason b rest) (is.joined d) h,
    ) in
    (w.0, append_assoc steps (link.step ∷ []) rest ∙ w.1, w.2)

pub walked_end : (links : List Link) (start : ChainStep) (first k : ℕ) (steps : List ChainStep) → k ≡ 0 → Walked links start first k steps → WalksFrom links start first steps
walked_end links start first k steps e walked items edges d are =
    let w = walked items edges d are [] (ap (λ n. (get_or links n d).reason) e) in
    (w.0, sym (append-nil steps) ∙ w.1, w.2)

-- ---- one turn

-- a chain begins here
pub turned_found : (items : List Reason) (edges : List Implication) (s : Search) (k : ℕ) (b : Reason) (e : Implication) (steps : List ChainStep)
    → ((d : Link) → (get_or s.links.items k d).reason ≡ b) → AreLinks items edges s.links.items → find (can_start (contains key_cmp s.named) items b) edges ≡ Some e
    → WalksFrom s.links.items (record { implication = e; ruled_out = b }) k steps → (d : Link) → IsFoundChain (contains key_cmp s.named) items edges (get_or s.links.items 0 d).reason steps
turned_found items edges s k b e steps here are found walks d =
    let w = walks items edges d are in
    let f = first_found (can_start (contains key_cmp s.named) items b) edges e found in
    let t = and_parts (never_among (contains key_cmp s.named) e.from) (rules_out items b e) f.1 in
    subst (IsFoundChain (contains key_cmp s.named) items edges (get_or s.links.items 0 d).reason) (sym w.1)
    (t.0, (f.0, same_contained b _ t.1), subst (λ (r : Reason). LeadsTo items edges (get_or s.links.items 0 d).reason r w.0) (here d) w.2)

-- none does, and the premises have been reached
pub turned_on : (items : List Reason) (edges : List Implication) (s t : Search) (k : ℕ) (b : Reason) → k < length s.links.items → ((d : Link) → (get_or s.links.items k d).reason ≡ b)
    → find (can_start (contains key_cmp s.named) items b) edges ≡ None → Extends s t → IsSoundSearch t → AreLinks items edges t.links.items
    → (list_any (can_start (contains key_cmp s.named) items b) edges ≡ false → list_any (is_open (contains key_cmp t.named) (contains key_cmp t.unseen) items b) edges ≡ false)
    → IsTurned items edges k s t
turned_on items edges s t k b lt here none f sound links shut = record {
  extends = f;
  sound = sound;
  links = links;
  closed = λ d. subst (λ (r : Reason). list_any (is_open (contains key_cmp t.named) (contains key_cmp t.unseen) items r) edges ≡ false)
      (sym (ap (λ (l : Link). l.reason) (f.kept k d lt) ∙ here d)) (shut (none_found (can_start (contains key_cmp s.named) items b) edges none));
}

-- what is found from a later state is found from an earlier one
pub found_later : (items : List Reason) (edges : List Implication) (s t : Search) (steps : List ChainStep) → 0 < length s.links.items → Extends s t
    → ((d : Link) → IsFoundChain (contains key_cmp t.named) items edges (get_or t.links.items 0 d).reason steps)
    → (d : Link) → IsFoundChain (contains key_cmp s.named) items edges (get_or s.links.items 0 d).reason steps
found_later items edges s t steps pos f is d =
    subst (λ (l : Link). IsFoundChain (contains key_cmp s.named) items edges l.reason steps) (f.kept 0 d pos)
    (subst (λ st. IsFoundChain (contains key_cmp st) items edges (get_or t.links.items 0 d).reason steps) f.same (is d))

-- one more link is closed
pub closed_more : (items : List Reason) (edges : List Implication) (s t : Search) (k : ℕ) → k < length s.links.items → ((j : ℕ) → j < k → IsClosed items edges s j)
    → IsTurned items edges k s t → (j : ℕ) → j < k + 1 → IsClosed items edges t j
closed_more items edges s t k lt old turned j below = elim (cases_lt j k) [
  | inl before ↦ closed_later items edges s t j (omega arith) turned.extends (old j before)
  | inr past ↦ let e : k ≡ j = omega (arith, below, past) in
      subst (IsClosed items edges t) e turned.closed
]
