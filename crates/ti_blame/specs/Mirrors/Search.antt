-- Mirrors the code, for contracts of private functions: the search for a chain.
use Rattle.std.specs.Prelude.{◌≡◌, ℕ, ◌+◌, ◌<◌, ◌≤◌, ◌==◌, Bool, true, false, not, ◌&&◌, List, [], ◌∷◌, length, get_or, Option, Some, None}
use Rattle.std.specs.List.{list_any}
use Rattle.std.specs.BTreeSet.{contains, btree_set_len}
use Rattle.std.specs.declared.vec.Vec.{Vec}
use Rattle.std.specs.declared.alloc.Global.{Global}
use Rattle.ti_base.specs.declared.place.Place.{Place}
use Rattle.ti_base.specs.Places.{same_place}
use Rattle.ti_blame.specs.declared.reason.Reason.{Reason}
use Rattle.ti_blame.specs.declared.reason.Reason.TheVariants.{OfMethod, OfResult, OfVariable, OfCollective, Always}
use Rattle.ti_blame.specs.declared.mark.Mark.{Mark}
use Rattle.ti_blame.specs.declared.mark.MarkKey.{MarkKey}
use Rattle.ti_blame.specs.declared.implication.Implication.{Implication}
use Rattle.ti_blame.specs.declared.chains.ChainStep.{ChainStep}
use Rattle.ti_blame.specs.declared.search.Link.{Link}
use Rattle.ti_blame.specs.declared.search.Search.{Search}
use Rattle.ti_blame.specs.Keys.{key_of, reason_of, key_cmp}
use Rattle.ti_blame.specs.Implications.{meaning}
use Rattle.ti_blame.specs.Chains.{IsPremise, IsStep, LeadsTo}
use Rattle.ti_blame.specs.Mirrors.Starts.{has_key}

-- ---- reasons

abbrev pub reason_number : Reason → ℕ
reason_number (OfMethod at) = 0
reason_number (OfResult at) = 1
reason_number (OfVariable at) = 2
reason_number (OfCollective at) = 3
reason_number Always = 4

abbrev pub reason_place : Reason → Place
reason_place (OfMethod at) = at
reason_place (OfResult at) = at
reason_place (OfVariable at) = at
reason_place (OfCollective at) = at
reason_place Always = record { line = 0; col = 0 }

abbrev pub same_reason : Reason → Reason → Bool
same_reason a b = (reason_number a == reason_number b) && same_place (reason_place a) (reason_place b)

-- ---- constraints

-- the constraint rules out the reason
abbrev pub rules_out : List Reason → Reason → Implication → Bool
rules_out items b e = list_any (same_reason b) (meaning items e.then)

-- there is no premise, or it isn't one of these annotations
abbrev pub never_among : (MarkKey → Bool) → Option Mark → Bool
never_among named None = true
never_among named (Some m) = not (named (key_of m))

-- a chain to the reason can begin with the constraint
abbrev pub can_start : (MarkKey → Bool) → List Reason → Reason → Implication → Bool
can_start named items b e = never_among named e.from && rules_out items b e

-- the premise is one of the annotations, and has been reached
abbrev pub is_seen : (MarkKey → Bool) → (MarkKey → Bool) → Option Mark → Bool
is_seen named unseen None = false
is_seen named unseen (Some m) = named (key_of m) && not (unseen (key_of m))

-- the constraint rules out the reason, and its premise hasn't been reached
abbrev pub is_open : (MarkKey → Bool) → (MarkKey → Bool) → List Reason → Reason → Implication → Bool
is_open named unseen items b e = rules_out items b e && not (is_seen named unseen e.from)

-- ---- links

-- link number k is there, and its reason is this one
abbrev pub IsJoined : List Link → ℕ → Reason → Type 0
IsJoined links k b = (k < length links) × ((d : Link) → (get_or links k d).reason ≡ b)

-- link number k leads to an earlier one
pub record IsLink (items : List Reason) (edges : List Implication) (links : List Link) (k : ℕ) (link : Link) : Type 0 where
  pub earlier : link.next < k
  pub premise : IsPremise link.reason link.step.implication.from
  pub is_step : IsStep items edges link.step
  pub joined : (d : Link) → (get_or links link.next d).reason ≡ link.step.ruled_out

-- all but the first lead to earlier ones
abbrev pub AreLinks : List Reason → List Implication → List Link → Type 0
AreLinks items edges links = (k : ℕ) (d : Link) → 0 < k → k < length links → IsLink items edges links k (get_or links k d)

-- some link has this reason
abbrev pub HasLink : List Link → Reason → Type 0
HasLink links b = (k : ℕ) × IsJoined links k b

-- ---- states

-- those that haven't been reached are among the annotations, and each other one has a link
pub record IsSoundSearch (s : Search) : Type 0 where
  pub among : (n : MarkKey) → contains key_cmp s.unseen n ≡ true → contains key_cmp s.named n ≡ true
  pub linked : (m : Mark) → contains key_cmp s.named (key_of m) ≡ true → contains key_cmp s.unseen (key_of m) ≡ false
      → HasLink s.links.items (reason_of m)

-- from the first state to the second annotations have been reached, each with one more link
pub record Extends (s t : Search) : Type 0 where
  pub same : t.named ≡ s.named
  pub fewer : (n : MarkKey) → contains key_cmp t.unseen n ≡ true → contains key_cmp s.unseen n ≡ true
  pub longer : length s.links.items ≤ length t.links.items
  pub kept : (k : ℕ) (d : Link) → k < length s.links.items → get_or t.links.items k d ≡ get_or s.links.items k d
  pub room : btree_set_len t.unseen + length t.links.items ≡ btree_set_len s.unseen + length s.links.items

-- no constraint that rules out the reason of link number k is open
abbrev pub IsClosed : List Reason → List Implication → Search → ℕ → Type 0
IsClosed items edges s k =
    (d : Link) → list_any (is_open (contains key_cmp s.named) (contains key_cmp s.unseen) items (get_or s.links.items k d).reason) edges ≡ false

-- the steps are a chain from a premise that isn't one of the annotations to this reason
abbrev pub IsFoundChain : (MarkKey → Bool) → List Reason → List Implication → Reason → List ChainStep → Type 0
IsFoundChain named items edges last [] = ⊥
IsFoundChain named items edges last (s ∷ steps) =
    (never_among named s.implication.from ≡ true) × IsStep items edges s × LeadsTo items edges last s.ruled_out steps

-- this step, and then steps from the reason of link number `first` to that of link number 0
abbrev pub WalksFrom : List Link → ChainStep → ℕ → List ChainStep → Type 0
WalksFrom links start first steps =
    (items : List Reason) (edges : List Implication) (d : Link) → AreLinks items edges links
    → (rest : List ChainStep) × (steps ≡ start ∷ rest) × LeadsTo items edges (get_or links 0 d).reason (get_or links first d).reason rest

-- the state after looking at link number k
pub record IsTurned (items : List Reason) (edges : List Implication) (k : ℕ) (s t : Search) : Type 0 where
  pub extends : Extends s t
  pub sound : IsSoundSearch t
  pub links : AreLinks items edges t.links.items
  pub closed : IsClosed items edges t k

abbrev pub Turns : List Reason → List Implication → ℕ → Search → Search → Option (Vec ChainStep Global) → Type 0
Turns items edges k s t None = IsTurned items edges k s t
Turns items edges k s t (Some steps) = (d : Link) → IsFoundChain (contains key_cmp s.named) items edges (get_or s.links.items 0 d).reason steps.items

-- the state after looking at all links
pub record IsFinished (items : List Reason) (edges : List Implication) (s t : Search) : Type 0 where
  pub extends : Extends s t
  pub sound : IsSoundSearch t
  pub closed : (k : ℕ) → k < length t.links.items → IsClosed items edges t k

abbrev pub Finds : List Reason → List Implication → Search → Search → Option (Vec ChainStep Global) → Type 0
Finds items edges s t None = IsFinished items edges s t
Finds items edges s t (Some steps) = (d : Link) → IsFoundChain (contains key_cmp s.named) items edges (get_or s.links.items 0 d).reason steps.items

-- only the collective has been reached
pub record IsFirstSearch (names : List Mark) (at : Place) (s : Search) : Type 0 where
  pub all : (n : MarkKey) → contains key_cmp s.named n ≡ has_key names n
  pub none : (n : MarkKey) → contains key_cmp s.unseen n ≡ has_key names n
  pub first : (link : Link) × (s.links.items ≡ link ∷ []) × (link.reason ≡ OfCollective at)
