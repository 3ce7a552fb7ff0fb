-- A chain excludes that the collective holds, and where the search finds none, it can hold.
use Rattle.std.proofs.Common.{◌≡◌, ℕ, suc, ◌+◌, ◌<◌, ◌≤◌, inl, inr, Bool, true, false, cond, not, ◌&&◌, ◌||◌, List, [], ◌∷◌, ◌++◌, length, get_or, Contains, Option, Some, None, Result, IfOk, refl, ap, ap₂, sym, subst, ◌∙◌, arith}
use Rattle.std.specs.List.{list_any, find, All}
use Rattle.std.specs.BTreeSet.{contains}
use Rattle.std.specs.declared.vec.Vec.{Vec}
use Rattle.std.specs.declared.alloc.Global.{Global}
use Rattle.std.proofs.lemmas.Bool.{and_parts, and_from, and_left, and_right, and_cases, not-true, not-false, not_from_false, not_from_true, eq-eqb, eqb-true}
use Rattle.std.proofs.lemmas.List.Folds.{list_any_none}
use Rattle.ti_base.specs.declared.place.Place.{Place}
use Rattle.ti_base.specs.Places.{same_place}
use Rattle.ti_blame.specs.declared.reason.Reason.{Reason}
use Rattle.ti_blame.specs.declared.reason.Reason.TheVariants.{OfMethod, OfResult, OfVariable, OfCollective, Always}
use Rattle.ti_blame.specs.declared.mark.MarkKind.{MarkKind}
use Rattle.ti_blame.specs.declared.mark.MarkKind.TheVariants as kind
use Rattle.ti_blame.specs.declared.mark.Mark.{Mark}
use Rattle.ti_blame.specs.declared.mark.MarkKey.{MarkKey}
use Rattle.ti_blame.specs.declared.implication.Conclusion.TheVariants.{One}
use Rattle.ti_blame.specs.declared.implication.Implication.{Implication}
use Rattle.ti_blame.specs.declared.chains.ChainStep.{ChainStep}
use Rattle.ti_blame.specs.declared.search.Link.{Link}
use Rattle.ti_blame.specs.declared.search.Search.{Search}
use Rattle.ti_blame.specs.Keys.{key_of, reason_at, reason_of, key_cmp}
use Rattle.ti_blame.specs.Marks.{Marks, IsSubset, matches_mark, marks_of}
use Rattle.ti_blame.specs.Implications.{holds_conditionally, meaning, is_triggered, is_violated, Satisfies}
use Rattle.ti_blame.specs.Chains.{never_holds, IsPremise, IsStep, LeadsTo, IsChain, CanHold, GivesChain}
use Rattle.ti_blame.specs.Mirrors.Starts.{has_key}
use Rattle.ti_blame.specs.Mirrors.Search.{reason_number, same_reason, rules_out, never_among, can_start, is_seen, is_open, IsJoined, AreLinks, HasLink, IsSoundSearch, Extends, IsClosed, IsFoundChain, IsFinished, Finds, IsFirstSearch}
use Rattle.ti_blame.proofs.Stepping.{true_false, gone, none_at, grows_first, grows_second, either_is}
use Rattle.ti_blame.proofs.Opened.{not_broken}
use Rattle.ti_blame.proofs.Solving.{same_places, place_itself, named_is}

-- ---- reasons that are the same

-- a reason is the same as itself
pub reason_itself : (b : Reason) → same_reason b b ≡ true
reason_itself (OfMethod at) = place_itself at
reason_itself (OfResult at) = place_itself at
reason_itself (OfVariable at) = place_itself at
reason_itself (OfCollective at) = place_itself at
reason_itself Always = refl

-- reasons that are the same are equal
pub same_is : (a b : Reason) → same_reason a b ≡ true → b ≡ a
same_is (OfMethod p) (OfMethod q) h = ap OfMethod (sym (same_places p q h))
same_is (OfMethod p) (OfResult q) h = absurd (true_false (sym h))
same_is (OfMethod p) (OfVariable q) h = absurd (true_false (sym h))
same_is (OfMethod p) (OfCollective q) h = absurd (true_false (sym h))
same_is (OfMethod p) Always h = absurd (true_false (sym h))
same_is (OfResult p) (OfMethod q) h = absurd (true_false (sym h))
same_is (OfResult p) (OfResult q) h = ap OfResult (sym (same_places p q h))
same_is (OfResult p) (OfVariable q) h = absurd (true_false (sym h))
same_is (OfResult p) (OfCollective q) h = absurd (true_false (sym h))
same_is (OfResult p) Always h = absurd (true_false (sym h))
same_is (OfVariable p) (OfMethod q) h = absurd (true_false (sym h))
same_is (OfVariable p) (OfResult q) h = absurd (true_false (sym h))
same_is (OfVariable p) (OfVariable q) h = ap OfVariable (sym (same_places p q h))
same_is (OfVariable p) (OfCollective q) h = absurd (true_false (sym h))
same_is (OfVariable p) Always h = absurd (true_false (sym h))
same_is (OfCollective p) (OfMethod q) h = absurd (true_false (sym h))
same_is (OfCollective p) (OfResult q) h = absurd (true_false (sym h))
same_is (OfCollective p) (OfVariable q) h = absurd (true_false (sym h))
same_is (OfCollective p) (OfCollective q) h = ap OfCollective (sym (same_places p q h))
same_is (OfCollective p) Always h = absurd (true_false (sym h))
same_is Always (OfMethod q) h = absurd (true_false (sym h))
same_is Always (OfResult q) h = absurd (true_false (sym h))
same_is Always (OfVariable q) h = absurd (true_false (sym h))
same_is Always (OfCollective q) h = absurd (true_false (sym h))
same_is Always Always h = refl

-- ---- tests of lists

-- an element that passes a test is one of the list
pub first_found : {A : Type 0} (test : A → Bool) (xs : List A) (x : A) → find test xs ≡ Some x → Contains xs x × (test x ≡ true)
first_found test [] x h = cc
first_found {A} test (y ∷ ys) x h = by (test y) refl (first_found test ys x) h
  where
    by : (b : Bool) → test y ≡ b → (find test ys ≡ Some x → Contains ys x × (test x ≡ true)) → cond b (Some y) (find test ys) ≡ Some x → Contains (y ∷ ys) x × (test x ≡ true)
    by true e rest k = let same : y ≡ x = cc in ((0, omega arith, same), subst (λ (z : A). test z ≡ true) same e)
    by false e rest k = let there = rest k in ((suc there.0.0, omega (arith, there.0.1), there.0.2), there.1)

pub none_found : {A : Type 0} (test : A → Bool) (xs : List A) → find test xs ≡ None → list_any test xs ≡ false
none_found test [] h = refl
none_found test (y ∷ ys) h = by (test y) (none_found test ys) h
  where
    by : (b : Bool) → (find test ys ≡ None → list_any test ys ≡ false) → cond b (Some y) (find test ys) ≡ None → (b || list_any test ys) ≡ false
    by true rest k = cc
    by false rest k = rest k

-- what is the same as one of a list is one of it
pub same_contained : (b : Reason) (xs : List Reason) → list_any (same_reason b) xs ≡ true → Contains xs b
same_contained b [] h = absurd (true_false (sym h))
same_contained b (x ∷ xs) h = elim (either_is _ _ h) [
  | inl here ↦ (0, omega arith, same_is b x here)
  | inr there ↦ let k = same_contained b xs there in (suc k.0, omega (arith, k.1), k.2)
]

-- a test that fails of all of a list fails of one of them
contained_fails : {A : Type 0} (test : A → Bool) (xs : List A) (x : A) → Contains xs x → list_any test xs ≡ false → test x ≡ false
contained_fails {A} test xs x c h = subst (λ (y : A). test y ≡ false) c.2 (none_at test xs c.0 x c.1 h)

-- one of a list of which some pass a test
passing : (test : Reason → Bool) (xs : List Reason) → list_any test xs ≡ true → (b : Reason) × (test b ≡ true) × (list_any (same_reason b) xs ≡ true)
passing test [] h = absurd (true_false (sym h))
passing test (x ∷ xs) h = elim (either_is _ _ h) [
  | inl here ↦ (x, here, grows_first _ _ (reason_itself x))
  | inr there ↦ let k = passing test xs there in (k.0, k.1, grows_second _ _ k.2)
]

-- ---- a chain excludes its collective

module _ (items : List Reason) (edges : List Implication) (held : Reason → Bool) (keeps : Satisfies held items edges) where
  -- a step whose constraint applies
  step_out : (s : ChainStep) → IsStep items edges s → is_triggered held s.implication.from ≡ true → held s.ruled_out ≡ false
  step_out s is applies =
      contained_fails held (meaning items s.implication.then) s.ruled_out is.1
      (not_broken held items s.implication applies (contained_fails (is_violated held items) edges s.implication is.0 keeps))

  leads_out : (last b : Reason) (steps : List ChainStep) → LeadsTo items edges last b steps → held b ≡ false → held last ≡ false
  leads_out last b [] is h = subst (λ (x : Reason). held x ≡ false) is h
  leads_out last b (s ∷ steps) is h =
      let premise = is.0 in
      leads_out last s.ruled_out steps is.2
      (step_out s is.1 (ap (is_triggered held) premise.1 ∙ ap not (ap held premise.2 ∙ h)))

-- an annotation that isn't one of the names isn't in a part of them
not_named : (names : List Mark) (counts : Place → Bool) (a : Marks) → IsSubset a (marks_of names) → (m : Mark) → list_any (matches_mark m.kind m.place) names ≡ false
    → holds_conditionally counts a (reason_of m) ≡ false
not_named names counts a part m = at m.place m.kind
  where
    at : (p : Place) (k : MarkKind) → list_any (matches_mark k p) names ≡ false → holds_conditionally counts a (reason_at p k) ≡ false
    at p kind.Method h = gone ((marks_of names).methods p) (a.methods p) (part.methods p) h
    at p kind.Result h = gone ((marks_of names).results p) (a.results p) (part.results p) h
    at p kind.Variable h = gone ((marks_of names).variables p) (a.variables p) (part.variables p) h

-- what no marking has applies
never_out : (names : List Mark) (counts : Place → Bool) (a : Marks) → IsSubset a (marks_of names) → (o : Option Mark) → never_holds names o ≡ true
    → is_triggered (holds_conditionally counts a) o ≡ true
never_out names counts a part None h = refl
never_out names counts a part (Some m) h = ap not (not_named names counts a part m (not-true (list_any (matches_mark m.kind m.place) names) h))

pub chain_out : (names : List Mark) (items : List Reason) (edges : List Implication) (at : Place) (steps : List ChainStep) → IsChain names items edges at steps
    → CanHold names items edges at → ⊥
chain_out names items edges at [] is can = is
chain_out names items edges at (s ∷ steps) is can =
    let counts = can.0 in
    let a = can.1 in
    let held = holds_conditionally counts a in
    true_false (sym can.4 ∙ leads_out items edges held can.3 (OfCollective at) s.ruled_out steps is.2
    (step_out items edges held can.3 s is.1 (never_out names counts a can.2 s.implication.from is.0)))

-- ---- where no chain is found

-- what has been reached
abbrev seen : Search → Mark → Bool
seen t m = contains key_cmp t.named (key_of m) && not (contains key_cmp t.unseen (key_of m))

abbrev mark_here : MarkKind → Place → Mark
mark_here k p = record { place = p; kind = k }

abbrev reached : Search → Marks
reached t = record {
  methods = λ p. seen t (mark_here kind.Method p);
  results = λ p. seen t (mark_here kind.Result p);
  variables = λ p. seen t (mark_here kind.Variable p);
}

-- of collectives, only this one is considered
abbrev held_in : Place → Search → Reason → Bool
held_in at t = holds_conditionally (same_place at) (reached t)

held_seen : (at : Place) (t : Search) (m : Mark) → held_in at t (reason_of m) ≡ seen t m
held_seen at t m = by m.place m.kind
  where
    by : (p : Place) (k : MarkKind) → held_in at t (reason_at p k) ≡ seen t (mark_here k p)
    by p kind.Method = refl
    by p kind.Result = refl
    by p kind.Variable = refl

-- a premise that has been reached doesn't make its constraint apply
not_applied : (at : Place) (t : Search) (o : Option Mark) → is_seen (contains key_cmp t.named) (contains key_cmp t.unseen) o ≡ true → is_triggered (held_in at t) o ≡ false
not_applied at t None h = absurd (true_false (sym h))
not_applied at t (Some m) h = ap not (held_seen at t m ∙ h)

-- a constraint that isn't open for any reason that is held isn't violated
not_violated : (items : List Reason) (at : Place) (t : Search) (e : Implication)
    → ((b : Reason) → held_in at t b ≡ true → is_open (contains key_cmp t.named) (contains key_cmp t.unseen) items b e ≡ false)
    → is_violated (held_in at t) items e ≡ false
not_violated items at t e shut = by (list_any (held_in at t) (meaning items e.then)) refl
  where
    by : (v : Bool) → list_any (held_in at t) (meaning items e.then) ≡ v → (is_triggered (held_in at t) e.from && v) ≡ false
    by false h = and_right (is_triggered (held_in at t) e.from) false refl
    by true h =
        let k = passing (held_in at t) (meaning items e.then) h in
        and_left (is_triggered (held_in at t) e.from) true (not_applied at t e.from (of_open k.0 k.2 (shut k.0 k.1)))
      where
        of_open : (b : Reason) → rules_out items b e ≡ true → is_open (contains key_cmp t.named) (contains key_cmp t.unseen) items b e ≡ false
            → is_seen (contains key_cmp t.named) (contains key_cmp t.unseen) e.from ≡ true
        of_open b out closed = elim (and_cases (rules_out items b e) (not (is_seen (contains key_cmp t.named) (contains key_cmp t.unseen) e.from)) closed) [
          | inl never ↦ absurd (true_false (sym out ∙ never))
          | inr seen_there ↦ not-false (is_seen (contains key_cmp t.named) (contains key_cmp t.unseen) e.from) seen_there
        ]

module _ (names : List Mark) (items : List Reason) (edges : List Implication) (at : Place) (s t : Search) (begun : IsFirstSearch names at s) (finished : IsFinished items edges s t) where
  -- the link of the collective
  root : IsJoined t.links.items 0 (OfCollective at)
  root =
      let link = begun.first in
      let some : 0 < length s.links.items = omega (arith, ap length link.1) in
      (omega (arith, some, finished.extends.longer), λ d. ap (λ (l : Link). l.reason) (finished.extends.kept 0 d some ∙ ap (λ (xs : List Link). get_or xs 0 d) link.1) ∙ link.2)

  seen_linked : (m : Mark) → seen t m ≡ true → HasLink t.links.items (reason_of m)
  seen_linked m h =
      let k = and_parts (contains key_cmp t.named (key_of m)) (not (contains key_cmp t.unseen (key_of m))) h in
      finished.sound.linked m k.0 (not-true (contains key_cmp t.unseen (key_of m)) k.1)

  -- what is held has a link
  held_linked : (b : Reason) → held_in at t b ≡ true → HasLink t.links.items b
  held_linked (OfMethod p) h = seen_linked (mark_here kind.Method p) h
  held_linked (OfResult p) h = seen_linked (mark_here kind.Result p) h
  held_linked (OfVariable p) h = seen_linked (mark_here kind.Variable p) h
  held_linked (OfCollective p) h = (0, subst (λ (q : Place). IsJoined t.links.items 0 (OfCollective q)) (same_places at p h) root)
  held_linked Always h = absurd (true_false (sym h))

  shut_here : (b : Reason) → HasLink t.links.items b → list_any (is_open (contains key_cmp t.named) (contains key_cmp t.unseen) items b) edges ≡ false
  shut_here b (k, joined) =
      let d : Link = record { reason = Always; step = record { implication = record { from = None; then = One Always }; ruled_out = Always }; next = 0 } in
      subst (λ (r : Reason). list_any (is_open (contains key_cmp t.named) (contains key_cmp t.unseen) items r) edges ≡ false) (joined.1 d) (finished.closed k joined.0 d)

  keeps_all : Satisfies (held_in at t) items edges
  keeps_all = list_any_none (is_violated (held_in at t) items) edges
      (λ k d lt. not_violated items at t (get_or edges k d) (λ b h. none_at (is_open (contains key_cmp t.named) (contains key_cmp t.unseen) items b) edges k d lt (shut_here b (held_linked b h))))

  named_part : (m : Mark) → seen t m ≡ true → list_any (matches_mark m.kind m.place) names ≡ true
  named_part m h =
      let k = and_parts (contains key_cmp t.named (key_of m)) (not (contains key_cmp t.unseen (key_of m))) h in
      sym (named_is names m) ∙ sym (begun.all (key_of m)) ∙ ap (λ st. contains key_cmp st (key_of m)) (sym finished.extends.same) ∙ k.0

  pub can_hold : CanHold names items edges at
  can_hold = (
    same_place at,
    reached t,
    record {
      methods = λ p h. named_part (mark_here kind.Method p) h;
      results = λ p h. named_part (mark_here kind.Result p) h;
      variables = λ p h. named_part (mark_here kind.Variable p) h;
    },
    keeps_all,
    place_itself at,
  )

-- ---- the answer

never_is : (names : List Mark) (at : Place) (s : Search) → IsFirstSearch names at s → (o : Option Mark) → never_holds names o ≡ never_among (contains key_cmp s.named) o
never_is names at s begun None = refl
never_is names at s begun (Some m) = ap not (sym (named_is names m) ∙ sym (begun.all (key_of m)))

chain_found : (names : List Mark) (items : List Reason) (edges : List Implication) (at : Place) (s : Search) → IsFirstSearch names at s → (last : Reason) → last ≡ OfCollective at
    → (steps : List ChainStep) → IsFoundChain (contains key_cmp s.named) items edges last steps → IsChain names items edges at steps
chain_found names items edges at s begun last e [] is = is
chain_found names items edges at s begun last e (x ∷ steps) is =
    (never_is names at s begun x.implication.from ∙ is.0, is.1, subst (λ (b : Reason). LeadsTo items edges b x.ruled_out steps) e is.2)

pub given : (names : List Mark) (items : List Reason) (edges : List Implication) (at : Place) (s t : Search) (o : Option (Vec ChainStep Global)) → IsFirstSearch names at s
    → Finds items edges s t o → GivesChain names items edges at o
given names items edges at s t None begun is = can_hold names items edges at s t begun is
given names items edges at s t (Some steps) begun is =
    let d : Link = record { reason = Always; step = record { implication = record { from = None; then = One Always }; ruled_out = Always }; next = 0 } in
    let link = begun.first in
    chain_found names items edges at s begun (get_or s.links.items 0 d).reason
    (ap (λ (xs : List Link). (get_or xs 0 d).reason) link.1 ∙ link.2) steps.items (is d)

-- ---- the initial state

pub begun_sound : (names : List Mark) (at : Place) (s : Search) → IsFirstSearch names at s → IsSoundSearch s
begun_sound names at s begun = record {
  among = λ n h. begun.all n ∙ sym (begun.none n) ∙ h;
  linked = λ m named unseen. absurd (true_false (sym named ∙ begun.all (key_of m) ∙ sym (begun.none (key_of m)) ∙ unseen));
}

pub begun_links : (names : List Mark) (items : List Reason) (edges : List Implication) (at : Place) (s : Search) → IsFirstSearch names at s → AreLinks items edges s.links.items
begun_links names items edges at s begun k d pos lt = absurd (omega (arith, pos, lt, ap length begun.first.1))
