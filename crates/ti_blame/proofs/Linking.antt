-- Reaching one more annotation in the search for a chain keeps its invariants.
use Rattle.std.proofs.Common.{◌≡◌, ℕ, ◌+◌, ◌<◌, ◌≤◌, inl, inr, Bool, true, false, cond, not, ◌&&◌, ◌||◌, List, [], ◌∷◌, ◌++◌, length, get_or, Option, Some, None, refl, ap, sym, subst, ◌∙◌, arith}
use Rattle.std.specs.List.{list_any}
use Rattle.std.specs.BTreeMap.{is_at}
use Rattle.std.specs.BTreeSet.{contains, btree_set_len}
use Rattle.std.proofs.lemmas.Bool.{cases_lt, and_parts, and_from, and_left, and_right, and_cases, not-true, not-false, not_from_false, not_from_true}
use Rattle.std.proofs.lemmas.List.{get_or_append_left, get_or_push, length_push}
use Rattle.ti_blame.specs.declared.reason.Reason.{Reason}
use Rattle.ti_blame.specs.declared.mark.Mark.{Mark}
use Rattle.ti_blame.specs.declared.mark.MarkKey.{MarkKey}
use Rattle.ti_blame.specs.declared.implication.Implication.{Implication}
use Rattle.ti_blame.specs.declared.search.Link.{Link}
use Rattle.ti_blame.specs.declared.search.Search.{Search}
use Rattle.ti_blame.specs.Keys.{key_of, reason_of, key_cmp}
use Rattle.ti_blame.specs.Mirrors.Search.{rules_out, never_among, can_start, is_seen, is_open, IsJoined, IsLink, AreLinks, HasLink, IsSoundSearch, Extends, IsClosed}
use Rattle.ti_blame.proofs.Order.{same_mark, name_itself}
use Rattle.ti_blame.proofs.Stepping.{true_false, both_false, gone}

-- ---- one more link

-- a link leads to the same one where there is one more
stays_link : (items : List Reason) (edges : List Implication) (xs : List Link) (x link : Link) (k : ℕ) → k ≤ length xs → IsLink items edges xs k link → IsLink items edges (xs ++ x ∷ []) k link
stays_link items edges xs x link k le h = record {
  earlier = h.earlier;
  premise = h.premise;
  is_step = h.is_step;
  joined = λ d. ap (λ (l : Link). l.reason) (get_or_append_left xs (x ∷ []) d link.next (omega (arith, h.earlier, le))) ∙ h.joined d;
}

pub links_more : (items : List Reason) (edges : List Implication) (xs : List Link) (x : Link) → AreLinks items edges xs → IsLink items edges xs (length xs) x → AreLinks items edges (xs ++ x ∷ [])
links_more items edges xs x are new k d pos lt = elim (cases_lt k (length xs)) [
  | inl old ↦ subst (IsLink items edges (xs ++ x ∷ []) k) (sym (get_or_append_left xs (x ∷ []) d k old))
      (stays_link items edges xs x (get_or xs k d) k (omega arith) (are k d pos old))
  | inr past ↦ let e : length xs ≡ k = omega (arith, lt, past, length_push xs x) in
      subst (IsLink items edges (xs ++ x ∷ []) k) (sym (get_or_push xs x d k e))
      (subst (λ (n : ℕ). IsLink items edges (xs ++ x ∷ []) n x) e (stays_link items edges xs x x (length xs) (omega arith) new))
]

joined_left : (xs : List Link) (x : Link) (k : ℕ) (b : Reason) → IsJoined xs k b → IsJoined (xs ++ x ∷ []) k b
joined_left xs x k b h =
    (omega (arith, h.0, length_push xs x), λ d. ap (λ (l : Link). l.reason) (get_or_append_left xs (x ∷ []) d k h.0) ∙ h.1 d)

joined_new : (xs : List Link) (x : Link) (b : Reason) → x.reason ≡ b → IsJoined (xs ++ x ∷ []) (length xs) b
joined_new xs x b e = (omega (arith, length_push xs x), λ d. ap (λ (l : Link). l.reason) (get_or_push xs x d (length xs) refl) ∙ e)

-- ---- an annotation that is reached

-- the second state is the first with one annotation reached, by this link
pub record Takes (m : Mark) (link : Link) (s t : Search) : Type 0 where
  pub same : t.named ≡ s.named
  pub had : (q : MarkKey) → contains key_cmp t.unseen q ≡ cond (is_at (key_cmp (key_of m)) q) false (contains key_cmp s.unseen q)
  pub more : t.links.items ≡ s.links.items ++ link ∷ []
  pub less : btree_set_len t.unseen + 1 ≡ btree_set_len s.unseen
  pub reason : link.reason ≡ reason_of m

module _ (m : Mark) (link : Link) (s t : Search) (takes : Takes m link s t) where
  had_it : (q : MarkKey) → contains key_cmp t.unseen q ≡ true → contains key_cmp s.unseen q ≡ true
  had_it q h = by (is_at (key_cmp (key_of m)) q) (sym (takes.had q) ∙ h)
    where
      by : (b : Bool) → cond b false (contains key_cmp s.unseen q) ≡ true → contains key_cmp s.unseen q ≡ true
      by true e = absurd (true_false (sym e))
      by false e = e

  pub takes_extends : Extends s t
  takes_extends = record {
    same = takes.same;
    fewer = had_it;
    longer = omega (arith, ap length takes.more, length_push s.links.items link);
    kept = λ k d lt. ap (λ (xs : List Link). get_or xs k d) takes.more ∙ get_or_append_left s.links.items (link ∷ []) d k lt;
    room = omega (arith, takes.less, ap length takes.more, length_push s.links.items link);
  }

  pub takes_sound : IsSoundSearch s → IsSoundSearch t
  takes_sound sound = record {
    among = λ n h. ap (λ st. contains key_cmp st n) takes.same ∙ sound.among n (had_it n h);
    linked = λ q named unseen. subst (λ (xs : List Link). HasLink xs (reason_of q)) (sym takes.more)
        (by q (ap (λ st. contains key_cmp st (key_of q)) (sym takes.same) ∙ named) (is_at (key_cmp (key_of m)) (key_of q)) refl (sym (takes.had (key_of q)) ∙ unseen));
  }
    where
      by : (q : Mark) → contains key_cmp s.named (key_of q) ≡ true → (b : Bool) → is_at (key_cmp (key_of m)) (key_of q) ≡ b
          → cond b false (contains key_cmp s.unseen (key_of q)) ≡ false → HasLink (s.links.items ++ link ∷ []) (reason_of q)
      by q named true e h = (length s.links.items, joined_new s.links.items link (reason_of q) (takes.reason ∙ ap reason_of (same_mark m q e)))
      by q named false e h = let old = sound.linked q named h in (old.0, joined_left s.links.items link old.0 (reason_of q) old.1)

  pub takes_links : (items : List Reason) (edges : List Implication) → IsLink items edges s.links.items (length s.links.items) link → AreLinks items edges s.links.items → AreLinks items edges t.links.items
  takes_links items edges new are = subst (AreLinks items edges) (sym takes.more) (links_more items edges s.links.items link are new)

  pub takes_gone : contains key_cmp t.unseen (key_of m) ≡ false
  takes_gone = takes.had (key_of m) ∙ ap (λ b. cond b false (contains key_cmp s.unseen (key_of m))) (name_itself (key_of m))

-- ---- several

pub extends_itself : (s : Search) → Extends s s
extends_itself s = record { same = refl; fewer = λ n h. h; longer = omega arith; kept = λ k d lt. refl; room = refl }

pub extends_trans : (s t u : Search) → Extends s t → Extends t u → Extends s u
extends_trans s t u f g = record {
  same = g.same ∙ f.same;
  fewer = λ n h. f.fewer n (g.fewer n h);
  longer = omega (arith, f.longer, g.longer);
  kept = λ k d lt. g.kept k d (omega (arith, lt, f.longer)) ∙ f.kept k d lt;
  room = g.room ∙ f.room;
}

pub joined_later : (s t : Search) (k : ℕ) (b : Reason) → Extends s t → IsJoined s.links.items k b → IsJoined t.links.items k b
joined_later s t k b f h = (omega (arith, h.0, f.longer), λ d. ap (λ (l : Link). l.reason) (f.kept k d h.0) ∙ h.1 d)

-- what has been reached stays so
seen_later : (s t : Search) → Extends s t → (o : Option Mark) → is_seen (contains key_cmp s.named) (contains key_cmp s.unseen) o ≡ true
    → is_seen (contains key_cmp t.named) (contains key_cmp t.unseen) o ≡ true
seen_later s t f None h = h
seen_later s t f (Some m) h =
    let e = and_parts (contains key_cmp s.named (key_of m)) (not (contains key_cmp s.unseen (key_of m))) h in
    and_from (contains key_cmp t.named (key_of m)) (not (contains key_cmp t.unseen (key_of m))) (ap (λ st. contains key_cmp st (key_of m)) f.same ∙ e.0)
    (not_from_false (contains key_cmp t.unseen (key_of m)) (gone (contains key_cmp s.unseen (key_of m)) (contains key_cmp t.unseen (key_of m)) (f.fewer (key_of m)) (not-true (contains key_cmp s.unseen (key_of m)) e.1)))

-- an edge that isn't open stays so
pub shut_later : (s t : Search) → Extends s t → (items : List Reason) (b : Reason) (e : Implication) → is_open (contains key_cmp s.named) (contains key_cmp s.unseen) items b e ≡ false
    → is_open (contains key_cmp t.named) (contains key_cmp t.unseen) items b e ≡ false
shut_later s t f items b e = gone (is_open (contains key_cmp s.named) (contains key_cmp s.unseen) items b e) (is_open (contains key_cmp t.named) (contains key_cmp t.unseen) items b e) back
  where
    back : is_open (contains key_cmp t.named) (contains key_cmp t.unseen) items b e ≡ true → is_open (contains key_cmp s.named) (contains key_cmp s.unseen) items b e ≡ true
    back h =
        let now = is_seen (contains key_cmp t.named) (contains key_cmp t.unseen) e.from in
        let was = is_seen (contains key_cmp s.named) (contains key_cmp s.unseen) e.from in
        let k = and_parts (rules_out items b e) (not now) h in
        and_from (rules_out items b e) (not was) k.0 (not_from_false was (gone now was (seen_later s t f e.from) (not-true now k.1)))

-- where one test fails of each element, so does another
pub none_of_fewer : {A : Type 0} (p q : A → Bool) → ((x : A) → p x ≡ false → q x ≡ false) → (xs : List A) → list_any p xs ≡ false → list_any q xs ≡ false
none_of_fewer p q f [] h = refl
none_of_fewer p q f (x ∷ xs) h =
    let k = both_false (p x) (list_any p xs) h in ap (λ b. b || list_any q xs) (f x k.0) ∙ none_of_fewer p q f xs k.1

pub closed_later : (items : List Reason) (edges : List Implication) (s t : Search) (k : ℕ) → k < length s.links.items → Extends s t → IsClosed items edges s k → IsClosed items edges t k
closed_later items edges s t k lt f closed d =
    subst (λ (b : Reason). list_any (is_open (contains key_cmp t.named) (contains key_cmp t.unseen) items b) edges ≡ false) (sym (ap (λ (l : Link). l.reason) (f.kept k d lt)))
    (none_of_fewer (is_open (contains key_cmp s.named) (contains key_cmp s.unseen) items (get_or s.links.items k d).reason)
    (is_open (contains key_cmp t.named) (contains key_cmp t.unseen) items (get_or s.links.items k d).reason)
    (shut_later s t f items (get_or s.links.items k d).reason) edges (closed d))

-- ---- an edge that has been looked at

-- it isn't open where its premise has been reached, since no chain begins with it
pub shut_premise : (s t : Search) (m : Mark) (items : List Reason) (b : Reason) (e : Implication) → e.from ≡ Some m → rules_out items b e ≡ true → Extends s t
    → contains key_cmp t.unseen (key_of m) ≡ false → can_start (contains key_cmp s.named) items b e ≡ false → is_open (contains key_cmp t.named) (contains key_cmp t.unseen) items b e ≡ false
shut_premise s t m items b e from out f gone_there never =
    and_right (rules_out items b e) (not (is_seen (contains key_cmp t.named) (contains key_cmp t.unseen) e.from))
    (not_from_true (is_seen (contains key_cmp t.named) (contains key_cmp t.unseen) e.from)
    (ap (is_seen (contains key_cmp t.named) (contains key_cmp t.unseen)) from
    ∙ and_from (contains key_cmp t.named (key_of m)) (not (contains key_cmp t.unseen (key_of m)))
    (ap (λ st. contains key_cmp st (key_of m)) f.same ∙ named) (not_from_false (contains key_cmp t.unseen (key_of m)) gone_there)))
  where
    named : contains key_cmp s.named (key_of m) ≡ true
    named = elim (and_cases (never_among (contains key_cmp s.named) e.from) (rules_out items b e) never) [
      | inl no_start ↦ not-false (contains key_cmp s.named (key_of m)) (sym (ap (never_among (contains key_cmp s.named)) from) ∙ no_start)
      | inr not_out ↦ absurd (true_false (sym out ∙ not_out))
    ]

-- an edge without a premise begins a chain
pub shut_start : (s t : Search) (items : List Reason) (b : Reason) (e : Implication) → e.from ≡ None → can_start (contains key_cmp s.named) items b e ≡ false
    → is_open (contains key_cmp t.named) (contains key_cmp t.unseen) items b e ≡ false
shut_start s t items b e from never =
    and_left (rules_out items b e) (not (is_seen (contains key_cmp t.named) (contains key_cmp t.unseen) e.from))
    (sym (ap (λ o. never_among (contains key_cmp s.named) o && rules_out items b e) from) ∙ never)

-- the same constraints begin a chain
pub starts_same : (s t : Search) → Extends s t → (items : List Reason) (b : Reason) (e : Implication) → can_start (contains key_cmp s.named) items b e ≡ false
    → can_start (contains key_cmp t.named) items b e ≡ false
starts_same s t f items b e h = subst (λ st. can_start (contains key_cmp st) items b e ≡ false) (sym f.same) h
