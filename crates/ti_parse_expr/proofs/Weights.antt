-- Lemmas on the weights of prefixes, and on the prefix to which a token list is cut.
use Rattle.std.proofs.Common.{◌≡◌, ◌⊎◌, inl, inr, ℕ, zero, suc, ◌+◌, ◌-◌, ◌<◌, ◌≤◌, List, [], ◌∷◌, ◌++◌, length, refl, sym, ap, ◌∙◌, subst, arith, length-append, true, false, Bool, if◌then◌else◌, take, drop, append_assoc}
use Rattle.std.proofs.Math.Seq.{take-append_seam}
use Rattle.std.proofs.lemmas.List.{take_all, length-drop}
use Rattle.ti_syntax.specs.declared.token.Token.{Token}
use Rattle.ti_syntax.specs.Spelling.Weights.{counts, arity_behind, weigh, weigh_behind}
use Rattle.ti_parse_expr.specs.Answers.{EndsAtEnd, IsLight}
use Rattle.ti_syntax.specs.Spelling.{most_weight}
use Rattle.ti_parse_expr.proofs.Follows.{last_kind, last_append}
use Rattle.ti_parse_expr.specs.Mirrors.Reach.{ends_expression, state_after, onward, reach, reach_by, IsCut}

-- ---- lists

pub nothing : (r : List Token) → length r ≡ 0 → r ≡ []
nothing [] h = refl
nothing (t ∷ r) h = absurd (omega (arith, h))

pub take_seam : (a b : List Token) (n : ℕ) → n ≡ length a → take n (a ++ b) ≡ a
take_seam a b n e = ap (λ m. take m (a ++ b)) e ∙ take-append_seam a b

pub last_of : (l : List Token) → 0 < length l → (f : List Token) × (t : Token) × (l ≡ f ++ t ∷ [])
last_of [] some = absurd (omega (arith, some))
last_of (t ∷ []) some = ([], t, refl)
last_of (t ∷ u ∷ l) some = let (f, v, is) = last_of (u ∷ l) (omega arith) in (t ∷ f, v, ap (λ z. t ∷ z) is)

-- ---- weights

-- more tokens weigh no less
pub weigh_front : (n : ℕ) (a b : List Token) → weigh_behind n a ≤ weigh_behind n (a ++ b)
weigh_front n [] b = omega arith
weigh_front (suc n) (t ∷ a) b = weigh_front n a b
weigh_front zero (t ∷ a) b = let rest = weigh_front (arity_behind t.kind) a b in omega arith

pub light_of : (weight w : ℕ) (l : List Token) → weigh l ≤ w → weight + w ≤ most_weight → IsLight weight l
light_of weight w l small most front t rest is =
    let same : l ≡ (front ++ t ∷ []) ++ rest = is ∙ sym (append_assoc front (t ∷ []) rest) in
    omega (arith, weigh_front 0 (front ++ t ∷ []) rest, ap weigh same)

pub light_front : (weight : ℕ) (a b : List Token) → IsLight weight (a ++ b) → IsLight weight a
light_front weight a b light front t rest is = light front t (rest ++ b) (ap (λ z. z ++ b) is ∙ append_assoc front (t ∷ rest) b)

-- the whole of a light list weighs no more than the most, if it has a token
pub light_whole : (weight : ℕ) (l : List Token) → 0 < length l → IsLight weight l → weight + weigh l ≤ most_weight
light_whole weight l some light = let (f, t, is) = last_of l some in subst (λ z. weight + weigh z ≤ most_weight) (sym is) (light f t [] is)

-- ---- the first so many tokens, with so many tokens of an arity in front

data Reaches (n w : ℕ) (l : List Token) (m : ℕ) : Type 0 where
  whole_list : m ≡ length l → weigh_behind n l ≤ w → Reaches n w l m
  stop_at : (f : List Token) (t : Token) (r : List Token) → l ≡ f ++ t ∷ r → m ≡ suc (length f) → weigh_behind n f ≤ w → ends_expression t.kind ≡ true → Reaches n w l m
  heavy_at : (f : List Token) (t : Token) (r : List Token) → l ≡ f ++ t ∷ r → m ≡ suc (length f) → weigh_behind n f ≤ w → w < weigh_behind n (f ++ t ∷ []) → Reaches n w l m

one_further : (n w n2 w2 own : ℕ) (t : Token) → ((f : List Token) → weigh_behind n (t ∷ f) ≡ own + weigh_behind n2 f) → w ≡ own + w2
    → (l : List Token) (m : ℕ) → Reaches n2 w2 l m → Reaches n w (t ∷ l) (suc m)
one_further n w n2 w2 own t weighs e l m (whole_list long light) = whole_list (ap suc long) (omega (arith, weighs l, e, light))
one_further n w n2 w2 own t weighs e l m (stop_at f u r is long light ends) = stop_at (t ∷ f) u r (ap (λ z. t ∷ z) is) (ap suc long) (omega (arith, weighs f, e, light)) ends
one_further n w n2 w2 own t weighs e l m (heavy_at f u r is long light above) =
    heavy_at (t ∷ f) u r (ap (λ z. t ∷ z) is) (ap suc long) (omega (arith, weighs f, e, light)) (omega (arith, weighs (f ++ u ∷ []), e, above))

own_weight : (t : Token) (c : Bool) → counts t.kind ≡ c → (f : List Token) → weigh_behind 0 (t ∷ f) ≡ (if c then 1 else 0) + weigh_behind (arity_behind t.kind) f
own_weight t c h f = ap (λ z. (if z then 1 else 0) + weigh_behind (arity_behind t.kind) f) h

weighed_reaches : (w : ℕ) (t : Token) (l : List Token) → ((n v : ℕ) → Reaches n v l (reach n v l)) → (c : Bool) → counts t.kind ≡ c
    → Reaches 0 w (t ∷ l) (suc (reach_by (λ a v. reach a v l) (state_after c (arity_behind t.kind) w)))
weighed_reaches zero t l rec true h = heavy_at [] t l refl refl (omega arith) (omega (arith, own_weight t true h []))
weighed_reaches (suc w) t l rec true h = one_further 0 (suc w) (arity_behind t.kind) w 1 t (own_weight t true h) (omega arith) l (reach (arity_behind t.kind) w l) (rec (arity_behind t.kind) w)
weighed_reaches w t l rec false h = one_further 0 w (arity_behind t.kind) w 0 t (own_weight t false h) (omega arith) l (reach (arity_behind t.kind) w l) (rec (arity_behind t.kind) w)

onward_reaches : (n w : ℕ) (t : Token) (l : List Token) → ((n v : ℕ) → Reaches n v l (reach n v l)) → Reaches n w (t ∷ l) (suc (reach_by (λ a v. reach a v l) (onward t.kind n w)))
onward_reaches zero w t l rec = weighed_reaches w t l rec (counts t.kind) refl
onward_reaches (suc n) w t l rec = one_further (suc n) w n w 0 t (λ f. omega arith) (omega arith) l (reach n w l) (rec n w)

test_reaches : (n w : ℕ) (t : Token) (l : List Token) → ((n v : ℕ) → Reaches n v l (reach n v l)) → (ends : Bool) → ends_expression t.kind ≡ ends
    → Reaches n w (t ∷ l) (suc (if ends then 0 else reach_by (λ a v. reach a v l) (onward t.kind n w)))
test_reaches n w t l rec true h = stop_at [] t l refl refl (omega arith) h
test_reaches n w t l rec false h = onward_reaches n w t l rec

reaches : (n w : ℕ) (l : List Token) → Reaches n w l (reach n w l)
unfolding reach
reaches n w [] = whole_list refl (omega arith)
reaches n w (t ∷ l) = test_reaches n w t l (λ n v. reaches n v l) (ends_expression t.kind) refl

-- ---- the cut

take_front : (f : List Token) (t : Token) (r : List Token) → take (suc (length f)) (f ++ t ∷ r) ≡ f ++ t ∷ []
take_front f t r =
    ap (take (suc (length f))) (sym (append_assoc f (t ∷ []) r)) ∙ take_seam (f ++ t ∷ []) r (suc (length f)) (omega (arith, length-append f (t ∷ [])))

cut_made : (l f r : List Token) (t : Token) (m : ℕ) → l ≡ f ++ t ∷ r → m ≡ suc (length f) → take m l ≡ f ++ t ∷ []
cut_made l f r t m is long = ap (λ z. take z l) long ∙ ap (take (suc (length f))) is ∙ take_front f t r

-- ---- the front that is read of any list

pub record IsFront (weight : ℕ) (l front : List Token) : Type 0 where
  pub before : List Token
  pub last : Token
  pub rest : List Token
  pub is : l ≡ before ++ last ∷ rest
  pub made : front ≡ before ++ last ∷ []
  pub light : weight + weigh before ≤ most_weight
  pub stops : (rest ≡ []) ⊎ ((ends_expression last.kind ≡ true) ⊎ (most_weight < weight + weigh (before ++ last ∷ [])))

front_by : (weight w : ℕ) (l : List Token) (m : ℕ) → 0 < length l → weight + w ≡ most_weight → Reaches 0 w l m → IsFront weight l (take m l)
front_by weight w l m some all (whole_list long light) =
    let (f, t, is) = last_of l some in
    let size = ap length is in
    let size2 = length-append f (t ∷ []) in record {
      before = f;
      last = t;
      rest = [];
      is = is;
      made = cut_made l f [] t m is (omega (arith, long, size, size2));
      light = omega (arith, light, all, ap weigh is, weigh_front 0 f (t ∷ []));
      stops = inl refl;
    }
front_by weight w l m some all (stop_at f t r is long light ends) =
    record {
      before = f;
      last = t;
      rest = r;
      is = is;
      made = cut_made l f r t m is long;
      light = omega (arith, all, light);
      stops = inr (inl ends);
    }
front_by weight w l m some all (heavy_at f t r is long light above) =
    record { before = f; last = t; rest = r; is = is; made = cut_made l f r t m is long; light = omega (arith, all, light); stops = inr (inr (omega (arith, all, above))) }

pub front_is : (weight : ℕ) (l : List Token) → weight ≤ most_weight → 0 < length l → IsFront weight l (take (reach 0 (most_weight - weight) l) l)
front_is weight l small some =
    front_by weight (most_weight - weight) l (reach 0 (most_weight - weight) l) some (omega (arith, small)) (reaches 0 (most_weight - weight) l)

one_at_most : (c : Bool) → (if c then 1 else 0) ≤ 1
one_at_most true = omega arith
one_at_most false = omega arith

-- one token weighs one at most
weigh_last : (n : ℕ) (f : List Token) (t : Token) → weigh_behind n (f ++ t ∷ []) ≤ weigh_behind n f + 1
weigh_last zero [] t = omega (arith, one_at_most (counts t.kind))
weigh_last (suc n) [] t = omega arith
weigh_last zero (x ∷ f) t = omega (arith, weigh_last (arity_behind x.kind) f t)
weigh_last (suc n) (x ∷ f) t = weigh_last n f t

pub front_some : (weight : ℕ) (l front : List Token) → IsFront weight l front → 0 < length front
front_some weight l front is = omega (arith, ap length is.made, length-append is.before (is.last ∷ []))

front_light : (weight : ℕ) (l front : List Token) → IsFront weight l front → weight + weigh front ≤ most_weight + 1
front_light weight l front is = omega (arith, ap weigh is.made, weigh_last 0 is.before is.last, is.light)

pub front_small : (weight : ℕ) (l : List Token) → weight ≤ most_weight → weight + weigh (take (reach 0 (most_weight - weight) l) l) ≤ most_weight + 1
unfolding reach
front_small weight [] small = omega (arith, small)
front_small weight (t ∷ l) small = front_light weight (t ∷ l) (take (reach 0 (most_weight - weight) (t ∷ l)) (t ∷ l)) (front_is weight (t ∷ l) small (omega arith))

cut_stops : (l before rest : List Token) (last : Token) (heavy : Type 0) → EndsAtEnd l → l ≡ before ++ last ∷ rest → (rest ≡ [])
    ⊎ ((ends_expression last.kind ≡ true) ⊎ heavy) → (ends_expression last.kind ≡ true) ⊎ heavy
cut_stops l before rest last heavy (fr, la, ends, h) is (inl none) =
    let all : l ≡ before ++ last ∷ [] = is ∙ ap (λ z. before ++ last ∷ z) none in
    inl (ap ends_expression (sym (last_append before last []) ∙ ap last_kind (sym all ∙ ends) ∙ last_append fr la [] ∙ h))
cut_stops l before rest last heavy at_end is (inr stops) = stops

pub cut_of : (weight : ℕ) (l front : List Token) → EndsAtEnd l → IsFront weight l front → IsCut weight l front
cut_of weight l front at_end is = record {
  front = is.before;
  last = is.last;
  rest = is.rest;
  is = is.is;
  made = is.made;
  light = light_of weight (weigh is.before) is.before (omega arith) is.light;
  stops = cut_stops l is.before is.rest is.last (most_weight < weight + weigh (is.before ++ is.last ∷ [])) at_end is.is is.stops;
}

pub ending_some : (l : List Token) → EndsAtEnd l → 0 < length l
ending_some l (fr, la, is, h) = omega (arith, ap length is, length-append fr (la ∷ []))

-- where the weight is above the most from the start
pub first_cut : (weight : ℕ) (l : List Token) → EndsAtEnd l → most_weight < weight → IsCut weight l (take 1 l)
first_cut weight [] (fr, la, is, h) heavy = absurd (omega (arith, ap length is, length-append fr (la ∷ [])))
first_cut weight (t ∷ l) at_end heavy = record {
  front = [];
  last = t;
  rest = l;
  is = refl;
  made = cut_made (t ∷ l) [] l t 1 refl refl;
  light = λ front u rest none. absurd (omega (arith, ap length none, length-append front (u ∷ rest)));
  stops = inr (omega (arith, heavy));
}

-- the list from some token on, as a slice is seen
pub whole_rest : (at : ℕ) (l : List Token) → take (length l - at) (drop at l) ≡ drop at l
whole_rest at l = let long = length-drop at l in take_all (length l - at) (drop at l) (omega arith)

abbrev pub cut_rest : (weight at : ℕ) (l c : List Token) → IsCut weight (take (length l - at) (drop at l)) c → IsCut weight (drop at l) c
cut_rest weight at l c cut = record {
  front = cut.front;
  last = cut.last;
  rest = cut.rest;
  is = sym (whole_rest at l) ∙ cut.is;
  made = cut.made;
  light = cut.light;
  stops = cut.stops;
}

ends_behind : (at : ℕ) (l : List Token) → at < length l → EndsAtEnd l → EndsAtEnd (drop at l)
ends_behind zero l within at_end = at_end
ends_behind (suc at) [] within at_end = absurd (omega (arith, within))
ends_behind (suc at) (t ∷ l) within ([], la, is, h) = absurd (omega (arith, within, ap length is))
ends_behind (suc at) (t ∷ l) within (x ∷ fr, la, is, h) = let tails : l ≡ fr ++ la ∷ [] = cc in ends_behind at l (omega (arith, within)) (fr, la, tails, h)

pub rest_ends : (at : ℕ) (l : List Token) → at < length l → EndsAtEnd l → EndsAtEnd (take (length l - at) (drop at l))
rest_ends at l within at_end = subst EndsAtEnd (sym (whole_rest at l)) (ends_behind at l within at_end)
