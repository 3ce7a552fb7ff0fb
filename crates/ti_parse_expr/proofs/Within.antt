-- The parsers with the weight limit are proved sound, and a prefix of the token list is proved to be all that they read.
use Rattle.std.proofs.Common.{◌≡◌, ◌⊎◌, inl, inr, ℕ, suc, ◌+◌, ◌-◌, ◌<◌, ◌≤◌, List, [], ◌∷◌, ◌++◌, length, take, drop, Ok, Err, refl, sym, ap, ◌∙◌, subst, append_assoc, arith, length-append, true, false, Bool, nat_lt, ◌&&◌, if◌then◌else◌}
use Rattle.std.proofs.Math.Seq.{drop-append_seam}
use borrow.Author.Tests.{ltb-true, ltb-false}
use Rattle.std.proofs.lemmas.Bool.{lt-ltb}
use Rattle.ti_syntax.specs.declared.token.Token.{Token}
use Rattle.ti_syntax.specs.declared.token.TokenKind.TheVariants as k
use Rattle.ti_syntax.specs.Spelling.Loads.{Load, Weight, weights_behind}
use Rattle.ti_syntax.specs.Spelling.Weights.{counts, arity_behind, weigh}
use Rattle.ti_syntax.specs.Spelling.{most_weight}
use Rattle.ti_parse_expr.specs.Mirrors.Input.{At, Over, OutOfFuel, ParseOutcome, Parser}
use Rattle.ti_parse_expr.specs.Mirrors.Reach.{ends_expression, reach}
use Rattle.ti_parse_expr.specs.Mirrors.Full as spec
use Rattle.ti_parse_expr.specs.Mirrors.Full.{Limits, language_limits, limited_to, limit_outcome, unread_of, consumed_tokens, front_of, exceeds_weight, widen_outcome}
use Rattle.ti_parse_expr.proofs.Law.{BeginsIn, Says, Said, Any, append_nil, token}
use Rattle.ti_parse_expr.proofs.Local.{Suffix, Same, Near, cancel}
use Rattle.ti_parse_expr.proofs.Enough.{Ended, Enough}
use Rattle.ti_parse_expr.proofs.Ends.{ends, ends-append, end_of}
use Rattle.ti_parse_expr.proofs.Weights.{nothing, take_seam, IsFront, front_is, weigh_front}
use Rattle.ti_parse_expr.proofs.Limits.{weights_behind_long, weights_front, limited_fits, below, limited_light, limited_heavy, limited_short, Loaded, all_light, heavy, loaded}

-- ---- lists

-- a list of which a front was taken: some token stays, or it was taken too
data Split (a r b : List Token) (t : Token) (w : List Token) : Type 0 where
  stays : (c : List Token) → b ≡ a ++ c → r ≡ c ++ t ∷ w → Split a r b t w
  passes : (g : List Token) → a ≡ b ++ t ∷ g → w ≡ g ++ r → Split a r b t w

one_further : (x y : Token) (a r b : List Token) (t : Token) (w : List Token) → x ≡ y → Split a r b t w → Split (x ∷ a) r (y ∷ b) t w
one_further x y a r b t w same (stays c is rest) = stays c (ap (λ z. z ∷ b) (sym same) ∙ ap (λ z. x ∷ z) is) rest
one_further x y a r b t w same (passes g is rest) = passes g (ap (λ z. z ∷ a) same ∙ ap (λ z. y ∷ z) is) rest

split : (a r b : List Token) (t : Token) (w : List Token) → a ++ r ≡ b ++ t ∷ w → Split a r b t w
split [] r b t w h = stays b refl h
split (x ∷ a) r [] t w h =
    let same : x ≡ t = cc in
    let rest : a ++ r ≡ w = cc in
    passes a (ap (λ z. z ∷ a) same) (sym rest)
split (x ∷ a) r (y ∷ b) t w h =
    let same : x ≡ y = cc in
    let tails : a ++ r ≡ b ++ t ∷ w = cc in
    one_further x y a r b t w same (split a r b t w tails)

-- ---- outcomes

-- the outcome with another rest
abbrev put : {A : Type 0} → List Token → ParseOutcome A → ParseOutcome A
put r (Ok p) = Ok (p.0, r)
put r (Err (At q)) = Err (At r)
put r (Err (Over q)) = Err (Over r)
put r (Err OutOfFuel) = Err OutOfFuel

rest_put : {A : Type 0} (r : List Token) (o : ParseOutcome A) → Ended o → unread_of (put r o) ≡ r
rest_put r (Ok p) ended = refl
rest_put r (Err (At q)) ended = refl
rest_put r (Err (Over q)) ended = refl
rest_put r (Err OutOfFuel) ended = absurd ended

put_ends : {A : Type 0} (r : List Token) (o : ParseOutcome A) → Ended o → Ended (put r o)
put_ends r (Ok p) ended = tt
put_ends r (Err (At q)) ended = tt
put_ends r (Err (Over q)) ended = tt
put_ends r (Err OutOfFuel) ended = ended

-- what was taken
front_taken : {A : Type 0} (l : List Token) (o : ParseOutcome A) → Suffix l o → (f : List Token) × (l ≡ f ++ unread_of o)
front_taken l (Ok p) (f, e) = (f, e)
front_taken l (Err (At r)) (f, e) = (f, e)
front_taken l (Err (Over r)) (f, e) = (f, e)
front_taken l (Err OutOfFuel) h = (l, sym (append_nil l))

drop_seam : (a b : List Token) (n : ℕ) → n ≡ length a → drop n (a ++ b) ≡ b
drop_seam a b n e = ap (λ m. drop m (a ++ b)) e ∙ drop-append_seam a b

-- where some token stays, another list behind it makes no difference but to the rest
module _ (t : Token) (w v : List Token) where
  same_put : {A : Type 0} (o o2 : ParseOutcome A) → Ended o → Same t w v o o2 → (c : List Token) → unread_of o ≡ c ++ t ∷ w → o2 ≡ put (c ++ t ∷ v) o
  same_put (Ok p) o2 ended same c e = same c e
  same_put (Err (At r)) o2 ended same c e = same c e
  same_put (Err (Over r)) o2 ended same c e = same c e
  same_put (Err OutOfFuel) o2 ended same c e = absurd ended

  put_same : {A : Type 0} (o : ParseOutcome A) (c : List Token) → unread_of o ≡ c ++ t ∷ w → Same t w v o (put (c ++ t ∷ v) o)
  put_same (Ok p) c e = λ b h. ap (λ z. Ok (p.0, z ++ t ∷ v)) (cancel c b (t ∷ w) (sym e ∙ h))
  put_same (Err (At r)) c e = λ b h. ap (λ z. Err (At (z ++ t ∷ v))) (cancel c b (t ∷ w) (sym e ∙ h))
  put_same (Err (Over r)) c e = λ b h. ap (λ z. Err (Over (z ++ t ∷ v))) (cancel c b (t ∷ w) (sym e ∙ h))
  put_same (Err OutOfFuel) c e = tt

  -- nothing is known where the token was taken
  far_same : {A : Type 0} (o o2 : ParseOutcome A) → length (unread_of o) ≤ length w → Same t w v o o2
  far_same (Ok p) o2 short = λ b h. absurd (omega (arith, short, ap length h, length-append b (t ∷ w)))
  far_same (Err (At r)) o2 short = λ b h. absurd (omega (arith, short, ap length h, length-append b (t ∷ w)))
  far_same (Err (Over r)) o2 short = λ b h. absurd (omega (arith, short, ap length h, length-append b (t ∷ w)))
  far_same (Err OutOfFuel) o2 short = tt

-- ---- the limit on what was taken

-- what the limit makes of an outcome
abbrev pub held_to : {A : Type 0} → Limits → ℕ → List Token → ParseOutcome A → ParseOutcome A
held_to limits weight l o = limited_to limits (weights_behind 0 weight (consumed_tokens l o)) l o

abbrev held : {A : Type 0} → ℕ → List Token → ParseOutcome A → ParseOutcome A
held weight l o = held_to language_limits weight l o

module _ {A : Type 0} (weight : ℕ) (l f : List Token) (o : ParseOutcome A) (all : l ≡ f ++ unread_of o) where
  held_is : (limits : Limits) → held_to limits weight l o ≡ limited_to limits (weights_behind 0 weight f) (f ++ unread_of o) o
  held_is limits =
      let few : length l - length (unread_of o) ≡ length f = omega (arith, ap length all, length-append f (unread_of o)) in
      let front : consumed_tokens l o ≡ f = ap (take (length l - length (unread_of o))) all ∙ take_seam f (unread_of o) (length l - length (unread_of o)) few in
      ap (λ z. limited_to limits (weights_behind 0 weight z) l o) front ∙ ap (λ z. limited_to limits (weights_behind 0 weight f) z o) all

  held_light : weight + weigh f ≤ most_weight → held weight l o ≡ o
  held_light small = held_is language_limits ∙ limited_light 0 weight f (unread_of o) o small

  held_heavy : (g : List Token) (t : Token) (h : List Token) → f ≡ g ++ t ∷ h → weight + weigh g ≤ most_weight
      → most_weight < weight + weigh (g ++ t ∷ []) → held weight l o ≡ Err (Over (t ∷ (h ++ unread_of o)))
  held_heavy g t h is small above = held_is language_limits ∙ ap (λ z. limit_outcome (weights_behind 0 weight z) (z ++ unread_of o) o) is ∙ limited_heavy 0 weight g t h (unread_of o) o small above

  -- where a front of what was taken is light, the limit comes behind it or not at all
  held_short : (a g : List Token) → f ≡ a ++ g → weight + weigh a ≤ most_weight → length (unread_of (held weight l o)) ≤ length (g ++ unread_of o)
  held_short a g is small =
      let (more, weighs) = weights_front 0 weight a g in
      let r : List Token = unread_of o in
      let front : List Load = weights_behind 0 weight a in
      let e : held weight l o ≡ limit_outcome more (g ++ r) o =
      held_is language_limits ∙ ap (λ z. limit_outcome (weights_behind 0 weight z) (z ++ r) o) is ∙ ap (λ z. limit_outcome z ((a ++ g) ++ r) o) weighs ∙ ap (λ z. limit_outcome (front ++ more) z o) (append_assoc a g r)
      ∙ limited_fits language_limits front more a (g ++ r) o (weights_behind_long 0 weight a) ∙ limited_light 0 weight a (g ++ r) (limit_outcome more (g ++ r) o) small in
      subst (λ z. length (unread_of z) ≤ length (g ++ r)) (sym e) (limited_short more (g ++ r) o (length (g ++ r)) (omega arith) (omega (arith, length-append g r)))

-- a whole that is read
pub held_reads : {A : Type 0} (limits : Limits) (weight : ℕ) (l r : List Token) (x : A) (o : ParseOutcome A) → o ≡ Ok (x, r)
    → held_to limits weight (l ++ r) o ≡ limited_to limits (weights_behind 0 weight l) (l ++ r) (Ok (x, r))
held_reads limits weight l r x o is =
    held_is weight (l ++ r) l o (ap (λ z. l ++ unread_of z) (sym is)) limits ∙ ap (λ z. limited_to limits (weights_behind 0 weight l) (l ++ unread_of z) z) is

pub suffix_behind : {A : Type 0} (t : Token) (l : List Token) (o : ParseOutcome A) → Suffix l o → Suffix (t ∷ l) o
suffix_behind t l (Ok p) (f, e) = (t ∷ f, ap (λ z. t ∷ z) e)
suffix_behind t l (Err (At r)) (f, e) = (t ∷ f, ap (λ z. t ∷ z) e)
suffix_behind t l (Err (Over r)) (f, e) = (t ∷ f, ap (λ z. t ∷ z) e)
suffix_behind t l (Err OutOfFuel) h = tt

-- a first token that doesn't weigh too much
pub held_behind : {A : Type 0} (limits : Limits) (weight v : ℕ) (t : Token) (l : List Token) (o : ParseOutcome A)
    → (if counts t.kind then 1 else 0) + weight ≡ v → arity_behind t.kind ≡ 0 → v ≤ limits.weight → Suffix l o
    → held_to limits weight (t ∷ l) o ≡ held_to limits v l o
held_behind limits weight v t l o weighs plain small s =
    let (f, all) = front_taken l o s in
    let r : List Token = unread_of o in
    held_is weight (t ∷ l) (t ∷ f) o (ap (λ z. t ∷ z) all) limits ∙ ap (λ z. limited_to limits (Weight z ∷ weights_behind (arity_behind t.kind) z f) (t ∷ (f ++ r)) o) weighs
    ∙ ap (λ n. limited_to limits (Weight v ∷ weights_behind n v f) (t ∷ (f ++ r)) o) plain ∙ below limits v (weights_behind 0 v f) (t ∷ (f ++ r)) o small ∙ sym (held_is v l f o all limits)

module _ {A : Type 0} (weight : ℕ) (small : weight ≤ most_weight) where
  suffix_by : (l f : List Token) (o : ParseOutcome A) → l ≡ f ++ unread_of o → Suffix l o → Loaded 0 weight f → Suffix l (held weight l o)
  suffix_by l f o all s (all_light light) = subst (Suffix {A = A} l) (sym (held_light weight l f o all light)) s
  suffix_by l f o all s (heavy g t h is light above) =
      let at : Suffix {A = A} l (Err (Over (t ∷ (h ++ unread_of o)))) = (g, all ∙ ap (λ z. z ++ unread_of o) is ∙ append_assoc g (t ∷ h) (unread_of o)) in
      subst (Suffix {A = A} l) (sym (held_heavy weight l f o all g t h is light above)) at

  held_suffix : (l : List Token) (o : ParseOutcome A) → Suffix l o → Suffix l (held weight l o)
  held_suffix l o s = let (f, all) = front_taken l o s in suffix_by l f o all s (loaded 0 weight f small)

  -- ---- soundness

  module _ (S : List Token → A → Type 0) (n m : ℕ) (l : List Token) (enough : length l < m) where
    -- what was taken begins a phrase
    begun : (o : ParseOutcome A) → Says m S Any l o → (f : List Token) × (l ≡ f ++ unread_of o) × BeginsIn S f
    begun (Ok p) (f, e, s, q) = (f, e, ([], p.0, subst (λ z. S z p.0) (sym (append_nil f)) s))
    begun (Err (At r)) (f, e, b) = (f, e, b)
    begun (Err (Over r)) (f, t, u, e, is, (w, x, s)) = (f, e ∙ ap (λ z. f ++ z) (sym is), (t ∷ w, x, subst (λ z. S z x) (append_assoc f (t ∷ []) w) s))
    begun (Err OutOfFuel) few = absurd (omega (arith, few, enough))

    says_again : (o : ParseOutcome A) → Says m S Any l o → Says n S Any l o
    says_again (Ok p) says = says
    says_again (Err (At r)) says = says
    says_again (Err (Over r)) says = says
    says_again (Err OutOfFuel) few = absurd (omega (arith, few, enough))

    says_by : (o : ParseOutcome A) → Says m S Any l o → (f : List Token) → l ≡ f ++ unread_of o → BeginsIn S f → Loaded 0 weight f → Says n S Any l (held weight l o)
    says_by o says f all begins (all_light light) = subst (Says n S Any l) (sym (held_light weight l f o all light)) (says_again o says)
    says_by o says f all (w, x, s) (heavy g t h is light above) =
        let there : f ++ w ≡ (g ++ t ∷ []) ++ (h ++ w) = ap (λ z. z ++ w) is ∙ append_assoc g (t ∷ h) w ∙ sym (append_assoc g (t ∷ []) (h ++ w)) in
        let over : Says n S Any l (Err (Over (t ∷ (h ++ unread_of o)))) =
        (g, t, h ++ unread_of o, all ∙ ap (λ z. z ++ unread_of o) is ∙ append_assoc g (t ∷ h) (unread_of o), refl, (h ++ w, x, subst (λ z. S z x) there s)) in
        subst (Says n S Any l) (sym (held_heavy weight l f o all g t h is light above)) over

    held_says : (o : ParseOutcome A) → Said m S Any l o → Said n S Any l (held weight l o)
    held_says o said = let (f, all, begins) = begun o said.says in record { says = says_by o said.says f all begins (loaded 0 weight f small) }

  -- ---- nearness

  module _ (t : Token) (w v b : List Token) (o1 o2 : ParseOutcome A) (ends1 : Ended o1) (ends2 : Ended o2) (near : Same t w v o1 o2) (back : Same t v w o2 o1) where
    abbrev first : List Token
    first = b ++ t ∷ w

    abbrev second : List Token
    second = b ++ t ∷ v

    abbrev HeldSame : Type 0
    HeldSame = Same t w v (held weight first o1) (held weight second o2)

    same_by : (x y : ParseOutcome A) → held weight first o1 ≡ x → held weight second o2 ≡ y → Same t w v x y → HeldSame
    same_by x y e1 e2 same = subst (λ z. Same t w v z (held weight second o2)) (sym e1) (subst (λ z. Same t w v x z) (sym e2) same)

    -- the token too deep is this one of the first list, and of the second
    over_by : (u : Token) (x y c : List Token) → held weight first o1 ≡ Err (Over (u ∷ x)) → held weight second o2 ≡ Err (Over (u ∷ y)) → u ∷ x ≡ c ++ t ∷ w → u ∷ y ≡ c ++ t ∷ v → HeldSame
    over_by u x y c e1 e2 at1 at2 =
        let over : ParseOutcome A = Err (Over (u ∷ x)) in
        same_by over (Err (Over (c ++ t ∷ v))) e1 (e2 ∙ ap (λ z. Err (Over z)) at2) (put_same t w v over c at1)

    stays_near : (f c : List Token) → first ≡ f ++ unread_of o1 → b ≡ f ++ c → unread_of o1 ≡ c ++ t ∷ w → unread_of o2 ≡ c ++ t ∷ v → second ≡ f ++ unread_of o2 → Loaded 0 weight f → HeldSame
    stays_near f c all1 is rest1 rest2 all2 (all_light light) = same_by o1 o2 (held_light weight first f o1 all1 light) (held_light weight second f o2 all2 light) near
    stays_near f c all1 is rest1 rest2 all2 (heavy g u h is2 light above) =
        over_by u (h ++ unread_of o1) (h ++ unread_of o2) (u ∷ (h ++ c)) (held_heavy weight first f o1 all1 g u h is2 light above) (held_heavy weight second f o2 all2 g u h is2 light above)
        (ap (λ z. u ∷ (h ++ z)) rest1 ∙ ap (λ z. u ∷ z) (sym (append_assoc h c (t ∷ w)))) (ap (λ z. u ∷ (h ++ z)) rest2 ∙ ap (λ z. u ∷ z) (sym (append_assoc h c (t ∷ v))))

    -- behind a front that ends with the token
    over_at : (u : Token) (h c g r l : List Token) → u ∷ h ≡ c ++ t ∷ [] → l ≡ g ++ r → u ∷ ((h ++ g) ++ r) ≡ c ++ t ∷ l
    over_at u h c g r l is rest = ap (λ z. u ∷ z) (append_assoc h g r) ∙ ap (λ z. z ++ (g ++ r)) is ∙ append_assoc c (t ∷ []) (g ++ r) ∙ ap (λ z. c ++ t ∷ z) (sym rest)

    longer : (f g h g2 : List Token) (u : Token) → f ≡ b ++ t ∷ g → b ++ t ∷ [] ≡ g2 ++ u ∷ h → f ≡ g2 ++ u ∷ (h ++ g)
    longer f g h g2 u is is2 = is ∙ sym (append_assoc b (t ∷ []) g) ∙ ap (λ z. z ++ g) is2 ∙ append_assoc g2 (u ∷ h) g

    deep_near : (f1 g1 f2 g2 : List Token) → first ≡ f1 ++ unread_of o1 → f1 ≡ b ++ t ∷ g1 → w ≡ g1 ++ unread_of o1 → second ≡ f2 ++ unread_of o2 → f2 ≡ b ++ t ∷ g2 → v ≡ g2 ++ unread_of o2
        → (g h : List Token) (u : Token) → b ++ t ∷ [] ≡ g ++ u ∷ h → weight + weigh g ≤ most_weight → most_weight < weight + weigh (g ++ u ∷ []) → Split g (u ∷ h) b t [] → HeldSame
    deep_near f1 g1 f2 g2 all1 is1 rest1 all2 is2 rest2 g h u is light above (stays c in_front ends) =
        over_by u ((h ++ g1) ++ unread_of o1) ((h ++ g2) ++ unread_of o2) c
        (held_heavy weight first f1 o1 all1 g u (h ++ g1) (longer f1 g1 h g u is1 is) light above)
        (held_heavy weight second f2 o2 all2 g u (h ++ g2) (longer f2 g2 h g u is2 is) light above)
        (over_at u h c g1 (unread_of o1) w ends rest1) (over_at u h c g2 (unread_of o2) v ends rest2)
    deep_near f1 g1 f2 g2 all1 is1 rest1 all2 is2 rest2 g h u is light above (passes k in_front none) = absurd (omega (arith, ap length none, length-append k (u ∷ h)))

    passes_near : (f1 g1 f2 g2 : List Token) → first ≡ f1 ++ unread_of o1 → f1 ≡ b ++ t ∷ g1 → w ≡ g1 ++ unread_of o1 → second ≡ f2 ++ unread_of o2 → f2 ≡ b ++ t ∷ g2 → v ≡ g2 ++ unread_of o2
        → Loaded 0 weight (b ++ t ∷ []) → HeldSame
    passes_near f1 g1 f2 g2 all1 is1 rest1 all2 is2 rest2 (all_light light) =
        let short = held_short weight first f1 o1 all1 (b ++ t ∷ []) g1 (is1 ∙ sym (append_assoc b (t ∷ []) g1)) light in
        far_same t w v (held weight first o1) (held weight second o2) (omega (arith, short, ap length rest1))
    passes_near f1 g1 f2 g2 all1 is1 rest1 all2 is2 rest2 (heavy g u h is light above) = deep_near f1 g1 f2 g2 all1 is1 rest1 all2 is2 rest2 g h u is light above (split g (u ∷ h) b t [] (sym is))

    second_near : (f1 g1 f2 : List Token) → first ≡ f1 ++ unread_of o1 → f1 ≡ b ++ t ∷ g1 → w ≡ g1 ++ unread_of o1 → second ≡ f2 ++ unread_of o2 → Split f2 (unread_of o2) b t v → HeldSame
    second_near f1 g1 f2 all1 is1 rest1 all2 (stays c is rest) =
        let e : unread_of o1 ≡ c ++ t ∷ w = ap unread_of (same_put t v w o2 o1 ends2 back c rest) ∙ rest_put (c ++ t ∷ w) o2 ends2 in
        absurd (omega (arith, ap length e, length-append c (t ∷ w), ap length rest1, length-append g1 (unread_of o1)))
    second_near f1 g1 f2 all1 is1 rest1 all2 (passes g2 is rest) = passes_near f1 g1 f2 g2 all1 is1 rest1 all2 is rest (loaded 0 weight (b ++ t ∷ []) small)

    near_by : (f1 f2 : List Token) → first ≡ f1 ++ unread_of o1 → second ≡ f2 ++ unread_of o2 → Split f1 (unread_of o1) b t w → HeldSame
    near_by f1 f2 all1 all2 (stays c is rest) =
        let rest2 : unread_of o2 ≡ c ++ t ∷ v = ap unread_of (same_put t w v o1 o2 ends1 near c rest) ∙ rest_put (c ++ t ∷ v) o1 ends1 in
        stays_near f1 c all1 is rest rest2 (ap (λ z. z ++ t ∷ v) is ∙ append_assoc f1 c (t ∷ v) ∙ ap (λ z. f1 ++ z) (sym rest2)) (loaded 0 weight f1 small)
    near_by f1 f2 all1 all2 (passes g is rest) = second_near f1 g f2 all1 is rest all2 (split f2 (unread_of o2) b t v (sym all2))

    held_near : Suffix first o1 → Suffix second o2 → HeldSame
    held_near s1 s2 =
        let (f1, all1) = front_taken first o1 s1 in
        let (f2, all2) = front_taken second o2 s2 in
        near_by f1 f2 all1 all2 (split f1 (unread_of o1) b t w (sym all1))

-- ---- readers

-- a reader that is given its number of turns, and what it reads
pub record Reader {A : Type 0} (S : List Token → A → Type 0) (raw : ℕ → Parser A) : Type 0 where
  pub says : (n : ℕ) (l : List Token) → Said n S Any l (raw n l)
  pub near : (t : Token) (w v : List Token) (n m : ℕ) → n ≤ m → Near t w v (raw n) (raw m)
  pub enough : (n m : ℕ) → n ≤ m → Enough (raw n) (raw m)
  pub goes_on : (l : List Token) (x : A) → S l x → ends l ≡ 0

ended_by : {A : Type 0} (S : List Token → A → Type 0) (n : ℕ) (l : List Token) (o : ParseOutcome A) → length l < n → Says n S Any l o → Ended o
ended_by S n l (Ok p) lt says = tt
ended_by S n l (Err (At r)) lt says = tt
ended_by S n l (Err (Over r)) lt says = tt
ended_by S n l (Err OutOfFuel) lt few = absurd (omega (arith, few, lt))

-- an outcome that leaves nothing
put_nothing : {A : Type 0} (o : ParseOutcome A) → Ended o → unread_of o ≡ [] → put [] o ≡ o
put_nothing (Ok p) ended h = ap (λ z. Ok (p.0, z)) (sym h)
put_nothing (Err (At r)) ended h = ap (λ z. Err (At z)) (sym h)
put_nothing (Err (Over r)) ended h = ap (λ z. Err (Over z)) (sym h)
put_nothing (Err OutOfFuel) ended h = absurd ended

-- ---- whether all of a front was taken and its last token weighs too much

passed_heavy : (weight : ℕ) (front left : List Token) → length left ≡ 0 → most_weight < weight + weigh front → exceeds_weight weight front (length left) ≡ true
passed_heavy weight front left none above = rw (lt-ltb (length left) 1 (omega (arith, none)), lt-ltb most_weight (weight + weigh front) above) refl

not_both : (a b : Bool) (n v : ℕ) → nat_lt n 1 ≡ a → nat_lt most_weight v ≡ b → (n ≡ 0 → most_weight < v → ⊥) → (a && b) ≡ false
not_both true true n v h h2 never = let one : n < 1 = ltb-true n 1 h in absurd (never (omega (arith, one)) (ltb-true most_weight v h2))
not_both true false n v h h2 never = refl
not_both false b n v h h2 never = refl

passed_not : (weight : ℕ) (front left : List Token) → (length left ≡ 0 → most_weight < weight + weigh front → ⊥) → exceeds_weight weight front (length left) ≡ false
passed_not weight front left never = not_both (nat_lt (length left) 1) (nat_lt most_weight (weight + weigh front)) (length left) (weight + weigh front) refl refl never

widened_put : {A : Type 0} (weight : ℕ) (l front : List Token) (o : ParseOutcome A) → Ended o → exceeds_weight weight front (length (unread_of o)) ≡ false
    → widen_outcome weight l front o ≡ put (drop (length front - length (unread_of o)) l) o
widened_put {A = A} weight l front (Ok p) ended h = ap (λ b. if◌then◌else◌ {A = ParseOutcome A} b (Err (Over (drop (length front - 1) l))) (Ok (p.0, drop (length front - length p.1) l))) h
widened_put {A = A} weight l front (Err (At r)) ended h = ap (λ b. if◌then◌else◌ {A = ParseOutcome A} b (Err (Over (drop (length front - 1) l))) (Err (At (drop (length front - length r) l)))) h
widened_put {A = A} weight l front (Err (Over r)) ended h = ap (λ b. if◌then◌else◌ {A = ParseOutcome A} b (Err (Over (drop (length front - 1) l))) (Err (Over (drop (length front - length r) l)))) h
widened_put weight l front (Err OutOfFuel) ended h = absurd ended

widened_over : {A : Type 0} (weight : ℕ) (l front : List Token) (o : ParseOutcome A) → Ended o → exceeds_weight weight front (length (unread_of o)) ≡ true
    → widen_outcome weight l front o ≡ Err (Over (drop (length front - 1) l))
widened_over {A = A} weight l front (Ok p) ended h = ap (λ b. if◌then◌else◌ {A = ParseOutcome A} b (Err (Over (drop (length front - 1) l))) (Ok (p.0, drop (length front - length p.1) l))) h
widened_over {A = A} weight l front (Err (At r)) ended h = ap (λ b. if◌then◌else◌ {A = ParseOutcome A} b (Err (Over (drop (length front - 1) l))) (Err (At (drop (length front - length r) l)))) h
widened_over {A = A} weight l front (Err (Over r)) ended h = ap (λ b. if◌then◌else◌ {A = ParseOutcome A} b (Err (Over (drop (length front - 1) l))) (Err (Over (drop (length front - length r) l)))) h
widened_over weight l front (Err OutOfFuel) ended h = absurd ended

-- what holds of a reader within the limit, and that reading a front is the same
pub record Laws {A : Type 0} (S : List Token → A → Type 0) (p q : Parser A) : Type 0 where
  pub says : (n : ℕ) (l : List Token) → Said n S Any l (p l)
  pub near : (t : Token) (w v : List Token) → Near t w v p p
  pub same : (l : List Token) → q l ≡ p l

module _ {A : Type 0} (S : List Token → A → Type 0) (raw : ℕ → Parser A) (reader : Reader S raw) (weight : ℕ) (small : weight ≤ most_weight) (fuel : List Token → ℕ) (many : (l : List Token) → length l < fuel l) where
  -- the reader within the limit
  abbrev reads : Parser A
  reads l = held weight l (raw (fuel l) l)

  ended : (n : ℕ) (l : List Token) → length l < n → Ended (raw n l)
  ended n l lt = ended_by S n l (raw n l) lt (reader.says n l).says

  same_turns : (n m : ℕ) (l : List Token) → length l < n → length l < m → raw n l ≡ raw m l
  same_turns n m l lt lt2 = sym ((reader.enough n (n + m) (omega arith)).same l (ended n l lt)) ∙ (reader.enough m (n + m) (omega arith)).same l (ended m l lt2)

  same_at : (t : Token) (w v b l1 l2 : List Token) (n m : ℕ) → l1 ≡ b ++ t ∷ w → l2 ≡ b ++ t ∷ v → length l1 < n → length l2 < m → Same t w v (raw n l1) (raw m l2)
  same_at t w v b l1 l2 n m is1 is2 lt1 lt2 =
      let at : Same t w v (raw n (b ++ t ∷ w)) (raw (n + m) (b ++ t ∷ v)) = (reader.near t w v n (n + m) (omega arith)).same b in
      let there : Same t w v (raw n l1) (raw (n + m) l2) = subst (λ z. Same t w v (raw n l1) (raw (n + m) z)) (sym is2) (subst (λ z. Same t w v (raw n z) (raw (n + m) (b ++ t ∷ v))) (sym is1) at) in
      subst (Same t w v (raw n l1)) ((reader.enough m (n + m) (omega arith)).same l2 (ended m l2 lt2)) there

  rest_part : (l : List Token) → Suffix l (raw (fuel l) l)
  rest_part l = (reader.near (token k.End) [] [] (fuel l) (fuel l) (omega arith)).suffix l

  whole_says : (n : ℕ) (l : List Token) → Said n S Any l (reads l)
  whole_says n l = held_says weight small S n (fuel l) l (many l) (raw (fuel l) l) (reader.says (fuel l) l)

  whole_near : (t : Token) (w v : List Token) → Near t w v reads reads
  whole_near t w v = record {
    suffix = λ l. held_suffix weight small l (raw (fuel l) l) (rest_part l);
    same = λ b. let l1 : List Token = b ++ t ∷ w in
        let l2 : List Token = b ++ t ∷ v in
        held_near weight small t w v b (raw (fuel l1) l1) (raw (fuel l2) l2) (ended (fuel l1) l1 (many l1)) (ended (fuel l2) l2 (many l2))
        (same_at t w v b l1 l2 (fuel l1) (fuel l2) refl refl (many l1) (many l2)) (same_at t v w b l2 l1 (fuel l2) (fuel l1) refl refl (many l2) (many l1)) (rest_part l1) (rest_part l2);
  }

  -- ---- the front is enough

  -- where the front is the list, and all of it was taken and is light
  all_same : (l front : List Token) → l ≡ front → unread_of (raw (suc (length front)) front) ≡ [] → weight + weigh front ≤ most_weight → reads l ≡ widen_outcome weight l front (raw (suc (length front)) front)
  all_same l front same none light =
      let n : ℕ = suc (length front) in
      let o : ParseOutcome A = raw n front in
      let read : raw (fuel l) l ≡ o = ap (raw (fuel l)) same ∙ same_turns (fuel l) n front (omega (arith, many l, ap length same)) (omega arith) in
      let nothing_left : unread_of (raw (fuel l) l) ≡ [] = ap unread_of read ∙ none in
      let all : l ≡ l ++ unread_of (raw (fuel l) l) = sym (append_nil l) ∙ ap (λ z. l ++ z) (sym nothing_left) in
      let whole_light : weight + weigh l ≤ most_weight = subst (λ z. weight + weigh z ≤ most_weight) (sym same) light in
      let e : reads l ≡ o = held_light weight l l (raw (fuel l) l) all whole_light ∙ read in
      let end : Ended o = ended n front (omega arith) in
      let no : exceeds_weight weight front (length (unread_of o)) ≡ false = passed_not weight front (unread_of o) (λ z above. omega (arith, light, above)) in
      let few : length front - length (unread_of o) ≡ length l = omega (arith, ap length none, ap length same) in
      let there : drop (length front - length (unread_of o)) l ≡ [] = ap (λ m. drop m l) few ∙ ap (drop (length l)) (sym (append_nil l)) ∙ drop_seam l [] (length l) refl in
      e ∙ sym (widened_put weight l front o end no ∙ ap (λ z. put z o) there ∙ put_nothing o end none)

  module _ (l front : List Token) (at : IsFront weight l front) where
    abbrev of_front : ParseOutcome A
    of_front = raw (suc (length front)) front

    abbrev of_list : ParseOutcome A
    of_list = raw (fuel l) l

    front_ended : Ended of_front
    front_ended = ended (suc (length front)) front (omega arith)

    list_ended : Ended of_list
    list_ended = ended (fuel l) l (many l)

    to_list : Same at.last [] at.rest of_front of_list
    to_list = same_at at.last [] at.rest at.before front l (suc (length front)) (fuel l) at.made at.is (omega arith) (many l)

    to_front : Same at.last at.rest [] of_list of_front
    to_front = same_at at.last at.rest [] at.before l front (fuel l) (suc (length front)) at.is at.made (many l) (omega arith)

    -- a token of the front stays
    stays_same : (g c : List Token) → front ≡ g ++ unread_of of_front → at.before ≡ g ++ c → unread_of of_front ≡ c ++ at.last ∷ [] → reads l ≡ widen_outcome weight l front of_front
    stays_same g c all is rest =
        let r : List Token = c ++ at.last ∷ at.rest in
        let moved : of_list ≡ put r of_front = same_put at.last [] at.rest of_front of_list front_ended to_list c rest in
        let left : unread_of of_list ≡ r = ap unread_of moved ∙ rest_put r of_front front_ended in
        let whole_list : l ≡ g ++ r = at.is ∙ ap (λ z. z ++ at.last ∷ at.rest) is ∙ append_assoc g c (at.last ∷ at.rest) in
        let light : weight + weigh g ≤ most_weight = omega (arith, at.light, ap weigh is, weigh_front 0 g c) in
        let e : reads l ≡ put r of_front = held_light weight l g of_list (whole_list ∙ ap (λ z. g ++ z) (sym left)) light ∙ moved in
        let few : length front - length (unread_of of_front) ≡ length g = omega (arith, ap length all, length-append g (unread_of of_front)) in
        let there : drop (length front - length (unread_of of_front)) l ≡ r = ap (drop (length front - length (unread_of of_front))) whole_list
        ∙ drop_seam g r (length front - length (unread_of of_front)) few in
        let no : exceeds_weight weight front (length (unread_of of_front)) ≡ false =
        passed_not weight front (unread_of of_front) (λ none above. omega (arith, none, ap length rest, length-append c (at.last ∷ [])))
        in
        e ∙ sym (widened_put weight l front of_front front_ended no ∙ ap (λ z. put z of_front) there)

    -- the last token of the front was taken, and weighs too much
    heavy_by : unread_of of_front ≡ [] → most_weight < weight + weigh front → (g : List Token) → l ≡ g ++ unread_of of_list
        → Split g (unread_of of_list) at.before at.last at.rest → reads l ≡ Err (Over (at.last ∷ at.rest))
    heavy_by none above g all (stays c is rest) =
        let e : unread_of of_front ≡ c ++ at.last ∷ [] = ap unread_of (same_put at.last at.rest [] of_list of_front list_ended to_front c rest) ∙ rest_put (c ++ at.last ∷ []) of_list list_ended in
        absurd (omega (arith, ap length none, ap length e, length-append c (at.last ∷ [])))
    heavy_by none above g all (passes h is rest) =
        held_heavy weight l g of_list all at.before at.last h is at.light (omega (arith, above, ap weigh at.made)) ∙ ap (λ z. Err (Over (at.last ∷ z))) (sym rest)

    heavy_same : unread_of of_front ≡ [] → most_weight < weight + weigh front → reads l ≡ widen_outcome weight l front of_front
    heavy_same none above =
        let (g, all) = front_taken l of_list (rest_part l) in
        let one : length front - 1 ≡ length at.before = omega (arith, ap length at.made, length-append at.before (at.last ∷ [])) in
        let there : drop (length front - 1) l ≡ at.last ∷ at.rest = ap (drop (length front - 1)) at.is ∙ drop_seam at.before (at.last ∷ at.rest) (length front - 1) one in
        heavy_by none above g all (split g (unread_of of_list) at.before at.last at.rest (sym all ∙ at.is)) ∙ ap (λ z. Err (Over z)) (sym there)
        ∙ sym (widened_over weight l front of_front front_ended (passed_heavy weight front (unread_of of_front) (ap length none) above))

    -- or doesn't
    begins_front : unread_of of_front ≡ [] → BeginsIn S front
    begins_front none =
        let n = suc (length front) in
        let (f, all, begins) = begun weight small S n n front (omega arith) of_front (reader.says n front).says in
        let e : front ≡ f = all ∙ ap (λ z. f ++ z) none ∙ append_nil f in
        subst (BeginsIn S) (sym e) begins

    no_end : BeginsIn S front → ends_expression at.last.kind ≡ true → ⊥
    no_end (w, x, s) ends_it =
        let one : end_of at.last.kind ≡ 1 = ap (λ z. if z then 1 else 0) ends_it in
        omega (arith, reader.goes_on (front ++ w) x s, ends-append front w, ap ends at.made, ends-append at.before (at.last ∷ []), one)

    light_same : unread_of of_front ≡ [] → weight + weigh front ≤ most_weight → (at.rest ≡ [])
        ⊎ ((ends_expression at.last.kind ≡ true) ⊎ (most_weight < weight + weigh (at.before ++ at.last ∷ []))) → reads l
        ≡ widen_outcome weight l front of_front
    light_same none light (inl end) = all_same l front (at.is ∙ ap (λ z. at.before ++ at.last ∷ z) end ∙ sym at.made) none light
    light_same none light (inr (inl ends_it)) = absurd (no_end (begins_front none) ends_it)
    light_same none light (inr (inr above)) = absurd (omega (arith, light, above, ap weigh at.made))

    taken_same : unread_of of_front ≡ [] → (c : Bool) → nat_lt most_weight (weight + weigh front) ≡ c → reads l ≡ widen_outcome weight l front of_front
    taken_same none true h = heavy_same none (ltb-true most_weight (weight + weigh front) h)
    taken_same none false h = light_same none (ltb-false most_weight (weight + weigh front) h) at.stops

    front_by : (g : List Token) → front ≡ g ++ unread_of of_front → Split g (unread_of of_front) at.before at.last [] → reads l ≡ widen_outcome weight l front of_front
    front_by g all (stays c is rest) = stays_same g c all is rest
    front_by g all (passes h is none) =
        let empty : unread_of of_front ≡ [] = nothing (unread_of of_front) (omega (arith, ap length none, length-append h (unread_of of_front))) in
        taken_same empty (nat_lt most_weight (weight + weigh front)) refl

    front_same : reads l ≡ widen_outcome weight l front of_front
    front_same =
        let (g, all) = front_taken front of_front ((reader.near at.last [] [] (suc (length front)) (suc (length front)) (omega arith)).suffix front) in
        front_by g all (split g (unread_of of_front) at.before at.last [] (sym all ∙ at.made))

  empty_same : reads [] ≡ spec.with_weight_limit weight raw []
  unfolding reach
  empty_same =
      let (g, all) = front_taken [] (raw 1 []) ((reader.near (token k.End) [] [] 1 1 (omega arith)).suffix []) in
      let none : unread_of (raw 1 []) ≡ [] = nothing (unread_of (raw 1 [])) (omega (arith, ap length all, length-append g (unread_of (raw 1 [])))) in
      all_same [] [] refl none (omega (arith, small))

  whole_same : (l : List Token) → reads l ≡ spec.with_weight_limit weight raw l
  whole_same [] = empty_same
  whole_same (t ∷ l) = front_same (t ∷ l) (front_of weight (t ∷ l)) (front_is weight (t ∷ l) small (omega arith))

  pub laws : Laws S reads (spec.with_weight_limit weight raw)
  laws = record { says = whole_says; near = whole_near; same = λ l. sym (whole_same l) }
