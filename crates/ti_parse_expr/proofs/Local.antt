-- The parser's result is proved not to depend on tokens after the one at which it fails, nor on more fuel.
use Rattle.std.proofs.Common.{◌≡◌, ℕ, zero, suc, ◌≤◌, List, [], ◌∷◌, ◌++◌, length, Ok, Err, refl, sym, ap, ◌∙◌, subst, append_assoc, arith, length-append}
use Rattle.ti_syntax.specs.declared.token.Token.{Token}
use Rattle.ti_parse_expr.specs.Mirrors.Input.{At, Over, OutOfFuel, ParseOutcome, Parser, and_then, kind, place, take_token}
use Rattle.ti_parse_expr.proofs.Related.{Readers, readers_related}

pub cancel : (a b r : List Token) → a ++ r ≡ b ++ r → a ≡ b
cancel [] [] r h = refl
cancel [] (y ∷ b) r h = absurd (omega (arith, ap length h, length-append b r))
cancel (x ∷ a) [] r h = absurd (omega (arith, ap length h, length-append a r))
cancel (x ∷ a) (y ∷ b) r h =
    let heads : x ≡ y = cc in
    let tails : a ++ r ≡ b ++ r = cc in
    let e : a ≡ b = cancel a b r tails in cc

-- the list that is left is a part of what there was
abbrev pub Suffix : {A : Type 0} → List Token → ParseOutcome A → Type 0
Suffix l (Ok p) = (f : List Token) × (l ≡ f ++ p.1)
Suffix l (Err (At r)) = (f : List Token) × (l ≡ f ++ r)
Suffix l (Err (Over r)) = (f : List Token) × (l ≡ f ++ r)
Suffix l (Err OutOfFuel) = Unit {0}

module _ (t : Token) (w v : List Token) where
  abbrev pub Same : {A : Type 0} → ParseOutcome A → ParseOutcome A → Type 0
  Same (Ok p) out = (b : List Token) → p.1 ≡ b ++ t ∷ w → out ≡ Ok (p.0, b ++ t ∷ v)
  Same (Err (At r)) out = (b : List Token) → r ≡ b ++ t ∷ w → out ≡ Err (At (b ++ t ∷ v))
  Same (Err (Over r)) out = (b : List Token) → r ≡ b ++ t ∷ w → out ≡ Err (Over (b ++ t ∷ v))
  Same (Err OutOfFuel) out = Unit {0}

  pub record Near {A : Type 0} (p q : Parser A) : Type 0 where
    pub suffix : (l : List Token) → Suffix l (p l)
    pub same : (b : List Token) → Same (p (b ++ t ∷ w)) (q (b ++ t ∷ v))

  pub near_pure : {A : Type 0} (x : A) → Near (λ i. Ok (x, i)) (λ i. Ok (x, i))
  near_pure x = record { suffix = λ l. ([], refl); same = λ b c h. ap (λ z. Ok (x, z ++ t ∷ v)) (cancel b c (t ∷ w) h) }

  pub near_refuse : {A : Type 0} → Near {A = A} (λ i. Err (At i)) (λ i. Err (At i))
  near_refuse = record { suffix = λ l. ([], refl); same = λ b c h. ap (λ z. Err (At (z ++ t ∷ v))) (cancel b c (t ∷ w) h) }

  pub near_over : {A : Type 0} → Near {A = A} (λ i. Err (Over i)) (λ i. Err (Over i))
  near_over = record { suffix = λ l. ([], refl); same = λ b c h. ap (λ z. Err (Over (z ++ t ∷ v))) (cancel b c (t ∷ w) h) }

  pub near_spent : {A : Type 0} {q : Parser A} → Near (λ i. Err OutOfFuel) q
  near_spent = record { suffix = λ l. tt; same = λ b. tt }

  take_part : (l : List Token) → Suffix l (take_token l)
  take_part [] = ([], refl)
  take_part (x ∷ l) = (x ∷ [], refl)

  take_alike : (b : List Token) → Same (take_token (b ++ t ∷ w)) (take_token (b ++ t ∷ v))
  take_alike [] c h = absurd (omega (arith, ap length h, length-append c (t ∷ w)))
  take_alike (x ∷ b) c h = ap (λ z. take_token (x ∷ (z ++ t ∷ v))) (cancel b c (t ∷ w) h)

  pub near_take : Near take_token take_token
  near_take = record { suffix = take_part; same = take_alike }

  suffix_after : {B : Type 0} (l g r : List Token) → l ≡ g ++ r → (o : ParseOutcome B) → Suffix r o → Suffix l o
  suffix_after l g r e (Ok q) (g2, e2) = (g ++ g2, e ∙ ap (λ z. g ++ z) e2 ∙ sym (append_assoc g g2 q.1))
  suffix_after l g r e (Err (At r2)) (g2, e2) = (g ++ g2, e ∙ ap (λ z. g ++ z) e2 ∙ sym (append_assoc g g2 r2))
  suffix_after l g r e (Err (Over r2)) (g2, e2) = (g ++ g2, e ∙ ap (λ z. g ++ z) e2 ∙ sym (append_assoc g g2 r2))
  suffix_after l g r e (Err OutOfFuel) h = tt

  suffix_then : {A B : Type 0} (l : List Token) (out : ParseOutcome A) (f : A → Parser B) → Suffix l out → ((x : A) (r : List Token) → Suffix r (f x r)) → Suffix l (and_then out f)
  suffix_then l (Ok p) f (g, e) parts = suffix_after l g p.1 e (f p.0 p.1) (parts p.0 p.1)
  suffix_then l (Err (At r)) f s parts = s
  suffix_then l (Err (Over r)) f s parts = s
  suffix_then l (Err OutOfFuel) f s parts = tt

  -- where what is left in the end holds the token, it was left in the middle too
  same_middle : {A B : Type 0} (x : A) (r : List Token) (out2 : ParseOutcome A) (f f2 : A → Parser B) → Same (Ok (x, r)) out2 → Near (f x) (f2 x)
      → (o : ParseOutcome B) → f x r ≡ o → (b : List Token) → r ≡ b ++ t ∷ w → Same o (and_then out2 f2)
  same_middle x r out2 f f2 s near o e b h =
      let moved : and_then out2 f2 ≡ f2 x (b ++ t ∷ v) = ap (λ z. and_then z f2) (s b h) in
      let same : Same (f x (b ++ t ∷ w)) (f2 x (b ++ t ∷ v)) = near.same b in
      let at : Same (f x r) (f2 x (b ++ t ∷ v)) = subst (λ z. Same (f x z) (f2 x (b ++ t ∷ v))) (sym h) same in
      let here : Same o (f2 x (b ++ t ∷ v)) = subst (λ z. Same z (f2 x (b ++ t ∷ v))) e at in
      subst (λ z. Same o z) (sym moved) here

  same_ok : {A B : Type 0} (x : A) (r : List Token) (out2 : ParseOutcome A) (f f2 : A → Parser B) → Same (Ok (x, r)) out2 → Near (f x) (f2 x)
      → (o : ParseOutcome B) → f x r ≡ o → Suffix r o → Same o (and_then out2 f2)
  same_ok x r out2 f f2 s near (Ok q) e (g, is) = λ b h. same_middle x r out2 f f2 s near (Ok q) e (g ++ b) (is ∙ ap (λ z. g ++ z) h ∙ sym (append_assoc g b (t ∷ w))) b h
  same_ok x r out2 f f2 s near (Err (At r2)) e (g, is) = λ b h. same_middle x r out2 f f2 s near (Err (At r2)) e (g ++ b) (is ∙ ap (λ z. g ++ z) h ∙ sym (append_assoc g b (t ∷ w))) b h
  same_ok x r out2 f f2 s near (Err (Over r2)) e (g, is) = λ b h. same_middle x r out2 f f2 s near (Err (Over r2)) e (g ++ b) (is ∙ ap (λ z. g ++ z) h ∙ sym (append_assoc g b (t ∷ w))) b h
  same_ok x r out2 f f2 s near (Err OutOfFuel) e h = tt

  same_then : {A B : Type 0} (out out2 : ParseOutcome A) (f f2 : A → Parser B) → Same out out2 → ((x : A) → Near (f x) (f2 x)) → Same (and_then out f) (and_then out2 f2)
  same_then (Ok p) out2 f f2 s near = same_ok p.0 p.1 out2 f f2 s (near p.0) (f p.0 p.1) refl ((near p.0).suffix p.1)
  same_then (Err (At r)) out2 f f2 s near = λ b h. ap (λ z. and_then z f2) (s b h)
  same_then (Err (Over r)) out2 f f2 s near = λ b h. ap (λ z. and_then z f2) (s b h)
  same_then (Err OutOfFuel) out2 f f2 s near = tt

  pub near_then : {A B : Type 0} {p q : Parser A} {f g : A → Parser B} → Near p q → ((x : A) → Near (f x) (g x)) → Near (λ i. and_then (p i) f) (λ i. and_then (q i) g)
  near_then {p = p} {q = q} {f = f} {g = g} n m = record {
    suffix = λ l. suffix_then l (p l) f (n.suffix l) (λ x r. (m x).suffix r);
    same = λ b. same_then (p (b ++ t ∷ w)) (q (b ++ t ∷ v)) f g (n.same b) m;
  }

  -- what depends on the next token alone
  pub near_by : {A X : Type 0} (look : List Token → X) {f g : X → Parser A} → ((b : List Token) → look (b ++ t ∷ w) ≡ look (b ++ t ∷ v))
      → ((x : X) → Near (f x) (g x)) → Near (λ i. f (look i) i) (λ i. g (look i) i)
  near_by look {f = f} {g = g} alike near = record {
    suffix = λ l. (near (look l)).suffix l;
    same = λ b. subst (λ x. Same (f (look (b ++ t ∷ w)) (b ++ t ∷ w)) (g x (b ++ t ∷ v))) (alike b) ((near (look (b ++ t ∷ w))).same b);
  }

  pub kind_alike : (b : List Token) → kind (b ++ t ∷ w) ≡ kind (b ++ t ∷ v)
  kind_alike [] = refl
  kind_alike (x ∷ b) = refl

  pub place_alike : (b : List Token) → place (b ++ t ∷ w) ≡ place (b ++ t ∷ v)
  place_alike [] = refl
  place_alike (x ∷ b) = refl

  no_fewer : (m : ℕ) → suc m ≤ zero → ⊥
  no_fewer m h = omega (arith, h)

  one_less : (m m2 : ℕ) → suc m ≤ suc m2 → m ≤ m2
  one_less m m2 h = omega (arith, h)

  pub readers_near : (fuel more : ℕ) → fuel ≤ more → Readers (λ A p q. Near {A = A} p q) fuel more
  readers_near fuel more le =
      readers_related (λ A p q. Near {A = A} p q) (λ n m. n ≤ m) (λ A x. near_pure x) (λ A. near_refuse) near_take
      (λ A B p q f g first next. near_then first next) (λ A f g each. near_by kind {f = f} {g = g} kind_alike each)
      (λ A f g each. near_by place {f = f} {g = g} place_alike each) (λ A q m h is. near_spent) no_fewer one_less fuel more le (omega (arith, le))
