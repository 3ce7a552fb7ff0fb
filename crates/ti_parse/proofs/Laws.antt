-- What holds of a parser for a nonempty language is proved to be preserved by steps that may depend on the values of earlier ones.
use Rattle.std.proofs.Common.{◌≡◌, ℕ, zero, suc, ◌+◌, ◌<◌, ◌≤◌, List, [], ◌∷◌, ◌++◌, length, Ok, Err, refl, sym, ◌∙◌, subst, arith, true, false, Bool, if◌then◌else◌}
use Rattle.ti_base.specs.declared.place.Place.{Place}
use Rattle.ti_syntax.specs.declared.token.Token.{Token}
use Rattle.ti_syntax.specs.declared.token.TokenKind.{TokenKind}
use Rattle.ti_syntax.specs.declared.token.TokenKind.TheVariants as k
use Rattle.ti_syntax.specs.Tokens.{same_kind}
use Rattle.ti_parse_expr.specs.Mirrors.Input.{At, Over, OutOfFuel, ParseOutcome, Parser, and_then, kind, place, expect, expect_word, name_of_kind, next_is, spells}
use Rattle.ti_parse_expr.proofs.Lemmas.{BeginsIn, Said, Any, then_said, after_said, as_said, done_said, refused_said, over_said, spent_said}
use Rattle.ti_parse_expr.proofs.Lemmas.{token, append_nil, spells_is}

-- what the value that was read and the rest meet
abbrev pub Meets : {A : Type 0} → (A → List Token → Type 0) → ParseOutcome A → Type 0
Meets Q (Ok p) = Q p.0 p.1
Meets Q (Err e) = Unit {0}

-- any rest will do
abbrev pub Free : {A : Type 0} → A → List Token → Type 0
Free x r = Unit {0}

-- U has a phrase, the outcome says U, and value and rest meet Q
pub record Tells {A : Type 0} (n : ℕ) (U : List Token → A → Type 0) (Q : A → List Token → Type 0) (l : List Token) (out : ParseOutcome A) : Type 0 where
  pub some : BeginsIn U []
  pub said : Said n U Any l out
  pub meets : Meets Q out

-- ---- from a law to a law

meets_free : {A : Type 0} (out : ParseOutcome A) → Meets Free out
meets_free (Ok p) = tt
meets_free (Err e) = tt

pub told : {A : Type 0} {n : ℕ} {U : List Token → A → Type 0} {l : List Token} {out : ParseOutcome A} → BeginsIn U [] → Said n U Any l out → Tells n U Free l out
told {out = out} some said = record { some = some; said = said; meets = meets_free out }

pub as_tells : {A : Type 0} {n : ℕ} {T U : List Token → A → Type 0} {Q : A → List Token → Type 0} {l : List Token} {out : ParseOutcome A}
    → ((g : List Token) (y : A) → T g y → U g y) → Tells n T Q l out → Tells n U Q l out
as_tells {n = n} as_u tells =
    let (w, y, s) = tells.some in
    record { some = (w, y, as_u w y s); said = as_said {m = n} (omega arith) as_u (λ _ _. tt) tells.said; meets = tells.meets }

-- fewer turns
pub fewer_tells : {A : Type 0} {n m : ℕ} {U : List Token → A → Type 0} {Q : A → List Token → Type 0} {l : List Token} {out : ParseOutcome A} → n ≤ m → Tells m U Q l out → Tells n U Q l out
fewer_tells le tells = record { some = tells.some; said = as_said le (λ g y s. s) (λ _ _. tt) tells.said; meets = tells.meets }

meets_so : {A : Type 0} (n : ℕ) (U : List Token → A → Type 0) (P Q : A → List Token → Type 0) (l : List Token)
    → ((f r : List Token) (x : A) → U f x → P x r → Q x r) → (out : ParseOutcome A) → Said n U Any l out → Meets P out → Meets Q out
meets_so n U P Q l so (Ok p) said q = let (f, e, s, any) = said.says in so f p.1 p.0 s q
meets_so n U P Q l so (Err e) said q = tt

-- value and rest meet what follows from the phrase
pub so_tells : {A : Type 0} {n : ℕ} {U : List Token → A → Type 0} {P Q : A → List Token → Type 0} {l : List Token} {out : ParseOutcome A}
    → ((f r : List Token) (x : A) → U f x → P x r → Q x r) → Tells n U P l out → Tells n U Q l out
so_tells {n = n} {U = U} {P = P} {Q = Q} {l = l} {out = out} so tells = record { some = tells.some; said = tells.said; meets = meets_so n U P Q l so out tells.said tells.meets }

says_meeting : {A : Type 0} (n : ℕ) (U : List Token → A → Type 0) (R : List Token → Type 0) (l : List Token) (out : ParseOutcome A) → Said n U Any l out → Meets (λ _ r. R r) out → Said n U R l out
says_meeting n U R l (Ok p) said q = let (f, e, s, any) = said.says in record { says = (f, e, s, q) }
says_meeting n U R l (Err (At r)) said q = record { says = said.says }
says_meeting n U R l (Err (Over r)) said q = record { says = said.says }
says_meeting n U R l (Err OutOfFuel) said q = record { says = said.says }

-- the law of a reader whose rest meets R
pub said_of : {A : Type 0} {n : ℕ} {U : List Token → A → Type 0} {R : List Token → Type 0} {l : List Token} {out : ParseOutcome A} → Tells n U (λ _ r. R r) l out → Said n U R l out
said_of {n = n} {U = U} {R = R} {l = l} {out = out} tells = says_meeting n U R l out tells.said tells.meets

-- ---- one step

pub done_tells : {A : Type 0} {n : ℕ} {U : List Token → A → Type 0} {l : List Token} {x : A} → U [] x → Tells n U Free l (Ok (x, l))
done_tells {x = x} s = record { some = ([], x, s); said = done_said s tt; meets = tt }

pub met_tells : {A : Type 0} {n : ℕ} {U : List Token → A → Type 0} {Q : A → List Token → Type 0} {l : List Token} {x : A} → U [] x → Q x l → Tells n U Q l (Ok (x, l))
met_tells {x = x} s q = record { some = ([], x, s); said = done_said s tt; meets = q }

pub refused_tells : {A : Type 0} {n : ℕ} {U : List Token → A → Type 0} {Q : A → List Token → Type 0} {l : List Token} → BeginsIn U [] → Tells n U Q l (Err (At l))
refused_tells b = record { some = b; said = refused_said b; meets = tt }

-- the next token is too deep
pub over_tells : {A : Type 0} {n : ℕ} {U : List Token → A → Type 0} {Q : A → List Token → Type 0} {t : Token} {ts : List Token} → BeginsIn U (t ∷ []) → Tells n U Q (t ∷ ts) (Err (Over (t ∷ ts)))
over_tells {t = t} (w, x, s) = record { some = (t ∷ w, x, s); said = over_said (w, x, s); meets = tt }

pub spent_tells : {A : Type 0} {U : List Token → A → Type 0} {Q : A → List Token → Type 0} {l : List Token} → BeginsIn U [] → Tells zero U Q l (Err OutOfFuel)
spent_tells b = record { some = b; said = spent_said; meets = tt }

-- a test of the next token
pub if_tells : {A : Type 0} {n : ℕ} {U : List Token → A → Type 0} {Q : A → List Token → Type 0} {l : List Token} (b : Bool) (p q : Parser A)
    → (b ≡ true → Tells n U Q l (p l)) → (b ≡ false → Tells n U Q l (q l)) → Tells n U Q l ((if b then p else q) l)
if_tells true p q holds fails = holds refl
if_tells false p q holds fails = fails refl

-- whether the next token is of a kind
pub if_head : {A : Type 0} {n : ℕ} {U : List Token → A → Type 0} {Q : A → List Token → Type 0} {l : List Token} (q : TokenKind)
    → ((a : TokenKind) → same_kind a q ≡ true → a ≡ q) → same_kind k.End q ≡ false → (p r : Parser A)
    → ((t : Token) (ts : List Token) → l ≡ t ∷ ts → t.kind ≡ q → Tells n U Q (t ∷ ts) (p (t ∷ ts))) → (next_is q l ≡ false → Tells n U Q l (r l)) → Tells n U Q l ((if next_is q l then p else r) l)
if_head {n = n} {U = U} {Q = Q} {l = l} q is_q not_end p r holds fails = if_tells (next_is q l) p r (there l refl) fails
  where
    there : (v : List Token) → l ≡ v → next_is q v ≡ true → Tells n U Q v (p v)
    there [] is h = let wrong : false ≡ true = sym not_end ∙ h in cc
    there (t ∷ ts) is h = holds t ts is (is_q t.kind h)

pub if_sees : {A : Type 0} {n : ℕ} {U : List Token → A → Type 0} {Q : A → List Token → Type 0} {l : List Token} (q : TokenKind)
    → ((a : TokenKind) → same_kind a q ≡ true → a ≡ q) → same_kind k.End q ≡ false → (p r : Parser A)
    → ((t : Token) (ts : List Token) → t.kind ≡ q → Tells n U Q (t ∷ ts) (p (t ∷ ts))) → (next_is q l ≡ false → Tells n U Q l (r l)) → Tells n U Q l ((if next_is q l then p else r) l)
if_sees q is_q not_end p r holds fails = if_head q is_q not_end p r (λ t ts is h. holds t ts h) fails

-- the next token is read, and then what is left
after_by : {A : Type 0} {n m : ℕ} {U : List Token → A → Type 0} {Q : A → List Token → Type 0} {t : Token} {ts : List Token} {out : ParseOutcome A}
    → n ≤ suc m → Tells m (λ g y. U (t ∷ g) y) Q ts out → Tells n U Q (t ∷ ts) out
after_by {t = t} le tells = let (w, x, s) = tells.some in record { some = (t ∷ w, x, s); said = after_said le tells.said; meets = tells.meets }

pub after_tells : {A : Type 0} {n : ℕ} {U : List Token → A → Type 0} {Q : A → List Token → Type 0} {t : Token} {ts : List Token} {out : ParseOutcome A}
    → Tells n (λ g y. U (t ∷ g) y) Q ts out → Tells n U Q (t ∷ ts) out
after_tells {n = n} tells = after_by {n = n} (omega arith) tells

pub after_turn : {A : Type 0} {n : ℕ} {U : List Token → A → Type 0} {Q : A → List Token → Type 0} {t : Token} {ts : List Token} {out : ParseOutcome A}
    → Tells n (λ g y. U (t ∷ g) y) Q ts out → Tells (suc n) U Q (t ∷ ts) out
after_turn {n = n} tells = after_by {m = n} (omega arith) tells

-- ---- one step and then another

module _ {A B : Type 0} (n m : ℕ) (S : List Token → A → Type 0) (Q : A → List Token → Type 0) (U : List Token → B → Type 0) (R : B → List Token → Type 0) (l : List Token)
    (enough : (f : List Token) (x : A) → S f x → n ≤ m + length f) (ends : (x : A) → Q x []) (p : A → Parser B)
    (next : (f r : List Token) (x : A) → S f x → Q x r → Tells m (λ g y. U (f ++ g) y) R r (p x r)) where
  begins : (f : List Token) (x : A) → S f x → BeginsIn U f
  begins f x s = (next f [] x s (ends x)).some

  moved : (x y : A) (r v : List Token) → y ≡ x → v ≡ r → Q x r → Q y v
  moved x y r v is at q = subst (λ z. Q z v) (sym is) (subst (Q x) (sym at) q)

  then_said_by : (out : ParseOutcome A) → Said n S Any l out → Meets Q out → Said n U Any l (and_then out p)
  then_said_by (Ok read) said q =
      let (f, e, s, any) = said.says in
      let first : Said n (λ f x. S f x × (x ≡ read.0)) (λ r. r ≡ read.1) l (Ok read) = record { says = (f, e, (s, refl), refl) } in
      then_said {m = m} (λ f x (s, is). enough f x s) (λ f x (s, is). begins f x s) p first (λ f r x (s, is) at. (next f r x s (moved read.0 x read.1 r is at q)).said)
  then_said_by (Err (At r)) said q = let first : Said n S (λ r. ⊥) l (Err (At r)) = record { says = said.says } in then_said {m = m} enough begins p first (λ f r x s none. absurd none)
  then_said_by (Err (Over r)) said q = let first : Said n S (λ r. ⊥) l (Err (Over r)) = record { says = said.says } in then_said {m = m} enough begins p first (λ f r x s none. absurd none)
  then_said_by (Err OutOfFuel) said q = let first : Said n S (λ r. ⊥) l (Err OutOfFuel) = record { says = said.says } in then_said {m = m} enough begins p first (λ f r x s none. absurd none)

  then_meets : (out : ParseOutcome A) → Said n S Any l out → Meets Q out → Meets R (and_then out p)
  then_meets (Ok read) said q = let (f, e, s, any) = said.says in (next f read.1 read.0 s q).meets
  then_meets (Err e) said q = tt

  then_by : (out : ParseOutcome A) → Tells n S Q l out → Tells n U R l (and_then out p)
  then_by out tells =
      let (w, x, s) = tells.some in
      let (v, y, made) = begins w x s in
      record { some = (w ++ v, y, made); said = then_said_by out tells.said tells.meets; meets = then_meets out tells.said tells.meets }

pub then_tells : {A B : Type 0} {n : ℕ} {S : List Token → A → Type 0} {U : List Token → B → Type 0} {R : B → List Token → Type 0} {l : List Token} {out : ParseOutcome A} (p : A → Parser B)
    → Tells n S Free l out → ((f r : List Token) (x : A) → S f x → Tells n (λ g y. U (f ++ g) y) R r (p x r)) → Tells n U R l (and_then out p)
then_tells {n = n} {S = S} {U = U} {R = R} {l = l} {out = out} p tells next = then_by n n S Free U R l (λ f x s. omega arith) (λ x. tt) p (λ f r x s _. next f r x s) out tells

-- where the rest behind the first hangs on its value
pub then_met : {A B : Type 0} {n : ℕ} {S : List Token → A → Type 0} {Q : A → List Token → Type 0} {U : List Token → B → Type 0} {R : B
    → List Token → Type 0} {l : List Token} {out : ParseOutcome A} (p : A → Parser B)
    → ((x : A) → Q x []) → Tells n S Q l out → ((f r : List Token) (x : A) → S f x → Q x r → Tells n (λ g y. U (f ++ g) y) R r (p x r)) → Tells n U R l (and_then out p)
then_met {n = n} {S = S} {Q = Q} {U = U} {R = R} {l = l} {out = out} p ends tells next = then_by n n S Q U R l (λ f x s. omega arith) ends p next out tells

-- a turn of a loop: the first reads a token at least
pub then_turn : {A B : Type 0} {n : ℕ} {S : List Token → A → Type 0} {U : List Token → B → Type 0} {R : B → List Token → Type 0} {l : List Token} {out : ParseOutcome A} (p : A → Parser B)
    → ((f : List Token) (x : A) → S f x → 0 < length f) → Tells (suc n) S Free l out
    → ((f r : List Token) (x : A) → S f x → Tells n (λ g y. U (f ++ g) y) R r (p x r)) → Tells (suc n) U R l (and_then out p)
then_turn {n = n} {S = S} {U = U} {R = R} {l = l} {out = out} p long tells next =
    then_by (suc n) n S Free U R l (λ f x s. let some = long f x s in omega arith) (λ x. tt) p (λ f r x s _. next f r x s) out tells

-- a phrase, and nothing behind it
pub map_tells : {A B : Type 0} {n : ℕ} {S : List Token → A → Type 0} {U : List Token → B → Type 0} {l : List Token} {out : ParseOutcome A} (make : A → B) → ((f : List Token) (x : A) → S f x → U f (make x))
    → Tells n S Free l out → Tells n U Free l (and_then out (λ x j. Ok (make x, j)))
map_tells {U = U} make made tells = then_tells _ tells (λ f r x s. done_tells (subst (λ z. U z (make x)) (sym (append_nil f)) (made f x s)))

pub map_met : {A B : Type 0} {n : ℕ} {S : List Token → A → Type 0} {Q : A → List Token → Type 0} {U : List Token → B → Type 0} {R : B
    → List Token → Type 0} {l : List Token} {out : ParseOutcome A} (make : A → B)
    → ((x : A) → Q x []) → ((f : List Token) (x : A) → S f x → U f (make x)) → ((x : A) (r : List Token) → Q x r → R (make x) r)
    → Tells n S Q l out → Tells n U R l (and_then out (λ x j. Ok (make x, j)))
map_met {U = U} make ends made rest tells = then_met _ ends tells (λ f r x s q. met_tells (subst (λ z. U z (make x)) (sym (append_nil f)) (made f x s)) (rest x r q))

-- ---- tokens that are wanted, with their places

want_by : {A : Type 0} {n : ℕ} {U : List Token → A → Type 0} {Q : A → List Token → Type 0} (q : TokenKind) (p : Place → Parser A)
    → ((t : Token) (ts : List Token) → t.kind ≡ q → Tells n (λ g y. U (t ∷ g) y) Q ts (p t.place ts))
    → (t : Token) (ts : List Token) (b : Bool) → (b ≡ true → t.kind ≡ q) → Tells n U Q (t ∷ ts) (and_then {A = Unit {0}} (if b then Ok (tt, ts) else Err (At (t ∷ ts))) (λ _. p t.place))
want_by q p next t ts true is = after_tells (next t ts (is refl))
want_by q p next t ts false is = let (w, x, s) = (next (token q) [] refl).some in refused_tells (token q ∷ w, x, s)

-- a token of a kind, where its place is used
pub want_here : {A : Type 0} {n : ℕ} {U : List Token → A → Type 0} {Q : A → List Token → Type 0} {l : List Token} (q : TokenKind)
    → ((a : TokenKind) → same_kind a q ≡ true → a ≡ q) → same_kind k.End q ≡ false
    → (p : Place → Parser A) → ((t : Token) (ts : List Token) → t.kind ≡ q → Tells n (λ g y. U (t ∷ g) y) Q ts (p t.place ts)) → Tells n U Q l (and_then (expect q l) (λ _. p (place l)))
want_here {n = n} {U = U} {Q = Q} {l = l} q is_q not_end p next = go l
  where
    go : (l : List Token) → Tells n U Q l (and_then (expect q l) (λ _. p (place l)))
    go [] = let (w, x, s) = (next (token q) [] refl).some in rw not_end (refused_tells (token q ∷ w, x, s))
    go (t ∷ ts) = want_by q p next t ts (same_kind t.kind q) (is_q t.kind)

pub want_tells : {A : Type 0} {n : ℕ} {U : List Token → A → Type 0} {Q : A → List Token → Type 0} {l : List Token} (q : TokenKind)
    → ((a : TokenKind) → same_kind a q ≡ true → a ≡ q) → same_kind k.End q ≡ false
    → (p : Unit {0} → Parser A) → ((t : Token) (ts : List Token) → t.kind ≡ q → Tells n (λ g y. U (t ∷ g) y) Q ts (p tt ts)) → Tells n U Q l (and_then (expect q l) p)
want_tells q is_q not_end p next = want_here q is_q not_end (λ _. p tt) next

-- a last token that is wanted
pub last_tells : {A : Type 0} {n : ℕ} {U : List Token → A → Type 0} {l : List Token} (q : TokenKind) → ((a : TokenKind) → same_kind a q ≡ true → a ≡ q) → same_kind k.End q ≡ false → (x : A)
    → ((t : Token) → t.kind ≡ q → U (t ∷ []) x) → Tells n U Free l (and_then (expect q l) (λ _ j. Ok (x, j)))
last_tells q is_q not_end x made = want_tells q is_q not_end (λ _ j. Ok (x, j)) (λ t ts h. done_tells (made t h))

-- a name that is spelled so
pub word_here : {A : Type 0} {n : ℕ} {U : List Token → A → Type 0} {Q : A → List Token → Type 0} {l : List Token} (word : List ℕ) (p : Place → Parser A)
    → ((t : Token) (ts : List Token) → t.kind ≡ k.Name word → Tells n (λ g y. U (t ∷ g) y) Q ts (p t.place ts)) → Tells n U Q l (and_then (expect_word word l) (λ _. p (place l)))
word_here {n = n} {U = U} {Q = Q} {l = l} word p next = go l
  where
    go : (l : List Token) → Tells n U Q l (and_then (expect_word word l) (λ _. p (place l)))
    go [] = let (w, x, s) = (next (token (k.Name word)) [] refl).some in refused_tells (token (k.Name word) ∷ w, x, s)
    go (t ∷ ts) = want_by (k.Name word) p next t ts (spells word t.kind) (spells_is word t.kind)

pub word_tells : {A : Type 0} {n : ℕ} {U : List Token → A → Type 0} {Q : A → List Token → Type 0} {l : List Token} (word : List ℕ) (p : Unit {0} → Parser A)
    → ((t : Token) (ts : List Token) → t.kind ≡ k.Name word → Tells n (λ g y. U (t ∷ g) y) Q ts (p tt ts)) → Tells n U Q l (and_then (expect_word word l) p)
word_tells word p next = word_here word (λ _. p tt) next

-- any name
name_by : {A : Type 0} {n : ℕ} {U : List Token → A → Type 0} {Q : A → List Token → Type 0} (p : Place → List ℕ → Parser A)
    → ((t : Token) (name : List ℕ) (ts : List Token) → t.kind ≡ k.Name name → Tells n (λ g y. U (t ∷ g) y) Q ts (p t.place name ts)) → BeginsIn U []
    → (t : Token) (ts : List Token) (q : TokenKind) → t.kind ≡ q → Tells n U Q (t ∷ ts) (and_then (name_of_kind q (t ∷ ts)) (p t.place))
name_by p next some t ts (k.Name name) is = after_tells (next t name ts is)
name_by p next some t ts _ is = refused_tells some

pub name_here : {A : Type 0} {n : ℕ} {U : List Token → A → Type 0} {Q : A → List Token → Type 0} {l : List Token} (p : Place → List ℕ → Parser A)
    → ((t : Token) (name : List ℕ) (ts : List Token) → t.kind ≡ k.Name name → Tells n (λ g y. U (t ∷ g) y) Q ts (p t.place name ts)) → Tells n U Q l (and_then (name_of_kind (kind l) l) (p (place l)))
name_here {n = n} {U = U} {Q = Q} {l = l} p next = go l
  where
    some : BeginsIn U []
    some = let (w, x, s) = (next (token (k.Name [])) [] [] refl).some in (token (k.Name []) ∷ w, x, s)

    go : (l : List Token) → Tells n U Q l (and_then (name_of_kind (kind l) l) (p (place l)))
    go [] = refused_tells some
    go (t ∷ ts) = name_by p next some t ts t.kind refl
