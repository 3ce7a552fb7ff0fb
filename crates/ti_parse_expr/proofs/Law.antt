-- What holds of a parser for a language (soundness, viable prefixes at errors, sufficient fuel) is proved to be preserved by each step.
use Rattle.std.proofs.Common.{◌≡◌, ℕ, zero, suc, ◌+◌, ◌≤◌, List, [], ◌∷◌, ◌++◌, length, Ok, Err, refl, sym, ap, ◌∙◌, subst, append_assoc, arith, length-append, true, false, Bool, if◌then◌else◌}
use Rattle.ti_syntax.specs.declared.token.Token.{Token}
use Rattle.ti_syntax.specs.declared.token.TokenKind.{TokenKind}
use Rattle.ti_syntax.specs.declared.token.TokenKind.TheVariants as k
use Rattle.ti_syntax.specs.Tokens.{same_kind}
use Rattle.ti_parse_expr.specs.Mirrors.Input.{At, Over, OutOfFuel, ParseOutcome, Parser, and_then, take_token, expect}

-- a phrase begins so
abbrev pub BeginsIn : {A : Type 0} → (List Token → A → Type 0) → List Token → Type 0
BeginsIn {A} S f = (w : List Token) × (x : A) × S (f ++ w) x

-- some token of a kind
abbrev pub token : TokenKind → Token
token kind = record { kind = kind; place = record { line = 0; col = 0 } }

-- what a reader with so many turns has answered on a list: a phrase that the list begins with, and a rest that meets Q;
-- or, from the refused token on, a list whose front begins a phrase, or, from the token that is too deep on, a list whose front
-- begins a phrase with that token
abbrev pub Says : {A : Type 0} → ℕ → (List Token → A → Type 0) → (List Token → Type 0) → List Token → ParseOutcome A → Type 0
Says n S Q l (Ok p) = (f : List Token) × (l ≡ f ++ p.1) × S f p.0 × Q p.1
Says n S Q l (Err (At r)) = (f : List Token) × (l ≡ f ++ r) × BeginsIn S f
Says n S Q l (Err (Over r)) = (f : List Token) × (t : Token) × (u : List Token) × (l ≡ f ++ t ∷ u) × (r ≡ t ∷ u) × BeginsIn S (f ++ t ∷ [])
Says n S Q l (Err OutOfFuel) = n ≤ length l

abbrev pub Any : List Token → Type 0
Any r = Unit {0}

-- ---- the language that is left: behind a front f of a phrase of U it is `λ g y. U (f ++ g) y`

after_front : {A : Type 0} (n m : ℕ) (U : List Token → A → Type 0) (R : List Token → Type 0) (l f r : List Token) (out : ParseOutcome A)
    → l ≡ f ++ r → n ≤ m + length f → Says m (λ g y. U (f ++ g) y) R r out → Says n U R l out
after_front n m U R l f r (Ok p) e le (g, e', s, q) = (f ++ g, e ∙ ap (λ z. f ++ z) e' ∙ sym (append_assoc f g p.1), s, q)
after_front n m U R l f r (Err (At r')) e le (g, e', (w, y, t)) = (f ++ g, e ∙ ap (λ z. f ++ z) e' ∙ sym (append_assoc f g r'), (w, y, subst (λ z. U z y) (sym (append_assoc f g w)) t))
after_front n m U R l f r (Err (Over r')) e le (g, t, u, e', is, (w, y, s)) =
    let moved : f ++ ((g ++ t ∷ []) ++ w) ≡ ((f ++ g) ++ t ∷ []) ++ w = sym (append_assoc f (g ++ t ∷ []) w) ∙ ap (λ z. z ++ w) (sym (append_assoc f g (t ∷ []))) in
    (f ++ g, t, u, e ∙ ap (λ z. f ++ z) e' ∙ sym (append_assoc f g (t ∷ u)), is, (w, y, subst (λ z. U z y) moved s))
after_front n m U R l f r (Err OutOfFuel) e le h = omega (arith, ap length e, length-append f r, h, le)

-- One step and then another, which has m turns. Each phrase of the first begins a phrase of U.
says_then : {A B : Type 0} (n m : ℕ) (S : List Token → A → Type 0) (Q : List Token → Type 0) (U : List Token → B → Type 0) (R : List Token → Type 0)
    → ((f : List Token) (x : A) → S f x → n ≤ m + length f) → ((f : List Token) (x : A) → S f x → BeginsIn U f)
    → (l : List Token) (out : ParseOutcome A) (k : A → Parser B) → Says n S Q l out
    → ((f r : List Token) (x : A) → S f x → Q r → Says m (λ g y. U (f ++ g) y) R r (k x r)) → Says n U R l (and_then out k)
says_then n m S Q U R enough begins l (Ok p) k (f, e, s, q) next_says = after_front n m U R l f p.1 (k p.0 p.1) e (enough f p.0 s) (next_says f p.1 p.0 s q)
says_then n m S Q U R enough begins l (Err (At r)) k (f, e, (w, x, s)) next_says =
    let (v, y, t) = begins (f ++ w) x s in
    (f, e, (w ++ v, y, subst (λ z. U z y) (append_assoc f w v) t))
says_then n m S Q U R enough begins l (Err (Over r)) k (f, t, u, e, is, (w, x, s)) next_says =
    let (v, y, made) = begins ((f ++ t ∷ []) ++ w) x s in
    (f, t, u, e, is, (w ++ v, y, subst (λ z. U z y) (append_assoc (f ++ t ∷ []) w v) made))
says_then n m S Q U R enough begins l (Err OutOfFuel) k h next_says = h

says_as : {A : Type 0} (n m : ℕ) (T U : List Token → A → Type 0) (Q R : List Token → Type 0) (l : List Token) (out : ParseOutcome A)
    → n ≤ m → ((g : List Token) (y : A) → T g y → U g y) → ((r : List Token) → Q r → R r) → Says m T Q l out → Says n U R l out
says_as n m T U Q R l (Ok p) le as_u as_r (g, e, s, q) = (g, e, as_u g p.0 s, as_r p.1 q)
says_as n m T U Q R l (Err (At r)) le as_u as_r (g, e, (w, y, s)) = (g, e, (w, y, as_u (g ++ w) y s))
says_as n m T U Q R l (Err (Over r)) le as_u as_r (g, t, u, e, is, (w, y, s)) = (g, t, u, e, is, (w, y, as_u ((g ++ t ∷ []) ++ w) y s))
says_as n m T U Q R l (Err OutOfFuel) le as_u as_r h = omega (arith, h, le)

-- ---- the same as a record, from which antt finds the arguments

pub record Said {A : Type 0} (n : ℕ) (U : List Token → A → Type 0) (R : List Token → Type 0) (l : List Token) (out : ParseOutcome A) : Type 0 where
  pub says : Says n U R l out

pub then_said : {A B : Type 0} {n m : ℕ} {S : List Token → A → Type 0} {Q : List Token → Type 0} {U : List Token → B → Type 0} {R : List Token → Type 0} {l : List Token} {out : ParseOutcome A}
    → ((f : List Token) (x : A) → S f x → n ≤ m + length f) → ((f : List Token) (x : A) → S f x → BeginsIn U f)
    → (k : A → Parser B) → Said n S Q l out
    → ((f r : List Token) (x : A) → S f x → Q r → Said m (λ g y. U (f ++ g) y) R r (k x r)) → Said n U R l (and_then out k)
then_said {n = n} {m = m} {S = S} {Q = Q} {U = U} {R = R} {l = l} {out = out} enough begins k said next_said =
    record { says = says_then n m S Q U R enough begins l out k said.says (λ f r x s q. (next_said f r x s q).says) }

-- the next token is read, and then what is left
pub after_said : {A : Type 0} {n m : ℕ} {U : List Token → A → Type 0} {R : List Token → Type 0} {t : Token} {ts : List Token} {out : ParseOutcome A}
    → n ≤ suc m → Said m (λ g y. U (t ∷ g) y) R ts out → Said n U R (t ∷ ts) out
after_said {n = n} {m = m} {U = U} {R = R} {t = t} {ts = ts} {out = out} le said = record { says = after_front n m U R (t ∷ ts) (t ∷ []) ts out refl (omega (arith, le)) said.says }

pub as_said : {A : Type 0} {n m : ℕ} {T U : List Token → A → Type 0} {Q R : List Token → Type 0} {l : List Token} {out : ParseOutcome A}
    → n ≤ m → ((g : List Token) (y : A) → T g y → U g y) → ((r : List Token) → Q r → R r) → Said m T Q l out → Said n U R l out
as_said {n = n} {m = m} {T = T} {U = U} {Q = Q} {R = R} {l = l} {out = out} le as_u as_r said = record { says = says_as n m T U Q R l out le as_u as_r said.says }

pub done_said : {A : Type 0} {n : ℕ} {U : List Token → A → Type 0} {R : List Token → Type 0} {l : List Token} {x : A} → U [] x → R l → Said n U R l (Ok (x, l))
done_said s q = record { says = ([], refl, s, q) }

pub refused_said : {A : Type 0} {n : ℕ} {U : List Token → A → Type 0} {R : List Token → Type 0} {l : List Token} → BeginsIn U [] → Said n U R l (Err (At l))
refused_said b = record { says = ([], refl, b) }

-- the next token is too deep
pub over_said : {A : Type 0} {n : ℕ} {U : List Token → A → Type 0} {R : List Token → Type 0} {t : Token} {ts : List Token} → BeginsIn U (t ∷ []) → Said n U R (t ∷ ts) (Err (Over (t ∷ ts)))
over_said {t = t} {ts = ts} b = record { says = ([], t, ts, refl, refl, b) }

pub spent_said : {A : Type 0} {U : List Token → A → Type 0} {R : List Token → Type 0} {l : List Token} → Said zero U R l (Err OutOfFuel)
spent_said {l = l} = let h : zero ≤ length l = omega arith in record { says = h }

-- a test of the next token
pub if_said : {A : Type 0} {n : ℕ} {U : List Token → A → Type 0} {R : List Token → Type 0} {l : List Token} (b : Bool) (p q : Parser A)
    → (b ≡ true → Said n U R l (p l)) → (b ≡ false → Said n U R l (q l)) → Said n U R l ((if b then p else q) l)
if_said true p q holds fails = holds refl
if_said false p q holds fails = fails refl

-- the token that is wanted, and then a step
want_by : {A : Type 0} {n m : ℕ} (q : TokenKind) (U : List Token → A → Type 0) (R : List Token → Type 0) → ((a : TokenKind) → same_kind a q ≡ true → a ≡ q)
    → n ≤ suc m → BeginsIn U (token q ∷ []) → (t : Token) (ts : List Token) (k : Unit {0} → Parser A) → (t.kind ≡ q → Said m (λ g y. U (t ∷ g) y) R ts (k tt ts))
    → (b : Bool) → same_kind t.kind q ≡ b → Said n U R (t ∷ ts) (and_then (if b then Ok (tt, ts) else Err (At (t ∷ ts))) k)
want_by q U R is_q le (w, y, s) t ts k next_said true h = after_said le (next_said (is_q t.kind h))
want_by q U R is_q le (w, y, s) t ts k next_said false h = refused_said (token q ∷ w, y, s)

pub want_said : {A : Type 0} {n m : ℕ} {U : List Token → A → Type 0} {R : List Token → Type 0} {l : List Token} (q : TokenKind)
    → ((a : TokenKind) → same_kind a q ≡ true → a ≡ q) → same_kind k.End q ≡ false
    → n ≤ suc m → BeginsIn U (token q ∷ []) → (k : Unit {0} → Parser A) → ((t : Token) (ts : List Token) → t.kind ≡ q → Said m (λ g y. U (t ∷ g) y) R ts (k tt ts))
    → Said n U R l (and_then (expect q l) k)
want_said {n = n} {m = m} {U = U} {R = R} {l = l} q is_q not_end le (w, y, s) k next_said = go l
  where
    go : (l : List Token) → Said n U R l (and_then (expect q l) k)
    go [] = rw not_end (refused_said (token q ∷ w, y, s))
    go (t ∷ ts) = want_by q U R is_q le (w, y, s) t ts k (next_said t ts) (same_kind t.kind q) refl

-- a last token that is wanted
pub last_said : {A : Type 0} {n : ℕ} {U : List Token → A → Type 0} {l : List Token} (q : TokenKind) → ((a : TokenKind) → same_kind a q ≡ true → a ≡ q) → same_kind k.End q ≡ false → (x : A)
    → ((t : Token) → t.kind ≡ q → U (t ∷ []) x) → Said n U Any l (and_then (expect q l) (λ _ j. Ok (x, j)))
last_said {n = n} q is_q not_end x made = want_said {m = n} q is_q not_end (omega arith) ([], x, made (token q) refl) (λ _ j. Ok (x, j)) (λ t ts h. done_said (made t h) tt)

pub append_nil : {A : Type 0} (a : List A) → a ++ [] ≡ a
append_nil [] = refl
append_nil (x ∷ a) = ap (λ z. x ∷ z) (append_nil a)

-- behind a front of a phrase nothing has to follow
pub ended : {A : Type 0} (U : List Token → A → Type 0) (f : List Token) (x : A) → U f x → U (f ++ []) x
ended U f x s = subst (λ z. U z x) (sym (append_nil f)) s
