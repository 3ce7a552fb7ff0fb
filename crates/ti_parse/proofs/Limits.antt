-- Completeness with limits is proved to be preserved by each parsing step: a phrase is parsed up to its first token above a limit.
use Rattle.std.proofs.Common.{◌≡◌, ℕ, ◌<◌, List, [], ◌∷◌, ◌++◌, length, Ok, Err, refl, sym, ap, ◌∙◌, subst, append_assoc, arith, length-append, true, false, Bool, if◌then◌else◌}
use Rattle.std.specs.Str.{bytes_eq}
use Rattle.std.proofs.lemmas.Bool.{eq-eqb}
use Rattle.std.proofs.lemmas.List.{map-append}
use Rattle.ti_syntax.specs.declared.token.Token.{Token}
use Rattle.ti_syntax.specs.declared.token.TokenKind.{TokenKind}
use Rattle.ti_syntax.specs.declared.token.TokenKind.TheVariants as k
use Rattle.ti_syntax.specs.Tokens.{code, same_kind}
use Rattle.ti_syntax.specs.Trees.Expressions.{Exp}
use Rattle.ti_syntax.specs.Spelling.Expressions.{Whole}
use Rattle.ti_syntax.specs.Spelling.Loads.{Load, Free, free, weights}
use Rattle.ti_parse_expr.specs.declared.parse.Form.TheVariants as form
use Rattle.ti_parse_expr.specs.Mirrors.Input.{At, Over, ParseOutcome, Parser, and_then, kind, next_is, spells, expect, expect_word, any_name, name_of_kind}
use Rattle.ti_parse_expr.specs.Mirrors.Full.{Limits, above, limited_to, full_to}
use Rattle.ti_parse_expr.proofs.Lemmas.{append_nil, IsCloser, full_reads, limited_fits, limited_then}
use Rattle.ti_parse.proofs.Lengths.{Loaded, none_loaded, one_loaded, both_loaded, free_loaded, weights_loaded}

-- ---- what is read

-- A reader with so many turns reads a list of fewer tokens before a rest, up to the first token whose load is above its limit.
pub record IsRead {A : Type 0} (limits : Limits) (fuel : ℕ) (p : Parser A) (loads : List Load) (l r : List Token) (x : A) : Type 0 where
  pub loaded : Loaded loads l
  pub reads : length l < fuel → p (l ++ r) ≡ limited_to limits loads (l ++ r) (Ok (x, r))

-- a part that is read where the turns are enough
pub bounded_reads : {A : Type 0} {limits : Limits} {fuel : ℕ} {p : Parser A} {loads : List Load} {l r : List Token} {x : A}
    → Loaded loads l → (length l < fuel → IsRead limits fuel p loads l r x) → IsRead limits fuel p loads l r x
bounded_reads loaded part = record { loaded = loaded; reads = λ lt. (part lt).reads lt }

-- another reader that goes the same way here
pub same_reads : {A : Type 0} {limits : Limits} {fuel : ℕ} {p : Parser A} {loads : List Load} {l r : List Token} {x : A} (q : Parser A)
    → p (l ++ r) ≡ q (l ++ r) → IsRead limits fuel q loads l r x → IsRead limits fuel p loads l r x
same_reads q same part = record { loaded = part.loaded; reads = λ lt. same ∙ part.reads lt }

-- the same tree, written otherwise
pub result_reads : {A : Type 0} {limits : Limits} {fuel : ℕ} {p : Parser A} {loads : List Load} {l r : List Token} {x y : A} → x ≡ y
    → IsRead limits fuel p loads l r x → IsRead limits fuel p loads l r y
result_reads {limits = limits} {fuel = fuel} {p = p} {loads = loads} {l = l} {r = r} same part = subst (λ z. IsRead limits fuel p loads l r z) same part

-- ---- parts in a row

-- what is said of two parts apart, of both
then_limited : {B : Type 0} (limits : Limits) (out : ParseOutcome B) (q : Parser B) (la lb : List Load) (a b r : List Token) (y : B) → Loaded la a
    → out ≡ limited_to limits la (a ++ (b ++ r)) (q (b ++ r)) → q (b ++ r) ≡ limited_to limits lb (b ++ r) (Ok (y, r)) → out ≡ limited_to limits (la ++ lb) ((a ++ b) ++ r) (Ok (y, r))
then_limited limits out q la lb a b r y fits first second =
    first
    ∙ ap (limited_to limits la (a ++ (b ++ r))) second
    ∙ sym (limited_fits limits la lb a (b ++ r) (Ok (y, r)) fits.long)
    ∙ ap (λ i. limited_to limits (la ++ lb) i (Ok (y, r))) (sym (append_assoc a b r))

-- One part and then another. What stands behind the first is the second and the rest.
pub then_reads : {A B : Type 0} {limits : Limits} {fuel : ℕ} {p : Parser A} {la lb : List Load} {a b r : List Token} {x : A} {y : B} (f : A → Parser B)
    → IsRead limits fuel p la a (b ++ r) x → IsRead limits fuel (f x) lb b r y → IsRead limits fuel (λ i. and_then (p i) f) (la ++ lb) (a ++ b) r y
then_reads {limits = limits} {p = p} {la = la} {lb = lb} {a = a} {b = b} {r = r} {x = x} {y = y} f first second = record {
  loaded = both_loaded first.loaded second.loaded;
  reads = λ lt.
      let n = length-append a b in
      let before = ap (λ i. and_then (p i) f) (append_assoc a b r) ∙ ap (λ o. and_then o f) (first.reads (omega arith)) ∙ limited_then limits la (a ++ (b ++ r)) x (b ++ r) f in
      then_limited limits (and_then (p ((a ++ b) ++ r)) f) (f x) la lb a b r y first.loaded before (second.reads (omega arith));
}

pub done_reads : {A : Type 0} {limits : Limits} {fuel : ℕ} {r : List Token} {x : A} → IsRead limits fuel (λ i. Ok (x, i)) [] [] r x
done_reads = record { loaded = none_loaded; reads = λ lt. refl }

-- nothing is left to read
pub last_reads : {A : Type 0} {limits : Limits} {fuel : ℕ} {p : Parser A} {loads : List Load} {l r : List Token} {x : A}
    → IsRead limits fuel p (loads ++ []) (l ++ []) r x → IsRead limits fuel p loads l r x
last_reads {limits = limits} {fuel = fuel} {p = p} {loads = loads} {l = l} {r = r} {x = x} part =
    subst (λ a. IsRead limits fuel p a l r x) (append_nil loads) (subst (λ a. IsRead limits fuel p (loads ++ []) a r x) (append_nil l) part)

-- the tree is made of what was read last
pub made_reads : {A B : Type 0} {limits : Limits} {fuel : ℕ} {p : Parser A} {loads : List Load} {l r : List Token} {x : A} {y : B} (f : A → Parser B)
    → IsRead limits fuel p loads l r x → f x r ≡ Ok (y, r) → IsRead limits fuel (λ i. and_then (p i) f) loads l r y
made_reads {r = r} {y = y} f first made = last_reads (then_reads f first (record { loaded = none_loaded; reads = λ lt. made }))

-- the first of two parts is itself two
pub regroup_reads : {A : Type 0} {limits : Limits} {fuel : ℕ} {p : Parser A} {r : List Token} {x : A} (la lb lc : List Load) (a b c : List Token)
    → IsRead limits fuel p (la ++ (lb ++ lc)) (a ++ (b ++ c)) r x → IsRead limits fuel p ((la ++ lb) ++ lc) ((a ++ b) ++ c) r x
regroup_reads {limits = limits} {fuel = fuel} {p = p} {r = r} {x = x} la lb lc a b c part =
    subst (λ z. IsRead limits fuel p z ((a ++ b) ++ c) r x) (sym (append_assoc la lb lc)) (subst (λ z. IsRead limits fuel p (la ++ (lb ++ lc)) z r x) (sym (append_assoc a b c)) part)

-- and the other way round
pub ungroup_reads : {A : Type 0} {limits : Limits} {fuel : ℕ} {p : Parser A} {r : List Token} {x : A} (la lb lc : List Load) (a b c : List Token)
    → IsRead limits fuel p ((la ++ lb) ++ lc) ((a ++ b) ++ c) r x → IsRead limits fuel p (la ++ (lb ++ lc)) (a ++ (b ++ c)) r x
ungroup_reads {limits = limits} {fuel = fuel} {p = p} {r = r} {x = x} la lb lc a b c part =
    subst (λ z. IsRead limits fuel p z (a ++ (b ++ c)) r x) (append_assoc la lb lc) (subst (λ z. IsRead limits fuel p ((la ++ lb) ++ lc) z r x) (append_assoc a b c) part)

-- ---- one token

-- the next token, whose load is within its limit, is taken
pub load_took : {A : Type 0} {limits : Limits} {fuel : ℕ} {p : Parser A} {load : Load} {loads : List Load} {t : Token} {ts r : List Token} {x : A}
    → above limits load ≡ false → IsRead limits fuel (λ i. p (t ∷ i)) loads ts r x → IsRead limits fuel p (load ∷ loads) (t ∷ ts) r x
load_took {limits = limits} {loads = loads} {t = t} {ts = ts} {r = r} {x = x} within rest = record {
  loaded = one_loaded rest.loaded;
  reads = λ lt. rest.reads (omega (arith, lt)) ∙ ap (λ z. if z then Err (Over (t ∷ (ts ++ r))) else limited_to limits loads (ts ++ r) (Ok (x, r))) (sym within);
}

-- the next token, which has no load, is taken
pub took : {A : Type 0} {limits : Limits} {fuel : ℕ} {p : Parser A} {loads : List Load} {t : Token} {ts r : List Token} {x : A}
    → IsRead limits fuel (λ i. p (t ∷ i)) loads ts r x → IsRead limits fuel p (Free ∷ loads) (t ∷ ts) r x
took rest = load_took refl rest

-- the next token is too deep
pub over_reads : {A : Type 0} {limits : Limits} {fuel : ℕ} {p : Parser A} {load : Load} {loads : List Load} {t : Token} {ts r : List Token} {x : A}
    → above limits load ≡ true → Loaded (load ∷ loads) (t ∷ ts) → p (t ∷ (ts ++ r)) ≡ Err (Over (t ∷ (ts ++ r))) → IsRead limits fuel p (load ∷ loads) (t ∷ ts) r x
over_reads {limits = limits} {loads = loads} {t = t} {ts = ts} {r = r} {x = x} deep loaded is = record {
  loaded = loaded;
  reads = λ lt. is ∙ ap (λ z. if z then Err (Over (t ∷ (ts ++ r))) else limited_to limits loads (ts ++ r) (Ok (x, r))) (sym deep);
}

pub same_self : (q : TokenKind) → same_kind q q ≡ true
same_self q = eq-eqb (code q) (code q) refl

-- The next token is of the kind that is wanted, or the word, or a name. What is read then may know the list that began with it.
pub want : {A : Type 0} {limits : Limits} {fuel : ℕ} {loads : List Load} {t : Token} {ts r : List Token} {x : A} (q : TokenKind) (f : List Token → Unit {0} → Parser A) → t.kind ≡ q
    → IsRead limits fuel (λ i. f (t ∷ i) tt i) loads ts r x → IsRead limits fuel (λ i. and_then (expect q i) (f i)) (Free ∷ loads) (t ∷ ts) r x
want {t = t} {ts = ts} {r = r} q f h rest = record {
  loaded = one_loaded rest.loaded;
  reads = λ lt.
      ap (λ z. and_then (if z then Ok (tt, ts ++ r) else Err (At (t ∷ (ts ++ r)))) (f (t ∷ (ts ++ r)))) (ap (λ a. same_kind a q) h ∙ same_self q)
      ∙ rest.reads (omega (arith, lt));
}

pub want_word : {A : Type 0} {limits : Limits} {fuel : ℕ} {loads : List Load} {t : Token} {ts r : List Token} {x : A} (word : List ℕ)
    (f : List Token → Unit {0} → Parser A) → bytes_eq word word ≡ true → t.kind ≡ k.Name word
    → IsRead limits fuel (λ i. f (t ∷ i) tt i) loads ts r x → IsRead limits fuel (λ i. and_then (expect_word word i) (f i)) (Free ∷ loads) (t ∷ ts) r x
want_word {t = t} {ts = ts} {r = r} word f same h rest = record {
  loaded = one_loaded rest.loaded;
  reads = λ lt.
      ap (λ z. and_then (if z then Ok (tt, ts ++ r) else Err (At (t ∷ (ts ++ r)))) (f (t ∷ (ts ++ r)))) (ap (spells word) h ∙ same)
      ∙ rest.reads (omega (arith, lt));
}

pub name_took : {A : Type 0} {limits : Limits} {fuel : ℕ} {loads : List Load} {t : Token} {ts r : List Token} {x : A} {name : List ℕ} (f : List Token → List ℕ → Parser A) → t.kind ≡ k.Name name
    → IsRead limits fuel (λ i. f (t ∷ i) name i) loads ts r x → IsRead limits fuel (λ i. and_then (any_name i) (f i)) (Free ∷ loads) (t ∷ ts) r x
name_took {t = t} {ts = ts} {r = r} f h rest = record {
  loaded = one_loaded rest.loaded;
  reads = λ lt. ap (λ q. and_then (name_of_kind q (t ∷ (ts ++ r))) (f (t ∷ (ts ++ r)))) h ∙ rest.reads (omega (arith, lt));
}

-- ---- by the kind of the next token

-- a reader that goes by that kind
pub by_kind : {A : Type 0} {limits : Limits} {fuel : ℕ} {loads : List Load} {l r : List Token} {x : A} (f : TokenKind
    → Parser A) {q : TokenKind} → kind (l ++ r) ≡ q → IsRead limits fuel (f q) loads l r x
    → IsRead limits fuel (λ i. f (kind i) i) loads l r x
by_kind {l = l} {r = r} f h part = record { loaded = part.loaded; reads = λ lt. ap (λ z. f z (l ++ r)) h ∙ part.reads lt }

-- a test of the list
pub test_reads : {A : Type 0} {limits : Limits} {fuel : ℕ} {loads : List Load} {l r : List Token} {x : A} (test : List Token → Bool) (p q : Parser A) (b : Bool) → test (l ++ r) ≡ b
    → IsRead limits fuel (if b then p else q) loads l r x → IsRead limits fuel (λ i. if◌then◌else◌ {A = Parser A} (test i) p q i) loads l r x
test_reads {A = A} {l = l} {r = r} test p q b h part = record { loaded = part.loaded; reads = λ lt. ap (λ z. if◌then◌else◌ {A = Parser A} z p q (l ++ r)) h ∙ part.reads lt }

-- whether a kind is next, where it is known which is
pub sees_reads : {A : Type 0} {limits : Limits} {fuel : ℕ} {loads : List Load} {l r : List Token} {x : A} (wanted : TokenKind) (p q : Parser A) {is : TokenKind} → kind (l ++ r) ≡ is
    → IsRead limits fuel (if same_kind is wanted then p else q) loads l r x → IsRead limits fuel (λ i. if◌then◌else◌ {A = Parser A} (next_is wanted i) p q i) loads l r x
sees_reads wanted p q {is = is} h part = test_reads (next_is wanted) p q (same_kind is wanted) (ap (λ z. same_kind z wanted) h) part

-- ---- parts whose tokens are free

pub limited_free : {A : Type 0} (limits : Limits) (l i : List Token) (out : ParseOutcome A) → limited_to limits (free l) i out ≡ out
limited_free limits [] i out = refl
limited_free limits (t ∷ l) i out = limited_free limits l _ out

-- what is read without a limit
pub free_reads : {A : Type 0} {limits : Limits} {fuel : ℕ} {l r : List Token} {x : A} (p : Parser A) → (length l < fuel → p (l ++ r) ≡ Ok (x, r)) → IsRead limits fuel p (free l) l r x
free_reads {limits = limits} {l = l} {r = r} {x = x} p is = record { loaded = free_loaded l; reads = λ lt. is lt ∙ sym (limited_free limits l (l ++ r) (Ok (x, r))) }

-- two such parts in a row
pub free_both : {A : Type 0} {limits : Limits} {fuel : ℕ} {p : Parser A} {r : List Token} {x : A} (a b : List Token)
    → IsRead limits fuel p (free a ++ free b) (a ++ b) r x → IsRead limits fuel p (free (a ++ b)) (a ++ b) r x
free_both {limits = limits} {fuel = fuel} {p = p} {r = r} {x = x} a b part = subst (λ z. IsRead limits fuel p z (a ++ b) r x) (sym (map-append (λ t. Free) a b)) part

-- such a part, behind which another reader goes on
pub free_then : {A : Type 0} {limits : Limits} {fuel : ℕ} {p : Parser A} {b r : List Token} {lb : List Load} {x : A} (l : List Token)
    (q : Parser A) → (length l < fuel → p (l ++ (b ++ r)) ≡ q (b ++ r)) → IsRead limits fuel q lb b r x
    → IsRead limits fuel p (free l ++ lb) (l ++ b) r x
free_then {limits = limits} {p = p} {b = b} {r = r} {lb = lb} {x = x} l q is rest = record {
  loaded = both_loaded (free_loaded l) rest.loaded;
  reads = λ lt.
      let n = length-append l b in
      let before = ap p (append_assoc l b r) ∙ is (omega arith) ∙ sym (limited_free limits l (l ++ (b ++ r)) (q (b ++ r))) in
      then_limited limits (p ((l ++ b) ++ r)) q (free l) lb l b r x (free_loaded l) before (rest.reads (omega arith));
}

-- ---- full expressions

-- where such a token stands that closes an expression
pub ends : {p q : TokenKind} → IsCloser q → p ≡ q → IsCloser p
ends closes h = subst IsCloser (sym h) closes

pub whole : {limits : Limits} {fuel : ℕ} {l r : List Token} {x : Exp} → IsCloser (kind r) → Whole 1 l x → IsRead limits fuel (full_to limits form.Whole) (weights l) l r x
whole {limits = limits} {l = l} {r = r} {x = x} closes s = record {
  loaded = weights_loaded l;
  reads = λ lt. full_reads limits form.Whole l r x s (record { operand = closes.operand; call = λ _. closes.call; operators = omega (arith, closes.operators) });
}

pub mul : {limits : Limits} {fuel : ℕ} {l r : List Token} {x : Exp} → IsCloser (kind r) → Whole 10 l x → IsRead limits fuel (full_to limits form.Mul) (weights l) l r x
mul {limits = limits} {l = l} {r = r} {x = x} closes s = record {
  loaded = weights_loaded l;
  reads = λ lt. full_reads limits form.Mul l r x s (record { operand = closes.operand; call = λ _. closes.call; operators = omega (arith, closes.operators) });
}
