-- Arrivals in the history of a run: which there are, and that they stay as the history goes on.
use Rattle.std.proofs.Common.{◌≡◌, ℕ, zero, suc, ◌+◌, ◌<◌, ◌≤◌, ◌==◌, Bool, true, false, ◌&&◌, cond, count_by, option_map, Option, Some, None, List, [], ◌∷◌, ◌++◌, reverse, refl, ap, ap₂, sym, ◌∙◌, subst, arith, eq-eqb, eqb-true}
use Rattle.std.proofs.lemmas.List.{reverse-append}
use Rattle.std.proofs.lemmas.List.Elements.{filter-append}
use Rattle.std.proofs.lemmas.List.Sums.{sum_by-append}
use Rattle.ti_base.specs.declared.action.Action.{Action}
use Rattle.ti_base.specs.declared.action.Action.TheVariants as act
use Rattle.ti_base.specs.declared.action.CollKind.{CollKind}
use Rattle.ti_base.specs.declared.action.CollKind.TheVariants as coll
use Rattle.ti_base.specs.declared.entry.Entry.{Entry}
use Rattle.ti_lang.specs.Meaning.Histories.{History, history_of, is_arrival, entries_of, arrivals}
use Rattle.ti_lang.specs.Meaning.RoundsOf.{Arrival, arrival_in, arrival_at, last_arrival, makes_region, rounds_making}
use Rattle.ti_align.proofs.Runs.Vars.{true_false, not_true, and_left, and_right, if_true, if_false}
use Rattle.ti_align.proofs.Runs.Entries.{arrivals_both, own, other}

-- an arrival of the process
abbrev pub is_own : ℕ → Entry → Bool
is_own i e = (e.proc == i) && is_arrival e.act

-- ---- how many

pub one_own : (i : ℕ) (e : Entry) → is_own i e ≡ true → arrivals i (e ∷ []) ≡ 1
one_own i e k = ap (count_by (λ (e : Entry). is_arrival e.act)) (own i e (and_left _ _ k)) ∙ counted (and_right (e.proc == i) _ k)
  where
    counted : is_arrival e.act ≡ true → count_by (λ (e : Entry). is_arrival e.act) (e ∷ []) ≡ 1
    counted h = rw h refl

none_own : (i : ℕ) (e : Entry) → is_own i e ≡ false → arrivals i (e ∷ []) ≡ 0
none_own i e k = go (e.proc == i) refl
  where
    uncounted : is_arrival e.act ≡ false → count_by (λ (e : Entry). is_arrival e.act) (e ∷ []) ≡ 0
    uncounted h = rw h refl

    go : (b : Bool) → (e.proc == i) ≡ b → arrivals i (e ∷ []) ≡ 0
    go true h = ap (count_by (λ (e : Entry). is_arrival e.act)) (own i e h) ∙ uncounted (sym (ap (λ b. b && is_arrival e.act) h) ∙ k)
    go false h = ap (count_by (λ (e : Entry). is_arrival e.act)) (other i e h)

add_one : (k n : ℕ) → k ≡ 1 → k + n ≡ suc n
add_one k n h = omega arith

add_none : (k n : ℕ) → k ≡ 0 → k + n ≡ n
add_none k n h = omega arith

pub more_own : (i : ℕ) (e : Entry) (h : History) → is_own i e ≡ true → arrivals i (e ∷ h) ≡ suc (arrivals i h)
more_own i e h k = arrivals_both i (e ∷ []) h ∙ add_one _ _ (one_own i e k)

pub more_other : (i : ℕ) (e : Entry) (h : History) → is_own i e ≡ false → arrivals i (e ∷ h) ≡ arrivals i h
more_other i e h k = arrivals_both i (e ∷ []) h ∙ add_none _ _ (none_own i e k)

swapped : (a b c d : ℕ) → a ≡ c → a + b ≡ b + c
swapped a b c d h = omega arith

-- a history has the arrivals of its entries
pub back : (i : ℕ) (es : List Entry) → arrivals i (history_of es) ≡ arrivals i es
back i [] = refl
back i (e ∷ es) =
    ap (arrivals i) (reverse-append (e ∷ []) es) ∙ arrivals_both i (reverse es) (e ∷ []) ∙ swapped _ _ _ 0 (back i es) ∙ sym (arrivals_both i (e ∷ []) es)

-- ---- which

pub at_other : (i n : ℕ) (e : Entry) (h : History) → is_own i e ≡ false → arrival_at i n (e ∷ h) ≡ arrival_at i n h
at_other i n e h k = if_false _ _ _ (ap (λ b. b && (arrivals i (e ∷ h) == n)) k)

-- the newest one
pub at_last : (i n : ℕ) (e : Entry) (h : History) → is_own i e ≡ true → (arrivals i (e ∷ h) == n) ≡ true → arrival_at i n (e ∷ h) ≡ arrival_in e.act
at_last i n e h k l = if_true _ _ _ (ap₂ (λ a b. a && b) k l)

-- an older one
at_older : (i n : ℕ) (e : Entry) (h : History) → is_own i e ≡ true → (arrivals i (e ∷ h) == n) ≡ false → arrival_at i n (e ∷ h) ≡ arrival_at i n h
at_older i n e h k l = if_false _ _ _ (ap₂ (λ a b. a && b) k l)

none_some : (a : Arrival) → ◌≡◌ {A = Option Arrival} None (Some a) → ⊥
none_some a e = cc

-- how an arrival comes into the history
pub data Comes (i n : ℕ) (e : Entry) (h : History) (a : Arrival) : Type 0 where
  before : arrival_at i n h ≡ Some a → Comes i n e h a
  now : is_own i e ≡ true → arrivals i (e ∷ h) ≡ n → arrival_in e.act ≡ Some a → Comes i n e h a

pub comes : (i n : ℕ) (e : Entry) (h : History) (a : Arrival) → arrival_at i n (e ∷ h) ≡ Some a → Comes i n e h a
comes i n e h a z = go (is_own i e) refl (arrivals i (e ∷ h) == n) refl
  where
    go : (b : Bool) → is_own i e ≡ b → (c : Bool) → (arrivals i (e ∷ h) == n) ≡ c → Comes i n e h a
    go false k c l = before (sym (at_other i n e h k) ∙ z)
    go true k false l = before (sym (at_older i n e h k l) ∙ z)
    go true k true l = now k (eqb-true _ _ l) (sym (at_last i n e h k l) ∙ z)

at_most : (a b n : ℕ) → a ≡ n → n ≤ a
at_most a b n h = omega arith

not_less : (a b n : ℕ) → n ≤ a → a ≡ b → n ≤ b
not_less a b n h k = omega arith

one_more : (a b n : ℕ) → n ≤ a → b ≡ suc a → n ≤ b
one_more a b n h k = omega arith

-- the process has come so far
pub reached : (i n : ℕ) (h : History) (a : Arrival) → arrival_at i n h ≡ Some a → n ≤ arrivals i h
reached i n [] a z = absurd (none_some a z)
reached i n (e ∷ h) a z = by (comes i n e h a z) (λ y. reached i n h a y)
  where
    rises : n ≤ arrivals i h → (b : Bool) → is_own i e ≡ b → n ≤ arrivals i (e ∷ h)
    rises l true k = one_more _ _ _ l (more_own i e h k)
    rises l false k = not_less _ _ _ l (sym (more_other i e h k))

    by : Comes i n e h a → (arrival_at i n h ≡ Some a → n ≤ arrivals i h) → n ≤ arrivals i (e ∷ h)
    by (before y) ih = rises (ih y) (is_own i e) refl
    by (now k l y) ih = at_most _ 0 _ l

past : (a b n : ℕ) → n ≤ a → b ≡ suc a → b ≡ n → ⊥
past a b n h k l = absurd (omega arith)

-- an arrival stays
pub stays : (i n : ℕ) (e : Entry) (h : History) (a : Arrival) → arrival_at i n h ≡ Some a → arrival_at i n (e ∷ h) ≡ Some a
stays i n e h a z = go (is_own i e) refl
  where
    go : (b : Bool) → is_own i e ≡ b → arrival_at i n (e ∷ h) ≡ Some a
    go false k = at_other i n e h k ∙ z
    go true k = at_older i n e h k (not_true _ (λ l. past _ _ n (reached i n h a z) (more_own i e h k) (eqb-true _ _ l))) ∙ z

is_in : (a : Action) → is_arrival a ≡ true → (x : Arrival) × (arrival_in a ≡ Some x)
is_in (act.Arrive kind arg given) k = (_, refl)
is_in _ k = absurd (true_false (sym k))

less_now : (a b m : ℕ) → m < b → b ≡ suc a → (b ≡ suc m → ⊥) → m < a
less_now a b m h k l = go (m == a) refl
  where
    go : (c : Bool) → (m == a) ≡ c → m < a
    go true z = let q = eqb-true m a z in absurd (l (omega arith))
    go false z = let ne : (m ≡ a → ⊥) = λ q. true_false (sym (eq-eqb m a q) ∙ z) in omega (arith, ne)

-- each arrival up to the last is there
pub there : (i m : ℕ) (h : History) → m < arrivals i h → (a : Arrival) × (arrival_at i (suc m) h ≡ Some a)
there i m [] l = absurd (none_less l)
  where
    none_less : m < 0 → ⊥
    none_less k = absurd (omega arith)
there i m (e ∷ h) l = go (is_own i e) refl (arrivals i (e ∷ h) == suc m) refl (λ k. there i m h k)
  where
    go : (b : Bool) → is_own i e ≡ b → (c : Bool) → (arrivals i (e ∷ h) == suc m) ≡ c
        → (m < arrivals i h → (a : Arrival) × (arrival_at i (suc m) h ≡ Some a)) → (a : Arrival) × (arrival_at i (suc m) (e ∷ h) ≡ Some a)
    go false k c z ih = let x = ih (subst (λ n. m < n) (more_other i e h k) l) in (x.0, at_other i (suc m) e h k ∙ x.1)
    go true k true z ih = let x = is_in e.act (and_right (e.proc == i) _ k) in (x.0, at_last i (suc m) e h k z ∙ x.1)
    go true k false z ih =
        let x = ih (less_now _ _ m l (more_own i e h k) (λ q. true_false (sym (eq-eqb _ _ q) ∙ z))) in
        (x.0, at_older i (suc m) e h k z ∙ x.1)

-- ---- the kind of the last one

-- of which kind the last arrival of a process is
abbrev pub last_kind : ℕ → History → Option CollKind
last_kind i h = option_map (λ (a : Arrival). a.kind) (last_arrival i h)

-- the same, behind an action of the process
abbrev pub kind_after : Action → Option CollKind → Option CollKind
kind_after (act.Arrive kind arg given) last = Some kind
kind_after a last = last

-- what was said at the last arrival
pub arrival_other : (i : ℕ) (e : Entry) (h : History) → is_own i e ≡ false → last_arrival i (e ∷ h) ≡ last_arrival i h
arrival_other i e h k = at_other i (arrivals i (e ∷ h)) e h k ∙ ap (λ n. arrival_at i n h) (more_other i e h k)

pub arrival_own : (i : ℕ) (e : Entry) (h : History) → is_own i e ≡ true → last_arrival i (e ∷ h) ≡ arrival_in e.act
arrival_own i e h k = at_last i (arrivals i (e ∷ h)) e h k (eq-eqb _ _ refl)

pub last_other : (i : ℕ) (e : Entry) (h : History) → is_own i e ≡ false → last_kind i (e ∷ h) ≡ last_kind i h
last_other i e h k = ap (option_map (λ (a : Arrival). a.kind)) (arrival_other i e h k)

kept_kind : (a : Action) (b : Option CollKind) → is_arrival a ≡ false → b ≡ kind_after a b
kept_kind (act.Arrive kind arg given) b h = absurd (true_false h)
kept_kind _ b h = refl

new_kind : (a : Action) (b : Option CollKind) → is_arrival a ≡ true → option_map (λ (a : Arrival). a.kind) (arrival_in a) ≡ kind_after a b
new_kind (act.Arrive kind arg given) b h = refl
new_kind _ b h = absurd (true_false (sym h))

pub last_own : (i : ℕ) (e : Entry) (h : History) → (e.proc == i) ≡ true → last_kind i (e ∷ h) ≡ kind_after e.act (last_kind i h)
last_own i e h k = go (is_arrival e.act) refl
  where
    go : (b : Bool) → is_arrival e.act ≡ b → last_kind i (e ∷ h) ≡ kind_after e.act (last_kind i h)
    go false l = last_other i e h (ap₂ (λ a b. a && b) k l) ∙ kept_kind e.act (last_kind i h) l
    go true l =
        ap (option_map (λ (a : Arrival). a.kind)) (arrival_own i e h (ap₂ (λ a b. a && b) k l)) ∙ new_kind e.act (last_kind i h) l

-- ---- regions made in rounds

abbrev pub kind_makes : CollKind → ℕ
kind_makes coll.MakeRegion = 1
kind_makes _ = 0

abbrev pub makes : Option Arrival → ℕ
makes None = 0
makes (Some a) = kind_makes a.kind

-- how many of the first rounds of a process make a region
abbrev pub made : ℕ → ℕ → History → ℕ
made i zero h = 0
made i (suc n) h = makes (arrival_at i (suc n) h) + made i n h

less : (n k : ℕ) → suc n ≤ k → n < k
less n k h = omega arith

weaker : (n k : ℕ) → suc n ≤ k → n ≤ k
weaker n k h = omega arith

pub made_stays : (i n : ℕ) (e : Entry) (h : History) → n ≤ arrivals i h → made i n (e ∷ h) ≡ made i n h
made_stays i zero e h l = refl
made_stays i (suc n) e h l =
    let x = there i n h (less n _ l) in
    ap₂ (λ a b. a + b) (ap makes (stays i (suc n) e h x.0 x.1 ∙ sym x.1)) (made_stays i n e h (weaker n _ l))

making_both : (i : ℕ) (es ds : List Entry) → rounds_making i (es ++ ds) ≡ rounds_making i es + rounds_making i ds
making_both i es ds =
    ap (count_by (λ (e : Entry). makes_region e.act)) (filter-append (λ (e : Entry). e.proc == i) es ds)
    ∙ sum_by-append (λ (e : Entry). cond (makes_region e.act) 1 0) (entries_of i es) (entries_of i ds)

pub quiet : (a : Action) → is_arrival a ≡ false → makes_region a ≡ false
quiet (act.Arrive kind arg given) h = absurd (true_false h)
quiet _ h = refl

makes_none : (i : ℕ) (e : Entry) → is_own i e ≡ false → rounds_making i (e ∷ []) ≡ 0
makes_none i e k = go (e.proc == i) refl
  where
    uncounted : makes_region e.act ≡ false → count_by (λ (e : Entry). makes_region e.act) (e ∷ []) ≡ 0
    uncounted h = rw h refl

    go : (b : Bool) → (e.proc == i) ≡ b → rounds_making i (e ∷ []) ≡ 0
    go true h = ap (count_by (λ (e : Entry). makes_region e.act)) (own i e h) ∙ uncounted (quiet e.act (sym (ap (λ b. b && is_arrival e.act) h) ∙ k))
    go false h = ap (count_by (λ (e : Entry). makes_region e.act)) (other i e h)

by_kind : (kind : CollKind) (arg : Option ℕ) (given : _) → cond (makes_region (act.Arrive kind arg given)) 1 0 ≡ kind_makes kind
by_kind coll.MakeRegion arg given = refl
by_kind coll.Barrier arg given = refl
by_kind coll.Broadcast arg given = refl
by_kind coll.Exchange arg given = refl
by_kind coll.DeleteRegion arg given = refl

by_act : (a : Action) → is_arrival a ≡ true → cond (makes_region a) 1 0 ≡ makes (arrival_in a)
by_act (act.Arrive kind arg given) k = by_kind kind arg given
by_act _ k = absurd (true_false (sym k))

makes_one : (i : ℕ) (e : Entry) → is_own i e ≡ true → rounds_making i (e ∷ []) ≡ makes (arrival_in e.act)
makes_one i e k = ap (count_by (λ (e : Entry). makes_region e.act)) (own i e (and_left _ _ k)) ∙ single (makes_region e.act) refl ∙ by_act e.act (and_right (e.proc == i) _ k)
  where
    single : (b : Bool) → makes_region e.act ≡ b → count_by (λ (e : Entry). makes_region e.act) (e ∷ []) ≡ cond (makes_region e.act) 1 0
    single true h = rw h refl
    single false h = rw h refl

same : (n : ℕ) → n ≤ n
same n = omega arith

-- all of them
pub made_all : (i : ℕ) (h : History) → rounds_making i h ≡ made i (arrivals i h) h
made_all i [] = refl
made_all i (e ∷ h) = go (is_own i e) refl (made_all i h)
  where
    go : (b : Bool) → is_own i e ≡ b → rounds_making i h ≡ made i (arrivals i h) h → rounds_making i (e ∷ h) ≡ made i (arrivals i (e ∷ h)) (e ∷ h)
    go false k ih =
        making_both i (e ∷ []) h ∙ add_none _ _ (makes_none i e k) ∙ ih ∙ sym (made_stays i (arrivals i h) e h (same _))
        ∙ ap (λ n. made i n (e ∷ h)) (sym (more_other i e h k))
    go true k ih =
        let m = more_own i e h k in
        making_both i (e ∷ []) h
        ∙ ap₂ (λ a b. a + b) (makes_one i e k ∙ ap makes (sym (at_last i (suc (arrivals i h)) e h k (eq-eqb _ _ m)))) (ih ∙ sym (made_stays i (arrivals i h) e h (same _)))
        ∙ ap (λ n. made i n (e ∷ h)) (sym m)

-- two processes whose arrivals are of the same kinds
pub made_same : (i j n : ℕ) (h : History) → ((m : ℕ) (a b : Arrival) → arrival_at i (suc m) h ≡ Some a → arrival_at j (suc m) h ≡ Some b
    → a.kind ≡ b.kind) → n ≤ arrivals i h → n ≤ arrivals j h → made i n h ≡ made j n h
made_same i j zero h f k l = refl
made_same i j (suc n) h f k l =
    let x = there i n h (less n _ k) in
    let y = there j n h (less n _ l) in
    ap₂ (λ a b. a + b) (ap makes x.1 ∙ ap kind_makes (f n x.0 y.0 x.1 y.1) ∙ sym (ap makes y.1)) (made_same i j n h f (weaker n _ k) (weaker n _ l))
