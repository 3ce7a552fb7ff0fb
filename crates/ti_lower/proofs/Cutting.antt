-- Proves that the slots of a block are dropped at its end.
use Rattle.std.proofs.Common.{◌≡◌, ℕ, suc, ◌<◌, ◌≤◌, ◌-◌, Bool, true, false, not, ◌&&◌, ◌||◌, if◌then◌else◌, List, [], ◌∷◌, ◌++◌, length, drop, Option, refl, ap, ap₂, sym, ◌∙◌, subst, arith}
use Rattle.std.specs.List.{list_any}
use Rattle.std.proofs.Math.Dec.{ltb}
use Rattle.std.proofs.lemmas.Bool.{ltb-false, ltb-true}
use Rattle.ti_base.specs.declared.value.Id.{Id}
use Rattle.ti_lang.specs.Program.Types.{VariableUse, ValueType, Declaration, Typed, Foreach}
use Rattle.ti_lang.specs.Program.Types as t
use Rattle.ti_lang.specs.Typing.Kinds.{same_truth, same_type}
use Rattle.ti_lang.specs.Meaning.Processes.{Variable}
use Rattle.ti_lang.specs.Meaning.Held.{Held}
use Rattle.ti_lang.specs.Meaning.Turns.{Turn}
use Rattle.ti_lang.specs.Meaning.Scoping.{same_variable, same_declaration, without_variables}
use Rattle.ti_code.specs.Effects.{oldest_slots}
use Rattle.ti_lower_expr.specs.Slots.{Name, Of, Hidden, SlotsHold, none, object, variable, turn, hidden}
use Rattle.ti_lower_expr.proofs.Lemmas.{as_many, same_number}

-- one of these is the variable
abbrev pub leaves : List VariableUse → VariableUse → Bool
leaves xs y = list_any (λ x. same_variable x y) xs

-- none of these names leaves
abbrev pub Stay : List VariableUse → List Name → Type 0
Stay xs [] = Unit {0}
Stay xs (Of y ∷ ns) = (leaves xs y ≡ false) × Stay xs ns
Stay xs (n ∷ ns) = Stay xs ns

-- the newest of the names leave, and the others stay
pub data Cut (xs : List VariableUse) : List Name → List Name → Type 0 where
  whole : {ns : List Name} → Stay xs ns → Cut xs ns ns
  newest : {ns before : List Name} {y : VariableUse} → leaves xs y ≡ true → Cut xs ns before → Cut xs (Of y ∷ ns) before

-- no slot is one that no name means
abbrev pub Bare : List Name → Type 0
Bare [] = Unit {0}
Bare (Hidden ∷ ns) = ⊥
Bare (n ∷ ns) = Bare ns

pub cut_bare : (xs : List VariableUse) (ns before : List Name) → Cut xs ns before → Bare ns → Bare before
cut_bare xs ns before (whole s) z = z
cut_bare xs ns before (newest {ns = ms} e k) z = cut_bare xs ms before k z

stay : (this : Option Id) (xs : List VariableUse) (ns : List Name) (vs : List Variable) (ts : List Turn) (hs : List Held) → Stay xs ns → SlotsHold this ns vs ts hs → without_variables xs vs ≡ vs
stay this xs ns vs ts hs s (none z) = refl
stay this xs ns vs ts hs s object = refl
stay this xs ns vs ts hs s (variable {ns = ms} {vs = us} {ts = rs} {hs = gs} {x = y} {h = g} k h) =
    ap₂ (λ b ws. if not b then record { named = y; held = g } ∷ ws else ws) s.0 (stay this xs ms us rs gs s.1 h)
stay this xs ns vs ts hs s (turn {ns = ms} {vs = us} {ts = rs} {hs = gs} h) = stay this xs ms us rs gs s h
stay this xs ns vs ts hs s (hidden {ns = ms} {vs = us} {ts = rs} {hs = gs} h) = stay this xs ms us rs gs s h

pub cut_less : (xs : List VariableUse) (ns before : List Name) → Cut xs ns before → length before ≤ length ns
cut_less xs ns before (whole s) = omega arith
cut_less xs ns before (newest {ns = ms} e k) = omega (arith, cut_less xs ms before k)

drop_none : (k n : ℕ) (hs : List Held) → k ≡ n → drop (n - k) hs ≡ hs
drop_none k n hs e =
    let none : n - k ≡ 0 = omega (arith, e) in
    ap (λ m. drop m hs) none

drop_one : (k : ℕ) (h : Held) (hs : List Held) → k ≤ length hs → oldest_slots k (h ∷ hs) ≡ oldest_slots k hs
drop_one k h hs l =
    let one : suc (length hs) - k ≡ suc (length hs - k) = omega (arith, l) in
    ap (λ m. drop m (h ∷ hs)) one

pub trimmed_holds : (this : Option Id) (xs : List VariableUse) (ns before : List Name) (vs : List Variable) (ts : List Turn) (hs : List Held) → Cut xs ns before → SlotsHold this ns vs ts hs
    → SlotsHold this before (without_variables xs vs) ts (oldest_slots (length before) hs)
trimmed_holds this xs ns before vs ts hs (whole s) h =
    subst (λ ws. SlotsHold this ns ws ts (oldest_slots (length ns) hs)) (sym (stay this xs ns vs ts hs s h))
    (subst (λ gs. SlotsHold this ns vs ts gs) (sym (drop_none (length ns) (length hs) hs (as_many this ns vs ts hs h))) h)
trimmed_holds this xs ns before vs ts hs (newest {ns = ms} {y = y} e k) (variable {vs = us} {hs = gs} {h = g} z h) =
    let few : length before ≤ length gs = omega (arith, cut_less xs ms before k, as_many this ms us ts gs h) in
    subst (λ ws. SlotsHold this before ws ts (oldest_slots (length before) (g ∷ gs))) (sym (ap (λ b. if not b then record { named = y; held = g } ∷ without_variables xs us else without_variables xs us) e))
    (subst (λ fs. SlotsHold this before (without_variables xs us) ts fs) (sym (drop_one (length before) g gs few)) (trimmed_holds this xs ms before us ts gs k h))

-- the same names below so many that mean nothing
abbrev pub hide : List Held → List Name → List Name
hide [] ns = ns
hide (h ∷ hs) ns = Hidden ∷ hide hs ns

pub hidden_more : (more : List Held) (ns : List Name) → length ns ≤ length (hide more ns)
hidden_more [] ns = omega arith
hidden_more (x ∷ more) ns = omega (arith, hidden_more more ns)

-- the newest slot is dropped among others
pub trimmed_more : (k : ℕ) (h : Held) (hs : List Held) → k ≤ length hs → oldest_slots k (h ∷ hs) ≡ oldest_slots k hs
trimmed_more k h hs l = drop_one k h hs l

-- the newest slot is dropped
pub trimmed_newest : (k : ℕ) (h : Held) (hs : List Held) → k ≡ length hs → oldest_slots k (h ∷ hs) ≡ hs
trimmed_newest k h hs e = drop_one k h hs (omega (arith, e)) ∙ drop_none k (length hs) hs e

-- slots that no name means are dropped
pub all_dropped : (this : Option Id) (more : List Held) (ns : List Name) (vs : List Variable) (ts : List Turn) (hs : List Held)
    → SlotsHold this (hide more ns) vs ts hs → SlotsHold this ns vs ts (oldest_slots (length ns) hs)
all_dropped this [] ns vs ts hs h = subst (λ gs. SlotsHold this ns vs ts gs) (sym (drop_none (length ns) (length hs) hs (as_many this ns vs ts hs h))) h
all_dropped this (x ∷ more) ns vs ts hs (hidden {hs = gs} {h = g} k) =
    let few : length ns ≤ length gs = omega (arith, as_many this (hide more ns) vs ts gs k, hidden_more more ns) in
    subst (λ fs. SlotsHold this ns vs ts fs) (sym (drop_one (length ns) g gs few)) (all_dropped this more ns vs ts gs k)

trimmed_by : (b : Bool) (k m : ℕ) (h : Held) (hs : List Held) → ltb (length hs) m ≡ b → k ≤ m → oldest_slots k (oldest_slots m hs) ≡ oldest_slots k hs → oldest_slots k (oldest_slots m (h ∷ hs)) ≡ oldest_slots k (h ∷ hs)
trimmed_by true k m h hs e l f =
    let many : length hs < m = ltb-true (length hs) m e in
    let none : suc (length hs) - m ≡ 0 = omega (arith, many) in
    ap (λ n. oldest_slots k (drop n (h ∷ hs))) none
trimmed_by false k m h hs e l f =
    let few : m ≤ length hs = ltb-false (length hs) m e in
    let less : k ≤ length hs = omega (arith, few, l) in
    ap (oldest_slots k) (drop_one m h hs few) ∙ (f ∙ sym (drop_one k h hs less))

-- what is trimmed twice is trimmed once
pub trimmed_twice : (k m : ℕ) (hs : List Held) → k ≤ m → oldest_slots k (oldest_slots m hs) ≡ oldest_slots k hs
trimmed_twice k m [] l =
    let none : 0 - m ≡ 0 = omega arith in
    ap (λ n. oldest_slots k (drop n [])) none
trimmed_twice k m (h ∷ hs) l = trimmed_by (ltb (length hs) m) k m h hs refl l (trimmed_twice k m hs l)

pub trimmed_all : (k : ℕ) (hs : List Held) → k ≡ length hs → oldest_slots k hs ≡ hs
trimmed_all k hs e = drop_none k (length hs) hs e

-- ---- a variable leaves with its own declaration

truth_itself : (b : Bool) → same_truth b b ≡ true
truth_itself true = refl
truth_itself false = refl

type_itself : (type : ValueType) → same_type type type ≡ true
type_itself (t.Pt n) = same_number n n refl
type_itself (t.Rc n) = same_number n n refl
type_itself (t.Dm n) = same_number n n refl
type_itself (t.Class n l) = ap₂ (λ a b. a && b) (same_number n n refl) (truth_itself l)
type_itself (t.Grid e n l) = ap₂ (λ a b. a && b) (ap₂ (λ a b. a && b) (type_itself e) (same_number n n refl)) (truth_itself l)
type_itself _ = refl

declaration_itself : (d : Declaration) → same_declaration d d ≡ true
declaration_itself (Typed s type) = ap₂ (λ a b. a && b) (truth_itself s) (type_itself type)
declaration_itself Foreach = refl

variable_itself : (x : VariableUse) → same_variable x x ≡ true
variable_itself x = ap₂ (λ a b. a && b) (same_number x.number x.number refl) (declaration_itself x.declared)

-- each of the second variables leaves with the first
abbrev pub Inside : List VariableUse → List VariableUse → Type 0
Inside xs [] = Unit {0}
Inside xs (y ∷ ys) = (leaves xs y ≡ true) × Inside xs ys

inside_more : (x : VariableUse) (xs ys : List VariableUse) → Inside xs ys → Inside (x ∷ xs) ys
inside_more x xs [] i = tt
inside_more x xs (y ∷ ys) i = (or_right (same_variable x y) (leaves xs y) i.0, inside_more x xs ys i.1)
  where
    or_right : (a b : Bool) → b ≡ true → (a || b) ≡ true
    or_right true b e = refl
    or_right false b e = e

pub inside_itself : (xs : List VariableUse) → Inside xs xs
inside_itself [] = tt
inside_itself (x ∷ xs) = (ap (λ b. b || leaves xs x) (variable_itself x), inside_more x xs xs (inside_itself xs))

pub inside_front : (xs ys zs : List VariableUse) → Inside xs (ys ++ zs) → Inside xs ys
inside_front xs [] zs i = tt
inside_front xs (y ∷ ys) zs i = (i.0, inside_front xs ys zs i.1)

pub inside_rest : (xs ys zs : List VariableUse) → Inside xs (ys ++ zs) → Inside xs zs
inside_rest xs [] zs i = i
inside_rest xs (y ∷ ys) zs i = inside_rest xs ys zs i.1
