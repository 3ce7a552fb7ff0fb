-- Proves that slots hold what their names denote.
use Rattle.std.proofs.Common.{◌≡◌, ℕ, zero, suc, ◌<◌, ◌==◌, Bool, true, false, if◌then◌else◌, List, [], ◌∷◌, length, Option, Some, None, refl, ap, sym, ◌∙◌, arith}
use Rattle.ti_base.specs.declared.value.Id.{Id}
use Rattle.ti_base.specs.declared.value.Value.TheVariants as v
use Rattle.ti_lang.specs.Program.Types.{VariableUse, Declaration, Typed, Foreach}
use Rattle.ti_lang.specs.Meaning.Processes.{Variable}
use Rattle.ti_lang.specs.Meaning.Held.{Held, Plain, no_value}
use Rattle.ti_lang.specs.Meaning.Turns.{Turn, point_at}
use Rattle.ti_lang.specs.Meaning.Scoping.{Env, same_variable, find_variable, value_by, zero_declared}
use Rattle.ti_code.specs.Effects.{slot}
use Rattle.ti_lower_expr.specs.Slots.{Name, SlotsHold, none, object, variable, turn, hidden, find_by, has_this}

pub as_many : (this : Option Id) (ns : List Name) (vs : List Variable) (ts : List Turn) (hs : List Held) → SlotsHold this ns vs ts hs → length ns ≡ length hs
as_many this ns vs ts hs (none z) = refl
as_many this ns vs ts hs object = refl
as_many this ns vs ts hs (variable {ns = ms} {vs = us} {ts = rs} {hs = gs} k h) = ap suc (as_many this ms us rs gs h)
as_many this ns vs ts hs (turn {ns = ms} {vs = us} {ts = rs} {hs = gs} h) = ap suc (as_many this ms us rs gs h)
as_many this ns vs ts hs (hidden {ns = ms} {vs = us} {ts = rs} {hs = gs} h) = ap suc (as_many this ms us rs gs h)

-- ---- slots

pub same_number : (k n : ℕ) → k ≡ n → (k == n) ≡ true
same_number k n e = grind (arith, e)

pub other_number : (k n : ℕ) → k < n → (k == n) ≡ false
other_number k n l = grind (arith, l)

pub newest : (k : ℕ) (h : Held) (hs : List Held) → k ≡ length hs → slot k (h ∷ hs) ≡ h
newest k h hs e = ap (λ b. if b then h else slot k hs) (same_number k (length hs) e)

pub older : (k : ℕ) (h : Held) (hs : List Held) → k < length hs → slot k (h ∷ hs) ≡ slot k hs
older k h hs l = ap (λ b. if b then h else slot k hs) (other_number k (length hs) l)

-- ---- variables

-- what a variable that is declared so holds
abbrev pub value_in : Declaration → VariableUse → List Variable → List Turn → Held
value_in (Typed is_single type) x vs ts = find_variable x vs
value_in Foreach x vs ts = point_at x.number ts

pub value_is : (d : Declaration) (env : Env) (x : VariableUse) → value_by d env x ≡ value_in d x env.variables env.turns
value_is (Typed is_single type) env x = refl
value_is Foreach env x = refl

-- the slot holds this; without one it is the zero
abbrev pub IsFound : Option ℕ → List Held → Held → Held → Type 0
IsFound (Some k) hs z value = (k < length hs) × (slot k hs ≡ value)
IsFound None hs z value = value ≡ z

-- what it is where nothing of the kind is in scope
abbrev pub zero_in : Declaration → VariableUse → Held
zero_in (Typed is_single type) x = zero_declared x.declared
zero_in Foreach x = no_value

pub zero_is : (d : Declaration) (x : VariableUse) → x.declared ≡ d → zero_in d x ≡ zero_declared x.declared
zero_is (Typed is_single type) x e = refl
zero_is Foreach x e = sym (ap zero_declared e)

-- a slot more
one_more : (o : Option ℕ) (h : Held) (hs : List Held) (z x : Held) → IsFound o hs z x → IsFound o (h ∷ hs) z x
one_more (Some k) h hs z x f = (omega (arith, f.0), older k h hs f.0 ∙ f.1)
one_more None h hs z x f = f

-- the newest slot, where the test holds, or one of the others
by_test : (b : Bool) (n : ℕ) (o : Option ℕ) (h : Held) (hs : List Held) (z x : Held) → n ≡ length hs → IsFound o hs z x
    → IsFound (if b then Some n else o) (h ∷ hs) z (if b then h else x)
by_test true n o h hs z x e f = (omega (arith, e), newest n h hs e)
by_test false n o h hs z x e f = one_more o h hs z x f

pub found : (this : Option Id) (ns : List Name) (vs : List Variable) (ts : List Turn) (hs : List Held) → SlotsHold this ns vs ts hs
    → (d : Declaration) (x : VariableUse) → IsFound (find_by d x ns) hs (zero_in d x) (value_in d x vs ts)
found this ns vs ts hs (none z) (Typed s t) x = refl
found this ns vs ts hs (none z) Foreach x = refl
found this ns vs ts hs object (Typed s t) x = refl
found this ns vs ts hs object Foreach x = refl
found this ns vs ts hs (variable {ns = ms} {vs = us} {ts = rs} {hs = gs} {x = y} {h = g} k h) (Typed s t) x =
    by_test (same_variable x y) (length ms) (find_by (Typed s t) x ms) g gs _ (find_variable x us) (as_many this ms us rs gs h) (found this ms us rs gs h (Typed s t) x)
found this ns vs ts hs (variable {ns = ms} {vs = us} {ts = rs} {hs = gs} {x = y} {h = g} k h) Foreach x =
    one_more (find_by Foreach x ms) g gs _ (point_at x.number rs) (found this ms us rs gs h Foreach x)
found this ns vs ts hs (turn {ns = ms} {vs = us} {ts = rs} {hs = gs} {t = r} h) (Typed s t) x =
    one_more (find_by (Typed s t) x ms) (Plain (v.Pt r.point)) gs _ (find_variable x us) (found this ms us rs gs h (Typed s t) x)
found this ns vs ts hs (turn {ns = ms} {vs = us} {ts = rs} {hs = gs} {t = r} h) Foreach x =
    by_test (r.variable == x.number) (length ms) (find_by Foreach x ms) (Plain (v.Pt r.point)) gs _ (point_at x.number rs) (as_many this ms us rs gs h) (found this ms us rs gs h Foreach x)
found this ns vs ts hs (hidden {ns = ms} {vs = us} {ts = rs} {hs = gs} {h = g} h) (Typed s t) x =
    one_more (find_by (Typed s t) x ms) g gs _ (find_variable x us) (found this ms us rs gs h (Typed s t) x)
found this ns vs ts hs (hidden {ns = ms} {vs = us} {ts = rs} {hs = gs} {h = g} h) Foreach x =
    one_more (find_by Foreach x ms) g gs _ (point_at x.number rs) (found this ms us rs gs h Foreach x)

-- ---- this

-- where there is a `this`, slot 0 holds it
abbrev pub IsOwn : Bool → Option Id → List Held → Type 0
IsOwn true this hs = (zero < length hs) × (slot 0 hs ≡ Plain (v.Obj this))
IsOwn false this hs = this ≡ None

own_older : (b : Bool) (this : Option Id) (h : Held) (hs : List Held) → IsOwn b this hs → IsOwn b this (h ∷ hs)
own_older true this h hs f = (omega arith, older 0 h hs f.0 ∙ f.1)
own_older false this h hs f = f

pub own_held : (this : Option Id) (ns : List Name) (vs : List Variable) (ts : List Turn) (hs : List Held) → SlotsHold this ns vs ts hs → IsOwn (has_this ns) this hs
own_held this ns vs ts hs (none z) = z
own_held this ns vs ts hs object = (omega arith, newest 0 (Plain (v.Obj this)) [] refl)
own_held this ns vs ts hs (variable {ns = ms} {vs = us} {ts = rs} {hs = gs} {h = g} k h) = own_older (has_this ms) this g gs (own_held this ms us rs gs h)
own_held this ns vs ts hs (turn {ns = ms} {vs = us} {ts = rs} {hs = gs} {t = r} h) = own_older (has_this ms) this (Plain (v.Pt r.point)) gs (own_held this ms us rs gs h)
own_held this ns vs ts hs (hidden {ns = ms} {vs = us} {ts = rs} {hs = gs} {h = g} h) = own_older (has_this ms) this g gs (own_held this ms us rs gs h)
