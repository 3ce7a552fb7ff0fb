-- Proves what writes and drops of slots do to what the slots hold.
use Rattle.std.proofs.Common.{◌≡◌, ℕ, ◌<◌, ◌≤◌, nat_lt, ◌==◌, Bool, true, false, if◌then◌else◌, List, [], ◌∷◌, length, Option, Some, None, refl, ap, sym, ◌∙◌, subst, arith}
use Rattle.ti_base.specs.declared.value.Id.{Id}
use Rattle.ti_base.specs.declared.value.Value.TheVariants as v
use Rattle.ti_lang.specs.Program.Types.{VariableUse, Declaration, Typed}
use Rattle.ti_lang.specs.Program.Types as t
use Rattle.ti_lang.specs.Meaning.Processes.{Variable}
use Rattle.ti_lang.specs.Meaning.Held.{Held, Plain}
use Rattle.ti_lang.specs.Meaning.Turns.{Turn}
use Rattle.ti_lang.specs.Meaning.Scoping.{same_variable, with_changed}
use Rattle.ti_code.specs.Effects.{put}
use Rattle.ti_lower_expr.specs.Knowing.{HasRepr, known_declared}
use Rattle.ti_lower_expr.specs.Slots.{Name, Of, Point, Hidden, SlotsHold, none, object, variable, turn, hidden, find_by}
use Rattle.ti_lower_expr.proofs.Lemmas.{same_known, as_many, same_number, other_number}

is_less : (m k : ℕ) → m < k → nat_lt m k ≡ true
is_less m k l = grind (arith, l)

isnt_less : (m k : ℕ) → k ≤ m → nat_lt m k ≡ false
isnt_less m k l = grind (arith, l)

pub new_put : (k : ℕ) (x : Held) (hs : List Held) → k ≡ length hs → put k x hs ≡ x ∷ hs
new_put k x [] e = refl
new_put k x (h ∷ hs) e = ap (λ b. if b then x ∷ h ∷ hs else if k == length hs then x ∷ hs else h ∷ put k x hs) (is_less (length hs) k (omega (arith, e)))

pub newest_put : (k : ℕ) (x h : Held) (hs : List Held) → k ≡ length hs → put k x (h ∷ hs) ≡ x ∷ hs
newest_put k x h hs e =
    ap (λ b. if b then x ∷ h ∷ hs else if k == length hs then x ∷ hs else h ∷ put k x hs) (isnt_less (length hs) k (omega (arith, e)))
    ∙ ap (λ b. if b then x ∷ hs else h ∷ put k x hs) (same_number k (length hs) e)

older_put : (k : ℕ) (x h : Held) (hs : List Held) → k < length hs → put k x (h ∷ hs) ≡ h ∷ put k x hs
older_put k x h hs l =
    ap (λ b. if b then x ∷ h ∷ hs else if k == length hs then x ∷ hs else h ∷ put k x hs) (isnt_less (length hs) k (omega (arith, l)))
    ∙ ap (λ b. if b then x ∷ hs else h ∷ put k x hs) (other_number k (length hs) l)

-- what is written into the slot is what the variable holds then; without a slot there is no such variable
abbrev pub IsWritten : Option Id → Option ℕ → List Name → List Variable → List Variable → List Turn → List Held → Held → Type 0
IsWritten this (Some k) ns vs new ts hs x = (k < length hs) × SlotsHold this ns new ts (put k x hs)
IsWritten this None ns vs new ts hs x = new ≡ vs

abbrev pub any : Declaration
any = Typed false t.Void

older_variable : (this : Option Id) (o : Option ℕ) (ns : List Name) (vs new : List Variable) (ts : List Turn) (hs : List Held) (x h : Held) (y : VariableUse) → HasRepr (known_declared y.declared) h
    → IsWritten this o ns vs new ts hs x → IsWritten this o (Of y ∷ ns) (record { named = y; held = h } ∷ vs) (record { named = y; held = h } ∷ new) ts (h ∷ hs) x
older_variable this (Some k) ns vs new ts hs x h y z w = (
  omega (arith, w.0),
  subst (λ gs. SlotsHold this (Of y ∷ ns) (record { named = y; held = h } ∷ new) ts gs) (sym (older_put k x h hs w.0)) (variable z w.1),
)
older_variable this None ns vs new ts hs x h y z w = ap (λ us. record { named = y; held = h } ∷ us) w

by_test : (b : Bool) (this : Option Id) (o : Option ℕ) (n : ℕ) (ns : List Name) (vs new : List Variable) (ts : List Turn) (hs : List Held) (x h : Held) (y : VariableUse)
    → n ≡ length hs → SlotsHold this ns vs ts hs → HasRepr (known_declared y.declared) h → (b ≡ true → HasRepr (known_declared y.declared) x) → IsWritten this o ns vs new ts hs x
    → IsWritten this (if b then Some n else o) (Of y ∷ ns) (record { named = y; held = h } ∷ vs) (if b then record { named = y; held = x } ∷ vs else record { named = y; held = h } ∷ new) ts (h ∷ hs) x
by_test true this o n ns vs new ts hs x h y e k z f w = (
  omega (arith, e),
  subst (λ gs. SlotsHold this (Of y ∷ ns) (record { named = y; held = x } ∷ vs) ts gs) (sym (newest_put n x h hs e)) (variable (f refl) k),
)
by_test false this o n ns vs new ts hs x h y e k z f w = older_variable this o ns vs new ts hs x h y z w

older_turn : (this : Option Id) (o : Option ℕ) (ns : List Name) (vs new : List Variable) (ts : List Turn) (hs : List Held) (x : Held) (r : Turn)
    → IsWritten this o ns vs new ts hs x → IsWritten this o (Point r.variable ∷ ns) vs new (r ∷ ts) (Plain (v.Pt r.point) ∷ hs) x
older_turn this (Some k) ns vs new ts hs x r w = (omega (arith, w.0), subst (λ gs. SlotsHold this (Point r.variable ∷ ns) new (r ∷ ts) gs) (sym (older_put k x (Plain (v.Pt r.point)) hs w.0)) (turn w.1))
older_turn this None ns vs new ts hs x r w = w

older_hidden : (this : Option Id) (o : Option ℕ) (ns : List Name) (vs new : List Variable) (ts : List Turn) (hs : List Held) (x h : Held)
    → IsWritten this o ns vs new ts hs x → IsWritten this o (Hidden ∷ ns) vs new ts (h ∷ hs) x
older_hidden this (Some k) ns vs new ts hs x h w = (omega (arith, w.0), subst (λ gs. SlotsHold this (Hidden ∷ ns) new ts gs) (sym (older_put k x h hs w.0)) (hidden w.1))
older_hidden this None ns vs new ts hs x h w = w

pub written : (this : Option Id) (ns : List Name) (vs : List Variable) (ts : List Turn) (hs : List Held) (x : VariableUse) (h : Held) → HasRepr (known_declared x.declared) h → SlotsHold this ns vs ts hs
    → IsWritten this (find_by any x ns) ns vs (with_changed x h vs) ts hs h
written this ns vs ts hs x h known (none z) = refl
written this ns vs ts hs x h known object = refl
written this ns vs ts hs x h known (variable {ns = ms} {vs = us} {ts = rs} {hs = gs} {x = y} {h = g} z k) =
    by_test (same_variable x y) this (find_by any x ms) (length ms) ms us (with_changed x h us) rs gs h g y (as_many this ms us rs gs k) k z
    (λ e. subst (λ j. HasRepr j h) (same_known x y e) known) (written this ms us rs gs x h known k)
written this ns vs ts hs x h known (turn {ns = ms} {vs = us} {ts = rs} {hs = gs} {t = r} k) =
    older_turn this (find_by any x ms) ms us (with_changed x h us) rs gs h r (written this ms us rs gs x h known k)
written this ns vs ts hs x h known (hidden {ns = ms} {vs = us} {ts = rs} {hs = gs} {h = g} k) =
    older_hidden this (find_by any x ms) ms us (with_changed x h us) rs gs h g (written this ms us rs gs x h known k)
