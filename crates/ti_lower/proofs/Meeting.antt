-- Proves that the code of a broadcast does what the semantics does before its arrival.
use Rattle.std.proofs.Common.{◌≡◌, ℕ, ℤ, pos, negsuc, ◌+◌, ◌==◌, ◌&&◌, Bool, true, false, if◌then◌else◌, slice_get, List, [], ◌∷◌, ◌++◌, Some, refl, ap, ap₂, sym, ◌∙◌, subst, arith}
use Rattle.std.specs.Prelude.{int_le, int_lt}
use Rattle.ti_base.specs.declared.place.Place.{Place}
use Rattle.ti_base.specs.declared.value.Value.TheVariants as v
use Rattle.ti_base.specs.declared.fault.FaultKind.TheVariants.{BadRoot}
use Rattle.ti_base.specs.declared.action.CollKind.TheVariants as coll
use Rattle.ti_base.specs.declared.action.Deposit.{Deposit}
use Rattle.ti_base.specs.declared.action.Deposit.TheVariants as deposit
use Rattle.ti_base.specs.Ranges.{natural}
use Rattle.ti_base.specs.PointSets.{same_number}
use Rattle.ti_lang.specs.Program.Expressions.{NumberedExp}
use Rattle.ti_lang.specs.Program.Scope.{this_of}
use Rattle.ti_lang.specs.Meaning.Held.{Held, Plain, truth, plain_of, whole_of}
use Rattle.ti_lang.specs.Meaning.Comp.{ValueOf, Comp, ◌>>=◌, gives, guard}
use Rattle.ti_lang.specs.Meaning.Collectives.{root_among, root_deposit, broadcasts}
use Rattle.ti_lang.specs.Meaning.Moves.{Move, Meets}
use Rattle.ti_lang.specs.Meaning.Processes.{Receiver, Wait}
use Rattle.ti_lang.specs.Meaning.Scoping.{Env, type_here}
use Rattle.ti_lang.specs.Meaning.Evaluation.{eval}
use Rattle.ti_code.specs.declared.instr.Instr.{Instr}
use Rattle.ti_code.specs.declared.instr.Instr.TheVariants as i
use Rattle.ti_code.specs.declared.instr.Operation.TheVariants as o
use Rattle.ti_code.specs.Effects.{LocalState, Who, top, below}
use Rattle.ti_code.specs.Leading.{effect_of, here, CodeAt, pc_after}
use Rattle.ti_code.specs.Machine.{Machine, MachineFrame, arrival_of}
use Rattle.ti_lower_expr.specs.Slots.{Name, SlotsHold}
use Rattle.ti_lower.specs.StmtCode.{root_code, broadcast_code}
use Rattle.ti_lower_expr.specs.Doing.{Implements}
use Rattle.ti_lower_expr.proofs.Lemmas.{front_stands, rest_stands, behind_both, does_then, does_weaker, does_value, does_behind, who, code}
use Rattle.ti_lower_expr.proofs.Lemmas.{state, next, does, jumps, jumps_not}

-- what the instruction of an arrival hands in, with these operands left
abbrev pub Hands : ℕ → Wait → Deposit → LocalState → List Held → Type 0
Hands number wait deposit s stack = (m : Machine) (f : MachineFrame) → m.number ≡ number → f.state ≡ s → arrival_of wait.kind m f ≡ record { arg = wait.arg; deposit = deposit; stack = stack }

root_same : (n w : ℕ) → same_number (pos w) (pos n) ≡ (n == w)
root_same n w = grind arith

abbrev pub in_team : ℕ → ℤ → Bool
in_team procs w = int_le (pos 0) w && int_lt w (pos procs)

module _ (c : List Instr) (env : Env) (names : List Name) (slots : List Held) (holds : SlotsHold env.this names env.variables env.turns slots) where
  abbrev at_spot : ℕ → List Held → LocalState
  at_spot = state c env names slots holds

  abbrev w : Who
  w = who c env names slots holds

  abbrev pub wait_of : Place → Receiver → NumberedExp → ℕ → Wait
  wait_of p r x root = record { place = p; kind = coll.Broadcast; arg = Some root; wanted = ValueOf (type_here env x); receiver = r }

  -- the arrival is next
  abbrev pub Arrives : Place → Receiver → NumberedExp → ℕ → List Held → Move → LocalState → Type 0
  Arrives p r x n stack move s = (root : ℕ) × (d : Deposit) × (operands : List Held) × (move ≡ Meets (wait_of p r x root) d [])
      × (s ≡ at_spot n operands) × Hands env.number (wait_of p r x root) d s stack

  module _ (p : Place) (r : Receiver) (x : NumberedExp) (a : ℕ) (stack : List Held) (st : CodeAt c a (root_code env.program (this_of env.method) p names x a)) where
    abbrev inner : ℕ
    inner = a + 1 + 1 + 1 + 1 + 1

    abbrev xs : List Instr
    xs = code c env names slots holds x inner

    abbrev other : ℕ
    other = pc_after inner xs + 1

    abbrev Q : Move → LocalState → Type 0
    Q = Arrives p r x (other + 1) stack

    abbrev tail_code : List Instr
    tail_code = i.Jump (other + 1) ∷ i.Const (v.Bool false) ∷ i.Arrive coll.Broadcast p ∷ i.Depart p ∷ []

    tail_stands : CodeAt c (pc_after inner xs) tail_code
    tail_stands = rest_stands c inner xs tail_code st.1.1.1.1.1

    -- what is handed in
    hands : (n : ℤ) (top_one : Held) (d : Deposit) → (if env.number == natural n then deposit.One (plain_of top_one) else deposit.Nothing) ≡ d
        → Hands env.number (wait_of p r x (natural n)) d (at_spot (other + 1) (top_one ∷ Plain (v.Int n) ∷ stack)) stack
    hands n top_one d e m f number is =
        ap₂ (λ (k : ℕ) (s : LocalState). record {
          arg = Some (natural (whole_of (top (below s.stack))));
          deposit = if k == natural (whole_of (top (below s.stack))) then deposit.One (plain_of (top s.stack)) else deposit.Nothing;
          stack = below (below s.stack);
        }) number is
        ∙ ap (λ d. record { arg = Some (natural n); deposit = d; stack = stack }) e

    abbrev own_value : ℤ → Comp Move
    own_value n = (eval env x >>= λ h. gives (deposit.One (plain_of h))) >>= λ d. gives (Meets (wait_of p r x (natural n)) d [])

    abbrev no_value : ℤ → Comp Move
    no_value n = gives (Meets (wait_of p r x (natural n)) deposit.Nothing [])

    -- the root's own value
    root_does : (n : ℤ) → (env.number == natural n) ≡ true
        → Implements w c (at_spot inner (Plain (v.Int n) ∷ stack)) ((eval env x >>= λ h. gives (deposit.One (plain_of h))) >>= λ d. gives (Meets (wait_of p r x (natural n)) d [])) Q
    root_does n e =
        let P = λ (d : Deposit) (s : LocalState). (h : Held) × (d ≡ deposit.One (plain_of h)) × (s ≡ at_spot (pc_after inner xs) (h ∷ Plain (v.Int n) ∷ stack)) in
        let go = λ (d : Deposit). gives (Meets (wait_of p r x (natural n)) d []) in
        does_then w c P Q (at_spot inner (Plain (v.Int n) ∷ stack)) (eval env x >>= λ h. gives (deposit.One (plain_of h))) go
        (next c env names slots holds P (pc_after inner xs) (Plain (v.Int n) ∷ stack) (at_spot inner (Plain (v.Int n) ∷ stack)) (eval env x) (λ h. gives (deposit.One (plain_of h)))
        (does c env names slots holds x inner (Plain (v.Int n) ∷ stack) (front_stands c inner xs tail_code st.1.1.1.1.1))
        (λ h. does_value w c P (at_spot (pc_after inner xs) (h ∷ Plain (v.Int n) ∷ stack)) (deposit.One (plain_of h)) (h, refl, refl)))
        (λ d s k. subst (λ d. Implements w c s (go d) Q) (sym k.1) (subst (λ s. Implements w c s (go (deposit.One (plain_of k.0))) Q) (sym k.2)
        (does_behind w c Q (at_spot (pc_after inner xs) (k.0 ∷ Plain (v.Int n) ∷ stack)) (at_spot (other + 1) (k.0 ∷ Plain (v.Int n) ∷ stack))
        (go (deposit.One (plain_of k.0))) (i.Jump (other + 1)) tail_stands.0 (λ rs. refl)
        (does_value w c Q (at_spot (other + 1) (k.0 ∷ Plain (v.Int n) ∷ stack)) _ (
          natural n,
          deposit.One (plain_of k.0),
          k.0 ∷ Plain (v.Int n) ∷ stack,
          refl,
          refl,
          hands n k.0 (deposit.One (plain_of k.0)) (ap (λ b. if b then deposit.One (plain_of k.0) else deposit.Nothing) e),
        )))))

    by_root : (n : ℤ) (b : Bool) → (env.number == natural n) ≡ b
        → Implements w c (at_spot (a + 1 + 1 + 1 + 1) (truth b ∷ Plain (v.Int n) ∷ stack))
        ((if b then (eval env x >>= λ h. gives (deposit.One (plain_of h))) else gives deposit.Nothing) >>= λ d. gives (Meets (wait_of p r x (natural n)) d [])) Q
    by_root n true e =
        does_behind w c Q (at_spot (a + 1 + 1 + 1 + 1) (truth true ∷ Plain (v.Int n) ∷ stack)) (at_spot inner (Plain (v.Int n) ∷ stack)) (own_value n) (i.JumpIfNot other) st.1.1.1.1.0
        (λ rs. jumps_not w false other (at_spot (a + 1 + 1 + 1 + 1) (truth true ∷ Plain (v.Int n) ∷ stack)) rs refl)
        (root_does n e)
    by_root n false e =
        does_behind w c Q (at_spot (a + 1 + 1 + 1 + 1) (truth false ∷ Plain (v.Int n) ∷ stack)) (at_spot other (Plain (v.Int n) ∷ stack)) (no_value n) (i.JumpIfNot other) st.1.1.1.1.0
        (λ rs. jumps w false other (at_spot (a + 1 + 1 + 1 + 1) (truth false ∷ Plain (v.Int n) ∷ stack)) rs refl)
        (does_behind w c Q (at_spot other (Plain (v.Int n) ∷ stack)) (at_spot (other + 1) (Plain (v.Bool false) ∷ Plain (v.Int n) ∷ stack))
        (no_value n) (i.Const (v.Bool false)) tail_stands.1.0 (λ rs. refl)
        (does_value w c Q (at_spot (other + 1) (Plain (v.Bool false) ∷ Plain (v.Int n) ∷ stack)) _ (
          natural n,
          deposit.Nothing,
          Plain (v.Bool false) ∷ Plain (v.Int n) ∷ stack,
          refl,
          refl,
          hands n (Plain (v.Bool false)) deposit.Nothing (ap (λ b. if b then deposit.One (v.Bool false) else deposit.Nothing) e),
        )))

    abbrev go : ℕ → Comp Move
    go root = root_deposit env root x >>= λ d. gives (Meets (wait_of p r x root) d [])

    -- behind the test: whether this process is the root
    tested : (n : ℤ) → (natural_is : same_number n (pos env.number) ≡ (env.number == natural n)) → Implements w c (at_spot (a + 1) (Plain (v.Int n) ∷ stack)) (go (natural n)) Q
    tested n same =
        let b = env.number == natural n in
        does_behind w c Q (at_spot (a + 1) (Plain (v.Int n) ∷ stack)) (at_spot (a + 1 + 1) (Plain (v.Int n) ∷ Plain (v.Int n) ∷ stack)) (go (natural n)) i.Dup st.1.0 (λ rs. refl)
        (does_behind w c Q (at_spot (a + 1 + 1) (Plain (v.Int n) ∷ Plain (v.Int n) ∷ stack))
        (at_spot (a + 1 + 1 + 1) (Plain (v.Int (pos env.number)) ∷ Plain (v.Int n) ∷ Plain (v.Int n) ∷ stack))
        (go (natural n)) i.ThisProc st.1.1.0 (λ rs. refl)
        (does_behind w c Q (at_spot (a + 1 + 1 + 1) (Plain (v.Int (pos env.number)) ∷ Plain (v.Int n) ∷ Plain (v.Int n) ∷ stack))
        (at_spot (a + 1 + 1 + 1 + 1) (truth b ∷ Plain (v.Int n) ∷ stack)) (go (natural n)) (i.Operate o.Eq p) st.1.1.1.0
        (λ rs. ap (λ b. gives (at_spot (a + 1 + 1 + 1 + 1) (truth b ∷ Plain (v.Int n) ∷ stack)) rs) same)
        (by_root n b refl)))

    natural_is : (n : ℤ) → in_team env.procs n ≡ true → same_number n (pos env.number) ≡ (env.number == natural n)
    natural_is (pos n) e = root_same env.number n
    natural_is (negsuc n) e = absurd (never e)
      where
        never : false ≡ true → ⊥
        never e = cc

    -- the test
    guards : (h : Held) (b : Bool) → in_team env.procs (whole_of h) ≡ b → Implements w c (at_spot a (h ∷ stack)) (guard b BadRoot p (natural (whole_of h)) >>= go) Q
    guards h true e =
        does_behind w c Q (at_spot a (h ∷ stack)) (at_spot (a + 1) (Plain (v.Int (whole_of h)) ∷ stack)) (go (natural (whole_of h))) (i.RootTest p) st.0
        (λ rs. ap (λ b. guard b BadRoot p (at_spot (a + 1) (Plain (v.Int (whole_of h)) ∷ stack)) rs) e)
        (tested (whole_of h) (natural_is (whole_of h) e))
    guards h false e = λ rs. (
      at_spot a (h ∷ stack),
      rs,
      here,
      ap (λ z. effect_of w z (at_spot a (h ∷ stack)) rs) st.0 ∙ ap (λ b. guard b BadRoot p (at_spot (a + 1) (Plain (v.Int (whole_of h)) ∷ stack)) rs) e,
    )

  -- the whole broadcast, up to its arrival
  pub broadcast_does : (p : Place) (r : Receiver) (x root : NumberedExp) (at : ℕ) (stack : List Held) → CodeAt c at (broadcast_code env.program (this_of env.method) p names x root at)
      → Implements w c (at_spot at stack) (broadcasts env r p x root)
      (λ move s. (n : ℕ) × (slice_get c n ≡ Some (i.Arrive coll.Broadcast p)) × (slice_get c (n + 1) ≡ Some (i.Depart p))
      × (n + 1 + 1 ≡ pc_after at (broadcast_code env.program (this_of env.method) p names x root at)) × Arrives p r x n stack move s)
  broadcast_does p r x root at stack st =
      let rs = code c env names slots holds root at in
      let a = pc_after at rs in
      let rest = root_code env.program (this_of env.method) p names x a in
      let stands = rest_stands c at rs rest st in
      let inner = a + 1 + 1 + 1 + 1 + 1 in
      let xs = code c env names slots holds x inner in
      let n = pc_after inner xs + 1 + 1 in
      let tail = i.Jump n ∷ i.Const (v.Bool false) ∷ i.Arrive coll.Broadcast p ∷ i.Depart p ∷ [] in
      let last = rest_stands c inner xs tail stands.1.1.1.1.1 in
      let ends : n + 1 + 1 ≡ pc_after at (rs ++ rest) = sym (behind_both at rs rest ∙ behind_both inner xs tail) in
      does_weaker w c (Arrives p r x n stack) _ (at_spot at stack) (broadcasts env r p x root)
      (next c env names slots holds (Arrives p r x n stack) a stack (at_spot at stack) (eval env root)
      (λ h. root_among env.procs p h >>= λ k. (root_deposit env k x >>= λ d. gives (Meets (wait_of p r x k) d [])))
      (does c env names slots holds root at stack (front_stands c at rs rest st))
      (λ h. guards p r x a stack stands h (in_team env.procs (whole_of h)) refl))
      (λ move s q. (n, last.1.1.0, last.1.1.1.0, ends, q))
