-- Proves that what the instructions of a frame do, the process does.
use Rattle.std.proofs.Common.{◌≡◌, ◌⊎◌, inl, inr, ℕ, ◌+◌, ◌-◌, ◌≤◌, Bool, true, false, if◌then◌else◌, length, map, slice_get, option_map, [], List, ◌∷◌, Option, Some, None, refl, ap, sym, ◌∙◌, subst, arith}
use Rattle.std.specs.Option.{option_map_or}
use Rattle.std.proofs.lemmas.Option.{slice_get-map}
use Rattle.ti_base.specs.declared.place.Place.{Place}
use Rattle.ti_base.specs.declared.value.Id.{Id}
use Rattle.ti_base.specs.declared.value.Value.TheVariants as v
use Rattle.ti_base.specs.declared.fault.FaultKind.TheVariants.{NullRef}
use Rattle.ti_base.specs.declared.entry.Answer.{Answer}
use Rattle.ti_lang.specs.Program.Types as t
use Rattle.ti_lang.specs.Meaning.Held.{Held, Plain, referent_of}
use Rattle.ti_lang.specs.Meaning.Comp.{CompResult, Gives, Comp, Reference, ◌>>=◌, gives, found_or}
use Rattle.ti_code.specs.declared.instr.Instr.{Instr}
use Rattle.ti_code.specs.declared.instr.Instr.TheVariants as i
use Rattle.ti_code.specs.Effects.{LocalState, effect, receiver_needed, top, below, under, top_operands}
use Rattle.ti_code.specs.Leading.{effect_of, next_effect, ExecutesTo, here, on}
use Rattle.ti_code.specs.declared.code.MethodCode.{MethodCode}
use Rattle.ti_code.specs.Programs.{Code}
use Rattle.ti_code.specs.Machine.{MachineFrame, Machine, On, receiver_depth, call_method, enter_method, who_of, after_effect, exec_local, execute, next_step}
use Rattle.ti_code.specs.Follows.{Runs}
use Rattle.ti_code.specs.Follows as runs
use Rattle.ti_lang.proofs.Lemmas.{short_less}
use Rattle.ti_code.proofs.Lemmas.{effect_short}

-- an instruction stays in its frame, or does nothing there
abbrev Local : Code → Machine → MachineFrame → List MachineFrame → Instr → Type 0
Local c m f fs x = ((rs : List Answer) → execute c m f fs (Some x) rs ≡ exec_local m f fs (effect (who_of c m) x f.state) rs) ⊎ ((rs : List Answer) → effect (who_of c m) x f.state rs ≡ Gives f.state rs)

abbrev thing_at : Place → Option Id → Comp Reference
thing_at p o = found_or NullRef p o >>= λ id. gives (record { thing = id; type = t.Void })

-- a call: without a receiver that it needs it faults, and else it does nothing in its frame
call_local : (c : Code) (m : Machine) (f : MachineFrame) (fs : List MachineFrame) (k : ℕ) (at : Place) (o : Option MethodCode) → slice_get c.methods k ≡ o → Local c m f fs (i.Call k at)
call_local c m f fs k at None e = inr (λ rs. ap (λ x. receiver_needed at x f.state rs) (slice_get-map receiver_depth c.methods k ∙ ap (option_map receiver_depth) e))
call_local c m f fs k at (Some callee) e = by callee.instance refl
  where
    object : Held
    object = top (under callee.params f.state.stack)

    receiver_is : (b : Bool) → callee.instance ≡ b → slice_get (map receiver_depth c.methods) k ≡ Some (if b then Some callee.params else None)
    receiver_is b z = slice_get-map receiver_depth c.methods k ∙ (ap (option_map receiver_depth) e ∙ ap (λ b. Some (if b then Some callee.params else None)) z)

    found : callee.instance ≡ true → (o : Option Id) → referent_of object ≡ o → Local c m f fs (i.Call k at)
    found z None y =
        inl (λ rs.
        (ap (λ o. option_map_or (λ (callee : MethodCode). call_method m f fs at callee callee.instance) o (gives (On m)) rs) e
        ∙ (ap (λ b. call_method m f fs at callee b rs) z
        ∙ ap (λ o. (thing_at at o >>= λ r. enter_method m f fs at callee (Plain (v.Obj (Some r.thing)) ∷ []) (top_operands callee.params f.state.stack []) (below (under callee.params f.state.stack))) rs) y))
        ∙ sym (ap (λ x. after_effect m f fs rs (receiver_needed at x f.state rs)) (receiver_is true z) ∙ ap (λ o. after_effect m f fs rs ((thing_at at o >>= λ r. gives f.state) rs)) y))
    found z (Some id) y = inr (λ rs. ap (λ x. receiver_needed at x f.state rs) (receiver_is true z) ∙ ap (λ o. (thing_at at o >>= λ r. gives f.state) rs) y)

    by : (b : Bool) → callee.instance ≡ b → Local c m f fs (i.Call k at)
    by false z = inr (λ rs. ap (λ x. receiver_needed at x f.state rs) (receiver_is false z))
    by true z = found z (referent_of object) refl

local : (c : Code) (m : Machine) (f : MachineFrame) (fs : List MachineFrame) (x : Instr) → Local c m f fs x
local c m f fs (i.Tick at) = inr (λ rs. refl)
local c m f fs (i.Call k at) = call_local c m f fs k at (slice_get c.methods k) refl
local c m f fs i.Return = inr (λ rs. refl)
local c m f fs i.ReturnValue = inr (λ rs. refl)
local c m f fs (i.Stop at) = inr (λ rs. refl)
local c m f fs (i.Arrive kind at) = inr (λ rs. refl)
local c m f fs (i.Depart at) = inr (λ rs. refl)
local c m f fs x = inl (λ rs. refl)

same_spot : (s t : LocalState) (rs rest : List Answer) → ◌≡◌ {A = CompResult LocalState} (Gives s rs) (Gives t rest) → s ≡ t
same_spot s t rs rest e = cc

same_rest : (s t : LocalState) (rs rest : List Answer) → ◌≡◌ {A = CompResult LocalState} (Gives s rs) (Gives t rest) → rs ≡ rest
same_rest s t rs rest e = cc

module _ (c : Code) (m : Machine) (f : MachineFrame) (fs : List MachineFrame) where
  -- the process with its innermost frame there, and with so many ticks spent
  abbrev pub standing : ℕ → LocalState → Machine
  standing n s = record m { spent = n; frames = record f { state = s } ∷ fs }

  -- the frame leads from the first spot to the second, and so does the process, which spends a tick for each answer
  abbrev pub Lifts : ℕ → LocalState → List Answer → LocalState → List Answer → Type 0
  Lifts n s rs t rest = (length rest ≤ length rs) × Runs c (standing n s) rs (standing (n + (length rs - length rest)) t) rest

  still : (n : ℕ) (s : LocalState) (rs : List Answer) → Lifts n s rs s rs
  still n s rs =
      let none : n + (length rs - length rs) ≡ n = omega arith in
      (omega arith, subst (λ k. Runs c (standing n s) rs (standing k s) rs) (sym none) runs.here)

  -- nothing happens
  idle : (n : ℕ) (s u t : LocalState) (rs ms rest : List Answer) → ◌≡◌ {A = CompResult LocalState} (Gives s rs) (Gives u ms) → Lifts n u ms t rest → Lifts n s rs t rest
  idle n s u t rs ms rest z k =
      subst (λ x. Lifts n x rs t rest) (sym (same_spot s u rs ms z)) (subst (λ xs. Lifts n u xs t rest) (sym (same_rest s u rs ms z)) k)

  -- an instruction of the frame
  moves : (n : ℕ) (s u t : LocalState) (rs ms rest : List Answer) (x : Instr) → slice_get f.instrs s.at ≡ Some x → effect (who_of c m) x s rs ≡ Gives u ms
      → ((rs : List Answer) → execute c (standing n s) (record f { state = s }) fs (Some x) rs ≡ exec_local (standing n s) (record f { state = s }) fs (effect (who_of c m) x s) rs)
      → Lifts (n + (length rs - length ms)) u ms t rest → Lifts n s rs t rest
  moves n s u t rs ms rest x z e k l =
      let less = short_less (effect (who_of c m) x s) rs u ms (effect_short (who_of c m) x s) e in
      let all : (n + (length rs - length ms)) + (length ms - length rest) ≡ n + (length rs - length rest) = omega (arith, less, l.0) in
      let turned : next_step c (standing n s) rs ≡ Gives (On (standing (n + (length rs - length ms)) u)) ms =
      ap (λ o. execute c (standing n s) (record f { state = s }) fs o rs) z ∙ (k rs ∙ ap (after_effect (standing n s) (record f { state = s }) fs rs) e) in
      (omega (arith, less, l.0), subst (λ j. Runs c (standing n s) rs (standing j t) rest) all (runs.on turned l.1))

  steps : (n : ℕ) (s u t : LocalState) (rs ms rest : List Answer) (o : Option Instr) → slice_get f.instrs s.at ≡ o → effect_of (who_of c m) o s rs
      ≡ Gives u ms → ((j : ℕ) → Lifts j u ms t rest) → Lifts n s rs t rest
  steps n s u t rs ms rest None z e l = idle n s u t rs ms rest e (l n)
  steps n s u t rs ms rest (Some x) z e l =
      elim (local c (standing n s) (record f { state = s }) fs x)
      [ inl k ↦ moves n s u t rs ms rest x z e k (l (n + (length rs - length ms))) | inr k ↦ idle n s u t rs ms rest (sym (k rs) ∙ e) (l n) ]

  pub lift : (n : ℕ) (s t : LocalState) (rs rest : List Answer) → ExecutesTo (who_of c m) f.instrs s rs t rest → Lifts n s rs t rest
  lift n s t rs rest here = still n s rs
  lift n s t rs rest (on {t = u} {rest = ms} e k) =
      steps n s u t rs ms rest (slice_get f.instrs s.at) refl e (λ j. lift j u t ms rest k)

  -- the effect says no more than what the instruction gives
  abbrev pub Goes_nowhere : CompResult LocalState → Type 0
  Goes_nowhere (Gives t rest) = ⊥
  Goes_nowhere g = Unit {0}

  gives_nothing : (s : LocalState) (rs : List Answer) (g : CompResult LocalState) → Gives s rs ≡ g → Goes_nowhere g → ⊥
  gives_nothing s rs g e z = subst Goes_nowhere (sym e) z

  stops : (n : ℕ) (s : LocalState) (rs : List Answer) (o : Option Instr) (g : CompResult LocalState) → slice_get f.instrs s.at ≡ o → effect_of (who_of c m) o s rs ≡ g → Goes_nowhere g
      → next_step c (standing n s) rs ≡ after_effect (standing n s) (record f { state = s }) fs rs g
  stops n s rs None g z e h = absurd (gives_nothing s rs g e h)
  stops n s rs (Some x) g z e h =
      elim (local c (standing n s) (record f { state = s }) fs x) [
        | inl k ↦ ap (λ o. execute c (standing n s) (record f { state = s }) fs o rs) z ∙ (k rs ∙ ap (after_effect (standing n s) (record f { state = s }) fs rs) e)
        | inr k ↦ absurd (gives_nothing s rs g (sym (k rs) ∙ e) h)
      ]

  -- the process stands where its frame stands at an action or a fault
  pub turn_stops : (n : ℕ) (s : LocalState) (rs : List Answer) (g : CompResult LocalState) → next_effect (who_of c m) f.instrs s rs ≡ g → Goes_nowhere g
      → next_step c (standing n s) rs ≡ after_effect (standing n s) (record f { state = s }) fs rs g
  turn_stops n s rs g e h = stops n s rs (slice_get f.instrs s.at) g refl e h
