-- When instructions carry out a computation of the semantics.
use Rattle.std.specs.Prelude.{◌≡◌, ℕ, List, ◌∷◌}
use Rattle.ti_base.specs.declared.entry.Answer.{Answer}
use Rattle.ti_lang.specs.Meaning.Held.{Held}
use Rattle.ti_lang.specs.Meaning.Comp.{Request, CompResult, Gives, Asks, Fails, Comp}
use Rattle.ti_lang.specs.Meaning.Scoping.{Env}
use Rattle.ti_code.specs.declared.instr.Instr.{Instr}
use Rattle.ti_code.specs.Effects.{LocalState, Who}
use Rattle.ti_code.specs.Leading.{next_effect, ExecutesTo}
use Rattle.ti_lower_expr.specs.Methods.{receivers_of}

-- The computation requests this action at this place.
pub record AsksFor (g : CompResult LocalState) (q : Request) : Type 0 where
  pub request : Request
  pub is : g ≡ Asks request
  pub place : request.place ≡ q.place
  pub action : request.action ≡ q.action

module _ (w : Who) (c : List Instr) where
  -- On these answers, the instructions have the computation's result from the given state of the frame on.
  abbrev pub ReachesResult : {A : Type 0} → (A → LocalState → Type 0) → LocalState → List Answer → CompResult A → Type 0
  ReachesResult P s rs (Gives a rest) = (t : LocalState) × ExecutesTo w c s rs t rest × P a t
  ReachesResult P s rs (Asks q) = (t : LocalState) × (left : List Answer) × ExecutesTo w c s rs t left × AsksFor (next_effect w c t left) q
  ReachesResult P s rs (Fails kind at) = (t : LocalState) × (left : List Answer) × ExecutesTo w c s rs t left × (next_effect w c t left ≡ Fails kind at)

  -- The instructions carry out the computation from the given state of the frame on.
  abbrev pub Implements : {A : Type 0} → LocalState → Comp A → (A → LocalState → Type 0) → Type 0
  Implements s m P = (rs : List Answer) → ReachesResult P s rs (m rs)

-- The process as the semantics of instructions sees it, from the environment of an expression.
abbrev pub who_in : Env → Who
who_in env = record { number = env.number; procs = env.procs; receivers = receivers_of env.program }

-- The value is pushed on these operands, the slots are unchanged, and the frame is at that instruction.
abbrev pub Pushes : List Held → ℕ → List Held → Held → LocalState → Type 0
Pushes slots at stack h s = s ≡ record { at = at; slots = slots; stack = h ∷ stack }
