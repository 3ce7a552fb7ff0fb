-- Proves that the code of simple statements carries them out.
use Rattle.std.proofs.Common.{◌≡◌, ℕ, ◌+◌, true, false, slice_get, List, [], ◌∷◌, Option, Some, None, refl, sym, subst}
use Rattle.ti_base.specs.declared.place.Place.{Place}
use Rattle.ti_base.specs.declared.value.Value.{Value}
use Rattle.ti_base.specs.declared.action.Action.TheVariants as act
use Rattle.ti_base.specs.declared.entry.Answer.{Answer}
use Rattle.ti_lang.specs.Program.Statements.{NumberedStm, NumberedPrint}
use Rattle.ti_lang.specs.Program.Statements as s
use Rattle.ti_lang.specs.Program.Scope.{this_of}
use Rattle.ti_lang.specs.Meaning.Held.{Held, plain_of}
use Rattle.ti_lang.specs.Meaning.Comp.{ToBeDone, request, Comp, bind_result, gives, asked}
use Rattle.ti_lang.specs.Meaning.Processes.{Variable, Receiver}
use Rattle.ti_lang.specs.Meaning.Scoping.{Env}
use Rattle.ti_lang.specs.Meaning.Targets.{into}
use Rattle.ti_lang.specs.Meaning.Evaluation.{eval}
use Rattle.ti_lang.specs.Meaning.Moves.{Move, Goes, receives}
use Rattle.ti_lang.specs.Meaning.Statements.{prints, printed}
use Rattle.ti_code.specs.declared.instr.Instr.{Instr}
use Rattle.ti_code.specs.declared.instr.Instr.TheVariants as i
use Rattle.ti_code.specs.Effects.{LocalState, Who, effect}
use Rattle.ti_code.specs.Leading.{CodeAt, pc_after}
use Rattle.ti_lower_expr.specs.Slots.{Name, SlotsHold}
use Rattle.ti_lower.specs.StmtCode.{print_code}
use Rattle.ti_lower_expr.specs.Doing.{Implements}
use Rattle.ti_lower_expr.proofs.Lemmas.{front_stands, rest_stands, behind_both, does_then, does_value, does_it, who, code, state, next, does}
use Rattle.ti_lower.proofs.Receiving.{Stored}

module _ (c : List Instr) (env : Env) (names : List Name) (slots : List Held) (holds : SlotsHold env.this names env.variables env.turns slots) where
  -- the statement is done, and the frame goes on there
  abbrev pub Goes_on : ℕ → List Name → List Held → Move → LocalState → Type 0
  Goes_on at ns stack move s = (vs : List Variable) × (move ≡ Goes vs []) × Stored c env names slots holds at ns stack vs s

  abbrev here : ℕ → List Held → LocalState
  here = state c env names slots holds

  abbrev w : Who
  w = who c env names slots holds

  -- the variables that are there are those of the move
  pub received : (r : Receiver) (right : Comp Held) (at n : ℕ) (ns : List Name) (stack : List Held) (s : LocalState)
      → Implements w c s (into env r right) (Stored c env names slots holds n ns stack) → Implements w c s (receives env r right) (Goes_on n ns stack)
  received r right at n ns stack s d =
      does_then w c (Stored c env names slots holds n ns stack) (Goes_on n ns stack) s (into env r right) (λ vs. gives (Goes vs [])) d
      (λ vs t k. does_value w c (Goes_on n ns stack) t (Goes vs []) (vs, refl, k))

  -- the line is printed, and the value that it shows is dropped
  line_does : (p : Place) (literal : Option ℕ) (value : Option Value) (ins : Instr) (at : ℕ) (under stack : List Held) → slice_get c at ≡ Some ins
      → ((rs : List Answer) → effect w ins (here at under) rs ≡ bind_result (asked (request p (act.Print literal value) ToBeDone) rs) (λ done. gives (here (at + 1) stack)))
      → Implements w c (here at under) (prints env p literal value) (Goes_on (at + 1) names stack)
  line_does p literal value ins at under stack st f =
      does_then w c (λ done s. s ≡ here (at + 1) stack) (Goes_on (at + 1) names stack) (here at under) (asked (request p (act.Print literal value) ToBeDone)) (λ done. gives (Goes env.variables []))
      (does_it w c (λ done s. s ≡ here (at + 1) stack) (here at under) (asked (request p (act.Print literal value) ToBeDone)) (λ done. here (at + 1) stack) ins st f (λ done. refl))
      (λ done s k. does_value w c (Goes_on (at + 1) names stack) s (Goes env.variables []) (env.variables, refl, (slots, holds, k)))

  pub print_does : (p : Place) (what : NumberedPrint) (at : ℕ) (stack : List Held) → CodeAt c at (print_code env.program (this_of env.method) p names what at)
      → Implements w c (here at stack) (printed env p what) (Goes_on (pc_after at (print_code env.program (this_of env.method) p names what at)) names stack)
  print_does p s.Nothing at stack st = line_does p None None (i.Print None false p) at stack stack st.0 (λ rs. refl)
  print_does p (s.Text literal) at stack st = line_does p (Some literal) None (i.Print (Some literal) false p) at stack stack st.0 (λ rs. refl)
  print_does p (s.Expression x) at stack st =
      let xs = code c env names slots holds x at in
      subst (λ n. Implements w c (here at stack) (printed env p (s.Expression x)) (Goes_on n names stack)) (sym (behind_both at xs (i.Print None true p ∷ [])))
      (next c env names slots holds (Goes_on (pc_after at xs + 1) names stack) (pc_after at xs) stack (here at stack) (eval env x) (λ h. prints env p None (Some (plain_of h)))
      (does c env names slots holds x at stack (front_stands c at xs _ st))
      (λ h. line_does p None (Some (plain_of h)) (i.Print None true p) (pc_after at xs) (h ∷ stack) stack (rest_stands c at xs _ st).0 (λ rs. refl)))
  print_does p (s.TextAndExpression literal x) at stack st =
      let xs = code c env names slots holds x at in
      subst (λ n. Implements w c (here at stack) (printed env p (s.TextAndExpression literal x)) (Goes_on n names stack)) (sym (behind_both at xs (i.Print (Some literal) true p ∷ [])))
      (next c env names slots holds (Goes_on (pc_after at xs + 1) names stack) (pc_after at xs) stack (here at stack) (eval env x) (λ h. prints env p (Some literal) (Some (plain_of h)))
      (does c env names slots holds x at stack (front_stands c at xs _ st))
      (λ h. line_does p (Some literal) (Some (plain_of h)) (i.Print (Some literal) true p) (pc_after at xs) (h ∷ stack) stack (rest_stands c at xs _ st).0 (λ rs. refl)))
