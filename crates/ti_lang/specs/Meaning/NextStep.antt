-- The visible next step of a process, after its silent steps.
use Rattle.std.specs.Prelude.{◌≡◌, List, [], ◌∷◌, Option, None, Some}
use Rattle.ti_base.specs.declared.entry.Answer.{Answer}
use Rattle.ti_base.specs.declared.entry.Next.{Next}
use Rattle.ti_base.specs.declared.entry.Next.TheVariants as next
use Rattle.ti_lang.specs.Meaning.Comp.{Request}
use Rattle.ti_lang.specs.Meaning.Processes.{Process}
use Rattle.ti_lang.specs.Meaning.Steps.{Step, To, At, Ends, Faults, step}

-- silent steps lead from the first configuration to the second: the reflexive transitive closure
pub data Reaches : Process → Process → Type 0 where
  here : {p : Process} → Reaches p p
  later : {p q r : Process} → step p ≡ To q → Reaches q r → Reaches p r

-- the label of a step; None if it is silent
abbrev pub step_label : Step → Option Next
step_label (To p) = None
step_label (At request go) = Some (next.Act request.place request.action)
step_label (Ends place) = Some (next.End place)
step_label (Faults kind place) = Some (next.Fault kind place)

-- silent steps lead from p to q, whose step has the label n
pub record RunsTo (p q : Process) (n : Next) : Type 0 where
  pub reaches : Reaches p q
  pub stands : step_label (step q) ≡ Some n

-- what process p has next: the label of its first step that isn't silent
abbrev pub IsNext : Process → Next → Type 0
IsNext p n = (q : Process) × RunsTo p q n

-- the third argument is the configuration of the first after its actions have received these answers, in order
pub data After : Process → List Answer → Process → Type 0 where
  none : {p : Process} → After p [] p
  more : {p q r : Process} {request : Request} {go : Answer → Process} {answer : Answer} {rest : List Answer} →
      Reaches p q → step q ≡ At request go → After (go answer) rest r → After p (answer ∷ rest) r
