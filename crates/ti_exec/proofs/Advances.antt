-- Proves what silent steps and answers do to what a process has next.
use Rattle.std.proofs.Common.{◌≡◌, ◌∙◌, ℕ, ◌<◌, refl, ap, subst, List, [], ◌∷◌, ◌++◌}
use Rattle.std.specs.declared.vec.Vec.{Vec}
use Rattle.std.specs.declared.alloc.Global.{Global}
use Rattle.ti_base.specs.declared.entry.Answer.{Answer}
use Rattle.ti_lang.specs.Program.Classes.{ProgramView}
use Rattle.ti_lang.specs.Meaning.Processes.{Process}
use Rattle.ti_lang.specs.Meaning.Steps.{To, step}
use Rattle.ti_lang.specs.Meaning.NextStep.{Reaches, here, later, After, none, more}
use Rattle.ti_lang.proofs.Lemmas.{Fitting, Falls, weight, step_falls}
use Rattle.ti_exec.specs.declared.process.ControlMode.{ControlMode}
use Rattle.ti_exec.specs.declared.process.ControlMode.TheVariants as mode
use Rattle.ti_exec.specs.declared.process.TreeMachine.{TreeMachine}
use Rattle.ti_exec.specs.States.{process_of, process_in_mode}

-- ---- silent steps

pub reaches_on : (p q r : Process) → Reaches p q → step q ≡ To r → Reaches p r
reaches_on p q r here e = later e here
reaches_on p q r (later {q = s} d x) e = later d (reaches_on s q r x e)

pub reaches_through : (p q r : Process) → Reaches p q → Reaches q r → Reaches p r
reaches_through p q r here y = y
reaches_through p q r (later {q = s} e x) y = later e (reaches_through s q r x y)

pub falls_on : (b : ℕ) (p q : Process) → Fitting b p → step p ≡ To q → (weight b q < weight b p) × Fitting b q
falls_on b p q f e = subst (Falls b p) e (step_falls b p f)

-- ---- answers

pub one_more : (p q r : Process) (rs : List Answer) (a : Answer) → After p rs q → After q (a ∷ []) r → After p (rs ++ a ∷ []) r
one_more p q r [] a none y = y
one_more p q r (b ∷ rs) a (more {go = go} x e z) y = more x e (one_more (go b) q r rs a z y)

-- what a process has spent, how it goes on and its answers don't tell where its calls stand
pub moved : (c : ProgramView) (w : TreeMachine) (spent : ℕ) (behind : ControlMode) (answers : Vec Answer Global) (m : ControlMode) (rs : List Answer)
    → process_in_mode c (record w { spent = spent; mode = behind; answers = answers }) m rs ≡ record (process_in_mode c w m rs) { spent = spent }
moved c w spent behind answers (mode.Walks t) rs = refl
moved c w spent behind answers (mode.Receives h) rs = refl
moved c w spent behind answers (mode.Waits collective t) rs = refl
moved c w spent behind answers (mode.Expects collective) rs = refl
moved c w spent behind answers mode.Ended rs = refl

-- more room changes nothing
pub with_room : (c : ProgramView) (w : TreeMachine) (v : Vec Answer Global) → v.items ≡ w.answers.items → process_of c (record w { answers = v }) ≡ process_of c w
with_room c w v e = moved c w w.spent w.mode v w.mode v.items ∙ ap (λ rs. process_in_mode c w w.mode rs) e
