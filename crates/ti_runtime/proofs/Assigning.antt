-- Passes as they were handed out.
use Rattle.std.proofs.Common.{◌≡◌, ℕ, ◌<◌, ◌+◌, List, [], ◌∷◌, ◌++◌, length, length-append, refl, sym, ap, subst, false, arith}
use Rattle.atomic_table.specs.Seated.{TableId}
use Rattle.atomic_table.proofs.Lists.{at_last, at_longer}
use Rattle.ti_lang.specs.Meaning.Processes.{RunConfig}
use Rattle.ti_code.specs.Programs.{Code}
use Rattle.ti_machine.specs.ProcView.{ProcView, CanAdvance}
use Rattle.ti_turnstile.specs.declared.turnstile.Pass.{Pass}
use Rattle.ti_turnstile.specs.Turnstiles.{turnstile_of, number_of, seen_by, AreNew}
use Rattle.ti_pending.specs.declared.pending.PendingProc.{PendingProc}
use Rattle.ti_pending.specs.UpToDate.{IsUpToDate}
use Rattle.ti_runtime.specs.Mirrors.Processes.{RunPremises}
use Rattle.ti_pending.proofs.Lemmas.{begins_on, begins_seated}

-- of new passes the last, and those before it
pub last_pass : {V I : Type 0} {g : _} (turnstile : TableId) (all xs : List (Pass V I g)) (p : Pass V I g) → all ≡ xs ++ p ∷ []
    → AreNew turnstile all → (turnstile_of p ≡ turnstile) × (number_of p ≡ length xs) × (seen_by p ≡ []) × AreNew turnstile xs
last_pass turnstile all xs p is new =
    let new' = subst (AreNew turnstile) is new in
    let last = new' (length xs) p (at_last xs p (length xs) refl) in
    (last.0, last.1, last.2, λ i q e. new' i q (at_longer xs (p ∷ []) i q e))

pub one_longer : {X : Type 0} (all xs : List X) (x : X) → all ≡ xs ++ x ∷ [] → length all ≡ length xs + 1
one_longer all xs x is = omega (arith, ap length is, length-append xs (x ∷ []))

-- a process before its first entry
abbrev unbegun_at : Code → ℕ → ℕ → ℕ → ProcView
unbegun_at code procs fuel i = record { code = code; procs = procs; fuel = fuel; number = i; answers = []; asks = false }

pub begins_here : (code here : Code) (s : RunConfig) (procs fuel i : ℕ) → RunPremises code s → here ≡ code → procs ≡ s.procs → fuel ≡ s.fuel → i < s.procs → CanAdvance (unbegun_at here procs fuel i)
begins_here code here s procs fuel i may is p f l =
    subst (λ (x : Code × (ℕ × ℕ)). CanAdvance (unbegun_at x.0 x.1.0 x.1.1 i)) (λ j. (sym is j, (sym p j, sym f j))) (begins_on code s may.runs.follows may.runs.within i l)

pub seated_here : (code here : Code) (s : RunConfig) (procs fuel i : ℕ) → RunPremises code s → here ≡ code → procs ≡ s.procs → fuel ≡ s.fuel
    → i < s.procs → (pending : PendingProc) → pending ≡ record { process = unbegun_at here procs fuel i; ended = false } → IsUpToDate code s [] i pending
seated_here code here s procs fuel i may is p f l pending y =
    begins_seated code s may.runs.follows may.runs.within i l pending
    (subst (λ (x : Code × (ℕ × ℕ)). pending ≡ record { process = unbegun_at x.0 x.1.0 x.1.1 i; ended = false }) (λ j. (is j, (p j, f j))) y)
