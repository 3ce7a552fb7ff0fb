-- The last arrival of a process that waits was at the collective where it waits, and a delete counted the frames that it has.
use Rattle.std.proofs.Common.{◌≡◌, ℕ, false, ◌&&◌, Option, Some, None, List, [], ◌∷◌, ◌++◌, refl, ap, ap₂, sym, ◌∙◌, subst, eq-eqb}
use Rattle.ti_base.specs.declared.place.Place.{Place}
use Rattle.ti_base.specs.declared.action.Action.{Action}
use Rattle.ti_base.specs.declared.action.Action.TheVariants as act
use Rattle.ti_base.specs.declared.entry.Answer.{Answer}
use Rattle.ti_base.specs.declared.entry.Entry.{Entry}
use Rattle.ti_lang.specs.Meaning.Processes.{RunConfig, Wait, Process, begin}
use Rattle.ti_lang.specs.Meaning.Steps.{To, At, step}
use Rattle.ti_lang.specs.Meaning.NextStep.{Reaches, here, later, none}
use Rattle.ti_lang.specs.Meaning.Histories.{History, history_of, is_arrival, is_departure}
use Rattle.ti_lang.specs.Meaning.RoundsOf.{Arrival, arrival_in, last_arrival}
use Rattle.ti_lang.specs.Meaning.Runs.{ProcAfter, CanTake, IsRun}
use Rattle.ti_lang.specs.Meaning.Runs as run
use Rattle.ti_lang.proofs.Lemmas.{after_same, taker, history_grows}
use Rattle.ti_align.proofs.Runs.Vars.{true_false}
use Rattle.ti_align.proofs.Runs.Ways.{Asked, asking}
use Rattle.ti_align.proofs.RunTypes.Operating.{none_some, some_same}
use Rattle.ti_align.proofs.Runs.Balance.{step_waits}
use Rattle.ti_align.proofs.Runs.Arrived.{last_kind, arrival_other, arrival_own}
use Rattle.ti_align.proofs.Runs.Given.{Counts, Stands, step_fine}
use Rattle.ti_align.proofs.Runs.Given as given_facts
use Rattle.ti_align.proofs.Alignment.Aligning.{way_next}
use Rattle.ti_align.proofs.Runs.Acted.{Acted, still, acted, acted_by}

-- the last arrival is that of the wait
abbrev pub WaitsFor : Option Arrival → Process → Type 0
WaitsFor last p = (w : Wait) → p.wait ≡ Some w → (a : Arrival) × (last ≡ Some a) × (a.kind ≡ w.kind) × Counts a.kind a.arg a.deposit p.frames

free_waits : (last : Option Arrival) (p : Process) → p.wait ≡ None → WaitsFor last p
free_waits last p z w y = absurd (none_some w (sym z ∙ y))

-- behind an action by itself a process doesn't wait
alone_free : (p : Process) (at : Place) (a : Action) (v : Asked) (go : Answer → Process) (r : Answer) → is_arrival a ≡ false
    → is_departure a ≡ false → step p ≡ At (asking at a v) go → (go r).wait ≡ None
alone_free p at (act.Arrive kind arg given) v go r x y e = absurd (true_false x)
alone_free p at act.Depart v go r x y e = absurd (true_false y)
alone_free p at a v go r x y e = (step_waits p (At (asking at a v) go) e).1 r

-- so it is for each process of a run
abbrev pub RunWaits : RunConfig → List Entry → Type 0
RunWaits s es = (i : ℕ) (p : Process) → ProcAfter s es i p → WaitsFor (last_arrival i (history_of es)) p

module _ (s : RunConfig) (es : List Entry) (e : Entry) (ran : IsRun s es) (t : CanTake s es e.proc e) (old : RunWaits s es) where
  abbrev h : History
  h = history_of es

  abbrev i : ℕ
  i = e.proc

  abbrev q : Process
  q = t.is_next.0

  stands_here : Stands s i (last_kind i h) q
  stands_here = let k = way_next s es i t.process q ran t.world t.is_next.1.reaches in subst (λ l. Stands s i l q) k.4 (given_facts.stands s i q k.0 k.1)

  goes_on : (asked : Asked) (go : Answer → Process) (a : Action) → e.act ≡ a → step q ≡ At (asking e.place a asked) go → WaitsFor (last_arrival i (e ∷ h)) (go e.answer)
  goes_on asked go (act.Arrive kind arg given) y z = λ w u.
      let waits = (step_waits q (At (asking e.place (act.Arrive kind arg given) asked) go) z).1 e.answer in
      let counts = (step_fine s i (last_kind i h) q (At (asking e.place (act.Arrive kind arg given) asked) go) stands_here z).2 e.answer in (
        record { kind = kind; arg = arg; deposit = given },
        arrival_own i e h (ap₂ (λ x y. x && y) (eq-eqb i i refl) (ap is_arrival y)) ∙ ap arrival_in y,
        sym waits.2 ∙ ap (λ (x : Wait). x.kind) (some_same waits.0 w (sym waits.1 ∙ u)),
        counts,
      )
  goes_on asked go act.Depart y z = free_waits _ (go e.answer) ((step_waits q (At (asking e.place act.Depart asked) go) z).2 e.answer)
  goes_on asked go a y z = free_waits _ (go e.answer) (alone_free q e.place a asked go e.answer refl refl z)

  entry_waits : RunWaits s (es ++ e ∷ [])
  entry_waits j p x = by (acted_by s es e t j p x)
    where
      by : Acted s es e t j p → WaitsFor (last_arrival j (history_of (es ++ e ∷ []))) p
      by (still w l) = subst (λ o. WaitsFor o p) (sym (ap (last_arrival j) (history_grows es e) ∙ arrival_other j e h l)) (old j p w)
      by (acted same asked go z k is) =
          subst (λ n. WaitsFor (last_arrival n (history_of (es ++ e ∷ []))) p) same
          (subst (WaitsFor (last_arrival i (history_of (es ++ e ∷ [])))) (sym is)
          (subst (λ o. WaitsFor o (go e.answer)) (sym (ap (last_arrival i) (history_grows es e))) (goes_on asked go e.act refl z)))

pub run_waits : (s : RunConfig) (es : List Entry) → IsRun s es → RunWaits s es
run_waits s es run.none = λ i p x. subst (WaitsFor None) (after_same (begin s i) (begin s i) p [] none x) (free_waits None (begin s i) refl)
run_waits s whole (run.more {es = es} {i = i} {e = e} r t z) = subst (RunWaits s) (sym z) (entry_waits s es e r (subst (λ j. CanTake s es j e) (sym (taker s es i e t)) t) (run_waits s es r))

-- and where it comes to from there
pub waits_there : (s : RunConfig) (es : List Entry) (i : ℕ) (p q : Process) → IsRun s es → ProcAfter s es i p → Reaches p q → WaitsFor (last_arrival i (history_of es)) q
waits_there s es i p q ran x y = by p q y (run_waits s es ran i p x)
  where
    by : (p q : Process) → Reaches p q → WaitsFor (last_arrival i (history_of es)) p → WaitsFor (last_arrival i (history_of es)) q
    by p q here k = k
    by p q (later {q = u} e x) k = by u q x (free_waits _ u (step_waits p (To u) e).1)
