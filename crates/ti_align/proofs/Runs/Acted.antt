-- What an entry makes of the processes of a run: the one that takes it goes on, and the others stay where they are.
use Rattle.std.proofs.Common.{◌≡◌, ℕ, ◌==◌, Bool, true, false, not, ◌&&◌, ◌||◌, Some, List, [], ◌∷◌, ◌++◌, refl, ap, sym, ◌∙◌, subst, eqb-true}
use Rattle.ti_base.specs.declared.action.Action.{Action}
use Rattle.ti_base.specs.declared.action.Action.TheVariants as act
use Rattle.ti_base.specs.declared.entry.Answer.{Answer}
use Rattle.ti_base.specs.declared.entry.Entry.{Entry}
use Rattle.ti_lang.specs.Meaning.Processes.{RunConfig, Process, begin}
use Rattle.ti_lang.specs.Meaning.Steps.{At, step}
use Rattle.ti_lang.specs.Meaning.NextStep.{After}
use Rattle.ti_lang.specs.Meaning.Histories.{history_of, is_end, is_fault, is_arrival, is_answered, answers_of}
use Rattle.ti_lang.specs.Meaning.HeapAnswers.{Answers, heap_answer, IsAnswered}
use Rattle.ti_lang.specs.Meaning.Runs.{ProcAfter, CanTake, IsRun}
use Rattle.ti_lang.specs.Meaning.Runs as run
use Rattle.ti_lang.proofs.Lemmas.{after_same, history_grows, run_answered}
use Rattle.ti_align.proofs.Runs.Ways.{Asked, asking}
use Rattle.ti_align.proofs.Runs.Vars.{true_false}
use Rattle.ti_align.proofs.Runs.Entries.{answers_now, answers_still}
use Rattle.ti_align.proofs.Runs.Arrived.{is_own}
use Rattle.ti_align.proofs.Runs.Running.{after_more, at_action}
use Rattle.ti_align.proofs.Alignment.Rounds.{said, acts_as}

-- the process of this number behind an entry is where it was before, or has got the answer of the entry
pub data Acted (s : RunConfig) (es : List Entry) (e : Entry) (t : CanTake s es e.proc e) (j : ℕ) (p : Process) : Type 0 where
  still : ProcAfter s es j p → is_own j e ≡ false → Acted s es e t j p
  acted : e.proc ≡ j → (asked : Asked) (go : Answer → Process) → step t.is_next.0 ≡ At (asking e.place e.act asked) go → is_answered e ≡ true → p ≡ go e.answer → Acted s es e t j p

module _ (s : RunConfig) (es : List Entry) (e : Entry) (t : CanTake s es e.proc e) where
  -- an end or a fault is no arrival
  no_arrival : (a : Action) → not (is_end a || is_fault a) ≡ false → is_arrival a ≡ false
  no_arrival act.End z = refl
  no_arrival (act.Fault kind) z = refl
  no_arrival _ z = absurd (true_false z)

  idle : (j : ℕ) (p : Process) → ProcAfter s (es ++ e ∷ []) j p → ((e.proc == j) && is_answered e) ≡ false → is_own j e ≡ false → Acted s es e t j p
  idle j p x k l = still (subst (λ (rs : List Answer). After (begin s j) rs p) (answers_still es e j k) x) l

  pub acted_by : (j : ℕ) (p : Process) → ProcAfter s (es ++ e ∷ []) j p → Acted s es e t j p
  acted_by j p x = by (e.proc == j) refl
    where
      both_false : (a b : Bool) → b ≡ false → (a && b) ≡ false
      both_false true b z = z
      both_false false b z = refl

      own_one : (b : Bool) → is_answered e ≡ b → e.proc ≡ j → Acted s es e t j p
      own_one true k same =
          let i = e.proc in
          let q = t.is_next.0 in
          let a = at_action (step q) e.place e.act (t.is_next.1.stands ∙ ap Some (acts_as s es i t.next e t.entry k)) in
          let went : ProcAfter s (es ++ e ∷ []) i (a.1 e.answer) =
          subst (λ (rs : List Answer). After (begin s i) rs (a.1 e.answer)) (sym (answers_now es e k))
          (after_more (begin s i) t.process q (answers_of i es) e.place e.act a.0 a.1 e.answer t.world t.is_next.1.reaches a.2) in
          acted same a.0 a.1 a.2 k (after_same _ _ _ _ (subst (λ n. ProcAfter s (es ++ e ∷ []) n p) (sym same) x) went)
      own_one false k same = idle j p x (both_false (e.proc == j) (is_answered e) k) (both_false (e.proc == j) (is_arrival e.act) (no_arrival e.act k))

      by : (b : Bool) → (e.proc == j) ≡ b → Acted s es e t j p
      by true z = own_one (is_answered e) refl (eqb-true e.proc j z)
      by false z = idle j p x (ap (λ b. b && is_answered e) z) (ap (λ b. b && is_arrival e.act) z)

  -- the entry got the answer that those before it give
  pub said_by : IsRun s es → heap_answer s.program (history_of es) e.proc e.act ≡ Answers e.answer
  said_by ran = said s.program (history_of es) e (subst (IsAnswered s.program) (history_grows es e) (run_answered s (es ++ e ∷ []) (run.more ran t refl)))
