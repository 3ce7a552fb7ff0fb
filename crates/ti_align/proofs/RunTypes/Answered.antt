-- What an action is answered in a run fits what is wanted there.
use Rattle.std.proofs.Common.{◌≡◌, ◌⊎◌, inl, inr, ℕ, ◌≤◌, true, false, Bool, Some, List, [], ◌∷◌, ◌++◌, refl, ap, sym, ◌∙◌, subst}
use Rattle.ti_base.specs.declared.action.Action.{Action}
use Rattle.ti_base.specs.declared.action.Action.TheVariants as act
use Rattle.ti_base.specs.declared.action.CollKind.TheVariants as coll
use Rattle.ti_base.specs.declared.entry.Answer.{Answer}
use Rattle.ti_base.specs.declared.entry.Entry.{Entry}
use Rattle.ti_base.specs.declared.entry.Next.TheVariants as next
use Rattle.ti_lang.specs.Program.Types.{ValueType}
use Rattle.ti_lang.specs.Meaning.Comp.{Wanted, ValueOf, told}
use Rattle.ti_lang.specs.Meaning.Answers.{FitsWanted, FitsAction}
use Rattle.ti_lang.specs.Meaning.Processes.{RunConfig, Process}
use Rattle.ti_lang.specs.Meaning.Steps.{At, step}
use Rattle.ti_lang.specs.Meaning.NextStep.{IsNext}
use Rattle.ti_lang.specs.Meaning.Histories.{History, history_of, is_answered, arrivals}
use Rattle.ti_lang.specs.Meaning.RoundsOf.{arrival_at, deposit_from}
use Rattle.ti_lang.specs.Meaning.HeapAnswers.{Answers, heap_answer}
use Rattle.ti_lang.specs.Meaning.Runs.{ProcAfter, CanTake, IsRun}
use Rattle.ti_lang.specs.Meaning.Runs as run
use Rattle.ti_lang.proofs.Lemmas.{taker, history_grows, run_answered, world_same}
use Rattle.ti_align.specs.Alignment.{most_procs, ArrivalsAgree}
use Rattle.ti_align.specs.Answering.{AnswersFit}
use Rattle.ti_align.specs.Names.{NamesFit}
use Rattle.ti_align.specs.HeapTyping.{HeapTyping, IsStorable, IsOf}
use Rattle.ti_align.specs.Existing.{OperandsExist, SuitsWanted}
use Rattle.ti_align.specs.Heap.{heap_typing_of, is_of_heap}
use Rattle.ti_align.specs.Mirrors.Processes.{ProgramFits}
use Rattle.ti_align.specs.Typed.{GivesLast, hands_in, RunTyped}
use Rattle.ti_align.proofs.RunTypes.Steps.{ActionFits, StepFits}
use Rattle.ti_align.proofs.Runs.Vars.{true_false}
use Rattle.ti_align.proofs.Runs.Ways.{Asked, asking}
use Rattle.ti_align.proofs.Alignment.Fitting.{FineMethods}
use Rattle.ti_align.proofs.Runs.Given.{Stands, step_fine}
use Rattle.ti_align.proofs.Runs.Given as given_facts
use Rattle.ti_align.proofs.Runs.Arrived.{last_kind}
use Rattle.ti_align.proofs.Alignment.Rounds.{acts_as}
use Rattle.ti_align.proofs.Runs.Acted.{said_by}
use Rattle.ti_align.proofs.Alignment.Possible.{by_kind}
use Rattle.ti_align.proofs.Alignment.Aligning.{way_next, run_before}
use Rattle.ti_align.proofs.RunTypes.Making.{last_or_before}
use Rattle.ti_align.proofs.RunTypes.Holding.{valued, given_value, next_fits, run_typed}
use Rattle.ti_align.proofs.RunTypes.Ranged.{names_fit}
use Rattle.ti_align.proofs.RunTypes.Departed.{handed_of, departure_fits}
use Rattle.ti_align.proofs.RunTypes.Departed as departed
use Rattle.ti_align.proofs.RunTypes.Told.{done_fits, value_fits, done, arrival_done, heap_told}

module _ (s : RunConfig) (fits : ProgramFits s.program) (fine : FineMethods s.program s.program.methods) (few : s.procs ≤ most_procs) (fed : s.fuel ≤ 4000000) (agree : (es : List Entry) → IsRun s es → ArrivalsAgree s es) where
  -- an entry that a process can take after a run
  module _ (es : List Entry) (ran : IsRun s es) (e : Entry) (t : CanTake s es e.proc e) (is : is_answered e ≡ true) where
    abbrev h : History
    h = history_of es

    abbrev i : ℕ
    i = e.proc

    abbrev q : Process
    q = t.is_next.0

    abbrev typed : RunTyped s es
    typed = departed.typed s fits fine few fed agree es ran

    abbrev w : HeapTyping
    w = heap_typing_of i typed.fits.elements h

    names : NamesFit (e ∷ h)
    names = subst NamesFit (history_grows es e) (names_fit s (es ++ e ∷ []) (run.more ran t refl) few fed (run_typed s fits fine few agree))

    said : heap_answer s.program h i e.act ≡ Answers e.answer
    said = said_by s es e t ran

    next_is : IsNext t.process (next.Act e.place e.act)
    next_is = (q, record { reaches = t.is_next.1.reaches; stands = t.is_next.1.stands ∙ ap Some (acts_as s es i t.next e t.entry is) })

    asked : (asked : Asked) × (go : Answer → Process) × (q.setting ≡ s)
        × StepFits w (GivesLast s es i) (GivesLast s es i) q (At (asking e.place e.act asked) go)
        × (step q ≡ At (asking e.place e.act asked) go)
    unfolding next_is
    asked = next_fits s fits fine few es ran (λ j. heap_typing_of j typed.fits.elements h) (λ j. refl) typed.fits.processes i t.process e.place e.act t.within t.world next_is

    abbrev wanted : Wanted
    wanted = asked.0.1

    there : OperandsExist s.program w e.act wanted
    there = subst (λ (x : RunConfig). OperandsExist x.program w e.act wanted) asked.2 asked.3.0

    suits : SuitsWanted s.program w e.act wanted
    suits = subst (λ (x : RunConfig). SuitsWanted x.program w e.act wanted) asked.2 asked.3.3

    abbrev Fits : Type 0
    Fits = FitsWanted wanted e.answer

    -- a value that another process handed in
    take_fits : (who : ℕ) → e.act ≡ act.Take who → (type : ValueType) → GivesLast s es i type → wanted ≡ ValueOf type → Fits
    take_fits who z type g wants =
        let stand : Stands s i (last_kind i h) q = (let k = way_next s es i t.process q ran t.world t.is_next.1.reaches in subst (λ l. Stands s i l q) k.4 (given_facts.stands s i q k.0 k.1)) in
        let acts = step_fine s i (last_kind i h) q (At (asking e.place (act.Take who) asked.0) asked.1) stand (subst (λ a. step q ≡ At (asking e.place a asked.0) asked.1) z asked.4) in
        let a = by_kind s es ran (agree es ran) i coll.Exchange acts.0.1 in
        let x = valued (deposit_from i who h) e.answer (sym (ap (heap_answer s.program h i) z) ∙ said) in
        let b = given_value (arrival_at who (arrivals i h) h) x.0 x.1 in
        let mine : arrival_at i (arrivals i h) h ≡ Some a.1 = subst (λ n. arrival_at i n h ≡ Some a.1) (sym a.2) a.3 in
        let value = handed_of s fits fine few fed agree es ran i who a.1 b.0 type x.0 g mine b.1 (ap hands_in a.4) b.2 in
        let st = subst (λ a. SuitsWanted s.program w a wanted) z suits in
        let is_stored : IsStorable type = subst IsStorable (one_value st.0 type (sym st.1 ∙ wants)) st.2 in
        value_fits h typed.fits.elements who (departed.names s fits fine few fed agree es ran) wanted type type e.answer x.0 wants refl is_stored x.2
        (subst (λ r. IsOf (heap_typing_of who typed.fits.elements h) type (told r)) (sym x.2) value)
      where
        one_value : (a b : ValueType) → ValueOf a ≡ ValueOf b → a ≡ b
        one_value a b z = cc

    -- an action that the heap doesn't answer
    other_fits : (a : Action) → e.act ≡ a → SuitsWanted s.program w a wanted → heap_answer s.program h i a ≡ Answers e.answer
        → ActionFits w (GivesLast s es i) (GivesLast s es i) q (asking e.place e.act asked.0) a asked.1 → is_of_heap a ≡ false
        → Fits
    other_fits act.Depart z x y f k =
        departure_fits s fits fine few fed agree es ran i t.within t.process q e.place asked.0 asked.1 e.answer t.world t.is_next.1.reaches
        (subst (λ a. step q ≡ At (asking e.place a asked.0) asked.1) z asked.4) y
    other_fits (act.Take who) z x y f k = take_fits who z f.0 f.1 f.3
    other_fits (act.Arrive kind arg handed) z x y f k = done_fits wanted e.answer x (arrival_done h kind arg e.answer y)
    other_fits (act.Print literal value) z x y f k = done_fits wanted e.answer x (done e.answer y)
    other_fits act.End z x y f k = done_fits wanted e.answer x (done e.answer y)
    other_fits (act.Fault kind) z x y f k = done_fits wanted e.answer x (done e.answer y)
    other_fits _ z x y f k = absurd (true_false k)

    all_fit : Fits
    all_fit = by (is_of_heap e.act) refl
      where
        by : (b : Bool) → is_of_heap e.act ≡ b → Fits
        by true k = heap_told s.program typed.fits.elements h (run_answered s es ran) typed.fits.heap fits.storable i e.place e.act wanted e.answer k there suits said names
        by false k = other_fits e.act refl suits said asked.3.2 k

    action_fits : FitsAction t.process e.answer
    action_fits = record {
      settled = q;
      reaches = t.is_next.1.reaches;
      request = asking e.place e.act asked.0;
      go = asked.1;
      stands = asked.4;
      fits = all_fit;
    }

  -- each entry of a run was taken after the run before it
  taken : (es : List Entry) → IsRun s es → (before rest : List Entry) (e : Entry) → es ≡ before ++ e ∷ rest → CanTake s before e.proc e
  taken es run.none before rest e z = absurd (never before z)
    where
      never : (before : List Entry) → [] ≡ before ++ e ∷ rest → ⊥
      never [] z = cc
      never (x ∷ xs) z = cc
  taken all (run.more {es = es} {i = i} {e = last} r t z) before rest e y = by (λ more k. taken es r before more e k) (last_or_before before rest es e last (sym z ∙ y))
    where
      by : ((more : List Entry) → es ≡ before ++ e ∷ more → CanTake s before e.proc e) → ((before ≡ es) × (e ≡ last)) ⊎ ((more : List Entry) × (es ≡ before ++ e ∷ more)) → CanTake s before e.proc e
      by f (inl k) = subst (λ x. CanTake s x e.proc e) (sym k.0) (subst (λ x. CanTake s es x.proc x) (sym k.1) (subst (λ n. CanTake s es n last) (sym (taker s es i last t)) t))
      by f (inr k) = f k.0 k.1

  pub answers_fit : (es : List Entry) → IsRun s es → AnswersFit s es
  answers_fit es ran before rest e p z x is =
      let t = taken es ran before rest e z in
      subst (λ p. FitsAction p e.answer) (world_same s before e.proc t.process p t.world x) (action_fits before (run_before s es before rest e ran z) e t is)
