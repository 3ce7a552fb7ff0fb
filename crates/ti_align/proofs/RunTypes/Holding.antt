-- In every run all that is there is as the types say: each entry keeps it so.
use Rattle.std.proofs.Common.{◌≡◌, ℕ, ◌<◌, ◌≤◌, ◌^◌, suc, ◌==◌, Bool, true, false, not, ◌&&◌, ◌||◌, ◌⊎◌, inl, inr, if◌then◌else◌, Option, Some, None, List, [], ◌∷◌, ◌++◌, refl, ap, ap₂, sym, ◌∙◌, subst, arith, eqb-true, eq-eqb}
use Rattle.std.specs.Option.{option_map, option_and_then}
use Rattle.ti_base.specs.declared.place.Place.{Place}
use Rattle.ti_base.specs.declared.value.Id.{Id}
use Rattle.ti_base.specs.declared.value.Value.{Value}
use Rattle.ti_base.specs.declared.action.Action.{Action}
use Rattle.ti_base.specs.declared.action.Action.TheVariants as act
use Rattle.ti_base.specs.declared.action.CollKind.{CollKind}
use Rattle.ti_base.specs.declared.action.CollKind.TheVariants as coll
use Rattle.ti_base.specs.declared.action.Deposit.{Deposit}
use Rattle.ti_base.specs.declared.action.Deposit.TheVariants as deposit
use Rattle.ti_base.specs.declared.entry.Answer.{Answer}
use Rattle.ti_base.specs.declared.entry.Answer.TheVariants.{Val}
use Rattle.ti_base.specs.declared.entry.Entry.{Entry}
use Rattle.ti_base.specs.declared.entry.Next.TheVariants as next
use Rattle.ti_base.specs.Cells.{Cell, Grid, same_cell, cell_of, named_by}
use Rattle.ti_lang.specs.Program.Types.{ValueType}
use Rattle.ti_lang.specs.Program.Types as types
use Rattle.ti_lang.specs.Program.Classes.{ProgramView}
use Rattle.ti_lang.specs.Typing.Kinds.{is_local}
use Rattle.ti_lang.specs.Meaning.Held.{Plain}
use Rattle.ti_lang.specs.Meaning.Comp.{Wanted, ToBeDone, Request, told}
use Rattle.ti_lang.specs.Meaning.Processes.{RunConfig, Frame, Wait, Process, begin}
use Rattle.ti_lang.specs.Meaning.Steps.{At, step}
use Rattle.ti_lang.specs.Meaning.NextStep.{Reaches, here, IsNext, After, none}
use Rattle.ti_lang.specs.Meaning.Histories.{History, history_of, is_end, is_fault, is_arrival, is_departure, is_answered, answers_of, arrivals}
use Rattle.ti_lang.specs.Meaning.RegionsOf.{is_made, is_gone, is_region}
use Rattle.ti_lang.specs.Meaning.HeapOf.{grid_of_id, or_else, written_by, written_to, last_written}
use Rattle.ti_lang.specs.Meaning.RoundsOf as rounds
use Rattle.ti_lang.specs.Meaning.RoundsOf.{arrival_in, arrival_at, last_arrival, value_in, deposit_from, is_delete_of}
use Rattle.ti_lang.specs.Meaning.HeapAnswers.{Answers, answers_value, heap_answer, IsAnswered}
use Rattle.ti_lang.specs.Meaning.Runs.{ProcAfter, CanTake, IsRun}
use Rattle.ti_lang.specs.Meaning.Runs as run
use Rattle.ti_lang.proofs.Lemmas.{after_same, taker, history_grows, run_answered, answer_same}
use Rattle.ti_align.specs.Alignment.{most_procs, ArrivalsAgree}
use Rattle.ti_align.specs.Owners.{MadeWith}
use Rattle.ti_align.specs.HeapTyping.{HeapTyping, Grows, IsOf, DepositFits, FramesHold}
use Rattle.ti_align.specs.Existing.{OperandsExist, GoesThrough, SuitsWanted, FitsAsked}
use Rattle.ti_align.specs.Given.{IsOfRound, contribution_by}
use Rattle.ti_align.specs.Mirrors.ContItem.{WantsOf}
use Rattle.ti_align.specs.Heap.{Elements, heap_typing_of, HeapFits, elements_behind, is_of_heap, KeepsTypes}
use Rattle.ti_align.specs.Dangling.{handed_by, deposited_by, IfNamedLives, NamesLiving}
use Rattle.ti_align.specs.Mirrors.Processes.{ProgramFits, FramesFit, ProcessFits}
use Rattle.ti_align.specs.Typed.{GivesAt, GivesLast, hands_in, RunFits, RunTyped}
use Rattle.ti_align.proofs.RunTypes.Steps.{ActionFits, StepFits}
use Rattle.ti_align.proofs.Runs.Vars.{true_false, and_left}
use Rattle.ti_align.proofs.Runs.Ways.{Asked, asking}
use Rattle.ti_align.proofs.RunTypes.Operating.{none_some, some_same}
use Rattle.ti_align.proofs.Alignment.Fitting.{FineMethods}
use Rattle.ti_align.proofs.Runs.Entries.{answers_now}
use Rattle.ti_align.proofs.Runs.Given.{Stands, step_fine}
use Rattle.ti_align.proofs.Runs.Given as given_facts
use Rattle.ti_align.proofs.Runs.Arrived.{is_own, more_own, more_other, back, Comes, before, now, comes, last_kind, made}
use Rattle.ti_align.proofs.Runs.Running.{after_more, at_action}
use Rattle.ti_align.proofs.Alignment.Rounds.{RoundAnswer, told_now, acts_as, arrival_is, alike, impossible}
use Rattle.ti_align.proofs.Runs.Acted.{Acted, still, acted, acted_by, said_by}
use Rattle.ti_align.proofs.Runs.Waiting.{waits_there}
use Rattle.ti_align.proofs.Owners.Counted.{MakesFormed, Counted, none_counted, counted_more}
use Rattle.ti_align.proofs.Regions.Living.{living, living_there, living_grows, of_living, used_lives, field_lives, element_lives, deposit_lives}
use Rattle.ti_align.proofs.Regions.Lasting.{CellsLive, RoundsLive, RunLives, Lasts, fits_living, lasts}
use Rattle.ti_align.proofs.RunTypes.Giving.{given_same, gives_more, gives_now}
use Rattle.ti_align.proofs.Alignment.Possible.{ThingsThere, by_kind}
use Rattle.ti_align.proofs.Alignment.Aligning.{way_next}
use Rattle.ti_align.proofs.RunTypes.Computing.{grows_then, grows_for, of_stays, seen_from}
use Rattle.ti_align.proofs.RunTypes.Heaping.{pair_second, field_value, block_value, keeps_types}
use Rattle.ti_align.proofs.RunTypes.Acting as acting
use Rattle.ti_align.proofs.RunTypes.Making.{MadeNow, made_cases, made_elements}
use Rattle.ti_align.proofs.RunTypes.Staying.{there_stays, stays, other_round}
use Rattle.ti_align.proofs.RunTypes.Kept.{Performs, Known, begin_fits, step_fits, known_here, reaches_fits}
use Rattle.ti_align.proofs.RunTypes.Framed.{frame_fine}
use Rattle.ti_align.proofs.RunTypes.Forms.{natural_fits, is_view}

-- what is done next in a frame that fits
pub performs : Performs
performs pr f left w x own known vars this k = frame_fine pr f left w x own known.1 vars this known.0.fields known.0.storable known.0.methods k

-- ---- what was handed in

arrivals_now : (es : List Entry) (e : Entry) (i : ℕ) → arrivals i (es ++ e ∷ []) ≡ arrivals i (e ∷ history_of es)
arrivals_now es e i = sym (back i (es ++ e ∷ [])) ∙ ap (arrivals i) (history_grows es e)

-- by another entry than an arrival of the process nothing changes
last_more : (s : RunConfig) (es : List Entry) (e : Entry) (i : ℕ) → is_own i e ≡ false → (a : ValueType) → GivesLast s es i a → GivesLast s (es ++ e ∷ []) i a
last_more s es e i k a g = (g.0, arrivals_now es e i ∙ more_other i e (history_of es) k ∙ back i es ∙ g.1, gives_more s es (es ++ e ∷ []) e i g.0 a refl g.2)

-- an arrival now
last_now : (s : RunConfig) (es : List Entry) (e : Entry) (t : CanTake s es e.proc e) (kind : CollKind) (arg : Option ℕ) (d : Deposit)
    (a : ValueType) → e.act ≡ act.Arrive kind arg d → contribution_by t.is_next.0 ≡ Some a
    → GivesLast s (es ++ e ∷ []) e.proc a
last_now s es e t kind arg d a z g = (
  arrivals e.proc es,
  arrivals_now es e e.proc ∙ more_own e.proc e (history_of es)
      (ap₂ (λ x y. x && y) (eq-eqb e.proc e.proc refl) (ap is_arrival z)) ∙ ap suc (back e.proc es),
  gives_now s es (es ++ e ∷ []) e e.proc kind arg d a t refl z g,
)

-- what holds of the types of a round
round_with : (G H : ValueType → Type 0) (kind : CollKind) (a : ValueType) → (G a → H a) → IsOfRound G kind a → IsOfRound H kind a
round_with G H coll.Broadcast a f g = f g
round_with G H coll.Exchange a f g = f g
round_with G H coll.MakeRegion a f g = g
round_with G H coll.Barrier a f g = g
round_with G H coll.DeleteRegion a f g = g

round_in : (G : ValueType → Type 0) (kind : CollKind) (a : ValueType) → hands_in kind ≡ true → IsOfRound G kind a → G a
round_in G coll.Broadcast a k g = g
round_in G coll.Exchange a k g = g
round_in G coll.MakeRegion a k g = absurd (true_false (sym k))
round_in G coll.Barrier a k g = absurd (true_false (sym k))
round_in G coll.DeleteRegion a k g = absurd (true_false (sym k))

value_fits : (w : HeapTyping) (a : ValueType) (d : Deposit) (value : Value) → DepositFits w a d → value_in d ≡ Some value → IsOf w a (Plain value) × (is_local a ≡ false)
value_fits w a (deposit.One x) value k z = (subst (λ y. IsOf w a (Plain y)) (some_value x value z) k.0, k.2)
  where
    some_value : (x y : Value) → Some x ≡ Some y → x ≡ y
    some_value x y z = cc
value_fits w a deposit.Nothing value k z = absurd (none_value value z)
  where
    none_value : (y : Value) → ◌≡◌ {A = Option Value} None (Some y) → ⊥
    none_value y z = cc
value_fits w a (deposit.Count n) value k z = absurd (none_value value z)
  where
    none_value : (y : Value) → ◌≡◌ {A = Option Value} None (Some y) → ⊥
    none_value y z = cc

-- ---- one entry more

-- a value that is answered
pub valued : (o : Option Value) (r : Answer) → answers_value o ≡ Answers r → (x : Value) × (o ≡ Some x) × (r ≡ Val x)
valued None r z = absurd (impossible r z)
valued (Some x) r z = (x, refl, sym (answer_same (Val x) r z))

-- from the arrival of a process in a round
pub given_value : (o : Option rounds.Arrival) (x : Value) → option_and_then (λ (a : rounds.Arrival). value_in a.deposit) o ≡ Some x
    → (a : rounds.Arrival) × (o ≡ Some a) × (value_in a.deposit ≡ Some x)
given_value (Some a) x z = (a, refl, z)
given_value None x z = absurd (none_value x z)
  where
    none_value : (y : Value) → ◌≡◌ {A = Option Value} None (Some y) → ⊥
    none_value y z = cc

-- the value that is handed in
given_lives : (h : History) (d : Deposit) (value : Value) → value_in d ≡ Some value → IfNamedLives h (deposited_by d) → IfNamedLives h (named_by value)
given_lives h (deposit.One x) value z k = subst (λ y. IfNamedLives h (named_by y)) (some_same x value z) k
given_lives h deposit.Nothing value z k = absurd (none_some value z)
given_lives h (deposit.Count n) value z k = absurd (none_some value z)

-- what is made is in its form
makes_formed : (p : ProgramView) (w : HeapTyping) (a : Action) (wanted : Wanted) → OperandsExist p w a wanted → MakesFormed a
makes_formed p w (act.NewGrid first domain region) wanted k = k.4.form
makes_formed p w (act.MakeView grid how) wanted k = is_view how k.1 k.3
makes_formed p w _ wanted k = tt

no_departure : (a : Action) → is_of_heap a ≡ true → is_departure a ≡ false
no_departure act.Depart z = absurd (true_false (sym z))
no_departure _ z = refl

-- what calls in progress hold
frames_hold : (p : ProgramView) (w : HeapTyping) (fs : List Frame) → FramesFit p w fs → FramesHold w fs
frames_hold p w [] k = tt
frames_hold p w (f ∷ fs) k = (k.0.0, k.0.1, frames_hold p w fs k.2)

module _ (s : RunConfig)
    (fits : ProgramFits s.program) (fine : FineMethods s.program s.program.methods) (few : s.procs ≤ most_procs) where
  -- what is known of a process of the run
  pub known_of : (j : ℕ) → j < s.procs → Known (begin s j)
  known_of j l = (fits, (natural_fits j (below j s.procs l few), natural_fits s.procs (small s.procs few)))
    where
      small : (n : ℕ) → n ≤ most_procs → n < 2 ^ 31
      small n h = omega (arith, h)

      below : (j n : ℕ) → j < n → n ≤ most_procs → j < 2 ^ 31
      below j n l h = small j (omega (arith, l, h))

  module _ (es : List Entry) (e : Entry) (ran : IsRun s es) (agree : ArrivalsAgree s es) (t : CanTake s es e.proc e) (fit : RunLives s es) where
    abbrev h : History
    h = history_of es

    abbrev all : List Entry
    all = es ++ e ∷ []

    abbrev later : History
    later = e ∷ h

    abbrev i : ℕ
    i = e.proc

    abbrev q : Process
    q = t.is_next.0

    -- what is there, and what of it lives behind the entry
    abbrev there_now : HeapTyping
    there_now = heap_typing_of i fit.elements h

    abbrev w : HeapTyping
    w = living later there_now

    answered_all : IsAnswered s.program later
    answered_all = subst (IsAnswered s.program) (history_grows es e) (run_answered s all (run.more ran t refl))

    said_now : heap_answer s.program h i e.act ≡ Answers e.answer
    said_now = said_by s es e t ran

    last : Lasts s es fit.elements later
    last = lasts s es e ran agree t fits.storable fit

    q_stands : Stands s i (last_kind i h) q
    q_stands = let k = way_next s es i t.process q ran t.world t.is_next.1.reaches in subst (λ l. Stands s i l q) k.4 (given_facts.stands s i q k.0 k.1)

    q_fits : ProcessFits w (GivesLast s es i) q
    q_fits =
        let k = way_next s es i t.process t.process ran t.world here in
        (reaches_fits performs w (GivesLast s es i) s i _ t.process q refl (known_of i t.within)
        (given_facts.stands s i t.process k.0 k.1) t.is_next.1.reaches (last.processes i t.process t.within t.world)).0

    -- where what the action names is there
    module _ (wanted : Wanted) (there : OperandsExist s.program w e.act wanted) where
      abbrev elements : Elements
      elements = elements_behind fit.elements e.act wanted e.answer

      -- for each process
      abbrev later_for : ℕ → HeapTyping
      later_for j = heap_typing_of j elements later

      abbrev there_later : HeapTyping
      there_later = later_for i

      abbrev u : HeapTyping
      u = living later there_later

      keeps : KeepsTypes s.program fit.elements h i e.act wanted
      keeps = keeps_types s.program fit.elements h i e.act wanted fits.storable (run_answered s es ran) fit.heap (there_stays s.program w there_now e.act wanted (living_there later there_now) there)

      all_grown : Grows there_now there_later
      all_grown = keeps.grown e.place e.answer said_now

      grown : Grows w u
      grown = living_grows later later there_now there_later (λ r z. z) all_grown

      asked_fits : (a : Action) → e.act ≡ a → is_of_heap a ≡ true → FitsAsked s.program u a wanted e.answer
      asked_fits a z k =
          fits_living s.program h later i e.answer there_now there_later (run_answered s es ran) last.cells (λ id g x. x)
          (λ n x. ap (λ b. b && is_delete_of n (last_arrival i h) || is_gone n h) (ap is_departure z ∙ no_departure a k) ∙ x) a wanted k
          (subst (λ b. OperandsExist s.program w b wanted) z there) (sym (ap (heap_answer s.program h i) z) ∙ said_now)
          (subst (λ b. FitsAsked s.program there_later b wanted e.answer) z (keeps.answered e.place e.answer (ap is_of_heap z ∙ k) said_now))

      -- what is written lives
      writes_live : (a : Action) → OperandsExist s.program w a wanted → (c : Cell) (x : Value) → written_by a h ≡ Some (c, x) → IfNamedLives later (named_by x)
      writes_live (act.PutField obj field value) k c x z = subst (λ y. IfNamedLives later (named_by y)) (pair_second _ c value x z)
          (field_lives later there_now s.program obj field value wanted fits.storable k)
      writes_live (act.PutElem grid at value) k c x z = by (grid_of_id grid h) z
        where
          by : (o : Option Grid) → option_map {U = Cell × Value} (λ (g : Grid). (cell_of g at, value)) o ≡ Some (c, x) → IfNamedLives later (named_by x)
          by None z = absurd (none_some (c, x) z)
          by (Some g) z = subst (λ y. IfNamedLives later (named_by y)) (pair_second (cell_of g at) c value x z) (element_lives later there_now s.program grid at value wanted k)
      writes_live _ k c x z = absurd (none_some (c, x) z)

      cells_live : CellsLive later later
      cells_live c value l z = by (written_by e.act h) refl z
        where
          hit : (d : Cell) (x : Value) → written_by e.act h ≡ Some (d, x) → (b : Bool) → or_else (if b then Some x else None) (last_written c h) ≡ Some value → IfNamedLives later (named_by value)
          hit d x k true z = subst (λ y. IfNamedLives later (named_by y)) (some_same x value z) (writes_live e.act there d x k)
          hit d x k false z = last.cells c value l z

          by : (o : Option (Cell × Value)) → written_by e.act h ≡ o → or_else (written_to c o) (last_written c h) ≡ Some value → IfNamedLives later (named_by value)
          by None k z = last.cells c value l z
          by (Some (d, x)) k z = hit d x k (same_cell c d) z

      rounds_kept : ((a : rounds.Arrival) (value : Value) → arrival_in e.act ≡ Some a → value_in a.deposit ≡ Some value → IfNamedLives later (named_by value)) → RoundsLive s later later
      rounds_kept f j who n a value l m z k = by (comes who n e h a z)
        where
          one_less : (a b n : ℕ) → b ≡ suc a → b ≤ n → a ≤ n
          one_less a b n x y = omega (arith, x, y)

          fewer : (b : Bool) → is_own j e ≡ b → arrivals j h ≤ n
          fewer true o = one_less (arrivals j h) (arrivals j later) n (more_own j e h o) m
          fewer false o = subst (λ k. k ≤ n) (more_other j e h o) m

          by : Comes who n e h a → IfNamedLives later (named_by value)
          by (before z) = last.rounds_live j who n a value l (fewer (is_own j e) refl) z k
          by (now o c z) = f a value z k

      -- all of it
      holds : (is_answered e ≡ true → (p : Process) → ProcAfter s all i p → ProcessFits u (GivesLast s all i) p)
          → ((k : ℕ) (a : rounds.Arrival) (value : Value) → is_own i e ≡ true → arrivals i es ≡ k → arrival_in e.act ≡ Some a
          → hands_in a.kind ≡ true → value_in a.deposit ≡ Some value → (type : ValueType) × GivesAt s all i k type
          × IsOf there_later type (Plain value) × (is_local type ≡ false))
          → ((a : rounds.Arrival) (value : Value) → arrival_in e.act ≡ Some a → value_in a.deposit ≡ Some value → IfNamedLives later (named_by value))
          → ((grid : Id) (element : ValueType) → MadeNow q e grid element → elements grid ≡ Some element) → RunLives s all
      holds own_now deposit_now lives_now made_now = record {
        elements = elements;
        made = λ grid element m. made_at grid element (made_cases s es e t grid element m);
        heap = subst (HeapFits s.program elements) (sym (history_grows es e)) (keeps.kept e.place e.answer said_now);
        processes = λ j p b x. subst (λ h. ProcessFits (living h (heap_typing_of j elements h)) (GivesLast s all j) p) (sym (history_grows es e)) (process_at j p b x (acted_by s es e t j p x));
        deposits = λ j k a value z l m. subst (λ h. (type : ValueType) × GivesAt s all j k type
            × IsOf (heap_typing_of j elements h) type (Plain value) × (is_local type ≡ false)) (sym (history_grows es e))
            (deposit_at j k a value l m (comes j (suc k) e h a (sym (ap (arrival_at j (suc k)) (history_grows es e)) ∙ z)));
        counted = subst (Counted s.program) (sym (history_grows es e)) (counted_more s.program h e answered_all (makes_formed s.program w e.act wanted there) fit.counted);
        cells = subst (λ h. CellsLive h h) (sym (history_grows es e)) cells_live;
        rounds_live = subst (λ h. RoundsLive s h h) (sym (history_grows es e)) (rounds_kept lives_now);
      }
        where
          made_at : (grid : Id) (element : ValueType) → MadeWith s es grid element ⊎ MadeNow q e grid element → elements grid ≡ Some element
          made_at grid element (inl m) = grown.elements grid element (fit.made grid element m)
          made_at grid element (inr m) = made_now grid element m

          process_at : (j : ℕ) (p : Process) → j < s.procs → ProcAfter s all j p → Acted s es e t j p → ProcessFits (living later (later_for j)) (GivesLast s all j) p
          process_at j p l x (still z k) = other_round (living later (later_for j)) (GivesLast s es j) (GivesLast s all j) p (last_more s es e j k)
              (stays (living later (heap_typing_of j fit.elements h)) (living later (later_for j)) (GivesLast s es j) p (grows_for j w u grown) (last.processes j p l z))
          process_at j p l x (acted same asked go z k is) = subst (λ n. ProcessFits (living later (later_for n)) (GivesLast s all n) p) same (own_now k p (subst (λ n. ProcAfter s all n p) (sym same) x))

          deposit_at : (j k : ℕ) (a : rounds.Arrival) (value : Value) → hands_in a.kind ≡ true → value_in a.deposit ≡ Some value
              → Comes j (suc k) e h a → (type : ValueType) × GivesAt s all j k type × IsOf (later_for j) type (Plain value)
              × (is_local type ≡ false)
          deposit_at j k a value l m (before z) =
              let old = fit.deposits j k a value z l m in
              (old.0, gives_more s es all e j k old.0 refl old.1, of_stays (heap_typing_of j fit.elements h) (later_for j) old.0 (Plain value) (grows_for j there_now there_later all_grown) old.2, old.3)
          deposit_at j k a value l m (now o c z) =
              let same : e.proc ≡ j = eqb-true e.proc j (and_left (e.proc == j) _ o) in
              let count : arrivals i es ≡ k = ap (λ m. arrivals m es) same ∙ one_less (arrivals j es) k (ap suc (sym (back j es)) ∙ sym (more_own j e h o) ∙ c) in
              subst (λ n. (type : ValueType) × GivesAt s all n k type × IsOf (later_for n) type (Plain value)
              × (is_local type ≡ false)) same (deposit_now k a value (subst (λ n. is_own n e ≡ true) (sym same) o) count z l m)
            where
              one_less : (m n : ℕ) → suc m ≡ suc n → m ≡ n
              one_less m n x = omega arith

    -- an end or a fault
    closing : (a : Action) → not (is_end a || is_fault a) ≡ false → OperandsExist s.program w a ToBeDone × (is_arrival a ≡ false)
    closing act.End z = (tt, refl)
    closing (act.Fault kind) z = (tt, refl)
    closing _ z = absurd (true_false z)

    unanswered_holds : is_answered e ≡ false → RunLives s all
    unanswered_holds k =
        let c = closing e.act k in
        holds ToBeDone c.0 (λ is. absurd (true_false (sym is ∙ k)))
        (λ n a value o m z. absurd (none_arrives e.act a c.1 z))
        (λ a value z. absurd (none_arrives e.act a c.1 z))
        (λ grid element m. absurd (true_false (ap (λ a. not (is_end a || is_fault a)) (sym m.acts) ∙ k)))
      where
        none_arrives : (a : Action) (x : rounds.Arrival) → is_arrival a ≡ false → arrival_in a ≡ Some x → ⊥
        none_arrives (act.Arrive kind arg deposit_from) x k z = true_false k
        none_arrives _ x k z = none_some x z

    -- an answer
    module _ (is : is_answered e ≡ true) (asked : Asked) (go : Answer → Process) (stands : step q ≡ At (asking e.place e.act asked) go) where
      step_here : StepFits w (GivesLast s es i) (GivesLast s all i) q (At (asking e.place e.act asked) go)
      step_here = subst (StepFits w (GivesLast s es i) (GivesLast s all i) q) stands
          (step_fits performs w (GivesLast s es i) (GivesLast s all i) s i (last_kind i h) q refl
          (known_here performs s i (last_kind i h) q (known_of i t.within) q_stands) q_stands q_fits)

      there : OperandsExist s.program w e.act asked.1
      there = subst (λ (x : RunConfig). OperandsExist x.program w e.act asked.1) q_stands.0 step_here.0

      abbrev after : HeapTyping
      after = u asked.1 there

      abbrev grown_here : Grows w after
      grown_here = grown asked.1 there

      -- all that is there behind the answer
      abbrev after_all : HeapTyping
      after_all = there_later asked.1 there

      abbrev all_grown_here : Grows there_now after_all
      all_grown_here = all_grown asked.1 there

      went : ProcAfter s all i (go e.answer)
      went = subst (λ (rs : List Answer). After (begin s i) rs (go e.answer)) (sym (answers_now es e is))
          (after_more (begin s i) t.process q (answers_of i es) e.place e.act asked go e.answer t.world t.is_next.1.reaches stands)

      same_round : ProcessFits after (GivesLast s es i) (go e.answer) → is_arrival e.act ≡ false → ProcessFits after (GivesLast s all i) (go e.answer)
      same_round k z = other_round after (GivesLast s es i) (GivesLast s all i) (go e.answer) (last_more s es e i (ap₂ (λ x y. x && y) (eq-eqb i i refl) z)) k

      fits_asked : (a : Action) → e.act ≡ a → is_of_heap a ≡ true → FitsAsked q.setting.program after a asked.1 e.answer
      fits_asked a z k = subst (λ (x : RunConfig). FitsAsked x.program after a asked.1 e.answer) (sym q_stands.0) (asked_fits asked.1 there a z k)

      -- what was given in the round in which the process arrived last
      given_fits : (a b : rounds.Arrival) (who : ℕ) (x : Value) (type : ValueType) → last_arrival i h ≡ Some a → hands_in a.kind ≡ true
          → GivesLast s es i type → arrival_at who (arrivals i h) h ≡ Some b → value_in b.deposit ≡ Some x
          → IsOf after type (Plain x)
      given_fits a b who x type la k g lb lx =
          let n : arrivals i h ≡ suc g.0 = back i es ∙ g.1 in
          let here : arrival_at i (suc g.0) h ≡ Some a = subst (λ n. arrival_at i n h ≡ Some a) n la in
          let other_here : arrival_at who (suc g.0) h ≡ Some b = subst (λ n. arrival_at who n h ≡ Some b) n lb in
          let like = alike s es ran agree i who g.0 a b here other_here in
          let d = fit.deposits who g.0 b x other_here (ap hands_in (sym like.0) ∙ k) lx in
          of_living later after_all type (Plain x) (of_stays there_now after_all type (Plain x) all_grown_here
          (subst (λ z. IsOf there_now z (Plain x)) (given_same s fine es ran who i g.0 d.0 type d.1 g.2)
          (seen_from (heap_typing_of who fit.elements h) i d.0 (Plain x) (λ z. absurd (true_false (sym z ∙ d.3))) d.2)))
          (λ v. last.rounds_live i who (arrivals i h) b x t.within (same (arrivals i h)) lb lx)
        where
          same : (n : ℕ) → n ≤ n
          same n = omega arith

      departs_fit : e.act ≡ act.Depart → (wait : Wait) → q.wait ≡ Some wait → (type : ValueType)
          → IsOfRound (GivesLast s es i) wait.kind type → WantsOf wait.kind wait.wanted type → (wait.wanted ≡ ToBeDone)
          ⊎ IsOf after type (told e.answer)
      departs_fit z wait wz type g k =
          let told_here = told_now s.program h i e.answer (sym (ap (heap_answer s.program h i) z) ∙ said_now) in
          let came = waits_there s es i t.process q ran t.world t.is_next.1.reaches wait wz in
          let kind_is : wait.kind ≡ told_here.arrival.kind = sym came.2 ∙ ap (λ (a : rounds.Arrival). a.kind) (some_same came.0 told_here.arrival (sym came.1 ∙ told_here.is)) in
          by told_here.arrival told_here.is told_here.arrival.kind refl (subst (λ kind. IsOfRound (GivesLast s es i) kind type) kind_is g)
          (subst (λ kind. WantsOf kind wait.wanted type) kind_is k) told_here.gives
        where
          by : (a : rounds.Arrival) → last_arrival i h ≡ Some a → (kind : CollKind) → a.kind ≡ kind → IsOfRound (GivesLast s es i) kind type
              → WantsOf kind wait.wanted type → RoundAnswer h i (arrivals i h) kind a.arg e.answer
              → (wait.wanted ≡ ToBeDone) ⊎ IsOf after type (told e.answer)
          by a l coll.Barrier ka g k r = inl k
          by a l coll.Exchange ka g k r = inl k
          by a l coll.DeleteRegion ka g k r = inl k
          by a l coll.Broadcast ka g k r =
              inr (subst (λ x. IsOf after type (told x)) (sym r.6) (given_fits a r.1 r.0 r.2 type l (ap hands_in ka) g r.4 r.5))
          by a l coll.MakeRegion ka g k r = inr (subst (λ x. IsOf after x (told e.answer)) (sym g)
              (subst (λ x. IsOf after types.Region (told x)) (sym r) (made i (arrivals i h) h, refl, inr made_now)))
            where
              made_now : is_made (made i (arrivals i h) h) (e ∷ h) ≡ true
              made_now = ap (λ b. b || is_made (made i (arrivals i h) h) h) (ap₂ (λ x y. x && y) (ap is_departure z) (ap (is_region (made i (arrivals i h) h)) r ∙ eq-eqb _ _ refl))

      takes_fit : (who : ℕ) → e.act ≡ act.Take who → (type : ValueType) → GivesLast s es i type → IsOf after type (told e.answer)
      takes_fit who z type g =
          let x = valued (deposit_from i who h) e.answer (sym (ap (heap_answer s.program h i) z) ∙ said_now) in
          let b = given_value (arrival_at who (arrivals i h) h) x.0 x.1 in
          let acts = step_fine s i (last_kind i h) q (At (asking e.place (act.Take who) asked) go) q_stands (subst (λ a. step q ≡ At (asking e.place a asked) go) z stands) in
          let a = by_kind s es ran agree i coll.Exchange acts.0.1 in
          subst (λ r. IsOf after type (told r)) (sym x.2)
          (given_fits a.1 b.0 who x.0 type (subst (λ n. arrival_at i n h ≡ Some a.1) (sym a.2) a.3) (ap hands_in a.4) g b.1 b.2)

      goes_fit : (a : Action) → e.act ≡ a → ActionFits w (GivesLast s es i) (GivesLast s all i) q (asking e.place e.act asked) a go → ProcessFits after (GivesLast s all i) (go e.answer)
      goes_fit (act.Arrive kind arg d) z x =
          x.3 (round_with _ _ kind x.0 (λ g. last_now s es e t kind arg d x.0 z g) x.2) after grown_here e.answer
      goes_fit act.Depart z x = same_round (x.5 after grown_here e.answer (departs_fit z x.0 x.2 x.1 x.3 x.4)) (ap is_arrival z)
      goes_fit (act.Take who) z x = same_round (x.2 after grown_here e.answer (takes_fit who z x.0 x.1)) (ap is_arrival z)
      goes_fit (act.GetField o f) z x = same_round (x after grown_here e.answer (fits_asked (act.GetField o f) z refl)) (ap is_arrival z)
      goes_fit (act.PutField o f y) z x = same_round (x after grown_here e.answer (fits_asked (act.PutField o f y) z refl)) (ap is_arrival z)
      goes_fit (act.NewObj c r) z x = same_round (x after grown_here e.answer (fits_asked (act.NewObj c r) z refl)) (ap is_arrival z)
      goes_fit (act.NewGrid y d r) z x = same_round (x after grown_here e.answer (fits_asked (act.NewGrid y d r) z refl)) (ap is_arrival z)
      goes_fit (act.GetElem g at) z x = same_round (x after grown_here e.answer (fits_asked (act.GetElem g at) z refl)) (ap is_arrival z)
      goes_fit (act.PutElem g at y) z x = same_round (x after grown_here e.answer (fits_asked (act.PutElem g at y) z refl)) (ap is_arrival z)
      goes_fit (act.MakeView g how) z x = same_round (x after grown_here e.answer (fits_asked (act.MakeView g how) z refl)) (ap is_arrival z)
      goes_fit (act.DomainOf g) z x = same_round (x after grown_here e.answer (fits_asked (act.DomainOf g) z refl)) (ap is_arrival z)
      goes_fit (act.Print literal y) z x = same_round (x after grown_here e.answer tt) (ap is_arrival z)
      goes_fit act.End z x = same_round (x after grown_here e.answer tt) (ap is_arrival z)
      goes_fit (act.Fault kind) z x = same_round (x after grown_here e.answer tt) (ap is_arrival z)

      gives_fit : (a : Action) → e.act ≡ a → ActionFits w (GivesLast s es i) (GivesLast s all i) q (asking e.place e.act asked) a go
          → (k : ℕ) (x : rounds.Arrival) (value : Value) → arrivals i es ≡ k → arrival_in a ≡ Some x → hands_in x.kind ≡ true
          → value_in x.deposit ≡ Some value → (type : ValueType) × GivesAt s all i k type × IsOf after_all type (Plain value)
          × (is_local type ≡ false)
      gives_fit (act.Arrive kind arg d) z y k x value c l m n =
          let is : act.Arrive kind arg d ≡ act.Arrive x.kind x.arg x.deposit = arrival_is (act.Arrive kind arg d) x l in
          let kind_is : kind ≡ x.kind = (parts kind x.kind arg x.arg d x.deposit is).0 in
          let d_is : d ≡ x.deposit = (parts kind x.kind arg x.arg d x.deposit is).1 in
          let held = value_fits w y.0 d value y.1 (ap value_in d_is ∙ n) in (
            y.0,
            subst (λ k. GivesAt s all i k y.0) c (gives_now s es all e i kind arg d y.0 t refl z
                (round_in _ kind y.0 (ap hands_in kind_is ∙ m) y.2)),
            of_stays w after_all y.0 (Plain value)
                (grows_then w there_now after_all (living_there later there_now) all_grown_here) held.0,
            held.1,
          )
        where
          parts : (k l : CollKind) (a b : Option ℕ) (d f : Deposit) → act.Arrive k a d ≡ act.Arrive l b f → (k ≡ l) × (d ≡ f)
          parts k l a b d f z = (cc, cc)
      gives_fit _ z y k x value c l m n = absurd (none_arrival x l)
        where
          none_arrival : (b : rounds.Arrival) → ◌≡◌ {A = Option rounds.Arrival} None (Some b) → ⊥
          none_arrival b h = cc

      lives_now : (a : Action) → ActionFits w (GivesLast s es i) (GivesLast s all i) q (asking e.place e.act asked) a go
          → (x : rounds.Arrival) (value : Value) → arrival_in a ≡ Some x → value_in x.deposit ≡ Some value
          → IfNamedLives later (named_by value)
      lives_now (act.Arrive kind arg d) y x value l n = given_lives later d value (ap (λ (a : rounds.Arrival). value_in a.deposit) (some_same _ x l) ∙ n) (deposit_lives later there_now y.0 d y.1)
      lives_now _ y x value l n = absurd (none_some x l)

      answered_holds : RunLives s all
      answered_holds =
          holds asked.1 there (λ k p x. subst (ProcessFits after (GivesLast s all i)) (after_same _ _ _ _ went x) (goes_fit e.act refl step_here.2))
          (λ k a value o c l m n. gives_fit e.act refl step_here.2 k a value c l m n) (lives_now e.act step_here.2)
          (λ grid element m. made_elements fit.elements q e grid element (asking e.place e.act asked) go stands m)

    entry_holds : RunLives s all
    entry_holds = by (is_answered e) refl
      where
        by : (b : Bool) → is_answered e ≡ b → RunLives s all
        by false k = unanswered_holds k
        by true k =
            let a = at_action (step q) e.place e.act (t.is_next.1.stands ∙ ap Some (acts_as s es i t.next e t.entry k)) in
            answered_holds k a.0 a.1 a.2

  begin_holds : RunLives s []
  begin_holds = record {
    elements = λ id. None;
    made = λ grid element m. absurd (none_made m.before m.rest _ m.split);
    heap = record { cells = λ cell value z. absurd (none_some value z); blocks = λ block type z. absurd (none_some type z) };
    processes = λ i p b x. subst (ProcessFits (living [] (heap_typing_of i (λ id. None) [])) (GivesLast s [] i))
        (after_same (begin s i) (begin s i) p [] none x) (begin_fits performs (living [] (heap_typing_of i (λ id. None) []))
        (GivesLast s [] i) s i refl (known_of i b));
    deposits = λ i k a value z. absurd (none_some a z);
    counted = none_counted s.program;
    cells = λ c value l z. absurd (none_some value z);
    rounds_live = λ j who n a value l m z. absurd (none_some a z);
  }
    where
      none_made : (before rest : List Entry) (x : Entry) → [] ≡ before ++ x ∷ rest → ⊥
      none_made [] rest x z = cc
      none_made (y ∷ ys) rest x z = cc

  -- in every run
  pub run_lives : (agree : (es : List Entry) → IsRun s es → ArrivalsAgree s es) → (es : List Entry) → IsRun s es → RunLives s es
  run_lives agree es run.none = begin_holds
  run_lives agree whole (run.more {es = es} {i = i} {e = e} r t z) =
      subst (RunLives s) (sym z) (entry_holds es e r (agree es r) (subst (λ j. CanTake s es j e) (sym (taker s es i e t)) t) (run_lives agree es r))

  run_holds : (agree : (es : List Entry) → IsRun s es → ArrivalsAgree s es) → (es : List Entry) → IsRun s es → RunFits s es
  run_holds agree es r =
      let k = run_lives agree es r in
      let w : ℕ → HeapTyping = λ i. heap_typing_of i k.elements (history_of es) in
      record {
        elements = k.elements;
        made = k.made;
        heap = k.heap;
        processes = λ i p b x. stays (living (history_of es) (w i)) (w i) (GivesLast s es i) p (living_there (history_of es) (w i)) (k.processes i p b x);
        deposits = k.deposits;
      }

  -- ---- what is named

  -- what is known of a process wherever it stands between its actions, and of its step there
  module _ (es : List Entry) (ran : IsRun s es) (w : ℕ → HeapTyping) (own : (i : ℕ) → (w i).owner ≡ i)
      (fit : (i : ℕ) (p : Process) → i < s.procs → ProcAfter s es i p → ProcessFits (w i) (GivesLast s es i) p) where
    pub reached : (i : ℕ) (p q : Process) → i < s.procs → ProcAfter s es i p → Reaches p q → ProcessFits (w i) (GivesLast s es i) q × Stands s i (last_kind i (history_of es)) q
    reached i p q b x y =
        let k = way_next s es i p p ran x here in
        reaches_fits performs (w i) (GivesLast s es i) s i (last_kind i (history_of es)) p q (own i) (known_of i b) (subst (λ l. Stands s i l p) k.4 (given_facts.stands s i p k.0 k.1)) y (fit i p b x)

    pub step_reached : (i : ℕ) (p q : Process) (request : Request) (go : Answer → Process) → i < s.procs → ProcAfter s es i p → Reaches p q → step q ≡ At request go
        → StepFits (w i) (GivesLast s es i) (GivesLast s es i) q (At request go)
    step_reached i p q request go b x y z =
        let k = reached i p q b x y in
        let last = last_kind i (history_of es) in
        subst (StepFits (w i) (GivesLast s es i) (GivesLast s es i) q) z
        (step_fits performs (w i) (GivesLast s es i) (GivesLast s es i) s i last q (own i) (known_here performs s i last q (known_of i b) k.1) k.1 k.0)

  pub next_fits : (es : List Entry) → IsRun s es → (w : ℕ → HeapTyping) → ((i : ℕ) → (w i).owner ≡ i)
      → ((i : ℕ) (p : Process) → i < s.procs → ProcAfter s es i p → ProcessFits (w i) (GivesLast s es i) p)
      → (i : ℕ) (p : Process) (at : Place) (a : Action) → i < s.procs → ProcAfter s es i p → (n : IsNext p (next.Act at a))
      → (asked : Asked) × (go : Answer → Process) × (n.0.setting ≡ s) × StepFits (w i) (GivesLast s es i) (GivesLast s es i) n.0 (At (asking at a asked) go) × (step n.0 ≡ At (asking at a asked) go)
  next_fits es r w own fit i p at a b x n =
      let acts = at_action (step n.0) at a n.1.stands in
      (acts.0, acts.1, (reached es r w own fit i p n.0 b x n.1.reaches).1.0, step_reached es r w own fit i p n.0 (asking at a acts.0) acts.1 b x n.1.reaches acts.2, acts.2)

  -- what an action hands on lives
  handed : (es : List Entry) (fit : RunLives s es) (q : Process) (asked : Request) (a : Action) (wanted : Wanted) (go : Answer → Process)
      → (i : ℕ) → OperandsExist s.program (living (history_of es) (heap_typing_of i fit.elements (history_of es))) a wanted
      → ActionFits (living (history_of es) (heap_typing_of i fit.elements (history_of es))) (GivesLast s es i) (GivesLast s es i) q asked a go → IfNamedLives (history_of es) (handed_by a)
  handed es fit q asked (act.PutField obj field value) wanted go i k y = field_lives (history_of es) (heap_typing_of i fit.elements (history_of es)) s.program obj field value wanted fits.storable k
  handed es fit q asked (act.PutElem grid index value) wanted go i k y = element_lives (history_of es) (heap_typing_of i fit.elements (history_of es)) s.program grid index value wanted k
  handed es fit q asked (act.Arrive kind arg deposit_from) wanted go i k y = deposit_lives (history_of es) (heap_typing_of i fit.elements (history_of es)) y.0 deposit_from y.1
  handed es fit q asked _ wanted go i k y = tt

  -- all that is named lives
  pub next_lives : (es : List Entry) → IsRun s es → RunLives s es → (i : ℕ) (p : Process) (at : Place) (a : Action) → i < s.procs
      → ProcAfter s es i p → IsNext p (next.Act at a) → NamesLiving (history_of es) a
  next_lives es r fit i p at a b x n =
      let h = history_of es in
      let w = heap_typing_of i fit.elements h in
      let k = next_fits es r (λ i. living h (heap_typing_of i fit.elements h)) (λ i. refl) fit.processes i p at a b x n in
      let there : OperandsExist s.program (living h w) a k.0.1 = subst (λ (y : RunConfig). OperandsExist y.program (living h w) a k.0.1) k.2 k.3.0 in
      record { used = used_lives h w s.program a k.0.1 there; handed = handed es fit n.0 (asking at a k.0) a k.0.1 k.1 i there k.3.2 }

  -- what an arrival hands in is of the type at which it does
  module _ (es : List Entry) (ran : IsRun s es) (fit : RunFits s es) where
    abbrev present : ℕ → HeapTyping
    present i = heap_typing_of i fit.elements (history_of es)

    next_handed : (i : ℕ) (p q : Process) (request : Request) (go : Answer → Process) (kind : CollKind) (arg : Option ℕ) (deposit_from : Deposit)
        → i < s.procs → ProcAfter s es i p → Reaches p q → step q ≡ At request go
        → request.action ≡ act.Arrive kind arg deposit_from → (type : ValueType) × DepositFits (present i) type deposit_from × IsOfRound (λ u. contribution_by q ≡ Some u) kind type
    next_handed i p q request go kind arg deposit_from b x y z a =
        let k = subst (λ (a : Action). ActionFits (present i) (GivesLast s es i) (GivesLast s es i) q request a go) a
        (step_reached es ran present (λ i. refl) fit.processes i p q request go b x y z).2 in
        (k.0, k.1, k.2)

    -- and what is asked for is there
    next_there : (i : ℕ) (p q : Process) (request : Request) (go : Answer → Process) → i < s.procs → ProcAfter s es i p → Reaches p q → step q ≡ At request go
        → OperandsExist s.program (present i) request.action request.wanted × GoesThrough (present i) request.through request.action × SuitsWanted s.program (present i) request.action request.wanted
    next_there i p q request go b x y z =
        let k = step_reached es ran present (λ i. refl) fit.processes i p q request go b x y z in
        let e = (reached es ran present (λ i. refl) fit.processes i p q b x y).1.0 in (
          subst (λ (n : RunConfig). OperandsExist n.program (present i) request.action request.wanted) e k.0,
          k.1,
          subst (λ (n : RunConfig). SuitsWanted n.program (present i) request.action request.wanted) e k.3,
        )

  pub run_typed : ((es : List Entry) → IsRun s es → ArrivalsAgree s es) → (es : List Entry) → IsRun s es → RunTyped s es
  run_typed agree es r =
      let fit = run_holds agree es r in
      let h = history_of es in
      record {
        fits = fit;
        processes = λ i p q b x y. (reached es r (λ j. heap_typing_of j fit.elements h) (λ j. refl) fit.processes i p q b x y).0;
        variables = λ i p q b x y. frames_hold q.setting.program (heap_typing_of i fit.elements h) q.frames (reached es r (λ j. heap_typing_of j fit.elements h) (λ j. refl) fit.processes i p q b x y).0.0;
        fields = λ obj class field type c f. field_value s.program fit.elements h fit.heap fits.storable obj field type (class, c, f);
        cells = λ block at element m. block_value s.program fit.elements h fit.heap fits.storable block element at m;
        handed = next_handed es r fit;
        there = next_there es r fit;
      }

  -- so the heap answers it
  pub things_there : ((es : List Entry) → IsRun s es → ArrivalsAgree s es) → (es : List Entry) → IsRun s es → ThingsThere s es
  things_there agree es r i p at a b x n of o =
      let typed = run_typed agree es r in
      let named = acting.next_there s es typed i p at a b x n in
      (keeps_types s.program typed.fits.elements (history_of es) i a named.0 fits.storable (run_answered s es r) typed.fits.heap named.1).possible of o
