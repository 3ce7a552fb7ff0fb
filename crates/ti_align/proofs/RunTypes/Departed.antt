-- What a departure is answered in a run fits what is wanted there.
use Rattle.std.proofs.Common.{◌≡◌, ℕ, ◌<◌, ◌≤◌, suc, true, Option, Some, None, List, refl, ap, sym, ◌∙◌, subst}
use Rattle.ti_base.specs.declared.place.Place.{Place}
use Rattle.ti_base.specs.declared.value.Id.{Id}
use Rattle.ti_base.specs.declared.value.Value.{Value}
use Rattle.ti_base.specs.declared.value.Value.TheVariants as v
use Rattle.ti_base.specs.declared.action.Action.TheVariants as act
use Rattle.ti_base.specs.declared.action.CollKind.{CollKind}
use Rattle.ti_base.specs.declared.action.CollKind.TheVariants as coll
use Rattle.ti_base.specs.declared.entry.Answer.{Answer}
use Rattle.ti_base.specs.declared.entry.Entry.{Entry}
use Rattle.ti_lang.specs.Program.Types.{ValueType}
use Rattle.ti_lang.specs.Program.Types as t
use Rattle.ti_lang.specs.Typing.Kinds.{as_global}
use Rattle.ti_lang.specs.Meaning.Held.{Plain}
use Rattle.ti_lang.specs.Meaning.Comp.{Wanted}
use Rattle.ti_lang.specs.Meaning.Answers.{IsCount, IsName, HasForm, FitsWanted}
use Rattle.ti_lang.specs.Meaning.Processes.{RunConfig, Process}
use Rattle.ti_lang.specs.Meaning.Steps.{At, step}
use Rattle.ti_lang.specs.Meaning.NextStep.{Reaches, here}
use Rattle.ti_lang.specs.Meaning.Histories.{History, history_of, arrivals}
use Rattle.ti_lang.specs.Meaning.RoundsOf as rounds
use Rattle.ti_lang.specs.Meaning.RoundsOf.{arrival_at, value_in, last_arrival, makes_region}
use Rattle.ti_lang.specs.Meaning.HeapOf.{class_of_object}
use Rattle.ti_lang.specs.Meaning.HeapAnswers.{Answers, heap_answer}
use Rattle.ti_lang.specs.Meaning.Runs.{ProcAfter, IsRun}
use Rattle.ti_rules.specs.InitialTypes.{can_broadcast}
use Rattle.ti_align.specs.Alignment.{most_procs, ArrivalsAgree}
use Rattle.ti_align.specs.Names.{NamesFit}
use Rattle.ti_align.specs.HeapTyping.{HeapTyping, IsGridOf, IsOf}
use Rattle.ti_align.specs.Given.{IsOfRound}
use Rattle.ti_align.specs.Mirrors.ContItem.{WantsOf}
use Rattle.ti_align.specs.Heap.{Elements, heap_typing_of}
use Rattle.ti_align.specs.Mirrors.Processes.{ProgramFits}
use Rattle.ti_align.specs.Typed.{GivesLast, hands_in, RunTyped}
use Rattle.ti_align.proofs.RunTypes.Steps.{StepFits}
use Rattle.ti_align.proofs.Runs.Vars.{true_false}
use Rattle.ti_align.proofs.Runs.Ways.{Asked, asking}
use Rattle.ti_align.proofs.RunTypes.Operating.{some_same}
use Rattle.ti_align.proofs.Alignment.Fitting.{FineMethods}
use Rattle.ti_align.proofs.Runs.Given as given_facts
use Rattle.ti_align.proofs.Runs.Arrived.{back, made, made_all}
use Rattle.ti_align.proofs.Alignment.Rounds.{RoundAnswer, told_now, alike}
use Rattle.ti_align.proofs.Runs.Waiting.{waits_there}
use Rattle.ti_align.proofs.RunTypes.Giving.{given_same}
use Rattle.ti_align.proofs.Alignment.Aligning.{way_next}
use Rattle.ti_align.proofs.RunTypes.Kept.{step_fits, known_here, reaches_fits}
use Rattle.ti_align.proofs.SliceAlone.Pacing.{wants}
use Rattle.ti_align.proofs.RunTypes.Holding.{performs, known_of, run_typed}
use Rattle.ti_align.proofs.Runs.Paying.{at_most_fuel}
use Rattle.ti_align.proofs.RunTypes.Ranged.{small, region_answered, names_fit}

-- ---- forms

pub plain_same : (x y : Value) → Plain x ≡ Plain y → x ≡ y
plain_same x y e = cc

-- a value that is there has the form of its type
pub form_of : (h : History) (elements : Elements) (i : ℕ) → NamesFit h → (u : ValueType) → can_broadcast u ≡ true → (x : Value) → IsOf (heap_typing_of i elements h) (as_global u) (Plain x) → HasForm u x
form_of h elements i n t.Int c x k = subst (HasForm t.Int) (sym (plain_same x _ k.1)) k.2
form_of h elements i n t.Long c x k = subst (HasForm t.Long) (sym (plain_same x _ k.1)) k.2
form_of h elements i n t.Boolean c x k = subst (HasForm t.Boolean) (sym (plain_same x (v.Bool k.0) k.1)) tt
form_of h elements i n (t.Pt m) c x k = subst (HasForm (t.Pt m)) (sym (plain_same x _ k.1)) k.2
form_of h elements i n (t.Rc m) c x k = subst (HasForm (t.Rc m)) (sym (plain_same x _ k.1)) k.2
form_of h elements i n (t.Class class l) c x k = subst (HasForm (t.Class class l)) (sym (plain_same x _ k.1)) (by k.0 k.2)
  where
    by : (o : Option Id) → ((id : Id) → o ≡ Some id → class_of_object id h ≡ Some class) → IsName o
    by None f = tt
    by (Some id) f = n.objects id class (f id refl)
form_of h elements i n (t.Grid element m l) c x k = subst (HasForm (t.Grid element m l)) (sym (plain_same x _ k.1)) (by k.0 k.2)
  where
    by : (o : Option Id) → ((id : Id) → o ≡ Some id → IsGridOf (heap_typing_of i elements h) element m id) → IsName o
    by None f = tt
    by (Some id) f = n.grids id (f id refl).0 (f id refl).1
form_of h elements i n (t.Dm m) c x k = absurd (true_false (sym c))
form_of h elements i n t.Region c x k = absurd (true_false (sym c))
form_of h elements i n t.Null c x k = absurd (true_false (sym c))
form_of h elements i n t.Void c x k = absurd (true_false (sym c))

-- ---- runs

module _ (s : RunConfig) (fits : ProgramFits s.program) (fine : FineMethods s.program s.program.methods) (few : s.procs ≤ most_procs) (fed : s.fuel ≤ 4000000) (agree : (es : List Entry) → IsRun s es → ArrivalsAgree s es) (es : List Entry) (ran : IsRun s es) where
  abbrev h : History
  h = history_of es

  pub typed : RunTyped s es
  typed = run_typed s fits fine few agree es ran

  pub names : NamesFit h
  names = names_fit s es ran few fed (run_typed s fits fine few agree)

  region_count : (i : ℕ) → IsCount (made i (arrivals i h) h)
  region_count i = subst IsCount (made_all i h) (small _ s.fuel (at_most_fuel s es ran i (λ e. makes_region e.act) region_answered) fed)

  -- what another process handed in in the round in which this one arrived last
  pub handed_of : (i who : ℕ) (a b : rounds.Arrival) (type : ValueType) (x : Value) → GivesLast s es i type → arrival_at i (arrivals i h) h
      ≡ Some a → arrival_at who (arrivals i h) h ≡ Some b → hands_in a.kind ≡ true → value_in b.deposit ≡ Some x
      → IsOf (heap_typing_of who typed.fits.elements h) type (Plain x)
  handed_of i who a b type x g mine other k z =
      let n : arrivals i h ≡ suc g.0 = back i es ∙ g.1 in
      let one : arrival_at i (suc g.0) h ≡ Some a = subst (λ n. arrival_at i n h ≡ Some a) n mine in
      let two : arrival_at who (suc g.0) h ≡ Some b = subst (λ n. arrival_at who n h ≡ Some b) n other in
      let like = alike s es ran (agree es ran) i who g.0 a b one two in
      let d = typed.fits.deposits who g.0 b x two (ap hands_in (sym like.0) ∙ k) z in
      subst (λ y. IsOf (heap_typing_of who typed.fits.elements h) y (Plain x)) (given_same s fine es ran who i g.0 d.0 type d.1 g.2) d.2

  -- what is wanted where the process waits is what the round gives
  round_fits : (i : ℕ) (wanted : Wanted) (type : ValueType) (r : Answer) (a : rounds.Arrival) → last_arrival i h ≡ Some a
      → (kind : CollKind) → a.kind ≡ kind → IsOfRound (GivesLast s es i) kind type → WantsOf kind wanted type
      → RoundAnswer h i (arrivals i h) kind a.arg r
      → FitsWanted wanted r
  round_fits i wanted type r a l coll.Barrier ka g k x = subst (λ y. FitsWanted y r) (sym k) x
  round_fits i wanted type r a l coll.Exchange ka g k x = subst (λ y. FitsWanted y r) (sym k) x
  round_fits i wanted type r a l coll.DeleteRegion ka g k x = subst (λ y. FitsWanted y r) (sym k) x
  round_fits i wanted type r a l coll.MakeRegion ka g k x = subst (λ y. FitsWanted y r) (sym k) (v.Region (made i (arrivals i h) h), x, region_count i)
  round_fits i wanted type r a l coll.Broadcast ka g k x =
      let given = handed_of i x.0 a x.1 type x.2 g l x.4 (ap hands_in ka) x.5 in
      subst (λ y. FitsWanted y r) (sym k.1) (x.2, x.6, form_of h typed.fits.elements x.0 names k.0 k.3 x.2 (subst (λ z. IsOf (heap_typing_of x.0 typed.fits.elements h) z (Plain x.2)) k.2 given))

  -- there is one last arrival, and it is of one kind
  same_kind : (i : ℕ) (a b : rounds.Arrival) (kind : CollKind) → last_arrival i h ≡ Some a → a.kind ≡ kind → last_arrival i h ≡ Some b → kind ≡ b.kind
  same_kind i a b kind x k y = sym k ∙ ap (λ (a : rounds.Arrival). a.kind) (some_same a b (sym x ∙ y))

  pub departure_fits : (i : ℕ) → i < s.procs → (p q : Process) (at : Place) (asked : Asked) (go : Answer → Process) (r : Answer)
      → ProcAfter s es i p → Reaches p q → step q ≡ At (asking at act.Depart asked) go → heap_answer s.program h i act.Depart ≡ Answers r
      → FitsWanted asked.1 r
  departure_fits i b p q at asked go r x y e c =
      let w : HeapTyping = heap_typing_of i typed.fits.elements h in
      let k = way_next s es i p p ran x here in
      let reached = reaches_fits performs w (GivesLast s es i) s i _ p q refl (known_of s fits fine few i b) (given_facts.stands s i p k.0 k.1) y (typed.fits.processes i p b x) in
      let fit = (subst (StepFits w (GivesLast s es i) (GivesLast s es i) q) e
      (step_fits performs w (GivesLast s es i) (GivesLast s es i) s i _ q refl
      (known_here performs s i _ q (known_of s fits fine few i b) reached.1) reached.1 reached.0)).2 in
      let told = told_now s.program h i r c in
      let came = waits_there s es i p q ran x y fit.0 fit.2 in
      let kind_is : fit.0.kind ≡ told.arrival.kind = same_kind i came.0 told.arrival fit.0.kind came.1 came.2 told.is in
      subst (λ y. FitsWanted y r) (sym (wants q fit.0 (asking at act.Depart asked) go fit.2 e))
      (round_fits i fit.0.wanted fit.1 r told.arrival told.is told.arrival.kind refl
      (subst (λ kind. IsOfRound (GivesLast s es i) kind fit.1) kind_is fit.3)
      (subst (λ kind. WantsOf kind fit.0.wanted fit.1) kind_is fit.4) told.gives)
