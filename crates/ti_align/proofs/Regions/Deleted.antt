-- In every run a region that a process comes to delete was made.
use Rattle.std.proofs.Common.{◌≡◌, ℕ, zero, suc, ◌+◌, ◌==◌, Bool, true, false, ◌&&◌, if◌then◌else◌, option_map, Option, Some, None, List, [], ◌∷◌, ◌++◌, refl, ap, sym, ◌∙◌, subst, arith, eqb-true, eq-eqb}
use Rattle.ti_base.specs.declared.value.Value.TheVariants as v
use Rattle.ti_base.specs.declared.action.Action.{Action}
use Rattle.ti_base.specs.declared.action.Action.TheVariants as act
use Rattle.ti_base.specs.declared.action.CollKind.{CollKind}
use Rattle.ti_base.specs.declared.action.CollKind.TheVariants as coll
use Rattle.ti_base.specs.declared.action.Deposit.{Deposit}
use Rattle.ti_base.specs.declared.entry.Answer.{Answer}
use Rattle.ti_base.specs.declared.entry.Answer.TheVariants.{Val}
use Rattle.ti_base.specs.declared.entry.Entry.{Entry}
use Rattle.ti_base.specs.declared.entry.Next.TheVariants as next
use Rattle.ti_base.specs.declared.place.Place.{Place}
use Rattle.ti_lang.specs.Meaning.Comp.{told}
use Rattle.ti_lang.specs.Meaning.Processes.{RunConfig, Process, begin}
use Rattle.ti_lang.specs.Meaning.Steps.{At, step}
use Rattle.ti_lang.specs.Meaning.NextStep.{Reaches, here, IsNext, none}
use Rattle.ti_lang.specs.Meaning.Histories.{History, history_of, is_arrival, arrivals}
use Rattle.ti_lang.specs.Meaning.RoundsOf.{Arrival, arrival_in, arrival_at}
use Rattle.ti_lang.specs.Meaning.HeapAnswers.{heap_answer}
use Rattle.ti_lang.specs.Meaning.Runs.{ProcAfter, CanTake, IsRun}
use Rattle.ti_lang.specs.Meaning.Runs as run
use Rattle.ti_lang.proofs.Lemmas.{after_same, taker, history_grows}
use Rattle.ti_align.proofs.Runs.Vars.{true_false}
use Rattle.ti_align.proofs.Runs.Ways.{asking}
use Rattle.ti_align.proofs.RunTypes.Operating.{none_some, some_same}
use Rattle.ti_align.proofs.Runs.Arrived.{is_own, more_own, last_kind, kind_after, last_other, last_own, makes, made}
use Rattle.ti_align.proofs.Alignment.Rounds.{RoundAnswer, Told, told_now}
use Rattle.ti_align.proofs.Runs.Running.{at_action}
use Rattle.ti_align.proofs.Runs.Acted.{Acted, still, acted, acted_by, said_by}
use Rattle.ti_align.proofs.Alignment.Aligning.{way_next}
use Rattle.ti_align.proofs.Scope.Keeping.{ProgramStands, Keeps, kept}
use Rattle.ti_align.proofs.Regions.Regional.{Good, MethodsAreSuch}
use Rattle.ti_align.proofs.Regions.Deleting.{Hands, DeletesSome, ActsSuch, step_such, reaches_hands, begin_hands}

-- ---- rounds

-- no process arrives at round 0
pub no_round : (i : ℕ) (h : History) → arrival_at i 0 h ≡ None
no_round i [] = refl
no_round i (e ∷ h) = by (is_own i e) refl (no_round i h)
  where
    never : (a b : ℕ) → a ≡ suc b → (a == 0) ≡ true → ⊥
    never a b h k = let z = eqb-true a 0 k in absurd (omega (arith, h, z))

    zero_of : (b : Bool) → (arrivals i (e ∷ h) == 0) ≡ b → is_own i e ≡ true → arrival_at i 0 h ≡ None → (if b then arrival_in e.act else arrival_at i 0 h) ≡ None
    zero_of true z k ih = absurd (never (arrivals i (e ∷ h)) (arrivals i h) (more_own i e h k) z)
    zero_of false z k ih = ih

    by : (b : Bool) → is_own i e ≡ b → arrival_at i 0 h ≡ None → arrival_at i 0 (e ∷ h) ≡ None
    by true k ih =
        ap (λ (b : Bool). if b then arrival_in e.act else arrival_at i 0 h) (tests (e.proc == i) (is_arrival e.act) (arrivals i (e ∷ h) == 0) k) ∙ zero_of (arrivals i (e ∷ h) == 0) refl k ih
      where
        tests : (a b c : Bool) → (a && b) ≡ true → (a && b && c) ≡ c
        tests true true c h = refl
        tests true false c h = absurd (true_false (sym h))
        tests false b c h = absurd (true_false (sym h))
    by false k ih = ap (λ (b : Bool). if b then arrival_in e.act else arrival_at i 0 h) (tests (e.proc == i) (is_arrival e.act) (arrivals i (e ∷ h) == 0) k) ∙ ih
      where
        tests : (a b c : Bool) → (a && b) ≡ false → (a && b && c) ≡ false
        tests true true c h = absurd (true_false h)
        tests true false c h = refl
        tests false b c h = refl

-- where the last round made a region, the process has made one
made_some : (i n : ℕ) (h : History) (a : Arrival) → arrival_at i n h ≡ Some a → a.kind ≡ coll.MakeRegion → made i n h ≡ 0 → ⊥
made_some i zero h a z k m = none_some a (sym (no_round i h) ∙ z)
made_some i (suc n) h a z k m = more (makes (arrival_at i (suc n) h)) (made i n h) (ap makes z ∙ one a k) m
  where
    one : (a : Arrival) → a.kind ≡ coll.MakeRegion → makes (Some a) ≡ 1
    one a k = ap (λ (c : CollKind). makes (Some (record { kind = c; arg = a.arg; deposit = a.deposit }))) k

    more : (a b : ℕ) → a ≡ 1 → a + b ≡ 0 → ⊥
    more a b h k = absurd (omega (arith, h, k))

-- the departure from a round that makes a region answers one with a number above 0
region_told : (h : History) (i : ℕ) (r : Answer) → Told h i (arrivals i h) r → last_kind i h ≡ Some coll.MakeRegion → Good (told r)
region_told h i r t l = (made i (arrivals i h) h, ap told (by t.arrival.kind kind_is t.gives), made_some i (arrivals i h) h t.arrival t.is kind_is)
  where
    kind_is : t.arrival.kind ≡ coll.MakeRegion
    kind_is = some_same t.arrival.kind coll.MakeRegion (sym (ap (option_map (λ (a : Arrival). a.kind)) t.is) ∙ l)

    by : (k : CollKind) → k ≡ coll.MakeRegion → RoundAnswer h i (arrivals i h) k t.arrival.arg r → r ≡ Val (v.Region (made i (arrivals i h) h))
    by k z g = subst (λ (c : CollKind). RoundAnswer h i (arrivals i h) c t.arrival.arg r) z g

-- ---- runs

-- each process of a run hands regions on
abbrev pub RunHands : RunConfig → List Entry → Type 0
RunHands s es = (i : ℕ) (p : Process) → ProcAfter s es i p → Hands s (last_kind i (history_of es)) p

module _ (s : RunConfig) (stands : ProgramStands s.program) (such : MethodsAreSuch s.program s.program.methods) where
  -- what has come to be the next process
  pub world_keeps : (es : List Entry) → IsRun s es → (i : ℕ) (p q : Process) → ProcAfter s es i p → Reaches p q → Keeps s q
  world_keeps es ran i p q x y = let k = way_next s es i p q ran x y in kept s i q k.0 stands k.1

  module _ (es : List Entry) (e : Entry) (ran : IsRun s es) (t : CanTake s es e.proc e) (hands : RunHands s es) where
    abbrev h : History
    h = history_of es

    abbrev all : List Entry
    all = es ++ e ∷ []

    abbrev i : ℕ
    i = e.proc

    abbrev q : Process
    q = t.is_next.0

    q_keeps : Keeps s q
    q_keeps = world_keeps es ran i t.process q t.world t.is_next.1.reaches

    q_hands : Hands s (last_kind i h) q
    q_hands = let k = way_next s es i t.process t.process ran t.world here in
        reaches_hands s (last_kind i h) t.process q stands such (kept s i t.process k.0 stands k.1) (hands i t.process t.world) t.is_next.1.reaches

    goes_on : (go : Answer → Process) (a : Action) → e.act ≡ a → ActsSuch s (last_kind i h) a go → Hands s (kind_after a (last_kind i h)) (go e.answer)
    goes_on go (act.Arrive kind arg given) z k = k.1 e.answer
    goes_on go act.Depart z k = k e.answer (λ l. region_told h i e.answer (told_now s.program h i e.answer (sym (ap (heap_answer s.program h i) z) ∙ said_by s es e t ran)) l)
    goes_on go _ z k = k e.answer

    entry_hands : RunHands s all
    entry_hands j p x = by (acted_by s es e t j p x)
      where
        by : Acted s es e t j p → Hands s (last_kind j (history_of all)) p
        by (still w l) = subst (λ o. Hands s o p) (sym (ap (last_kind j) (history_grows es e) ∙ last_other j e h l)) (hands j p w)
        by (acted same asked go z k is) =
            let acts = step_such s (last_kind i h) q (At (asking e.place e.act asked) go) such q_keeps q_hands z in
            subst (λ n. Hands s (last_kind n (history_of all)) p) same
            (subst (Hands s (last_kind i (history_of all))) (sym is)
            (subst (λ o. Hands s o (go e.answer)) (sym (ap (last_kind i) (history_grows es e) ∙ last_own i e h (eq-eqb i i refl))) (goes_on go e.act refl acts)))

  pub run_hands : (es : List Entry) → IsRun s es → RunHands s es
  run_hands es run.none = λ i p x. subst (Hands s None) (after_same (begin s i) (begin s i) p [] none x) (begin_hands s i such)
  run_hands whole (run.more {es = es} {i = i} {e = e} r t z) = subst (RunHands s) (sym z) (entry_hands es e r (subst (λ j. CanTake s es j e) (sym (taker s es i e t)) t) (run_hands es r))

  -- each region that a process comes to delete has a number above 0
  pub deletes_some : (es : List Entry) → IsRun s es → (i : ℕ) (p : Process) (at : Place) (kind : CollKind) (arg : Option ℕ)
      (given : Deposit) → ProcAfter s es i p → IsNext p (next.Act at (act.Arrive kind arg given)) → DeletesSome kind arg
  deletes_some es ran i p at kind arg given x n =
      let q = n.0 in
      let last = last_kind i (history_of es) in
      let keeps : Keeps s p = world_keeps es ran i p p x here in
      let acts = at_action (step q) at (act.Arrive kind arg given) n.1.stands in
      (step_such s last q (At (asking at (act.Arrive kind arg given) acts.0) acts.1) such (world_keeps es ran i p q x n.1.reaches)
      (reaches_hands s last p q stands such keeps (run_hands es ran i p x) n.1.reaches) acts.2).0
