-- The slice of a program that breaks no rule comes to an answer, whatever the outcomes.
use Rattle.std.proofs.Common.{◌≡◌, ℕ, zero, suc, ◌+◌, ◌<◌, nat_lt, Bool, true, false, ◌⊎◌, inl, inr, if◌then◌else◌, List, [], ◌∷◌, ◌++◌, Option, Some, None, refl, ap, ◌∙◌, subst, arith}
use Rattle.std.proofs.lemmas.Bool.Decides.{not_from_Decides}
use Rattle.ti_base.specs.declared.place.Place.{Place}
use Rattle.ti_base.specs.declared.fault.FaultKind.{FaultKind}
use Rattle.ti_base.specs.declared.fault.FaultKind.TheVariants.{Fuel, RegionGone}
use Rattle.ti_base.specs.declared.action.Action.{Action}
use Rattle.ti_base.specs.declared.action.Action.TheVariants as act
use Rattle.ti_base.specs.declared.action.CollKind.{CollKind}
use Rattle.ti_base.specs.declared.action.Deposit.{Deposit}
use Rattle.ti_base.specs.declared.entry.Answer.{Answer}
use Rattle.ti_base.specs.declared.entry.Answer.TheVariants.{Done}
use Rattle.ti_lang.specs.Meaning.Comp.{Request, request}
use Rattle.ti_lang.specs.Meaning.Processes.{RunConfig, Wait, Process, begin}
use Rattle.ti_lang.specs.Meaning.Steps.{Step, To, At, Ends, Faults, spends, deliver, value_asked}
use Rattle.ti_lang.proofs.Lemmas.{needs_all, most, weight, Fitting, Falls, fits_bound}
use Rattle.ti_align.specs.declared.slices.SliceStep.{SliceStep}
use Rattle.ti_align.specs.Slice.{deletes_one, fault_if_deleted, deleted_by, slice_steps, slice_step, SliceComes, silent, stands, arrives, leaves, unfit, ends, faults, ended, faulted, SliceAnswers}
use Rattle.ti_align.proofs.Alignment.Slice.{State, slice, Silent, Arrival, Departure, move_of}
use Rattle.ti_align.proofs.Runs.Vars.{if_true, if_false}
use Rattle.ti_align.proofs.Alignment.Fitting.{FineMethods}
use Rattle.ti_align.proofs.Alignment.Stepping.{MovesAt, GoesOn}
use Rattle.ti_align.proofs.SliceAlone.Sliced.{IsBare, Sliced, Slices, slices, begin_sliced}
use Rattle.ti_align.proofs.SliceAlone.Pacing.{rests}
use Rattle.ti_align.proofs.SliceAlone.Slicing.{none_wait}
use Rattle.ti_align.proofs.SliceAlone.Deciding.{fits_wanted, fits_decides}
use Rattle.ti_align.proofs.SliceAlone.Finishing.{slice_falls}

-- what the slice comes to from here
abbrev HasAnswer : Process → List ℕ → ℕ → List Answer → Type 0
HasAnswer p gone k rs = (x : SliceStep) × SliceComes p gone k rs x

-- ---- where it waits

-- behind its arrival the slice departs with the outcome, if a tick is left and it fits
waits : (n : RunConfig) (q : Process) (w : Wait) (gone : List ℕ) (k : ℕ) (r : Answer) (rest : List Answer) → q.wait ≡ Some w → Sliced n q
    → ((p : Process) → Sliced n p → p.wait ≡ None → HasAnswer p (deleted_by q.wait ++ gone) (k + 1) rest) → HasAnswer q gone k (r ∷ rest)
waits n q w gone k r rest e s go = by (nat_lt q.spent q.setting.fuel) refl
  where
    behind : Answer → Process
    behind r = spends (record q { frames = deliver w.receiver (value_asked w.wanted r) q.frames; wait = None; answers = [] })

    lies : slice_step q ≡ (if nat_lt q.spent q.setting.fuel then At (request w.place act.Depart w.wanted) behind else Faults Fuel w.place)
    lies = ap (slice_steps q) e

    on : slice_step q ≡ At (request w.place act.Depart w.wanted) behind → (b : Bool) → fits_wanted w.wanted r ≡ b → HasAnswer q gone k (r ∷ rest)
    on h true f =
        let t = subst (Slices n q) h (slices n q s) in
        let x = go (behind r) ((t.0.3 r).1, t.1 r) refl in
        (x.0, leaves (ap (fault_if_deleted gone) h) refl ((fits_decides w.wanted r).0 f) x.1)
    on h false f = (_, unfit (ap (fault_if_deleted gone) h) refl (not_from_Decides _ (fits_decides w.wanted r) f))

    by : (b : Bool) → nat_lt q.spent q.setting.fuel ≡ b → HasAnswer q gone k (r ∷ rest)
    by true h = on (lies ∙ if_true (nat_lt q.spent q.setting.fuel) _ _ h) (fits_wanted w.wanted r) refl
    by false h = (_, faulted (ap (fault_if_deleted gone) (lies ∙ if_false (nat_lt q.spent q.setting.fuel) _ _ h)))

-- ---- where it goes on by itself

module _ (n : RunConfig) (gone : List ℕ) (k : ℕ) where
  -- what it comes to behind an arrival
  abbrev Ahead : List Answer → Type 0
  Ahead [] = Unit {0}
  Ahead (r ∷ rest) = (q : Process) (w : Wait) → q.wait ≡ Some w → Sliced n q → HasAnswer q gone k (r ∷ rest)

  at_fault : (p : Process) (rs : List Answer) (kind : FaultKind) (place : Place) → fault_if_deleted gone (slice_step p) ≡ Faults kind place → HasAnswer p gone k rs
  at_fault p [] kind place e = (_, faults e)
  at_fault p (r ∷ rest) kind place e = (_, faulted e)

  at_end : (p : Process) (rs : List Answer) (place : Place) → fault_if_deleted gone (slice_step p) ≡ Ends place → HasAnswer p gone k rs
  at_end p [] place e = (_, ends e)
  at_end p (r ∷ rest) place e = (_, ended e)

  at_arrival : (p : Process) (rs : List Answer) (req : Request) (go : Answer → Process) (kind : CollKind) (arg : Option ℕ) (given : Deposit)
      → Ahead rs → fault_if_deleted gone (slice_step p) ≡ At req go → req.action ≡ act.Arrive kind arg given → (w : Wait)
      → (go Done).wait ≡ Some w → Sliced n (go Done) → HasAnswer p gone k rs
  at_arrival p [] req go kind arg given h e a w x s = (_, stands e a)
  at_arrival p (r ∷ rest) req go kind arg given h e a w x s = let y = h (go Done) w x s in (y.0, arrives e a y.1)

  at_action : (p : Process) (rs : List Answer) (req : Request) (go : Answer → Process) (a : Action) → Ahead rs → p.wait ≡ None → slice_step p ≡ At req go → req.action ≡ a
      → MovesAt n p.spent (move_of n (slice p)) p.frames req.place a go × ((r : Answer) → IsBare (go r)) → HasAnswer p gone k rs
  at_action p rs req go (act.Arrive kind arg given) h e z y m = by (deletes_one gone req.action) refl
    where
      step : fault_if_deleted gone (slice_step p) ≡ (if deletes_one gone req.action then Faults RegionGone req.place else At req go)
      step = ap (fault_if_deleted gone) z

      by : (b : Bool) → deletes_one gone req.action ≡ b → HasAnswer p gone k rs
      by true d = at_fault p rs RegionGone req.place (step ∙ if_true (deletes_one gone req.action) _ _ d)
      by false d =
          at_arrival p rs req go kind arg given h (step ∙ if_false (deletes_one gone req.action) _ _ d) y m.0.0
          (rests n (slice p) (Arrival m.0.0 (slice (go Done))) (m.0.4 Done).0).1 ((m.0.4 Done).1, m.1 Done)
  at_action p rs req go act.Depart h e z y m = none_wait p.wait m.0.0 e (rests n (slice p) (Departure m.0.0 m.0.1) m.0.2).0
  at_action p rs req go _ h e z y m = absurd m.0

  -- it waits nowhere behind a step by itself
  free : (p q : Process) → p.wait ≡ None → ((slice q ≡ slice p) × (q.spent ≡ p.spent)) ⊎ GoesOn p.spent (move_of n (slice p)) q → q.wait ≡ None
  free p q e (inl h) = ap (λ (s : State). s.wait) h.0 ∙ e
  free p q e (inr h) = (rests n (slice p) (Silent h.0 (slice q)) h.1).1

  lower : (a b m : ℕ) → a < b → b < suc m → a < m
  lower a b m h g = omega (arith, h, g)

  by_step : (b m : ℕ) (rs : List Answer) → Ahead rs → (p : Process) → ((q : Process) → weight b q < m → Fitting b q → Sliced n q → q.wait ≡ None → HasAnswer q gone k rs)
      → (st : Step) → slice_step p ≡ st → weight b p < suc m → Fitting b p → Sliced n p → p.wait ≡ None → HasAnswer p gone k rs
  by_step b m rs h p go (To q) e l f s w =
      let x : Slices n p (To q) = subst (Slices n p) e (slices n p s) in
      let y : Falls b p (To q) = subst (Falls b p) e (slice_falls b p s.1.1 f) in
      let z = go q (lower (weight b q) (weight b p) m y.0 l) y.1 x.1 (free p q w x.0) in
      (z.0, silent (ap (fault_if_deleted gone) e) z.1)
  by_step b m rs h p go (At req g) e l f s w = at_action p rs req g req.action h w e refl (subst (Slices n p) e (slices n p s))
  by_step b m rs h p go (Ends place) e l f s w = at_end p rs place (ap (fault_if_deleted gone) e)
  by_step b m rs h p go (Faults kind place) e l f s w = at_fault p rs kind place (ap (fault_if_deleted gone) e)

  none_less : {A : Type 0} (a : ℕ) → a < 0 → A
  none_less a h = absurd (omega (arith, h))

  within : (b m : ℕ) (rs : List Answer) → Ahead rs → (p : Process) → weight b p < m → Fitting b p → Sliced n p → p.wait ≡ None → HasAnswer p gone k rs
  within b zero rs h p l f s w = none_less (weight b p) l
  within b (suc m) rs h p l f s w = by_step b m rs h p (within b m rs h) (slice_step p) refl l f s w

  goes : (rs : List Answer) → Ahead rs → (p : Process) → Sliced n p → p.wait ≡ None → HasAnswer p gone k rs
  goes rs h p s w =
      let b : ℕ = needs_all p.frames + most p.setting.program.methods in
      within b (weight b p + 1) rs h p (omega arith) (fits_bound p) s w

some : (n : RunConfig) (rs : List Answer) (gone : List ℕ) (k : ℕ) (p : Process) → Sliced n p → p.wait ≡ None → HasAnswer p gone k rs
some n [] gone k p s w = goes n gone k [] tt p s w
some n (r ∷ rest) gone k p s w = goes n gone k (r ∷ rest) (λ q x e t. waits n q x gone k r rest e t (λ p u v. some n rest (deleted_by q.wait ++ gone) (k + 1) p u v)) p s w

pub some_answer : (n : RunConfig) → FineMethods n.program n.program.methods → (outcomes : List Answer) → (x : SliceStep) × SliceAnswers n outcomes x
some_answer n f outcomes = some n outcomes [] 0 (begin n 0) (begin_sliced n f) refl
