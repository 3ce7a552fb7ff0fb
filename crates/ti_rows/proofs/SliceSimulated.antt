-- The answer of a program slice, computed by a simple and slow program that is proved right.
use Rattle.std.proofs.Common.{◌≡◌, ℕ, zero, suc, ◌+◌, Bool, true, false, List, [], ◌∷◌, ◌++◌, Option, None, Some, refl, subst}
use Rattle.std.proofs.lemmas.Bool.Decides.{not_from_Decides}
use Rattle.ti_base.specs.declared.action.Action.{Action}
use Rattle.ti_base.specs.declared.action.Action.TheVariants as act
use Rattle.ti_base.specs.declared.entry.Answer.{Answer}
use Rattle.ti_base.specs.declared.entry.Answer.TheVariants.{Done}
use Rattle.ti_lang.specs.Meaning.Comp.{Request}
use Rattle.ti_lang.specs.Meaning.Processes.{RunConfig, Process, begin}
use Rattle.ti_lang.specs.Meaning.Steps.{Step, To, At, Ends, Faults}
use Rattle.ti_align.specs.declared.slices.SliceStep.{SliceStep}
use Rattle.ti_align.specs.declared.slices.SliceStep.TheVariants as answer
use Rattle.ti_align.specs.Slice.{fault_if_deleted, deleted_by, slice_step, at_fault, SliceComes, silent, stands, arrives, leaves, unfit, ends, faults, ended, faulted, SliceAnswers}
use Rattle.ti_align.proofs.Lemmas.{fits_wanted, fits_decides}

-- from a process, where these regions are gone, so many outcomes are taken, and these are left
abbrev Going : Type 0
Going = Process → List ℕ → ℕ → List Answer → Option SliceStep

-- goes on behind an outcome that fits
abbrev by_fit : Going → Process → List ℕ → ℕ → Answer → List Answer → (Answer → Process) → Bool → Option SliceStep
by_fit go p gone k r rest next true = go (next r) (deleted_by p.wait ++ gone) (k + 1) rest
by_fit go p gone k r rest next false = Some (answer.Unfit k)

-- at an arrival or a departure; a slice stands at nothing else
abbrev by_action : Going → Process → List ℕ → ℕ → List Answer → Request → (Answer → Process) → Action → Option SliceStep
by_action go p gone k [] request next (act.Arrive kind arg given) = Some (answer.At kind request.place arg)
by_action go p gone k (r ∷ rest) request next (act.Arrive kind arg given) = go (next Done) gone k (r ∷ rest)
by_action go p gone k (r ∷ rest) request next act.Depart = by_fit go p gone k r rest next (fits_wanted request.wanted r)
by_action go p gone k rs request next a = None

abbrev by_step : Going → Process → List ℕ → ℕ → List Answer → Step → Option SliceStep
by_step go p gone k rs (To q) = go q gone k rs
by_step go p gone k rs (At request next) = by_action go p gone k rs request next request.action
by_step go p gone k [] (Ends place) = Some answer.Ended
by_step go p gone k [] (Faults kind place) = Some (at_fault kind place)
by_step go p gone k (r ∷ rest) s = Some (answer.Unfit k)

-- what it comes to in so many steps, if it does
abbrev goes : ℕ → Going
goes zero p gone k rs = None
goes (suc n) p gone k rs = by_step (goes n) p gone k rs (fault_if_deleted gone (slice_step p))

-- the same from the beginning
abbrev pub answered : ℕ → RunConfig → List Answer → Option SliceStep
answered n s outcomes = goes n (begin s 0) [] 0 outcomes

-- ---- that it comes to this

-- what this way on tells is what the slice comes to
abbrev Tells : Going → Type 0
Tells go = (p : Process) (gone : List ℕ) (k : ℕ) (rs : List Answer) (x : SliceStep) → go p gone k rs ≡ Some x → SliceComes p gone k rs x

none_some : {A : Type 0} (x : SliceStep) → ◌≡◌ {A = Option SliceStep} None (Some x) → A
none_some x e = absurd (no e)
  where
    no : ◌≡◌ {A = Option SliceStep} None (Some x) → ⊥
    no e = cc

some_same : (x y : SliceStep) → Some x ≡ Some y → x ≡ y
some_same x y e = cc

told_fit : (go : Going) → Tells go → (p : Process) (gone : List ℕ) (k : ℕ) (r : Answer) (rest : List Answer) (q : Request) (next : Answer
    → Process) (x : SliceStep) → fault_if_deleted gone (slice_step p) ≡ At q next → q.action ≡ act.Depart
    → (b : Bool) → fits_wanted q.wanted r ≡ b → by_fit go p gone k r rest next b ≡ Some x → SliceComes p gone k (r ∷ rest) x
told_fit go t p gone k r rest q next x e a true f h = leaves e a ((fits_decides q.wanted r).0 f) (t (next r) (deleted_by p.wait ++ gone) (k + 1) rest x h)
told_fit go t p gone k r rest q next x e a false f h = subst (SliceComes p gone k (r ∷ rest)) (some_same _ _ h) (unfit e a (not_from_Decides _ (fits_decides q.wanted r) f))

told_action : (go : Going) → Tells go → (p : Process) (gone : List ℕ) (k : ℕ) (rs : List Answer) (q : Request) (next : Answer → Process)
    (a : Action) (x : SliceStep) → fault_if_deleted gone (slice_step p) ≡ At q next → q.action ≡ a
    → by_action go p gone k rs q next a ≡ Some x → SliceComes p gone k rs x
told_action go t p gone k [] q next (act.Arrive kind arg given) x e a h = subst (SliceComes p gone k []) (some_same _ _ h) (stands e a)
told_action go t p gone k (r ∷ rest) q next (act.Arrive kind arg given) x e a h = arrives e a (t (next Done) gone k (r ∷ rest) x h)
told_action go t p gone k (r ∷ rest) q next act.Depart x e a h = told_fit go t p gone k r rest q next x e a (fits_wanted q.wanted r) refl h
told_action go t p gone k rs q next a x e f h = none_some x h

told_step : (go : Going) → Tells go → (p : Process) (gone : List ℕ) (k : ℕ) (rs : List Answer) (st : Step) (x : SliceStep)
    → fault_if_deleted gone (slice_step p) ≡ st → by_step go p gone k rs st ≡ Some x → SliceComes p gone k rs x
told_step go t p gone k rs (To q) x e h = silent e (t q gone k rs x h)
told_step go t p gone k rs (At q next) x e h = told_action go t p gone k rs q next q.action x e refl h
told_step go t p gone k [] (Ends place) x e h = subst (SliceComes p gone k []) (some_same _ _ h) (ends e)
told_step go t p gone k [] (Faults kind place) x e h = subst (SliceComes p gone k []) (some_same _ _ h) (faults e)
told_step go t p gone k (r ∷ rest) (Ends place) x e h = subst (SliceComes p gone k (r ∷ rest)) (some_same _ _ h) (ended e)
told_step go t p gone k (r ∷ rest) (Faults kind place) x e h = subst (SliceComes p gone k (r ∷ rest)) (some_same _ _ h) (faulted e)

told : (n : ℕ) → Tells (goes n)
told zero p gone k rs x h = none_some x h
told (suc n) p gone k rs x h = told_step (goes n) (told n) p gone k rs (fault_if_deleted gone (slice_step p)) x refl h

-- how many steps are simulated, at most
abbrev pub most_steps : ℕ
most_steps = 1000

pub comes : (s : RunConfig) (outcomes : List Answer) (x : SliceStep) → answered most_steps s outcomes ≡ Some x → SliceAnswers s outcomes x
comes s outcomes x h = told most_steps (begin s 0) [] 0 outcomes x h
