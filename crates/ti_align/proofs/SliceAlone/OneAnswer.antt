-- The slice comes to one answer at most.
use Rattle.std.proofs.Common.{◌≡◌, ℕ, ◌+◌, ◌⊎◌, inl, inr, List, [], ◌∷◌, ◌++◌, refl, sym, subst}
use Rattle.ti_base.specs.declared.place.Place.{Place}
use Rattle.ti_base.specs.declared.action.Action.{Action}
use Rattle.ti_base.specs.declared.action.Action.TheVariants as act
use Rattle.ti_base.specs.declared.entry.Answer.{Answer}
use Rattle.ti_base.specs.declared.entry.Answer.TheVariants.{Done}
use Rattle.ti_lang.specs.Meaning.Comp.{Wanted, Request}
use Rattle.ti_lang.specs.Meaning.Answers.{FitsWanted}
use Rattle.ti_lang.specs.Meaning.Processes.{RunConfig, Process, begin}
use Rattle.ti_lang.specs.Meaning.Steps.{Step, To, At, Ends, Faults}
use Rattle.ti_align.specs.declared.slices.SliceStep.{SliceStep}
use Rattle.ti_align.specs.declared.slices.SliceStep.TheVariants as answer
use Rattle.ti_align.specs.Slice.{fault_if_deleted, deleted_by, slice_step, at_fault, SliceComes, silent, stands, arrives, leaves, unfit, ends, faults, ended, faulted, SliceAnswers}

-- what an action makes of the outcomes that are left
abbrev MeantAt : Process → List ℕ → ℕ → Place → Action → Wanted → (Answer → Process) → List Answer → SliceStep → Type 0
MeantAt p gone k at (act.Arrive kind arg given) wanted go [] y = y ≡ answer.At kind at arg
MeantAt p gone k at (act.Arrive kind arg given) wanted go (r ∷ rest) y = SliceComes (go Done) gone k (r ∷ rest) y
MeantAt p gone k at act.Depart wanted go (r ∷ rest) y =
    (FitsWanted wanted r × SliceComes (go r) (deleted_by p.wait ++ gone) (k + 1) rest y) ⊎ ((FitsWanted wanted r → ⊥) × (y ≡ answer.Unfit k))
MeantAt p gone k at a wanted go rs y = ⊥

-- what a step makes of them
abbrev Meant : Process → List ℕ → ℕ → Step → List Answer → SliceStep → Type 0
Meant p gone k (To q) rs y = SliceComes q gone k rs y
Meant p gone k (At request go) rs y = MeantAt p gone k request.place request.action request.wanted go rs y
Meant p gone k (Ends place) [] y = y ≡ answer.Ended
Meant p gone k (Ends place) (r ∷ rest) y = y ≡ answer.Unfit k
Meant p gone k (Faults kind place) [] y = y ≡ at_fault kind place
Meant p gone k (Faults kind place) (r ∷ rest) y = y ≡ answer.Unfit k

by_action : (p : Process) (gone : List ℕ) (k : ℕ) (request : Request) (go : Answer → Process) (a : Action) (rs : List Answer)
    (y : SliceStep) → fault_if_deleted gone (slice_step p) ≡ At request go → request.action ≡ a
    → MeantAt p gone k request.place a request.wanted go rs y → Meant p gone k (fault_if_deleted gone (slice_step p)) rs y
by_action p gone k request go a rs y e f m =
    subst (λ st. Meant p gone k st rs y) (sym e) (subst (λ a. MeantAt p gone k request.place a request.wanted go rs y) (sym f) m)

meant : (p : Process) (gone : List ℕ) (k : ℕ) (rs : List Answer) (y : SliceStep) → SliceComes p gone k rs y → Meant p gone k (fault_if_deleted gone (slice_step p)) rs y
meant p gone k rs y (silent e c) = subst (λ st. Meant p gone k st rs y) (sym e) c
meant p gone k [] y (stands {request = q} {go = go} {kind = kind} {arg = arg} {given = given} e a) = by_action p gone k q go (act.Arrive kind arg given) [] y e a refl
meant p gone k (r ∷ rest) y (arrives {request = q} {go = go} {kind = kind} {arg = arg} {given = given} e a c) = by_action p gone k q go (act.Arrive kind arg given) (r ∷ rest) y e a c
meant p gone k (r ∷ rest) y (leaves {request = q} {go = go} e a h c) = by_action p gone k q go act.Depart (r ∷ rest) y e a (inl (h, c))
meant p gone k (r ∷ rest) y (unfit {request = q} {go = go} e a h) = by_action p gone k q go act.Depart (r ∷ rest) y e a (inr (h, refl))
meant p gone k [] y (ends e) = subst (λ st. Meant p gone k st [] y) (sym e) refl
meant p gone k [] y (faults e) = subst (λ st. Meant p gone k st [] y) (sym e) refl
meant p gone k (r ∷ rest) y (ended e) = subst (λ st. Meant p gone k st (r ∷ rest) y) (sym e) refl
meant p gone k (r ∷ rest) y (faulted e) = subst (λ st. Meant p gone k st (r ∷ rest) y) (sym e) refl

at_action : (p : Process) (gone : List ℕ) (k : ℕ) (request : Request) (go : Answer → Process) (a : Action) (rs : List Answer)
    (y : SliceStep) → fault_if_deleted gone (slice_step p) ≡ At request go → request.action ≡ a → SliceComes p gone k rs y
    → MeantAt p gone k request.place a request.wanted go rs y
at_action p gone k request go a rs y e f c =
    subst (λ a. MeantAt p gone k request.place a request.wanted go rs y) f (subst (λ st. Meant p gone k st rs y) e (meant p gone k rs y c))

one : (p : Process) (gone : List ℕ) (k : ℕ) (rs : List Answer) (x y : SliceStep) → SliceComes p gone k rs x → SliceComes p gone k rs y → x ≡ y
one p gone k rs x y (silent {q = q} e c) d = one q gone k rs x y c (subst (λ st. Meant p gone k st rs y) e (meant p gone k rs y d))
one p gone k [] x y (stands {request = q} {go = go} {kind = kind} {arg = arg} {given = given} e a) d = sym (at_action p gone k q go (act.Arrive kind arg given) [] y e a d)
one p gone k (r ∷ rest) x y (arrives {request = q} {go = go} {kind = kind} {arg = arg} {given = given} e a c) d =
    one (go Done) gone k (r ∷ rest) x y c (at_action p gone k q go (act.Arrive kind arg given) (r ∷ rest) y e a d)
one p gone k (r ∷ rest) x y (leaves {request = q} {go = go} e a h c) d =
    by (λ z. one (go r) (deleted_by p.wait ++ gone) (k + 1) rest x y c z) (at_action p gone k q go act.Depart (r ∷ rest) y e a d)
  where
    by : (SliceComes (go r) (deleted_by p.wait ++ gone) (k + 1) rest y → x ≡ y)
        → (FitsWanted q.wanted r × SliceComes (go r) (deleted_by p.wait ++ gone) (k + 1) rest y) ⊎ ((FitsWanted q.wanted r → ⊥) × (y ≡ answer.Unfit k)) → x ≡ y
    by f (inl z) = f z.1
    by f (inr z) = absurd (z.0 h)
one p gone k (r ∷ rest) x y (unfit {request = q} {go = go} e a h) d = by (at_action p gone k q go act.Depart (r ∷ rest) y e a d)
  where
    by : (FitsWanted q.wanted r × SliceComes (go r) (deleted_by p.wait ++ gone) (k + 1) rest y) ⊎ ((FitsWanted q.wanted r → ⊥) × (y ≡ answer.Unfit k)) → answer.Unfit k ≡ y
    by (inl z) = absurd (h z.0)
    by (inr z) = sym z.1
one p gone k [] x y (ends e) d = sym (subst (λ st. Meant p gone k st [] y) e (meant p gone k [] y d))
one p gone k [] x y (faults e) d = sym (subst (λ st. Meant p gone k st [] y) e (meant p gone k [] y d))
one p gone k (r ∷ rest) x y (ended e) d = sym (subst (λ st. Meant p gone k st (r ∷ rest) y) e (meant p gone k (r ∷ rest) y d))
one p gone k (r ∷ rest) x y (faulted e) d = sym (subst (λ st. Meant p gone k st (r ∷ rest) y) e (meant p gone k (r ∷ rest) y d))

pub one_answer : (n : RunConfig) (outcomes : List Answer) (x y : SliceStep) → SliceAnswers n outcomes x → SliceAnswers n outcomes y → x ≡ y
one_answer n outcomes x y a b = one (begin n 0) [] 0 outcomes x y a b
