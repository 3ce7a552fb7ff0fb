-- Proves how the slice of a checked program moves: silent steps keep it outside collectives, its actions there are arrivals, and departures
-- end the wait.
use Rattle.std.proofs.Common.{◌≡◌, ◌∙◌, ap, sym, refl, subst, ℕ, ◌<◌, nat_lt, Bool, true, false, ◌⊎◌, inl, inr, if◌then◌else◌, [], Some, None}
use Rattle.ti_base.specs.declared.place.Place.{Place}
use Rattle.ti_base.specs.declared.fault.FaultKind.TheVariants.{Fuel}
use Rattle.ti_base.specs.declared.action.Action.{Action}
use Rattle.ti_base.specs.declared.action.Action.TheVariants as act
use Rattle.ti_base.specs.declared.entry.Answer.{Answer}
use Rattle.ti_base.specs.declared.entry.Answer.TheVariants.{Done}
use Rattle.ti_lang.specs.Program.Classes.{ProgramView}
use Rattle.ti_lang.specs.Program.Views.{program_of}
use Rattle.ti_lang.specs.Meaning.Comp.{Request, request}
use Rattle.ti_lang.specs.Meaning.Processes.{RunConfig, Wait, Process}
use Rattle.ti_lang.specs.Meaning.Steps.{To, At, Faults, spends, deliver, value_asked}
use Rattle.ti_lang.proofs.Lemmas.{Fitting, Falls, weight}
use Rattle.ti_align.specs.Slice.{slice_step, slice_steps}
use Rattle.ti_align.proofs.Lemmas.{slice, Silent, Arrival, Departure, State, move_of, checked_fine, FineMethods, MovesAt, GoesOn, IsBare}
use Rattle.ti_align.proofs.Lemmas.{Sliced, Slices, slices, begin_sliced, rests, none_wait, slice_falls, if_true, if_false}
use Rattle.ti_rules.specs.declared.checked.Checked.{Checked}
use Rattle.ti_slice.specs.Mirrors.Answer.{Free, begins, goes, leaves, IsFree, IsArrival}

-- a process of the slice that waits nowhere
abbrev pub Runs : RunConfig → Process → Type 0
Runs n p = Sliced n p × (p.wait ≡ None)

-- ---- silent steps

still : (n : RunConfig) (p q : Process) → p.wait ≡ None → ((slice q ≡ slice p) × (q.spent ≡ p.spent)) ⊎ GoesOn p.spent (move_of n (slice p)) q → q.wait ≡ None
still n p q e (inl h) = ap (λ (s : State). s.wait) h.0 ∙ e
still n p q e (inr h) = (rests n (slice p) (Silent h.0 (slice q)) h.1).1

went : (n : RunConfig) (p q : Process) → slice_step p ≡ To q → Runs n p → Runs n q
went n p q e s =
    let x : Slices n p (To q) = subst (Slices n p) e (slices n p s.0) in
    (x.1, still n p q s.1 x.0)

-- ---- arrivals

-- the action at which it stands is an arrival, behind which it waits
pub record Arrived (n : RunConfig) (request : Request) (go : Answer → Process) : Type 0 where
  pub arrival : IsArrival request.action
  pub wait : Wait
  pub waits : (go Done).wait ≡ Some wait
  pub sliced : Sliced n (go Done)

pub arrived : (n : RunConfig) (p : Process) (q : Request) (go : Answer → Process) → slice_step p ≡ At q go → Runs n p → Arrived n q go
arrived n p q go e s = by q.action refl (subst (Slices n p) e (slices n p s.0))
  where
    by : (a : Action) → q.action ≡ a → MovesAt n p.spent (move_of n (slice p)) p.frames q.place a go × ((r : Answer) → IsBare (go r)) → Arrived n q go
    by (act.Arrive kind arg given) y m =
        record {
          arrival = subst IsArrival (sym y) tt;
          wait = m.0.0;
          waits = (rests n (slice p) (Arrival m.0.0 (slice (go Done))) (m.0.4 Done).0).1;
          sliced = ((m.0.4 Done).1, m.1 Done);
        }
    by act.Depart y m = none_wait p.wait m.0.0 s.1 (rests n (slice p) (Departure m.0.0 m.0.1) m.0.2).0
    by _ y m = absurd m.0

-- ---- departures

at_request : (a b : Request) (f g : Answer → Process) → At a f ≡ At b g → f ≡ g
at_request a b f g k = cc

never : (at : Place) (q : Request) (g : Answer → Process) → Faults Fuel at ≡ At q g → ⊥
never at q g k = cc

pub left : (n : RunConfig) (p : Process) (w : Wait) (q : Request) (back : Answer → Process) (r : Answer) → p.wait ≡ Some w → Sliced n p → slice_step p ≡ At q back → Runs n (back r)
left n p w q back r e s k = by (nat_lt p.spent p.setting.fuel) refl
  where
    behind : Answer → Process
    behind r = spends (record p { frames = deliver w.receiver (value_asked w.wanted r) p.frames; wait = None; answers = [] })

    lies : slice_step p ≡ (if nat_lt p.spent p.setting.fuel then At (request w.place act.Depart w.wanted) behind else Faults Fuel w.place)
    lies = ap (slice_steps p) e

    by : (b : Bool) → nat_lt p.spent p.setting.fuel ≡ b → Runs n (back r)
    by true h =
        let z : slice_step p ≡ At (request w.place act.Depart w.wanted) behind = lies ∙ if_true (nat_lt p.spent p.setting.fuel) _ _ h in
        let t = subst (Slices n p) z (slices n p s) in
        let runs : Runs n (behind r) = (((t.0.3 r).1, t.1 r), refl) in
        subst (λ (g : Answer → Process). Runs n (g r)) (at_request _ _ behind back (sym z ∙ k)) runs
    by false h = absurd (never w.place q back (sym (lies ∙ if_false (nat_lt p.spent p.setting.fuel) _ _ h) ∙ k))

-- ---- where it comes

runs : (n : RunConfig) → FineMethods n.program n.program.methods → (p : Process) → Free n p → Runs n p
runs n f p begins = (begin_sliced n f, refl)
runs n f p (goes {p = q} x e) = went n q p e (runs n f q x)
runs n f p (leaves {p = q} {request = a} {leave = b} {go = go} {back = back} {r = r} x e d) =
    let s = arrived n q a go e (runs n f q x) in
    left n (go Done) s.wait b back r s.waits s.sliced d

pub free_runs : (c : ProgramView) (p : Process) → FineMethods c c.methods → (x : IsFree c p) → Runs x.0 p
free_runs c p f x = runs x.0 (subst (λ (d : ProgramView). FineMethods d d.methods) (sym x.1) f) p x.2

pub goes_free : (c : ProgramView) (p q : Process) → slice_step p ≡ To q → IsFree c p → IsFree c q
goes_free c p q e x = (x.0, x.1, goes x.2 e)

pub leaves_free : (c : ProgramView) (p : Process) (request leave : Request) (go back : Answer → Process) (r : Answer) → slice_step p
    ≡ At request go → slice_step (go Done) ≡ At leave back → IsFree c p → IsFree c (back r)
leaves_free c p request leave go back r e d x = (x.0, x.1, leaves x.2 e d)

-- a checked program is one of which the slice makes sense
pub checked : (c : Checked) → FineMethods (program_of c.program.parts) (program_of c.program.parts).methods
checked c = checked_fine (program_of c.program.parts) (record { numbered = c.program.numbered; unbroken = c.unbroken })

-- between its steps it asks for nothing
pub no_answers : (c : ProgramView) (p : Process) → FineMethods c c.methods → IsFree c p → p.answers ≡ []
no_answers c p f x = (free_runs c p f x).0.1.1

-- what it arrives at
pub free_arrives : (c : ProgramView) (p : Process) (q : Request) (go : Answer → Process) → FineMethods c c.methods → (x : IsFree c p) → slice_step p ≡ At q go → Arrived x.0 q go
free_arrives c p q go f x e = arrived x.0 p q go e (free_runs c p f x)

-- a silent step makes less of it
pub free_falls : (c : ProgramView) (b : ℕ) (p q : Process) → FineMethods c c.methods → IsFree c p → Fitting b p → slice_step p ≡ To q → (weight b q < weight b p) × Fitting b q
free_falls c b p q f x t e = subst (Falls b p) e (slice_falls b p (no_answers c p f x) t)
