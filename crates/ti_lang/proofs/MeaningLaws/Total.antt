-- There are finitely many silent steps: each process has something next.
use Rattle.std.proofs.Common.{◌≡◌, ℕ, zero, suc, ◌+◌, ◌-◌, ◌*◌, ◌<◌, ◌≤◌, nat_lt, length, Bool, true, false, if◌then◌else◌, Option, Some, None, List, [], ◌∷◌, ◌++◌, refl, sym, ap, subst, arith, ltb-true}
use Rattle.ti_base.specs.declared.place.Place.{Place}
use Rattle.ti_base.specs.declared.fault.FaultKind.TheVariants.{Fuel}
use Rattle.ti_base.specs.declared.entry.Next.{Next}
use Rattle.ti_base.specs.declared.entry.Next.TheVariants as next
use Rattle.ti_lang.specs.Meaning.Held.{Held}
use Rattle.ti_lang.specs.Meaning.Comp.{CompResult, Gives, Asks, Fails}
use Rattle.ti_lang.specs.Program.Statements.{numbered_stms}
use Rattle.ti_lang.specs.Meaning.Processes.{Variable, Receiver, ContItem, Do, End, Before, Behind, Receive, CopyAll, TakeAll, Frame, Wait, Process, frame_of}
use Rattle.ti_lang.specs.Meaning.Scoping.{env_of}
use Rattle.ti_lang.specs.Meaning.Moves.{Move, Goes, Turns, Breaks, Continues, Calls, Returns, Meets, Deletes}
use Rattle.ti_lang.specs.Meaning.Performing.{exec_item}
use Rattle.ti_lang.specs.Meaning.Steps.{Step, To, At, Ends, Faults, with_continuation, deliver, ticks, most_frames, step_of_result, moves, works, runs, steps, step}
use Rattle.ti_lang.specs.Meaning.Jumps.{has_mark, from_mark, past_mark, variables_at_mark}
use Rattle.ti_lang.specs.Meaning.NextStep.{here, later, step_label, IsNext}
use Rattle.ti_lang.proofs.MeaningLaws.Sizes.{weight_of, weigh, weigh_all, needs_all, Fits, FitsAll, MethodsFit, fits_all_needs, most, fits_most, weigh_append, fits_append, weigh_before, fits_before}
use Rattle.ti_lang.proofs.MeaningLaws.Falling as falling

-- what the process can still do without an action: ticks, work, and answers that its work has used
abbrev pub weight : ℕ → Process → ℕ
weight b p = (p.setting.fuel - p.spent) * b + (weigh_all p.frames + length p.answers)

-- no piece of its work and no method is larger than b
abbrev pub Fitting : ℕ → Process → Type 0
Fitting b p = FitsAll b p.frames × MethodsFit b p.setting.program

-- a silent step makes a process of less weight
abbrev pub Falls : ℕ → Process → Step → Type 0
Falls b p (To q) = (weight b q < weight b p) × Fitting b q
Falls b p _ = Unit {0}

-- ---- ticks

by_test : (b : ℕ) (p : Process) (at : Place) (after : Step) (test : Bool) → (test ≡ true → Falls b p after) → Falls b p (if test then after else Faults Fuel at)
by_test b p at after true h = h refl
by_test b p at after false h = tt

pub ticks_fall : (b : ℕ) (p : Process) (at : Place) (after : Step) → (nat_lt p.spent p.setting.fuel ≡ true → Falls b p after) → Falls b p (ticks p at after)
ticks_fall b p at after h = by_test b p at after (nat_lt p.spent p.setting.fuel) h

pub if_falls : (b : ℕ) (p : Process) (test : Bool) (x y : Step) → Falls b p x → Falls b p y → Falls b p (if test then x else y)
if_falls b p true x y h g = h
if_falls b p false x y h g = g

jump_falls : (b : ℕ) (p : Process) (test : Bool) (x y : Process) → Falls b p (To x) → Falls b p (To y) → Falls b p (To (if test then x else y))
jump_falls b p true x y h g = h
jump_falls b p false x y h g = g

tick_pays : (k b w v : ℕ) → v < w + b → k * b + v < (k + 1) * b + w
tick_pays k b w v h = omega arith

tick_less : (f s b w v : ℕ) → s < f → v < w + b → (f - (s + 1)) * b + v < (f - s) * b + w
tick_less f s b w v l h =
    let e : f - s ≡ (f - (s + 1)) + 1 = omega arith in
    rw e (tick_pays (f - (s + 1)) b w v h)

-- ---- frames

pub goes_falls : (b : ℕ) (p : Process) (f : Frame) (fs : List Frame) (variables : List Variable) (left : List ContItem)
    → p.frames ≡ f ∷ fs → weigh left < weigh f.left + length p.answers → Fits b left → FitsAll b fs → MethodsFit b p.setting.program → Falls b p (To (with_continuation p f fs variables left))
goes_falls b p f fs variables left e l x y m = (omega (arith, ap weigh_all e), ((x, y), m))

handed_weight : (receiver : Receiver) (value : Option Held) (fs : List Frame) → weigh_all (deliver receiver value fs) ≤ weigh_all fs + 1
handed_weight receiver None fs = omega arith
handed_weight receiver (Some h) [] = omega arith
handed_weight receiver (Some h) (f ∷ fs) = omega arith

handed_fits : (b : ℕ) (receiver : Receiver) (value : Option Held) (fs : List Frame) → FitsAll b fs → FitsAll b (deliver receiver value fs)
handed_fits b receiver None fs x = x
handed_fits b receiver (Some h) [] x = x
handed_fits b receiver (Some h) (f ∷ fs) x = ((omega arith, x.0), x.1)

pub returns_fall : (b : ℕ) (p : Process) (f : Frame) (fs : List Frame) (left : List ContItem) (value : Option Held)
    → p.frames ≡ f ∷ fs → FitsAll b fs → MethodsFit b p.setting.program → Falls b p (moves p f fs left (Returns value))
returns_fall b p f fs left value e y m = (omega (arith, ap weigh_all e, handed_weight f.receiver value fs), (handed_fits b f.receiver value fs y, m))

-- ---- jumps

mark_weight : (ws : List ContItem) → weigh (from_mark ws) ≤ weigh ws
mark_weight [] = omega arith
mark_weight (Do x ∷ ws) = omega (arith, mark_weight ws)
mark_weight (End x ∷ ws) = omega (arith, mark_weight ws)
mark_weight (Before loop ∷ ws) = omega (arith, mark_weight ws)
mark_weight (Behind loop ∷ ws) = omega arith
mark_weight (Receive receiver h ∷ ws) = omega (arith, mark_weight ws)
mark_weight (CopyAll at to from points ∷ ws) = omega (arith, mark_weight ws)
mark_weight (TakeAll at grid procs ∷ ws) = omega (arith, mark_weight ws)

mark_fits : (b : ℕ) (ws : List ContItem) → Fits b ws → Fits b (from_mark ws)
mark_fits b [] f = tt
mark_fits b (Do x ∷ ws) f = mark_fits b ws f.1
mark_fits b (End x ∷ ws) f = mark_fits b ws f.1
mark_fits b (Before loop ∷ ws) f = mark_fits b ws f.1
mark_fits b (Behind loop ∷ ws) f = f
mark_fits b (Receive receiver h ∷ ws) f = mark_fits b ws f.1
mark_fits b (CopyAll at to from points ∷ ws) f = mark_fits b ws f.1
mark_fits b (TakeAll at grid procs ∷ ws) f = mark_fits b ws f.1

past_weight : (ws : List ContItem) → weigh (past_mark ws) ≤ weigh ws
past_weight [] = omega arith
past_weight (Do x ∷ ws) = omega (arith, past_weight ws)
past_weight (End x ∷ ws) = omega (arith, past_weight ws)
past_weight (Before loop ∷ ws) = omega (arith, past_weight ws)
past_weight (Behind loop ∷ ws) = omega arith
past_weight (Receive receiver h ∷ ws) = omega (arith, past_weight ws)
past_weight (CopyAll at to from points ∷ ws) = omega (arith, past_weight ws)
past_weight (TakeAll at grid procs ∷ ws) = omega (arith, past_weight ws)

past_fits : (b : ℕ) (ws : List ContItem) → Fits b ws → Fits b (past_mark ws)
past_fits b [] f = tt
past_fits b (Do x ∷ ws) f = past_fits b ws f.1
past_fits b (End x ∷ ws) f = past_fits b ws f.1
past_fits b (Before loop ∷ ws) f = past_fits b ws f.1
past_fits b (Behind loop ∷ ws) f = f.1
past_fits b (Receive receiver h ∷ ws) f = past_fits b ws f.1
past_fits b (CopyAll at to from points ∷ ws) f = past_fits b ws f.1
past_fits b (TakeAll at grid procs ∷ ws) f = past_fits b ws f.1

-- ---- moves

pub moves_fall : (b : ℕ) (p : Process) (f : Frame) (fs : List Frame) (w : ContItem) (left : List ContItem) (move : Move)
    → p.frames ≡ f ∷ fs → f.left ≡ w ∷ left → falling.MoveFalls b (weight_of w + length p.answers) move → Fits b left → FitsAll b fs
    → MethodsFit b p.setting.program → Falls b p (moves p f fs left move)
moves_fall b p f fs w left (Goes variables new) e z h x y m =
    goes_falls b p f fs variables (new ++ left) e (omega (arith, ap weigh z, weigh_append new left, h.0)) (fits_append b new left h.1 x) y m
moves_fall b p f fs w left (Turns at variables new) e z h x y m =
    ticks_fall b p at _ (λ t. (
      tick_less p.setting.fuel p.spent b (weigh_all p.frames + length p.answers) (weigh (new ++ left) + weigh_all fs + 2 + 0)
          (ltb-true p.spent p.setting.fuel t) (omega (arith, ap weigh_all e, ap weigh z, weigh_append new left, h.0)),
      ((fits_append b new left h.1 x, y), m),
    ))
moves_fall b p f fs w left Breaks e z h x y m =
    jump_falls b p (has_mark left) _ _
    (goes_falls b p f fs (variables_at_mark left f.variables) (past_mark left) e (omega (arith, ap weigh z, past_weight left)) (past_fits b left x) y m)
    (goes_falls b p f fs f.variables left e (omega (arith, ap weigh z)) x y m)
moves_fall b p f fs w left Continues e z h x y m =
    jump_falls b p (has_mark left) _ _
    (goes_falls b p f fs (variables_at_mark left f.variables) (from_mark left) e (omega (arith, ap weigh z, mark_weight left)) (mark_fits b left x) y m)
    (goes_falls b p f fs f.variables left e (omega (arith, ap weigh z)) x y m)
moves_fall b p f fs w left (Calls at method this parameters receiver) e z h x y m =
    ticks_fall b p at _ (λ t. if_falls b p (nat_lt (length (f ∷ fs)) most_frames) _ _ (
      tick_less p.setting.fuel p.spent b (weigh_all p.frames + length p.answers)
          (weigh (frame_of method this parameters receiver).left + (weigh left + weigh_all fs + 2) + 2 + 0)
          (ltb-true p.spent p.setting.fuel t) (omega (arith, ap weigh_all e, ap weigh z, weigh_before (numbered_stms method.body) [], h)),
      ((fits_before b (numbered_stms method.body) [] (omega arith) tt, (x, y)), m),
    )
    tt)
moves_fall b p f fs w left (Returns value) e z h x y m = returns_fall b p f fs left value e y m
moves_fall b p f fs w left (Meets wait given behind) e z h x y m = ticks_fall b p wait.place _ (λ t. tt)
moves_fall b p f fs w left (Deletes at region) e z h x y m = ticks_fall b p at _ (λ t. tt)

pub valued_falls : (b : ℕ) (p : Process) (k : ℕ) (got : CompResult Move) (go : Move → Step) → falling.Giving (falling.MoveFalls b k) got
    → ((move : Move) → falling.MoveFalls b k move → Falls b p (go move)) → Falls b p (step_of_result p got go)
valued_falls b p k (Gives move rest) go h f = f move h
valued_falls b p k (Asks request) go h f = ticks_fall b p request.place _ (λ t. tt)
valued_falls b p k (Fails kind at) go h f = tt

works_fall : (b : ℕ) (p : Process) (f : Frame) (fs : List Frame) (ws : List ContItem) → p.frames ≡ f ∷ fs → f.left ≡ ws → Fits b ws
    → FitsAll b fs → MethodsFit b p.setting.program → Falls b p (works p f fs ws)
works_fall b p f fs [] e z x y m = returns_fall b p f fs [] None e y m
works_fall b p f fs (w ∷ left) e z x y m =
    valued_falls b p (weight_of w + length p.answers) (exec_item (env_of p f left) w p.answers) (moves p f fs left) (falling.work_falls b (env_of p f left) w p.answers m x.0)
    (λ move h. moves_fall b p f fs w left move e z h x.1 y m)

runs_fall : (b : ℕ) (p : Process) (fs : List Frame) → p.frames ≡ fs → FitsAll b fs → MethodsFit b p.setting.program → Falls b p (runs p fs)
runs_fall b p [] e x m = tt
runs_fall b p (f ∷ fs) e x m = works_fall b p f fs f.left e refl x.0 x.1 m

steps_fall : (b : ℕ) (p : Process) (w : Option Wait) → Fitting b p → Falls b p (steps p w)
steps_fall b p None f = runs_fall b p p.frames refl f.0 f.1
steps_fall b p (Some w) f = ticks_fall b p w.place _ (λ t. tt)

pub step_falls : (b : ℕ) (p : Process) → Fitting b p → Falls b p (step p)
step_falls b p f = steps_fall b p p.wait f

-- ---- what is next

lower : (a b k : ℕ) → a < b → b < suc k → a < k
lower a b k h g = omega arith

settles_later : (p q : Process) → step p ≡ To q → (n : Next) × IsNext q n → (n : Next) × IsNext p n
settles_later p q e x = (x.0, (x.1.0, record { reaches = later e x.1.1.reaches; stands = x.1.1.stands }))

stands_here : (p : Process) (s : Step) (n : Next) → step p ≡ s → step_label s ≡ Some n → (n : Next) × IsNext p n
stands_here p s n e h = (n, (p, record { reaches = here; stands = subst (λ x. step_label x ≡ Some n) (sym e) h }))

by_step : (b k : ℕ) (p : Process) → ((q : Process) → weight b q < k → Fitting b q → (n : Next) × IsNext q n) → (s : Step) → step p ≡ s → weight b p < suc k → Fitting b p → (n : Next) × IsNext p n
by_step b k p go (To q) e l f =
    let h : Falls b p (To q) = subst (Falls b p) e (step_falls b p f) in
    settles_later p q e (go q (lower _ _ k h.0 l) h.1)
by_step b k p go (At request g) e l f = stands_here p (At request g) (next.Act request.place request.action) e refl
by_step b k p go (Ends at) e l f = stands_here p (Ends at) (next.End at) e refl
by_step b k p go (Faults kind at) e l f = stands_here p (Faults kind at) (next.Fault kind at) e refl

within : (b k : ℕ) (p : Process) → weight b p < k → Fitting b p → (n : Next) × IsNext p n
within b zero p l f = absurd (omega arith)
within b (suc k) p l f = by_step b k p (within b k) (step p) refl l f

-- large enough for all that the process may do
pub fits_bound : (p : Process) → Fitting (needs_all p.frames + most p.setting.program.methods) p
fits_bound p = (fits_all_needs _ p.frames (omega arith), fits_most _ p.setting.program.methods (omega arith))

pub next_some : (p : Process) → (n : Next) × IsNext p n
next_some p =
    let b : ℕ = needs_all p.frames + most p.setting.program.methods in
    within b (weight b p + 1) p (omega arith) (fits_bound p)
