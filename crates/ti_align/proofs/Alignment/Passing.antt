-- Two processes go through the same states of the slice.
use Rattle.std.proofs.Common.{◌≡◌, ℕ, suc, ◌+◌, ◌≤◌, Bool, false, ◌⊎◌, inl, inr, ⊎_elim, map, Option, List, [], ◌∷◌, refl, ap, ap₂, sym, ◌∙◌, subst, arith}
use Rattle.ti_base.specs.declared.place.Place.{Place}
use Rattle.ti_base.specs.declared.action.Action.{Action}
use Rattle.ti_base.specs.declared.action.Action.TheVariants as act
use Rattle.ti_base.specs.declared.action.CollKind.{CollKind}
use Rattle.ti_base.specs.declared.action.Deposit.{Deposit}
use Rattle.ti_base.specs.declared.entry.Answer.{Answer}
use Rattle.ti_base.specs.declared.entry.Answer.TheVariants.{Done}
use Rattle.ti_lang.specs.Program.Classes.{ProgramView}
use Rattle.ti_lang.specs.Meaning.Processes.{RunConfig, Frame, Wait, Process, begin}
use Rattle.ti_lang.specs.Meaning.Turns.{turns_at}
use Rattle.ti_lang.specs.Meaning.Steps.{Step, To, At, Ends, step}
use Rattle.ti_lang.specs.Meaning.Histories.{is_arrival, is_departure}
use Rattle.ti_align.specs.SinglePart.{SingleFrame, singles, single_frame, single_part}
use Rattle.ti_align.proofs.Alignment.Slice.{frame_parts, State, slice, Move, Silent, Arrival, Departure, Over, move_of}
use Rattle.ti_align.proofs.Runs.Ways.{Asked, asking, Meeting, Came, Left, Way, comings, SameAnswers}
use Rattle.ti_align.proofs.Runs.Ways as way
use Rattle.ti_align.proofs.Runs.Vars.{true_false, if_true}
use Rattle.ti_align.proofs.Alignment.Fine.{kept_agrees}
use Rattle.ti_align.proofs.Alignment.Fitting.{FineMethods}
use Rattle.ti_align.proofs.Alignment.Stepping.{Leads, Acts, OkFrames, Ok, Kinds, KindsAt, kinds, begin_ok}
use Rattle.ti_align.proofs.Alignment.Stepping as stepping
use Rattle.ti_align.proofs.Runs.Asks.{work_alone}

-- a way through the slice
pub data Passes (n : RunConfig) : State → List Meeting → State → Type 0 where
  stop : {s : State} → Passes n s [] s
  silent : {timed : Bool} {s t u : State} {ms : List Meeting} → move_of n s ≡ Silent timed t → Passes n t ms u → Passes n s ms u
  came : {s t u : State} {w : Wait} {at : Place} {kind : CollKind} {arg : Option ℕ} {ms : List Meeting} → move_of n s ≡ Arrival w t
      → w.place ≡ at → w.kind ≡ kind → w.arg ≡ arg → Passes n t ms u → Passes n s (Came at kind arg ∷ ms) u
  left : {s u : State} {w : Wait} {go : Answer → State} {r : Answer} {ms : List Meeting} → move_of n s ≡ Departure w go → Passes n (go r) ms u → Passes n s (Left r ∷ ms) u

pub kind_of : (n : RunConfig) (q : Process) (st : Step) → Ok n q → step q ≡ st → Kinds n q.spent (move_of n (slice q)) (slice q) q.frames st
kind_of n q st o e = subst (Kinds n q.spent (move_of n (slice q)) (slice q) q.frames) e (kinds work_alone n q o)

pub by_alone : (n : RunConfig) (b : ℕ) (m : Move) (s : State) (fs : List Frame) (at : Place) (a : Action) (go : Answer → Process) (r : Answer)
    → is_arrival a ≡ false → is_departure a ≡ false → KindsAt n b m s fs at a go → (slice (go r) ≡ s) × Ok n (go r) × (b ≤ (go r).spent)
by_alone n b m s fs at (act.Arrive kind arg given) go r x y k = absurd (true_false x)
by_alone n b m s fs at act.Depart go r x y k = absurd (true_false y)
by_alone n b m s fs at act.End go r x y k = absurd k
by_alone n b m s fs at _ go r x y k = k r

silent_way : (n : RunConfig) (s u : State) (ms : List Meeting) (b : ℕ) (q : Process) → ((slice q ≡ s) × (b ≤ q.spent)) ⊎ stepping.GoesOn b (move_of n s) q → Passes n (slice q) ms u → Passes n s ms u
silent_way n s u ms b q (inl z) h = subst (λ y. Passes n y ms u) z.0 h
silent_way n s u ms b q (inr z) h = silent z.1 h

same_way : (n : RunConfig) (s t u : State) (ms : List Meeting) → t ≡ s → Passes n t ms u → Passes n s ms u
same_way n s t u ms z h = subst (λ y. Passes n y ms u) z h

came_way : (n : RunConfig) (s t u : State) (w : Wait) (at : Place) (kind : CollKind) (arg : Option ℕ) (ms : List Meeting) → move_of n s
    ≡ Arrival w t → w.place ≡ at → w.kind ≡ kind → w.arg ≡ arg → Passes n t ms u → Passes n s (Came at kind arg ∷ ms) u
came_way n s t u w at kind arg ms m a b c h = came m a b c h

left_way : (n : RunConfig) (s t u : State) (w : Wait) (go : Answer → State) (r : Answer) (ms : List Meeting) → move_of n s ≡ Departure w go → t ≡ go r → Passes n t ms u → Passes n s (Left r ∷ ms) u
left_way n s t u w go r ms m z h = left {r = r} m (subst (λ y. Passes n y ms u) z h)

Passed : RunConfig → Process → List Meeting → Process → Type 0
Passed n p ms q = Ok n q × Passes n (slice p) ms (slice q)

by_silent : (n : RunConfig) (p q r : Process) (ms : List Meeting) → Kinds n p.spent (move_of n (slice p)) (slice p) p.frames (To q) → (Ok n q → Passed n q ms r) → Passed n p ms r
unfolding Passed
by_silent n p q r ms k go = let h = go k.1 in (h.0, silent_way n (slice p) (slice r) ms p.spent q k.0 h.1)

by_stay : (n : RunConfig) (p q r : Process) (ms : List Meeting) → (slice q ≡ slice p) × Ok n q × (p.spent ≤ q.spent) → (Ok n q → Passed n q ms r) → Passed n p ms r
unfolding Passed
by_stay n p q r ms k go = let h = go k.1 in (h.0, same_way n (slice p) (slice q) (slice r) ms k.0 h.1)

by_came : (n : RunConfig) (p : Process) (at : Place) (kind : CollKind) (arg : Option ℕ) (d : Deposit) (step_to : Answer → Process)
    (t : Answer) (r : Process) (ms : List Meeting) → KindsAt n p.spent (move_of n (slice p)) (slice p) p.frames at
    (act.Arrive kind arg d) step_to → (Ok n (step_to t) → Passed n (step_to t) ms r) → Passed n p (Came at kind arg ∷ ms) r
unfolding Passed
by_came n p at kind arg d g t r ms k go = let h = go (k.4 t).1 in (h.0, came_way n (slice p) (slice (g t)) (slice r) k.0 at kind arg ms (k.4 t).0 k.1 k.2 k.3 h.1)

by_left : (n : RunConfig) (p : Process) (at : Place) (step_to : Answer → Process) (t : Answer) (r : Process) (ms : List Meeting)
    → KindsAt n p.spent (move_of n (slice p)) (slice p) p.frames at act.Depart step_to → (Ok n (step_to t) → Passed n (step_to t) ms r)
    → Passed n p (Left t ∷ ms) r
unfolding Passed
by_left n p at g t r ms k go = let h = go (k.3 t).1 in (h.0, left_way n (slice p) (slice (g t)) (slice r) k.0 k.1 t ms k.2 (k.3 t).0 h.1)

ways : (n : RunConfig) (p q : Process) (ms : List Meeting) → Ok n p → Way p ms q → Passed n p ms q
unfolding Passed
ways n p q ms o way.stop = (o, stop)
ways n p r ms o (way.silent {q = q} e w) = by_silent n p q r ms (kind_of n p (To q) o e) (λ u. ways n q r ms u w)
ways n p r ms o (way.alone {at = at} {a = a} {wanted = v} {go = go} {answer = t} e x y w) =
    by_stay n p (go t) r ms (by_alone n p.spent (move_of n (slice p)) (slice p) p.frames at a go t x y (kind_of n p (At (asking at a v) go) o e)) (λ u. ways n (go t) r ms u w)
ways n p r ms o (way.came {ms = ns} {at = at} {kind = kind} {arg = arg} {given = d} {wanted = v} {go = go} {answer = t} e w) =
    by_came n p at kind arg d go t r ns (kind_of n p (At (asking at (act.Arrive kind arg d) v) go) o e) (λ u. ways n (go t) r ns u w)
ways n p r ms o (way.left {ms = ns} {at = at} {wanted = v} {go = go} {answer = t} e w) =
    by_left n p at go t r ns (kind_of n p (At (asking at act.Depart v) go) o e) (λ u. ways n (go t) r ns u w)

pub passes : (n : RunConfig) (p q : Process) (ms : List Meeting) → Ok n p → Way p ms q → Ok n q × Passes n (slice p) ms (slice q)
unfolding Passed
passes n p q ms o w = ways n p q ms o w

-- ---- moves are one

pub silent_same : (m : Move) (c d : Bool) (s t : State) → m ≡ Silent c s → m ≡ Silent d t → (s ≡ t) × (c ≡ d)
silent_same m c d s t a b = (cc, cc)

pub arrival_same : (m : Move) (c d : Wait) (s t : State) → m ≡ Arrival c s → m ≡ Arrival d t → (s ≡ t) × (c ≡ d)
arrival_same m c d s t a b = (cc, cc)

pub departure_same : (m : Move) (c d : Wait) (g h : Answer → State) → m ≡ Departure c g → m ≡ Departure d h → g ≡ h
departure_same m c d g h a b = cc

pub silent_arrival : (m : Move) (d : Bool) (s t : State) (c : Wait) → m ≡ Silent d s → m ≡ Arrival c t → ⊥
silent_arrival m d s t c a b = cc

pub silent_departure : (m : Move) (d : Bool) (s : State) (c : Wait) (g : Answer → State) → m ≡ Silent d s → m ≡ Departure c g → ⊥
silent_departure m d s c g a b = cc

pub arrival_departure : (m : Move) (s : State) (c d : Wait) (g : Answer → State) → m ≡ Arrival c s → m ≡ Departure d g → ⊥
arrival_departure m s c d g a b = cc

pub over_silent : (m : Move) (d : Bool) (s : State) → m ≡ Over → m ≡ Silent d s → ⊥
over_silent m d s a b = cc

pub over_arrival : (m : Move) (s : State) (c : Wait) → m ≡ Over → m ≡ Arrival c s → ⊥
over_arrival m s c a b = cc

pub over_departure : (m : Move) (c : Wait) (g : Answer → State) → m ≡ Over → m ≡ Departure c g → ⊥
over_departure m c g a b = cc

-- ---- of two ways from one state, one goes on from the other

abbrev pub GoesOn : RunConfig → State → List Meeting → State → List Meeting → Type 0
GoesOn n u ls v ms = (rest : List Meeting) × Passes n u rest v × (comings ms ≡ comings ls + comings rest)

more_comes : (a b c : ℕ) → a ≡ b + c → suc a ≡ suc b + c
more_comes a b c e = omega arith

abbrev pub Compared : RunConfig → State → List Meeting → State → List Meeting → Type 0
Compared n u ls v ms = GoesOn n u ls v ms ⊎ GoesOn n v ms u ls

both_came : (n : RunConfig) (u v : State) (a b : Place) (c d : CollKind) (e f : Option ℕ) (ls ms : List Meeting) → Compared n u ls v ms → Compared n u (Came a c e ∷ ls) v (Came b d f ∷ ms)
both_came n u v a b c d e f ls ms x = ⊎_elim (λ y. inl (y.0, y.1, more_comes _ _ _ y.2)) (λ y. inr (y.0, y.1, more_comes _ _ _ y.2)) x

pub compare : (n : RunConfig) (s u v : State) (ls ms : List Meeting) → Passes n s ls u → Passes n s ms v → SameAnswers ls ms → Compared n u ls v ms
compare n s u v [] ms stop y a = inl (ms, y, omega arith)
compare n s u v ls ms (silent m x) stop a = inr (ls, silent m x, omega arith)
compare n s u v ls ms (silent {t = t} m x) (silent {t = t'} m' y) a = compare n t u v ls ms x (subst (λ z. Passes n z ms v) (silent_same _ _ _ _ _ m' m).0 y) a
compare n s u v ls (d ∷ ms) (silent m x) (came m' e f g y) a = absurd (silent_arrival _ _ _ _ _ m m')
compare n s u v ls (d ∷ ms) (silent m x) (left m' y) a = absurd (silent_departure _ _ _ _ _ m m')
compare n s u v (c ∷ ls) ms (came m e f g x) stop a = inr (c ∷ ls, came m e f g x, omega arith)
compare n s u v (c ∷ ls) ms (came m e f g x) (silent m' y) a = absurd (silent_arrival _ _ _ _ _ m' m)
compare n s u v (c ∷ ls) (d ∷ ms) (came {t = t} {at = at} {kind = k} {arg = i} m e f g x) (came {at = at'} {kind = k'} {arg = i'} m' e' f' g' y) a =
    both_came n u v at at' k k' i i' ls ms (compare n t u v ls ms x (subst (λ z. Passes n z ms v) (arrival_same _ _ _ _ _ m' m).0 y) a)
compare n s u v (c ∷ ls) (d ∷ ms) (came m e f g x) (left m' y) a = absurd (arrival_departure _ _ _ _ _ m m')
compare n s u v (c ∷ ls) ms (left m x) stop a = inr (c ∷ ls, left m x, omega arith)
compare n s u v (c ∷ ls) ms (left m x) (silent m' y) a = absurd (silent_departure _ _ _ _ _ m' m)
compare n s u v (c ∷ ls) (d ∷ ms) (left m x) (came m' e f g y) a = absurd (arrival_departure _ _ _ _ _ m' m)
compare n s u v (c ∷ ls) (d ∷ ms) (left {go = go} {r = r} m x) (left {go = go'} {r = r'} m' y) a =
    let e = departure_same _ _ _ _ _ m' m in
    let q : r' ≡ r = sym (a 0 r r' refl refl) in
    compare n (go r) u v ls ms x (subst (λ z. Passes n z ms v) (ap₂ (λ (h : Answer → State) (t : Answer). h t) e q) y) (λ k. a (suc k))

-- ---- arrivals and ends

suc_zero : (n : ℕ) → suc n ≡ 0 → ⊥
suc_zero n e = absurd (omega arith)

-- from an arrival nothing goes on without making it
stays : (n : RunConfig) (u v t : State) (w : Wait) (ls : List Meeting) → move_of n u ≡ Arrival w t → Passes n u ls v → comings ls ≡ 0 → u ≡ v
stays n u v t w [] m stop e = refl
stays n u v t w ls m (silent k x) e = absurd (silent_arrival _ _ _ _ _ k m)
stays n u v t w (l ∷ ls) m (came k a b c x) e = absurd (suc_zero _ e)
stays n u v t w (l ∷ ls) m (left k x) e = absurd (arrival_departure _ _ _ _ _ m k)

none_left : (n : RunConfig) (u v : State) (ls : List Meeting) → move_of n u ≡ Over → Passes n u ls v → comings ls ≡ 0
none_left n u v [] m stop = refl
none_left n u v ls m (silent k x) = absurd (over_silent _ _ _ m k)
none_left n u v (l ∷ ls) m (came k a b c x) = absurd (over_arrival _ _ _ m k)
none_left n u v (l ∷ ls) m (left k x) = absurd (over_departure _ _ _ m k)

no_more : (a b c k : ℕ) → a ≡ k → b ≡ k → b ≡ a + c → c ≡ 0
no_more a b c k x y z = omega arith

at_most : (a b c : ℕ) → b ≡ a + c → c ≡ 0 → b ≤ a
at_most a b c x y = omega arith

at_most' : (a b c : ℕ) → a ≡ b + c → b ≤ a
at_most' a b c x = omega arith

-- ---- single parts

abbrev seen : Frame → SingleFrame
seen f = record { method = f.method; variables = f.variables; turns = turns_at f.left }

-- at a collective nothing of the single part is left out of the slice
seen_same : (p : ProgramView) (fs : List Frame) → OkFrames p fs → Leads p fs → map single_frame fs ≡ map seen (frame_parts p fs)
seen_same p [] o l = refl
seen_same p (f ∷ fs) o l =
    ap₂ (λ x y. record { method = f.method; variables = singles f.variables; turns = x } ∷ y) (sym (kept_agrees p f.method f.left o.0 l.2).1) (seen_same p fs o.2 (o.1.3 l.0))
    ∙ sym (ap (map seen) (if_true f.method.is_single _ _ l.0))

-- ---- the law

same_states : (n : RunConfig) (s u v t t' : State) (w w' : Wait) (ls ms : List Meeting) → Passes n s ls u → Passes n s ms v
    → SameAnswers ls ms → comings ls ≡ comings ms → move_of n u ≡ Arrival w t → move_of n v ≡ Arrival w' t' → (u ≡ v) × (w ≡ w')
same_states n s u v t t' w w' ls ms x y a c e f =
    let same : u ≡ v = by (compare n s u v ls ms x y a) in
    (same, (arrival_same (move_of n v) w w' t t' (subst (λ z. move_of n z ≡ Arrival w t) same e) f).1)
  where
    by : Compared n u ls v ms → u ≡ v
    by (inl g) = stays n u v t w g.0 e g.1 (no_more _ _ _ _ c refl g.2)
    by (inr g) = sym (stays n v u t' w' g.0 f g.1 (no_more _ _ _ _ (sym c) refl g.2))

ended : (n : RunConfig) (s u v : State) (ls ms : List Meeting) → Passes n s ls u → Passes n s ms v → SameAnswers ls ms → move_of n u ≡ Over → comings ms ≤ comings ls
ended n s u v ls ms x y a e = by (compare n s u v ls ms x y a)
  where
    by : Compared n u ls v ms → comings ms ≤ comings ls
    by (inl g) = at_most _ _ (comings g.0) g.2 (none_left n u v g.0 e g.1)
    by (inr g) = at_most' _ _ (comings g.0) g.2

-- all processes begin at one state
start_same : (n : RunConfig) (i j : ℕ) → slice (begin n i) ≡ slice (begin n j)
start_same n i j = refl

arrival_facts : (n : RunConfig) (p : Process) (at : Place) (kind : CollKind) (arg : Option ℕ) (d : Deposit) (v : Asked) (go : Answer
    → Process) → Ok n p → step p ≡ At (asking at (act.Arrive kind arg d) v) go
    → (w : Wait) × (t : State) × (move_of n (slice p) ≡ Arrival w t) × (w.place ≡ at) × (w.kind ≡ kind) × (w.arg ≡ arg) × Leads n.program p.frames
arrival_facts n p at kind arg d v go o e =
    let k = kind_of n p (At (asking at (act.Arrive kind arg d) v) go) o e in
    (k.0, slice (go Done), (k.4 Done).0, k.1, k.2, k.3, k.5)

parts_same : (n : RunConfig) (p q : Process) → Ok n p → Ok n q → Leads n.program p.frames → Leads n.program q.frames → slice p ≡ slice q → single_part p ≡ single_part q
parts_same n p q o u l k s =
    seen_same n.program p.frames o.1 l
    ∙ ap (λ (z : RunConfig). map seen (frame_parts z.program p.frames)) (sym o.0)
    ∙ ap (λ (z : State). map seen z.frames) s
    ∙ ap (λ (z : RunConfig). map seen (frame_parts z.program q.frames)) u.0
    ∙ sym (seen_same n.program q.frames u.1 k)

at_one : (n : RunConfig) (s : State) (p q : Process) (ms ns : List Meeting) (at at' : Place) (kind kind' : CollKind) (arg arg' : Option ℕ)
    → Ok n p × Passes n s ms (slice p) → Ok n q × Passes n s ns (slice q) → SameAnswers ms ns → comings ms ≡ comings ns
    → (w : Wait) × (t : State) × (move_of n (slice p) ≡ Arrival w t) × (w.place ≡ at) × (w.kind ≡ kind) × (w.arg ≡ arg) × Leads n.program p.frames
    → (w : Wait) × (t : State) × (move_of n (slice q) ≡ Arrival w t) × (w.place ≡ at') × (w.kind ≡ kind') × (w.arg ≡ arg') × Leads n.program q.frames
    → (at ≡ at') × (kind ≡ kind') × (arg ≡ arg') × (single_part p ≡ single_part q)
at_one n s p q ms ns at at' kind kind' arg arg' x y a c k l =
    let z = same_states n s (slice p) (slice q) k.1 l.1 k.0 l.0 ms ns x.1 y.1 a c k.2 l.2 in (
      sym k.3 ∙ ap (λ (w : Wait). w.place) z.1 ∙ l.3,
      sym k.4 ∙ ap (λ (w : Wait). w.kind) z.1 ∙ l.4,
      sym k.5 ∙ ap (λ (w : Wait). w.arg) z.1 ∙ l.5,
      parts_same n p q x.0 y.0 k.6 l.6 z.0,
    )

-- each process of a setting, from the state at which all begin
from_start : (n : RunConfig) (i j : ℕ) (q : Process) (ns : List Meeting) → FineMethods n.program n.program.methods → Way (begin n j) ns q → Ok n q × Passes n (slice (begin n i)) ns (slice q)
from_start n i j q ns fine y =
    let py = passes n (begin n j) q ns (begin_ok n j fine) y in
    (py.0, subst (λ s. Passes n s ns (slice q)) (start_same n j i) py.1)

pub same_arrival : (n : RunConfig) → FineMethods n.program n.program.methods
    → (i j : ℕ) (p q : Process) (ms ns : List Meeting) (at at' : Place) (kind kind' : CollKind) (arg arg' : Option ℕ) (d d' : Deposit)
    (v v' : Asked) (go go' : Answer → Process)
    → Way (begin n i) ms p → Way (begin n j) ns q → SameAnswers ms ns → comings ms ≡ comings ns
    → step p ≡ At (asking at (act.Arrive kind arg d) v) go → step q ≡ At (asking at' (act.Arrive kind' arg' d') v') go'
    → (at ≡ at') × (kind ≡ kind') × (arg ≡ arg') × (single_part p ≡ single_part q)
same_arrival n fine i j p q ms ns at at' kind kind' arg arg' d d' v v' go go' x y a c e f =
    let px = from_start n i i p ms fine x in
    let py = from_start n i j q ns fine y in
    at_one n (slice (begin n i)) p q ms ns at at' kind kind' arg arg' px py a c (arrival_facts n p at kind arg d v go px.0 e) (arrival_facts n q at' kind' arg' d' v' go' py.0 f)

-- a process stands at an arrival
pub record AtArrival (n : RunConfig) (q : Process) : Type 0 where
  pub ok : Ok n q
  pub leads : Leads n.program q.frames
  pub acts : Acts n.program q.frames

-- two processes stand at arrivals, at one state of the slice
pub record BothArrive (n : RunConfig) (p q : Process) : Type 0 where
  pub first : AtArrival n p
  pub second : AtArrival n q
  pub same : slice p ≡ slice q

at_arrival : (n : RunConfig) (p : Process) (at : Place) (kind : CollKind) (arg : Option ℕ) (d : Deposit) (v : Asked) (go : Answer → Process)
    → Ok n p → step p ≡ At (asking at (act.Arrive kind arg d) v) go → AtArrival n p
at_arrival n p at kind arg d v go o e = let k = kind_of n p (At (asking at (act.Arrive kind arg d) v) go) o e in record { ok = o; leads = k.5; acts = k.6 }

-- at arrivals of one number all processes stand at one state of the slice
pub both_arrive : (n : RunConfig) → FineMethods n.program n.program.methods
    → (i j : ℕ) (p q : Process) (ms ns : List Meeting) (at at' : Place) (kind kind' : CollKind) (arg arg' : Option ℕ) (d d' : Deposit)
    (v v' : Asked) (go go' : Answer → Process)
    → Way (begin n i) ms p → Way (begin n j) ns q → SameAnswers ms ns → comings ms ≡ comings ns
    → step p ≡ At (asking at (act.Arrive kind arg d) v) go → step q ≡ At (asking at' (act.Arrive kind' arg' d') v') go' → BothArrive n p q
both_arrive n fine i j p q ms ns at at' kind kind' arg arg' d d' v v' go go' x y a c e f =
    let px = from_start n i i p ms fine x in
    let py = from_start n i j q ns fine y in
    let k = arrival_facts n p at kind arg d v go px.0 e in
    let l = arrival_facts n q at' kind' arg' d' v' go' py.0 f in
    record {
      first = at_arrival n p at kind arg d v go px.0 e;
      second = at_arrival n q at' kind' arg' d' v' go' py.0 f;
      same = (same_states n (slice (begin n i)) (slice p) (slice q) k.1 l.1 k.0 l.0 ms ns px.1 py.1 a c k.2 l.2).0;
    }

-- no process does its end as an action
pub no_end : (n : RunConfig) → FineMethods n.program n.program.methods
    → (i : ℕ) (p : Process) (ms : List Meeting) (at : Place) (v : Asked) (go : Answer → Process) → Way (begin n i) ms p → step p
    ≡ At (asking at act.End v) go → ⊥
no_end n fine i p ms at v go x e = let px = from_start n i i p ms fine x in kind_of n p (At (asking at act.End v) go) px.0 e

over_at : (n : RunConfig) (p : Process) (at : Place) → Ok n p → step p ≡ Ends at → move_of n (slice p) ≡ Over
over_at n p at o e = kind_of n p (Ends at) o e

pub none_after_end : (n : RunConfig) → FineMethods n.program n.program.methods → (i j : ℕ) (p q : Process) (ms ns : List Meeting) (at : Place)
    → Way (begin n i) ms p → Way (begin n j) ns q → SameAnswers ms ns → step p ≡ Ends at → comings ns ≤ comings ms
none_after_end n fine i j p q ms ns at x y a e =
    let px = from_start n i i p ms fine x in
    let py = from_start n i j q ns fine y in
    ended n (slice (begin n i)) (slice p) (slice q) ms ns px.1 py.1 a (over_at n p at px.0 e)
