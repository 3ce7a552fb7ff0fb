-- The steps of the slice run by itself: each leaves out work without effects, or is the machine's.
use Rattle.std.proofs.Common.{◌≡◌, ◌≤◌, nat_lt, length, Bool, true, false, ◌⊎◌, inl, inr, if◌then◌else◌, slice_get, Option, Some, None, List, [], ◌∷◌, refl, ap, sym, ◌∙◌, subst}
use Rattle.std.specs.Option.{option_map_or}
use Rattle.ti_base.specs.declared.place.Place.{Place}
use Rattle.ti_base.specs.declared.value.Id.{Id}
use Rattle.ti_base.specs.declared.fault.FaultKind.TheVariants.{Fuel, Depth}
use Rattle.ti_base.specs.declared.entry.Answer.{Answer}
use Rattle.ti_lang.specs.Program.Classes.{NumberedMethod}
use Rattle.ti_lang.specs.Meaning.Held.{Held}
use Rattle.ti_lang.specs.Meaning.Comp.{CompResult, Gives, Asks, Fails}
use Rattle.ti_lang.specs.Meaning.Processes.{RunConfig, Variable, Receiver, Nowhere, ContItem, Do, End, Before, Behind, Receive, CopyAll, TakeAll, Frame, frame_of, Wait, Process, begin}
use Rattle.ti_lang.specs.Meaning.Scoping.{env_of}
use Rattle.ti_lang.specs.Meaning.Moves.{Move, Goes, Turns, Breaks, Continues, Calls, Returns, Meets, Deletes}
use Rattle.ti_lang.specs.Meaning.Performing.{declared_in}
use Rattle.ti_lang.specs.Meaning.Jumps.{has_mark, from_mark, past_mark, variables_at_mark}
use Rattle.ti_lang.specs.Meaning.Scoping.{without_variables}
use Rattle.ti_lang.specs.Meaning.Steps.{Step, To, At, Ends, Faults, spends, ticks, step_of_result, with_continuation, deliver, most_frames, value_asked, moves}
use Rattle.ti_align.specs.Slice.{slice_works, slice_runs, slice_steps, slice_step}
use Rattle.ti_align.proofs.Alignment.Slice.{jump_at, work_acts, kept, frame_part, frame_parts, State, slice, Over, certain, moves_to, moves_on, moves_in, move_of, single_performed}
use Rattle.ti_align.proofs.Alignment.Slice as sl
use Rattle.ti_align.proofs.Runs.Vars.{not_false, if_true, if_false, without_singles}
use Rattle.ti_align.proofs.Alignment.Single.{env_part, Sure}
use Rattle.ti_align.proofs.Alignment.Fine.{Deep, OkWorks, kept_on, kept_out, kept_agrees}
use Rattle.ti_align.proofs.Alignment.Fitting.{FineMethods}
use Rattle.ti_align.proofs.Alignment.Stepping.{parts, Leads, FirstActs, Acts, OkFrames, OkWait, Ok, MovesAt, Own, Costs, Frames, own_ticks, plain_parts, going_same, pushed, pushed_ok, env_same, nil_cons, deep_on, single_move, begin_ok}
use Rattle.ti_align.proofs.Alignment.Stepping as stepping
use Rattle.ti_align.proofs.SliceAlone.Sure.{Closed, Stated, work_sure}

-- ---- single variables alone

-- a frame without `this`, with single variables alone
abbrev pub Bare : Frame → Type 0
Bare f = (f.this ≡ None) × Closed f.variables

abbrev pub AllBare : List Frame → Type 0
AllBare [] = Unit {0}
AllBare (f ∷ fs) = Bare f × AllBare fs

-- process 0 with such frames, which asks for nothing between its steps
abbrev pub IsBare : Process → Type 0
IsBare q = (q.number ≡ 0) × (q.answers ≡ []) × AllBare q.frames

-- so is what a step leads to
abbrev pub BareStep : Step → Type 0
BareStep (To q) = IsBare q
BareStep (At request go) = (r : Answer) → IsBare (go r)
BareStep (Ends place) = Unit {0}
BareStep (Faults kind place) = Unit {0}

bare_ticks : (q : Process) (at : Place) (after : Step) → BareStep after → BareStep (ticks q at after)
bare_ticks q at after h = go (nat_lt q.spent q.setting.fuel)
  where
    go : (b : Bool) → BareStep (if b then after else Faults Fuel at)
    go true = h
    go false = tt

bare_handed : (r : Receiver) (v : Option Held) (fs : List Frame) → AllBare fs → AllBare (deliver r v fs)
bare_handed r None fs h = h
bare_handed r (Some v) [] h = tt
bare_handed r (Some v) (f ∷ fs) h = h

closed_at_mark : (ws : List ContItem) (vs : List Variable) → Closed vs → Closed (variables_at_mark ws vs)
closed_at_mark [] vs h = h
closed_at_mark (Do x ∷ ws) vs h = closed_at_mark ws vs h
closed_at_mark (End x ∷ ws) vs h = closed_at_mark ws (without_variables (declared_in x) vs) (without_singles (declared_in x) vs ∙ ap (without_variables (declared_in x)) h)
closed_at_mark (Before loop ∷ ws) vs h = closed_at_mark ws vs h
closed_at_mark (Behind loop ∷ ws) vs h = h
closed_at_mark (Receive receiver held ∷ ws) vs h = closed_at_mark ws vs h
closed_at_mark (CopyAll at to from points ∷ ws) vs h = closed_at_mark ws vs h
closed_at_mark (TakeAll at grid procs ∷ ws) vs h = closed_at_mark ws vs h

goes_variables : (vs ws : List Variable) (a b : List ContItem) → Goes vs a ≡ Goes ws b → vs ≡ ws
goes_variables vs ws a b e = cc

turns_variables : (at bt : Place) (vs ws : List Variable) (a b : List ContItem) → Turns at vs a ≡ Turns bt ws b → vs ≡ ws
turns_variables at bt vs ws a b e = cc

calls_parts : (at bt : Place) (m n : NumberedMethod) (this that : Option Id) (vs ws : List Variable) (r t : Receiver) → Calls at m this vs r ≡ Calls bt n that ws t → (this ≡ that) × (vs ≡ ws)
calls_parts at bt m n this that vs ws r t e = (cc, cc)

bare_moves : (q : Process) (f : Frame) (fs : List Frame) (left : List ContItem) (ok : OkWorks q.setting.program f.method left)
    (fine : FineMethods q.setting.program q.setting.program.methods) (closed : env_part (env_of q f left) ≡ env_of q f left)
    → q.number ≡ 0 → Bare f → AllBare fs → (mv : Move) → Stated q f left ok fine closed mv → BareStep (moves q f fs left mv)
bare_moves q f fs left ok fine closed n b bs (Goes vs ws) s = (n, refl, ((b.0, sym (goes_variables _ _ _ _ s.1)), bs))
bare_moves q f fs left ok fine closed n b bs (Turns at vs ws) s = bare_ticks q at _ (n, refl, ((b.0, sym (turns_variables _ _ _ _ _ _ s.1)), bs))
bare_moves q f fs left ok fine closed n b bs Breaks s = go (has_mark left)
  where
    go : (t : Bool) → IsBare (if t then with_continuation q f fs (variables_at_mark left f.variables) (past_mark left) else with_continuation q f fs f.variables left)
    go true = (n, refl, ((b.0, closed_at_mark left f.variables b.1), bs))
    go false = (n, refl, (b, bs))
bare_moves q f fs left ok fine closed n b bs Continues s = go (has_mark left)
  where
    go : (t : Bool) → IsBare (if t then with_continuation q f fs (variables_at_mark left f.variables) (from_mark left) else with_continuation q f fs f.variables left)
    go true = (n, refl, ((b.0, closed_at_mark left f.variables b.1), bs))
    go false = (n, refl, (b, bs))
bare_moves q f fs left ok fine closed n b bs (Calls at m this ps r) s =
    bare_ticks q at _ (go (nat_lt (length (f ∷ fs)) most_frames))
  where
    go : (t : Bool) → BareStep (if t then To (spends (record q { frames = frame_of m this ps r ∷ record f { left = left } ∷ fs; wait = None; answers = [] })) else Faults Depth at)
    go true = let k = calls_parts _ _ _ _ _ _ _ _ _ _ s.1.0 in (n, refl, ((k.0, sym k.1), (b, bs)))
    go false = tt
bare_moves q f fs left ok fine closed n b bs (Returns v) s = (n, refl, bare_handed f.receiver v fs bs)
bare_moves q f fs left ok fine closed n b bs (Meets wait given behind) s = bare_ticks q wait.place _ (λ r. (n, refl, (b, bs)))
bare_moves q f fs left ok fine closed n b bs (Deletes at region) s = bare_ticks q at _ (λ r. (n, refl, (b, bs)))

-- ---- steps of the slice

-- a process of the slice
abbrev pub Sliced : RunConfig → Process → Type 0
Sliced n q = Ok n q × IsBare q

-- a step leaves the slice where it is, or is the machine's
abbrev pub Slices : RunConfig → Process → Step → Type 0
Slices n q (To r) = (((slice r ≡ slice q) × (r.spent ≡ q.spent)) ⊎ stepping.GoesOn q.spent (move_of n (slice q)) r) × Sliced n r
Slices n q (At request go) = MovesAt n q.spent (move_of n (slice q)) q.frames request.place request.action go × ((r : Answer) → IsBare (go r))
Slices n q (Ends place) = move_of n (slice q) ≡ Over
Slices n q (Faults kind place) = ((kind ≡ Fuel) × (n.fuel ≤ q.spent) × Costs (move_of n (slice q))) ⊎ (move_of n (slice q) ≡ sl.Fault kind place)

own_slices : (n : RunConfig) (q : Process) (st : Step) → Own n q.spent (move_of n (slice q)) q.frames st → BareStep st → Slices n q st
own_slices n q (To r) o b = (inr o.0, (o.1, b))
own_slices n q (At request go) o b = (o, b)
own_slices n q (Ends place) o b = o
own_slices n q (Faults kind place) o b = o

own_valued : (q : Process) (f : Frame) (fs above : List Frame) (left : List ContItem) (P : Move → Type 0) (g : CompResult Move) (go : Move → sl.Move)
    → Sure P g → ((mv : Move) → P mv → Own q.setting q.spent (go mv) above (moves q f fs left mv))
    → Own q.setting q.spent (certain g go) above (step_of_result q g (moves q f fs left))
own_valued q f fs above left P (Gives mv rest) go s h = h mv s
own_valued q f fs above left P (Asks request) go s h = absurd s
own_valued q f fs above left P (Fails kind at) go s h = inr refl

bare_valued : (q : Process) (P : Move → Type 0) (g : CompResult Move) (go : Move → Step) → Sure P g → ((mv : Move) → P mv → BareStep (go mv)) → BareStep (step_of_result q g go)
bare_valued q P (Gives mv rest) go s h = h mv s
bare_valued q P (Asks request) go s h = absurd s
bare_valued q P (Fails kind at) go s h = tt

-- single values alone are evaluated in a process of the slice
closed_env : (q : Process) (f : Frame) (left : List ContItem) → q.number ≡ 0 → Bare f → env_part (env_of q f left) ≡ env_of q f left
closed_env q f left n b =
    ap (λ vs. record (env_of q f left) { number = 0; this = None; variables = vs }) b.1
    ∙ ap (λ t. record (env_of q f left) { number = 0; this = t }) (sym b.0)
    ∙ ap (λ k. record (env_of q f left) { number = k }) (sym n)

single_slices : (q : Process) (f : Frame) (fs : List Frame) (w : ContItem) (left : List ContItem) → f.left ≡ w ∷ left
    → OkWorks q.setting.program f.method (w ∷ left) → Frames q f fs → work_acts q.setting.program f.method left w ≡ true → q.number ≡ 0
    → Bare f → AllBare fs
    → Own q.setting q.spent (moves_on q.setting (frame_part q.setting.program f) (frame_parts q.setting.program fs)
    (w ∷ kept q.setting.program f.method left)) (f ∷ fs) (step_of_result q (single_performed (env_of q f left) w []) (moves q f fs left))
    × BareStep (step_of_result q (single_performed (env_of q f left) w []) (moves q f fs left))
single_slices q f fs w left z x o h n b bs =
    let p = q.setting.program in
    let d = x.1 h in
    let c : parts p f.method ≡ true = not_false _ (λ k. nil_cons w (kept p f.method left) (sym (kept_on p f.method w left h) ∙ ap (kept p f.method) (sym z) ∙ o.0.1 k)) in
    let i : f.method.is_single ≡ true = plain_parts p f.method o.0.0 c in
    let a = kept_agrees p f.method left x.2 d in
    let l : Leads p (f ∷ fs) = (i, c, subst (λ i. Deep (jump_at p f.method i)) (sym z) (deep_on p f.method w left h d)) in
    let e : Acts p (f ∷ fs) = subst (FirstActs p f.method) (sym z) h in
    let closed = closed_env q f left n b in
    let sure = work_sure q f left x.2 o.2 closed w x h in (
      subst (λ i. Own q.setting q.spent (certain (single_performed i w [])
          (moves_to q.setting (frame_part p f) (frame_parts p fs) (kept p f.method left))) (f ∷ fs)
          (step_of_result q (single_performed (env_of q f left) w []) (moves q f fs left)))
          (sym (env_same q f left a ∙ closed))
          (own_valued q f fs (f ∷ fs) left (Stated q f left x.2 o.2 closed) (single_performed (env_of q f left) w []) _ sure
          (λ mv s. single_move q f fs (f ∷ fs) left mv mv l e i c d o x.2 a s.0 s.1)),
      bare_valued q (Stated q f left x.2 o.2 closed) (single_performed (env_of q f left) w []) _ sure (λ mv s. bare_moves q f fs left x.2 o.2 closed n b bs mv s),
    )

-- what is left of a frame
frame_slices : (q : Process) (f : Frame) (fs : List Frame) (ws : List ContItem) → f.left ≡ ws → q.frames ≡ f ∷ fs → q.wait ≡ None → q.number ≡ 0
    → OkWorks q.setting.program f.method ws → Frames q f fs → Bare f → AllBare fs → Slices q.setting q (slice_works q f fs ws)
frame_slices q f fs ws z y e n x o b bs =
    go (f.method.is_single) refl ws z x
  where
    at_frame : move_of q.setting (slice q) ≡ moves_in q.setting (frame_parts q.setting.program (f ∷ fs))
    at_frame = ap (sl.moves q.setting (frame_parts q.setting.program q.frames)) e ∙ ap (λ k. moves_in q.setting (frame_parts q.setting.program k)) y

    same : slice q ≡ record { frames = frame_parts q.setting.program (f ∷ fs); wait = None }
    same = ap (λ i. record { frames = frame_parts q.setting.program q.frames; wait = i }) e ∙ ap (λ k. record { frames = frame_parts q.setting.program k; wait = None }) y

    go : (t : Bool) → f.method.is_single ≡ t → (ws : List ContItem) → f.left ≡ ws → OkWorks q.setting.program f.method ws → Slices q.setting q (slice_works q f fs ws)
    go true t [] z x = (
      inr (
        false,
        at_frame ∙ ap (moves_in q.setting) (if_true f.method.is_single (frame_part q.setting.program f ∷ frame_parts q.setting.program fs) (frame_parts q.setting.program fs) t)
            ∙ ap (λ i. moves_on q.setting (frame_part q.setting.program f) (frame_parts q.setting.program fs) (kept q.setting.program f.method i)) z,
        refl,
      ),
      ((refl, o.1, tt, o.2), (n, refl, bs)),
    )
    go false t [] z x = (inl (sym (same ∙ ap (λ k. record { frames = k; wait = None }) (if_false f.method.is_single _ _ t)), refl), ((refl, o.1, tt, o.2), (n, refl, bs)))
    go t s (w ∷ left) z x = by_work (work_acts q.setting.program f.method left w) refl
      where
        stays : work_acts q.setting.program f.method left w ≡ false → kept q.setting.program f.method left ≡ kept q.setting.program f.method f.left
        stays h = sym (kept_out q.setting.program f.method w left h) ∙ ap (kept q.setting.program f.method) (sym z)

        by_work : (d : Bool) → work_acts q.setting.program f.method left w ≡ d → Slices q.setting q (slice_works q f fs (w ∷ left))
        by_work true h =
            let c : parts q.setting.program f.method ≡ true = not_false _
            (λ k. nil_cons w (kept q.setting.program f.method left) (sym (kept_on q.setting.program f.method w left h)
            ∙ ap (kept q.setting.program f.method) (sym z) ∙ o.0.1 k)) in
            let i : f.method.is_single ≡ true = plain_parts q.setting.program f.method o.0.0 c in
            let k = single_slices q f fs w left z x o h n b bs in
            let moved =
            at_frame ∙ ap (moves_in q.setting) (if_true f.method.is_single (frame_part q.setting.program f ∷ frame_parts q.setting.program fs) (frame_parts q.setting.program fs) i)
            ∙ ap (λ j. moves_on q.setting (frame_part q.setting.program f) (frame_parts q.setting.program fs) (kept q.setting.program f.method j)) z
            ∙ ap (moves_on q.setting (frame_part q.setting.program f) (frame_parts q.setting.program fs)) (kept_on q.setting.program f.method w left h) in
            subst (Slices q.setting q) (sym (if_true (work_acts q.setting.program f.method left w) _ _ h))
            (own_slices q.setting q _ (subst (λ j. Own q.setting q.spent j q.frames (step_of_result q (single_performed (env_of q f left) w []) (moves q f fs left))) (sym moved)
            (subst (λ j. Own q.setting q.spent (moves_on q.setting (frame_part q.setting.program f) (frame_parts q.setting.program fs)
            (w ∷ kept q.setting.program f.method left)) j (step_of_result q (single_performed (env_of q f left) w [])
            (moves q f fs left))) (sym y) k.0)) k.1)
        by_work false h =
            subst (Slices q.setting q) (sym (if_false (work_acts q.setting.program f.method left w) _ _ h)) (
              inl (going_same q f fs f.variables left refl (stays h) ∙ sym same, refl),
              ((refl, (x.2, (o.0.0, (λ c. stays h ∙ o.0.1 c), o.0.2, o.0.3), o.1), tt, o.2), (n, refl, (b, bs))),
            )

frames_slices : (q : Process) (fs : List Frame) → q.frames ≡ fs → q.wait ≡ None → q.number ≡ 0 → OkFrames q.setting.program fs
    → FineMethods q.setting.program q.setting.program.methods → AllBare fs → Slices q.setting q (slice_runs q fs)
frames_slices q [] y e n x g b = ap (sl.moves q.setting (frame_parts q.setting.program q.frames)) e ∙ ap (λ k. moves_in q.setting (frame_parts q.setting.program k)) y
frames_slices q (f ∷ fs) y e n x g b = frame_slices q f fs f.left refl y e n x.0 (x.1, x.2, g) b.0 b.1

wait_slices : (q : Process) (w : Option Wait) → q.wait ≡ w → Ok q.setting q → IsBare q → OkWait q.setting.program w q.frames → Slices q.setting q (slice_steps q w)
wait_slices q None e ok b x = frames_slices q q.frames refl e b.0 ok.1 ok.3 b.2
wait_slices q (Some w) e ok b x =
    let moved : move_of q.setting (slice q) ≡ sl.moves q.setting (frame_parts q.setting.program q.frames) (Some w) = ap (sl.moves q.setting (frame_parts q.setting.program q.frames)) e in
    own_slices q.setting q _ (subst (λ m. Own q.setting q.spent m q.frames (slice_steps q (Some w))) (sym moved)
    (own_ticks _ q.frames q w.place _ tt (
      w,
      (λ r. record { frames = sl.handed_single w.receiver (value_asked w.wanted r) (frame_parts q.setting.program q.frames); wait = None }),
      refl,
      λ r. (
        ap (λ k. record { frames = k; wait = None }) (pushed q.setting.program w.receiver (value_asked w.wanted r) q.frames x),
        (refl, pushed_ok q.setting.program w.receiver (value_asked w.wanted r) q.frames (λ _. x) ok.1, tt, ok.3),
        refl,
      ),
    )))
    (bare_ticks q w.place _ (λ r. (b.0, refl, bare_handed w.receiver (value_asked w.wanted r) q.frames b.2)))

-- each step of the slice is of one of these kinds
pub slices : (n : RunConfig) (q : Process) → Sliced n q → Slices n q (slice_step q)
slices n q s =
    let o = s.0 in
    let f = subst (λ (k : RunConfig). OkFrames k.program q.frames) (sym o.0) o.1 in
    let w = subst (λ (k : RunConfig). OkWait k.program q.wait q.frames) (sym o.0) o.2 in
    let g = subst (λ (k : RunConfig). FineMethods k.program k.program.methods) (sym o.0) o.3 in
    subst (λ k. Slices k q (slice_step q)) o.0 (wait_slices q q.wait refl (refl, f, w, g) s.1 w)

-- ---- the beginning

bare_main : (o : Option NumberedMethod) → AllBare (option_map_or (λ (main : NumberedMethod). frame_of main None [] Nowhere ∷ []) o [])
bare_main None = tt
bare_main (Some m) = ((refl, refl), tt)

pub begin_sliced : (n : RunConfig) → FineMethods n.program n.program.methods → Sliced n (begin n 0)
begin_sliced n f = (begin_ok n 0 f, (refl, refl, bare_main (slice_get n.program.methods n.program.main)))
