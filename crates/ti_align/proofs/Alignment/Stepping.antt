-- The kinds of step: each leaves the slice alone or is the slice's own.
use Rattle.std.proofs.Common.{◌≡◌, ℕ, suc, ◌+◌, ◌≤◌, nat_lt, ltb-false, length, Bool, true, false, ◌&&◌, ◌||◌, ◌⊎◌, inl, inr, if◌then◌else◌, unwrap_or, slice_get, Option, Some, None, List, [], ◌∷◌, ◌++◌, refl, ap, ap₂, sym, ◌∙◌, subst, append-nil, arith}
use Rattle.std.specs.Option.{option_map_or}
use Rattle.ti_base.specs.declared.place.Place.{Place}
use Rattle.ti_base.specs.declared.fault.FaultKind.TheVariants.{Fuel, Depth}
use Rattle.ti_base.specs.declared.value.Id.{Id}
use Rattle.ti_base.specs.declared.action.Action.{Action}
use Rattle.ti_base.specs.declared.action.Action.TheVariants as act
use Rattle.ti_base.specs.declared.action.Deposit.{Deposit}
use Rattle.ti_base.specs.declared.entry.Answer.{Answer}
use Rattle.ti_lang.specs.Program.Statements.{numbered_stms}
use Rattle.ti_lang.specs.Program.Classes.{NumberedMethod, ProgramView}
use Rattle.ti_lang.specs.Typing.Singleness.{has_single_result}
use Rattle.ti_lang.specs.Typing.Effects.{doings_of_method, return_acts, has_global_effects}
use Rattle.ti_lang.specs.Meaning.Held.{Held}
use Rattle.ti_lang.specs.Meaning.Comp.{CompResult, Gives, Asks, Fails}
use Rattle.ti_lang.specs.Meaning.Processes.{RunConfig, Variable, Receiver, Nowhere, ContItem, End, Behind, Receive, Frame, frame_of, Wait, Process, all_before, begin}
use Rattle.ti_lang.specs.Meaning.Turns.{Turn}
use Rattle.ti_lang.specs.Meaning.Scoping.{Env, env_of}
use Rattle.ti_lang.specs.Meaning.Moves.{Move, Goes, Turns, Breaks, Continues, Calls, Returns, Meets, Deletes}
use Rattle.ti_lang.specs.Meaning.Performing.{exec_item}
use Rattle.ti_lang.specs.Meaning.Jumps.{has_mark, from_mark, past_mark, variables_at_mark}
use Rattle.ti_lang.specs.Meaning.Steps.{Step, To, At, Ends, Faults, spends, ticks, step_of_result, with_continuation, deliver, most_frames, arrives, delete_wait, value_asked, moves, works, runs, steps, step}
use Rattle.ti_lang.specs.Meaning.Histories.{is_arrival, is_departure, is_end}
use Rattle.ti_lang.proofs.Lemmas.{Giving}
use Rattle.ti_rules.specs.declared.rule.Rule.TheVariants.{S6}
use Rattle.ti_rules.specs.StmtInContext.{standing_in_method}
use Rattle.ti_rules.specs.SingleRules.{effect_refusals, result_refusals}
use Rattle.ti_rules.proofs.Lemmas.{not_refused}
use Rattle.ti_align.specs.SinglePart.{singles}
use Rattle.ti_align.proofs.Alignment.Slice.{is_single_receiver, jump_at, work_acts, kept, frame_part, frame_parts, State, slice, env_in, single_performed, Silent, Arrival, Departure, Over, spent_by, certain, on, handed_single, arrives_at, callee_part, moves_to, moves_on, moves_in, move_of}
use Rattle.ti_align.proofs.Alignment.Slice as sl
use Rattle.ti_align.proofs.Runs.Vars.{true_false, or_false, not_true, not_false, if_true, if_false}
use Rattle.ti_align.proofs.Alignment.Single.{env_part}
use Rattle.ti_align.proofs.Alignment.Fine.{none_both, kept_rule, refusals_in, Deep, OkWorks, Agree, kept_on, kept_out, kept_agrees, kept_append, kept_none, before_ok, before_none}
use Rattle.ti_align.proofs.Alignment.Fitting.{FineMethod, FineMethods, OneFine, at_fine, Fit, work_fits}
use Rattle.ti_align.proofs.Alignment.Jumping.{marked, unmarked, ok_mark, ok_past, plain_continue, plain_break, plain_leaves, single_continue, single_break, single_leaves}
use Rattle.ti_align.proofs.Alignment.Liking.{Like}
use Rattle.ti_align.proofs.Alignment.Moving.{work_single}

-- ---- invariants

-- the statements of a method have effects
abbrev pub parts : ProgramView → NumberedMethod → Bool
parts p m = has_global_effects (return_acts p m) false (doings_of_method p m)

-- the innermost frame is one of a single method, in the middle of something with effects
abbrev pub Leads : ProgramView → List Frame → Type 0
Leads p [] = Unit {0}
Leads p (g ∷ gs) = (g.method.is_single ≡ true) × (parts p g.method ≡ true) × Deep (jump_at p g.method g.left)

-- what it does next has effects
abbrev pub FirstActs : ProgramView → NumberedMethod → List ContItem → Type 0
FirstActs p m [] = Unit {0}
FirstActs p m (w ∷ left) = work_acts p m left w ≡ true

abbrev pub Acts : ProgramView → List Frame → Type 0
Acts p [] = Unit {0}
Acts p (g ∷ gs) = FirstActs p g.method g.left

abbrev pub OkFrame : ProgramView → Frame → List Frame → Type 0
OkFrame p f below =
    FineMethod p f.method × (parts p f.method ≡ false → kept p f.method f.left ≡ []) × (is_single_receiver f.receiver ≡ true → has_single_result f.method ≡ true)
    × (f.method.is_single ≡ true → Leads p below)

abbrev pub OkFrames : ProgramView → List Frame → Type 0
OkFrames p [] = Unit {0}
OkFrames p (f ∷ fs) = OkWorks p f.method f.left × OkFrame p f fs × OkFrames p fs

abbrev pub OkWait : ProgramView → Option Wait → List Frame → Type 0
OkWait p None fs = Unit {0}
OkWait p (Some w) fs = Leads p fs

abbrev pub Ok : RunConfig → Process → Type 0
Ok n q = (q.setting ≡ n) × OkFrames n.program q.frames × OkWait n.program q.wait q.frames × FineMethods n.program n.program.methods

-- ---- kinds

-- What an arrival or a departure means for the slice, which makes the move m: it does the same. So many ticks were spent before.
abbrev pub MovesAt : RunConfig → ℕ → sl.Move → List Frame → Place → Action → (Answer → Process) → Type 0
MovesAt n b m fs at (act.Arrive kind arg given) go =
    (w : Wait) × (w.place ≡ at) × (w.kind ≡ kind) × (w.arg ≡ arg) × ((r : Answer) → (m ≡ Arrival w (slice (go r))) × Ok n (go r) × ((go r).spent ≡ b + 1))
    × Leads n.program fs × Acts n.program fs
MovesAt n b m fs at act.Depart go = (w : Wait) × (next : Answer → State) × (m ≡ Departure w next) × ((r : Answer) → (slice (go r) ≡ next r) × Ok n (go r) × ((go r).spent ≡ b + 1))
MovesAt n b m fs at _ go = ⊥

-- what any other action means for the slice, which stands at s: nothing
abbrev pub KindsAt : RunConfig → ℕ → sl.Move → State → List Frame → Place → Action → (Answer → Process) → Type 0
KindsAt n b m s fs at (act.Arrive kind arg given) go = MovesAt n b m fs at (act.Arrive kind arg given) go
KindsAt n b m s fs at act.Depart go = MovesAt n b m fs at act.Depart go
KindsAt n b m s fs at act.End go = ⊥
KindsAt n b m s fs at _ go = (r : Answer) → (slice (go r) ≡ s) × Ok n (go r) × (b ≤ (go r).spent)

-- the slice goes on to where this process stands
abbrev pub GoesOn : ℕ → sl.Move → Process → Type 0
GoesOn b m q = (timed : Bool) × (m ≡ Silent timed (slice q)) × (q.spent ≡ spent_by timed b)

-- a step leaves the slice alone, or is its own
abbrev pub Kinds : RunConfig → ℕ → sl.Move → State → List Frame → Step → Type 0
Kinds n b m s fs (To q) = (((slice q ≡ s) × (b ≤ q.spent)) ⊎ GoesOn b m q) × Ok n q
Kinds n b m s fs (At request go) = KindsAt n b m s fs request.place request.action go
Kinds n b m s fs (Ends place) = m ≡ Over
Kinds n b m s fs (Faults kind place) = Unit {0}

-- a move for which the slice needs a tick
abbrev pub Costs : sl.Move → Type 0
Costs (Silent timed s) = timed ≡ true
Costs (Arrival wait s) = Unit {0}
Costs (Departure wait go) = Unit {0}
Costs Over = ⊥
Costs (sl.Fault kind place) = Unit {0}

-- a step is the slice's own
abbrev pub Own : RunConfig → ℕ → sl.Move → List Frame → Step → Type 0
Own n b m fs (To q) = GoesOn b m q × Ok n q
Own n b m fs (At request go) = MovesAt n b m fs request.place request.action go
Own n b m fs (Ends place) = m ≡ Over
Own n b m fs (Faults kind place) = ((kind ≡ Fuel) × (n.fuel ≤ b) × Costs m) ⊎ (m ≡ sl.Fault kind place)

pub own_at : (n : RunConfig) (b : ℕ) (m : sl.Move) (s : State) (fs : List Frame) (at : Place) (a : Action) (go : Answer → Process) → MovesAt n b m fs at a go → KindsAt n b m s fs at a go
own_at n b m s fs at (act.Arrive kind arg given) go k = k
own_at n b m s fs at act.Depart go k = k
own_at n b m s fs at _ go k = absurd k

own_kinds : (n : RunConfig) (b : ℕ) (m : sl.Move) (s : State) (fs : List Frame) (st : Step) → Own n b m fs st → Kinds n b m s fs st
own_kinds n b m s fs (To q) k = (inr k.0, k.1)
own_kinds n b m s fs (At request go) k = own_at n b m s fs request.place request.action go k
own_kinds n b m s fs (Ends place) k = k
own_kinds n b m s fs (Faults kind place) k = tt

pub alone_kind : (n : RunConfig) (b : ℕ) (m : sl.Move) (s : State) (fs : List Frame) (at : Place) (a : Action) (go : Answer → Process) → is_arrival a ≡ false → is_departure a ≡ false → is_end a ≡ false
    → ((r : Answer) → (slice (go r) ≡ s) × Ok n (go r) × (b ≤ (go r).spent)) → KindsAt n b m s fs at a go
alone_kind n b m s fs at (act.Arrive kind arg given) go x y z h = absurd (true_false x)
alone_kind n b m s fs at act.Depart go x y z h = absurd (true_false y)
alone_kind n b m s fs at act.End go x y z h = absurd (true_false z)
alone_kind n b m s fs at _ go x y z h = h

-- what work asks for by itself is no collective
abbrev pub Alone : {A : Type 0} → CompResult A → Type 0
Alone (Gives a rest) = Unit {0}
Alone (Asks request) = (is_arrival request.action ≡ false) × (is_departure request.action ≡ false) × (is_end request.action ≡ false)
Alone (Fails kind at) = Unit {0}

kinds_if : (n : RunConfig) (b : ℕ) (m : sl.Move) (s : State) (fs : List Frame) (t : Bool) (x y : Step) → Kinds n b m s fs x → Kinds n b m s fs y → Kinds n b m s fs (if t then x else y)
kinds_if n b m s fs true x y f g = f
kinds_if n b m s fs false x y f g = g

pub kinds_ticks : (n : RunConfig) (b : ℕ) (m : sl.Move) (s : State) (fs : List Frame) (q : Process) (at : Place) (after : Step) → Kinds n b m s fs after → Kinds n b m s fs (ticks q at after)
kinds_ticks n b m s fs q at after k = kinds_if n b m s fs (nat_lt q.spent q.setting.fuel) after _ k tt

-- a step of the slice's own that costs a tick
pub own_ticks : (m : sl.Move) (fs : List Frame) (q : Process) (at : Place) (after : Step) → Costs m → Own q.setting q.spent m fs after → Own q.setting q.spent m fs (ticks q at after)
own_ticks m fs q at after c k = go (nat_lt q.spent q.setting.fuel) refl
  where
    go : (t : Bool) → nat_lt q.spent q.setting.fuel ≡ t → Own q.setting q.spent m fs (if t then after else Faults Fuel at)
    go true h = k
    go false h = inl (refl, ltb-false q.spent q.setting.fuel h, c)

-- ---- frames

abbrev still : List Frame → State
still fs = record { frames = fs; wait = None }

-- a piece of work pushed onto a frame that leads
pub pushed : (p : ProgramView) (r : Receiver) (v : Option Held) (fs : List Frame) → Leads p fs → frame_parts p (deliver r v fs) ≡ handed_single r v (frame_parts p fs)
pushed p r None fs l = sym (same (is_single_receiver r))
  where
    same : (b : Bool) → (if b then frame_parts p fs else frame_parts p fs) ≡ frame_parts p fs
    same true = refl
    same false = refl
pushed p r (Some h) [] l = sym (same (is_single_receiver r))
  where
    same : (b : Bool) → ◌≡◌ {A = List Frame} (if b then [] else []) []
    same true = refl
    same false = refl
pushed p r (Some h) (g ∷ gs) l = by (is_single_receiver r) refl
  where
    by : (b : Bool) → is_single_receiver r ≡ b → frame_parts p (deliver r (Some h) (g ∷ gs)) ≡ handed_single r (Some h) (frame_parts p (g ∷ gs))
    by true e =
        if_true (g.method.is_single) _ _ l.0
        ∙ ap (λ x. record g { this = None; variables = singles g.variables; left = x } ∷ frame_parts p gs) (kept_on p g.method (Receive r h) g.left e)
        ∙ sym (if_true (is_single_receiver r) _ _ e ∙ ap (deliver r (Some h)) (if_true (g.method.is_single) (frame_part p g ∷ frame_parts p gs) (frame_parts p gs) l.0))
    by false e =
        ap (λ x. if g.method.is_single then record g { this = None; variables = singles g.variables; left = x } ∷ frame_parts p gs else frame_parts p gs) (kept_out p g.method (Receive r h) g.left e)
        ∙ sym (if_false (is_single_receiver r) _ _ e)

-- and where it goes into no single variable, onto any frame
pub pushed_plain : (p : ProgramView) (r : Receiver) (v : Option Held) (fs : List Frame) → is_single_receiver r ≡ false → frame_parts p (deliver r v fs) ≡ frame_parts p fs
pushed_plain p r None fs e = refl
pushed_plain p r (Some h) [] e = refl
pushed_plain p r (Some h) (g ∷ gs) e = ap (λ x. if g.method.is_single then record g {
  this = None;
  variables = singles g.variables;
  left = x;
} ∷ frame_parts p gs else frame_parts p gs) (kept_out p g.method (Receive r h) g.left e)

pub pushed_ok : (p : ProgramView) (r : Receiver) (v : Option Held) (fs : List Frame) → (is_single_receiver r ≡ true → Leads p fs) → OkFrames p fs → OkFrames p (deliver r v fs)
pushed_ok p r None fs l o = o
pushed_ok p r (Some h) [] l o = tt
pushed_ok p r (Some h) (g ∷ gs) l o =
    ((tt, (λ e. (l e).2), o.0), (o.1.0, (λ e. by e (is_single_receiver r) refl), o.1.2, o.1.3), o.2)
  where
    by : parts p g.method ≡ false → (b : Bool) → is_single_receiver r ≡ b → kept p g.method (Receive r h ∷ g.left) ≡ []
    by e true z = absurd (true_false (sym (l z).1 ∙ e))
    by e false z = kept_out p g.method (Receive r h) g.left z ∙ o.1.1 e

-- a method without effects returns without
pub parts_none : (p : ProgramView) (m : NumberedMethod) → return_acts p m ≡ false → parts p m ≡ false
parts_none p m e =
    let d = doings_of_method p m in
    ap₂ (λ x y. x || y) (ap₂ (λ x y. x || y) (or_false (has_single_result m) d.acts e).1 (right d.returns (return_acts p m) e)) (right d.jumps false refl)
  where
    right : (a b : Bool) → b ≡ false → (a && b) ≡ false
    right true b h = h
    right false b h = refl

-- a method that isn't single has no effects
pub plain_parts : (p : ProgramView) (m : NumberedMethod) → FineMethod p m → parts p m ≡ true → m.is_single ≡ true
plain_parts p m f h = kept_rule _ _ (not_refused _ S6 m.place (none_both (effect_refusals p m) (result_refusals m.is_single m.result)
    (none_both (effect_refusals p m ++ result_refusals m.is_single m.result) _ f.0).0).0) h

method_all : (p : ProgramView) (m : NumberedMethod) → FineMethod p m → refusals_in p (standing_in_method p m) ≡ []
method_all p m f = (none_both (effect_refusals p m ++ result_refusals m.is_single m.result) _ f.0).1

-- the frame of a call
callee_works : (p : ProgramView) (m : NumberedMethod) → FineMethod p m → OkWorks p m (all_before (numbered_stms m.body) [])
callee_works p m f = subst (OkWorks p m) (append-nil _) (before_ok p m (numbered_stms m.body) [] [] (method_all p m f) (λ _. refl) tt)

callee_kept : (p : ProgramView) (m : NumberedMethod) → parts p m ≡ false → kept p m (all_before (numbered_stms m.body) []) ≡ []
callee_kept p m e = ap (kept p m) (sym (append-nil (all_before (numbered_stms m.body) [])))
    ∙ kept_none p m (all_before (numbered_stms m.body) []) [] (before_none p m (numbered_stms m.body) [] [] e tt)

pub callee_ok : (p : ProgramView) (m : NumberedMethod) (this : Option Id) (ps : List Variable) (r : Receiver) (below : List Frame)
    → FineMethod p m → (is_single_receiver r ≡ true → has_single_result m ≡ true) → (m.is_single ≡ true → Leads p below)
    → OkWorks p m (frame_of m this ps r).left × OkFrame p (frame_of m this ps r) below
callee_ok p m this ps r below f g l = (callee_works p m f, (f, callee_kept p m, g, l))

-- ---- a frame goes on

-- the frames of a process whose frame f runs
abbrev pub Frames : Process → Frame → List Frame → Type 0
Frames q f fs = OkFrame q.setting.program f fs × OkFrames q.setting.program fs × FineMethods q.setting.program q.setting.program.methods

state_of : ProgramView → Frame → List Frame → List Variable → List ContItem → State
state_of p f fs vs ws = record { frames = if f.method.is_single then record f { this = None; variables = vs; left = ws } ∷ frame_parts p fs else frame_parts p fs; wait = None }

pub going_same : (q : Process) (f : Frame) (fs : List Frame) (vs : List Variable) (ws : List ContItem) → singles vs ≡ singles f.variables
    → kept q.setting.program f.method ws ≡ kept q.setting.program f.method f.left → slice (with_continuation q f fs vs ws)
    ≡ still (frame_parts q.setting.program (f ∷ fs))
unfolding state_of
going_same q f fs vs ws e k = ap₂ (λ x y. state_of q.setting.program f fs x y) e k

going_single : (q : Process) (f : Frame) (fs : List Frame) (vs : List Variable) (ws : List ContItem) → f.method.is_single ≡ true
    → slice (with_continuation q f fs vs ws) ≡ on (frame_part q.setting.program f) (frame_parts q.setting.program fs) (singles vs)
    (kept q.setting.program f.method ws)
going_single q f fs vs ws e = rw e refl

-- the slice stays where it was
stays_kind : (q : Process) (f : Frame) (fs above : List Frame) (m : sl.Move) (vs : List Variable) (ws : List ContItem) → slice q
    ≡ still (frame_parts q.setting.program (f ∷ fs)) → Frames q f fs → singles vs ≡ singles f.variables → kept q.setting.program f.method ws
    ≡ kept q.setting.program f.method f.left → OkWorks q.setting.program f.method ws
    → Kinds q.setting q.spent m (slice q) above (To (with_continuation q f fs vs ws)) × Kinds q.setting q.spent m (slice q) above (To (spends (with_continuation q f fs vs ws)))
stays_kind q f fs above m vs ws e o v k w =
    let same = going_same q f fs vs ws v k ∙ sym e in
    let ok : Ok q.setting (with_continuation q f fs vs ws) = (refl, (w, (o.0.0, (λ b. k ∙ o.0.1 b), o.0.2, o.0.3), o.1), tt, o.2) in
    ((inl (same, omega arith), ok), (inl (same, omega arith), ok))

-- it goes the same way
goes_own : (q : Process) (f : Frame) (fs above : List Frame) (vs vs' : List Variable) (ws ws' : List ContItem) → f.method.is_single ≡ true
    → parts q.setting.program f.method ≡ true → Frames q f fs → vs' ≡ singles vs → ws' ≡ kept q.setting.program f.method ws
    → OkWorks q.setting.program f.method ws
    → Own q.setting q.spent (Silent false (on (frame_part q.setting.program f) (frame_parts q.setting.program fs) vs' ws')) above (To (with_continuation q f fs vs ws))
    × Own q.setting q.spent (Silent true (on (frame_part q.setting.program f) (frame_parts q.setting.program fs) vs' ws')) above (To (spends (with_continuation q f fs vs ws)))
goes_own q f fs above vs vs' ws ws' b c o v k w =
    let same : on (frame_part q.setting.program f) (frame_parts q.setting.program fs) vs' ws' ≡ slice (with_continuation q f fs vs ws) =
    ap₂ (λ x y. on (frame_part q.setting.program f) (frame_parts q.setting.program fs) x y) v k ∙ sym (going_single q f fs vs ws b) in
    let ok : Ok q.setting (with_continuation q f fs vs ws) = (refl, (w, (o.0.0, (λ z. absurd (true_false (sym c ∙ z))), o.0.2, o.0.3), o.1), tt, o.2) in
    (((false, ap (Silent false) same, refl), ok), ((true, ap (Silent true) same, refl), ok))

none_true : ◌≡◌ {A = Option Bool} None (Some true) → ⊥
none_true e = cc

-- ---- moves without effects

-- the slice's next move in this frame, where it is one of the slice
abbrev Moving : Process → Frame → List Frame → sl.Move → Type 0
Moving q f fs m = f.method.is_single ≡ true → m ≡ moves_on q.setting (frame_part q.setting.program f) (frame_parts q.setting.program fs) (kept q.setting.program f.method f.left)

returns_plain : (q : Process) (f : Frame) (fs above : List Frame) (m : sl.Move) (v : Option Held) → Moving q f fs m → slice q
    ≡ still (frame_parts q.setting.program (f ∷ fs)) → Frames q f fs → return_acts q.setting.program f.method ≡ false
    → Kinds q.setting q.spent m (slice q) above (moves q f fs [] (Returns v))
returns_plain q f fs above m v hm e o h =
    let p = q.setting.program in
    let r : is_single_receiver f.receiver ≡ false = not_true _ (λ k. true_false (sym (o.0.2 k) ∙ (or_false (has_single_result f.method) _ h).0)) in
    let k : kept p f.method f.left ≡ [] = o.0.1 (parts_none p f.method h) in
    (go (f.method.is_single) refl r k, (refl, pushed_ok p f.receiver v fs (λ z. absurd (true_false (sym z ∙ r))) o.1, tt, o.2))
  where
    go : (b : Bool) → f.method.is_single ≡ b → is_single_receiver f.receiver ≡ false → kept q.setting.program f.method f.left ≡ []
        → ((still (frame_parts q.setting.program (deliver f.receiver v fs)) ≡ slice q) × (q.spent ≤ q.spent))
        ⊎ ((timed : Bool) × (m ≡ Silent timed (still (frame_parts q.setting.program (deliver f.receiver v fs)))) × (q.spent ≡ spent_by timed q.spent))
    go true b r k =
        inr (
          false,
          hm b ∙ ap (λ x. moves_on q.setting (frame_part q.setting.program f) (frame_parts q.setting.program fs) x) k
              ∙ ap (λ x. Silent false (still x)) (sym (pushed_plain q.setting.program f.receiver v fs r)),
          refl,
        )
    go false b r k =
        inl (ap still (pushed_plain q.setting.program f.receiver v fs r) ∙ sym (e ∙ ap still (if_false (f.method.is_single) _ _ b)), omega arith)

pub plain_move : (q : Process) (f : Frame) (fs above : List Frame) (m : sl.Move) (left : List ContItem) (mv : Move) → Moving q f fs m → slice q
    ≡ still (frame_parts q.setting.program (f ∷ fs)) → Frames q f fs → OkWorks q.setting.program f.method left
    → kept q.setting.program f.method left ≡ kept q.setting.program f.method f.left
    → Fit q.setting.program f.method left f.variables false mv → Kinds q.setting q.spent m (slice q) above (moves q f fs left mv)
plain_move q f fs above m left (Goes vs ws) hm e o w k t =
    let z = t.1 refl in
    (stays_kind q f fs above m vs (ws ++ left) e o z.0 (kept_none q.setting.program f.method ws left z.1 ∙ k) t.0).0
plain_move q f fs above m left (Turns at vs ws) hm e o w k t =
    let z = t.1 refl in
    kinds_ticks q.setting q.spent m (slice q) above q at (To (spends (with_continuation q f fs vs (ws ++ left))))
    (stays_kind q f fs above m vs (ws ++ left) e o z.0 (kept_none q.setting.program f.method ws left z.1 ∙ k) t.0).1
plain_move q f fs above m left Breaks hm e o w k t = go (has_mark left) refl
  where
    go : (b : Bool) → has_mark left ≡ b → Kinds q.setting q.spent m (slice q) above
        (To (if b then with_continuation q f fs (variables_at_mark left f.variables) (past_mark left) else with_continuation q f fs f.variables left))
    go true h =
        let p = q.setting.program in
        let j = marked p f.method left h in
        let z : jump_at p f.method left ≡ Some false = j.1 ∙ ap Some (sym (ap (λ x. unwrap_or x false) j.1) ∙ t refl) in
        (stays_kind q f fs above m (variables_at_mark left f.variables) (past_mark left) e o (plain_leaves p f.method left f.variables w z)
        (plain_break p f.method left w z ∙ k) (ok_past p f.method left w)).0
    go false h = (stays_kind q f fs above m f.variables left e o refl k w).0
plain_move q f fs above m left Continues hm e o w k t = go (has_mark left) refl
  where
    go : (b : Bool) → has_mark left ≡ b → Kinds q.setting q.spent m (slice q) above
        (To (if b then with_continuation q f fs (variables_at_mark left f.variables) (from_mark left) else with_continuation q f fs f.variables left))
    go true h =
        let p = q.setting.program in
        let j = marked p f.method left h in
        let z : jump_at p f.method left ≡ Some false = j.1 ∙ ap Some (sym (ap (λ x. unwrap_or x false) j.1) ∙ t refl) in
        (stays_kind q f fs above m (variables_at_mark left f.variables) (from_mark left) e o (plain_leaves p f.method left f.variables w z)
        (plain_continue p f.method left w z ∙ k) (ok_mark p f.method left w)).0
    go false h = (stays_kind q f fs above m f.variables left e o refl k w).0
plain_move q f fs above m left (Calls at c this ps r) hm e o w k t =
    let p = q.setting.program in
    let z = t.2 refl in
    let ok = callee_ok p c this ps r (record f { left = left } ∷ fs) t.0 t.1 (λ y. absurd (true_false (sym y ∙ z.0))) in
    kinds_ticks q.setting q.spent m (slice q) above q at _
    (kinds_if q.setting q.spent m (slice q) above (nat_lt (length (f ∷ fs)) most_frames)
    (To (spends (record q { frames = frame_of c this ps r ∷ record f { left = left } ∷ fs; wait = None; answers = [] }))) _ (
      inl (ap still (if_false (c.is_single) _ _ z.0) ∙ going_same q f fs f.variables left refl k ∙ sym e, omega arith),
      (refl, (ok.0, ok.1, (w, (o.0.0, (λ b. k ∙ o.0.1 b), o.0.2, o.0.3), o.1)), tt, o.2),
    )
    tt)
plain_move q f fs above m left (Returns v) hm e o w k t = returns_plain q f fs above m v hm e o (t refl)
plain_move q f fs above m left (Meets wait given behind) hm e o w k t = absurd (t.1 refl)
plain_move q f fs above m left (Deletes at region) hm e o w k t = absurd (t refl)

-- ---- moves with effects

arrives_own : (q : Process) (f : Frame) (fs above : List Frame) (wait : Wait) (given : Deposit) (left behind : List ContItem)
    → Leads q.setting.program above → Acts q.setting.program above → f.method.is_single ≡ true → parts q.setting.program f.method ≡ true
    → Deep (jump_at q.setting.program f.method left) → Frames q f fs
    → kept q.setting.program f.method (behind ++ left) ≡ kept q.setting.program f.method left
    → jump_at q.setting.program f.method (behind ++ left) ≡ jump_at q.setting.program f.method left
    → OkWorks q.setting.program f.method (behind ++ left)
    → Own q.setting q.spent (arrives_at (record (frame_part q.setting.program f) { left = kept q.setting.program f.method left }
    ∷ frame_parts q.setting.program fs) wait) above (arrives q (record f { left = behind ++ left } ∷ fs) wait given)
arrives_own q f fs above wait given left behind l e b c d o k a w =
    own_ticks _ above q wait.place _ tt (
      wait,
      refl,
      refl,
      refl,
      (λ r. (
        ap (λ x. Arrival wait (record { frames = x; wait = Some wait }))
            (ap (λ x. record (frame_part q.setting.program f) { left = x } ∷ frame_parts q.setting.program fs) (sym k) ∙ sym (if_true (f.method.is_single) _ _ b)),
        (refl, (w, (o.0.0, (λ z. absurd (true_false (sym c ∙ z))), o.0.2, o.0.3), o.1), (b, c, subst Deep (sym a) d), o.2),
        refl,
      )),
      l,
      e,
    )

-- below the frame of a single method there are single ones alone
as_many : (p : ProgramView) (fs : List Frame) → OkFrames p fs → Leads p fs → length (frame_parts p fs) ≡ length fs
as_many p [] o l = refl
as_many p (f ∷ fs) o l = ap length (if_true f.method.is_single (frame_part p f ∷ frame_parts p fs) (frame_parts p fs) l.0) ∙ ap suc (as_many p fs o.2 (o.1.3 l.0))

-- a call that is too deep in the process is too deep in the slice
own_deep : (n : RunConfig) (b : ℕ) (fs : List Frame) (at : Place) (t u : Bool) (s : State) (q : Process) → u ≡ t
    → Own n b (Silent true s) fs (To q) → Own n b (if u then Silent true s else sl.Fault Depth at) fs (if t then To q else Faults Depth at)
own_deep n b fs at true u s q e k = subst (λ m. Own n b m fs (To q)) (sym (if_true u _ _ e)) k
own_deep n b fs at false u s q e k = inr (if_false u _ _ e)

deep_costs : (u : Bool) (s : State) (at : Place) → Costs (if u then Silent true s else sl.Fault Depth at)
deep_costs true s at = refl
deep_costs false s at = tt

pub single_move : (q : Process) (f : Frame) (fs above : List Frame) (left : List ContItem) (mv n : Move) → Leads q.setting.program above
    → Acts q.setting.program above → f.method.is_single ≡ true → parts q.setting.program f.method ≡ true
    → Deep (jump_at q.setting.program f.method left) → Frames q f fs → OkWorks q.setting.program f.method left
    → Agree q.setting.program f.method (kept q.setting.program f.method left) left → Fit q.setting.program f.method left f.variables true mv → Like q.setting.program f.method left mv n
    → Own q.setting q.spent (moves_to q.setting (frame_part q.setting.program f) (frame_parts q.setting.program fs) (kept q.setting.program f.method left) n) above (moves q f fs left mv)
single_move q f fs above left (Goes vs ws) n l e b c d o w a t i =
    subst (λ x. Own q.setting q.spent (moves_to q.setting (frame_part q.setting.program f) (frame_parts q.setting.program fs)
    (kept q.setting.program f.method left) x) above (moves q f fs left (Goes vs ws))) (sym i)
    (goes_own q f fs above vs (singles vs) (ws ++ left) _ b c o refl (kept_append q.setting.program f.method ws left a) t.0).0
single_move q f fs above left (Turns at vs ws) n l e b c d o w a t i =
    subst (λ x. Own q.setting q.spent (moves_to q.setting (frame_part q.setting.program f) (frame_parts q.setting.program fs)
    (kept q.setting.program f.method left) x) above (moves q f fs left (Turns at vs ws))) (sym i)
    (own_ticks _ above q at (To (spends (with_continuation q f fs vs (ws ++ left)))) refl
    (goes_own q f fs above vs (singles vs) (ws ++ left) _ b c o refl (kept_append q.setting.program f.method ws left a) t.0).1)
single_move q f fs above left Breaks n l e b c d o w a t i =
    subst (λ x. Own q.setting q.spent (moves_to q.setting (frame_part q.setting.program f) (frame_parts q.setting.program fs)
    (kept q.setting.program f.method left) x) above (moves q f fs left Breaks)) (sym i.0)
    (go (has_mark left) refl)
  where
    go : (x : Bool) → has_mark left ≡ x → Own q.setting q.spent (Silent false
        (on (frame_part q.setting.program f) (frame_parts q.setting.program fs)
        (variables_at_mark (kept q.setting.program f.method left) (singles f.variables))
        (past_mark (kept q.setting.program f.method left)))) above
        (To (if x then with_continuation q f fs (variables_at_mark left f.variables) (past_mark left) else with_continuation q f fs f.variables left))
    go true h =
        let p = q.setting.program in
        (goes_own q f fs above (variables_at_mark left f.variables) _ (past_mark left) _ b c o
        (single_leaves p f.method left f.variables i.1) (single_break p f.method left i.1) (ok_past p f.method left w)).0
    go false h = absurd (none_true (sym (unmarked q.setting.program f.method left h) ∙ i.1))
single_move q f fs above left Continues n l e b c d o w a t i =
    subst (λ x. Own q.setting q.spent (moves_to q.setting (frame_part q.setting.program f) (frame_parts q.setting.program fs)
    (kept q.setting.program f.method left) x) above (moves q f fs left Continues)) (sym i.0)
    (go (has_mark left) refl)
  where
    go : (x : Bool) → has_mark left ≡ x → Own q.setting q.spent (Silent false
        (on (frame_part q.setting.program f) (frame_parts q.setting.program fs)
        (variables_at_mark (kept q.setting.program f.method left) (singles f.variables))
        (from_mark (kept q.setting.program f.method left)))) above
        (To (if x then with_continuation q f fs (variables_at_mark left f.variables) (from_mark left) else with_continuation q f fs f.variables left))
    go true h =
        let p = q.setting.program in
        (goes_own q f fs above (variables_at_mark left f.variables) _ (from_mark left) _ b c o
        (single_leaves p f.method left f.variables i.1) (single_continue p f.method left i.1) (ok_mark p f.method left w)).0
    go false h = absurd (none_true (sym (unmarked q.setting.program f.method left h) ∙ i.1))
single_move q f fs above left (Calls at k this ps r) n l e b c d o w a t i =
    let p = q.setting.program in
    let ok = callee_ok p k this ps r (record f { left = left } ∷ fs) t.0 t.1 (λ _. (b, c, d)) in
    subst (λ x. Own q.setting q.spent (moves_to q.setting (frame_part p f) (frame_parts p fs) (kept p f.method left) x) above (moves q f fs left (Calls at k this ps r))) (sym i.0)
    (own_ticks _ above q at _ (deep_costs (nat_lt (length (frame_part p f ∷ frame_parts p fs)) most_frames) _ at)
    (own_deep q.setting q.spent above at (nat_lt (length (f ∷ fs)) most_frames) (nat_lt (length (frame_part p f ∷ frame_parts p fs)) most_frames) _
    (spends (record q { frames = frame_of k this ps r ∷ record f { left = left } ∷ fs; wait = None; answers = [] }))
    (ap (λ x. nat_lt (suc x) most_frames) (as_many p fs o.1 (o.0.3 b))) (
      (
        true,
        ap (λ y. Silent true (still (callee_part p k (singles ps) r ∷ y))) (sym (if_true (f.method.is_single) _ _ b)) ∙ ap (λ x. Silent true (still x)) (sym (if_true (k.is_single) _ _ i.1)),
        refl,
      ),
      (refl, (ok.0, ok.1, (w, (o.0.0, (λ z. absurd (true_false (sym c ∙ z))), o.0.2, o.0.3), o.1)), tt, o.2),
    )))
single_move q f fs above left (Returns v) n l e b c d o w a t i =
    ((false, by i, refl), (refl, pushed_ok q.setting.program f.receiver v fs (λ z. o.0.3 b) o.1, tt, o.2))
  where
    by : (n ≡ Returns v) ⊎ ((n ≡ Returns None) × (has_single_result f.method ≡ false))
        → moves_to q.setting (frame_part q.setting.program f) (frame_parts q.setting.program fs) (kept q.setting.program f.method left) n
        ≡ Silent false (still (frame_parts q.setting.program (deliver f.receiver v fs)))
    by (inl z) =
        ap (moves_to q.setting (frame_part q.setting.program f) (frame_parts q.setting.program fs) (kept q.setting.program f.method left)) z
        ∙ ap (λ x. Silent false (still x)) (sym (pushed q.setting.program f.receiver v fs (o.0.3 b)))
    by (inr z) =
        let r : is_single_receiver f.receiver ≡ false = not_true _ (λ k. true_false (sym (o.0.2 k) ∙ z.1)) in
        ap (moves_to q.setting (frame_part q.setting.program f) (frame_parts q.setting.program fs) (kept q.setting.program f.method left)) z.0
        ∙ ap (λ x. Silent false (still x)) (if_false (is_single_receiver f.receiver) _ _ r ∙ sym (pushed_plain q.setting.program f.receiver v fs r))
single_move q f fs above left (Meets wait given behind) n l e b c d o w a t i =
    subst (λ x. Own q.setting q.spent (moves_to q.setting (frame_part q.setting.program f) (frame_parts q.setting.program fs)
    (kept q.setting.program f.method left) x) above (moves q f fs left (Meets wait given behind))) (sym i.1)
    (arrives_own q f fs above wait given left behind l e b c d o (kept_none q.setting.program f.method behind left i.2) i.3 t.0)
single_move q f fs above left (Deletes at region) n l e b c d o w a t i =
    subst (λ x. Own q.setting q.spent (moves_to q.setting (frame_part q.setting.program f) (frame_parts q.setting.program fs)
    (kept q.setting.program f.method left) x) above (moves q f fs left (Deletes at region))) (sym i)
    (arrives_own q f fs above (delete_wait at region) _ left [] l e b c d o refl refl w)

-- ---- steps

valued_plain : (q : Process) (above : List Frame) (m : sl.Move) (P : Move → Type 0) (g : CompResult Move) (go : Move → Step) → Ok q.setting q
    → Alone g → Giving P g → ((mv : Move) → P mv → Kinds q.setting q.spent m (slice q) above (go mv))
    → Kinds q.setting q.spent m (slice q) above (step_of_result q g go)
valued_plain q above m P (Gives mv rest) go o a h k = k mv h
valued_plain q above m P (Asks request) go o a h k =
    kinds_ticks q.setting q.spent m (slice q) above q request.place _ (alone_kind q.setting q.spent m (slice q) above request.place request.action _ a.0 a.1 a.2 (λ r. (refl, o, omega arith)))
valued_plain q above m P (Fails kind at) go o a h k = tt

valued_single : (q : Process) (above : List Frame) (P : Move → Type 0) (R : Move → Move → Type 0) (g g' : CompResult Move) (go : Move → Step)
    (go' : Move → sl.Move) → Ok q.setting q → Alone g → Giving P g → Giving (λ mv. (n : Move) × (g' ≡ Gives n []) × R mv n) g
    → ((mv n : Move) → P mv → R mv n → Kinds q.setting q.spent (go' n) (slice q) above (go mv)) → Kinds q.setting q.spent (certain g' go') (slice q) above (step_of_result q g go)
valued_single q above P R (Gives mv rest) g' go go' o a h x k = subst (λ z. Kinds q.setting q.spent (certain z go') (slice q) above (go mv)) (sym x.1) (k mv x.0 h x.2)
valued_single q above P R (Asks request) g' go go' o a h x k =
    kinds_ticks q.setting q.spent _ (slice q) above q request.place _ (alone_kind q.setting q.spent _ (slice q) above request.place request.action _ a.0 a.1 a.2 (λ r. (refl, o, omega arith)))
valued_single q above P R (Fails kind at) g' go go' o a h x k = tt

pub nil_cons : (w : ContItem) (ws : List ContItem) → w ∷ ws ≡ [] → ⊥
nil_cons w ws e = cc

pub deep_on : (p : ProgramView) (m : NumberedMethod) (w : ContItem) (left : List ContItem) → work_acts p m left w ≡ true → Deep (jump_at p m left) → Deep (jump_at p m (w ∷ left))
deep_on p m (Behind loop) left h d = h
deep_on p m _ left h d = d

-- where the slice evaluates a frame's next work
pub env_same : (q : Process) (f : Frame) (left : List ContItem) → Agree q.setting.program f.method (kept q.setting.program f.method left) left
    → env_in q.setting (frame_part q.setting.program f) (kept q.setting.program f.method left) ≡ env_part (env_of q f left)
env_same q f left a = ap₂ (λ (t : List Turn) (d : ℕ → ℕ). record (env_part (env_of q f left)) { turns = t; dims = d }) a.1 a.2

module _ (alone : (env : Env) (w : ContItem) (rest : List Answer) → Alone (exec_item env w rest)) where
  single_work : (q : Process) (f : Frame) (fs : List Frame) (w : ContItem) (left : List ContItem) → f.left ≡ w ∷ left → q.frames ≡ f ∷ fs
      → Ok q.setting q → OkWorks q.setting.program f.method (w ∷ left) → Frames q f fs → work_acts q.setting.program f.method left w ≡ true
      → Kinds q.setting q.spent (moves_on q.setting (frame_part q.setting.program f) (frame_parts q.setting.program fs)
      (w ∷ kept q.setting.program f.method left)) (slice q) (f ∷ fs) (works q f fs (w ∷ left))
  single_work q f fs w left z y ok x o h =
      let p = q.setting.program in
      let d = x.1 h in
      let c : parts p f.method ≡ true = not_false _ (λ k. nil_cons w (kept p f.method left) (sym (kept_on p f.method w left h) ∙ ap (kept p f.method) (sym z) ∙ o.0.1 k)) in
      let b : f.method.is_single ≡ true = plain_parts p f.method o.0.0 c in
      let a = kept_agrees p f.method left x.2 d in
      let l : Leads p (f ∷ fs) = (b, c, subst (λ i. Deep (jump_at p f.method i)) (sym z) (deep_on p f.method w left h d)) in
      let e : Acts p (f ∷ fs) = subst (FirstActs p f.method) (sym z) h in
      subst (λ i. Kinds q.setting q.spent (certain (single_performed i w [])
      (moves_to q.setting (frame_part p f) (frame_parts p fs) (kept p f.method left))) (slice q) (f ∷ fs) (works q f fs (w ∷ left)))
      (sym (env_same q f left a))
      (valued_single q (f ∷ fs) (Fit p f.method left f.variables true) (Like p f.method left) (exec_item (env_of q f left) w q.answers)
      (single_performed (env_part (env_of q f left)) w []) (moves q f fs left) _ ok (alone (env_of q f left) w q.answers)
      (subst (λ i. Giving (Fit p f.method left f.variables i) (exec_item (env_of q f left) w q.answers)) h (work_fits q f left w q.answers x o.2))
      (work_single q f left w q.answers x o.2 h)
      (λ mv n t i. own_kinds q.setting q.spent _ (slice q) (f ∷ fs) _ (single_move q f fs (f ∷ fs) left mv n l e b c d o x.2 a t i)))

  plain_work : (q : Process) (f : Frame) (fs : List Frame) (m : sl.Move) (w : ContItem) (left : List ContItem) → f.left ≡ w ∷ left → Moving q f fs m
      → slice q ≡ still (frame_parts q.setting.program (f ∷ fs)) → Ok q.setting q → OkWorks q.setting.program f.method (w ∷ left)
      → Frames q f fs → work_acts q.setting.program f.method left w ≡ false
      → Kinds q.setting q.spent m (slice q) (f ∷ fs) (works q f fs (w ∷ left))
  plain_work q f fs m w left z hm e ok x o h =
      let p = q.setting.program in
      valued_plain q (f ∷ fs) m (Fit p f.method left f.variables false) (exec_item (env_of q f left) w q.answers) (moves q f fs left) ok (alone (env_of q f left) w q.answers)
      (subst (λ i. Giving (Fit p f.method left f.variables i) (exec_item (env_of q f left) w q.answers)) h (work_fits q f left w q.answers x o.2))
      (λ mv t. plain_move q f fs (f ∷ fs) m left mv hm e o x.2 (sym (kept_out p f.method w left h) ∙ ap (kept p f.method) (sym z)) t)

  -- the frame's next work, in a frame of a single method and in another
  frame_kind : (q : Process) (f : Frame) (fs : List Frame) (ws : List ContItem) → f.left ≡ ws → q.frames ≡ f ∷ fs → slice q
      ≡ still (frame_parts q.setting.program (f ∷ fs)) → Ok q.setting q → OkWorks q.setting.program f.method ws → Frames q f fs
      → Kinds q.setting q.spent (moves_in q.setting (frame_parts q.setting.program (f ∷ fs))) (slice q) (f ∷ fs) (works q f fs ws)
  frame_kind q f fs ws z y e ok x o = go (f.method.is_single) refl ws z x
    where
      p : ProgramView
      p = q.setting.program

      moving : (b : Bool) → f.method.is_single ≡ b → Moving q f fs (moves_in q.setting (frame_parts q.setting.program (f ∷ fs)))
      moving b h s = ap (moves_in q.setting) (if_true (f.method.is_single) _ _ s)

      go : (b : Bool) → f.method.is_single ≡ b → (ws : List ContItem) → f.left ≡ ws → OkWorks q.setting.program f.method ws
          → Kinds q.setting q.spent (moves_in q.setting (frame_parts q.setting.program (f ∷ fs))) (slice q) (f ∷ fs) (works q f fs ws)
      go true b [] z x =
          subst (λ i. Kinds q.setting q.spent (moves_in q.setting i) (slice q) (f ∷ fs) (works q f fs []))
          (sym (if_true (f.method.is_single) (frame_part q.setting.program f ∷ frame_parts q.setting.program fs)
          (frame_parts q.setting.program fs) b))
          (inr (false, ap (λ i. moves_on q.setting (frame_part q.setting.program f) (frame_parts q.setting.program fs) (kept q.setting.program f.method i)) z, refl), (refl, o.1, tt, o.2))
      go false b [] z x = (inl (sym (e ∙ ap still (if_false (f.method.is_single) _ _ b)), omega arith), (refl, o.1, tt, o.2))
      go b s (w ∷ left) z x = by_work (work_acts q.setting.program f.method left w) refl
        where
          by_work : (d : Bool) → work_acts q.setting.program f.method left w ≡ d
              → Kinds q.setting q.spent (moves_in q.setting (frame_parts q.setting.program (f ∷ fs))) (slice q) (f ∷ fs)
              (works q f fs (w ∷ left))
          by_work true h =
              let c : parts q.setting.program f.method ≡ true = not_false _
              (λ k. nil_cons w (kept q.setting.program f.method left) (sym (kept_on q.setting.program f.method w left h)
              ∙ ap (kept q.setting.program f.method) (sym z) ∙ o.0.1 k)) in
              let i : f.method.is_single ≡ true = plain_parts q.setting.program f.method o.0.0 c in
              subst (λ j. Kinds q.setting q.spent j (slice q) (f ∷ fs) (works q f fs (w ∷ left)))
              (sym (ap (moves_in q.setting) (if_true (f.method.is_single) _ _ i)
              ∙ ap (λ j. moves_on q.setting (frame_part q.setting.program f) (frame_parts q.setting.program fs)
              (kept q.setting.program f.method j)) z ∙ ap (moves_on q.setting (frame_part q.setting.program f)
              (frame_parts q.setting.program fs)) (kept_on q.setting.program f.method w left h)))
              (single_work q f fs w left z y ok x o h)
          by_work false h = plain_work q f fs _ w left z (moving b s) e ok x o h

  frames_kind : (q : Process) (fs : List Frame) → q.frames ≡ fs → slice q ≡ still (frame_parts q.setting.program fs) → Ok q.setting q
      → OkFrames q.setting.program fs → FineMethods q.setting.program q.setting.program.methods
      → Kinds q.setting q.spent (moves_in q.setting (frame_parts q.setting.program fs)) (slice q) fs (runs q fs)
  frames_kind q [] y e ok x g = refl
  frames_kind q (f ∷ fs) y e ok x g = frame_kind q f fs f.left refl y e ok x.0 (x.1, x.2, g)

  wait_kind : (q : Process) (w : Option Wait) → q.wait ≡ w → Ok q.setting q → OkWait q.setting.program w q.frames
      → Kinds q.setting q.spent (sl.moves q.setting (frame_parts q.setting.program q.frames) w) (slice q) q.frames (steps q w)
  wait_kind q None e ok x = frames_kind q q.frames refl (ap (λ i. record { frames = frame_parts q.setting.program q.frames; wait = i }) e) ok ok.1 ok.3
  wait_kind q (Some w) e ok x =
      kinds_ticks q.setting q.spent _ (slice q) q.frames q w.place _ (
        w,
        (λ r. still (handed_single w.receiver (value_asked w.wanted r) (frame_parts q.setting.program q.frames))),
        refl,
        λ r. (
          ap still (pushed q.setting.program w.receiver (value_asked w.wanted r) q.frames x),
          (refl, pushed_ok q.setting.program w.receiver (value_asked w.wanted r) q.frames (λ _. x) ok.1, tt, ok.3),
          refl,
        ),
      )

  -- each step is of one of these kinds
  pub kinds : (n : RunConfig) (q : Process) → Ok n q → Kinds n q.spent (move_of n (slice q)) (slice q) q.frames (step q)
  kinds n q o =
      let f = subst (λ (k : RunConfig). OkFrames k.program q.frames) (sym o.0) o.1 in
      let w = subst (λ (k : RunConfig). OkWait k.program q.wait q.frames) (sym o.0) o.2 in
      let g = subst (λ (k : RunConfig). FineMethods k.program k.program.methods) (sym o.0) o.3 in
      subst (λ k. Kinds k q.spent (move_of k (slice q)) (slice q) q.frames (step q)) o.0 (wait_kind q q.wait refl (refl, f, w, g) w)

-- ---- the beginning

main_ok : (p : ProgramView) (o : Option NumberedMethod) → OneFine p o → OkFrames p (option_map_or (λ (main : NumberedMethod). frame_of main None [] (Nowhere) ∷ []) o [])
main_ok p None f = tt
main_ok p (Some m) f = let k = callee_ok p m None [] Nowhere [] f (λ d. absurd (true_false (sym d))) (λ _. tt) in (k.0, k.1, tt)

pub begin_ok : (n : RunConfig) (i : ℕ) → FineMethods n.program n.program.methods → Ok n (begin n i)
begin_ok n i f = (refl, main_ok n.program (slice_get n.program.methods n.program.main) (at_fine n.program n.program.methods n.program.main f), tt, f)
