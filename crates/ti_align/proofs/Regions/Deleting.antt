-- Steps hand regions on: the region that a process deletes has a number above 0.
use Rattle.std.proofs.Common.{◌≡◌, ℕ, nat_lt, length, Bool, true, false, if◌then◌else◌, slice_get, Option, Some, None, List, [], ◌∷◌, refl, ap, sym, ◌∙◌, subst}
use Rattle.std.specs.Option.{option_map_or}
use Rattle.ti_base.specs.declared.place.Place.{Place}
use Rattle.ti_base.specs.declared.fault.FaultKind.TheVariants.{Fuel, Depth}
use Rattle.ti_base.specs.declared.action.Action.{Action}
use Rattle.ti_base.specs.declared.action.Action.TheVariants as act
use Rattle.ti_base.specs.declared.action.CollKind.{CollKind}
use Rattle.ti_base.specs.declared.action.CollKind.TheVariants as coll
use Rattle.ti_base.specs.declared.entry.Answer.{Answer}
use Rattle.ti_lang.specs.Program.Statements.{numbered_stms}
use Rattle.ti_lang.specs.Program.Classes.{NumberedMethod, ProgramView}
use Rattle.ti_lang.specs.Typing.Declared.{result_type}
use Rattle.ti_lang.specs.Meaning.Held.{Held}
use Rattle.ti_lang.specs.Meaning.Comp.{Wanted, ToBeDone, ValueOf, NewThing, CompResult, Gives, Asks, Fails, told}
use Rattle.ti_lang.specs.Meaning.Processes.{RunConfig, Receiver, Nowhere, ContItem, Frame, frame_of, Wait, Process, begin}
use Rattle.ti_lang.specs.Meaning.Scoping.{env_of}
use Rattle.ti_lang.specs.Meaning.Moves.{Move, Goes, Turns, Breaks, Continues, Calls, Returns, Meets, Deletes}
use Rattle.ti_lang.specs.Meaning.Performing.{exec_item}
use Rattle.ti_lang.specs.Meaning.Jumps.{has_mark}
use Rattle.ti_lang.specs.Meaning.Steps.{Step, To, At, Ends, Faults, ticks, step_of_result, deliver, most_frames, value_asked, moves, works, runs, steps, step}
use Rattle.ti_lang.specs.Meaning.Histories.{is_arrival, is_departure}
use Rattle.ti_lang.specs.Meaning.NextStep.{Reaches, here, later}
use Rattle.ti_lang.proofs.Lemmas.{Giving}
use Rattle.ti_rules.specs.InitialTypes.{is_region_type}
use Rattle.ti_align.proofs.Runs.Vars.{true_false}
use Rattle.ti_align.proofs.Alignment.Stepping.{Alone}
use Rattle.ti_align.proofs.Runs.Asks.{work_alone}
use Rattle.ti_align.proofs.Scope.Keeping.{ProgramStands, WaitStands, Keeps, step_keeps}
use Rattle.ti_align.specs.Scoped.{FirstUses, FramesUse}
use Rattle.ti_align.proofs.Scope.Using.{frames_use}
use Rattle.ti_align.proofs.Regions.Regional.{Good, GoodAs, AllGood, mark_good, received_type, ReceiverSuits, WorksAreSuch, such_both, such_before, such_from, such_past, MethodsAreSuch}
use Rattle.ti_align.proofs.Regions.Handing.{MoveIsSuch, OneIsSuch, such_at, performed_good}

-- ---- processes

abbrev pub FrameIsSuch : ProgramView → Frame → Type 0
FrameIsSuch p f =
    AllGood f.variables × WorksAreSuch p f.method f.left × (is_region_type (received_type f.receiver) ≡ true → is_region_type (result_type f.method) ≡ true) × ReceiverSuits f.receiver

abbrev pub AllSuch : ProgramView → List Frame → Type 0
AllSuch p [] = Unit {0}
AllSuch p (f ∷ fs) = FrameIsSuch p f × AllSuch p fs

-- where a region is waited for, it is made
abbrev pub WaitIsSuch : Option CollKind → Option Wait → Type 0
WaitIsSuch last None = Unit {0}
WaitIsSuch last (Some w) = (last ≡ Some w.kind) × (is_region_type (received_type w.receiver) ≡ true → w.kind ≡ coll.MakeRegion) × ReceiverSuits w.receiver

-- a process of this setting, whose last arrival was of this kind
abbrev pub Hands : RunConfig → Option CollKind → Process → Type 0
Hands s last q = (q.setting ≡ s) × AllSuch s.program q.frames × WaitIsSuch last q.wait

-- a region is deleted that has a number above 0
abbrev pub DeletesSome : CollKind → Option ℕ → Type 0
DeletesSome kind arg = kind ≡ coll.DeleteRegion → (n : ℕ) × (arg ≡ Some n) × (n ≡ 0 → ⊥)

abbrev pub ActsSuch : RunConfig → Option CollKind → Action → (Answer → Process) → Type 0
ActsSuch s last (act.Arrive kind arg given) go = DeletesSome kind arg × ((r : Answer) → Hands s (Some kind) (go r))
ActsSuch s last act.Depart go = (r : Answer) → (last ≡ Some coll.MakeRegion → Good (told r)) → Hands s last (go r)
ActsSuch s last a go = (r : Answer) → Hands s last (go r)

abbrev pub StepSuch : RunConfig → Option CollKind → Step → Type 0
StepSuch s last (To q) = Hands s last q
StepSuch s last (At request go) = ActsSuch s last request.action go
StepSuch s last (Ends place) = Unit {0}
StepSuch s last (Faults kind place) = Unit {0}

own_such : (s : RunConfig) (last : Option CollKind) (a : Action) (go : Answer → Process) → is_arrival a ≡ false → is_departure a ≡ false → ((r : Answer) → Hands s last (go r)) → ActsSuch s last a go
own_such s last (act.Arrive kind arg given) go x y h = absurd (true_false x)
own_such s last act.Depart go x y h = absurd (true_false y)
own_such s last _ go x y h = h

if_such : (s : RunConfig) (last : Option CollKind) (b : Bool) (x y : Step) → StepSuch s last x → StepSuch s last y → StepSuch s last (if b then x else y)
if_such s last true x y f g = f
if_such s last false x y f g = g

ticks_such : (s : RunConfig) (last : Option CollKind) (q : Process) (at : Place) (after : Step) → StepSuch s last after → StepSuch s last (ticks q at after)
ticks_such s last q at after h = if_such s last (nat_lt q.spent q.setting.fuel) after (Faults Fuel at) h tt

jump_such : (s : RunConfig) (last : Option CollKind) (b : Bool) (x y : Process) → Hands s last x → Hands s last y → StepSuch s last (To (if b then x else y))
jump_such s last true x y f g = f
jump_such s last false x y f g = g

handed_such : (p : ProgramView) (r : Receiver) (v : Option Held) (fs : List Frame) → ReceiverSuits r
    → ((h : Held) → v ≡ Some h → GoodAs (received_type r) h) → AllSuch p fs → AllSuch p (deliver r v fs)
handed_such p r None fs k g f = f
handed_such p r (Some h) [] k g f = tt
handed_such p r (Some h) (x ∷ fs) k g f = ((f.0.0, ((g h refl, k), f.0.1), f.0.2, f.0.3), f.1)

module _ (q : Process) (last : Option CollKind) (methods : MethodsAreSuch q.setting.program q.setting.program.methods) where
  abbrev p : ProgramView
  p = q.setting.program

  module _ (f : Frame) (fs : List Frame) (left : List ContItem) (good : AllGood f.variables) (rest : WorksAreSuch q.setting.program f.method left)
      (caller : is_region_type (received_type f.receiver) ≡ true → is_region_type (result_type f.method) ≡ true) (suits : ReceiverSuits f.receiver) (others : AllSuch q.setting.program fs) where
    same_held : (h k : Held) → Some h ≡ Some k → h ≡ k
    same_held h k z = cc

    none_held : (h : Held) → ◌≡◌ {A = Option Held} None (Some h) → ⊥
    none_held h z = cc

    moves_such : (mv : Move) → MoveIsSuch q.setting.program f.method mv → StepSuch q.setting last (moves q f fs left mv)
    moves_such (Goes vs ws) k = (refl, ((k.0, such_both p f.method ws left k.1 rest, caller, suits), others), tt)
    moves_such (Turns at vs ws) k = ticks_such q.setting last q at _ (refl, ((k.0, such_both p f.method ws left k.1 rest, caller, suits), others), tt)
    moves_such Breaks k =
        jump_such q.setting last (has_mark left) _ _ (
          refl,
          (
            (
              mark_good left f.variables good,
              such_past p f.method left rest,
              caller,
              suits,
            ),
            others,
          ),
          tt,
        ) (refl, ((good, rest, caller, suits), others), tt)
    moves_such Continues k =
        jump_such q.setting last (has_mark left) _ _ (
          refl,
          (
            (
              mark_good left f.variables good,
              such_from p f.method left rest,
              caller,
              suits,
            ),
            others,
          ),
          tt,
        ) (refl, ((good, rest, caller, suits), others), tt)
    moves_such (Calls at c this ps r) k =
        ticks_such q.setting last q at _ (if_such q.setting last (nat_lt (length (f ∷ fs)) most_frames) _ (Faults Depth at)
        (refl, ((k.0, such_before p c (numbered_stms c.body) [] k.3 tt, k.1, k.2), ((good, rest, caller, suits), others)), tt) tt)
    moves_such (Returns None) k = (refl, handed_such p f.receiver None fs suits (λ h z. absurd (none_held h z)) others, tt)
    moves_such (Returns (Some h)) k = (refl, handed_such p f.receiver (Some h) fs suits (λ x z y. subst Good (same_held h x z) (k (caller y))) others, tt)
    moves_such (Meets wait given behind) k =
        ticks_such q.setting last q wait.place _ ((λ z. absurd (k.3 z)), λ r. (refl, ((good, such_both p f.method behind left k.0 rest, caller, suits), others), (refl, k.1, k.2)))
    moves_such (Deletes at region) k =
        ticks_such q.setting last q at _ ((λ z. (region, refl, k)), λ r. (refl, ((good, rest, caller, suits), others), (refl, (λ z. absurd (true_false (sym z))), tt)))

  valued_such : (g : CompResult Move) (go : Move → Step) → Hands q.setting last q → Alone g → (Q : Move → Type 0) → Giving Q g
      → ((mv : Move) → Q mv → StepSuch q.setting last (go mv)) → StepSuch q.setting last (step_of_result q g go)
  valued_such (Gives mv rest) go h a Q k f = f mv k
  valued_such (Asks request) go h a Q k f = ticks_such q.setting last q request.place _ (own_such q.setting last request.action _ a.0 a.1 (λ r. (refl, h.1, h.2)))
  valued_such (Fails kind at) go h a Q k f = tt

  works_such : (f : Frame) (fs : List Frame) (ws : List ContItem) → Hands q.setting last q → FirstUses f.variables ws → AllGood f.variables → WorksAreSuch q.setting.program f.method ws
      → (is_region_type (received_type f.receiver) ≡ true → is_region_type (result_type f.method) ≡ true) → ReceiverSuits f.receiver → AllSuch q.setting.program fs → StepSuch q.setting last (works q f fs ws)
  works_such f fs [] h u g k c r o = moves_such f fs [] g tt c r o (Returns None) tt
  works_such f fs (w ∷ left) h u g k c r o =
      valued_such (exec_item (env_of q f left) w q.answers) (moves q f fs left) h (work_alone (env_of q f left) w q.answers) (MoveIsSuch q.setting.program f.method)
      (performed_good (env_of q f left) methods g w q.answers u k.0) (moves_such f fs left g k.1 c r o)

  runs_such : (fs : List Frame) → Hands q.setting last q → FramesUse fs → AllSuch q.setting.program fs → StepSuch q.setting last (runs q fs)
  runs_such [] h u k = tt
  runs_such (f ∷ fs) h u k = works_such f fs f.left h u k.0.0 k.0.1 k.0.2 k.0.3 k.1

  value_of : (w : Wanted) (r : Answer) (h : Held) → value_asked w r ≡ Some h → told r ≡ h
  value_of ToBeDone r h z = absurd (none_held h z)
    where
      none_held : (h : Held) → ◌≡◌ {A = Option Held} None (Some h) → ⊥
      none_held h z = cc
  value_of (ValueOf type) r h z = same_held (told r) h z
    where
      same_held : (h k : Held) → Some h ≡ Some k → h ≡ k
      same_held h k z = cc
  value_of (NewThing type) r h z = same_held (told r) h z
    where
      same_held : (h k : Held) → Some h ≡ Some k → h ≡ k
      same_held h k z = cc

  steps_such : (wait : Option Wait) → q.wait ≡ wait → Hands q.setting last q → WaitStands q.setting.program wait q.frames → WaitIsSuch last wait → StepSuch q.setting last (steps q wait)
  steps_such None z h k w = runs_such q.frames h (frames_use q.setting.program q.frames k) h.1
  steps_such (Some x) z h k w =
      ticks_such q.setting last q x.place _ (λ r g. (
        refl,
        handed_such p x.receiver (value_asked x.wanted r) q.frames w.2
            (λ y e i. subst Good (value_of x.wanted r y e) (g (w.0 ∙ ap Some (w.1 i)))) h.1,
        tt,
      ))

pub step_such : (s : RunConfig) (last : Option CollKind) (q : Process) (st : Step) → MethodsAreSuch s.program s.program.methods → Keeps s q → Hands s last q → step q ≡ st → StepSuch s last st
step_such s last q st m k h z =
    subst (StepSuch s last) z
    (subst (λ (t : RunConfig). StepSuch t last (step q)) h.0
    (steps_such q last (subst (λ (t : RunConfig). MethodsAreSuch t.program t.program.methods) (sym h.0) m) q.wait refl
    (refl, subst (λ (t : RunConfig). AllSuch t.program q.frames) (sym h.0) h.1, h.2)
    (subst (λ (t : RunConfig). WaitStands t.program q.wait q.frames) (sym k.0) k.1) h.2))

-- ---- silent steps

pub reaches_hands : (s : RunConfig) (last : Option CollKind) (p q : Process) → ProgramStands s.program
    → MethodsAreSuch s.program s.program.methods → Keeps s p → Hands s last p → Reaches p q → Hands s last q
reaches_hands s last p q g m k h here = h
reaches_hands s last p r g m k h (later {q = q} e x) = reaches_hands s last q r g m (step_keeps s p (To q) g k e) (step_such s last p (To q) m k h e) x

pub begin_hands : (s : RunConfig) (i : ℕ) → MethodsAreSuch s.program s.program.methods → Hands s None (begin s i)
begin_hands s i m = (refl, by (slice_get s.program.methods s.program.main) (such_at s.program s.program.methods s.program.main m), tt)
  where
    by : (o : Option NumberedMethod) → OneIsSuch s.program o → AllSuch s.program (option_map_or (λ (main : NumberedMethod). frame_of main None [] Nowhere ∷ []) o [])
    by None k = tt
    by (Some c) k = ((tt, such_before s.program c (numbered_stms c.body) [] k tt, (λ z. absurd (true_false (sym z))), tt), tt)
