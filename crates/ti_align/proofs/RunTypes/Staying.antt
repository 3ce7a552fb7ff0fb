-- What fits the types stays so while what is there grows.
use Rattle.std.proofs.Common.{Option, Some, None, List, [], ◌∷◌, ◌++◌}
use Rattle.ti_base.specs.declared.value.Id.{Id}
use Rattle.ti_base.specs.declared.action.Action.{Action}
use Rattle.ti_base.specs.declared.action.Action.TheVariants as act
use Rattle.ti_base.specs.declared.action.CollKind.{CollKind}
use Rattle.ti_base.specs.declared.action.CollKind.TheVariants as coll
use Rattle.ti_base.specs.declared.action.Deposit.{Deposit}
use Rattle.ti_base.specs.declared.action.Deposit.TheVariants as deposit
use Rattle.ti_lang.specs.Program.Types.{ValueType}
use Rattle.ti_lang.specs.Program.Classes.{NumberedMethod, ProgramView}
use Rattle.ti_lang.specs.Program.Scope.{ScopeContents, method_scope}
use Rattle.ti_lang.specs.Typing.Declared.{result_type}
use Rattle.ti_lang.specs.Typing.Kinds.{is_local, element_of}
use Rattle.ti_lang.specs.Meaning.Held.{Plain}
use Rattle.ti_lang.specs.Meaning.Comp.{Wanted, Comp}
use Rattle.ti_lang.specs.Meaning.Processes.{ContItem, Do, End, Before, Behind, Receive, CopyAll, TakeAll, Frame, Wait, Process}
use Rattle.ti_lang.specs.Meaning.Scoping.{env_of}
use Rattle.ti_lang.specs.Meaning.Moves.{Move, Goes, Turns, Breaks, Continues, Calls, Returns, Meets, Deletes}
use Rattle.ti_lang.specs.Meaning.Performing.{exec_item}
use Rattle.ti_align.specs.HeapTyping.{HeapTyping, with_owner, Grows, ThisFits, DepositFits}
use Rattle.ti_align.specs.Existing.{OperandsExist, SuitsWanted}
use Rattle.ti_align.specs.Mirrors.Sound.{Sound, value, fault, asks}
use Rattle.ti_align.specs.Given.{scope_over, contribution_type, IsOfRound}
use Rattle.ti_align.specs.Mirrors.ContItem.{taken_type, WorkFits, WorksFit, MoveFits}
use Rattle.ti_align.specs.Mirrors.Processes.{FrameFits, FramesFit, WorkSound, TakesFirst, WaitFits, NextFits, ProcessFits}
use Rattle.ti_align.proofs.RunTypes.Computing.{grows_then, grows_for, own_stays, grid_stays, place_stays, of_stays, reference_stays, goes_stays}
use Rattle.ti_align.proofs.RunTypes.Storing.{variables_stay}

-- ---- work and moves

this_stays : (u w : HeapTyping) (m : NumberedMethod) (this : Option Id) → Grows u w → ThisFits u m this → ThisFits w m this
this_stays u w m this g k = λ class c id z. g.classes id class (k class c id z)

pub deposit_stays : (u w : HeapTyping) (type : ValueType) (given : Deposit) → Grows u w → DepositFits u type given → DepositFits w type given
deposit_stays u w type (deposit.One v) g k = (of_stays u w type (Plain v) g k.0, k.1, k.2)
deposit_stays u w type deposit.Nothing g k = k
deposit_stays u w type (deposit.Count n) g k = k

module _ (p : ProgramView) (m : NumberedMethod) where
  work_stays : (s : ScopeContents) (u w : HeapTyping) (x : ContItem) → Grows u w → WorkFits p m s u x → WorkFits p m s w x
  work_stays s u w (Do x) g k = k
  work_stays s u w (End x) g k = k
  work_stays s u w (Before loop) g k = k
  work_stays s u w (Behind loop) g k = k
  work_stays s u w (Receive receiver h) g k = (k.0, of_stays u w k.0 h g k.1, k.2)
  work_stays s u w (CopyAll at to from points) g k = (
    k.0,
    k.1,
    grid_stays u w k.0 k.1 to.thing g k.2,
    grid_stays u w k.0 k.1 from.thing g k.3,
    k.4,
    reference_stays u w to g k.5,
    reference_stays u w from g k.6,
    own_stays u w (is_local k.0) (Some to.thing) g k.7,
    own_stays u w (is_local k.0) (Some from.thing) g k.8,
    k.9,
  )
  work_stays s u w (TakeAll at grid procs) g k = (grid_stays u w (element_of grid.type) 1 grid.thing g k.0, k.1, reference_stays u w grid g k.2, k.3)

  pub works_stay : (s : ScopeContents) (u w : HeapTyping) (xs : List ContItem) → Grows u w → WorksFit p m s u xs → WorksFit p m s w xs
  works_stay s u w [] g k = tt
  works_stay s u w (x ∷ xs) g k = (work_stays (scope_over p s xs) u w x g k.0, works_stay s u w xs g k.1)

  move_stays : (gives takes : Option ValueType) (s : ScopeContents) (u w : HeapTyping) (move : Move) → Grows u w → MoveFits p m gives takes s u move → MoveFits p m gives takes s w move
  move_stays gives takes s u w (Goes vs xs) g k = (variables_stay u w vs g k.0, works_stay s u w xs g k.1, k.2)
  move_stays gives takes s u w (Turns at vs xs) g k = (variables_stay u w vs g k.0, works_stay s u w xs g k.1, k.2)
  move_stays gives takes s u w Breaks g k = tt
  move_stays gives takes s u w Continues g k = tt
  move_stays gives takes s u w (Calls at method this parameters receiver) g k = (k.0, this_stays u w method this g k.1, variables_stay u w parameters g k.2, k.3)
  move_stays gives takes s u w (Returns None) g k = tt
  move_stays gives takes s u w (Returns (Some h)) g k = of_stays u w (result_type m) h g k
  move_stays gives takes s u w (Meets wait given behind) g k =
      ((k.0.0, k.0.1, deposit_stays u w k.0.0 given g k.0.2, k.0.3, k.0.4, k.0.5), works_stay s u w behind g k.1)
  move_stays gives takes s u w (Deletes at region) g k = place_stays u w region g k

-- ---- computations

pub there_stays : (p : ProgramView) (u w : HeapTyping) (a : Action) (wanted : Wanted) → Grows u w → OperandsExist p u a wanted → OperandsExist p w a wanted
there_stays p u w (act.GetField obj field) wanted g k = (k.0, (k.1.0, g.classes obj k.1.0 k.1.1, k.1.2))
there_stays p u w (act.PutField obj field v) wanted g k = (
  k.0,
  (k.1.0, g.classes obj k.1.0 k.1.1, k.1.2),
  of_stays (with_owner obj.owner u) (with_owner obj.owner w) k.0 (Plain v) (grows_for obj.owner u w g) k.2,
)
there_stays p u w (act.NewObj class region) wanted g k = (k.0, k.1, place_stays u w region g k.2)
there_stays p u w (act.NewGrid zero domain region) wanted g k = (k.0, k.1, k.2, k.3, k.4, k.5, place_stays u w region g k.6, k.7)
there_stays p u w (act.GetElem grid at) wanted g k = (k.0, k.1, grid_stays u w k.0 k.1 grid g k.2, k.3)
there_stays p u w (act.PutElem grid at v) wanted g k = (
  k.0,
  k.1,
  grid_stays u w k.0 k.1 grid g k.2,
  k.3,
  of_stays (with_owner grid.owner u) (with_owner grid.owner w) k.0 (Plain v) (grows_for grid.owner u w g) k.4,
)
there_stays p u w (act.MakeView grid how) wanted g k = (k.0, k.1, grid_stays u w k.0 k.1 grid g k.2, k.3)
there_stays p u w (act.DomainOf grid) wanted g k = (k.0, k.1, grid_stays u w k.0 k.1 grid g k.2)
there_stays p u w _ wanted g k = k

suits_stays : (p : ProgramView) (u w : HeapTyping) (a : Action) (wanted : Wanted) → Grows u w → SuitsWanted p u a wanted → SuitsWanted p w a wanted
suits_stays p u w (act.GetField obj field) wanted g k = (k.0, k.1, (k.2.0, g.classes obj k.2.0 k.2.1, k.2.2), k.3, k.4)
suits_stays p u w (act.GetElem grid at) wanted g k = (k.0, k.1, k.2, grid_stays u w k.0 k.2 grid g k.3, k.4, k.5)
suits_stays p u w (act.DomainOf grid) wanted g k = (k.0, k.1, grid_stays u w k.0 k.1 grid g k.2, k.3)
suits_stays p u w _ wanted g k = k

sound_stays : (p : ProgramView) {A : Type 0} (P : HeapTyping → A → Type 0) (u w : HeapTyping) (m : Comp A) → ((a : A) → P u a → P w a) → Grows u w → Sound p P u m → Sound p P w m
sound_stays p P u w m f g (value a h e) = value a (f a h) e
sound_stays p P u w m f g (fault kind at e) = fault kind at e
sound_stays p P u w m f g (asks q z i k) = asks q z (
  there_stays p u w q.action q.wanted g i.0,
  goes_stays u w q.through q.action g i.1,
  suits_stays p u w q.action q.wanted g i.2,
) (λ x j r t. k x (grows_then u w x g j) r t)

-- ---- processes

frame_stays : (p : ProgramView) (u w : HeapTyping) (f : Frame) → Grows u w → FrameFits p u f → FrameFits p w f
frame_stays p u w f g k = (variables_stay u w f.variables g k.0, this_stays u w f.method f.this g k.1, works_stay p f.method (method_scope f.method) u w f.left g k.2)

pub frames_stay : (p : ProgramView) (u w : HeapTyping) (fs : List Frame) → Grows u w → FramesFit p u fs → FramesFit p w fs
frames_stay p u w [] g k = tt
frames_stay p u w (f ∷ fs) g k = (frame_stays p u w f g k.0, k.1, frames_stay p u w fs g k.2)

work_sound_stays : (u w : HeapTyping) (pr : Process) (f : Frame) (xs : List ContItem) → Grows u w → WorkSound u pr f xs → WorkSound w pr f xs
work_sound_stays u w pr f [] g k = tt
work_sound_stays u w pr f (x ∷ xs) g k =
    let p = pr.setting.program in
    let s = scope_over p (method_scope f.method) xs in
    sound_stays p (λ u move. MoveFits p f.method (contribution_type p s x) (taken_type x) s u move) u w (λ rest. exec_item (env_of pr f xs) x (pr.answers ++ rest))
    (λ move h. move_stays p f.method (contribution_type p s x) (taken_type x) s u w move g h) g k

next_stays : (u w : HeapTyping) (G : ValueType → Type 0) (pr : Process) (wait : Option Wait) (fs : List Frame) → Grows u w → NextFits u G pr wait fs → NextFits w G pr wait fs
next_stays u w G pr (Some wait) fs g k = k
next_stays u w G pr None [] g k = tt
next_stays u w G pr None (f ∷ fs) g k = (work_sound_stays u w pr f f.left g k.0, k.1)

-- a process goes on to fit while what is there grows
pub stays : (u w : HeapTyping) (G : ValueType → Type 0) (pr : Process) → Grows u w → ProcessFits u G pr → ProcessFits w G pr
stays u w G pr g k = (frames_stay pr.setting.program u w pr.frames g k.0, next_stays u w G pr pr.wait pr.frames g k.1)

-- ---- other types that are handed in

pub round_weaker : (G H : ValueType → Type 0) (kind : CollKind) (type : ValueType) → ((t : ValueType) → G t → H t) → IsOfRound G kind type → IsOfRound H kind type
round_weaker G H coll.Broadcast type f k = f type k
round_weaker G H coll.Exchange type f k = f type k
round_weaker G H coll.MakeRegion type f k = k
round_weaker G H coll.Barrier type f k = tt
round_weaker G H coll.DeleteRegion type f k = tt

first_weaker : (G H : ValueType → Type 0) (xs : List ContItem) → ((t : ValueType) → G t → H t) → TakesFirst G xs → TakesFirst H xs
first_weaker G H (TakeAll at grid procs ∷ xs) f k = f (element_of grid.type) k
first_weaker G H _ f k = tt

wait_weaker : (p : ProgramView) (G H : ValueType → Type 0) (wait : Wait) (fs : List Frame) → ((t : ValueType) → G t → H t) → WaitFits p G wait fs → WaitFits p H wait fs
wait_weaker p G H wait [] f k = k
wait_weaker p G H wait (g ∷ fs) f k = (k.0, k.1, round_weaker G H wait.kind k.0 f k.2, k.3, k.4)

next_weaker : (w : HeapTyping) (G H : ValueType → Type 0) (pr : Process) (wait : Option Wait) (fs : List Frame) → ((t : ValueType) → G t → H t) → NextFits w G pr wait fs → NextFits w H pr wait fs
next_weaker w G H pr (Some wait) fs f k = (wait_weaker pr.setting.program G H wait fs f k.0, k.1)
next_weaker w G H pr None [] f k = tt
next_weaker w G H pr None (g ∷ fs) f k = (k.0, first_weaker G H g.left f k.1)

-- a process fits with more types of what is handed in
pub other_round : (w : HeapTyping) (G H : ValueType → Type 0) (pr : Process) → ((t : ValueType) → G t → H t) → ProcessFits w G pr → ProcessFits w H pr
other_round w G H pr f k = (k.0, next_weaker w G H pr pr.wait pr.frames f k.1)
