-- Steps keep to the types: a process that fits has a step that does.
use Rattle.std.proofs.Common.{w32, ◌≡◌, ◌⊎◌, ℕ, pos, zero, suc, ◌+◌, nat_lt, length, slice_get, Bool, true, false, inl, inr, if◌then◌else◌, Option, Some, None, List, [], ◌∷◌, ◌++◌, refl, ap, sym, ◌∙◌, subst, append_assoc, append-nil}
use Rattle.std.specs.Option.{option_map_or}
use Rattle.ti_base.specs.declared.place.Place.{Place}
use Rattle.ti_base.specs.declared.fault.FaultKind.TheVariants.{Depth, Fuel}
use Rattle.ti_base.specs.declared.action.Action.{Action}
use Rattle.ti_base.specs.declared.action.Action.TheVariants as act
use Rattle.ti_base.specs.declared.action.CollKind.{CollKind}
use Rattle.ti_base.specs.declared.action.Deposit.{Deposit}
use Rattle.ti_base.specs.declared.action.Deposit.TheVariants as deposit
use Rattle.ti_base.specs.declared.entry.Answer.{Answer}
use Rattle.ti_base.specs.WholeNumbers.{Fits}
use Rattle.ti_lang.specs.Program.Types.{ValueType}
use Rattle.ti_lang.specs.Program.Types as t
use Rattle.ti_lang.specs.Program.Statements.{numbered_stms}
use Rattle.ti_lang.specs.Program.Classes.{NumberedMethod, ProgramView}
use Rattle.ti_lang.specs.Program.Scope.{ScopeContents, method_scope}
use Rattle.ti_lang.specs.Typing.Declared.{result_type}
use Rattle.ti_lang.specs.Meaning.Held.{Held}
use Rattle.ti_lang.specs.Meaning.Comp.{Wanted, ToBeDone, ValueOf, NewThing, Request, Comp, CompResult, Gives, Asks, Fails, told}
use Rattle.ti_lang.specs.Meaning.Processes.{RunConfig, Variable, Receiver, Nowhere, ContItem, Receive, Frame, frame_of, Wait, Process, begin}
use Rattle.ti_lang.specs.Meaning.Scoping.{env_of}
use Rattle.ti_lang.specs.Meaning.Moves.{Move, Goes, Turns, Breaks, Continues, Calls, Returns, Meets, Deletes}
use Rattle.ti_lang.specs.Meaning.Performing.{exec_item}
use Rattle.ti_lang.specs.Meaning.Jumps.{has_mark, from_mark, past_mark, variables_at_mark}
use Rattle.ti_lang.specs.Meaning.Steps.{Step, To, Faults, spends, ticks, add_answer, step_of_result, deliver, most_frames, named_in, arrives, delete_wait, value_asked, departs, moves, works, runs, steps, step}
use Rattle.ti_lang.specs.Meaning.NextStep.{Reaches, here, later}
use Rattle.ti_lang.proofs.Lemmas.{Of}
use Rattle.ti_align.specs.HeapTyping.{HeapTyping, Grows, IsOf, VariablesFit, ThisFits, DepositFits}
use Rattle.ti_align.specs.Existing.{FitsAsked}
use Rattle.ti_align.specs.Mirrors.Sound.{Sound}
use Rattle.ti_align.specs.Mirrors.Sound as sound
use Rattle.ti_align.specs.Given.{scope_over, contribution_type, IsOfRound, first_contribution, contribution_in, contribution_by}
use Rattle.ti_align.specs.Mirrors.ContItem.{ReceiverFits, MethodFits, MethodsFit, HasNumber, taken_type, TakesOf, taken_behind, WantsOf, WorksFit, IsAwaited, MoveFits}
use Rattle.ti_align.specs.Mirrors.Processes.{ProgramFits, PassesOn, FramesFit, WorkSound, TakesFirst, WaitFits, NextFits, ProcessFits}
use Rattle.ti_align.proofs.RunTypes.Steps.{ActionFits, StepFits}
use Rattle.ti_align.proofs.RunTypes.Computing.{goes_alone, same_sound}
use Rattle.ti_align.proofs.RunTypes.Operating.{none_some, some_same}
use Rattle.ti_align.proofs.Runs.Given.{HoldsNothing, LeftFine, AllFree, TopFine, WaitFine, Stands, tail_free, free_mark, free_past, step_fine}
use Rattle.ti_align.proofs.RunTypes.Staying.{frames_stay}
use Rattle.ti_align.proofs.RunTypes.Pending.{scope_both, mark_fits, works_both, body_fits, past_fits, from_fits, takes_free, takes_both, taken_first, none_first, body_first, taken_is, behind_is, FirstOf, free_first, handed_first, TakenAs, TakesAs, takes_as}

-- what the first piece of work of a frame comes to fits it
abbrev pub FitsFrame : ProgramView → Frame → List ContItem → ContItem → HeapTyping → Move → Type 0
FitsFrame p f left x u move =
    MoveFits p f.method (contribution_type p (scope_over p (method_scope f.method) left) x) (taken_type x) (scope_over p (method_scope f.method) left) u move

-- what is known of a process: its program fits, and its number has 32 bits
abbrev pub Known : Process → Type 0
Known pr = ProgramFits pr.setting.program × HasNumber pr

-- all work is performed so that it fits, in frames that do
abbrev pub Performs : Type 0
Performs =
    (pr : Process) (f : Frame) (left : List ContItem) (w : HeapTyping) (x : ContItem) → w.owner ≡ pr.number → Known pr → VariablesFit w f.variables → ThisFits w f.method f.this
    → WorksFit pr.setting.program f.method (method_scope f.method) w (x ∷ left) → Sound pr.setting.program (λ u move. FitsFrame pr.setting.program f left x u move) w (exec_item (env_of pr f left) x)

-- ---- frames

-- what goes to the receiver suits the innermost of these frames, if there is one
abbrev Hands : ProgramView → Receiver → ValueType → List Frame → Type 0
Hands p r type [] = Unit {0}
Hands p r type (g ∷ fs) = ReceiverFits p g.method (scope_over p (method_scope g.method) g.left) r type

hands_out : (p : ProgramView) (f : Frame) (fs : List Frame) → PassesOn p f fs → Hands p f.receiver (result_type f.method) fs
hands_out p f [] k = tt
hands_out p f (g ∷ fs) k = k

hands_in : (p : ProgramView) (f : Frame) (fs : List Frame) → Hands p f.receiver (result_type f.method) fs → PassesOn p f fs
hands_in p f [] k = tt
hands_in p f (g ∷ fs) k = k

-- a value of the type, if there is one
abbrev MaybeOf : HeapTyping → ValueType → Option Held → Type 0
MaybeOf w type None = Unit {0}
MaybeOf w type (Some h) = IsOf w type h

handed_fits : (p : ProgramView) (w : HeapTyping) (r : Receiver) (type : ValueType) (v : Option Held) (fs : List Frame) → FramesFit p w fs
    → Hands p r type fs → MaybeOf w type v → FramesFit p w (deliver r v fs)
handed_fits p w r type None fs k i o = k
handed_fits p w r type (Some h) [] k i o = tt
handed_fits p w r type (Some h) (g ∷ fs) k i o =
    ((k.0.0, k.0.1, ((type, o, i), k.0.2)), hands_in p (record g { left = Receive r h ∷ g.left }) fs (hands_out p g fs k.1), k.2)

-- ---- processes between two pieces of work

module _ (performs : Performs) where
  -- a piece of work without an answer yet
  work_begun : (w : HeapTyping) (pr : Process) (f : Frame) (xs : List ContItem) → w.owner ≡ pr.number → Known pr → pr.answers ≡ [] → VariablesFit w f.variables → ThisFits w f.method f.this
      → WorksFit pr.setting.program f.method (method_scope f.method) w xs → WorkSound w pr f xs
  work_begun w pr f [] own fine z v this k = tt
  work_begun w pr f (x ∷ left) own fine z v this k =
      subst (λ got. Sound pr.setting.program (λ u move. FitsFrame pr.setting.program f left x u move) w
      (λ rest. exec_item (env_of pr f left) x (got ++ rest))) (sym z) (performs pr f left w x own fine v this k)

  next_begun : (w : HeapTyping) (G : ValueType → Type 0) (pr : Process) (fs : List Frame) → w.owner ≡ pr.number → Known pr → pr.answers ≡ []
      → FramesFit pr.setting.program w fs → FirstOf G fs → NextFits w G pr None fs
  next_begun w G pr [] own fine z k i = tt
  next_begun w G pr (f ∷ fs) own fine z k i = (work_begun w pr f f.left own fine z k.0.0 k.0.1 k.0.2, i)

  -- a process that has spent so many ticks, and goes on in these frames
  between : (w : HeapTyping) (G : ValueType → Type 0) (pr : Process) (n : ℕ) (fs : List Frame) → w.owner ≡ pr.number → Known pr → FramesFit pr.setting.program w fs → FirstOf G fs
      → ProcessFits w G (record pr { spent = n; frames = fs; wait = None; answers = [] })
  between w G pr n fs own fine k i = (k, next_begun w G (record pr { spent = n; frames = fs; wait = None; answers = [] }) fs own fine refl k i)

  -- ---- the first process

  method_at : (p : ProgramView) (ms : List NumberedMethod) (k : ℕ) (m : NumberedMethod) → MethodsFit p ms → slice_get ms k ≡ Some m → MethodFits p m
  method_at p [] k m f z = absurd (none_some m z)
  method_at p (x ∷ xs) zero m f z = subst (MethodFits p) (some_same x m z) f.0
  method_at p (x ∷ xs) (suc k) m f z = method_at p xs k m f.1 z

  pub begin_fits : (w : HeapTyping) (G : ValueType → Type 0) (s : RunConfig) (i : ℕ) → w.owner ≡ i → Known (begin s i) → ProcessFits w G (begin s i)
  begin_fits w G s i own fine = by (slice_get s.program.methods s.program.main) (λ m z. method_at s.program s.program.methods s.program.main m fine.0.methods z)
    where
      by : (o : Option NumberedMethod) → ((m : NumberedMethod) → o ≡ Some m → MethodFits s.program m)
          → ProcessFits w G (record { setting = s; number = i; spent = 0; frames = option_map_or (λ (main : NumberedMethod). frame_of main None [] Nowhere ∷ []) o []; wait = None; answers = [] })
      by None k = (tt, tt)
      by (Some m) k = between w G (begin s i) 0 (frame_of m None [] Nowhere ∷ []) own fine
          ((tt, (λ class c id z. absurd (none_some id z)), body_fits s.program m w (method_scope m) (numbered_stms m.body) (k m refl)), tt, tt) (body_first G (numbered_stms m.body))

  -- ---- moves

  -- what is known of a frame whose first piece of work is done: it and the frames below it fit, where this work is left
  record Top (w : HeapTyping) (pr : Process) (f : Frame) (fs : List Frame) (left : List ContItem) : Type 0 where
    program : Known pr
    variables : VariablesFit w f.variables
    this : ThisFits w f.method f.this
    works : WorksFit pr.setting.program f.method (method_scope f.method) w left
    hands : PassesOn pr.setting.program f fs
    below : FramesFit pr.setting.program w fs
    free : HoldsNothing left
    others : AllFree fs

  if_fits : (w : HeapTyping) (G H : ValueType → Type 0) (pr : Process) (b : Bool) (x y : Step) → StepFits w G H pr x → StepFits w G H pr y → StepFits w G H pr (if b then x else y)
  if_fits w G H pr true x y j k = j
  if_fits w G H pr false x y j k = k

  ticks_fit : (w : HeapTyping) (G H : ValueType → Type 0) (pr : Process) (at : Place) (after : Step) → StepFits w G H pr after → StepFits w G H pr (ticks pr at after)
  ticks_fit w G H pr at after k = if_fits w G H pr (nat_lt pr.spent pr.setting.fuel) after (Faults Fuel at) k tt

  jump_fits : (w : HeapTyping) (G H : ValueType → Type 0) (pr : Process) (b : Bool) (x y : Process) → ProcessFits w G x → ProcessFits w G y → StepFits w G H pr (To (if b then x else y))
  jump_fits w G H pr true x y j k = j
  jump_fits w G H pr false x y j k = k

  module _ (w : HeapTyping) (G H : ValueType → Type 0) (pr : Process) (f : Frame) (fs : List Frame) (own : w.owner ≡ pr.number) where
    abbrev p : ProgramView
    p = pr.setting.program

    abbrev s : List ContItem → ScopeContents
    s left = scope_over p (method_scope f.method) left

    -- with other variables and other work left
    abbrev frame_with : List Variable → List ContItem → Frame
    frame_with vs xs = record f { variables = vs; left = xs }

    frames_with : (left : List ContItem) → Top w pr f fs left → (vs : List Variable) (xs : List ContItem) → VariablesFit w vs
        → WorksFit p f.method (method_scope f.method) w xs → FramesFit p w (frame_with vs xs ∷ fs)
    frames_with left top vs xs v k = ((v, top.this, k), hands_in p (frame_with vs xs) fs (hands_out p f fs top.hands), top.below)

    goes_fits : (left : List ContItem) → Top w pr f fs left → (n : ℕ) (vs : List Variable) (xs : List ContItem) → VariablesFit w vs → WorksFit p f.method (method_scope f.method) w xs → TakesFirst G xs
        → ProcessFits w G (record pr { spent = n; frames = frame_with vs xs ∷ fs; wait = None; answers = [] })
    goes_fits left top n vs xs v k i = between w G pr n (frame_with vs xs ∷ fs) own top.program (frames_with left top vs xs v k) i

    -- the work of a move before what is left
    both_fit : (x : ContItem) (left : List ContItem) → Top w pr f fs left → TakesFirst G (x ∷ left) → (n : ℕ) (vs : List Variable) (xs : List ContItem)
        → VariablesFit w vs → WorksFit p f.method (s left) w xs → TakesOf (taken_type x) xs
        → ProcessFits w G (record pr { spent = n; frames = frame_with vs (xs ++ left) ∷ fs; wait = None; answers = [] })
    both_fit x left top i n vs xs v k o =
        goes_fits left top n vs (xs ++ left) v (works_both p f.method w (method_scope f.method) xs left k top.works)
        (taken_first G (taken_type x) (xs ++ left) (taken_is G x left i) (takes_both (taken_type x) xs left o top.free))

    returns_fit : (left : List ContItem) → Top w pr f fs left → (v : Option Held) → MaybeOf w (result_type f.method) v
        → ProcessFits w G (record pr { frames = deliver f.receiver v fs; wait = None; answers = [] })
    returns_fit left top v o =
        between w G pr pr.spent (deliver f.receiver v fs) own top.program
        (handed_fits p w f.receiver (result_type f.method) v fs top.below (hands_out p f fs top.hands) o)
        (handed_first G f.receiver v fs (free_first G fs top.others))

    -- an arrival, behind which this work is left
    arrives_fit : (left xs : List ContItem) → Top w pr f fs left → (wait : Wait) (given : Deposit) (type : ValueType)
        → WorksFit p f.method (method_scope f.method) w xs → DepositFits w type given → IsOfRound (λ u. contribution_by pr ≡ Some u) wait.kind type
        → IsAwaited p f.method (s xs) wait.wanted wait.receiver type → WantsOf wait.kind wait.wanted type
        → TakesOf (taken_behind wait.kind type) xs → StepFits w G H pr (arrives pr (record f { left = xs } ∷ fs) wait given)
    arrives_fit left xs top wait given type k d r a o i =
        ticks_fit w G H pr wait.place _ (
          tt,
          goes_alone w (act.Arrive wait.kind wait.arg given) refl,
          (
            type,
            d,
            r,
            λ z u g answer. (
              frames_stay p w u (record f { left = xs } ∷ fs) g
                  (frames_with left top f.variables xs top.variables k),
              ((type, a, z, o, i), refl),
            ),
          ),
          refl,
        )

    moves_fit : (x : ContItem) (left : List ContItem) → Top w pr f fs left → TakesFirst G (x ∷ left) → contribution_by pr ≡ contribution_type p (s left) x
        → (move : Move) → FitsFrame p f left x w move → StepFits w G H pr (moves pr f fs left move)
    moves_fit x left top i e (Goes vs xs) k = both_fit x left top i pr.spent vs xs k.0 k.1 k.2
    moves_fit x left top i e (Turns at vs xs) k = ticks_fit w G H pr at _ (both_fit x left top i (pr.spent + 1) vs xs k.0 k.1 k.2)
    moves_fit x left top i e Breaks k =
        jump_fits w G H pr (has_mark left) _ _
        (goes_fits left top pr.spent (variables_at_mark left f.variables) (past_mark left) (mark_fits w left f.variables top.variables)
        (past_fits p f.method w (method_scope f.method) left top.works) (none_first G (past_mark left) (free_past left top.free)))
        (goes_fits left top pr.spent f.variables left top.variables top.works (none_first G left top.free))
    moves_fit x left top i e Continues k =
        jump_fits w G H pr (has_mark left) _ _
        (goes_fits left top pr.spent (variables_at_mark left f.variables) (from_mark left) (mark_fits w left f.variables top.variables)
        (from_fits p f.method w (method_scope f.method) left top.works) (none_first G (from_mark left) (free_mark left top.free)))
        (goes_fits left top pr.spent f.variables left top.variables top.works (none_first G left top.free))
    moves_fit x left top i e (Calls at method this parameters receiver) k =
        ticks_fit w G H pr at _ (if_fits w G H pr (nat_lt (length (f ∷ fs)) most_frames) _ (Faults Depth at)
        (between w G pr (pr.spent + 1) (frame_of method this parameters receiver ∷ record f { left = left } ∷ fs) own top.program
        ((k.2, k.1, body_fits p method w (method_scope method) (numbered_stms method.body) k.0), k.3, frames_with left top f.variables left top.variables top.works)
        (body_first G (numbered_stms method.body))) tt)
    moves_fit x left top i e (Returns None) k = returns_fit left top None tt
    moves_fit x left top i e (Returns (Some h)) k = returns_fit left top (Some h) k
    moves_fit x left top i e (Meets wait given behind) k =
        arrives_fit left (behind ++ left) top wait given k.0.0 (works_both p f.method w (method_scope f.method) behind left k.1 top.works) k.0.2
        (subst (λ o. IsOfRound (λ u. o ≡ Some u) wait.kind k.0.0) (sym e) k.0.3)
        (subst (λ y. IsAwaited p f.method y wait.wanted wait.receiver k.0.0) (scope_both p (method_scope f.method) behind left) k.0.1)
        k.0.4
        (takes_both (taken_behind wait.kind k.0.0) behind left k.0.5 top.free)
    moves_fit x left top i e (Deletes at region) k = arrives_fit left left top (delete_wait at region)
        (deposit.Count (named_in region (f ∷ fs))) t.Void top.works tt tt tt refl (takes_free None left top.free)

    -- ---- answers

    -- an answer to the first piece of work that is left
    next_asked : (q : Process) (x : ContItem) (left : List ContItem) (u : HeapTyping) (wait : Option Wait) (gs : List Frame) → wait ≡ None → gs ≡ f ∷ fs
        → f.left ≡ x ∷ left → WorkSound u q f (x ∷ left) → TakesFirst G (x ∷ left) → NextFits u G q wait gs
    next_asked q x left u wait gs z y e k i =
        subst (λ o. NextFits u G q o gs) (sym z) (subst (λ hs. NextFits u G q None hs) (sym y) (subst (λ xs. WorkSound u q f xs × TakesFirst G xs) (sym e) (k, i)))

    acts_fit : (q : Request) (a : Action) (go : Answer → Process) → TakenAs G a q.wanted
        → ((u : HeapTyping) → Grows w u → (r : Answer) → FitsAsked p u a q.wanted r → ProcessFits u G (go r)) → ActionFits w G H pr q a go
    acts_fit q (act.Arrive kind arg given) go t k = absurd t
    acts_fit q act.Depart go t k = absurd t
    acts_fit q (act.Take who) go t k = (t.0, t.2, (λ u g r o. k u g r (λ type z. subst (λ y. IsOf u y (told r)) (same t.0 type (sym t.1 ∙ z)) o)), t.1)
      where
        same : (x y : ValueType) → ValueOf x ≡ ValueOf y → x ≡ y
        same x y z = cc
    acts_fit q _ go t k = k

    first_fits : (x : ContItem) (left : List ContItem) → pr.wait ≡ None → pr.frames ≡ f ∷ fs → f.left ≡ x ∷ left → Top w pr f fs left
        → FramesFit p w pr.frames → WorkSound w pr f (x ∷ left) → TakesFirst G (x ∷ left)
        → StepFits w G H pr (step_of_result pr (exec_item (env_of pr f left) x pr.answers) (moves pr f fs left))
    first_fits x left z y e top all sure i = by (λ rest. exec_item (env_of pr f left) x (pr.answers ++ rest)) sure (λ rest. refl)
      where
        given_here : contribution_by pr ≡ contribution_type p (s left) x
        given_here = ap (contribution_in p) y ∙ ap (first_contribution p f) e

        now : (m : Comp Move) → ((rest : List Answer) → m rest ≡ exec_item (env_of pr f left) x (pr.answers ++ rest)) → exec_item (env_of pr f left) x pr.answers ≡ m []
        now m j = ap (exec_item (env_of pr f left) x) (sym (append-nil pr.answers)) ∙ sym (j [])

        fits_when : (g : CompResult Move) → exec_item (env_of pr f left) x pr.answers ≡ g → StepFits w G H pr (step_of_result pr g (moves pr f fs left))
            → StepFits w G H pr (step_of_result pr (exec_item (env_of pr f left) x pr.answers) (moves pr f fs left))
        fits_when g j k = subst (λ g. StepFits w G H pr (step_of_result pr g (moves pr f fs left))) (sym j) k

        by : (m : Comp Move) → Sound p (λ u move. FitsFrame p f left x u move) w m → ((rest : List Answer) → m rest ≡ exec_item (env_of pr f left) x (pr.answers ++ rest))
            → StepFits w G H pr (step_of_result pr (exec_item (env_of pr f left) x pr.answers) (moves pr f fs left))
        by m (sound.value move h k) j = fits_when (Gives move []) (now m j ∙ k []) (moves_fit x left top i given_here move h)
        by m (sound.fault kind at k) j = fits_when (Fails kind at) (now m j ∙ k []) tt
        by m (sound.asks q k there h) j =
            fits_when (Asks q) (now m j ∙ k) (ticks_fit w G H pr q.place _ (
              there.0,
              there.1,
              acts_fit q q.action _ (subst (Of (TakesAs G)) (now m j ∙ k) (takes_as G (env_of pr f left) x left pr.answers i))
                  (λ u g r o. (
                    frames_stay p w u pr.frames g all,
                    next_asked (spends (add_answer pr r)) x left u pr.wait pr.frames z y e
                        (same_sound p (λ u move. FitsFrame p f left x u move) u (λ rest. m (r ∷ rest)) _ (λ rest. j (r ∷ rest)
                        ∙ ap (exec_item (env_of pr f left) x) (sym (append_assoc pr.answers (r ∷ []) rest))) (h u g r o)) i,
                  )),
              there.2,
            ))

  -- ---- steps

  module _ (w : HeapTyping) (G H : ValueType → Type 0) (pr : Process) (last : Option CollKind) (n : ℕ) (own : w.owner ≡ pr.number) (fine : Known pr) where
    works_fit : (f : Frame) (fs : List Frame) (xs : List ContItem) → pr.wait ≡ None → pr.frames ≡ f ∷ fs → f.left ≡ xs → LeftFine n last xs → AllFree fs → FramesFit pr.setting.program w pr.frames
        → FramesFit pr.setting.program w (f ∷ fs) → WorksFit pr.setting.program f.method (method_scope f.method) w xs → WorkSound w pr f xs → TakesFirst G xs → StepFits w G H pr (works pr f fs xs)
    works_fit f fs [] z y e free others all k l sure i =
        returns_fit w G H pr f fs own [] (record { program = fine; variables = k.0.0; this = k.0.1; works = tt; hands = k.1; below = k.2; free = tt; others = others }) None tt
    works_fit f fs (x ∷ left) z y e free others all k l sure i =
        first_fits w G H pr f fs own x left z y e (record {
          program = fine;
          variables = k.0.0;
          this = k.0.1;
          works = l.1;
          hands = k.1;
          below = k.2;
          free = tail_free n last x left free;
          others = others;
        }) all sure i

    runs_fit : (fs : List Frame) → pr.wait ≡ None → pr.frames ≡ fs → TopFine n last fs → FramesFit pr.setting.program w fs → NextFits w G pr None fs → StepFits w G H pr (runs pr fs)
    runs_fit [] z y free k i = tt
    runs_fit (f ∷ fs) z y free k i = works_fit f fs f.left z y refl free.0 free.1 (subst (FramesFit pr.setting.program w) (sym y) k) k k.0.2 i.0 i.1

    -- what a departure gives goes to its receiver
    told_fits : (u : HeapTyping) (f : Frame) (fs : List Frame) (receiver : Receiver) (wanted : Wanted) (type : ValueType) (r : Answer)
        → IsAwaited pr.setting.program f.method (scope_over pr.setting.program (method_scope f.method) f.left) wanted receiver type
        → (wanted ≡ ToBeDone) ⊎ IsOf u type (told r) → FramesFit pr.setting.program u (f ∷ fs) → FramesFit pr.setting.program u (deliver receiver (value_asked wanted r) (f ∷ fs))
    told_fits u f fs receiver ToBeDone type r a o k = k
    told_fits u f fs receiver (ValueOf x) type r a (inl z) k = absurd (never z)
      where
        never : ValueOf x ≡ ToBeDone → ⊥
        never z = cc
    told_fits u f fs receiver (ValueOf x) type r a (inr o) k = handed_fits pr.setting.program u receiver type (Some (told r)) (f ∷ fs) k a o
    told_fits u f fs receiver (NewThing x) type r a (inl z) k = absurd (never z)
      where
        never : NewThing x ≡ ToBeDone → ⊥
        never z = cc
    told_fits u f fs receiver (NewThing x) type r a (inr o) k = handed_fits pr.setting.program u receiver type (Some (told r)) (f ∷ fs) k a o

    departs_fit : (wait : Wait) (fs : List Frame) → pr.wait ≡ Some wait → pr.frames ≡ fs → FramesFit pr.setting.program w fs
        → WaitFits pr.setting.program G wait fs → StepFits w G H pr (departs pr wait)
    departs_fit wait [] z y k i = absurd i
    departs_fit wait (f ∷ fs) z y k i =
        ticks_fit w G H pr wait.place _ (
          tt,
          goes_alone w act.Depart refl,
          (
            wait,
            i.0,
            z,
            i.2,
            i.3,
            λ u g r o.
                subst (λ gs. ProcessFits u G (record pr { spent = pr.spent + 1; frames = deliver wait.receiver (value_asked wait.wanted r) gs; wait = None; answers = [] })) (sym y)
                (between u G pr (pr.spent + 1) (deliver wait.receiver (value_asked wait.wanted r) (f ∷ fs)) (sym g.owner ∙ own) fine
                (told_fits u f fs wait.receiver wait.wanted i.0 r i.1 o (frames_stay pr.setting.program w u (f ∷ fs) g k))
                (handed_first G wait.receiver (value_asked wait.wanted r) (f ∷ fs) (taken_first G (taken_behind wait.kind i.0) f.left (λ type q. behind_is G wait.kind i.0 type i.2 q) i.4))),
          ),
          tt,
        )

    steps_fit : (wait : Option Wait) → pr.wait ≡ wait → WaitFine n last wait pr.frames → FramesFit pr.setting.program w pr.frames → NextFits w G pr wait pr.frames → StepFits w G H pr (steps pr wait)
    steps_fit None z free k i = runs_fit pr.frames z refl free k i
    steps_fit (Some wait) z free k i = departs_fit wait pr.frames z refl k i.0

  -- a process that fits has a step that does, wherever takes stand first alone
  pub step_fits : (w : HeapTyping) (G H : ValueType → Type 0) (s : RunConfig) (i : ℕ) (last : Option CollKind) (pr : Process) → w.owner ≡ i → Known pr → Stands s i last pr
      → ProcessFits w G pr → StepFits w G H pr (step pr)
  step_fits w G H s i last pr own fine stands k = steps_fit w G H pr last s.procs (own ∙ sym stands.1) fine pr.wait refl stands.2 k.0 k.1

  -- what is known of all processes of this number is known of one
  pub known_here : (s : RunConfig) (i : ℕ) (last : Option CollKind) (pr : Process) → Known (begin s i) → Stands s i last pr → Known pr
  known_here s i last pr k stands = (
    subst (λ (k : RunConfig). ProgramFits k.program) (sym stands.0) k.0,
    (subst (λ n. Fits w32 (pos n)) (sym stands.1) k.1.0, subst (λ (k : RunConfig). Fits w32 (pos k.procs)) (sym stands.0) k.1.1),
  )

  -- silent steps lead from it to others that fit
  pub reaches_fits : (w : HeapTyping) (G : ValueType → Type 0) (s : RunConfig) (i : ℕ) (last : Option CollKind) (pr q : Process) → w.owner ≡ i → Known (begin s i) → Stands s i last pr → Reaches pr q
      → ProcessFits w G pr → ProcessFits w G q × Stands s i last q
  reaches_fits w G s i last pr q own fine stands here k = (k, stands)
  reaches_fits w G s i last pr r own fine stands (later {q = q} e rest) k =
      let after = subst (StepFits w G G pr) e (step_fits w G G s i last pr own (known_here s i last pr fine stands) stands k) in
      reaches_fits w G s i last q r own fine (step_fine s i last pr (To q) stands e) rest after
