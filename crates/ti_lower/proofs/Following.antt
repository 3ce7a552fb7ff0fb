-- Proves that the code of a program has next what the process has, if the program's methods meet the premises.
use Rattle.std.proofs.Common.{◌≡◌, ◌⊎◌, inl, inr, ℕ, ◌+◌, ◌-◌, ◌≤◌, nat_lt, ◌==◌, suc, Bool, true, false, if◌then◌else◌, length, map, reverse, count_by, slice_get, ap₂, List, [], ◌∷◌, ◌++◌, Option, Some, None, refl, ap, sym, ◌∙◌, subst, arith}
use Rattle.std.proofs.lemmas.List.{append_assoc, append-nil, length-append}
use Rattle.std.proofs.lemmas.Bool.{ltb-true}
use Rattle.ti_base.specs.declared.place.Place.{Place}
use Rattle.ti_base.specs.Rects.{points_of}
use Rattle.ti_lang.specs.Meaning.Collectives.{team}
use Rattle.ti_lang.specs.Meaning.Copies.{count_up, element_at}
use Rattle.ti_base.specs.declared.fault.FaultKind.{FaultKind}
use Rattle.ti_base.specs.declared.fault.FaultKind.TheVariants.{Fuel, Depth, NullRef}
use Rattle.ti_base.specs.declared.action.Action.TheVariants as act
use Rattle.ti_base.specs.declared.action.CollKind.TheVariants as coll
use Rattle.ti_base.specs.declared.action.Deposit.{Deposit}
use Rattle.ti_base.specs.declared.action.Deposit.TheVariants as deposit
use Rattle.ti_lang.specs.Meaning.Answers.{FitsAction, FitsWanted}
use Rattle.ti_base.specs.declared.entry.Answer.{Answer}
use Rattle.ti_base.specs.declared.entry.Next.{Next}
use Rattle.ti_base.specs.declared.entry.Next.TheVariants as next
use Rattle.ti_lang.specs.Meaning.NextStep.{Reaches, After, IsNext, step_label as tree_shown}
use Rattle.ti_lang.specs.Meaning.NextStep as told
use Rattle.ti_lang.specs.Meaning.Steps.{end_of}
use Rattle.ti_lang.specs.Program.Classes.{NumberedMethod}
use Rattle.ti_lang.specs.Program.Statements.{numbered_stms}
use Rattle.ti_lang.specs.Program.Scope.{this_of}
use Rattle.ti_lang.specs.Program.Types as t
use Rattle.ti_lang.specs.Typing.Declared.{result_type}
use Rattle.ti_lang.specs.Typing.Kinds.{is_void}
use Rattle.ti_lang.specs.Meaning.Held.{Held, Plain, no_value, region_of}
use Rattle.ti_lang.specs.Meaning.Turns.{turns_at}
use Rattle.ti_lower_expr.specs.Slots.{Name, SlotsHold}
use Rattle.ti_lower.proofs.Cutting.{Bare}
use Rattle.ti_lower.proofs.Counting.{held_there, variable_there, slots_count}
use Rattle.ti_base.specs.declared.value.Id.{Id}
use Rattle.ti_base.specs.declared.value.Value.TheVariants as v
use Rattle.std.specs.Option.{option_map_or}
use Rattle.std.proofs.lemmas.List.{reverse-append}
use Rattle.ti_lang.specs.Meaning.Comp.{Wanted, ToBeDone, ValueOf, NewThing, request as request_of, told as value_of, Request, Reference, CompResult, Gives, Asks, Fails, Comp, ◌>>=◌, gives, fails, guard, found_or}
use Rattle.ti_lang.specs.Meaning.Processes.{RunConfig, Wait, Variable, Receiver, ContItem, Receive, Process, frame_of, all_before}
use Rattle.ti_lang.specs.Meaning.Processes as tree
use Rattle.ti_lang.specs.Meaning.Moves.{Move, Goes, Turns, Breaks, Continues, Calls, Returns, Meets, Deletes}
use Rattle.ti_lang.specs.Meaning.Performing.{exec_item}
use Rattle.ti_lang.specs.Meaning.Jumps.{has_mark, from_mark, past_mark, variables_at_mark}
use Rattle.ti_lang.specs.Meaning.Steps.{named_in as tree_named, arrives, delete_wait, lies_in, value_asked, most_frames, To, At, Ends, Faults, add_answer, with_continuation, enter_call, deliver, spends, moves, step_of_result, step}
use Rattle.ti_code.specs.declared.instr.Instr.{Instr}
use Rattle.ti_code.specs.declared.instr.Instr.TheVariants as i
use Rattle.ti_code.specs.Effects.{LocalState, Who, top, below, top_operands, under}
use Rattle.ti_code.specs.Leading.{ExecutesTo, next_effect}
use Rattle.ti_code.specs.declared.code.MethodCode.{MethodCode}
use Rattle.ti_code.specs.Programs.{Code}
use Rattle.ti_code.specs.Machine.{ArrivalOperands, arrival_of, named_in, push_departure, MachineFrame, Machine, On, who_of, receiver_depth, call_method, enter_method, execute, next_step}
use Rattle.ti_code.specs.Follows.{Runs, here, on, Fit, HasNext, shown as code_shown}
use Rattle.ti_lower.specs.Programs.{in_main, body_code, instrs_in, method_code}
use Rattle.ti_lang.proofs.Lemmas.{Computes, none_left, used_up, work_computes}
use Rattle.ti_lower_expr.specs.Doing.{ReachesResult}
use Rattle.ti_lower.proofs.Lifting.{lift, turn_stops}
use Rattle.ti_lower.proofs.Longer.{leads_more, asks_last, fails_last, none_first, main_instr}
use Rattle.ti_lower_expr.proofs.Lemmas.{pushed}
use Rattle.ti_lower.proofs.Arguments.{Ready, own_slots, IsReceiver, without_object}
use Rattle.ti_lower.proofs.Bodies.{in_effect, in_leads, in_instr, begins_at}
use Rattle.ti_lower.proofs.Premises.{MethodFine}
use Rattle.ti_lower_expr.specs.Methods.{is_instance, receivers_of}
use Rattle.ti_lower.proofs.Standing as stands
use Rattle.ti_lower.proofs.Standing.{is_done}
use Rattle.ti_lower.proofs.Steps.{all_does, end_does}

runs_then : (code : Code) (m n o : Machine) (rs ms ls : List Answer) → Runs code m rs n ms → Runs code n ms o ls → Runs code m rs o ls
runs_then code m n o rs ms ls here k = k
runs_then code m n o rs ms ls (on {n = x} {rest = xs} e h) k = on e (runs_then code x n o xs ms ls h k)

to_same : (p q : Process) → To p ≡ To q → p ≡ q
to_same p q e = cc

faults_to : (kind : FaultKind) (at : Place) (q : Process) → Faults kind at ≡ To q → ⊥
faults_to kind at q e = cc

at_to : (r : Request) (go : Answer → Process) (q : Process) → At r go ≡ To q → ⊥
at_to r go q e = cc

true_false : {A : Type 0} (b : Bool) → b ≡ true → b ≡ false → A
true_false b e f = absurd (never (sym e ∙ f))
  where
    never : true ≡ false → ⊥
    never e = cc

-- slots that were filled one after the other
pushed_is : (hs stack : List Held) → pushed hs stack ≡ reverse hs ++ stack
pushed_is [] stack = refl
pushed_is (h ∷ hs) stack = pushed_is hs (h ∷ stack) ∙ (sym (append_assoc (reverse hs) (h ∷ []) stack) ∙ ap (λ l. l ++ stack) (sym (reverse-append (h ∷ []) hs)))

-- ---- calls

abbrev thing_at : Place → Option Id → Comp Reference
thing_at p o = found_or NullRef p o >>= λ id. gives (record { thing = id; type = t.Void })

-- a call that is ready enters its frame
enters : (m : Machine) (f : MachineFrame) (fs : List MachineFrame) (at : Place) (callee : MethodCode) (class : Option ℕ) (th : Option Id)
    (args stack : List Held) → IsReceiver class th (top (under callee.params f.state.stack))
    → top_operands callee.params f.state.stack [] ≡ args → without_object class (under callee.params f.state.stack) ≡ stack → (rs : List Answer)
    → call_method m f fs at callee (is_instance class) rs ≡ enter_method m f fs at callee (own_slots class th) args stack rs
enters m f fs at callee None th args stack z e k rs = ap₂ (λ xs ys. enter_method m f fs at callee [] xs ys rs) e k
enters m f fs at callee (Some class) th args stack z e k rs =
    ap (λ o. (thing_at at o >>= λ r. enter_method m f fs at callee (Plain (v.Obj (Some r.thing)) ∷ []) (top_operands callee.params f.state.stack []) (below (under callee.params f.state.stack))) rs) z.2
    ∙ (ap₂ (λ xs ys. enter_method m f fs at callee (Plain (v.Obj (Some z.0)) ∷ []) xs ys rs) e k
    ∙ ap (λ o. enter_method m f fs at callee (Plain (v.Obj o) ∷ []) args stack rs) (sym z.1))

module _ (code : Code) (s : RunConfig) (number : ℕ) (end : Place) (m0 : Machine) (receivers_same : map receiver_depth code.methods ≡ receivers_of s.program)
    (bodies : (k : ℕ) (m : NumberedMethod) → slice_get s.program.methods k ≡ Some m → (k == s.program.main) ≡ false → slice_get code.methods k ≡ Some (method_code s.program None m))
    (fine : (k : ℕ) (m : NumberedMethod) → slice_get s.program.methods k ≡ Some m → MethodFine s.program m) (team_is : points_of (team s.procs) ≡ map element_at (count_up 0 s.procs)) where
  -- the innermost call, and the frames below it, of the process and of the machine
  pub record Top : Type 0 where
    pub method : NumberedMethod
    pub this_id : Option Id
    pub receiver : Receiver
    pub below : List tree.Frame
    pub under : List MachineFrame

  abbrev pub code_in : Top → List Instr
  code_in t = body_code s.program t.method

  -- it gives nothing back
  abbrev pub is_void_in : Top → Bool
  is_void_in t = is_void (result_type t.method)

  -- where the method's end is that of the run
  abbrev pub ending : List tree.Frame → Option Place
  ending [] = Some end
  ending (f ∷ fs) = None

  -- the process
  abbrev pub frame : Top → List Variable → List ContItem → tree.Frame
  frame t vs left = record { method = t.method; this = t.this_id; variables = vs; left = left; receiver = t.receiver }

  abbrev pub process_of : ℕ → List tree.Frame → List Answer → Process
  process_of spent fs answers = record { setting = s; number = number; spent = spent; frames = fs; wait = None; answers = answers }

  abbrev pub proc : Top → ℕ → List Variable → List ContItem → List Answer → Process
  proc t spent vs left answers = process_of spent (frame t vs left ∷ t.below) answers

  abbrev pub gone : ℕ → Process
  gone spent = process_of spent [] []

  -- the machine
  abbrev base : Machine
  base = record { procs = s.procs; fuel = s.fuel; number = number; spent = 0; frames = [] }

  abbrev first_frame : Top → MachineFrame
  first_frame t = record { instrs = instrs_in (ending t.below) (code_in t); state = record { at = 0; slots = []; stack = [] } }

  abbrev placed : Top → LocalState → MachineFrame
  placed t u = record { instrs = instrs_in (ending t.below) (code_in t); state = u }

  abbrev machine_of : ℕ → List MachineFrame → Machine
  machine_of n fs = record { procs = s.procs; fuel = s.fuel; number = number; spent = n; frames = fs }

  abbrev pub machine : Top → ℕ → LocalState → Machine
  machine t n u = machine_of n (placed t u ∷ t.under)

  abbrev who : Who
  who = record { number = number; procs = s.procs; receivers = receivers_of s.program }

  abbrev Standing : Top → List ContItem → List Variable → LocalState → Type 0
  Standing t = stands.At (code_in t) s.program t.method t.this_id number s.procs

  abbrev Moved : Top → List ContItem → List Variable → Move → LocalState → Type 0
  Moved t = stands.Moved (code_in t) s.program t.method t.this_id number s.procs

  abbrev Back : Top → Bool → List ContItem → List Variable → Receiver → LocalState → Type 0
  Back t = stands.Back (code_in t) s.program t.method t.this_id number s.procs

  abbrev Departed : Top → Bool → List ContItem → List Variable → Receiver → LocalState → Type 0
  Departed t = stands.Departed (code_in t) s.program t.method t.this_id number s.procs

  -- what the first piece of work comes to
  abbrev first_work : Top → List Variable → List ContItem → Comp Move
  first_work t vs [] = gives (Returns None)
  first_work t vs (w ∷ left) = exec_item (stands.env (code_in t) s.program t.method t.this_id number s.procs vs left) w

  -- The frames below wait for what the innermost call gives back, or for its end; where there are none, it is that of `main`, which gives nothing.
  pub data Below : Bool → Receiver → List tree.Frame → List MachineFrame → Type 0 where
    bottom : {r : Receiver} → Below true r [] []
    waits : {void : Bool} {r : Receiver} {t : Top} {vs : List Variable} {left : List ContItem} {u : LocalState} → Back t void left vs r u → Below (is_void_in t) t.receiver t.below t.under
        → Below void r (frame t vs left ∷ t.below) (placed t u ∷ t.under)

  as_many : (b : Bool) (r : Receiver) (fs : List tree.Frame) (gs : List MachineFrame) → Below b r fs gs → length fs ≡ length gs
  as_many b r fs gs bottom = refl
  as_many b r fs gs (waits {t = t} k h) = ap suc (as_many (is_void_in t) t.receiver t.below t.under h)

  -- ---- what frames name in a region

  at_counts : (t : Top) (region : ℕ) (left : List ContItem) (vs : List Variable) (slots : List Held) (names : List Name) → SlotsHold t.this_id names vs (turns_at left) slots → Bare names
      → count_by (held_there region) slots ≡ count_by (variable_there region) vs + (if lies_in region t.this_id then 1 else 0)
  at_counts t region left vs slots names h bare = slots_count region t.this_id names vs (turns_at left) slots bare h

  back_counts : (t : Top) (region : ℕ) (left : List ContItem) (vs : List Variable) (r : Receiver) (u : LocalState) (b : Bool) → Back t b left vs r u
      → count_by (held_there region) u.slots ≡ count_by (variable_there region) vs + (if lies_in region t.this_id then 1 else 0)
  back_counts t region left vs r u true back = at_counts t region left vs u.slots back.1 back.2 back.4
  back_counts t region left vs r u false back = let x = back no_value in at_counts t region left vs u.slots x.1 x.2 x.4

  below_counts : (region : ℕ) (b : Bool) (r : Receiver) (fs : List tree.Frame) (gs : List MachineFrame) → Below b r fs gs → named_in region gs ≡ tree_named region fs
  below_counts region b r fs gs bottom = refl
  below_counts region b r fs gs (waits {t = t} {vs = vs} {left = left} {u = u} back h) =
      ap₂ (λ x y. x + y) (back_counts t region left vs r u b back) (below_counts region (is_void_in t) t.receiver t.below t.under h)

  -- there are no answers, or the last of them is that to what was asked then
  abbrev pub Fresh : Comp Move → List Answer → Type 0
  Fresh m answers = (answers ≡ []) ⊎ ((front : List Answer) × (r : Answer) × (q : Request) × (answers ≡ front ++ r ∷ []) × (m front ≡ Asks q))

  -- The process stands so after all these answers, and the machine where the code does the work that is left; those to the current work are
  -- still ahead of it.
  pub record Sim (t : Top) (all : List Answer) (spent : ℕ) (vs : List Variable) (left : List ContItem) (answers : List Answer) : Type 0 where
    pub before : ℕ
    pub state : LocalState
    pub at : Standing t left vs state
    pub paid : before + length answers ≡ spent
    pub fed : spent ≤ s.fuel
    pub runs : (more : List Answer) → Runs code m0 (all ++ more) (machine t before state) (answers ++ more)
    pub fresh : Fresh (first_work t vs left) answers
    pub waiting : Below (is_void_in t) t.receiver t.below t.under

  -- the process has left `main`, and the machine stands at its end
  pub record Over (all : List Answer) (spent : ℕ) : Type 0 where
    pub instrs : List Instr
    pub state : LocalState
    pub at_end : slice_get instrs state.at ≡ Some (i.Stop end)
    pub runs : (more : List Answer) → Runs code m0 (all ++ more) (machine_of spent (record { instrs = instrs; state = state } ∷ [])) more

  -- the process has arrived at a collective, and the machine stands at its departure
  pub record Met (t : Top) (all : List Answer) (spent : ℕ) (vs : List Variable) (left : List ContItem) (wait : Wait) : Type 0 where
    pub state : LocalState
    pub there : slice_get (code_in t) state.at ≡ Some (i.Depart wait.place)
    pub back : Departed t (is_done wait.wanted) left vs wait.receiver (record { at = state.at + 1; slots = state.slots; stack = state.stack })
    pub fed : spent ≤ s.fuel
    pub runs : (more : List Answer) → Runs code m0 (all ++ more) (machine t spent state) more
    pub waiting : Below (is_void_in t) t.receiver t.below t.under

  abbrev pub proc_at : Top → ℕ → List Variable → List ContItem → Wait → Process
  proc_at t spent vs left wait = record { setting = s; number = number; spent = spent; frames = frame t vs left ∷ t.below; wait = Some wait; answers = [] }

  abbrev pub Meeting : List Answer → Process → Type 0
  Meeting all q = (t : Top) × (spent : ℕ) × (vs : List Variable) × (left : List ContItem) × (wait : Wait) × (q ≡ proc_at t spent vs left wait) × Met t all spent vs left wait

  abbrev pub Result : List Answer → Process → Type 0
  Result all q = ((t : Top) × (spent : ℕ) × (vs : List Variable) × (left : List ContItem) × (answers : List Answer)
      × (q ≡ proc t spent vs left answers) × Sim t all spent vs left answers)
      ⊎ (((spent : ℕ) × (q ≡ gone spent) × Over all spent) ⊎ Meeting all q)

  -- behind a piece of work
  new_sim : (t : Top) (all : List Answer) (spent : ℕ) (vs : List Variable) (left : List ContItem) (u : LocalState) (q : Process) → q ≡ proc t spent vs left [] → Standing t left vs u → spent ≤ s.fuel
      → ((more : List Answer) → Runs code m0 (all ++ more) (machine t spent u) more) → Below (is_void_in t) t.receiver t.below t.under → Result all q
  new_sim t all spent vs left u q e at fed runs h =
      inl (t, spent, vs, left, [], e, record { before = spent; state = u; at = at; paid = omega arith; fed = fed; runs = runs; fresh = inl refl; waiting = h })

  jumped : (b : Bool) (p : Process) (f : tree.Frame) (fs : List tree.Frame) (x y : List Variable) (u v : List ContItem)
      → (if b then with_continuation p f fs x u else with_continuation p f fs y v) ≡ with_continuation p f fs (if b then x else y) (if b then u else v)
  jumped true p f fs x y u v = refl
  jumped false p f fs x y u v = refl

  asks_to : (request : Request) (go : Answer → Process) (q : Process) (b : Bool) → (if b then At request go else Faults Fuel request.place) ≡ To q → ⊥
  asks_to request go q true e = at_to request go q e
  asks_to request go q false e = faults_to Fuel request.place q e

  -- ---- returns

  -- without a value
  void_return : (b : Bool) (r : Receiver) (fs : List tree.Frame) (gs : List MachineFrame) → Below b r fs gs → b ≡ true
      → (c : List Instr) (u : LocalState) → slice_get c u.at ≡ Some i.Return → (all : List Answer) (spent : ℕ) → spent ≤ s.fuel
      → ((more : List Answer) → Runs code m0 (all ++ more) (machine_of spent (record { instrs = instrs_in (ending fs) c; state = u } ∷ gs))
      more) → (q : Process) → q ≡ process_of spent fs [] → Result all q
  void_return b r fs gs bottom e c u st all spent fed runs q k =
      inr (inl (spent, k, record { instrs = map (in_main end) c; state = u; at_end = main_instr end c u.at i.Return st; runs = runs }))
  void_return b r fs gs (waits {t = t} {vs = vs} {left = left} {u = x} back h) e c u st all spent fed runs q k =
      let here_now = machine_of spent (record { instrs = c; state = u } ∷ placed t x ∷ t.under) in
      let turned = λ (more : List Answer). ap (λ o. execute code here_now (record { instrs = c; state = u }) (placed t x ∷ t.under) o more) st in
      new_sim t all spent vs left x q k (inl (subst (λ b. Back t b left vs r x) e back)) fed
      (λ more. runs_then code m0 here_now (machine t spent x) (all ++ more) more more (runs more) (on (turned more) here)) h

  -- with a value
  value_return : (b : Bool) (r : Receiver) (fs : List tree.Frame) (gs : List MachineFrame) → Below b r fs gs → b ≡ false
      → (c : List Instr) (u : LocalState) (value : Held) → slice_get c u.at ≡ Some i.ReturnValue → top u.stack ≡ value
      → (all : List Answer) (spent : ℕ) → spent ≤ s.fuel
      → ((more : List Answer) → Runs code m0 (all ++ more) (machine_of spent (record { instrs = instrs_in (ending fs) c; state = u } ∷ gs))
      more) → (q : Process) → q ≡ process_of spent (deliver r (Some value) fs) [] → Result all q
  value_return b r fs gs bottom e c u value st is all spent fed runs q k = true_false true refl e
  value_return b r fs gs (waits {t = t} {vs = vs} {left = left} {u = x} back h) e c u value st is all spent fed runs q k =
      let here_now = machine_of spent (record { instrs = c; state = u } ∷ placed t x ∷ t.under) in
      let y : LocalState = record { at = x.at; slots = x.slots; stack = value ∷ x.stack } in
      let turned = λ (more : List Answer). ap (λ o. execute code here_now (record { instrs = c; state = u }) (placed t x ∷ t.under) o more) st
      ∙ ap (λ h. gives (On (machine t spent (record { at = x.at; slots = x.slots; stack = h ∷ x.stack }))) more) is in
      new_sim t all spent vs (Receive r value ∷ left) y q k (inl (subst (λ b. Back t b left vs r x) e back value)) fed
      (λ more. runs_then code m0 here_now (machine t spent y) (all ++ more) more more (runs more) (on (turned more) here)) h

  module _ (t : Top) (all : List Answer) (spent : ℕ) (vs : List Variable) (w : ContItem) (left : List ContItem) (answers : List Answer) (u : LocalState) (fed : spent ≤ s.fuel)
      (runs : (more : List Answer) → Runs code m0 (all ++ more) (machine t spent u) more) (waiting : Below (is_void_in t) t.receiver t.below t.under) where
    abbrev p : Process
    p = proc t spent vs (w ∷ left) answers

    abbrev f : tree.Frame
    f = frame t vs (w ∷ left)

    ticked : (q : Process) (at : Place) (new : List Variable) (works : List ContItem) (b : Bool) → nat_lt spent s.fuel ≡ b → slice_get (code_in t) u.at ≡ Some (i.Tick at)
        → Standing t (works ++ left) new (record { at = u.at + 1; slots = u.slots; stack = u.stack })
        → (if b then To (spends (with_continuation p f t.below new (works ++ left))) else Faults Fuel at) ≡ To q → Result all q
    ticked q at new works false e tick z k = absurd (faults_to Fuel at q k)
    ticked q at new works true e tick z k =
        let less = ltb-true spent s.fuel e in
        let x : LocalState = record { at = u.at + 1; slots = u.slots; stack = u.stack } in
        let turned = λ (more : List Answer).
        ap (λ o. execute code (machine t spent u) (placed t u) t.under o more) (in_instr (ending t.below) (code_in t) u.at (i.Tick at) (λ end. refl) tick)
        ∙ ap (λ b. (if b then gives (On (machine t (spent + 1) x)) else fails Fuel at) more) e in
        new_sim t all (spent + 1) new (works ++ left) x q (sym (to_same _ _ k)) z (omega (arith, less))
        (λ more. runs_then code m0 (machine t spent u) (machine t (spent + 1) x) (all ++ more) more more (runs more) (on (turned more) here)) waiting

    -- ---- calls

    module _ (at : Place) (m : NumberedMethod) (th : Option Id) (ps : List Variable) (r : Receiver) (z : Moved t left vs (Calls at m th ps r) u) where
      abbrev ready : Ready m th ps u.stack z.1
      ready = z.5

      -- the new innermost call
      abbrev inner : Top
      inner = record { method = m; this_id = th; receiver = r; below = frame t vs left ∷ t.below; under = placed t (record { at = u.at + 1; slots = u.slots; stack = z.1 }) ∷ t.under }

      abbrev start : LocalState
      start = record { at = 0; slots = pushed ready.args (own_slots (this_of m) th); stack = [] }

      many : nat_lt (length (placed t u ∷ t.under)) most_frames ≡ nat_lt (length (f ∷ t.below)) most_frames
      many = ap (λ n. nat_lt (suc n) most_frames) (sym (as_many (is_void_in t) t.receiver t.below t.under waiting))

      -- what the machine does
      call_turns : (rs : List Answer) → next_step code (machine t spent u) rs
          ≡ (if nat_lt spent s.fuel then guard (nat_lt (length (f ∷ t.below)) most_frames) Depth at (On (machine inner (spent + 1) start)) else fails Fuel at) rs
      call_turns rs =
          let callee = method_code s.program None m in
          ap (λ o. execute code (machine t spent u) (placed t u) t.under o rs) (in_instr (ending t.below) (code_in t) u.at (i.Call z.0 at) (λ end. refl) z.2)
          ∙ (ap (λ o. option_map_or (λ (callee : MethodCode). call_method (machine t spent u) (placed t u) t.under at callee callee.instance) o (gives (On (machine t spent u))) rs) (bodies z.0 m z.3 z.4)
          ∙ (enters (machine t spent u) (placed t u) t.under at callee (this_of m) th ready.args z.1 ready.receiver ready.are ready.rest rs
          ∙ (ap (λ hs. (if nat_lt spent s.fuel then guard (nat_lt (length (placed t u ∷ t.under)) most_frames) Depth at
          (On (machine inner (spent + 1) (record { at = 0; slots = hs; stack = [] }))) else fails Fuel at) rs)
          (sym (pushed_is ready.args (own_slots (this_of m) th)))
          ∙ ap (λ b. (if nat_lt spent s.fuel then guard b Depth at (On (machine inner (spent + 1) start)) else fails Fuel at) rs) many)))

      calls_to : (q : Process) (b d : Bool) → nat_lt spent s.fuel ≡ b → nat_lt (length (f ∷ t.below)) most_frames ≡ d
          → (if b then (if d then To (spends (enter_call p f t.below left (frame_of m th ps r))) else Faults Depth at) else Faults Fuel at) ≡ To q → Result all q
      calls_to q false d e h k = absurd (faults_to Fuel at q k)
      calls_to q true false e h k = absurd (faults_to Depth at q k)
      calls_to q true true e h k =
          let less = ltb-true spent s.fuel e in
          let turned = λ (more : List Answer). call_turns more
          ∙ (ap (λ b. (if b then guard (nat_lt (length (f ∷ t.below)) most_frames) Depth at (On (machine inner (spent + 1) start)) else fails Fuel at) more) e
          ∙ ap (λ b. guard b Depth at (On (machine inner (spent + 1) start)) more) h) in
          new_sim inner all (spent + 1) ps (all_before (numbered_stms m.body) []) start q (sym (to_same _ _ k))
          (begins_at s.program m th number s.procs ps (pushed ready.args (own_slots (this_of m) th)) (fine z.0 m z.3) ready.holds) (omega (arith, less))
          (λ more. runs_then code m0 (machine t spent u) (machine inner (spent + 1) start) (all ++ more) more more (runs more) (on (turned more) here))
          (waits z.6 waiting)

    moved : (q : Process) (move : Move) → Moved t left vs move u → moves p f t.below left move ≡ To q → Result all q
    moved q (Goes new works) z k = new_sim t all spent new (works ++ left) u q (sym (to_same _ _ k)) z fed runs waiting
    moved q (Turns at new works) z k = ticked q at new works (nat_lt spent s.fuel) refl z.0 z.1 k
    moved q Breaks z k = new_sim t all spent _ _ u q (sym (to_same _ _ k) ∙ jumped (has_mark left) p f t.below (variables_at_mark left vs) vs (past_mark left) left) z fed runs waiting
    moved q Continues z k = new_sim t all spent _ _ u q (sym (to_same _ _ k) ∙ jumped (has_mark left) p f t.below (variables_at_mark left vs) vs (from_mark left) left) z fed runs waiting
    moved q (Returns None) z k = void_return (is_void_in t) t.receiver t.below t.under waiting z.0 (code_in t) u z.1 all spent fed runs q (sym (to_same _ _ k))
    moved q (Returns (Some h)) z k = value_return (is_void_in t) t.receiver t.below t.under waiting z.0 (code_in t) u h z.1 z.2 all spent fed runs q (sym (to_same _ _ k))
    moved q (Calls at m th ps r) z k = calls_to at m th ps r z q (nat_lt spent s.fuel) (nat_lt (length (f ∷ t.below)) most_frames) refl refl k
    moved q (Meets wait arrival_of behind) z k = absurd (asks_to _ _ q (nat_lt spent s.fuel) k)
    moved q (Deletes at region) z k = absurd (asks_to _ _ q (nat_lt spent s.fuel) k)

  -- ---- steps

  at_same : (spent : ℕ) (request : Request) (go : Answer → Process) (b : Bool) → nat_lt spent s.fuel ≡ b
      → (q : Request) (found : Answer → Process) → (if b then At q found else Faults Fuel q.place) ≡ At request go
      → (found ≡ go) × (spent + 1 ≤ s.fuel) × (q ≡ request)
  at_same spent request go true e q found k =
      let less = ltb-true spent s.fuel e in
      (at_one k, omega (arith, less), at_request k)
    where
      at_one : At q found ≡ At request go → found ≡ go
      at_one e = cc

      at_request : At q found ≡ At request go → q ≡ request
      at_request e = cc
  at_same spent request go false e q found k = absurd (faults_at k)
    where
      faults_at : Faults Fuel q.place ≡ At request go → ⊥
      faults_at e = cc

  none_more : (m : Comp Move) → Computes m → (answers : List Answer) → Fresh m answers → (move : Move) (rest : List Answer) → m answers ≡ Gives move rest → rest ≡ []
  none_more m k answers (inl e) move rest z = none_left m k move rest (sym (ap m e) ∙ z)
  none_more m k answers (inr x) move rest z = used_up m k x.0 x.2 x.4 x.1 move rest (sym (ap m x.3) ∙ z)

  -- the instructions of the innermost frame
  in_frame : (t : Top) (u x : LocalState) (rs rest : List Answer) → ExecutesTo who (code_in t) u rs x rest → ExecutesTo (who_of code base) (instrs_in (ending t.below) (code_in t)) u rs x rest
  in_frame t u x rs rest k =
      subst (λ l. ExecutesTo (record { number = number; procs = s.procs; receivers = l }) (instrs_in (ending t.below) (code_in t)) u rs x rest) (sym receivers_same)
      (in_leads (ending t.below) who (code_in t) u x rs rest k)

  frame_effect : (t : Top) (u : LocalState) (rs : List Answer) → next_effect (who_of code base) (instrs_in (ending t.below) (code_in t)) u rs ≡ next_effect who (code_in t) u rs
  frame_effect t u rs =
      ap (λ l. next_effect (record { number = number; procs = s.procs; receivers = l }) (instrs_in (ending t.below) (code_in t)) u rs) receivers_same
      ∙ in_effect (ending t.below) who (code_in t) u rs

  -- the machine goes on to where the code stands behind the work
  ahead : (t : Top) (all answers : List Answer) (before spent : ℕ) (state u : LocalState) (rest : List Answer) → before + length answers ≡ spent
      → ((more : List Answer) → Runs code m0 (all ++ more) (machine t before state) (answers ++ more))
      → ExecutesTo who (code_in t) state answers u rest → rest ≡ [] → (more : List Answer) → Runs code m0 (all ++ more) (machine t spent u) more
  ahead t all answers before spent state u rest paid runs k none more =
      let path = leads_more who (code_in t) state u answers rest k more in
      let lifted = lift code base (first_frame t) t.under before state u (answers ++ more) (rest ++ more) (in_frame t state u (answers ++ more) (rest ++ more) path) in
      let ticks : before + (length (answers ++ more) - length (rest ++ more)) ≡ spent =
      omega (arith, paid, length-append answers more, length-append rest more, ap (λ (l : List Answer). length l) none) in
      let to_end = subst (λ n. Runs code (machine t before state) (answers ++ more) (machine t n u) (rest ++ more)) ticks lifted.1 in
      runs_then code m0 (machine t before state) (machine t spent u) (all ++ more) (answers ++ more) more (runs more)
      (subst (λ l. Runs code (machine t before state) (answers ++ more) (machine t spent u) (l ++ more)) none to_end)

  -- what comes to a move
  module _ (t : Top) (all : List Answer) (spent : ℕ) (vs : List Variable) (w : ContItem) (left : List ContItem) (answers : List Answer) (sim : Sim t all spent vs (w ∷ left) answers) where
    abbrev c : List Instr
    c = code_in t

    abbrev work : Comp Move
    work = first_work t vs (w ∷ left)

    abbrev process : Process
    process = proc t spent vs (w ∷ left) answers

    abbrev here_frame : tree.Frame
    here_frame = frame t vs (w ∷ left)

    abbrev Ahead : LocalState → Type 0
    Ahead u = (more : List Answer) → Runs code m0 (all ++ more) (machine t spent u) more

    computes : Computes work
    computes = work_computes (stands.env c s.program t.method t.this_id number s.procs vs left) w

    outcome : (rs : List Answer) → ReachesResult who c (Moved t left vs) sim.state rs (work rs)
    outcome = all_does c s.program t.method t.this_id number s.procs team_is w left vs sim.state sim.at

    came : (move : Move) (rest : List Answer) → work answers ≡ Gives move rest → (u : LocalState) × Moved t left vs move u × Ahead u
    came move rest z =
        let o = subst (λ g. ReachesResult who c (Moved t left vs) sim.state answers g) z (outcome answers) in
        (o.0, o.2, ahead t all answers sim.before spent sim.state o.0 rest sim.paid sim.runs o.1 (none_more work computes answers sim.fresh move rest z))

    stepped_by : (q : Process) (g : CompResult Move) → work answers ≡ g → step_of_result process g (moves process here_frame t.below left) ≡ To q → Result all q
    stepped_by q (Gives move rest) z e =
        let o = came move rest z in
        moved t all spent vs w left answers o.0 sim.fed o.2 sim.waiting q move o.1 e
    stepped_by q (Asks request) z e = absurd (asks_to request _ q (nat_lt spent s.fuel) e)
    stepped_by q (Fails kind at) z e = absurd (faults_to kind at q e)

    stepped : (q : Process) → step process ≡ To q → Result all q
    stepped q e = stepped_by q (work answers) refl e

    -- ---- answers

    heard : (q : Request) → work answers ≡ Asks q → spent + 1 ≤ s.fuel → (r : Answer) → Sim t (all ++ r ∷ []) (spent + 1) vs (w ∷ left) (answers ++ r ∷ [])
    heard q z fed r = record {
      before = sim.before;
      state = sim.state;
      at = sim.at;
      paid = omega (arith, sim.paid, length-append answers (r ∷ []));
      fed = fed;
      runs = λ more. subst (λ l. Runs code m0 l (machine t sim.before sim.state) ((answers ++ r ∷ []) ++ more)) (sym (append_assoc all (r ∷ []) more))
          (subst (λ l. Runs code m0 (all ++ r ∷ more) (machine t sim.before sim.state) l) (sym (append_assoc answers (r ∷ []) more)) (sim.runs (r ∷ more)));
      fresh = inr (answers, r, q, refl, z);
      waiting = sim.waiting;
    }

    ticks_no : (at : Place) (q : Process) (request : Request) (go : Answer → Process) (b : Bool) → (if b then To q else Faults Fuel at) ≡ At request go → ⊥
    ticks_no at q request go true e = cc
    ticks_no at q request go false e = cc

    calls_no : (at : Place) (q : Process) (request : Request) (go : Answer → Process) (b d : Bool) → (if b then (if d then To q else Faults Depth at) else Faults Fuel at) ≡ At request go → ⊥
    calls_no at q request go true true e = cc
    calls_no at q request go true false e = cc
    calls_no at q request go false d e = cc

    -- an arrival is answered
    arrived : (new : List ContItem) (wait : Wait) (deposit : Deposit) (u : LocalState) (stack : List Held) → slice_get c u.at
        ≡ Some (i.Arrive wait.kind wait.place) → slice_get c (u.at + 1) ≡ Some (i.Depart wait.place)
        → arrival_of wait.kind (machine t spent u) (placed t u) ≡ record { arg = wait.arg; deposit = deposit; stack = stack }
        → Departed t (is_done wait.wanted) new vs wait.receiver (record { at = u.at + 1 + 1; slots = u.slots; stack = stack }) → Ahead u → (request : Request) (go : Answer → Process)
        → arrives process (frame t vs new ∷ t.below) wait deposit ≡ At request go → (r : Answer) → Result (all ++ r ∷ []) (go r)
    arrived new wait deposit u stack there next_one hands back runs request go e r =
        let asked_for = request_of wait.place (act.Arrive wait.kind wait.arg deposit) ToBeDone in
        let found = λ (r : Answer). spends (proc_at t spent vs new wait) in
        let k = at_same spent request go (nat_lt spent s.fuel) refl asked_for found e in
        let x : LocalState = record { at = u.at + 1; slots = u.slots; stack = stack } in
        let turned = λ (rest : List Answer).
        ap (λ o. execute code (machine t spent u) (placed t u) t.under o (r ∷ rest)) (in_instr (ending t.below) c u.at (i.Arrive wait.kind wait.place) (λ end. refl) there)
        ∙ ap (λ (g : ArrivalOperands). Gives (On (machine t (spent + 1) (record { at = u.at + 1; slots = u.slots; stack = g.stack }))) rest) hands in
        inr (inr (
          t,
          spent + 1,
          vs,
          new,
          wait,
          ap (λ f. f r) (sym k.0),
          record {
            state = x;
            there = next_one;
            back = back;
            fed = k.1;
            runs = λ rest. subst (λ l. Runs code m0 l (machine t (spent + 1) x) rest) (sym (append_assoc all (r ∷ []) rest))
                (runs_then code m0 (machine t spent u) (machine t (spent + 1) x) (all ++ r ∷ rest) (r ∷ rest) rest (runs (r ∷ rest)) (on (turned rest) here));
            waiting = sim.waiting;
          },
        ))

    -- what the arrival at the delete of a region hands in
    delete_hands : (at : Place) (region : ℕ) (u : LocalState) (z : Moved t left vs (Deletes at region) u) → arrival_of coll.DeleteRegion (machine t spent u) (placed t u)
        ≡ record { arg = Some region; deposit = deposit.Count (tree_named region (here_frame ∷ t.below)); stack = z.3 }
    delete_hands at region u z =
        let frames = placed t u ∷ t.under in
        let same : named_in region frames ≡ tree_named region (here_frame ∷ t.below) =
        ap₂ (λ a b. a + b) (at_counts t region left vs u.slots z.6.1 z.6.2 z.6.4) (below_counts region (is_void_in t) t.receiver t.below t.under sim.waiting) in
        ap (λ stack. record { arg = Some (region_of (top stack)); deposit = deposit.Count (named_in (region_of (top stack)) frames); stack = below stack }) z.4
        ∙ (ap (λ r. record { arg = Some r; deposit = deposit.Count (named_in r frames); stack = z.3 }) z.5 ∙ ap (λ k. record { arg = Some region; deposit = deposit.Count k; stack = z.3 }) same)

    -- a move that asks nothing
    abbrev AsksNothing : Move → Type 0
    AsksNothing (Meets wait deposit more) = ⊥
    AsksNothing (Deletes at region) = ⊥
    AsksNothing move = Unit {0}

    no_move : (move : Move) (u : LocalState) (request : Request) (go : Answer → Process) → Moved t left vs move u → AsksNothing move → moves process here_frame t.below left move ≡ At request go → ⊥
    no_move (Goes new works) u request go z y e = to_at e
      where
        to_at : {q : Process} → To q ≡ At request go → ⊥
        to_at e = cc
    no_move (Turns at new works) u request go z y e = ticks_no at _ request go (nat_lt spent s.fuel) e
    no_move Breaks u request go z y e = cc
    no_move Continues u request go z y e = cc
    no_move (Returns None) u request go z y e = cc
    no_move (Returns (Some h)) u request go z y e = cc
    no_move (Calls at m th ps r) u request go z y e = calls_no at _ request go (nat_lt spent s.fuel) (nat_lt (length (here_frame ∷ t.below)) most_frames) e
    no_move (Meets wait arrival_of behind) u request go z y e = elim y [ ]
    no_move (Deletes at region) u request go z y e = elim y [ ]

    move_answered : (move : Move) (u : LocalState) → Moved t left vs move u → Ahead u → (request : Request) (go : Answer → Process)
        → moves process here_frame t.below left move ≡ At request go → (r : Answer) → Result (all ++ r ∷ []) (go r)
    move_answered (Meets wait deposit more) u z runs request go e r =
        arrived (more ++ left) wait deposit u z.2 z.0 z.1 (z.3 (machine t spent u) (placed t u) refl refl) z.4 runs request go e r
    move_answered (Goes new works) u z runs request go e r = absurd (no_move (Goes new works) u request go z tt e)
    move_answered (Turns at new works) u z runs request go e r = absurd (no_move (Turns at new works) u request go z tt e)
    move_answered Breaks u z runs request go e r = absurd (no_move Breaks u request go z tt e)
    move_answered Continues u z runs request go e r = absurd (no_move Continues u request go z tt e)
    move_answered (Returns value) u z runs request go e r = absurd (no_move (Returns value) u request go z tt e)
    move_answered (Calls at m th ps s) u z runs request go e r = absurd (no_move (Calls at m th ps s) u request go z tt e)
    move_answered (Deletes at region) u z runs request go e r =
        arrived left (delete_wait at region) (deposit.Count (tree_named region (here_frame ∷ t.below))) u z.3 z.0 z.1 (delete_hands at region u z) (inl z.6) runs request go e r

    answered_by : (request : Request) (go : Answer → Process) (g : CompResult Move) → work answers ≡ g
        → step_of_result process g (moves process here_frame t.below left) ≡ At request go → (r : Answer) → Result (all ++ r ∷ []) (go r)
    answered_by request go (Gives move rest) z e r =
        let o = came move rest z in
        move_answered move o.0 o.1 o.2 request go e r
    answered_by request go (Asks q) z e r =
        let k = at_same spent request go (nat_lt spent s.fuel) refl q (λ a. spends (add_answer process a)) e in
        inl (t, spent + 1, vs, w ∷ left, answers ++ r ∷ [], ap (λ f. f r) (sym k.0), heard q z k.1 r)
    answered_by request go (Fails kind at) z e r = absurd (faults_at e)
      where
        faults_at : Faults kind at ≡ At request go → ⊥
        faults_at e = cc

    answered_so : (request : Request) (go : Answer → Process) → step process ≡ At request go → (r : Answer) → Result (all ++ r ∷ []) (go r)
    answered_so request go e r = answered_by request go (work answers) refl e r

    -- ---- what is next

    pub nothing_left : (kind : FaultKind) (at : Place) (u : LocalState) (rest : List Answer) → ExecutesTo who c sim.state answers u rest → next_effect who c u rest ≡ Fails kind at → rest ≡ []
    nothing_left kind at u rest k f = by sim.fresh
      where
        by : Fresh work answers → rest ≡ []
        by (inl e) = none_first who c sim.state u answers rest k e
        by (inr x) =
            let o = subst (λ g. ReachesResult who c (Moved t left vs) sim.state x.0 g) x.4 (outcome x.0) in
            let last = asks_last who c o.0 o.1 o.3.request o.3.is in
            fails_last who c sim.state o.0 u x.0 rest o.3.request x.1 kind at (subst (λ l. ExecutesTo who c sim.state x.0 o.0 l) last o.2) (sym (ap (next_effect who c o.0) last) ∙ o.3.is)
            (subst (λ l. ExecutesTo who c sim.state l u rest) x.3 k) f

    -- the machine stands there
    reached : (u : LocalState) → Ahead u → Runs code m0 all (machine t spent u) []
    reached u runs = subst (λ l. Runs code m0 l (machine t spent u) []) (append-nil all) (runs [])

    none_some : (n : Next) → ◌≡◌ {A = Option Next} None (Some n) → ⊥
    none_some n e = cc

    asks_next : (n : Next) (q r : Request) (go : Answer → Process) (u : LocalState) (b : Bool) → nat_lt spent s.fuel ≡ b → r.place ≡ q.place → r.action ≡ q.action → Runs code m0 all (machine t spent u) []
        → next_step code (machine t spent u) [] ≡ (if nat_lt spent s.fuel then Asks r else Fails Fuel r.place) → tree_shown (if b then At q go else Faults Fuel q.place) ≡ Some n → HasNext code m0 all n
    asks_next n q r go u true e x y runs z k = (
      machine t spent u,
      runs,
      ap code_shown z ∙ (ap (λ b. code_shown (if b then Asks r else Fails Fuel r.place)) e
          ∙ (ap (λ p. Some (next.Act p r.action)) x ∙ ap (λ a. Some (next.Act q.place a)) y ∙ k)),
    )
    asks_next n q r go u false e x y runs z k =
        (machine t spent u, runs, ap code_shown z ∙ (ap (λ b. code_shown (if b then Asks r else Fails Fuel r.place)) e ∙ (ap (λ p. Some (next.Fault Fuel p)) x ∙ k)))

    tick_next : (n : Next) (at : Place) (u : LocalState) (to : Process) (b : Bool) → nat_lt spent s.fuel ≡ b → slice_get c u.at ≡ Some (i.Tick at) → Runs code m0 all (machine t spent u) []
        → tree_shown (if b then To to else Faults Fuel at) ≡ Some n → HasNext code m0 all n
    tick_next n at u to true e tick runs k = absurd (none_some n k)
    tick_next n at u to false e tick runs k =
        let x : LocalState = record { at = u.at + 1; slots = u.slots; stack = u.stack } in (
          machine t spent u,
          runs,
          ap (λ o. code_shown (execute code (machine t spent u) (placed t u) t.under o [])) (in_instr (ending t.below) c u.at (i.Tick at) (λ end. refl) tick)
              ∙ (ap (λ b. code_shown ((if b then gives (On (machine t (spent + 1) x)) else fails Fuel at) [])) e ∙ k),
        )

    -- a call without a tick left, or beyond the deepest
    call_next : (n : Next) (at : Place) (u : LocalState) (to : Process) (after : Machine) (b d : Bool) → Runs code m0 all (machine t spent u) []
        → next_step code (machine t spent u) [] ≡ (if b then guard d Depth at (On after) else fails Fuel at) []
        → tree_shown (if b then (if d then To to else Faults Depth at) else Faults Fuel at) ≡ Some n → HasNext code m0 all n
    call_next n at u to after true true runs z k = absurd (none_some n k)
    call_next n at u to after true false runs z k = (machine t spent u, runs, ap code_shown z ∙ k)
    call_next n at u to after false d runs z k = (machine t spent u, runs, ap code_shown z ∙ k)

    -- an arrival is next
    arrives_next : (n : Next) (wait : Wait) (deposit : Deposit) (u : LocalState) (stack : List Held) (go : Answer → Process) → slice_get c u.at ≡ Some (i.Arrive wait.kind wait.place)
        → arrival_of wait.kind (machine t spent u) (placed t u) ≡ record { arg = wait.arg; deposit = deposit; stack = stack } → Ahead u
        → tree_shown (if nat_lt spent s.fuel then At (request_of wait.place (act.Arrive wait.kind wait.arg deposit) ToBeDone) go else Faults Fuel wait.place) ≡ Some n → HasNext code m0 all n
    arrives_next n wait deposit u stack go there hands runs k =
        let asked_for = request_of wait.place (act.Arrive wait.kind wait.arg deposit) ToBeDone in
        let turned : next_step code (machine t spent u) [] ≡ (if nat_lt spent s.fuel then Asks asked_for else Fails Fuel wait.place) =
        ap (λ o. execute code (machine t spent u) (placed t u) t.under o []) (in_instr (ending t.below) c u.at (i.Arrive wait.kind wait.place) (λ end. refl) there)
        ∙ ap (λ (g : ArrivalOperands). if nat_lt spent s.fuel then Asks (request_of wait.place (act.Arrive wait.kind g.arg g.deposit) ToBeDone) else Fails Fuel wait.place) hands in
        asks_next n asked_for asked_for go u (nat_lt spent s.fuel) refl refl refl (reached u runs) turned k

    moved_next : (n : Next) (move : Move) (u : LocalState) → Moved t left vs move u → Ahead u → tree_shown (moves process here_frame t.below left move) ≡ Some n → HasNext code m0 all n
    moved_next n (Turns at new works) u z runs k = tick_next n at u _ (nat_lt spent s.fuel) refl z.0 (reached u runs) k
    moved_next n (Calls at m th ps r) u z runs k =
        call_next n at u _ _ (nat_lt spent s.fuel) (nat_lt (length (here_frame ∷ t.below)) most_frames) (reached u runs)
        (call_turns t all spent vs w left answers u sim.fed runs sim.waiting at m th ps r z []) k
    moved_next n (Meets wait deposit more) u z runs k = arrives_next n wait deposit u z.2 _ z.0 (z.3 (machine t spent u) (placed t u) refl refl) runs k
    moved_next n (Deletes at region) u z runs k =
        arrives_next n (delete_wait at region) (deposit.Count (tree_named region (here_frame ∷ t.below))) u z.3 _ z.0 (delete_hands at region u z) runs k
    moved_next n (Returns None) u z runs k = absurd (none_some n k)
    moved_next n (Returns (Some h)) u z runs k = absurd (none_some n k)
    moved_next n _ u z runs k = absurd (none_some n k)

    next_by : (n : Next) (g : CompResult Move) → work answers ≡ g → tree_shown (step_of_result process g (moves process here_frame t.below left)) ≡ Some n → HasNext code m0 all n
    next_by n (Gives move rest) z k =
        let o = came move rest z in
        moved_next n move o.0 o.1 o.2 k
    next_by n (Asks q) z k =
        let o = subst (λ g. ReachesResult who c (Moved t left vs) sim.state answers g) z (outcome answers) in
        let last = asks_last who c o.0 o.1 o.3.request o.3.is in
        let runs = reached o.0 (ahead t all answers sim.before spent sim.state o.0 o.1 sim.paid sim.runs o.2 last) in
        let there = frame_effect t o.0 [] ∙ (sym (ap (next_effect who c o.0) last) ∙ o.3.is) in
        asks_next n q o.3.request (λ a. spends (add_answer process a)) o.0 (nat_lt spent s.fuel) refl o.3.place o.3.action runs
        (turn_stops code base (first_frame t) t.under spent o.0 [] (Asks o.3.request) there tt) k
    next_by n (Fails kind at) z k =
        let o = subst (λ g. ReachesResult who c (Moved t left vs) sim.state answers g) z (outcome answers) in
        let last = nothing_left kind at o.0 o.1 o.2 o.3 in
        let runs = reached o.0 (ahead t all answers sim.before spent sim.state o.0 o.1 sim.paid sim.runs o.2 last) in
        let there = frame_effect t o.0 [] ∙ (sym (ap (next_effect who c o.0) last) ∙ o.3) in
        (machine t spent o.0, runs, ap code_shown (turn_stops code base (first_frame t) t.under spent o.0 [] (Fails kind at) there tt) ∙ k)

    pub next_so : (n : Next) → tree_shown (step process) ≡ Some n → HasNext code m0 all n
    next_so n k = next_by n (work answers) refl k

  -- ---- whole runs

  -- the work is done
  stepped_out : (t : Top) (all : List Answer) (spent : ℕ) (vs : List Variable) (answers : List Answer) → Sim t all spent vs [] answers
      → (q : Process) → step (proc t spent vs [] answers) ≡ To q → Result all q
  stepped_out t all spent vs answers sim q e =
      let none = nothing_asked sim.fresh in
      let o = end_does (code_in t) s.program t.method t.this_id number s.procs team_is vs sim.state sim.at answers in
      void_return (is_void_in t) t.receiver t.below t.under sim.waiting o.2.0 (code_in t) o.0 o.2.1 all spent sim.fed
      (ahead t all answers sim.before spent sim.state o.0 answers sim.paid sim.runs o.1 none) q
      (sym (to_same (process_of spent t.below []) q e))
    where
      nothing_asked : Fresh (gives (Returns None)) answers → answers ≡ []
      nothing_asked (inl e) = e
      nothing_asked (inr x) = absurd (never x.4)
        where
          never : {q : Request} {move : Move} {rs : List Answer} → ◌≡◌ {A = CompResult Move} (Gives move rs) (Asks q) → ⊥
          never e = cc

  ends_to : (at : Place) (q : Process) → Ends at ≡ To q → ⊥
  ends_to at q e = cc

  ends_at : (at : Place) (request : Request) (go : Answer → Process) → Ends at ≡ At request go → ⊥
  ends_at at request go e = cc

  to_at : (p : Process) (request : Request) (go : Answer → Process) → To p ≡ At request go → ⊥
  to_at p request go e = cc

  -- ---- departures

  settled_same : (p t u : Process) (a b : Request) (f g : Answer → Process) → Reaches p t → Reaches p u → step t ≡ At a f → step u ≡ At b g → t ≡ u
  settled_same p t u a b f g told.here told.here e k = refl
  settled_same p t u a b f g told.here (told.later z h) e k = absurd (at_to a f _ (sym e ∙ z))
  settled_same p t u a b f g (told.later z h) told.here e k = absurd (at_to b g _ (sym k ∙ z))
  settled_same p t u a b f g (told.later {q = x} z h) (told.later {q = y} w l) e k =
      settled_same x t u a b f g h (subst (λ q. Reaches q u) (sym (to_same x y (sym z ∙ w))) l) e k

  -- an answer that fits what the process has next
  fits_there : (p t : Process) (request : Request) (go : Answer → Process) (r : Answer) → FitsAction p r → Reaches p t → step t ≡ At request go → FitsWanted request.wanted r
  fits_there p t request go r f h e =
      let same = settled_same p f.settled t f.request request f.go go f.reaches h f.stands e in
      subst (λ (q : Request). FitsWanted q.wanted r) (request_same (sym f.stands ∙ (ap step same ∙ e))) f.fits
    where
      request_same : At f.request f.go ≡ At request go → f.request ≡ request
      request_same e = cc

  -- what the departure gives is on the operands, where it is a value
  module _ (t : Top) (all : List Answer) (spent : ℕ) (vs : List Variable) (left : List ContItem) (wait : Wait) (met : Met t all spent vs left wait) (r : Answer) (q : Process) (fed : spent + 1 ≤ s.fuel) where
    abbrev after_it : List Held → LocalState
    after_it stack = record { at = met.state.at + 1; slots = met.state.slots; stack = stack }

    left_so : (ws : List ContItem) → Standing t ws vs (after_it (push_departure met.state.stack r)) → q ≡ proc t (spent + 1) vs ws [] → Result (all ++ r ∷ []) q
    left_so ws at e =
        let x = after_it (push_departure met.state.stack r) in
        let turned = λ (rest : List Answer). ap (λ o. execute code (machine t spent met.state) (placed t met.state) t.under o (r ∷ rest))
        (in_instr (ending t.below) (code_in t) met.state.at (i.Depart wait.place) (λ end. refl) met.there) in
        new_sim t (all ++ r ∷ []) (spent + 1) vs ws x q e at fed
        (λ rest. subst (λ l. Runs code m0 l (machine t (spent + 1) x) rest) (sym (append_assoc all (r ∷ []) rest))
        (runs_then code m0 (machine t spent met.state) (machine t (spent + 1) x) (all ++ r ∷ rest) (r ∷ rest) rest (met.runs (r ∷ rest)) (on (turned rest) here)))
        met.waiting

    leaves : (wanted : Wanted) → FitsWanted wanted r → Departed t (is_done wanted) left vs wait.receiver (after_it met.state.stack)
        → q ≡ process_of (spent + 1) (deliver wait.receiver (value_asked wanted r) (frame t vs left ∷ t.below)) [] → Result (all ++ r ∷ []) q
    leaves ToBeDone f back e = left_so left (subst (λ a. Standing t left vs (after_it (push_departure met.state.stack a))) (sym f) back) e
    leaves (ValueOf type) f back e = left_so (Receive wait.receiver (value_of r) ∷ left)
        (subst (λ a. Standing t (Receive wait.receiver (value_of a) ∷ left) vs (after_it (push_departure met.state.stack a))) (sym f.1)
        (inl (back (Plain f.0)))) e
    leaves (NewThing type) f back e = left_so (Receive wait.receiver (value_of r) ∷ left)
        (subst (λ a. Standing t (Receive wait.receiver (value_of a) ∷ left) vs (after_it (push_departure met.state.stack a))) (sym f.1)
        (inl (back (Plain f.0)))) e

  -- a silent step
  silent : (all : List Answer) (p q : Process) → Result all p → step p ≡ To q → Result all q
  silent all p q (inr (inl x)) e = absurd (ends_to _ q (sym (ap step x.1) ∙ e))
  silent all p q (inr (inr x)) e = absurd (asks_to _ _ q (nat_lt x.1 s.fuel) (sym (ap step x.5) ∙ e))
  silent all p q (inl x) e = by x.3 x.6 (sym (ap step x.5) ∙ e)
    where
      by : (left : List ContItem) → Sim x.0 all x.1 x.2 left x.4 → step (proc x.0 x.1 x.2 left x.4) ≡ To q → Result all q
      by [] sim k = stepped_out x.0 all x.1 x.2 x.4 sim q k
      by (w ∷ left) sim k = stepped x.0 all x.1 x.2 w left x.4 sim q k

  -- an answer
  told_so : (all : List Answer) (p : Process) (request : Request) (go : Answer → Process) → Result all p → step p ≡ At request go
      → (r : Answer) → FitsWanted request.wanted r → Result (all ++ r ∷ []) (go r)
  told_so all p request go (inr (inl x)) e r fits = absurd (ends_at _ request go (sym (ap step x.1) ∙ e))
  told_so all p request go (inr (inr x)) e r fits =
      let wait = x.4 in
      let asked_for = request_of wait.place act.Depart wait.wanted in
      let found = λ (r : Answer). process_of (x.1 + 1) (deliver wait.receiver (value_asked wait.wanted r) (frame x.0 x.2 x.3 ∷ x.0.below)) [] in
      let k = at_same x.1 request go (nat_lt x.1 s.fuel) refl asked_for found (sym (ap step x.5) ∙ e) in
      leaves x.0 all x.1 x.2 x.3 wait x.6 r (go r) k.1 wait.wanted (subst (λ (q : Request). FitsWanted q.wanted r) (sym k.2) fits) x.6.back (ap (λ f. f r) (sym k.0))
  told_so all p request go (inl x) e r fits = by x.3 x.6 (sym (ap step x.5) ∙ e)
    where
      by : (left : List ContItem) → Sim x.0 all x.1 x.2 left x.4 → step (proc x.0 x.1 x.2 left x.4) ≡ At request go → Result (all ++ r ∷ []) (go r)
      by [] sim k = absurd (to_at (process_of x.1 x.0.below []) request go k)
      by (w ∷ left) sim k = answered_so x.0 all x.1 x.2 w left x.4 sim request go k r

  reaches : (all : List Answer) (p q : Process) → Result all p → Reaches p q → Result all q
  reaches all p q x told.here = x
  reaches all p q x (told.later {q = r} e k) = reaches all r q (silent all p r x e) k

  after : (all rs : List Answer) (p q : Process) → Result all p → Fit p rs → After p rs q → Result (all ++ rs) q
  after all rs p q x fit told.none = subst (λ l. Result l q) (sym (append-nil all)) x
  after all rs p q x fit (told.more {q = t} {request = request} {go = go} {answer = r} {rest = rest} k e h) =
      let fits = fits_there p t request go r (fit [] rest r p refl told.none) k e in
      let more = λ (before last : List Answer) (a : Answer) (y : Process) (z : rest ≡ before ++ a ∷ last) (l : After (go r) before y). fit
      (r ∷ before) last a y (ap (λ l. r ∷ l) z) (told.more k e l) in
      subst (λ l. Result l q) (append_assoc all (r ∷ []) rest) (after (all ++ r ∷ []) rest (go r) q (told_so all t request go (reaches all p t x k) e r fits) more h)

  -- a departure is next, or no tick is left for it
  depart_next : (all : List Answer) (spent : ℕ) (n : Next) (wait : Wait) (m : Machine) (b : Bool) → Runs code m0 all m [] → next_step code m []
      ≡ (if b then Asks (request_of wait.place act.Depart ToBeDone) else Fails Fuel wait.place)
      → (go : Answer → Process) → tree_shown (if b then At (request_of wait.place act.Depart wait.wanted) go else Faults Fuel wait.place) ≡ Some n → HasNext code m0 all n
  depart_next all spent n wait m true runs z go k = (m, runs, ap code_shown z ∙ k)
  depart_next all spent n wait m false runs z go k = (m, runs, ap code_shown z ∙ k)

  -- what the process has next, the code has
  module _ (ends : end_of s.program ≡ end) where
    shown_so : (all : List Answer) (p : Process) (n : Next) → Result all p → tree_shown (step p) ≡ Some n → HasNext code m0 all n
    shown_so all p n (inr (inr x)) k =
        let t = x.0 in
        let wait = x.4 in
        let met = x.6 in
        let turned : next_step code (machine t x.1 met.state) [] ≡ (if nat_lt x.1 s.fuel then Asks (request_of wait.place act.Depart ToBeDone) else Fails Fuel wait.place) =
        ap (λ o. execute code (machine t x.1 met.state) (placed t met.state) t.under o []) (in_instr (ending t.below) (code_in t) met.state.at (i.Depart wait.place) (λ end. refl) met.there) in
        depart_next all x.1 n wait (machine t x.1 met.state) (nat_lt x.1 s.fuel)
        (subst (λ l. Runs code m0 l (machine t x.1 met.state) []) (append-nil all) (met.runs [])) turned _
        (sym (ap (λ z. tree_shown (step z)) x.5) ∙ k)
    shown_so all p n (inr (inl x)) k =
        let o = x.2 in
        let m = machine_of x.0 (record { instrs = o.instrs; state = o.state } ∷ []) in (
          m,
          subst (λ l. Runs code m0 l m []) (append-nil all) (o.runs []),
          ap (λ z. code_shown (execute code m (record { instrs = o.instrs; state = o.state }) [] z [])) o.at_end
              ∙ (ap (λ at. Some (next.End at)) (sym ends) ∙ (sym (ap (λ z. tree_shown (step z)) x.1) ∙ k)),
        )
    shown_so all p n (inl x) k = by x.3 x.6 (sym (ap (λ z. tree_shown (step z)) x.5) ∙ k)
      where
        by : (left : List ContItem) → Sim x.0 all x.1 x.2 left x.4 → tree_shown (step (proc x.0 x.1 x.2 left x.4)) ≡ Some n → HasNext code m0 all n
        by [] sim k = absurd (never k)
          where
            never : ◌≡◌ {A = Option Next} None (Some n) → ⊥
            never e = cc
        by (w ∷ left) sim k = next_so x.0 all x.1 x.2 w left x.4 sim n k

    -- from processes and machines that stand alike on: after any answers, the code has next what the process has
    pub follows_from : (p : Process) (rs : List Answer) (q : Process) (n : Next) → Result [] p → Fit p rs → After p rs q → IsNext q n → HasNext code m0 rs n
    follows_from p rs q n x fit k is = shown_so rs is.0 n (reaches rs q is.0 (after [] rs p q x fit k) is.1.reaches) is.1.stands
