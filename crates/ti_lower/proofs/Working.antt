-- Proves that the code of a frame carries out the work that is pending in it.
use Rattle.std.proofs.Common.{◌≡◌, ◌⊎◌, ℕ, ◌+◌, ◌==◌, ◌≤◌, Bool, true, false, slice_get, List, [], ◌∷◌, length, Option, Some, None, refl, sym, ◌∙◌, subst, arith}
use Rattle.ti_base.specs.declared.place.Place.{Place}
use Rattle.ti_base.specs.declared.point.Point.{Point}
use Rattle.ti_base.specs.declared.value.Id.{Id}
use Rattle.ti_lang.specs.Program.Expressions.{NumberedExp}
use Rattle.ti_lang.specs.Program.Statements.{NumberedInit, NumberedStm, MaybeNumbered, NoStm, SomeStm, NumberedStms, Nil, Cons}
use Rattle.ti_lang.specs.Program.Statements as s
use Rattle.ti_lang.specs.Program.Classes.{ProgramView}
use Rattle.ti_lang.specs.Program.Types.{ValueType}
use Rattle.ti_lang.specs.Program.Scope.{this_of}
use Rattle.ti_lang.specs.Typing.Called.{called_method}
use Rattle.ti_lang.specs.Typing.Declared.{result_type}
use Rattle.ti_lang.specs.Typing.Kinds.{is_void}
use Rattle.ti_lang.specs.Meaning.Held.{Held, points_in}
use Rattle.ti_lang.specs.Meaning.Calls.{Call, call_by, parameters_of}
use Rattle.ti_lang.specs.Meaning.Processes.{Variable, Receiver, Loop, While, Foreach, ContItem, Do, End, Before, Behind, Receive}
use Rattle.ti_lang.specs.Meaning.Scoping.{without_variables}
use Rattle.ti_lang.specs.Meaning.Turns.{Turn, turns_at}
use Rattle.ti_lang.specs.Meaning.Performing.{declared_in, declared_among, declared_alone}
use Rattle.ti_lang.specs.Meaning.Jumps.{has_mark, from_mark, past_mark, variables_at_mark}
use Rattle.ti_code.specs.declared.instr.Instr.{Instr}
use Rattle.ti_code.specs.declared.instr.Instr.TheVariants as i
use Rattle.ti_code.specs.Effects.{oldest_slots}
use Rattle.ti_code.specs.Leading.{CodeAt, pc_after}
use Rattle.ti_lower_expr.specs.declared.kinds.OperandClass.{OperandClass}
use Rattle.ti_lower_expr.specs.declared.kinds.StaticRepr.TheVariants as known
use Rattle.ti_lower_expr.specs.Slots.{Name, This, Of, Hidden, SlotsHold, none, object, variable, turn, hidden}
use Rattle.ti_lower_expr.specs.Slots as slot_of
use Rattle.ti_lower.specs.Calling.{number_called}
use Rattle.ti_lower.specs.Receivers.{names_behind, late_code}
use Rattle.ti_lower.specs.StmtCode.{LoopTargets, names_after, loop_code, walk_code, stm_code, maybe_code}
use Rattle.ti_lower_expr.proofs.Lemmas.{as_many}
use Rattle.ti_lower.proofs.Arguments.{AreArgs, IsObject}
use Rattle.ti_lower.proofs.Cutting.{Bare, cut_bare, Stay, Cut, cut_less, trimmed_holds, trimmed_twice, trimmed_all, trimmed_newest}
use Rattle.ti_lower.proofs.Lengths.{again_at, test_at, exit_at}

-- ---- what the rules say of a statement

module _ (program : ProgramView) (this : Option ℕ) (result : ValueType) where
  -- a call of another method than `main`, with an argument for each parameter, and with an object where there is a `this`
  pub record IsCalled (x : NumberedExp) : Type 0 where
    pub call : Call
    pub is : call_by x (called_method program this x) ≡ Some call
    pub object : IsObject call.object (this_of call.method)
    pub args : AreArgs (parameters_of call.method.params) call.args
    pub not_main : (number_called program this x == program.main) ≡ false

  -- it calls no method
  abbrev pub IsNoCall : NumberedExp → Type 0
  IsNoCall x = call_by x (called_method program this x) ≡ None

  -- a right side: a call that gives a value, or another value
  abbrev pub IsRight : NumberedExp → Type 0
  IsRight x = IsNoCall x ⊎ ((z : IsCalled x) × (is_void (result_type z.call.method) ≡ false))

  abbrev pub InitFine : NumberedInit → Type 0
  InitFine (s.Value x) = IsRight x
  InitFine value = Unit {0}

  -- it declares nothing itself
  abbrev pub IsClosed : NumberedStm → Type 0
  IsClosed (s.Declare p type number value) = ⊥
  IsClosed x = Unit {0}

  abbrev mutual
    -- calls are fine, a `return` gives a value where the method does, no branch and no body is a declaration, and what a block declares isn't
    -- in scope before it, where slots have these names
    pub StmFine : NumberedStm → List Name → Type 0
    StmFine (s.Declare p type number value) names = InitFine value
    StmFine (s.Assign p target value) names = InitFine value
    StmFine (s.Update p op target x) names = IsRight x
    StmFine (s.Call x) names = IsNoCall x ⊎ IsCalled x
    StmFine (s.Block body) names = Stay (declared_among body) names × StmsFine body names
    StmFine (s.If p c x) names = IsClosed x × StmFine x names
    StmFine (s.IfElse p c x y) names = (IsClosed x × StmFine x names) × IsClosed y × StmFine y names
    StmFine (s.While p c body) names = IsClosed body × StmFine body names
    StmFine (s.For p NoStm c update body) names = MaybeFine update names × IsClosed body × StmFine body names
    StmFine (s.For p (SomeStm first) c update body) names =
        Stay (declared_alone first) names × StmFine first names × MaybeFine update (names_after first names) × IsClosed body × StmFine body (names_after first names)
    StmFine (s.Foreach p x domain body) names = IsClosed body × StmFine body (slot_of.Point x ∷ names)
    StmFine (s.Return p None) names = is_void result ≡ true
    StmFine (s.Return p (Some x)) names = is_void result ≡ false
    StmFine x names = Unit {0}

    -- the update of a loop
    pub MaybeFine : MaybeNumbered → List Name → Type 0
    MaybeFine NoStm names = Unit {0}
    MaybeFine (SomeStm x) names = IsClosed x × StmFine x names

    pub StmsFine : NumberedStms → List Name → Type 0
    StmsFine Nil names = Unit {0}
    StmsFine (Cons x rest) names = StmFine x names × StmsFine rest (names_after x names)

  pub closed_names : (x : NumberedStm) (names : List Name) → IsClosed x → names_after x names ≡ names
  closed_names (s.Declare p type number value) names z = elim z [ ]
  closed_names x names z = refl

-- ---- the work that is left

module _ (c : List Instr) (program : ProgramView) (this : Option ℕ) (result : ValueType) where
  -- the body and the update of a loop, from an instruction on
  abbrev pub body_at : NumberedStm → List Name → Option LoopTargets → ℕ → List Instr
  body_at body names l from = stm_code program this result body l names from

  abbrev pub update_at : MaybeNumbered → Option LoopTargets → List Name → ℕ → List Instr
  update_at update l names from = maybe_code program this result update l names from

  -- a loop with a condition, within labels
  abbrev pub loop_of : Place → Option LoopTargets → List Name → Option NumberedExp → MaybeNumbered → NumberedStm → ℕ → List Instr
  loop_of p l names cond update body at = loop_code program this p names cond (body_at body names) (update_at update l names) at

  abbrev pub again_of : List Name → NumberedStm → ℕ → ℕ
  again_of names body at = again_at (body_at body names) false at

  abbrev pub test_of : Option LoopTargets → List Name → MaybeNumbered → NumberedStm → ℕ → ℕ
  test_of l names update body at = test_at (body_at body names) (update_at update l names) at

  abbrev pub exit_of : Option LoopTargets → List Name → Option NumberedExp → MaybeNumbered → NumberedStm → ℕ → ℕ
  exit_of l names cond update body at = exit_at program this result names cond (body_at body names) (update_at update l names) at

  abbrev pub labels_of : Option LoopTargets → List Name → Option NumberedExp → MaybeNumbered → NumberedStm → ℕ → LoopTargets
  labels_of l names cond update body at =
      record { again = again_of names body at; kept = length names; exit = exit_of l names cond update body at; left = length names; walks = false }

  -- it stands there
  pub record LoopAt (p : Place) (l : Option LoopTargets) (names : List Name) (cond : Option NumberedExp) (update : MaybeNumbered) (body : NumberedStm) (at : ℕ) : Type 0 where
    pub stands : CodeAt c at (loop_of p l names cond update body at)
    pub update_fine : MaybeFine program this result update names
    pub closed : IsClosed program this result body
    pub fine : StmFine program this result body names

  -- a loop over points
  abbrev pub walk_of : Place → List Name → ℕ → NumberedStm → ℕ → List Instr
  walk_of p names x body at = walk_code program this p names (body_at body (slot_of.Point x ∷ names)) at

  abbrev pub lap_of : List Name → ℕ → NumberedStm → ℕ → ℕ
  lap_of names x body at = again_at (body_at body (slot_of.Point x ∷ names)) true at

  abbrev pub walk_labels : List Name → ℕ → NumberedStm → ℕ → LoopTargets
  walk_labels names x body at =
      record { again = lap_of names x body at; kept = length names + 1; exit = lap_of names x body at + 1 + 1 + 1 + 1; left = length names; walks = true }

  pub record WalkAt (p : Place) (names : List Name) (x : ℕ) (body : NumberedStm) (at : ℕ) : Type 0 where
    pub stands : CodeAt c at (walk_of p names x body at)
    pub closed : IsClosed program this result body
    pub fine : StmFine program this result body (slot_of.Point x ∷ names)

  mutual
    -- From the instruction on the code does the work that is left, within a loop with these labels, where slots have these names and these
    -- operands are below.
    pub data Left : Option LoopTargets → List Name → List Held → List ContItem → ℕ → Type 0 where
      returns : {at : ℕ} {names : List Name} → is_void result ≡ true → slice_get c at ≡ Some i.Return → Left None names [] [] at
      -- the last item of a method with a result
      last : {l : Option LoopTargets} {names : List Name} {stack : List Held} {at : ℕ} {p : Place} {x : NumberedExp} → is_void result ≡ false
          → CodeAt c at (stm_code program this result (s.Return p (Some x)) l names at) → Left l names stack (Do (s.Return p (Some x)) ∷ []) at
      -- a value that a call or a collective gave goes to its receiver
      receives : {l : Option LoopTargets} {names : List Name} {stack : List Held} {left : List ContItem} {at : ℕ} {r : Receiver} {h : Held} → (kind : OperandClass)
          → CodeAt c at (late_code program this r kind known.Other names at) → Left l (names_behind r names) stack left (pc_after at (late_code program this r kind known.Other names at))
          → Left l names (h ∷ stack) (Receive r h ∷ left) at
      over : {l : Option LoopTargets} {names : List Name} {stack : List Held} {left : List ContItem} {at target : ℕ} → slice_get c at ≡ Some (i.Jump target)
          → Left l names stack left target → Left l names stack left at
      some : {l : Option LoopTargets} {names : List Name} {stack : List Held} {left : List ContItem} {at : ℕ} {x : NumberedStm} → StmFine program this result x names → Mark l names stack left
          → CodeAt c at (stm_code program this result x l names at) → Left l (names_after x names) stack left
          (pc_after at (stm_code program this result x l names at)) → Left l names stack (Do x ∷ left) at
      closes : {l : Option LoopTargets} {names before : List Name} {stack : List Held} {left : List ContItem} {at : ℕ} {x : NumberedStm} → Cut (declared_in x) names before
          → slice_get c at ≡ Some (i.Trim (length before)) → Left l before stack left (at + 1) → Left l names stack (End x ∷ left) at
      -- a loop before its condition, and at the end of a turn
      tests : {l : Option LoopTargets} {names : List Name} {stack : List Held} {left : List ContItem} {at test : ℕ} {p : Place} {cond : Option NumberedExp} {update : MaybeNumbered} {body : NumberedStm}
          → LoopAt p l names cond update body at → test ≡ test_of l names update body at → Mark l names stack left → Left l names stack left (exit_of l names cond update body at)
          → Left l names stack (Before (While p cond update body) ∷ left) test
      marks : {l : Option LoopTargets} {names : List Name} {stack : List Held} {left : List ContItem} {at : ℕ} {p : Place} {cond : Option NumberedExp} {update : MaybeNumbered} {body : NumberedStm}
          → LoopAt p l names cond update body at → Mark l names stack left → Left l names stack left (exit_of l names cond update body at)
          → Left (Some (labels_of l names cond update body at)) names stack (Behind (While p cond update body) ∷ left) (again_of names body at)
      -- a loop over points before its next point, the domain of those that are left on top; and at the end of a turn
      steps : {l : Option LoopTargets} {names : List Name} {stack : List Held} {left : List ContItem} {at next : ℕ} {p : Place} {x : ℕ}
          {domain : NumberedExp} {points : List Point} {body : NumberedStm} {h : Held}
          → WalkAt p names x body at → next ≡ lap_of names x body at + 1 → Mark l names stack left → Left l names stack left (lap_of names x body at + 1 + 1 + 1 + 1) → points_in h ≡ points
          → Left l names (h ∷ stack) (Before (Foreach p x domain points body) ∷ left) next
      laps : {l : Option LoopTargets} {names : List Name} {stack : List Held} {left : List ContItem} {at : ℕ} {p : Place} {x : ℕ}
          {domain : NumberedExp} {q : Point} {points : List Point} {body : NumberedStm} {h : Held}
          → WalkAt p names x body at → Mark l names stack left → Left l names stack left (lap_of names x body at + 1 + 1 + 1 + 1) → points_in h ≡ points
          → Left (Some (walk_labels names x body at)) (slot_of.Point x ∷ names) (h ∷ stack) (Behind (Foreach p x domain (q ∷ points) body) ∷ left) (lap_of names x body at)

    -- the innermost loop around the work that is left has these labels; where there are none, there is no loop
    pub data Mark : Option LoopTargets → List Name → List Held → List ContItem → Type 0 where
      nowhere : {names : List Name} {stack : List Held} → Mark None names stack []
      do_one : {l : Option LoopTargets} {names : List Name} {stack : List Held} {left : List ContItem} {x : NumberedStm} → Mark l names stack left → Mark l names stack (Do x ∷ left)
      end_one : {l : Option LoopTargets} {names before : List Name} {stack : List Held} {left : List ContItem} {x : NumberedStm}
          → Cut (declared_in x) names before → Mark l before stack left → Mark l names stack (End x ∷ left)
      before_one : {l : Option LoopTargets} {names : List Name} {stack : List Held} {left : List ContItem} {loop : Loop} → Mark l names stack left → Mark l names stack (Before loop ∷ left)
      here_one : {l : Option LoopTargets} {labels : LoopTargets} {names : List Name} {stack : List Held} {left : List ContItem} {p : Place} {cond : Option NumberedExp} {update : MaybeNumbered} {body : NumberedStm}
          → labels.kept ≡ length names → labels.left ≡ length names → labels.walks ≡ false
          → Left (Some labels) names stack (Behind (While p cond update body) ∷ left) labels.again → Left l names stack left labels.exit
          → Mark (Some labels) names stack (Behind (While p cond update body) ∷ left)
      here_walk : {l : Option LoopTargets} {labels : LoopTargets} {names : List Name} {stack : List Held} {left : List ContItem} {p : Place} {x : ℕ}
          {domain : NumberedExp} {q : Point} {points : List Point} {body : NumberedStm} {h : Held}
          → labels.kept ≡ length names + 1 → labels.left ≡ length names → labels.walks ≡ true
          → Left (Some labels) (slot_of.Point x ∷ names) (h ∷ stack) (Behind (Foreach p x domain (q ∷ points) body) ∷ left) labels.again → Left l names stack left labels.exit
          → Mark (Some labels) (slot_of.Point x ∷ names) (h ∷ stack) (Behind (Foreach p x domain (q ∷ points) body) ∷ left)

  -- ---- jumps

  -- the operands behind a loop, which drops its domain where it walks over one
  abbrev pub IsDropped : Bool → List Held → List Held → Type 0
  IsDropped true stack behind_it = (h : Held) × (stack ≡ h ∷ behind_it)
  IsDropped false stack behind_it = stack ≡ behind_it

  -- where jumps to the mark of the innermost loop and past it lead
  pub record Out (labels : LoopTargets) (this_id : Option Id) (vs : List Variable) (slots stack : List Held) (left : List ContItem) : Type 0 where
    pub marked : has_mark left ≡ true
    pub names_again : List Name
    pub bare_again : Bare names_again
    pub holds_again : SlotsHold this_id names_again (variables_at_mark left vs) (turns_at (from_mark left)) (oldest_slots labels.kept slots)
    pub repeats : Left (Some labels) names_again stack (from_mark left) labels.again
    pub outer : Option LoopTargets
    pub names : List Name
    pub bare : Bare names
    pub stack_behind : List Held
    pub dropped : IsDropped labels.walks stack stack_behind
    pub holds : SlotsHold this_id names (variables_at_mark left vs) (turns_at (past_mark left)) (oldest_slots labels.left slots)
    pub exits : Left outer names stack_behind (past_mark left) labels.exit

  few_kept : (labels : LoopTargets) (names : List Name) (stack : List Held) (left : List ContItem) → Mark (Some labels) names stack left → (labels.kept ≤ length names) × (labels.left ≤ length names)
  few_kept labels names stack ws (do_one {left = left} m) = few_kept labels names stack left m
  few_kept labels names stack ws (end_one {before = before} {left = left} {x = x} k m) =
      let few = few_kept labels before stack left m in
      let less = cut_less (declared_in x) names before k in
      (omega (arith, less, few.0), omega (arith, less, few.1))
  few_kept labels names stack ws (before_one {left = left} m) = few_kept labels names stack left m
  few_kept labels names stack ws (here_one k n w again exit) = (omega (arith, k), omega (arith, n))
  few_kept labels all stack ws (here_walk k n w again exit) = (omega (arith, k), omega (arith, n))

  -- a slot of a loop's point is the newest
  pub unturned : (this_id : Option Id) (all ns : List Name) (vs : List Variable) (ts rest : List Turn) (t : Turn) (hs : List Held) (x : ℕ)
      → SlotsHold this_id all vs ts hs → all ≡ slot_of.Point x ∷ ns → ts ≡ t ∷ rest
      → (g : Held) × (gs : List Held) × (hs ≡ g ∷ gs) × SlotsHold this_id ns vs rest gs
  unturned this_id all ns vs ts rest t hs x (none z) e f = absurd (never e)
    where
      never : [] ≡ slot_of.Point x ∷ ns → ⊥
      never e = cc
  unturned this_id all ns vs ts rest t hs x object e f = absurd (never e)
    where
      never : This ∷ [] ≡ slot_of.Point x ∷ ns → ⊥
      never e = cc
  unturned this_id all ns vs ts rest t hs x (variable {ns = ms} {x = y} z k) e f = absurd (never e)
    where
      never : Of y ∷ ms ≡ slot_of.Point x ∷ ns → ⊥
      never e = cc
  unturned this_id all ns vs ts rest t hs x (hidden {ns = ms} k) e f = absurd (never e)
    where
      never : Hidden ∷ ms ≡ slot_of.Point x ∷ ns → ⊥
      never e = cc
  unturned this_id all ns vs ts rest t hs x (turn {ns = ms} {ts = rs} {hs = gs} {t = r} k) e f =
      (_, gs, refl, subst (λ us. SlotsHold this_id ns vs us gs) (others r t rs rest f) (subst (λ us. SlotsHold this_id us vs rs gs) (below e) k))
    where
      below : slot_of.Point r.variable ∷ ms ≡ slot_of.Point x ∷ ns → ms ≡ ns
      below e = cc

      others : (r t : Turn) (rs rest : List Turn) → r ∷ rs ≡ t ∷ rest → rs ≡ rest
      others r t rs rest e = cc

  pub jump_out : (labels : LoopTargets) (this_id : Option Id) (names : List Name) (vs : List Variable) (slots stack : List Held) (left : List ContItem) → Mark (Some labels) names stack left
      → SlotsHold this_id names vs (turns_at left) slots → Bare names → Out labels this_id vs slots stack left
  jump_out labels this_id names vs slots stack ws (do_one {left = left} m) h bare =
      let out = jump_out labels this_id names vs slots stack left m h bare in
      record {
        marked = out.marked;
        names_again = out.names_again;
        bare_again = out.bare_again;
        holds_again = out.holds_again;
        repeats = out.repeats;
        outer = out.outer;
        names = out.names;
        bare = out.bare;
        stack_behind = out.stack_behind;
        dropped = out.dropped;
        holds = out.holds;
        exits = out.exits;
      }
  jump_out labels this_id names vs slots stack ws (before_one {left = left} m) h bare =
      let out = jump_out labels this_id names vs slots stack left m h bare in
      record {
        marked = out.marked;
        names_again = out.names_again;
        bare_again = out.bare_again;
        holds_again = out.holds_again;
        repeats = out.repeats;
        outer = out.outer;
        names = out.names;
        bare = out.bare;
        stack_behind = out.stack_behind;
        dropped = out.dropped;
        holds = out.holds;
        exits = out.exits;
      }
  jump_out labels this_id names vs slots stack ws (end_one {before = before} {left = left} {x = x} k m) h bare =
      let xs = declared_in x in
      let out = jump_out labels this_id before (without_variables xs vs) (oldest_slots (length before) slots) stack left m
      (trimmed_holds this_id xs names before vs (turns_at left) slots k h) (cut_bare xs names before k bare) in
      let few = few_kept labels before stack left m in
      record {
        marked = out.marked;
        names_again = out.names_again;
        bare_again = out.bare_again;
        holds_again = subst (λ hs. SlotsHold this_id out.names_again (variables_at_mark left (without_variables xs vs)) (turns_at (from_mark left)) hs)
            (trimmed_twice labels.kept (length before) slots few.0) out.holds_again;
        repeats = out.repeats;
        outer = out.outer;
        names = out.names;
        bare = out.bare;
        stack_behind = out.stack_behind;
        dropped = out.dropped;
        holds = subst (λ hs. SlotsHold this_id out.names (variables_at_mark left (without_variables xs vs)) (turns_at (past_mark left)) hs) (trimmed_twice labels.left (length before) slots few.1) out.holds;
        exits = out.exits;
      }
  jump_out labels this_id names vs slots stack ws (here_one {l = l} {left = left} k n w again exit) h bare =
      let many = as_many this_id names vs (turns_at left) slots h in
      record {
        marked = refl;
        names_again = names;
        bare_again = bare;
        holds_again = subst (λ hs. SlotsHold this_id names vs (turns_at left) hs) (sym (trimmed_all labels.kept slots (k ∙ many))) h;
        repeats = again;
        outer = l;
        names = names;
        bare = bare;
        stack_behind = stack;
        dropped = subst (λ b. IsDropped b stack stack) (sym w) refl;
        holds = subst (λ hs. SlotsHold this_id names vs (turns_at left) hs) (sym (trimmed_all labels.left slots (n ∙ many))) h;
        exits = exit;
      }
  jump_out labels this_id all vs slots stack ws (here_walk {l = l} {names = names} {stack = below} {left = left} {p = p} {x = x}
      {domain = domain} {q = q} {points = points} {body = body} {h = top} k n w again exit) h bare =
      let ts = turns_at left in
      let t : Turn = record { variable = x; point = q } in
      let un = unturned this_id (slot_of.Point x ∷ names) names vs (t ∷ ts) ts t slots x h refl refl in
      let fewer : length names ≡ length un.1 = as_many this_id names vs ts un.1 un.3 in
      record {
        marked = refl;
        names_again = slot_of.Point x ∷ names;
        bare_again = bare;
        holds_again = subst (λ hs. SlotsHold this_id (slot_of.Point x ∷ names) vs (t ∷ ts) hs)
            (sym (trimmed_all labels.kept slots (omega (arith, k, as_many this_id (slot_of.Point x ∷ names) vs (t ∷ ts) slots h)))) h;
        repeats = again;
        outer = l;
        names = names;
        bare = bare;
        stack_behind = below;
        dropped = subst (λ b. IsDropped b (top ∷ below) below) (sym w) (top, refl);
        holds = subst (λ hs. SlotsHold this_id names vs ts (oldest_slots labels.left hs)) (sym un.2) (subst (λ hs. SlotsHold this_id names vs ts hs) (sym (trimmed_newest labels.left un.0 un.1 (n ∙ fewer))) un.3);
        exits = exit;
      }

  -- in no loop there is no mark
  pub unmarked : (names : List Name) (stack : List Held) (left : List ContItem) → Mark None names stack left → has_mark left ≡ false
  unmarked names stack ws nowhere = refl
  unmarked names stack ws (do_one {left = left} m) = unmarked names stack left m
  unmarked names stack ws (end_one {before = before} {left = left} k m) = unmarked before stack left m
  unmarked names stack ws (before_one {left = left} m) = unmarked names stack left m
