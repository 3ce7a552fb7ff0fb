-- Proves that the code carries out each step of the pending work.
use Rattle.std.proofs.Common.{◌≡◌, inl, inr, ℕ, pos, ◌+◌, Bool, true, false, if◌then◌else◌, slice_get, List, [], ◌∷◌, ◌++◌, length, map, Option, Some, None, refl, ap, sym, ◌∙◌, subst}
use Rattle.std.proofs.lemmas.List.{append_assoc}
use Rattle.ti_base.specs.declared.place.Place.{Place}
use Rattle.ti_base.specs.declared.point.Point.{Point}
use Rattle.ti_base.specs.declared.value.Id.{Id}
use Rattle.ti_base.specs.declared.action.CollKind.TheVariants as coll
use Rattle.ti_base.specs.declared.action.Deposit.TheVariants as deposit
use Rattle.ti_base.specs.declared.value.Value.TheVariants as val
use Rattle.ti_base.specs.Rects.{points_of}
use Rattle.ti_lang.specs.Program.Types.{ValueType, VariableUse}
use Rattle.ti_lang.specs.Program.Types as t
use Rattle.ti_lang.specs.Program.Expressions.{NumberedExp, NumberedExps}
use Rattle.ti_lang.specs.Program.Expressions as e
use Rattle.ti_lang.specs.Program.Statements.{NumberedInit, NumberedStm, MaybeNumbered, NoStm, SomeStm, NumberedStms, Nil, Cons}
use Rattle.ti_lang.specs.Program.Statements as s
use Rattle.ti_lang.specs.Program.Classes.{ProgramView, NumberedMethod}
use Rattle.ti_lang.specs.Program.Scope.{this_of}
use Rattle.ti_lang.specs.Typing.BuiltIn.{BuiltIn, Copy, Exchange, Delete}
use Rattle.ti_lang.specs.Typing.Called.{called_method, member_called}
use Rattle.ti_lang.specs.Typing.Declared.{result_type}
use Rattle.ti_lang.specs.Typing.Kinds.{is_void}
use Rattle.ti_lang.specs.Meaning.Held.{Held, Plain, Dm, region_of, truth, truth_of, points_in, dim_of}
use Rattle.ti_lang.specs.Meaning.Comp.{ToBeDone, ValueOf, Comp, Gives, bind_result, gives}
use Rattle.ti_lang.specs.Meaning.Processes.{Variable, Wait, Receiver, Nowhere, Declared, Assigned, Updated, Receive, While, Foreach, CopyAll, TakeAll, ContItem, Do, End, Before, Behind, all_before}
use Rattle.ti_lang.specs.Meaning.Scoping.{Env, without_variables}
use Rattle.ti_lang.specs.Meaning.Turns.{Turn, turns_at}
use Rattle.ti_lang.specs.Meaning.Evaluation.{eval}
use Rattle.ti_lang.specs.Meaning.Moves.{Move, Goes, Turns, Breaks, Continues, Returns, Calls, Meets, Deletes, receives}
use Rattle.ti_lang.specs.Meaning.Statements.{maybe_do, declared_as, one_more, valued_or_called, initialized, made_first, alone, member_alone, returns, printed, statement}
use Rattle.ti_lang.specs.Meaning.Collectives.{team, broadcasts}
use Rattle.ti_lang.specs.Meaning.Copies.{count_up, element_at}
use Rattle.ti_lang.specs.Meaning.Makers.{new_object, new_grid}
use Rattle.ti_lang.specs.Meaning.Conversions.{converted}
use Rattle.ti_lang.specs.Meaning.Calls.{call_by, called, calling}
use Rattle.ti_lang.specs.Meaning.Performing.{declared_in, declared_among, declared_alone, condition, before_turn, exec_item}
use Rattle.ti_lang.specs.Meaning.Jumps.{from_mark, past_mark, variables_at_mark}
use Rattle.ti_code.specs.declared.instr.Instr.{Instr}
use Rattle.ti_code.specs.declared.instr.Instr.TheVariants as i
use Rattle.ti_code.specs.Effects.{LocalState, Who, effect, oldest_slots, next_point}
use Rattle.ti_code.specs.Leading.{CodeAt, pc_after}
use Rattle.ti_lower_expr.specs.Slots.{Hidden, SlotsHold, turn, Name, Of, This}
use Rattle.ti_lower_expr.specs.Slots as slot_of
use Rattle.ti_lower_expr.specs.declared.kinds.OperandClass.{OperandClass}
use Rattle.ti_lower_expr.specs.declared.kinds.OperandClass.TheVariants.{Numbers}
use Rattle.ti_lower_expr.specs.declared.kinds.StaticRepr.{StaticRepr}
use Rattle.ti_lower_expr.specs.declared.kinds.StaticRepr.TheVariants as known
use Rattle.ti_lower_expr.specs.Knowing.{HasRepr, known_of}
use Rattle.ti_lower_expr.specs.Coding.{kind_in, code_of, conversion}
use Rattle.ti_lower.specs.Calling.{number_called, call_code}
use Rattle.ti_lower.specs.Receivers.{names_behind, into_code, late_code}
use Rattle.ti_lower.specs.StmtCode.{LoopTargets, unknown, pop_domain, broadcast_code, object_code, grid_code, valued_code, init_code, form_code, other_code, alone_code, gives_nothing, break_code, continue_code, names_after, condition_code, stm_code, stms_code, maybe_code}
use Rattle.ti_lower_expr.specs.Doing.{Implements}
use Rattle.ti_lower_expr.proofs.Lemmas.{front_stands, rest_stands, behind_both, does_then, does_value, does_weaker, does_behind, Comes}
use Rattle.ti_lower_expr.proofs.Lemmas.{known_is_so, untold, does, convert_does, instr, next, next_known, as_many, jumps, jumps_not}
use Rattle.ti_lower.proofs.Meeting.{Hands, wait_of, broadcast_does}
use Rattle.ti_lower.proofs.Arguments.{method_is, calling_does}
use Rattle.ti_lower.proofs.Cutting.{Bare, cut_bare, Cut, Inside, Stay, inside_front, inside_itself, inside_rest, newest, trimmed_all, trimmed_newest, trimmed_holds, whole}
use Rattle.ti_lower.proofs.Writing.{new_put}
use Rattle.ti_lower.proofs.Lengths.{same_length, loop_length, walk_length, body_steady}
use Rattle.ti_lower.proofs.Receiving as way
use Rattle.ti_lower.proofs.Statements as simple
use Rattle.ti_lower.proofs.Making as making
use Rattle.ti_lower.proofs.Grids as grids
use Rattle.ti_lower.proofs.Elements.{copied_does, taken_does}
use Rattle.ti_lower.proofs.Working as left
use Rattle.ti_lower.proofs.Working.{IsCalled, IsNoCall, IsRight, InitFine, IsClosed, StmFine, StmsFine, MaybeFine, closed_names, LoopAt}
use Rattle.ti_lower.proofs.Working.{loop_of, again_of, test_of, exit_of, labels_of, WalkAt, walk_of, lap_of, walk_labels, Left, last}
use Rattle.ti_lower.proofs.Working.{receives as receives_left, over, some, closes, tests, marks, steps, laps, Mark, do_one, end_one}
use Rattle.ti_lower.proofs.Working.{before_one, here_one, here_walk, IsDropped, jump_out, unmarked, unturned}
use Rattle.ti_lower.proofs.Standing as standing
use Rattle.ti_lower.proofs.Standing.{is_done}

module _ (c : List Instr) (program : ProgramView) (method : NumberedMethod) (this_id : Option Id) (number procs : ℕ) (team_is : points_of (team procs) ≡ map element_at (count_up 0 procs)) where
  abbrev this : Option ℕ
  this = this_of method

  abbrev result : ValueType
  result = result_type method

  abbrev pub who : Who
  who = standing.who c program method this_id number procs

  abbrev pub env : List Variable → List ContItem → Env
  env = standing.env c program method this_id number procs

  abbrev stm : NumberedStm → Option LoopTargets → List Name → ℕ → List Instr
  stm = stm_code program this result

  abbrev Plainly : List ContItem → List Variable → LocalState → Type 0
  Plainly = standing.Plainly c program method this_id number procs

  abbrev pub At : List ContItem → List Variable → LocalState → Type 0
  At = standing.At c program method this_id number procs

  abbrev pub Back : Bool → List ContItem → List Variable → Receiver → LocalState → Type 0
  Back = standing.Back c program method this_id number procs

  abbrev pub Moved : List ContItem → List Variable → Move → LocalState → Type 0
  Moved = standing.Moved c program method this_id number procs

  abbrev IsLeft : Option LoopTargets → List Name → List Held → List ContItem → ℕ → Type 0
  IsLeft = Left c program this result

  abbrev IsMark : Option LoopTargets → List Name → List Held → List ContItem → Type 0
  IsMark = Mark c program this result

  -- a simple statement is done
  done : (left : List ContItem) (vs : List Variable) (l : Option LoopTargets) (n : ℕ) (names ns : List Name) (stack slots : List Held)
      (holds : SlotsHold this_id names vs (turns_at left) slots) (move : Move) (s : LocalState)
      → IsLeft l ns stack left n → Bare ns → simple.Goes_on c (env vs left) names slots holds n ns stack move s → Moved left vs move s
  done left vs l n names ns stack slots holds move s w bare k =
      subst (λ m. Moved left vs m s) (sym k.1) (subst (λ z. At left k.0 z) (sym k.2.2) (inl (l, ns, k.2.1, w, bare)))

  done_by : (left : List ContItem) (vs : List Variable) (l : Option LoopTargets) (n : ℕ) (names ns : List Name) (stack slots : List Held)
      (holds : SlotsHold this_id names vs (turns_at left) slots) (s : LocalState) (m : Comp Move)
      → IsLeft l ns stack left n → Bare ns → Implements who c s m (simple.Goes_on c (env vs left) names slots holds n ns stack) → Implements who c s m (Moved left vs)
  done_by left vs l n names ns stack slots holds s m w bare d =
      does_weaker who c (simple.Goes_on c (env vs left) names slots holds n ns stack) (Moved left vs) s m d (λ move t k. done left vs l n names ns stack slots holds move t w bare k)

  bare_behind : (r : Receiver) (names : List Name) → Bare names → Bare (names_behind r names)
  bare_behind (Declared p x) names z = z
  bare_behind r names z = z

  -- ---- blocks

  mark_through : (l : Option LoopTargets) (ns before : List Name) (stack : List Held) (left : List ContItem) (x : NumberedStm) (xs : NumberedStms) → Cut (declared_in x) ns before → IsMark l before stack left
      → IsMark l ns stack (all_before xs (End x ∷ left))
  mark_through l ns before stack left x Nil k m = end_one k m
  mark_through l ns before stack left x (Cons y ys) k m = do_one (mark_through l ns before stack left x ys k m)

  cut_one : (xs : List VariableUse) (y : NumberedStm) (ns before : List Name) → Inside xs (declared_alone y) → Cut xs ns before → Cut xs (names_after y ns) before
  cut_one xs (s.Declare p type variable value) ns before i k = newest i.0 k
  cut_one xs y ns before i k = k

  -- the statements of a block, and then its end
  block_left : (l : Option LoopTargets) (ns before : List Name) (stack : List Held) (left : List ContItem) (x : NumberedStm) (xs : NumberedStms)
      (at : ℕ) → Inside (declared_in x) (declared_among xs) → StmsFine program this result xs ns
      → Cut (declared_in x) ns before → IsMark l before stack left → CodeAt c at (stms_code program this result xs l ns at ++ i.Trim (length before) ∷ [])
      → IsLeft l before stack left (pc_after at (stms_code program this result xs l ns at) + 1) → IsLeft l ns stack (all_before xs (End x ∷ left)) at
  block_left l ns before stack left x Nil at ins z k m st w = closes k st.0 w
  block_left l ns before stack left x (Cons y ys) at ins z k m st w =
      let first = stm y l ns at in
      let more = stms_code program this result ys l (names_after y ns) (pc_after at first) in
      let cut = cut_one (declared_in x) y ns before (inside_front (declared_in x) (declared_alone y) (declared_among ys) ins) k in
      let stands = subst (λ is. CodeAt c at is) (append_assoc first more (i.Trim (length before) ∷ [])) st in
      some z.0 (mark_through l ns before stack left x ys k m) (front_stands c at first (more ++ i.Trim (length before) ∷ []) stands)
      (block_left l (names_after y ns) before stack left x ys (pc_after at first)
      (inside_rest (declared_in x) (declared_alone y) (declared_among ys) ins) z.1 cut m
      (rest_stands c at first (more ++ i.Trim (length before) ∷ []) stands)
      (subst (λ n. IsLeft l before stack left (n + 1)) (behind_both at first more) w))

  before_both : (xs : NumberedStms) (ws left : List ContItem) → all_before xs ws ++ left ≡ all_before xs (ws ++ left)
  before_both Nil ws left = refl
  before_both (Cons y ys) ws left = ap (λ r. Do y ∷ r) (before_both ys ws left)

  turns_through : (xs : NumberedStms) (x : NumberedStm) (left : List ContItem) → turns_at (all_before xs (End x ∷ left)) ≡ turns_at left
  turns_through Nil x left = refl
  turns_through (Cons y ys) x left = turns_through ys x left

  stay_none : (ns : List Name) → Stay [] ns
  stay_none [] = tt
  stay_none (This ∷ ns) = stay_none ns
  stay_none (Of y ∷ ns) = (refl, stay_none ns)
  stay_none (slot_of.Point n ∷ ns) = stay_none ns
  stay_none (Hidden ∷ ns) = stay_none ns

  -- a statement that is closed, and what comes behind it
  closed_left : (l : Option LoopTargets) (names : List Name) (stack : List Held) (left : List ContItem) (x : NumberedStm) (at n : ℕ)
      → IsClosed program this result x → StmFine program this result x names → IsMark l names stack left
      → CodeAt c at (stm x l names at) → pc_after at (stm x l names at) ≡ n → IsLeft l names stack left n → IsLeft l names stack (Do x ∷ left) at
  closed_left l names stack left x at n closed z m st e w =
      some z m st (subst (λ ns. IsLeft l ns stack left (pc_after at (stm x l names at))) (sym (closed_names program this result x names closed)) (subst (λ k. IsLeft l names stack left k) (sym e) w))

  -- where the code of a loop ends
  loop_end : (p : Place) (l : Option LoopTargets) (names : List Name) (cond : Option NumberedExp) (update : MaybeNumbered) (body : NumberedStm) (at : ℕ)
      → pc_after at (loop_of c program this result p l names cond update body at) ≡ exit_of c program this result l names cond update body at
  loop_end p l names cond update body at =
      loop_length program this result p names cond (λ m from. stm body m names from) (λ from. maybe_code program this result update l names from) at (body_steady program this result body names false)

  -- ---- statements

  by_truth : (left : List ContItem) (vs : List Variable) (h : Held) (f : Bool → Move) (s : LocalState)
      → ((b : Bool) → truth_of h ≡ b → Implements who c s (gives (f b)) (Moved left vs)) → Implements who c s (gives (f (truth_of h))) (Moved left vs)
  by_truth left vs h f s g = g (truth_of h) refl

  -- a value that is given back
  return_does : (left : List ContItem) (vs : List Variable) (names : List Name) (slots stack : List Held) (at : ℕ)
      (holds : SlotsHold this_id names vs (turns_at left) slots) (p : Place) (x : NumberedExp) → is_void result ≡ false
      → CodeAt c at (code_of program this names x at ++ (conversion p result (known_of program this x) ++ i.ReturnValue ∷ []))
      → Implements who c (record { at = at; slots = slots; stack = stack }) (returns (env vs left) p (Some x)) (Moved left vs)
  return_does left vs names slots stack at holds p x void st =
      let xs = code_of program this names x at in
      let mid = pc_after at xs in
      let j = known_of program this x in
      let change = conversion p result j in
      let n = pc_after mid change in
      let rest = rest_stands c at xs (change ++ i.ReturnValue ∷ []) st in
      next_known c (env vs left) names slots holds (HasRepr j) (Moved left vs) mid stack (record { at = at; slots = slots; stack = stack })
      (eval (env vs left) x) (λ h rs. bind_result (converted p result h rs) (λ k. gives (Returns (Some k))))
      (known_is_so (env vs left) names slots holds x) (does c (env vs left) names slots holds x at stack (front_stands c at xs (change ++ i.ReturnValue ∷ []) st))
      (λ h z. next c (env vs left) names slots holds (Moved left vs) n stack (record { at = mid; slots = slots; stack = h ∷ stack }) (converted p result h) (λ k. gives (Returns (Some k)))
      (convert_does c (env vs left) names slots holds result j p h mid stack z (front_stands c mid change (i.ReturnValue ∷ []) rest))
      (λ k. does_value who c (Moved left vs) (record { at = n; slots = slots; stack = k ∷ stack }) (Returns (Some k)) (void, (rest_stands c mid change (i.ReturnValue ∷ []) rest).0, refl)))

  module _ (left : List ContItem) (vs : List Variable) (l : Option LoopTargets) (names : List Name) (slots stack : List Held) (at : ℕ) (holds : SlotsHold this_id names vs (turns_at left) slots) (m : IsMark l names stack left) (bare : Bare names) where
    abbrev state : ℕ → List Held → LocalState
    state n operands = record { at = n; slots = slots; stack = operands }

    abbrev here : Env
    here = env vs left

    if_does : (h : Held) (x : NumberedStm) (mid : ℕ) → IsClosed program this result x → StmFine program this result x names
        → CodeAt c mid (i.JumpIfNot (pc_after (mid + 1) (stm x l names (mid + 1))) ∷ stm x l names (mid + 1))
        → IsLeft l names stack left (pc_after (mid + 1) (stm x l names (mid + 1))) → (b : Bool) → truth_of h ≡ b
        → Implements who c (state mid (h ∷ stack)) (gives (Goes vs (if b then Do x ∷ [] else []))) (Moved left vs)
    if_does h x mid closed z st w true e =
        does_behind who c (Moved left vs) (state mid (h ∷ stack)) (state (mid + 1) stack) (gives (Goes vs (Do x ∷ []))) (i.JumpIfNot (pc_after (mid + 1) (stm x l names (mid + 1)))) st.0
        (λ rs. jumps_not who false _ (state mid (h ∷ stack)) rs e)
        (does_value who c (Moved left vs) (state (mid + 1) stack) (Goes vs (Do x ∷ [])) (inl (l, names, holds, closed_left l names stack left x (mid + 1) _ closed z m st.1 refl w, bare)))
    if_does h x mid closed z st w false e =
        let end = pc_after (mid + 1) (stm x l names (mid + 1)) in
        does_behind who c (Moved left vs) (state mid (h ∷ stack)) (state end stack) (gives (Goes vs [])) (i.JumpIfNot end) st.0 (λ rs. jumps who false end (state mid (h ∷ stack)) rs e)
        (does_value who c (Moved left vs) (state end stack) (Goes vs []) (inl (l, names, holds, w, bare)))

    either_does : (h : Held) (x y : NumberedStm) (mid else_at : ℕ) → slice_get c mid ≡ Some (i.JumpIfNot else_at) → IsLeft l names stack (Do x ∷ left) (mid + 1)
        → IsLeft l names stack (Do y ∷ left) else_at → (b : Bool) → truth_of h ≡ b → Implements who c (state mid (h ∷ stack)) (gives (Goes vs (Do (if b then x else y) ∷ []))) (Moved left vs)
    either_does h x y mid else_at st wx wy true e =
        does_behind who c (Moved left vs) (state mid (h ∷ stack)) (state (mid + 1) stack) (gives (Goes vs (Do x ∷ [])))
        (i.JumpIfNot else_at) st (λ rs. jumps_not who false else_at (state mid (h ∷ stack)) rs e)
        (does_value who c (Moved left vs) (state (mid + 1) stack) (Goes vs (Do x ∷ [])) (inl (l, names, holds, wx, bare)))
    either_does h x y mid else_at st wx wy false e =
        does_behind who c (Moved left vs) (state mid (h ∷ stack)) (state else_at stack) (gives (Goes vs (Do y ∷ []))) (i.JumpIfNot else_at) st (λ rs. jumps who false else_at (state mid (h ∷ stack)) rs e)
        (does_value who c (Moved left vs) (state else_at stack) (Goes vs (Do y ∷ [])) (inl (l, names, holds, wy, bare)))

    -- ---- jumps

    -- a jump, behind the domain of its loop, which it may drop
    dropped_jump : (b : Bool) (target n : ℕ) (hs below : List Held) (move : Move) → IsDropped c program this result b stack below → CodeAt c n (pop_domain b ++ i.Jump target ∷ [])
        → Moved left vs move (record { at = target; slots = hs; stack = below }) → Implements who c (record { at = n; slots = hs; stack = stack }) (gives move) (Moved left vs)
    dropped_jump false target n hs below move d st k =
        does_behind who c (Moved left vs) (record { at = n; slots = hs; stack = stack }) (record { at = target; slots = hs; stack = below }) (gives move) (i.Jump target) st.0
        (λ rs. ap (λ os. Gives (record { at = target; slots = hs; stack = os }) rs) d)
        (does_value who c (Moved left vs) (record { at = target; slots = hs; stack = below }) move k)
    dropped_jump true target n hs below move d st k =
        does_behind who c (Moved left vs) (record { at = n; slots = hs; stack = stack }) (record { at = n + 1; slots = hs; stack = below }) (gives move) i.Pop st.0
        (λ rs. ap (λ os. effect who i.Pop (record { at = n; slots = hs; stack = os }) rs) d.1)
        (does_behind who c (Moved left vs) (record { at = n + 1; slots = hs; stack = below }) (record { at = target; slots = hs; stack = below }) (gives move) (i.Jump target) st.1.0 (λ rs. refl)
        (does_value who c (Moved left vs) (record { at = target; slots = hs; stack = below }) move k))

    -- slots are dropped first
    trimmed_jump : (k target : ℕ) (b : Bool) (below : List Held) (move : Move) → IsDropped c program this result b stack below → CodeAt c at (i.Trim k ∷ (pop_domain b ++ i.Jump target ∷ []))
        → Moved left vs move (record { at = target; slots = oldest_slots k slots; stack = below }) → Implements who c (state at stack) (gives move) (Moved left vs)
    trimmed_jump k target b below move d st h =
        does_behind who c (Moved left vs) (state at stack) (record { at = at + 1; slots = oldest_slots k slots; stack = stack }) (gives move) (i.Trim k) st.0 (λ rs. refl)
        (dropped_jump b target (at + 1) (oldest_slots k slots) below move d st.1 h)

    -- in no loop
    stays_at : IsLeft None names stack left (at + 1 + 1) → At left vs (record { at = at + 1 + 1; slots = oldest_slots (length names) slots; stack = stack })
    stays_at w = inl (
      None,
      names,
      subst (λ hs. SlotsHold this_id names vs (turns_at left) hs)
          (sym (trimmed_all (length names) slots (as_many this_id names vs (turns_at left) slots holds))) holds,
      w,
      bare,
    )

    break_does : (l : Option LoopTargets) → IsMark l names stack left → CodeAt c at (break_code l names at) → IsLeft l names stack left (pc_after at (break_code l names at))
        → Implements who c (state at stack) (gives Breaks) (Moved left vs)
    break_does None m st w =
        trimmed_jump (length names) (at + 1 + 1) false stack Breaks refl st
        (subst (λ b. At (if b then past_mark left else left) (if b then variables_at_mark left vs else vs) (record { at = at + 1 + 1; slots = oldest_slots (length names) slots; stack = stack }))
        (sym (unmarked c program this result names stack left m)) (stays_at w))
    break_does (Some labels) m st w =
        let o = jump_out c program this result labels this_id names vs slots stack left m holds bare in
        trimmed_jump labels.left labels.exit labels.walks o.stack_behind Breaks o.dropped st
        (subst (λ b. At (if b then past_mark left else left) (if b then variables_at_mark left vs else vs) (record { at = labels.exit; slots = oldest_slots labels.left slots; stack = o.stack_behind }))
        (sym o.marked) (inl (o.outer, o.names, o.holds, o.exits, o.bare)))

    continue_does : (l : Option LoopTargets) → IsMark l names stack left → CodeAt c at (continue_code l names at) → IsLeft l names stack left (pc_after at (continue_code l names at))
        → Implements who c (state at stack) (gives Continues) (Moved left vs)
    continue_does None m st w =
        trimmed_jump (length names) (at + 1 + 1) false stack Continues refl st
        (subst (λ b. At (if b then from_mark left else left) (if b then variables_at_mark left vs else vs) (record { at = at + 1 + 1; slots = oldest_slots (length names) slots; stack = stack }))
        (sym (unmarked c program this result names stack left m)) (stays_at w))
    continue_does (Some labels) m st w =
        let o = jump_out c program this result labels this_id names vs slots stack left m holds bare in
        trimmed_jump labels.kept labels.again false stack Continues refl st
        (subst (λ b. At (if b then from_mark left else left) (if b then variables_at_mark left vs else vs) (record { at = labels.again; slots = oldest_slots labels.kept slots; stack = stack }))
        (sym o.marked) (inl (Some labels, o.names_again, o.holds_again, o.repeats, o.bare_again)))

    -- ---- calls

    call_does : (r : Receiver) (x : NumberedExp) (z : IsCalled program this result x) → CodeAt c at (call_code program this names (number_called program this x) z.call at)
        → Back (is_void (result_type z.call.method)) left vs r (state (pc_after at (call_code program this names (number_called program this x) z.call at)) stack)
        → Implements who c (state at stack) (calling here r z.call) (Moved left vs)
    call_does r x z st back =
        let k = number_called program this x in
        let is_method = method_is program this x z.call z.is in
        does_weaker who c _ (Moved left vs) (state at stack) (calling here r z.call) (calling_does c here names slots holds z.call k r is_method z.object z.args at stack st)
        (λ move s q. subst (λ m. Moved left vs m s) (sym q.3.3) (subst (λ t. Moved left vs (Calls z.call.place z.call.method q.3.0 q.3.1 r) t) (sym q.3.4)
        (k, stack, q.1, is_method, z.not_main, q.3.5, subst (λ n. Back (is_void (result_type z.call.method)) left vs r (state n stack)) (sym q.2) back)))

    -- a call that stands alone
    alone_does : (x : NumberedExp) (z : IsCalled program this result x) (b : Bool) → is_void (result_type z.call.method) ≡ b → CodeAt c at (alone_code program this b x (Some z.call) names at)
        → IsLeft l names stack left (pc_after at (alone_code program this b x (Some z.call) names at)) → Implements who c (state at stack) (calling here Nowhere z.call) (Moved left vs)
    alone_does x z true e st w =
        call_does Nowhere x z st (subst (λ b. Back b left vs Nowhere
        (state (pc_after at (call_code program this names (number_called program this x) z.call at)) stack)) (sym e) (
          l,
          names,
          holds,
          w,
          bare,
        ))
    alone_does x z false e st w =
        let code = call_code program this names (number_called program this x) z.call at in
        call_does Nowhere x z (front_stands c at code (i.Pop ∷ []) st)
        (subst (λ b. Back b left vs Nowhere (state (pc_after at code) stack)) (sym e)
        (λ h. (l, names, holds, receives_left Numbers (rest_stands c at code (i.Pop ∷ []) st) (subst (λ n. IsLeft l names stack left n) (behind_both at code (i.Pop ∷ [])) w), bare)))

    -- ---- right sides

    -- a value goes to its receiver
    value_does : (r : Receiver) (kind : OperandClass) (j : StaticRepr) (x : NumberedExp) → Comes (HasRepr j) (eval here x)
        → CodeAt c at (into_code program this r kind j (λ ns from. code_of program this ns x from) names at)
        → IsLeft l (names_behind r names) stack left (pc_after at (into_code program this r kind j (λ ns from. code_of program this ns x from) names at))
        → Implements who c (state at stack) (receives here r (eval here x)) (Moved left vs)
    value_does r kind j x z st w =
        let n = pc_after at (into_code program this r kind j (λ ns from. code_of program this ns x from) names at) in
        done_by left vs l n names (names_behind r names) stack slots holds (state at stack) (receives here r (eval here x)) w (bare_behind r names bare)
        (simple.received c here names slots holds r (eval here x) at n (names_behind r names) stack (state at stack)
        (way.into_does c here names slots holds r kind j (λ ns from. code_of program this ns x from) (eval here x) at stack z (way.expression_right c here names slots holds x) st))

    valued_does : (r : Receiver) (x : NumberedExp) → IsRight program this result x → CodeAt c at (valued_code program this r x (call_by x (called_method program this x)) names at)
        → IsLeft l (names_behind r names) stack left (pc_after at (valued_code program this r x (call_by x (called_method program this x)) names at))
        → Implements who c (state at stack) (valued_or_called here r x (called here x)) (Moved left vs)
    valued_does r x (inl z) st w =
        subst (λ o. Implements who c (state at stack) (valued_or_called here r x o) (Moved left vs)) (sym z)
        (value_does r (kind_in program this x) (known_of program this x) x (known_is_so here names slots holds x) (subst (λ o. CodeAt c at (valued_code program this r x o names at)) z st)
        (subst (λ o. IsLeft l (names_behind r names) stack left (pc_after at (valued_code program this r x o names at))) z w))
    valued_does r x (inr k) st w =
        let code = call_code program this names (number_called program this x) k.0.call at in
        let mid = pc_after at code in
        let kind = kind_in program this x in
        let rest = late_code program this r kind known.Other names mid in
        let stands : CodeAt c at (code ++ rest) = subst (λ o. CodeAt c at (valued_code program this r x o names at)) k.0.is st in
        let after : IsLeft l (names_behind r names) stack left (pc_after mid rest) =
        subst (λ n. IsLeft l (names_behind r names) stack left n) (behind_both at code rest)
        (subst (λ o. IsLeft l (names_behind r names) stack left (pc_after at (valued_code program this r x o names at))) k.0.is w) in
        subst (λ o. Implements who c (state at stack) (valued_or_called here r x o) (Moved left vs)) (sym k.0.is)
        (call_does r x k.0 (front_stands c at code rest stands)
        (subst (λ b. Back b left vs r (state mid stack)) (sym k.1) (λ h. (l, names, holds, receives_left kind (rest_stands c at code rest stands) after, bare))))

    -- a new thing goes to its receiver
    made_does : (r : Receiver) (new : Comp Held) (code : List Instr) → Implements who c (state at stack) new (λ h s. s ≡ state (pc_after at code) (h ∷ stack))
        → CodeAt c at (code ++ late_code program this r Numbers known.Other names (pc_after at code))
        → IsLeft l (names_behind r names) stack left (pc_after at (code ++ late_code program this r Numbers known.Other names (pc_after at code)))
        → Implements who c (state at stack) (made_first here r new) (Moved left vs)
    made_does r new code d st w =
        let mid = pc_after at code in
        let rest = late_code program this r Numbers known.Other names mid in
        let after = subst (λ n. IsLeft l (names_behind r names) stack left n) (behind_both at code rest) w in
        next c here names slots holds (Moved left vs) mid stack (state at stack) new (λ h. receives here r (gives h)) d
        (λ h. done_by left vs l (pc_after mid rest) names (names_behind r names) stack slots holds (state mid (h ∷ stack)) (receives here r (gives h)) after (bare_behind r names bare)
        (simple.received c here names slots holds r (gives h) mid (pc_after mid rest) (names_behind r names) stack (state mid (h ∷ stack))
        (way.late_does c here names slots holds r Numbers known.Other h mid stack tt (rest_stands c at code rest st))))

    init_does : (r : Receiver) (value : NumberedInit) → InitFine program this result value → CodeAt c at (init_code program this r value names at)
        → IsLeft l (names_behind r names) stack left (pc_after at (init_code program this r value names at)) → Implements who c (state at stack) (initialized here r value) (Moved left vs)
    init_does r (s.Value x) z st w = valued_does r x z st w
    init_does r (s.NewRegion p) z st w =
        let wait : Wait = record { place = p; kind = coll.MakeRegion; arg = None; wanted = ValueOf t.Region; receiver = r } in
        does_value who c (Moved left vs) (state at stack) (Meets wait deposit.Nothing [])
        (st.0, st.1.0, stack, (λ m f e z. ap (λ (s : LocalState). record { arg = None; deposit = deposit.Nothing; stack = s.stack }) z), (λ h. (l, names, holds, receives_left Numbers st.1.1 w, bare)))
    init_does r (s.NewObject p region class) z st w =
        made_does r (new_object here p region class) (object_code program this names p region class at)
        (making.object_does c here names slots holds p region class at stack (front_stands c at (object_code program this names p region class at) _ st)) st w
    init_does r (s.NewGrid p region element q dims) z st w =
        made_does r (new_grid here p region element.type q dims) (grid_code program this names p region element.type q dims at)
        (making.grid_does c here names slots holds p region element.type q dims at stack (front_stands c at (grid_code program this names p region element.type q dims at) _ st)) st w
    init_does r (s.Broadcast p x root) z st w =
        let code = broadcast_code program this p names x root at in
        let rest = late_code program this r (kind_in program this x) known.Other names (pc_after at code) in
        let after = subst (λ n. IsLeft l (names_behind r names) stack left n) (behind_both at code rest) w in
        does_weaker who c _ (Moved left vs) (state at stack) (broadcasts here r p x root)
        (broadcast_does c here names slots holds p r x root at stack (front_stands c at code rest st))
        (λ move s q.
        let wait = wait_of c here names slots holds p r x q.4.0 in
        subst (λ m. Moved left vs m s) (sym q.4.3) (subst (λ t. Moved left vs (Meets wait q.4.1 []) t) (sym q.4.4) (
          q.1,
          q.2,
          stack,
          subst (λ t. Hands number wait q.4.1 t stack) q.4.4 q.4.5,
          (λ h. (
            l,
            names,
            holds,
            subst (λ n. IsLeft l names (h ∷ stack) (Receive r h ∷ left) n) (sym q.3)
                (receives_left (kind_in program this x) (rest_stands c at code rest st) after),
            bare,
          )),
        )))

    -- ---- expressions that stand alone

    form_does : (form : Option BuiltIn) (p : Place) (x : NumberedExp) (name : ℕ) (args : NumberedExps)
        → CodeAt c at (form_code program this form p names x args at (into_code program this Nowhere Numbers known.Other (λ ns from. code_of program this ns (e.Member p x name args) from) names at))
        → IsLeft l names stack left (pc_after at (form_code program this form p names x args at
        (into_code program this Nowhere Numbers known.Other (λ ns from. code_of program this ns (e.Member p x name args) from) names
        at)))
        → Implements who c (state at stack) (member_alone here p x args (receives here Nowhere (eval here (e.Member p x name args))) form) (Moved left vs)
    form_does (Some Copy) p x name args st w = grids.copies_do c program method this_id number procs left vs l names slots stack holds bare p x args at st w
    form_does (Some Exchange) p x name args st w = grids.exchanges_do c program method this_id number procs left vs l names slots stack holds bare p x args at team_is st w
    form_does (Some Delete) p x name args st w =
        let code = code_of program this names x at in
        let mid = pc_after at code in
        let tail = i.Arrive coll.DeleteRegion p ∷ i.Depart p ∷ [] in
        let last = rest_stands c at code tail st in
        let after = subst (λ n. IsLeft l names stack left n) (behind_both at code tail) w in
        next c here names slots holds (Moved left vs) mid stack (state at stack) (eval here x) (λ h. gives (Deletes p (region_of h)))
        (does c here names slots holds x at stack (front_stands c at code tail st))
        (λ h. does_value who c (Moved left vs) (state mid (h ∷ stack)) (Deletes p (region_of h)) (last.0, last.1.0, h, stack, refl, refl, (l, names, holds, after, bare)))
    form_does form p x name args st w = value_does Nowhere Numbers known.Other (e.Member p x name args) (untold (eval here (e.Member p x name args))) st w

    other_does : (x : NumberedExp) → CodeAt c at (other_code program this names x at)
        → IsLeft l names stack left (pc_after at (other_code program this names x at))
        → Implements who c (state at stack) (alone here x None) (Moved left vs)
    other_does (e.Member p x name args) st w = form_does (member_called program this x name) p x name args st w
    other_does x st w = value_does Nowhere Numbers known.Other x (untold (eval here x)) st w

    statement_does : (x : NumberedStm) → StmFine program this result x names → CodeAt c at (stm x l names at) → IsLeft l (names_after x names) stack left (pc_after at (stm x l names at))
        → Implements who c (state at stack) (statement here x) (Moved left vs)
    statement_does s.Empty z st w = does_value who c (Moved left vs) (state at stack) (Goes vs []) (inl (l, names, holds, w, bare))
    statement_does (s.Declare p type v value) z st w = init_does (Declared p (declared_as type v)) value z st w
    statement_does (s.Assign p target value) z st w = init_does (Assigned p target) value z st w
    statement_does (s.Update p op target x) z st w = init_does (Updated p op target) (s.Value x) z st w
    statement_does (s.Step p op target) z st w = init_does (Updated p (one_more op) target) (s.Value (e.Int p (pos 1))) (inl refl) st w
    statement_does (s.Print p what) z st w =
        done_by left vs l _ names names stack slots holds (state at stack) (printed here p what) w bare (simple.print_does c here names slots holds p what at stack st)
    statement_does (s.Block body) z st w =
        does_value who c (Moved left vs) (state at stack) (Goes vs (all_before body (End (s.Block body) ∷ [])))
        (subst (λ ws. At ws vs (state at stack)) (sym (before_both body (End (s.Block body) ∷ []) left)) (inl (
          l,
          names,
          subst (λ ts. SlotsHold this_id names vs ts slots) (sym (turns_through body (s.Block body) left)) holds,
          block_left l names names stack left (s.Block body) body at (inside_itself (declared_among body)) z.1 (whole z.0) m st
              (subst (λ n. IsLeft l names stack left n) (behind_both at (stms_code program this result body l names at) (i.Trim (length names) ∷ [])) w),
          bare,
        )))
    statement_does (s.If p cond x) z st w =
        let first = code_of program this names cond at in
        let mid = pc_after at first in
        let inner = stm x l names (mid + 1) in
        let end = pc_after (mid + 1) inner in
        let stands = rest_stands c at first (i.JumpIfNot end ∷ inner) st in
        let after = subst (λ n. IsLeft l names stack left n) (behind_both at first (i.JumpIfNot end ∷ inner)) w in
        next c here names slots holds (Moved left vs) mid stack (state at stack) (eval here cond) (λ h. gives (Goes vs (if truth_of h then Do x ∷ [] else [])))
        (does c here names slots holds cond at stack (front_stands c at first (i.JumpIfNot end ∷ inner) st))
        (λ h. by_truth left vs h (λ b. Goes vs (if b then Do x ∷ [] else [])) (state mid (h ∷ stack)) (if_does h x mid z.0 z.1 stands after))
    statement_does (s.IfElse p cond x y) z st w =
        let first = code_of program this names cond at in
        let mid = pc_after at first in
        let inner = stm x l names (mid + 1) in
        let else_at = pc_after (mid + 1) inner + 1 in
        let other = stm y l names else_at in
        let end = pc_after else_at other in
        let rest = inner ++ i.Jump end ∷ other in
        let stands : CodeAt c mid (i.JumpIfNot else_at ∷ rest) = rest_stands c at first (i.JumpIfNot else_at ∷ rest) st in
        let behind_x : CodeAt c (pc_after (mid + 1) inner) (i.Jump end ∷ other) = rest_stands c (mid + 1) inner (i.Jump end ∷ other) stands.1 in
        let after : IsLeft l names stack left end =
        subst (λ n. IsLeft l names stack left n) (behind_both at first (i.JumpIfNot else_at ∷ rest) ∙ behind_both (mid + 1) inner (i.Jump end ∷ other)) w in
        next c here names slots holds (Moved left vs) mid stack (state at stack) (eval here cond) (λ h. gives (Goes vs (Do (if truth_of h then x else y) ∷ [])))
        (does c here names slots holds cond at stack (front_stands c at first (i.JumpIfNot else_at ∷ rest) st))
        (λ h. by_truth left vs h (λ b. Goes vs (Do (if b then x else y) ∷ [])) (state mid (h ∷ stack))
        (either_does h x y mid else_at stands.0
        (closed_left l names stack left x (mid + 1) (pc_after (mid + 1) inner) z.0.0 z.0.1 m (front_stands c (mid + 1) inner (i.Jump end ∷ other) stands.1) refl (over behind_x.0 after))
        (closed_left l names stack left y else_at end z.1 z.2 m behind_x.1 refl after)))
    statement_does (s.While p cond body) z st w =
        does_value who c (Moved left vs) (state at stack) (Goes vs (Before (While p (Some cond) NoStm body) ∷ [])) (inl (
          l,
          names,
          holds,
          over st.0 (tests (record { stands = st; update_fine = tt; closed = z.0; fine = z.1 }) refl m (subst (λ n. IsLeft l names stack left n) (loop_end p l names (Some cond) NoStm body at) w)),
          bare,
        ))
    statement_does (s.For p NoStm cond update body) z st w =
        let loop = loop_of c program this result p l names cond update body at in
        let end = exit_of c program this result l names cond update body at in
        let ends = loop_end p l names cond update body at in
        let trim : slice_get c end ≡ Some (i.Trim (length names)) = subst (λ n. slice_get c n ≡ Some (i.Trim (length names))) ends (rest_stands c at loop (i.Trim (length names) ∷ []) st).0 in
        let after : IsLeft l names stack left (end + 1) = subst (λ n. IsLeft l names stack left n) (behind_both at loop (i.Trim (length names) ∷ []) ∙ ap (λ n. n + 1) ends) w in
        let cut = whole (stay_none names) in
        does_value who c (Moved left vs) (state at stack) (Goes vs (Before (While p cond update body) ∷ End (s.For p NoStm cond update body) ∷ [])) (inl (
          l,
          names,
          holds,
          over (front_stands c at loop (i.Trim (length names) ∷ []) st).0
              (tests (record { stands = front_stands c at loop (i.Trim (length names) ∷ []) st; update_fine = z.0; closed = z.1; fine = z.2 }) refl (end_one cut m) (closes cut trim after)),
          bare,
        ))
    statement_does (s.For p (SomeStm first) cond update body) z st w =
        let code = stm first l names at in
        let ns = names_after first names in
        let mid = pc_after at code in
        let loop = loop_of c program this result p l ns cond update body mid in
        let end = exit_of c program this result l ns cond update body mid in
        let ends = loop_end p l ns cond update body mid in
        let stands = rest_stands c at code (loop ++ i.Trim (length names) ∷ []) st in
        let trim : slice_get c end ≡ Some (i.Trim (length names)) = subst (λ n. slice_get c n ≡ Some (i.Trim (length names))) ends (rest_stands c mid loop (i.Trim (length names) ∷ []) stands).0 in
        let after : IsLeft l names stack left (end + 1) =
        subst (λ n. IsLeft l names stack left n) (behind_both at code (loop ++ i.Trim (length names) ∷ []) ∙ (behind_both mid loop (i.Trim (length names) ∷ []) ∙ ap (λ n. n + 1) ends)) w in
        let cut : Cut (declared_alone first) ns names = cut_one (declared_alone first) first names names (inside_itself (declared_alone first)) (whole z.0) in
        let begun : IsLeft l ns stack (Before (While p cond update body) ∷ End (s.For p (SomeStm first) cond update body) ∷ left) mid =
        over (front_stands c mid loop (i.Trim (length names) ∷ []) stands).0
        (tests (record { stands = front_stands c mid loop (i.Trim (length names) ∷ []) stands; update_fine = z.2; closed = z.3; fine = z.4 }) refl (end_one cut m) (closes cut trim after)) in
        does_value who c (Moved left vs) (state at stack) (Goes vs (Do first ∷ Before (While p cond update body) ∷ End (s.For p (SomeStm first) cond update body) ∷ [])) (inl (
          l,
          names,
          holds,
          some z.1 (before_one (end_one (whole z.0) m)) (front_stands c at code (loop ++ i.Trim (length names) ∷ []) st) begun,
          bare,
        ))
    statement_does (s.Foreach p x domain body) z st w =
        let code = code_of program this names domain at in
        let mid = pc_after at code in
        let walk = walk_of c program this result p names x body mid in
        let ends = walk_length program this result p names (λ q from. stm body q (slot_of.Point x ∷ names) from) mid (body_steady program this result body (slot_of.Point x ∷ names) true) in
        let stands = rest_stands c at code walk st in
        let after = subst (λ n. IsLeft l names stack left n) (behind_both at code walk ∙ ends) w in
        next c here names slots holds (Moved left vs) mid stack (state at stack) (eval here domain) (λ h. gives (Goes vs (Before (Foreach p x domain (points_in h) body) ∷ [])))
        (does c here names slots holds domain at stack (front_stands c at code walk st))
        (λ h. does_value who c (Moved left vs) (state mid (h ∷ stack)) (Goes vs (Before (Foreach p x domain (points_in h) body) ∷ []))
        (inl (l, names, holds, over stands.0 (steps (record { stands = stands; closed = z.0; fine = z.1 }) refl m after refl), bare)))
    statement_does (s.Barrier p) z st w =
        let wait : Wait = record { place = p; kind = coll.Barrier; arg = None; wanted = ToBeDone; receiver = Nowhere } in
        does_value who c (Moved left vs) (state at stack) (Meets wait deposit.Nothing [])
        (st.0, st.1.0, stack, (λ m f e z. ap (λ (s : LocalState). record { arg = None; deposit = deposit.Nothing; stack = s.stack }) z), inl (l, names, holds, w, bare))
    statement_does (s.Break p) z st w = break_does l m st w
    statement_does (s.Continue p) z st w = continue_does l m st w
    statement_does (s.Return p None) z st w = does_value who c (Moved left vs) (state at stack) (Returns None) (z, st.0)
    statement_does (s.Return p (Some x)) z st w = return_does left vs names slots stack at holds p x z st
    statement_does (s.Call x) (inl z) st w =
        subst (λ o. Implements who c (state at stack) (alone here x o) (Moved left vs)) (sym z)
        (other_does x (subst (λ o. CodeAt c at (alone_code program this (gives_nothing program this o) x o names at)) z st)
        (subst (λ o. IsLeft l names stack left (pc_after at (alone_code program this (gives_nothing program this o) x o names at))) z w))
    statement_does (s.Call x) (inr z) st w =
        subst (λ o. Implements who c (state at stack) (alone here x o) (Moved left vs)) (sym z.is)
        (alone_does x z (is_void (result_type z.call.method)) refl (subst (λ o. CodeAt c at (alone_code program this (gives_nothing program this o) x o names at)) z.is st)
        (subst (λ o. IsLeft l names stack left (pc_after at (alone_code program this (gives_nothing program this o) x o names at))) z.is w))

  -- ---- loops

  -- the condition of a loop
  condition_does : (left : List ContItem) (vs : List Variable) (names : List Name) (slots stack : List Held) (holds : SlotsHold this_id names vs (turns_at left) slots) (cond : Option NumberedExp) (at : ℕ)
      → CodeAt c at (condition_code program this names cond at)
      → Implements who c (record { at = at; slots = slots; stack = stack }) (condition (env vs left) cond) (λ h s. s
      ≡ record { at = pc_after at (condition_code program this names cond at); slots = slots; stack = h ∷ stack })
  condition_does left vs names slots stack holds None at st = instr c (env vs left) names slots holds (i.Const (val.Bool true))
      (gives (truth true)) (record { at = at; slots = slots; stack = stack }) (at + 1) stack st.0 (λ rs. refl)
  condition_does left vs names slots stack holds (Some x) at st = does c (env vs left) names slots holds x at stack st

  module _ (left : List ContItem) (vs : List Variable) (l : Option LoopTargets) (names : List Name) (slots stack : List Held) (at : ℕ) (holds : SlotsHold this_id names vs (turns_at left) slots)
      (p : Place) (cond : Option NumberedExp) (update : MaybeNumbered) (body : NumberedStm) (loop : LoopAt c program this result p l names cond update body at) (m : IsMark l names stack left)
      (after : IsLeft l names stack left (exit_of c program this result l names cond update body at)) (bare : Bare names) where
    abbrev labels : LoopTargets
    labels = labels_of c program this result l names cond update body at

    abbrev inner : List Instr
    inner = stm body (Some labels) names (at + 1 + 1)

    abbrev changes : List Instr
    changes = maybe_code program this result update l names labels.again

    abbrev test : ℕ
    test = test_of c program this result l names update body at

    abbrev asks : List Instr
    asks = condition_code program this names cond test

    abbrev jump_back : List Instr
    jump_back = i.JumpIf (at + 1) ∷ []

    abbrev place : ℕ → List Held → LocalState
    place n operands = record { at = n; slots = slots; stack = operands }

    body_ends : pc_after (at + 1 + 1) inner ≡ labels.again
    body_ends = same_length program this result body (Some labels) (unknown false) names (at + 1 + 1) refl

    behind_body : CodeAt c labels.again (changes ++ (asks ++ jump_back))
    behind_body = subst (λ n. CodeAt c n (changes ++ (asks ++ jump_back))) body_ends (rest_stands c (at + 1 + 1) inner (changes ++ (asks ++ jump_back)) loop.stands.1.1)

    at_test : CodeAt c test (asks ++ jump_back)
    at_test = rest_stands c labels.again changes (asks ++ jump_back) behind_body

    -- the mark of the loop, and its body before it
    mark_left : IsLeft (Some labels) names stack (Behind (While p cond update body) ∷ left) labels.again
    mark_left = marks loop m after

    body_left : IsLeft (Some labels) names stack (Do body ∷ Behind (While p cond update body) ∷ left) (at + 1 + 1)
    body_left =
        closed_left (Some labels) names stack (Behind (While p cond update body) ∷ left) body (at + 1 + 1) labels.again loop.closed loop.fine (here_one refl refl refl mark_left after)
        (front_stands c (at + 1 + 1) inner (changes ++ (asks ++ jump_back)) loop.stands.1.1) body_ends mark_left

    turn_does : (h : Held) (b : Bool) → truth_of h ≡ b
        → Implements who c (place (pc_after test asks) (h ∷ stack)) (gives (if b then Turns p vs (Do body ∷ Behind (While p cond update body) ∷ []) else Goes vs [])) (Moved left vs)
    turn_does h true e =
        does_behind who c (Moved left vs) (place (pc_after test asks) (h ∷ stack)) (place (at + 1) stack) (gives (Turns p vs (Do body ∷ Behind (While p cond update body) ∷ []))) (i.JumpIf (at + 1))
        (rest_stands c test asks jump_back at_test).0 (λ rs. jumps who true (at + 1) (place (pc_after test asks) (h ∷ stack)) rs e)
        (does_value who c (Moved left vs) (place (at + 1) stack) (Turns p vs (Do body ∷ Behind (While p cond update body) ∷ [])) (loop.stands.1.0, inl (Some labels, names, holds, body_left, bare)))
    turn_does h false e =
        does_behind who c (Moved left vs) (place (pc_after test asks) (h ∷ stack)) (place (pc_after test asks + 1) stack) (gives (Goes vs [])) (i.JumpIf (at + 1))
        (rest_stands c test asks jump_back at_test).0 (λ rs. jumps_not who true (at + 1) (place (pc_after test asks) (h ∷ stack)) rs e)
        (does_value who c (Moved left vs) (place (pc_after test asks + 1) stack) (Goes vs []) (inl (l, names, holds, after, bare)))

    pub before_does : Implements who c (place test stack) (before_turn (env vs left) (While p cond update body)) (Moved left vs)
    before_does =
        does_then who c (λ h s. s ≡ place (pc_after test asks) (h ∷ stack)) (Moved left vs) (place test stack) (condition (env vs left) cond)
        (λ h. gives (if truth_of h then Turns p vs (Do body ∷ Behind (While p cond update body) ∷ []) else Goes vs []))
        (condition_does left vs names slots stack holds cond test (front_stands c test asks jump_back at_test))
        (λ h s k. subst (λ z. Implements who c z (gives (if truth_of h then Turns p vs
        (Do body ∷ Behind (While p cond update body) ∷ []) else Goes vs [])) (Moved left vs)) (sym k)
        (turn_does h (truth_of h) refl))

    -- the update, and the condition behind it
    update_left : (u : MaybeNumbered) → update ≡ u → IsLeft l names stack (maybe_do u ++ Before (While p cond update body) ∷ left) labels.again
    update_left NoStm e = tests loop (sym (ap (λ u. pc_after labels.again (maybe_code program this result u l names labels.again)) e)) m after
    update_left (SomeStm x) e =
        let fine = subst (λ u. MaybeFine program this result u names) e loop.update_fine in
        let same = ap (λ u. maybe_code program this result u l names labels.again) e in
        some fine.1 (before_one m) (subst (λ is. CodeAt c labels.again is) same (front_stands c labels.again changes (asks ++ jump_back) behind_body))
        (subst (λ ns. IsLeft l ns stack (Before (While p cond update body) ∷ left) (pc_after labels.again (stm x l names labels.again))) (sym (closed_names program this result x names fine.0))
        (tests loop (sym (ap (λ is. pc_after labels.again is) same)) m after))

    no_turns : (u : MaybeNumbered) → turns_at (maybe_do u ++ Before (While p cond update body) ∷ left) ≡ turns_at left
    no_turns NoStm = refl
    no_turns (SomeStm x) = refl

    pub behind_does : Implements who c (place labels.again stack) (gives (Goes vs (maybe_do update ++ Before (While p cond update body) ∷ []))) (Moved left vs)
    behind_does =
        does_value who c (Moved left vs) (place labels.again stack) (Goes vs (maybe_do update ++ Before (While p cond update body) ∷ []))
        (subst (λ ws. At ws vs (place labels.again stack)) (sym (append_assoc (maybe_do update) (Before (While p cond update body) ∷ []) left))
        (inl (l, names, subst (λ ts. SlotsHold this_id names vs ts slots) (sym (no_turns update)) holds, update_left update refl, bare)))

  -- a loop over the points of the domain on top
  module _ (left : List ContItem) (vs : List Variable) (l : Option LoopTargets) (names : List Name) (stack : List Held) (at : ℕ) (p : Place) (x : ℕ) (domain : NumberedExp) (body : NumberedStm)
      (walk : WalkAt c program this result p names x body at) (m : IsMark l names stack left) (after : IsLeft l names stack left (lap_of c program this result names x body at + 1 + 1 + 1 + 1)) (bare : Bare names) where
    abbrev ns : List Name
    ns = slot_of.Point x ∷ names

    abbrev n : ℕ
    n = length names

    abbrev lap : ℕ
    lap = lap_of c program this result names x body at

    abbrev lap_labels : LoopTargets
    lap_labels = walk_labels c program this result names x body at

    abbrev turn_code : List Instr
    turn_code = stm body (Some lap_labels) ns (at + 1 + 1)

    abbrev lap_tail : List Instr
    lap_tail = i.Trim n ∷ i.Next n (lap + 1 + 1 + 1) ∷ i.Jump (at + 1) ∷ i.Pop ∷ []

    lap_ends : pc_after (at + 1 + 1) turn_code ≡ lap
    lap_ends = same_length program this result body (Some lap_labels) (unknown true) ns (at + 1 + 1) refl

    at_lap : CodeAt c lap lap_tail
    at_lap = subst (λ k. CodeAt c k lap_tail) lap_ends (rest_stands c (at + 1 + 1) turn_code lap_tail walk.stands.1.1)

    -- the body of a turn at this point, with these points left in the domain on top
    turn_left : (q : Point) (qs : List Point) (h : Held) → points_in h ≡ qs → IsLeft (Some lap_labels) ns (h ∷ stack) (Do body ∷ Behind (Foreach p x domain (q ∷ qs) body) ∷ left) (at + 1 + 1)
    turn_left q qs h e =
        let there = laps walk m after e in
        closed_left (Some lap_labels) ns (h ∷ stack) (Behind (Foreach p x domain (q ∷ qs) body) ∷ left) body (at + 1 + 1) lap walk.closed walk.fine (here_walk refl refl refl there after)
        (front_stands c (at + 1 + 1) turn_code lap_tail walk.stands.1.1) lap_ends there

    pub step_does : (slots : List Held) → SlotsHold this_id names vs (turns_at left) slots → (points : List Point) (h : Held) → points_in h ≡ points
        → Implements who c (record { at = lap + 1; slots = slots; stack = h ∷ stack }) (before_turn (env vs left) (Foreach p x domain points body)) (Moved left vs)
    step_does slots holds [] h e =
        does_behind who c (Moved left vs) (record { at = lap + 1; slots = slots; stack = h ∷ stack })
        (record { at = lap + 1 + 1 + 1; slots = slots; stack = h ∷ stack }) (gives (Goes vs [])) (i.Next n (lap + 1 + 1 + 1)) at_lap.1.0
        (λ rs. ap (λ ps. next_point n (lap + 1 + 1 + 1) (record { at = lap + 1; slots = slots; stack = h ∷ stack }) ps rs) e)
        (does_behind who c (Moved left vs) (record { at = lap + 1 + 1 + 1; slots = slots; stack = h ∷ stack })
        (record { at = lap + 1 + 1 + 1 + 1; slots = slots; stack = stack }) (gives (Goes vs [])) i.Pop at_lap.1.1.1.0 (λ rs. refl)
        (does_value who c (Moved left vs) (record { at = lap + 1 + 1 + 1 + 1; slots = slots; stack = stack }) (Goes vs []) (inl (l, names, holds, after, bare))))
    step_does slots holds (q ∷ qs) h e =
        let pt = Plain (val.Pt q) in
        let rest = Dm (dim_of h) qs in
        let move = Turns p vs (Do body ∷ Behind (Foreach p x domain (q ∷ qs) body) ∷ []) in
        does_behind who c (Moved left vs) (record { at = lap + 1; slots = slots; stack = h ∷ stack })
        (record { at = lap + 1 + 1; slots = pt ∷ slots; stack = rest ∷ stack }) (gives move) (i.Next n (lap + 1 + 1 + 1)) at_lap.1.0
        (λ rs. ap (λ ps. next_point n (lap + 1 + 1 + 1) (record { at = lap + 1; slots = slots; stack = h ∷ stack }) ps rs) e
        ∙ ap (λ hs. Gives (record { at = lap + 1 + 1; slots = hs; stack = rest ∷ stack }) rs) (new_put n pt slots (as_many this_id names vs (turns_at left) slots holds)))
        (does_behind who c (Moved left vs) (record { at = lap + 1 + 1; slots = pt ∷ slots; stack = rest ∷ stack })
        (record { at = at + 1; slots = pt ∷ slots; stack = rest ∷ stack }) (gives move) (i.Jump (at + 1)) at_lap.1.1.0 (λ rs. refl)
        (does_value who c (Moved left vs) (record { at = at + 1; slots = pt ∷ slots; stack = rest ∷ stack }) move
        (walk.stands.1.0, inl (Some lap_labels, ns, turn holds, turn_left q qs rest refl, bare))))

    -- at the end of a turn its point leaves
    pub lap_does : (q : Point) (points : List Point) (h : Held) (slots : List Held) → points_in h ≡ points
        → SlotsHold this_id ns vs (turns_at (Behind (Foreach p x domain (q ∷ points) body) ∷ left)) slots
        → Implements who c (record { at = lap; slots = slots; stack = h ∷ stack }) (gives (Goes vs (Before (Foreach p x domain points body) ∷ []))) (Moved left vs)
    lap_does q points h slots e holds =
        let t : Turn = record { variable = x; point = q } in
        let un = unturned c program this result this_id ns names vs (t ∷ turns_at left) (turns_at left) t slots x holds refl refl in
        let fewer : oldest_slots n slots ≡ un.1 = ap (λ hs. oldest_slots n hs) un.2 ∙ trimmed_newest n un.0 un.1 (as_many this_id names vs (turns_at left) un.1 un.3) in
        does_behind who c (Moved left vs) (record { at = lap; slots = slots; stack = h ∷ stack })
        (record { at = lap + 1; slots = un.1; stack = h ∷ stack }) (gives (Goes vs (Before (Foreach p x domain points body) ∷ [])))
        (i.Trim n) at_lap.0
        (λ rs. ap (λ hs. Gives (record { at = lap + 1; slots = hs; stack = h ∷ stack }) rs) fewer)
        (does_value who c (Moved left vs) (record { at = lap + 1; slots = un.1; stack = h ∷ stack }) (Goes vs (Before (Foreach p x domain points body) ∷ []))
        (inl (l, names, un.3, steps walk refl m after e, bare)))

  -- ---- all work

  -- what the first piece of work comes to, the code does, and stands then where it does what is left
  work_does : (w : ContItem) (left : List ContItem) (vs : List Variable) (l : Option LoopTargets) (names : List Name) (slots stack : List Held) (at : ℕ) → IsLeft l names stack (w ∷ left) at
      → SlotsHold this_id names vs (turns_at (w ∷ left)) slots → Bare names → Implements who c (record { at = at; slots = slots; stack = stack }) (exec_item (env vs left) w) (Moved left vs)
  work_does w left vs l names slots stack at (over {target = target} jump k) h bare =
      does_behind who c (Moved left vs) (record { at = at; slots = slots; stack = stack })
      (record { at = target; slots = slots; stack = stack }) (exec_item (env vs left) w) (i.Jump target) jump (λ rs. refl)
      (work_does w left vs l names slots stack target k h bare)
  work_does w left vs l names slots stack at (some {x = x} z m st k) h bare = statement_does left vs l names slots stack at h m bare x z st k
  work_does w left vs l names slots stack at (closes {before = before} {x = x} cut st k) h bare =
      let xs = declared_in x in
      does_behind who c (Moved left vs) (record { at = at; slots = slots; stack = stack })
      (record { at = at + 1; slots = oldest_slots (length before) slots; stack = stack }) (gives (Goes (without_variables xs vs) []))
      (i.Trim (length before)) st (λ rs. refl)
      (does_value who c (Moved left vs) (record { at = at + 1; slots = oldest_slots (length before) slots; stack = stack }) (Goes (without_variables xs vs) [])
      (inl (l, before, trimmed_holds this_id xs names before vs (turns_at left) slots cut h, k, cut_bare xs names before cut bare)))
  work_does w left vs l names slots stack at (tests {at = from} {p = p} {cond = cond} {update = update} {body = body} loop e m k) h bare =
      subst (λ n. Implements who c (record { at = n; slots = slots; stack = stack }) (before_turn (env vs left) (While p cond update body)) (Moved left vs)) (sym e)
      (before_does left vs l names slots stack from h p cond update body loop m k bare)
  work_does w left vs l names slots stack at (marks {l = outer} {at = from} {p = p} {cond = cond} {update = update} {body = body} loop m k) h bare =
      behind_does left vs outer names slots stack from h p cond update body loop m k bare
  work_does w left vs l names slots stack at (steps {stack = below} {at = from} {p = p} {x = x} {domain = domain} {points = points} {body = body} {h = top} walk e m k z) h bare =
      subst (λ n. Implements who c (record { at = n; slots = slots; stack = top ∷ below }) (before_turn (env vs left) (Foreach p x domain points body)) (Moved left vs)) (sym e)
      (step_does left vs l names below from p x domain body walk m k bare slots h points top z)
  work_does w left vs l names slots stack at (laps {l = outer} {names = before} {stack = below} {at = from} {p = p} {x = x}
      {domain = domain} {q = q} {points = points} {body = body} {h = top} walk m k z) h bare =
      lap_does left vs outer before below from p x domain body walk m k bare q points top slots z h
  work_does w left vs l names slots stack at (last {p = p} {x = x} void st) h bare = return_does [] vs names slots stack at h p x void st
  work_does w left vs l names slots stack at (receives_left {stack = below} {r = r} {h = value} kind st k) h bare =
      let n = pc_after at (late_code program this r kind known.Other names at) in
      done_by left vs l n names (names_behind r names) below slots h (record { at = at; slots = slots; stack = value ∷ below }) (receives (env vs left) r (gives value)) k (bare_behind r names bare)
      (simple.received c (env vs left) names slots h r (gives value) at n (names_behind r names) below (record { at = at; slots = slots; stack = value ∷ below })
      (way.late_does c (env vs left) names slots h r kind known.Other value at below tt st))

  walking_does : (w : ContItem) (left : List ContItem) (vs : List Variable) (s : LocalState)
      → standing.Walking c program method this_id number procs (w ∷ left) vs s → Implements who c s (exec_item (env vs left) w) (Moved left vs)
  walking_does (CopyAll p to from points) left vs s z = copied_does c program method this_id number procs p to from points left vs s z
  walking_does (TakeAll p grid senders) left vs s z = taken_does c program method this_id number procs p grid senders left vs s z
  walking_does w left vs s z = elim z [ ]

  pub all_does : (w : ContItem) (left : List ContItem) (vs : List Variable) (s : LocalState) → At (w ∷ left) vs s → Implements who c s (exec_item (env vs left) w) (Moved left vs)
  all_does w left vs s (inl k) = work_does w left vs k.0 k.1 s.slots s.stack s.at k.3 k.2 k.4
  all_does w left vs s (inr k) = walking_does w left vs s k

  -- where nothing is left the code returns
  end_at : (vs : List Variable) (l : Option LoopTargets) (names : List Name) (slots stack : List Held) (at : ℕ) → IsLeft l names stack [] at
      → Implements who c (record { at = at; slots = slots; stack = stack }) (gives (Returns None)) (Moved [] vs)
  end_at vs l names slots stack at (left.returns void st) = does_value who c (Moved [] vs) (record { at = at; slots = slots; stack = stack }) (Returns None) (void, st)
  end_at vs l names slots stack at (over {target = target} jump k) =
      does_behind who c (Moved [] vs) (record { at = at; slots = slots; stack = stack }) (record { at = target; slots = slots; stack = stack }) (gives (Returns None)) (i.Jump target) jump (λ rs. refl)
      (end_at vs l names slots stack target k)

  pub end_does : (vs : List Variable) (s : LocalState) → At [] vs s → Implements who c s (gives (Returns None)) (Moved [] vs)
  end_does vs s (inl k) = end_at vs k.0 k.1 s.slots s.stack s.at k.3
  end_does vs s (inr k) = elim k [ ]
