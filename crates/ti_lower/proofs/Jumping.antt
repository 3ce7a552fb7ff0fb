-- Proves that the code of every program keeps the rule on jumps.
use Rattle.std.proofs.Common.{◌≡◌, ℕ, zero, suc, ◌+◌, ◌≤◌, ◌==◌, ◌&&◌, Bool, true, false, if◌then◌else◌, nat_le, IsTrue, drop, length, map, List, [], ◌∷◌, ◌++◌, pos, Option, Some, None, refl, ap, ap₂, sym, ◌∙◌, subst, arith}
use Rattle.std.proofs.lemmas.Bool.{and_from}
use Rattle.std.proofs.lemmas.List.{drop-map}
use Rattle.ti_base.specs.declared.place.Place.{Place}
use Rattle.ti_lang.specs.Program.Types.{ValueType, VariableUse}
use Rattle.ti_lang.specs.Program.Expressions.{NumberedExp, NumberedExps, numbered_ranges, place_of_numbered}
use Rattle.ti_lang.specs.Program.Expressions as e
use Rattle.ti_lang.specs.Program.Statements.{NumberedDims, NumberedInit, NumberedPrint, NumberedStm, MaybeNumbered, NoStm, SomeStm, NumberedStms, Nil, Cons, numbered_stms}
use Rattle.ti_lang.specs.Program.Statements as s
use Rattle.ti_lang.specs.Program.Classes.{NumberedMethod, ProgramView}
use Rattle.ti_lang.specs.Program.Scope.{this_of}
use Rattle.ti_lang.specs.Program.Types as t
use Rattle.ti_lang.specs.Typing.BuiltIn.{BuiltIn, Copy, Exchange, Delete}
use Rattle.ti_lang.specs.Typing.Called.{called_method, member_called}
use Rattle.ti_lang.specs.Typing.Declared.{result_type}
use Rattle.ti_lang.specs.Typing.Kinds.{element_of}
use Rattle.ti_lang.specs.Typing.TextTypes.{syntactic_type, how_many}
use Rattle.ti_lang.specs.Meaning.Calls.{Call, call_by, parameters_of}
use Rattle.ti_lang.specs.Meaning.Processes.{Receiver, Nowhere, Declared, Assigned, Updated}
use Rattle.ti_lang.specs.Meaning.Scoping.{declared_type}
use Rattle.ti_lang.specs.Meaning.Statements.{declared_as, one_more}
use Rattle.ti_code.specs.declared.instr.Instr.{Instr}
use Rattle.ti_code.specs.declared.instr.Instr.TheVariants as i
use Rattle.ti_code.specs.declared.instr.Operation.{Operation}
use Rattle.ti_code.specs.Leading.{pc_after}
use Rattle.ti_code.specs.JumpRule.{jump_target_of, takes_tick, no_jump_and, leads_to_tick, jump_fits, jumps_fit_from, jumps_fit, keep_jump_rule}
use Rattle.ti_lower_expr.specs.Slots.{Name, Hidden, Point, has_this}
use Rattle.ti_lower_expr.specs.Methods.{names_in_method}
use Rattle.ti_lower_expr.specs.declared.kinds.OperandClass.{OperandClass}
use Rattle.ti_lower_expr.specs.declared.kinds.OperandClass.TheVariants.{Numbers}
use Rattle.ti_lower_expr.specs.declared.kinds.StaticRepr.{StaticRepr}
use Rattle.ti_lower_expr.specs.declared.kinds.StaticRepr.TheVariants as known
use Rattle.ti_lower_expr.specs.Knowing.{known_of}
use Rattle.ti_lower_expr.specs.Coding.{kind_in, code_of}
use Rattle.ti_lower_expr.proofs.Lemmas.{front_stands, behind_both, behind_more, Fits, fits_jumpless, fits_both, fits_next, fits_forward}
use Rattle.ti_lower_expr.proofs.Lemmas.{fits_back, fits_standing, jumpless, ticks, tick_follows, loaded_stays, own_stays, conversion_fits}
use Rattle.ti_lower_expr.proofs.Lemmas.{pops_fit, code_fits, all_fit}
use Rattle.ti_lower.specs.Calling.{number_called, args_code, call_code}
use Rattle.ti_lower.specs.Calling as calling
use Rattle.ti_lower.specs.Receivers.{written_slot, keep_code, TargetKind, InSlot, InField, InElement, store_code, update_code, kind_of_target, place_code, into_code, waiting_code, late_code}
use Rattle.ti_lower.specs.StmtCode.{LoopTargets, unknown, names_after, as_element, pop_domain, break_code, continue_code, first_code, elements_code}
use Rattle.ti_lower.specs.StmtCode.{copied_code, taken_code, grids_code, team_code, print_code, condition_code, loop_code, walk_code}
use Rattle.ti_lower.specs.StmtCode.{root_code, broadcast_code, region_code, spread_code, object_code, grid_code, valued_code, init_code}
use Rattle.ti_lower.specs.StmtCode.{both_code, copy_code, exchange_code, form_code, other_code, alone_code, gives_nothing, stm_code}
use Rattle.ti_lower.specs.StmtCode.{stms_code, maybe_code}
use Rattle.ti_lower.specs.Programs.{in_main, body_code, method_code, end_in, methods_code}
use Rattle.ti_lower.proofs.Bodies.{stands_behind}
use Rattle.ti_lower.proofs.Lengths.{again_at, test_at, exit_at, IsSteady, loop_length, body_steady}

-- ---- the way of a value

kept_stays : (o : Option ℕ) → jump_target_of (keep_code o) ≡ None
kept_stays (Some k) = refl
kept_stays None = refl

store_fits : {all : List Instr} {from : ℕ} (names : List Name) (p : Place) (k : TargetKind) → Fits all from (store_code names p k)
store_fits names p (InSlot x) = fits_next (kept_stays (written_slot x names)) (fits_jumpless refl)
store_fits names p (InField field) = fits_jumpless refl
store_fits names p InElement = fits_jumpless refl

-- it fits from each instruction on, whatever names the slots have
abbrev AnywhereFits : List Instr → (List Name → ℕ → List Instr) → Type 0
AnywhereFits all right = (names : List Name) (from : ℕ) → Fits all from (right names from)

module _ {all : List Instr} where
  update_fits : (names : List Name) (p q : Place) (name : Operation) (k : StaticRepr) (type : ValueType) (target : TargetKind) (right : List Name → ℕ → List Instr) (at : ℕ)
      → AnywhereFits all right → Fits all at (update_code names p q name k type target right at)
  update_fits names p q name k type (InSlot x) right at f =
      fits_next (loaded_stays (written_slot x names) x) (fits_both (f names _) (fits_next refl (fits_both (conversion_fits p type k) (store_fits names p (InSlot x)))))
  update_fits names p q name k type (InField field) right at f =
      fits_next refl (fits_next refl (fits_both (f names _) (fits_next refl (fits_both (conversion_fits p type k) (fits_jumpless refl)))))
  update_fits names p q name k type InElement right at f =
      fits_next refl (fits_next refl (fits_next refl (fits_next refl
      (fits_both (f (Hidden ∷ names) _) (fits_next refl (fits_both (conversion_fits p type k) (fits_jumpless refl)))))))

module _ {all : List Instr} (program : ProgramView) (this : Option ℕ) where
  place_fits : (names : List Name) (x : NumberedExp) (at : ℕ) → Fits all at (place_code program this names x at)
  place_fits names (e.Variable q x) at = fits_jumpless refl
  place_fits names (e.OwnField q field) at = fits_next (own_stays (has_this names)) (fits_jumpless refl)
  place_fits names (e.Select q x name) at = code_fits program this names x at
  place_fits names (e.Index q x parts) at = fits_both (code_fits program this names x at) (fits_both (all_fit program this names parts _) (fits_jumpless refl))
  place_fits names other at = fits_jumpless refl

  into_fits : (r : Receiver) (kind : OperandClass) (k : StaticRepr) (right : List Name → ℕ → List Instr) (names : List Name) (at : ℕ) → AnywhereFits all right
      → Fits all at (into_code program this r kind k right names at)
  into_fits Nowhere kind k right names at f = fits_both (f names at) (fits_jumpless refl)
  into_fits (Declared p x) kind k right names at f = fits_both (f names at) (fits_both (conversion_fits p (declared_type x.declared) k) (fits_jumpless refl))
  into_fits (Assigned p target) kind k right names at f =
      fits_both (place_fits names target at) (fits_both (f names _) (fits_both (conversion_fits p (syntactic_type program this target) k) (store_fits names p (kind_of_target program this target))))
  into_fits (Updated p op target) kind k right names at f = fits_both (place_fits names target at) (update_fits names p _ _ _ _ _ right _ f)

  waiting_fits : (r : Receiver) (kind : OperandClass) (k : StaticRepr) (names : List Name) (at : ℕ) → Fits all at (waiting_code program this r kind k names at)
  waiting_fits r kind k names at =
      fits_next refl (fits_both (into_fits r kind k (λ ns from. i.Load (length names) ∷ []) (Hidden ∷ names) (at + 1) (λ ns from. fits_jumpless refl)) (fits_jumpless refl))

  late_fits : (r : Receiver) (kind : OperandClass) (k : StaticRepr) (names : List Name) (at : ℕ) → Fits all at (late_code program this r kind k names at)
  late_fits Nowhere kind k names at = fits_jumpless refl
  late_fits (Declared p x) kind k names at = fits_both (conversion_fits p (declared_type x.declared) k) (fits_jumpless refl)
  late_fits (Assigned p (e.Variable q x)) kind k names at =
      fits_both (conversion_fits p (syntactic_type program this (e.Variable q x)) k) (fits_next (kept_stays (written_slot x names)) (fits_jumpless refl))
  late_fits r kind k names at = waiting_fits r kind k names at

  -- ---- calls

  args_fit : (names : List Name) (ps : List VariableUse) (xs : NumberedExps) (at : ℕ) → Fits all at (args_code program this names ps xs at)
  args_fit names (p ∷ ps) (e.MoreExp x xs) at = fits_both (fits_both (code_fits program this names x at)
      (conversion_fits (place_of_numbered x) (declared_type p.declared) (known_of program this x))) (args_fit names ps xs _)
  args_fit names ps xs at = fits_jumpless refl

  receiver_fits : (names : List Name) (x : Option NumberedExp) (at : ℕ) → Fits all at (calling.object_code program this names x at)
  receiver_fits names None at = fits_jumpless refl
  receiver_fits names (Some x) at = code_fits program this names x at

  call_fits : (names : List Name) (k : ℕ) (c : Call) (at : ℕ) → Fits all at (call_code program this names k c at)
  call_fits names k c at = fits_both (receiver_fits names c.object at) (fits_both (args_fit names (parameters_of c.method.params) c.args _) (fits_jumpless refl))

-- ---- copies and exchanges

module _ {all : List Instr} where
  element_fits : {from : ℕ} (type : ValueType) → Fits all from (as_element type)
  element_fits t.Long = fits_jumpless refl
  element_fits t.Int = fits_jumpless refl
  element_fits (t.Class class is_local) = fits_jumpless refl
  element_fits (t.Grid element dim is_local) = fits_jumpless refl
  element_fits type = fits_jumpless refl

  first_fits : {from : ℕ} (n : ℕ) → Fits all from (first_code n)
  first_fits zero = fits_jumpless refl
  first_fits (suc n) = pops_fit n

  -- what is read at a point jumps nowhere, and takes a tick
  elements_fit : (p : Place) (n : ℕ) (read : List Instr) (at : ℕ) → IsTrue (jumpless read) → IsTrue (ticks read) → Fits all at (elements_code p n read at)
  elements_fit p n read at e f =
      fits_standing (λ st.
      let loads = i.Load (n + 1) ∷ i.Load (n + 1 + 1) ∷ read in
      let back : IsTrue (leads_to_tick (drop (at + 1) all)) = tick_follows all (at + 1) loads f (front_stands all (at + 1) loads _ st.1) in
      fits_forward refl (omega (arith, behind_more (at + 1 + 1 + 1) read))
      (fits_next refl (fits_next refl (fits_both {xs = read} (fits_jumpless e)
      (fits_next refl (fits_forward refl (omega arith) (fits_back refl back (fits_jumpless refl))))))))

  grids_fit : (p : Place) (n at : ℕ) → Fits all at (grids_code p n at)
  grids_fit p n at =
      fits_next refl (fits_next refl (fits_next refl (fits_next refl (fits_next refl (fits_next refl (fits_next refl
      (fits_forward refl (omega arith) (fits_jumpless refl))))))))

module _ {all : List Instr} (program : ProgramView) (this : Option ℕ) (names : List Name) where
  abbrev of_fits : (x : NumberedExp) (at : ℕ) → Fits all at (code_of program this names x at)
  of_fits = code_fits program this names

  both_fit : (x : NumberedExp) (args : NumberedExps) (at : ℕ) → Fits all at (both_code program this names x args at)
  both_fit x args at = fits_both (of_fits x at) (fits_both (all_fit program this names args _) (first_fits (how_many args)))

  copy_fits : (p : Place) (x : NumberedExp) (args : NumberedExps) (at : ℕ) → Fits all at (copy_code program this p names x args at)
  copy_fits p x args at = fits_both (both_fit x args at) (fits_both (grids_fit p (length names) _) (elements_fit p (length names) (copied_code p (length names)) _ refl refl))

  exchange_fits : (p : Place) (x : NumberedExp) (args : NumberedExps) (at : ℕ) → Fits all at (exchange_code program this p names x args at)
  exchange_fits p x args at =
      fits_both (fits_both (both_fit x args at) (element_fits (element_of (syntactic_type program this x))))
      (fits_both {xs = team_code p (length names)} (fits_jumpless refl) (elements_fit p (length names) (taken_code p (length names)) _ refl refl))

  -- ---- simple statements

  print_fits : (p : Place) (what : NumberedPrint) (at : ℕ) → Fits all at (print_code program this p names what at)
  print_fits p s.Nothing at = fits_jumpless refl
  print_fits p (s.Text literal) at = fits_jumpless refl
  print_fits p (s.Expression x) at = fits_both (of_fits x at) (fits_jumpless refl)
  print_fits p (s.TextAndExpression literal x) at = fits_both (of_fits x at) (fits_jumpless refl)

  condition_fits : (c : Option NumberedExp) (at : ℕ) → Fits all at (condition_code program this names c at)
  condition_fits None at = fits_jumpless refl
  condition_fits (Some c) at = of_fits c at

  root_fits : (p : Place) (x : NumberedExp) (at : ℕ) → Fits all at (root_code program this p names x at)
  root_fits p x at =
      let inner = at + 1 + 1 + 1 + 1 + 1 in
      fits_next refl (fits_next refl (fits_next refl (fits_next refl (fits_forward refl (omega (arith, behind_more inner (code_of program this names x inner)))
      (fits_both (of_fits x inner) (fits_forward refl (omega arith) (fits_jumpless refl)))))))

  broadcast_fits : (p : Place) (x root : NumberedExp) (at : ℕ) → Fits all at (broadcast_code program this p names x root at)
  broadcast_fits p x root at = fits_both (of_fits root at) (root_fits p x _)

  region_fits : (x : Option NumberedExp) (at : ℕ) → Fits all at (region_code program this names x at)
  region_fits None at = fits_jumpless refl
  region_fits (Some x) at = of_fits x at

  spread_fits : (p : Place) (dims : NumberedDims) (at : ℕ) → Fits all at (spread_code program this names p dims at)
  spread_fits p (s.Domain x) at = of_fits x at
  spread_fits p (s.Ranges ranges) at = of_fits (e.Rect p (numbered_ranges ranges)) at

  object_fits : (p : Place) (region : Option NumberedExp) (class at : ℕ) → Fits all at (object_code program this names p region class at)
  object_fits p region class at = fits_both (region_fits region at) (fits_jumpless refl)

  grid_fits : (p : Place) (region : Option NumberedExp) (element : ValueType) (q : Place) (dims : NumberedDims) (at : ℕ)
      → Fits all at (grid_code program this names p region element q dims at)
  grid_fits p region element q dims at = fits_both (region_fits region at) (fits_both (spread_fits q dims _) (fits_jumpless refl))

module _ {all : List Instr} (program : ProgramView) (this : Option ℕ) where
  -- an expression whose value goes to a receiver
  value_fits : (r : Receiver) (kind : OperandClass) (k : StaticRepr) (x : NumberedExp) (names : List Name) (at : ℕ)
      → Fits all at (into_code program this r kind k (λ ns from. code_of program this ns x from) names at)
  value_fits r kind k x names at = into_fits program this r kind k _ names at (λ ns from. code_fits program this ns x from)

  valued_fits : (r : Receiver) (x : NumberedExp) (o : Option Call) (names : List Name) (at : ℕ) → Fits all at (valued_code program this r x o names at)
  valued_fits r x None names at = value_fits r (kind_in program this x) (known_of program this x) x names at
  valued_fits r x (Some c) names at = fits_both (call_fits program this names (number_called program this x) c at) (late_fits program this r (kind_in program this x) known.Other names _)

  init_fits : (r : Receiver) (x : NumberedInit) (names : List Name) (at : ℕ) → Fits all at (init_code program this r x names at)
  init_fits r (s.Value x) names at = valued_fits r x (call_by x (called_method program this x)) names at
  init_fits r (s.NewRegion p) names at = fits_next refl (fits_next refl (late_fits program this r Numbers known.Other names _))
  init_fits r (s.NewObject p region class) names at = fits_both (object_fits program this names p region class at) (late_fits program this r Numbers known.Other names _)
  init_fits r (s.NewGrid p region element q dims) names at = fits_both (grid_fits program this names p region element.type q dims at) (late_fits program this r Numbers known.Other names _)
  init_fits r (s.Broadcast p x root) names at = fits_both (broadcast_fits program this names p x root at) (late_fits program this r (kind_in program this x) known.Other names _)

  form_fits : (m : Option BuiltIn) (p : Place) (names : List Name) (x : NumberedExp) (args : NumberedExps) (at : ℕ) (other : List Instr) → Fits all at other
      → Fits all at (form_code program this m p names x args at other)
  form_fits (Some Copy) p names x args at other f = copy_fits program this names p x args at
  form_fits (Some Exchange) p names x args at other f = exchange_fits program this names p x args at
  form_fits (Some Delete) p names x args at other f = fits_both (code_fits program this names x at) (fits_jumpless refl)
  form_fits m p names x args at other f = f

  other_fits : (names : List Name) (x : NumberedExp) (at : ℕ) → Fits all at (other_code program this names x at)
  other_fits names (e.Member p x name args) at =
      form_fits (member_called program this x name) p names x args at _ (value_fits Nowhere Numbers known.Other (e.Member p x name args) names at)
  other_fits names x at = value_fits Nowhere Numbers known.Other x names at

  alone_fits : (is_void : Bool) (x : NumberedExp) (o : Option Call) (names : List Name) (at : ℕ) → Fits all at (alone_code program this is_void x o names at)
  alone_fits is_void x None names at = other_fits names x at
  alone_fits true x (Some c) names at = call_fits program this names (number_called program this x) c at
  alone_fits false x (Some c) names at = fits_both (call_fits program this names (number_called program this x) c at) (fits_jumpless refl)

-- ---- jumps out of blocks

-- both labels lie there or behind
abbrev Beyond : ℕ → Option LoopTargets → Type 0
Beyond n None = Unit {0}
Beyond n (Some l) = (n ≤ l.again) × (n ≤ l.exit)

beyond_less : (n m : ℕ) (l : Option LoopTargets) → n ≤ m → Beyond m l → Beyond n l
beyond_less n m None less z = tt
beyond_less n m (Some l) less z = (omega (arith, less, z.0), omega (arith, less, z.1))

beyond_rest : (at : ℕ) (xs ys : List Instr) (l : Option LoopTargets) → Beyond (pc_after at (xs ++ ys)) l → Beyond (pc_after (pc_after at xs) ys) l
beyond_rest at xs ys l z = subst (λ n. Beyond n l) (behind_both at xs ys) z

beyond_front : (at : ℕ) (xs ys : List Instr) (l : Option LoopTargets) → Beyond (pc_after at (xs ++ ys)) l → Beyond (pc_after at xs) l
beyond_front at xs ys l z = beyond_less (pc_after at xs) (pc_after (pc_after at xs) ys) l (behind_more (pc_after at xs) ys) (beyond_rest at xs ys l z)

module _ {all : List Instr} where
  drop_fits : (walks : Bool) (target at : ℕ) → pc_after at (pop_domain walks ++ i.Jump target ∷ []) ≤ target → Fits all at (pop_domain walks ++ i.Jump target ∷ [])
  drop_fits true target at l = fits_next refl (fits_forward refl l (fits_jumpless refl))
  drop_fits false target at l = fits_forward refl l (fits_jumpless refl)

  break_fits : (l : Option LoopTargets) (names : List Name) (at : ℕ) → Beyond (pc_after at (break_code l names at)) l → Fits all at (break_code l names at)
  break_fits None names at z = fits_next refl (fits_forward refl (omega arith) (fits_jumpless refl))
  break_fits (Some l) names at z = fits_next refl (drop_fits l.walks l.exit (at + 1) z.1)

  continue_fits : (l : Option LoopTargets) (names : List Name) (at : ℕ) → Beyond (pc_after at (continue_code l names at)) l → Fits all at (continue_code l names at)
  continue_fits None names at z = fits_next refl (fits_forward refl (omega arith) (fits_jumpless refl))
  continue_fits (Some l) names at z = fits_next refl (fits_forward refl z.0 (fits_jumpless refl))

-- ---- loops

module _ (program : ProgramView) (this : Option ℕ) (result : ValueType) where
  -- labels behind a loop lie behind its update
  update_beyond : (p : Place) (names : List Name) (c : Option NumberedExp) (body : Option LoopTargets → ℕ → List Instr) (update : ℕ → List Instr) (at : ℕ) (l : Option LoopTargets)
      → IsSteady program this result false body → Beyond (pc_after at (loop_code program this p names c body update at)) l → Beyond (test_at body update at) l
  update_beyond p names c body update at l steady z =
      let test = test_at body update at in
      let exit = exit_at program this result names c body update at in
      let further : test ≤ exit = omega (arith, behind_more test (condition_code program this names c test)) in
      beyond_less test exit l further (subst (λ n. Beyond n l) (loop_length program this result p names c body update at steady) z)

-- a body fits wherever its labels lie behind it
abbrev BodyFits : List Instr → (Option LoopTargets → ℕ → List Instr) → Type 0
BodyFits all body = (l : LoopTargets) (from : ℕ) → Beyond (pc_after from (body (Some l) from)) (Some l) → Fits all from (body (Some l) from)

module _ {all : List Instr} (program : ProgramView) (this : Option ℕ) (result : ValueType) where
  loop_fits : (p : Place) (names : List Name) (c : Option NumberedExp) (body : Option LoopTargets → ℕ → List Instr) (update : ℕ → List Instr) (at : ℕ) → IsSteady program this result false body
      → BodyFits all body → Fits all (again_at body false at) (update (again_at body false at)) → Fits all at (loop_code program this p names c body update at)
  loop_fits p names c body update at steady f g =
      let again = again_at body false at in
      let test = test_at body update at in
      let tests = condition_code program this names c test in
      let exit = pc_after test tests + 1 in
      let labels : LoopTargets = record { again = again; kept = length names; exit = exit; left = length names; walks = false } in
      let inner = body (Some labels) (at + 1 + 1) in
      let rest = update again ++ (tests ++ i.JumpIf (at + 1) ∷ []) in
      let same : pc_after (at + 1 + 1) inner ≡ again = steady labels (at + 1 + 1) refl in
      let before : again ≤ test = behind_more again (update again) in
      let beyond : Beyond (pc_after (at + 1 + 1) inner) (Some labels) = (omega (arith, same), omega (arith, same, before, behind_more test tests)) in
      fits_standing (λ st.
      let back : IsTrue (leads_to_tick (drop (at + 1) all)) = tick_follows all (at + 1) (i.Tick p ∷ []) refl (st.1.0, tt) in
      let ends : Fits all again rest = fits_both g (fits_both (condition_fits program this names c test) (fits_back refl back (fits_jumpless refl))) in
      fits_forward refl (omega (arith, behind_more (at + 1 + 1) (body (unknown false) (at + 1 + 1)), before))
      (fits_next refl (fits_both (f labels (at + 1 + 1) beyond) (subst (λ n. Fits all n rest) (sym same) ends))))

  walk_fits : (p : Place) (names : List Name) (body : Option LoopTargets → ℕ → List Instr) (at : ℕ) → IsSteady program this result true body → BodyFits all body
      → Fits all at (walk_code program this p names body at)
  walk_fits p names body at steady f =
      let n = length names in
      let again = again_at body true at in
      let labels : LoopTargets = record { again = again; kept = n + 1; exit = again + 1 + 1 + 1 + 1; left = n; walks = true } in
      let inner = body (Some labels) (at + 1 + 1) in
      let rest = i.Trim n ∷ i.Next n (again + 1 + 1 + 1) ∷ i.Jump (at + 1) ∷ i.Pop ∷ [] in
      let same : pc_after (at + 1 + 1) inner ≡ again = steady labels (at + 1 + 1) refl in
      let beyond : Beyond (pc_after (at + 1 + 1) inner) (Some labels) = (omega (arith, same), omega (arith, same)) in
      fits_standing (λ st.
      let back : IsTrue (leads_to_tick (drop (at + 1) all)) = tick_follows all (at + 1) (i.Tick p ∷ []) refl (st.1.0, tt) in
      let ends : Fits all again rest = fits_next refl (fits_forward refl (omega arith) (fits_back refl back (fits_jumpless refl))) in
      fits_forward refl (omega (arith, behind_more (at + 1 + 1) (body (unknown true) (at + 1 + 1))))
      (fits_next refl (fits_both (f labels (at + 1 + 1) beyond) (subst (λ n. Fits all n rest) (sym same) ends))))

  -- ---- statements

  mutual
    stm_fits : (x : NumberedStm) (l : Option LoopTargets) (names : List Name) (at : ℕ) → Beyond (pc_after at (stm_code program this result x l names at)) l
        → Fits all at (stm_code program this result x l names at)
    stm_fits s.Empty l names at z = fits_jumpless refl
    stm_fits (s.Declare p type variable value) l names at z = init_fits program this (Declared p (declared_as type variable)) value names at
    stm_fits (s.Assign p target value) l names at z = init_fits program this (Assigned p target) value names at
    stm_fits (s.Update p op target x) l names at z = init_fits program this (Updated p op target) (s.Value x) names at
    stm_fits (s.Step p op target) l names at z = init_fits program this (Updated p (one_more op) target) (s.Value (e.Int p (pos 1))) names at
    stm_fits (s.Print p what) l names at z = print_fits program this names p what at
    stm_fits (s.Barrier p) l names at z = fits_jumpless refl
    stm_fits (s.Block body) l names at z =
        fits_both (stms_fit body l names at (beyond_front at (stms_code program this result body l names at) (i.Trim (length names) ∷ []) l z)) (fits_jumpless refl)
    stm_fits (s.If p c x) l names at z =
        let first = code_of program this names c at in
        let start = pc_after at first + 1 in
        let inner = stm_code program this result x l names start in
        fits_both (code_fits program this names c at) (fits_forward refl (omega (arith, behind_more start inner))
        (stm_fits x l names start (beyond_rest at first (i.JumpIfNot (pc_after start inner) ∷ inner) l z)))
    stm_fits (s.IfElse p c x y) l names at z =
        let first = code_of program this names c at in
        let start = pc_after at first + 1 in
        let inner = stm_code program this result x l names start in
        let last = pc_after start inner in
        let other = stm_code program this result y l names (last + 1) in
        let tail = i.Jump (pc_after (last + 1) other) ∷ other in
        let inside : Beyond (pc_after start (inner ++ tail)) l = beyond_rest at first (i.JumpIfNot (last + 1) ∷ (inner ++ tail)) l z in
        fits_both (code_fits program this names c at) (fits_forward refl (omega (arith, behind_more start inner))
        (fits_both (stm_fits x l names start (beyond_front start inner tail l inside)) (fits_forward refl (omega (arith, behind_more (last + 1) other))
        (stm_fits y l names (last + 1) (beyond_rest start inner tail l inside)))))
    stm_fits (s.While p c body) l names at z =
        loop_fits p names (Some c) (λ m from. stm_code program this result body m names from) (λ from. []) at (body_steady program this result body names false)
        (λ k from w. stm_fits body (Some k) names from w) (fits_jumpless refl)
    stm_fits (s.For p NoStm c update body) l names at z =
        let inner : Option LoopTargets → ℕ → List Instr = λ m from. stm_code program this result body m names from in
        let changes : ℕ → List Instr = λ from. maybe_code program this result update l names from in
        let steady = body_steady program this result body names false in
        let inside = beyond_front at (loop_code program this p names c inner changes at) (i.Trim (length names) ∷ []) l z in
        fits_both (loop_fits p names c inner changes at steady (λ k from w. stm_fits body (Some k) names from w)
        (maybe_fits update l names (again_at inner false at) (update_beyond program this result p names c inner changes at l steady inside))) (fits_jumpless refl)
    stm_fits (s.For p (SomeStm first) c update body) l names at z =
        let before = stm_code program this result first l names at in
        let start = pc_after at before in
        let more = names_after first names in
        let inner : Option LoopTargets → ℕ → List Instr = λ m from. stm_code program this result body m more from in
        let changes : ℕ → List Instr = λ from. maybe_code program this result update l more from in
        let loop = loop_code program this p more c inner changes start in
        let trim = i.Trim (length names) ∷ [] in
        let steady = body_steady program this result body more false in
        let inside = beyond_front start loop trim l (beyond_rest at before (loop ++ trim) l z) in
        fits_both (stm_fits first l names at (beyond_front at before (loop ++ trim) l z))
        (fits_both (loop_fits p more c inner changes start steady (λ k from w. stm_fits body (Some k) more from w)
        (maybe_fits update l more (again_at inner false start) (update_beyond program this result p more c inner changes start l steady inside))) (fits_jumpless refl))
    stm_fits (s.Foreach p x domain body) l names at z =
        fits_both (code_fits program this names domain at)
        (walk_fits p names (λ m from. stm_code program this result body m (Point x ∷ names) from) _ (body_steady program this result body (Point x ∷ names) true)
        (λ k from w. stm_fits body (Some k) (Point x ∷ names) from w))
    stm_fits (s.Break p) l names at z = break_fits l names at z
    stm_fits (s.Continue p) l names at z = continue_fits l names at z
    stm_fits (s.Return p None) l names at z = fits_jumpless refl
    stm_fits (s.Return p (Some x)) l names at z = fits_both (code_fits program this names x at) (fits_both (conversion_fits p result (known_of program this x)) (fits_jumpless refl))
    stm_fits (s.Call x) l names at z =
        let c = call_by x (called_method program this x) in
        alone_fits program this (gives_nothing program this c) x c names at

    stms_fit : (xs : NumberedStms) (l : Option LoopTargets) (names : List Name) (at : ℕ) → Beyond (pc_after at (stms_code program this result xs l names at)) l
        → Fits all at (stms_code program this result xs l names at)
    stms_fit Nil l names at z = fits_jumpless refl
    stms_fit (Cons x rest) l names at z =
        let first = stm_code program this result x l names at in
        let more = stms_code program this result rest l (names_after x names) (pc_after at first) in
        fits_both (stm_fits x l names at (beyond_front at first more l z)) (stms_fit rest l (names_after x names) (pc_after at first) (beyond_rest at first more l z))

    maybe_fits : (x : MaybeNumbered) (l : Option LoopTargets) (names : List Name) (at : ℕ) → Beyond (pc_after at (maybe_code program this result x l names at)) l
        → Fits all at (maybe_code program this result x l names at)
    maybe_fits NoStm l names at z = fits_jumpless refl
    maybe_fits (SomeStm x) l names at z = stm_fits x l names at z

-- ---- in `main` an instruction that returns is the end of the run, which changes no jump and no tick

module _ (end : Place) where
  main_target : (x : Instr) → jump_target_of (in_main end x) ≡ jump_target_of x
  main_target i.Return = refl
  main_target x = refl

  main_tick : (x : Instr) → takes_tick (in_main end x) ≡ takes_tick x
  main_tick i.Return = refl
  main_tick x = refl

  main_leads : (xs : List Instr) → leads_to_tick (map (in_main end) xs) ≡ leads_to_tick xs
  main_leads [] = refl
  main_leads (x ∷ xs) =
      ap₂ (λ tick more. if tick then true else no_jump_and (jump_target_of (in_main end x)) more) (main_tick x) (main_leads xs)
      ∙ ap (λ o. if takes_tick x then true else no_jump_and o (leads_to_tick xs)) (main_target x)

  main_jump : (all : List Instr) (at : ℕ) (o : Option ℕ) → jump_fits (map (in_main end) all) at o ≡ jump_fits all at o
  main_jump all at None = refl
  main_jump all at (Some target) =
      ap (λ xs. if nat_le target at then leads_to_tick xs else true) (drop-map (in_main end) target all)
      ∙ ap (λ more. if nat_le target at then more else true) (main_leads (drop target all))

  main_jumps : (all : List Instr) (at : ℕ) (xs : List Instr) → jumps_fit_from (map (in_main end) all) at (map (in_main end) xs) ≡ jumps_fit_from all at xs
  main_jumps all at [] = refl
  main_jumps all at (x ∷ xs) = ap₂ (λ a b. a && b) (ap (jump_fits (map (in_main end) all) at) (main_target x) ∙ main_jump all at (jump_target_of x)) (main_jumps all (at + 1) xs)

-- ---- methods and programs

body_fits : (program : ProgramView) (m : NumberedMethod) → IsTrue (jumps_fit_from (body_code program m) 0 (body_code program m))
body_fits program m =
    let all = body_code program m in
    let fit : Fits all 0 all = fits_both (stms_fit program (this_of m) (result_type m) (numbered_stms m.body) None (names_in_method m) 0 tt) (fits_jumpless refl) in
    fit.keeps (stands_behind all [] all 0 refl refl)

method_fits : (program : ProgramView) (end : Option Place) (m : NumberedMethod) → IsTrue (jumps_fit (method_code program end m))
method_fits program None m = body_fits program m
method_fits program (Some end) m = main_jumps end (body_code program m) 0 (body_code program m) ∙ body_fits program m

methods_keep : (program : ProgramView) (n : ℕ) (ms : List NumberedMethod) → IsTrue (keep_jump_rule (methods_code program n ms))
methods_keep program n [] = refl
methods_keep program n (m ∷ ms) =
    let end = end_in (n == program.main) m in
    and_from (jumps_fit (method_code program end m)) (keep_jump_rule (methods_code program (n + 1) ms)) (method_fits program end m) (methods_keep program (n + 1) ms)

-- the code of every program keeps the rule on jumps
pub program_keeps_rule : (program : ProgramView) → IsTrue (keep_jump_rule (methods_code program 0 program.methods))
program_keeps_rule program = methods_keep program 0 program.methods
