-- Each piece of work that fits comes to a move that fits.
use Rattle.std.proofs.Common.{w32, ◌≡◌, ℕ, pos, arith, ◌==◌, Bool, true, false, inl, if◌then◌else◌, option_map, Option, Some, None, List, [], ◌∷◌, ◌++◌, refl, ap, sym, ◌∙◌, subst, eqb-true}
use Rattle.ti_base.specs.declared.place.Place.{Place}
use Rattle.ti_base.specs.declared.value.Value.{Value}
use Rattle.ti_base.specs.declared.fault.FaultKind.TheVariants as fault
use Rattle.ti_base.specs.declared.action.Action.TheVariants as act
use Rattle.ti_base.specs.declared.action.Deposit.TheVariants as deposit
use Rattle.ti_base.specs.Points.{IsDim}
use Rattle.ti_base.specs.WholeNumbers.{Fits}
use Rattle.ti_lang.specs.Program.Types.{ValueType}
use Rattle.ti_lang.specs.Program.Types as t
use Rattle.ti_lang.specs.Program.Expressions.{NumberedExp}
use Rattle.ti_lang.specs.Program.Statements.{NumberedDims, NumberedInit, NumberedPrint, NumberedStms}
use Rattle.ti_lang.specs.Program.Statements as st
use Rattle.ti_lang.specs.Program.Classes.{ProgramView}
use Rattle.ti_lang.specs.Program.Scope.{ScopeContents}
use Rattle.ti_lang.specs.Typing.Declared.{result_type}
use Rattle.ti_lang.specs.Typing.TextTypes.{static_element_type}
use Rattle.ti_lang.specs.Typing.Kinds.{is_local, is_void, element_of, as_global, domain_dim}
use Rattle.ti_lang.specs.Meaning.Held.{Held, Plain, rect_of, region_of, plain_of, points_in, truth_of}
use Rattle.ti_lang.specs.Meaning.Comp.{ToBeDone, ValueOf, NewThing, request, request_through, Comp, ◌>>=◌, gives, asked}
use Rattle.ti_lang.specs.Meaning.Answers.{IsPointOf, IsRectOf}
use Rattle.ti_lang.specs.Meaning.Conversions.{converted}
use Rattle.ti_lang.specs.Meaning.Zeros.{zero_of_type}
use Rattle.ti_lang.specs.Meaning.Makers.{region_for, spread, new_object, new_grid}
use Rattle.ti_lang.specs.Meaning.Processes.{Receiver, Loop, While, Foreach, ContItem, Do, Before, Behind, CopyAll, TakeAll}
use Rattle.ti_lang.specs.Meaning.Scoping.{Env, type_here}
use Rattle.ti_lang.specs.Meaning.Evaluation.{eval}
use Rattle.ti_lang.specs.Meaning.Moves.{Goes, Turns}
use Rattle.ti_lang.specs.Meaning.Collectives.{root_among, root_deposit}
use Rattle.ti_lang.specs.Meaning.Copies.{element_at, copied, taken}
use Rattle.ti_lang.specs.Meaning.Statements.{made_first, initialized, prints, printed, returns}
use Rattle.ti_lang.specs.Meaning.Performing.{condition, before_turn, loop_update, next_iteration}
use Rattle.ti_rules.specs.InitialTypes.{can_broadcast}
use Rattle.ti_align.specs.HeapTyping.{HeapTyping, with_owner, Grows, ArePoints, IsPlaced, IsOf, DepositFits}
use Rattle.ti_align.specs.Mirrors.Sound.{Sound}
use Rattle.ti_lang.specs.Meaning.Processes
use Rattle.ti_align.specs.Mirrors.ContItem.{uses_of, domain_written, IsInner, ReceiverFits, RegionFits, InitFits, PrintFits, ConditionFits, StmFits, StmsFit, LoopFits, TakesOf, WorksFit, WorkFits}
use Rattle.ti_align.specs.Given.{scope_over, contribution_at}
use Rattle.ti_align.proofs.RunTypes.Computing.{grows_then, own_stays, grid_stays, place_stays, of_stays, reference_stays, seen_from, goes_through, sound_then, sound_value, sound_guarded, sound_request, sound_asked}
use Rattle.ti_align.proofs.Runs.Vars.{true_false}
use Rattle.ti_align.proofs.RunTypes.Operating.{some_same, none_some, seen_same, to_global, global_type, converted_fine}
use Rattle.ti_align.proofs.RunTypes.Forms.{numbers_point, points_placed}
use Rattle.ti_align.proofs.RunTypes.Evaluating.{eval_fine}
use Rattle.ti_align.proofs.RunTypes.Storing.{plain_is, variables_stay}
use Rattle.ti_align.proofs.RunTypes.Performed.{Ready, ready_stays, Fine, inner_fine, receives_fine, whole_fine}

sent : (w : HeapTyping) (u : ValueType) (h : Held) → can_broadcast u ≡ true → IsOf w u h → IsOf w (as_global u) (Plain (plain_of h))
sent w t.Int h z k = plain_is w t.Int h tt k
sent w t.Long h z k = plain_is w t.Long h tt k
sent w t.Boolean h z k = plain_is w t.Boolean h tt k
sent w (t.Pt n) h z k = plain_is w (t.Pt n) h (subst IsDim k.2.dim_is k.2.form.dim) k
sent w (t.Rc n) h z k = plain_is w (t.Rc n) h (subst IsDim k.2.dim_is k.2.form.0) k
sent w (t.Class c l) h z k = plain_is w (t.Class c false) h tt (to_global w (t.Class c l) h k)
sent w (t.Grid x n l) h z k = plain_is w (t.Grid x n false) h tt (to_global w (t.Grid x n l) h k)
sent w t.Null h z k = ap (λ y. Plain (plain_of y)) k
sent w (t.Dm n) h z k = cc
sent w t.Region h z k = cc
sent w t.Void h z k = cc

-- what is handed on is a value
given_value : (u : ValueType) → can_broadcast u ≡ true → is_void (as_global u) ≡ false
given_value (t.Dm n) z = cc
given_value t.Region z = cc
given_value t.Void z = cc
given_value _ z = refl

-- the points of a domain
pub points_fit : (w : HeapTyping) (u : ValueType) (n : ℕ) (h : Held) → domain_dim u ≡ Some n → IsOf w u h → ArePoints n (points_in h)
points_fit w (t.Rc m) n h z k = subst (λ i. ArePoints i (points_in h)) (some_same m n z) (subst (λ y. ArePoints m (points_in y)) (sym k.1) (points_placed m k.0 k.2).0)
points_fit w (t.Dm m) n h z k = subst (λ i. ArePoints i (points_in h)) (some_same m n z) (subst (λ y. ArePoints m (points_in y)) (sym k.1) k.2.points)
points_fit w _ n h z k = absurd (none_some n z)

-- the point of a process in a grid of one dimension
element_point : (i : ℕ) → Fits w32 (pos i) → IsPointOf 1 (element_at i)
element_point i f = numbers_point (pos i ∷ []) 1 refl (omega arith, omega arith) (f, tt)

module _ (s : ScopeContents) (env : Env) where
  abbrev p : ProgramView
  p = env.program

  -- ---- new things

  region_fine : (w : HeapTyping) → Ready s w env → (region : Option NumberedExp) → RegionFits p env.method s region → Sound p (λ u r. IsPlaced u r) w (region_for env region)
  region_fine w r None k = sound_value p _ w _ (inl refl)
  region_fine w r (Some x) k =
      sound_then p (λ u h. IsOf u t.Region h) _ w (eval env x) _ (inner_fine s env w r x t.Region k.0 k.1) (λ u g h y. sound_value p _ u _ (subst (IsPlaced u) (sym (ap region_of y.1)) y.2))

  spread_fine : (w : HeapTyping) → Ready s w env → (at : Place) (dims : NumberedDims) (n : ℕ)
      → IsInner p env.method s (domain_written at dims) (t.Rc n) → Sound p (λ u h. IsOf u (t.Rc n) h) w (spread env at dims)
  spread_fine w r at (st.Domain x) n k = inner_fine s env w r x (t.Rc n) k.0 k.1
  spread_fine w r at (st.Ranges ranges) n k = inner_fine s env w r (domain_written at (st.Ranges ranges)) (t.Rc n) k.0 k.1

  made_fine : (handed untaken : Option ValueType) (w : HeapTyping) → Ready s w env
      → (receiver : Receiver) (type : ValueType) (new : Comp Held) → ReceiverFits p env.method s receiver type
      → Sound p (λ u h. IsOf u type h) w new → Fine s env handed untaken w (made_first env receiver new)
  made_fine handed untaken w r receiver type new q k =
      sound_then p (λ u h. IsOf u type h) _ w new _ k (λ u g h y. receives_fine s env handed untaken u
      (ready_stays s w u env g r) receiver type (gives h) q (λ x j. sound_value p _ x _ (of_stays u x type h j y)))

  -- ---- right sides

  root_fine : (w : HeapTyping) → Ready s w env → (root : ℕ) (x : NumberedExp) (u : ValueType) → IsInner p env.method s x u → can_broadcast u ≡ true
      → Sound p (λ x given. DepositFits x (as_global u) given) w (root_deposit env root x)
  root_fine w r root x u k z = by (env.number == root)
    where
      by : (b : Bool) → Sound p (λ x given. DepositFits x (as_global u) given) w (if b then (eval env x >>= λ h. gives (deposit.One (plain_of h))) else gives deposit.Nothing)
      by true = sound_then p (λ u' h. IsOf u' u h) _ w (eval env x) _ (inner_fine s env w r x u k.0 k.1) (λ a g h y. sound_value p _ a _ (sent a u h z y, given_value u z, global_type u))
      by false = sound_value p _ w _ tt

  pub init_fine : (untaken : Option ValueType) (w : HeapTyping) → Ready s w env
      → (receiver : Receiver) (value : NumberedInit) (type : ValueType) → InitFits p env.method s value type
      → ReceiverFits p env.method s receiver type → Fine s env (contribution_at p s value) untaken w (initialized env receiver value)
  init_fine untaken w r receiver (st.Value x) type k q = whole_fine s env None untaken w r receiver x type k.0 k.1 q
  init_fine untaken w r receiver (st.NewRegion at) type k q = sound_value p _ w _ ((type, q, tt, k, refl, tt), tt)
  init_fine untaken w r receiver (st.NewObject at region class) type k q =
      made_fine None untaken w r receiver type (new_object env at region class) q (subst (λ y. Sound p (λ u h. IsOf u y h) w (new_object env at region class)) (sym k.0) (
      sound_then p (λ u r. IsPlaced u r) _ w (region_for env region) _ (region_fine w r region k.1) (λ u g i y.
      sound_request p _ u at (act.NewObj class i) (NewThing (t.Class class true)) refl (k.2.0, k.2.1, y) refl (λ x j answer o. o))
      ))
  init_fine untaken w r receiver (st.NewGrid at region element dims_at dims) type k q =
      made_fine None untaken w r receiver type (new_grid env at region element.type dims_at dims) q
      (subst (λ y. Sound p (λ u h. IsOf u y h) w (new_grid env at region element.type dims_at dims)) (sym k.1) (
      sound_then p (λ u r. IsPlaced u r) _ w (region_for env region) _ (region_fine w r region k.2) (λ u g i y.
      sound_then p (λ u h. IsOf u (t.Rc k.0) h) _ u (spread env dims_at dims) _ (spread_fine u (ready_stays s w u env g r) dims_at dims k.0 k.3) (λ x j h o.
      let is_rect : IsRectOf k.0 (rect_of h) = subst (IsRectOf k.0) (sym (ap rect_of o.1)) o.2 in
      let fine = (eval_fine (uses_of env.method) s w env r.fits r.fields (domain_written dims_at dims) k.3.0 (t.Rc k.0) k.3.1).dims in
      sound_request p _ x at (act.NewGrid (zero_of_type element.type) (rect_of h) i) (NewThing (t.Grid element.type (rect_of h).dim true)) refl
      (element.type, k.0, ap (λ n. NewThing (t.Grid element.type n true)) is_rect.dim_is, refl, is_rect, fine, place_stays u x i j y, k.4)
      (element.type, (rect_of h).dim, true, refl) (λ z l answer c. c element.type k.0 (ap (λ n. NewThing (t.Grid element.type n true)) is_rect.dim_is))))
      ))
  init_fine untaken w r receiver (st.Broadcast at x root) type k q =
      sound_then p (λ u h. IsOf u t.Int h) _ w (eval env root) _ (inner_fine s env w r root t.Int k.3.0 k.3.1) (λ u g h y.
      sound_then p (λ u n. Unit {0}) _ u (root_among env.procs at h) _ (sound_guarded p _ u _ fault.BadRoot at _ tt) (λ a i n o.
      sound_then p (λ u given. DepositFits u (as_global k.0) given) _ a (root_deposit env n x) _ (root_fine a (ready_stays s w a env (grows_then w u a g i) r) n x k.0 k.2 k.4) (λ b j given l.
      sound_value p _ b _ (
        (
          as_global k.0,
          subst (ReceiverFits p env.method s receiver) k.1 q,
          l,
          ap (option_map as_global) k.2.1,
          (
            type_here env x,
            refl,
            ap as_global (sym (r.types x k.0 k.2.0 k.2.1)),
            subst (λ y. can_broadcast y ≡ true) (sym (r.types x k.0 k.2.0 k.2.1)) k.4,
          ),
          tt,
        ),
        tt,
      ))))

  -- ---- prints

  print_done : (handed untaken : Option ValueType) (w : HeapTyping) → Ready s w env → (at : Place) (literal : Option ℕ) (value : Option Value) → Fine s env handed untaken w (prints env at literal value)
  print_done handed untaken w r at literal value =
      sound_then p (λ u h. Unit {0}) _ w (asked (request at (act.Print literal value) ToBeDone)) _
      (sound_request p _ w at (act.Print literal value) ToBeDone refl tt refl (λ u g answer o. tt))
      (λ u g h y. sound_value p _ u _ (variables_stay w u env.variables g r.variables, tt, tt))

  pub print_fine : (handed untaken : Option ValueType) (w : HeapTyping) → Ready s w env → (at : Place) (what : NumberedPrint)
      → PrintFits p env.method s what → Fine s env handed untaken w (printed env at what)
  print_fine handed untaken w r at st.Nothing k = print_done handed untaken w r at None None
  print_fine handed untaken w r at (st.Text literal) k = print_done handed untaken w r at (Some literal) None
  print_fine handed untaken w r at (st.Expression x) k = sound_then p (λ u h. IsOf u k.0 h) _ w (eval env x) _
      (inner_fine s env w r x k.0 k.1.0 k.1.1) (λ u g h y. print_done handed untaken u (ready_stays s w u env g r) at None
      (Some (plain_of h)))
  print_fine handed untaken w r at (st.TextAndExpression literal x) k =
      sound_then p (λ u h. IsOf u k.0 h) _ w (eval env x) _ (inner_fine s env w r x k.0 k.1.0 k.1.1)
      (λ u g h y. print_done handed untaken u (ready_stays s w u env g r) at (Some literal) (Some (plain_of h)))

  pub return_fine : (handed untaken : Option ValueType) (w : HeapTyping) → Ready s w env → (at : Place) (value : Option NumberedExp)
      → StmFits p env.method s (st.Return at value) → Fine s env handed untaken w (returns env at value)
  return_fine handed untaken w r at None k = sound_value p _ w _ tt
  return_fine handed untaken w r at (Some x) k =
      sound_then p (λ u h. IsOf u k.0 h) _ w (eval env x) _ (inner_fine s env w r x k.0 k.1.0 k.1.1) (λ u g h y.
      sound_then p (λ u h. IsOf u (result_type env.method) h) _ u (converted at (result_type env.method) h) _
      (converted_fine p u at k.0 (result_type env.method) _ h k.2 (seen_same _) y) (λ a i j o. sound_value p _ a _ o))

  -- ---- loops

  condition_fine : (w : HeapTyping) → Ready s w env → (c : Option NumberedExp) → ConditionFits p env.method s c → Sound p (λ u h. IsOf u t.Boolean h) w (condition env c)
  condition_fine w r None k = sound_value p _ w _ (true, refl)
  condition_fine w r (Some c) k = inner_fine s env w r c t.Boolean k.0 k.1

  pub before_fine : (handed untaken : Option ValueType) (w : HeapTyping) → Ready s w env → (loop : Loop) → LoopFits p env.method s loop → Fine s env handed untaken w (before_turn env loop)
  before_fine handed untaken w r (While at c update body) k =
      sound_then p (λ u h. IsOf u t.Boolean h) _ w (condition env c) _ (condition_fine w r c k.0) (λ u g h y. by u g (truth_of h))
    where
      by : (u : HeapTyping) → Grows w u → (b : Bool) → Fine s env handed untaken u (gives (if b then Turns at env.variables (Do body ∷ Behind (While at c update body) ∷ []) else Goes env.variables []))
      by u g true = sound_value p _ u _ (variables_stay w u env.variables g r.variables, (k.2, ((k, tt), tt)), tt)
      by u g false = sound_value p _ u _ (variables_stay w u env.variables g r.variables, tt, tt)
  before_fine handed untaken w r (Foreach at number domain [] body) k = sound_value p _ w _ (r.variables, tt, tt)
  before_fine handed untaken w r (Foreach at number domain (q ∷ qs) body) k = sound_value p _ w _ (r.variables, (k.1, ((k, tt), tt)), tt)

  pub behind_fine : (handed untaken : Option ValueType) (w : HeapTyping) → Ready s w env → (loop : Loop) → LoopFits p env.method s loop
      → Fine s env handed untaken w (gives (Goes env.variables (loop_update loop ++ Before (next_iteration loop) ∷ [])))
  behind_fine handed untaken w r (While at c st.NoStm body) k = sound_value p _ w _ (r.variables, (k, tt), tt)
  behind_fine handed untaken w r (While at c (st.SomeStm x) body) k = sound_value p _ w _ (r.variables, (k.1, (k, tt)), tt)
  behind_fine handed untaken w r (Foreach at number domain [] body) k = sound_value p _ w _ (r.variables, (k, tt), tt)
  behind_fine handed untaken w r (Foreach at number domain (q ∷ qs) body) k = sound_value p _ w _ (r.variables, (((k.0.0, k.0.1, k.0.2.1), k.1), tt), tt)

  -- ---- copies and exchanges

  pub copied_fine : (handed untaken : Option ValueType) (w : HeapTyping) → Ready s w env → (at : Place) (to from : _) (points : _)
      → WorkFits p env.method s w (CopyAll at to from points) → Fine s env handed untaken w (copied env at to from points)
  copied_fine handed untaken w r at to from [] k = sound_value p _ w _ (r.variables, tt, tt)
  copied_fine handed untaken w r at to from (q ∷ qs) k =
      sound_then p (λ u h. IsOf (with_owner from.thing.owner u) k.0 h) _ w (asked (request_through from at (act.GetElem from.thing q) (ValueOf (static_element_type from.type)))) _
      (sound_asked p _ w (request_through from at (act.GetElem from.thing q) (ValueOf (static_element_type from.type))) (
        (k.0, k.1, k.3, k.4.0),
        goes_through w from (act.GetElem from.thing q) refl k.6,
        (k.0, static_element_type from.type, k.1, k.3, refl, k.9),
      )
      (λ u g answer o. o k.0 k.1 (grid_stays w u k.0 k.1 from.thing g k.3))) (λ u g h y.
      let copy =
      seen_from (with_owner from.thing.owner u) to.thing.owner k.0 _ (λ z. eqb-true from.thing.owner w.owner (k.8 z)
      ∙ sym (eqb-true to.thing.owner w.owner (k.7 z))) (plain_is (with_owner from.thing.owner u) k.0 h k.2.4 y) in
      sound_then p (λ u h. Unit {0}) _ u (asked (request_through to at (act.PutElem to.thing q (plain_of h)) ToBeDone)) _
      (sound_asked p _ u (request_through to at (act.PutElem to.thing q (plain_of h)) ToBeDone) (
        (k.0, k.1, grid_stays w u k.0 k.1 to.thing g k.2, k.4.0, copy),
        goes_through u to (act.PutElem to.thing q (plain_of h)) refl (reference_stays w u to g k.5),
        refl,
      ) (λ a i answer o. tt))
      (λ a i j o.
      let all = grows_then w u a g i in
      sound_value p _ a _ (
        variables_stay w a env.variables all r.variables,
        (
          (
            k.0,
            k.1,
            grid_stays w a k.0 k.1 to.thing all k.2,
            grid_stays w a k.0 k.1 from.thing all k.3,
            k.4.1,
            reference_stays w a to all k.5,
            reference_stays w a from all k.6,
            own_stays w a (is_local k.0) (Some to.thing) all k.7,
            own_stays w a (is_local k.0) (Some from.thing) all k.8,
            k.9,
          ),
          tt,
        ),
        tt,
      )))

  pub taken_fine : (handed : Option ValueType) (w : HeapTyping) → Ready s w env → (at : Place) (grid : _) (procs : List ℕ)
      → WorkFits p env.method s w (TakeAll at grid procs) → Fine s env handed (Some (element_of grid.type)) w (taken env at grid procs)
  taken_fine handed w r at grid [] k = sound_value p _ w _ (r.variables, tt, tt)
  taken_fine handed w r at grid (i ∷ is) k =
      let a = element_of grid.type in
      sound_then p (λ u h. IsOf u a h) _ w (asked (request at (act.Take i) (ValueOf a))) _
      (sound_request p _ w at (act.Take i) (ValueOf a) refl tt (a, refl, k.0.4) (λ u g answer o. o a refl)) (λ u g h y.
      sound_then p (λ u h. Unit {0}) _ u (asked (request_through grid at (act.PutElem grid.thing (element_at i) (plain_of h)) ToBeDone)) _
      (sound_asked p _ u (request_through grid at (act.PutElem grid.thing (element_at i) (plain_of h)) ToBeDone) (
        (
          a,
          1,
          grid_stays w u a 1 grid.thing g k.0,
          element_point i k.1.0,
          seen_from u grid.thing.owner a _ (λ z. absurd (true_false (sym z ∙ k.3))) (plain_is u a h k.0.4 y),
        ),
        goes_through u grid (act.PutElem grid.thing (element_at i) (plain_of h)) refl (reference_stays w u grid g k.2),
        refl,
      )
      (λ b j answer o. tt)) (λ b j z o.
      let all = grows_then w u b g j in
      sound_value p _ b _ (variables_stay w b env.variables all r.variables, ((grid_stays w b a 1 grid.thing all k.0, k.1.1, reference_stays w b grid all k.2, k.3), tt), (refl, tt))))

  -- ---- blocks

  all_over : (xs : NumberedStms) (left : List ContItem) → scope_over p s (Processes.all_before xs left) ≡ scope_over p s left
  all_over st.Nil left = refl
  all_over (st.Cons x rest) left = all_over rest left

  pub all_fit : (w : HeapTyping) (xs : NumberedStms) (left : List ContItem) → StmsFit p env.method (scope_over p s left) xs
      → WorksFit p env.method s w left → WorksFit p env.method s w (Processes.all_before xs left)
  all_fit w st.Nil left k q = q
  all_fit w (st.Cons x rest) left k q = (subst (λ y. StmFits p env.method y x) (sym (all_over rest left)) k.0, all_fit w rest left k.1 q)

  -- nothing is taken in statements
  pub none_taken : (untaken : Option ValueType) (xs : NumberedStms) (left : List ContItem) → TakesOf untaken left → TakesOf untaken (Processes.all_before xs left)
  none_taken untaken st.Nil left k = k
  none_taken untaken (st.Cons x rest) left k = none_taken untaken rest left k
