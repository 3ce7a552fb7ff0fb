-- Each piece of work looks at its answers one after the other, as an expression does.
use Rattle.std.proofs.Common.{ℕ, Bool, true, false, if◌then◌else◌, List, [], ◌∷◌, Option, Some, None}
use Rattle.std.specs.Prelude.{pos, ◌==◌, slice_index_or}
use Rattle.ti_base.specs.declared.place.Place.{Place}
use Rattle.ti_base.specs.declared.point.Point.{Point}
use Rattle.ti_base.specs.declared.value.Value.{Value}
use Rattle.ti_base.specs.declared.action.Deposit.TheVariants as deposit
use Rattle.ti_lang.specs.Program.Types.{ValueType, VariableUse}
use Rattle.ti_lang.specs.Program.Expressions.{NumberedExp, NumberedExps, numbered_ranges}
use Rattle.ti_lang.specs.Program.Expressions as e
use Rattle.ti_lang.specs.Program.Statements.{NumberedInit, NumberedDims, NumberedPrint, NumberedStm}
use Rattle.ti_lang.specs.Program.Statements as s
use Rattle.ti_lang.specs.Program.Scope.{this_of}
use Rattle.ti_lang.specs.Typing.BuiltIn.{BuiltIn, Copy, Exchange, Delete}
use Rattle.ti_lang.specs.Typing.Called.{member_called}
use Rattle.ti_lang.specs.Meaning.Held.{Held, no_value, plain_of}
use Rattle.ti_lang.specs.Meaning.Comp.{Reference, Comp, ◌>>=◌, gives}
use Rattle.ti_lang.specs.Meaning.Processes.{Variable, Receiver, Nowhere, Declared, Assigned, Updated, Loop, While, Foreach, ContItem, Do, End, Before, Behind, Receive, CopyAll, TakeAll}
use Rattle.ti_lang.specs.Meaning.Scoping.{Env, with_new}
use Rattle.ti_lang.specs.Meaning.CellRefs.{Field, Element, domain_asked}
use Rattle.ti_lang.specs.Meaning.Evaluation.{eval}
use Rattle.ti_lang.specs.Meaning.Targets.{Target, InVariable, InPart, located, held_in, stored, into}
use Rattle.ti_lang.specs.Meaning.Moves.{Move, receives}
use Rattle.ti_lang.specs.Meaning.Calls.{Call, called, bind_params, maybe_eval, maybe_needed, calling}
use Rattle.ti_lang.specs.Meaning.Makers.{region_for, spread, new_object, new_grid}
use Rattle.ti_lang.specs.Meaning.Copies.{first_type, copies, copied, taken}
use Rattle.ti_lang.specs.Meaning.Collectives.{broadcasts, exchanges, deletes}
use Rattle.ti_lang.specs.Meaning.Statements.{declared_as, one_more, valued_or_called, made_first, initialized, member_alone, alone, prints, printed, returns, statement}
use Rattle.ti_lang.specs.Meaning.Performing.{condition, before_turn, exec_item}
use Rattle.ti_lang.proofs.MeaningLaws.Silent.{silent_guarded, silent_needed, converted_silent, operated_silent}
use Rattle.ti_lang.proofs.MeaningLaws.Short.{asked_once, fetched_short}
use Rattle.ti_lang.proofs.MeaningLaws.Computing.{Computes, computes_then, computes_value, computes_silent, computes_short, eval_computes, all_compute, numbers_compute, ranges_compute}

-- ---- targets and receivers

module _ (env : Env) where
  located_computes : (x : NumberedExp) → Computes (located env x)
  located_computes (e.Select at x name) = computes_then _ _ (eval_computes env x) (λ h. computes_value _)
  located_computes (e.Index at x parts) = computes_then _ _ (eval_computes env x) (λ h. computes_then _ _ (numbers_compute env parts) (λ ns. computes_value _))
  located_computes x = computes_value _

  held_computes : (at : Place) (type : ValueType) (t : Target) → Computes (held_in env at type t)
  held_computes at type (InVariable variable) = computes_value _
  held_computes at type (InPart part) = computes_short _ (fetched_short at type part)

  stored_computes : (at : Place) (t : Target) (h : Held) → Computes (stored env at t h)
  stored_computes at (InVariable variable) h = computes_value _
  stored_computes at (InPart (Field object through field)) h =
      computes_then _ _ (computes_silent _ (silent_needed at through object)) (λ r. computes_then _ _ (computes_short _ (asked_once _)) (λ done. computes_value _))
  stored_computes at (InPart (Element grid through index)) h =
      computes_then _ _ (computes_silent _ (silent_needed at through grid)) (λ r. computes_then _ _ (computes_short _ (asked_once _)) (λ done. computes_value _))

  pub into_computes : (r : Receiver) (right : Comp Held) → Computes right → Computes (into env r right)
  into_computes Nowhere right c = computes_then right _ c (λ h. computes_value _)
  into_computes (Declared at x) right c = computes_then right _ c (λ h. computes_then _ _ (computes_silent _ (converted_silent at _ h)) (λ k. computes_value _))
  into_computes (Assigned at target) right c =
      computes_then _ _ (located_computes target) (λ place. computes_then right _ c (λ h. computes_then _ _ (computes_silent _ (converted_silent at _ h)) (λ k. stored_computes at place k)))
  into_computes (Updated at op target) right c =
      computes_then _ _ (located_computes target)
      (λ place. computes_then _ _ (held_computes _ _ place)
      (λ old. computes_then right _ c
      (λ h. computes_then _ _ (computes_silent _ (operated_silent at op old h))
      (λ new. computes_then _ _ (computes_silent _ (converted_silent at _ new)) (λ k. stored_computes at place k)))))

  pub receives_computes : (r : Receiver) (right : Comp Held) → Computes right → Computes (receives env r right)
  receives_computes r right c = computes_then _ _ (into_computes r right c) (λ vs. computes_value _)

  -- ---- calls

  bound_computes : (ps : List VariableUse) (xs : NumberedExps) (found : List Variable) → Computes (bind_params env ps xs found)
  bound_computes [] xs found = computes_value _
  bound_computes (p ∷ ps) e.NoExp found = computes_value _
  bound_computes (p ∷ ps) (e.MoreExp x xs) found =
      computes_then _ _ (eval_computes env x) (λ h. computes_then _ _ (computes_silent _ (converted_silent _ _ h)) (λ k. bound_computes ps xs (with_new p k found)))

  object_computes : (o : Option NumberedExp) → Computes (maybe_eval env o)
  object_computes None = computes_value _
  object_computes (Some x) = computes_then _ _ (eval_computes env x) (λ h. computes_value _)

  needed_computes : (at : Place) (o : Option Held) → Computes (maybe_needed at o)
  needed_computes at None = computes_value _
  needed_computes at (Some h) = computes_then _ _ (computes_silent _ (silent_needed at _ h)) (λ r. computes_value _)

  pub calling_computes : (r : Receiver) (c : Call) → Computes (calling env r c)
  calling_computes r c =
      computes_then _ _ (object_computes c.object) (λ object. computes_then _ _ (bound_computes _ c.args [])
      (λ parameters. computes_then _ _ (needed_computes c.place object) (λ this. computes_value _)))

  -- ---- new things, copies and exchanges

  region_computes : (o : Option NumberedExp) → Computes (region_for env o)
  region_computes None = computes_value _
  region_computes (Some x) = computes_then _ _ (eval_computes env x) (λ h. computes_value _)

  spread_computes : (at : Place) (dims : NumberedDims) → Computes (spread env at dims)
  spread_computes at (s.Domain x) = eval_computes env x
  spread_computes at (s.Ranges ranges) = computes_then _ _ (ranges_compute env (numbered_ranges ranges)) (λ bounds. computes_silent _ (silent_guarded _ _ at _))

  pub object_made : (at : Place) (region : Option NumberedExp) (class : ℕ) → Computes (new_object env at region class)
  object_made at region class = computes_then _ _ (region_computes region) (λ r. computes_short _ (asked_once _))

  pub grid_made : (at : Place) (region : Option NumberedExp) (element : ValueType) (dims_at : Place) (dims : NumberedDims) → Computes (new_grid env at region element dims_at dims)
  grid_made at region element dims_at dims = computes_then _ _ (region_computes region) (λ r. computes_then _ _ (spread_computes dims_at dims) (λ h. computes_short _ (asked_once _)))

  copies_compute : (at : Place) (x : NumberedExp) (args : NumberedExps) → Computes (copies env at x args)
  copies_compute at x args =
      computes_then _ _ (eval_computes env x)
      (λ h. computes_then _ _ (all_compute env args)
      (λ hs. computes_then _ _ (computes_silent _ (silent_needed at _ h))
      (λ to. computes_then _ _ (computes_silent _ (silent_needed at (first_type env args) (slice_index_or hs 0 no_value)))
      (λ from. computes_then (domain_asked at to) _ (computes_short _ (asked_once _)) (λ d. computes_then (domain_asked at from) _ (computes_short _ (asked_once _)) (λ f. computes_value _))))))

  copied_computes : (at : Place) (to from : Reference) (points : List Point) → Computes (copied env at to from points)
  copied_computes at to from [] = computes_value _
  copied_computes at to from (p ∷ ps) = computes_then _ _ (computes_short _ (asked_once _)) (λ h. computes_then _ _ (computes_short _ (asked_once _)) (λ done. computes_value _))

  taken_computes : (at : Place) (grid : Reference) (procs : List ℕ) → Computes (taken env at grid procs)
  taken_computes at grid [] = computes_value _
  taken_computes at grid (i ∷ is) = computes_then _ _ (computes_short _ (asked_once _)) (λ h. computes_then _ _ (computes_short _ (asked_once _)) (λ done. computes_value _))

  -- ---- collectives

  deposit_computes : (is_root : Bool) (x : NumberedExp) → Computes (if is_root then (eval env x >>= λ h. gives (deposit.One (plain_of h))) else gives deposit.Nothing)
  deposit_computes true x = computes_then _ _ (eval_computes env x) (λ h. computes_value _)
  deposit_computes false x = computes_value _

  pub broadcast_computes : (r : Receiver) (at : Place) (x root : NumberedExp) → Computes (broadcasts env r at x root)
  broadcast_computes r at x root =
      computes_then _ _ (eval_computes env root)
      (λ h. computes_then _ _ (computes_silent _ (silent_guarded _ _ at _)) (λ k. computes_then _ _ (deposit_computes (env.number == k) x) (λ d. computes_value _)))

  exchanges_compute : (at : Place) (x : NumberedExp) (args : NumberedExps) → Computes (exchanges env at x args)
  exchanges_compute at x args =
      computes_then _ _ (eval_computes env x)
      (λ h. computes_then _ _ (all_compute env args)
      (λ hs. computes_then _ _ (computes_silent _ (silent_needed at _ h)) (λ grid. computes_then _ _ (computes_short _ (asked_once _)) (λ d. computes_silent _ (silent_guarded _ _ at _)))))

  deletes_compute : (at : Place) (x : NumberedExp) → Computes (deletes env at x)
  deletes_compute at x = computes_then _ _ (eval_computes env x) (λ h. computes_value _)

  -- ---- statements

  right_computes : (r : Receiver) (x : NumberedExp) (o : Option Call) → Computes (valued_or_called env r x o)
  right_computes r x None = receives_computes r (eval env x) (eval_computes env x)
  right_computes r x (Some c) = calling_computes r c

  made_computes : (r : Receiver) (new : Comp Held) → Computes new → Computes (made_first env r new)
  made_computes r new c = computes_then new _ c (λ h. receives_computes r (gives h) (computes_value h))

  initial_computes : (r : Receiver) (value : NumberedInit) → Computes (initialized env r value)
  initial_computes r (s.Value x) = right_computes r x (called env x)
  initial_computes r (s.NewRegion at) = computes_value _
  initial_computes r (s.NewObject at region class) = made_computes r (new_object env at region class) (object_made at region class)
  initial_computes r (s.NewGrid at region element dims_at dims) = made_computes r (new_grid env at region element.type dims_at dims) (grid_made at region element.type dims_at dims)
  initial_computes r (s.Broadcast at x root) = broadcast_computes r at x root

  member_computes : (at : Place) (x : NumberedExp) (args : NumberedExps) (other : Comp Move) → Computes other → (o : Option BuiltIn) → Computes (member_alone env at x args other o)
  member_computes at x args other c (Some Copy) = copies_compute at x args
  member_computes at x args other c (Some Exchange) = exchanges_compute at x args
  member_computes at x args other c (Some Delete) = deletes_compute at x
  member_computes at x args other c o = c

  alone_computes : (x : NumberedExp) (o : Option Call) → Computes (alone env x o)
  alone_computes x (Some c) = calling_computes Nowhere c
  alone_computes (e.Member at x name args) None =
      let whole = e.Member at x name args in
      member_computes at x args _ (receives_computes Nowhere (eval env whole) (eval_computes env whole)) (member_called env.program (this_of env.method) x name)
  alone_computes x None = receives_computes Nowhere (eval env x) (eval_computes env x)

  line_computes : (at : Place) (literal : Option ℕ) (value : Option Value) → Computes (prints env at literal value)
  line_computes at literal value = computes_then _ _ (computes_short _ (asked_once _)) (λ done. computes_value _)

  printed_computes : (at : Place) (what : NumberedPrint) → Computes (printed env at what)
  printed_computes at s.Nothing = line_computes at None None
  printed_computes at (s.Text literal) = line_computes at (Some literal) None
  printed_computes at (s.Expression x) = computes_then _ _ (eval_computes env x) (λ h. line_computes at None (Some (plain_of h)))
  printed_computes at (s.TextAndExpression literal x) = computes_then _ _ (eval_computes env x) (λ h. line_computes at (Some literal) (Some (plain_of h)))

  returns_compute : (at : Place) (value : Option NumberedExp) → Computes (returns env at value)
  returns_compute at None = computes_value _
  returns_compute at (Some x) = computes_then _ _ (eval_computes env x) (λ h. computes_then _ _ (computes_silent _ (converted_silent at _ h)) (λ k. computes_value _))

  pub statement_computes : (x : NumberedStm) → Computes (statement env x)
  statement_computes (s.Declare at type variable value) = initial_computes (Declared at (declared_as type variable)) value
  statement_computes (s.Assign at target value) = initial_computes (Assigned at target) value
  statement_computes (s.Update at op target x) = initial_computes (Updated at op target) (s.Value x)
  statement_computes (s.Step at op target) = initial_computes (Updated at (one_more op) target) (s.Value (e.Int at (pos 1)))
  statement_computes (s.Call x) = alone_computes x (called env x)
  statement_computes (s.Print at what) = printed_computes at what
  statement_computes (s.If at c x) = computes_then _ _ (eval_computes env c) (λ h. computes_value _)
  statement_computes (s.IfElse at c x y) = computes_then _ _ (eval_computes env c) (λ h. computes_value _)
  statement_computes (s.Foreach at variable domain body) = computes_then _ _ (eval_computes env domain) (λ h. computes_value _)
  statement_computes (s.Return at value) = returns_compute at value
  statement_computes x = computes_value _

  -- ---- all work

  condition_computes : (c : Option NumberedExp) → Computes (condition env c)
  condition_computes None = computes_value _
  condition_computes (Some c) = eval_computes env c

  turn_computes : (loop : Loop) → Computes (before_turn env loop)
  turn_computes (While at c update body) = computes_then _ _ (condition_computes c) (λ h. computes_value _)
  turn_computes (Foreach at variable domain [] body) = computes_value _
  turn_computes (Foreach at variable domain (p ∷ ps) body) = computes_value _

  pub work_computes : (w : ContItem) → Computes (exec_item env w)
  work_computes (Do x) = statement_computes x
  work_computes (End x) = computes_value _
  work_computes (Before loop) = turn_computes loop
  work_computes (Behind loop) = computes_value _
  work_computes (Receive receiver h) = receives_computes receiver (gives h) (computes_value h)
  work_computes (CopyAll at to from points) = copied_computes at to from points
  work_computes (TakeAll at grid procs) = taken_computes at grid procs
