-- What a piece of work comes to breaks no rule, and without effects it changes nothing of the slice.
use Rattle.std.proofs.Common.{◌≡◌, ℕ, zero, suc, Bool, true, false, not, ◌&&◌, ◌||◌, ◌==◌, cond, if◌then◌else◌, unwrap_or, pos, find, slice_get, option_map, Option, Some, None, List, [], ◌∷◌, ◌++◌, refl, sym, ◌∙◌}
use Rattle.std.specs.Option.{option_map_or}
use Rattle.ti_base.specs.declared.place.Place.{Place}
use Rattle.ti_base.specs.declared.point.Point.{Point}
use Rattle.ti_base.specs.declared.entry.Answer.{Answer}
use Rattle.ti_lang.specs.Members.{only_if}
use Rattle.ti_lang.specs.Scopes.{has_single}
use Rattle.ti_lang.specs.Program.Types.{ValueType, Class, Declaration}
use Rattle.ti_lang.specs.Program.Types as ty
use Rattle.ti_lang.specs.Program.Expressions.{NumberedExp, NumberedExps}
use Rattle.ti_lang.specs.Program.Expressions as e
use Rattle.ti_lang.specs.Program.Statements.{NumberedInit, NumberedPrint, NumberedStm, MaybeNumbered, NoStm, SomeStm}
use Rattle.ti_lang.specs.Program.Statements as s
use Rattle.ti_lang.specs.Program.Classes.{NumberedResult, NumberedMethod, ProgramView}
use Rattle.ti_lang.specs.Program.Classes as c
use Rattle.ti_lang.specs.Program.Scope.{this_of}
use Rattle.ti_lang.specs.Typing.BuiltIn.{BuiltIn, Copy, Exchange, Delete}
use Rattle.ti_lang.specs.Typing.Declared.{instance_method}
use Rattle.ti_lang.specs.Typing.Called.{method_behind, member_called}
use Rattle.ti_lang.specs.Typing.Singleness.{declared_single, has_single_result, is_single, is_single_initial}
use Rattle.ti_lang.specs.Typing.Effects.{acts, initial_acts, is_collective, is_single_target, doings, doings_of_maybe, together, kept_in_loop, return_acts, has_global_effects}
use Rattle.ti_lang.specs.Meaning.Held.{Held, truth_of}
use Rattle.ti_lang.specs.Meaning.Comp.{Reference, Comp, CompResult, Gives, Asks, Fails, bind_result, gives}
use Rattle.ti_lang.specs.Meaning.Processes.{Variable, Receiver, Nowhere, Declared, Assigned, Updated, While, Foreach, ContItem, Do, End, Before, Behind, Receive, CopyAll, TakeAll, Frame, Process}
use Rattle.ti_lang.specs.Meaning.Scoping.{Env, env_of, type_of, with_new, declared_type}
use Rattle.ti_lang.specs.Meaning.Conversions.{converted}
use Rattle.ti_lang.specs.Meaning.Operators.{apply_binary}
use Rattle.ti_lang.specs.Meaning.Evaluation.{eval}
use Rattle.ti_lang.specs.Meaning.CellRefs.{Field, Element}
use Rattle.ti_lang.specs.Meaning.Targets.{Target, InVariable, InPart, located, held_in, stored, into}
use Rattle.ti_lang.specs.Meaning.Makers.{new_object, new_grid}
use Rattle.ti_lang.specs.Meaning.Copies.{copies, copied, count_up, taken}
use Rattle.ti_lang.specs.Meaning.Collectives.{broadcasts, exchanges, deletes}
use Rattle.ti_lang.specs.Meaning.Calls.{Call, call_of, called, calling}
use Rattle.ti_lang.specs.Meaning.Moves.{Move, Goes, Turns, Breaks, Continues, Calls, Returns, Meets, Deletes, receives}
use Rattle.ti_lang.specs.Meaning.Statements.{made_first, valued_or_called, initialized, member_alone, alone, printed, one_more, declared_as, maybe_do, returns, statement}
use Rattle.ti_lang.specs.Meaning.Performing.{condition, declared_in, exec_item}
use Rattle.ti_lang.proofs.Lemmas.{Giving, then_giving, guarded_giving}
use Rattle.ti_rules.specs.declared.refusal.Refusal.{Refusal}
use Rattle.ti_rules.specs.declared.rule.Rule.TheVariants.{S2, S4}
use Rattle.ti_rules.specs.Refusals.{refused_if}
use Rattle.ti_rules.specs.StmtInContext.{StmtContext, scope_of, singles_in, loop_acts, in_loop, in_foreach, inside, inside_all, inside_maybe, stands}
use Rattle.ti_rules.specs.SingleRules.{has_effects, is_plain_condition, single_refusals_at, initial_refusals, whole_refusals, method_single_refusals}
use Rattle.ti_rules.proofs.Lemmas.{not_refused}
use Rattle.ti_align.specs.SinglePart.{is_single_declared, singles}
use Rattle.ti_align.proofs.Alignment.Slice.{is_single_named, is_single_receiver, jump_at, around_at, work_acts}
use Rattle.ti_align.proofs.Runs.Vars.{true_false, or_false, not_true, singles_drop, put_plain, put_singles, without_singles, without_plain}
use Rattle.ti_align.proofs.Alignment.Fine.{none_both, kept_rule, plain_rule, refusals_in, fine_head, Fine, FineMaybe, together_plain, together_first, together_second, loop_plain, loop_effect, update_effect, Within, body_within, OkWorks, NoneActs, before_ok, before_none, both_refusals}
use Rattle.ti_align.proofs.Alignment.Jumping.{acting_plain, plain_in}

-- ---- methods

-- a result is single where the word `single` is among those of its type
abbrev pub Marked : NumberedResult → Type 0
Marked c.Void = Unit {0}
Marked (c.Typed t) = t.is_single ≡ has_single t.qualifiers

-- a method that breaks no rule
abbrev pub FineMethod : ProgramView → NumberedMethod → Type 0
FineMethod p m = (method_single_refusals p m ≡ []) × Marked m.result

-- the method, if there is one
abbrev pub OneFine : ProgramView → Option NumberedMethod → Type 0
OneFine p None = Unit {0}
OneFine p (Some m) = FineMethod p m

-- all of these
abbrev pub FineMethods : ProgramView → List NumberedMethod → Type 0
FineMethods p [] = Unit {0}
FineMethods p (m ∷ ms) = FineMethod p m × FineMethods p ms

pub at_fine : (p : ProgramView) (ms : List NumberedMethod) (k : ℕ) → FineMethods p ms → OneFine p (slice_get ms k)
at_fine p [] k f = tt
at_fine p (m ∷ ms) zero f = f.0
at_fine p (m ∷ ms) (suc k) f = at_fine p ms k f.1

found_fine : (p : ProgramView) (test : NumberedMethod → Bool) (ms : List NumberedMethod) → FineMethods p ms → OneFine p (find test ms)
found_fine p test [] f = tt
found_fine p test (m ∷ ms) f = by_test (test m) (found_fine p test ms f.1)
  where
    by_test : (yes : Bool) → OneFine p (find test ms) → OneFine p (cond yes (Some m) (find test ms))
    by_test true h = f.0
    by_test false h = h

only_fine : (p : ProgramView) (test : NumberedMethod → Bool) (o : Option NumberedMethod) → OneFine p o → OneFine p (only_if test o)
only_fine p test None h = tt
only_fine p test (Some m) h = by_test (test m)
  where
    by_test : (yes : Bool) → OneFine p (if yes then Some m else None)
    by_test true = h
    by_test false = tt

instance_fine : (p : ProgramView) (class name : ℕ) → FineMethods p p.methods → OneFine p (instance_method p class name)
unfolding instance_method
instance_fine p class name f = only_fine p _ (find (λ (m : NumberedMethod). (m.class == class) && (m.name == name)) p.methods) (found_fine p _ p.methods f)

pub behind_fine : (p : ProgramView) (t : ValueType) (name : ℕ) → FineMethods p p.methods → OneFine p (method_behind p t name)
behind_fine p (Class c is_local) name f = instance_fine p c name f
behind_fine p _ name f = tt

-- ---- calls

-- a called method breaks no rule and has a single result where that goes into a single variable; without effects it isn't single
abbrev pub CallFits : ProgramView → Receiver → Bool → NumberedMethod → Type 0
CallFits p r b m = FineMethod p m × (is_single_receiver r ≡ true → has_single_result m ≡ true) × (b ≡ false → (m.is_single ≡ false) × (is_single_receiver r ≡ false))

abbrev OneCall : ProgramView → Receiver → Bool → Option Call → Type 0
OneCall p r b None = Unit {0}
OneCall p r b (Some c) = CallFits p r b c.method

by_method : (p : ProgramView) (r : Receiver) (b d : Bool) (at : Place) (object : Option NumberedExp) (args : NumberedExps) (o : Option NumberedMethod) → OneFine p o
    → (is_single_receiver r ≡ true → option_map_or has_single_result o d ≡ true)
    → (b ≡ false → option_map_or (λ (m : NumberedMethod). m.is_single) o false ≡ false) → (b ≡ false → is_single_receiver r ≡ false)
    → OneCall p r b (option_map (call_of at object args) o)
by_method p r b d at object args None f g h k = tt
by_method p r b d at object args (Some m) f g h k = (f, g, λ z. (h z, k z))

called_fits : (env : Env) (g : ℕ → Bool) (r : Receiver) (b : Bool) (x : NumberedExp) → FineMethods env.program env.program.methods
    → (is_single_receiver r ≡ true → is_single env.program (this_of env.method) g x ≡ true)
    → (b ≡ false → acts env.program (this_of env.method) x ≡ false) → (b ≡ false → is_single_receiver r ≡ false) → OneCall env.program r b (called env x)
called_fits env g r b (e.Call at method args) fine i h k =
    by_method env.program r b _ at None args (slice_get env.program.methods method) (at_fine env.program env.program.methods method fine) i (λ z. (or_false _ false (h z)).0) k
called_fits env g r b (e.OwnCall at method args) fine i h k =
    by_method env.program r b _ at _ args (slice_get env.program.methods method) (at_fine env.program env.program.methods method fine) i (λ z. (or_false _ false (h z)).0) k
called_fits env g r b (e.Member at x name args) fine i h k =
    by_method env.program r b _ at (Some x) args (method_behind env.program (type_of env x) name) (behind_fine env.program (type_of env x) name fine) i (λ z. (or_false _ _ (h z)).0) k
called_fits env g r b _ fine i h k = tt

-- ---- moves

abbrev pub Fit : ProgramView → NumberedMethod → List ContItem → List Variable → Bool → Move → Type 0
Fit p m left vs b (Goes variables works) = OkWorks p m (works ++ left) × (b ≡ false → (singles variables ≡ singles vs) × NoneActs p m works left)
Fit p m left vs b (Turns at variables works) = OkWorks p m (works ++ left) × (b ≡ false → (singles variables ≡ singles vs) × NoneActs p m works left)
Fit p m left vs b Breaks = b ≡ false → unwrap_or (jump_at p m left) false ≡ false
Fit p m left vs b Continues = b ≡ false → unwrap_or (jump_at p m left) false ≡ false
Fit p m left vs b (Calls at c this parameters receiver) = CallFits p receiver b c
Fit p m left vs b (Returns value) = b ≡ false → return_acts p m ≡ false
Fit p m left vs b (Meets wait given behind) = OkWorks p m (behind ++ left) × (b ≡ false → ⊥)
Fit p m left vs b (Deletes at region) = b ≡ false → ⊥

-- ---- receivers

pub giving_followed : {A B : Type 0} (P : A → Type 0) (Q : B → Type 0) (g : CompResult A) (go : A → Comp B) → Giving P g → ((a : A) (r : List Answer) → P a → Giving Q (go a r)) → Giving Q (bind_result g go)
giving_followed P Q (Gives a r) go k h = h a r k
giving_followed P Q (Asks request) go k h = tt
giving_followed P Q (Fails kind at) go k h = tt

abbrev PlainTarget : Target → Type 0
PlainTarget (InVariable x) = is_single_declared x.declared ≡ false
PlainTarget (InPart part) = Unit {0}

located_plain : (env : Env) (x : NumberedExp) (rest : List Answer) → is_single_named x ≡ false → Giving PlainTarget (located env x rest)
located_plain env (e.Variable at x) rest h = h
located_plain env (e.OwnField at field) rest h = tt
located_plain env (e.Select at x name) rest h = search then_giving
located_plain env (e.Index at x parts) rest h = search then_giving
located_plain env _ rest h = tt

stored_plain : (env : Env) (at : Place) (t : Target) (h : Held) (rest : List Answer) → PlainTarget t → Giving (λ vs. singles vs ≡ singles env.variables) (stored env at t h rest)
stored_plain env at (InVariable x) h rest k = put_singles x h env.variables ∙ put_plain x h env.variables k
stored_plain env at (InPart (Field object through field)) h rest k = search then_giving
stored_plain env at (InPart (Element grid through index)) h rest k = search then_giving

abbrev KeptSingles : Env → List Variable → Type 0
KeptSingles env vs = singles vs ≡ singles env.variables

-- nothing goes into a single variable
pub into_plain : (env : Env) (r : Receiver) (right : Comp Held) (rest : List Answer) → is_single_receiver r ≡ false → Giving (λ vs. singles vs ≡ singles env.variables) (into env r right rest)
into_plain env Nowhere right rest h = search then_giving
into_plain env (Declared at x) right rest h =
    then_giving (KeptSingles env) (right rest) _ (λ v r.
    then_giving (KeptSingles env) (converted at (declared_type x.declared) v r) (λ w. gives (with_new x w env.variables)) (λ w u. singles_drop (record { named = x; held = w }) env.variables h))
into_plain env (Assigned at target) right rest h =
    giving_followed PlainTarget (KeptSingles env) (located env target rest) _ (located_plain env target rest h) (λ place r k.
    then_giving (KeptSingles env) (right r) _ (λ v u.
    then_giving (KeptSingles env) (converted at (type_of env target) v u) (λ w. stored env at place w) (λ w t. stored_plain env at place w t k)))
into_plain env (Updated at op target) right rest h =
    giving_followed PlainTarget (KeptSingles env) (located env target rest) _ (located_plain env target rest h) (λ place r k.
    then_giving (KeptSingles env) (held_in env (e.place_of_numbered target) (type_of env target) place r) _ (λ old u.
    then_giving (KeptSingles env) (right u) _ (λ v t.
    then_giving (KeptSingles env) (apply_binary at op old v t) _ (λ new i.
    then_giving (KeptSingles env) (converted at (type_of env target) new i) (λ w. stored env at place w) (λ w j. stored_plain env at place w j k)))))

into_fits : (env : Env) (r : Receiver) (right : Comp Held) (b : Bool) (rest : List Answer) → (b ≡ false → is_single_receiver r ≡ false)
    → Giving (λ vs. b ≡ false → singles vs ≡ singles env.variables) (into env r right rest)
into_fits env r right true rest h = any (into env r right rest)
  where
    any : (g : CompResult (List Variable)) → Giving (λ vs. true ≡ false → singles vs ≡ singles env.variables) g
    any (Gives a rest) = λ k. absurd (true_false k)
    any (Asks request) = tt
    any (Fails kind at) = tt
into_fits env r right false rest h = weaken (into env r right rest) (into_plain env r right rest (h refl))
  where
    weaken : (g : CompResult (List Variable)) → Giving (λ vs. singles vs ≡ singles env.variables) g → Giving (λ vs. false ≡ false → singles vs ≡ singles env.variables) g
    weaken (Gives a rest) k = λ z. k
    weaken (Asks request) k = tt
    weaken (Fails kind at) k = tt

-- ---- right sides

or_else : (a b : Bool) → (a || b) ≡ false → b ≡ true → ⊥
or_else a b h k = true_false (sym k ∙ (or_false a b h).1)

module _ (q : Process) (f : Frame) (left : List ContItem) (b : Bool) (ok : OkWorks q.setting.program f.method left) (fine : FineMethods q.setting.program q.setting.program.methods) where
  pub receives_fits : (r : Receiver) (right : Comp Held) (rest : List Answer) → (b ≡ false → is_single_receiver r ≡ false)
      → Giving (Fit q.setting.program f.method left f.variables b) (receives (env_of q f left) r right rest)
  receives_fits r right rest h =
      giving_followed (λ vs. b ≡ false → singles vs ≡ singles f.variables) _ (into (env_of q f left) r right rest) _ (into_fits (env_of q f left) r right b rest h) (λ vs u k. (ok, λ z. (k z, tt)))

  pub stays : Fit q.setting.program f.method left f.variables b (Goes f.variables [])
  stays = (ok, λ z. (refl, tt))

  pub calling_fits : (r : Receiver) (c : Call) (rest : List Answer) → CallFits q.setting.program r b c.method
      → Giving (Fit q.setting.program f.method left f.variables b) (calling (env_of q f left) r c rest)
  calling_fits r c rest h = search (then_giving, h)

  pub value_fits : (r : Receiver) (x : NumberedExp) (o : Option Call) (rest : List Answer) → (b ≡ false → is_single_receiver r ≡ false)
      → OneCall q.setting.program r b o → Giving (Fit q.setting.program f.method left f.variables b)
      (valued_or_called (env_of q f left) r x o rest)
  value_fits r x None rest h k = receives_fits r (eval (env_of q f left) x) rest h
  value_fits r x (Some c) rest h k = calling_fits r c rest k

  pub made_fits : (r : Receiver) (new : Comp Held) (rest : List Answer) → (b ≡ false → is_single_receiver r ≡ false)
      → Giving (Fit q.setting.program f.method left f.variables b) (made_first (env_of q f left) r new rest)
  made_fits r new rest h = then_giving _ (new rest) _ (λ v u. receives_fits r (gives v) u h)

  pub broadcasts_fits : (r : Receiver) (at : Place) (x root : NumberedExp) (rest : List Answer) → (b ≡ false → ⊥)
      → Giving (Fit q.setting.program f.method left f.variables b) (broadcasts (env_of q f left) r at x root rest)
  broadcasts_fits r at x root rest h =
      let k : OkWorks q.setting.program f.method left × (b ≡ false → ⊥) = (ok, h) in
      search (then_giving, k)

  -- a right side, which goes into a single variable only where the test says so
  pub initialized_fits : (r : Receiver) (value : NumberedInit) (t : Bool) (g : ℕ → Bool) (rest : List Answer) → (is_single_receiver r ≡ true → t ≡ true)
      → (t ≡ true → is_single_initial q.setting.program (this_of f.method) g value ≡ true)
      → (b ≡ false → (t || initial_acts q.setting.program (this_of f.method) value) ≡ false)
      → Giving (Fit q.setting.program f.method left f.variables b) (initialized (env_of q f left) r value rest)
  initialized_fits r (s.Value x) t i rest g k h =
      value_fits r x (called (env_of q f left) x) rest (λ z. not_true _ (λ y. true_false (sym (g y) ∙ (or_false t _ (h z)).0)))
      (called_fits (env_of q f left) i r b x fine (λ y. k (g y)) (λ z. (or_false t _ (h z)).1) (λ z. not_true _ (λ y. true_false (sym (g y) ∙ (or_false t _ (h z)).0))))
  initialized_fits r (s.NewRegion at) t i rest g k h = (ok, λ z. or_else t true (h z) refl)
  initialized_fits r (s.NewObject at region class) t i rest g k h =
      made_fits r (new_object (env_of q f left) at region class) rest (λ z. not_true _ (λ y. true_false (sym (g y) ∙ (or_false t _ (h z)).0)))
  initialized_fits r (s.NewGrid at region element dims_at dims) t i rest g k h =
      made_fits r (new_grid (env_of q f left) at region element.type dims_at dims) rest (λ z. not_true _ (λ y. true_false (sym (g y) ∙ (or_false t _ (h z)).0)))
  initialized_fits r (s.Broadcast at x root) t i rest g k h = broadcasts_fits r at x root rest (λ z. or_else t true (h z) refl)

  pub exchanges_fits : (at : Place) (x : NumberedExp) (args : NumberedExps) (rest : List Answer) → (b ≡ false → ⊥)
      → Giving (Fit q.setting.program f.method left f.variables b) (exchanges (env_of q f left) at x args rest)
  exchanges_fits at x args rest h =
      let k : ((grid : Reference) → OkWorks q.setting.program f.method (TakeAll at grid (count_up 0 q.setting.procs) ∷ left)
      × (b ≡ false → ⊥)) = λ grid. ((tt, (λ z. absurd (true_false (sym z))), ok), h) in
      search (then_giving, guarded_giving, k) depth 12

  -- a copy or an exchange goes on
  pub copying : (at : Place) (to from : Reference) (points : List Point) → Fit q.setting.program f.method left f.variables b (Goes f.variables (CopyAll at to from points ∷ []))
  copying at to from points = ((tt, (λ z. absurd (true_false (sym z))), ok), λ z. (refl, (refl, tt)))

  pub taking : (at : Place) (grid : Reference) (procs : List ℕ) → Fit q.setting.program f.method left f.variables b (Goes f.variables (TakeAll at grid procs ∷ []))
  taking at grid procs = ((tt, (λ z. absurd (true_false (sym z))), ok), λ z. (refl, (refl, tt)))

  pub copies_fits : (at : Place) (x : NumberedExp) (args : NumberedExps) (rest : List Answer) → Giving (Fit q.setting.program f.method left f.variables b) (copies (env_of q f left) at x args rest)
  copies_fits at x args rest = search (then_giving, copying) depth 14

  pub copied_fits : (at : Place) (to from : Reference) (points : List Point) (rest : List Answer)
      → Giving (Fit q.setting.program f.method left f.variables b) (copied (env_of q f left) at to from points rest)
  copied_fits at to from [] rest = stays
  copied_fits at to from (p ∷ ps) rest = search (then_giving, copying)

  pub taken_fits : (at : Place) (grid : Reference) (procs : List ℕ) (rest : List Answer) → Giving (Fit q.setting.program f.method left f.variables b) (taken (env_of q f left) at grid procs rest)
  taken_fits at grid [] rest = stays
  taken_fits at grid (n ∷ ns) rest = search (then_giving, taking)

  pub deletes_fits : (at : Place) (x : NumberedExp) (rest : List Answer) → (b ≡ false → ⊥) → Giving (Fit q.setting.program f.method left f.variables b) (deletes (env_of q f left) at x rest)
  deletes_fits at x rest h = search (then_giving, h)

  pub member_fits : (at : Place) (x : NumberedExp) (args : NumberedExps) (other : Comp Move) (o : Option BuiltIn) (rest : List Answer) → (b ≡ false → is_collective o ≡ false)
      → Giving (Fit q.setting.program f.method left f.variables b) (other rest) → Giving (Fit q.setting.program f.method left f.variables b) (member_alone (env_of q f left) at x args other o rest)
  member_fits at x args other (Some Copy) rest h k = copies_fits at x args rest
  member_fits at x args other (Some Exchange) rest h k = exchanges_fits at x args rest (λ z. true_false (h z))
  member_fits at x args other (Some Delete) rest h k = deletes_fits at x rest (λ z. true_false (h z))
  member_fits at x args other _ rest h k = k

  pub prints_fits : (at : Place) (what : NumberedPrint) (rest : List Answer) → Giving (Fit q.setting.program f.method left f.variables b) (printed (env_of q f left) at what rest)
  prints_fits at s.Nothing rest = search (then_giving, stays)
  prints_fits at (s.Text literal) rest = search (then_giving, stays)
  prints_fits at (s.Expression x) rest = search (then_giving, stays)
  prints_fits at (s.TextAndExpression literal x) rest = search (then_giving, stays)

  pub returns_fits : (at : Place) (value : Option NumberedExp) (rest : List Answer)
      → (b ≡ false → return_acts q.setting.program f.method ≡ false)
      → Giving (Fit q.setting.program f.method left f.variables b) (returns (env_of q f left) at value rest)
  returns_fits at None rest h = h
  returns_fits at (Some x) rest h = search (then_giving, h)

  pub alone_fits : (x : NumberedExp) (o : Option Call) (rest : List Answer) → OneCall q.setting.program Nowhere b o → (b ≡ false → acts q.setting.program (this_of f.method) x ≡ false)
      → Giving (Fit q.setting.program f.method left f.variables b) (alone (env_of q f left) x o rest)
  alone_fits x (Some c) rest k h = calling_fits Nowhere c rest k
  alone_fits (e.Member at x name args) None rest k h =
      member_fits at x args _ (member_called q.setting.program (this_of f.method) x name) rest (λ z. (or_false _ _ (h z)).1)
      (receives_fits Nowhere (eval (env_of q f left) (e.Member at x name args)) rest (λ z. refl))
  alone_fits x None rest k h = receives_fits Nowhere (eval (env_of q f left) x) rest (λ z. refl)

-- ---- statements

-- what is wrong with the statement itself
pub rules_of : (p : ProgramView) (a : StmtContext) (x : NumberedStm) (rest : List _) → refusals_in p (stands a x ∷ rest) ≡ [] → (single_refusals_at p a x ≡ []) × (refusals_in p rest ≡ [])
rules_of p a x rest h = fine_head p (stands a x) rest h

-- the rule on values for single variables
pub value_rule : (t i : Bool) (r : _) (at : Place) (rest : List Refusal) → rest ++ refused_if (t && not i) r at ≡ [] → t ≡ true → i ≡ true
value_rule t i r at rest h = kept_rule t i (not_refused (t && not i) r at (none_both rest _ h).1)

pub target_same : (x : NumberedExp) → is_single_named x ≡ true → is_single_target x ≡ true
target_same (e.Variable at v) h = by v.declared h
  where
    by : (d : Declaration) → is_single_declared d ≡ true → declared_single (λ number. false) v.number d ≡ true
    by (ty.Typed s t) h = h
    by ty.Foreach h = absurd (true_false (sym h))
target_same _ h = absurd (true_false (sym h))

-- which foreach variables are single there
abbrev pub singles_at : StmtContext → ℕ → Bool
singles_at a = singles_in (scope_of a)

or_none : (t : Bool) → ((t || false) || false) ≡ false → (t || false) ≡ false
or_none true h = h
or_none false h = h

chosen_fine : (p : ProgramView) (a : StmtContext) (t : Bool) (x y : NumberedStm) → Fine p a x → Fine p a y → Fine p a (if t then x else y)
chosen_fine p a true x y f g = f
chosen_fine p a false x y f g = g

chosen_effects : (p : ProgramView) (a : StmtContext) (t : Bool) (x y : NumberedStm) → has_effects p a x ≡ false → has_effects p a y ≡ false → has_effects p a (if t then x else y) ≡ false
chosen_effects p a true x y f g = f
chosen_effects p a false x y f g = g

-- what stands before a loop or its next turn
first_fits : (p : ProgramView) (m : NumberedMethod) (left : List ContItem) (first : MaybeNumbered) (ws : List ContItem) (vs : List Variable) (b : Bool) → FineMaybe p (around_at p m (ws ++ left)) first
    → Within (jump_at p m (ws ++ left)) (has_global_effects (return_acts p m) (unwrap_or (jump_at p m (ws ++ left)) false) (doings_of_maybe p (this_of m) first))
    → OkWorks p m (ws ++ left) → (b ≡ false → (has_global_effects (return_acts p m) (unwrap_or (jump_at p m (ws ++ left)) false) (doings_of_maybe p (this_of m) first) ≡ false) × NoneActs p m ws left)
    → Fit p m left vs b (Goes vs (maybe_do first ++ ws))
first_fits p m left NoStm ws vs b f w o h = (o, λ z. (refl, (h z).1))
first_fits p m left (SomeStm x) ws vs b f w o h = ((f, w, o), λ z. (refl, ((h z).0, (h z).1)))

pub statement_fits : (q : Process) (f : Frame) (left : List ContItem) (x : NumberedStm) (rest : List Answer)
    → OkWorks q.setting.program f.method left → FineMethods q.setting.program q.setting.program.methods
    → Fine q.setting.program (around_at q.setting.program f.method left) x
    → Within (jump_at q.setting.program f.method left) (has_effects q.setting.program (around_at q.setting.program f.method left) x)
    → Giving (Fit q.setting.program f.method left f.variables (has_effects q.setting.program (around_at q.setting.program f.method left) x)) (statement (env_of q f left) x rest)
statement_fits q f left s.Empty rest o g i w = stays q f left _ o g
statement_fits q f left (s.Declare at type variable value) rest o g i w =
    let p = q.setting.program in
    let a = around_at p f.method left in
    initialized_fits q f left _ o g (Declared at (declared_as type variable)) value type.is_single (singles_at a) rest (λ h. h)
    (value_rule type.is_single (is_single_initial p (this_of f.method) (singles_at a) value) S4 at (initial_refusals p a value) (rules_of p a (s.Declare at type variable value) [] i).0)
    (λ h. acting_plain _ h)
statement_fits q f left (s.Assign at target value) rest o g i w =
    let p = q.setting.program in
    let a = around_at p f.method left in
    initialized_fits q f left _ o g (Assigned at target) value (is_single_target target) (singles_at a) rest (target_same target)
    (value_rule (is_single_target target) (is_single_initial p (this_of f.method) (singles_at a) value) S4 at (initial_refusals p a value) (rules_of p a (s.Assign at target value) [] i).0)
    (λ h. acting_plain _ h)
statement_fits q f left (s.Update at op target x) rest o g i w =
    let p = q.setting.program in
    let a = around_at p f.method left in
    initialized_fits q f left _ o g (Updated at op target) (s.Value x) (is_single_target target) (singles_at a) rest (target_same target)
    (value_rule (is_single_target target) (is_single p (this_of f.method) (singles_at a) x) S4 at (whole_refusals p a x) (rules_of p a (s.Update at op target x) [] i).0)
    (λ h. acting_plain _ h)
statement_fits q f left (s.Step at op target) rest o g i w =
    initialized_fits q f left _ o g (Updated at (one_more op) target) (s.Value (e.Int at (pos 1))) (is_single_target target) (λ number. false) rest (target_same target) (λ h. refl)
    (λ h. or_none (is_single_target target) h)
statement_fits q f left (s.Call x) rest o g i w =
    alone_fits q f left _ o g x (called (env_of q f left) x) rest
    (called_fits (env_of q f left) (λ number. false) Nowhere _ x g (λ h. absurd (true_false (sym h))) (λ h. acting_plain _ h) (λ h. refl)) (λ h. acting_plain _ h)
statement_fits q f left (s.Print at what) rest o g i w = prints_fits q f left _ o g at what rest
statement_fits q f left (s.Barrier at) rest o g i w = (o, λ h. true_false h)
statement_fits q f left (s.Block body) rest o g i w =
    let p = q.setting.program in
    let a = around_at p f.method left in
    let ends : OkWorks p f.method (End (s.Block body) ∷ left) = (tt, w, o) in (
      before_ok p f.method body (End (s.Block body) ∷ []) left (rules_of p a (s.Block body) (inside_all p a body) i).1 w ends,
      λ h. (refl, before_none p f.method body (End (s.Block body) ∷ []) left h (h, tt)),
    )
statement_fits q f left (s.If at c x) rest o g i w =
    let p = q.setting.program in
    let a = around_at p f.method left in
    then_giving _ (eval (env_of q f left) c rest) _ (λ v r. by (truth_of v) (rules_of p a (s.If at c x) (inside p a x) i).1)
  where
    by : (t : Bool) → Fine q.setting.program (around_at q.setting.program f.method left) x
        → Fit q.setting.program f.method left f.variables (has_effects q.setting.program (around_at q.setting.program f.method left) x)
        (Goes f.variables (if t then Do x ∷ [] else []))
    by true k = ((k, w, o), λ h. (refl, (h, tt)))
    by false k = (o, λ h. (refl, tt))
statement_fits q f left (s.IfElse at c x y) rest o g i w =
    let p = q.setting.program in
    let a = around_at p f.method left in
    let k = both_refusals p (inside p a x) (inside p a y) (rules_of p a (s.IfElse at c x y) (inside p a x ++ inside p a y) i).1 in
    let r = return_acts p f.method in
    let j = unwrap_or (jump_at p f.method left) false in
    then_giving _ (eval (env_of q f left) c rest) _ (λ v u. (
      (
        chosen_fine p a (truth_of v) x y k.0 k.1,
        chosen_within p a (truth_of v) x y
            (λ h. w (together_first r j (doings p (this_of f.method) x) (doings p (this_of f.method) y) h))
            (λ h. w (together_second r j (doings p (this_of f.method) x) (doings p (this_of f.method) y) h)),
        o,
      ),
      λ h. let z = together_plain r j (doings p (this_of f.method) x) (doings p (this_of f.method) y) h in (refl, (chosen_effects p a (truth_of v) x y z.0 z.1, tt)),
    ))
  where
    chosen_within : (p : ProgramView) (a : StmtContext) (t : Bool) (x y : NumberedStm) → Within a.jump_has (has_effects p a x)
        → Within a.jump_has (has_effects p a y) → Within a.jump_has (has_effects p a (if t then x else y))
    chosen_within p a true x y h k = h
    chosen_within p a false x y h k = k
statement_fits q f left (s.While at c body) rest o g i w =
    let p = q.setting.program in
    let a = around_at p f.method left in
    let k = rules_of p a (s.While at c body) (inside p (in_loop p a NoStm body) body) i in
    let r = return_acts p f.method in
    let j = unwrap_or (jump_at p f.method left) false in (
      (
        ((λ h. plain_rule _ _ (not_refused _ _ at k.0) h), refl, refl, k.1),
        (λ h. w (loop_effect r j (doings p (this_of f.method) body) h)),
        o,
      ),
      λ h. (refl, (loop_plain r j (doings p (this_of f.method) body) h, tt)),
    )
statement_fits q f left (s.For at first c update body) rest o g i w =
    let p = q.setting.program in
    let a = around_at p f.method left in
    let k = rules_of p a (s.For at first c update body) (inside_maybe p a first ++ (inside_maybe p a update ++ inside p (in_loop p a update body) body)) i in
    let l = both_refusals p (inside_maybe p a first) _ k.1 in
    let n = both_refusals p (inside_maybe p a update) _ l.1 in
    let u = none_both (refused_if (loop_acts p f.method update body && is_plain_condition p a c) S2 at) (refused_if (doings_of_maybe p (this_of f.method) update).jumps S2 at) k.0 in
    let r = return_acts p f.method in
    let j = unwrap_or (jump_at p f.method left) false in
    let d = together (doings_of_maybe p (this_of f.method) update) (doings p (this_of f.method) body) in
    let e = doings_of_maybe p (this_of f.method) first in
    let ends : OkWorks p f.method (Before (While at c update body) ∷ End (s.For at first c update body) ∷ left) = (
      ((λ h. plain_rule _ _ (not_refused _ _ at u.0) h), not_refused _ _ at u.1, n.0, n.1),
      (λ h. w (together_second r j e (kept_in_loop d) (loop_effect r j d h))),
      (tt, w, o),
    ) in
    first_fits p f.method left first (Before (While at c update body) ∷ End (s.For at first c update body) ∷ []) f.variables _ l.0 (λ h. w (together_first r j e (kept_in_loop d) h)) ends
    (λ h. let z = together_plain r j e (kept_in_loop d) h in (z.0, (loop_plain r j d z.1, (h, tt))))
statement_fits q f left (s.Foreach at variable domain body) rest o g i w =
    let p = q.setting.program in
    let a = around_at p f.method left in
    let k = rules_of p a (s.Foreach at variable domain body) (inside p (in_foreach p a variable domain body) body) i in
    let r = return_acts p f.method in
    let j = unwrap_or (jump_at p f.method left) false in
    let d = doings p (this_of f.method) body in
    then_giving _ (eval (env_of q f left) domain rest) _ (λ v u. ((k.1, (λ h. w (loop_effect r j d h)), o), λ h. (refl, (loop_plain r j d h, tt))))
statement_fits q f left (s.Break at) rest o g i w = λ h. h
statement_fits q f left (s.Continue at) rest o g i w = λ h. h
statement_fits q f left (s.Return at value) rest o g i w = returns_fits q f left _ o g at value rest (λ h. (or_false (return_acts q.setting.program f.method) _ h).0)

-- ---- work

pub work_fits : (q : Process) (f : Frame) (left : List ContItem) (w : ContItem) (rest : List Answer) → OkWorks q.setting.program f.method (w ∷ left) → FineMethods q.setting.program q.setting.program.methods
    → Giving (Fit q.setting.program f.method left f.variables (work_acts q.setting.program f.method left w)) (exec_item (env_of q f left) w rest)
work_fits q f left (Do x) rest o g = statement_fits q f left x rest o.2 g o.0 o.1
work_fits q f left (End x) rest o g =
    (o.2, λ h. (without_singles (declared_in x) f.variables ∙ without_plain (declared_in x) f.variables (plain_in q.setting.program _ _ _ x h), tt))
work_fits q f left (Before (While at c update body)) rest o g =
    then_giving _ (condition (env_of q f left) c rest) _ (λ v r. by (truth_of v))
  where
    by : (t : Bool) → Fit q.setting.program f.method left f.variables (loop_acts q.setting.program f.method update body)
        (if t then Turns at f.variables (Do body ∷ Behind (While at c update body) ∷ []) else Goes f.variables [])
    by true =
        let p = q.setting.program in
        let a = around_at p f.method left in (
          (o.0.3, body_within p a update body, o),
          λ h. (refl, (not_true _ (λ k. true_false (sym (body_within p a update body k) ∙ h)), (h, tt))),
        )
    by false = (o.2, λ h. (refl, tt))
work_fits q f left (Before (Foreach at v d [] body)) rest o g = (o.2, λ h. (refl, tt))
work_fits q f left (Before (Foreach at v d (x ∷ xs) body)) rest o g =
    let p = q.setting.program in
    let a = around_at p f.method left in (
      (o.0, body_within p a NoStm body, o),
      λ h. (refl, (not_true _ (λ k. true_false (sym (body_within p a NoStm body k) ∙ h)), (h, tt))),
    )
work_fits q f left (Behind (While at c update body)) rest o g =
    let p = q.setting.program in
    let l = loop_acts p f.method update body in
    let r = return_acts p f.method in
    let j = unwrap_or (jump_at p f.method left) false in
    let k : (has_global_effects r j (doings_of_maybe p (this_of f.method) update) ≡ true → l ≡ true) =
    λ h. update_effect r j (doings_of_maybe p (this_of f.method) update) (doings p (this_of f.method) body) o.0.1 h in
    let ends : OkWorks p f.method (Before (While at c update body) ∷ left) = (o.0, o.1, o.2) in
    first_fits p f.method left update (Before (While at c update body) ∷ []) f.variables l o.0.2 (λ h. o.1 (k h)) ends
    (λ h. (not_true _ (λ z. true_false (sym (k z) ∙ h)), (h, tt)))
work_fits q f left (Behind (Foreach at v d [] body)) rest o g = ((o.0, o.1, o.2), λ h. (refl, (h, tt)))
work_fits q f left (Behind (Foreach at v d (x ∷ xs) body)) rest o g = ((o.0, o.1, o.2), λ h. (refl, (h, tt)))
work_fits q f left (Receive r v) rest o g = receives_fits q f left _ o.2 g r (gives v) rest (λ h. h)
work_fits q f left (CopyAll at to from points) rest o g = copied_fits q f left _ o.2 g at to from points rest
work_fits q f left (TakeAll at grid procs) rest o g = taken_fits q f left _ o.2 g at grid procs rest
