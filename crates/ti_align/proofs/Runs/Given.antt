-- What processes give at their arrivals, and from whom they take: an exchange that a process has left is taken in at once.
use Rattle.std.proofs.Common.{◌≡◌, ℕ, zero, suc, ◌+◌, ◌<◌, nat_lt, ◌==◌, ℤ, pos, negsuc, int_le, int_lt, length, Bool, true, false, ◌&&◌, ◌⊎◌, inl, inr, if◌then◌else◌, Option, Some, None, List, [], ◌∷◌, ◌++◌, refl, sym, ◌∙◌, subst, arith, ltb-true, eq-eqb, slice_get}
use Rattle.std.specs.Option.{option_map_or}
use Rattle.ti_base.specs.declared.place.Place.{Place}
use Rattle.ti_base.specs.declared.value.Value.{Value}
use Rattle.ti_base.specs.declared.fault.FaultKind.TheVariants.{Fuel, Depth, BadRoot}
use Rattle.ti_base.specs.declared.action.Action.{Action}
use Rattle.ti_base.specs.declared.action.Action.TheVariants as act
use Rattle.ti_base.specs.declared.action.CollKind.{CollKind}
use Rattle.ti_base.specs.declared.action.CollKind.TheVariants as coll
use Rattle.ti_base.specs.declared.action.Deposit.{Deposit}
use Rattle.ti_base.specs.declared.action.Deposit.TheVariants as deposit
use Rattle.ti_base.specs.declared.entry.Answer.{Answer}
use Rattle.ti_base.specs.Ranges.{natural}
use Rattle.ti_lang.specs.Program.Expressions.{NumberedExp, NumberedExps}
use Rattle.ti_lang.specs.Program.Expressions as e
use Rattle.ti_lang.specs.Program.Statements.{NumberedInit, NumberedPrint, NumberedStm, MaybeNumbered, NoStm, SomeStm, NumberedStms, Nil, Cons, numbered_stms}
use Rattle.ti_lang.specs.Program.Statements as s
use Rattle.ti_lang.specs.Program.Classes.{NumberedMethod}
use Rattle.ti_lang.specs.Program.Scope.{this_of}
use Rattle.ti_lang.specs.Typing.BuiltIn.{BuiltIn, Copy, Exchange, Delete}
use Rattle.ti_lang.specs.Typing.Called.{member_called}
use Rattle.ti_lang.specs.Meaning.Held.{Held, truth_of, whole_of, plain_of}
use Rattle.ti_lang.specs.Meaning.Comp.{ToBeDone, Reference, Request, Comp, ◌>>=◌, CompResult, Gives, Asks, Fails, gives, guard}
use Rattle.ti_lang.specs.Meaning.Processes.{RunConfig, Variable, Receiver, Nowhere, Declared, Assigned, Updated, While, Foreach, ContItem, Do, End, Before, Behind, Receive, CopyAll, TakeAll, Frame, frame_of, Wait, Process, all_before, begin}
use Rattle.ti_lang.specs.Meaning.Scoping.{Env, env_of}
use Rattle.ti_lang.specs.Meaning.Evaluation.{eval}
use Rattle.ti_lang.specs.Meaning.Makers.{new_object, new_grid}
use Rattle.ti_lang.specs.Meaning.Copies.{copies, copied, count_up, taken}
use Rattle.ti_lang.specs.Meaning.Collectives.{root_among, root_deposit, broadcasts, exchanges}
use Rattle.ti_lang.specs.Meaning.Calls.{Call, called, calling}
use Rattle.ti_lang.specs.Meaning.Moves.{Move, Goes, Turns, Breaks, Continues, Calls, Returns, Meets, Deletes, receives}
use Rattle.ti_lang.specs.Meaning.Statements.{made_first, valued_or_called, initialized, member_alone, alone, printed, one_more, declared_as, maybe_do, returns, statement}
use Rattle.ti_lang.specs.Meaning.Performing.{condition, exec_item}
use Rattle.ti_lang.specs.Meaning.Jumps.{has_mark, from_mark, past_mark}
use Rattle.ti_lang.specs.Meaning.Steps.{Step, To, At, Ends, Faults, ticks, step_of_result, deliver, most_frames, named_in, value_asked, moves, works, runs, steps, step}
use Rattle.ti_lang.specs.Meaning.RoundsOf.{value_in}
use Rattle.ti_lang.specs.Meaning.Histories.{is_arrival}
use Rattle.ti_lang.proofs.Lemmas.{Giving, then_giving, guarded_giving, Each, Of, FirstTaken, performed_asks}
use Rattle.ti_align.proofs.Runs.Ways.{asking, Meeting, Way, last_from}
use Rattle.ti_align.proofs.Runs.Ways as way
use Rattle.ti_align.proofs.Runs.Vars.{true_false, and_right}
use Rattle.ti_align.proofs.Alignment.Fitting.{giving_followed}

-- ---- what is given

-- a deposit with a value
abbrev pub HasValue : Deposit → Type 0
HasValue d = (value : Value) × (value_in d ≡ Some value)

-- what the arrival of process i among so many says: the root of a broadcast is a process, which gives a value, and so does each at
-- an exchange; a delete names a region
abbrev pub ArrivalFine : ℕ → ℕ → CollKind → Option ℕ → Deposit → Type 0
ArrivalFine procs i coll.Broadcast arg given = (root : ℕ) × (arg ≡ Some root) × (root < procs) × (i ≡ root → HasValue given)
ArrivalFine procs i coll.Exchange arg given = HasValue given
ArrivalFine procs i coll.DeleteRegion arg given = (region : ℕ) × (arg ≡ Some region)
ArrivalFine procs i kind arg given = Unit {0}

-- ---- work that holds nothing

-- no work holds a value on its way, or names a grid
abbrev pub HoldsNothing : List ContItem → Type 0
HoldsNothing [] = Unit {0}
HoldsNothing (Receive receiver h ∷ ws) = ⊥
HoldsNothing (CopyAll at to from points ∷ ws) = ⊥
HoldsNothing (TakeAll at grid procs ∷ ws) = ⊥
HoldsNothing (w ∷ ws) = HoldsNothing ws

abbrev pub Below : ℕ → List ℕ → Type 0
Below n [] = Unit {0}
Below n (i ∷ is) = (i < n) × Below n is

-- what holds something stands first alone, and takes do where the last arrival was at an exchange
abbrev pub LeftFine : ℕ → Option CollKind → List ContItem → Type 0
LeftFine procs last [] = Unit {0}
LeftFine procs last (TakeAll at grid is ∷ ws) = (last ≡ Some coll.Exchange) × Below procs is × HoldsNothing ws
LeftFine procs last (w ∷ ws) = HoldsNothing ws

free_fine : (procs : ℕ) (last : Option CollKind) (ws : List ContItem) → HoldsNothing ws → LeftFine procs last ws
free_fine procs last [] n = tt
free_fine procs last (TakeAll at grid is ∷ ws) n = absurd n
free_fine procs last (Do x ∷ ws) n = n
free_fine procs last (End x ∷ ws) n = n
free_fine procs last (Before loop ∷ ws) n = n
free_fine procs last (Behind loop ∷ ws) n = n
free_fine procs last (Receive r h ∷ ws) n = absurd n
free_fine procs last (CopyAll at to from points ∷ ws) n = absurd n

pub tail_free : (procs : ℕ) (last : Option CollKind) (w : ContItem) (ws : List ContItem) → LeftFine procs last (w ∷ ws) → HoldsNothing ws
tail_free procs last (TakeAll at grid is) ws n = n.2
tail_free procs last _ ws n = n

pub free_both : (xs ys : List ContItem) → HoldsNothing xs → HoldsNothing ys → HoldsNothing (xs ++ ys)
free_both [] ys n m = m
free_both (TakeAll at grid is ∷ ws) ys n m = absurd n
free_both (Do x ∷ ws) ys n m = free_both ws ys n m
free_both (End x ∷ ws) ys n m = free_both ws ys n m
free_both (Before loop ∷ ws) ys n m = free_both ws ys n m
free_both (Behind loop ∷ ws) ys n m = free_both ws ys n m
free_both (Receive r h ∷ ws) ys n m = absurd n
free_both (CopyAll at to from points ∷ ws) ys n m = absurd n

fine_both : (procs : ℕ) (last : Option CollKind) (xs ys : List ContItem) → LeftFine procs last xs → HoldsNothing ys → LeftFine procs last (xs ++ ys)
fine_both procs last [] ys n m = free_fine procs last ys m
fine_both procs last (TakeAll at grid is ∷ ws) ys n m = (n.0, n.1, free_both ws ys n.2 m)
fine_both procs last (Do x ∷ ws) ys n m = free_both ws ys n m
fine_both procs last (End x ∷ ws) ys n m = free_both ws ys n m
fine_both procs last (Before loop ∷ ws) ys n m = free_both ws ys n m
fine_both procs last (Behind loop ∷ ws) ys n m = free_both ws ys n m
fine_both procs last (Receive r h ∷ ws) ys n m = free_both ws ys n m
fine_both procs last (CopyAll at to from points ∷ ws) ys n m = free_both ws ys n m

free_before : (xs : NumberedStms) (ws : List ContItem) → HoldsNothing ws → HoldsNothing (all_before xs ws)
free_before Nil ws n = n
free_before (Cons x xs) ws n = free_before xs ws n

pub free_mark : (ws : List ContItem) → HoldsNothing ws → HoldsNothing (from_mark ws)
free_mark [] n = tt
free_mark (TakeAll at grid is ∷ ws) n = absurd n
free_mark (Do x ∷ ws) n = free_mark ws n
free_mark (End x ∷ ws) n = free_mark ws n
free_mark (Before loop ∷ ws) n = free_mark ws n
free_mark (Behind loop ∷ ws) n = n
free_mark (Receive r h ∷ ws) n = absurd n
free_mark (CopyAll at to from points ∷ ws) n = absurd n

pub free_past : (ws : List ContItem) → HoldsNothing ws → HoldsNothing (past_mark ws)
free_past [] n = tt
free_past (TakeAll at grid is ∷ ws) n = absurd n
free_past (Do x ∷ ws) n = free_past ws n
free_past (End x ∷ ws) n = free_past ws n
free_past (Before loop ∷ ws) n = free_past ws n
free_past (Behind loop ∷ ws) n = n
free_past (Receive r h ∷ ws) n = absurd n
free_past (CopyAll at to from points ∷ ws) n = absurd n

-- ---- moves

-- an exchange, whose departure gives nothing
abbrev pub IsExchange : Wait → Type 0
IsExchange wait = (wait.wanted ≡ ToBeDone) × (wait.kind ≡ coll.Exchange)

-- what a move of process i among so many says, whose last arrival was of this kind
abbrev pub MoveFine : ℕ → ℕ → Option CollKind → Move → Type 0
MoveFine procs i last (Goes vs ws) = LeftFine procs last ws
MoveFine procs i last (Turns at vs ws) = LeftFine procs last ws
MoveFine procs i last (Meets wait given behind) =
    ArrivalFine procs i wait.kind wait.arg given × LeftFine procs (Some wait.kind) behind × (HoldsNothing behind ⊎ IsExchange wait) × (wait.kind ≡ coll.DeleteRegion → ⊥)
MoveFine procs i last m = Unit {0}

all_below : (i k n : ℕ) → i + k ≡ n → Below n (count_up i k)
all_below i zero n h = tt
all_below i (suc k) n h = (first i k n h, all_below (i + 1) k n (rest i k n h))
  where
    first : (i k n : ℕ) → i + suc k ≡ n → i < n
    first i k n h = omega arith

    rest : (i k n : ℕ) → i + suc k ≡ n → i + 1 + k ≡ n
    rest i k n h = omega arith

natural_below : (z : ℤ) (n : ℕ) → (int_le (pos 0) z && int_lt z (pos n)) ≡ true → natural z < n
natural_below (pos k) n h = ltb-true k n (and_right (int_le (pos 0) (pos k)) _ h)
natural_below (negsuc k) n h = absurd (true_false (sym h))

root_in : (procs : ℕ) (at : Place) (h : Held) (rest : List Answer) → Giving (λ root. root < procs) (root_among procs at h rest)
root_in procs at h rest = go (int_le (pos 0) (whole_of h) && int_lt (whole_of h) (pos procs)) refl
  where
    go : (b : Bool) → (int_le (pos 0) (whole_of h) && int_lt (whole_of h) (pos procs)) ≡ b → Giving (λ root. root < procs) (guard b BadRoot at (natural (whole_of h)) rest)
    go true k = natural_below (whole_of h) procs k
    go false k = tt

root_gives : (env : Env) (root : ℕ) (x : NumberedExp) (rest : List Answer) → Giving (λ d. env.number ≡ root → HasValue d) (root_deposit env root x rest)
root_gives env root x rest = go (env.number == root) refl
  where
    go : (b : Bool) → (env.number == root) ≡ b → Giving (λ d. env.number ≡ root → HasValue d) ((if b then (eval env x >>= λ h. gives (deposit.One (plain_of h))) else gives deposit.Nothing) rest)
    go true k = then_giving (λ d. env.number ≡ root → HasValue d) (eval env x rest) _ (λ h r z. (_, refl))
    go false k = λ z. absurd (true_false (sym (eq-eqb env.number root z) ∙ k))

module _ (env : Env) (last : Option CollKind) where
  receives_fine : (r : Receiver) (right : Comp Held) (rest : List Answer) → Giving (MoveFine env.procs env.number last) (receives env r right rest)
  receives_fine r right rest = search then_giving

  calling_fine : (r : Receiver) (c : Call) (rest : List Answer) → Giving (MoveFine env.procs env.number last) (calling env r c rest)
  calling_fine r c rest = search then_giving

  value_fine : (r : Receiver) (x : NumberedExp) (o : Option Call) (rest : List Answer) → Giving (MoveFine env.procs env.number last) (valued_or_called env r x o rest)
  value_fine r x None rest = receives_fine r (eval env x) rest
  value_fine r x (Some c) rest = calling_fine r c rest

  made_fine : (r : Receiver) (new : Comp Held) (rest : List Answer) → Giving (MoveFine env.procs env.number last) (made_first env r new rest)
  made_fine r new rest = then_giving (MoveFine env.procs env.number last) (new rest) _ (λ h u. receives_fine r (gives h) u)

  broadcasts_fine : (r : Receiver) (at : Place) (x p : NumberedExp) (rest : List Answer) → Giving (MoveFine env.procs env.number last) (broadcasts env r at x p rest)
  broadcasts_fine r at x p rest =
      then_giving (MoveFine env.procs env.number last) (eval env p rest) _ (λ h u.
      giving_followed (λ root. root < env.procs) (MoveFine env.procs env.number last) (root_among env.procs at h u) _ (root_in env.procs at h u) (λ root w l.
      giving_followed (λ d. env.number ≡ root → HasValue d) (MoveFine env.procs env.number last) (root_deposit env root x w) _ (root_gives env root x w) (λ given z k.
      ((root, refl, l, k), tt, inl tt, λ e. cc))))

  exchange_meets : (at : Place) (value : Value) (grid : Reference)
      → MoveFine env.procs env.number last (Meets (record {
        place = at;
        kind = coll.Exchange;
        arg = None;
        wanted = ToBeDone;
        receiver = Nowhere;
      }) (deposit.One value) (TakeAll at grid (count_up 0 env.procs) ∷ []))
  exchange_meets at value grid = ((value, refl), (refl, all_below 0 env.procs env.procs (none env.procs), tt), inr (refl, refl), λ e. cc)
    where
      none : (n : ℕ) → 0 + n ≡ n
      none n = omega arith

  exchanges_fine : (at : Place) (x : NumberedExp) (args : NumberedExps) (rest : List Answer) → Giving (MoveFine env.procs env.number last) (exchanges env at x args rest)
  exchanges_fine at x args rest = search (then_giving, guarded_giving, exchange_meets) depth 12

  initialized_fine : (r : Receiver) (value : NumberedInit) (rest : List Answer) → Giving (MoveFine env.procs env.number last) (initialized env r value rest)
  initialized_fine r (s.Value x) rest = value_fine r x (called env x) rest
  initialized_fine r (s.NewRegion at) rest = (tt, tt, inl tt, λ e. cc)
  initialized_fine r (s.NewObject at region class) rest = made_fine r (new_object env at region class) rest
  initialized_fine r (s.NewGrid at region element dims_at dims) rest = made_fine r (new_grid env at region element.type dims_at dims) rest
  initialized_fine r (s.Broadcast at x root) rest = broadcasts_fine r at x root rest

  copies_fine : (at : Place) (x : NumberedExp) (args : NumberedExps) (rest : List Answer) → Giving (MoveFine env.procs env.number last) (copies env at x args rest)
  copies_fine at x args rest = search then_giving depth 14

  member_fine : (at : Place) (x : NumberedExp) (args : NumberedExps) (other : Comp Move) (o : Option BuiltIn) (rest : List Answer)
      → Giving (MoveFine env.procs env.number last) (other rest) → Giving (MoveFine env.procs env.number last) (member_alone env at x args other o rest)
  member_fine at x args other (Some Copy) rest k = copies_fine at x args rest
  member_fine at x args other (Some Exchange) rest k = exchanges_fine at x args rest
  member_fine at x args other (Some Delete) rest k = then_giving (MoveFine env.procs env.number last) (eval env x rest) _ (λ h u. tt)
  member_fine at x args other _ rest k = k

  alone_fine : (x : NumberedExp) (o : Option Call) (rest : List Answer) → Giving (MoveFine env.procs env.number last) (alone env x o rest)
  alone_fine x (Some c) rest = calling_fine Nowhere c rest
  alone_fine (e.Member at x name args) None rest =
      member_fine at x args _ (member_called env.program (this_of env.method) x name) rest (receives_fine Nowhere (eval env (e.Member at x name args)) rest)
  alone_fine x None rest = receives_fine Nowhere (eval env x) rest

  prints_fine : (at : Place) (what : NumberedPrint) (rest : List Answer) → Giving (MoveFine env.procs env.number last) (printed env at what rest)
  prints_fine at s.Nothing rest = search then_giving
  prints_fine at (s.Text literal) rest = search then_giving
  prints_fine at (s.Expression x) rest = search then_giving
  prints_fine at (s.TextAndExpression literal x) rest = search then_giving

  returns_fine : (at : Place) (value : Option NumberedExp) (rest : List Answer) → Giving (MoveFine env.procs env.number last) (returns env at value rest)
  returns_fine at None rest = tt
  returns_fine at (Some x) rest = search then_giving

  chosen : (b : Bool) (x : NumberedStm) → LeftFine env.procs last (if b then Do x ∷ [] else [])
  chosen true x = tt
  chosen false x = tt

  maybe_free : (x : MaybeNumbered) (ws : List ContItem) → HoldsNothing ws → LeftFine env.procs last (maybe_do x ++ ws)
  maybe_free NoStm ws n = free_fine env.procs last ws n
  maybe_free (SomeStm x) ws n = n

  statement_fine : (x : NumberedStm) (rest : List Answer) → Giving (MoveFine env.procs env.number last) (statement env x rest)
  statement_fine s.Empty rest = tt
  statement_fine (s.Declare at type variable value) rest = initialized_fine (Declared at (declared_as type variable)) value rest
  statement_fine (s.Assign at target value) rest = initialized_fine (Assigned at target) value rest
  statement_fine (s.Update at op target x) rest = initialized_fine (Updated at op target) (s.Value x) rest
  statement_fine (s.Step at op target) rest = initialized_fine (Updated at (one_more op) target) (s.Value (e.Int at (pos 1))) rest
  statement_fine (s.Call x) rest = alone_fine x (called env x) rest
  statement_fine (s.Print at what) rest = prints_fine at what rest
  statement_fine (s.Barrier at) rest = (tt, tt, inl tt, λ e. cc)
  statement_fine (s.Block body) rest = free_fine env.procs last (all_before body (End (s.Block body) ∷ [])) (free_before body (End (s.Block body) ∷ []) tt)
  statement_fine (s.If at c x) rest = then_giving (MoveFine env.procs env.number last) (eval env c rest) _ (λ h u. chosen (truth_of h) x)
  statement_fine (s.IfElse at c x y) rest = then_giving (MoveFine env.procs env.number last) (eval env c rest) _ (λ h u. tt)
  statement_fine (s.While at c body) rest = tt
  statement_fine (s.For at first c update body) rest = maybe_free first _ tt
  statement_fine (s.Foreach at variable domain body) rest = then_giving (MoveFine env.procs env.number last) (eval env domain rest) _ (λ h u. tt)
  statement_fine (s.Break at) rest = tt
  statement_fine (s.Continue at) rest = tt
  statement_fine (s.Return at value) rest = returns_fine at value rest

  turn_fine : (b : Bool) (at : Place) (c : _) (update : MaybeNumbered) (body : NumberedStm)
      → MoveFine env.procs env.number last (if b then Turns at env.variables (Do body ∷ Behind (While at c update body) ∷ []) else Goes env.variables [])
  turn_fine true at c update body = tt
  turn_fine false at c update body = tt

  taken_fine : (at : Place) (grid : Reference) (is : List ℕ) (rest : List Answer) → last ≡ Some coll.Exchange → Below env.procs is
      → Giving (MoveFine env.procs env.number last) (taken env at grid is rest)
  taken_fine at grid [] rest l b = tt
  taken_fine at grid (i ∷ is) rest l b =
      let k : (vs : List Variable) → MoveFine env.procs env.number last (Goes vs (TakeAll at grid is ∷ [])) = λ vs. (l, b.1, tt) in
      search (then_giving, k)

  copied_fine : (at : Place) (to from : Reference) (points : _) (rest : List Answer) → Giving (MoveFine env.procs env.number last) (copied env at to from points rest)
  copied_fine at to from [] rest = tt
  copied_fine at to from (p ∷ ps) rest = search then_giving

  pub work_fine : (w : ContItem) (ws : List ContItem) (rest : List Answer) → LeftFine env.procs last (w ∷ ws) → Giving (MoveFine env.procs env.number last) (exec_item env w rest)
  work_fine (Do x) ws rest n = statement_fine x rest
  work_fine (Before (While at c update body)) ws rest n = then_giving (MoveFine env.procs env.number last) (condition env c rest) _ (λ h u. turn_fine (truth_of h) at c update body)
  work_fine (Behind (While at c update body)) ws rest n = maybe_free update _ tt
  work_fine (Receive r h) ws rest n = receives_fine r (gives h) rest
  work_fine (CopyAll at to from points) ws rest n = copied_fine at to from points rest
  work_fine (TakeAll at grid is) ws rest n = taken_fine at grid is rest n.0 n.1
  work_fine (Before (Foreach at v d [] body)) ws rest n = tt
  work_fine (Before (Foreach at v d (p ∷ ps) body)) ws rest n = tt
  work_fine (Behind (Foreach at v d [] body)) ws rest n = tt
  work_fine (Behind (Foreach at v d (p ∷ ps) body)) ws rest n = tt
  work_fine _ ws rest n = tt

-- ---- what is asked

-- a process takes right behind an exchange, from a process of the run; it arrives nowhere in between
abbrev pub OwnFine : ℕ → Option CollKind → Action → Type 0
OwnFine procs last (act.Arrive kind arg given) = ⊥
OwnFine procs last (act.Take who) = (who < procs) × (last ≡ Some coll.Exchange)
OwnFine procs last a = Unit {0}

abbrev Takable : ℕ → Option CollKind → ℕ → Type 0
Takable procs last who = (who < procs) × (last ≡ Some coll.Exchange)

own_each : (procs : ℕ) (last : Option CollKind) → Each (Takable procs last) (λ (q : Request). OwnFine procs last q.action)
own_each procs last = record {
  get_field = λ r at f type. tt;
  put_field = λ r at f value. tt;
  get_elem = λ r at i type. tt;
  put_elem = λ r at i value. tt;
  make_view = λ r at view type. tt;
  domain = λ r at type. tt;
  new_object = λ at c r type. tt;
  new_grid = λ at z d r type. tt;
  print = λ at l value. tt;
  take = λ at who type k. k;
}

first_taken : (procs : ℕ) (last : Option CollKind) (w : ContItem) (ws : List ContItem) → LeftFine procs last (w ∷ ws) → FirstTaken (Takable procs last) w
first_taken procs last (TakeAll at grid (i ∷ is)) ws n = (n.1.0, n.0)
first_taken procs last _ ws n = tt

-- ---- processes

abbrev pub AllFree : List Frame → Type 0
AllFree [] = Unit {0}
AllFree (f ∷ fs) = HoldsNothing f.left × AllFree fs

abbrev pub TopFine : ℕ → Option CollKind → List Frame → Type 0
TopFine procs last [] = Unit {0}
TopFine procs last (f ∷ fs) = LeftFine procs last f.left × AllFree fs

abbrev pub WaitFine : ℕ → Option CollKind → Option Wait → List Frame → Type 0
WaitFine procs last None fs = TopFine procs last fs
WaitFine procs last (Some w) fs = TopFine procs last fs × (AllFree fs ⊎ IsExchange w)

-- a process of this setting and number, whose last arrival was of this kind
abbrev pub Stands : RunConfig → ℕ → Option CollKind → Process → Type 0
Stands s i last q = (q.setting ≡ s) × (q.number ≡ i) × WaitFine s.procs last q.wait q.frames

-- at a delete these frames are counted
abbrev pub Counts : CollKind → Option ℕ → Deposit → List Frame → Type 0
Counts kind arg given fs = kind ≡ coll.DeleteRegion → (region : ℕ) × (arg ≡ Some region) × (given ≡ deposit.Count (named_in region fs))

-- what an action says
abbrev pub ActsFine : RunConfig → ℕ → Option CollKind → Action → (Answer → Process) → Type 0
ActsFine s i last (act.Arrive kind arg given) go = ArrivalFine s.procs i kind arg given × ((r : Answer) → Stands s i (Some kind) (go r)) × ((r : Answer) → Counts kind arg given (go r).frames)
ActsFine s i last (act.Take who) go = Takable s.procs last who × ((r : Answer) → Stands s i last (go r))
ActsFine s i last a go = (r : Answer) → Stands s i last (go r)

abbrev pub StepFine : RunConfig → ℕ → Option CollKind → Step → Type 0
StepFine s i last (To q) = Stands s i last q
StepFine s i last (At request go) = ActsFine s i last request.action go
StepFine s i last (Ends place) = Unit {0}
StepFine s i last (Faults kind place) = Unit {0}

own_acts : (s : RunConfig) (i : ℕ) (last : Option CollKind) (a : Action) (go : Answer → Process) → OwnFine s.procs last a → ((r : Answer) → Stands s i last (go r)) → ActsFine s i last a go
own_acts s i last (act.Arrive kind arg given) go k h = absurd k
own_acts s i last (act.Take who) go k h = (k, h)
own_acts s i last _ go k h = h

if_fine : (s : RunConfig) (i : ℕ) (last : Option CollKind) (b : Bool) (x y : Step) → StepFine s i last x → StepFine s i last y → StepFine s i last (if b then x else y)
if_fine s i last true x y f g = f
if_fine s i last false x y f g = g

ticks_fine : (s : RunConfig) (i : ℕ) (last : Option CollKind) (q : Process) (at : Place) (after : Step) → StepFine s i last after → StepFine s i last (ticks q at after)
ticks_fine s i last q at after h = if_fine s i last (nat_lt q.spent q.setting.fuel) after (Faults Fuel at) h tt

jump_fine : (s : RunConfig) (i : ℕ) (last : Option CollKind) (b : Bool) (x y : Process) → Stands s i last x → Stands s i last y → StepFine s i last (To (if b then x else y))
jump_fine s i last true x y f g = f
jump_fine s i last false x y f g = g

free_top : (procs : ℕ) (last : Option CollKind) (fs : List Frame) → AllFree fs → TopFine procs last fs
free_top procs last [] a = tt
free_top procs last (f ∷ fs) a = (free_fine procs last f.left a.0, a.1)

handed_top : (procs : ℕ) (last : Option CollKind) (r : Receiver) (v : Option Held) (fs : List Frame) → AllFree fs → TopFine procs last (deliver r v fs)
handed_top procs last r None fs a = free_top procs last fs a
handed_top procs last r (Some h) [] a = tt
handed_top procs last r (Some h) (f ∷ fs) a = (a.0, a.1)

moves_fine : (q : Process) (last : Option CollKind) (f : Frame) (fs : List Frame) (left : List ContItem) (mv : Move) → HoldsNothing left
    → AllFree fs → MoveFine q.setting.procs q.number last mv → StepFine q.setting q.number last (moves q f fs left mv)
moves_fine q last f fs left (Goes vs ws) n a m = (refl, refl, (fine_both q.setting.procs last ws left m n, a))
moves_fine q last f fs left (Turns at vs ws) n a m = ticks_fine q.setting q.number last q at _ (refl, refl, (fine_both q.setting.procs last ws left m n, a))
moves_fine q last f fs left Breaks n a m =
    jump_fine q.setting q.number last (has_mark left) _ _ (refl, refl, (free_fine q.setting.procs last (past_mark left) (free_past left n), a)) (refl, refl, (free_fine q.setting.procs last left n, a))
moves_fine q last f fs left Continues n a m =
    jump_fine q.setting q.number last (has_mark left) _ _ (refl, refl, (free_fine q.setting.procs last (from_mark left) (free_mark left n), a)) (refl, refl, (free_fine q.setting.procs last left n, a))
moves_fine q last f fs left (Calls at c this ps r) n a m =
    ticks_fine q.setting q.number last q at _ (if_fine q.setting q.number last (nat_lt (length (f ∷ fs)) most_frames) _ (Faults Depth at)
    (refl, refl, (free_fine q.setting.procs last (all_before (numbered_stms c.body) []) (free_before (numbered_stms c.body) [] tt), (n, a))) tt)
moves_fine q last f fs left (Returns v) n a m = (refl, refl, handed_top q.setting.procs last f.receiver v fs a)
moves_fine q last f fs left (Meets wait given behind) n a m =
    ticks_fine q.setting q.number last q wait.place _ (m.0, (λ r. (refl, refl, ((fine_both q.setting.procs (Some wait.kind) behind left m.1 n, a), by m.2))), λ r z. absurd (m.3 z))
  where
    by : HoldsNothing behind ⊎ IsExchange wait → AllFree (record f { left = behind ++ left } ∷ fs) ⊎ IsExchange wait
    by (inl x) = inl (free_both behind left x n, a)
    by (inr x) = inr x
moves_fine q last f fs left (Deletes at region) n a m =
    ticks_fine q.setting q.number last q at _ ((region, refl), (λ r. (refl, refl, ((free_fine q.setting.procs (Some coll.DeleteRegion) left n, a), inl (n, a)))), λ r z. (region, refl, refl))

valued_fine : (q : Process) (last : Option CollKind) (g : CompResult Move) (go : Move → Step) → WaitFine q.setting.procs last q.wait q.frames → Of (λ (r : Request). OwnFine q.setting.procs last r.action) g
    → Giving (MoveFine q.setting.procs q.number last) g → ((mv : Move) → MoveFine q.setting.procs q.number last mv
    → StepFine q.setting q.number last (go mv)) → StepFine q.setting q.number last (step_of_result q g go)
valued_fine q last (Gives mv rest) go w a h k = k mv h
valued_fine q last (Asks request) go w a h k = ticks_fine q.setting q.number last q request.place _ (own_acts q.setting q.number last request.action _ a (λ r. (refl, refl, w)))
valued_fine q last (Fails kind at) go w a h k = tt

works_fine : (q : Process) (last : Option CollKind) (f : Frame) (fs : List Frame) (ws : List ContItem)
    → WaitFine q.setting.procs last q.wait q.frames → LeftFine q.setting.procs last ws → AllFree fs
    → StepFine q.setting q.number last (works q f fs ws)
works_fine q last f fs [] w n a = moves_fine q last f fs [] (Returns None) tt a tt
works_fine q last f fs (x ∷ left) w n a =
    valued_fine q last (exec_item (env_of q f left) x q.answers) (moves q f fs left) w
    (performed_asks (Takable q.setting.procs last) (λ (r : Request). OwnFine q.setting.procs last r.action) (own_each q.setting.procs last)
    (env_of q f left) x q.answers (first_taken q.setting.procs last x left n))
    (work_fine (env_of q f left) last x left q.answers n)
    (λ mv m. moves_fine q last f fs left mv (tail_free q.setting.procs last x left n) a m)

runs_fine : (q : Process) (last : Option CollKind) (fs : List Frame) → WaitFine q.setting.procs last q.wait q.frames → TopFine q.setting.procs last fs → StepFine q.setting q.number last (runs q fs)
runs_fine q last [] w t = tt
runs_fine q last (f ∷ fs) w t = works_fine q last f fs f.left w t.0 t.1

departs_top : (procs : ℕ) (last : Option CollKind) (w : Wait) (r : Answer) (fs : List Frame) → TopFine procs last fs → AllFree fs
    ⊎ IsExchange w → TopFine procs last (deliver w.receiver (value_asked w.wanted r) fs)
departs_top procs last w r fs t (inl a) = handed_top procs last w.receiver (value_asked w.wanted r) fs a
departs_top procs last w r fs t (inr k) = subst (λ x. TopFine procs last (deliver w.receiver (value_asked x r) fs)) (sym k.0) t

steps_fine : (q : Process) (last : Option CollKind) (wait : Option Wait) → q.wait ≡ wait → WaitFine q.setting.procs last wait q.frames → StepFine q.setting q.number last (steps q wait)
steps_fine q last None z w = runs_fine q last q.frames (subst (λ x. WaitFine q.setting.procs last x q.frames) (sym z) w) w
steps_fine q last (Some x) z w = ticks_fine q.setting q.number last q x.place _ (λ r. (refl, refl, departs_top q.setting.procs last x r q.frames w.0 w.1))

pub step_fine : (s : RunConfig) (i : ℕ) (last : Option CollKind) (q : Process) (st : Step) → Stands s i last q → step q ≡ st → StepFine s i last st
step_fine s i last q st x z =
    subst (StepFine s i last) z
    (subst (λ n. StepFine s n last (step q)) x.1
    (subst (λ (k : RunConfig). StepFine k q.number last (step q)) x.0 (steps_fine q last q.wait refl (subst (λ (k : RunConfig). WaitFine k.procs last q.wait q.frames) (sym x.0) x.2))))

-- ---- ways

by_alone : (s : RunConfig) (i : ℕ) (last : Option CollKind) (a : Action) (go : Answer → Process) (r : Answer) → is_arrival a ≡ false → ActsFine s i last a go → Stands s i last (go r)
by_alone s i last (act.Arrive kind arg given) go r x k = absurd (true_false x)
by_alone s i last (act.Take who) go r x k = k.1 r
by_alone s i last _ go r x k = k r

way_fine : (s : RunConfig) (i : ℕ) (last : Option CollKind) (p q : Process) (ms : List Meeting) → Stands s i last p → Way p ms q → Stands s i (last_from last ms) q
way_fine s i last p q [] x way.stop = x
way_fine s i last p r ms x (way.silent {q = q} e w) = way_fine s i last q r ms (step_fine s i last p (To q) x e) w
way_fine s i last p r ms x (way.alone {at = at} {a = a} {wanted = v} {go = go} {answer = t} e y z w) =
    way_fine s i last (go t) r ms (by_alone s i last a go t y (step_fine s i last p (At (asking at a v) go) x e)) w
way_fine s i last p r (m ∷ ms) x (way.came {at = at} {kind = kind} {arg = arg} {given = d} {wanted = v} {go = go} {answer = t} e w) =
    way_fine s i (Some kind) (go t) r ms ((step_fine s i last p (At (asking at (act.Arrive kind arg d) v) go) x e).1 t) w
way_fine s i last p r (m ∷ ms) x (way.left {at = at} {wanted = v} {go = go} {answer = t} e w) =
    way_fine s i last (go t) r ms (step_fine s i last p (At (asking at act.Depart v) go) x e t) w

begin_fine : (s : RunConfig) (i : ℕ) → Stands s i None (begin s i)
begin_fine s i = (refl, refl, by (slice_get s.program.methods s.program.main))
  where
    by : (o : Option NumberedMethod) → TopFine s.procs None (option_map_or (λ (main : NumberedMethod). frame_of main None [] Nowhere ∷ []) o [])
    by None = tt
    by (Some m) = (free_fine s.procs None (all_before (numbered_stms m.body) []) (free_before (numbered_stms m.body) [] tt), tt)

-- each process of a setting, on its way
pub stands : (s : RunConfig) (i : ℕ) (q : Process) (ms : List Meeting) → Way (begin s i) ms q → Stands s i (last_from None ms) q
stands s i q ms w = way_fine s i None (begin s i) q ms (begin_fine s i) w
