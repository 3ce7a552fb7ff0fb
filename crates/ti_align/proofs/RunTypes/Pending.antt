-- Work that is left, from a piece of it on, behind what it came to, and from the mark of a loop on; and the values that are left to be taken.
use Rattle.std.proofs.Common.{◌≡◌, ℕ, Option, Some, None, List, [], ◌∷◌, ◌++◌, refl, ap, sym, subst}
use Rattle.ti_base.specs.declared.place.Place.{Place}
use Rattle.ti_base.specs.declared.action.Action.{Action}
use Rattle.ti_base.specs.declared.action.Action.TheVariants as act
use Rattle.ti_base.specs.declared.action.CollKind.{CollKind}
use Rattle.ti_base.specs.declared.action.CollKind.TheVariants as coll
use Rattle.ti_base.specs.declared.entry.Answer.{Answer}
use Rattle.ti_lang.specs.Program.Types.{ValueType}
use Rattle.ti_lang.specs.Program.Statements.{NumberedStms, Nil, Cons}
use Rattle.ti_lang.specs.Program.Classes.{NumberedMethod, ProgramView}
use Rattle.ti_lang.specs.Program.Scope.{ScopeContents}
use Rattle.ti_lang.specs.Typing.Kinds.{element_of}
use Rattle.ti_lang.specs.Meaning.Held.{Held}
use Rattle.ti_lang.specs.Meaning.Comp.{Wanted, ValueOf, Reference, Request}
use Rattle.ti_lang.specs.Meaning.Processes.{Variable, Receiver, ContItem, Do, End, Before, Behind, Receive, CopyAll, TakeAll, Frame, all_before}
use Rattle.ti_lang.specs.Meaning.Scoping.{Env, without_variables}
use Rattle.ti_lang.specs.Meaning.Copies.{taken}
use Rattle.ti_lang.specs.Meaning.Performing.{declared_in, exec_item}
use Rattle.ti_lang.specs.Meaning.Jumps.{from_mark, past_mark, variables_at_mark}
use Rattle.ti_lang.specs.Meaning.Steps.{deliver}
use Rattle.ti_lang.proofs.Lemmas.{Each, Of, performed_asks}
use Rattle.ti_align.specs.HeapTyping.{HeapTyping, VariablesFit}
use Rattle.ti_align.specs.Given.{scope_inside, scope_over, IsOfRound}
use Rattle.ti_align.specs.Mirrors.ContItem.{StmFits, StmsFit, taken_type, TakesOf, taken_behind, WorkFits, WorksFit}
use Rattle.ti_align.specs.Mirrors.Processes.{TakesFirst}
use Rattle.ti_align.proofs.RunTypes.Operating.{none_some, some_same}
use Rattle.ti_align.proofs.RunTypes.Storing.{without_fits}
use Rattle.ti_align.proofs.Runs.Given.{HoldsNothing, AllFree}

-- ---- work

pub scope_both : (p : ProgramView) (s : ScopeContents) (xs left : List ContItem) → scope_over p (scope_over p s left) xs ≡ scope_over p s (xs ++ left)
scope_both p s [] left = refl
scope_both p s (Behind loop ∷ xs) left = ap (λ y. scope_inside p y loop) (scope_both p s xs left)
scope_both p s (Do x ∷ xs) left = scope_both p s xs left
scope_both p s (End x ∷ xs) left = scope_both p s xs left
scope_both p s (Before loop ∷ xs) left = scope_both p s xs left
scope_both p s (Receive receiver h ∷ xs) left = scope_both p s xs left
scope_both p s (CopyAll at to from points ∷ xs) left = scope_both p s xs left
scope_both p s (TakeAll at grid procs ∷ xs) left = scope_both p s xs left

-- the variables of the blocks up to the mark leave
pub mark_fits : (w : HeapTyping) (xs : List ContItem) (vs : List Variable) → VariablesFit w vs → VariablesFit w (variables_at_mark xs vs)
mark_fits w [] vs k = k
mark_fits w (Behind loop ∷ xs) vs k = k
mark_fits w (End x ∷ xs) vs k = mark_fits w xs (without_variables (declared_in x) vs) (without_fits w (declared_in x) vs k)
mark_fits w (Do x ∷ xs) vs k = mark_fits w xs vs k
mark_fits w (Before loop ∷ xs) vs k = mark_fits w xs vs k
mark_fits w (Receive receiver h ∷ xs) vs k = mark_fits w xs vs k
mark_fits w (CopyAll at to from points ∷ xs) vs k = mark_fits w xs vs k
mark_fits w (TakeAll at grid procs ∷ xs) vs k = mark_fits w xs vs k

module _ (p : ProgramView) (m : NumberedMethod) (w : HeapTyping) where
  pub works_both : (s : ScopeContents) (xs left : List ContItem) → WorksFit p m (scope_over p s left) w xs → WorksFit p m s w left → WorksFit p m s w (xs ++ left)
  works_both s [] left k l = l
  works_both s (x ∷ xs) left k l = (subst (λ y. WorkFits p m y w x) (scope_both p s xs left) k.0, works_both s xs left k.1 l)

  body_over : (s : ScopeContents) (xs : NumberedStms) → scope_over p s (all_before xs []) ≡ s
  body_over s Nil = refl
  body_over s (Cons x rest) = body_over s rest

  pub body_fits : (s : ScopeContents) (xs : NumberedStms) → StmsFit p m s xs → WorksFit p m s w (all_before xs [])
  body_fits s Nil k = tt
  body_fits s (Cons x rest) k = (subst (λ y. StmFits p m y x) (sym (body_over s rest)) k.0, body_fits s rest k.1)

  pub past_fits : (s : ScopeContents) (xs : List ContItem) → WorksFit p m s w xs → WorksFit p m s w (past_mark xs)
  past_fits s [] k = tt
  past_fits s (Behind loop ∷ xs) k = k.1
  past_fits s (Do x ∷ xs) k = past_fits s xs k.1
  past_fits s (End x ∷ xs) k = past_fits s xs k.1
  past_fits s (Before loop ∷ xs) k = past_fits s xs k.1
  past_fits s (Receive receiver h ∷ xs) k = past_fits s xs k.1
  past_fits s (CopyAll at to from points ∷ xs) k = past_fits s xs k.1
  past_fits s (TakeAll at grid procs ∷ xs) k = past_fits s xs k.1

  pub from_fits : (s : ScopeContents) (xs : List ContItem) → WorksFit p m s w xs → WorksFit p m s w (from_mark xs)
  from_fits s [] k = tt
  from_fits s (Behind loop ∷ xs) k = k
  from_fits s (Do x ∷ xs) k = from_fits s xs k.1
  from_fits s (End x ∷ xs) k = from_fits s xs k.1
  from_fits s (Before loop ∷ xs) k = from_fits s xs k.1
  from_fits s (Receive receiver h ∷ xs) k = from_fits s xs k.1
  from_fits s (CopyAll at to from points ∷ xs) k = from_fits s xs k.1
  from_fits s (TakeAll at grid procs ∷ xs) k = from_fits s xs k.1

-- ---- values that are left to be taken

pub takes_free : (o : Option ValueType) (xs : List ContItem) → HoldsNothing xs → TakesOf o xs
takes_free o [] n = tt
takes_free o (TakeAll at grid procs ∷ xs) n = absurd n
takes_free o (Do x ∷ xs) n = takes_free o xs n
takes_free o (End x ∷ xs) n = takes_free o xs n
takes_free o (Before loop ∷ xs) n = takes_free o xs n
takes_free o (Behind loop ∷ xs) n = takes_free o xs n
takes_free o (Receive receiver h ∷ xs) n = absurd n
takes_free o (CopyAll at to from points ∷ xs) n = absurd n

pub takes_both : (o : Option ValueType) (xs left : List ContItem) → TakesOf o xs → HoldsNothing left → TakesOf o (xs ++ left)
takes_both o [] left k n = takes_free o left n
takes_both o (TakeAll at grid procs ∷ xs) left k n = (k.0, takes_both o xs left k.1 n)
takes_both o (Do x ∷ xs) left k n = takes_both o xs left k n
takes_both o (End x ∷ xs) left k n = takes_both o xs left k n
takes_both o (Before loop ∷ xs) left k n = takes_both o xs left k n
takes_both o (Behind loop ∷ xs) left k n = takes_both o xs left k n
takes_both o (Receive receiver h ∷ xs) left k n = takes_both o xs left k n
takes_both o (CopyAll at to from points ∷ xs) left k n = takes_both o xs left k n

-- the values that are taken first, if any are, are of such a type
module _ (G : ValueType → Type 0) where
  pub taken_first : (o : Option ValueType) (xs : List ContItem) → ((type : ValueType) → o ≡ Some type → G type) → TakesOf o xs → TakesFirst G xs
  taken_first o (TakeAll at grid procs ∷ xs) f k = f (element_of grid.type) k.0
  taken_first o _ f k = tt

  pub none_first : (xs : List ContItem) → HoldsNothing xs → TakesFirst G xs
  none_first xs n = taken_first None xs (λ type z. absurd (none_some type z)) (takes_free None xs n)

  pub body_first : (xs : NumberedStms) → TakesFirst G (all_before xs [])
  body_first Nil = tt
  body_first (Cons x xs) = tt

  pub taken_is : (x : ContItem) (left : List ContItem) → TakesFirst G (x ∷ left) → (type : ValueType) → taken_type x ≡ Some type → G type
  taken_is (TakeAll at grid procs) left k type z = subst G (some_same (element_of grid.type) type z) k
  taken_is _ left k type z = absurd (none_some type z)

  pub behind_is : (kind : CollKind) (type u : ValueType) → IsOfRound G kind type → taken_behind kind type ≡ Some u → G u
  behind_is coll.Exchange type u k z = subst G (some_same type u z) k
  behind_is _ type u k z = absurd (none_some u z)

  abbrev pub FirstOf : List Frame → Type 0
  FirstOf [] = Unit {0}
  FirstOf (f ∷ fs) = TakesFirst G f.left

  pub free_first : (fs : List Frame) → AllFree fs → FirstOf fs
  free_first [] k = tt
  free_first (f ∷ fs) k = none_first f.left k.0

  pub handed_first : (r : Receiver) (v : Option Held) (fs : List Frame) → FirstOf fs → FirstOf (deliver r v fs)
  handed_first r None fs k = k
  handed_first r (Some h) [] k = tt
  handed_first r (Some h) (f ∷ fs) k = tt

  -- work arrives nowhere by itself, and takes only values of such a type
  abbrev pub TakenAs : Action → Wanted → Type 0
  TakenAs (act.Arrive kind arg given) wanted = ⊥
  TakenAs act.Depart wanted = ⊥
  TakenAs (act.Take who) wanted = (type : ValueType) × (wanted ≡ ValueOf type) × G type
  TakenAs a wanted = Unit {0}

  abbrev pub TakesAs : Request → Type 0
  TakesAs q = TakenAs q.action q.wanted

  other_each : Each (λ who. ⊥) TakesAs
  other_each = record {
    get_field = λ r at f type. tt;
    put_field = λ r at f v. tt;
    get_elem = λ r at i type. tt;
    put_elem = λ r at i v. tt;
    make_view = λ r at view type. tt;
    domain = λ r at type. tt;
    new_object = λ at c r type. tt;
    new_grid = λ at z d r type. tt;
    print = λ at l v. tt;
    take = λ at who type k. absurd k;
  }

  taken_as : (env : Env) (at : Place) (grid : Reference) (is : List ℕ) (rest : List Answer) → G (element_of grid.type) → Of TakesAs (taken env at grid is rest)
  taken_as env at grid [] rest k = tt
  taken_as env at grid (i ∷ is) [] k = (element_of grid.type, refl, k)
  taken_as env at grid (i ∷ is) (r ∷ []) k = tt
  taken_as env at grid (i ∷ is) (r ∷ u ∷ rest) k = tt

  pub takes_as : (env : Env) (x : ContItem) (left : List ContItem) (rest : List Answer) → TakesFirst G (x ∷ left) → Of TakesAs (exec_item env x rest)
  takes_as env (TakeAll at grid procs) left rest k = taken_as env at grid procs rest k
  takes_as env (Do x) left rest k = performed_asks (λ who. ⊥) TakesAs other_each env (Do x) rest tt
  takes_as env (End x) left rest k = tt
  takes_as env (Before loop) left rest k = performed_asks (λ who. ⊥) TakesAs other_each env (Before loop) rest tt
  takes_as env (Behind loop) left rest k = tt
  takes_as env (Receive receiver h) left rest k = performed_asks (λ who. ⊥) TakesAs other_each env (Receive receiver h) rest tt
  takes_as env (CopyAll at to from points) left rest k = performed_asks (λ who. ⊥) TakesAs other_each env (CopyAll at to from points) rest tt
