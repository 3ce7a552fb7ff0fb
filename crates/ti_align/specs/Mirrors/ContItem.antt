-- Pending work that agrees with the static types: the pieces of work that are left in a frame, and the moves that they result in.
use Rattle.std.specs.Prelude.{◌≡◌, ℕ, pos, Bool, true, false, ◌&&◌, ◌||◌, is_none, List, [], ◌∷◌, Option, Some, None, slice_get}
use Rattle.std.specs.Int.{w32}
use Rattle.ti_base.specs.declared.place.Place.{Place}
use Rattle.ti_base.specs.declared.value.Zero.{Zero}
use Rattle.ti_base.specs.declared.action.CollKind.{CollKind}
use Rattle.ti_base.specs.Points.{IsDim}
use Rattle.ti_base.specs.WholeNumbers.{Fits}
use Rattle.ti_base.specs.declared.action.CollKind.TheVariants as coll
use Rattle.ti_lang.specs.Program.Types.{ValueType, Declaration, VariableUse}
use Rattle.ti_lang.specs.Program.Expressions.{NumberedExp, numbered_ranges}
use Rattle.ti_lang.specs.Program.Statements.{NumberedDims, NumberedInit, NumberedPrint, NumberedStm, MaybeNumbered, NumberedStms, numbered_stms}
use Rattle.ti_lang.specs.Program.Classes.{NumberedMethod, ProgramView}
use Rattle.ti_lang.specs.Program.Scope.{ScopeContents, this_of, method_scope}
use Rattle.ti_lang.specs.Typing.Declared.{in_scope, result_type}
use Rattle.ti_lang.specs.Typing.Kinds.{is_local, is_void, element_of, as_global, domain_dim}
use Rattle.ti_lang.specs.Typing.TextTypes.{static_element_type}
use Rattle.ti_lang.specs.Typing.Fits.{fits}
use Rattle.ti_lang.specs.Typing.Operators.{binary_type}
use Rattle.ti_lang.specs.Typing.Expressions.{expr_type, operand_type}
use Rattle.ti_base.specs.Forms.{is_dim}
use Rattle.ti_lang.specs.Meaning.Comp.{Wanted, ToBeDone, ValueOf, NewThing}
use Rattle.ti_lang.specs.Meaning.Zeros.{zeros_of_class}
use Rattle.ti_lang.specs.Meaning.Processes.{Receiver, Nowhere, Declared, Assigned, Updated, Loop, While, Foreach, ContItem, Do, End, Before, Behind, Receive, CopyAll, TakeAll, Process}
use Rattle.ti_lang.specs.Meaning.Statements.{one_more}
use Rattle.ti_lang.specs.Meaning.Moves.{Move, Goes, Turns, Calls, Returns, Meets, Deletes}
use Rattle.ti_lang.specs.Program.Types as t
use Rattle.ti_lang.specs.Program.Expressions as e
use Rattle.ti_lang.specs.Program.Statements as st
use Rattle.ti_rules.specs.InitialTypes.{can_broadcast}
use Rattle.ti_rules.specs.StmtInContext.{variables_inside}
use Rattle.ti_rules.specs.Broken.Targets.{is_foreach_variable, is_hidden_local}
use Rattle.ti_rules.specs.Broken.Statements.{narrows}
use Rattle.ti_align.specs.HeapTyping.{HeapTyping, ArePoints, IsStorable, IsGridOf, IsPlaced, IsOwn, IsOf, VariablesFit, ThisFits, DepositFits}
use Rattle.ti_align.specs.Existing.{SameForm}
use Rattle.ti_align.specs.Mirrors.Sound.{ReferenceFits}
use Rattle.ti_align.specs.Mirrors.Fitting.{IsWritten, AreWritten}
use Rattle.ti_align.specs.Given.{scope_over, IsOfRound}

-- ---- variables

-- points, domains and grids in the type have one to three dimensions
abbrev pub has_dims : ValueType → Bool
has_dims (t.Pt n) = is_dim n
has_dims (t.Rc n) = is_dim n
has_dims (t.Dm n) = is_dim n
has_dims (t.Grid element n is_local) = is_dim n && has_dims element
has_dims type = true

-- a variable that a method may use: its type has valid dimensions; a foreach variable doesn't have the number of a parameter
abbrev pub may_use : NumberedMethod → ℕ → Declaration → Bool
may_use m number (t.Typed is_single type) = has_dims type
may_use m number t.Foreach = is_none (in_scope (method_scope m) number)

abbrev pub uses_of : NumberedMethod → VariableUse → Bool
uses_of m v = may_use m v.number v.declared

-- ---- the program

-- the expression for the domain of a new grid
abbrev pub domain_written : Place → NumberedDims → NumberedExp
domain_written at (st.Domain x) = x
domain_written at (st.Ranges ranges) = e.Rect at (numbered_ranges ranges)

-- a call or a member form
abbrev pub is_form_of_call : NumberedExp → Bool
is_form_of_call (e.Call at method args) = true
is_form_of_call (e.OwnCall at method args) = true
is_form_of_call (e.Member at x name args) = true
is_form_of_call x = false

-- a variable with this declaration takes values of this type
abbrev pub DeclaredFits : Declaration → ValueType → Type 0
DeclaredFits (t.Typed is_single u) type = fits type u ≡ true
DeclaredFits t.Foreach type = ⊥

module _ (p : ProgramView) (m : NumberedMethod) where
  -- the operand expression is well-written and has this type
  abbrev pub IsInner : ScopeContents → NumberedExp → ValueType → Type 0
  IsInner s x type = IsWritten (uses_of m) x × (operand_type p s x ≡ Some type)

  -- an expression statement or initializer is well-written; an own call is one of a static method or of a method of the class of `this`
  abbrev pub IsWhole : ScopeContents → NumberedExp → Type 0
  IsWhole s (e.Call at method args) = AreWritten (uses_of m) args
  IsWhole s (e.OwnCall at method args) =
      AreWritten (uses_of m) args × ((called : NumberedMethod) → slice_get p.methods method ≡ Some called → (class : ℕ) → this_of called
      ≡ Some class → s.this_class ≡ Some class)
  IsWhole s x = IsWritten (uses_of m) x

  -- an expression statement or initializer has this type
  abbrev pub WholeFits : ScopeContents → NumberedExp → ValueType → Type 0
  WholeFits s x type = (expr_type p s x ≡ Some type) × IsWhole s x

  -- the target of an assignment has this type, is no foreach variable and no local part that is reached through a global reference
  abbrev pub IsTarget : ScopeContents → NumberedExp → ValueType → Type 0
  IsTarget s target type = IsInner s target type × (is_foreach_variable target ≡ false) × (is_hidden_local p s target ≡ false)

  -- the receiver takes a value of this type
  abbrev pub ReceiverFits : ScopeContents → Receiver → ValueType → Type 0
  ReceiverFits s Nowhere type = Unit {0}
  ReceiverFits s (Declared at v) type = DeclaredFits v.declared type
  ReceiverFits s (Assigned at target) type = (u : ValueType) × IsTarget s target u × (fits type u ≡ true)
  ReceiverFits s (Updated at op target) type =
      (u : ValueType) × (r : ValueType) × IsTarget s target u × (binary_type op u type ≡ Some r) × ((narrows r u || fits r u) ≡ true)

  -- the expression for the region of a new object or grid, if there is one, is of type region
  abbrev pub RegionFits : ScopeContents → Option NumberedExp → Type 0
  RegionFits s None = Unit {0}
  RegionFits s (Some x) = IsInner s x t.Region

  -- an initializer or right-hand side evaluates to a value of this type
  abbrev pub InitFits : ScopeContents → NumberedInit → ValueType → Type 0
  InitFits s (st.Value x) type = WholeFits s x type × (is_void type ≡ false)
  InitFits s (st.NewRegion at) type = type ≡ t.Region
  InitFits s (st.NewObject at region class) type =
      (type ≡ t.Class class true) × RegionFits s region × ((zeros : List Zero) × (zeros_of_class p class ≡ Some zeros))
  InitFits s (st.NewGrid at region element dims_at dims) type =
      (n : ℕ) × (type ≡ t.Grid element.type n true) × RegionFits s region × IsInner s (domain_written dims_at dims) (t.Rc n)
      × IsStorable element.type
  InitFits s (st.Broadcast at x root) type =
      (u : ValueType) × (type ≡ as_global u) × IsInner s x u × IsInner s root t.Int × (can_broadcast u ≡ true)

  -- what is printed has a type
  abbrev pub PrintFits : ScopeContents → NumberedPrint → Type 0
  PrintFits s st.Nothing = Unit {0}
  PrintFits s (st.Text literal) = Unit {0}
  PrintFits s (st.Expression x) = (type : ValueType) × IsInner s x type
  PrintFits s (st.TextAndExpression literal x) = (type : ValueType) × IsInner s x type

  -- a condition, if there is one, is boolean
  abbrev pub ConditionFits : ScopeContents → Option NumberedExp → Type 0
  ConditionFits s None = Unit {0}
  ConditionFits s (Some c) = IsInner s c t.Boolean

  -- the domain of a foreach has n dimensions, and its variable's number isn't in use in the scope
  abbrev pub DomainFits : ScopeContents → ℕ → NumberedExp → ℕ → Type 0
  DomainFits s number domain n =
      ((type : ValueType) × IsInner s domain type × (domain_dim type ≡ Some n)) × (is_none (in_scope s number) ≡ true) × IsDim n

  abbrev mutual
    pub StmFits : ScopeContents → NumberedStm → Type 0
    StmFits s (st.Declare at type variable value) = (u : ValueType) × InitFits s value u × (fits u type.type ≡ true)
    StmFits s (st.Assign at target value) = (u : ValueType) × InitFits s value u × ReceiverFits s (Assigned at target) u
    StmFits s (st.Update at op target x) = (u : ValueType) × InitFits s (st.Value x) u × ReceiverFits s (Updated at op target) u
    StmFits s (st.Step at op target) = ReceiverFits s (Updated at (one_more op) target) t.Int
    StmFits s (st.Call x) = (u : ValueType) × WholeFits s x u × (is_form_of_call x ≡ true)
    StmFits s (st.Print at what) = PrintFits s what
    StmFits s (st.Return at (Some x)) = (u : ValueType) × IsInner s x u × (fits u (result_type m) ≡ true)
    StmFits s (st.Block body) = StmsFit s body
    StmFits s (st.If at c x) = IsInner s c t.Boolean × StmFits s x
    StmFits s (st.IfElse at c x y) = IsInner s c t.Boolean × StmFits s x × StmFits s y
    StmFits s (st.While at c body) = IsInner s c t.Boolean × StmFits s body
    StmFits s (st.For at first c update body) = MaybeFits s first × ConditionFits s c × MaybeFits s update × StmFits s body
    StmFits s (st.Foreach at number domain body) =
        ((n : ℕ) × DomainFits s number domain n) × StmFits (record s { variables = variables_inside p s number domain }) body
    StmFits s x = Unit {0}

    pub MaybeFits : ScopeContents → MaybeNumbered → Type 0
    MaybeFits s st.NoStm = Unit {0}
    MaybeFits s (st.SomeStm x) = StmFits s x

    pub StmsFit : ScopeContents → NumberedStms → Type 0
    StmsFit s st.Nil = Unit {0}
    StmsFit s (st.Cons x rest) = StmFits s x × StmsFit s rest

  -- a loop in progress
  abbrev pub LoopFits : ScopeContents → Loop → Type 0
  LoopFits s (While at c update body) = ConditionFits s c × MaybeFits s update × StmFits s body
  LoopFits s (Foreach at number domain points body) =
      ((n : ℕ) × DomainFits s number domain n × ArePoints n points)
      × StmFits (record s { variables = variables_inside p s number domain }) body

-- a foreach whose body is being executed has a current point
abbrev pub IsTurning : Loop → Type 0
IsTurning (Foreach at number domain [] body) = ⊥
IsTurning loop = Unit {0}

-- the statements of a method
abbrev pub MethodFits : ProgramView → NumberedMethod → Type 0
MethodFits p m = StmsFit p m (method_scope m) (numbered_stms m.body)

-- the statements of all these methods
abbrev pub MethodsFit : ProgramView → List NumberedMethod → Type 0
MethodsFit p [] = Unit {0}
MethodsFit p (m ∷ ms) = MethodFits p m × MethodsFit p ms

-- ---- work and moves

-- ---- processes

-- the number of a process and the number of processes have 32 bits
abbrev pub HasNumber : Process → Type 0
HasNumber pr = Fits w32 (pos pr.number) × Fits w32 (pos pr.setting.procs)

-- ---- taking after an exchange

-- the type of the values that this piece of work still takes, if it takes any
abbrev pub taken_type : ContItem → Option ValueType
taken_type (TakeAll at grid procs) = Some (element_of grid.type)
taken_type x = None

-- the values that are taken in this work, if any, are of this type
abbrev pub TakesOf : Option ValueType → List ContItem → Type 0
TakesOf takes [] = Unit {0}
TakesOf takes (TakeAll at grid procs ∷ works) = (takes ≡ Some (element_of grid.type)) × TakesOf takes works
TakesOf takes (w ∷ works) = TakesOf takes works

-- the type of the values that are taken after a collective at which values of this type are contributed
abbrev pub taken_behind : CollKind → ValueType → Option ValueType
taken_behind coll.Exchange type = Some type
taken_behind kind type = None

-- What is expected at a collective to which values of this type are contributed: at a broadcast one of the type of its value, which is
-- passed on as a global one; at the making of a region a region; otherwise nothing.
abbrev pub WantsOf : CollKind → Wanted → ValueType → Type 0
WantsOf coll.Broadcast wanted type = (u : ValueType) × (wanted ≡ ValueOf u) × (type ≡ as_global u) × (can_broadcast u ≡ true)
WantsOf coll.MakeRegion wanted type = wanted ≡ ValueOf t.Region
WantsOf kind wanted type = wanted ≡ ToBeDone

-- each process number has 32 bits
abbrev pub AreCounted : List ℕ → Type 0
AreCounted [] = Unit {0}
AreCounted (i ∷ is) = Fits w32 (pos i) × AreCounted is

module _ (p : ProgramView) (m : NumberedMethod) where
  -- a piece of work
  abbrev pub WorkFits : ScopeContents → HeapTyping → ContItem → Type 0
  WorkFits s w (Do x) = StmFits p m s x
  WorkFits s w (End x) = Unit {0}
  WorkFits s w (Before loop) = LoopFits p m s loop
  WorkFits s w (Behind loop) = LoopFits p m s loop × IsTurning loop
  WorkFits s w (Receive receiver h) = (type : ValueType) × IsOf w type h × ReceiverFits p m s receiver type
  WorkFits s w (CopyAll at to from points) =
      (element : ValueType) × (n : ℕ) × IsGridOf w element n to.thing × IsGridOf w element n from.thing × ArePoints n points
      × ReferenceFits w to × ReferenceFits w from × IsOwn w (is_local element) (Some to.thing)
      × IsOwn w (is_local element) (Some from.thing)
      × SameForm (static_element_type from.type) element
  WorkFits s w (TakeAll at grid procs) =
      IsGridOf w (element_of grid.type) 1 grid.thing × AreCounted procs × ReferenceFits w grid × (is_local (element_of grid.type) ≡ false)

  -- all pending work
  abbrev pub WorksFit : ScopeContents → HeapTyping → List ContItem → Type 0
  WorksFit s w [] = Unit {0}
  WorksFit s w (x ∷ works) = WorkFits (scope_over p s works) w x × WorksFit s w works

  -- the type of the answer to a departure suits the receiver, if the answer has one
  abbrev pub IsAwaited : ScopeContents → Wanted → Receiver → ValueType → Type 0
  IsAwaited s ToBeDone receiver type = Unit {0}
  IsAwaited s (ValueOf u) receiver type = ReceiverFits p m s receiver type
  IsAwaited s (NewThing u) receiver type = ReceiverFits p m s receiver type

  -- A move of a piece of work: `gives` is the type of the values that it contributes to a collective, if it does, and `takes` that of the
  -- values that it leaves to be taken.
  abbrev pub MoveFits : Option ValueType → Option ValueType → ScopeContents → HeapTyping → Move → Type 0
  MoveFits gives takes s w (Goes variables works) = VariablesFit w variables × WorksFit s w works × TakesOf takes works
  MoveFits gives takes s w (Turns at variables works) = VariablesFit w variables × WorksFit s w works × TakesOf takes works
  MoveFits gives takes s w (Calls at method this parameters receiver) =
      MethodFits p method × ThisFits w method this × VariablesFit w parameters × ReceiverFits p m s receiver (result_type method)
  MoveFits gives takes s w (Returns None) = Unit {0}
  MoveFits gives takes s w (Returns (Some h)) = IsOf w (result_type m) h
  MoveFits gives takes s w (Meets wait given behind) =
      ((type : ValueType) × IsAwaited (scope_over p s behind) wait.wanted wait.receiver type × DepositFits w type given
      × IsOfRound (λ u. gives ≡ Some u) wait.kind type × WantsOf wait.kind wait.wanted type
      × TakesOf (taken_behind wait.kind type) behind) × WorksFit s w behind
  MoveFits gives takes s w (Deletes at region) = IsPlaced w region
  MoveFits gives takes s w move = Unit {0}
