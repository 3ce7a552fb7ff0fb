-- Variables are in scope when they are used.
use Rattle.std.specs.Prelude.{◌≡◌, ◌<◌, ℕ, Bool, true, List, [], ◌∷◌, Option, Some, None}
use Rattle.std.specs.List.{list_any}
use Rattle.ti_base.specs.declared.entry.Entry.{Entry}
use Rattle.ti_lang.specs.Program.Types.{Declaration, Typed, Foreach, VariableUse}
use Rattle.ti_lang.specs.Program.Expressions.{NumberedExp, NumberedExps, NumberedRange, NumberedRanges, numbered_ranges}
use Rattle.ti_lang.specs.Program.Expressions as e
use Rattle.ti_lang.specs.Program.Statements.{NumberedDims, NumberedInit, NumberedPrint, NumberedStm}
use Rattle.ti_lang.specs.Program.Statements as s
use Rattle.ti_lang.specs.Meaning.Processes.{RunConfig, Process, Frame, Variable, ContItem, Do, Before, Receive, While, Receiver, Assigned, Updated}
use Rattle.ti_lang.specs.Meaning.Scoping.{same_variable}
use Rattle.ti_lang.specs.Meaning.NextStep.{Reaches}
use Rattle.ti_lang.specs.Meaning.Runs.{ProcAfter}

-- ---- names

-- which variables are in scope, those of foreach loops left out
abbrev pub Names : Type 0
Names = VariableUse → Bool

-- a variable that is used is in scope, or is that of a foreach
abbrev pub KnownAs : Names → VariableUse → Declaration → Type 0
KnownAs names v (Typed is_single type) = names v ≡ true
KnownAs names v Foreach = Unit {0}

-- ---- expressions

module _ (names : Names) where
  abbrev mutual
    -- the variables of an expression are in scope
    pub ExpScoped : NumberedExp → Type 0
    ExpScoped (e.Variable at v) = KnownAs names v v.declared
    ExpScoped (e.Call at method args) = ExpsScoped args
    ExpScoped (e.OwnCall at method args) = ExpsScoped args
    ExpScoped (e.Point at parts) = ExpsScoped parts
    ExpScoped (e.Rect at ranges) = RangesScoped ranges
    ExpScoped (e.Unary at op x) = ExpScoped x
    ExpScoped (e.Binary at op x y) = ExpScoped x × ExpScoped y
    ExpScoped (e.Cast at to x) = ExpScoped x
    ExpScoped (e.Select at x name) = ExpScoped x
    ExpScoped (e.Member at x name args) = ExpScoped x × ExpsScoped args
    ExpScoped (e.Index at x parts) = ExpScoped x × ExpsScoped parts
    ExpScoped x = Unit {0}

    pub ExpsScoped : NumberedExps → Type 0
    ExpsScoped e.NoExp = Unit {0}
    ExpsScoped (e.MoreExp x rest) = ExpScoped x × ExpsScoped rest

    pub RangeScoped : NumberedRange → Type 0
    RangeScoped (e.Plain low high) = ExpScoped low × ExpScoped high
    RangeScoped (e.Stepped low high step) = ExpScoped low × ExpScoped high × ExpScoped step

    pub RangesScoped : NumberedRanges → Type 0
    RangesScoped e.NoRange = Unit {0}
    RangesScoped (e.MoreRange r rest) = RangeScoped r × RangesScoped rest

  -- the variables of an expression are in scope, if there is one
  abbrev pub OptionScoped : Option NumberedExp → Type 0
  OptionScoped None = Unit {0}
  OptionScoped (Some x) = ExpScoped x

  abbrev pub DimsScoped : NumberedDims → Type 0
  DimsScoped (s.Domain x) = ExpScoped x
  DimsScoped (s.Ranges ranges) = RangesScoped (numbered_ranges ranges)

  abbrev pub InitScoped : NumberedInit → Type 0
  InitScoped (s.Value x) = ExpScoped x
  InitScoped (s.NewRegion at) = Unit {0}
  InitScoped (s.NewObject at region class) = OptionScoped region
  InitScoped (s.NewGrid at region element dims_at dims) = OptionScoped region × DimsScoped dims
  InitScoped (s.Broadcast at x root) = ExpScoped x × ExpScoped root

  abbrev pub PrintScoped : NumberedPrint → Type 0
  PrintScoped s.Nothing = Unit {0}
  PrintScoped (s.Text literal) = Unit {0}
  PrintScoped (s.Expression x) = ExpScoped x
  PrintScoped (s.TextAndExpression literal x) = ExpScoped x

-- ---- work

-- the variables of what receives a value are in scope
abbrev pub ReceiverScoped : Names → Receiver → Type 0
ReceiverScoped names (Assigned at target) = ExpScoped names target
ReceiverScoped names (Updated at op target) = ExpScoped names target
ReceiverScoped names receiver = Unit {0}

-- the variables that a statement itself uses are in scope; those of its sub-statements aren't considered
abbrev pub StmUses : Names → NumberedStm → Type 0
StmUses names (s.Declare at type variable value) = InitScoped names value
StmUses names (s.Assign at target value) = ExpScoped names target × InitScoped names value
StmUses names (s.Update at op target x) = ExpScoped names target × ExpScoped names x
StmUses names (s.Step at op target) = ExpScoped names target
StmUses names (s.Call x) = ExpScoped names x
StmUses names (s.Print at what) = PrintScoped names what
StmUses names (s.Return at value) = OptionScoped names value
StmUses names (s.If at c x) = ExpScoped names c
StmUses names (s.IfElse at c x y) = ExpScoped names c
StmUses names (s.Foreach at variable domain body) = ExpScoped names domain
StmUses names x = Unit {0}

-- the variables that a piece of work uses are in scope
abbrev pub WorkUses : Names → ContItem → Type 0
WorkUses names (Do x) = StmUses names x
WorkUses names (Before (While at c update body)) = OptionScoped names c
WorkUses names (Receive receiver h) = ReceiverScoped names receiver
WorkUses names w = Unit {0}

-- ---- runs

-- the variable is one of these
abbrev pub is_among : VariableUse → List Variable → Bool
is_among v vs = list_any (λ (w : Variable). same_variable v w.named) vs

-- the variables that the first piece of a frame's work uses are among the frame's variables
abbrev pub FirstUses : List Variable → List ContItem → Type 0
FirstUses vs [] = Unit {0}
FirstUses vs (w ∷ left) = WorkUses (λ v. is_among v vs) w

abbrev pub FramesUse : List Frame → Type 0
FramesUse [] = Unit {0}
FramesUse (f ∷ fs) = FirstUses f.variables f.left

-- whatever work a process of the run does next, the variables that it uses are in scope in its frame
abbrev pub VariablesInScope : RunConfig → List Entry → Type 0
VariablesInScope n es =
    (i : ℕ) (p q : Process) → i < n.procs → ProcAfter n es i p → Reaches p q → q.wait ≡ None → FramesUse q.frames
