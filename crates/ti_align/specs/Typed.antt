-- Type soundness of runs: all that exists in a run agrees with the static types.
use Rattle.std.specs.Prelude.{◌≡◌, ℕ, Bool, true, false, List, Option, Some, ◌<◌, suc}
use Rattle.ti_base.specs.declared.value.Id.{Id}
use Rattle.ti_base.specs.declared.action.CollKind.{CollKind}
use Rattle.ti_base.specs.declared.action.Deposit.{Deposit}
use Rattle.ti_base.specs.declared.point.Point.{Point}
use Rattle.ti_base.specs.declared.value.Value.{Value}
use Rattle.ti_base.specs.declared.entry.Answer.{Answer}
use Rattle.ti_base.specs.declared.entry.Entry.{Entry}
use Rattle.ti_base.specs.Cells.{Field, Element}
use Rattle.ti_base.specs.declared.action.CollKind.TheVariants as coll
use Rattle.ti_base.specs.declared.action.Action.TheVariants as act
use Rattle.ti_lang.specs.Program.Types.{ValueType}
use Rattle.ti_lang.specs.Typing.Kinds.{is_local, as_global}
use Rattle.ti_lang.specs.Meaning.Held.{Plain}
use Rattle.ti_lang.specs.Meaning.Comp.{ValueOf, Request}
use Rattle.ti_lang.specs.Meaning.Processes.{Process, RunConfig, Wait}
use Rattle.ti_lang.specs.Typing.Declared.{field_type}
use Rattle.ti_lang.specs.Meaning.Steps.{At, step}
use Rattle.ti_lang.specs.Meaning.NextStep.{Reaches}
use Rattle.ti_lang.specs.Meaning.Histories.{arrivals, history_of}
use Rattle.ti_lang.specs.Meaning.HeapOf.{class_of_object, cell_value}
use Rattle.ti_lang.specs.Meaning.RoundsOf.{arrival_at, value_in}
use Rattle.ti_lang.specs.Meaning.Runs.{ProcAfter}
use Rattle.ti_lang.specs.Meaning.RoundsOf as rounds
use Rattle.ti_align.specs.HeapTyping.{IsOf, FramesHold, DepositFits}
use Rattle.ti_align.specs.Alignment.{SingleArrival, ArrivesAt}
use Rattle.ti_align.specs.Owners.{MadeWith}
use Rattle.ti_align.specs.Existing.{OperandsExist, GoesThrough, SuitsWanted}
use Rattle.ti_align.specs.Given.{IsOfRound, contribution_by}
use Rattle.ti_align.specs.Heap.{Elements, heap_typing_of, HeapFits}
use Rattle.ti_align.specs.Mirrors.Processes.{ProcessFits}

-- ---- runs

-- values of this type are contributed at the arrival with index k (counted from 0) of process i
pub record GivesAt (s : RunConfig) (es : List Entry) (i k : ℕ) (type : ValueType) : Type 0 where
  pub arrival : SingleArrival
  pub arrives : ArrivesAt s es i k arrival
  pub gives : contribution_by arrives.settled ≡ Some type

-- values of this type are contributed at the last arrival of a process
abbrev pub GivesLast : RunConfig → List Entry → ℕ → ValueType → Type 0
GivesLast s es i type = (k : ℕ) × (arrivals i es ≡ suc k) × GivesAt s es i k type

-- a collective to which values are contributed
abbrev pub hands_in : CollKind → Bool
hands_in coll.Broadcast = true
hands_in coll.Exchange = true
hands_in kind = false

-- All that exists in a run agrees with the types: cells, processes, and contributions to collectives; the elements of each new grid are
-- of the type that was requested.
pub record RunFits (s : RunConfig) (es : List Entry) : Type 0 where
  pub elements : Elements
  pub made : (grid : Id) (element : ValueType) → MadeWith s es grid element → elements grid ≡ Some element
  pub heap : HeapFits s.program elements (history_of es)
  pub processes : (i : ℕ) (pr : Process) → i < s.procs → ProcAfter s es i pr
      → ProcessFits (heap_typing_of i elements (history_of es)) (GivesLast s es i) pr
  pub deposits : (i k : ℕ) (a : rounds.Arrival) (value : Value) → arrival_at i (suc k) (history_of es) ≡ Some a → hands_in a.kind ≡ true
      → value_in a.deposit ≡ Some value
      → (type : ValueType) × GivesAt s es i k type × IsOf (heap_typing_of i elements (history_of es)) type (Plain value)
      × (is_local type ≡ false)

-- `RunFits`, and its consequences: at any point between the actions of a process, each of its variables holds a value of its type, and
-- `this` is an object of its class; each field and each element of a new grid holds a value of its type, whether it was written or is
-- still its zero. What a process contributes is of the type at which it contributes; what it requests exists and is what it expects; and
-- the object or grid that it uses is of the type through which it is used.
pub record RunTyped (s : RunConfig) (es : List Entry) : Type 0 where
  pub fits : RunFits s es
  pub processes : (i : ℕ) (p q : Process) → i < s.procs → ProcAfter s es i p → Reaches p q
      → ProcessFits (heap_typing_of i fits.elements (history_of es)) (GivesLast s es i) q
  pub variables : (i : ℕ) (p q : Process) → i < s.procs → ProcAfter s es i p → Reaches p q
      → FramesHold (heap_typing_of i fits.elements (history_of es)) q.frames
  pub fields : (obj : Id) (class field : ℕ) (type : ValueType) → class_of_object obj (history_of es) ≡ Some class
      → field_type s.program class field ≡ Some type → (value : Value)
      × (cell_value s.program (Field obj field) (history_of es) ≡ Some value)
      × IsOf (heap_typing_of obj.owner fits.elements (history_of es)) type (Plain value)
  pub cells : (block : Id) (at : Point) (element : ValueType) → fits.elements block ≡ Some element → (value : Value)
      × (cell_value s.program (Element block at) (history_of es) ≡ Some value)
      × IsOf (heap_typing_of block.owner fits.elements (history_of es)) element (Plain value)
  pub handed : (i : ℕ) (p q : Process) (request : Request) (go : Answer → Process) (kind : CollKind) (arg : Option ℕ) (given : Deposit)
      → i < s.procs → ProcAfter s es i p → Reaches p q → step q ≡ At request go → request.action ≡ act.Arrive kind arg given
      → (type : ValueType) × DepositFits (heap_typing_of i fits.elements (history_of es)) type given
      × IsOfRound (λ u. contribution_by q ≡ Some u) kind type
  pub there : (i : ℕ) (p q : Process) (request : Request) (go : Answer → Process)
      → i < s.procs → ProcAfter s es i p → Reaches p q → step q ≡ At request go
      → OperandsExist s.program (heap_typing_of i fits.elements (history_of es)) request.action request.wanted
      × GoesThrough (heap_typing_of i fits.elements (history_of es)) request.through request.action
      × SuitsWanted s.program (heap_typing_of i fits.elements (history_of es)) request.action request.wanted

-- ---- receiving

-- What a process receives is of the type at which all processes contribute to that collective: at the departure from a broadcast, which
-- passes the value on as a global one, and from another process after an exchange.
pub record TakenAsGiven (s : RunConfig) (es : List Entry) : Type 0 where
  -- the nth arrivals of two processes contribute values of one type
  pub given : (i j k : ℕ) (a b : ValueType) → GivesAt s es i k a → GivesAt s es j k b → a ≡ b
  pub broadcast : (i : ℕ) (p q : Process) (wait : Wait) (request : Request) (go : Answer → Process)
      → i < s.procs → ProcAfter s es i p → Reaches p q → step q ≡ At request go → q.wait ≡ Some wait → wait.kind ≡ coll.Broadcast
      → (type : ValueType) × (request.wanted ≡ ValueOf type) × GivesLast s es i (as_global type)
  pub exchange : (i who : ℕ) (p q : Process) (request : Request) (go : Answer → Process)
      → i < s.procs → ProcAfter s es i p → Reaches p q → step q ≡ At request go → request.action ≡ act.Take who
      → (type : ValueType) × (request.wanted ≡ ValueOf type) × GivesLast s es i type
