-- The states of a frame that correspond to pending work and to the outcome of a statement.
use Rattle.std.proofs.Common.{◌≡◌, ◌⊎◌, ℕ, ◌+◌, ◌++◌, ◌==◌, Bool, true, false, if◌then◌else◌, slice_get, List, [], ◌∷◌, length, map, Option, Some, None}
use Rattle.ti_base.specs.declared.place.Place.{Place}
use Rattle.ti_base.specs.declared.point.Point.{Point}
use Rattle.ti_base.specs.declared.value.Id.{Id}
use Rattle.ti_base.specs.declared.action.CollKind.TheVariants as coll
use Rattle.ti_lang.specs.Program.Types.{ValueType}
use Rattle.ti_lang.specs.Program.Classes.{ProgramView, NumberedMethod}
use Rattle.ti_lang.specs.Program.Scope.{this_of}
use Rattle.ti_lang.specs.Typing.Declared.{result_type}
use Rattle.ti_lang.specs.Typing.Kinds.{is_void}
use Rattle.ti_lang.specs.Meaning.Held.{Held, region_of, referent_of, points_in}
use Rattle.ti_lang.specs.Meaning.Comp.{Wanted, ToBeDone, ValueOf, NewThing}
use Rattle.ti_lang.specs.Meaning.Copies.{element_at}
use Rattle.ti_lang.specs.Meaning.Processes.{Variable, Receiver, ContItem, Receive, CopyAll, TakeAll}
use Rattle.ti_lang.specs.Meaning.Scoping.{Env}
use Rattle.ti_lang.specs.Meaning.Turns.{turns_at, dims_at}
use Rattle.ti_lang.specs.Meaning.Moves.{Move, Goes, Turns, Breaks, Continues, Returns, Calls, Meets, Deletes}
use Rattle.ti_lang.specs.Meaning.Jumps.{has_mark, from_mark, past_mark, variables_at_mark}
use Rattle.ti_code.specs.declared.instr.Instr.{Instr}
use Rattle.ti_code.specs.declared.instr.Instr.TheVariants as i
use Rattle.ti_code.specs.Effects.{LocalState, Who, top}
use Rattle.ti_code.specs.Leading.{CodeAt, pc_after}
use Rattle.ti_lower_expr.specs.Slots.{Name, SlotsHold}
use Rattle.ti_lower_expr.specs.Methods.{receivers_of}
use Rattle.ti_lower.specs.StmtCode.{LoopTargets, elements_code, copied_code, taken_code}
use Rattle.ti_lower.proofs.Arguments.{Ready}
use Rattle.ti_lower.proofs.Cutting.{Bare}
use Rattle.ti_lower.proofs.Meeting.{Hands}
use Rattle.ti_lower.proofs.Working.{Left}

-- its departure is answered no value
abbrev pub is_done : Wanted → Bool
is_done ToBeDone = true
is_done (ValueOf type) = false
is_done (NewThing type) = false

-- at most the slot of a point
abbrev pub IsCursor : List Held → Type 0
IsCursor [] = Unit {0}
IsCursor (h ∷ []) = Unit {0}
IsCursor hs = ⊥

module _ (c : List Instr) (program : ProgramView) (method : NumberedMethod) (this_id : Option Id) (number procs : ℕ) where
  abbrev pub this : Option ℕ
  this = this_of method

  abbrev pub result : ValueType
  result = result_type method

  abbrev pub who : Who
  who = record { number = number; procs = procs; receivers = receivers_of program }

  -- where the work before this is evaluated
  abbrev pub env : List Variable → List ContItem → Env
  env vs left = record {
    number = number;
    procs = procs;
    program = program;
    method = method;
    this = this_id;
    variables = vs;
    turns = turns_at left;
    dims = dims_at program this left;
  }

  -- the frame stands where the code does this work with these variables, whose slots are all that there are
  abbrev pub Plainly : List ContItem → List Variable → LocalState → Type 0
  Plainly ws vs s = (l : Option LoopTargets) × (names : List Name) × SlotsHold this_id names vs (turns_at ws) s.slots × Left c program this result l names s.stack ws s.at × Bare names

  -- The frame stands before the next point of a copy or an exchange: the domain of the points that are left is on top, and in slots of
  -- their own wait what is read, the grid that is written, and the point before, if there was one.
  pub record Elementwise (p : Place) (read : ℕ → List Instr) (points : List Point) (left : List ContItem) (vs : List Variable) (s : LocalState) : Type 0 where
    pub labels : Option LoopTargets
    pub names : List Name
    pub bare : Bare names
    pub base : List Held
    pub holds : SlotsHold this_id names vs (turns_at left) base
    pub source : Held
    pub target : Held
    pub cursor : List Held
    pub few : IsCursor cursor
    pub slots : s.slots ≡ cursor ++ (target ∷ source ∷ base)
    pub domain : Held
    pub stack : List Held
    pub operands : s.stack ≡ domain ∷ stack
    pub points_are : points_in domain ≡ points
    pub start : ℕ
    pub stands : CodeAt c start (elements_code p (length names) (read (length names)) start)
    -- before the jump to it, or there
    pub at : (s.at ≡ start) ⊎ (s.at ≡ pc_after (start + 1 + 1 + 1) (read (length names)) + 1)
    pub after : Left c program this result labels names stack left (pc_after (start + 1 + 1 + 1) (read (length names)) + 1 + 1 + 1 + 1 + 1)

  -- so with the work of a copy and of an exchange
  abbrev pub Walking : List ContItem → List Variable → LocalState → Type 0
  Walking (CopyAll p to from points ∷ left) vs s =
      (k : Elementwise p (copied_code p) points left vs s) × (referent_of k.target ≡ Some to.thing) × (referent_of k.source ≡ Some from.thing)
  Walking (TakeAll p grid senders ∷ left) vs s = (k : Elementwise p (taken_code p) (map element_at senders) left vs s) × (referent_of k.target ≡ Some grid.thing)
  Walking ws vs s = ⊥

  abbrev pub At : List ContItem → List Variable → LocalState → Type 0
  At ws vs s = Plainly ws vs s ⊎ Walking ws vs s

  -- where the frame stands behind a call, with what it gives back or without anything
  abbrev pub Back : Bool → List ContItem → List Variable → Receiver → LocalState → Type 0
  Back true left vs r s = Plainly left vs s
  Back false left vs r s = (h : Held) → Plainly (Receive r h ∷ left) vs (record { at = s.at; slots = s.slots; stack = h ∷ s.stack })

  -- and behind a departure
  abbrev pub Departed : Bool → List ContItem → List Variable → Receiver → LocalState → Type 0
  Departed true left vs r s = At left vs s
  Departed false left vs r s = (h : Held) → Plainly (Receive r h ∷ left) vs (record { at = s.at; slots = s.slots; stack = h ∷ s.stack })

  -- where the frame stands behind a move
  abbrev pub Moved : List ContItem → List Variable → Move → LocalState → Type 0
  Moved left vs (Goes new works) s = At (works ++ left) new s
  Moved left vs (Turns p new works) s = (slice_get c s.at ≡ Some (i.Tick p)) × At (works ++ left) new (record { at = s.at + 1; slots = s.slots; stack = s.stack })
  Moved left vs Breaks s = At (if has_mark left then past_mark left else left) (if has_mark left then variables_at_mark left vs else vs) s
  Moved left vs Continues s = At (if has_mark left then from_mark left else left) (if has_mark left then variables_at_mark left vs else vs) s
  Moved left vs (Returns None) s = (is_void result ≡ true) × (slice_get c s.at ≡ Some i.Return)
  Moved left vs (Returns (Some h)) s = (is_void result ≡ false) × (slice_get c s.at ≡ Some i.ReturnValue) × (top s.stack ≡ h)
  Moved left vs (Calls at m th ps r) s = (k : ℕ) × (stack : List Held) × (slice_get c s.at ≡ Some (i.Call k at)) × (slice_get program.methods k ≡ Some m) × ((k == program.main) ≡ false)
      × Ready m th ps s.stack stack × Back (is_void (result_type m)) left vs r (record { at = s.at + 1; slots = s.slots; stack = stack })
  Moved left vs (Meets wait deposit more) s = (slice_get c s.at ≡ Some (i.Arrive wait.kind wait.place)) × (slice_get c (s.at + 1) ≡ Some (i.Depart wait.place))
      × (stack : List Held) × Hands number wait deposit s stack × Departed (is_done wait.wanted) (more ++ left) vs wait.receiver (record { at = s.at + 1 + 1; slots = s.slots; stack = stack })
  Moved left vs (Deletes p region) s = (slice_get c s.at ≡ Some (i.Arrive coll.DeleteRegion p)) × (slice_get c (s.at + 1) ≡ Some (i.Depart p))
      × (h : Held) × (stack : List Held) × (s.stack ≡ h ∷ stack) × (region_of h ≡ region) × Plainly left vs (record { at = s.at + 1 + 1; slots = s.slots; stack = stack })
