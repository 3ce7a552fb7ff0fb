-- The code of statements.
use Rattle.std.specs.Prelude.{ℕ, zero, suc, ◌+◌, Bool, true, false, List, [], ◌∷◌, ◌++◌, length, pos, Option, Some, None}
use Rattle.ti_base.specs.declared.place.Place.{Place}
use Rattle.ti_base.specs.declared.action.CollKind.TheVariants as coll
use Rattle.ti_base.specs.declared.value.Value.TheVariants as v
use Rattle.ti_lang.specs.Program.Types.{ValueType, VariableUse}
use Rattle.ti_lang.specs.Program.Types as t
use Rattle.ti_lang.specs.Program.Expressions.{NumberedExp, NumberedExps, numbered_ranges}
use Rattle.ti_lang.specs.Program.Expressions as e
use Rattle.ti_lang.specs.Program.Statements.{NumberedDims, NumberedInit, NumberedPrint, NumberedStm, MaybeNumbered, NoStm, SomeStm, NumberedStms, Nil, Cons}
use Rattle.ti_lang.specs.Program.Statements as s
use Rattle.ti_lang.specs.Program.Classes.{ProgramView}
use Rattle.ti_lang.specs.Typing.BuiltIn.{BuiltIn, Copy, Exchange, Delete}
use Rattle.ti_lang.specs.Typing.Called.{called_method, member_called}
use Rattle.ti_lang.specs.Typing.Declared.{result_type}
use Rattle.ti_lang.specs.Typing.Kinds.{is_void, element_of}
use Rattle.ti_lang.specs.Typing.TextTypes.{syntactic_type, how_many}
use Rattle.ti_lang.specs.Meaning.Calls.{Call, call_by}
use Rattle.ti_lang.specs.Meaning.Processes.{Receiver, Nowhere, Declared, Assigned, Updated}
use Rattle.ti_lang.specs.Meaning.Statements.{declared_as, one_more}
use Rattle.ti_lang.specs.Meaning.Zeros.{zero_of_type}
use Rattle.ti_code.specs.declared.instr.Instr.{Instr}
use Rattle.ti_code.specs.declared.instr.Instr.TheVariants as i
use Rattle.ti_code.specs.declared.instr.Operation.TheVariants as o
use Rattle.ti_code.specs.declared.instr.ValueMember.TheVariants as kind
use Rattle.ti_code.specs.Leading.{pc_after}
use Rattle.ti_lower_expr.specs.Slots.{Name, Of, Point}
use Rattle.ti_lower_expr.specs.declared.kinds.OperandClass.TheVariants.{Numbers}
use Rattle.ti_lower_expr.specs.declared.kinds.StaticRepr.TheVariants as known
use Rattle.ti_lower_expr.specs.Knowing.{known_of}
use Rattle.ti_lower_expr.specs.Coding.{kind_in, code_of, code_of_all, conversion, pops}
use Rattle.ti_lower.specs.Calling.{number_called, call_code}
use Rattle.ti_lower.specs.Receivers.{into_code, late_code}

-- The jump targets of the innermost loop: `again` for continue, which keeps `kept` slots, and `exit` for break, which keeps `left` slots.
-- If the loop is a foreach (`walks`), break also pops its domain.
pub record LoopTargets : Type 0 where
  pub again : ℕ
  pub kept : ℕ
  pub exit : ℕ
  pub left : ℕ
  pub walks : Bool

-- Labels that aren't known yet. The length of code doesn't depend on where labels lead, only on whether the loop is a foreach.
abbrev pub unknown : Bool → Option LoopTargets
unknown walks = Some (record { again = 0; kept = 0; exit = 0; left = 0; walks = walks })

-- The names of the slots after a statement.
abbrev pub names_after : NumberedStm → List Name → List Name
names_after (s.Declare p type variable value) names = Of (declared_as type variable) ∷ names
names_after x names = names

-- Converts a value to the element type of a grid.
abbrev pub as_element : ValueType → List Instr
as_element t.Long = i.Widen ∷ []
as_element t.Int = i.Narrow ∷ []
as_element (t.Class class is_local) = i.AsObj ∷ []
as_element (t.Grid element dim is_local) = i.AsGrid ∷ []
as_element type = []

-- Pops the domain of a foreach.
abbrev pub pop_domain : Bool → List Instr
pop_domain true = i.Pop ∷ []
pop_domain false = []

-- Break and continue. Outside loops they lead to the next instruction.
abbrev pub break_code : Option LoopTargets → List Name → ℕ → List Instr
break_code None names at = i.Trim (length names) ∷ i.Jump (at + 1 + 1) ∷ []
break_code (Some l) names at = i.Trim l.left ∷ (pop_domain l.walks ++ i.Jump l.exit ∷ [])

abbrev pub continue_code : Option LoopTargets → List Name → ℕ → List Instr
continue_code None names at = i.Trim (length names) ∷ i.Jump (at + 1 + 1) ∷ []
continue_code (Some l) names at = i.Trim l.kept ∷ i.Jump l.again ∷ []

-- ---- copies and exchanges

-- Keeps the first of n operands only; without operands it pushes `false`.
abbrev pub first_code : ℕ → List Instr
first_code zero = i.Const (v.Bool false) ∷ []
first_code (suc n) = pops n

-- A loop over the points of the domain on top: for each point it writes what `read` yields into the grid. Three slots are temporaries: the
-- grid that is read or the value contributed to an exchange, the grid that is written, and the point.
abbrev pub elements_code : Place → ℕ → List Instr → ℕ → List Instr
elements_code p n read at =
    let test = pc_after (at + 1 + 1 + 1) read + 1 in
    i.Jump test ∷ i.Load (n + 1) ∷ i.Load (n + 1 + 1) ∷ read ++ i.PutElem p ∷ i.Next (n + 1 + 1) (test + 1 + 1) ∷ i.Jump (at + 1) ∷ i.Trim n
    ∷ i.Pop ∷ []

-- What is read at a point of a copy, and at a point of an exchange.
abbrev pub copied_code : Place → ℕ → List Instr
copied_code p n = i.Load n ∷ i.Load (n + 1 + 1) ∷ i.GetElem p ∷ []

abbrev pub taken_code : Place → ℕ → List Instr
taken_code p n = i.Load (n + 1 + 1) ∷ i.Take p ∷ []

-- `a.copy(b)`: both grids are kept in slots, since both are needed before the domain of either is requested; `b` is tested for null first.
abbrev pub grids_code : Place → ℕ → ℕ → List Instr
grids_code p n at =
    i.AsGrid ∷ i.Keep n ∷ i.AsGrid ∷ i.Keep (n + 1)
    ∷ i.Load n ∷ i.Const (v.Grid None) ∷ i.Operate o.Eq p ∷ i.JumpIfNot (at + 1 + 1 + 1 + 1 + 1 + 1 + 1 + 1 + 1 + 1) ∷ i.Load n
    ∷ i.Member kind.DomainOf 0 p
    ∷ i.Load (n + 1) ∷ i.Member kind.DomainOf 0 p ∷ i.Load n ∷ i.Member kind.DomainOf 0 p ∷ i.Common ∷ []

-- `a.exchange(e)`: the value and the grid are kept in slots. The domain of the grid must be that of the processes; the loop is over it.
abbrev pub team_code : Place → ℕ → List Instr
team_code p n =
    i.Keep n ∷ i.Keep (n + 1) ∷ i.Load (n + 1) ∷ i.Member kind.DomainOf 0 p ∷ i.GridTest p ∷ i.Load n ∷ i.Arrive coll.Exchange p
    ∷ i.Depart p ∷ []

module _ (program : ProgramView) (this : Option ℕ) where
  -- A print.
  abbrev pub print_code : Place → List Name → NumberedPrint → ℕ → List Instr
  print_code p names s.Nothing at = i.Print None false p ∷ []
  print_code p names (s.Text literal) at = i.Print (Some literal) false p ∷ []
  print_code p names (s.Expression x) at = code_of program this names x at ++ i.Print None true p ∷ []
  print_code p names (s.TextAndExpression literal x) at = code_of program this names x at ++ i.Print (Some literal) true p ∷ []

  -- The condition of a loop.
  abbrev pub condition_code : List Name → Option NumberedExp → ℕ → List Instr
  condition_code names None at = i.Const (v.Bool true) ∷ []
  condition_code names (Some c) at = code_of program this names c at

  -- A loop, given the code of its body with labels from a position on, and that of its update. The condition comes after both and leads
  -- back to the tick of the next iteration.
  abbrev pub loop_code : Place → List Name → Option NumberedExp → (Option LoopTargets → ℕ → List Instr) → (ℕ → List Instr) → ℕ → List Instr
  loop_code p names c body update at =
      let again = pc_after (at + 1 + 1) (body (unknown false) (at + 1 + 1)) in
      let test = pc_after again (update again) in
      let exit = pc_after test (condition_code names c test) + 1 in
      i.Jump test ∷ i.Tick p
      ∷ body (Some (record { again = again; kept = length names; exit = exit; left = length names; walks = false })) (at + 1 + 1)
      ++ (update again ++ (condition_code names c test ++ i.JumpIf (at + 1) ∷ []))

  -- A foreach over the points of the domain on top, which is popped after the last one. The point of an iteration has a slot after these
  -- names.
  abbrev pub walk_code : Place → List Name → (Option LoopTargets → ℕ → List Instr) → ℕ → List Instr
  walk_code p names body at =
      let again = pc_after (at + 1 + 1) (body (unknown true) (at + 1 + 1)) in
      let exit = again + 1 + 1 + 1 + 1 in
      i.Jump (again + 1) ∷ i.Tick p
      ∷ body (Some (record { again = again; kept = length names + 1; exit = exit; left = length names; walks = true })) (at + 1 + 1)
      ++ i.Trim (length names) ∷ i.Next (length names) (again + 1 + 1 + 1) ∷ i.Jump (at + 1) ∷ i.Pop ∷ []

  -- The arrival at a broadcast and its departure: the root's number, and above it the root's contribution, which no other process
  -- evaluates.
  abbrev pub root_code : Place → List Name → NumberedExp → ℕ → List Instr
  root_code p names x at =
      let inner = at + 1 + 1 + 1 + 1 + 1 in
      let other = pc_after inner (code_of program this names x inner) + 1 in
      i.RootTest p ∷ i.Dup ∷ i.ThisProc ∷ i.Operate o.Eq p ∷ i.JumpIfNot other
      ∷ code_of program this names x inner ++ i.Jump (other + 1) ∷ i.Const (v.Bool false) ∷ i.Arrive coll.Broadcast p ∷ i.Depart p ∷ []

  abbrev pub broadcast_code : Place → List Name → NumberedExp → NumberedExp → ℕ → List Instr
  broadcast_code p names x root at =
      code_of program this names root at ++ root_code p names x (pc_after at (code_of program this names root at))

  -- ---- new objects and grids

  -- The region in which an object or a grid is placed; 0 if none is given.
  abbrev pub region_code : List Name → Option NumberedExp → ℕ → List Instr
  region_code names None at = i.Const (v.Region 0) ∷ []
  region_code names (Some x) at = code_of program this names x at

  -- The domain of a new grid.
  abbrev pub spread_code : List Name → Place → NumberedDims → ℕ → List Instr
  spread_code names p (s.Domain x) at = code_of program this names x at
  spread_code names p (s.Ranges ranges) at = code_of program this names (e.Rect p (numbered_ranges ranges)) at

  abbrev pub object_code : List Name → Place → Option NumberedExp → ℕ → ℕ → List Instr
  object_code names p region class at = region_code names region at ++ i.NewObj class p ∷ []

  abbrev pub grid_code : List Name → Place → Option NumberedExp → ValueType → Place → NumberedDims → ℕ → List Instr
  grid_code names p region element q dims at =
      region_code names region at ++ (spread_code names q dims (pc_after at (region_code names region at))
      ++ i.NewGrid (zero_of_type element) p ∷ [])

  -- ---- right sides

  -- A call followed by the store of its value, or another value with its store.
  abbrev pub valued_code : Receiver → NumberedExp → Option Call → List Name → ℕ → List Instr
  valued_code r x None names at =
      into_code program this r (kind_in program this x) (known_of program this x) (λ ns from. code_of program this ns x from) names at
  valued_code r x (Some c) names at =
      let first = call_code program this names (number_called program this x) c at in
      first ++ late_code program this r (kind_in program this x) known.Other names (pc_after at first)

  -- The right side of a declaration or an assignment, and the store of its value.
  abbrev pub init_code : Receiver → NumberedInit → List Name → ℕ → List Instr
  init_code r (s.Value x) names at = valued_code r x (call_by x (called_method program this x)) names at
  init_code r (s.NewRegion p) names at =
      i.Arrive coll.MakeRegion p ∷ i.Depart p ∷ late_code program this r Numbers known.Other names (at + 1 + 1)
  init_code r (s.NewObject p region class) names at =
      let first = object_code names p region class at in
      first ++ late_code program this r Numbers known.Other names (pc_after at first)
  init_code r (s.NewGrid p region element q dims) names at =
      let first = grid_code names p region element.type q dims at in
      first ++ late_code program this r Numbers known.Other names (pc_after at first)
  init_code r (s.Broadcast p x root) names at =
      let first = broadcast_code p names x root at in
      first ++ late_code program this r (kind_in program this x) known.Other names (pc_after at first)

  -- ---- expression statements

  -- The receiver of a member call, and above it the first of its arguments.
  abbrev pub both_code : List Name → NumberedExp → NumberedExps → ℕ → List Instr
  both_code names x args at =
      code_of program this names x at ++ (code_of_all program this names args (pc_after at (code_of program this names x at))
      ++ first_code (how_many args))

  -- `a.copy(b)`
  abbrev pub copy_code : Place → List Name → NumberedExp → NumberedExps → ℕ → List Instr
  copy_code p names x args at =
      let n = length names in
      let grids = both_code names x args at in
      let start = pc_after at grids in
      grids ++ (grids_code p n start ++ elements_code p n (copied_code p n) (pc_after start (grids_code p n start)))

  -- `a.exchange(e)`
  abbrev pub exchange_code : Place → List Name → NumberedExp → NumberedExps → ℕ → List Instr
  exchange_code p names x args at =
      let n = length names in
      let both = both_code names x args at ++ as_element (element_of (syntactic_type program this x)) in
      let start = pc_after at both in
      both ++ (team_code p n ++ elements_code p n (taken_code p n) (pc_after start (team_code p n)))

  -- A member call as a statement.
  abbrev pub form_code : Option BuiltIn → Place → List Name → NumberedExp → NumberedExps → ℕ → List Instr → List Instr
  form_code (Some Copy) p names x args at other = copy_code p names x args at
  form_code (Some Exchange) p names x args at other = exchange_code p names x args at
  form_code (Some Delete) p names x args at other = code_of program this names x at ++ i.Arrive coll.DeleteRegion p ∷ i.Depart p ∷ []
  form_code m p names x args at other = other

  abbrev pub other_code : List Name → NumberedExp → ℕ → List Instr
  other_code names (e.Member p x name args) at =
      form_code (member_called program this x name) p names x args at
      (into_code program this Nowhere Numbers known.Other (λ ns from. code_of program this ns (e.Member p x name args) from) names at)
  other_code names x at = into_code program this Nowhere Numbers known.Other (λ ns from. code_of program this ns x from) names at

  -- A call as a statement; its value is dropped, if there is one.
  abbrev pub alone_code : Bool → NumberedExp → Option Call → List Name → ℕ → List Instr
  alone_code is_void x None names at = other_code names x at
  alone_code true x (Some c) names at = call_code program this names (number_called program this x) c at
  alone_code false x (Some c) names at = call_code program this names (number_called program this x) c at ++ i.Pop ∷ []

  -- It isn't a call that returns a value.
  abbrev pub gives_nothing : Option Call → Bool
  gives_nothing None = true
  gives_nothing (Some c) = is_void (result_type c.method)

module _ (program : ProgramView) (this : Option ℕ) (result : ValueType) where
  abbrev mutual
    -- The code of a statement from a position on, in a loop with these labels or in none, while the slots have these names.
    pub stm_code : NumberedStm → Option LoopTargets → List Name → ℕ → List Instr
    stm_code s.Empty l names at = []
    stm_code (s.Declare p type variable value) l names at = init_code program this (Declared p (declared_as type variable)) value names at
    stm_code (s.Assign p target value) l names at = init_code program this (Assigned p target) value names at
    stm_code (s.Update p op target x) l names at = init_code program this (Updated p op target) (s.Value x) names at
    stm_code (s.Step p op target) l names at = init_code program this (Updated p (one_more op) target) (s.Value (e.Int p (pos 1))) names at
    stm_code (s.Print p what) l names at = print_code program this p names what at
    stm_code (s.Barrier p) l names at = i.Arrive coll.Barrier p ∷ i.Depart p ∷ []
    stm_code (s.Block body) l names at = stms_code body l names at ++ i.Trim (length names) ∷ []
    stm_code (s.If p c x) l names at =
        let first = code_of program this names c at in
        let then_at = pc_after at first + 1 in
        let inner = stm_code x l names then_at in
        first ++ i.JumpIfNot (pc_after then_at inner) ∷ inner
    stm_code (s.IfElse p c x y) l names at =
        let first = code_of program this names c at in
        let then_at = pc_after at first + 1 in
        let inner = stm_code x l names then_at in
        let else_at = pc_after then_at inner + 1 in
        let other = stm_code y l names else_at in
        first ++ i.JumpIfNot else_at ∷ (inner ++ i.Jump (pc_after else_at other) ∷ other)
    stm_code (s.While p c body) l names at = loop_code program this p names (Some c) (λ m from. stm_code body m names from) (λ from. []) at
    stm_code (s.For p NoStm c update body) l names at =
        loop_code program this p names c (λ m from. stm_code body m names from) (λ from. maybe_code update l names from) at
        ++ i.Trim (length names) ∷ []
    stm_code (s.For p (SomeStm first) c update body) l names at =
        let before = stm_code first l names at in
        let inner = names_after first names in
        before ++ (loop_code program this p inner c (λ m from. stm_code body m inner from) (λ from. maybe_code update l inner from)
        (pc_after at before)
        ++ i.Trim (length names) ∷ [])
    stm_code (s.Foreach p x domain body) l names at =
        let first = code_of program this names domain at in
        first ++ walk_code program this p names (λ m from. stm_code body m (Point x ∷ names) from) (pc_after at first)
    stm_code (s.Break p) l names at = break_code l names at
    stm_code (s.Continue p) l names at = continue_code l names at
    stm_code (s.Return p None) l names at = i.Return ∷ []
    stm_code (s.Return p (Some x)) l names at =
        code_of program this names x at ++ (conversion p result (known_of program this x) ++ i.ReturnValue ∷ [])
    stm_code (s.Call x) l names at =
        alone_code program this (gives_nothing program this (call_by x (called_method program this x))) x
        (call_by x (called_method program this x)) names at

    pub stms_code : NumberedStms → Option LoopTargets → List Name → ℕ → List Instr
    stms_code Nil l names at = []
    stms_code (Cons x rest) l names at = stm_code x l names at ++ stms_code rest l (names_after x names) (pc_after at (stm_code x l names at))

    -- The code of the head or the update of a `for`.
    pub maybe_code : MaybeNumbered → Option LoopTargets → List Name → ℕ → List Instr
    maybe_code NoStm l names at = []
    maybe_code (SomeStm x) l names at = stm_code x l names at
