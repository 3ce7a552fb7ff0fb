-- Execution of statements: the move of each.
use Rattle.std.specs.Prelude.{ℕ, if◌then◌else◌, pos, List, [], ◌∷◌, ◌++◌, Option, None, Some}
use Rattle.ti_base.specs.declared.place.Place.{Place}
use Rattle.ti_base.specs.declared.value.Value.{Value}
use Rattle.ti_base.specs.declared.action.Action.TheVariants as act
use Rattle.ti_syntax.specs.declared.tree.exprs.BinaryOperator.{BinaryOperator}
use Rattle.ti_syntax.specs.declared.tree.exprs.BinaryOperator.TheVariants as op
use Rattle.ti_syntax.specs.declared.tree.stmts.StepOperator.{StepOperator}
use Rattle.ti_syntax.specs.declared.tree.stmts.StepOperator.TheVariants.{Increment, Decrement}
use Rattle.ti_lang.specs.Program.Types.{NumberedType, VariableUse, Typed}
use Rattle.ti_lang.specs.Program.Expressions.{NumberedExp, NumberedExps}
use Rattle.ti_lang.specs.Program.Expressions as e
use Rattle.ti_lang.specs.Program.Statements.{NumberedInit, NumberedPrint, NumberedStm, MaybeNumbered, NoStm, SomeStm}
use Rattle.ti_lang.specs.Program.Statements as s
use Rattle.ti_lang.specs.Program.Scope.{this_of}
use Rattle.ti_lang.specs.Typing.BuiltIn.{BuiltIn, Copy, Exchange, Delete}
use Rattle.ti_lang.specs.Typing.Declared.{result_type}
use Rattle.ti_lang.specs.Typing.Called.{member_called}
use Rattle.ti_lang.specs.Meaning.Held.{Held, truth_of, plain_of, points_in}
use Rattle.ti_lang.specs.Meaning.Comp.{ToBeDone, request, Comp, ◌>>=◌, gives, asked}
use Rattle.ti_lang.specs.Meaning.Conversions.{converted}
use Rattle.ti_lang.specs.Meaning.Processes.{Receiver, Nowhere, Declared, Assigned, Updated, While, Foreach, ContItem, Do, End, Before, all_before}
use Rattle.ti_lang.specs.Meaning.Scoping.{Env}
use Rattle.ti_lang.specs.Meaning.Evaluation.{eval}
use Rattle.ti_lang.specs.Meaning.Makers.{new_object, new_grid}
use Rattle.ti_lang.specs.Meaning.Calls.{Call, called, calling}
use Rattle.ti_lang.specs.Meaning.Copies.{copies}
use Rattle.ti_lang.specs.Meaning.Collectives.{exchanges, broadcasts, meets, makes_region, deletes}
use Rattle.ti_lang.specs.Meaning.Moves.{Move, Goes, Breaks, Continues, Returns, goes_on, receives}

-- ---- right sides

-- a right side: a call is made before the receiver is evaluated; the value of any other expression is stored there
abbrev pub valued_or_called : Env → Receiver → NumberedExp → Option Call → Comp Move
valued_or_called env receiver x None = receives env receiver (eval env x)
valued_or_called env receiver x (Some c) = calling env receiver c

-- creates an object or grid first, and then stores it in the receiver
abbrev pub made_first : Env → Receiver → Comp Held → Comp Move
made_first env receiver new = do
  h ← new
  receives env receiver (gives h)

-- the right side of a declaration or an assignment
abbrev pub initialized : Env → Receiver → NumberedInit → Comp Move
initialized env receiver (s.Value x) = valued_or_called env receiver x (called env x)
initialized env receiver (s.NewRegion at) = makes_region receiver at
initialized env receiver (s.NewObject at region class) = made_first env receiver (new_object env at region class)
initialized env receiver (s.NewGrid at region element dims_at dims) =
    made_first env receiver (new_grid env at region element.type dims_at dims)
initialized env receiver (s.Broadcast at x root) = broadcasts env receiver at x root

-- the variable that a declaration declares
abbrev pub declared_as : NumberedType → ℕ → VariableUse
declared_as type number = record { number = number; declared = Typed type.is_single type.type }

-- `++` adds 1, and `--` subtracts it
abbrev pub one_more : StepOperator → BinaryOperator
one_more Increment = op.Add
one_more Decrement = op.Subtract

-- ---- expression statements

-- a built-in member as a statement: `copy`, `exchange` and `delete` have no value; the value of any other is dropped
abbrev pub member_alone : Env → Place → NumberedExp → NumberedExps → Comp Move → Option BuiltIn → Comp Move
member_alone env at x args other (Some Copy) = copies env at x args
member_alone env at x args other (Some Exchange) = exchanges env at x args
member_alone env at x args other (Some Delete) = deletes env at x
member_alone env at x args other _ = other

-- an expression statement: a call, or a built-in member
abbrev pub alone : Env → NumberedExp → Option Call → Comp Move
alone env x (Some c) = calling env Nowhere c
alone env (e.Member at x name args) None =
    member_alone env at x args (receives env Nowhere (eval env (e.Member at x name args)))
    (member_called env.program (this_of env.method) x name)
alone env x None = receives env Nowhere (eval env x)

-- ---- prints

-- prints a line: a literal, if there is one, and a value, if there is one
abbrev pub prints : Env → Place → Option ℕ → Option Value → Comp Move
prints env at literal value = do
  done ← asked (request at (act.Print literal value) ToBeDone)
  goes_on env

-- a print: evaluates its value first
abbrev pub printed : Env → Place → NumberedPrint → Comp Move
printed env at s.Nothing = prints env at None None
printed env at (s.Text literal) = prints env at (Some literal) None
printed env at (s.Expression x) = do
  h ← eval env x
  prints env at None (Some (plain_of h))
printed env at (s.TextAndExpression literal x) = do
  h ← eval env x
  prints env at (Some literal) (Some (plain_of h))

-- ---- statements

-- the work of an optional statement
abbrev pub maybe_do : MaybeNumbered → List ContItem
maybe_do NoStm = []
maybe_do (SomeStm x) = Do x ∷ []

-- a `return`; its value is converted to the result type of the method
abbrev pub returns : Env → Place → Option NumberedExp → Comp Move
returns env at None = gives (Returns None)
returns env at (Some x) = do
  h ← eval env x
  k ← converted at (result_type env.method) h
  gives (Returns (Some k))

-- the move of a statement
abbrev pub statement : Env → NumberedStm → Comp Move
statement env s.Empty = goes_on env
statement env (s.Declare at type variable value) = initialized env (Declared at (declared_as type variable)) value
statement env (s.Assign at target value) = initialized env (Assigned at target) value
statement env (s.Update at op target x) = initialized env (Updated at op target) (s.Value x)
statement env (s.Step at op target) = initialized env (Updated at (one_more op) target) (s.Value (e.Int at (pos 1)))
statement env (s.Call x) = alone env x (called env x)
statement env (s.Print at what) = printed env at what
statement env (s.Barrier at) = meets at
statement env (s.Block body) = gives (Goes env.variables (all_before body (End (s.Block body) ∷ [])))
statement env (s.If at c x) = do
  h ← eval env c
  gives (Goes env.variables (if truth_of h then Do x ∷ [] else []))
statement env (s.IfElse at c x y) = do
  h ← eval env c
  gives (Goes env.variables (Do (if truth_of h then x else y) ∷ []))
statement env (s.While at c body) = gives (Goes env.variables (Before (While at (Some c) NoStm body) ∷ []))
statement env (s.For at first c update body) =
    gives (Goes env.variables (maybe_do first ++ Before (While at c update body) ∷ End (s.For at first c update body) ∷ []))
statement env (s.Foreach at variable domain body) = do
  h ← eval env domain
  gives (Goes env.variables (Before (Foreach at variable domain (points_in h) body) ∷ []))
statement env (s.Break at) = gives Breaks
statement env (s.Continue at) = gives Continues
statement env (s.Return at value) = returns env at value
