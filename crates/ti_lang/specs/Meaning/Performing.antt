-- The move of each item of a continuation.
use Rattle.std.specs.Prelude.{if◌then◌else◌, true, List, [], ◌∷◌, ◌++◌, Option, None, Some}
use Rattle.ti_lang.specs.Program.Types.{VariableUse}
use Rattle.ti_lang.specs.Program.Expressions.{NumberedExp}
use Rattle.ti_lang.specs.Program.Statements.{NumberedStm, MaybeNumbered, NoStm, SomeStm, NumberedStms, Nil, Cons}
use Rattle.ti_lang.specs.Program.Statements as s
use Rattle.ti_lang.specs.Meaning.Held.{Held, truth, truth_of}
use Rattle.ti_lang.specs.Meaning.Comp.{Comp, ◌>>=◌, gives}
use Rattle.ti_lang.specs.Meaning.Processes.{Loop, While, Foreach, ContItem, Do, End, Before, Behind, Receive, CopyAll, TakeAll}
use Rattle.ti_lang.specs.Meaning.Scoping.{Env, without_variables}
use Rattle.ti_lang.specs.Meaning.Evaluation.{eval}
use Rattle.ti_lang.specs.Meaning.Copies.{copied, taken}
use Rattle.ti_lang.specs.Meaning.Moves.{Move, Goes, Turns, goes_on, receives}
use Rattle.ti_lang.specs.Meaning.Statements.{declared_as, maybe_do, statement}

-- ---- declarations

-- the variables that a statement itself declares in the enclosing scope
abbrev pub declared_alone : NumberedStm → List VariableUse
declared_alone (s.Declare at type variable value) = declared_as type variable ∷ []
declared_alone x = []

-- the variables that the statements of a list declare in their scope
abbrev pub declared_among : NumberedStms → List VariableUse
declared_among Nil = []
declared_among (Cons x rest) = declared_alone x ++ declared_among rest

-- the variables that an optional statement declares
abbrev pub declared_maybe : MaybeNumbered → List VariableUse
declared_maybe NoStm = []
declared_maybe (SomeStm x) = declared_alone x

-- the variables that go out of scope at the end of a block or a `for`
abbrev pub declared_in : NumberedStm → List VariableUse
declared_in (s.Block body) = declared_among body
declared_in (s.For at first c update body) = declared_maybe first
declared_in x = []

-- ---- loops

-- the value of a loop's condition; a missing one is true
abbrev pub condition : Env → Option NumberedExp → Comp Held
condition env None = gives (truth true)
condition env (Some c) = eval env c

-- a loop before its next iteration, which costs a tick once the condition is true or there is a next point
abbrev pub before_turn : Env → Loop → Comp Move
before_turn env (While at c update body) = do
  h ← condition env c
  gives (if truth_of h then Turns at env.variables (Do body ∷ Behind (While at c update body) ∷ []) else Goes env.variables [])
before_turn env (Foreach at variable domain [] body) = goes_on env
before_turn env (Foreach at variable domain (p ∷ ps) body) =
    gives (Turns at env.variables (Do body ∷ Behind (Foreach at variable domain (p ∷ ps) body) ∷ []))

-- the update that ends an iteration of a loop
abbrev pub loop_update : Loop → List ContItem
loop_update (While at c update body) = maybe_do update
loop_update (Foreach at variable domain points body) = []

-- the loop after an iteration: of a `foreach`, without the first point
abbrev pub next_iteration : Loop → Loop
next_iteration (While at c update body) = While at c update body
next_iteration (Foreach at variable domain [] body) = Foreach at variable domain [] body
next_iteration (Foreach at variable domain (p ∷ ps) body) = Foreach at variable domain ps body

-- ---- all items

-- the move of an item of work
abbrev pub exec_item : Env → ContItem → Comp Move
exec_item env (Do x) = statement env x
exec_item env (End x) = gives (Goes (without_variables (declared_in x) env.variables) [])
exec_item env (Before loop) = before_turn env loop
exec_item env (Behind loop) = gives (Goes env.variables (loop_update loop ++ Before (next_iteration loop) ∷ []))
exec_item env (Receive receiver h) = receives env receiver (gives h)
exec_item env (CopyAll at to from points) = copied env at to from points
exec_item env (TakeAll at grid procs) = taken env at grid procs
