-- Processes, computations, grids, accesses, expressions and refusals for which theorems are false.
use Rattle.std.specs.Prelude.{ℕ, pos, Bool, false, [], ◌∷◌, None, length}
use Rattle.ti_base.specs.declared.value.Zero.TheVariants as z
use Rattle.ti_base.specs.declared.action.Action.TheVariants as act
use Rattle.ti_base.specs.Cells.{Field, Grid, whole_grid}
use Rattle.ti_syntax.specs.declared.token.Token.{Token}
use Rattle.ti_syntax.specs.declared.token.TokenKind.TheVariants as token
use Rattle.ti_lang.specs.Program.Types as ty
use Rattle.ti_lang.specs.Program.Expressions.{NumberedExp}
use Rattle.ti_lang.specs.Program.Expressions as x
use Rattle.ti_lang.specs.Program.Scope.{ScopeContents}
use Rattle.ti_lang.specs.Typing.TextTypes.{type_at}
use Rattle.ti_lang.specs.Program.Types.{ValueType}
use Rattle.ti_lang.specs.Meaning.Processes.{RunConfig, Process, begin}
use Rattle.ti_lang.specs.Meaning.Comp.{Comp, Gives, Asks, Request, request, ToBeDone}
use Rattle.ti_lang.specs.Meaning.Steps.{Step, At}
use Rattle.ti_lang.specs.Meaning.Races.{Access}
use Rattle.ti_rules.specs.declared.rule.Rule.{Rule}
use Rattle.ti_rules.specs.declared.rule.Rule.TheVariants.{S1, Y2}
use Rattle.ti_rules.specs.declared.refusal.Refusal.{Refusal}
use Rattle.ti_rows.specs.Texts.{pl, each_var, var}
use Rattle.ti_rows.specs.Histories.{thing}
use Rattle.ti_rows.specs.Failing.{by_two}
use Rattle.ti_rows.specs.Refuted.Sets.{on_line, evens}
use Rattle.ti_rows.specs.Refuted.Programs.{object, one_barrier}

-- ---- processes

-- two processes that reach one barrier
abbrev pub two_at_barrier : RunConfig
two_at_barrier = by_two 1000 one_barrier

-- one of these processes before its first step
abbrev pub fresh : ℕ → Process
fresh i = begin two_at_barrier i

-- a step that requests the end of its process
abbrev pub asks_for_its_end : Step
asks_for_its_end = At (request (pl 1 75) act.End ToBeDone) (λ r. fresh 0)

-- a process that has spent more ticks than it has
abbrev pub spent_too_much : Process
spent_too_much = record (fresh 0) { spent = 1001 }

-- a process that has ended
abbrev pub ended_process : Process
ended_process = record (fresh 0) { frames = [] }

-- ---- computations

-- the first request
abbrev pub a_departure : Request
a_departure = request (pl 1 65) act.Depart ToBeDone

-- counts its answers, however many there are
abbrev pub counts_all : Comp ℕ
counts_all rs = Gives (length rs) []

-- makes one request, and leaves its answer unused
abbrev pub leaves_its_answer : Comp ℕ
leaves_its_answer [] = Asks a_departure
leaves_its_answer (r ∷ rs) = Gives 0 (r ∷ rs)

-- ---- heaps

-- the points 0, 2 and 4, each with its own cell
abbrev pub three_cells : Grid
three_cells = whole_grid (thing 0 0 0) z.Int evens

-- the same points, all with one cell
abbrev pub one_cell : Grid
one_cell = record three_cells { place = λ p. on_line (pos 0) }

-- a process reads a field of an object, or writes it
abbrev pub access : ℕ → Bool → Access
access i writes = record { number = 0; proc = i; phase = 0; cell = Field (thing 0 0 0) 0; writes = writes }

-- ---- expressions and their types

-- the token of a number
abbrev pub seven : Token
seven = record { kind = token.Int (pos 7); place = pl 1 1 }

-- a foreach variable over points of two dimensions is in scope
abbrev pub a_point_in_scope : ScopeContents
a_point_in_scope = record { this_class = None; variables = record { number = 0; type = ty.Pt 2; is_single = false } ∷ [] }

-- that foreach variable
abbrev pub the_point : NumberedExp
the_point = each_var (pl 1 1) 0

-- the type of an expression in the program, if foreach variables have this many dimensions
abbrev pub seen_with : ℕ → NumberedExp → ValueType
seen_with dim x = type_at one_barrier None (λ number. dim) x

-- a number literal
abbrev pub a_number : NumberedExp
a_number = x.Int (pl 1 1) (pos 7)

-- a variable that refers to an object
abbrev pub an_object : NumberedExp
an_object = var (pl 1 1) 0 object

-- ---- refusals

-- a refusal at a column
abbrev pub at_column : Rule → ℕ → Refusal
at_column rule column = record { rule = rule; place = pl 1 column }

-- two refusals; the second is the earlier one by place
abbrev pub later : Refusal
later = at_column S1 9

abbrev pub earlier : Refusal
earlier = at_column Y2 3
