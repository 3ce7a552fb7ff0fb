-- What theorems state of a single process, computation, grid, run or program: the theorem states it of all, the counterexample refutes it
-- of one.
use Rattle.std.specs.Prelude.{◌≡◌, ◌≤◌, false, List, [], ◌∷◌, ◌++◌, length, All, Contains}
use Rattle.ti_base.specs.declared.point.Point.{Point}
use Rattle.ti_base.specs.declared.entry.Answer.{Answer}
use Rattle.ti_base.specs.declared.entry.Entry.{Entry}
use Rattle.ti_base.specs.Points.{IsPoint}
use Rattle.ti_base.specs.Cells.{Grid, cell_of}
use Rattle.ti_lang.specs.Program.Expressions.{NumberedExp}
use Rattle.ti_lang.specs.Program.Classes.{ProgramView}
use Rattle.ti_lang.specs.Program.Scope.{ScopeContents}
use Rattle.ti_lang.specs.Meaning.Processes.{RunConfig, Process}
use Rattle.ti_lang.specs.Meaning.Comp.{Request, Comp, Gives, Asks}
use Rattle.ti_lang.specs.Meaning.Steps.{Step, At, most_frames}
use Rattle.ti_lang.specs.Meaning.Histories.{is_end, is_fault}
use Rattle.ti_lang.specs.Meaning.Runs.{IsRun}
use Rattle.ti_rules.specs.StmtInContext.{StmtInContext, standing_in}
use Rattle.ti_rules.specs.declared.rule.Rule.TheVariants.{Y7}
use Rattle.ti_rules.specs.declared.refusal.Refusal.{Refusal}
use Rattle.ti_rules.specs.Broken.Expressions.{exp_refusals}
use Rattle.ti_rules.specs.Broken.Statements.{standing_refusals}
use Rattle.ti_rules.specs.SingleRules.{standing_single_refusals}

-- ---- processes

-- what a step requests is neither an end nor a fault
abbrev pub AsksForActions : Step → Type 0
AsksForActions t = (q : Request) (go : Answer → Process) → t ≡ At q go → (is_end q.action ≡ false) × (is_fault q.action ≡ false)

-- a process hasn't spent more ticks than it has, nor more frames than allowed
abbrev pub IsWithinLimits : RunConfig → Process → Type 0
IsWithinLimits s p = (p.spent ≤ s.fuel) × (length p.frames ≤ most_frames)

-- if a computation has used all its answers, it yields the same when further answers follow
abbrev pub LooksNoFurther : {A : Type 0} → Comp A → Type 0
LooksNoFurther {A} m = (rs more : List Answer) (a : A) → m rs ≡ Gives a [] → m (rs ++ more) ≡ Gives a more

-- a computation uses the answer to its last request before it yields a result
abbrev pub UsesUp : {A : Type 0} → Comp A → Type 0
UsesUp {A} m = (rs rest : List Answer) (q : Request) (r : Answer) (a : A) → m rs ≡ Asks q → m (rs ++ r ∷ []) ≡ Gives a rest → rest ≡ []

-- ---- runs

-- each prefix of the entries is a run
abbrev pub FrontsAreRuns : RunConfig → List Entry → Type 0
FrontsAreRuns s es = (front rest : List Entry) → es ≡ front ++ rest → IsRun s front

-- different points of a grid have different cells
abbrev pub CellsDiffer : Grid → Type 0
CellsDiffer g = (p q : Point) → IsPoint p → IsPoint q → p.dim ≡ g.domain.dim → q.dim ≡ g.domain.dim → cell_of g p ≡ cell_of g q → p ≡ q

-- ---- rules

-- no statement in the program breaks a rule of types
abbrev pub TypesStand : ProgramView → Type 0
TypesStand p = (x : StmtInContext) → Contains (standing_in p) x → standing_refusals p x ≡ []

-- no statement in the program breaks a rule of single values
abbrev pub SinglesStand : ProgramView → Type 0
SinglesStand p = (x : StmtInContext) → Contains (standing_in p) x → standing_single_refusals p x ≡ []

-- no rule of types is broken in an expression, except the one on qualifiers (Y7)
abbrev pub OnlyWords : ProgramView → ScopeContents → NumberedExp → Type 0
OnlyWords p s e = All (λ (r : Refusal). r.rule ≡ Y7) (exp_refusals p s e)
