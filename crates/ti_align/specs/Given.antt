-- The static types of the values that processes contribute to collectives.
use Rattle.std.specs.Prelude.{◌≡◌, List, [], ◌∷◌, Option, None, option_map}
use Rattle.ti_base.specs.declared.action.CollKind.{CollKind}
use Rattle.ti_base.specs.declared.action.CollKind.TheVariants as coll
use Rattle.ti_lang.specs.Program.Types.{ValueType}
use Rattle.ti_lang.specs.Program.Statements.{NumberedInit}
use Rattle.ti_lang.specs.Program.Classes.{ProgramView}
use Rattle.ti_lang.specs.Program.Scope.{ScopeContents, method_scope}
use Rattle.ti_lang.specs.Typing.Kinds.{element_of, as_global}
use Rattle.ti_lang.specs.Typing.Expressions.{operand_type}
use Rattle.ti_lang.specs.Meaning.Processes.{Loop, While, Foreach, ContItem, Do, Behind, Process, Frame}
use Rattle.ti_lang.specs.Program.Types as t
use Rattle.ti_lang.specs.Program.Expressions as e
use Rattle.ti_lang.specs.Program.Statements as st
use Rattle.ti_rules.specs.StmtInContext.{variables_inside}

-- ---- scopes

-- what is in scope in a loop's body
abbrev pub scope_inside : ProgramView → ScopeContents → Loop → ScopeContents
scope_inside p s (While at c update body) = s
scope_inside p s (Foreach at number domain points body) = record s { variables = variables_inside p s number domain }

-- what is in scope at the head of the pending work, given the scope at its end
abbrev pub scope_over : ProgramView → ScopeContents → List ContItem → ScopeContents
scope_over p s [] = s
scope_over p s (Behind loop ∷ left) = scope_inside p (scope_over p s left) loop
scope_over p s (w ∷ left) = scope_over p s left

-- ---- contributions

-- the type of the values that processes contribute at an initializer or right-hand side, if it is a broadcast
abbrev pub contribution_at : ProgramView → ScopeContents → NumberedInit → Option ValueType
contribution_at p s (st.Broadcast at x root) = option_map as_global (operand_type p s x)
contribution_at p s value = None

-- the type of the values that processes contribute at the collective of a piece of work, if it has one: at a broadcast the type of its
-- value as a global one, at an exchange that of its grid's elements
abbrev pub contribution_type : ProgramView → ScopeContents → ContItem → Option ValueType
contribution_type p s (Do (st.Declare at type variable value)) = contribution_at p s value
contribution_type p s (Do (st.Assign at target value)) = contribution_at p s value
contribution_type p s (Do (st.Call (e.Member at x name args))) = option_map element_of (operand_type p s x)
contribution_type p s x = None

-- the type of the values that are contributed at the collective of the first piece of pending work, if it has one
abbrev pub first_contribution : ProgramView → Frame → List ContItem → Option ValueType
first_contribution p f [] = None
first_contribution p f (x ∷ left) = contribution_type p (scope_over p (method_scope f.method) left) x

abbrev pub contribution_in : ProgramView → List Frame → Option ValueType
contribution_in p [] = None
contribution_in p (f ∷ fs) = first_contribution p f f.left

-- the type of the values that are contributed at the collective at which a process arrives next, if it is a broadcast or an exchange
abbrev pub contribution_by : Process → Option ValueType
contribution_by pr = contribution_in pr.setting.program pr.frames

-- for a broadcast or an exchange, the type satisfies G; for the making of a region it is the type of regions; other collectives pose no
-- condition
abbrev pub IsOfRound : (ValueType → Type 0) → CollKind → ValueType → Type 0
IsOfRound G coll.Broadcast type = G type
IsOfRound G coll.Exchange type = G type
IsOfRound G coll.MakeRegion type = type ≡ t.Region
IsOfRound G kind type = Unit {0}
