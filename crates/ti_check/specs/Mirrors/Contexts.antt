-- For proofs only: the model of a statement's context.
use Rattle.std.specs.Prelude.{Bool, true, false, Option, Some, None}
use Rattle.ti_lang.specs.Program.Classes.{ProgramView}
use Rattle.ti_lang.specs.Program.Scope.{ScopeContents, contents_of}
use Rattle.ti_lang.specs.Program.Views.{program_of, numbered_method_of}
use Rattle.ti_rules.specs.StmtInContext.{StmtContext, scope_of}
use Rattle.ti_check.specs.declared.context.CheckContext.{CheckContext}

-- the program
abbrev pub program_at : CheckContext → ProgramView
program_at s = program_of s.program.now.parts

-- whether a jump out of the innermost enclosing loop counts as a global effect; None if there is no loop
abbrev pub jump_in : Bool → Bool → Option Bool
jump_in false jump_has = None
jump_in true jump_has = Some jump_has

-- the context, given whether such a jump counts as a global effect
abbrev pub around_where : CheckContext → Bool → StmtContext
around_where s jump_has = record {
  method = numbered_method_of s.method.now;
  variables = (contents_of s.scope.now).variables;
  jump_has = jump_in s.is_in_loop jump_has;
}

-- the context if it doesn't
abbrev pub around_of : CheckContext → StmtContext
around_of s = around_where s false

-- the scope
abbrev pub scope_at : CheckContext → ScopeContents
scope_at s = scope_of (around_of s)
