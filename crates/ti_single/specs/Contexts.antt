-- The model of a statement's context, for the rules of single values.
use Rattle.ti_lang.specs.Program.Classes.{ProgramView}
use Rattle.ti_lang.specs.Program.Scope.{ScopeContents, contents_of}
use Rattle.ti_lang.specs.Program.Views.{program_of, numbered_method_of}
use Rattle.ti_rules.specs.StmtInContext.{StmtContext, scope_of}
use Rattle.ti_single.specs.declared.context.SingleContext.{SingleContext}

-- the program
abbrev pub program_at : SingleContext → ProgramView
program_at s = program_of s.program.now.parts

-- the context, as the rules of single values define it
abbrev pub around_of : SingleContext → StmtContext
around_of s = record { method = numbered_method_of s.method.now; variables = (contents_of s.scope.now).variables; jump_has = s.jump_has }

-- the scope
abbrev pub scope_at : SingleContext → ScopeContents
scope_at s = scope_of (around_of s)
