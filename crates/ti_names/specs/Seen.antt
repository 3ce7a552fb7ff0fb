-- The models of the symbol tables and of the context of name resolution.
use Rattle.std.specs.Prelude.{ℕ, List, map, Option, Some, None}
use Rattle.std.specs.declared.alloc.Global.{Global}
use Rattle.std.specs.declared.boxed.Box.{Box}
use Rattle.ti_syntax.specs.declared.tree.stmts.Stmt.{Stmt}
use Rattle.ti_lang.specs.declared.program.types.Variable.{Variable}
use Rattle.ti_lang.specs.declared.program.stmts.Stmt as numbered
use Rattle.ti_syntax.specs.Trees.Statements.{MaybeStm}
use Rattle.ti_syntax.specs.Trees.Statements as s
use Rattle.ti_syntax.specs.Trees.Classes.{TextTree}
use Rattle.ti_syntax.specs.Trees.Text.{tree_of}
use Rattle.ti_syntax.specs.Trees.Views.{stm_of}
use Rattle.ti_lang.specs.Program.Statements.{MaybeNumbered}
use Rattle.ti_lang.specs.Program.Statements as m
use Rattle.ti_lang.specs.Program.Views.{variable_of, statement_of}
use Rattle.ti_lang.specs.Scopes.{Known}
use Rattle.ti_lang.specs.Scopes as scopes
use Rattle.ti_names.specs.declared.tables.Tables.{Tables}
use Rattle.ti_names.specs.declared.context.NameContext.{NameContext}

-- the program that the tables are of
abbrev pub text_of_tables : Tables → TextTree
text_of_tables tables = tree_of tables.tree.now

abbrev pub scope_of_names : List (List ℕ × Variable) → List Known
scope_of_names names = map (λ e. (e.0, variable_of e.1)) names

-- the model of a context
abbrev pub site_of : NameContext → scopes.Site
site_of a = record {
  text = text_of_tables a.tables.now;
  class = a.class;
  static = a.is_static;
  scope = scope_of_names a.scope;
  variables = a.variables;
  literals = a.literals;
}

-- ---- optional statements

abbrev pub tree_maybe : Option (Box Stmt Global) → MaybeStm
tree_maybe None = s.NoStm
tree_maybe (Some x) = s.SomeStm (stm_of x.value)

abbrev pub seen_maybe : Option (Box numbered.Stmt Global) → MaybeNumbered
seen_maybe None = m.NoStm
seen_maybe (Some x) = m.SomeStm (statement_of x.value)
