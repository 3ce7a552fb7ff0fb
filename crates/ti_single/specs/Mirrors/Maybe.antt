-- For proofs only: optional statements.
use Rattle.std.specs.Prelude.{Option, Some, None}
use Rattle.std.specs.declared.boxed.Box.{Box}
use Rattle.std.specs.declared.alloc.Global.{Global}
use Rattle.ti_lang.specs.declared.program.stmts.Stmt.{Stmt}
use Rattle.ti_lang.specs.Program.Statements.{MaybeNumbered, NoStm, SomeStm}
use Rattle.ti_lang.specs.Program.Views.{statement_of}

-- the model of an optional statement
abbrev pub maybe_in : Option (Box Stmt Global) → MaybeNumbered
maybe_in None = NoStm
maybe_in (Some x) = SomeStm (statement_of x.value)
