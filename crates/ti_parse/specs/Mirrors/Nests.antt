-- For proofs only: the contract of a function value that parses statements in which this many more levels may be nested.
use Rattle.std.specs.Prelude.{ℕ, Result, List}
use denote.Ref.{MutBor}
use Rattle.ti_syntax.specs.declared.token.Token.{Token}
use Rattle.ti_syntax.specs.declared.tree.stmts.Stmt.{Stmt}
use Rattle.std.specs.declared.boxed.Box.{Box}
use Rattle.std.specs.declared.alloc.Global.{Global}
use Rattle.ti_parse_expr.specs.declared.parse_stop.ParseStop.{ParseStop}
use Rattle.ti_parse_expr.specs.Mirrors.Input.{ParsesAs}
use Rattle.ti_parse.specs.declared.parser.TextParser.{TextParser}
use Rattle.ti_parse.specs.Mirrors.ParserParams.{language_params}
use Rattle.ti_parse.specs.Mirrors.Seen.{boxed_stm}
use Rattle.ti_parse.specs.Mirrors.Statements.{stmt}

pub record Nests (parser : TextParser) (levels : ℕ) (pre : TextParser → MutBor (List Token) → ℕ → Type 0)
    (post : TextParser → MutBor (List Token) → ℕ → Result (Box Stmt Global) ParseStop → MutBor (List Token) → Type 0) : Type 0 where
  pub callable : (old : MutBor (List Token)) → pre parser old levels
  pub reads : (old new : MutBor (List Token)) (r : Result (Box Stmt Global) ParseStop) → post parser old levels r new
      → ParsesAs boxed_stm (stmt language_params parser.fuel levels old.now) r new.now
