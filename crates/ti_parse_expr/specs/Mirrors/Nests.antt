-- For proofs only: the contract of a function value that parses expressions with this much fuel.
use Rattle.std.specs.Prelude.{ℕ, Result, List}
use Rattle.std.specs.declared.alloc.Global.{Global}
use denote.Ref.{MutBor}
use Rattle.ti_syntax.specs.declared.token.Token.{Token}
use Rattle.ti_syntax.specs.declared.tree.exprs.Expr.{Expr}
use Rattle.ti_syntax.specs.Trees.Views.{exp_of}
use Rattle.ti_parse_expr.specs.declared.parse_stop.ParseStop.{ParseStop}
use Rattle.ti_parse_expr.specs.Mirrors.Input.{ParsesAs}
use Rattle.ti_parse_expr.specs.Mirrors.Exprs.{expr}

pub record Nests (fuel : ℕ) (pre : Global → MutBor (List Token) → ℕ → ℕ → Type 0)
    (post : Global → MutBor (List Token) → ℕ → ℕ → Result Expr ParseStop → MutBor (List Token) → Type 0) : Type 0 where
  pub callable : (alloc : Global) (old : MutBor (List Token)) (least : ℕ) → pre alloc old fuel least
  pub reads : (alloc : Global) (old new : MutBor (List Token)) (least : ℕ) (r : Result Expr ParseStop) → post alloc old fuel least r new
      → ParsesAs exp_of (expr fuel least old.now) r new.now
