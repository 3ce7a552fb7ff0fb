use Rattle.std.proofs.Common.{◌≡◌, map, drop}
use Rattle.ti_syntax.specs.Trees.Statements.{stms}
use Rattle.ti_syntax.specs.Trees.Views.{stm_of}
use Rattle.ti_explain.specs.Redeclared.{outer_among}
use Rattle.ti_explain.proofs.redeclared.+outer.Given as goal

abbrev pub invariant-outer_among-loop-i : goal.invariant-outer_among-loop-i
invariant-outer_among-loop-i l =
    outer_among l.place l.any l.name (stms (map stm_of l.stmts)) ≡ outer_among l.place l.any l.name (stms (map stm_of (drop l.i l.stmts)))
