use Rattle.std.proofs.Common.{◌≡◌, ℕ, ◌<◌, get_or}
use Rattle.ti_lang.specs.declared.program.exprs.Expr.{Expr}
use Rattle.ti_lang.specs.declared.program.exprs.Range.{Range}
use Rattle.ti_lang.specs.Program.Views.{expression_of, bound_of}
use Rattle.ti_infer.specs.Marked.{marked_exp, marked_range}
use Rattle.ti_infer.proofs.uses.+set_uses.Given as goal

abbrev pub invariant-set_in_all-loop-i : goal.invariant-set_in_all-loop-i
invariant-set_in_all-loop-i g l =
    goal.unvisited-set_in_all-loop-i g l
    × ((k : ℕ) (d : Expr) → k < l.i
    → expression_of (get_or l.exprs.items k d) ≡ marked_exp (g.S.Singles.says l.singles) (expression_of (get_or l.initial.exprs.items k d)))

abbrev pub invariant-set_in_ranges-loop-i : goal.invariant-set_in_ranges-loop-i
invariant-set_in_ranges-loop-i g l =
    goal.unvisited-set_in_ranges-loop-i g l
    × ((k : ℕ) (d : Range) → k < l.i
    → bound_of (get_or l.ranges.items k d) ≡ marked_range (g.S.Singles.says l.singles) (bound_of (get_or l.initial.ranges.items k d)))
