use Rattle.std.proofs.Common.{◌≡◌, map, drop}
use Rattle.ti_lang.specs.Program.Expressions.{numbered_exps}
use Rattle.ti_lang.specs.Program.Views.{expression_of}
use Rattle.ti_lower.specs.Mirrors.Positions.{where_of}
use Rattle.ti_lower.specs.Mirrors.Values.{values_on}
use Rattle.ti_lower.proofs.values.values.Given as goal

abbrev pub invariant-loop-x : goal.invariant-loop-x
invariant-loop-x l =
    values_on (where_of l.context) (numbered_exps (map expression_of (drop l.x-index l.exprs))) l.out.items
    ≡ values_on (where_of l.context) (numbered_exps (map expression_of l.exprs)) l.initial.out.items
