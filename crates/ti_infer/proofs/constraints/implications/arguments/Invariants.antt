use Rattle.std.proofs.Common.{◌≡◌, ◌++◌, map, drop}
use Rattle.ti_lang.specs.Program.Expressions.{numbered_exps}
use Rattle.ti_lang.specs.Program.Views.{expression_of, numbered_param_of}
use Rattle.ti_infer.specs.Mirrors.Implications.{arguments_edges}
use Rattle.ti_infer.specs.Mirrors.Sites.{program_at, method_of_site, inside_of}
use Rattle.ti_infer.proofs.constraints.implications.arguments.Given as goal

abbrev pub invariant-loop-i : goal.invariant-loop-i
invariant-loop-i l =
    l.out.items ++ arguments_edges (program_at l.site) (method_of_site l.site) l.fn.whole (inside_of l.inside)
    (map numbered_param_of (drop l.i l.params)) (numbered_exps (map expression_of (drop l.i l.args)))
    ≡ l.fn.out.items ++ arguments_edges (program_at l.site) (method_of_site l.site) l.fn.whole (inside_of l.inside) (map numbered_param_of l.params) (numbered_exps (map expression_of l.args))
