use Rattle.std.proofs.Common.{◌≡◌, drop}
use Rattle.ti_infer.specs.Mirrors.Implications.{inside_at}
use Rattle.ti_infer.specs.Mirrors.Sites.{inside_of}
use Rattle.ti_infer.proofs.constraints.dependencies.foreach_dependencies.Given as goal

abbrev pub invariant-loop-v : goal.invariant-loop-v
invariant-loop-v l = record {
  same : l.out.items ≡ l.fn.out.items;
  rest : inside_at (inside_of l.inside) l.number ≡ inside_at (inside_of (drop l.v-index l.inside)) l.number;
}
