use Rattle.std.proofs.Common.{◌≤◌, length, arith}
use Rattle.ti_infer.specs.Mirrors.Sites.{program_at, method_of_site, inside_of}
use Rattle.ti_infer.proofs.ArgumentsLeft.{args_end}
use Rattle.ti_infer.proofs.constraints.implications.arguments.Goals as goal

pub returns : goal.returns
returns c =
    let le : length c.args.args.now ≤ c.loop-i.i = omega arith in
    args_end (program_at c.args.site) (method_of_site c.args.site) c.args.whole (inside_of c.args.inside.now) c.args.params.now c.args.args.now c.loop-i.i c.loop-i.out.items _ le c.loop-i.invariant
