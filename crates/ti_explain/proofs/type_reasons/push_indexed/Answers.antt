use Rattle.std.proofs.Common.{arith}
use Rattle.ti_syntax.specs.Trees.Text.{tree_of}
use Rattle.ti_single.specs.Contexts.{program_at, scope_at}
use Rattle.ti_explain.proofs.ArgumentLaws.{next_told, none_told}
use Rattle.ti_explain.proofs.type_reasons.push_indexed.Goals as goal

pub returns-then-index-params : goal.returns-then-index-params
returns-then-index-params c =
    next_told (tree_of c.args.tree.now) (program_at c.args.site) (scope_at c.args.site) c.args.place c.args.args.now c.args.params.now c.args.index
    c.index-args-index.result c.index-params-index.result c.args.reasons.items c.push_argument.result (omega (arith, c.requires))
    (omega (arith, c.if-index-params.true)) c.index-args-index.is c.index-params-index.is c.push_argument.ensures

pub returns-else-index-params : goal.returns-else-index-params
returns-else-index-params c =
    none_told (tree_of c.args.tree.now) (program_at c.args.site) (scope_at c.args.site) c.args.place c.args.args.now c.args.params.now c.args.index
    c.args.reasons.items (omega (arith, c.if-index-params.false))
