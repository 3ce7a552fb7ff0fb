use Rattle.std.proofs.Common.{rules, arith}
use Rattle.std.proofs.lemmas.Grind.{common_steps}
use Rattle.ti_syntax.specs.Trees.Views.{maybe_of, exp_of}
use Rattle.ti_parse.specs.Mirrors.ParserParams.{language_params}
use Rattle.ti_parse.proofs.InParts.{new_grid_sized}
use Rattle.ti_parse.proofs.parser.TextParser.new_grid.Goals as goal

pub returns-in_err-sizes : goal.returns-in_err-sizes
returns-in_err-sizes c =
    let e = new_grid_sized language_params c.args.self.fuel c.args.place (maybe_of exp_of c.args.region) c.args.base c.args.tokens.now c.in_ok-qualifiers.ensures in
    rw e (first_of (search rules, grind (arith, common_steps)))

pub returns : goal.returns
returns c =
    let e = new_grid_sized language_params c.args.self.fuel c.args.place (maybe_of exp_of c.args.region) c.args.base c.args.tokens.now c.in_ok-qualifiers.ensures in
    rw e (first_of (search rules, grind (arith, common_steps)))
