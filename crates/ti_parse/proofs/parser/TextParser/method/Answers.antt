use Rattle.std.proofs.Common.{rules, arith}
use Rattle.std.proofs.lemmas.Grind.{common_steps}
use Rattle.ti_syntax.specs.Trees.Views.{result_of}
use Rattle.ti_parse.specs.Mirrors.ParserParams.{language_params}
use Rattle.ti_parse.proofs.InParts.{method_signed, method_braced}
use Rattle.ti_parse.proofs.parser.TextParser.method.Goals as goal

pub returns-in_err-params : goal.returns-in_err-params
returns-in_err-params c =
    let e = method_signed language_params c.args.self.fuel c.args.modifiers.items (result_of c.args.result_type) c.args.place c.args.name c.args.tokens.now in
    rw e (first_of (search rules, grind (arith, common_steps)))

pub returns-in_err-braced : goal.returns-in_err-braced
returns-in_err-braced c =
    let e = method_braced language_params c.args.self.fuel c.args.modifiers.items (result_of c.args.result_type) c.args.place c.args.name c.args.tokens.now c.in_ok-params.ensures in
    rw e (first_of (search rules, grind (arith, common_steps)))

pub returns : goal.returns
returns c =
    let e = method_braced language_params c.args.self.fuel c.args.modifiers.items (result_of c.args.result_type) c.args.place c.args.name c.args.tokens.now c.in_ok-params.ensures in
    rw e (first_of (search rules, grind (arith, common_steps)))
