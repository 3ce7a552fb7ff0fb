use Rattle.std.proofs.Common.{rules, arith}
use Rattle.std.proofs.lemmas.Grind.{common_steps}
use Rattle.ti_parse.specs.Mirrors.ParserParams.{language_params}
use Rattle.ti_parse.specs.Mirrors.Statements.{stmt}
use Rattle.ti_parse.proofs.InParts.{for_headed}
use Rattle.ti_parse.proofs.stmts.Statements.for_loop.Goals as goal

pub returns-in_err-head : goal.returns-in_err-head
returns-in_err-head g c =
    let r = c.args.self.now.parser.fuel in
    let e = for_headed language_params r (stmt language_params r c.args.self.now.levels) c.args.place c.args.tokens.now in
    rw e (first_of (search rules, grind (arith, common_steps)))

pub returns-in_err-body : goal.returns-in_err-body
returns-in_err-body g c =
    let r = c.args.self.now.parser.fuel in
    let e = for_headed language_params r (stmt language_params r c.args.self.now.levels) c.args.place c.args.tokens.now in
    rw e (first_of (search rules, grind (arith, common_steps)))

pub returns : goal.returns
returns g c =
    let r = c.args.self.now.parser.fuel in
    let e = for_headed language_params r (stmt language_params r c.args.self.now.levels) c.args.place c.args.tokens.now in
    rw e (first_of (search rules, grind (arith, common_steps)))
