use Rattle.std.proofs.Common.{◌≡◌, rules, arith, true, false, Some, None}
use Rattle.std.proofs.lemmas.Grind.{common_steps}
use Rattle.ti_syntax.specs.declared.token.TokenKind.TheVariants as k
use Rattle.ti_syntax.specs.Spelling.Operators.{update_of, step_of}
use Rattle.ti_syntax.specs.Trees.Views.{exp_of}
use Rattle.ti_parse_expr.specs.Mirrors.Input.{kind, next_is}
use Rattle.ti_parse.specs.Mirrors.ParserParams.{language_params}
use Rattle.ti_parse.proofs.Changes.{assign_changes, update_changes, step_changes, nothing_changes}
use Rattle.ti_parse.proofs.parser.TextParser.change_of_target.Goals as goal

pub returns-then-next_is : goal.returns-then-next_is
returns-then-next_is c =
    let l = c.args.tokens.now in
    let h : next_is k.Assign l ≡ true = first_of (cc, search rules) in
    let e = assign_changes language_params c.args.self.fuel (exp_of c.args.target) l h in
    rw e (first_of (search rules, grind (arith, common_steps)))

pub returns-in-Some : goal.returns-in-Some
returns-in-Some c =
    let l = c.args.tokens.now in
    let h : next_is k.Assign l ≡ false = first_of (cc, search rules) in
    let is : update_of (kind l) ≡ Some c.in-Some.operator = first_of (cc, search rules) in
    let e = update_changes language_params c.args.self.fuel (exp_of c.args.target) l h is in
    rw e (first_of (search rules, grind (arith, common_steps)))

pub returns-in_ok-new-in-Some-step_of : goal.returns-in_ok-new-in-Some-step_of
returns-in_ok-new-in-Some-step_of c =
    let l = c.args.tokens.now in
    let h : next_is k.Assign l ≡ false = first_of (cc, search rules) in
    let other : update_of (kind l) ≡ None = first_of (cc, search rules, grind (arith, common_steps)) in
    let is : step_of (kind l) ≡ Some c.in-Some-step_of.op = first_of (cc, search rules) in
    let e = step_changes language_params c.args.self.fuel (exp_of c.args.target) l h other is in
    rw e (first_of (search rules, grind (arith, common_steps)))

pub returns-in-None : goal.returns-in-None
returns-in-None c =
    let l = c.args.tokens.now in
    let h : next_is k.Assign l ≡ false = first_of (cc, search rules) in
    let other : update_of (kind l) ≡ None = first_of (cc, search rules, grind (arith, common_steps)) in
    let none : step_of (kind l) ≡ None = first_of (cc, search rules) in
    let e = nothing_changes language_params c.args.self.fuel (exp_of c.args.target) l h other none in
    rw e (first_of (search rules, grind (arith, common_steps)))
