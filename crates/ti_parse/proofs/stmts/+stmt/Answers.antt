use Rattle.std.proofs.Common.{rules, arith, ◌≡◌, ◌∙◌, ◌-◌, ◌<◌, ℕ, zero, suc, true, false, List, refl}
use Rattle.std.proofs.lemmas.Grind.{common_steps}
use Rattle.ti_syntax.specs.declared.token.Token.{Token}
use Rattle.ti_parse_expr.specs.Mirrors.Input.{kind, after_next, place}
use Rattle.ti_parse_expr.proofs.Lemmas.{deeper}
use Rattle.ti_parse.specs.Mirrors.ParserParams.{language_params}
use Rattle.ti_parse.specs.Mirrors.Statements.{is_compound, compound, simple_stmt, stmt}
use Rattle.ti_parse.proofs.stmts.+stmt.Goals as goal

small_at : (fuel levels : ℕ) (l : List Token) → is_compound (kind l) ≡ false → stmt language_params fuel levels l ≡ simple_stmt language_params fuel l
unfolding stmt
small_at fuel zero l not = rw not refl
small_at fuel (suc n) l not = rw not refl

compound_at : (fuel levels : ℕ) (l : List Token) → 0 < levels → is_compound (kind l) ≡ true
    → stmt language_params fuel levels l ≡ compound language_params fuel (stmt language_params fuel (levels - 1)) (place l) (kind l) (after_next l)
unfolding stmt
compound_at fuel levels l some is = deeper (λ n. stmt language_params fuel n l) levels some ∙ rw is refl

pub returns-then-not-is_compound : goal.returns-then-not-is_compound
returns-then-not-is_compound t c =
    let e = small_at c.args.parser.fuel c.args.levels c.args.tokens.now (search rules) in
    rw e c.simple_stmt.ensures

pub returns : goal.returns
returns t c =
    let e = compound_at c.args.parser.fuel c.args.levels c.args.tokens.now (omega arith) (search rules) in
    rw e (first_of (search rules, grind (arith, common_steps)))
