use Rattle.std.proofs.Common.{rules, ◌≡◌, ℕ, ◌+◌, ◌-◌, ◌<◌, List, length, drop, Result, true, false, sym, ap, ◌∙◌, subst, arith}
use Rattle.std.proofs.lemmas.Grind.{common_steps}
use Rattle.ti_syntax.specs.declared.token.Token.{Token}
use Rattle.ti_syntax.specs.Spelling.{most_weight}
use Rattle.ti_syntax.specs.Spelling.Weights.{weigh}
use Rattle.ti_parse_expr.specs.declared.parse_stop.ParseStop.{ParseStop}
use Rattle.ti_parse_expr.specs.contracts.full.with_weight_limit.F-FnOnce.{words}
use Rattle.ti_parse_expr.specs.Mirrors.Full.{front_of, exceeds_weight}
use Rattle.ti_parse_expr.specs.Mirrors.ByFront.{is_final, ByFront, Widens, final, passes, moves}
use Rattle.ti_parse_expr.proofs.full.with_weight_limit.Given.{Over}
use Rattle.ti_parse_expr.proofs.full.with_weight_limit.Goals as goal
use Rattle.ti_parse_expr.proofs.full.with_weight_limit.Goals.{After-read-answer}

module _ (g : Over) (c : After-read-answer g) where
  by_front : (result : Result g.row.T.Denot ParseStop) (new : List Token) → Widens c.args.weight c.args.tokens.now c.new-inner.result c.read-answer.result c.read-answer.new.arg2 result new
      → ByFront {T = g.row.T.Denot} c.args.weight ((words g.row.T g.row.F g.F.FnOnce).post c.args.read) c.args.tokens.now result new
  by_front result new widens = record {
    before = _;
    fuel = _;
    answer = _;
    after = _;
    answers = c.read-answer.ensures;
    is_front = c.new-inner.ensures ∙ c.front_of-front.ensures.front ∙ ap (front_of c.args.weight) c.as_slice.ensures;
    enough = omega (arith, ap length c.new-inner.ensures);
    widens = widens;
  }

pub returns-then-is_final : goal.returns-then-is_final
returns-then-is_final g c = by_front g (goal.at.returns-then-is_final g c).After-read-answer _ _ (final (first_of (search rules, grind (arith, common_steps))))

pub returns-then-exceeds_weight : goal.returns-then-exceeds_weight
returns-then-exceeds_weight g c =
    let heavy : exceeds_weight c.args.weight c.new-inner.result (length c.read-answer.new.arg2) ≡ true =
    ap (λ z. exceeds_weight c.args.weight z (length c.read-answer.new.arg2)) c.new-inner.ensures
    ∙ ap (exceeds_weight c.args.weight c.front_of-front.result.now) (sym c.remaining.ensures) ∙ sym c.exceeds_weight.ensures ∙ c.if-exceeds_weight.true in
    let shorter = c.skip.ensures ∙ ap (λ m. drop (m - 1) c.args.tokens.now) (ap length (sym c.new-inner.ensures)) in
    by_front g (goal.at.returns-then-exceeds_weight g c).After-read-answer _ _ (passes (first_of (search rules, grind (arith, common_steps))) heavy shorter)

pub returns : goal.returns
returns g c =
    let light : exceeds_weight c.args.weight c.new-inner.result (length c.read-answer.new.arg2) ≡ false =
    ap (λ z. exceeds_weight c.args.weight z (length c.read-answer.new.arg2)) c.new-inner.ensures
    ∙ ap (exceeds_weight c.args.weight c.front_of-front.result.now) (sym c.remaining.ensures) ∙ sym c.exceeds_weight.ensures ∙ c.if-exceeds_weight.false in
    let few : c.saturating_sub.result ≡ length c.new-inner.result - length c.read-answer.new.arg2 = omega (arith, c.saturating_sub.ensures, c.remaining-2.ensures, ap length c.new-inner.ensures) in
    by_front g (goal.at.returns g c).After-read-answer _ _ (moves (first_of (search rules, grind (arith, common_steps))) light (c.skip-2.ensures ∙ ap (λ m. drop m c.args.tokens.now) few))
