use Rattle.std.proofs.Common.{rules, length, Ok, Err, ap, sym, ◌≡◌, ◌∙◌, subst, ◌+◌, ◌-◌, ◌<◌, ◌≤◌, arith, take, drop, refl}
use Rattle.std.proofs.lemmas.Grind.{common_steps}
use Rattle.ti_syntax.specs.Trees.Views.{exp_of}
use Rattle.ti_syntax.specs.Spelling.{most_weight}
use Rattle.ti_syntax.specs.Spelling.Weights.{weigh}
use Rattle.ti_parse_expr.specs.Answers.{Answers, IsPhrase, IsNoPhrase, IsTooHeavy}
use Rattle.ti_parse_expr.specs.Mirrors.Input.{At, Fails}
use Rattle.ti_parse_expr.specs.Mirrors.Exprs.{phrase}
use Rattle.ti_parse_expr.proofs.Answered.{SaysOk, ok_answer, refused_answer, heavy_answer, never_deep, never_spent, some_cut}
use Rattle.ti_parse_expr.proofs.Weights.{cut_rest, rest_ends}
use Rattle.ti_parse_expr.proofs.parse.read_phrase.Goals as goal
use Rattle.ti_parse_expr.proofs.parse.read_phrase.Goals.{After-remaining-unread}

said_ok : (c : After-remaining-unread) → 0 < c.remaining-unread.result → SaysOk c.args.form c.args.weight (drop c.args.at c.args.toks.now) c.cut-front.result.now (exp_of c.in-Ok.tree) c.phrase.new.tokens
said_ok c some =
    ok_answer c.args.form c.args.weight (drop c.args.at c.args.toks.now) c.cut-front.result.now
    (cut_rest c.args.weight c.args.at c.args.toks.now c.cut-front.result.now c.cut-front.ensures) c.phrase.new.tokens
    (exp_of c.in-Ok.tree)
    (ap (phrase (length c.cut-front.result.now + 1) c.args.form) (sym c.new-tokens.ensures) ∙ c.in-Ok.ensures) (omega (arith, c.remaining-unread.ensures))

pub cut-front-requires : goal.cut-front-requires
cut-front-requires c = rest_ends c.args.at c.args.toks.now c.requires.below c.requires.ended

pub too_heavy-requires : goal.too_heavy-requires
too_heavy-requires c = some_cut c.args.form c.args.weight (drop c.args.at c.args.toks.now) c.cut-front.result.now
    (cut_rest c.args.weight c.args.at c.args.toks.now c.cut-front.result.now c.cut-front.ensures)

pub too_heavy-requires-then-remaining-eq0 : goal.too_heavy-requires-then-remaining-eq0
too_heavy-requires-then-remaining-eq0 c = some_cut c.args.form c.args.weight (drop c.args.at c.args.toks.now) c.cut-front.result.now
    (cut_rest c.args.weight c.args.at c.args.toks.now c.cut-front.result.now c.cut-front.ensures)

pub returns-then-unread-eq0 : goal.returns-then-unread-eq0
returns-then-unread-eq0 c =
    subst (λ e. Answers c.args.toks.now c.args.at c.args.form c.args.weight (Err e)) (sym (c.too_heavy.ensures c.cut-front.ensures.front c.cut-front.ensures.last c.cut-front.ensures.made))
    (heavy_answer c.args.form c.args.weight (drop c.args.at c.args.toks.now) c.cut-front.result.now
    (cut_rest c.args.weight c.args.at c.args.toks.now c.cut-front.result.now c.cut-front.ensures)
    (Ok (exp_of c.in-Ok.tree, c.phrase.new.tokens))
    (ap (phrase (length c.cut-front.result.now + 1) c.args.form) (sym c.new-tokens.ensures) ∙ c.in-Ok.ensures) (omega (arith, c.remaining-unread.ensures)))

pub overflow_sub-size : goal.overflow_sub-size
overflow_sub-size c = let after = (goal.at.overflow_sub-size c).After-remaining-unread in omega (arith, (said_ok after (omega arith)).within, c.remaining-unread.ensures)

-- the weight of the run, and the number of its tokens as the code counts them
run_small : (c : After-remaining-unread) → 0 < c.remaining-unread.result → c.args.weight + weigh (take (length c.cut-front.result.now - c.remaining-unread.result) c.cut-front.result.now) ≤ most_weight
run_small c some = subst (λ n. c.args.weight + weigh (take (length c.cut-front.result.now - n) c.cut-front.result.now) ≤ most_weight) (sym c.remaining-unread.ensures) (said_ok c some).small

pub weigh-requires : goal.weigh-requires
weigh-requires c = let after = (goal.at.weigh-requires c).After-remaining-unread in omega (arith, run_small after (omega arith))

pub overflow_add-used : goal.overflow_add-used
overflow_add-used c =
    let small = run_small (goal.at.overflow_add-used c).After-remaining-unread (omega arith) in
    let few : c.args.weight + c.weigh.result ≤ most_weight = omega (arith, small, c.weigh.ensures) in
    first_of (search rules, grind (arith, common_steps))

pub returns-in-Ok : goal.returns-in-Ok
returns-in-Ok c =
    let after = (goal.at.returns-in-Ok c).After-remaining-unread in (
      length c.cut-front.result.now - c.remaining-unread.result,
      refl,
      subst (λ w. IsPhrase c.args.form c.args.weight (drop c.args.at c.args.toks.now) (exp_of c.in-Ok.tree)
          (length c.cut-front.result.now - c.remaining-unread.result) (c.args.weight + w)) (sym c.weigh.ensures)
          (subst (λ n. IsPhrase c.args.form c.args.weight (drop c.args.at c.args.toks.now) (exp_of c.in-Ok.tree)
          (length c.cut-front.result.now - n) (c.args.weight + weigh
          (take (length c.cut-front.result.now - n) c.cut-front.result.now))) (sym c.remaining-unread.ensures)
          (said_ok after (omega arith)).phrase),
    )

pub returns-then-remaining-eq0 : goal.returns-then-remaining-eq0
returns-then-remaining-eq0 c =
    subst (λ e. Answers c.args.toks.now c.args.at c.args.form c.args.weight (Err e))
    (sym (c.too_heavy-then-remaining-eq0.ensures c.cut-front.ensures.front c.cut-front.ensures.last c.cut-front.ensures.made))
    (heavy_answer c.args.form c.args.weight (drop c.args.at c.args.toks.now) c.cut-front.result.now
    (cut_rest c.args.weight c.args.at c.args.toks.now c.cut-front.result.now c.cut-front.ensures) (Err (At c.phrase.new.tokens))
    (ap (phrase (length c.cut-front.result.now + 1) c.args.form) (sym c.new-tokens.ensures)
    ∙ subst (λ e. Fails (phrase (length c.cut-front.result.now + 1) c.args.form c.new-tokens.result) e c.phrase.new.tokens)
    c.in-Err-Refused.field-0-is c.in-Err-Refused.ensures) (omega (arith, c.remaining.ensures)))

pub returns-in-Err-Refused : goal.returns-in-Err-Refused
returns-in-Err-Refused c =
    subst (λ e. Answers c.args.toks.now c.args.at c.args.form c.args.weight (Err e)) (sym c.parse_error.ensures)
    (subst (λ p. IsNoPhrase c.args.form c.args.weight (drop c.args.at c.args.toks.now) p) (sym c.place.ensures)
    (refused_answer c.args.form c.args.weight (drop c.args.at c.args.toks.now) c.cut-front.result.now
    (cut_rest c.args.weight c.args.at c.args.toks.now c.cut-front.result.now c.cut-front.ensures) c.phrase.new.tokens
    (ap (phrase (length c.cut-front.result.now + 1) c.args.form) (sym c.new-tokens.ensures)
    ∙ subst (λ e. Fails (phrase (length c.cut-front.result.now + 1) c.args.form c.new-tokens.result) e c.phrase.new.tokens)
    c.in-Err-Refused.field-0-is c.in-Err-Refused.ensures) (omega (arith, c.remaining.ensures))))

pub unreachable-requires : goal.unreachable-requires
unreachable-requires c =
    never_deep c.args.form c.args.weight (drop c.args.at c.args.toks.now) c.cut-front.result.now
    (cut_rest c.args.weight c.args.at c.args.toks.now c.cut-front.result.now c.cut-front.ensures) c.phrase.new.tokens
    (ap (phrase (length c.cut-front.result.now + 1) c.args.form) (sym c.new-tokens.ensures)
    ∙ subst (λ e. Fails (phrase (length c.cut-front.result.now + 1) c.args.form c.new-tokens.result) e c.phrase.new.tokens) c.in-Err-TooDeep.field-0-is c.in-Err-TooDeep.ensures)

pub unreachable-requires-in-Err-OutOfFuel : goal.unreachable-requires-in-Err-OutOfFuel
unreachable-requires-in-Err-OutOfFuel c =
    never_spent c.args.form c.args.weight (drop c.args.at c.args.toks.now) c.cut-front.result.now (cut_rest c.args.weight c.args.at c.args.toks.now c.cut-front.result.now c.cut-front.ensures)
    (ap (phrase (length c.cut-front.result.now + 1) c.args.form) (sym c.new-tokens.ensures)
    ∙ subst (λ e. Fails (phrase (length c.cut-front.result.now + 1) c.args.form c.new-tokens.result) e c.phrase.new.tokens) c.in-Err-OutOfFuel.field-0-is c.in-Err-OutOfFuel.ensures)
