use Rattle.std.proofs.Common.{[], take, refl, sym, ◌∙◌, subst}
use Rattle.ti_explain.specs.Expected.{AreExpected, no_text}
use Rattle.ti_explain.proofs.TrialLaws.{text_step}
use Rattle.ti_explain.proofs.expected.try_all.Goals as goal

pub loop-text-init : goal.loop-text-init
loop-text-init c =
    (c.requires.within, refl, subst (AreExpected (take c.args.index c.args.tokens.items) c.args.place []) (sym c.new.ensures.items) no_text)

pub loop-text-preserved : goal.loop-text-preserved
loop-text-preserved c = (
  c.in_ok-trials.ensures.within,
  c.in_ok-trials.ensures.front ∙ c.loop-text.invariant.1,
  text_step (λ text. text.now) c.args.texts.now c.loop-text.text-index _ (take c.args.index c.args.tokens.items) (take c.args.index c.loop-text.trials.tokens.items) c.args.place
      c.loop-text.trials.reasons.items c.in_ok-trials.trials.reasons.items c.loop-text-test.true c.loop-text.invariant.1 c.loop-text.invariant.2 c.in_ok-trials.ensures.tried,
)
