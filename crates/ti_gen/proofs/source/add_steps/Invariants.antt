use Rattle.std.proofs.Common.{◌≡◌, ◌*◌, ◌++◌}
use Rattle.ti_gen.specs.Source.{number_at, steps_text}
use Rattle.ti_gen.proofs.source.add_steps.Given as goal

abbrev pub invariant-loop-step : goal.invariant-loop-step
invariant-loop-step l = record {
  number : l.x ≡ number_at l.seed (2 * l.step);
  text : l.text.items ≡ l.initial.text.items ++ steps_text l.seed l.step;
}
