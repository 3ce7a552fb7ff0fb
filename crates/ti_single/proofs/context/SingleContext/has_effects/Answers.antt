use Rattle.std.proofs.Common.{false, ap, ◌∙◌}
use Rattle.ti_lang.specs.Program.Views.{numbered_method_of}
use Rattle.ti_lang.specs.Typing.Effects.{return_acts, has_global_effects}
use Rattle.ti_single.specs.Effects.{effects_of}
use Rattle.ti_single.specs.Contexts.{program_at}
use Rattle.ti_single.proofs.context.SingleContext.has_effects.Goals as goal

pub returns : goal.returns
returns c =
    let own = effects_of c.args.own in
    c.has_global_effects.ensures
    ∙ ap (λ r. has_global_effects r c.or_false.result own) c.args.self.returning
    ∙ ap (λ j. has_global_effects (return_acts (program_at c.args.self) (numbered_method_of c.args.self.method.now)) j own) c.or_false.ensures
