use Rattle.ti_machine.proofs.Formed.{formed_value}
use Rattle.ti_machine.proofs.frame.state.FrameState.constant.Goals as goal

pub plain-requires : goal.plain-requires
plain-requires c = formed_value c.args.value c.requires.form
