use Rattle.std.proofs.Common.{refl}
use Rattle.ti_base.specs.declared.action.Action.TheVariants as act
use Rattle.ti_base.specs.declared.entry.Answer.TheVariants.{Done}
use Rattle.ti_store.proofs.Replies.{read_does}
use Rattle.ti_store.proofs.run_state.RunState.print.Goals as goal

pub returns : goal.returns
returns c = read_does c.args.self.now c.args.proc c.args.place (act.Print c.args.literal c.args.value) Done c.requires refl refl refl refl refl
