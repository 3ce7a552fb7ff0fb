use mir.Syntax.{named}
use denote.Exit.{yes}
use denote.Param.{param}
use denote.Param.Send.{arg_send, param_send, sendable}
use Rattle.ti_store.specs.contracts.store.StoreKept.TheImpl as kept
use Rattle.ti_runtime.proofs.Crossing.{job_send, tasks_send}
use Rattle.ti_runtime.proofs.threads.spawn.start.Goals as goal

pub spawn_with-requires-send-F : goal.spawn_with-requires-send-F
spawn_with-requires-send-F g c κs within =
    param_send 2 _ (arg_send _ yes _
    (job_send (param 1 g.row.J) g.J.RunConfigOf g.J.CodeOf (kept.ghosts (param 1 g.row.J) g.J.RunConfigOf kept.no_dict) g.row.R g.row.G (named 6) (named 7) (named 8) (named 9) (named 10)
    κs.1.1.1.1.1.1.0 κs.1.1.1.1.1.1.1.0 κs.1.1.1.1.1.1.1.1.0 κs.1.1.1.1.1.1.1.1.1.0 κs.1.1.1.1.1.1.1.1.1.1.0 _ c.type_bounds.sync-R c.type_bounds.sync-G))

pub spawn_with-requires-send-T : goal.spawn_with-requires-send-T
spawn_with-requires-send-T g c κs within = search (sendable, tasks_send) depth 6
