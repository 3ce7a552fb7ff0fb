use Rattle.std.proofs.Common.{◌≡◌}
use Rattle.ti_lang.specs.Meaning.Runs.{IsSolo}
use Rattle.ti_store.specs.Stores.{config_of}
use Rattle.ti_runtime.specs.Mirrors.Processes.{IsOpen, IsSoloState, turns_left}
use Rattle.ti_runtime.proofs.runner.run_solo.Given as goal

abbrev pub invariant-turns : goal.invariant-turns
invariant-turns g l = record {
  same : config_of l.store ≡ config_of l.initial.store;
  open_still : IsOpen l.code l.store;
  solo : IsSolo (config_of l.initial.store) l.initial.store.entries → IsSolo (config_of l.store) l.store.entries;
  stands : IsSoloState l.code (config_of l.store) l.store.entries l.scheduler.processes.items l.scheduler.cursor;
}

abbrev pub decreases-turns : goal.decreases-turns
decreases-turns g l = turns_left (config_of l.store) l.scheduler.processes.items l.scheduler.cursor
