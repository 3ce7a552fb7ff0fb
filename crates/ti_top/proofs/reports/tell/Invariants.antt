use Rattle.std.proofs.Common.{◌≡◌, ◌++◌}
use Rattle.ti_top.proofs.reports.tell.Given as goal

abbrev pub invariant-entries : goal.invariant-entries
invariant-entries g l = record {
  left : l.history.items ≡ l.yielded ++ l.entry-iterator;
  kind : (goal.Watch-dyn g (l.watcher.vtable, l.watcher.value)).kind_of l.watcher.value ≡ (goal.Watch-dyn g (l.initial.watcher.vtable, l.initial.watcher.value)).kind_of l.initial.watcher.value;
  told : (goal.Watch-dyn g (l.watcher.vtable, l.watcher.value)).told l.watcher.value
      ≡ (goal.Watch-dyn g (l.initial.watcher.vtable, l.initial.watcher.value)).told l.initial.watcher.value ++ l.yielded;
}
