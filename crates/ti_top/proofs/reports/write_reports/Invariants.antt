use Rattle.std.proofs.Common.{◌≡◌, ◌++◌, map}
use Rattle.std.specs.Vec.Iter.{into_iter_items}
use Rattle.ti_top.specs.Reports.{Watcher}
use Rattle.ti_top.specs.Mirrors.Leaving.{HasNoFailure}
use Rattle.ti_top.specs.Mirrors.Reporting.{WritesReports}
use Rattle.ti_top.specs.declared.reports.ReportEnd.TheVariants.{Written}
use Rattle.ti_top.proofs.reports.write_reports.Given as goal

abbrev pub invariant-watchers : goal.invariant-watchers
invariant-watchers g l =
    let seen : _ → Watcher = λ w. record { kind = (goal.Watch-dyn g (w.vtable, w.value)).kind_of w.value; told = (goal.Watch-dyn g (w.vtable, w.value)).told w.value } in
    record {
      left : map seen l.fn.watchers.items ≡ map seen l.yielded ++ map seen (into_iter_items l.watcher-iterator);
      reported : WritesReports (map seen l.yielded) l.history.items (g.K.Sink.state l.initial.out) (g.K.Sink.state l.out) Written;
      unfailed : HasNoFailure (g.K.Sink.state l.initial.out) (g.K.Sink.state l.out);
    }
