use Rattle.std.proofs.Common.{inl, inr}
use Rattle.std.proofs.lemmas.List.{map-append}
use Rattle.ti_top.proofs.Leaving.{unfailed_then, reports_leave_then}
use Rattle.ti_top.proofs.ReportsTold.{left_turn, reported_then, reported_end}
use Rattle.ti_top.proofs.reports.write_reports.Goals as goal

pub watchers-preserved : goal.watchers-preserved
watchers-preserved g c = record {
  left = left_turn _ _ _ _ _ _ c.watchers.invariant.left c.in-Some.ensures.steps.0;
  reported = rw map-append (reported_then _ _ _ _ _ _ _ c.watchers.invariant.reported c.in-Written.ensures.reported);
  unfailed = unfailed_then _ _ _ c.watchers.invariant.unfailed (elim c.in-Written.ensures.leaves [ inl cut ↦ absurd (let x = cut.0 in cc) | inr next ↦ next ]);
}

pub returns-in_default-clause-leaves : goal.returns-in_default-clause-leaves
returns-in_default-clause-leaves g c = reports_leave_then _ _ _ _ c.watchers.invariant.unfailed c.write_report.ensures.leaves

pub returns-in_default-clause-reported : goal.returns-in_default-clause-reported
returns-in_default-clause-reported g c =
    reported_end _ _ _ _ _ _ _ _ _ _ _ c.watchers.invariant.left c.in-Some.ensures.steps.0 c.watchers.invariant.reported c.write_report.ensures.reported c.in_default.not-Written
