use Rattle.std.proofs.Common.{false, refl, sym, subst}
use Rattle.ti_exec.specs.Standing.{TreeProcView}
use Rattle.ti_exec.specs.Mirrors.TreeProc.{CorrespondsTo}
use Rattle.ti_exec.proofs.Standings.{begins}
use Rattle.ti_exec.proofs.tree_proc.TreeProc.start.Goals as goal

pub invariant_of-result : goal.invariant_of-result
invariant_of-result c = subst (λ (u : TreeProcView). CorrespondsTo (record u { asks = false }) c.begin.result) (sym c.of.ensures) (begins _ c.begin.result refl c.begin.ensures)
