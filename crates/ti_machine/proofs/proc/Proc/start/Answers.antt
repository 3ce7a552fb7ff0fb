use Rattle.std.proofs.Common.{sym, subst, refl, false, []}
use Rattle.ti_code.specs.Follows.{all}
use Rattle.ti_machine.specs.Mirrors.Machines.{machine_of}
use Rattle.ti_machine.specs.Mirrors.Proc.{HasReached}
use Rattle.ti_machine.specs.ProcView.{ProcView, HasFinished}
use Rattle.ti_machine.proofs.Paths.{begun}
use Rattle.ti_machine.proofs.proc.Proc.start.Goals as goal

pub invariant_of-result : goal.invariant_of-result
invariant_of-result c =
    let s : ProcView = record { code = c.args.code.now; procs = c.args.procs; fuel = c.args.fuel; number = c.args.process; answers = []; asks = false } in
    let m = c.begin.result in
    record {
      finished = subst (λ (u : ProcView). HasFinished (record u { asks = false }) 0) (sym c.of.ensures) (0, all, refl);
      agrees = subst (λ (u : ProcView). HasReached (record u { asks = false }) 0 (machine_of u.code m)) (sym c.of.ensures) (subst (HasReached s 0) (sym c.begin.ensures) (begun s refl));
    }
