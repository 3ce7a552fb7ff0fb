use Rattle.std.proofs.Common.{sym, refl, ap, subst, ℕ, List, ◌∷◌, reverse}
use Rattle.ti_base.specs.declared.action.Deposit.TheVariants.{Count}
use Rattle.ti_lang.specs.Meaning.Comp.{ToBeDone}
use Rattle.ti_lang.specs.Meaning.Processes.{ContItem, Nowhere}
use Rattle.ti_lang.specs.Meaning.Steps.{arrives, delete_wait}
use Rattle.ti_exec.specs.States.{IsStep, process_of, top_of, below_of, context_of_call, body_of, rest}
use Rattle.ti_exec.proofs.Works.{left_inside, of_result}
use Rattle.ti_exec.proofs.process.TreeMachine.deletes.Goals as goal

pub returns : goal.returns
returns c = of_result c.arrives.result _ _ (λ t arrived p ws.
    let w = c.args.self.now in
    let left = sym (left_inside (context_of_call p w.rank.procs w.top) (body_of p w.top) (reverse w.top.levels.items)) in
    let at_count = arrived p _ ToBeDone Nowhere (ap (λ (xs : List ContItem). top_of p w xs ∷ below_of p w) left) refl in
    subst (λ (n : ℕ). IsStep p (process_of p w) (arrives (process_of p w) (top_of p w (rest p w.rank.procs w.top) ∷ below_of p w)
    (delete_wait c.args.place c.args.region) (Count n)) t w) (c.count_in_region.ensures p ws) at_count) c.arrives.ensures
