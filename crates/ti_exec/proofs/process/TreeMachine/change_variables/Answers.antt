use Rattle.std.proofs.Common.{◌∙◌, sym, ap, List, ◌++◌}
use Rattle.ti_lang.specs.Meaning.Processes.{Variable, ContItem}
use Rattle.ti_lang.specs.Meaning.Steps.{To, with_continuation}
use Rattle.ti_moves.specs.Outcomes.{works_of}
use Rattle.ti_exec.specs.States.{process_of, top_of, below_of, context_of_call, innermost_stmt, rest}
use Rattle.ti_exec.proofs.process.TreeMachine.change_variables.Goals as goal

pub returns : goal.returns
returns c = λ p ws.
    let w = c.args.self.now in
    let works : List ContItem = works_of (context_of_call p w.rank.procs w.top) (innermost_stmt p w.top) c.args.left ++ rest p w.rank.procs w.top in
    ap To (sym (c.in_ok-continue_with.ensures p ws ∙ ap (λ (vs : List Variable). with_continuation (process_of p w) (top_of p w ws) (below_of p w) vs works) c.in_ok-vary.ensures))
