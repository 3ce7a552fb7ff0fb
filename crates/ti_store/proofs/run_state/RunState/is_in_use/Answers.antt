use Rattle.std.proofs.Common.{sym, ◌∙◌, arith}
use Rattle.ti_heap.specs.Things.{contents}
use Rattle.ti_lang.specs.Meaning.RoundsOf.{round_of}
use Rattle.ti_store.specs.Mirrors.Parts.{program_in, history_in}
use Rattle.ti_store.proofs.Using.{in_use_counted, in_use_uncounted}
use Rattle.ti_store.proofs.run_state.RunState.is_in_use.Goals as goal

pub returns-then-outside_refs-gt0-clause-value : goal.returns-then-outside_refs-gt0-clause-value
returns-then-outside_refs-gt0-clause-value c =
    let l = c.args.self.now in
    sym (in_use_counted (program_in l) l.procs (history_in l) (contents l.heap) c.requires.kept.heap l.regions c.requires.kept.refs
    c.args.region c.requires.made (round_of c.args.proc (history_in l)) (omega (arith, c.outside_refs.ensures)))

pub returns-clause-value : goal.returns-clause-value
returns-clause-value c =
    let l = c.args.self.now in
    c.is_counted.ensures
    ∙ sym (in_use_uncounted (program_in l) l.procs (history_in l) (contents l.heap) c.requires.kept.heap l.regions c.requires.kept.refs
    c.args.region c.requires.made (round_of c.args.proc (history_in l)) (omega (arith, c.outside_refs.ensures)))
