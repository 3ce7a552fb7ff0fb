use Rattle.std.proofs.Common.{◌≡◌, length, sym, subst, arith}
use Rattle.ti_lang.specs.Meaning.RoundsOf.{rounds_making}
use Rattle.ti_store.specs.Mirrors.Parts.{program_in, history_in, KeepsParts}
use Rattle.ti_heap.specs.Things.{contents}
use Rattle.ti_store.proofs.Forgetting.{refs_more}
use Rattle.ti_store.proofs.Deleting.{more_regions}
use Rattle.ti_store.proofs.run_state.RunState.make_region.Goals as goal

pub returns-in_ok-make-clause-kept : goal.returns-in_ok-make-clause-kept
returns-in_ok-make-clause-kept c =
    let l = c.args.self.now in
    let k = c.requires.kept in
    let each = k.region_rounds_are.each c.args.proc in
    let next : length l.regions ≡ rounds_making c.args.proc (history_in l) = grind arith in
    subst (λ rs. KeepsParts (program_in l) l.procs (history_in l) (contents l.heap) l.rounds l.region_rounds rs) (sym c.in_ok-make.ensures.made) (record {
      ours = k.ours;
      rounds = k.rounds;
      region_rounds_are = k.region_rounds_are;
      heap = k.heap;
      regions_are = more_regions (history_in l) l.regions c.args.proc next c.requires.unmade k.regions_are;
      refs = refs_more (contents l.heap).held l.regions k.refs;
    })
