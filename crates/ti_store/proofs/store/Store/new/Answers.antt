use Rattle.std.proofs.Common.{sym, ap, subst}
use Rattle.ti_heap.specs.Things.{contents}
use Rattle.ti_lang.specs.Program.Views.{program_of}
use Rattle.ti_lang.specs.Meaning.Histories.{history_of, has_fault}
use Rattle.ti_lang.specs.Meaning.Processes.{RunConfig}
use Rattle.ti_lang.specs.Meaning.Runs.{IsRun, none}
use Rattle.ti_store.specs.Mirrors.Parts.{KeepsParts}
use Rattle.ti_store.specs.Mirrors.Store.{KeepsLaws}
use Rattle.ti_store.proofs.Beginning.{new_parts, terms_begin}
use Rattle.ti_store.proofs.store.Store.new.Goals as goal

pub invariant_of-result : goal.invariant_of-result
invariant_of-result g c =
    let program = program_of c.in_ok-program.program.parts in
    let s : RunConfig = record { program = program; procs = c.args.procs; fuel = c.args.fuel } in
    let empty = c.new-4.ensures in
    record {
      run_state = record {
        within = c.requires.within;
        laws = subst KeepsLaws (sym c.in_ok-program.ensures) (record {
          possible = c.none_impossible.ensures;
          balance = c.rounds_balance.ensures;
          agree = c.arrivals_agree.ensures;
          typed = c.run_typed.ensures;
          formed = c.actions_formed.ensures;
          fields = c.fields_fit.ensures;
          storable = c.fields_storable.ensures;
          dangles = c.nothing_dangles.ensures;
        });
        run = subst (IsRun s) (sym empty) none;
        faulted_is = sym (ap has_fault empty);
        kept = subst (λ es. KeepsParts program c.args.procs (history_of es) (contents c.in_ok-heap.heap) c.in_ok-rounds.rounds c.in_ok-region_rounds.region_rounds c.new-regions.result) (sym empty)
            (new_parts program c.args.procs (contents c.in_ok-heap.heap) c.in_ok-rounds.rounds c.in_ok-region_rounds.region_rounds c.new-regions.result
            c.in_ok-heap.ensures c.in_ok-rounds.ensures c.in_ok-region_rounds.ensures c.new-regions.ensures);
      };
      terms_are = terms_begin program _ c.args.procs c.args.fuel _ c.in_ok-program.ensures c.requires.terms;
    }
