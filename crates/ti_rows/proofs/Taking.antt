-- Which entries the processes of the program with one barrier can take first.
use Rattle.std.proofs.Common.{◌≡◌, List, [], ◌∷◌, None, refl, ap, arith}
use Rattle.std.specs.Int.{int_wrap}
use Rattle.ti_base.specs.declared.action.Action.{Action}
use Rattle.ti_base.specs.declared.action.Action.TheVariants as act
use Rattle.ti_base.specs.declared.action.CollKind.TheVariants as coll
use Rattle.ti_base.specs.declared.action.Deposit.TheVariants as deposit
use Rattle.ti_base.specs.declared.entry.Answer.TheVariants.{Done}
use Rattle.ti_base.specs.declared.entry.Entry.{Entry}
use Rattle.ti_base.specs.declared.entry.Next.TheVariants as next
use Rattle.ti_lang.specs.Typing.BuiltIn.{built_in}
use Rattle.ti_lang.specs.Typing.Declared.{named_field_type, instance_method}
use Rattle.ti_lang.specs.Meaning.Runs.{CanTake, IsRun}
use Rattle.ti_lang.proofs.Lemmas.{decided, solo_run}
use Rattle.ti_rows.specs.Texts.{pl}
use Rattle.ti_rows.specs.Simulation.{solo}
use Rattle.ti_rows.specs.Refuted.Entries as entries
use Rattle.ti_rows.specs.Refuted.Things.{two_at_barrier}
use Rattle.ti_rows.proofs.Reached.{has_next}
use Rattle.ti_rows.proofs.Simulated as simulated

-- process 0 can arrive
pub first_can : CanTake two_at_barrier [] 0 (record { proc = 0; place = pl 1 65; act = act.Arrive coll.Barrier None deposit.Nothing; answer = Done })
unfolding int_wrap built_in named_field_type instance_method
first_can =
    let a = next.Act (pl 1 65) (act.Arrive coll.Barrier None deposit.Nothing) in
    let w = has_next two_at_barrier [] 0 a refl in
    record {
      within = omega arith;
      goes_on = refl;
      unended = refl;
      process = w.process;
      world = w.world;
      next = a;
      is_next = w.next;
      ready = tt;
      entry = refl;
    }

abbrev act_of_first : List Entry → Action
act_of_first [] = act.End
act_of_first (e ∷ es) = e.act

pub no_arrival : act.End ≡ act.Arrive coll.Barrier None deposit.Nothing → ⊥
no_arrival e = cc

-- but not end
pub no_end_first : IsRun two_at_barrier entries.an_end_too_early → ⊥
unfolding int_wrap built_in named_field_type instance_method
no_end_first run =
    no_arrival (ap act_of_first (decided two_at_barrier entries.an_end_too_early (solo two_at_barrier 1) run (solo_run two_at_barrier _ (simulated.solo_run two_at_barrier 1)) refl))
