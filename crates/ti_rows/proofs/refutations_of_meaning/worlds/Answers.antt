use Rattle.std.proofs.Common.{◌≤◌, [], ◌∷◌, refl, ap, arith}
use Rattle.ti_base.specs.declared.entry.Answer.TheVariants.{Done}
use Rattle.ti_base.specs.declared.entry.Entry.{Entry}
use Rattle.ti_lang.specs.Meaning.NextStep.{none}
use Rattle.ti_lang.proofs.Lemmas.{after_pays, entry_same}
use Rattle.ti_rows.specs.Refuted.Entries as entries
use Rattle.ti_rows.specs.Refuted.Things.{two_at_barrier, fresh}
use Rattle.ti_rows.proofs.Taking.{first_can, no_arrival, no_end_first}
use Rattle.ti_rows.proofs.refutations_of_meaning.worlds.Goals as goal

pub returns-clause-before_all : goal.returns-clause-before_all
returns-clause-before_all c = none

pub returns-clause-as_before : goal.returns-clause-as_before
returns-clause-as_before c = λ w.
    let k : 1 ≤ 0 = after_pays (fresh 0) (fresh 0) (Done ∷ []) w in
    omega (arith, k)

pub returns-clause-the_arrival : goal.returns-clause-the_arrival
returns-clause-the_arrival c = first_can

pub returns-clause-the_end : goal.returns-clause-the_end
returns-clause-the_end c = λ can. no_arrival (ap (λ (e : Entry). e.act) (entry_same two_at_barrier [] 0 _ _ can first_can))

pub returns-clause-an_end_in_front : goal.returns-clause-an_end_in_front
returns-clause-an_end_in_front c = λ f. no_end_first (f entries.an_end_too_early entries.an_arrival refl)
