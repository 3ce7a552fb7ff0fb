use Rattle.std.proofs.Common.{◌≡◌, ℕ, zero, suc, ◌≤◌, ◌<◌, ℤ, pos, nat_abs, true, false, List, [], ◌∷◌, None, refl, ap, arith}
use Rattle.std.specs.Int.{int_wrap}
use Rattle.ti_base.specs.declared.action.Action.TheVariants as act
use Rattle.ti_base.specs.declared.action.CollKind.TheVariants as coll
use Rattle.ti_base.specs.declared.action.Deposit.TheVariants as deposit
use Rattle.ti_base.specs.declared.entry.Answer.TheVariants.{Done}
use Rattle.ti_base.specs.declared.entry.Entry.{Entry}
use Rattle.ti_base.specs.declared.entry.Next.TheVariants as next
use Rattle.ti_lang.specs.Typing.BuiltIn.{built_in}
use Rattle.ti_lang.specs.Typing.Declared.{named_field_type, instance_method}
use Rattle.ti_lang.specs.Meaning.Held.{whole_of}
use Rattle.ti_lang.specs.Meaning.Processes.{RunConfig, Variable}
use Rattle.ti_lang.specs.Meaning.Runs.{CanTake}
use Rattle.ti_align.specs.SinglePart.{SingleFrame}
use Rattle.ti_align.specs.declared.slices.SliceStep.TheVariants as answer
use Rattle.ti_align.specs.Alignment.{SingleArrival, ArrivalsAgree, NoneAfterEnd, NoneStuck, IsAlignedRun}
use Rattle.ti_align.specs.Slice.{SliceTells}
use Rattle.ti_rows.specs.Texts.{pl}
use Rattle.ti_rows.specs.Failing.{by_two}
use Rattle.ti_rows.specs.Simulation.{solo}
use Rattle.ti_rows.specs.Rows.Collectives as collectives
use Rattle.ti_rows.specs.Refused.Singles as singles
use Rattle.ti_rows.specs.Refuted.Programs as programs
use Rattle.ti_rows.specs.Refuted.Entries as entries
use Rattle.ti_align.proofs.Lemmas.{one_answer}
use Rattle.ti_rows.proofs.Reached.{has_next, arrives, fails, can_take_next}
use Rattle.ti_rows.proofs.SliceSimulated.{comes}
use Rattle.ti_rows.proofs.refutations.alignment.Goals as goal

-- where one process waits at a barrier, and the other has its end
abbrev waiting : RunConfig
waiting = by_two 1000 singles.a_barrier_under_the_own_number

pub returns-clause-aligned : goal.returns-clause-aligned
unfolding int_wrap built_in named_field_type instance_method
returns-clause-aligned c = fails IsAlignedRun singles.a_barrier_under_the_own_number 2 (λ f.
    let k : 1 ≤ 0 = f.none_after_end 1 0 (omega arith) (omega arith) refl in
    omega (arith, k))

pub returns-clause-arrivals_at_two_places : goal.returns-clause-arrivals_at_two_places
unfolding int_wrap built_in named_field_type instance_method
returns-clause-arrivals_at_two_places c = fails ArrivalsAgree programs.barriers_at_two_places 2 (λ f.
    let s : RunConfig = by_two 1000 programs.barriers_at_two_places in
    let first = arrives s (solo s 2) [] _ 0 0 _ (pl 1 89) coll.Barrier None deposit.Nothing Done refl refl refl refl in
    let second = arrives s (solo s 2) (solo s 1) _ 1 0 _ (pl 1 108) coll.Barrier None deposit.Nothing Done refl refl refl refl in
    let k : 89 ≡ 108 = ap (λ (a : SingleArrival). a.place.col) (f 0 1 0 _ _ first second) in
    omega (arith, k))

-- what the newest single variable of the innermost call holds
abbrev number_in : List Variable → ℤ
number_in [] = pos 0
number_in (x ∷ xs) = whole_of x.held

abbrev newest_number : List SingleFrame → ℤ
newest_number [] = pos 0
newest_number (f ∷ fs) = number_in f.variables

pub returns-clause-arrivals_with_two_numbers : goal.returns-clause-arrivals_with_two_numbers
unfolding int_wrap built_in named_field_type instance_method
returns-clause-arrivals_with_two_numbers c = fails ArrivalsAgree programs.a_barrier_behind_own_numbers 2 (λ f.
    let s : RunConfig = by_two 1000 programs.a_barrier_behind_own_numbers in
    let first = arrives s (solo s 2) [] _ 0 0 _ (pl 1 95) coll.Barrier None deposit.Nothing Done refl refl refl refl in
    let second = arrives s (solo s 2) (solo s 1) _ 1 0 _ (pl 1 95) coll.Barrier None deposit.Nothing Done refl refl refl refl in
    let k : 0 ≡ 1 = ap (λ (a : SingleArrival). nat_abs (newest_number a.single)) (f 0 1 0 _ _ first second) in
    omega (arith, k))

pub returns-clause-an_arrival_after_an_end : goal.returns-clause-an_arrival_after_an_end
unfolding int_wrap built_in named_field_type instance_method
returns-clause-an_arrival_after_an_end c = fails NoneAfterEnd singles.a_barrier_under_the_own_number 2 (λ f.
    let k : 1 ≤ 0 = f 1 0 (omega arith) (omega arith) refl in
    omega (arith, k))

false_true : false ≡ true → ⊥
false_true e = cc

none_can : (i : ℕ) (e : Entry) → CanTake waiting (solo waiting 2) i e → ⊥
unfolding int_wrap built_in named_field_type instance_method
none_can zero e c =
    let k : 0 < 0 = can_take_next waiting (solo waiting 2) 0 (next.Act (pl 1 91) act.Depart) e (has_next waiting (solo waiting 2) 0 _ refl) c 1 (omega arith) in
    omega (arith, k)
none_can (suc zero) e c =
    let k : true ≡ false = c.unended in
    cc
none_can (suc (suc n)) e c =
    let k : suc (suc n) < 2 = c.within in
    omega (arith, k)

pub returns-clause-a_process_that_waits_forever : goal.returns-clause-a_process_that_waits_forever
unfolding int_wrap built_in named_field_type instance_method
returns-clause-a_process_that_waits_forever c =
    fails NoneStuck singles.a_barrier_under_the_own_number 2 (λ f. false_true (f refl none_can 0 (omega arith)))

pub returns-clause-a_departure_without_an_arrival : goal.returns-clause-a_departure_without_an_arrival
unfolding int_wrap built_in named_field_type instance_method
returns-clause-a_departure_without_an_arrival c = λ f.
    let w = has_next (by_two 1000 programs.one_barrier) entries.no_arrival 0 (next.Act (pl 1 65) act.Depart) refl in
    let k : 0 ≡ 1 = f 0 w.process (pl 1 65) act.Depart w.world w.next in
    omega (arith, k)

not_ended : answer.At coll.Barrier (pl 1 91) None ≡ answer.Ended → ⊥
not_ended e = cc

pub returns-clause-an_end_before_the_slices : goal.returns-clause-an_end_before_the_slices
unfolding int_wrap built_in named_field_type instance_method
returns-clause-an_end_before_the_slices c =
    fails SliceTells singles.a_barrier_under_the_own_number 2 (λ f. not_ended (f.ends 1 _ (comes waiting [] (answer.At coll.Barrier (pl 1 91) None) refl) refl))

not_yet_ended : answer.At coll.Barrier (pl 1 89) None ≡ answer.Ended → ⊥
not_yet_ended e = cc

pub returns-clause-an_end_of_the_slice : goal.returns-clause-an_end_of_the_slice
unfolding int_wrap built_in named_field_type instance_method
returns-clause-an_end_of_the_slice c = λ w.
    not_yet_ended (one_answer collectives.barriers [] _ _ (comes collectives.barriers [] (answer.At coll.Barrier (pl 1 89) None) refl) w)
