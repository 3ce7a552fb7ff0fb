use Rattle.std.proofs.Common.{◌≡◌, ℕ, zero, suc, ◌<◌, pos, nat_abs, true, List, [], ◌∷◌, ◌++◌, Some, refl, ap, arith}
use Rattle.std.specs.Int.{int_wrap}
use Rattle.ti_base.specs.declared.action.Action.TheVariants as act
use Rattle.ti_base.specs.declared.entry.Answer.{Answer}
use Rattle.ti_base.specs.declared.entry.Answer.TheVariants.{Val}
use Rattle.ti_base.specs.declared.entry.Entry.{Entry}
use Rattle.ti_base.specs.declared.entry.Next.{Next}
use Rattle.ti_base.specs.declared.entry.Next.TheVariants as next
use Rattle.ti_base.specs.declared.value.Value.TheVariants as v
use Rattle.ti_lang.specs.Typing.BuiltIn.{built_in}
use Rattle.ti_lang.specs.Typing.Declared.{named_field_type, instance_method}
use Rattle.ti_lang.specs.Meaning.Processes.{RunConfig}
use Rattle.ti_lang.specs.Meaning.Histories.{departures, arrivals, has_end}
use Rattle.ti_lang.specs.Meaning.Runs.{CanTake, IsReady, IsRun}
use Rattle.ti_lang.specs.Meaning.Runs as r
use Rattle.ti_lang.proofs.Lemmas.{solo_run}
use Rattle.ti_rows.specs.Texts.{pl}
use Rattle.ti_rows.specs.Histories.{entry, thing}
use Rattle.ti_rows.specs.Failing.{by_two}
use Rattle.ti_rows.specs.Simulation.{solo}
use Rattle.ti_rows.specs.Refuted.Programs as programs
use Rattle.ti_rows.specs.Refuted.Entries as entries
use Rattle.ti_rows.proofs.Following.{all_follow}
use Rattle.ti_rows.proofs.Reached.{has_next}
use Rattle.ti_rows.proofs.Simulated as simulated
use Rattle.ti_rows.proofs.refutations_of_races.in_every_run.Goals as goal

pub returns-clause-all_have_ended : goal.returns-clause-all_have_ended
unfolding int_wrap built_in named_field_type instance_method
returns-clause-all_have_ended c zero h = refl
returns-clause-all_have_ended c (suc zero) h = refl
returns-clause-all_have_ended c (suc (suc n)) h = absurd (omega arith)

pub returns-clause-one_race : goal.returns-clause-one_race
unfolding int_wrap built_in named_field_type instance_method
returns-clause-one_race c = refl

-- ---- the other run

-- the setting of both
abbrev shared : RunConfig
shared = by_two 1000 programs.a_field_is_shared

-- both have arrived
abbrev both_there : List Entry
both_there = solo shared 4

-- process 1 goes on first: it leaves with the object of process 0, and reads its field
abbrev leaves : Entry
leaves = entry 1 (pl 1 102) act.Depart (Val (v.Obj (Some (thing 0 0 0))))

abbrev reads : Entry
reads = entry 1 (pl 1 165) (act.GetField (thing 0 0 0) 0) (Val (v.Int (pos 0)))

all_there : (j : ℕ) → j < 2 → departures 1 both_there < arrivals j both_there
unfolding int_wrap built_in named_field_type instance_method
all_there zero h = omega arith
all_there (suc zero) h = omega arith
all_there (suc (suc n)) h = absurd (omega arith)

can_leave : CanTake shared both_there 1 leaves
unfolding int_wrap built_in named_field_type instance_method
can_leave =
    let n : Next = next.Act (pl 1 102) act.Depart in
    let w = has_next shared both_there 1 n refl in
    record { within = omega arith; goes_on = refl; unended = refl; process = w.process; world = w.world; next = n; is_next = w.next; ready = all_there; entry = refl }

can_read : CanTake shared (both_there ++ leaves ∷ []) 1 reads
unfolding int_wrap built_in named_field_type instance_method
can_read =
    let n : Next = next.Act (pl 1 165) (act.GetField (thing 0 0 0) 0) in
    let w = has_next shared (both_there ++ leaves ∷ []) 1 n refl in
    record { within = omega arith; goes_on = refl; unended = refl; process = w.process; world = w.world; next = n; is_next = w.next; ready = tt; entry = refl }

other : IsRun shared ((both_there ++ leaves ∷ []) ++ reads ∷ [])
other = r.more (r.more (solo_run shared _ (simulated.solo_run shared 4)) can_leave refl) can_read refl

-- the number that an answer gives
abbrev number_in : Answer → ℕ
number_in (Val (v.Int n)) = nat_abs n
number_in _ = 0

-- that of the fourth entry
abbrev fourth_number : List Entry → ℕ
fourth_number (a ∷ b ∷ c ∷ d ∷ es) = number_in d.answer
fourth_number _ = 0

pub returns-clause-another_run_reads_another_number : goal.returns-clause-another_run_reads_another_number
unfolding int_wrap built_in named_field_type instance_method
returns-clause-another_run_reads_another_number c = λ f.
    let front = f ((both_there ++ leaves ∷ []) ++ reads ∷ []) 1 other in
    let k : 1 ≡ 0 = ap fourth_number front.1 in
    omega (arith, k)

-- ---- ends before a print

-- the print of process 0
first_print : IsRun (by_two 1000 programs.a_print) (solo (by_two 1000 programs.a_print) 1)
first_print = solo_run (by_two 1000 programs.a_print) _ (simulated.solo_run (by_two 1000 programs.a_print) 1)

both_ended : (i : ℕ) → i < 2 → has_end i entries.two_ends ≡ true
both_ended zero h = refl
both_ended (suc zero) h = refl
both_ended (suc (suc n)) h = absurd (omega arith)

-- the column of the first entry
abbrev first_column : List Entry → ℕ
first_column [] = 0
first_column (e ∷ es) = e.place.col

pub returns-clause-ends_before_a_print : goal.returns-clause-ends_before_a_print
unfolding int_wrap built_in named_field_type instance_method
returns-clause-ends_before_a_print c = λ f.
    let front = f both_ended refl (solo (by_two 1000 programs.a_print) 1) 0 first_print in
    let k : 74 ≡ 62 = ap first_column front.1 in
    omega (arith, k)

pub returns-clause-a_run_that_is_followed : goal.returns-clause-a_run_that_is_followed
returns-clause-a_run_that_is_followed c = all_follow
