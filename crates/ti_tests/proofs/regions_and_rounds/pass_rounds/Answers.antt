use Rattle.std.proofs.Common.{zero, suc, ◌+◌, ◌-◌, ◌^◌, ◌<◌, List, length, map, replicate, Some, None, pos, sym, subst, refl, lit<, lit≤, arith}
use Rattle.ti_base.specs.declared.action.CollKind.TheVariants.{Broadcast, Exchange}
use Rattle.ti_base.specs.declared.action.Deposit.TheVariants.{Nothing, One}
use Rattle.ti_base.specs.declared.value.Value.TheVariants.{Int}
use Rattle.ti_rounds.specs.declared.arrival.Arrival.{Arrival}
use Rattle.ti_rounds.specs.Seats.{round_at, left_by, HasLeft, Waits, IsReached, collective_of}
use Rattle.ti_rounds.specs.Courses.{Course, no_course, seat_of, AllSay, with_arrival, with_departure}
use Rattle.ti_tests.proofs.regions_and_rounds.pass_rounds.Goals as goal

-- ---- the courses after each call

abbrev none : List Course
none = replicate 2 no_course

abbrev of_0 : Arrival
of_0 = record { kind = Broadcast; place = record { line = 2; col = 7 }; arg = Some 1; deposit = Nothing }

abbrev of_1 : Arrival
of_1 = record { kind = Broadcast; place = record { line = 2; col = 7 }; arg = Some 1; deposit = One (Int (pos 7)) }

abbrev ahead : Arrival
ahead = record { kind = Exchange; place = record { line = 3; col = 1 }; arg = None; deposit = One (Int (pos 9)) }

abbrev one_arrived : List Course
one_arrived = with_arrival none 0 of_0

abbrev both_arrived : List Course
both_arrived = with_arrival one_arrived 1 of_1

abbrev one_left : List Course
one_left = with_departure both_arrived 1

abbrev one_ahead : List Course
one_ahead = with_arrival one_left 1 ahead

abbrev both_left : List Course
both_left = with_departure one_ahead 0

-- ---- what all said

none_said : AllSay none 1 (collective_of of_0)
none_said zero = tt
none_said (suc zero) = tt
none_said (suc (suc q)) = tt

one_said : AllSay one_arrived 1 (collective_of of_1)
one_said zero = refl
one_said (suc zero) = tt
one_said (suc (suc q)) = tt

nobody_ahead : AllSay one_left 2 (collective_of ahead)
nobody_ahead zero = tt
nobody_ahead (suc zero) = tt
nobody_ahead (suc (suc q)) = tt

-- ---- who has arrived

all_there : IsReached (map seat_of both_arrived) 1
all_there zero w = lit≤ tt
all_there (suc zero) w = lit≤ tt
all_there (suc (suc q)) w = absurd (let h : suc (suc q) < 2 = w in omega arith)

still_there : IsReached (map seat_of one_ahead) 1
still_there zero w = lit≤ tt
still_there (suc zero) w = lit≤ tt
still_there (suc (suc q)) w = absurd (let h : suc (suc q) < 2 = w in omega arith)

-- ---- the calls in their order

pub arrive-requires : goal.arrive-requires
arrive-requires c =
    let k = c.in_ok-rounds.ensures in
    record {
      process = subst (λ s. 0 < length s) (sym k) (lit< tt);
      goes = subst (λ s. HasLeft s 0) (sym k) refl;
      agrees = (none, k, subst (λ s. AllSay none (round_at s 0 + 1) (collective_of of_0)) (sym k) none_said);
      countable = subst (λ s. round_at s 0 < 2 ^ 64 - 1) (sym k) (lit< tt);
    }

pub complete-early-requires : goal.complete-early-requires
complete-early-requires c =
    let k = c.arrive.ensures none c.in_ok-rounds.ensures in
    record { process = subst (λ s. 0 < length s) (sym k) (lit< tt); waits = subst (λ s. Waits s 0) (sym k) refl }

pub arrive-requires-2 : goal.arrive-requires-2
arrive-requires-2 c =
    let k = c.arrive.ensures none c.in_ok-rounds.ensures in
    record {
      process = subst (λ s. 1 < length s) (sym k) (lit< tt);
      goes = subst (λ s. HasLeft s 1) (sym k) refl;
      agrees = (one_arrived, k, subst (λ s. AllSay one_arrived (round_at s 1 + 1) (collective_of of_1)) (sym k) one_said);
      countable = subst (λ s. round_at s 1 < 2 ^ 64 - 1) (sym k) (lit< tt);
    }

pub complete-complete-requires : goal.complete-complete-requires
complete-complete-requires c =
    let k = c.arrive-2.ensures one_arrived (c.arrive.ensures none c.in_ok-rounds.ensures) in
    record { process = subst (λ s. 0 < length s) (sym k) (lit< tt); waits = subst (λ s. Waits s 0) (sym k) refl }

pub first_out-first-requires : goal.first_out-first-requires
first_out-first-requires c =
    let k = c.arrive-2.ensures one_arrived (c.arrive.ensures none c.in_ok-rounds.ensures) in
    record { process = subst (λ s. 0 < length s) (sym k) (lit< tt); waits = subst (λ s. Waits s 0) (sym k) refl }

pub given-given-requires : goal.given-given-requires
given-given-requires c =
    let k = c.arrive-2.ensures one_arrived (c.arrive.ensures none c.in_ok-rounds.ensures) in
    record {
      process = subst (λ s. 0 < length s) (sym k) (lit< tt);
      giver = subst (λ s. 0 < length s) (sym k) (lit< tt);
      waits = subst (λ s. Waits s 0) (sym k) refl;
      complete = subst (λ s. IsReached s (round_at s 0)) (sym k) all_there;
    }

pub depart-fast-requires : goal.depart-fast-requires
depart-fast-requires c =
    let k = c.arrive-2.ensures one_arrived (c.arrive.ensures none c.in_ok-rounds.ensures) in
    record {
      process = subst (λ s. 1 < length s) (sym k) (lit< tt);
      waits = subst (λ s. Waits s 1) (sym k) refl;
      complete = subst (λ s. IsReached s (round_at s 1)) (sym k) all_there;
    }

pub first_out-second-requires : goal.first_out-second-requires
first_out-second-requires c =
    let k = c.depart-fast.ensures.left both_arrived (c.arrive-2.ensures one_arrived (c.arrive.ensures none c.in_ok-rounds.ensures)) in
    record { process = subst (λ s. 0 < length s) (sym k) (lit< tt); waits = subst (λ s. Waits s 0) (sym k) refl }

pub arrive-requires-3 : goal.arrive-requires-3
arrive-requires-3 c =
    let k = c.depart-fast.ensures.left both_arrived (c.arrive-2.ensures one_arrived (c.arrive.ensures none c.in_ok-rounds.ensures)) in
    record {
      process = subst (λ s. 1 < length s) (sym k) (lit< tt);
      goes = subst (λ s. HasLeft s 1) (sym k) refl;
      agrees = (one_left, k, subst (λ s. AllSay one_left (round_at s 1 + 1) (collective_of ahead)) (sym k) nobody_ahead);
      countable = subst (λ s. round_at s 1 < 2 ^ 64 - 1) (sym k) (lit< tt);
    }

pub complete-ahead-requires : goal.complete-ahead-requires
complete-ahead-requires c =
    let k = c.arrive-3.ensures one_left (c.depart-fast.ensures.left both_arrived (c.arrive-2.ensures one_arrived (c.arrive.ensures none c.in_ok-rounds.ensures))) in
    record { process = subst (λ s. 1 < length s) (sym k) (lit< tt); waits = subst (λ s. Waits s 1) (sym k) refl }

pub round_of-round-requires : goal.round_of-round-requires
round_of-round-requires c =
    let k = c.arrive-3.ensures one_left (c.depart-fast.ensures.left both_arrived (c.arrive-2.ensures one_arrived (c.arrive.ensures none c.in_ok-rounds.ensures))) in
    record { process = subst (λ s. 0 < length s) (sym k) (lit< tt); waits = subst (λ s. Waits s 0) (sym k) refl }

pub given-seen-requires : goal.given-seen-requires
given-seen-requires c =
    let k = c.arrive-3.ensures one_left (c.depart-fast.ensures.left both_arrived (c.arrive-2.ensures one_arrived (c.arrive.ensures none c.in_ok-rounds.ensures))) in
    record {
      process = subst (λ s. 0 < length s) (sym k) (lit< tt);
      giver = subst (λ s. 1 < length s) (sym k) (lit< tt);
      waits = subst (λ s. Waits s 0) (sym k) refl;
      complete = subst (λ s. IsReached s (round_at s 0)) (sym k) still_there;
    }

pub depart-slow-requires : goal.depart-slow-requires
depart-slow-requires c =
    let k = c.arrive-3.ensures one_left (c.depart-fast.ensures.left both_arrived (c.arrive-2.ensures one_arrived (c.arrive.ensures none c.in_ok-rounds.ensures))) in
    record {
      process = subst (λ s. 0 < length s) (sym k) (lit< tt);
      waits = subst (λ s. Waits s 0) (sym k) refl;
      complete = subst (λ s. IsReached s (round_at s 0)) (sym k) still_there;
    }

pub take-taken-requires : goal.take-taken-requires
take-taken-requires c =
    let ahead_kept = c.arrive-3.ensures one_left (c.depart-fast.ensures.left both_arrived (c.arrive-2.ensures one_arrived (c.arrive.ensures none c.in_ok-rounds.ensures))) in
    let k = c.depart-slow.ensures.left one_ahead ahead_kept in
    record {
      process = subst (λ s. 0 < length s) (sym k) (lit< tt);
      giver = subst (λ s. 1 < length s) (sym k) (lit< tt);
      goes = subst (λ s. HasLeft s 0) (sym k) refl;
      left = subst (λ s. 0 < left_by s 0) (sym k) (lit< tt);
    }
