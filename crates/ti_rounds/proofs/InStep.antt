-- Arrivals and departures keep all processes in step.
use Rattle.std.proofs.Common.{◌≡◌, ◌⊎◌, inl, inr, ⊎_elim, ℕ, ◌+◌, ◌<◌, ◌≤◌, List, length, get_or, set, Some, None, sym, ap, subst, ◌∙◌, refl, arith}
use Rattle.std.proofs.lemmas.List.{get_or-set_same, get_or-set_other, length-set}
use Rattle.std.proofs.lemmas.Bool.{cases_eq, eq-eqb}
use Rattle.std.proofs.lemmas.Bool.Decides.{eqb_tells}
use Rattle.ti_rounds.specs.declared.arrival.Arrival.{Arrival}
use Rattle.ti_rounds.specs.declared.proc_rounds.ProcRounds.{ProcRounds}
use Rattle.ti_rounds.specs.Seats.{new_seat, seat_at, round_at, HasLeft, Waits, IsReached, collective_of}
use Rattle.ti_rounds.specs.Mirrors.{after_arrival, after_departure, kept_at, IsSeat, InStep, AreInStep}

-- ---- a seat that is replaced

-- a fact of each seat stays where it holds of the new one
each_set : (P : ProcRounds → Type 0) (seats : List ProcRounds) (p : ℕ) (s : ProcRounds) → p < length seats → P s → ((q : ℕ) → q < length seats → P (seat_at seats q))
    → (q : ℕ) → q < length (set seats p s) → P (seat_at (set seats p s) q)
each_set P seats p s inside here others q within =
    let inner : q < length seats = omega (arith, length-set seats p s) in
    ⊎_elim
    (λ same. subst P (sym (ap (λ k. get_or (set seats p s) k new_seat) same ∙ get_or-set_same seats p s new_seat inside)) here)
    (λ other. subst P (sym (get_or-set_other seats p q s new_seat other)) (others q inner))
    (cases_eq q p)

-- a fact of each two seats stays where it holds of the new one and each
both_set : (R : ProcRounds → ProcRounds → Type 0) (seats : List ProcRounds) (p : ℕ) (s : ProcRounds) → p < length seats → R s s
    → ((q : ℕ) → q < length seats → R (seat_at seats q) s × R s (seat_at seats q))
    → ((q r : ℕ) → q < length seats → r < length seats → R (seat_at seats q) (seat_at seats r))
    → (q r : ℕ) → q < length (set seats p s) → r < length (set seats p s) → R (seat_at (set seats p s) q) (seat_at (set seats p s) r)
both_set R seats p s inside self cross old q r wq wr =
    each_set (λ t. R t (seat_at (set seats p s) r)) seats p s inside
    (each_set (R s) seats p s inside self (λ k w. (cross k w).1) r wr)
    (λ k w. each_set (R (seat_at seats k)) seats p s inside (cross k w).0 (λ m v. old k m w v) r wr)
    q wq

-- ---- an arrival

-- what is kept after an arrival is that arrival, at its round, or was kept before
kept_after : (s : ProcRounds) (a b : Arrival) (round : ℕ) → kept_at round (after_arrival s a) ≡ Some b → ((round ≡ s.arrivals + 1) × (b ≡ a)) ⊎ (kept_at round s ≡ Some b)
kept_after s a b round is =
    elim (eqb_tells (s.arrivals + 1) round) [
      | inl now ↦ inl (sym now.1, let h : Some a ≡ Some b = rw now.0 at is in cc)
      | inr later ↦ elim (eqb_tells (s.arrivals + 1) (round + 1)) [
        | inl one ↦ inr (rw (eq-eqb s.arrivals round (omega (arith, one.1))) (rw (later.0, one.0) at is))
        | inr none ↦ absurd (let h : None ≡ Some b = rw (later.0, none.0) at is in cc)
      ]
    ]

-- all that was said at a round is the same, after an arrival that says what others said at its round
agreed_after : (s t : ProcRounds) (a : Arrival) → InStep s t → ((b : Arrival) → kept_at (s.arrivals + 1) t ≡ Some b → collective_of b ≡ collective_of a)
    → (round : ℕ) (x y : Arrival) → kept_at round (after_arrival s a) ≡ Some x → kept_at round t ≡ Some y → collective_of x ≡ collective_of y
agreed_after s t a old agrees round x y kx ky =
    ⊎_elim
    (λ new. ap collective_of new.1 ∙ sym (agrees y (subst (λ n. kept_at n t ≡ Some y) new.0 ky)))
    (λ before. old.agreed round x y before ky)
    (kept_after s a x round kx)

pub arrived_in_step : (seats : List ProcRounds) (p : ℕ) (a : Arrival) → p < length seats → AreInStep seats → HasLeft seats p
    → ((q : ℕ) (b : Arrival) → q < length seats → kept_at (round_at seats p + 1) (seat_at seats q) ≡ Some b → collective_of b ≡ collective_of a)
    → AreInStep (set seats p (after_arrival (seat_at seats p) a))
arrived_in_step seats p a inside old goes agrees =
    let s = seat_at seats p in
    let t = after_arrival s a in
    record {
      each = each_set IsSeat seats p t inside (record { goes = omega (arith, goes); known = λ some. refl }) old.each;
      both = both_set InStep seats p t inside
          (record {
            reached = omega (arith, (old.both p p inside inside).reached);
            agreed = λ round x y kx ky. let same : x ≡ y = cc in ap collective_of same;
          })
          (λ q w. (
            record {
              reached = omega (arith, (old.both q p w inside).reached);
              agreed = λ round x y kx ky. sym (agreed_after s (seat_at seats q) a (old.both p q inside w) (λ b kb. agrees q b w kb) round y x ky kx);
            },
            record {
              reached = (old.both p q inside w).reached;
              agreed = agreed_after s (seat_at seats q) a (old.both p q inside w) (λ b kb. agrees q b w kb);
            },
          ))
          old.both;
    }

-- ---- a departure

pub departed_in_step : (seats : List ProcRounds) (p : ℕ) → p < length seats → AreInStep seats → Waits seats p → IsReached seats (round_at seats p)
    → AreInStep (set seats p (after_departure (seat_at seats p)))
departed_in_step seats p inside old waits complete =
    let s = seat_at seats p in
    let t = after_departure s in
    record {
      each = each_set IsSeat seats p t inside (record { goes = omega (arith, waits); known = (old.each p inside).known }) old.each;
      both = both_set InStep seats p t inside
          (record { reached = omega (arith, waits); agreed = (old.both p p inside inside).agreed })
          (λ q w. (
            record { reached = (old.both q p w inside).reached; agreed = (old.both q p w inside).agreed },
            record { reached = omega (arith, waits, complete q w); agreed = (old.both p q inside w).agreed },
          ))
          old.both;
    }

-- ---- nobody is beyond a round by more than one

-- the round that a process reached last, or left last
pub near : (seats : List ProcRounds) (p round : ℕ) → p < length seats → AreInStep seats → round ≡ round_at seats p
    → (q : ℕ) → q < length seats → round_at seats q ≤ round + 1
near seats p round inside in_step is q w = omega (arith, (in_step.each q w).goes, (in_step.both q p w inside).reached)
