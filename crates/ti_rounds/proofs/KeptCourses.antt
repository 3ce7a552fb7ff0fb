-- The stored state determines the latest arrivals of each course.
use Rattle.std.proofs.Common.{◌≡◌, inl, inr, ⊎_elim, ℕ, zero, suc, ◌+◌, ◌<◌, ◌≤◌, List, [], ◌∷◌, length, map, set, replicate, Option, Some, None, IfSome, eqb, false, sym, ap, subst, ◌∙◌, refl, arith, add-one}
use Rattle.std.specs.Option.{option_map}
use Rattle.std.proofs.lemmas.List.{map-set, length-map, get_or_past}
use Rattle.std.proofs.lemmas.Bool.{eq-eqb, cases_lt}
use Rattle.ti_base.specs.declared.action.CollKind.{CollKind}
use Rattle.ti_base.specs.declared.place.Place.{Place}
use Rattle.std.proofs.lemmas.Bool.Decides.{eqb_tells}
use Rattle.ti_rounds.specs.declared.arrival.Arrival.{Arrival}
use Rattle.ti_rounds.specs.declared.proc_rounds.ProcRounds.{ProcRounds}
use Rattle.ti_rounds.specs.Seats.{new_seat, seat_at, round_at, collective_of}
use Rattle.ti_rounds.specs.Courses.{Course, no_course, course_at, seat_of, Keeps, arrival_at, said_at, AllSay, with_arrival, with_departure}
use Rattle.ti_rounds.specs.Mirrors.{after_arrival, after_departure, kept_at, AreInStep}
use Rattle.ti_rounds.proofs.InStep.{near}

-- what is kept of the course at a place
pub seat_kept : (courses : List Course) (q : ℕ) → seat_at (map seat_of courses) q ≡ seat_of (course_at courses q)
seat_kept [] q = refl
seat_kept (c ∷ cs) zero = refl
seat_kept (c ∷ cs) (suc q) = seat_kept cs q

-- of processes that have done nothing
pub new_kept : (procs : ℕ) → replicate procs new_seat ≡ map seat_of (replicate procs no_course)
new_kept zero = refl
new_kept (suc n) = ap (λ seats. new_seat ∷ seats) (new_kept n)

-- ---- steps

pub keeps_arrival : (seats : List ProcRounds) (courses : List Course) (p : ℕ) (a : Arrival) → Keeps seats courses → Keeps (set seats p (after_arrival (seat_at seats p) a)) (with_arrival courses p a)
keeps_arrival seats courses p a keeps =
    let c = course_at courses p in
    let next : Course = record { arrivals = a ∷ c.arrivals; departures = c.departures } in
    let here : after_arrival (seat_at seats p) a ≡ seat_of next = ap (λ s. after_arrival (seat_at s p) a) keeps ∙ ap (λ s. after_arrival s a) (seat_kept courses p) ∙ rw add-one refl in
    rw here (rw keeps (sym (map-set seat_of courses p next)))

pub keeps_departure : (seats : List ProcRounds) (courses : List Course) (p : ℕ) → Keeps seats courses → Keeps (set seats p (after_departure (seat_at seats p))) (with_departure courses p)
keeps_departure seats courses p keeps =
    let c = course_at courses p in
    let next : Course = record { arrivals = c.arrivals; departures = c.departures + 1 } in
    let here : after_departure (seat_at seats p) ≡ seat_of next = ap (λ s. after_departure (seat_at s p)) keeps ∙ ap after_departure (seat_kept courses p) in
    rw here (rw keeps (sym (map-set seat_of courses p next)))

-- ---- arrivals

differ : (a b : ℕ) → (a ≡ b → ⊥) → eqb a b ≡ false
differ a b apart = elim (eqb_tells a b) [ inl same ↦ absurd (apart same.1) | inr other ↦ other.0 ]

-- a round beyond the arrivals has none
beyond : (said : List Arrival) (round : ℕ) → length said < round → arrival_at round said ≡ None
beyond [] round far = refl
beyond (a ∷ earlier) round far = rw (differ (length earlier + 1) round (λ same. omega arith)) (beyond earlier round (omega arith))

-- the two latest arrivals are kept, and there is none beyond
pub kept_is_arrival : (c : Course) (round : ℕ) → length c.arrivals ≤ round + 1 → kept_at round (seat_of c) ≡ arrival_at round c.arrivals
kept_is_arrival c round few = kept_in c.arrivals c.departures round few where
  kept_in : (said : List Arrival) (d round : ℕ) → length said ≤ round + 1 → kept_at round (seat_of (record { arrivals = said; departures = d })) ≡ arrival_at round said
  kept_in [] d round few =
      elim (eqb_tells 0 round) [
        | inl now ↦ rw now.0 refl
        | inr other ↦ elim (eqb_tells 0 (round + 1)) [ inl one ↦ rw (other.0, one.0) refl | inr none ↦ rw (other.0, none.0) refl ]
      ]
  kept_in (a ∷ []) d round few =
      elim (eqb_tells 1 round) [
        | inl now ↦ rw now.0 refl
        | inr other ↦ elim (eqb_tells 1 (round + 1)) [ inl one ↦ rw (other.0, one.0) refl | inr none ↦ rw (other.0, none.0) refl ]
      ]
  kept_in (a ∷ b ∷ rest) d round few =
      elim (eqb_tells (length rest + 2) round) [
        | inl now ↦ rw (eq-eqb (length (a ∷ b ∷ rest)) round (omega (arith, now.1)), eq-eqb (length (b ∷ rest) + 1) round (omega (arith, now.1))) refl
        | inr other ↦ elim (eqb_tells (length rest + 1) round) [
          | inl one ↦ rw (
            differ (length (a ∷ b ∷ rest)) round (λ same. omega (arith, one.1)),
            eq-eqb (length (a ∷ b ∷ rest)) (round + 1) (omega (arith, one.1)),
            differ (length (b ∷ rest) + 1) round (λ same. omega (arith, one.1)),
            one.0,
          ) refl
          | inr none ↦ rw (
            differ (length (a ∷ b ∷ rest)) round (λ same. other.1 (omega arith)),
            differ (length (a ∷ b ∷ rest)) (round + 1) (λ same. none.1 (omega arith)),
            differ (length (b ∷ rest) + 1) round (λ same. other.1 (omega arith)),
            none.0,
            beyond rest round (elim (eqb_tells (length rest) round) [ inl under ↦ absurd (omega (arith, under.1, few)) | inr apart ↦ omega (arith, few, apart.1, none.1, other.1) ]),
          ) refl
        ]
      ]

-- what a seat keeps of a round is the arrival of its course
pub kept_arrival : (seats : List ProcRounds) (courses : List Course) (q round : ℕ) → Keeps seats courses → round_at seats q ≤ round + 1
    → kept_at round (seat_at seats q) ≡ arrival_at round (course_at courses q).arrivals
kept_arrival seats courses q round keeps few =
    let here : seat_at seats q ≡ seat_of (course_at courses q) = ap (λ s. seat_at s q) keeps ∙ seat_kept courses q in
    ap (kept_at round) here ∙ kept_is_arrival (course_at courses q) round (subst (λ (s : ProcRounds). s.arrivals ≤ round + 1) here few)

-- ---- what was said

kept_latest : (s : ProcRounds) → kept_at s.arrivals s ≡ s.latest
kept_latest s = rw (eq-eqb s.arrivals s.arrivals refl) refl

-- the process that waits said what is kept last
pub latest_said : (seats : List ProcRounds) (courses : List Course) (p : ℕ) (a : Arrival) → Keeps seats courses → (seat_at seats p).latest ≡ Some a
    → said_at courses p (round_at seats p) ≡ Some (collective_of a)
latest_said seats courses p a keeps is =
    ap (option_map collective_of) (sym (kept_arrival seats courses p (round_at seats p) keeps (omega arith)) ∙ kept_latest (seat_at seats p) ∙ is)

-- what is said where there is an arrival
said_if : (o : Option Arrival) (said : CollKind × Place × Option ℕ) → ((b : Arrival) → o ≡ Some b → collective_of b ≡ said) → IfSome (option_map collective_of o) (λ other. other ≡ said)
said_if None said all = tt
said_if (Some b) said all = all b refl

-- all who have arrived at the round in which a process waits said what it said
pub all_said : (seats : List ProcRounds) (courses : List Course) (p : ℕ) (a : Arrival) → Keeps seats courses → p < length seats → AreInStep seats
    → (seat_at seats p).latest ≡ Some a → AllSay courses (round_at seats p) (collective_of a)
all_said seats courses p a keeps inside in_step is q =
    let round = round_at seats p in
    let sizes : length seats ≡ length courses = ap length keeps ∙ length-map courses seat_of in
    said_if (arrival_at round (course_at courses q).arrivals) (collective_of a) (λ b arrival.
    ⊎_elim
    (λ within. (in_step.both q p within inside).agreed round b a
    (kept_arrival seats courses q round keeps (near seats p round inside in_step refl q within) ∙ arrival)
    (kept_latest (seat_at seats p) ∙ is))
    (λ beyond. let none : None ≡ Some b = subst (λ (c : Course). arrival_at round c.arrivals ≡ Some b) (get_or_past courses q no_course (omega (arith, sizes))) arrival in absurd (let P : ⊥ = cc in P))
    (cases_lt q (length seats)))

-- who is kept to have arrived at the next round of a process said what all said at it
pub agrees_kept : (seats : List ProcRounds) (courses : List Course) (p : ℕ) (a : Arrival) → Keeps seats courses → p < length seats → AreInStep seats
    → AllSay courses (round_at seats p + 1) (collective_of a)
    → (q : ℕ) (b : Arrival) → q < length seats → kept_at (round_at seats p + 1) (seat_at seats q) ≡ Some b → collective_of b ≡ collective_of a
agrees_kept seats courses p a keeps inside in_step all q b within is =
    let round = round_at seats p + 1 in
    let few : round_at seats q ≤ round + 1 = omega (arith, near seats p (round_at seats p) inside in_step refl q within) in
    let said : said_at courses q round ≡ Some (collective_of b) = ap (option_map collective_of) (sym (kept_arrival seats courses q round keeps few) ∙ is) in
    subst (λ o. IfSome o (λ other. other ≡ collective_of a)) said (all q)
