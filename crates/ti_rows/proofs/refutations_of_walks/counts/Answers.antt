use Rattle.std.proofs.Common.{◌≡◌, ℕ, ◌+◌, List, [], ◌∷◌, refl, sym, ◌∙◌, ap, subst, arith}
use Rattle.ti_base.specs.declared.entry.Answer.{Answer}
use Rattle.ti_base.specs.declared.entry.Answer.TheVariants.{Done}
use Rattle.ti_base.specs.declared.place.Place.{Place}
use Rattle.ti_lang.specs.Meaning.Comp.{CompResult, Gives}
use Rattle.ti_code.specs.Programs.{Code}
use Rattle.ti_code.specs.Machine.{Machine, StepResult, On, Ended, first, next_step}
use Rattle.ti_code.specs.Follows.{Finishes, all, one}
use Rattle.ti_machine.specs.ProcView.{saturate}
use Rattle.ti_rows.specs.Refuted.Codes.{prints_at, stops}
use Rattle.ti_rows.proofs.refutations_of_walks.counts.Goals as goal

-- ---- one number

on_same : (a b : Machine) (xs ys : List Answer) → ◌≡◌ {A = CompResult StepResult} (Gives (On a) xs) (Gives (On b) ys) → a ≡ b
on_same a b xs ys e = cc

left_same : (a b : Machine) (xs ys : List Answer) → ◌≡◌ {A = CompResult StepResult} (Gives (On a) xs) (Gives (On b) ys) → xs ≡ ys
left_same a b xs ys e = cc

finishes_same : (c : Code) {m : Machine} {rs : List Answer} {j k : ℕ} → Finishes c m rs j → Finishes c m rs k → j ≡ k
finishes_same c all all = refl
finishes_same c (one {n} {rest = rest} {k = j} t f) (one {n = o} {rest = left} {k = k} u g) =
    let there = on_same o n left rest (sym u ∙ t) in
    let same = left_same o n left rest (sym u ∙ t) in
    ap (λ (i : ℕ). i + 1) (finishes_same c f (subst (λ (xs : List Answer). Finishes c n xs k) same (subst (λ (x : Machine). Finishes c x left k) there g)))

pub returns-clause-one_number : goal.returns-clause-one_number
returns-clause-one_number c code m rs j k f g = finishes_same code f g

-- ---- a number that is pushed and printed

two : Finishes (prints_at 62) (first (prints_at 62) 2 1000 0) (Done ∷ []) 2
two = one refl (one refl all)

pub returns-clause-two_instructions : goal.returns-clause-two_instructions
returns-clause-two_instructions c = two

pub returns-clause-three_instructions : goal.returns-clause-three_instructions
returns-clause-three_instructions c = λ f.
    let k : 2 ≡ 3 = finishes_same (prints_at 62) two f in
    omega (arith, k)

pub returns-clause-two_as_counted : goal.returns-clause-two_as_counted
returns-clause-two_as_counted c = (2, two, refl)

pub returns-clause-one_as_counted : goal.returns-clause-one_as_counted
returns-clause-one_as_counted c = λ f.
    let k : 2 ≡ 1 = ap saturate (finishes_same (prints_at 62) two f.1) ∙ sym f.2 in
    omega (arith, k)

-- ---- an end

ended_on : (at : Place) (m : Machine) (xs ys : List Answer) → ◌≡◌ {A = CompResult StepResult} (Gives (Ended at) xs) (Gives (On m) ys) → ⊥
ended_on at m xs ys e = cc

none_finished : {m : Machine} {rs : List Answer} {k : ℕ} → Finishes stops m rs k → m ≡ first stops 2 1000 0 → rs ≡ Done ∷ [] → ⊥
none_finished all e h = absurd (by h)
  where
    by : [] ≡ Done ∷ [] → ⊥
    by h = cc
none_finished (one {n = n} {r = r} {rs = rs} {rest = rest} t f) e h =
    ended_on _ n _ rest (sym (ap (λ (m : Machine). next_step stops m (r ∷ rs)) e) ∙ t)

pub returns-clause-an_answer_to_an_end : goal.returns-clause-an_answer_to_an_end
returns-clause-an_answer_to_an_end c = λ k f. none_finished f refl refl
