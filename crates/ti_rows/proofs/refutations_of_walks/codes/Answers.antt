use Rattle.std.proofs.Common.{◌≡◌, ℕ, List, [], ◌∷◌, ◌++◌, refl, ap, arith}
use Rattle.ti_base.specs.declared.place.Place.{Place}
use Rattle.ti_base.specs.declared.action.Action.{Action}
use Rattle.ti_base.specs.declared.entry.Answer.{Answer}
use Rattle.ti_base.specs.declared.entry.Next.{Next}
use Rattle.ti_base.specs.declared.entry.Next.TheVariants as next
use Rattle.ti_lang.specs.Meaning.NextStep.{none}
use Rattle.ti_lang.specs.Meaning.Processes.{Process, begin}
use Rattle.ti_code.specs.Programs.{Code}
use Rattle.ti_code.specs.Machine.{first}
use Rattle.ti_code.specs.Follows as code
use Rattle.ti_code.specs.Follows.{Fit, Follows}
use Rattle.ti_rows.specs.Failing.{by_two}
use Rattle.ti_rows.specs.Refuted.Codes.{prints_at, stops, the_print}
use Rattle.ti_rows.specs.Refuted.Programs as programs
use Rattle.ti_rows.proofs.NextOfCode.{next_is, next_behind}
use Rattle.ti_rows.proofs.Reached.{rest_of, settles}
use Rattle.ti_rows.proofs.refutations_of_walks.codes.Goals as goal

-- ---- the program prints

nothing_told : (p : Process) → Fit p []
nothing_told p before rest r q e a = absurd (none_more before r rest e)
  where
    none_more : (before : List Answer) (r : Answer) (rest : List Answer) → [] ≡ before ++ r ∷ rest → ⊥
    none_more [] r rest e = cc
    none_more (b ∷ before) r rest e = cc

-- so code that follows it has the print next
print_next : (c : Code) → Follows c programs.a_print → code.HasNext c (first c 2 1000 0) [] the_print
print_next c f =
    let p : Process = begin (by_two 1000 programs.a_print) 0 in
    f 2 1000 0 (omega arith) (omega arith) (omega arith) (omega arith) (omega arith) [] p the_print (nothing_told p) none (rest_of p, settles p the_print refl)

-- ---- rows

pub returns-clause-the_print : goal.returns-clause-the_print
returns-clause-the_print c = (_, code.on refl code.here, refl)

act_end : (p q : Place) (a : Action) → next.Act p a ≡ next.End q → ⊥
act_end p q a e = cc

pub returns-clause-no_print : goal.returns-clause-no_print
returns-clause-no_print c = λ f. act_end _ _ _ (next_is stops (first stops 2 1000 0) [] the_print _ refl (print_next stops f))

-- the column of an action
abbrev column_of : Next → ℕ
column_of (next.Act at action) = at.col
column_of (next.End at) = at.col
column_of (next.Fault kind at) = at.col

pub returns-clause-a_print_elsewhere : goal.returns-clause-a_print_elsewhere
returns-clause-a_print_elsewhere c = λ f.
    let code = prints_at 63 in
    let k : 62 ≡ 63 = ap column_of (next_is code _ [] the_print _ refl (next_behind code (first code 2 1000 0) _ [] [] the_print refl (print_next code f))) in
    omega (arith, k)
