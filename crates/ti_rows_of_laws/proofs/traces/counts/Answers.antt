use Rattle.std.proofs.Common.{◌≡◌, ℕ, zero, suc, [], ◌∷◌, Option, Some, None, slice_get, refl, sym, ◌∙◌, ap, subst, arith}
use Rattle.std.specs.Int.{int_wrap}
use Rattle.ti_lang.specs.Typing.BuiltIn.{built_in}
use Rattle.ti_lang.specs.Typing.Declared.{named_field_type, instance_method}
use Rattle.ti_code.specs.Follows as code
use Rattle.ti_machine.specs.ProcView.{HasFinished, saturate}
use Rattle.ti_runtime.specs.Ran.{proc_view_after}
use Rattle.ti_rows.specs.Simulation.{solo}
use Rattle.ti_rows.specs.Refuted.Codes.{prints_at}
use Rattle.ti_rows_of_laws.specs.Traces as traces
use Rattle.ti_rows_of_laws.proofs.traces.counts.Goals as goal

finished_first : HasFinished (proc_view_after (prints_at 62) traces.two_prints (solo traces.two_prints 4) 0) 2
unfolding int_wrap built_in named_field_type instance_method
finished_first = (2, code.one refl (code.one refl code.all), refl)

finished_second : HasFinished (proc_view_after (prints_at 62) traces.two_prints (solo traces.two_prints 4) 1) 2
unfolding int_wrap built_in named_field_type instance_method
finished_second = (2, code.one refl (code.one refl code.all), refl)

some_same : (a b : ℕ) → Some a ≡ Some b → a ≡ b
some_same a b e = cc

none_some : (n : ℕ) → ◌≡◌ {A = Option ℕ} None (Some n) → ⊥
none_some n e = cc

pub returns-clause-two_each : goal.returns-clause-two_each
returns-clause-two_each c = record { count = refl; each = by }
  where
    by : (i n : ℕ) → slice_get (2 ∷ 2 ∷ []) i ≡ Some n → HasFinished (proc_view_after (prints_at 62) traces.two_prints (solo traces.two_prints 4) i) n
    by zero n e = subst (HasFinished (proc_view_after (prints_at 62) traces.two_prints (solo traces.two_prints 4) 0)) (some_same 2 n e) finished_first
    by (suc zero) n e = subst (HasFinished (proc_view_after (prints_at 62) traces.two_prints (solo traces.two_prints 4) 1)) (some_same 2 n e) finished_second
    by (suc (suc i)) n e = absurd (none_some n e)

pub returns-clause-another_number : goal.returns-clause-another_number
returns-clause-another_number c = λ d.
    let other = d.each 1 3 refl in
    let k : 2 ≡ 3 = finished_second.2 ∙ ap saturate (c.counts.ensures.one_number (prints_at 62) _ _ finished_second.0 other.0 finished_second.1 other.1) ∙ sym other.2 in
    omega (arith, k)

pub returns-clause-of_one_process : goal.returns-clause-of_one_process
returns-clause-of_one_process c = λ d.
    let k : 1 ≡ 2 = d.count in
    omega (arith, k)
