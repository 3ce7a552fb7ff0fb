use Rattle.std.proofs.Common.{◌≡◌, ℕ, zero, suc, ◌+◌, List, [], ◌∷◌, length, inl, inr, refl, sym, ap, ◌∙◌, arith}
use Rattle.std.specs.Fmt.{digits}
use Rattle.std.specs.Int.{int_wrap}
use Rattle.ti_base.specs.declared.entry.Entry.{Entry}
use Rattle.ti_lang.specs.Typing.BuiltIn.{built_in}
use Rattle.ti_lang.specs.Typing.Declared.{named_field_type, instance_method}
use Rattle.ti_lang.specs.Meaning.Runs.{IsRun, IsSolo, IsComplete}
use Rattle.ti_lang.specs.Meaning.Runs as r
use Rattle.ti_lang.proofs.Lemmas.{solo_run}
use Rattle.ti_watch.specs.Reports.{entry_text, trace_text}
use Rattle.ti_rows.specs.Simulation.{solo}
use Rattle.ti_rows_of_laws.specs.Traces as traces
use Rattle.ti_trace_check.specs.Verdicts.{IsTraceOf, IsWrongAt, IsTrace}
use Rattle.ti_rows_of_laws.proofs.Places.{true_false}
use Rattle.ti_rows_of_laws.proofs.traces.verdicts.Goals as goal

-- ---- the whole trace

all_ended : r.AllEnded traces.two_prints (solo traces.two_prints 4)
unfolding int_wrap built_in named_field_type instance_method
all_ended zero h = refl
all_ended (suc zero) h = refl
all_ended (suc (suc n)) h = absurd (omega arith)

is_trace : IsSolo traces.two_prints (solo traces.two_prints 4) → IsTraceOf traces.two_prints traces.all_lines (solo traces.two_prints 4)
unfolding digits int_wrap built_in named_field_type instance_method entry_text
is_trace solo = record { run = solo_run traces.two_prints _ solo; complete = inr all_ended; is = refl }

-- ---- three lines of it

incomplete : IsComplete traces.two_prints (solo traces.two_prints 3) → ⊥
unfolding int_wrap built_in named_field_type instance_method
incomplete (inl fault) = true_false (sym fault)
incomplete (inr ended) = true_false (sym (ended 1 (omega arith)))

is_missing : IsSolo traces.two_prints (solo traces.two_prints 3) → IsWrongAt traces.two_prints traces.three_lines 4 (solo traces.two_prints 3)
unfolding digits int_wrap built_in named_field_type instance_method entry_text
is_missing solo = record { run = solo_run traces.two_prints _ solo; number = refl; left = []; begins = refl; wrong = inr (refl, incomplete) }

-- ---- another line

-- the first byte, or 0
abbrev first_byte : List ℕ → ℕ
first_byte [] = 0
first_byte (c ∷ cs) = c

no_entry : IsTrace traces.two_prints traces.another_line → ⊥
unfolding digits entry_text
no_entry t = by t.0 t.2
  where
    by : (es : List Entry) → traces.another_line ≡ trace_text es → ⊥
    by [] e =
        let k : 120 ≡ 0 = ap first_byte e in
        omega (arith, k)
    by (x ∷ es) e =
        let k : 120 ≡ 48 = ap first_byte e in
        omega (arith, k)

-- ---- rows

pub returns-clause-all_lines : goal.returns-clause-all_lines
returns-clause-all_lines c = is_trace (c.simulates.ensures traces.two_prints 4)

pub returns-clause-three_lines : goal.returns-clause-three_lines
returns-clause-three_lines c = λ es t.
    c.one_verdict.ensures.not_both traces.two_prints traces.three_lines 4 es (solo traces.two_prints 3) (omega arith) t (is_missing (c.simulates.ensures traces.two_prints 3))

pub returns-clause-the_fourth_is_missing : goal.returns-clause-the_fourth_is_missing
returns-clause-the_fourth_is_missing c = is_missing (c.simulates.ensures traces.two_prints 3)

pub returns-clause-the_third_is_right : goal.returns-clause-the_third_is_right
unfolding int_wrap built_in named_field_type instance_method
returns-clause-the_third_is_right c = λ es w.
    let same : es ≡ solo traces.two_prints 3 =
    c.one_verdict.ensures.one_line traces.two_prints traces.three_lines 3 4 es (solo traces.two_prints 3) (omega arith) w (is_missing (c.simulates.ensures traces.two_prints 3)) in
    let k : 3 ≡ 4 = w.number ∙ ap (λ (ds : List Entry). length ds + 1) same in
    omega (arith, k)

pub returns-clause-another_line : goal.returns-clause-another_line
returns-clause-another_line c = record { run = r.none; number = refl; left = traces.another_line; begins = refl; wrong = inl no_entry }

pub returns-clause-none_is_wrong : goal.returns-clause-none_is_wrong
returns-clause-none_is_wrong c = λ line es w.
    c.one_verdict.ensures.not_both traces.two_prints traces.all_lines line (solo traces.two_prints 4) es (omega arith) (is_trace (c.simulates.ensures traces.two_prints 4)) w
