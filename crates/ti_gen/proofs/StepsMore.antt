-- Appending the lines of one more step, part by part, yields the source with one more step.
use Rattle.std.proofs.Common.{◌≡◌, ℕ, suc, List, append_assoc, ◌+◌, ◌-◌, ◌*◌, ◌/◌, ◌%◌, ◌++◌, sym, ap, ◌∙◌, arith}
use Rattle.ti_gen.specs.Source.{next, number_at, step_text, steps_text}

-- the numbers of the next step follow
pub next_twice : (seed i : ℕ) → number_at seed (2 * (i + 1)) ≡ next (next (number_at seed (2 * i)))
unfolding number_at
next_twice seed i = let two : 2 * (i + 1) ≡ suc (suc (2 * i)) = omega arith in ap (number_at seed) two

pub next_once : (seed i : ℕ) → number_at seed (2 * (i + 1) - 1) ≡ next (number_at seed (2 * i))
unfolding number_at
next_once seed i = let one : 2 * (i + 1) - 1 ≡ suc (2 * i) = omega arith in ap (number_at seed) one

pub steps_more : (seed i x : ℕ) → x ≡ number_at seed (2 * i) → steps_text seed (i + 1) ≡ steps_text seed i ++ step_text (next x / 65536) (next (next x) / 65536 % 20)
unfolding steps_text
steps_more seed i x is =
    let one : i + 1 ≡ suc i = omega arith in
    let factor : number_at seed (2 * suc i - 1) ≡ next x = ap (λ n. number_at seed (2 * n - 1)) (sym one) ∙ next_once seed i ∙ ap next (sym is) in
    let index : number_at seed (2 * suc i) ≡ next (next x) = ap (λ n. number_at seed (2 * n)) (sym one) ∙ next_twice seed i ∙ ap (λ n. next (next n)) (sym is) in
    ap (steps_text seed) one
    ∙ ap (λ f. steps_text seed i ++ step_text (f / 65536) (number_at seed (2 * suc i) / 65536 % 20)) factor
    ∙ ap (λ d. steps_text seed i ++ step_text (next x / 65536) (d / 65536 % 20)) index

-- the lines of one step more are added
pub step_added : (first middle last : List ℕ) (seed i x one two : ℕ) → x ≡ number_at seed (2 * i) → one ≡ next x → two ≡ next one
    → last ≡ middle ++ step_text (one / 65536) (two / 65536 % 20) → middle ≡ first ++ steps_text seed i → last ≡ first ++ steps_text seed (i + 1)
step_added first middle last seed i x one two is once twice added before =
    added
    ∙ ap (λ f. middle ++ step_text (f / 65536) (two / 65536 % 20)) once
    ∙ ap (λ d. middle ++ step_text (next x / 65536) (d / 65536 % 20)) (twice ∙ ap next once)
    ∙ ap (λ text. text ++ step_text (next x / 65536) (next (next x) / 65536 % 20)) before
    ∙ append_assoc first (steps_text seed i) (step_text (next x / 65536) (next (next x) / 65536 % 20))
    ∙ ap (λ lines. first ++ lines) (sym (steps_more seed i x is))

-- the parts of a step, one after the other
pub step_parts : (t0 t1 t2 t3 t4 t5 t6 a f b c d i e g : List ℕ) → t1 ≡ t0 ++ a → t2 ≡ t1 ++ f → t3 ≡ t2 ++ (b ++ c) → t4 ≡ t3 ++ d → t5 ≡ t4 ++ i → t6 ≡ t5 ++ (e ++ g)
    → t6 ≡ t0 ++ (a ++ f ++ b ++ c ++ d ++ i ++ e ++ g)
step_parts t0 t1 t2 t3 t4 t5 t6 a f b c d i e g h1 h2 h3 h4 h5 h6 =
    h6
    ∙ ap (λ s. s ++ (e ++ g)) (h5 ∙ ap (λ s. s ++ i) (h4 ∙ ap (λ s. s ++ d) (h3 ∙ ap (λ s. s ++ (b ++ c)) (h2 ∙ ap (λ s. s ++ f) h1))))
    ∙ simp append_assoc
