-- The instructions that the processes of a run have finished are counted in one way alone.
use Rattle.std.proofs.Common.{◌≡◌, ◌∙◌, refl, ap, sym, subst, ℕ, ◌+◌, ◌<◌, List, length, map, filter}
use Rattle.std.proofs.Math.ListN.{get_or}
use Rattle.std.proofs.lemmas.List.{ext_get_or}
use Rattle.std.proofs.lemmas.Option.{slice_get-get_or}
use Rattle.ti_base.specs.declared.entry.Answer.{Answer}
use Rattle.ti_base.specs.declared.entry.Entry.{Entry}
use Rattle.ti_lang.specs.Meaning.Comp.{CompResult, Gives}
use Rattle.ti_lang.specs.Meaning.Histories.{is_answered, entries_of}
use Rattle.ti_lang.specs.Meaning.Processes.{RunConfig}
use Rattle.ti_code.specs.Programs.{Code}
use Rattle.ti_code.specs.Machine.{Machine, StepResult, On}
use Rattle.ti_code.specs.Follows.{Finishes, all, one}
use Rattle.ti_machine.specs.ProcView.{ProcView, saturate, HasFinished}
use Rattle.ti_runtime.specs.Ran.{proc_view_after, AreFinishedCounts}

on_same : (a b : Machine) (xs ys : List Answer) → ◌≡◌ {A = CompResult StepResult} (Gives (On a) xs) (Gives (On b) ys) → a ≡ b
on_same a b xs ys e = cc

left_same : (a b : Machine) (xs ys : List Answer) → ◌≡◌ {A = CompResult StepResult} (Gives (On a) xs) (Gives (On b) ys) → xs ≡ ys
left_same a b xs ys e = cc

-- so many instructions are finished with the last of the answers, and no other number
finishes_same : (c : Code) {m : Machine} {rs : List Answer} {j k : ℕ} → Finishes c m rs j → Finishes c m rs k → j ≡ k
finishes_same c all all = refl
finishes_same c (one {n} {rest = rest} {k = j} t f) (one {n = o} {rest = left} {k = k} u g) =
    let there = on_same o n left rest (sym u ∙ t) in
    let same = left_same o n left rest (sym u ∙ t) in
    ap (λ (i : ℕ). i + 1) (finishes_same c f (subst (λ (xs : List Answer). Finishes c n xs k) same (subst (λ (x : Machine). Finishes c x left k) there g)))

finished_same : (s : ProcView) (a b : ℕ) → HasFinished s a → HasFinished s b → a ≡ b
finished_same s a b x y = x.2 ∙ ap saturate (finishes_same s.code x.1 y.1) ∙ sym y.2

pub one_count : (c : Code) (s : RunConfig) (es ds : List Entry) (xs ys : List ℕ) → ((i : ℕ) → entries_of i es ≡ entries_of i ds) → AreFinishedCounts c s es xs → AreFinishedCounts c s ds ys → xs ≡ ys
one_count c s es ds xs ys same x y = ext_get_or 0 xs ys (x.count ∙ sym y.count) (λ i below.
    let under : i < length ys = subst (λ (n : ℕ). i < n) (x.count ∙ sym y.count) below in
    finished_same (proc_view_after c s es i) (get_or xs i 0) (get_or ys i 0) (x.each i (get_or xs i 0) (slice_get-get_or xs i 0 below))
    (subst (λ (own : List Entry). HasFinished (record (proc_view_after c s es i)
    { answers = map (λ (e : Entry). e.answer) (filter is_answered own) }) (get_or ys i 0)) (sym (same i))
    (y.each i (get_or ys i 0) (slice_get-get_or ys i 0 under))))
