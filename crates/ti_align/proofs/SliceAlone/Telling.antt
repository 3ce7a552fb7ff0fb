-- In every run the slice tells what each process arrives at next, and whether it ends.
use Rattle.std.proofs.Common.{◌≡◌, ℕ, suc, ◌+◌, ◌≤◌, ◌==◌, true, false, inl, inr, map, filter, length, append-nil, append_assoc, Option, Some, None, List, [], ◌∷◌, ◌++◌, refl, ap, ap₂, sym, ◌∙◌, subst, arith, eq-eqb}
use Rattle.ti_base.specs.declared.action.Action.TheVariants as act
use Rattle.ti_base.specs.declared.entry.Answer.{Answer}
use Rattle.ti_base.specs.declared.entry.Entry.{Entry}
use Rattle.ti_lang.specs.Meaning.Answers.{FitsWanted}
use Rattle.ti_lang.specs.Meaning.Processes.{RunConfig, Wait, Process, begin}
use Rattle.ti_lang.specs.Meaning.Steps.{Ends, At, step}
use Rattle.ti_lang.specs.Meaning.Histories.{is_departure, has_end}
use Rattle.ti_lang.specs.Meaning.Runs.{IsRun}
use Rattle.ti_lang.proofs.Lemmas.{after_same, fronts, history_grows}
use Rattle.ti_lang.proofs.Lemmas as limits
use Rattle.ti_align.specs.declared.slices.SliceStep.{SliceStep}
use Rattle.ti_align.specs.declared.slices.SliceStep.TheVariants as answer
use Rattle.ti_align.specs.Alignment.{SingleArrival, ArrivesAt}
use Rattle.ti_align.specs.Slice.{SliceAnswers, AllFit, answers_at_departures, SliceTells}
use Rattle.ti_align.proofs.Alignment.Slice.{slice}
use Rattle.ti_align.proofs.Runs.Ways.{Meeting, comings, answers_left, waiting, asking}
use Rattle.ti_align.proofs.SliceAlone.FitWays.{FitWay, stop, fit_then, fit_reach}
use Rattle.ti_align.proofs.Runs.Vars.{if_true}
use Rattle.ti_align.proofs.Runs.Entries.{departures_both, own}
use Rattle.ti_align.proofs.Alignment.Fitting.{FineMethods}
use Rattle.ti_align.proofs.Alignment.Stepping.{Ok, begin_ok}
use Rattle.ti_align.proofs.Alignment.Passing.{kind_of}
use Rattle.ti_align.proofs.Runs.Balance.{step_waits, balanced}
use Rattle.ti_align.proofs.Runs.Running.{at_action}
use Rattle.ti_align.proofs.Alignment.Aligning.{run_before, way_next, ends_at}
use Rattle.ti_align.proofs.SliceAlone.Sliced.{begin_sliced}
use Rattle.ti_align.proofs.SliceAlone.Pacing.{Free, paced}
use Rattle.ti_align.proofs.SliceAlone.Pathed.{met_after, met_in, Suits, on_path}
use Rattle.ti_align.proofs.SliceAlone.Slicing.{Open, Shows, follow, blames_none, heads}
use Rattle.ti_align.proofs.SliceAlone.Ticking.{fed}

-- ---- lists

suc_same : (a b : ℕ) → suc a ≡ suc b → a ≡ b
suc_same a b e = omega arith

zero_suc : (n : ℕ) → ◌≡◌ {A = ℕ} 0 (suc n) → ⊥
zero_suc n e = absurd (omega arith)

suc_zero : (n : ℕ) → ◌≡◌ {A = ℕ} (suc n) 0 → ⊥
suc_zero n e = absurd (omega arith)

-- fronts of one length of one list
front_same : (xs ys us vs : List Answer) → xs ++ us ≡ ys ++ vs → length xs ≡ length ys → xs ≡ ys
front_same [] [] us vs e l = refl
front_same [] (y ∷ ys) us vs e l = absurd (zero_suc (length ys) l)
front_same (x ∷ xs) [] us vs e l = absurd (suc_zero (length xs) l)
front_same (x ∷ xs) (y ∷ ys) us vs e l = let k = heads x y (xs ++ us) (ys ++ vs) e in ap₂ (λ a b. a ∷ b) k.0 (front_same xs ys us vs k.1 (suc_same _ _ l))

-- ---- what the slice answers

no_more_than : (a b c : ℕ) → 0 + a ≤ b → b ≤ c → 0 + a ≤ c
no_more_than a b c x y = omega (arith, x, y)

begun : (outcomes : List Answer) → Open None outcomes
begun [] = refl
begun (r ∷ rest) = tt

-- where the way of a process shows an answer, the slice comes to it
shown : (s : RunConfig) → FineMethods s.program s.program.methods
    → (i : ℕ) (p : Process) (ms : List Meeting) (outcomes : List Answer) (x z : SliceStep) → FitWay FitsWanted (begin s i) ms p
    → Free [] [] ms → (Ok s p → Shows s None ms (slice p) z)
    → SliceAnswers s outcomes x → AllFit x → answers_left ms ≡ outcomes → p.spent ≤ s.fuel → x ≡ z
shown s fine i p ms outcomes x z w f o a fit t l =
    let y = paced s FitsWanted [] [] (begin s i) p ms (begin_ok s i fine) w refl f in
    follow s FitsWanted z (begin s 0) [] 0 outcomes x a fit (begin_sliced s fine) None (begun outcomes) ms y.1.0 (slice p) y.1.1 t (no_more_than y.1.0 p.spent s.fuel y.1.2 l) (o y.0)

-- ---- outcomes

-- what processes are answered at departures in all runs fits what is wanted there
abbrev pub AllSuit : RunConfig → Type 0
AllSuit s = (i : ℕ) (es : List Entry) → IsRun s es → Suits FitsWanted s es i

fits : (s : RunConfig) → FineMethods s.program s.program.methods → AllSuit s → (es : List Entry) → IsRun s es → (i : ℕ) (x : SliceStep) → SliceAnswers s (answers_at_departures i es) x → AllFit x
fits s fine suit es w i x ans =
    let o = on_path FitsWanted s es w i (suit i) in
    let y = paced s FitsWanted [] [] (begin s i) o.1.process o.0 (begin_ok s i fine) o.1.goes refl o.1.free in
    blames_none s FitsWanted (λ v r k. k) (begin s 0) [] 0 (answers_at_departures i es) x ans (begin_sliced s fine) None o.0 y.1.0
    (slice o.1.process) y.1.1 o.1.told (no_more_than y.1.0 o.1.process.spent s.fuel y.1.2 (limits.within s i _ o.1.process o.1.world).0)
    tt

-- ---- arrivals

no_waiting : (a b : ℕ) → a ≡ b + 0 → a ≡ b
no_waiting a b h = omega (arith, h)

-- a process that arrives has left as often as it had arrived before
left_all : (s : RunConfig) (es : List Entry) (i k : ℕ) (a : SingleArrival) → IsRun s es → (x : ArrivesAt s es i k a) → length (answers_at_departures i x.before) ≡ k
left_all s es i k a w x =
    let before = run_before s es x.before x.rest _ w x.split in
    let y = way_next s x.before i x.process x.settled before x.world x.settles.reaches in
    let c = at_action (step x.settled) a.place (act.Arrive a.kind a.arg x.deposit) x.settles.stands in
    let n = step_waits x.settled (At (asking a.place (act.Arrive a.kind a.arg x.deposit) c.0) c.1) c.2 in
    sym (ap length y.3)
    ∙ sym (no_waiting (comings y.0) (length (answers_left y.0)) (balanced s i x.settled y.0 y.1 ∙ ap (λ (o : Option Wait). length (answers_left y.0) + waiting o) n.0))
    ∙ y.2 ∙ x.count

-- the entry of an arrival
abbrev arrival_entry : (s : RunConfig) (es : List Entry) (i k : ℕ) (a : SingleArrival) → ArrivesAt s es i k a → Entry
arrival_entry s es i k a x = record { proc = i; place = a.place; act = act.Arrive a.kind a.arg x.deposit; answer = x.answer }

no_departure : (i : ℕ) (e : Entry) → (e.proc == i) ≡ true → is_departure e.act ≡ false → answers_at_departures i (e ∷ []) ≡ []
no_departure i e h d = ap (λ x. map (λ (e : Entry). e.answer) (filter (λ (e : Entry). is_departure e.act) x)) (own i e h) ∙ none
  where
    none : map (λ (e : Entry). e.answer) (filter (λ (e : Entry). is_departure e.act) (e ∷ [])) ≡ []
    none = rw d refl

arrives : (s : RunConfig) → FineMethods s.program s.program.methods → AllSuit s → (es : List Entry) → IsRun s es
    → (i : ℕ) (outcomes others : List Answer) (x : SliceStep) (a : SingleArrival) → SliceAnswers s outcomes x → answers_at_departures i es
    ≡ outcomes ++ others
    → ArrivesAt s es i (length outcomes) a → x ≡ answer.At a.kind a.place a.arg
arrives s fine suit es w i outcomes others x a ans d y =
    let e = arrival_entry s es i (length outcomes) a y in
    let run : IsRun s (y.before ++ e ∷ []) = fronts s (y.before ++ e ∷ []) y.rest (subst (IsRun s) (y.split ∙ sym (append_assoc y.before (e ∷ []) y.rest)) w) in
    let o = on_path FitsWanted s (y.before ++ e ∷ []) run i (suit i) in
    let same : outcomes ≡ answers_at_departures i y.before =
    front_same outcomes (answers_at_departures i y.before) others (answers_at_departures i (e ∷ y.rest))
    (sym d ∙ ap (answers_at_departures i) y.split ∙ departures_both i y.before (e ∷ y.rest)) (sym (left_all s es i (length outcomes) a w y)) in
    let fit : AllFit x = fits s fine suit y.before (run_before s es y.before y.rest _ w y.split) i x (subst (λ rs. SliceAnswers s rs x) same ans) in
    let none : answers_at_departures i (y.before ++ e ∷ []) ≡ answers_at_departures i y.before =
    departures_both i y.before (e ∷ []) ∙ ap (λ l. answers_at_departures i y.before ++ l) (no_departure i e (eq-eqb i i refl) refl) ∙ append-nil (answers_at_departures i y.before) in
    let met : met_after None o.0 ≡ Some (answer.At a.kind a.place a.arg) =
    o.1.met ∙ ap (met_in i) (history_grows y.before e) ∙ if_true (i == i) _ _ (eq-eqb i i refl) in
    shown s fine i o.1.process o.0 outcomes x (answer.At a.kind a.place a.arg) o.1.goes o.1.free (λ k. inl met) ans fit (o.1.told ∙ none ∙ sym same) (limits.within s i _ o.1.process o.1.world).0

-- ---- ends

ends : (s : RunConfig) → FineMethods s.program s.program.methods → AllSuit s → (es : List Entry) → IsRun s es → (i : ℕ) (x : SliceStep)
    → SliceAnswers s (answers_at_departures i es) x → has_end i es ≡ true → x ≡ answer.Ended
ends s fine suit es w i x ans h =
    let e = ends_at s fine es i w h in
    let o = on_path FitsWanted s es w i (suit i) in
    let same : o.1.process ≡ e.process = after_same _ _ _ _ o.1.world e.world in
    let on : FitWay FitsWanted (begin s i) (o.0 ++ []) e.settled =
    fit_then (begin s i) e.process e.settled o.0 [] (subst (FitWay FitsWanted (begin s i) o.0) same o.1.goes)
    (fit_reach e.process e.settled e.settled [] e.reaches stop) in
    let goes : FitWay FitsWanted (begin s i) o.0 e.settled = subst (λ ms. FitWay FitsWanted (begin s i) ms e.settled) (append-nil o.0) on in
    let first = paced s FitsWanted [] [] (begin s i) e.process o.0 (begin_ok s i fine) (subst (FitWay FitsWanted (begin s i) o.0) same o.1.goes) refl o.1.free in
    let last = paced s FitsWanted [] [] (begin s i) e.settled o.0 (begin_ok s i fine) goes refl o.1.free in
    let spent : e.settled.spent ≤ s.fuel =
    subst (λ (k : RunConfig). e.settled.spent ≤ k.fuel) last.0.0
    (fed e.process e.settled (subst (λ (k : RunConfig). e.process.spent ≤ k.fuel) (sym first.0.0) (limits.within s i _ e.process e.world).0) e.reaches) in
    shown s fine i e.settled o.0 (answers_at_departures i es) x answer.Ended goes o.1.free
    (λ k. inr (kind_of s e.settled (Ends e.place) k e.stands, refl)) ans (fits s fine suit es w i x ans) o.1.told spent

-- ---- all of it

pub tells : (s : RunConfig) → FineMethods s.program s.program.methods → AllSuit s → (es : List Entry) → IsRun s es → SliceTells s es
tells s fine suit es w = record { fits = fits s fine suit es w; arrives = arrives s fine suit es w; ends = ends s fine suit es w }
