-- Each answer has cost a tick: how often a process has done something is at most its fuel.
use Rattle.std.proofs.Common.{◌≡◌, ℕ, suc, ◌+◌, ◌≤◌, ◌==◌, nat_lt, length, Bool, true, false, cond, if◌then◌else◌, map, filter, count_by, reverse, List, [], ◌∷◌, ◌++◌, Option, Some, None, refl, ap, sym, ◌∙◌, subst, arith}
use Rattle.std.proofs.lemmas.List.{reverse-append}
use Rattle.std.proofs.lemmas.List.Elements.{filter-append}
use Rattle.std.proofs.lemmas.List.Sums.{sum_by-append}
use Rattle.ti_base.specs.declared.place.Place.{Place}
use Rattle.ti_base.specs.declared.fault.FaultKind.TheVariants.{Depth, Fuel}
use Rattle.ti_base.specs.declared.entry.Answer.{Answer}
use Rattle.ti_base.specs.declared.entry.Entry.{Entry}
use Rattle.ti_lang.specs.Meaning.Comp.{CompResult, Gives, Asks, Fails}
use Rattle.ti_lang.specs.Meaning.Processes.{RunConfig, ContItem, Frame, frame_of, Wait, Process, begin}
use Rattle.ti_lang.specs.Meaning.Moves.{Move, Goes, Turns, Breaks, Continues, Calls, Returns, Meets, Deletes}
use Rattle.ti_lang.specs.Meaning.Performing.{exec_item}
use Rattle.ti_lang.specs.Meaning.Scoping.{env_of}
use Rattle.ti_lang.specs.Meaning.Jumps.{has_mark}
use Rattle.ti_lang.specs.Meaning.Steps.{Step, To, At, Faults, spends, ticks, step_of_result, most_frames, moves, works, runs, steps}
use Rattle.ti_lang.specs.Meaning.NextStep.{Reaches, here, later, After, none, more}
use Rattle.ti_lang.specs.Meaning.Histories.{history_of, is_answered, entries_of, answers_of}
use Rattle.ti_lang.specs.Meaning.Runs.{ProcAfter, IsRun}
use Rattle.ti_lang.proofs.Lemmas as limits
use Rattle.ti_align.proofs.Runs.Vars.{true_false}
use Rattle.ti_align.proofs.Runs.Running.{on_way}

-- ---- steps

-- a silent step spends nothing or more, and an action one tick
abbrev Pays : Process → Step → Type 0
Pays p (To q) = p.spent ≤ q.spent
Pays p (At request go) = (r : Answer) → (go r).spent ≡ p.spent + 1
Pays p st = Unit {0}

pays_if : (p : Process) (b : Bool) (x y : Step) → Pays p x → Pays p y → Pays p (if b then x else y)
pays_if p true x y f g = f
pays_if p false x y f g = g

pays_ticks : (p : Process) (at : Place) (after : Step) → Pays p after → Pays p (ticks p at after)
pays_ticks p at after h = pays_if p (nat_lt p.spent p.setting.fuel) after (Faults Fuel at) h tt

same_pays : (p : Process) (b : Bool) (x y : Process) → x.spent ≡ p.spent → y.spent ≡ p.spent → p.spent ≤ (if b then x else y).spent
same_pays p true x y e f = omega (arith, e)
same_pays p false x y e f = omega (arith, f)

no_less : (a : ℕ) → a ≤ a
no_less a = omega arith

one_more : (a : ℕ) → a ≤ a + 1
one_more a = omega arith

pays_moves : (p : Process) (f : Frame) (fs : List Frame) (left : List ContItem) (mv : Move) → Pays p (moves p f fs left mv)
pays_moves p f fs left (Goes vs ws) = no_less p.spent
pays_moves p f fs left (Turns at vs ws) = pays_ticks p at _ (one_more p.spent)
pays_moves p f fs left Breaks = same_pays p (has_mark left) _ _ refl refl
pays_moves p f fs left Continues = same_pays p (has_mark left) _ _ refl refl
pays_moves p f fs left (Calls at m this ps r) =
    pays_ticks p at _ (pays_if p (nat_lt (length (f ∷ fs)) most_frames)
    (To (spends (record p { frames = frame_of m this ps r ∷ record f { left = left } ∷ fs; wait = None; answers = [] })))
    (Faults Depth at) (one_more p.spent) tt)
pays_moves p f fs left (Returns v) = no_less p.spent
pays_moves p f fs left (Meets wait given behind) = pays_ticks p wait.place _ (λ r. refl)
pays_moves p f fs left (Deletes at region) = pays_ticks p at _ (λ r. refl)

pays_valued : (p : Process) (f : Frame) (fs : List Frame) (left : List ContItem) (g : CompResult Move) → Pays p (step_of_result p g (moves p f fs left))
pays_valued p f fs left (Gives mv rest) = pays_moves p f fs left mv
pays_valued p f fs left (Asks request) = pays_ticks p request.place _ (λ r. refl)
pays_valued p f fs left (Fails kind at) = tt

pays_works : (p : Process) (f : Frame) (fs : List Frame) (ws : List ContItem) → Pays p (works p f fs ws)
pays_works p f fs [] = no_less p.spent
pays_works p f fs (x ∷ left) = pays_valued p f fs left (exec_item (env_of p f left) x p.answers)

pays_runs : (p : Process) (fs : List Frame) → Pays p (runs p fs)
pays_runs p [] = tt
pays_runs p (f ∷ fs) = pays_works p f fs f.left

pays_steps : (p : Process) (x : Option Wait) → Pays p (steps p x)
pays_steps p None = pays_runs p p.frames
pays_steps p (Some x) = pays_ticks p x.place _ (λ r. refl)

-- ---- answers

through : (a b c : ℕ) → a ≤ b → b ≤ c → a ≤ c
through a b c h k = omega (arith, h, k)

reach_pays : (p q : Process) → Reaches p q → p.spent ≤ q.spent
reach_pays p q here = no_less p.spent
reach_pays p q (later {q = r} e x) = through p.spent r.spent q.spent (subst (Pays p) e (pays_steps p p.wait)) (reach_pays r q x)

adds : (a b c n d : ℕ) → a ≤ b → c ≡ b + 1 → c + n ≤ d → a + suc n ≤ d
adds a b c n d h k l = omega (arith, h, k, l)

plus_none : (a : ℕ) → a + 0 ≤ a
plus_none a = omega arith

pub after_pays : (p q : Process) (rs : List Answer) → After p rs q → p.spent + length rs ≤ q.spent
after_pays p q [] none = plus_none p.spent
after_pays p q (r ∷ rs) (more {q = x} {go = go} a b c) =
    adds p.spent x.spent (go r).spent (length rs) q.spent (reach_pays p x a) ((subst (Pays x) b (pays_steps x x.wait)) r) (after_pays (go r) q rs c)

-- ---- entries

-- what is counted among the answered entries is no more than the answers
counted : (p : Entry → Bool) → ((e : Entry) → p e ≡ true → is_answered e ≡ true) → (xs : List Entry) → count_by p xs ≤ length (map (λ (e : Entry). e.answer) (filter is_answered xs))
counted p h [] = no_less 0
counted p h (e ∷ xs) = by (p e) (is_answered e) refl refl (counted p h xs) (sum_by-append (λ (e : Entry). cond (p e) 1 0) (e ∷ []) xs)
  where
    by : (a b : Bool) → p e ≡ a → is_answered e ≡ b → count_by p xs ≤ length (map (λ (e : Entry). e.answer) (filter is_answered xs)) → count_by p (e ∷ xs) ≡ (0 + cond (p e) 1 0) + count_by p xs
        → count_by p (e ∷ xs) ≤ length (map (λ (e : Entry). e.answer) (filter is_answered (e ∷ xs)))
    by true true k l ih z = rw l (omega (arith, ih, z, ap {B = ℕ} (λ b. cond b 1 0) k))
    by true false k l ih z = absurd (true_false (sym (h e k) ∙ l))
    by false true k l ih z = rw l (omega (arith, ih, z, ap {B = ℕ} (λ b. cond b 1 0) k))
    by false false k l ih z = rw l (omega (arith, ih, z, ap {B = ℕ} (λ b. cond b 1 0) k))

-- a history has what its entries have
swapped : (a b c d : ℕ) → a ≡ c → a + b ≡ b + c
swapped a b c d h = omega (arith, h)

count_both : (p : Entry → Bool) (i : ℕ) (es ds : List Entry) → count_by p (entries_of i (es ++ ds)) ≡ count_by p (entries_of i es) + count_by p (entries_of i ds)
count_both p i es ds = ap (count_by p) (filter-append (λ (e : Entry). e.proc == i) es ds) ∙ sum_by-append (λ (e : Entry). cond (p e) 1 0) (entries_of i es) (entries_of i ds)

back : (p : Entry → Bool) (i : ℕ) (es : List Entry) → count_by p (entries_of i (history_of es)) ≡ count_by p (entries_of i es)
back p i [] = refl
back p i (e ∷ es) =
    ap (λ x. count_by p (entries_of i x)) (reverse-append (e ∷ []) es) ∙ count_both p i (reverse es) (e ∷ []) ∙ swapped _ _ _ 0 (back p i es) ∙ sym (count_both p i (e ∷ []) es)

bounded : (a b c d : ℕ) → a ≤ b → 0 + b ≤ c → c ≤ d → a ≤ d
bounded a b c d h k l = omega (arith, h, k, l)

-- a process has done no more of a kind than it has ticks
pub no_more_than_fuel : (s : RunConfig) (es : List Entry) (i : ℕ) (p : Process) → ProcAfter s es i p → (f : Entry → Bool)
    → ((e : Entry) → f e ≡ true → is_answered e ≡ true) → count_by f (entries_of i es) ≤ s.fuel
no_more_than_fuel s es i p w f h =
    bounded (count_by f (entries_of i es)) (length (answers_of i es)) p.spent s.fuel (counted f h (entries_of i es))
    (after_pays (begin s i) p (answers_of i es) w) (limits.within s i (answers_of i es) p w).0

-- nor has one in a run
pub at_most_fuel : (s : RunConfig) (es : List Entry) → IsRun s es → (i : ℕ) (f : Entry → Bool) → ((e : Entry) → f e ≡ true → is_answered e ≡ true) → count_by f (entries_of i (history_of es)) ≤ s.fuel
at_most_fuel s es w i f h = let o = on_way s es w i in subst (λ n. n ≤ s.fuel) (sym (back f i es)) (no_more_than_fuel s es i o.process o.world f h)
