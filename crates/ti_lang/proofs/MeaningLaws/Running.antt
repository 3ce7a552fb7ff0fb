-- A process takes at most one entry; fronts of runs are runs; the entries of a run are answered.
use Rattle.std.proofs.Common.{◌≡◌, ◌⊎◌, inl, inr, ℕ, ◌+◌, ◌≤◌, true, false, Some, List, [], ◌∷◌, ◌++◌, length, map, reverse, refl, sym, ◌∙◌, ap, subst, arith, length-append}
use Rattle.std.proofs.lemmas.Bool.{cases_lt}
use Rattle.std.proofs.lemmas.List.{reverse-append, reverse-reverse, map-append}
use Rattle.ti_base.specs.declared.place.Place.{Place}
use Rattle.ti_base.specs.declared.action.Action.{Action}
use Rattle.ti_base.specs.declared.entry.Answer.{Answer}
use Rattle.ti_base.specs.declared.entry.Entry.{Entry}
use Rattle.ti_base.specs.declared.entry.Next.{Next}
use Rattle.ti_base.specs.declared.entry.Next.TheVariants as next
use Rattle.ti_lang.specs.Program.Classes.{ProgramView}
use Rattle.ti_lang.specs.Meaning.Processes.{RunConfig, Process}
use Rattle.ti_lang.specs.Meaning.Steps.{Step, To, At, Ends, Faults as FaultsAt, step}
use Rattle.ti_lang.specs.Meaning.NextStep.{IsNext, After, more, none, step_label}
use Rattle.ti_lang.specs.Meaning.Histories.{History, history_of}
use Rattle.ti_lang.specs.Meaning.HeapAnswers.{Outcome, Answers, Faults, Impossible, heap_answer, IsAnswered}
use Rattle.ti_lang.specs.Meaning.HeapAnswers as heap
use Rattle.ti_lang.specs.Meaning.Runs.{ProcAfter, entry_with, entry_of, CanTake, IsRun, IsSolo, IsComplete}
use Rattle.ti_lang.specs.Meaning.Runs as r
use Rattle.ti_lang.proofs.MeaningLaws.Steps.{some_same, none_some, next_same, settles_at, after_same}

pub some_entry : (d e : Entry) → Some d ≡ Some e → d ≡ e
some_entry d e h = cc

pub entry_same : (s : RunConfig) (es : List Entry) (i : ℕ) (d e : Entry) → CanTake s es i d → CanTake s es i e → d ≡ e
entry_same s es i d e x y =
    let same : x.process ≡ y.process = after_same _ _ _ _ x.world y.world in
    let next : x.next ≡ y.next = next_same y.process _ _ (subst (λ p. IsNext p x.next) same x.is_next) y.is_next in
    some_entry d e (sym x.entry ∙ ap (entry_of s es i) next ∙ y.entry)

pub world_same : (s : RunConfig) (es : List Entry) (i : ℕ) (p q : Process) → ProcAfter s es i p → ProcAfter s es i q → p ≡ q
world_same s es i p q x y = after_same _ _ _ _ x y

-- ---- how a process goes on

-- after each answer to an action
pub goes_on : (p : Process) (at : Place) (a : Action) (r : Answer) → IsNext p (next.Act at a) → (q : Process) × After p (r ∷ []) q
goes_on p at a r n = by (step n.0) refl n.1.stands
  where
    by : (s : Step) → step n.0 ≡ s → step_label s ≡ Some (next.Act at a) → (q : Process) × After p (r ∷ []) q
    by (To q) e z = absurd (none_some _ z)
    by (At request go) e z = (go r, more n.1.reaches e none)
    by (Ends place) e z = absurd (let c : next.End place ≡ next.Act at a = some_same _ _ z in cc)
    by (FaultsAt kind place) e z = absurd (let c : next.Fault kind place ≡ next.Act at a = some_same _ _ z in cc)

-- and after nothing else
pub only_acts : (p q : Process) (n : Next) (r : Answer) → IsNext p n → After p (r ∷ []) q → (at : Place) × (a : Action) × (n ≡ next.Act at a)
only_acts p q n r x (more {q = s} {request = w} {go = go} reaches e rest) = (w.place, w.action, next_same p n _ x (s, settles_at p s w go reaches e))

-- ---- fronts

same_tail : (x y : Entry) (xs ys : List Entry) → x ∷ xs ≡ y ∷ ys → xs ≡ ys
same_tail x y xs ys e = cc

same_head : (x y : Entry) (xs ys : List Entry) → x ∷ xs ≡ y ∷ ys → x ≡ y
same_head x y xs ys e = cc

both_same : (x y : Entry) (xs ys : List Entry) → x ≡ y → xs ≡ ys → x ∷ xs ≡ y ∷ ys
both_same x y xs ys e f = cc

none_more : (x : Entry) (xs : List Entry) → [] ≡ x ∷ xs → ⊥
none_more x xs e = cc

-- the front of a list that ends in one entry is all of it, or a front of what is before that entry
front : (bs : List Entry) (b : Entry) (xs ys : List Entry) → bs ++ b ∷ [] ≡ xs ++ ys → (xs ≡ bs ++ b ∷ []) ⊎ ((zs : List Entry) × (bs ≡ xs ++ zs))
front bs b [] ys e = inr (bs, refl)
front [] b (x ∷ []) ys e = inl (both_same x b [] [] (sym (same_head b x [] ys e)) refl)
front [] b (x ∷ y ∷ xs) ys e = absurd (none_more y (xs ++ ys) (same_tail b x [] _ e))
front (c ∷ bs) b (x ∷ xs) ys e = by (front bs b xs ys (same_tail c x _ _ e))
  where
    by : (xs ≡ bs ++ b ∷ []) ⊎ ((zs : List Entry) × (bs ≡ xs ++ zs)) → (x ∷ xs ≡ c ∷ bs ++ b ∷ []) ⊎ ((zs : List Entry) × (c ∷ bs ≡ x ∷ xs ++ zs))
    by (inl k) = inl (both_same x c xs _ (sym (same_head c x _ _ e)) k)
    by (inr k) = inr (k.0, both_same c x bs _ (same_head c x _ _ e) k.1)

front_run : (s : RunConfig) (es all : List Entry) → IsRun s all → (rest : List Entry) → all ≡ es ++ rest → IsRun s es
front_run s [] all run rest e = r.none
front_run s (x ∷ es) all r.none rest e = absurd (none_more x (es ++ rest) e)
front_run s (x ∷ es) all (r.more {es = before} {e = last} run take z) rest e = by (λ zs k. front_run s (x ∷ es) before run zs k) (front before last (x ∷ es) rest (sym z ∙ e))
  where
    by : ((zs : List Entry) → before ≡ x ∷ es ++ zs → IsRun s (x ∷ es)) → (x ∷ es ≡ before ++ last ∷ []) ⊎ ((zs : List Entry) × (before ≡ x ∷ es ++ zs)) → IsRun s (x ∷ es)
    by earlier (inl k) = r.more run take k
    by earlier (inr k) = earlier k.0 k.1

pub fronts : (s : RunConfig) (es rest : List Entry) → IsRun s (es ++ rest) → IsRun s es
fronts s es rest run = front_run s es (es ++ rest) run rest refl

-- ---- answers

-- the entry says what the history before it gives
abbrev IsSaid : ProgramView → History → Entry → Type 0
IsSaid program h e = heap_answer program h e.proc e.act ≡ Answers e.answer

said_with : (program : ProgramView) (h : History) (i : ℕ) (at : Place) (a : Action) (o : Outcome) (e : Entry) → heap_answer program h i a ≡ o → entry_with i at a o ≡ Some e → IsSaid program h e
said_with program h i at a (Answers answer) e k m = subst (IsSaid program h) (some_entry _ e m) k
said_with program h i at a (Faults kind) e k m = subst (IsSaid program h) (some_entry _ e m) refl
said_with program h i at a Impossible e k m = cc

said : (s : RunConfig) (es : List Entry) (i : ℕ) (n : Next) (e : Entry) → entry_of s es i n ≡ Some e → IsSaid s.program (history_of es) e
said s es i (next.Act at a) e m = said_with s.program (history_of es) i at a (heap_answer s.program (history_of es) i a) e refl m
said s es i (next.End at) e m = subst (IsSaid s.program (history_of es)) (some_entry _ e m) refl
said s es i (next.Fault kind at) e m = subst (IsSaid s.program (history_of es)) (some_entry _ e m) refl

pub history_grows : (es : List Entry) (e : Entry) → history_of (es ++ e ∷ []) ≡ e ∷ history_of es
history_grows es e = reverse-append es (e ∷ [])

pub run_answered : (s : RunConfig) (es : List Entry) → IsRun s es → IsAnswered s.program (history_of es)
run_answered s es r.none = heap.none
run_answered s all (r.more {es = es} {i = i} {e = e} run take z) =
    subst (λ x. IsAnswered s.program (history_of x)) (sym z)
    (subst (IsAnswered s.program) (sym (history_grows es e)) (heap.more (run_answered s es run) (said s es i take.next e take.entry)))

-- ---- who takes the entries decides the run

-- the process of an entry is the one that takes it
taker_with : (i : ℕ) (at : Place) (a : Action) (o : Outcome) (e : Entry) → entry_with i at a o ≡ Some e → e.proc ≡ i
taker_with i at a (Answers answer) e m = sym (ap (λ (x : Entry). x.proc) (some_entry _ e m))
taker_with i at a (Faults kind) e m = sym (ap (λ (x : Entry). x.proc) (some_entry _ e m))
taker_with i at a Impossible e m = cc

taker_of : (s : RunConfig) (es : List Entry) (i : ℕ) (n : Next) (e : Entry) → entry_of s es i n ≡ Some e → e.proc ≡ i
taker_of s es i (next.Act at a) e m = taker_with i at a (heap_answer s.program (history_of es) i a) e m
taker_of s es i (next.End at) e m = sym (ap (λ (x : Entry). x.proc) (some_entry _ e m))
taker_of s es i (next.Fault kind at) e m = sym (ap (λ (x : Entry). x.proc) (some_entry _ e m))

pub taker : (s : RunConfig) (es : List Entry) (i : ℕ) (e : Entry) → CanTake s es i e → e.proc ≡ i
taker s es i e take = taker_of s es i take.next e take.entry

same_first : (x y : ℕ) (xs ys : List ℕ) → x ∷ xs ≡ y ∷ ys → x ≡ y
same_first x y xs ys e = cc

same_rest : (x y : ℕ) (xs ys : List ℕ) → x ∷ xs ≡ y ∷ ys → xs ≡ ys
same_rest x y xs ys e = cc

-- lists of numbers that end in one number
last_same : (xs ys : List ℕ) (x y : ℕ) → xs ++ x ∷ [] ≡ ys ++ y ∷ [] → (xs ≡ ys) × (x ≡ y)
last_same xs ys x y e =
    let back : x ∷ reverse xs ≡ y ∷ reverse ys = sym (reverse-append xs (x ∷ [])) ∙ ap reverse e ∙ reverse-append ys (y ∷ []) in
    (sym (reverse-reverse xs) ∙ ap reverse (same_rest x y _ _ back) ∙ reverse-reverse ys, same_first x y _ _ back)

none_end : (xs : List ℕ) (x : ℕ) → [] ≡ xs ++ x ∷ [] → ⊥
none_end [] x e = cc
none_end (y ∷ xs) x e = cc

-- the processes of the entries
abbrev procs_of : List Entry → List ℕ
procs_of es = map (λ (x : Entry). x.proc) es

procs_more : (es : List Entry) (e : Entry) → procs_of (es ++ e ∷ []) ≡ procs_of es ++ e.proc ∷ []
procs_more es e = map-append (λ (x : Entry). x.proc) es (e ∷ [])

pub decided : (s : RunConfig) (es ds : List Entry) → IsRun s es → IsRun s ds → procs_of es ≡ procs_of ds → es ≡ ds
decided s es ds r.none r.none h = refl
decided s es ds r.none (r.more {es = b} {e = y} run take z) h = absurd (none_end (procs_of b) y.proc (h ∙ ap procs_of z ∙ procs_more b y))
decided s es ds (r.more {es = a} {e = x} run take z) r.none h = absurd (none_end (procs_of a) x.proc (sym h ∙ ap procs_of z ∙ procs_more a x))
decided s es ds (r.more {es = a} {i = i} {e = x} run take z) (r.more {es = b} {i = j} {e = y} ran took w) h =
    let ends = last_same (procs_of a) (procs_of b) x.proc y.proc (sym (procs_more a x) ∙ ap procs_of (sym z) ∙ h ∙ ap procs_of w ∙ procs_more b y) in
    let before : a ≡ b = decided s a b run ran ends.0 in
    let who : j ≡ i = sym (taker s b j y took) ∙ sym ends.1 ∙ taker s a i x take in
    let own : CanTake s a i y = subst (λ es. CanTake s es i y) (sym before) (subst (λ k. CanTake s b k y) who took) in
    let last : x ≡ y = entry_same s a i x y take own in
    z ∙ ap (λ es. es ++ x ∷ []) before ∙ ap (λ d. b ++ d ∷ []) last ∙ sym w

-- ---- one solo run

pub solo_run : (s : RunConfig) (es : List Entry) → IsSolo s es → IsRun s es
solo_run s es r.none = r.none
solo_run s es (r.more w t l z) = r.more (solo_run s _ w) t z

length_more : (es all : List Entry) (e : Entry) → all ≡ es ++ e ∷ [] → length all ≡ length es + 1
length_more es all e z = ap (λ (l : List Entry). length l) z ∙ length-append es (e ∷ [])

-- two solo runs of as many entries are one
solo_same : (s : RunConfig) (es ds : List Entry) → IsSolo s es → IsSolo s ds → length es ≡ length ds → es ≡ ds
solo_same s es ds r.none r.none h = refl
solo_same s es ds r.none (r.more {es = b} {e = y} run took least w) h = absurd (omega (arith, h, length_more b ds y w))
solo_same s es ds (r.more {es = a} {e = x} run take first z) r.none h = absurd (omega (arith, h, length_more a es x z))
solo_same s es ds (r.more {es = a} {i = i} {e = x} run take first z) (r.more {es = b} {i = j} {e = y} ran took least w) h =
    let before : a ≡ b = solo_same s a b run ran (omega (arith, h, length_more a es x z, length_more b ds y w)) in
    let there : CanTake s b i x = subst (λ es. CanTake s es i x) before take in
    let own : CanTake s a j y = subst (λ es. CanTake s es j y) (sym before) took in
    let who : j ≡ i = elim (cases_lt i j) [
      | inl below ↦ absurd (least i x below there)
      | inr above ↦ elim (cases_lt j i) [ inl below ↦ absurd (first j y below own) | inr same ↦ omega arith ]
    ] in
    let last : x ≡ y = entry_same s a i x y take (subst (λ k. CanTake s a k y) who own) in
    z ∙ ap (λ es. es ++ x ∷ []) before ∙ ap (λ d. b ++ d ∷ []) last ∙ sym w

-- nobody can take an entry after a complete run
nobody_goes_on : (s : RunConfig) (es : List Entry) (i : ℕ) (e : Entry) → IsComplete s es → CanTake s es i e → ⊥
nobody_goes_on s es i e (inl fault) take = let c : true ≡ false = sym fault ∙ take.goes_on in cc
nobody_goes_on s es i e (inr ended) take = let c : true ≡ false = sym (ended i take.within) ∙ take.unended in cc

-- a solo run is no longer than a complete one
no_longer : (s : RunConfig) (es ds : List Entry) → IsSolo s es → IsComplete s es → IsSolo s ds → length es ≤ length ds → es ≡ ds
no_longer s es ds run whole r.none h = solo_same s es [] run r.none (omega (arith, h))
no_longer s es ds run whole (r.more {es = b} {i = j} {e = y} ran took least w) h =
    elim (cases_lt (length b) (length es)) [
      | inl above ↦ solo_same s es ds run (r.more ran took least w) (omega (arith, h, length_more b ds y w))
      | inr within ↦ absurd (nobody_goes_on s es j y whole (subst (λ es. CanTake s es j y) (sym (no_longer s es b run whole ran within)) took))
    ]

pub solo_only : (s : RunConfig) (es ds : List Entry) → IsSolo s es → IsComplete s es → IsSolo s ds → IsComplete s ds → es ≡ ds
solo_only s es ds run whole ran other =
    elim (cases_lt (length ds) (length es)) [
      | inl longer ↦ sym (no_longer s ds es ran other run (omega arith))
      | inr within ↦ no_longer s es ds run whole ran within
    ]
