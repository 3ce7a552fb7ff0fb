-- What each process does in a run that decides every other one, it does in each complete run.
use Rattle.std.proofs.Common.{◌≡◌, ◌⊎◌, inl, inr, ℕ, ◌≤◌, ◌<◌, ◌==◌, nat_lt, Bool, true, false, cond, ◌||◌, List, [], ◌∷◌, ◌++◌, refl, sym, ◌∙◌, ap, subst, arith, eqb-true, ltb-true, ltb-false, append-nil}
use Rattle.std.specs.List.{list_any}
use Rattle.std.proofs.lemmas.Bool.{eqb-false}
use Rattle.std.proofs.lemmas.List.Elements.{filter-append}
use Rattle.std.proofs.lemmas.List.Folds.{list_any-append}
use Rattle.ti_base.specs.declared.entry.Entry.{Entry}
use Rattle.ti_lang.specs.Meaning.Processes.{RunConfig}
use Rattle.ti_lang.specs.Meaning.Histories.{is_end, is_fault, entries_of, has_end, has_fault}
use Rattle.ti_lang.specs.Meaning.Determinacy.{IsFront}
use Rattle.ti_lang.specs.Meaning.Runs.{IsRun, none, more, AllEnded, IsComplete}
use Rattle.ti_lang.proofs.Lemmas.{taker}
use Rattle.ti_top.proofs.FaultLast.{true_false, not_all_ended}
use Rattle.ti_top.proofs.OneRun.{split}

or_left : (a b : Bool) → a ≡ true → (a || b) ≡ true
or_left true b h = refl
or_left false b h = absurd (true_false (sym h))

or_right : (a b : Bool) → b ≡ true → (a || b) ≡ true
or_right true b h = refl
or_right false b h = h

itself : (n : ℕ) → (n == n) ≡ true
itself n = by (n == n) refl
  where
    by : (b : Bool) → (n == n) ≡ b → b ≡ true
    by true h = refl
    by false h = absurd (eqb-false n n h refl)

-- ---- the entries of a process

module _ (f : Entry → Bool) where
  -- what some entry of a process has, some entry has
  any_of : (i : ℕ) (es : List Entry) → list_any f (entries_of i es) ≡ true → list_any f es ≡ true
  any_of i [] h = h
  any_of i (e ∷ es) h = by (any_of i es) (e.proc == i) h
    where
      onward : (list_any f (entries_of i es) ≡ true → list_any f es ≡ true) → (a : Bool) → (a || list_any f (entries_of i es)) ≡ true → (a || list_any f es) ≡ true
      onward rest true k = refl
      onward rest false k = rest k

      by : (list_any f (entries_of i es) ≡ true → list_any f es ≡ true) → (b : Bool) → list_any f (cond b (e ∷ entries_of i es) (entries_of i es)) ≡ true → (f e || list_any f es) ≡ true
      by rest true k = onward rest (f e) k
      by rest false k = or_right (f e) (list_any f es) (rest k)

  abbrev OfSome : List Entry → Type 0
  OfSome es = (i : ℕ) × (list_any f (entries_of i es) ≡ true)

  -- what some entry has, some entry of its process has
  some_process : (es : List Entry) → list_any f es ≡ true → OfSome es
  some_process [] h = absurd (true_false (sym h))
  some_process (e ∷ es) h = by (f e) refl (some_process es)
    where
      own : f e ≡ true → (b : Bool) → b ≡ true → list_any f (cond b (e ∷ entries_of e.proc es) (entries_of e.proc es)) ≡ true
      own k true same = or_left (f e) (list_any f (entries_of e.proc es)) k
      own k false same = absurd (true_false (sym same))

      kept : (i : ℕ) (b : Bool) → list_any f (entries_of i es) ≡ true → list_any f (cond b (e ∷ entries_of i es) (entries_of i es)) ≡ true
      kept i true k = or_right (f e) (list_any f (entries_of i es)) k
      kept i false k = k

      by : (b : Bool) → f e ≡ b → (list_any f es ≡ true → OfSome es) → OfSome (e ∷ es)
      by true k before = (e.proc, own k (e.proc == e.proc) (itself e.proc))
      by false k before = let it = before (sym (ap (λ (b : Bool). b || list_any f es) k) ∙ h) in (it.0, kept it.0 (e.proc == it.0) it.1)

-- ---- behind its end

abbrev ends : Entry → Bool
ends e = is_end e.act

entries_more : (i : ℕ) (es all : List Entry) (e : Entry) → all ≡ es ++ e ∷ [] → entries_of i all ≡ entries_of i es ++ entries_of i (e ∷ [])
entries_more i es all e split = ap (entries_of i) split ∙ filter-append (λ (x : Entry). x.proc == i) es (e ∷ [])

-- a list that has the end and something behind it isn't that of a process that just took an entry
not_behind : (before front : List Entry) (e : Entry) (rest : List Entry) → before ++ e ∷ [] ≡ front ++ rest → list_any ends before ≡ false → list_any ends front ≡ true → rest ≡ []
not_behind before front e [] same unended ended = refl
not_behind before front e (d ∷ rest) same unended ended = by (split before e front d rest same)
  where
    by : ((before ≡ front) × (e ≡ d)) ⊎ ((zs : List Entry) × (before ≡ front ++ d ∷ zs)) → d ∷ rest ≡ []
    by (inl k) = absurd (true_false (sym ended ∙ ap (list_any ends) (sym k.0) ∙ unended))
    by (inr k) = absurd (true_false (sym (ap (list_any ends) k.1 ∙ list_any-append ends front (d ∷ k.0) ∙ or_left (list_any ends front) (list_any ends (d ∷ k.0)) ended) ∙ unended))

-- behind its end a process has no entry
ended_last : (s : RunConfig) (es : List Entry) → IsRun s es → (i : ℕ) (front rest : List Entry) → entries_of i es ≡ front ++ rest → list_any ends front ≡ true → rest ≡ []
ended_last s es none i [] rest same ended = absurd (true_false (sym ended))
ended_last s es none i (x ∷ front) rest same ended = let wrong : [] ≡ x ∷ (front ++ rest) = same in cc
ended_last s es (more {es = before} {i = k} {e = e} run can after) i front rest same ended = by (ended_last s before run i front rest) (e.proc == i) refl
  where
    all : entries_of i before ++ entries_of i (e ∷ []) ≡ front ++ rest
    all = sym (entries_more i before es e after) ∙ same

    by : (entries_of i before ≡ front ++ rest → list_any ends front ≡ true → rest ≡ []) → (b : Bool) → (e.proc == i) ≡ b → rest ≡ []
    by earlier true h =
        let own : entries_of i (e ∷ []) ≡ e ∷ [] = ap (λ b. cond b (e ∷ []) []) h in
        let its : has_end i before ≡ false = subst (λ j. has_end j before ≡ false) (sym (taker s before k e can) ∙ eqb-true e.proc i h) can.unended in
        not_behind (entries_of i before) front e rest (ap (λ xs. entries_of i before ++ xs) (sym own) ∙ all) its ended
    by earlier false h =
        let nothing : entries_of i (e ∷ []) ≡ [] = ap (λ b. cond b (e ∷ []) []) h in
        earlier (sym (append-nil (entries_of i before)) ∙ ap (λ xs. entries_of i before ++ xs) (sym nothing) ∙ all) ended

-- a process that isn't there has none
none_beyond : (s : RunConfig) (es : List Entry) → IsRun s es → (i : ℕ) → s.procs ≤ i → entries_of i es ≡ []
none_beyond s es none i beyond = refl
none_beyond s es (more {es = before} {i = k} {e = e} run can after) i beyond =
    entries_more i before es e after ∙ ap (λ xs. xs ++ entries_of i (e ∷ [])) (none_beyond s before run i beyond) ∙ ap (λ b. cond b (e ∷ []) []) (other (e.proc == i) refl)
  where
    other : (b : Bool) → (e.proc == i) ≡ b → (e.proc == i) ≡ false
    other false h = h
    other true h = absurd (apart k i s.procs can.within beyond (sym (taker s before k e can) ∙ eqb-true e.proc i h))
      where
        apart : (k i n : ℕ) → k < n → n ≤ i → k ≡ i → ⊥
        apart k i n l m same = omega arith

-- ---- a complete run beside one that decides it

module _ (s : RunConfig) (es ds : List Entry) (run : IsRun s es) (ended : AllEnded s es) (other : IsRun s ds) (front : (i : ℕ) → IsFront (entries_of i ds) (entries_of i es)) (complete : IsComplete s ds) where
  -- it has no fault
  pub none_faults : has_fault ds ≡ true → ⊥
  none_faults h =
      let f : Entry → Bool = λ e. is_fault e.act in
      let it = some_process f ds h in
      let k = front it.0 in
      let there : list_any f (entries_of it.0 es) ≡ true = ap (list_any f) k.1 ∙ list_any-append f (entries_of it.0 ds) k.0 ∙ or_left (list_any f (entries_of it.0 ds)) (list_any f k.0) it.1 in
      not_all_ended s es run (any_of f it.0 es there) ended

  all_ended : AllEnded s ds
  all_ended = elim complete [ inl fault ↦ absurd (none_faults fault) | inr all ↦ all ]

  pub each_same : (i : ℕ) → entries_of i es ≡ entries_of i ds
  each_same i = by (nat_lt i s.procs) refl
    where
      by : (b : Bool) → nat_lt i s.procs ≡ b → entries_of i es ≡ entries_of i ds
      by true h =
          let k = front i in
          k.1 ∙ ap (λ xs. entries_of i ds ++ xs) (ended_last s es run i (entries_of i ds) k.0 k.1 (all_ended i (ltb-true i s.procs h))) ∙ append-nil (entries_of i ds)
      by false h =
          let beyond = ltb-false i s.procs h in
          none_beyond s es run i beyond ∙ sym (none_beyond s ds other i beyond)
