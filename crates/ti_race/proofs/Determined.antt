-- If a run has no race and all processes terminate in it, each process does the same in every run.
use Rattle.std.proofs.Common.{◌≡◌, ◌⊎◌, inl, inr, ℕ, ◌<◌, ◌==◌, Bool, true, false, ◌||◌, map, filter, reverse, Some, List, [], ◌∷◌, ◌++◌, refl, ap, ap₂, sym, ◌∙◌, subst, eqb-true, append-nil, append_assoc}
use Rattle.std.specs.List.{list_any}
use Rattle.std.proofs.lemmas.List.{reverse-append, reverse-reverse}
use Rattle.std.proofs.lemmas.List.Elements.{filter-append}
use Rattle.std.proofs.lemmas.List.Folds.{list_any-append}
use Rattle.ti_base.specs.declared.action.Action.{Action}
use Rattle.ti_base.specs.declared.action.Action.TheVariants as act
use Rattle.ti_base.specs.declared.entry.Entry.{Entry}
use Rattle.ti_base.specs.declared.entry.Next.{Next}
use Rattle.ti_base.specs.declared.entry.Next.TheVariants as next
use Rattle.ti_lang.specs.Meaning.Processes.{RunConfig, begin}
use Rattle.ti_lang.specs.Meaning.NextStep.{IsNext, After}
use Rattle.ti_lang.specs.Meaning.Histories.{History, history_of, is_end, is_fault, is_departure, is_answered, entries_of, answers_of, arrivals, departures, has_end, has_fault}
use Rattle.ti_lang.specs.Meaning.HeapAnswers.{Outcome, Answers, Impossible, heap_answer}
use Rattle.ti_lang.specs.Meaning.HeapAnswers as heap
use Rattle.ti_lang.specs.Meaning.Runs.{ProcAfter, IsReady, CanTake, IsRun, AllEnded, entry_with, entry_of}
use Rattle.ti_lang.specs.Meaning.Runs as run
use Rattle.ti_lang.proofs.Lemmas.{next_same, after_same, taker, history_grows, some_entry, fronts}
use Rattle.ti_align.specs.Alignment.{ArrivalsAgree}
use Rattle.ti_align.proofs.Lemmas.{true_false, or_false, or_either, or_one, back, own, other, none_entry, acts_as, depart_answered}
use Rattle.ti_align.proofs.Lemmas.{depart_is}
use Rattle.ti_lang.specs.Meaning.Races.{races}
use Rattle.ti_lang.specs.Meaning.Determinacy.{Determines}
use Rattle.ti_race.proofs.Courses.{Course, Alike, left_back}
use Rattle.ti_race.proofs.Ran.{course_of, alike_of, fault_apart}
use Rattle.ti_race.proofs.Own.{GoesOn, own_more, other_more}
use Rattle.ti_race.proofs.Splits.{Split, split}
use Rattle.ti_race.proofs.Free.{no_race}
use Rattle.ti_race.proofs.Answers.{same_answer}
use Rattle.ti_race.proofs.Deletes.{deletes_free}

-- ---- lists and their histories

entries_back : (i : ℕ) (h : List Entry) → entries_of i (reverse h) ≡ reverse (entries_of i h)
entries_back i [] = refl
entries_back i (e ∷ h) =
    ap (entries_of i) (reverse-append (e ∷ []) h) ∙ filter-append (λ (x : Entry). x.proc == i) (reverse h) (e ∷ []) ∙ by (e.proc == i) refl (entries_back i h)
  where
    by : (b : Bool) → (e.proc == i) ≡ b → entries_of i (reverse h) ≡ reverse (entries_of i h) → entries_of i (reverse h) ++ entries_of i (e ∷ []) ≡ reverse (entries_of i (e ∷ h))
    by true k ih = ap₂ (λ xs ys. xs ++ ys) ih (own i e k) ∙ sym (reverse-append (e ∷ []) (entries_of i h)) ∙ sym (ap reverse (own_more i e h k))
    by false k ih = ap₂ (λ xs ys. xs ++ ys) ih (other i e k) ∙ append-nil (reverse (entries_of i h)) ∙ sym (ap reverse (other_more i e h k))

-- the entries of a process in a run, from those in its history
from_history : (i : ℕ) (es : List Entry) → entries_of i es ≡ reverse (entries_of i (history_of es))
from_history i es = ap (entries_of i) (sym (reverse-reverse es)) ∙ entries_back i (history_of es)

snoc_same : (xs ys : List Entry) (x y : Entry) → xs ++ x ∷ [] ≡ ys ++ y ∷ [] → (xs ≡ ys) × (x ≡ y)
snoc_same xs ys x y e =
    let z : x ∷ reverse xs ≡ y ∷ reverse ys = sym (reverse-append xs (x ∷ [])) ∙ ap reverse e ∙ reverse-append ys (y ∷ []) in
    (sym (reverse-reverse xs) ∙ ap reverse (tail x y _ _ z) ∙ reverse-reverse ys, head x y _ _ z)
  where
    head : (x y : Entry) (xs ys : List Entry) → x ∷ xs ≡ y ∷ ys → x ≡ y
    head x y xs ys e = cc

    tail : (x y : Entry) (xs ys : List Entry) → x ∷ xs ≡ y ∷ ys → xs ≡ ys
    tail x y xs ys e = cc

-- a list is empty or has a last element
last_of : (xs : List Entry) → (xs ≡ []) ⊎ ((ys : List Entry) × (y : Entry) × (xs ≡ ys ++ y ∷ []))
last_of [] = inl refl
last_of (x ∷ xs) = inr (by (last_of xs))
  where
    by : (xs ≡ []) ⊎ ((ys : List Entry) × (y : Entry) × (xs ≡ ys ++ y ∷ [])) → (ys : List Entry) × (y : Entry) × (x ∷ xs ≡ ys ++ y ∷ [])
    by (inl z) = ([], x, ap (λ zs. x ∷ zs) z)
    by (inr z) = (x ∷ z.0, z.1, ap (λ zs. x ∷ zs) z.2)

-- the last entry of a run was one that its process could take
last_taken : (s : RunConfig) (es all : List Entry) (e : Entry) → IsRun s all → all ≡ es ++ e ∷ [] → CanTake s es e.proc e
last_taken s es all e run.none z = absurd (none es z)
  where
    none_more : (x : Entry) (xs : List Entry) → [] ≡ x ∷ xs → ⊥
    none_more x xs e = cc

    none : (es : List Entry) → [] ≡ es ++ e ∷ [] → ⊥
    none [] z = none_more e [] z
    none (x ∷ xs) z = none_more x _ z
last_taken s es all e (run.more {es = before} {i = i} {e = last} ran t y) z =
    let same = snoc_same before es last e (sym y ∙ z) in
    let own : CanTake s before last.proc last = subst (λ j. CanTake s before j last) (sym (taker s before i last t)) t in
    subst (λ x. CanTake s es x.proc x) same.1 (subst (λ xs. CanTake s xs last.proc last) same.0 own)

-- ---- ends

end_back : (i : ℕ) (es : List Entry) → has_end i (history_of es) ≡ has_end i es
end_back i [] = refl
end_back i (e ∷ es) =
    ap (has_end i) (reverse-append (e ∷ []) es) ∙ end_both (reverse es) (e ∷ []) ∙ ap (λ b. b || has_end i (e ∷ [])) (end_back i es)
    ∙ or_swap (has_end i es) (has_end i (e ∷ [])) ∙ sym (end_both (e ∷ []) es)
  where
    end_both : (es ds : List Entry) → has_end i (es ++ ds) ≡ (has_end i es || has_end i ds)
    end_both es ds =
        ap (list_any (λ (e : Entry). is_end e.act)) (filter-append (λ (e : Entry). e.proc == i) es ds) ∙ list_any-append (λ (e : Entry). is_end e.act) (entries_of i es) (entries_of i ds)

    or_swap : (a b : Bool) → (a || b) ≡ (b || a)
    or_swap true true = refl
    or_swap true false = refl
    or_swap false true = refl
    or_swap false false = refl

end_now : (i : ℕ) (es : List Entry) (e : Entry) → has_end i (es ++ e ∷ []) ≡ true → has_end i es ≡ false → is_end e.act ≡ true
end_now i es e h k = by (or_either (has_end i es) (has_end i (e ∷ [])) (sym both ∙ h))
  where
    both : has_end i (es ++ e ∷ []) ≡ (has_end i es || has_end i (e ∷ []))
    both =
        ap (list_any (λ (e : Entry). is_end e.act)) (filter-append (λ (e : Entry). e.proc == i) es (e ∷ [])) ∙ list_any-append (λ (e : Entry). is_end e.act) (entries_of i es) (entries_of i (e ∷ []))

    one : (b : Bool) → (e.proc == i) ≡ b → has_end i (e ∷ []) ≡ true → is_end e.act ≡ true
    one true z y = or_one (is_end e.act) (sym (ap (list_any (λ (e : Entry). is_end e.act)) (own i e z)) ∙ y)
    one false z y = absurd (true_false (sym y ∙ ap (list_any (λ (e : Entry). is_end e.act)) (other i e z)))

    by : (has_end i es ≡ true) ⊎ (has_end i (e ∷ []) ≡ true) → is_end e.act ≡ true
    by (inl z) = absurd (true_false (sym z ∙ k))
    by (inr z) = one (e.proc == i) refl z

end_no_fault : (a : Action) → is_end a ≡ true → is_fault a ≡ false
end_no_fault act.End k = refl
end_no_fault _ k = absurd (true_false (sym k))

-- where all have their end there is no fault
pub no_fault : (s : RunConfig) (es : List Entry) → IsRun s es → AllEnded s es → has_fault es ≡ false
no_fault s es run.none ends = refl
no_fault s all (run.more {es = es} {i = i} {e = e} ran t z) ends =
    ap has_fault z ∙ list_any-append (λ (e : Entry). is_fault e.act) es (e ∷ [])
    ∙ ap₂ (λ a b. a || (b || false)) t.goes_on (end_no_fault e.act (end_now i es e (sym (ap (has_end i) z) ∙ ends i t.within) t.unended))

-- ---- the same step

-- the entry of the kept run is taken in the other one
same_entry : (s : RunConfig) (ks es : List Entry) (i : ℕ) (n : Next) (x e : Entry) → entry_of s ks i n ≡ Some x → is_fault x.act ≡ false → entry_of s es i n ≡ Some e
    → ((heap_answer s.program (history_of es) x.proc x.act ≡ Impossible → ⊥) → heap_answer s.program (history_of es) x.proc x.act ≡ Answers x.answer) → e ≡ x
same_entry s ks es i (next.End at) x e a k b f = some_entry e x (sym b ∙ a)
same_entry s ks es i (next.Fault kind at) x e a k b f = absurd (true_false (ap (λ (y : Entry). is_fault y.act) (some_entry _ x a) ∙ k))
same_entry s ks es i (next.Act at d) x e a k b f = by (heap_answer s.program (history_of ks) i d) a
  where
    impossible : (o : Outcome) → o ≡ Impossible → entry_with i at d o ≡ Some e → ⊥
    impossible (Answers r) z y = cc
    impossible (heap.Faults kind) z y = cc
    impossible Impossible z y = none_entry e y

    by : (o : Outcome) → entry_with i at d o ≡ Some x → e ≡ x
    by Impossible y = absurd (none_entry x y)
    by (heap.Faults kind) y = absurd (true_false (ap (λ (z : Entry). is_fault z.act) (some_entry _ x y) ∙ k))
    by (Answers r) y =
        let is : record { proc = i; place = at; act = d; answer = r } ≡ x = some_entry _ x y in
        let told : heap_answer s.program (history_of es) i d ≡ Answers r =
        ap₂ (λ (j : ℕ) (c : Action). heap_answer s.program (history_of es) j c) (ap (λ (z : Entry). z.proc) is) (ap (λ (z : Entry). z.act) is)
        ∙ f (λ z. impossible _ (ap₂ (λ (j : ℕ) (c : Action). heap_answer s.program (history_of es) j c) (ap (λ (z : Entry). z.proc) is) (ap (λ (z : Entry). z.act) is) ∙ z) b)
        ∙ ap (λ (z : Entry). Answers z.answer) (sym is) in
        some_entry e x (sym b ∙ ap (entry_with i at d) told ∙ y)

module _ (s : RunConfig) (kept : List Entry) (ran : IsRun s kept) (agree : ArrivalsAgree s kept) (ended : AllEnded s kept) (free : races kept ≡ []) where
  abbrev h : History
  h = history_of kept

  unfaulted : has_fault kept ≡ false
  unfaulted = no_fault s kept ran ended

  whole : Course s.program s.procs h
  whole = course_of s kept ran unfaulted

  like : Alike h
  like = alike_of s kept ran agree

  on_tails : (earlier later : List Entry) → h ≡ later ++ earlier → (j : ℕ) → GoesOn j earlier h
  on_tails earlier later z j = (entries_of j later, ap (entries_of j) z ∙ filter-append (λ (e : Entry). e.proc == j) later earlier)

  -- what process i does behind entries from which the kept run goes on
  module _ (es : List Entry) (others : IsRun s es) (on : (j : ℕ) → GoesOn j (history_of es) h) (i : ℕ) (e : Entry) (t : CanTake s es i e) where
    -- the next entry of the process in the kept run
    next_kept : (later : List Entry) (x : Entry) → entries_of i h ≡ later ++ x ∷ entries_of i (history_of es) → e ≡ x
    next_kept later x z = same_entry s ks es i t.next x e entry_k sane t.entry told
      where
        here : Split (λ (y : Entry). y.proc == i) h later x (entries_of i (history_of es))
        here = split (λ (y : Entry). y.proc == i) h later x (entries_of i (history_of es)) z

        who : x.proc ≡ i
        who = eqb-true x.proc i here.passes

        ks : List Entry
        ks = reverse here.behind

        rest : List Entry
        rest = reverse here.before

        order : kept ≡ ks ++ x ∷ rest
        order =
            sym (reverse-reverse kept) ∙ ap reverse here.whole ∙ reverse-append here.before (x ∷ here.behind) ∙ ap (λ ys. ys ++ reverse here.before) (reverse-append (x ∷ []) here.behind)
            ∙ append_assoc (reverse here.behind) (x ∷ []) (reverse here.before)

        taken : CanTake s ks i x
        taken =
            subst (λ j. CanTake s ks j x) who
            (last_taken s ks (ks ++ x ∷ []) x (fronts s (ks ++ x ∷ []) rest (subst (IsRun s) (order ∙ sym (append_assoc ks (x ∷ []) rest)) ran)) refl)

        sane : is_fault x.act ≡ false
        sane = (or_false _ _ (fault_apart ks (x ∷ rest) (sym (ap has_fault order) ∙ unfaulted)).1).0

        -- the process is the same
        same_answers : answers_of i ks ≡ answers_of i es
        same_answers =
            ap (λ (ys : List Entry). map (λ (y : Entry). y.answer) (filter is_answered ys)) (entries_back i here.behind ∙ ap reverse here.last ∙ sym (from_history i es))

        same_process : taken.process ≡ t.process
        same_process = after_same (begin s i) _ _ (answers_of i es) (subst (λ rs. After (begin s i) rs taken.process) same_answers taken.world) t.world

        same_next : taken.next ≡ t.next
        same_next = next_same t.process _ _ (subst (λ p. IsNext p taken.next) same_process taken.is_next) t.is_next

        entry_k : entry_of s ks i t.next ≡ Some x
        entry_k = subst (λ n. entry_of s ks i n ≡ Some x) same_next taken.entry

        behind_on : (j : ℕ) → GoesOn j here.behind h
        behind_on = on_tails here.behind (here.before ++ x ∷ []) (here.whole ∙ sym (append_assoc here.before (x ∷ []) here.behind))

        course : Course s.program s.procs (history_of es)
        course = course_of s es others t.goes_on

        same_own : entries_of x.proc (history_of es) ≡ entries_of x.proc here.behind
        same_own = subst (λ j. entries_of j (history_of es) ≡ entries_of j here.behind) (sym who) (sym here.last)

        ready : is_departure x.act ≡ true → (j : ℕ) → j < s.procs → departures x.proc (history_of es) < arrivals j (history_of es)
        ready k j l =
            let n : t.next ≡ next.Act x.place act.Depart = sym same_next ∙ acts_as s ks i taken.next x taken.entry (depart_answered x k) ∙ ap (next.Act x.place) (depart_is x.act k) in
            let r : IsReady s es i (next.Act x.place act.Depart) = subst (IsReady s es i) n t.ready in
            subst (λ a. departures x.proc (history_of es) < a) (sym (back j es))
            (subst (λ a. a < arrivals j es) (sym (left_back x.proc es)) (subst (λ a. departures a es < arrivals j es) (sym who) (r j l)))

        told : (heap_answer s.program (history_of es) x.proc x.act ≡ Impossible → ⊥) → heap_answer s.program (history_of es) x.proc x.act ≡ Answers x.answer
        told possible =
            same_answer s.program s.procs h whole like (no_race kept free) here.before x here.behind here.whole (history_of es) course on behind_on same_own
            (deletes_free s.program s.procs h whole like (no_race kept free) here.before x here.behind here.whole (history_of es) course on behind_on same_own on_tails ready) possible

  goes_on : (es : List Entry) → IsRun s es → (j : ℕ) → GoesOn j (history_of es) h
  goes_on es run.none j = (entries_of j h, sym (append-nil (entries_of j h)))
  goes_on all (run.more {es = es} {i = i} {e = e} others t z) j =
      subst (λ g. GoesOn j g h) (sym (ap history_of z ∙ history_grows es e)) (by (e.proc == j) refl (λ a. goes_on es others a))
    where
      by : (b : Bool) → (e.proc == j) ≡ b → ((a : ℕ) → GoesOn a (history_of es) h) → GoesOn j (e ∷ history_of es) h
      by false k on = ((on j).0, (on j).1 ∙ ap (λ xs. (on j).0 ++ xs) (sym (other_more j e (history_of es) k)))
      by true k on = go (last_of (on i).0)
        where
          who : i ≡ j
          who = sym (taker s es i e t) ∙ eqb-true e.proc j k

          unended : (on i).0 ≡ [] → ⊥
          unended y =
              true_false (sym (ended i t.within) ∙ sym (end_back i kept)
              ∙ ap (list_any (λ (x : Entry). is_end x.act)) ((on i).1 ∙ ap (λ xs. xs ++ entries_of i (history_of es)) y)
              ∙ end_back i es ∙ t.unended)

          go : ((on i).0 ≡ []) ⊎ ((ys : List Entry) × (y : Entry) × ((on i).0 ≡ ys ++ y ∷ [])) → GoesOn j (e ∷ history_of es) h
          go (inl y) = absurd (unended y)
          go (inr y) =
              let later : entries_of i h ≡ y.0 ++ y.1 ∷ entries_of i (history_of es) =
              (on i).1 ∙ ap (λ xs. xs ++ entries_of i (history_of es)) y.2 ∙ append_assoc y.0 (y.1 ∷ []) (entries_of i (history_of es)) in
              let same : e ≡ y.1 = next_kept es others on i e t y.0 y.1 later in
              let now : entries_of j h ≡ y.0 ++ e ∷ entries_of j (history_of es) =
              subst (λ a. entries_of a h ≡ y.0 ++ e ∷ entries_of a (history_of es)) who (later ∙ ap (λ x. y.0 ++ x ∷ entries_of i (history_of es)) (sym same)) in
              (y.0, now ∙ ap (λ xs. y.0 ++ xs) (sym (own_more j e (history_of es) k)))

pub determines : (s : RunConfig) (kept : List Entry) → IsRun s kept → ArrivalsAgree s kept → Determines s kept
determines s kept ran agree ended free other i others =
    let on = goes_on s kept ran agree ended free other others i in (
      reverse on.0,
      from_history i kept ∙ ap reverse on.1 ∙ reverse-append on.0 (entries_of i (history_of other)) ∙ ap (λ xs. xs ++ reverse on.0) (sym (from_history i other)),
    )
