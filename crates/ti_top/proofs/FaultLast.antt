-- Where a run has a fault, its last entry is one, and some process has no end.
use Rattle.std.proofs.Common.{◌≡◌, ℕ, ◌≤◌, Bool, cond, true, false, ◌||◌, ◌==◌, Some, List, [], ◌∷◌, ◌++◌, inl, inr, arith, refl, sym, ◌∙◌, ap}
use Rattle.std.specs.List.{list_any}
use Rattle.std.proofs.lemmas.List.Elements.{filter-append}
use Rattle.std.proofs.lemmas.List.Folds.{list_any-append}
use Rattle.std.proofs.lemmas.Option.{same_Some}
use Rattle.ti_base.specs.declared.place.Place.{Place}
use Rattle.ti_base.specs.declared.fault.FaultKind.{FaultKind}
use Rattle.ti_base.specs.declared.action.Action.{Action}
use Rattle.ti_base.specs.declared.action.Action.TheVariants as act
use Rattle.ti_base.specs.declared.entry.Answer.{Answer}
use Rattle.ti_base.specs.declared.entry.Answer.TheVariants.{Done}
use Rattle.ti_base.specs.declared.entry.Entry.{Entry}
use Rattle.ti_base.specs.declared.entry.Next.{Next}
use Rattle.ti_base.specs.declared.entry.Next.TheVariants as next
use Rattle.ti_lang.specs.Meaning.Processes.{RunConfig}
use Rattle.ti_lang.specs.Meaning.Histories.{history_of, is_end, is_fault, entries_of, has_end, has_fault}
use Rattle.ti_lang.specs.Meaning.HeapAnswers.{Outcome, Answers, Faults, Impossible, heap_answer}
use Rattle.ti_lang.specs.Meaning.Runs.{entry_with, entry_of, IsRun, none, more, AllEnded, IsComplete}
use Rattle.ti_top.specs.declared.fault.Fault.{Fault}
use Rattle.ti_top.specs.Run.{fault_entry, EndsWithFault}

pub true_false : true ≡ false → ⊥
true_false h = cc

only_last : (a b : Bool) → a ≡ false → (a || (b || false)) ≡ b
only_last false true h = refl
only_last false false h = refl
only_last true b h = absurd (true_false h)

has_last : (a b : Bool) → b ≡ true → (a || (b || false)) ≡ true
has_last true b h = refl
has_last false true h = refl
has_last false false h = absurd (true_false (sym h))

fault_more : (es : List Entry) (e : Entry) → has_fault (es ++ e ∷ []) ≡ (has_fault es || (is_fault e.act || false))
fault_more es e = list_any-append (λ (x : Entry). is_fault x.act) es (e ∷ [])

-- where the last entry is a fault, some entry is
pub fault_is_there : (es : List Entry) (fault : Fault) → EndsWithFault es fault → has_fault es ≡ true
fault_is_there es fault e = ap has_fault e.last ∙ fault_more e.before (fault_entry fault) ∙ has_last (has_fault e.before) true refl

-- a run that hasn't begun isn't complete
pub unbegun : (s : RunConfig) → 1 ≤ s.procs → IsComplete s [] → ⊥
unbegun s some (inl fault) = true_false (sym fault)
unbegun s some (inr ended) = true_false (sym (ended 0 (omega arith)))

abbrev IsFaultEntry : Entry → Type 0
IsFaultEntry e = (fault : Fault) × (e ≡ fault_entry fault)

faulty : (a : Action) → is_fault a ≡ true → (kind : FaultKind) × (a ≡ act.Fault kind)
faulty (act.Fault kind) h = (kind, refl)
faulty a h = absurd (true_false (sym h))

-- an action that is a fault is answered as one
of_outcome : (i : ℕ) (at : Place) (a : Action) (o : Outcome) (e : Entry) → ((kind : FaultKind) → a ≡ act.Fault kind → o ≡ Answers Done)
    → entry_with i at a o ≡ Some e → is_fault e.act ≡ true → IsFaultEntry e
of_outcome i at a (Answers answer) e says is h =
    let same = same_Some _ e is in
    let f = faulty a (ap (λ (x : Entry). is_fault x.act) same ∙ h) in
    let done : answer ≡ Done = same_answer answer Done (says f.0 f.1) in
    (record { kind = f.0; proc = i; place = at }, sym same ∙ ap (λ (b : Action). entry_at b answer) f.1 ∙ ap (entry_at (act.Fault f.0)) done)
  where
    entry_at : Action → Answer → Entry
    entry_at b r = record { proc = i; place = at; act = b; answer = r }

    same_answer : (r t : Answer) → Answers r ≡ Answers t → r ≡ t
    same_answer r t h = cc
of_outcome i at a (Faults kind) e says is h = (record { kind = kind; proc = i; place = at }, sym (same_Some _ e is))
of_outcome i at a Impossible e says is h = absurd (let x = is in cc)

-- an entry that is a fault, as a process takes it
of_next : (s : RunConfig) (es : List Entry) (i : ℕ) (n : Next) (e : Entry) → entry_of s es i n ≡ Some e → is_fault e.act ≡ true → IsFaultEntry e
of_next s es i (next.Act at a) e is h = of_outcome i at a (heap_answer s.program (history_of es) i a) e (λ kind same. ap (heap_answer s.program (history_of es) i) same) is h
of_next s es i (next.End at) e is h = absurd (true_false (sym h ∙ ap (λ (x : Entry). is_fault x.act) (sym (same_Some _ e is))))
of_next s es i (next.Fault kind at) e is h = (record { kind = kind; proc = i; place = at }, sym (same_Some _ e is))

-- where a run has a fault and goes on after each entry but the last, the last one is it
last_is : (before es : List Entry) (e : Entry) → has_fault before ≡ false → es ≡ before ++ e ∷ [] → has_fault es ≡ true → is_fault e.act ≡ true
last_is before es e goes_on split h = sym (only_last (has_fault before) (is_fault e.act) goes_on) ∙ sym (fault_more before e) ∙ ap has_fault (sym split) ∙ h

pub fault_is_last : (s : RunConfig) (es : List Entry) → IsRun s es → has_fault es ≡ true → (fault : Fault) × EndsWithFault es fault
fault_is_last s es none h = absurd (true_false (sym h))
fault_is_last s es (more {es = before} {i = i} {e = e} run take split) h =
    let is : IsFaultEntry e = of_next s before i take.next e take.entry (last_is before es e take.goes_on split h) in
    (is.0, record { before = before; last = split ∙ ap (λ x. before ++ x ∷ []) is.1 })

-- a fault ends no process
still_unended : (i : ℕ) (es : List Entry) (e : Entry) → is_fault e.act ≡ true → has_end i es ≡ false → has_end i (es ++ e ∷ []) ≡ false
still_unended i es e fault unended =
    ap (list_any is_its_end) (filter-append (λ (x : Entry). x.proc == i) es (e ∷ [])) ∙ list_any-append is_its_end (entries_of i es) (entries_of i (e ∷ []))
    ∙ ap (λ (b : Bool). b || has_end i (e ∷ [])) unended ∙ alone (e.proc == i)
  where
    is_its_end : Entry → Bool
    is_its_end x = is_end x.act

    no_end : is_end e.act ≡ false
    no_end = ap is_end (faulty e.act fault).1

    alone : (own : Bool) → list_any is_its_end (cond own (e ∷ []) []) ≡ false
    alone true = ap (λ (b : Bool). b || false) no_end
    alone false = refl

-- where a run has a fault, not all processes have their end
pub not_all_ended : (s : RunConfig) (es : List Entry) → IsRun s es → has_fault es ≡ true → AllEnded s es → ⊥
not_all_ended s es none h ended = true_false (sym h)
not_all_ended s es (more {es = before} {i = i} {e = e} run take split) h ended =
    true_false (sym (ended i take.within) ∙ ap (has_end i) split ∙ still_unended i before e (last_is before es e take.goes_on split h) take.unended)
