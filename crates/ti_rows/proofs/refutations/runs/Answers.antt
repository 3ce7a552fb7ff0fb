use Rattle.std.proofs.Common.{◌≡◌, ℕ, ◌<◌, pos, true, false, List, [], ◌∷◌, ◌++◌, None, Some, refl, sym, ◌∙◌, ap, subst, arith}
use Rattle.std.specs.Int.{int_wrap}
use Rattle.ti_base.specs.declared.action.Action.TheVariants as act
use Rattle.ti_base.specs.declared.action.CollKind.TheVariants as coll
use Rattle.ti_base.specs.declared.action.Deposit.TheVariants as deposit
use Rattle.ti_base.specs.declared.entry.Answer.TheVariants.{Done, Val}
use Rattle.ti_base.specs.declared.entry.Entry.{Entry}
use Rattle.ti_base.specs.declared.entry.Next.TheVariants as next
use Rattle.ti_base.specs.declared.fault.FaultKind.TheVariants.{Fuel}
use Rattle.ti_base.specs.declared.value.Value.TheVariants as v
use Rattle.ti_lang.specs.Typing.BuiltIn.{built_in}
use Rattle.ti_lang.specs.Typing.Declared.{named_field_type, instance_method}
use Rattle.ti_lang.specs.Program.Classes.{ProgramView}
use Rattle.ti_lang.specs.Meaning.Processes.{RunConfig}
use Rattle.ti_lang.specs.Meaning.Histories.{History}
use Rattle.ti_lang.specs.Meaning.HeapAnswers.{Outcome, Answers, Impossible, heap_answer, IsAnswered}
use Rattle.ti_lang.specs.Meaning.HeapAnswers as heap
use Rattle.ti_lang.specs.Meaning.Runs.{CanTake, IsRun, IsSolo}
use Rattle.ti_lang.specs.Meaning.Runs as r
use Rattle.ti_lang.proofs.Lemmas.{taker}
use Rattle.ti_rows.specs.Texts.{pl}
use Rattle.ti_rows.specs.Histories.{thing}
use Rattle.ti_rows.specs.Refuted.Programs as programs
use Rattle.ti_rows.specs.Refuted.Entries as entries
use Rattle.ti_rows.specs.Refuted.Things.{two_at_barrier}
use Rattle.ti_rows.proofs.Reached.{has_next, can_take_next}
use Rattle.ti_rows.proofs.Taking.{first_can, no_end_first}
use Rattle.ti_rows.proofs.refutations.runs.Goals as goal

-- ---- a process ends that stands at a barrier

pub returns-clause-an_end_too_early : goal.returns-clause-an_end_too_early
returns-clause-an_end_too_early c = no_end_first

true_false : true ≡ false → ⊥
true_false e = cc

-- ---- process 1 goes first

first_of : (e x : Entry) (xs : List Entry) → e ∷ [] ≡ xs ++ x ∷ [] → (xs ≡ []) × (x ≡ e)
first_of e x [] k = (refl, same e x [] [] k)
  where
    same : (a b : Entry) (ks ls : List Entry) → a ∷ ks ≡ b ∷ ls → b ≡ a
    same a b ks ls k = cc
first_of e x (y ∷ []) k = absurd (longer e y x [] k)
  where
    longer : (e y x : Entry) (xs : List Entry) → e ∷ [] ≡ y ∷ x ∷ xs → ⊥
    longer e y x xs k = cc
first_of e x (y ∷ z ∷ xs) k = absurd (longer e y z (xs ++ x ∷ []) k)
  where
    longer : (e y x : Entry) (xs : List Entry) → e ∷ [] ≡ y ∷ x ∷ xs → ⊥
    longer e y x xs k = cc

-- the only entry of a run is that of the lowest-numbered process that can take one
only_entry : (s : RunConfig) (all : List Entry) (e : Entry) → IsSolo s all → all ≡ e ∷ [] → (i : ℕ) × CanTake s [] i e × ((j : ℕ) (d : Entry) → j < i → CanTake s [] j d → ⊥)
only_entry s all e r.none k = cc
only_entry s all e (r.more {es = before} {i = i} {e = last} run take least z) k =
    let only = first_of e last before (sym k ∙ z) in (
      i,
      subst (λ x. CanTake s [] i x) only.1 (subst (λ xs. CanTake s xs i last) only.0 take),
      λ j d l c. least j d l (subst (λ xs. CanTake s xs j d) (sym only.0) c),
    )

pub returns-clause-the_second_first : goal.returns-clause-the_second_first
unfolding int_wrap built_in named_field_type instance_method
returns-clause-the_second_first c = λ run.
    let e : Entry = record { proc = 1; place = pl 1 65; act = act.Arrive coll.Barrier None deposit.Nothing; answer = Done } in
    let k = only_entry two_at_barrier entries.the_second_first e run refl in
    let one : 1 ≡ k.0 = taker two_at_barrier [] k.0 e k.1 in
    k.2 0 _ (omega (arith, one)) first_can

-- ---- the last entry of a run

snoc_same : (xs ys : List Entry) (x y : Entry) → xs ++ x ∷ [] ≡ ys ++ y ∷ [] → (xs ≡ ys) × (x ≡ y)
snoc_same [] [] x y k = (refl, head x y [] [] k)
  where
    head : (a b : Entry) (ks ls : List Entry) → a ∷ ks ≡ b ∷ ls → a ≡ b
    head a b ks ls k = cc
snoc_same [] (b ∷ ys) x y k = absurd (none_more ys y (tail x b [] _ k))
  where
    none_more : (ls : List Entry) (l : Entry) → [] ≡ ls ++ l ∷ [] → ⊥
    none_more [] l k = cc
    none_more (m ∷ ls) l k = cc

    tail : (a b : Entry) (ks ls : List Entry) → a ∷ ks ≡ b ∷ ls → ks ≡ ls
    tail a b ks ls k = cc
snoc_same (a ∷ xs) [] x y k = absurd (none_more xs x (tail y a [] _ (sym k)))
  where
    none_more : (ls : List Entry) (l : Entry) → [] ≡ ls ++ l ∷ [] → ⊥
    none_more [] l k = cc
    none_more (m ∷ ls) l k = cc

    tail : (a b : Entry) (ks ls : List Entry) → a ∷ ks ≡ b ∷ ls → ks ≡ ls
    tail a b ks ls k = cc
snoc_same (a ∷ xs) (b ∷ ys) x y k =
    let more = snoc_same xs ys x y (tail a b _ _ k) in
    (two_at_barrier a b xs ys (head a b _ _ k) more.0, more.1)
  where
    head : (a b : Entry) (ks ls : List Entry) → a ∷ ks ≡ b ∷ ls → a ≡ b
    head a b ks ls k = cc

    tail : (a b : Entry) (ks ls : List Entry) → a ∷ ks ≡ b ∷ ls → ks ≡ ls
    tail a b ks ls k = cc

    two_at_barrier : (a b : Entry) (ks ls : List Entry) → a ≡ b → ks ≡ ls → a ∷ ks ≡ b ∷ ls
    two_at_barrier a b ks ls p q = cc

-- its process could take it
last_taken : (s : RunConfig) (all es : List Entry) (e : Entry) → IsRun s all → all ≡ es ++ e ∷ [] → CanTake s es e.proc e
last_taken s all es e r.none k = absurd (none_more es e k)
  where
    none_more : (ls : List Entry) (l : Entry) → [] ≡ ls ++ l ∷ [] → ⊥
    none_more [] l k = cc
    none_more (m ∷ ls) l k = cc
last_taken s all es e (r.more {es = before} {i = i} {e = last} run take z) k =
    let same = snoc_same before es last e (sym z ∙ k) in
    let can : CanTake s es i e = subst (λ x. CanTake s es i x) same.1 (subst (λ xs. CanTake s xs i last) same.0 take) in
    subst (λ j. CanTake s es j e) (sym (taker s es i e can)) can

-- process 0 has arrived
abbrev arrived : List Entry
arrived = record { proc = 0; place = pl 1 65; act = act.Arrive coll.Barrier None deposit.Nothing; answer = Done } ∷ []

pub returns-clause-a_departure_too_early : goal.returns-clause-a_departure_too_early
unfolding int_wrap built_in named_field_type instance_method
returns-clause-a_departure_too_early c = λ run.
    let e : Entry = record { proc = 0; place = pl 1 65; act = act.Depart; answer = Done } in
    let can = last_taken two_at_barrier entries.a_departure_too_early arrived e run refl in
    let k : 0 < 0 = can_take_next two_at_barrier arrived 0 (next.Act (pl 1 65) act.Depart) e (has_next two_at_barrier arrived 0 _ refl) can 1 (omega arith) in
    omega (arith, k)

pub returns-clause-an_entry_behind_a_fault : goal.returns-clause-an_entry_behind_a_fault
unfolding int_wrap built_in named_field_type instance_method
returns-clause-an_entry_behind_a_fault c = λ run.
    let e : Entry = record { proc = 1; place = pl 1 65; act = act.Arrive coll.Barrier None deposit.Nothing; answer = Done } in
    let can = last_taken two_at_barrier entries.an_entry_behind_a_fault (record { proc = 0; place = pl 1 65; act = act.Fault Fuel; answer = Done } ∷ []) e run refl in
    true_false can.goes_on

-- ---- answers that nothing gives

-- the last entry of an answered history got its answer
last_answered : (p : ProgramView) (h : History) (e : Entry) → IsAnswered p (e ∷ h) → heap_answer p h e.proc e.act ≡ Answers e.answer
last_answered p h e (heap.more told last) = last

not_this : Answers (Val (v.Int (pos 0))) ≡ Answers (Val (v.Int (pos 1))) → ⊥
not_this e = cc

pub returns-clause-a_wrong_answer : goal.returns-clause-a_wrong_answer
unfolding int_wrap built_in named_field_type instance_method
returns-clause-a_wrong_answer c = λ told. not_this (last_answered programs.a_truth_in_a_number _ _ told)

-- the serial number of an object that is answered
abbrev serial_in : Outcome → ℕ
serial_in (Answers (Val (v.Obj (Some id)))) = id.serial
serial_in o = 0

not_again : Answers (Val (v.Obj (Some (thing 0 1 0)))) ≡ Answers (Val (v.Obj (Some (thing 0 0 0)))) → ⊥
not_again e =
    let k : 1 ≡ 0 = ap serial_in e in
    omega (arith, k)

pub returns-clause-a_thing_made_twice : goal.returns-clause-a_thing_made_twice
unfolding int_wrap built_in named_field_type instance_method
returns-clause-a_thing_made_twice c = λ told. not_again (last_answered programs.a_truth_in_a_number _ _ told)
