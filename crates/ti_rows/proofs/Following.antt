-- In every run of the program that prints, each process prints and ends.
use Rattle.std.proofs.Common.{◌≡◌, ℕ, zero, suc, ◌<◌, ◌==◌, Bool, true, false, if◌then◌else◌, List, [], ◌∷◌, ◌++◌, map, filter, Some, None, pos, refl, sym, ◌∙◌, ap, subst, arith}
use Rattle.std.specs.Int.{int_wrap}
use Rattle.std.specs.List.{list_any}
use Rattle.std.proofs.lemmas.Bool.{eqb-true}
use Rattle.std.proofs.lemmas.List.Elements.{filter-append}
use Rattle.ti_base.specs.declared.action.Action.TheVariants as act
use Rattle.ti_base.specs.declared.entry.Answer.{Answer}
use Rattle.ti_base.specs.declared.entry.Answer.TheVariants.{Done}
use Rattle.ti_base.specs.declared.entry.Entry.{Entry}
use Rattle.ti_base.specs.declared.entry.Next.{Next}
use Rattle.ti_base.specs.declared.entry.Next.TheVariants as next
use Rattle.ti_base.specs.declared.value.Value.TheVariants as v
use Rattle.ti_lang.specs.Typing.BuiltIn.{built_in}
use Rattle.ti_lang.specs.Typing.Declared.{named_field_type, instance_method}
use Rattle.ti_lang.specs.Meaning.Processes.{RunConfig, Process, begin}
use Rattle.ti_lang.specs.Meaning.NextStep.{IsNext, After}
use Rattle.ti_lang.specs.Meaning.Histories.{is_end, is_answered, entries_of}
use Rattle.ti_lang.specs.Meaning.Runs.{CanTake, IsRun, entry_of}
use Rattle.ti_lang.specs.Meaning.Runs as r
use Rattle.ti_lang.specs.Meaning.Determinacy.{IsFront, IsFollowed}
use Rattle.ti_lang.proofs.Lemmas.{after_same, next_same, taker}
use Rattle.ti_rows.specs.Texts.{pl}
use Rattle.ti_rows.specs.Histories.{entry}
use Rattle.ti_rows.specs.Failing.{by_two}
use Rattle.ti_rows.specs.Simulation.{solo}
use Rattle.ti_rows.specs.Refuted.Programs as programs
use Rattle.ti_rows.proofs.Reached.{reached, behind, next_of, rest_of, settles}

abbrev prints : RunConfig
prints = by_two 1000 programs.a_print

-- a process prints, and has its end
abbrev the_print : ℕ → Entry
the_print i = entry i (pl 1 62) (act.Print None (Some (v.Int (pos 7)))) Done

abbrev the_end : ℕ → Entry
the_end i = entry i (pl 1 74) act.End Done

-- what a process has next after these answers, by what is computed
next_after : (i : ℕ) (rs : List Answer) (p : Process) (n k : Next) (q : Process) → behind rs (begin prints i) ≡ Some q → next_of q ≡ Some n
    → After (begin prints i) rs p → IsNext p k → k ≡ n
next_after i rs p n k q h g after is_next =
    let same : p ≡ q = after_same _ _ _ _ after (reached rs (begin prints i) q h) in
    next_same q k n (subst (λ z. IsNext z k) same is_next) (rest_of q, settles q n g)

some_entry : (a b : Entry) → Some a ≡ Some b → b ≡ a
some_entry a b e = cc

-- the answers to these entries of a process
abbrev told : List Entry → List Answer
told own = map (λ (e : Entry). e.answer) (filter is_answered own)

print_first : (i : ℕ) (es : List Entry) (e : Entry) → i < 2 → entries_of i es ≡ [] → CanTake prints es i e → e ≡ the_print i
unfolding int_wrap built_in named_field_type instance_method
print_first zero es e h own can =
    let is = next_after 0 [] can.process (next.Act (pl 1 62) (act.Print None (Some (v.Int (pos 7))))) can.next _ refl refl
    (subst (λ l. After (begin prints 0) (told l) can.process) own can.world) can.is_next in
    some_entry (the_print 0) e (sym (ap (entry_of prints es 0) is) ∙ can.entry)
print_first (suc zero) es e h own can =
    let is = next_after 1 [] can.process (next.Act (pl 1 62) (act.Print None (Some (v.Int (pos 7))))) can.next _ refl refl
    (subst (λ l. After (begin prints 1) (told l) can.process) own can.world) can.is_next in
    some_entry (the_print 1) e (sym (ap (entry_of prints es 1) is) ∙ can.entry)
print_first (suc (suc n)) es e h own can = absurd (omega arith)

end_then : (i : ℕ) (es : List Entry) (e : Entry) → i < 2 → entries_of i es ≡ the_print i ∷ [] → CanTake prints es i e → e ≡ the_end i
unfolding int_wrap built_in named_field_type instance_method
end_then zero es e h own can =
    let is = next_after 0 (Done ∷ []) can.process (next.End (pl 1 74)) can.next _ refl refl
    (subst (λ l. After (begin prints 0) (told l) can.process) own can.world) can.is_next in
    some_entry (the_end 0) e (sym (ap (entry_of prints es 0) is) ∙ can.entry)
end_then (suc zero) es e h own can =
    let is = next_after 1 (Done ∷ []) can.process (next.End (pl 1 74)) can.next _ refl refl
    (subst (λ l. After (begin prints 1) (told l) can.process) own can.world) can.is_next in
    some_entry (the_end 1) e (sym (ap (entry_of prints es 1) is) ∙ can.entry)
end_then (suc (suc n)) es e h own can = absurd (omega arith)

true_false : true ≡ false → ⊥
true_false e = cc

-- what a process has done: nothing, its print, or all
data HasDone (i : ℕ) : List Entry → Type 0 where
  nothing : HasDone i []
  printed : HasDone i (the_print i ∷ [])
  all : HasDone i (the_print i ∷ the_end i ∷ [])

one_more : (i : ℕ) (es : List Entry) (e : Entry) (own : List Entry) → i < 2 → CanTake prints es i e → entries_of i es ≡ own → HasDone i own → HasDone i (own ++ e ∷ [])
one_more i es e own h can is nothing = subst (λ x. HasDone i (x ∷ [])) (sym (print_first i es e h is can)) printed
one_more i es e own h can is printed = subst (λ x. HasDone i (the_print i ∷ x ∷ [])) (sym (end_then i es e h is can)) all
one_more i es e own h can is all = absurd (true_false (sym (ap (λ l. list_any (λ (x : Entry). is_end x.act) l) is) ∙ can.unended))

own_of : (i : ℕ) (es : List Entry) (e : Entry) (b : Bool) → (e.proc == i) ≡ b → entries_of i (es ++ e ∷ []) ≡ entries_of i es ++ (if b then e ∷ [] else [])
own_of i es e b h =
    filter-append (λ (x : Entry). x.proc == i) es (e ∷ []) ∙ ap (λ z. entries_of i es ++ (if z then e ∷ [] else [])) h

append_none : (xs : List Entry) → xs ++ [] ≡ xs
append_none [] = refl
append_none (x ∷ xs) = ap (λ ys. x ∷ ys) (append_none xs)

so_far : (es : List Entry) → IsRun prints es → (i : ℕ) → i < 2 → HasDone i (entries_of i es)
so_far es r.none i h = nothing
so_far es (r.more {es = before} {i = j} {e = e} run can is) i h = by (so_far before run i h) (e.proc == i) refl
  where
    by : HasDone i (entries_of i before) → (b : Bool) → (e.proc == i) ≡ b → HasDone i (entries_of i es)
    by earlier true k =
        let mine : j ≡ i = sym (taker prints before j e can) ∙ eqb-true e.proc i k in
        subst (λ l. HasDone i (entries_of i l)) (sym is) (subst (HasDone i) (sym (own_of i before e true k))
        (one_more i before e (entries_of i before) h (subst (λ n. CanTake prints before n e) mine can) refl earlier))
    by earlier false k =
        subst (λ l. HasDone i (entries_of i l)) (sym is) (subst (HasDone i) (sym (own_of i before e false k ∙ append_none (entries_of i before))) earlier)

-- a process that there isn't does nothing
none_of : (es : List Entry) → IsRun prints es → (i : ℕ) → (i < 2 → ⊥) → entries_of i es ≡ []
none_of es r.none i h = refl
none_of es (r.more {es = before} {i = j} {e = e} run can is) i h = by (none_of before run i h) (e.proc == i) refl
  where
    by : entries_of i before ≡ [] → (b : Bool) → (e.proc == i) ≡ b → entries_of i es ≡ []
    by earlier true k = absurd (h (subst (λ n. n < 2) (sym (taker prints before j e can) ∙ eqb-true e.proc i k) can.within))
    by earlier false k = ap (entries_of i) is ∙ own_of i before e false k ∙ append_none (entries_of i before) ∙ earlier

front_of : (i : ℕ) (own : List Entry) → HasDone i own → IsFront own (the_print i ∷ the_end i ∷ [])
front_of i own nothing = (the_print i ∷ the_end i ∷ [], refl)
front_of i own printed = (the_end i ∷ [], refl)
front_of i own all = ([], refl)

pub all_follow : IsFollowed prints (solo prints 4)
unfolding int_wrap built_in named_field_type instance_method
all_follow other zero run = front_of 0 _ (so_far other run 0 (omega arith))
all_follow other (suc zero) run = front_of 1 _ (so_far other run 1 (omega arith))
all_follow other (suc (suc n)) run = (_, ap (λ own. own ++ entries_of (suc (suc n)) (solo prints 4)) (sym (none_of other run (suc (suc n)) (λ h. omega arith))))
