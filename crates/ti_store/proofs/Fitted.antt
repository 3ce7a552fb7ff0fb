-- The answers of a run fit the processes, so one more answer takes a process one step further.
use Rattle.std.proofs.Common.{◌≡◌, ℕ, ◌==◌, Bool, true, false, List, [], ◌∷◌, ◌++◌, refl, sym, ap, ◌∙◌, subst, eqb-true}
use Rattle.ti_base.specs.declared.action.Action.{Action}
use Rattle.ti_base.specs.declared.place.Place.{Place}
use Rattle.ti_base.specs.declared.entry.Answer.{Answer}
use Rattle.ti_base.specs.declared.entry.Entry.{Entry}
use Rattle.ti_base.specs.declared.entry.Next.TheVariants as next
use Rattle.ti_lang.specs.Meaning.Answers.{FitsAction}
use Rattle.ti_lang.specs.Meaning.Processes.{RunConfig, Process, begin}
use Rattle.ti_lang.specs.Meaning.NextStep.{IsNext, After, none, more}
use Rattle.ti_lang.specs.Meaning.Histories.{is_answered, answers_of}
use Rattle.ti_lang.specs.Meaning.Runs.{ProcAfter}
use Rattle.ti_lang.proofs.Lemmas.{goes_on}
use Rattle.ti_align.specs.Answering.{AnswersFit}
use Rattle.ti_store.proofs.Appended.{answers_more}

-- ---- the answers of a run fit

-- process i got the answer, behind these others, with an entry of its own
record Given (i : ℕ) (es : List Entry) (told : List Answer) (r : Answer) : Type 0 where
  before : List Entry
  rest : List Entry
  entry : Entry
  split : es ≡ before ++ entry ∷ rest
  told_is : answers_of i before ≡ told
  answer_is : entry.answer ≡ r
  own : entry.proc ≡ i
  answered : is_answered entry ≡ true

its_own : (i : ℕ) (e : Entry) (es : List Entry) → (e.proc == i) ≡ true → is_answered e ≡ true → answers_of i (e ∷ es) ≡ e.answer ∷ answers_of i es
its_own i e es h a = rw (h, a) refl

no_answer : (i : ℕ) (e : Entry) (es : List Entry) → (e.proc == i) ≡ true → is_answered e ≡ false → answers_of i (e ∷ es) ≡ answers_of i es
no_answer i e es h a = rw (h, a) refl

of_another : (i : ℕ) (e : Entry) (es : List Entry) → (e.proc == i) ≡ false → answers_of i (e ∷ es) ≡ answers_of i es
of_another i e es h = rw h refl

none_told : (told rest : List Answer) (r : Answer) → [] ≡ told ++ r ∷ rest → ⊥
none_told [] rest r z = cc
none_told (a ∷ told) rest r z = cc

first_same : (a b : Answer) (xs ys : List Answer) → a ∷ xs ≡ b ∷ ys → a ≡ b
first_same a b xs ys z = cc

rest_same : (a b : Answer) (xs ys : List Answer) → a ∷ xs ≡ b ∷ ys → xs ≡ ys
rest_same a b xs ys z = cc

-- one entry more before it, which adds these answers
given_behind : (i : ℕ) (e : Entry) (es : List Entry) (told now : List Answer) (r : Answer) → (g : Given i es told r) → answers_of i (e ∷ g.before) ≡ now → Given i (e ∷ es) now r
given_behind i e es told now r g z = record {
  before = e ∷ g.before;
  rest = g.rest;
  entry = g.entry;
  split = ap (λ xs. e ∷ xs) g.split;
  told_is = z;
  answer_is = g.answer_is;
  own = g.own;
  answered = g.answered;
}

given : (i : ℕ) (es : List Entry) (told rest : List Answer) (r : Answer) → answers_of i es ≡ told ++ r ∷ rest → Given i es told r
given i [] told rest r z = absurd (none_told told rest r z)
given i (e ∷ es) told rest r z = by (e.proc == i) (is_answered e) refl refl (λ xs y. given i es xs rest r y) told z
  where
    by : (b d : Bool) → (e.proc == i) ≡ b → is_answered e ≡ d → ((xs : List Answer) → answers_of i es ≡ xs ++ r ∷ rest → Given i es xs r)
        → (told : List Answer) → answers_of i (e ∷ es) ≡ told ++ r ∷ rest → Given i (e ∷ es) told r
    by true true h a later [] z = record {
      before = [];
      rest = es;
      entry = e;
      split = refl;
      told_is = refl;
      answer_is = first_same e.answer r _ _ (sym (its_own i e es h a) ∙ z);
      own = eqb-true e.proc i h;
      answered = a;
    }
    by true true h a later (x ∷ xs) z =
        let both = sym (its_own i e es h a) ∙ z in
        let g = later xs (rest_same e.answer x _ _ both) in
        given_behind i e es xs (x ∷ xs) r g (its_own i e g.before h a ∙ ap (λ y. y ∷ answers_of i g.before) (first_same e.answer x _ _ both) ∙ ap (λ ys. x ∷ ys) g.told_is)
    by true false h a later xs z =
        let g = later xs (sym (no_answer i e es h a) ∙ z) in
        given_behind i e es xs xs r g (no_answer i e g.before h a ∙ g.told_is)
    by false d h a later xs z =
        let g = later xs (sym (of_another i e es h) ∙ z) in
        given_behind i e es xs xs r g (of_another i e g.before h ∙ g.told_is)

-- each answer of a process fits what it has next behind those before it
pub fitting : (s : RunConfig) (es : List Entry) (i : ℕ) → AnswersFit s es → (told rest : List Answer) (r : Answer) (q : Process)
    → answers_of i es ≡ told ++ r ∷ rest → After (begin s i) told q → FitsAction q r
fitting s es i fit told rest r q z x =
    let g = given i es told rest r z in
    let world : ProcAfter s g.before g.entry.proc q = subst (λ k. ProcAfter s g.before k q) (sym g.own) (subst (λ rs. After (begin s i) rs q) (sym g.told_is) x) in
    subst (FitsAction q) g.answer_is (fit g.before g.rest g.entry q g.split world g.answered)

-- ---- one answer more

one_more : (p q r : Process) (rs : List Answer) (a : Answer) → After p rs q → After q (a ∷ []) r → After p (rs ++ a ∷ []) r
one_more p q r [] a none y = y
one_more p q r (b ∷ rs) a (more {go = go} x e z) y = more x e (one_more (go b) q r rs a z y)

pub world_more : (s : RunConfig) (es : List Entry) (e : Entry) (p : Process) (at : Place) (a : Action) → ProcAfter s es e.proc p → IsNext p (next.Act at a) → is_answered e ≡ true
    → (q : Process) × ProcAfter s (es ++ e ∷ []) e.proc q
world_more s es e p at a x is told =
    let on = goes_on p at a e.answer is in
    (on.0, subst (λ rs. After (begin s e.proc) rs on.0) (sym (answers_more e.proc es e refl told)) (one_more (begin s e.proc) p on.0 (answers_of e.proc es) e.answer x on.1))

no_entry : (before rest : List Entry) (e : Entry) → [] ≡ before ++ e ∷ rest → ⊥
no_entry [] rest e z = cc
no_entry (x ∷ before) rest e z = cc

pub fits_none : (s : RunConfig) → AnswersFit s []
fits_none s before rest e p z x is = absurd (no_entry before rest e z)
