-- Made things: each is made once.
use Rattle.std.proofs.Common.{◌≡◌, inl, inr, ℕ, ◌+◌, ◌<◌, ◌==◌, Bool, true, false, cond, List, ◌∷◌, count_by, Option, Some, None, refl, sym, ap, subst, ◌∙◌, arith}
use Rattle.std.proofs.lemmas.List.Sums.{sum_by-cons}
use Rattle.std.proofs.lemmas.Bool.{eq-eqb}
use Rattle.ti_base.specs.declared.value.Id.{Id}
use Rattle.ti_base.specs.declared.value.Value.{Value}
use Rattle.ti_base.specs.declared.value.Value.TheVariants as v
use Rattle.ti_base.specs.declared.fault.FaultKind.{FaultKind}
use Rattle.ti_base.specs.declared.action.Action.{Action}
use Rattle.ti_base.specs.declared.action.Action.TheVariants as act
use Rattle.ti_base.specs.declared.entry.Answer.{Answer}
use Rattle.ti_base.specs.declared.entry.Answer.TheVariants.{Done, Val}
use Rattle.ti_base.specs.declared.entry.Entry.{Entry}
use Rattle.ti_base.specs.Cells.{suits, view_fault}
use Rattle.ti_lang.specs.Program.Classes.{ProgramView}
use Rattle.ti_lang.specs.Meaning.Histories.{History, is_making, entries_of, things_made}
use Rattle.ti_lang.specs.Meaning.Zeros.{zeros_of_class}
use Rattle.ti_lang.specs.Meaning.HeapOf.{grid_of_id, new_id, view_id, made_by, IsMade}
use Rattle.ti_base.specs.Forms.{is_dim}
use Rattle.ti_lang.specs.Meaning.HeapAnswers.{Outcome, Answers, where_some, possible_if, faults_if, views, makes, places, heap_answer, IsAnswered, none, more}

-- ---- what an answer says

pub possible_then : (t : Bool) (o : Outcome) (r : Answer) → possible_if t o ≡ Answers r → (t ≡ true) × (o ≡ Answers r)
possible_then true o r e = (refl, e)
possible_then false o r e = cc

pub fault_then : (t : Bool) (k : FaultKind) (o : Outcome) (r : Answer) → faults_if t k o ≡ Answers r → o ≡ Answers r
fault_then true k o r e = cc
fault_then false k o r e = e

pub some_then : {A : Type 0} (m : Option A) (go : A → Outcome) (r : Answer) → where_some m go ≡ Answers r → (a : A) × (m ≡ Some a) × (go a ≡ Answers r)
some_then None go r e = cc
some_then (Some a) go r e = (a, refl, e)

pub views_then : (m : Option FaultKind) (o : Outcome) (r : Answer) → views m o ≡ Answers r → o ≡ Answers r
views_then None o r e = e
views_then (Some k) o r e = cc

pub answer_same : (a b : Answer) → Answers a ≡ Answers b → a ≡ b
answer_same a b e = cc

pub made_value : (program : ProgramView) (h : History) (i : ℕ) (a : Action) (x : Value) (r : Answer) → makes program h i a x ≡ Answers r → Val x ≡ r
made_value program h i a x r e = answer_same (Val x) r (fault_then _ _ _ r e)

pub placed : (region : ℕ) (h : History) (o : Outcome) (r : Answer) → places region h o ≡ Answers r → o ≡ Answers r
placed region h o r e = fault_then _ _ o r (possible_then _ _ r e).1

-- ---- names

not_made : (a : Action) (r : Answer) → is_making a ≡ false → made_by a r ≡ None
not_made a Done e = refl
not_made a (Val (v.Obj id)) e = ap (λ t. cond t id None) e
not_made a (Val (v.Grid id)) e = ap (λ t. cond t id None) e
not_made a (Val (v.Int n)) e = refl
not_made a (Val (v.Long n)) e = refl
not_made a (Val (v.Bool b)) e = refl
not_made a (Val (v.Pt p)) e = refl
not_made a (Val (v.Rc r)) e = refl
not_made a (Val (v.Region r)) e = refl

-- the thing has the next number of the process
abbrev IsNext : ℕ → History → Id → Type 0
IsNext i h id = (id.maker ≡ i) × (id.serial ≡ things_made i h)

next_from : (i : ℕ) (h : History) (x id : Id) → IsNext i h x → Some x ≡ Some id → IsNext i h id
next_from i h x id n e = let same : x ≡ id = cc in subst (IsNext i h) same n

object_next : (i : ℕ) (h : History) (a : Action) (x id : Id) (r : Answer) → is_making a ≡ true → IsNext i h x → Val (v.Obj (Some x)) ≡ r → made_by a r ≡ Some id → IsNext i h id
object_next i h a x id r m n e g = next_from i h x id n (sym (ap (λ t. cond t (Some x) None) m) ∙ ap (made_by a) e ∙ g)

grid_next : (i : ℕ) (h : History) (a : Action) (x id : Id) (r : Answer) → is_making a ≡ true → IsNext i h x → Val (v.Grid (Some x)) ≡ r → made_by a r ≡ Some id → IsNext i h id
grid_next i h a x id r m n e g = next_from i h x id n (sym (ap (λ t. cond t (Some x) None) m) ∙ ap (made_by a) e ∙ g)

made_next : (program : ProgramView) (h : History) (i : ℕ) (a : Action) (r : Answer) (id : Id) → is_making a ≡ true → heap_answer program h i a ≡ Answers r
    → made_by a r ≡ Some id → IsNext i h id
made_next program h i (act.NewObj class region) r id m e g =
    let a = act.NewObj class region in
    let x = new_id i region h in
    let s = some_then (zeros_of_class program class) (λ zeros. places region h (makes program h i a (v.Obj (Some x)))) r e in
    object_next i h a x id r refl (refl, refl) (made_value program h i a (v.Obj (Some x)) r (placed region h (makes program h i a (v.Obj (Some x))) r s.2)) g
made_next program h i (act.NewGrid element domain region) r id m e g =
    let a = act.NewGrid element domain region in
    let x = new_id i region h in
    let s = possible_then (is_dim domain.dim) (places region h (makes program h i a (v.Grid (Some x)))) r e in
    grid_next i h a x id r refl (refl, refl) (made_value program h i a (v.Grid (Some x)) r (placed region h (makes program h i a (v.Grid (Some x))) r s.1)) g
made_next program h i (act.MakeView viewed how) r id m e g =
    let a = act.MakeView viewed how in
    let x = view_id i viewed h in
    let made = makes program h i a (v.Grid (Some x)) in
    let s = some_then (grid_of_id viewed h) (λ k. possible_if (suits how k.domain) (views (view_fault how k.domain) made)) r e in
    let t = possible_then (suits how s.0.domain) (views (view_fault how s.0.domain) made) r s.2 in
    grid_next i h a x id r refl (refl, refl) (made_value program h i a (v.Grid (Some x)) r (views_then (view_fault how s.0.domain) made r t.1)) g
made_next program h i (act.GetField obj field) r id m e g = cc
made_next program h i (act.PutField obj field value) r id m e g = cc
made_next program h i (act.GetElem grid at) r id m e g = cc
made_next program h i (act.PutElem grid at value) r id m e g = cc
made_next program h i (act.DomainOf grid) r id m e g = cc
made_next program h i (act.Print literal value) r id m e g = cc
made_next program h i (act.Arrive kind arg deposit) r id m e g = cc
made_next program h i act.Depart r id m e g = cc
made_next program h i (act.Take who) r id m e g = cc
made_next program h i act.End r id m e g = cc
made_next program h i (act.Fault kind) r id m e g = cc

making : (a : Action) (r : Answer) (id : Id) → made_by a r ≡ Some id → is_making a ≡ true
making a r id g = by (is_making a) refl
  where
    by : (t : Bool) → is_making a ≡ t → t ≡ true
    by true e = refl
    by false e = let n = not_made a r e in cc

-- ---- how many things

count_more : (t : Bool) (e : Entry) (es : List Entry) → count_by (λ (x : Entry). is_making x.act) (cond t (e ∷ es) es)
    ≡ cond t (cond (is_making e.act) 1 0) 0 + count_by (λ (x : Entry). is_making x.act) es
count_more true e es = sum_by-cons (λ (x : Entry). cond (is_making x.act) 1 0) e es
count_more false e es = omega arith

things_more : (i : ℕ) (e : Entry) (h : History) → things_made i (e ∷ h) ≡ cond (e.proc == i) (cond (is_making e.act) 1 0) 0 + things_made i h
things_more i e h = count_more (e.proc == i) e (entries_of i h)

-- each made thing has a number below the next one of its maker
numbered : (program : ProgramView) (h : History) (id : Id) → IsAnswered program h → IsMade id h → id.serial < things_made id.maker h
numbered program h id none m = elim m [ ]
numbered program h id (more {h = earlier} {e = e} a said) (inl g) =
    let mk = making e.act e.answer id g in
    let n = made_next program earlier e.proc e.act e.answer id mk said g in
    let own : (e.proc == id.maker) ≡ true = eq-eqb e.proc id.maker (sym n.0) in
    let t = things_more id.maker e earlier in
    let step : ℕ = cond (e.proc == id.maker) (cond (is_making e.act) 1 0) 0 in
    let one : step ≡ 1 = ap (λ (t : Bool). let n : ℕ = cond t (cond (is_making e.act) 1 0) 0 in n) own ∙ ap (λ (t : Bool). let n : ℕ = cond t 1 0 in n) mk in
    let s : things_made e.proc earlier ≡ things_made id.maker earlier = ap (λ i. things_made i earlier) (sym n.0) in
    omega (arith, n.1)
numbered program h id (more {h = earlier} {e = e} a said) (inr m) =
    let b = numbered program earlier id a m in
    omega (arith, things_more id.maker e earlier)

pub made_once : (program : ProgramView) (h : History) (e : Entry) (id : Id) → IsAnswered program (e ∷ h) → made_by e.act e.answer ≡ Some id → IsMade id h → ⊥
made_once program h e id (more a said) g m =
    let n = made_next program h e.proc e.act e.answer id (making e.act e.answer id g) said g in
    let b = numbered program h id a m in
    let s : things_made e.proc h ≡ things_made id.maker h = ap (λ i. things_made i h) (sym n.0) in
    omega (arith, n.1)
