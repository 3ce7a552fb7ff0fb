-- Processes that run on workers: what a pass says of the store's entries, and what an attempt does to a process.
use Rattle.std.proofs.Common.{◌≡◌, ℕ, ◌<◌, ◌==◌, Bool, true, false, cond, ◌||◌, Result, Ok, Err, IfOk, IfErr, List, [], ◌∷◌, ◌++◌, refl, sym, ap, ◌∙◌, subst, append-nil}
use Rattle.std.proofs.lemmas.List.{map-append}
use Rattle.ti_base.specs.declared.place.Place.{Place}
use Rattle.ti_base.specs.declared.action.Action.{Action}
use Rattle.ti_base.specs.declared.entry.Answer.{Answer}
use Rattle.ti_base.specs.declared.entry.Entry.{Entry}
use Rattle.ti_base.specs.declared.entry.Next.{Next}
use Rattle.ti_lang.specs.Meaning.Processes.{RunConfig}
use Rattle.ti_lang.specs.Meaning.Histories.{entries_of, has_end}
use Rattle.ti_lang.specs.Meaning.Runs.{IsRun}
use Rattle.ti_turnstile.specs.Passes.{items_of, GrownBy, IsLegal}
use Rattle.ti_store.specs.declared.act_err.ActErr.{ActErr}
use Rattle.ti_store.specs.declared.act_err.ActErr.TheVariants as err
use Rattle.ti_store.specs.Stores.{StoreState, config_of, log_of, fault_entry, IsDone, IsRefused}
use Rattle.ti_store.proofs.Lemmas.{end_more, answers_still}
use Rattle.ti_code.specs.Programs.{Code}
use Rattle.ti_machine.specs.ProcView.{HasNext}
use Rattle.ti_pending.specs.declared.pending.PendingProc.{PendingProc}
use Rattle.ti_runtime.specs.Mirrors.Tasks.{entries_in}
use Rattle.ti_pending.specs.UpToDate.{with_awaits, IsUpToDate}
use Rattle.ti_pending.specs.Acting.{next_place, next_action, ReceivesAnswer, CodePremises}
use Rattle.ti_runtime.specs.Mirrors.Processes.{RunPremises}
use Rattle.ti_pending.proofs.Lemmas.{OneNext, seated_with, seated_asking, seated_still, gone}

-- ---- logs of entries

pub logged_back : (es : List Entry) → entries_in (log_of es) ≡ es
logged_back [] = refl
logged_back (e ∷ es) = ap (λ xs. e ∷ xs) (logged_back es)

-- the items of a process are its entries
items_logged : (k : ℕ) (es : List Entry) → entries_in (items_of k (log_of es)) ≡ entries_of k es
items_logged k [] = refl
items_logged k (e ∷ es) = by (items_logged k es) (e.proc == k)
  where
    by : entries_in (items_of k (log_of es)) ≡ entries_of k es → (b : Bool)
        → entries_in (cond b ((e.proc, e) ∷ items_of k (log_of es)) (items_of k (log_of es)))
        ≡ cond b (e ∷ entries_of k es) (entries_of k es)
    by rest true = ap (λ xs. e ∷ xs) rest
    by rest false = rest

-- what begins a log of entries is one
front_logged : (es : List Entry) (seen rest : List (ℕ × Entry)) → log_of es ≡ seen ++ rest → seen ≡ log_of (entries_in seen)
front_logged es [] rest h = refl
front_logged [] (x ∷ xs) rest h = cc
front_logged (e ∷ es) (x ∷ xs) rest h =
    let head : (e.proc, e) ≡ x = cc in
    let tail : log_of es ≡ xs ++ rest = cc in
    let mine : x ≡ (x.1.proc, x.1) = subst (λ (y : ℕ × Entry). y ≡ (y.1.proc, y.1)) head refl in
    ap (λ y. y ∷ xs) mine ∙ ap (λ ys. (x.1.proc, x.1) ∷ ys) (front_logged es xs rest tail)

-- of its own entries, a process has seen all
pub own_known : (es : List Entry) (k : ℕ) (seen : List (ℕ × Entry)) → IsLegal (log_of es) k seen → entries_of k es ≡ entries_of k (entries_in seen)
own_known es k seen legal =
    sym (items_logged k es)
    ∙ ap entries_in (legal.1 ∙ ap (items_of k) (front_logged es seen legal.0.0 legal.0.1))
    ∙ items_logged k (entries_in seen)

-- ---- the log grows

log_more : (es all : List Entry) (e : Entry) → all ≡ es ++ e ∷ [] → log_of all ≡ log_of es ++ (e.proc, e) ∷ []
log_more es all e h = ap log_of h ∙ map-append {B = ℕ × Entry} (λ (e : Entry). (e.proc, e)) es (e ∷ [])

pub grown_by_none : (k : ℕ) (found : List (ℕ × Entry)) (es all : List Entry) → found ≡ log_of es → all ≡ es → GrownBy k found (log_of all)
grown_by_none k found es all f h = ([], ap log_of h ∙ sym f ∙ sym (append-nil found), tt)

grown_by_one : (k : ℕ) (es all : List Entry) (e : Entry) → e.proc ≡ k → all ≡ es ++ e ∷ [] → GrownBy k (log_of es) (log_of all)
grown_by_one k es all e own h = ((e.proc, e) ∷ [], log_more es all e h, (own, tt))

pub grown_acted : (st new : StoreState) (k : ℕ) (at : Place) (a : Action) (r : Result Answer ActErr) → IfOk r (λ answer. IsDone st k at a answer new) → IfErr r (λ why. IsRefused st k at a why new)
    → GrownBy k (log_of st.entries) (log_of new.entries)
grown_acted st new k at a (Ok answer) d r = grown_by_one k st.entries new.entries (record { proc = k; place = at; act = a; answer = answer }) refl (ap (λ (x : StoreState). x.entries) d.after)
grown_acted st new k at a (Err (err.Faulted kind)) d r = grown_by_one k st.entries new.entries (fault_entry k at kind) refl (ap (λ (x : StoreState). x.entries) r.1)
grown_acted st new k at a (Err err.NotYet) d r = grown_by_none k (log_of st.entries) st.entries new.entries refl (ap (λ (x : StoreState). x.entries) r.2)
grown_acted st new k at a (Err err.Halted) d r = grown_by_none k (log_of st.entries) st.entries new.entries refl (ap (λ (x : StoreState). x.entries) r.1)
grown_acted st new k at a (Err err.Memory) d r = grown_by_none k (log_of st.entries) st.entries new.entries refl (ap (λ (x : StoreState). x.entries) r.2)

-- ---- what a try makes of it

-- it did what it had next, and heard the answer
pub seated_gone : (code : Code) (s : RunConfig) (st new : StoreState) (i : ℕ) (old : PendingProc) → RunPremises code s → config_of st ≡ s → IsRun (config_of st) st.entries → i < s.procs
    → old.ended ≡ false → IsUpToDate code s st.entries i old → OneNext → (n : Next) → HasNext old.process n → (answer : Answer)
    → IsDone st i (next_place n) (next_action n) answer new → (asks : Bool) (pending : PendingProc) → ReceivesAnswer (with_awaits asks old) n answer pending
    → IsUpToDate code s new.entries i pending
seated_gone code s st new i old may same run l u y one n has answer d asks pending m =
    let runs : CodePremises code (config_of st) = subst (CodePremises code) (sym same) may.runs in
    let here = seated_asking code (config_of st) st.entries i old (subst (λ v. IsUpToDate code v st.entries i old) (sym same) y) asks in
    let inside = subst (λ (v : RunConfig). i < v.procs) (sym same) l in
    subst (λ v. IsUpToDate code v new.entries i pending) same (gone code st runs run i inside (with_awaits asks old) here u one n has answer new d pending m)

-- it is where it was
pub seated_refused : (code : Code) (s : RunConfig) (st new : StoreState) (i : ℕ) (pending : PendingProc) (n : Next) (why : ActErr)
    → IsRefused st i (next_place n) (next_action n) why new → IsUpToDate code s st.entries i pending → IsUpToDate code s new.entries i pending
seated_refused code s st new i pending n (err.Faulted kind) r y =
    let e = fault_entry i (next_place n) kind in
    subst (λ es. IsUpToDate code s es i pending) (sym (ap (λ (x : StoreState). x.entries) r.1))
    (seated_with code s st.entries (st.entries ++ e ∷ []) i pending pending.ended (answers_still i st.entries e refl refl) (end_more i st.entries e refl ∙ or_false (has_end i st.entries) ∙ y.ended) y)
  where
    or_false : (a : Bool) → (a || false) ≡ a
    or_false true = refl
    or_false false = refl
seated_refused code s st new i pending n err.NotYet r y = subst (λ es. IsUpToDate code s es i pending) (sym (ap (λ (x : StoreState). x.entries) r.2)) y
seated_refused code s st new i pending n err.Halted r y = subst (λ es. IsUpToDate code s es i pending) (sym (ap (λ (x : StoreState). x.entries) r.1)) y
seated_refused code s st new i pending n err.Memory r y = subst (λ es. IsUpToDate code s es i pending) (sym (ap (λ (x : StoreState). x.entries) r.2)) y

-- and has computed what is next
pub seated_advanced : (code : Code) (s : RunConfig) (es : List Entry) (i : ℕ) (old pending : PendingProc) (asks : Bool) → pending ≡ with_awaits asks old → IsUpToDate code s es i old → IsUpToDate code s es i pending
seated_advanced code s es i old pending asks is y = subst (IsUpToDate code s es i) (sym is) (seated_asking code s es i old y asks)

-- ---- what a pass tells

-- the process is in the store's entries where it is in those that its pass has seen
pub seated_inside : (code : Code) (s : RunConfig) (es : List Entry) (k i : ℕ) (seen : List (ℕ × Entry)) (pending : PendingProc) → k ≡ i
    → IsLegal (log_of es) k seen → IsUpToDate code s (entries_in seen) i pending → IsUpToDate code s es i pending
seated_inside code s es k i seen pending same legal y =
    let own : entries_of i es ≡ entries_of i (entries_in seen) = subst (λ k. entries_of k es ≡ entries_of k (entries_in seen)) same (own_known es k seen legal) in
    seated_still code s (entries_in seen) es i pending own y

-- and the other way round, once the pass has seen them all
pub seated_seen : (code : Code) (s : RunConfig) (es : List Entry) (i : ℕ) (seen : List (ℕ × Entry)) (pending : PendingProc) → seen ≡ log_of es → IsUpToDate code s es i pending → IsUpToDate code s (entries_in seen) i pending
seated_seen code s es i seen pending h y = subst (λ xs. IsUpToDate code s xs i pending) (sym (ap entries_in h ∙ logged_back es)) y
