-- The way of a process in a run: it arrives at no delete of a region that is gone, and where it waits, it arrived last.
use Rattle.std.proofs.Common.{◌≡◌, ℕ, ◌+◌, ◌<◌, ◌==◌, Bool, true, false, ◌&&◌, ◌||◌, if◌then◌else◌, map, filter, length, length-append, Option, Some, None, List, [], ◌∷◌, ◌++◌, refl, ap, ap₂, sym, ◌∙◌, subst, arith, eq-eqb, eqb-true}
use Rattle.std.specs.List.{list_any}
use Rattle.ti_base.specs.declared.place.Place.{Place}
use Rattle.ti_base.specs.declared.fault.FaultKind.{FaultKind}
use Rattle.ti_base.specs.declared.fault.FaultKind.TheVariants.{RegionGone}
use Rattle.ti_base.specs.declared.action.Action.{Action}
use Rattle.ti_base.specs.declared.action.Action.TheVariants as act
use Rattle.ti_base.specs.declared.action.CollKind.{CollKind}
use Rattle.ti_base.specs.declared.action.CollKind.TheVariants as coll
use Rattle.ti_base.specs.declared.action.Deposit.{Deposit}
use Rattle.ti_base.specs.declared.entry.Answer.{Answer}
use Rattle.ti_base.specs.declared.entry.Answer.TheVariants.{Done}
use Rattle.ti_base.specs.declared.entry.Entry.{Entry}
use Rattle.ti_lang.specs.Meaning.Processes.{RunConfig, Process, begin}
use Rattle.ti_lang.specs.Meaning.Comp.{Wanted}
use Rattle.ti_lang.specs.Meaning.Steps.{At, step}
use Rattle.ti_lang.specs.Meaning.NextStep.{Reaches, After, none}
use Rattle.ti_lang.specs.Meaning.Histories.{History, history_of, is_arrival, is_departure, answers_of, arrivals}
use Rattle.ti_lang.specs.Meaning.RoundsOf as rounds
use Rattle.ti_lang.specs.Meaning.RoundsOf.{is_delete_of, last_arrival, arrival_at, arrival_in}
use Rattle.ti_lang.specs.Meaning.RegionsOf.{is_made, is_gone}
use Rattle.ti_lang.specs.Meaning.HeapAnswers.{Outcome, Answers, Impossible, heap_answer, arrives, possible_if, faults_if}
use Rattle.ti_lang.specs.Meaning.HeapAnswers as heap
use Rattle.ti_lang.specs.Meaning.Runs.{ProcAfter, CanTake, IsRun}
use Rattle.ti_lang.specs.Meaning.Runs as run
use Rattle.ti_lang.proofs.Lemmas.{after_same, taker, history_grows}
use Rattle.ti_align.specs.declared.slices.SliceStep.{SliceStep}
use Rattle.ti_align.specs.declared.slices.SliceStep.TheVariants as answer
use Rattle.ti_align.specs.Slice.{answers_at_departures, deleted_at}
use Rattle.ti_align.proofs.Runs.Ways.{Asked, Meeting, Came, Left, asking, answers_left}
use Rattle.ti_align.proofs.SliceAlone.FitWays.{FitWay, fit_then, fit_reach, fit_one}
use Rattle.ti_align.proofs.SliceAlone.FitWays as way
use Rattle.ti_align.proofs.Runs.Vars.{true_false, not_true, if_true, if_false, or_right, or_left}
use Rattle.ti_align.proofs.Runs.Entries.{departures_both, arrivals_both, own}
use Rattle.ti_align.proofs.Runs.Arrived.{is_own, one_own, arrival_other, arrival_own}
use Rattle.ti_align.proofs.Runs.Running.{meeting, Grows, still, acted, grows, left_both, after_more}
use Rattle.ti_align.proofs.SliceAlone.Pacing.{deletes_any, Free}
use Rattle.ti_align.proofs.Alignment.Rounds.{impossible}

-- ---- what stands at the end of meetings

-- the regions that the next departure deletes, and those that are gone, behind some meetings
abbrev pub pend_after : List ℕ → List Meeting → List ℕ
pend_after pend [] = pend
pend_after pend (Came at kind arg ∷ ms) = pend_after (deleted_at kind arg) ms
pend_after pend (Left r ∷ ms) = pend_after [] ms

abbrev pub gone_after : List ℕ → List ℕ → List Meeting → List ℕ
gone_after pend gone [] = gone
gone_after pend gone (Came at kind arg ∷ ms) = gone_after (deleted_at kind arg) gone ms
gone_after pend gone (Left r ∷ ms) = gone_after [] (pend ++ gone) ms

-- the arrival behind which no departure stands
abbrev pub met_after : Option SliceStep → List Meeting → Option SliceStep
met_after x [] = x
met_after x (Came at kind arg ∷ ms) = met_after (Some (answer.At kind at arg)) ms
met_after x (Left r ∷ ms) = met_after None ms

pend_both : (pend : List ℕ) (ms ns : List Meeting) → pend_after pend (ms ++ ns) ≡ pend_after (pend_after pend ms) ns
pend_both pend [] ns = refl
pend_both pend (Came at kind arg ∷ ms) ns = pend_both (deleted_at kind arg) ms ns
pend_both pend (Left r ∷ ms) ns = pend_both [] ms ns

gone_both : (pend gone : List ℕ) (ms ns : List Meeting) → gone_after pend gone (ms ++ ns) ≡ gone_after (pend_after pend ms) (gone_after pend gone ms) ns
gone_both pend gone [] ns = refl
gone_both pend gone (Came at kind arg ∷ ms) ns = gone_both (deleted_at kind arg) gone ms ns
gone_both pend gone (Left r ∷ ms) ns = gone_both [] (pend ++ gone) ms ns

met_both : (x : Option SliceStep) (ms ns : List Meeting) → met_after x (ms ++ ns) ≡ met_after (met_after x ms) ns
met_both x [] ns = refl
met_both x (Came at kind arg ∷ ms) ns = met_both (Some (answer.At kind at arg)) ms ns
met_both x (Left r ∷ ms) ns = met_both None ms ns

free_both : (pend gone : List ℕ) (ms ns : List Meeting) → Free pend gone ms → Free (pend_after pend ms) (gone_after pend gone ms) ns → Free pend gone (ms ++ ns)
free_both pend gone [] ns f g = g
free_both pend gone (Came at kind arg ∷ ms) ns f g = (f.0, free_both (deleted_at kind arg) gone ms ns f.1 g)
free_both pend gone (Left r ∷ ms) ns f g = free_both [] (pend ++ gone) ms ns f g

-- ---- what a history says of regions

-- all these regions are gone
abbrev pub AllGone : History → List ℕ → Type 0
AllGone h [] = Unit {0}
AllGone h (r ∷ rs) = (is_gone r h ≡ true) × AllGone h rs

-- this arrival is at a delete of each of them
abbrev pub AllDeleted : Option rounds.Arrival → List ℕ → Type 0
AllDeleted a [] = Unit {0}
AllDeleted a (r ∷ rs) = (is_delete_of r a ≡ true) × AllDeleted a rs

gone_on : (e : Entry) (h : History) (rs : List ℕ) → AllGone h rs → AllGone (e ∷ h) rs
gone_on e h [] g = tt
gone_on e h (r ∷ rs) g = (or_right (is_departure e.act && is_delete_of r (last_arrival e.proc h)) (is_gone r h) g.0, gone_on e h rs g.1)

gone_now : (e : Entry) (h : History) (rs : List ℕ) → is_departure e.act ≡ true → AllDeleted (last_arrival e.proc h) rs → AllGone (e ∷ h) rs
gone_now e h [] d g = tt
gone_now e h (r ∷ rs) d g = (or_left (is_departure e.act && is_delete_of r (last_arrival e.proc h)) (is_gone r h) (ap₂ (λ a b. a && b) d g.0), gone_now e h rs d g.1)

gone_all : (h : History) (rs qs : List ℕ) → AllGone h rs → AllGone h qs → AllGone h (rs ++ qs)
gone_all h [] qs f g = g
gone_all h (r ∷ rs) qs f g = (f.0, gone_all h rs qs f.1 g)

deleted_now : (kind : CollKind) (arg : Option ℕ) (given : Deposit) → AllDeleted (Some (record { kind = kind; arg = arg; deposit = given })) (deleted_at kind arg)
deleted_now coll.DeleteRegion (Some r) given = (eq-eqb r r refl, tt)
deleted_now coll.DeleteRegion None given = tt
deleted_now coll.Barrier arg given = tt
deleted_now coll.Broadcast arg given = tt
deleted_now coll.Exchange arg given = tt
deleted_now coll.MakeRegion arg given = tt

fault : (k : FaultKind) (r : Answer) → heap.Faults k ≡ Answers r → ⊥
fault k r e = cc

there : (m g : Bool) (r : Answer) → possible_if m (faults_if g RegionGone (Answers Done)) ≡ Answers r → g ≡ false
there true true r e = absurd (fault RegionGone r e)
there true false r e = refl
there false g r e = absurd (impossible r e)

in_gone : (n : ℕ) (h : History) (rs : List ℕ) → AllGone h rs → is_gone n h ≡ false → list_any (λ r. n == r) rs ≡ false
in_gone n h [] g f = refl
in_gone n h (r ∷ rs) g f = go (n == r) refl (in_gone n h rs g.1 f)
  where
    go : (b : Bool) → (n == r) ≡ b → list_any (λ r. n == r) rs ≡ false → ((n == r) || list_any (λ r. n == r) rs) ≡ false
    go true e i = absurd (true_false (sym g.0 ∙ sym (ap (λ k. is_gone k h) (eqb-true n r e)) ∙ f))
    go false e i = ap₂ (λ a b. a || b) e i

none_any : (A : Type 0) (xs : List A) → list_any (λ (x : A). false) xs ≡ false
none_any A [] = refl
none_any A (x ∷ xs) = none_any A xs

free_now : (h : History) (kind : CollKind) (arg : Option ℕ) (r : Answer) (rs : List ℕ) → arrives h kind arg ≡ Answers r → AllGone h rs → deletes_any rs kind arg ≡ false
free_now h coll.DeleteRegion (Some n) r rs e g = in_gone n h rs g (there (is_made n h) (is_gone n h) r e)
free_now h coll.DeleteRegion None r rs e g = none_any ℕ rs
free_now h coll.Barrier arg r rs e g = none_any ℕ rs
free_now h coll.Broadcast arg r rs e g = none_any ℕ rs
free_now h coll.Exchange arg r rs e g = none_any ℕ rs
free_now h coll.MakeRegion arg r rs e g = none_any ℕ rs

-- ---- one entry more

-- the arrival of a process behind which no departure of it stands
abbrev pub met_by : Entry → Action → Option SliceStep → Option SliceStep
met_by e (act.Arrive kind arg given) x = Some (answer.At kind e.place arg)
met_by e act.Depart x = None
met_by e a x = x

abbrev pub met_in : ℕ → History → Option SliceStep
met_in j [] = None
met_in j (e ∷ h) = if e.proc == j then met_by e e.act (met_in j h) else met_in j h

-- the way of a process of a run
pub record Path (F : Wanted → Answer → Type 0) (s : RunConfig) (es : List Entry) (j : ℕ) (ms : List Meeting) : Type 0 where
  pub process : Process
  pub world : ProcAfter s es j process
  pub goes : FitWay F (begin s j) ms process
  pub told : answers_left ms ≡ answers_at_departures j es
  pub free : Free [] [] ms
  pub gone : AllGone (history_of es) (gone_after [] [] ms)
  pub pend : AllDeleted (last_arrival j (history_of es)) (pend_after [] ms)
  pub met : met_after None ms ≡ met_in j (history_of es)

one_none : (n : ℕ) → n ≡ 1 → n ≡ 0 → ⊥
one_none n a b = absurd (omega arith)

plus_none : (a b : ℕ) → a + b ≡ a → b ≡ 0
plus_none a b h = omega arith

-- an entry that adds no arrival is no own arrival
quiet : (s : RunConfig) (es all : List Entry) (j : ℕ) (e : Entry) → all ≡ es ++ e ∷ [] → arrivals j all ≡ arrivals j es → is_own j e ≡ false
quiet s es all j e z k =
    not_true (is_own j e) (λ h. one_none _ (one_own j e h) (plus_none (arrivals j es) _ (sym (arrivals_both j es (e ∷ [])) ∙ ap (arrivals j) (sym z) ∙ k)))

no_more : (x : Answer) (xs : List Answer) → xs ++ x ∷ [] ≡ xs → ⊥
no_more x xs h = absurd (one_none 1 refl (plus_none (length xs) 1 (sym (length-append xs (x ∷ [])) ∙ ap length h)))

-- and one that adds no departure is none
calm : (es all : List Entry) (j : ℕ) (e : Entry) → all ≡ es ++ e ∷ [] → answers_at_departures j all ≡ answers_at_departures j es → (e.proc == j) ≡ true → is_departure e.act ≡ false
calm es all j e z k h =
    not_true (is_departure e.act) (λ d. no_more e.answer (answers_at_departures j es)
    (ap (λ x. answers_at_departures j es ++ x) (sym (one d)) ∙ sym (departures_both j es (e ∷ [])) ∙ ap (answers_at_departures j) (sym z) ∙ k))
  where
    one : is_departure e.act ≡ true → answers_at_departures j (e ∷ []) ≡ e.answer ∷ []
    one d = ap (λ x. map (λ (e : Entry). e.answer) (filter (λ (e : Entry). is_departure e.act) x)) (own j e h) ∙ kept d
      where
        kept : is_departure e.act ≡ true → map (λ (e : Entry). e.answer) (filter (λ (e : Entry). is_departure e.act) (e ∷ [])) ≡ e.answer ∷ []
        kept d = rw d refl

met_quiet : (e : Entry) (a : Action) (x : Option SliceStep) → is_arrival a ≡ false → is_departure a ≡ false → met_by e a x ≡ x
met_quiet e (act.Arrive kind arg given) x h k = absurd (true_false h)
met_quiet e act.Depart x h k = absurd (true_false k)
met_quiet e _ x h k = refl

met_still : (j : ℕ) (e : Entry) (h : History) → is_own j e ≡ false → ((e.proc == j) ≡ true → is_departure e.act ≡ false) → met_in j (e ∷ h) ≡ met_in j h
met_still j e h k d = go (e.proc == j) refl
  where
    go : (b : Bool) → (e.proc == j) ≡ b → (if e.proc == j then met_by e e.act (met_in j h) else met_in j h) ≡ met_in j h
    go true z = if_true (e.proc == j) _ _ z ∙ met_quiet e e.act (met_in j h) (sym (ap (λ b. b && is_arrival e.act) z) ∙ k) (d z)
    go false z = if_false (e.proc == j) _ _ z

still_path : {F : Wanted → Answer → Type 0} (s : RunConfig) (es all : List Entry) (j : ℕ) (e : Entry) (ms : List Meeting) (p : Process) → all
    ≡ es ++ e ∷ [] → arrivals j all ≡ arrivals j es → ProcAfter s all j p → answers_at_departures j all ≡ answers_at_departures j es
    → (o : Path F s es j ms) → o.process ≡ p → Path F s all j ms
still_path s es all j e ms p z k w d o q =
    let grown = ap history_of z ∙ history_grows es e in
    let none = quiet s es all j e z k in record {
      process = p;
      world = w;
      goes = subst (FitWay _ (begin s j) ms) q o.goes;
      told = o.told ∙ sym d;
      free = o.free;
      gone = subst (λ h. AllGone h (gone_after [] [] ms)) (sym grown) (gone_on e (history_of es) (gone_after [] [] ms) o.gone);
      pend = subst (λ h. AllDeleted (last_arrival j h) (pend_after [] ms)) (sym grown) (subst (λ a. AllDeleted a (pend_after [] ms)) (sym (arrival_other j e (history_of es) none)) o.pend);
      met = o.met ∙ sym (ap (met_in j) grown ∙ met_still j e (history_of es) none (calm es all j e z d));
    }

-- ---- an action more

module _ (s : RunConfig) (es : List Entry) (j : ℕ) (at : Place) (r : Answer) where
  abbrev entry : Action → Entry
  entry a = record { proc = j; place = at; act = a; answer = r }

  free_one : (a : Action) (pend gone : List ℕ) → heap_answer s.program (history_of es) j a ≡ Answers r → AllGone (history_of es) gone → Free pend gone (meeting at a r)
  free_one (act.Arrive kind arg given) pend gone h g = (free_now (history_of es) kind arg r gone h g, tt)
  free_one act.Depart pend gone h g = tt
  free_one _ pend gone h g = tt

  gone_one : (a : Action) (pend gone : List ℕ) → AllGone (history_of es) gone → AllDeleted (last_arrival j (history_of es)) pend
      → AllGone (entry a ∷ history_of es) (gone_after pend gone (meeting at a r))
  gone_one (act.Arrive kind arg given) pend gone g d = gone_on (entry (act.Arrive kind arg given)) (history_of es) gone g
  gone_one act.Depart pend gone g d = gone_all (entry act.Depart ∷ history_of es) pend gone
      (gone_now (entry act.Depart) (history_of es) pend refl d) (gone_on (entry act.Depart) (history_of es) gone g)
  gone_one a pend gone g d = gone_on (entry a) (history_of es) gone g

  not_own : (a : Action) → is_arrival a ≡ false → is_own j (entry a) ≡ false
  not_own a h = ap₂ (λ x y. x && y) (eq-eqb j j refl) h

  pend_one : (a : Action) (pend : List ℕ) → AllDeleted (last_arrival j (history_of es)) pend → AllDeleted (last_arrival j (entry a ∷ history_of es)) (pend_after pend (meeting at a r))
  pend_one (act.Arrive kind arg given) pend d =
      subst (λ x. AllDeleted x (deleted_at kind arg)) (sym (arrival_own j (entry (act.Arrive kind arg given)) (history_of es) (ap (λ b. b && true) (eq-eqb j j refl)))) (deleted_now kind arg given)
  pend_one act.Depart pend d = tt
  pend_one a pend d = subst (λ x. AllDeleted x pend) (sym (arrival_other j (entry a) (history_of es) (not_own a refl))) d

  met_one : (a : Action) (x : Option SliceStep) → met_after x (meeting at a r) ≡ (if j == j then met_by (entry a) a x else x)
  met_one a x = by a ∙ sym (if_true (j == j) _ _ (eq-eqb j j refl))
    where
      by : (a : Action) → met_after x (meeting at a r) ≡ met_by (entry a) a x
      by (act.Arrive kind arg given) = refl
      by act.Depart = refl
      by _ = refl

left_one_more : (s : RunConfig) (es : List Entry) (j : ℕ) (at : Place) (a : Action) (r : Answer) (ms : List Meeting) (all : List Entry)
    → answers_left ms ≡ answers_at_departures j es → answers_at_departures j all ≡ answers_at_departures j es
    ++ answers_left (meeting at a r)
    → answers_left (ms ++ meeting at a r) ≡ answers_at_departures j all
left_one_more s es j at a r ms all t m = left_both ms (meeting at a r) ∙ ap (λ x. x ++ answers_left (meeting at a r)) t ∙ sym m

-- what a process is answered next at a departure suits what is wanted there
abbrev pub Suits : (Wanted → Answer → Type 0) → RunConfig → List Entry → ℕ → Type 0
Suits F s es j =
    j < s.procs → (p q : Process) (at : Place) (asked : Asked) (go : Answer → Process) (r : Answer) → ProcAfter s es j p → Reaches p q → step q
    ≡ At (asking at act.Depart asked) go → heap_answer s.program (history_of es) j act.Depart ≡ Answers r → F asked.1 r

cons_same : (x y : Entry) (xs ys : List Entry) → x ∷ xs ≡ y ∷ ys → (x ≡ y) × (xs ≡ ys)
cons_same x y xs ys e = (cc, cc)

last_same : (es : List Entry) (d e : Entry) → es ++ d ∷ [] ≡ es ++ e ∷ [] → d ≡ e
last_same [] d e z = (cons_same d e [] [] z).0
last_same (x ∷ xs) d e z = last_same xs d e (cons_same x x (xs ++ d ∷ []) (xs ++ e ∷ []) z).1

step_path : (F : Wanted → Answer → Type 0) (s : RunConfig) (es all : List Entry) (j : ℕ) (e : Entry) (ms : List Meeting) → e.proc < s.procs
    → Suits F s es j → all ≡ es ++ e ∷ [] → Grows s es all j → Path F s es j ms → (ns : List Meeting) × Path F s all j ns
step_path F s es all j e ms b i z (still u) o = (ms, still_path s es all j e ms o.process z u.1 (subst (λ rs. After (begin s j) rs o.process) (sym u.0) o.world) u.2 o refl)
step_path F s es all j e ms b i z (acted p q at a w go r x y t k l m n c v) o =
    let same : o.process ≡ p = after_same _ _ _ _ o.world x in
    let goes : FitWay F (begin s j) ms p = subst (λ z. FitWay F (begin s j) ms z) same o.goes in
    let grown = ap history_of v ∙ history_grows es (record { proc = j; place = at; act = a; answer = r }) in (
      ms ++ meeting at a r,
      record {
        process = go r;
        world = subst (λ rs. After (begin s j) rs (go r)) (sym k) (after_more (begin s j) p q (answers_of j es) at a w go r x y t);
        goes = fit_then (begin s j) p (go r) ms (meeting at a r) goes (fit_reach p q (go r) (meeting at a r) y (fit_one q at a w go r t
            (λ d. i (subst (λ k. k < s.procs) (ap (λ (e : Entry). e.proc)
            (last_same es e (record { proc = j; place = at; act = a; answer = r }) (sym z ∙ v))) b) p q at w go r x y
            (subst (λ b. step q ≡ At (asking at b w) go) d t) (subst (λ b. heap_answer s.program (history_of es) j b
            ≡ Answers r) d c))));
        told = left_one_more s es j at a r ms all o.told m;
        free = free_both [] [] ms (meeting at a r) o.free (free_one s es j at r a (pend_after [] ms) (gone_after [] [] ms) c o.gone);
        gone = subst (λ g. AllGone (history_of all) g) (sym (gone_both [] [] ms (meeting at a r)))
            (subst (λ h. AllGone h (gone_after (pend_after [] ms) (gone_after [] [] ms) (meeting at a r))) (sym grown)
            (gone_one s es j at r a (pend_after [] ms) (gone_after [] [] ms) o.gone o.pend));
        pend = subst (λ g. AllDeleted (last_arrival j (history_of all)) g) (sym (pend_both [] ms (meeting at a r)))
            (subst (λ h. AllDeleted (last_arrival j h) (pend_after (pend_after [] ms) (meeting at a r))) (sym grown)
            (pend_one s es j at r a (pend_after [] ms) o.pend));
        met = met_both None ms (meeting at a r) ∙ ap (λ x. met_after x (meeting at a r)) o.met ∙ met_one s es j at r a (met_in j (history_of es)) ∙ sym (ap (met_in j) grown);
      },
    )

-- in every run each process has its way
pub on_path : (F : Wanted → Answer → Type 0) (s : RunConfig) (es : List Entry) → IsRun s es → (j : ℕ) → ((ds : List Entry) → IsRun s ds → Suits F s ds j) → (ms : List Meeting) × Path F s es j ms
on_path F s es run.none j f = ([], record { process = begin s j; world = none; goes = way.stop; told = refl; free = tt; gone = tt; pend = tt; met = refl })
on_path F s all (run.more {es = es} {i = i} {e = e} w t z) j f = let o = on_path F s es w j f in
    step_path F s es all j e o.0 (subst (λ k. k < s.procs) (sym (taker s es i e t)) t.within) (f es w) z (grows s es all i j e t z) o.1
