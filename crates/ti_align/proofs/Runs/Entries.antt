-- What one entry more adds to what is told of a process.
use Rattle.std.proofs.Common.{◌≡◌, ℕ, ◌+◌, ◌==◌, Bool, true, false, ◌&&◌, cond, map, filter, count_by, length, List, [], ◌∷◌, ◌++◌, refl, ap, sym, ◌∙◌, append-nil, eq-eqb}
use Rattle.std.proofs.lemmas.List.Elements.{filter-append}
use Rattle.std.proofs.lemmas.List.{map-append, length-map}
use Rattle.std.proofs.lemmas.List.Sums.{sum_by-append, length-filter}
use Rattle.ti_base.specs.declared.entry.Entry.{Entry}
use Rattle.ti_lang.specs.Meaning.Histories.{is_answered, is_arrival, is_departure, entries_of, answers_of, arrivals, departures}
use Rattle.ti_align.proofs.Runs.Ways.{answers_at_departures}

pub got_both : (j : ℕ) (es ds : List Entry) → answers_of j (es ++ ds) ≡ answers_of j es ++ answers_of j ds
got_both j es ds =
    ap (λ x. map (λ (e : Entry). e.answer) (filter is_answered x)) (filter-append (λ (e : Entry). e.proc == j) es ds)
    ∙ ap (map (λ (e : Entry). e.answer)) (filter-append is_answered (entries_of j es) (entries_of j ds))
    ∙ map-append (λ (e : Entry). e.answer) (filter is_answered (entries_of j es)) (filter is_answered (entries_of j ds))

pub departures_both : (j : ℕ) (es ds : List Entry) → answers_at_departures j (es ++ ds) ≡ answers_at_departures j es ++ answers_at_departures j ds
departures_both j es ds =
    ap (λ x. map (λ (e : Entry). e.answer) (filter (λ (e : Entry). is_departure e.act) x)) (filter-append (λ (e : Entry). e.proc == j) es ds)
    ∙ ap (map (λ (e : Entry). e.answer)) (filter-append (λ (e : Entry). is_departure e.act) (entries_of j es) (entries_of j ds))
    ∙ map-append (λ (e : Entry). e.answer) (filter (λ (e : Entry). is_departure e.act) (entries_of j es)) (filter (λ (e : Entry). is_departure e.act) (entries_of j ds))

-- departures are as many as their answers
pub left_count : (i : ℕ) (es : List Entry) → length (answers_at_departures i es) ≡ departures i es
left_count i es =
    length-map (filter (λ (e : Entry). is_departure e.act) (entries_of i es)) (λ (e : Entry). e.answer)
    ∙ length-filter (λ (e : Entry). is_departure e.act) (entries_of i es)

pub arrivals_both : (j : ℕ) (es ds : List Entry) → arrivals j (es ++ ds) ≡ arrivals j es + arrivals j ds
arrivals_both j es ds =
    ap (count_by (λ (e : Entry). is_arrival e.act)) (filter-append (λ (e : Entry). e.proc == j) es ds)
    ∙ sum_by-append (λ (e : Entry). cond (is_arrival e.act) 1 0) (entries_of j es) (entries_of j ds)

-- what an entry of a process adds
pub own : (j : ℕ) (e : Entry) → (e.proc == j) ≡ true → entries_of j (e ∷ []) ≡ e ∷ []
own j e h = rw h refl

pub other : (j : ℕ) (e : Entry) → (e.proc == j) ≡ false → entries_of j (e ∷ []) ≡ []
other j e h = rw h refl

-- ---- answers

-- an answer to the process
pub answers_now : (es : List Entry) (e : Entry) → is_answered e ≡ true → answers_of e.proc (es ++ e ∷ []) ≡ answers_of e.proc es ++ e.answer ∷ []
answers_now es e k =
    got_both e.proc es (e ∷ []) ∙ ap (λ (x : List Entry). answers_of e.proc es ++ map (λ (e : Entry). e.answer) x) (ap (filter is_answered) (own e.proc e (eq-eqb e.proc e.proc refl)) ∙ only)
  where
    only : filter is_answered (e ∷ []) ≡ e ∷ []
    only = rw k refl

-- an entry that is no answer to the process
pub answers_still : (es : List Entry) (e : Entry) (j : ℕ) → ((e.proc == j) && is_answered e) ≡ false → answers_of j (es ++ e ∷ []) ≡ answers_of j es
answers_still es e j k =
    got_both j es (e ∷ []) ∙ ap (λ (x : List Entry). answers_of j es ++ map (λ (e : Entry). e.answer) x) (by (e.proc == j) refl) ∙ append-nil (answers_of j es)
  where
    dropped : is_answered e ≡ false → filter is_answered (e ∷ []) ≡ []
    dropped h = rw h refl

    by : (b : Bool) → (e.proc == j) ≡ b → filter is_answered (entries_of j (e ∷ [])) ≡ []
    by true h = ap (filter is_answered) (own j e h) ∙ dropped (sym (ap (λ b. b && is_answered e) h) ∙ k)
    by false h = ap (filter is_answered) (other j e h)
