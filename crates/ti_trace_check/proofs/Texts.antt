-- The lines of a trace name the processes, and who takes the entries decides the run.
use Rattle.std.proofs.Common.{◌≡◌, ◌⊎◌, inl, inr, ℕ, ◌+◌, ◌<◌, ◌^◌, List, [], ◌∷◌, ◌++◌, length, refl, ap, sym, ◌∙◌, subst, arith, append_assoc, append-nil}
use Rattle.std.specs.Prelude.{codes, decimal}
use Rattle.std.specs.Char.{digit_value}
use Rattle.std.specs.Str.Parse.{AllDigits}
use Rattle.std.proofs.lemmas.List.{append_cancel_left, same_from_push}
use Rattle.std.proofs.lemmas.Fmt.{decimal_is_IsNumeral, decimal_injective}
use Rattle.ti_base.specs.declared.entry.Entry.{Entry}
use Rattle.ti_lang.specs.Meaning.Processes.{RunConfig}
use Rattle.ti_lang.specs.Meaning.Runs.{CanTake, IsRun, IsComplete}
use Rattle.ti_lang.specs.Meaning.Runs as run
use Rattle.ti_lang.proofs.Lemmas.{taker, fronts, entry_same}
use Rattle.ti_watch.specs.Texts.{place_text}
use Rattle.ti_watch.specs.Acts.{act_text, answer_text}
use Rattle.ti_watch.specs.Reports.{entry_text, lines_from, trace_text}
use Rattle.ti_trace_check.specs.Lines.{first_line}
use Rattle.ti_trace_check.specs.Verdicts.{IsTraceOf, IsWrong, IsWrongAt}
use Rattle.ti_trace_check.proofs.FirstLines.{same_byte, same_rest, none_more, at_end, one_end, some_line}
use Rattle.ti_trace_check.proofs.LineEnds.{body, none_inside, ended}

-- ---- lines

blank_is_no_digit : digit_value 32 < 10 → ⊥
blank_is_no_digit k = absurd (omega (arith, k))

-- numbers up to the first blank are the same
up_to_blank : (cs bs xs ys : List ℕ) → AllDigits 10 cs → AllDigits 10 bs → cs ++ 32 ∷ xs ≡ bs ++ 32 ∷ ys → cs ≡ bs
up_to_blank [] [] xs ys p q e = refl
up_to_blank [] (b ∷ bs) xs ys p q e = absurd (blank_is_no_digit (subst (λ c. digit_value c < 10) (sym (same_byte 32 b _ _ e)) q.0))
up_to_blank (a ∷ cs) [] xs ys p q e = absurd (blank_is_no_digit (subst (λ c. digit_value c < 10) (same_byte a 32 _ _ e) p.0))
up_to_blank (a ∷ cs) (b ∷ bs) xs ys p q e = both a b cs bs (same_byte a b _ _ e) (up_to_blank cs bs xs ys p.1 q.1 (same_rest a b _ _ e))
  where
    both : (a b : ℕ) (cs bs : List ℕ) → a ≡ b → cs ≡ bs → a ∷ cs ≡ b ∷ bs
    both a b cs bs x y = cc

-- what stands behind the number of the process
abbrev pub behind : Entry → List ℕ
behind e = place_text e.place ++ codes " " ++ act_text e.act ++ codes " -> " ++ answer_text e.answer ++ 10 ∷ []

six : (q a b c d f g : List ℕ) → (q ++ a ++ b ++ c ++ d ++ f ++ g) ≡ q ++ (a ++ b ++ c ++ d ++ f ++ g)
six q a b c d f g =
    ap (λ z. z ++ c ++ d ++ f ++ g) (append_assoc q a b) ∙ ap (λ z. z ++ d ++ f ++ g) (append_assoc q (a ++ b) c) ∙ ap (λ z. z ++ f ++ g) (append_assoc q (a ++ b ++ c) d)
    ∙ ap (λ z. z ++ g) (append_assoc q (a ++ b ++ c ++ d) f) ∙ append_assoc q (a ++ b ++ c ++ d ++ f) g

four : (a b c d y : List ℕ) → (a ++ b ++ c ++ d) ++ y ≡ a ++ (b ++ (c ++ (d ++ y)))
four a b c d y = append_assoc (a ++ b ++ c) d y ∙ append_assoc (a ++ b) c (d ++ y) ∙ append_assoc a b (c ++ (d ++ y))

pub cut : (k : ℕ) (e : Entry) (x : List ℕ) → entry_text k e ++ x ≡ decimal k ++ (codes " p" ++ (decimal e.proc ++ 32 ∷ (behind e ++ x)))
unfolding entry_text
cut k e x =
    ap (λ z. z ++ x) (six (decimal k ++ codes " p" ++ decimal e.proc ++ codes " ") (place_text e.place) (codes " ") (act_text e.act) (codes " -> ") (answer_text e.answer) (10 ∷ []))
    ∙ append_assoc (decimal k ++ codes " p" ++ decimal e.proc ++ codes " ") (behind e) x ∙ four (decimal k) (codes " p") (decimal e.proc) (codes " ") (behind e ++ x)

-- two lines of one number that begin two texts which are the same name one process
names_one : (k : ℕ) (d e : Entry) (x y : List ℕ) → d.proc < 2 ^ 64 → e.proc < 2 ^ 64 → entry_text k d ++ x ≡ entry_text k e ++ y → d.proc ≡ e.proc
names_one k d e x y l m z =
    decimal_injective d.proc e.proc l m
    (up_to_blank (decimal d.proc) (decimal e.proc) (behind d ++ x) (behind e ++ y) (decimal_is_IsNumeral d.proc l).0.1 (decimal_is_IsNumeral e.proc m).0.1
    (append_cancel_left (codes " p") _ _ (append_cancel_left (decimal k) _ _ (sym (cut k d x) ∙ z ∙ cut k e y))))

pub not_empty : (k : ℕ) (e : Entry) (x : List ℕ) → [] ≡ entry_text k e ++ x → ⊥
not_empty k e x z = by (decimal k) _ (z ∙ cut k e x)
  where
    by : (cs xs : List ℕ) → [] ≡ cs ++ (32 ∷ xs) → ⊥
    by [] xs z = none_more 32 xs z
    by (a ∷ cs) xs z = none_more a _ z

-- the first line of a text that begins with the text of an entry
pub line_of : (k : ℕ) (e : Entry) (x text : List ℕ) → text ≡ entry_text k e ++ x → first_line text ≡ entry_text k e
line_of k e x text z =
    ap first_line (z ∙ ended k e x) ∙ at_end (body k e) x (none_inside k e).is ∙ sym (ended k e []) ∙ append-nil (entry_text k e)

-- a trace with one line more
lines_more : (n : ℕ) (es : List Entry) (e : Entry) → lines_from n (es ++ e ∷ []) ≡ lines_from n es ++ entry_text (n + length es) e
lines_more n [] e = let same : n + 0 ≡ n = omega arith in append-nil (entry_text n e) ∙ ap (λ k. entry_text k e) (sym same)
lines_more n (x ∷ xs) e =
    let same : n + 1 + length xs ≡ n + length (x ∷ xs) = omega arith in
    ap (λ r. entry_text n x ++ r) (lines_more (n + 1) xs e ∙ ap (λ k. lines_from (n + 1) xs ++ entry_text k e) same)
    ∙ sym (append_assoc (entry_text n x) (lines_from (n + 1) xs) (entry_text (n + length (x ∷ xs)) e))

pub trace_more : (es : List Entry) (e : Entry) → trace_text (es ++ e ∷ []) ≡ trace_text es ++ entry_text (length es) e
trace_more es e = let same : 0 + length es ≡ length es = omega arith in lines_more 0 es e ∙ ap (λ k. trace_text es ++ entry_text k e) same

-- ---- runs

last_taken : (s : RunConfig) (es all : List Entry) (e : Entry) → IsRun s all → all ≡ es ++ e ∷ [] → CanTake s es e.proc e
last_taken s es all e run.none z = absurd (none es z)
  where
    none_left : (x : Entry) (xs : List Entry) → [] ≡ x ∷ xs → ⊥
    none_left x xs e = cc

    none : (es : List Entry) → [] ≡ es ++ e ∷ [] → ⊥
    none [] z = none_left e [] z
    none (x ∷ xs) z = none_left x _ z
last_taken s es all e (run.more {es = before} {i = i} {e = last} ran t y) z =
    let same = same_from_push before es last e (sym y ∙ z) in
    let own : CanTake s before last.proc last = subst (λ j. CanTake s before j last) (sym (taker s before i last t)) t in
    subst (λ x. CanTake s es x.proc x) same.1 (subst (λ xs. CanTake s xs last.proc last) same.0 own)

pub taken : (s : RunConfig) (done : List Entry) (e : Entry) (rest : List Entry) → IsRun s (done ++ e ∷ rest) → CanTake s done e.proc e
taken s done e rest ran = last_taken s done (done ++ e ∷ []) e (fronts s (done ++ e ∷ []) rest (subst (IsRun s) (sym (append_assoc done (e ∷ []) rest)) ran)) refl

one_longer : (xs : List Entry) (x : Entry) → length (xs ++ x ∷ []) ≡ length xs + 1
one_longer [] x = refl
one_longer (y ∷ ys) x = let z = one_longer ys x in omega (arith, z)

-- the second list goes on from the first, and so do the texts that begin with their lines
record Ahead (n : ℕ) (es ds : List Entry) (x y : List ℕ) : Type 0 where
  more : List Entry
  is : ds ≡ es ++ more
  text : x ≡ lines_from n more ++ y

both_same : (p q : Entry) (xs ys : List Entry) → p ≡ q → xs ≡ ys → p ∷ xs ≡ q ∷ ys
both_same p q xs ys k l = cc

ahead_on : (done : List Entry) (e d : Entry) (es ds : List Entry) (x y : List ℕ) → e ≡ d → Ahead (length ((done ++ e ∷ []) ++ es)) es ds x y → Ahead (length (done ++ e ∷ es)) (e ∷ es) (d ∷ ds) x y
ahead_on done e d es ds x y same h = record {
  more = h.more;
  is = both_same d e ds (es ++ h.more) (sym same) h.is;
  text = h.text ∙ ap (λ (xs : List Entry). lines_from (length xs) h.more ++ y) (append_assoc done (e ∷ []) es);
}

-- of two runs whose traces begin one text, one goes on from the other
common : (s : RunConfig) → s.procs < 2 ^ 64 → (done es ds : List Entry) (x y : List ℕ) → IsRun s (done ++ es) → IsRun s (done ++ ds) → lines_from (length done) es ++ x ≡ lines_from (length done) ds ++ y
    → Ahead (length (done ++ es)) es ds x y ⊎ Ahead (length (done ++ ds)) ds es y x
common s few done [] ds x y a b z = inl (record { more = ds; is = refl; text = z ∙ ap (λ (xs : List Entry). lines_from (length xs) ds ++ y) (sym (append-nil done)) })
common s few done (e ∷ es) [] x y a b z = inr (record { more = e ∷ es; is = refl; text = sym z ∙ ap (λ (xs : List Entry). lines_from (length xs) (e ∷ es) ++ x) (sym (append-nil done)) })
common s few done (e ∷ es) (d ∷ ds) x y a b z = by one (common s few (done ++ e ∷ []) es ds x y (subst (IsRun s) (sym (append_assoc done (e ∷ []) es)) a))
  where
    first : CanTake s done e.proc e
    first = taken s done e es a

    second : CanTake s done d.proc d
    second = taken s done d ds b

    below : (a b c : ℕ) → a < b → b < c → a < c
    below a b c k l = omega arith

    lines : entry_text (length done) e ++ (lines_from (length done + 1) es ++ x) ≡ entry_text (length done) d ++ (lines_from (length done + 1) ds ++ y)
    lines = sym (append_assoc (entry_text (length done) e) _ x) ∙ z ∙ append_assoc (entry_text (length done) d) _ y

    who : e.proc ≡ d.proc
    who = names_one (length done) e d _ _ (below _ _ _ first.within few) (below _ _ _ second.within few) lines

    one : e ≡ d
    one = entry_same s done d.proc e d (subst (λ i. CanTake s done i e) who first) second

    by : e ≡ d
        → (IsRun s ((done ++ e ∷ []) ++ ds) → lines_from (length (done ++ e ∷ [])) es ++ x ≡ lines_from (length (done ++ e ∷ [])) ds ++ y
        → Ahead (length ((done ++ e ∷ []) ++ es)) es ds x y ⊎ Ahead (length ((done ++ e ∷ []) ++ ds)) ds es y x)
        → Ahead (length (done ++ e ∷ es)) (e ∷ es) (d ∷ ds) x y ⊎ Ahead (length (done ++ d ∷ ds)) (d ∷ ds) (e ∷ es) y x
    by same ih =
        elim (ih (subst (λ q. IsRun s ((done ++ q ∷ []) ++ ds)) (sym same) (subst (IsRun s) (sym (append_assoc done (d ∷ []) ds)) b))
        (subst (λ n. lines_from n es ++ x ≡ lines_from n ds ++ y) (sym (one_longer done e))
        (append_cancel_left (entry_text (length done) e) _ _ (lines ∙ ap (λ q. entry_text (length done) q ++ (lines_from (length done + 1) ds ++ y)) (sym same))))) [
          | inl h ↦ inl (ahead_on done e d es ds x y same h)
          | inr h ↦ inr (ahead_on done d e ds es y x (sym same) (subst (λ q. Ahead (length ((done ++ q ∷ []) ++ ds)) ds es y x) same h))
        ]

-- ---- one line more

-- no line is left of nothing
none_left : (n : ℕ) (more : List Entry) (x : List ℕ) → [] ≡ lines_from n more ++ x → (more ≡ []) × (x ≡ [])
none_left n [] x z = (refl, sym z)
none_left n (e ∷ more) x z = absurd (not_empty n e (lines_from (n + 1) more ++ x) (z ∙ append_assoc (entry_text n e) _ x))

lines_none : (n : ℕ) (more : List Entry) → lines_from n more ≡ [] → more ≡ []
lines_none n more z = (none_left n more [] (sym z ∙ sym (append-nil (lines_from n more)))).0

-- where the trace of a run is that of another and the first line of a text, the run goes on from the other by one entry, whose text is the line
pub one_more : (s : RunConfig) → s.procs < 2 ^ 64 → (es ds : List Entry) (text : List ℕ) → IsRun s es → IsRun s ds → (text ≡ [] → ⊥) → trace_text es ++ first_line text ≡ trace_text ds
    → (e : Entry) × (first_line text ≡ entry_text (length es) e) × CanTake s es e.proc e
one_more s few es ds text a b some z = elim (common s few [] es ds (first_line text) [] a b (z ∙ sym (append-nil (trace_text ds)))) [
  | inl h ↦ by h.more h.is (h.text ∙ append-nil (lines_from (length es) h.more))
  | inr h ↦ absurd (some (some_line text (none_left (length ds) h.more (first_line text) h.text).1))
]
  where
    by : (more : List Entry) → ds ≡ es ++ more → first_line text ≡ lines_from (length es) more → (e : Entry) × (first_line text ≡ entry_text (length es) e) × CanTake s es e.proc e
    by [] is l = absurd (some (some_line text l))
    by (e ∷ rest) is l =
        let none : lines_from (length es + 1) rest ≡ [] = one_end text (body (length es) e) _ (l ∙ ended (length es) e _) in
        (e, l ∙ ap (λ x. entry_text (length es) e ++ x) none ∙ append-nil (entry_text (length es) e), taken s es e rest (subst (IsRun s) is b))

-- ---- verdicts

-- a text that goes on by the text of an entry which can be taken isn't wrong
not_wrong : (s : RunConfig) (es : List Entry) (e : Entry) (rest : List Entry) (left y : List ℕ) → IsRun s (es ++ e ∷ rest) → left ≡ lines_from (length es) (e ∷ rest) ++ y → IsWrong s es left → ⊥
not_wrong s es e rest left y ran z (inl f) =
    f (
      es ++ e ∷ [],
      fronts s (es ++ e ∷ []) rest (subst (IsRun s) (sym (append_assoc es (e ∷ []) rest)) ran),
      ap (λ l. trace_text es ++ l) (line_of (length es) e _ left (z ∙ append_assoc (entry_text (length es) e) _ y)) ∙ sym (trace_more es e),
    )
not_wrong s es e rest left y ran z (inr w) = not_empty (length es) e _ (sym w.0 ∙ z ∙ append_assoc (entry_text (length es) e) _ y)

pub one_run : (s : RunConfig) (text : List ℕ) (es ds : List Entry) → s.procs < 2 ^ 64 → IsTraceOf s text es → IsTraceOf s text ds → es ≡ ds
one_run s text es ds few a b = elim (common s few [] es ds [] [] a.run b.run (append-nil (trace_text es) ∙ sym a.is ∙ b.is ∙ sym (append-nil (trace_text ds)))) [
  | inl h ↦ sym (h.is ∙ ap (λ m. es ++ m) (none_left (length es) h.more [] h.text).0 ∙ append-nil es)
  | inr h ↦ h.is ∙ ap (λ m. ds ++ m) (none_left (length ds) h.more [] h.text).0 ∙ append-nil ds
]

-- nothing is left behind the trace of a complete run
nothing_left : (s : RunConfig) (text left : List ℕ) (es ds : List Entry) → IsTraceOf s text es → IsRun s ds → ds ≡ es → left ≡ [] → IsWrong s ds left → ⊥
nothing_left s text left es ds a ran same none (inl f) = f (ds, ran, ap (λ l. trace_text ds ++ first_line l) none ∙ append-nil (trace_text ds))
nothing_left s text left es ds a ran same none (inr w) = w.1 (subst (IsComplete s) (sym same) a.complete)

pub not_both : (s : RunConfig) (text : List ℕ) (line : ℕ) (es ds : List Entry) → s.procs < 2 ^ 64 → IsTraceOf s text es → IsWrongAt s text line ds → ⊥
not_both s text line es ds few a b = elim (common s few [] ds es b.left [] b.run a.run (sym b.begins ∙ a.is ∙ sym (append-nil (trace_text es)))) [
  | inl h ↦ by h.more h.is h.text
  | inr h ↦
      let none = none_left (length es) h.more b.left h.text in
      nothing_left s text b.left es ds a b.run (h.is ∙ ap (λ m. es ++ m) none.0 ∙ append-nil es) none.1 b.wrong
]
  where
    by : (more : List Entry) → es ≡ ds ++ more → b.left ≡ lines_from (length ds) more ++ [] → ⊥
    by [] is z = nothing_left s text b.left es ds a b.run (sym (is ∙ append-nil ds)) z b.wrong
    by (e ∷ rest) is z = not_wrong s ds e rest b.left [] (subst (IsRun s) is a.run) z b.wrong

pub one_wrong : (s : RunConfig) (text : List ℕ) (j k : ℕ) (es ds : List Entry) → s.procs < 2 ^ 64 → IsWrongAt s text j es → IsWrongAt s text k ds → es ≡ ds
one_wrong s text j k es ds few a b = elim (common s few [] es ds a.left b.left a.run b.run (sym a.begins ∙ b.begins)) [
  | inl h ↦ by es ds a.left b.left a.wrong b.run h.more h.is h.text
  | inr h ↦ sym (by ds es b.left a.left b.wrong a.run h.more h.is h.text)
]
  where
    by : (es ds : List Entry) (x y : List ℕ) → IsWrong s es x → IsRun s ds → (more : List Entry) → ds ≡ es ++ more → x ≡ lines_from (length es) more ++ y → es ≡ ds
    by es ds x y w ran [] is z = sym (is ∙ append-nil es)
    by es ds x y w ran (e ∷ rest) is z = absurd (not_wrong s es e rest x y (subst (IsRun s) is ran) z w)
