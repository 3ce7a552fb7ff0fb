-- A run that follows the lines of a text.
use Rattle.std.proofs.Common.{◌≡◌, ◌⊎◌, inl, inr, ℕ, ◌<◌, ◌≤◌, ◌^◌, ◌==◌, Bool, true, false, eq-eqb, List, [], ◌∷◌, ◌++◌, length, take, refl, ap, sym, ◌∙◌, subst, arith, append_assoc, append-nil}
use Rattle.std.proofs.lemmas.List.{take_all}
use Rattle.ti_base.specs.declared.entry.Entry.{Entry}
use Rattle.ti_lang.specs.Meaning.Processes.{RunConfig}
use Rattle.ti_lang.specs.Meaning.Runs.{IsRun}
use Rattle.ti_code.specs.Programs.{Code}
use Rattle.ti_store.specs.Stores.{StoreState}
use Rattle.ti_watch.specs.Lines.{line_room}
use Rattle.ti_watch.specs.Reports.{entry_text, trace_text}
use Rattle.ti_pending.specs.declared.pending.PendingProc.{PendingProc}
use Rattle.ti_trace_check.specs.Mirrors.LineReader.{TakesLine}
use Rattle.ti_trace_check.specs.Mirrors.Replaying.{AcceptsActions, IsReplayState, ReplaysEntry, IsWrongLine, ReplayOutcome, LeavesText}
use Rattle.ti_trace_check.specs.Lines.{first_line}
use Rattle.ti_trace_check.specs.Verdicts.{IsTrace}
use Rattle.ti_trace_check.proofs.FirstLines.{none_more, some_line}
use Rattle.ti_trace_check.proofs.Texts.{trace_more, one_more}

-- the text begins with the trace of the entries, and behind it comes the line with the rest
pub record Goes (text : List ℕ) (es : List Entry) (line rest : List ℕ) : Type 0 where
  pub left : List ℕ
  pub begins : text ≡ trace_text es ++ left
  pub takes : TakesLine left line rest

no_room : (line : List ℕ) → line ≡ [] → line_room ≤ length line → ⊥
no_room line e l = absurd (omega (arith, ap length e, l))

-- a store that goes on does so with other entries
pub open_still : (code : Code) (old now : StoreState) → now ≡ record old { entries = now.entries } → AcceptsActions code old → AcceptsActions code now
open_still code old now same o = subst (AcceptsActions code) (sym same) (record { unhalted = o.unhalted; runs = o.runs })

-- an empty line is taken at the end alone
pub at_end : (left line rest : List ℕ) → line ≡ [] → TakesLine left line rest → left ≡ []
at_end left line rest none t = by t.first.whole
  where
    by : (t.first.more ≡ []) ⊎ (line_room ≤ length line) → left ≡ []
    by (inl e) = some_line left (t.first.begins ∙ ap (λ m. line ++ m) e ∙ append-nil line ∙ none)
    by (inr l) = absurd (no_room line none l)

-- before the first line
pub begins : (text line rest : List ℕ) (es : List Entry) → es ≡ [] → TakesLine text line rest → Goes text es line rest
begins text line rest es none t = record { left = text; begins = ap (λ xs. trace_text xs ++ text) (sym none); takes = t }

-- behind a line
pub goes : (code : Code) (s : RunConfig) (text : List ℕ) (es : List Entry) (old new : List PendingProc) (all : List Entry)
    (line rest next later : List ℕ) → ReplaysEntry code s es old all new line → Goes text es line rest → TakesLine rest next later
    → Goes text all next later
goes code s text es old new all line rest next later g x t = record {
  left = rest;
  begins = x.begins
      ∙ ap (λ l. trace_text es ++ l) (x.takes.off ∙ ap (λ l. l ++ rest) g.text)
      ∙ sym (append_assoc (trace_text es) (entry_text (length es) g.entry) rest)
      ∙ ap (λ l. l ++ rest) (sym (trace_more es g.entry) ∙ ap trace_text (sym g.after));
  takes = t;
}

-- at the end of the text
pub came_whole : (code : Code) (s : RunConfig) (es : List Entry) (processes : List PendingProc) (taken : ℕ) → IsReplayState code s es processes → taken ≡ length es
    → ReplayOutcome code s es processes (record { taken = taken; is_end = true })
came_whole code s es processes taken x e = record {
  within = same taken (length es) e;
  run = subst (IsRun s) (sym (take_all taken es (same (length es) taken (sym e)))) x.run;
  whole = λ _. (e, x);
}
  where
    same : (m n : ℕ) → m ≡ n → m ≤ n
    same m n e = omega (arith, e)

pub left_whole : (s : RunConfig) (text line rest : List ℕ) (es : List Entry) (taken : ℕ) → taken ≡ length es → line ≡ []
    → Goes text es line rest → LeavesText s text es (record { taken = taken; is_end = true })
left_whole s text line rest es taken e none x = record {
  left = x.left;
  begins = x.begins ∙ ap (λ xs. trace_text xs ++ x.left) (sym (take_all taken es (same (length es) taken (sym e))));
  nothing = λ _. at_end x.left line rest none x.takes;
  wrong = λ f. absurd (true_false f);
}
  where
    same : (m n : ℕ) → m ≡ n → m ≤ n
    same m n e = omega (arith, e)

    true_false : true ≡ false → ⊥
    true_false e = cc

-- at a line that is off
pub came_off : (code : Code) (s : RunConfig) (es all : List Entry) (processes : List PendingProc) (line : List ℕ) (taken : ℕ) → taken ≡ length es
    → IsRun s es → IsWrongLine s es all line → ReplayOutcome code s all processes (record { taken = taken; is_end = false })
came_off code s es all processes line taken e ran off = record {
  within = subst (λ n. n ≤ length all) (sym e) off.within;
  run = subst (IsRun s) (sym (ap (λ n. take n all) e ∙ off.kept)) ran;
  whole = λ f. absurd (false_true f);
}
  where
    false_true : false ≡ true → ⊥
    false_true e = cc

some_text : (text line rest : List ℕ) → (line ≡ [] → ⊥) → text ≡ line ++ rest → text ≡ [] → ⊥
some_text text [] rest some off none = some refl
some_text text (x ∷ xs) rest some off none = none_more x (xs ++ rest) (sym none ∙ off)

pub left_off : (s : RunConfig) → s.procs < 2 ^ 64 → (text line rest : List ℕ) (es all : List Entry) (taken : ℕ) → taken ≡ length es
    → IsRun s es → (line ≡ [] → ⊥) → IsWrongLine s es all line → Goes text es line rest
    → LeavesText s text all (record { taken = taken; is_end = false })
left_off s few text line rest es all taken e ran some off x = record {
  left = x.left;
  begins = x.begins ∙ ap (λ xs. trace_text xs ++ x.left) (sym same);
  nothing = λ f. absurd (false_true f);
  wrong = λ _ t. none (subst (λ xs. IsTrace s (trace_text xs ++ first_line x.left)) same t);
}
  where
    false_true : false ≡ true → ⊥
    false_true e = cc

    same : take taken all ≡ es
    same = ap (λ n. take n all) e ∙ off.kept

    none : IsTrace s (trace_text es ++ first_line x.left) → ⊥
    none t =
        let r = one_more s few es t.0 x.left ran t.1 (some_text x.left line rest some x.takes.off) t.2 in
        off.none r.0 r.2 x.takes.first.more (sym r.1 ∙ x.takes.first.begins) x.takes.first.whole

-- a line that isn't empty, as the code finds it
pub not_empty_line : (held line : List ℕ) (b : Bool) → held ≡ line → b ≡ (length held == 0) → b ≡ false → line ≡ [] → ⊥
not_empty_line held line b same is other none = by b is other (ap length (same ∙ none))
  where
    by : (b : Bool) → b ≡ (length held == 0) → b ≡ false → length held ≡ 0 → ⊥
    by b is other short = absurd (false_true (sym other ∙ is ∙ eq-eqb (length held) 0 short))
      where
        false_true : false ≡ true → ⊥
        false_true e = cc

-- the same of a line and a setting that are the same
pub goes_of : (code : Code) (s t : RunConfig) (es : List Entry) (old : List PendingProc) (all : List Entry) (new : List PendingProc) (line same : List ℕ)
    → s ≡ t → line ≡ same → ReplaysEntry code s es old all new line → ReplaysEntry code t es old all new same
goes_of code s t es old all new line same e f x = subst (λ l. ReplaysEntry code t es old all new l) f (subst (λ z. ReplaysEntry code z es old all new line) e x)
