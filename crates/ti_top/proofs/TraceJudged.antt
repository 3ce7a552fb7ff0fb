-- From the verdict of the check of a trace to what became of the trace.
use Rattle.std.proofs.Common.{◌≡◌, ℕ, ◌<◌, true, List, Option, Some, None, Ok, sym, ◌∙◌, subst}
use Rattle.ti_base.specs.declared.entry.Entry.{Entry}
use Rattle.ti_io.specs.Source.{SourceState, IsMissing, Holds, content_of}
use Rattle.ti_lang.specs.Meaning.Processes.{RunConfig}
use Rattle.ti_lang.specs.Meaning.Races.{races}
use Rattle.ti_lang.specs.Meaning.Spots.{races_told}
use Rattle.ti_lang.specs.Meaning.Runs.{IsRun}
use Rattle.ti_trace_check.specs.declared.verdict.Verdict.{Verdict}
use Rattle.ti_trace_check.specs.declared.verdict.Verdict.TheVariants.{Run, NoRun}
use Rattle.ti_trace_check.specs.Verdicts.{IsTraceOf, IsWrongAt, HasRun, Judges}
use Rattle.ti_top.specs.Mirrors.Verifying.{ending_by, run_by, HasOneVerdict, TraceSays, WasRead, HeldTrace}

-- the thing with this name was found
abbrev pub IsFound : SourceState → List ℕ → Type 0
IsFound source name = source.tells ≡ true → content_of source.files name ≡ Some source.left

some_none : (l : List ℕ) → ◌≡◌ {A = Option (List ℕ)} (Some l) None → ⊥
some_none l e = cc

same_bytes : (a b : List ℕ) → ◌≡◌ {A = Option (List ℕ)} (Some a) (Some b) → a ≡ b
same_bytes a b e = cc

not_missing : (source : SourceState) (name : List ℕ) → IsFound source name → IsMissing source name → ⊥
not_missing source name found gone = some_none source.left (sym (found gone.tells) ∙ gone.none)

held_left : (source : SourceState) (name bytes : List ℕ) → IsFound source name → Holds source name bytes → source.left ≡ bytes
held_left source name bytes found holds = same_bytes source.left bytes (sym (found holds.tells) ∙ holds.some)

-- what is said of every run and of every text
pub record Laws (s : RunConfig) : Type 0 where
  pub listed : (es : List Entry) → IsRun s es → races_told es ≡ races es
  pub alone : HasOneVerdict s

says_by : (s : RunConfig) (name : List ℕ) (old new : SourceState) (v : Verdict) → IsFound old name → Laws s → HasRun s v → (old.tells ≡ true → Judges s old.left v)
    → TraceSays (ending_by (Ok v)) s name old new (run_by (Ok v))
says_by s name old new (Run es) found laws keeps judges = record {
  found = record { there = not_missing old name found; run = keeps.0; listed = laws.listed es.items keeps.0; alone = laws.alone };
  complete = keeps.1;
  told = λ bytes holds. subst (λ t. IsTraceOf s t es.items) (held_left old name bytes found holds) (judges holds.tells);
}
says_by s name old new (NoRun line es) found laws keeps judges = record {
  found = record { there = not_missing old name found; run = keeps.0; listed = laws.listed es.items keeps.0; alone = laws.alone };
  number = keeps.1;
  told = λ bytes holds. subst (λ t. IsWrongAt s t line es.items) (held_left old name bytes found holds) (judges holds.tells);
}

-- there is a verdict
pub judged : (s : RunConfig) (name : List ℕ) (old new : SourceState) (v : Verdict) → WasRead old new → IsFound old name → Laws s → HasRun s v
    → (old.tells ≡ true → Judges s old.left v) → (old.faults < new.faults → ⊥) → HeldTrace (ending_by (Ok v)) s name old new (run_by (Ok v))
judged s name old new v read found laws keeps judges unfailed =
    record { read = read; failed = λ rose. absurd (unfailed rose); says = says_by s name old new v found laws keeps judges }
