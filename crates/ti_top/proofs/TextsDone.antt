-- From what was done with a program to what became of its text.
use Rattle.std.proofs.Common.{◌≡◌, ◌⊎◌, inl, inr, ℕ, List, [], None, sym, subst}
use Rattle.ti_io.specs.Source.{SourceState}
use Rattle.ti_io.specs.Sink.{SinkState}
use Rattle.ti_lang.specs.Program.Classes.{ProgramView}
use Rattle.ti_rules.specs.declared.refusal.Refusal.{Refusal}
use Rattle.ti_blame.specs.declared.mark.Mark.{Mark}
use Rattle.ti_words.specs.declared.job.Job.{Job}
use Rattle.ti_words.specs.declared.job.Mode.{Mode}
use Rattle.ti_words.specs.declared.job.Mode.TheVariants.{Run, Check, Code, Gen, Infer}
use Rattle.ti_top.specs.declared.fault.Fault.{Fault}
use Rattle.ti_top.specs.declared.exit.Exit.{Exit}
use Rattle.ti_top.specs.declared.exit.Exit.TheVariants.{Done, Refused, Faulted, NoCommand, CantRead, CantWrite, NoMemory, NoRun}
use Rattle.ti_top.specs.Reports.{Watcher}
use Rattle.ti_top.specs.Mirrors.Coding.{CodeSays}
use Rattle.ti_top.specs.Mirrors.Compiling.{IsCompiled}
use Rattle.ti_top.specs.Mirrors.Inferring.{IsOnlyMarking, MarksSay}
use Rattle.ti_top.specs.Mirrors.JobView.{Artifacts, RunSays, RunTextSays, CodeTextSays, InferTextSays, JobView, FileDone, SeedDone, JobSays}

-- the endings of a run
abbrev IsOfRun : Exit → Type 0
IsOfRun ending = (ending ≡ Done) ⊎ ((fault : Fault) × (ending ≡ Faulted fault)) ⊎ (ending ≡ NoMemory) ⊎ (ending ≡ CantWrite)

not_refused : (refusal : Refusal) → IsOfRun (Refused refusal) → ⊥
not_refused refusal (inl e) = let x = e in cc
not_refused refusal (inr (inl e)) = let x = e.1 in cc
not_refused refusal (inr (inr (inl e))) = let x = e in cc
not_refused refusal (inr (inr (inr e))) = let x = e in cc

not_no_command : IsOfRun NoCommand → ⊥
not_no_command (inl e) = let x = e in cc
not_no_command (inr (inl e)) = let x = e.1 in cc
not_no_command (inr (inr (inl e))) = let x = e in cc
not_no_command (inr (inr (inr e))) = let x = e in cc

not_cant_read : IsOfRun CantRead → ⊥
not_cant_read (inl e) = let x = e in cc
not_cant_read (inr (inl e)) = let x = e.1 in cc
not_cant_read (inr (inr (inl e))) = let x = e in cc
not_cant_read (inr (inr (inr e))) = let x = e in cc

not_no_run : (line : ℕ) → IsOfRun (NoRun line) → ⊥
not_no_run line (inl e) = let x = e in cc
not_no_run line (inr (inl e)) = let x = e.1 in cc
not_no_run line (inr (inr (inl e))) = let x = e in cc
not_no_run line (inr (inr (inr e))) = let x = e in cc

-- the program of the text was run
pub ran_text : (ending : Exit) (p : ProgramView) (job : Job) (ws : List Watcher) (text : List ℕ) (out after : SinkState) (k : Artifacts)
    → IsCompiled text p → RunSays p job ws out after k ending → RunTextSays ending job ws text out after k
ran_text Done p job ws text out after k compiled says = record { program = p; compiled = compiled; says = says }
ran_text (Refused refusal) p job ws text out after k compiled says = absurd (not_refused refusal says.known)
ran_text (Faulted fault) p job ws text out after k compiled says = record { program = p; compiled = compiled; says = says }
ran_text NoCommand p job ws text out after k compiled says = absurd (not_no_command says.known)
ran_text CantRead p job ws text out after k compiled says = absurd (not_cant_read says.known)
ran_text CantWrite p job ws text out after k compiled says = record { program = p; compiled = compiled; says = says }
ran_text NoMemory p job ws text out after k compiled says = inr (record { program = p; compiled = compiled; says = says })
ran_text (NoRun line) p job ws text out after k compiled says = absurd (not_no_run line says.known)

-- the code of the text's program was written
pub coded_text : (ending : Exit) (p : ProgramView) (text : List ℕ) (out after : SinkState) (k : Artifacts) → IsCompiled text p → k.history
    ≡ [] → k.done ≡ [] → CodeSays ending p out after k.code → CodeTextSays ending text out after k
coded_text Done p text out after k compiled none uncounted says = record { program = p; compiled = compiled; wrote = says; no_entry = none; no_count = uncounted }
coded_text (Refused refusal) p text out after k compiled none uncounted says = absurd says
coded_text (Faulted fault) p text out after k compiled none uncounted says = absurd says
coded_text NoCommand p text out after k compiled none uncounted says = absurd says
coded_text CantRead p text out after k compiled none uncounted says = absurd says
coded_text CantWrite p text out after k compiled none uncounted says = record { program = p; compiled = compiled; wrote = says; no_entry = none; no_count = uncounted }
coded_text NoMemory p text out after k compiled none uncounted says = record { unwritten = says.0; no_entry = none; no_code = says.1; no_count = uncounted }
coded_text (NoRun line) p text out after k compiled none uncounted says = absurd says

-- what was done where a file is named
pub done_by_file : (mode : Mode) (job : Job) (ending : Exit) (w : JobView) → (mode ≡ Run) ⊎ (mode ≡ Check) ⊎ (mode ≡ Code) ⊎ (mode ≡ Infer)
    → FileDone job ending w → JobSays mode job ending w
done_by_file m job ending w (inl is) done = subst (λ (m : Mode). JobSays m job ending w) (sym is) done
done_by_file m job ending w (inr (inl is)) done = subst (λ (m : Mode). JobSays m job ending w) (sym is) done
done_by_file m job ending w (inr (inr (inl is))) done = subst (λ (m : Mode). JobSays m job ending w) (sym is) done
done_by_file m job ending w (inr (inr (inr is))) done = subst (λ (m : Mode). JobSays m job ending w) (sym is) done

-- and where none is
pub done_by_seed : (mode : Mode) (job : Job) (ending : Exit) (w : JobView) → mode ≡ Gen → SeedDone job ending w → JobSays mode job ending w
done_by_seed m job ending w is done = subst (λ (m : Mode). JobSays m job ending w) (sym is) done

-- its marks were inferred
pub inferred_text : (ending : Exit) (marks : List Mark) (text : List ℕ) (out after : SinkState) (k : Artifacts) → IsOnlyMarking text marks → k.history ≡ [] → k.code ≡ None → k.done ≡ []
    → MarksSay ending marks out after → InferTextSays ending text out after k
inferred_text Done marks text out after k has none uncoded uncounted says =
    record { marks = marks; inferred = has; wrote = says; no_entry = none; no_code = uncoded; no_count = uncounted }
inferred_text (Refused refusal) marks text out after k has none uncoded uncounted says = absurd says
inferred_text (Faulted fault) marks text out after k has none uncoded uncounted says = absurd says
inferred_text NoCommand marks text out after k has none uncoded uncounted says = absurd says
inferred_text CantRead marks text out after k has none uncoded uncounted says = absurd says
inferred_text CantWrite marks text out after k has none uncoded uncounted says =
    record { marks = marks; inferred = has; wrote = says; no_entry = none; no_code = uncoded; no_count = uncounted }
inferred_text NoMemory marks text out after k has none uncoded uncounted says = record { unwritten = says; no_entry = none; no_code = uncoded; no_count = uncounted }
inferred_text (NoRun line) marks text out after k has none uncoded uncounted says = absurd says

-- the same of a job, where what it leaves is kept in another place
pub kept_elsewhere : (mode : Mode) (job : Job) (ending : Exit) (ws : List Watcher) (source source_after : SourceState) (out after : SinkState)
    (text : List ℕ) (a b : Artifacts) → b ≡ a
    → JobSays mode job ending (record { watchers = ws; source = source; source_after = source_after; out = out; out_after = after; text = text; artifacts = a })
    → JobSays mode job ending (record { watchers = ws; source = source; source_after = source_after; out = out; out_after = after; text = text; artifacts = b })
kept_elsewhere mode job ending ws source source_after out after text a b same says =
    subst (λ (k : Artifacts). JobSays mode job ending
    (record { watchers = ws; source = source; source_after = source_after; out = out; out_after = after; text = text; artifacts = k })) (sym same) says
