-- The lines of a run or its summary, and then the reports on it.
use Rattle.std.proofs.Common.{◌≡◌, ◌⊎◌, inl, inr, ℕ, false, List, [], ◌++◌, Some, Ok, Err, arith, refl, sym, ◌∙◌, ap, subst, append_assoc}
use Rattle.std.proofs.lemmas.List.{append-nil}
use Rattle.ti_base.specs.declared.entry.Entry.{Entry}
use Rattle.ti_io.specs.Sink.{SinkState, GrewBy, GrewByFront, Writes}
use Rattle.ti_io.proofs.Lemmas.{rose_since}
use Rattle.ti_code.specs.Follows.{Follows}
use Rattle.ti_lang.specs.Program.Classes.{ProgramView}
use Rattle.ti_lang.specs.Meaning.Processes.{RunConfig}
use Rattle.ti_lang.specs.Meaning.Histories.{has_fault}
use Rattle.ti_lang.specs.Meaning.Determinacy.{Determines}
use Rattle.ti_lang.specs.Meaning.Races.{races}
use Rattle.ti_lang.specs.Meaning.Spots.{races_told}
use Rattle.ti_lang.specs.Meaning.Runs.{IsComplete, IsRun, IsSolo, AllEnded}
use Rattle.ti_lower.specs.Programs.{program_code}
use Rattle.ti_runtime.specs.Ran.{AreFinishedCounts}
use Rattle.ti_words.specs.declared.job.Job.{Job}
use Rattle.ti_words.specs.declared.job.Mode.{Mode}
use Rattle.ti_words.specs.declared.job.Mode.TheVariants.{Run, Gen}
use Rattle.ti_top.specs.declared.fault.Fault.{Fault}
use Rattle.ti_top.specs.declared.reports.ReportEnd.{ReportEnd}
use Rattle.ti_top.specs.declared.reports.ReportEnd.TheVariants as Report
use Rattle.ti_top.specs.declared.exit.Exit.{Exit}
use Rattle.ti_top.specs.declared.exit.Exit.TheVariants.{Done, Refused, Faulted, NoCommand, CantRead, CantWrite, NoMemory, NoRun}
use Rattle.ti_top.specs.Reports.{Watcher, reports, output_in}
use Rattle.ti_top.specs.Run.{RunsProgram, run_of}
use Rattle.ti_top.specs.Mirrors.Reporting.{WritesReports}
use Rattle.ti_top.specs.Mirrors.RunEnds.{RunEnds}
use Rattle.ti_top.specs.Mirrors.JobView.{Artifacts, ending_after, head_after, ReportsAfter, WroteRun, RunSays}
use Rattle.ti_top.proofs.FaultLast.{fault_is_there}
use Rattle.ti_top.proofs.HaveEnded.{summary_is}

-- ---- what was written

-- the head wasn't written
pub wrote_cut : {T E : Type 0} (ended : Exit) (head : List ℕ) (ws : List Watcher) (h : List Entry) (s0 s1 : SinkState) (e : E)
    → Writes {T = T} head s0 s1 (Err e) → WroteRun ended head ws h s0 s1 CantWrite
wrote_cut ended head ws h s0 s1 e wrote = record {
  never_falls = wrote.never_falls;
  tells = wrote.tells;
  known = inr (inr refl);
  rose = λ _ _. wrote.rose;
  all = λ whole. absurd (whole refl);
  part = λ told.
      let front = wrote.part told in
      (front.0, (front.1.0 ++ reports ws h, sym (append_assoc front.0 front.1.0 (reports ws h)) ∙ ap (λ t. t ++ reports ws h) front.1.1), front.2);
  needed = λ is. absurd (let x = is in cc);
  few = λ is. absurd (let x = is in cc);
}

-- the head of a run that was cut short was written
wrote_head : {T E : Type 0} (head : List ℕ) (ws : List Watcher) (h : List Entry) (s0 s1 : SinkState) (x : T) → Writes {E = E} head s0 s1 (Ok x) → WroteRun NoMemory head ws h s0 s1 NoMemory
wrote_head head ws h s0 s1 x wrote = record {
  never_falls = wrote.never_falls;
  tells = wrote.tells;
  known = inl refl;
  rose = λ is. absurd (let e = is in cc);
  all = λ _ there. absurd (there refl);
  part = λ told. (head, (reports ws h, refl), wrote.all told);
  needed = λ _ whole. absurd (whole refl);
  few = λ _ told. record {
    few = [];
    others = ws;
    first = refl;
    grew = wrote.all told ∙ ap (λ t. s0.taken ++ t) (sym (append-nil head));
    none_of_cut = λ _. refl;
    not_all = λ whole. absurd (whole refl);
  };
}

-- how the reports ended, by how the work does
reports_known : (end : ReportEnd) (ended : Exit) → (ending_after end ended ≡ ended) ⊎ (ending_after end ended ≡ NoMemory) ⊎ (ending_after end ended ≡ CantWrite)
reports_known Report.Written ended = inl refl
reports_known Report.CantWrite ended = inr (inr refl)
reports_known Report.NoMemory ended = inr (inl refl)

reports_cut : (end : ReportEnd) (ended : Exit) → ending_after end ended ≡ CantWrite → (ended ≡ CantWrite → ⊥) → end ≡ Report.CantWrite
reports_cut Report.Written ended is written = absurd (written is)
reports_cut Report.CantWrite ended is written = refl
reports_cut Report.NoMemory ended is written = absurd (let x = is in cc)

reports_short : (end : ReportEnd) (ended : Exit) → (ended ≡ NoMemory → ⊥) → ending_after end ended ≡ NoMemory → end ≡ Report.NoMemory
reports_short Report.Written ended whole is = absurd (whole is)
reports_short Report.CantWrite ended whole is = absurd (let x = is in cc)
reports_short Report.NoMemory ended whole is = refl

reports_whole : (end : ReportEnd) (ended : Exit) → (ending_after end ended ≡ CantWrite → ⊥) → (ending_after end ended ≡ NoMemory → ⊥) → end ≡ Report.Written
reports_whole Report.Written ended whole there = refl
reports_whole Report.CantWrite ended whole there = absurd (whole refl)
reports_whole Report.NoMemory ended whole there = absurd (there refl)

-- the head of one that wasn't was written, and then the reports up to this end
wrote_reports : {T E : Type 0} (ended : Exit) (end : ReportEnd) (head : List ℕ) (ws : List Watcher) (h : List Entry)
    (s0 s1 s2 : SinkState) (x : T) → (ended ≡ NoMemory → ⊥) → Writes {E = E} head s0 s1 (Ok x) → WritesReports ws h s1 s2 end
    → WroteRun ended head ws h s0 s2 (ending_after end ended)
wrote_reports ended end head ws h s0 s1 s2 x whole wrote reported = record {
  never_falls = omega arith;
  tells = reported.tells ∙ wrote.tells;
  known = reports_known end ended;
  rose = λ is written. rose_since s0.faults s1.faults s2.faults wrote.never_falls (reported.rose (reports_cut end ended is written));
  all = λ uncut there told. reported.all (reports_whole end ended uncut there) (wrote.tells ∙ told) ∙ ap (λ t. t ++ reports ws h) (wrote.all told) ∙ append_assoc s0.taken (head) (reports ws h);
  part = λ told.
      let front = reported.part (wrote.tells ∙ told) in
      (head ++ front.0, (front.1.0, append_assoc (head) front.0 front.1.0 ∙ ap (λ t. head ++ t) front.1.1), front.2 ∙ ap (λ t. t ++ front.0) (wrote.all told) ∙ append_assoc s0.taken (head) front.0);
  needed = λ is _. reported.needed (reports_short end ended whole is);
  few = λ is told.
      let k = reported.few (reports_short end ended whole is) (wrote.tells ∙ told) in
      record {
        few = k.few;
        others = k.others;
        first = k.first;
        grew = k.grew ∙ ap (λ t. t ++ reports k.few h) (wrote.all told) ∙ append_assoc s0.taken (head) (reports k.few h);
        none_of_cut = λ is. absurd (whole is);
        not_all = λ _. k.missing;
      };
}

-- the head of a run was written, and the watchers reported on it
pub wrote_all : {T E : Type 0} (ended ending : Exit) (head : List ℕ) (ws : List Watcher) (h : List Entry) (s0 s1 s2 : SinkState) (x : T)
    → Writes {E = E} head s0 s1 (Ok x) → ReportsAfter ended ws h s1 s2 ending → WroteRun ended head ws h s0 s2 ending
wrote_all {E = E} ended ending head ws h s0 s1 s2 x wrote (inl cut) =
    subst (λ (e : Exit). WroteRun e head ws h s0 s2 ending) (sym cut.0)
    (subst (λ (e : Exit). WroteRun NoMemory head ws h s0 s2 e) (sym (cut.1 ∙ cut.0))
    (wrote_head {E = E} head ws h s0 s2 x (subst (λ (s : SinkState). Writes {E = E} head s0 s (Ok x)) (sym cut.2) wrote)))
wrote_all {E = E} ended ending head ws h s0 s1 s2 x wrote (inr said) =
    subst (λ (e : Exit). WroteRun ended head ws h s0 s2 e) (sym said.1.ending_is) (wrote_reports {E = E} ended said.1.end head ws h s0 s1 s2 x said.0 wrote said.1.reported)

-- ---- what it says of the run

-- a run of which the work ends for want of memory isn't complete, and any other is
run_cut : (ended : Exit) (s : RunConfig) (h : List Entry) → RunEnds s h ended → ended ≡ NoMemory → IsComplete s h → ⊥
run_cut ended s h ends is = subst (RunEnds s h) is ends

run_whole : (ended : Exit) (s : RunConfig) (h : List Entry) → RunEnds s h ended → (IsComplete s h → ⊥) → ended ≡ NoMemory
run_whole Done s h ends cut = absurd (cut (inr ends.0))
run_whole (Refused refusal) s h ends cut = absurd ends
run_whole (Faulted fault) s h ends cut = absurd (cut (inl (fault_is_there h fault ends)))
run_whole NoCommand s h ends cut = absurd ends
run_whole CantRead s h ends cut = absurd ends
run_whole CantWrite s h ends cut = absurd ends
run_whole NoMemory s h ends cut = refl
run_whole (NoRun line) s h ends cut = absurd ends

-- the ending of the work is that of the run, where it is neither want of memory nor a failed write
ending_is : (ended ending e : Exit) → (ending ≡ ended) ⊎ (ending ≡ NoMemory) ⊎ (ending ≡ CantWrite) → ending ≡ e → (NoMemory ≡ e → ⊥) → (CantWrite ≡ e → ⊥) → ended ≡ e
ending_is ended ending e (inl same) is there uncut = sym same ∙ is
ending_is ended ending e (inr (inl same)) is there uncut = absurd (there (sym same ∙ is))
ending_is ended ending e (inr (inr same)) is there uncut = absurd (uncut (sym same ∙ is))

run_known : (ended ending : Exit) (s : RunConfig) (h : List Entry) → RunEnds s h ended → (ending ≡ ended) ⊎ (ending ≡ NoMemory)
    ⊎ (ending ≡ CantWrite) → (ending ≡ Done) ⊎ ((fault : Fault) × (ending ≡ Faulted fault)) ⊎ (ending ≡ NoMemory) ⊎ (ending ≡ CantWrite)
run_known Done ending s h ends (inl same) = inl same
run_known (Refused refusal) ending s h ends (inl same) = absurd ends
run_known (Faulted fault) ending s h ends (inl same) = inr (inl (fault, same))
run_known NoCommand ending s h ends (inl same) = absurd ends
run_known CantRead ending s h ends (inl same) = absurd ends
run_known CantWrite ending s h ends (inl same) = absurd ends
run_known NoMemory ending s h ends (inl same) = inr (inr (inl same))
run_known (NoRun line) ending s h ends (inl same) = absurd ends
run_known ended ending s h ends (inr other) = inr (inr other)

-- what is written of a run that ended so
output_is : (mode : Mode) (ended : Exit) (s : RunConfig) (h : List Entry) (ws : List Watcher) → RunsProgram mode → IsRun s h → RunEnds s h ended
    → output_in mode s h ws ≡ head_after mode ended s.program h ++ reports ws h
output_is Run ended s h ws runs run ends = refl
output_is Gen ended s h ws runs run ends = ap (λ t. t ++ reports ws h) (summary_is ended s h run ends)
output_is _ ended s h ws runs run ends = absurd runs

-- the program was run by its code, and the instructions of a complete run are counted
pub record IsByCode (p : ProgramView) (job : Job) (k : Artifacts) : Type 0 where
  pub code : k.code ≡ Some (program_code p)
  pub follows : Follows (program_code p) p
  pub counted : IsComplete (run_of p job) k.history → AreFinishedCounts (program_code p) (run_of p job) k.history k.done

-- the run of a program, and what was written of it
pub run_says : (ended : Exit) (p : ProgramView) (job : Job) (ws : List Watcher) (s0 s1 : SinkState) (artifacts : Artifacts) (ending : Exit)
    → RunsProgram job.mode → IsRun (run_of p job) artifacts.history → (job.workers ≡ 1 → IsSolo (run_of p job) artifacts.history)
    → Determines (run_of p job) artifacts.history → races_told artifacts.history ≡ races artifacts.history → RunEnds (run_of p job) artifacts.history ended
    → IsByCode p job artifacts → WroteRun ended (head_after job.mode ended p artifacts.history) ws artifacts.history s0 s1 ending
    → RunSays p job ws s0 s1 artifacts ending
run_says ended p job ws s0 s1 artifacts ending runs run solo determines told ends by wrote = record {
  run = run;
  solo = solo;
  determines = determines;
  told = told;
  ended = λ is. (done is).0;
  no_fault = λ is. (done is).1;
  faulted = λ fault is. subst (RunEnds s h) (ending_is ended ending (Faulted fault) wrote.known is (λ e. let x = e in cc) (λ e. let x = e in cc)) ends;
  unfinished = λ is complete. wrote.needed is (λ cut. run_cut ended s h ends cut complete);
  known = run_known ended ending s h ends wrote.known;
  never_falls = wrote.never_falls;
  tells = wrote.tells;
  rose = λ is. wrote.rose is (λ cut. subst (RunEnds s h) cut ends);
  all = λ whole there told. subst (λ t. GrewBy s0 s1 t) (sym (same ws)) (wrote.all whole there told);
  part = λ told. subst (λ t. GrewByFront s0 s1 t) (sym (same ws)) (wrote.part told);
  few = λ is told.
      let k = wrote.few is told in
      record {
        few = k.few;
        others = k.others;
        first = k.first;
        grew = subst (λ t. GrewBy s0 s1 t) (sym (same k.few)) k.grew;
        none_of_cut = λ cut. k.none_of_cut (run_whole ended s h ends cut);
        not_all = λ complete. k.not_all (λ cut. run_cut ended s h ends cut complete);
      };
  code = by.code;
  follows = by.follows;
  counted = by.counted;
}
  where
    s : RunConfig
    s = run_of p job

    h : List Entry
    h = artifacts.history

    same : (few : List Watcher) → output_in job.mode s h few ≡ head_after job.mode ended p h ++ reports few h
    same few = output_is job.mode ended s h few runs run ends

    done : ending ≡ Done → AllEnded s h × (has_fault h ≡ false)
    done is = subst (RunEnds s h) (ending_is ended ending Done wrote.known is (λ e. let x = e in cc) (λ e. let x = e in cc)) ends

-- the same of what is kept in another place
pub said_of : (p : ProgramView) (job : Job) (ws : List Watcher) (s0 s1 : SinkState) (artifacts k : Artifacts) (ending : Exit) → k ≡ artifacts
    → RunSays p job ws s0 s1 artifacts ending → RunSays p job ws s0 s1 k ending
said_of p job ws s0 s1 artifacts k ending same says = subst (λ (x : Artifacts). RunSays p job ws s0 s1 x ending) (sym same) says
