-- From what was done and how the line on err was written to the clauses of the command.
use Rattle.std.proofs.Common.{◌≡◌, ◌⊎◌, inl, inr, ℕ, ◌≤◌, true, List, [], ◌∷◌, ◌++◌, length, Option, None, Some, refl, sym, ◌∙◌, ap, subst, arith, append-nil}
use Rattle.std.proofs.lemmas.Option.{same_Some}
use Rattle.ti_base.specs.declared.entry.Entry.{Entry}
use Rattle.ti_io.specs.Source.{SourceState, SameFiles}
use Rattle.ti_io.specs.Sink.{SinkState, GrewBy, GrewByFront}
use Rattle.ti_lang.specs.Program.Classes.{ProgramView}
use Rattle.ti_lang.specs.Meaning.Determinacy.{Determines}
use Rattle.ti_lang.specs.Meaning.Races.{races}
use Rattle.ti_lang.specs.Meaning.Spots.{races_told}
use Rattle.ti_lang.specs.Meaning.Processes.{RunConfig}
use Rattle.ti_lang.specs.Meaning.Runs.{AllEnded, IsRun, IsSolo, IsComplete as IsCompleteRun, none}
use Rattle.ti_align.specs.Alignment.{IsAligned}
use Rattle.ti_code.specs.CodeText.{code_text}
use Rattle.ti_code.specs.Follows.{Follows}
use Rattle.ti_code.specs.Programs as coded
use Rattle.ti_lower.specs.Programs.{program_code}
use Rattle.ti_rules.specs.declared.refusal.Refusal.{Refusal}
use Rattle.ti_runtime.specs.Ran.{AreFinishedCounts}
use Rattle.ti_rules.specs.RefusalOf.{HasProgram}
use Rattle.ti_top.specs.declared.fault.Fault.{Fault}
use Rattle.ti_top.specs.declared.reading.ReadEnd.{ReadEnd}
use Rattle.ti_top.specs.declared.reading.ReadEnd.TheVariants as Read
use Rattle.ti_top.specs.declared.exit.Exit.{Exit}
use Rattle.ti_top.specs.declared.exit.Exit.TheVariants.{Done, Refused, Faulted, NoCommand, CantRead, CantWrite, NoMemory, NoRun}
use Rattle.ti_blame.specs.declared.mark.Mark.{Mark}
use Rattle.ti_words.specs.declared.job.Job.{Job}
use Rattle.ti_words.specs.declared.job.Mode.{Mode}
use Rattle.ti_words.specs.declared.job.Mode.TheVariants.{Run, Check, Code, Gen, Verify, Infer}
use Rattle.ti_top.specs.Reports.{wanted_watchers, output_in, output, WroteFew}
use Rattle.ti_top.specs.Mirrors.Reading.{ReadsWhole}
use Rattle.ti_top.specs.Exit.{status_of}
use Rattle.ti_top.specs.Summary.{summary_text}
use Rattle.ti_top.specs.Mirrors.EndsWithLine.{EndsWithLine}
use Rattle.ti_top.specs.Mirrors.Leaving.{LeavesOut}
use Rattle.ti_top.specs.Run.{HasFile, RunsProgram, HasCode, Verifies, Infers, HasHistory, run_of, fault_entry, EndsWithFault}
use Rattle.ti_top.specs.Mirrors.JobView.{artifacts_in, RanNothing, WasRun, WasRefused, WasChecked, WasCoded, WasInferred, RunTextSays, CheckTextSays, CodeTextSays, InferTextSays, TextSays, FileSays, FileDone, SeedDone, TraceDone, JobSays, job_view_of, DidNothing}
use Rattle.ti_top.specs.CommandCall.{most_read, CommandCall, IsCommand, IsNoCommand, file_in, named_file, SinkRose, ErrRose, IsPreempted, WantsReport}
use Rattle.ti_top.specs.Clauses.{IsAcceptedIn, IsRefusalIn, InfersMarks, IsReadWhole, IsWholeIn, HasText, ReadsText, MakesText, GetsText}
use Rattle.ti_top.specs.Clauses.{RefusesExactly, KeepsRun, RunsCode, CountsInstructions, WhereAccepted, WhereRun, WritesAll, WritesOutput}
use Rattle.ti_top.specs.Clauses.{HasAlignedRun, IsDeterminate, EndsRun, NothingFailed, AnswersCompletely, KeepsContractBesideErr, Says, before_err, KeepsContract}
use Rattle.ti_top.specs.Traces.{IsWrongTrace, VerifiesTrace, TraceDecides}
use Rattle.ti_top.specs.Inference.{marks_text}
use Rattle.ti_top.specs.Mirrors.Compiling.{HasNoProgram}
use Rattle.ti_top.specs.Mirrors.Verifying.{WasRead, HeldSays, ReadSays}
use Rattle.ti_top.proofs.StatusFrom.{StatusFrom, status_from, not_five, is_done, is_no_command, is_cant_read, is_faulted, is_no_memory, is_no_run}
use Rattle.ti_top.proofs.TraceFound.{Verdict, verdict_run, verdict_wrong, decides}
use Rattle.ti_top.proofs.TraceRead.{Cause, LacksBehind, unreadable, cause_of, cause_of_read, commanded, whole_of, reads_traced}
use Rattle.ti_top.proofs.InModes.{runs_marked, verifies_marked, refusal_here, refusal_in, accepted_in, no_inference, nothing_inferred}
use Rattle.ti_top.proofs.WordsAnswered.{known, not_both, no_command_answers, command_answers}
use Rattle.ti_top.proofs.TextRead.{EndsAs, read_whole, reads_text}
use Rattle.ti_top.proofs.TextMade.{makes_text}
use Rattle.ti_top.proofs.ErrWritten.{writes_err}
use Rattle.ti_top.proofs.FlushesMet.{flushes_out, flushes_err}
use Rattle.ti_top.proofs.FaultLast.{true_false, fault_is_there, unbegun}
use Rattle.ti_top.proofs.HaveEnded.{no_summary}

-- a status that neither the ending nor a failed err gives
never : (before : Exit) (c : CommandCall) (n : ℕ) → StatusFrom before c → (status_of before ≡ n → ⊥) → (5 ≡ n → ⊥) → c.status ≡ n → ⊥
never before c n (inl same) other five is = other (sym same ∙ is)
never before c n (inr cut) other five is = five (sym cut.0 ∙ is)

-- the status is that of the ending, or a sink failed
yields : (before : Exit) (c : CommandCall) {P : Type 0} → StatusFrom before c → (c.status ≡ status_of before → P) → (IsPreempted c → P) → P
yields before c (inl same) f g = f same
yields before c (inr cut) f g = g (inr (cut.0, inr cut.1))

calm : (before : Exit) (c : CommandCall) → StatusFrom before c → (ErrRose c → ⊥) → c.status ≡ status_of before
calm before c (inl same) h = same
calm before c (inr cut) h = absurd (h cut.1)

-- of a run that hasn't begun nothing is written
nothing_of_unbegun : (mode : Mode) (run : RunConfig) → RunsProgram mode → (IsCompleteRun run [] → ⊥) → output_in mode run [] [] ≡ []
nothing_of_unbegun Run run runs cut = refl
nothing_of_unbegun Gen run runs cut = append-nil (summary_text run []) ∙ no_summary run [] (λ ended. cut (inr ended))
nothing_of_unbegun _ run runs cut = absurd runs

-- where nothing was written, the status owes nothing, and an empty history isn't complete
output_nothing : (c : CommandCall) → (c.status ≡ 0 → WhereAccepted c (λ job program. output job program c.history (wanted_watchers job c.watchers) ≡ []))
    → (c.status ≡ 2 → WhereAccepted c (λ job program. ⊥)) → (c.status ≡ 6
    → WhereRun c (λ job program. IsCompleteRun (run_of program job) [] → ⊥)) → RanNothing c.out c.out_after (artifacts_in c) → WritesOutput c
output_nothing c done_of_none not_faulted not_complete x =
    let same : c.out_after.taken ≡ c.out.taken = ap (λ s. s.taken) x.unwritten in
    let grew_none : c.out_after.taken ≡ c.out.taken ++ [] = same ∙ sym (append-nil c.out.taken) in
    record {
      done = λ is _ job command marked program has. grew_none ∙ ap (λ t. c.out.taken ++ t) (sym (done_of_none is job command marked program has));
      faulted = λ is _ job command marked program has. absurd (not_faulted is job command marked program has);
      nothing_at_one = λ _. same;
      nothing_at_three = λ _. same;
      nothing_at_four = λ _. same;
      no_command = λ _. same;
      not_whole = λ _ _ _. same;
      not_accepted = λ _ _ _. same;
      checked = λ _ _ _. same;
      uncoded = λ _ _ _ _. same;
      failed = λ _ _ job _ _ program _. ([], (output job program c.history (wanted_watchers job c.watchers), refl), grew_none);
      no_memory = λ is _ job command mode program has. record {
        few = [];
        others = wanted_watchers job c.watchers;
        first = refl;
        grew = grew_none ∙ ap (λ t. c.out.taken ++ t) (sym (ap (λ h. output job program h []) x.no_entry
            ∙ nothing_of_unbegun job.mode (run_of program job) mode (not_complete is job command mode program has)));
        none_of_cut = λ _. refl;
        not_all = λ complete. absurd (not_complete is job command mode program has (subst (λ h. IsCompleteRun (run_of program job) h) x.no_entry complete));
      };
    }

run_nothing : (job : Job) (c : CommandCall) → c.history ≡ [] → KeepsRun job c
run_nothing job c no_entry = record {
  run = λ program _. subst (IsRun (run_of program job)) (sym no_entry) none;
  solo = λ _ _ program _. subst (IsSolo (run_of program job)) (sym no_entry) none;
  none = λ _. no_entry;
  unrun = λ _. no_entry;
}

none_some : (code : coded.Code) → ◌≡◌ {A = Option coded.Code} None (Some code) → ⊥
none_some code e = cc

-- a mode that runs has code
pub runs_has : (mode : Mode) → RunsProgram mode → HasCode mode
runs_has Run runs = tt
runs_has Check runs = runs
runs_has Gen runs = tt
runs_has _ runs = absurd runs

-- no mode both runs a program and holds a trace against it
pub runs_unverified : (mode : Mode) → RunsProgram mode → Verifies mode → ⊥
runs_unverified Verify runs verifies = runs
runs_unverified Infer runs verifies = runs
runs_unverified _ runs verifies = verifies

-- no trace is held against the program
no_trace : (job : Job) (c : CommandCall) → (Verifies job.mode → ⊥) → (c.status ≡ 7 → ⊥) → VerifiesTrace job c
no_trace job c unverified not_wrong = record {
  traced = λ _ mode. absurd (unverified mode);
  wrong = λ is. absurd (not_wrong is);
  seven_only_where = λ is. absurd (not_wrong is);
  unjudged = λ mode. absurd (unverified mode);
  unwritten = λ mode. absurd (unverified mode);
}

-- there is no verdict
no_verdict : (job : Job) (c : CommandCall) → (c.status ≡ 0 → ⊥) → (c.status ≡ 7 → ⊥) → RanNothing c.out c.out_after (artifacts_in c) → VerifiesTrace job c
no_verdict job c not_done not_wrong x = record {
  traced = λ is. absurd (not_done is);
  wrong = λ is. absurd (not_wrong is);
  seven_only_where = λ is. absurd (not_wrong is);
  unjudged = λ _ _ _. inl x.no_entry;
  unwritten = λ _. ap (λ s. s.taken) x.unwritten;
}

-- there is no code, and none is owed
no_code : (job : Job) (c : CommandCall) → c.code ≡ None → (c.status ≡ 0 → HasCode job.mode → (program : ProgramView) → HasProgram c.text program → ⊥)
    → (c.status ≡ 2 → (program : ProgramView) → HasProgram c.text program → ⊥) → RunsCode job c
no_code job c gone unowed unfaulted = record {
  there = λ is mode program has. absurd (unowed is mode program has);
  there_at_two = λ is program has. absurd (unfaulted is program has);
  is = λ code some. absurd (none_some code (sym gone ∙ some));
  follows = λ code some. absurd (none_some code (sym gone ∙ some));
  only_where = λ code some. absurd (none_some code (sym gone ∙ some));
  none = λ _. gone;
  unlowered = λ _. gone;
}

-- nothing is counted, and no run is complete
no_count : (job : Job) (c : CommandCall) → c.done ≡ []
    → (RunsProgram job.mode → (program : ProgramView) → HasProgram c.text program → IsCompleteRun (run_of program job) c.history → ⊥)
    → CountsInstructions job c
no_count job c gone incomplete = record {
  complete = λ mode program has complete. absurd (incomplete mode program has complete);
  uncoded = λ _. gone;
  unrun = λ _. gone;
}

-- where nothing was run, nothing is counted
count_nothing : (job : Job) (c : CommandCall) → 1 ≤ job.procs → c.history ≡ [] → c.done ≡ [] → CountsInstructions job c
count_nothing job c some no_entry gone = no_count job c gone
    (λ _ program _ complete. unbegun (run_of program job) some (subst (λ h. IsCompleteRun (run_of program job) h) no_entry complete))

-- where nothing was run, nothing stands in a race
no_races : (c : CommandCall) → c.history ≡ [] → races_told c.history ≡ races c.history
no_races c no_entry = subst (λ (h : List Entry). races_told h ≡ races h) (sym no_entry) refl

-- and no process has its end
nothing_determined : (job : Job) (c : CommandCall) → 1 ≤ job.procs → c.history ≡ [] → IsDeterminate job c
nothing_determined job c some no_entry = record {
  followed = λ _ program _ ended _. absurd (unbegun (run_of program job) some (inr (subst (λ h. AllEnded (run_of program job) h) no_entry ended)));
  told = no_races c no_entry;
}

-- where nothing was run, no fault is last
no_fault_of_nothing : (c : CommandCall) (fault : Fault) → c.history ≡ [] → EndsWithFault c.history fault → ⊥
no_fault_of_nothing c fault no_entry e = short e.before (fault_entry fault) (sym no_entry ∙ e.last)
  where
    short : (before : List Entry) (e : Entry) → [] ≡ before ++ e ∷ [] → ⊥
    short [] e h = cc
    short (b ∷ before) e h = cc

-- the words are no command
beside_no_command : (c : CommandCall) → IsNoCommand c → DidNothing c → StatusFrom NoCommand c → KeepsContractBesideErr c
beside_no_command c no_job x from = record {
  words = no_command_answers c no_job x.source x.text x.nothing from;
  text = λ job some. absurd (not_both c job some no_job);
  refusal = λ job some. absurd (not_both c job some no_job);
  run = λ job some. absurd (not_both c job some no_job);
  code = λ job some. absurd (not_both c job some no_job);
  count = λ job some. absurd (not_both c job some no_job);
  output = output_nothing c (λ _ job some. absurd (not_both c job some no_job)) (λ _ job some. absurd (not_both c job some no_job)) (λ _ job some. absurd (not_both c job some no_job)) x.nothing;
  flushes = flushes_out c NoCommand from (inr (inl x.nothing.unwritten));
  alignment = λ _ _ _. record {
    done = λ is. absurd (never NoCommand c 0 from (λ e. omega arith) (λ e. omega arith) is);
    faulted = λ is. absurd (never NoCommand c 2 from (λ e. omega arith) (λ e. omega arith) is);
    wrong = λ is. absurd (never NoCommand c 7 from (λ e. omega arith) (λ e. omega arith) is);
  };
  determinacy = λ job some. absurd (not_both c job some no_job);
  end = λ job some. absurd (not_both c job some no_job);
  trace = λ job some. absurd (not_both c job some no_job);
  inference = λ job some. absurd (not_both c job some no_job);
}

pub meets_no_command : (c : CommandCall) → IsNoCommand c → DidNothing c → EndsWithLine NoCommand [] c.err c.err_after c.status → KeepsContract c
meets_no_command c no_job x told = let ended = subst (λ file. EndsWithLine NoCommand file c.err c.err_after c.status) (sym (ap file_in no_job)) told in record {
  beside_err = beside_no_command c no_job x (status_from NoCommand c ended);
  err = writes_err c NoCommand no_job (beside_no_command (before_err c NoCommand) no_job (record { source = x.source; text = x.text; nothing = x.nothing }) (inl refl)) ended;
  flushes = flushes_err c NoCommand ended;
  completeness = λ job some. absurd (not_both c job some no_job);
}

-- the clauses of a call whose words are a command
pub record Clauses (job : Job) (c : CommandCall) : Type 0 where
  pub refusal : RefusesExactly job c
  pub run : KeepsRun job c
  pub code : RunsCode job c
  pub count : CountsInstructions job c
  pub output : WritesOutput c
  pub alignment : (Infers job.mode → ⊥) → HasAlignedRun c
  pub determinacy : IsDeterminate job c
  pub end : EndsRun job c
  pub trace : VerifiesTrace job c
  pub inference : InfersMarks job c
  pub completeness : NothingFailed job c → AnswersCompletely job c

job_same : (c : CommandCall) (a b : Job) → IsCommand c a → IsCommand c b → a ≡ b
job_same c a b x y = cc

not_no_command : (end : ReadEnd) (before : Exit) → EndsAs end before → before ≡ NoCommand → ⊥
not_no_command Read.Whole before fits is = fits.0 is
not_no_command Read.CantRead before fits is = let x = sym fits ∙ is in cc
not_no_command Read.NoMemory before fits is = let x = sym fits ∙ is in cc

-- the text is refused
clauses_refused : (refusal : Refusal) (job : Job) (c : CommandCall) → 1 ≤ job.procs → StatusFrom (Refused refusal) c → HasText job c → IsRefusalIn job.mode c.text refusal
    → ((Infers job.mode → ⊥) → HasNoProgram c.text) → RanNothing c.out c.out_after (artifacts_in c) → Clauses job c
clauses_refused refusal job c some from whole is no_program x = record {
  refusal = record {
    only_where = λ _. (refusal, record { whole = whole; refused = is });
    everywhere = λ _ _. yields (Refused refusal) c from (λ same. inl same) (λ y. inr (inl y));
    no_code = λ _ _. x.no_code;
    no_history = λ _ _. x.no_entry;
    no_count = λ _ _. x.no_count;
    no_output = λ _ _. ap (λ s. s.taken) x.unwritten;
    accepted_at_zero = λ is. absurd (not_done is);
    accepted_at_two = λ is. absurd (not_faulted is);
    accepted_at_seven = λ is. absurd (not_wrong is);
  };
  run = run_nothing job c x.no_entry;
  code = no_code job c x.no_code (λ is. absurd (not_done is)) (λ is. absurd (not_faulted is));
  count = count_nothing job c some x.no_entry x.no_count;
  output = output_nothing c (λ is. absurd (not_done is)) (λ is. absurd (not_faulted is)) (λ is. absurd (not_cut is)) x;
  alignment = λ _. record {
    done = λ is. absurd (not_done is);
    faulted = λ is. absurd (not_faulted is);
    wrong = λ is. absurd (not_wrong is);
  };
  determinacy = nothing_determined job c some x.no_entry;
  end = record {
    ended = λ is. absurd (not_done is);
    fault_only_where = λ is. absurd (not_faulted is);
    fault_everywhere = λ _ fault e. absurd (no_fault_of_nothing c fault x.no_entry e);
    unfinished = λ is. absurd (not_cut is);
  };
  trace = no_verdict job c not_done not_wrong x;
  inference = nothing_inferred job c not_done x;
  completeness = λ nothing. record {
    whole = whole;
    refused = λ _ _. calm (Refused refusal) c from nothing.err;
    accepted = λ unrefused. absurd (unrefused refusal is);
    program = λ unrefused. absurd (unrefused refusal is);
    ended = λ runs program has. absurd (no_program (runs_marked job.mode runs) program has);
    verified = λ verifies program has. absurd (no_program (verifies_marked job.mode verifies) program has);
  };
}
  where
    not_done : c.status ≡ 0 → ⊥
    not_done = never (Refused refusal) c 0 from (λ e. omega arith) (λ e. omega arith)

    not_faulted : c.status ≡ 2 → ⊥
    not_faulted = never (Refused refusal) c 2 from (λ e. omega arith) (λ e. omega arith)

    not_cut : c.status ≡ 6 → ⊥
    not_cut = never (Refused refusal) c 6 from (λ e. omega arith) (λ e. omega arith)

    not_wrong : c.status ≡ 7 → ⊥
    not_wrong = never (Refused refusal) c 7 from (λ e. omega arith) (λ e. omega arith)

-- where a file is named, the whole text is there only if it was read whole
pub was_read : (mode : Mode) (job : Job) (c : CommandCall) → HasFile mode → IsWholeIn mode job c → IsReadWhole job c
was_read Gen job c named whole = absurd named
was_read _ job c named whole = whole

-- where a file is named, a text that was read whole is whole
whole_read : (mode : Mode) (job : Job) (c : CommandCall) → HasFile mode → IsReadWhole job c → IsWholeIn mode job c
whole_read Gen job c named whole = absurd named
whole_read _ job c named whole = whole

-- behind a text without a refusal the trace is missing
complete_behind : (job : Job) (c : CommandCall) → HasFile job.mode → StatusFrom CantRead c → NothingFailed job c → LacksBehind job c → AnswersCompletely job c
complete_behind job c named from nothing behind = record {
  whole = whole_read job.mode job c named (behind.whole (never CantRead c 3 from (λ e. omega arith) (λ e. omega arith)));
  refused = λ refusal is. absurd (behind.lack.unrefused refusal (refusal_here job.mode c.text refusal (verifies_marked job.mode behind.lack.mode) is));
  accepted = λ _. inr (inr (inr (calm CantRead c from nothing.err, behind.lack)));
  program = λ _. accepted_in job.mode c.text (verifies_marked job.mode behind.lack.mode) behind.accepted;
  ended = λ runs. absurd (runs_unverified job.mode runs behind.lack.mode);
  verified = λ _ program has bytes holds. absurd (none_held bytes (sym behind.lack.missing.none ∙ holds.some));
}
  where
    none_held : (bytes : List ℕ) → ◌≡◌ {A = Option (List ℕ)} None (Some bytes) → ⊥
    none_held bytes e = cc

-- the file or the trace can't be read
clauses_cant_read : (job : Job) (c : CommandCall) → 1 ≤ job.procs → HasFile job.mode → StatusFrom CantRead c → Cause job c → RanNothing c.out c.out_after (artifacts_in c) → Clauses job c
clauses_cant_read job c some named from cause x = record {
  refusal = record {
    only_where = λ is. absurd (never CantRead c 1 from (λ e. omega arith) (λ e. omega arith) is);
    everywhere = λ refusal refused. yields CantRead c from
        (λ same. elim cause [
          | inl missing ↦ absurd ((was_read job.mode job c named refused.whole).there missing)
          | inr (inl behind) ↦ absurd (behind.lack.unrefused refusal (refusal_here job.mode c.text refusal (verifies_marked job.mode behind.lack.mode) refused.refused))
          | inr (inr rose) ↦ inr (inr (same, rose))
        ])
        (λ y. inr (inl y));
    no_code = λ _ _. x.no_code;
    no_history = λ _ _. x.no_entry;
    no_count = λ _ _. x.no_count;
    no_output = λ _ _. ap (λ s. s.taken) x.unwritten;
    accepted_at_zero = λ is. absurd (never CantRead c 0 from (λ e. omega arith) (λ e. omega arith) is);
    accepted_at_two = λ is. absurd (never CantRead c 2 from (λ e. omega arith) (λ e. omega arith) is);
    accepted_at_seven = λ is. absurd (never CantRead c 7 from (λ e. omega arith) (λ e. omega arith) is);
  };
  run = run_nothing job c x.no_entry;
  code = no_code job c x.no_code (λ is. absurd (never CantRead c 0 from (λ e. omega arith) (λ e. omega arith) is)) (λ is. absurd (never CantRead c 2 from (λ e. omega arith) (λ e. omega arith) is));
  count = count_nothing job c some x.no_entry x.no_count;
  output = output_nothing c (λ is. absurd (never CantRead c 0 from (λ e. omega arith) (λ e. omega arith) is))
      (λ is. absurd (never CantRead c 2 from (λ e. omega arith) (λ e. omega arith) is))
      (λ is. absurd (never CantRead c 6 from (λ e. omega arith) (λ e. omega arith) is)) x;
  alignment = λ _. record {
    done = λ is. absurd (never CantRead c 0 from (λ e. omega arith) (λ e. omega arith) is);
    faulted = λ is. absurd (never CantRead c 2 from (λ e. omega arith) (λ e. omega arith) is);
    wrong = λ is. absurd (never CantRead c 7 from (λ e. omega arith) (λ e. omega arith) is);
  };
  determinacy = nothing_determined job c some x.no_entry;
  end = record {
    ended = λ is. absurd (never CantRead c 0 from (λ e. omega arith) (λ e. omega arith) is);
    fault_only_where = λ is. absurd (never CantRead c 2 from (λ e. omega arith) (λ e. omega arith) is);
    fault_everywhere = λ _ fault e. absurd (no_fault_of_nothing c fault x.no_entry e);
    unfinished = λ is. absurd (never CantRead c 6 from (λ e. omega arith) (λ e. omega arith) is);
  };
  trace = no_verdict job c (never CantRead c 0 from (λ e. omega arith) (λ e. omega arith)) (never CantRead c 7 from (λ e. omega arith) (λ e. omega arith)) x;
  inference = nothing_inferred job c (never CantRead c 0 from (λ e. omega arith) (λ e. omega arith)) x;
  completeness = λ nothing. elim cause [
    | inl missing ↦ absurd (nothing.there named missing)
    | inr (inl behind) ↦ complete_behind job c named from nothing behind
    | inr (inr rose) ↦ absurd (nothing.source rose)
  ];
}

-- out of memory before the run
clauses_no_memory : (job : Job) (c : CommandCall) → IsCommand c job → ((other : Job) → IsCommand c other → 1 ≤ other.procs) → StatusFrom NoMemory c → RanNothing c.out c.out_after (artifacts_in c) → Clauses job c
clauses_no_memory job c command some from x = record {
  refusal = record {
    only_where = λ is. absurd (never NoMemory c 1 from (λ e. omega arith) (λ e. omega arith) is);
    everywhere = λ _ _. yields NoMemory c from (λ same. inr (inl (inl same))) (λ y. inr (inl y));
    no_code = λ _ _. x.no_code;
    no_history = λ _ _. x.no_entry;
    no_count = λ _ _. x.no_count;
    no_output = λ _ _. ap (λ s. s.taken) x.unwritten;
    accepted_at_zero = λ is. absurd (never NoMemory c 0 from (λ e. omega arith) (λ e. omega arith) is);
    accepted_at_two = λ is. absurd (never NoMemory c 2 from (λ e. omega arith) (λ e. omega arith) is);
    accepted_at_seven = λ is. absurd (never NoMemory c 7 from (λ e. omega arith) (λ e. omega arith) is);
  };
  run = run_nothing job c x.no_entry;
  code = no_code job c x.no_code (λ is. absurd (never NoMemory c 0 from (λ e. omega arith) (λ e. omega arith) is)) (λ is. absurd (never NoMemory c 2 from (λ e. omega arith) (λ e. omega arith) is));
  count = count_nothing job c (some job command) x.no_entry x.no_count;
  output = output_nothing c (λ is. absurd (never NoMemory c 0 from (λ e. omega arith) (λ e. omega arith) is))
      (λ is. absurd (never NoMemory c 2 from (λ e. omega arith) (λ e. omega arith) is))
      (λ _ other is _ program _. unbegun (run_of program other) (some other is)) x;
  alignment = λ _. record {
    done = λ is. absurd (never NoMemory c 0 from (λ e. omega arith) (λ e. omega arith) is);
    faulted = λ is. absurd (never NoMemory c 2 from (λ e. omega arith) (λ e. omega arith) is);
    wrong = λ is. absurd (never NoMemory c 7 from (λ e. omega arith) (λ e. omega arith) is);
  };
  determinacy = nothing_determined job c (some job command) x.no_entry;
  end = record {
    ended = λ is. absurd (never NoMemory c 0 from (λ e. omega arith) (λ e. omega arith) is);
    fault_only_where = λ is. absurd (never NoMemory c 2 from (λ e. omega arith) (λ e. omega arith) is);
    fault_everywhere = λ _ fault e. absurd (no_fault_of_nothing c fault x.no_entry e);
    unfinished = λ _ program _ complete. absurd (unbegun (run_of program job) (some job command) (subst (λ h. IsCompleteRun (run_of program job) h) x.no_entry complete));
  };
  trace = no_verdict job c (never NoMemory c 0 from (λ e. omega arith) (λ e. omega arith)) (never NoMemory c 7 from (λ e. omega arith) (λ e. omega arith)) x;
  inference = nothing_inferred job c (never NoMemory c 0 from (λ e. omega arith) (λ e. omega arith)) x;
  completeness = λ nothing. absurd (nothing.memory (calm NoMemory c from nothing.err));
}

-- the ending of a run with a status
done_at : (before : Exit) (c : CommandCall) → StatusFrom before c → c.status ≡ 0 → before ≡ Done
done_at before c from is = is_done before (not_five before 0 c from is (λ e. omega arith))

faulted_at : (before : Exit) (c : CommandCall) → StatusFrom before c → c.status ≡ 2 → (fault : Fault) × (before ≡ Faulted fault)
faulted_at before c from is = is_faulted before (not_five before 2 c from is (λ e. omega arith))

no_memory_at : (before : Exit) (c : CommandCall) → StatusFrom before c → c.status ≡ 6 → before ≡ NoMemory
no_memory_at before c from is = is_no_memory before (not_five before 6 c from is (λ e. omega arith))

done_not_cut : (before : Exit) → before ≡ Done → before ≡ CantWrite → ⊥
done_not_cut before x y = let e = sym x ∙ y in cc

faulted_not_cut : (before : Exit) (fault : Fault) → before ≡ Faulted fault → before ≡ CantWrite → ⊥
faulted_not_cut before fault x y = let e = sym x ∙ y in cc

memory_not_cut : (before : Exit) → before ≡ NoMemory → before ≡ CantWrite → ⊥
memory_not_cut before x y = let e = sym x ∙ y in cc

done_not_memory : (before : Exit) → before ≡ Done → before ≡ NoMemory → ⊥
done_not_memory before x y = let e = sym x ∙ y in cc

faulted_not_memory : (before : Exit) (fault : Fault) → before ≡ Faulted fault → before ≡ NoMemory → ⊥
faulted_not_memory before fault x y = let e = sym x ∙ y in cc

runs_history : (mode : Mode) → RunsProgram mode → HasHistory mode
runs_history Run runs = tt
runs_history Check runs = runs
runs_history Code runs = runs
runs_history Gen runs = tt
runs_history Verify runs = absurd runs
runs_history Infer runs = absurd runs

run_or_check : (mode : Mode) → RunsProgram mode → mode ≡ Check → ⊥
run_or_check m runs check = subst RunsProgram check runs

run_or_code : (mode : Mode) → RunsProgram mode → mode ≡ Code → ⊥
run_or_code m runs code = subst RunsProgram code runs

check_or_code : (mode : Mode) → mode ≡ Check → mode ≡ Code → ⊥
check_or_code m check code = let e = sym check ∙ code in cc

-- the program was run
clauses_ran : (before : Exit) (job : Job) (c : CommandCall) → RunsProgram job.mode → IsCommand c job → StatusFrom before c → HasText job c
    → WasRun job (wanted_watchers job c.watchers) c.text c.out c.out_after (artifacts_in c) before → Clauses job c
clauses_ran before job c mode command from whole x =
    let says = x.says in
    let only = x.compiled.only in
    let marked = runs_marked job.mode mode in
    let unrefused : (refusal : Refusal) → IsRefusalIn job.mode c.text refusal → ⊥ = λ refusal is. x.compiled.unrefused refusal (refusal_here job.mode c.text refusal marked is) in
    let accepted : IsAcceptedIn job.mode c.text = accepted_in job.mode c.text marked (x.program, x.compiled.has) in
    record {
      refusal = record {
        only_where = λ is. absurd (other 1 (λ e. omega arith) (λ e. omega arith) (λ e. omega arith) (λ e. omega arith) is);
        everywhere = λ refusal refused. absurd (unrefused refusal refused.refused);
        no_code = λ refusal refused. absurd (unrefused refusal refused);
        no_history = λ refusal refused. absurd (unrefused refusal refused);
        no_count = λ refusal refused. absurd (unrefused refusal refused);
        no_output = λ refusal refused. absurd (unrefused refusal refused);
        accepted_at_zero = λ _. accepted;
        accepted_at_two = λ _. accepted;
        accepted_at_seven = λ _. accepted;
      };
      run = record {
        run = λ p has. subst (λ q. IsRun (run_of q job) c.history) (sym (only p has)) says.run;
        solo = λ _ alone p has. subst (λ q. IsSolo (run_of q job) c.history) (sym (only p has)) (says.solo alone);
        none = λ h. absurd (h x.program x.compiled.has);
        unrun = λ unrun. absurd (unrun (runs_history job.mode mode));
      };
      code = record {
        there = λ _ _ p has. says.code ∙ ap (λ (q : ProgramView). Some (program_code q)) (sym (only p has));
        there_at_two = λ _ p has. says.code ∙ ap (λ (q : ProgramView). Some (program_code q)) (sym (only p has));
        is = λ code some p has. sym (same code some) ∙ ap program_code (sym (only p has));
        follows = λ code some p has. subst (λ (k : coded.Code). Follows k p) (same code some) (subst (λ (q : ProgramView). Follows (program_code x.program) q) (sym (only p has)) says.follows);
        only_where = λ _ _. ended;
        none = λ h. absurd (h x.program x.compiled.has);
        unlowered = λ h. absurd (h (runs_has job.mode mode));
      };
      count = record {
        complete = λ _ p has complete. subst (λ (q : ProgramView). AreFinishedCounts (program_code q) (run_of q job) c.history c.done) (sym (only p has))
            (says.counted (subst (λ q. IsCompleteRun (run_of q job) c.history) (only p has) complete));
        uncoded = λ gone. absurd (none_some (program_code x.program) (sym gone ∙ says.code));
        unrun = λ unrun. absurd (unrun mode);
      };
      output = record {
        done = λ is told. all (done_not_cut before (done_at before c from is)) (done_not_memory before (done_at before c from is)) told;
        faulted = λ is told. let f = faulted_at before c from is in all (faulted_not_cut before f.0 f.1) (faulted_not_memory before f.0 f.1) told;
        nothing_at_one = λ is. absurd (other 1 (λ e. omega arith) (λ e. omega arith) (λ e. omega arith) (λ e. omega arith) is);
        nothing_at_three = λ is. absurd (other 3 (λ e. omega arith) (λ e. omega arith) (λ e. omega arith) (λ e. omega arith) is);
        nothing_at_four = λ is. absurd (other 4 (λ e. omega arith) (λ e. omega arith) (λ e. omega arith) (λ e. omega arith) is);
        no_command = λ none. absurd (not_both c job command none);
        not_whole = λ j some cut. absurd (cut (subst (λ j. HasText j c) (job_same c job j command some) whole));
        not_accepted = λ j some h. absurd (h (subst (λ (k : Job). IsAcceptedIn k.mode c.text) (job_same c job j command some) accepted));
        checked = λ j some check. absurd (run_or_check job.mode mode (subst (λ k. k.mode ≡ Check) (job_same c j job some command) check));
        uncoded = λ j some code _. absurd (run_or_code job.mode mode (subst (λ k. k.mode ≡ Code) (job_same c j job some command) code));
        failed = λ _ told. alone (λ j q. GrewByFront c.out c.out_after (output j q c.history (wanted_watchers j c.watchers))) (says.part told);
        no_memory = λ is told j some runs. alone (λ j q. WroteFew j.mode (run_of q j) (wanted_watchers j c.watchers) c.history c.out c.out_after) (says.few (no_memory_at before c from is) told) j some
            (runs_marked j.mode runs);
      };
      alignment = λ _. record {
        done = λ _ p has. subst IsAligned (sym (only p has)) x.compiled.aligned;
        faulted = λ _ p has. subst IsAligned (sym (only p has)) x.compiled.aligned;
        wrong = λ _ p has. subst IsAligned (sym (only p has)) x.compiled.aligned;
      };
      determinacy = record {
        followed = λ _ p has. subst (λ (q : ProgramView). Determines (run_of q job) c.history) (sym (only p has)) says.determines;
        told = says.told;
      };
      end = record {
        ended = λ is _ p has. subst (λ q. AllEnded (run_of q job) c.history) (sym (only p has)) (says.ended (done_at before c from is));
        fault_only_where = λ is. let f = faulted_at before c from is in (mode, (f.0, says.faulted f.0 f.1));
        fault_everywhere = λ _ fault last. by_end
            (λ e. absurd (true_false (sym (fault_is_there c.history fault last) ∙ says.no_fault e)))
            (λ f. yields before c from (λ same. inl (same ∙ ap status_of f.1)) (λ y. elim y [
              | inl six ↦ absurd (faulted_not_memory before f.0 f.1 (no_memory_at before c from six))
              | inr five ↦ inr (inl five)
            ]))
            (λ e.
            let asked : WantsReport job c = says.unfinished e (inl (fault_is_there c.history fault last)) in
            yields before c from (λ same. inr (inr (same ∙ ap status_of e, asked))) (λ y. elim y [
              | inl six ↦ inr (inr (six, asked))
              | inr five ↦ inr (inl five)
            ]))
            (λ e. yields before c from
            (λ same. inr (inl (same ∙ ap status_of e, inl (says.rose e))))
            (λ y. elim y [
              | inl six ↦ absurd (memory_not_cut before (no_memory_at before c from six) e)
              | inr five ↦ inr (inl five)
            ]));
        unfinished = λ is p has complete. says.unfinished (no_memory_at before c from is) (subst (λ q. IsCompleteRun (run_of q job) c.history) (only p has) complete);
      };
      trace = no_trace job c (runs_unverified job.mode mode) (other 7 (λ e. omega arith) (λ e. omega arith) (λ e. omega arith) (λ e. omega arith));
      inference = no_inference job c marked;
      completeness = λ nothing.
          let is = calm before c from nothing.err in
          by_end
          (λ e. record {
            whole = whole;
            refused = λ refusal refused. absurd (unrefused refusal refused);
            accepted = λ _. inl (is ∙ ap status_of e);
            program = λ _. accepted;
            ended = λ _ p has. inr (subst (λ q. AllEnded (run_of q job) c.history) (sym (only p has)) (says.ended e));
            verified = λ verifies. absurd (runs_unverified job.mode mode verifies);
          })
          (λ f. record {
            whole = whole;
            refused = λ refusal refused. absurd (unrefused refusal refused);
            accepted = λ _. inr (inl (is ∙ ap status_of f.1));
            program = λ _. accepted;
            ended = λ _ p has. inl (fault_is_there c.history f.0 (says.faulted f.0 f.1));
            verified = λ verifies. absurd (runs_unverified job.mode mode verifies);
          })
          (λ e. absurd (nothing.memory (is ∙ ap status_of e)))
          (λ e. absurd (nothing.out (says.rose e)));
    }
  where
    by_end : {P : Type 0} → (before ≡ Done → P) → ((fault : Fault) × (before ≡ Faulted fault) → P) → (before ≡ NoMemory → P) → (before ≡ CantWrite → P) → P
    by_end f g h k = elim x.says.known [
      | inl e ↦ f e
      | inr (inl e) ↦ g e
      | inr (inr (inl e)) ↦ h e
      | inr (inr (inr e)) ↦ k e
    ]

    same : (code : coded.Code) → c.code ≡ Some code → program_code x.program ≡ code
    same code some = same_Some (program_code x.program) code (sym x.says.code ∙ some)

    cut : (c.status ≡ 5) × ErrRose c × (before ≡ Done → ⊥) → (c.status ≡ 0) ⊎ ((c.status ≡ 2) ⊎ (((c.status ≡ 5) × SinkRose c) ⊎ ((c.status ≡ 6) × RunsProgram job.mode)))
    cut five = inr (inr (inl (five.0, inr five.1)))

    ended : (c.status ≡ 0) ⊎ ((c.status ≡ 2) ⊎ (((c.status ≡ 5) × SinkRose c) ⊎ ((c.status ≡ 6) × RunsProgram job.mode)))
    ended = by_end
        (λ e. elim from [ inl is ↦ inl (is ∙ ap status_of e) | inr five ↦ cut five ])
        (λ f. elim from [ inl is ↦ inr (inl (is ∙ ap status_of f.1)) | inr five ↦ cut five ])
        (λ e. elim from [ inl is ↦ inr (inr (inr (is ∙ ap status_of e, mode))) | inr five ↦ cut five ])
        (λ e. elim from [ inl is ↦ inr (inr (inl (is ∙ ap status_of e, inl (x.says.rose e)))) | inr five ↦ cut five ])

    -- a status that no ending of a run has
    other : (n : ℕ) → (0 ≡ n → ⊥) → (2 ≡ n → ⊥) → (6 ≡ n → ⊥) → (5 ≡ n → ⊥) → c.status ≡ n → ⊥
    other n a b d e is = never before c n from (λ s. by_end (λ k. a (sym (ap status_of k) ∙ s)) (λ k. b (sym (ap status_of k.1) ∙ s))
        (λ k. d (sym (ap status_of k) ∙ s)) (λ k. e (sym (ap status_of k) ∙ s))) e is

    -- what holds of this job and this program holds of each that the call has
    alone : (P : Job → ProgramView → Type 0) → P job x.program → WhereAccepted c P
    alone P it j some _ p has = subst (λ k. P k p) (job_same c job j command some) (subst (P job) (sym (x.compiled.only p has)) it)

    all : (before ≡ CantWrite → ⊥) → (before ≡ NoMemory → ⊥) → c.out.tells ≡ true → WritesAll c
    all whole there told = alone (λ j q. GrewBy c.out c.out_after (output j q c.history (wanted_watchers j c.watchers))) (x.says.all whole there told)

-- the text was checked, and has a program
clauses_checked : (job : Job) (c : CommandCall) → IsCommand c job → job.mode ≡ Check → StatusFrom Done c → HasText job c → WasChecked c.text c.out c.out_after (artifacts_in c) → Clauses job c
clauses_checked job c command mode from whole x =
    let checks : (other : Job) → IsCommand c other → other.mode ≡ Check = λ other is. subst (λ (k : Job). k.mode ≡ Check) (job_same c job other command is) mode in
    let marked : Infers job.mode → ⊥ = λ infers. subst Infers mode infers in
    let unrefused : (refusal : Refusal) → IsRefusalIn job.mode c.text refusal → ⊥ = λ refusal is. x.compiled.unrefused refusal (refusal_here job.mode c.text refusal marked is) in
    let accepted : IsAcceptedIn job.mode c.text = accepted_in job.mode c.text marked (x.program, x.compiled.has) in
    let aligned : (p : ProgramView) → HasProgram c.text p → IsAligned p = λ p has. subst IsAligned (sym (x.compiled.only p has)) x.compiled.aligned in
    record {
      refusal = record {
        only_where = λ is. absurd (never Done c 1 from (λ e. omega arith) (λ e. omega arith) is);
        everywhere = λ refusal refused. absurd (unrefused refusal refused.refused);
        no_code = λ _ _. x.nothing.no_code;
        no_history = λ _ _. x.nothing.no_entry;
        no_count = λ _ _. x.nothing.no_count;
        no_output = λ _ _. ap (λ s. s.taken) x.nothing.unwritten;
        accepted_at_zero = λ _. accepted;
        accepted_at_two = λ _. accepted;
        accepted_at_seven = λ _. accepted;
      };
      run = run_nothing job c x.nothing.no_entry;
      code = no_code job c x.nothing.no_code (λ _ has _ _. subst HasCode mode has) (λ is. absurd (never Done c 2 from (λ e. omega arith) (λ e. omega arith) is));
      count = no_count job c x.nothing.no_count (λ run _ _ _. run_or_check job.mode run mode);
      output = output_nothing c
          (λ _ other is _ program _. ap (λ (m : Mode). output_in m (run_of program other) c.history (wanted_watchers other c.watchers)) (checks other is))
          (λ is. absurd (never Done c 2 from (λ e. omega arith) (λ e. omega arith) is))
          (λ is. absurd (never Done c 6 from (λ e. omega arith) (λ e. omega arith) is)) x.nothing;
      alignment = λ _. record { done = λ _. aligned; faulted = λ _. aligned; wrong = λ _. aligned };
      determinacy = record { followed = λ run. absurd (run_or_check job.mode run mode); told = no_races c x.nothing.no_entry };
      end = record {
        ended = λ _ run. absurd (run_or_check job.mode run mode);
        fault_only_where = λ is. absurd (never Done c 2 from (λ e. omega arith) (λ e. omega arith) is);
        fault_everywhere = λ _ fault e. absurd (no_fault_of_nothing c fault x.nothing.no_entry e);
        unfinished = λ is. absurd (never Done c 6 from (λ e. omega arith) (λ e. omega arith) is);
      };
      trace = no_trace job c (λ verifies. subst Verifies mode verifies) (never Done c 7 from (λ e. omega arith) (λ e. omega arith));
      inference = no_inference job c marked;
      completeness = λ nothing. record {
        whole = whole;
        refused = λ refusal is. absurd (unrefused refusal is);
        accepted = λ _. inl (calm Done c from nothing.err);
        program = λ _. accepted;
        ended = λ run. absurd (run_or_check job.mode run mode);
        verified = λ verifies. absurd (subst Verifies mode verifies);
      };
    }

-- the code of the program was written
clauses_coded : (before : Exit) (job : Job) (c : CommandCall) → IsCommand c job → job.mode ≡ Code → (before ≡ Done) ⊎ (before ≡ CantWrite)
    → StatusFrom before c → HasText job c → WasCoded c.text c.out c.out_after (artifacts_in c) before → Clauses job c
clauses_coded before job c command mode either from whole x =
    let only = x.compiled.only in
    let marked : Infers job.mode → ⊥ = λ infers. subst Infers mode infers in
    let unrefused : (refusal : Refusal) → IsRefusalIn job.mode c.text refusal → ⊥ = λ refusal is. x.compiled.unrefused refusal (refusal_here job.mode c.text refusal marked is) in
    let accepted : IsAcceptedIn job.mode c.text = accepted_in job.mode c.text marked (x.program, x.compiled.has) in
    let aligned : (p : ProgramView) → HasProgram c.text p → IsAligned p = λ p has. subst IsAligned (sym (only p has)) x.compiled.aligned in
    record {
      refusal = record {
        only_where = λ is. absurd (other 1 (λ e. omega arith) (λ e. omega arith) is);
        everywhere = λ refusal refused. absurd (unrefused refusal refused.refused);
        no_code = λ refusal refused. absurd (unrefused refusal refused);
        no_history = λ refusal refused. absurd (unrefused refusal refused);
        no_count = λ refusal refused. absurd (unrefused refusal refused);
        no_output = λ refusal refused. absurd (unrefused refusal refused);
        accepted_at_zero = λ _. accepted;
        accepted_at_two = λ _. accepted;
        accepted_at_seven = λ _. accepted;
      };
      run = run_nothing job c x.no_entry;
      code = record {
        there = λ _ _ p has. x.wrote.there ∙ ap (λ (q : ProgramView). Some (program_code q)) (sym (only p has));
        there_at_two = λ is. absurd (other 2 (λ e. omega arith) (λ e. omega arith) is);
        is = λ code some p has. sym (same code some) ∙ ap program_code (sym (only p has));
        follows = λ code some p has. subst (λ (k : coded.Code). Follows k p) (same code some) (subst (λ (q : ProgramView). Follows (program_code x.program) q) (sym (only p has)) x.wrote.follows);
        only_where = λ _ _. written;
        none = λ h. absurd (h x.program x.compiled.has);
        unlowered = λ h. absurd (h (subst HasCode (sym mode) tt));
      };
      count = no_count job c x.no_count (λ run _ _ _. run_or_code job.mode run mode);
      output = record {
        done = λ is told. alone (λ j q. GrewBy c.out c.out_after (output j q c.history (wanted_watchers j c.watchers)))
            (subst (λ t. GrewBy c.out c.out_after t) (sym text_is) (x.wrote.all (done_at before c from is) told));
        faulted = λ is. absurd (other 2 (λ e. omega arith) (λ e. omega arith) is);
        nothing_at_one = λ is. absurd (other 1 (λ e. omega arith) (λ e. omega arith) is);
        nothing_at_three = λ is. absurd (other 3 (λ e. omega arith) (λ e. omega arith) is);
        nothing_at_four = λ is. absurd (other 4 (λ e. omega arith) (λ e. omega arith) is);
        no_command = λ none. absurd (not_both c job command none);
        not_whole = λ j some cut. absurd (cut (subst (λ j. HasText j c) (job_same c job j command some) whole));
        not_accepted = λ j some h. absurd (h (subst (λ (k : Job). IsAcceptedIn k.mode c.text) (job_same c job j command some) accepted));
        checked = λ j some check. absurd (check_or_code job.mode (subst (λ k. k.mode ≡ Check) (job_same c j job some command) check) mode);
        uncoded = λ _ _ _ gone. absurd (none_some (program_code x.program) (sym gone ∙ x.wrote.there));
        failed = λ _ told. alone (λ j q. GrewByFront c.out c.out_after (output j q c.history (wanted_watchers j c.watchers))) (subst (λ t. GrewByFront c.out c.out_after t) (sym text_is) (x.wrote.part told));
        no_memory = λ is. absurd (other 6 (λ e. omega arith) (λ e. omega arith) is);
      };
      alignment = λ _. record { done = λ _. aligned; faulted = λ _. aligned; wrong = λ _. aligned };
      determinacy = record { followed = λ run. absurd (run_or_code job.mode run mode); told = no_races c x.no_entry };
      end = record {
        ended = λ _ run. absurd (run_or_code job.mode run mode);
        fault_only_where = λ is. absurd (other 2 (λ e. omega arith) (λ e. omega arith) is);
        fault_everywhere = λ _ fault e. absurd (no_fault_of_nothing c fault x.no_entry e);
        unfinished = λ is. absurd (other 6 (λ e. omega arith) (λ e. omega arith) is);
      };
      trace = no_trace job c (λ verifies. subst Verifies mode verifies) (other 7 (λ e. omega arith) (λ e. omega arith));
      inference = no_inference job c marked;
      completeness = λ nothing. record {
        whole = whole;
        refused = λ refusal is. absurd (unrefused refusal is);
        accepted = λ _. inl (by_end (λ e. calm before c from nothing.err ∙ ap status_of e) (λ e. absurd (nothing.out (x.wrote.rose e))));
        program = λ _. accepted;
        ended = λ run. absurd (run_or_code job.mode run mode);
        verified = λ verifies. absurd (subst Verifies mode verifies);
      };
    }
  where
    by_end : {P : Type 0} → (before ≡ Done → P) → (before ≡ CantWrite → P) → P
    by_end f g = elim either [ inl e ↦ f e | inr e ↦ g e ]

    -- a status that none of the two endings has
    other : (n : ℕ) → (0 ≡ n → ⊥) → (5 ≡ n → ⊥) → c.status ≡ n → ⊥
    other n a b is = never before c n from (λ s. by_end (λ k. a (sym (ap status_of k) ∙ s)) (λ k. b (sym (ap status_of k) ∙ s))) b is

    same : (code : coded.Code) → c.code ≡ Some code → program_code x.program ≡ code
    same code some = same_Some (program_code x.program) code (sym x.wrote.there ∙ some)

    written : (c.status ≡ 0) ⊎ ((c.status ≡ 2) ⊎ (((c.status ≡ 5) × SinkRose c) ⊎ ((c.status ≡ 6) × RunsProgram job.mode)))
    written = by_end
        (λ e. elim from [ inl is ↦ inl (is ∙ ap status_of e) | inr cut ↦ inr (inr (inl (cut.0, inr cut.1))) ])
        (λ e. elim from [ inl is ↦ inr (inr (inl (is ∙ ap status_of e, inl (x.wrote.rose e)))) | inr cut ↦ inr (inr (inl (cut.0, inr cut.1))) ])

    text_is : output job x.program c.history (wanted_watchers job c.watchers) ≡ code_text (program_code x.program)
    text_is = ap (λ (m : Mode). output_in m (run_of x.program job) c.history (wanted_watchers job c.watchers)) mode

    -- what holds of this job and this program holds of each that the call has
    alone : (P : Job → ProgramView → Type 0) → P job x.program → WhereAccepted c P
    alone P it j some _ p has = subst (λ k. P k p) (job_same c job j command some) (subst (P job) (sym (x.compiled.only p has)) it)

-- a trace was held against the program of the text, and there is a verdict
clauses_verified : (before : Exit) (job : Job) (c : CommandCall) → job.mode ≡ Verify → IsCommand c job → StatusFrom before c → HasText job c → Verdict before job c
    → c.out_after ≡ c.out → c.code ≡ None → c.done ≡ [] → Clauses job c
clauses_verified before job c mode command from whole x unwritten gone uncounted =
    let marked : Infers job.mode → ⊥ = λ infers. subst Infers mode infers in
    let unrefused : (refusal : Refusal) → IsRefusalIn job.mode c.text refusal → ⊥ = λ refusal is. x.compiled.unrefused refusal (refusal_here job.mode c.text refusal marked is) in
    let accepted : IsAcceptedIn job.mode c.text = accepted_in job.mode c.text marked (x.program, x.compiled.has) in
    let aligned : (p : ProgramView) → HasProgram c.text p → IsAligned p = λ p has. subst IsAligned (sym (x.compiled.only p has)) x.compiled.aligned in
    let same : c.out_after.taken ≡ c.out.taken = ap (λ s. s.taken) unwritten in
    let verifies : Verifies job.mode = subst Verifies (sym mode) tt in
    record {
      refusal = record {
        only_where = λ is. absurd (other 1 (λ e. omega arith) (λ e. omega arith) (λ e. omega arith) is);
        everywhere = λ refusal refused. absurd (unrefused refusal refused.refused);
        no_code = λ refusal refused. absurd (unrefused refusal refused);
        no_history = λ refusal refused. absurd (unrefused refusal refused);
        no_count = λ refusal refused. absurd (unrefused refusal refused);
        no_output = λ _ _. same;
        accepted_at_zero = λ _. accepted;
        accepted_at_two = λ _. accepted;
        accepted_at_seven = λ _. accepted;
      };
      run = record {
        run = λ p has. subst (λ q. IsRun (run_of q job) c.history) (sym (x.compiled.only p has)) x.run;
        solo = λ runs. absurd (unrun runs);
        none = λ h. absurd (h x.program x.compiled.has);
        unrun = λ h. absurd (h (subst HasHistory (sym mode) tt));
      };
      code = no_code job c gone (λ _ has _ _. subst HasCode mode has) (λ is. absurd (other 2 (λ e. omega arith) (λ e. omega arith) (λ e. omega arith) is));
      count = no_count job c uncounted (λ runs _ _ _. unrun runs);
      output = record {
        done = λ _ _ j some _ program _. nothing_of j some program same;
        faulted = λ is. absurd (other 2 (λ e. omega arith) (λ e. omega arith) (λ e. omega arith) is);
        nothing_at_one = λ _. same;
        nothing_at_three = λ _. same;
        nothing_at_four = λ _. same;
        no_command = λ _. same;
        not_whole = λ _ _ _. same;
        not_accepted = λ _ _ _. same;
        checked = λ _ _ _. same;
        uncoded = λ _ _ _ _. same;
        failed = λ _ _ j some _ program _. ([], (output j program c.history (wanted_watchers j c.watchers), refl), same ∙ sym (append-nil c.out.taken));
        no_memory = λ is. absurd (other 6 (λ e. omega arith) (λ e. omega arith) (λ e. omega arith) is);
      };
      alignment = λ _. record { done = λ _. aligned; faulted = λ _. aligned; wrong = λ _. aligned };
      determinacy = record { followed = λ runs. absurd (unrun runs); told = x.listed };
      end = record {
        ended = λ _ runs. absurd (unrun runs);
        fault_only_where = λ is. absurd (other 2 (λ e. omega arith) (λ e. omega arith) (λ e. omega arith) is);
        fault_everywhere = λ runs. absurd (unrun runs);
        unfinished = λ is. absurd (other 6 (λ e. omega arith) (λ e. omega arith) (λ e. omega arith) is);
      };
      trace = record {
        traced = λ is _. x.traced (done_at before c from is);
        wrong = λ is. let k = is_no_run before (not_five before 7 c from is (λ e. omega arith)) in (k.0, x.wrong k.0 k.1);
        seven_only_where = λ _. verifies;
        unjudged = λ _ not_done not_wrong. inr (cut not_done not_wrong);
        unwritten = λ _. same;
      };
      inference = no_inference job c marked;
      completeness = λ nothing. record {
        whole = whole;
        refused = λ refusal is. absurd (unrefused refusal is);
        accepted = λ _. by_end (λ e. inl (calm before c from nothing.err ∙ ap status_of e)) (λ k. inr (inr (inl (calm before c from nothing.err ∙ ap status_of k.1))));
        program = λ _. accepted;
        ended = λ runs. absurd (unrun runs);
        verified = λ _ p has bytes holds.
            subst (λ q. TraceDecides (run_of q job) bytes c) (sym (x.compiled.only p has)) (decides before job c x (calm before c from nothing.err) bytes holds);
      };
    }
  where
    unrun : RunsProgram job.mode → ⊥
    unrun runs = subst RunsProgram mode runs

    by_end : {P : Type 0} → (before ≡ Done → P) → ((line : ℕ) × (before ≡ NoRun line) → P) → P
    by_end f g = elim x.known [ inl e ↦ f e | inr e ↦ g e ]

    -- a status that none of the two endings has
    other : (n : ℕ) → (0 ≡ n → ⊥) → (7 ≡ n → ⊥) → (5 ≡ n → ⊥) → c.status ≡ n → ⊥
    other n a b d is = never before c n from (λ s. by_end (λ k. a (sym (ap status_of k) ∙ s)) (λ k. b (sym (ap status_of k.1) ∙ s))) d is

    -- nothing is to be written
    nothing_of : (j : Job) → IsCommand c j → (program : ProgramView) → c.out_after.taken ≡ c.out.taken → GrewBy c.out c.out_after (output j program c.history (wanted_watchers j c.watchers))
    nothing_of j some program same =
        let verify : j.mode ≡ Verify = subst (λ (k : Job). k.mode ≡ Verify) (job_same c job j command some) mode in
        same ∙ sym (append-nil c.out.taken) ∙ ap (λ t. c.out.taken ++ t) (sym (ap (λ (m : Mode). output_in m (run_of program j) c.history (wanted_watchers j c.watchers)) verify))

    -- the line on err of a wrong trace wasn't written
    cut : (c.status ≡ 0 → ⊥) → (c.status ≡ 7 → ⊥) → (c.status ≡ 5) × ErrRose c × ((line : ℕ) × IsWrongTrace job c line)
    cut not_done not_wrong = elim from [
      | inl is ↦ absurd (by_end (λ e. not_done (is ∙ ap status_of e)) (λ k. not_wrong (is ∙ ap status_of k.1)))
      | inr five ↦ by_end (λ e. absurd (five.2 e)) (λ k. (five.0, five.1, (k.0, x.wrong k.0 k.1)))
    ]

-- the marks of the text were inferred and written
clauses_inferred : (before : Exit) (job : Job) (c : CommandCall) → IsCommand c job → job.mode ≡ Infer → (before ≡ Done) ⊎ (before ≡ CantWrite) → StatusFrom before c → HasText job c
    → WasInferred c.text c.out c.out_after (artifacts_in c) before → Clauses job c
clauses_inferred before job c command mode either from whole x =
    let infers : Infers job.mode = subst Infers (sym mode) tt in
    let unrefused : (refusal : Refusal) → IsRefusalIn job.mode c.text refusal → ⊥ =
    λ refusal is. x.inferred.unrefused refusal (subst (λ (m : Mode). IsRefusalIn m c.text refusal) mode is) in
    let accepted : IsAcceptedIn job.mode c.text = subst (λ (m : Mode). IsAcceptedIn m c.text) (sym mode) (x.marks, x.inferred.has) in
    record {
      refusal = record {
        only_where = λ is. absurd (other 1 (λ e. omega arith) (λ e. omega arith) is);
        everywhere = λ refusal refused. absurd (unrefused refusal refused.refused);
        no_code = λ _ _. x.no_code;
        no_history = λ _ _. x.no_entry;
        no_count = λ _ _. x.no_count;
        no_output = λ refusal refused. absurd (unrefused refusal refused);
        accepted_at_zero = λ _. accepted;
        accepted_at_two = λ _. accepted;
        accepted_at_seven = λ _. accepted;
      };
      run = run_nothing job c x.no_entry;
      code = no_code job c x.no_code (λ _ has _ _. subst HasCode mode has) (λ is. absurd (other 2 (λ e. omega arith) (λ e. omega arith) is));
      count = no_count job c x.no_count (λ runs _ _ _. unrun runs);
      output = record {
        done = λ _ _ j some marked. absurd (marked (infers_too j some));
        faulted = λ _ _ j some marked. absurd (marked (infers_too j some));
        nothing_at_one = λ is. absurd (other 1 (λ e. omega arith) (λ e. omega arith) is);
        nothing_at_three = λ is. absurd (other 3 (λ e. omega arith) (λ e. omega arith) is);
        nothing_at_four = λ is. absurd (other 4 (λ e. omega arith) (λ e. omega arith) is);
        no_command = λ none. absurd (not_both c job command none);
        not_whole = λ j some cut. absurd (cut (subst (λ j. HasText j c) (job_same c job j command some) whole));
        not_accepted = λ j some h. absurd (h (subst (λ (k : Job). IsAcceptedIn k.mode c.text) (job_same c job j command some) accepted));
        checked = λ j some check. absurd (subst Infers (check_is j some check) infers);
        uncoded = λ j some code _. absurd (subst Infers (code_is j some code) infers);
        failed = λ _ _ j some marked. absurd (marked (infers_too j some));
        no_memory = λ is. absurd (other 6 (λ e. omega arith) (λ e. omega arith) is);
      };
      alignment = λ marked. absurd (marked infers);
      determinacy = record { followed = λ runs. absurd (unrun runs); told = no_races c x.no_entry };
      end = record {
        ended = λ _ runs. absurd (unrun runs);
        fault_only_where = λ is. absurd (other 2 (λ e. omega arith) (λ e. omega arith) is);
        fault_everywhere = λ _ fault e. absurd (no_fault_of_nothing c fault x.no_entry e);
        unfinished = λ is. absurd (other 6 (λ e. omega arith) (λ e. omega arith) is);
      };
      trace = no_trace job c (λ verifies. subst Verifies mode verifies) (other 7 (λ e. omega arith) (λ e. omega arith));
      inference = record {
        done = λ is _. (x.marks, x.inferred.has, x.wrote.all (done_at before c from is));
        failed = λ _ _ told marks has. subst (λ (m : List Mark). GrewByFront c.out c.out_after (marks_text m)) (sym (x.inferred.only marks has)) (x.wrote.part told);
        unwritten = λ _ not_done not_cut. absurd (by_end
            (λ e. elim from [ inl is ↦ not_done (is ∙ ap status_of e) | inr cut ↦ not_cut cut.0 ])
            (λ e. elim from [ inl is ↦ not_cut (is ∙ ap status_of e) | inr cut ↦ not_cut cut.0 ]));
      };
      completeness = λ nothing. record {
        whole = whole;
        refused = λ refusal is. absurd (unrefused refusal is);
        accepted = λ _. inl (by_end (λ e. calm before c from nothing.err ∙ ap status_of e) (λ e. absurd (nothing.out (x.wrote.rose e))));
        program = λ _. accepted;
        ended = λ runs. absurd (unrun runs);
        verified = λ verifies. absurd (subst Verifies mode verifies);
      };
    }
  where
    unrun : RunsProgram job.mode → ⊥
    unrun runs = subst RunsProgram mode runs

    by_end : {P : Type 0} → (before ≡ Done → P) → (before ≡ CantWrite → P) → P
    by_end f g = elim either [ inl e ↦ f e | inr e ↦ g e ]

    -- a status that none of the two endings has
    other : (n : ℕ) → (0 ≡ n → ⊥) → (5 ≡ n → ⊥) → c.status ≡ n → ⊥
    other n a b is = never before c n from (λ s. by_end (λ k. a (sym (ap status_of k) ∙ s)) (λ k. b (sym (ap status_of k) ∙ s))) b is

    -- each job of the call infers
    infers_too : (j : Job) → IsCommand c j → Infers j.mode
    infers_too j some = subst (λ (k : Job). Infers k.mode) (job_same c job j command some) (subst Infers (sym mode) tt)

    check_is : (j : Job) → IsCommand c j → j.mode ≡ Check → job.mode ≡ Check
    check_is j some check = subst (λ (k : Job). k.mode ≡ Check) (job_same c j job some command) check

    code_is : (j : Job) → IsCommand c j → j.mode ≡ Code → job.mode ≡ Code
    code_is j some code = subst (λ (k : Job). k.mode ≡ Code) (job_same c j job some command) code

-- ---- a call whose words are a command

-- what was done in it
record Commanded (before : Exit) (job : Job) (c : CommandCall) : Type 0 where
  pub command : IsCommand c job
  pub some : 1 ≤ job.procs
  pub work : JobSays job.mode job before (job_view_of job c)

ends_run : (before : Exit) (job : Job) (c : CommandCall) → RunTextSays before job (wanted_watchers job c.watchers) c.text c.out c.out_after (artifacts_in c) → EndsAs Read.Whole before
ends_run Done job c says = (λ e. let x = e in cc, λ e. let x = e in cc)
ends_run (Refused refusal) job c says = (λ e. let x = e in cc, λ e. let x = e in cc)
ends_run (Faulted fault) job c says = (λ e. let x = e in cc, λ e. let x = e in cc)
ends_run NoCommand job c says = absurd says
ends_run CantRead job c says = absurd says
ends_run CantWrite job c says = (λ e. let x = e in cc, λ e. let x = e in cc)
ends_run NoMemory job c says = (λ e. let x = e in cc, λ e. let x = e in cc)
ends_run (NoRun line) job c says = absurd says

ends_code : (before : Exit) (c : CommandCall) → CodeTextSays before c.text c.out c.out_after (artifacts_in c) → EndsAs Read.Whole before
ends_code Done c says = (λ e. let x = e in cc, λ e. let x = e in cc)
ends_code (Refused refusal) c says = (λ e. let x = e in cc, λ e. let x = e in cc)
ends_code (Faulted fault) c says = absurd says
ends_code NoCommand c says = absurd says
ends_code CantRead c says = absurd says
ends_code CantWrite c says = (λ e. let x = e in cc, λ e. let x = e in cc)
ends_code NoMemory c says = (λ e. let x = e in cc, λ e. let x = e in cc)
ends_code (NoRun line) c says = absurd says

ends_check : (before : Exit) (c : CommandCall) → CheckTextSays before c.text c.out c.out_after (artifacts_in c) → EndsAs Read.Whole before
ends_check Done c says = (λ e. let x = e in cc, λ e. let x = e in cc)
ends_check (Refused refusal) c says = (λ e. let x = e in cc, λ e. let x = e in cc)
ends_check (Faulted fault) c says = absurd says
ends_check NoCommand c says = absurd says
ends_check CantRead c says = absurd says
ends_check CantWrite c says = absurd says
ends_check NoMemory c says = (λ e. let x = e in cc, λ e. let x = e in cc)
ends_check (NoRun line) c says = absurd says

ends_infer : (before : Exit) (c : CommandCall) → InferTextSays before c.text c.out c.out_after (artifacts_in c) → EndsAs Read.Whole before
ends_infer Done c says = (λ e. let x = e in cc, λ e. let x = e in cc)
ends_infer (Refused refusal) c says = (λ e. let x = e in cc, λ e. let x = e in cc)
ends_infer (Faulted fault) c says = absurd says
ends_infer NoCommand c says = absurd says
ends_infer CantRead c says = absurd says
ends_infer CantWrite c says = (λ e. let x = e in cc, λ e. let x = e in cc)
ends_infer NoMemory c says = (λ e. let x = e in cc, λ e. let x = e in cc)
ends_infer (NoRun line) c says = absurd says

ends_text : (mode : Mode) (before : Exit) (job : Job) (c : CommandCall) → TextSays mode before job (wanted_watchers job c.watchers) c.text c.out c.out_after (artifacts_in c) → EndsAs Read.Whole before
ends_text Run before job c says = ends_run before job c says
ends_text Gen before job c says = ends_run before job c says
ends_text Code before job c says = ends_code before c says
ends_text Check before job c says = ends_check before c says
ends_text Verify before job c says = ends_check before c says
ends_text Infer before job c says = ends_infer before c says

ends_as : (end : ReadEnd) (before : Exit) (job : Job) (c : CommandCall) → FileSays end before job (job_view_of job c) → EndsAs end before
ends_as Read.Whole before job c says = ends_text job.mode before job c says
ends_as Read.CantRead before job c says = says.0
ends_as Read.NoMemory before job c says = says.0

-- the clauses and what the ending says, by how the work went
pub record Told (before : Exit) (job : Job) (c : CommandCall) : Type 0 where
  pub text : GetsText job.mode job c
  pub clauses : Clauses job c
  pub says : Says c before
  pub commanded : before ≡ NoCommand → ⊥

-- the clauses beside that on the text, and what the ending says
record ToldOf (before : Exit) (job : Job) (c : CommandCall) : Type 0 where
  pub clauses : Clauses job c
  pub says : Says c before

-- there is a process in each job that the words ask for
each_has : (job : Job) (c : CommandCall) → IsCommand c job → 1 ≤ job.procs → (other : Job) → IsCommand c other → 1 ≤ other.procs
each_has job c command some other is = subst (λ (j : Job). 1 ≤ j.procs) (job_same c job other command is) some

told_refused : (refusal : Refusal) (job : Job) (c : CommandCall) → (Infers job.mode → ⊥) → IsCommand c job → 1 ≤ job.procs → StatusFrom (Refused refusal) c → HasText job c
    → WasRefused c.text c.out c.out_after (artifacts_in c) refusal → ToldOf (Refused refusal) job c
told_refused refusal job c marked command some from whole refused =
    let is = refusal_in job.mode c.text refusal marked refused.is in
    record {
      clauses = clauses_refused refusal job c some from whole is (λ _. refused.no_program) refused.nothing;
      says = (job, command, record { whole = whole; refused = is });
    }

told_unrun : (job : Job) (c : CommandCall) → IsCommand c job → 1 ≤ job.procs → RanNothing c.out c.out_after (artifacts_in c) → StatusFrom NoMemory c → ToldOf NoMemory job c
told_unrun job c command some nothing from = record { clauses = clauses_no_memory job c command (each_has job c command some) from nothing; says = tt }

-- the text was to be run
told_run : (before : Exit) (job : Job) (c : CommandCall) → RunsProgram job.mode → IsCommand c job → 1 ≤ job.procs → HasText job c
    → RunTextSays before job (wanted_watchers job c.watchers) c.text c.out c.out_after (artifacts_in c) → StatusFrom before c → ToldOf before job c
told_run Done job c runs command some whole says from =
    record { clauses = clauses_ran Done job c runs command from whole says; says = (job, command, accepted_in job.mode c.text (runs_marked job.mode runs) (says.program, says.compiled.has)) }
told_run (Refused refusal) job c runs command some whole says from = told_refused refusal job c (runs_marked job.mode runs) command some from whole says
told_run (Faulted fault) job c runs command some whole says from =
    record { clauses = clauses_ran (Faulted fault) job c runs command from whole says; says = (job, command, says.says.faulted fault refl) }
told_run NoCommand job c runs command some whole says from = absurd says
told_run CantRead job c runs command some whole says from = absurd says
told_run (NoRun line) job c runs command some whole says from = absurd says
told_run CantWrite job c runs command some whole says from = record { clauses = clauses_ran CantWrite job c runs command from whole says; says = (job, command, says.says.rose refl) }
told_run NoMemory job c runs command some whole says from =
    elim says [ inl nothing ↦ told_unrun job c command some nothing from | inr ran ↦ record { clauses = clauses_ran NoMemory job c runs command from whole ran; says = tt } ]

told_text : (mode : Mode) (before : Exit) (job : Job) (c : CommandCall) → (Verifies mode → ⊥) → job.mode ≡ mode → IsCommand c job → 1 ≤ job.procs → HasText job c
    → TextSays mode before job (wanted_watchers job c.watchers) c.text c.out c.out_after (artifacts_in c) → StatusFrom before c → ToldOf before job c
told_text Run before job c unverified mode command some whole says from = told_run before job c (subst RunsProgram (sym mode) tt) command some whole says from
told_text Gen before job c unverified mode command some whole says from = told_run before job c (subst RunsProgram (sym mode) tt) command some whole says from
told_text Check Done job c unverified mode command some whole says from =
    record { clauses = clauses_checked job c command mode from whole says; says = (job, command, accepted_in job.mode c.text (λ infers. subst Infers mode infers) (says.program, says.compiled.has)) }
told_text Check (Refused refusal) job c unverified mode command some whole says from = told_refused refusal job c (λ infers. subst Infers mode infers) command some from whole says
told_text Check (Faulted fault) job c unverified mode command some whole says from = absurd says
told_text Check NoCommand job c unverified mode command some whole says from = absurd says
told_text Check CantRead job c unverified mode command some whole says from = absurd says
told_text Check CantWrite job c unverified mode command some whole says from = absurd says
told_text Check NoMemory job c unverified mode command some whole says from = told_unrun job c command some says from
told_text Check (NoRun line) job c unverified mode command some whole says from = absurd says
told_text Code Done job c unverified mode command some whole says from =
    record {
      clauses = clauses_coded Done job c command mode (inl refl) from whole says;
      says = (job, command, accepted_in job.mode c.text (λ infers. subst Infers mode infers) (says.program, says.compiled.has));
    }
told_text Code (Refused refusal) job c unverified mode command some whole says from = told_refused refusal job c (λ infers. subst Infers mode infers) command some from whole says
told_text Code (Faulted fault) job c unverified mode command some whole says from = absurd says
told_text Code NoCommand job c unverified mode command some whole says from = absurd says
told_text Code CantRead job c unverified mode command some whole says from = absurd says
told_text Code CantWrite job c unverified mode command some whole says from =
    record { clauses = clauses_coded CantWrite job c command mode (inr refl) from whole says; says = (job, command, says.wrote.rose refl) }
told_text Code NoMemory job c unverified mode command some whole says from = told_unrun job c command some says from
told_text Code (NoRun line) job c unverified mode command some whole says from = absurd says
told_text Verify before job c unverified mode command some whole says from = absurd (unverified tt)
told_text Infer Done job c unverified mode command some whole says from =
    record {
      clauses = clauses_inferred Done job c command mode (inl refl) from whole says;
      says = (job, command, subst (λ (m : Mode). IsAcceptedIn m c.text) (sym mode) (says.marks, says.inferred.has));
    }
told_text Infer (Refused refusal) job c unverified mode command some whole says from =
    let is : IsRefusalIn job.mode c.text refusal = subst (λ (m : Mode). IsRefusalIn m c.text refusal) (sym mode) says.is in
    record {
      clauses = clauses_refused refusal job c some from whole is (λ marked. absurd (marked (subst Infers (sym mode) tt))) says.nothing;
      says = (job, command, record { whole = whole; refused = is });
    }
told_text Infer (Faulted fault) job c unverified mode command some whole says from = absurd says
told_text Infer NoCommand job c unverified mode command some whole says from = absurd says
told_text Infer CantRead job c unverified mode command some whole says from = absurd says
told_text Infer CantWrite job c unverified mode command some whole says from =
    record { clauses = clauses_inferred CantWrite job c command mode (inr refl) from whole says; says = (job, command, says.wrote.rose refl) }
told_text Infer NoMemory job c unverified mode command some whole says from = told_unrun job c command some says from
told_text Infer (NoRun line) job c unverified mode command some whole says from = absurd says

told_file : (before : Exit) (end : ReadEnd) (job : Job) (c : CommandCall) → HasFile job.mode → (Verifies job.mode → ⊥) → IsCommand c job
    → 1 ≤ job.procs → ReadsWhole job.file c.source c.source_after c.text end → FileSays end before job (job_view_of job c) → StatusFrom before c
    → ToldOf before job c
told_file before Read.Whole job c named unverified command some read says from =
    told_text job.mode before job c unverified refl command some (whole_read job.mode job c named (read_whole before job c read (ends_as Read.Whole before job c says) from)) says from
told_file before Read.CantRead job c named unverified command some read says from =
    let cause : Cause job c = elim (read.cause refl) [ inl missing ↦ inl missing | inr rose ↦ inr (inr rose) ] in
    let from' = subst (λ b. StatusFrom b c) says.0 from in
    subst (λ b. ToldOf b job c) (sym says.0) (record { clauses = clauses_cant_read job c some named from' cause says.1; says = (job, command, unreadable job c cause) })
told_file before Read.NoMemory job c named unverified command some read says from =
    subst (λ b. ToldOf b job c) (sym says.0) (told_unrun job c command some says.1 (subst (λ b. StatusFrom b c) says.0 from))

-- the clause on the text where a file is named
gets_read : (mode : Mode) (job : Job) (c : CommandCall) → HasFile mode → ReadsText job c → GetsText mode job c
gets_read Gen job c named reads = absurd named
gets_read _ job c named reads = reads

told_read : (before : Exit) (job : Job) (c : CommandCall) → HasFile job.mode → (Verifies job.mode → ⊥) → IsCommand c job → 1 ≤ job.procs
    → FileDone job before (job_view_of job c) → StatusFrom before c → Told before job c
told_read before job c named unverified command some work from =
    let fits = ends_as work.end before job c work.says in
    let k = told_file before work.end job c named unverified command some work.read work.says from in
    record {
      text = gets_read job.mode job c named (reads_text work.end before job c unverified work.read fits from);
      clauses = k.clauses;
      says = k.says;
      commanded = not_no_command work.end before fits;
    }

-- the text was read whole, where the call doesn't end as one that can't read
whole_text : (before : Exit) (job : Job) (c : CommandCall) (mid : SourceState) → job.mode ≡ Verify → ReadsWhole job.file c.source mid c.text Read.Whole → StatusFrom before c
    → (before ≡ NoCommand → ⊥) → (before ≡ CantRead → ⊥) → HasText job c
whole_text before job c mid mode read from commanded readable =
    whole_read job.mode job c (subst HasFile (sym mode) tt)
    (whole_of job c mid read (λ is. commanded (is_no_command before (not_five before 3 c from is (λ e. omega arith))))
    (λ _ is. readable (is_cant_read before (not_five before 4 c from is (λ e. omega arith)))))

-- a trace was held against the text, which was read
told_held : (before : Exit) (job : Job) (c : CommandCall) (mid : SourceState) → job.mode ≡ Verify → IsCommand c job → 1 ≤ job.procs → TraceDone job before (job_view_of job c)
    → ReadsWhole job.file c.source mid c.text Read.Whole → WasRead mid c.source_after → HeldSays before job c.text mid c.source_after c.history → StatusFrom before c → ToldOf before job c
told_held Done job c mid mode command some work read later says from =
    let k = verdict_run job c mid (record { never_falls = read.never_falls; same = read.same }) says in
    record {
      clauses = clauses_verified Done job c mode command from
          (whole_text Done job c mid mode read from (λ e. let x = e in cc) (λ e. let x = e in cc)) k work.unwritten work.no_code
          work.no_count;
      says = (
        job,
        command,
        accepted_in job.mode c.text (λ infers. subst Infers mode infers) (
          k.program,
          k.compiled.has,
        ),
      );
    }
told_held (NoRun line) job c mid mode command some work read later says from =
    let k = verdict_wrong line job c mid (record { never_falls = read.never_falls; same = read.same }) says in
    record {
      clauses = clauses_verified (NoRun line) job c mode command from
          (whole_text (NoRun line) job c mid mode read from (λ e. let x = e in cc) (λ e. let x = e in cc)) k work.unwritten work.no_code
          work.no_count;
      says = (job, command, k.wrong line refl);
    }
told_held CantRead job c mid mode command some work read later says from =
    let cause = cause_of job c mid (subst Verifies (sym mode) tt) read says in
    let nothing : RanNothing c.out c.out_after (artifacts_in c) = record { unwritten = work.unwritten; no_entry = says.says.1; no_code = work.no_code; no_count = work.no_count } in
    record { clauses = clauses_cant_read job c some (subst HasFile (sym mode) tt) from cause nothing; says = (job, command, unreadable job c cause) }
told_held NoMemory job c mid mode command some work read later says from =
    told_unrun job c command some (record { unwritten = work.unwritten; no_entry = says; no_code = work.no_code; no_count = work.no_count }) from
told_held (Refused refusal) job c mid mode command some work read later says from =
    told_refused refusal job c (λ infers. subst Infers mode infers) command some from (whole_text (Refused refusal) job c mid mode read from (λ e. let x = e in cc) (λ e. let x = e in cc))
    (record { is = says.0; no_program = says.1; nothing = record { unwritten = work.unwritten; no_entry = says.2; no_code = work.no_code; no_count = work.no_count } })
told_held (Faulted fault) job c mid mode command some work read later says from = absurd says
told_held NoCommand job c mid mode command some work read later says from = absurd says
told_held CantWrite job c mid mode command some work read later says from = absurd says

told_verified : (before : Exit) (end : ReadEnd) (job : Job) (c : CommandCall) (mid : SourceState) → job.mode ≡ Verify → IsCommand c job → 1 ≤ job.procs → TraceDone job before (job_view_of job c)
    → ReadsWhole job.file c.source mid c.text end → WasRead mid c.source_after → ReadSays end before job c.text mid c.source_after c.history → StatusFrom before c → ToldOf before job c
told_verified before Read.Whole job c mid mode command some work read later says from = told_held before job c mid mode command some work read later says from
told_verified before Read.CantRead job c mid mode command some work read later says from =
    let cause = cause_of_read job c mid read says.1 in
    let from' = subst (λ b. StatusFrom b c) says.0 from in
    let nothing : RanNothing c.out c.out_after (artifacts_in c) = record { unwritten = work.unwritten; no_entry = says.2; no_code = work.no_code; no_count = work.no_count } in
    subst (λ b. ToldOf b job c) (sym says.0) (record { clauses = clauses_cant_read job c some (subst HasFile (sym mode) tt) from' cause nothing; says = (job, command, unreadable job c cause) })
told_verified before Read.NoMemory job c mid mode command some work read later says from =
    subst (λ b. ToldOf b job c) (sym says.0)
    (told_unrun job c command some (record { unwritten = work.unwritten; no_entry = says.1; no_code = work.no_code; no_count = work.no_count }) (subst (λ b. StatusFrom b c) says.0 from))

told_traced : (before : Exit) (job : Job) (c : CommandCall) → job.mode ≡ Verify → IsCommand c job → 1 ≤ job.procs → TraceDone job before (job_view_of job c) → StatusFrom before c → Told before job c
told_traced before job c mode command some work from =
    let v = work.verified in
    let k = told_verified before v.end job c v.middle mode command some work v.read v.later v.says from in
    record {
      text = subst (λ m. GetsText m job c) (sym mode) (reads_traced before job c (subst Verifies (sym mode) tt) v from);
      clauses = k.clauses;
      says = k.says;
      commanded = commanded v.end before job c.text v.middle c.source_after c.history v.says;
    }

told_made : (before : Exit) (job : Job) (c : CommandCall) → job.mode ≡ Gen → IsCommand c job → 1 ≤ job.procs → SeedDone job before (job_view_of job c) → StatusFrom before c → Told before job c
told_made before job c gen command some work from = elim work.says [
  | inl made ↦
      let fits = ends_text job.mode before job c made.1 in
      let k = told_text job.mode before job c (λ verifies. subst Verifies gen verifies) refl command some (subst (λ m. IsWholeIn m job c) (sym gen) made.0) made.1 from in
      record {
        text = subst (λ m. GetsText m job c) (sym gen) (makes_text before job c work.unread (inl made.0) fits.1 from);
        clauses = k.clauses;
        says = k.says;
        commanded = fits.0;
      }
  | inr short ↦
      let k = subst (λ b. ToldOf b job c) (sym short.1) (told_unrun job c command some short.2 (subst (λ b. StatusFrom b c) short.1 from)) in
      record {
        text = subst (λ m. GetsText m job c) (sym gen) (makes_text before job c work.unread (inr (short.0, short.1)) (λ e. let x = sym short.1 ∙ e in cc) from);
        clauses = k.clauses;
        says = k.says;
        commanded = λ e. let x = sym short.1 ∙ e in cc;
      }
]

told_in : (mode : Mode) (before : Exit) (job : Job) (c : CommandCall) → job.mode ≡ mode → IsCommand c job → 1 ≤ job.procs
    → JobSays mode job before (job_view_of job c) → StatusFrom before c → Told before job c
told_in Gen before job c mode command some work from = told_made before job c mode command some work from
told_in Verify before job c mode command some work from = told_traced before job c mode command some work from
told_in _ before job c mode command some work from = told_read before job c (subst HasFile (sym mode) tt) (λ verifies. subst Verifies mode verifies) command some work from

told : (before : Exit) (job : Job) (c : CommandCall) → Commanded before job c → StatusFrom before c → Told before job c
told before job c x from = told_in job.mode before job c refl x.command x.some x.work from

beside_command : (before : Exit) (job : Job) (c : CommandCall) → Commanded before job c → LeavesOut before c.out c.out_after → StatusFrom before c → KeepsContractBesideErr c
beside_command before job c x leaves from =
    let t = told before job c x from in
    let k = t.clauses in
    record {
      words = command_answers before c job x.command t.commanded from;
      text = λ other some. subst (λ (j : Job). GetsText j.mode j c) (job_same c job other x.command some) t.text;
      refusal = λ other some. subst (λ j. RefusesExactly j c) (job_same c job other x.command some) k.refusal;
      run = λ other some. subst (λ j. KeepsRun j c) (job_same c job other x.command some) k.run;
      code = λ other some. subst (λ j. RunsCode j c) (job_same c job other x.command some) k.code;
      count = λ other some. subst (λ j. CountsInstructions j c) (job_same c job other x.command some) k.count;
      output = k.output;
      flushes = flushes_out c before from leaves;
      alignment = λ other some. subst (λ (j : Job). (Infers j.mode → ⊥) → HasAlignedRun c) (job_same c job other x.command some) k.alignment;
      determinacy = λ other some. subst (λ j. IsDeterminate j c) (job_same c job other x.command some) k.determinacy;
      end = λ other some. subst (λ j. EndsRun j c) (job_same c job other x.command some) k.end;
      trace = λ other some. subst (λ j. VerifiesTrace j c) (job_same c job other x.command some) k.trace;
      inference = λ other some. subst (λ j. InfersMarks j c) (job_same c job other x.command some) k.inference;
    }

-- what was done, and how the line on err was written, meet the clauses
pub meets_command : (before : Exit) (job : Job) (c : CommandCall) → IsCommand c job → 1 ≤ job.procs
    → JobSays job.mode job before (job_view_of job c) → LeavesOut before c.out c.out_after → EndsWithLine before job.file c.err c.err_after c.status
    → KeepsContract c
meets_command before job c command some work leaves written =
    let ended = subst (λ file. EndsWithLine before file c.err c.err_after c.status) (sym (ap file_in command)) written in
    let x : Commanded before job c = record { command = command; some = some; work = work } in
    let from = status_from before c ended in
    let all = told before job c x from in
    let earlier : Commanded before job (before_err c before) = record { command = command; some = some; work = work } in
    record {
      beside_err = beside_command before job c x leaves from;
      err = writes_err c before all.says (beside_command before job (before_err c before) earlier leaves (inl refl)) ended;
      flushes = flushes_err c before ended;
      completeness = λ other some. subst (λ j. NothingFailed j c → AnswersCompletely j c) (job_same c job other command some) all.clauses.completeness;
    }

-- ---- a call whose words weren't read, for want of memory

reads_nothing : (job : Job) (c : CommandCall) → DidNothing c → StatusFrom NoMemory c → ReadsText job c
reads_nothing job c x from = record {
  front = λ bytes _. (bytes, ap (λ t. t ++ bytes) x.text);
  bound = subst (λ t. length t ≤ most_read) (sym x.text) (omega arith);
  whole_at_zero = λ is. absurd (never NoMemory c 0 from (λ e. omega arith) (λ e. omega arith) is);
  whole_at_one = λ is. absurd (never NoMemory c 1 from (λ e. omega arith) (λ e. omega arith) is);
  whole_at_two = λ is. absurd (never NoMemory c 2 from (λ e. omega arith) (λ e. omega arith) is);
  whole_at_seven = λ is. absurd (never NoMemory c 7 from (λ e. omega arith) (λ e. omega arith) is);
  nothing_of_missing = λ _. x.text;
  four_only_where = λ is. absurd (never NoMemory c 4 from (λ e. omega arith) (λ e. omega arith) is);
  failed = λ _. yields NoMemory c from (λ same. inr (inl same)) inr;
  missing = λ _. yields NoMemory c from (λ same. inr (inl same)) inr;
  lacking = λ _. yields NoMemory c from (λ same. inr (inl same)) inr;
  same_files = subst (λ s. SameFiles c.source s) (sym x.source) (record { tells = refl; files = refl });
}

makes_nothing : (job : Job) (c : CommandCall) → DidNothing c → StatusFrom NoMemory c → MakesText job c
makes_nothing job c x from = makes_text NoMemory job c x.source (inr (x.text, refl)) (λ e. let y = e in cc) from

gets_nothing : (mode : Mode) (job : Job) (c : CommandCall) → DidNothing c → StatusFrom NoMemory c → GetsText mode job c
gets_nothing Gen job c x from = makes_nothing job c x from
gets_nothing _ job c x from = reads_nothing job c x from

-- it answers as one whose words are a command, and as one whose words are none
beside_unread : (c : CommandCall) → ((job : Job) → IsCommand c job → 1 ≤ job.procs) → DidNothing c → StatusFrom NoMemory c → KeepsContractBesideErr c
beside_unread c some x from = record {
  words = record {
    known = known NoMemory c from;
    only_where = λ is. absurd (never NoMemory c 3 from (λ e. omega arith) (λ e. omega arith) is);
    everywhere = λ _. yields NoMemory c from (λ same. inr (inl same)) inr;
    source_as_before = λ _. x.source;
    no_text = λ _. x.text;
    no_code = λ _. x.nothing.no_code;
    no_history = λ _. x.nothing.no_entry;
    no_count = λ _. x.nothing.no_count;
  };
  text = λ job _. gets_nothing job.mode job c x from;
  refusal = λ job command. (clauses_no_memory job c command some from x.nothing).refusal;
  run = λ job command. (clauses_no_memory job c command some from x.nothing).run;
  code = λ job command. (clauses_no_memory job c command some from x.nothing).code;
  count = λ job command. (clauses_no_memory job c command some from x.nothing).count;
  output = output_nothing c (λ is. absurd (never NoMemory c 0 from (λ e. omega arith) (λ e. omega arith) is))
      (λ is. absurd (never NoMemory c 2 from (λ e. omega arith) (λ e. omega arith) is))
      (λ _ other is _ program _. unbegun (run_of program other) (some other is)) x.nothing;
  flushes = flushes_out c NoMemory from (inr (inl x.nothing.unwritten));
  alignment = λ _ _ _. record {
    done = λ is. absurd (never NoMemory c 0 from (λ e. omega arith) (λ e. omega arith) is);
    faulted = λ is. absurd (never NoMemory c 2 from (λ e. omega arith) (λ e. omega arith) is);
    wrong = λ is. absurd (never NoMemory c 7 from (λ e. omega arith) (λ e. omega arith) is);
  };
  determinacy = λ job command. (clauses_no_memory job c command some from x.nothing).determinacy;
  end = λ job command. (clauses_no_memory job c command some from x.nothing).end;
  trace = λ job command. (clauses_no_memory job c command some from x.nothing).trace;
  inference = λ job command. (clauses_no_memory job c command some from x.nothing).inference;
}

-- the line of want of memory names no file
any_file : (file : List ℕ) (old new : SinkState) (status : ℕ) → EndsWithLine NoMemory [] old new status → EndsWithLine NoMemory file old new status
any_file file old new status told = record {
  never_falls = told.never_falls;
  tells = told.tells;
  written = elim told.written [
    | inl whole ↦ inl (record { same = whole.same; nothing = whole.nothing; grew = whole.grew; unfailed = whole.unfailed })
    | inr cut ↦ inr (record { five = cut.five; not_done = cut.not_done; rose = cut.rose; grew = cut.grew })
  ];
}

pub meets_unread : (c : CommandCall) → ((job : Job) → IsCommand c job → 1 ≤ job.procs) → DidNothing c → EndsWithLine NoMemory [] c.err c.err_after c.status → KeepsContract c
meets_unread c some x told =
    let ended = any_file (named_file c) c.err c.err_after c.status told in
    let from = status_from NoMemory c ended in
    record {
      beside_err = beside_unread c some x from;
      err = writes_err c NoMemory tt (beside_unread (before_err c NoMemory) some (record { source = x.source; text = x.text; nothing = x.nothing }) (inl refl)) ended;
      flushes = flushes_err c NoMemory ended;
      completeness = λ job command. λ nothing. absurd (nothing.memory (calm NoMemory c from nothing.err));
    }
