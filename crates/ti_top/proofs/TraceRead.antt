-- From what became of a trace to the clause on the text, and to why something can't be read.
use Rattle.std.proofs.Common.{◌≡◌, ◌⊎◌, inl, inr, ℕ, ◌<◌, true, false, List, arith, refl, sym, ◌∙◌, ap, subst}
use Rattle.ti_base.specs.declared.entry.Entry.{Entry}
use Rattle.ti_io.specs.Faults.{Rose}
use Rattle.ti_io.specs.Source.{SourceState, SameFiles, IsMissing, Holds, content_of}
use Rattle.ti_io.proofs.Lemmas.{rose_since}
use Rattle.ti_lang.specs.Meaning.Processes.{RunConfig}
use Rattle.ti_rules.specs.declared.refusal.Refusal.{Refusal}
use Rattle.ti_rules.specs.RefusalOf.{IsRefusal}
use Rattle.ti_words.specs.declared.job.Job.{Job}
use Rattle.ti_top.specs.declared.reading.ReadEnd.{ReadEnd}
use Rattle.ti_top.specs.declared.reading.ReadEnd.TheVariants as Read
use Rattle.ti_top.specs.declared.exit.Exit.{Exit}
use Rattle.ti_top.specs.declared.exit.Exit.TheVariants.{Done, Refused, Faulted, NoCommand, CantRead, CantWrite, NoMemory, NoRun}
use Rattle.ti_top.specs.Exit.{status_of}
use Rattle.ti_top.specs.Run.{Verifies}
use Rattle.ti_top.specs.CommandCall.{CommandCall, SourceFailed, SourceRose, IsPreempted}
use Rattle.ti_top.specs.Traces.{LacksTrace, IsUnreadable}
use Rattle.ti_top.specs.Clauses.{IsReadWhole, ReadsText, HasSomeProgram}
use Rattle.ti_top.specs.Mirrors.Reading.{ReadsWhole}
use Rattle.ti_top.specs.Mirrors.Verifying.{HasVerdict, TraceSays, WasRead, HeldTrace, HeldText, HeldSays, ReadSays, VerifyResult}
use Rattle.ti_top.proofs.StatusFrom.{StatusFrom, not_five, is_cant_read}

-- ---- a source that was read before

pub missing_since : (old mid : SourceState) (name : List ℕ) → SameFiles old mid → IsMissing old name → IsMissing mid name
missing_since old mid name same gone = record { tells = same.tells ∙ gone.tells; none = ap (λ files. content_of files name) same.files ∙ gone.none }

pub missing_before : (old mid : SourceState) (name : List ℕ) → SameFiles old mid → IsMissing mid name → IsMissing old name
missing_before old mid name same gone = record { tells = sym same.tells ∙ gone.tells; none = ap (λ files. content_of files name) (sym same.files) ∙ gone.none }

holds_since : (old mid : SourceState) (name bytes : List ℕ) → SameFiles old mid → Holds old name bytes → Holds mid name bytes
holds_since old mid name bytes same holds = record { tells = same.tells ∙ holds.tells; some = ap (λ files. content_of files name) same.files ∙ holds.some }

found_before : (s : RunConfig) (name : List ℕ) (old mid : SourceState) (es : List Entry) → SameFiles old mid → HasVerdict s name mid es → HasVerdict s name old es
found_before s name old mid es same found = record {
  there = λ gone. found.there (missing_since old mid name same gone);
  run = found.run;
  listed = found.listed;
  alone = found.alone;
}

-- what became of a trace is said of the source before an earlier call too
pub says_before : (ending : Exit) (s : RunConfig) (name : List ℕ) (old mid new : SourceState) (es : List Entry) → WasRead old mid
    → TraceSays ending s name mid new es → TraceSays ending s name old new es
says_before Done s name old mid new es read says = record {
  found = found_before s name old mid es read.same says.found;
  complete = says.complete;
  told = λ bytes holds. says.told bytes (holds_since old mid name bytes read.same holds);
}
says_before (NoRun line) s name old mid new es read says = record {
  found = found_before s name old mid es read.same says.found;
  number = says.number;
  told = λ bytes holds. says.told bytes (holds_since old mid name bytes read.same holds);
}
says_before CantRead s name old mid new es read says =
    (elim says.0 [ inl gone ↦ inl (missing_before old mid name read.same gone) | inr rose ↦ inr (rose_since old.faults mid.faults new.faults read.never_falls rose) ], says.1)
says_before NoMemory s name old mid new es read says = says
says_before (Refused refusal) s name old mid new es read says = absurd says
says_before (Faulted fault) s name old mid new es read says = absurd says
says_before NoCommand s name old mid new es read says = absurd says
says_before CantWrite s name old mid new es read says = absurd says

pub both_read : (old mid new : SourceState) → WasRead old mid → WasRead mid new → WasRead old new
both_read old mid new a b = record {
  never_falls = omega (arith, a.never_falls, b.never_falls);
  same = record { tells = b.same.tells ∙ a.same.tells; files = b.same.files ∙ a.same.files };
}

pub held_before : (ending : Exit) (s : RunConfig) (name : List ℕ) (old mid new : SourceState) (es : List Entry) → WasRead old mid
    → mid.faults ≡ old.faults → HeldTrace ending s name mid new es → HeldTrace ending s name old new es
held_before ending s name old mid new es read still held = record { read = both_read old mid new read held.read; failed = λ rose. held.failed (omega (arith, still, rose)); says = says_before ending s name old mid new es read held.says }

-- ---- how the call ends

-- the words of a job that was begun are a command
pub commanded : (end : ReadEnd) (before : Exit) (job : Job) (text : List ℕ) (mid new : SourceState) (es : List Entry) → ReadSays end before job text mid new es → before ≡ NoCommand → ⊥
commanded Read.Whole before job text mid new es says is = subst (λ b. HeldSays b job text mid new es) is says
commanded Read.CantRead before job text mid new es says is = let x = sym says.0 ∙ is in cc
commanded Read.NoMemory before job text mid new es says is = let x = sym says.0 ∙ is in cc

-- the text was read whole
pub whole_of : (job : Job) (c : CommandCall) (mid : SourceState) → ReadsWhole job.file c.source mid c.text Read.Whole → (c.status ≡ 3 → ⊥) → (c.source.tells ≡ false → c.status ≡ 4 → ⊥) → IsReadWhole job c
whole_of job c mid read three four = record {
  there = λ missing. let e = read.missing missing in cc;
  told = λ bytes holds. read.whole bytes holds refl;
  untold_at_three = λ _. three;
  untold_at_four = four;
}

-- the text was read, and its trace is missing
pub record LacksBehind (job : Job) (c : CommandCall) : Type 0 where
  pub lack : LacksTrace job c
  pub accepted : HasSomeProgram c.text
  pub whole : (c.status ≡ 3 → ⊥) → IsReadWhole job c

-- why a call can't read
abbrev pub Cause : Job → CommandCall → Type 0
Cause job c = IsMissing c.source job.file ⊎ LacksBehind job c ⊎ SourceRose c

pub unreadable : (job : Job) (c : CommandCall) → Cause job c → IsUnreadable job c
unreadable job c (inl missing) = inl missing
unreadable job c (inr (inl behind)) = inr (inl behind.lack)
unreadable job c (inr (inr rose)) = inr (inr rose)

true_false : true ≡ false → ⊥
true_false e = cc

pub cause_of : (job : Job) (c : CommandCall) (mid : SourceState) → Verifies job.mode → ReadsWhole job.file c.source mid c.text Read.Whole
    → HeldText CantRead job c.text mid c.source_after c.history → Cause job c
cause_of job c mid mode read held = elim held.says.0 [
  | inl gone ↦
      let missing : IsMissing c.source job.against = missing_before c.source mid job.against read.same gone in
      inr (inl (record {
        lack = record { mode = mode; missing = missing; unrefused = held.compiled.unrefused };
        accepted = (held.program, held.compiled.has);
        whole = λ three. whole_of job c mid read three (λ untold _. true_false (sym missing.tells ∙ untold));
      }))
  | inr rose ↦ inr (inr (rose_since c.source.faults mid.faults c.source_after.faults read.never_falls rose))
]

pub cause_of_read : (job : Job) (c : CommandCall) (mid : SourceState) → ReadsWhole job.file c.source mid c.text Read.CantRead → c.source_after ≡ mid → Cause job c
cause_of_read job c mid read unread = elim (read.cause refl) [
  | inl missing ↦ inl missing
  | inr rose ↦ inr (inr (subst (λ (s : SourceState). Rose c.source.faults s.faults) (sym unread) rose))
]

-- ---- the clause on the text

cause_by : (end : ReadEnd) (before : Exit) (job : Job) (c : CommandCall) (mid : SourceState) → Verifies job.mode → ReadsWhole job.file c.source mid c.text end
    → ReadSays end before job c.text mid c.source_after c.history → before ≡ CantRead → Cause job c
cause_by Read.Whole before job c mid mode read says is = cause_of job c mid mode read (subst (λ b. HeldSays b job c.text mid c.source_after c.history) is says)
cause_by Read.CantRead before job c mid mode read says is = cause_of_read job c mid read says.1
cause_by Read.NoMemory before job c mid mode read says is = absurd (let e = sym says.0 ∙ is in cc)

-- with a status that no failed reading has, the text was read whole
whole_at : (n : ℕ) (end : ReadEnd) (before : Exit) (job : Job) (c : CommandCall) (mid : SourceState)
    → ReadsWhole job.file c.source mid c.text end → ReadSays end before job c.text mid c.source_after c.history
    → StatusFrom before c → c.status ≡ n → (3 ≡ n → ⊥) → (4 ≡ n → ⊥) → (5 ≡ n → ⊥) → (6 ≡ n → ⊥) → IsReadWhole job c
whole_at n Read.Whole before job c mid read says from is three four five six = whole_of job c mid read (λ e. three (sym e ∙ is)) (λ _ e. four (sym e ∙ is))
whole_at n Read.CantRead before job c mid read says from is three four five six = absurd (four (sym (ap status_of says.0) ∙ not_five before n c from is (λ x. five (sym x))))
whole_at n Read.NoMemory before job c mid read says from is three four five six = absurd (six (sym (ap status_of says.0) ∙ not_five before n c from is (λ x. five (sym x))))

-- the endings of a call that found no trace
abbrev IsShort : Exit → Type 0
IsShort before = (before ≡ CantRead) ⊎ (before ≡ NoMemory)

short_yields : (before : Exit) (c : CommandCall) → IsShort before → StatusFrom before c → (c.status ≡ 4) ⊎ IsPreempted c
short_yields before c (inl is) from = elim from [ inl same ↦ inl (same ∙ ap status_of is) | inr cut ↦ inr (inr (cut.0, inr cut.1)) ]
short_yields before c (inr is) from = elim from [ inl same ↦ inr (inl (same ∙ ap status_of is)) | inr cut ↦ inr (inr (cut.0, inr cut.1)) ]

missing_short : (end : ReadEnd) (before : Exit) (job : Job) (c : CommandCall) (mid : SourceState) → ReadsWhole job.file c.source mid c.text end → ReadSays end before job c.text mid c.source_after c.history
    → IsMissing c.source job.file → IsShort before
missing_short Read.Whole before job c mid read says missing = absurd (let e = read.missing missing in cc)
missing_short Read.CantRead before job c mid read says missing = inl says.0
missing_short Read.NoMemory before job c mid read says missing = inr says.0

held_short : (before : Exit) (job : Job) (text : List ℕ) (mid new : SourceState) (es : List Entry) → HeldSays before job text mid new es → IsMissing mid job.against
    → ((refusal : Refusal) → IsRefusal text refusal → ⊥) → IsShort before
held_short Done job text mid new es says gone unrefused = absurd (says.says.found.there gone)
held_short (NoRun line) job text mid new es says gone unrefused = absurd (says.says.found.there gone)
held_short CantRead job text mid new es says gone unrefused = inl refl
held_short NoMemory job text mid new es says gone unrefused = inr refl
held_short (Refused refusal) job text mid new es says gone unrefused = absurd (unrefused refusal says.0)
held_short (Faulted fault) job text mid new es says gone unrefused = absurd says
held_short NoCommand job text mid new es says gone unrefused = absurd says
held_short CantWrite job text mid new es says gone unrefused = absurd says

lacking_short : (end : ReadEnd) (before : Exit) (job : Job) (c : CommandCall) (mid : SourceState) → ReadsWhole job.file c.source mid c.text end → ReadSays end before job c.text mid c.source_after c.history
    → LacksTrace job c → IsShort before
lacking_short Read.Whole before job c mid read says lack =
    held_short before job c.text mid c.source_after c.history says (missing_since c.source mid job.against read.same lack.missing) lack.unrefused
lacking_short Read.CantRead before job c mid read says lack = inl says.0
lacking_short Read.NoMemory before job c mid read says lack = inr says.0

-- where a call of the source failed, the reading or the check of the trace did
failed_short : (end : ReadEnd) (before : Exit) (job : Job) (c : CommandCall) (mid : SourceState) → ReadsWhole job.file c.source mid c.text end → ReadSays end before job c.text mid c.source_after c.history
    → (mid.faults < c.source_after.faults → before ≡ CantRead) → SourceFailed c → IsShort before
failed_short Read.Whole before job c mid read says later failed =
    elim read.failed [ inl same ↦ inl (later (omega (arith, same, failed))) | inr e ↦ absurd (let x = e in cc) ]
failed_short Read.CantRead before job c mid read says later failed = inl says.0
failed_short Read.NoMemory before job c mid read says later failed = inr says.0

pub reads_traced : (before : Exit) (job : Job) (c : CommandCall) → Verifies job.mode → VerifyResult job before c.source c.source_after c.text c.history → StatusFrom before c → ReadsText job c
reads_traced before job c mode v from = record {
  front = v.read.front;
  bound = v.read.bound;
  whole_at_zero = λ is. whole_at 0 v.end before job c v.middle v.read v.says from is (λ e. omega arith) (λ e. omega arith) (λ e. omega arith) (λ e. omega arith);
  whole_at_one = λ is. whole_at 1 v.end before job c v.middle v.read v.says from is (λ e. omega arith) (λ e. omega arith) (λ e. omega arith) (λ e. omega arith);
  whole_at_two = λ is. whole_at 2 v.end before job c v.middle v.read v.says from is (λ e. omega arith) (λ e. omega arith) (λ e. omega arith) (λ e. omega arith);
  whole_at_seven = λ is. whole_at 7 v.end before job c v.middle v.read v.says from is (λ e. omega arith) (λ e. omega arith) (λ e. omega arith) (λ e. omega arith);
  nothing_of_missing = v.read.nothing;
  four_only_where = λ is. unreadable job c (cause_by v.end before job c v.middle mode v.read v.says (is_cant_read before (not_five before 4 c from is (λ e. omega arith))));
  failed = λ failed. short_yields before c (failed_short v.end before job c v.middle v.read v.says v.failed failed) from;
  missing = λ missing. short_yields before c (missing_short v.end before job c v.middle v.read v.says missing) from;
  lacking = λ lack. short_yields before c (lacking_short v.end before job c v.middle v.read v.says lack) from;
  same_files = record { tells = v.later.same.tells ∙ v.read.same.tells; files = v.later.same.files ∙ v.read.same.files };
}
