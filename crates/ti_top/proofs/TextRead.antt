-- From how the reading ended to the clause on the text.
use Rattle.std.proofs.Common.{◌≡◌, ◌⊎◌, inl, inr, ℕ, arith, refl, sym, ◌∙◌, ap}
use Rattle.ti_io.specs.Source.{IsMissing}
use Rattle.ti_top.specs.declared.reading.ReadEnd.{ReadEnd}
use Rattle.ti_top.specs.declared.reading.ReadEnd.TheVariants as Read
use Rattle.ti_top.specs.declared.exit.Exit.{Exit}
use Rattle.ti_top.specs.declared.exit.Exit.TheVariants.{NoCommand, CantRead, NoMemory}
use Rattle.ti_words.specs.declared.job.Job.{Job}
use Rattle.ti_top.specs.Mirrors.Reading.{ReadsWhole}
use Rattle.ti_top.specs.Exit.{status_of}
use Rattle.ti_top.specs.CommandCall.{CommandCall, SourceFailed, IsPreempted}
use Rattle.ti_top.specs.Clauses.{IsReadWhole, ReadsText}
use Rattle.ti_top.specs.Run.{Verifies}
use Rattle.ti_top.proofs.StatusFrom.{StatusFrom, not_five, is_no_command, is_cant_read}

-- the ending that a call may have where its reading ended so
abbrev pub EndsAs : ReadEnd → Exit → Type 0
EndsAs Read.Whole before = (before ≡ NoCommand → ⊥) × (before ≡ CantRead → ⊥)
EndsAs Read.CantRead before = before ≡ CantRead
EndsAs Read.NoMemory before = before ≡ NoMemory

-- a missing name isn't read whole
not_whole : (job : Job) (c : CommandCall) → ReadsWhole job.file c.source c.source_after c.text Read.Whole → IsMissing c.source job.file → ⊥
not_whole job c read missing = let e = read.missing missing in cc

-- a text that was read to its end was read whole
pub read_whole : (before : Exit) (job : Job) (c : CommandCall) → ReadsWhole job.file c.source c.source_after c.text Read.Whole → EndsAs Read.Whole before → StatusFrom before c → IsReadWhole job c
read_whole before job c read fits from = record {
  there = not_whole job c read;
  told = λ bytes holds. read.whole bytes holds refl;
  untold_at_three = λ _ is. fits.0 (is_no_command before (not_five before 3 c from is (λ e. omega arith)));
  untold_at_four = λ _ is. fits.1 (is_cant_read before (not_five before 4 c from is (λ e. omega arith)));
}

-- with a status that no failed reading has, the text was read whole
whole_at : (n : ℕ) (end : ReadEnd) (before : Exit) (job : Job) (c : CommandCall) → ReadsWhole job.file c.source c.source_after c.text end → EndsAs end before → StatusFrom before c → c.status ≡ n
    → (4 ≡ n → ⊥) → (5 ≡ n → ⊥) → (6 ≡ n → ⊥) → IsReadWhole job c
whole_at n Read.Whole before job c read fits from is four five six = read_whole before job c read fits from
whole_at n Read.CantRead before job c read fits from is four five six = absurd (four (sym (ap status_of fits) ∙ not_five before n c from is (λ x. five (sym x))))
whole_at n Read.NoMemory before job c read fits from is four five six = absurd (six (sym (ap status_of fits) ∙ not_five before n c from is (λ x. five (sym x))))

cause_of_four : (end : ReadEnd) (before : Exit) (job : Job) (c : CommandCall) → ReadsWhole job.file c.source c.source_after c.text end → EndsAs end before → before ≡ CantRead → end ≡ Read.CantRead
cause_of_four Read.Whole before job c read fits is = absurd (fits.1 is)
cause_of_four Read.CantRead before job c read fits is = refl
cause_of_four Read.NoMemory before job c read fits is = absurd (let e = sym fits ∙ is in cc)

missing_is_told : (end : ReadEnd) (before : Exit) (job : Job) (c : CommandCall) → ReadsWhole job.file c.source c.source_after c.text end
    → EndsAs end before → StatusFrom before c → IsMissing c.source job.file → (c.status ≡ 4) ⊎ IsPreempted c
missing_is_told Read.Whole before job c read fits from missing = absurd (not_whole job c read missing)
missing_is_told Read.CantRead before job c read fits from missing =
    elim from [ inl same ↦ inl (same ∙ ap status_of fits) | inr cut ↦ inr (inr (cut.0, inr cut.1)) ]
missing_is_told Read.NoMemory before job c read fits from missing =
    elim from [ inl same ↦ inr (inl (same ∙ ap status_of fits)) | inr cut ↦ inr (inr (cut.0, inr cut.1)) ]

-- where a call of the source failed, the reading ended as one that can't read
failed_is_told : (end : ReadEnd) (before : Exit) (job : Job) (c : CommandCall) → ReadsWhole job.file c.source c.source_after c.text end
    → EndsAs end before → StatusFrom before c → SourceFailed c → (c.status ≡ 4) ⊎ IsPreempted c
failed_is_told Read.Whole before job c read fits from failed = elim read.failed [ inl same ↦ absurd (omega (arith, same, failed)) | inr e ↦ absurd (let x = e in cc) ]
failed_is_told Read.CantRead before job c read fits from failed =
    elim from [ inl same ↦ inl (same ∙ ap status_of fits) | inr cut ↦ inr (inr (cut.0, inr cut.1)) ]
failed_is_told Read.NoMemory before job c read fits from failed = elim read.failed [ inl same ↦ absurd (omega (arith, same, failed)) | inr e ↦ absurd (let x = e in cc) ]

pub reads_text : (end : ReadEnd) (before : Exit) (job : Job) (c : CommandCall) → (Verifies job.mode → ⊥) → ReadsWhole job.file c.source c.source_after c.text end → EndsAs end before → StatusFrom before c
    → ReadsText job c
reads_text end before job c unverified read fits from = record {
  front = read.front;
  bound = read.bound;
  whole_at_zero = λ is. whole_at 0 end before job c read fits from is (λ e. omega arith) (λ e. omega arith) (λ e. omega arith);
  whole_at_one = λ is. whole_at 1 end before job c read fits from is (λ e. omega arith) (λ e. omega arith) (λ e. omega arith);
  whole_at_two = λ is. whole_at 2 end before job c read fits from is (λ e. omega arith) (λ e. omega arith) (λ e. omega arith);
  whole_at_seven = λ is. whole_at 7 end before job c read fits from is (λ e. omega arith) (λ e. omega arith) (λ e. omega arith);
  nothing_of_missing = read.nothing;
  four_only_where = λ is. elim (read.cause (cause_of_four end before job c read fits (is_cant_read before (not_five before 4 c from is (λ e. omega arith))))) [
    | inl missing ↦ inl missing
    | inr rose ↦ inr (inr rose)
  ];
  failed = failed_is_told end before job c read fits from;
  missing = missing_is_told end before job c read fits from;
  lacking = λ lack. absurd (unverified lack.mode);
  same_files = read.same;
}
