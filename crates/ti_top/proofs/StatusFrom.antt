-- The status of a call, from the ending that it had before its line on err was written.
use Rattle.std.proofs.Common.{◌≡◌, ◌⊎◌, inl, inr, ℕ, arith, refl, sym, ◌∙◌}
use Rattle.ti_top.specs.declared.fault.Fault.{Fault}
use Rattle.ti_top.specs.declared.exit.Exit.{Exit}
use Rattle.ti_top.specs.declared.exit.Exit.TheVariants.{Done, Refused, Faulted, NoCommand, CantRead, CantWrite, NoMemory, NoRun}
use Rattle.ti_top.specs.Exit.{status_of}
use Rattle.ti_top.specs.Mirrors.EndsWithLine.{EndsWithLine}
use Rattle.ti_top.specs.CommandCall.{CommandCall, named_file, ErrRose}

-- the status is that of the ending, or 5 where err failed, on which a line was to be written
abbrev pub StatusFrom : Exit → CommandCall → Type 0
StatusFrom before c = (c.status ≡ status_of before) ⊎ ((c.status ≡ 5) × ErrRose c × (before ≡ Done → ⊥))

pub status_from : (before : Exit) (c : CommandCall) → EndsWithLine before (named_file c) c.err c.err_after c.status → StatusFrom before c
status_from before c ended = elim ended.written [ inl whole ↦ inl whole.same | inr cut ↦ inr (cut.five, cut.rose, cut.not_done) ]

-- a status that isn't 5 is that of the ending
pub not_five : (before : Exit) (n : ℕ) (c : CommandCall) → StatusFrom before c → c.status ≡ n → (n ≡ 5 → ⊥) → status_of before ≡ n
not_five before n c (inl same) is other = sym same ∙ is
not_five before n c (inr cut) is other = absurd (other (sym is ∙ cut.0))

-- a status is that of its ending alone
pub is_done : (ending : Exit) → status_of ending ≡ 0 → ending ≡ Done
is_done Done e = refl
is_done (Refused refusal) e = absurd (omega arith)
is_done (Faulted fault) e = absurd (omega arith)
is_done NoCommand e = absurd (omega arith)
is_done CantRead e = absurd (omega arith)
is_done CantWrite e = absurd (omega arith)
is_done NoMemory e = absurd (omega arith)
is_done (NoRun line) e = absurd (omega arith)

pub is_no_command : (ending : Exit) → status_of ending ≡ 3 → ending ≡ NoCommand
is_no_command Done e = absurd (omega arith)
is_no_command (Refused refusal) e = absurd (omega arith)
is_no_command (Faulted fault) e = absurd (omega arith)
is_no_command NoCommand e = refl
is_no_command CantRead e = absurd (omega arith)
is_no_command CantWrite e = absurd (omega arith)
is_no_command NoMemory e = absurd (omega arith)
is_no_command (NoRun line) e = absurd (omega arith)

pub is_cant_read : (ending : Exit) → status_of ending ≡ 4 → ending ≡ CantRead
is_cant_read Done e = absurd (omega arith)
is_cant_read (Refused refusal) e = absurd (omega arith)
is_cant_read (Faulted fault) e = absurd (omega arith)
is_cant_read NoCommand e = absurd (omega arith)
is_cant_read CantRead e = refl
is_cant_read CantWrite e = absurd (omega arith)
is_cant_read NoMemory e = absurd (omega arith)
is_cant_read (NoRun line) e = absurd (omega arith)

pub is_cant_write : (ending : Exit) → status_of ending ≡ 5 → ending ≡ CantWrite
is_cant_write Done e = absurd (omega arith)
is_cant_write (Refused refusal) e = absurd (omega arith)
is_cant_write (Faulted fault) e = absurd (omega arith)
is_cant_write NoCommand e = absurd (omega arith)
is_cant_write CantRead e = absurd (omega arith)
is_cant_write CantWrite e = refl
is_cant_write NoMemory e = absurd (omega arith)
is_cant_write (NoRun line) e = absurd (omega arith)

pub is_faulted : (ending : Exit) → status_of ending ≡ 2 → (fault : Fault) × (ending ≡ Faulted fault)
is_faulted Done e = absurd (omega arith)
is_faulted (Refused refusal) e = absurd (omega arith)
is_faulted (Faulted fault) e = (fault, refl)
is_faulted NoCommand e = absurd (omega arith)
is_faulted CantRead e = absurd (omega arith)
is_faulted CantWrite e = absurd (omega arith)
is_faulted NoMemory e = absurd (omega arith)
is_faulted (NoRun line) e = absurd (omega arith)

pub is_no_memory : (ending : Exit) → status_of ending ≡ 6 → ending ≡ NoMemory
is_no_memory Done e = absurd (omega arith)
is_no_memory (Refused refusal) e = absurd (omega arith)
is_no_memory (Faulted fault) e = absurd (omega arith)
is_no_memory NoCommand e = absurd (omega arith)
is_no_memory CantRead e = absurd (omega arith)
is_no_memory CantWrite e = absurd (omega arith)
is_no_memory NoMemory e = refl
is_no_memory (NoRun line) e = absurd (omega arith)

pub is_no_run : (ending : Exit) → status_of ending ≡ 7 → (line : ℕ) × (ending ≡ NoRun line)
is_no_run Done e = absurd (omega arith)
is_no_run (Refused refusal) e = absurd (omega arith)
is_no_run (Faulted fault) e = absurd (omega arith)
is_no_run NoCommand e = absurd (omega arith)
is_no_run CantRead e = absurd (omega arith)
is_no_run CantWrite e = absurd (omega arith)
is_no_run NoMemory e = absurd (omega arith)
is_no_run (NoRun line) e = (line, refl)
