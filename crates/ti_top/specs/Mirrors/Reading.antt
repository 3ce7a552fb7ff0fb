-- Nobody has to believe this: it mirrors code, and only contracts of private functions speak of it.
-- What reading a file whole leaves.
use Rattle.std.specs.Prelude.{◌≡◌, ◌⊎◌, ℕ, ◌≤◌, List, [], length, take}
use Rattle.ti_io.specs.Faults.{Rose}
use Rattle.ti_io.specs.Source.{SourceState, SameFiles, IsMissing, Holds}
use Rattle.ti_io.specs.Sink.{IsFront}
use Rattle.ti_top.specs.CommandCall.{most_read}
use Rattle.ti_top.specs.declared.reading.ReadEnd.{ReadEnd}
use Rattle.ti_top.specs.declared.reading.ReadEnd.TheVariants.{Whole, CantRead}

-- a file is found, and read in pieces until its end or until so many bytes are there
pub record ReadsWhole (name : List ℕ) (old new : SourceState) (text : List ℕ) (end : ReadEnd) : Type 0 where
  pub never_falls : old.faults ≤ new.faults
  pub same : SameFiles old new
  pub bound : length text ≤ most_read
  pub front : (bytes : List ℕ) → Holds old name bytes → IsFront text bytes
  pub whole : (bytes : List ℕ) → Holds old name bytes → end ≡ Whole → text ≡ take most_read bytes
  -- it can't be read only where the name is missing or a call failed, and a missing name can't be read
  pub cause : end ≡ CantRead → IsMissing old name ⊎ Rose old.faults new.faults
  pub missing : IsMissing old name → end ≡ CantRead
  -- no call failed, or the file can't be read
  pub failed : (new.faults ≡ old.faults) ⊎ (end ≡ CantRead)
  pub nothing : IsMissing old name → text ≡ []
