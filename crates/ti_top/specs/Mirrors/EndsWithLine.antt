-- Nobody has to believe this: it mirrors code, and only contracts of private functions speak of it.
-- How the line on err was written, and what became of the status.
use Rattle.std.specs.Prelude.{◌≡◌, ◌⊎◌, ℕ, ◌≤◌, true, List}
use Rattle.ti_io.specs.Faults.{Rose}
use Rattle.ti_io.specs.Sink.{SinkState, GrewBy, GrewByFront}
use Rattle.ti_top.specs.declared.exit.Exit.{Exit}
use Rattle.ti_top.specs.declared.exit.Exit.TheVariants.{Done}
use Rattle.ti_top.specs.Exit.{status_of, err_line}
use Rattle.ti_top.specs.Mirrors.Leaving.{HasNoFailure}

-- the line was written whole and flushed, and the status is that of the ending
pub record EndedWhole (ending : Exit) (file : List ℕ) (old new : SinkState) (status : ℕ) : Type 0 where
  pub same : status ≡ status_of ending
  pub nothing : ending ≡ Done → new ≡ old
  pub grew : old.tells ≡ true → GrewBy old new (err_line ending file)
  pub unfailed : HasNoFailure old new

-- writing the line failed, the status is 5, and a front of the line stands on err
pub record EndedCut (ending : Exit) (file : List ℕ) (old new : SinkState) (status : ℕ) : Type 0 where
  pub five : status ≡ 5
  pub not_done : ending ≡ Done → ⊥
  pub rose : Rose old.faults new.faults
  pub grew : old.tells ≡ true → GrewByFront old new (err_line ending file)

-- one or the other; err's count never falls
pub record EndsWithLine (ending : Exit) (file : List ℕ) (old new : SinkState) (status : ℕ) : Type 0 where
  pub never_falls : old.faults ≤ new.faults
  pub tells : new.tells ≡ old.tells
  pub written : EndedWhole ending file old new status ⊎ EndedCut ending file old new status
