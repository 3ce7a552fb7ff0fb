-- What processes have in common: the single part of a process.
use Rattle.std.specs.Prelude.{Bool, false, List, map, filter}
use Rattle.ti_lang.specs.Program.Types.{Declaration, Typed, Foreach}
use Rattle.ti_lang.specs.Program.Classes.{NumberedMethod}
use Rattle.ti_lang.specs.Meaning.Processes.{Variable, Frame, Process}
use Rattle.ti_lang.specs.Meaning.Turns.{Turn, turns_at}

-- a variable is declared single; a foreach variable isn't, as its point is part of `turns`
abbrev pub is_single_declared : Declaration → Bool
is_single_declared (Typed is_single type) = is_single
is_single_declared Foreach = false

-- the single variables with their values
abbrev pub singles : List Variable → List Variable
singles variables = filter (λ (w : Variable). is_single_declared w.named.declared) variables

-- what a call in progress has in common with the corresponding calls of other processes
pub record SingleFrame : Type 0 where
  pub method : NumberedMethod
  -- the single variables in scope, the newest first
  pub variables : List Variable
  -- the current points of all foreach loops around the pending work, the innermost first
  pub turns : List Turn

-- the single part of a call in progress
abbrev pub single_frame : Frame → SingleFrame
single_frame f = record { method = f.method; variables = singles f.variables; turns = turns_at f.left }

-- the single part of a process: that of each call in progress, the innermost first
abbrev pub single_part : Process → List SingleFrame
single_part p = map single_frame p.frames
