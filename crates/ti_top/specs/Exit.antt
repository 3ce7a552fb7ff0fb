-- The statuses of a call, and the lines on standard error.
use Rattle.std.specs.Prelude.{ℕ, List, [], ◌++◌, codes, decimal}
use Rattle.ti_base.specs.FaultNames.{name_of}
use Rattle.ti_rules.specs.declared.refusal.Refusal.{Refusal}
use Rattle.ti_rules.specs.Rules.{code_of, text_of}
use Rattle.ti_top.specs.declared.fault.Fault.{Fault}
use Rattle.ti_top.specs.declared.exit.Exit.{Exit}
use Rattle.ti_top.specs.declared.exit.Exit.TheVariants.{Done, Refused, Faulted, NoCommand, CantRead, CantWrite, NoMemory, NoRun}

-- the status of an ending
abbrev pub status_of : Exit → ℕ
status_of Done = 0
status_of (Refused refusal) = 1
status_of (Faulted fault) = 2
status_of NoCommand = 3
status_of CantRead = 4
status_of CantWrite = 5
status_of NoMemory = 6
status_of (NoRun line) = 7

-- the line of a refused text, after the name of the file
abbrev pub refused_as : Refusal → List ℕ
refused_as refusal =
    codes ":" ++ decimal refusal.place.line ++ codes ":" ++ decimal refusal.place.col ++ codes ": " ++ code_of refusal.rule ++ codes " "
    ++ text_of refusal.rule ++ codes "\n"

-- the line of a fault
abbrev pub fault_line : Fault → List ℕ
fault_line fault =
    codes "titan: fault " ++ name_of fault.kind ++ codes " in process " ++ decimal fault.proc ++ codes " at " ++ decimal fault.place.line
    ++ codes ":" ++ decimal fault.place.col ++ codes "\n"

-- the line of a wrong trace
abbrev pub no_run_line : ℕ → List ℕ
no_run_line line = codes "titan: the trace is no run at line " ++ decimal line ++ codes "\n"

-- the line on standard error for an ending, with this file name; a command that succeeded has none
abbrev pub err_line : Exit → List ℕ → List ℕ
err_line Done file = []
err_line (Refused refusal) file = file ++ refused_as refusal
err_line (Faulted fault) file = fault_line fault
err_line NoCommand file = codes "titan: the words are no command\n"
err_line CantRead file = codes "titan: the source can't be read\n"
err_line CantWrite file = codes "titan: the output can't be written\n"
err_line NoMemory file = codes "titan: no memory\n"
err_line (NoRun line) file = no_run_line line
