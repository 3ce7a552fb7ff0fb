-- What contracts see of a process of code after the entries of a run.
use Rattle.std.specs.Prelude.{ℕ, false, List}
use Rattle.ti_base.specs.declared.entry.Entry.{Entry}
use Rattle.ti_lang.specs.Meaning.Processes.{RunConfig}
use Rattle.ti_lang.specs.Meaning.Histories.{answers_of}
use Rattle.ti_code.specs.Programs.{Code}
use Rattle.ti_machine.specs.ProcView.{ProcView}

-- process i of the code, after the answers of its entries other than an end and a fault
abbrev pub proc_view_after : Code → RunConfig → List Entry → ℕ → ProcView
proc_view_after code s es i = record { code = code; procs = s.procs; fuel = s.fuel; number = i; answers = answers_of i es; asks = false }
