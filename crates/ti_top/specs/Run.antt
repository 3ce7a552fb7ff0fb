-- What the modes do, and the run of a command: its program, number of processes and fuel.
use Rattle.std.specs.Prelude.{◌≡◌, ◌++◌, ◌∷◌, [], List}
use Rattle.ti_base.specs.declared.action.Action.TheVariants as act
use Rattle.ti_base.specs.declared.entry.Answer.TheVariants.{Done}
use Rattle.ti_base.specs.declared.entry.Entry.{Entry}
use Rattle.ti_lang.specs.Program.Classes.{ProgramView}
use Rattle.ti_lang.specs.Meaning.Processes.{RunConfig}
use Rattle.ti_words.specs.declared.job.Job.{Job}
use Rattle.ti_words.specs.declared.job.Mode.{Mode}
use Rattle.ti_words.specs.declared.job.Mode.TheVariants.{Run, Check, Code, Gen, Verify, Infer}
use Rattle.ti_top.specs.declared.fault.Fault.{Fault}

-- these modes name a file and read it
abbrev pub HasFile : Mode → Type 0
HasFile Gen = ⊥
HasFile _ = Unit {0}

-- these modes run the text's program
abbrev pub RunsProgram : Mode → Type 0
RunsProgram Run = Unit {0}
RunsProgram Gen = Unit {0}
RunsProgram _ = ⊥

-- these modes make the program's code
abbrev pub HasCode : Mode → Type 0
HasCode Check = ⊥
HasCode Verify = ⊥
HasCode Infer = ⊥
HasCode _ = Unit {0}

-- this mode names a trace, and checks it against the text's program
abbrev pub Verifies : Mode → Type 0
Verifies Verify = Unit {0}
Verifies _ = ⊥

-- this mode ignores the marks of single values in the text, and infers them
abbrev pub Infers : Mode → Type 0
Infers Infer = Unit {0}
Infers _ = ⊥

-- these modes have a history: that of the run, or that of the trace
abbrev pub HasHistory : Mode → Type 0
HasHistory Check = ⊥
HasHistory Code = ⊥
HasHistory Infer = ⊥
HasHistory _ = Unit {0}

-- the program, with the number of processes and the fuel that the job gives
abbrev pub run_of : ProgramView → Job → RunConfig
run_of program job = record { program = program; procs = job.procs; fuel = job.fuel }

-- the entry of a fault
abbrev pub fault_entry : Fault → Entry
fault_entry fault = record { proc = fault.proc; place = fault.place; act = act.Fault fault.kind; answer = Done }

-- the last of these entries is the fault
pub record EndsWithFault (es : List Entry) (fault : Fault) : Type 0 where
  pub before : List Entry
  pub last : es ≡ before ++ fault_entry fault ∷ []
