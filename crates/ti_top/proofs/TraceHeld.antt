-- From what became of a trace to what became of the text.
use Rattle.std.proofs.Common.{ℕ, List}
use Rattle.ti_base.specs.declared.entry.Entry.{Entry}
use Rattle.ti_io.specs.Source.{SourceState}
use Rattle.ti_lang.specs.Program.Classes.{ProgramView}
use Rattle.ti_words.specs.declared.job.Job.{Job}
use Rattle.ti_top.specs.declared.exit.Exit.{Exit}
use Rattle.ti_top.specs.declared.exit.Exit.TheVariants.{Done, Refused, Faulted, NoCommand, CantRead, CantWrite, NoMemory, NoRun}
use Rattle.ti_top.specs.Run.{run_of}
use Rattle.ti_top.specs.Mirrors.Compiling.{IsCompiled}
use Rattle.ti_top.specs.Mirrors.Verifying.{TraceSays, HeldSays}

-- the trace was held against the program of the text
pub held_text : (ends : Exit) (p : ProgramView) (job : Job) (text : List ℕ) (old new : SourceState) (es : List Entry) → IsCompiled text p → TraceSays ends (run_of p job) job.against old new es
    → HeldSays ends job text old new es
held_text Done p job text old new es compiled says = record { program = p; compiled = compiled; says = says }
held_text (NoRun line) p job text old new es compiled says = record { program = p; compiled = compiled; says = says }
held_text CantRead p job text old new es compiled says = record { program = p; compiled = compiled; says = says }
held_text NoMemory p job text old new es compiled says = says
held_text (Refused refusal) p job text old new es compiled says = absurd says
held_text (Faulted fault) p job text old new es compiled says = absurd says
held_text NoCommand p job text old new es compiled says = absurd says
held_text CantWrite p job text old new es compiled says = absurd says
