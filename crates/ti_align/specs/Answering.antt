-- That the answers in a run fit the actions that processes performed.
use Rattle.std.specs.Prelude.{◌≡◌, true, List, ◌∷◌, ◌++◌}
use Rattle.ti_base.specs.declared.entry.Entry.{Entry}
use Rattle.ti_lang.specs.Meaning.Answers.{FitsAction}
use Rattle.ti_lang.specs.Meaning.Histories.{is_answered}
use Rattle.ti_lang.specs.Meaning.Processes.{RunConfig, Process}
use Rattle.ti_lang.specs.Meaning.Runs.{ProcAfter}

-- the answer in each entry of an action fits the action that the entry's process performs after the entries before it
abbrev pub AnswersFit : RunConfig → List Entry → Type 0
AnswersFit s es = (before rest : List Entry) (e : Entry) (p : Process) → es ≡ before ++ e ∷ rest → ProcAfter s before e.proc p → is_answered e
    ≡ true → FitsAction p e.answer
