use Rattle.std.proofs.Common.{sym, ◌∙◌, ap}
use Rattle.ti_lang.specs.Program.Views.{program_of}
use Rattle.ti_blame.specs.Marks.{marks_of}
use Rattle.ti_infer.specs.Stripped.{stripped}
use Rattle.ti_rows_of_code.proofs.inferred.infer_program.Goals as goal

pub infer-requires-clause-stripped : goal.infer-requires-clause-stripped
infer-requires-clause-stripped c =
    ap stripped c.stripped-program.ensures ∙ c.stripped_once.ensures (program_of c.in_ok-read.read.parts) ∙ sym c.stripped-program.ensures

pub marked-requires-clause-stripped : goal.marked-requires-clause-stripped
marked-requires-clause-stripped c =
    ap stripped c.stripped-program.ensures ∙ c.stripped_once.ensures (program_of c.in_ok-read.read.parts) ∙ sym c.stripped-program.ensures

pub marked-requires-clause-main : goal.marked-requires-clause-main
marked-requires-clause-main c =
    c.marked_is_numbered.ensures.main (program_of c.stripped-program.result.parts) (marks_of c.in_ok-marking.marking) c.stripped-program.result.numbered
    c.in_ok-marking.ensures.accepted.types
