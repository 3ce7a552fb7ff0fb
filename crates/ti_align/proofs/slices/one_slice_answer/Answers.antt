use Rattle.ti_lang.specs.Program.Views.{program_of}
use Rattle.ti_align.proofs.Alignment.Checked.{checked_fine}
use Rattle.ti_align.proofs.SliceAlone.OneAnswer.{one_answer}
use Rattle.ti_align.proofs.SliceAlone.SomeAnswer.{some_answer}
use Rattle.ti_align.proofs.slices.one_slice_answer.Goals as goal

pub returns-clause-some : goal.returns-clause-some
returns-clause-some c procs fuel outcomes =
    let p = program_of c.args.checked.now.program.parts in
    some_answer (record { program = p; procs = procs; fuel = fuel }) (checked_fine p (record { numbered = c.args.checked.now.program.numbered; unbroken = c.args.checked.now.unbroken })) outcomes

pub returns-clause-one : goal.returns-clause-one
returns-clause-one c = one_answer
