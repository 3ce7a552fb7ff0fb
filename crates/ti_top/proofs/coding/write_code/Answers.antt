use Rattle.ti_lang.specs.Program.Views.{program_of}
use Rattle.ti_top.proofs.CodeWritten.{Listed, wrote_whole, wrote_cut}
use Rattle.ti_top.proofs.coding.write_code.Goals.{in-Ok, in-Err}
use Rattle.ti_top.proofs.coding.write_code.Goals as goal

pub returns-clause-says : goal.returns-clause-says
returns-clause-says g c =
    let program = program_of c.args.checked.now.program.parts in
    let code = c.in_ok-code.code in
    let text = c.in_ok-text.text.items in
    let listed : Listed program code text = record { is = c.in_ok-code.ensures.code; follows = c.in_ok-code.ensures.follows; spelled = c.in_ok-text.ensures } in
    elim c.match-write_text.branch [
      | in-Ok w ↦ rw w.ending-is (wrote_whole program code text _ _ _ listed (rw c.deref.ensures.value at w.in-Ok.ensures.written))
      | in-Err w ↦ rw w.ending-is (wrote_cut program code text _ _ _ listed (rw c.deref.ensures.value at w.in-Err.ensures.written))
    ]
