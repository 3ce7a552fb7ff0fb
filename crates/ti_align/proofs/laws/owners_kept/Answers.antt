use Rattle.ti_lang.specs.Program.Views.{program_of}
use Rattle.ti_align.proofs.Owners.Owned as owned
use Rattle.ti_align.proofs.laws.owners_kept.Goals as goal

pub returns : goal.returns
returns c =
    owned.owners_kept (program_of c.args.checked.now.program.parts) (record { numbered = c.args.checked.now.program.numbered; unbroken = c.args.checked.now.unbroken })
    c.args.checked.now.literals
