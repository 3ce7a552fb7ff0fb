use Rattle.ti_lang.specs.Program.Views.{program_of}
use Rattle.ti_align.proofs.Regions.Ended as ended
use Rattle.ti_align.proofs.Owners.Owned as owned
use Rattle.ti_align.proofs.Regions.Dangling as dangling
use Rattle.ti_align.proofs.laws.aligned.Goals as goal

pub returns-clause-aligned : goal.returns-clause-aligned
returns-clause-aligned c =
    ended.aligned (program_of c.args.checked.now.program.parts) (record { numbered = c.args.checked.now.program.numbered; unbroken = c.args.checked.now.unbroken })
    c.args.checked.now.literals

pub returns-clause-owners : goal.returns-clause-owners
returns-clause-owners c =
    owned.owners_kept (program_of c.args.checked.now.program.parts) (record { numbered = c.args.checked.now.program.numbered; unbroken = c.args.checked.now.unbroken })
    c.args.checked.now.literals

pub returns-clause-regions : goal.returns-clause-regions
returns-clause-regions c =
    dangling.nothing_dangles (program_of c.args.checked.now.program.parts) (record { numbered = c.args.checked.now.program.numbered; unbroken = c.args.checked.now.unbroken })
    c.args.checked.now.literals
