use Rattle.std.proofs.Common.{subst, sym}
use Rattle.ti_lang.specs.Program.Classes.{ProgramView}
use Rattle.ti_lang.specs.Numbering.{IsNumbered}
use Rattle.ti_infer.proofs.MarkedNumbers.{marked_numbered}
use Rattle.ti_infer.proofs.annotate.program.marked.Goals as goal

pub of-requires : goal.of-requires
of-requires c = subst (λ (p : ProgramView). ∥ IsNumbered p ∥₁) (sym c.in_ok-parts.ensures) (marked_numbered _ _ c.args.program.numbered c.requires.stripped c.requires.main)
