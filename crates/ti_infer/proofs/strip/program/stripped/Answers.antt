use Rattle.std.proofs.Common.{subst, sym}
use Rattle.ti_lang.specs.Program.Classes.{ProgramView}
use Rattle.ti_lang.specs.Numbering.{IsNumbered}
use Rattle.ti_infer.proofs.Stripping.{stripped_numbered}
use Rattle.ti_infer.proofs.strip.program.stripped.Goals as goal

pub of-requires : goal.of-requires
of-requires c = subst (λ (p : ProgramView). ∥ IsNumbered p ∥₁) (sym c.strip_parts.ensures) (stripped_numbered _ c.args.program.numbered)
