use Rattle.ti_lang.specs.Program.Views.{program_of}
use Rattle.ti_lang.proofs.Copies.{had, same_parts}
use Rattle.ti_lang.proofs.program.classes.ProgramData.copy.Goals as goal

pub returns : goal.returns
returns c = had c.of.result _ _ (λ p is.
    same_parts (program_of p) c.args.self.now c.in_ok-classes.classes.items c.deref.result.now c.in_ok-methods.methods.items c.deref-2.result.now c.in_ok-names.names.items c.deref-3.result.now
    c.in_ok-literals.literals.items c.deref-4.result.now is c.deref.ensures.value c.deref-2.ensures.value c.deref-3.ensures.value c.deref-4.ensures.value
    c.in_ok-classes.ensures c.in_ok-methods.ensures c.in_ok-names.ensures c.in_ok-literals.ensures) c.of.ensures
