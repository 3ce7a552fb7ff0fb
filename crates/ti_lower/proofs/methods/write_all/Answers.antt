use Rattle.std.proofs.Common.{◌∙◌, ◌++◌, ◌∷◌, [], ap}
use Rattle.ti_lang.specs.Program.Views.{program_of, numbered_method_of}
use Rattle.ti_code.specs.declared.instr.Instr.TheVariants as i
use Rattle.ti_lower.proofs.Drafts.{written_twice}
use Rattle.ti_lower.proofs.methods.write_all.Goals as goal

pub returns : goal.returns
returns c =
    c.in_ok-push.ensures.items ∙ ap (λ is. is ++ i.Return ∷ []) c.in_ok-code.ensures
    ∙ written_twice (program_of c.args.program.now) (numbered_method_of c.args.method.now)
