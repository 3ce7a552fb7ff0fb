use Rattle.std.proofs.Common.{◌≡◌, reverse, ap, ◌∙◌}
use Rattle.ti_lang.specs.Program.Views.{program_of, expression_of}
use Rattle.ti_lang.specs.Mirrors.ListedDims.{dims_in}
use Rattle.ti_lang.specs.Typing.TextTypes.{type_at}
use Rattle.ti_eval.specs.Envs.{env_of}
use Rattle.ti_slice.proofs.typed.type_here.Goals as goal

pub returns : goal.returns
returns c =
    let dims : dims_in (reverse c.deref.result.now) ≡ (env_of c.args.env.now).dims =
    ap (λ xs. dims_in (reverse xs)) c.deref.ensures.value ∙ c.in_ok-dims.ensures in
    c.syntactic_type_with.ensures ∙ (λ i. type_at (program_of c.args.env.now.program.now) (c.class_of_this.ensures i) (dims i) (expression_of c.args.expr.now))
