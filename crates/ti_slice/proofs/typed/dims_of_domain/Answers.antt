use Rattle.std.proofs.Common.{◌≡◌, reverse, sym, ap, ◌∙◌}
use Rattle.ti_lang.specs.Program.Views.{program_of, expression_of, statement_of}
use Rattle.ti_lang.specs.Typing.Kinds.{dim_of_type}
use Rattle.ti_lang.specs.Mirrors.ListedDims.{dims_in}
use Rattle.ti_lang.specs.Typing.TextTypes.{type_at}
use Rattle.ti_eval.specs.Frames.{domain_in}
use Rattle.ti_moves.specs.Receiving.{stm_seen}
use Rattle.ti_slice.proofs.typed.dims_of_domain.Goals as goal

pub returns-in-Foreach : goal.returns-in-Foreach
returns-in-Foreach c =
    let domain : expression_of c.in-Foreach.domain ≡ domain_in (stm_seen c.args.stmt) =
    sym (ap (λ y. domain_in (stm_seen y)) c.in-Some.is ∙ ap (λ s. domain_in (statement_of s)) c.in-Foreach.is) in
    c.dims_of.ensures
    ∙ ap dim_of_type (c.syntactic_type_with.ensures ∙ (λ i. type_at (program_of c.args.env.now.program.now) (c.class_of_this.ensures i) (dims_in (reverse c.args.dims.now)) (domain i)))
