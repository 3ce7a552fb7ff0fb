use Rattle.std.proofs.Common.{◌≡◌, ◌∙◌}
use Rattle.std.proofs.lemmas.Result.{on_ok_weaker}
use Rattle.ti_lang.specs.Program.Views.{program_of, expression_of}
use Rattle.ti_lower_expr.specs.Contents.{names_in}
use Rattle.ti_lower_expr.specs.Mirrors.Sites.{walked_in}
use Rattle.ti_lower_expr.proofs.Walked.{walked_is}
use Rattle.ti_lower_expr.proofs.entry.lower_value.Goals as goal

pub returns-clause-code : goal.returns-clause-code
returns-clause-code c =
    let s = c.args.site.now in
    let x = expression_of c.args.expr.now in
    let o = c.args.out.now.items in
    on_ok_weaker c.walk.result
    (λ (h : c.walk.new.out.items ≡ walked_in s x o).
    h ∙ walked_is (program_of s.program.now) s.this (names_in s.slots.now) x o)
    c.walk.ensures.code
