use Rattle.std.proofs.Common.{◌≡◌, ◌∙◌, map}
use Rattle.std.proofs.lemmas.Result.{on_ok_weaker}
use Rattle.ti_lang.specs.Program.Expressions.{rect}
use Rattle.ti_lang.specs.Program.Views.{program_of, bound_of}
use Rattle.ti_lower_expr.specs.Contents.{names_in}
use Rattle.ti_lower_expr.specs.Mirrors.Sites.{walked_in}
use Rattle.ti_lower_expr.proofs.Walked.{walked_is}
use Rattle.ti_lower_expr.proofs.entry.lower_rect.Goals as goal

pub returns-clause-code : goal.returns-clause-code
returns-clause-code c =
    let s = c.args.site.now in
    let x = rect c.args.place (map bound_of c.args.ranges.now) in
    on_ok_weaker c.walk_rect.result
    (λ (h : c.walk_rect.new.out.items ≡ walked_in s x c.args.out.now.items). h ∙ walked_is (program_of s.program.now) s.this (names_in s.slots.now) x c.args.out.now.items)
    c.walk_rect.ensures.code
