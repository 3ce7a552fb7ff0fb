use Rattle.std.proofs.Common.{◌≡◌, ◌∙◌, ◌++◌, ap, sym, length, map}
use Rattle.std.proofs.lemmas.Result.{on_ok_weaker}
use Rattle.ti_lang.specs.Program.Expressions.{rect}
use Rattle.ti_lang.specs.Program.Views.{program_of, bound_of}
use Rattle.ti_lower_expr.specs.Contents.{names_in}
use Rattle.ti_lower_expr.specs.Coding.{code_of}
use Rattle.ti_lower.proofs.Hiding.{code_hidden}
use Rattle.ti_lower.proofs.values.rect.Goals as goal

pub returns : goal.returns
returns c =
    let s = c.args.context.now.site in
    let o = c.args.out.now.items in
    let x = rect c.args.place (map bound_of c.args.ranges.now) in
    on_ok_weaker c.lower_rect.result
    (λ (h : c.lower_rect.new.out.items ≡ o ++ code_of (program_of s.program.now) s.this (names_in s.slots.now) x (length o)).
    h ∙ ap (λ z. o ++ z) (sym (code_hidden (program_of s.program.now) s.this c.args.context.now.temporaries (names_in s.slots.now) x (length o))))
    c.lower_rect.ensures.code
