use Rattle.std.proofs.Common.{List, map, reverse, sym, ap, ◌∙◌}
use Rattle.ti_lang.specs.declared.program.exprs.Expr.{Expr}
use Rattle.ti_lang.specs.declared.program.exprs.Range.{Range}
use Rattle.ti_lang.specs.Program.Types as t
use Rattle.ti_lang.specs.Program.Expressions.{numbered_exps, numbered_ranges}
use Rattle.ti_lang.specs.Program.Views.{program_of, expression_of, bound_of}
use Rattle.ti_lang.specs.Mirrors.ListedDims.{dims_in}
use Rattle.ti_lang.specs.Typing.TextTypes.{how_many, dims_of_ranges, type_at}
use Rattle.ti_lang.proofs.ProgramBridges.{seen_numbered_point, seen_numbered_rect}
use Rattle.ti_lang.proofs.RangeDims.{many_ranges}
use Rattle.ti_lang.proofs.typing.text.+text.Goals as goal

pub dims_of_ranges-returns-else-ranges-eq1 : goal.dims_of_ranges-returns-else-ranges-eq1
dims_of_ranges-returns-else-ranges-eq1 t c = sym (many_ranges (program_of c.args.program.now) c.args.this (dims_in (reverse c.args.dims.now)) c.args.ranges.now c.if-ranges-eq1.false)

pub syntactic_type_with-returns-in-Rect : goal.syntactic_type_with-returns-in-Rect
syntactic_type_with-returns-in-Rect f c =
    ap t.Rc (c.dims_of_ranges.ensures ∙ ap (λ (rs : List Range). dims_of_ranges (program_of c.args.program.now) c.args.this
    (dims_in (reverse c.args.dims.now)) (numbered_ranges (map bound_of rs))) c.deref-in-Rect.ensures.value)
    ∙ ap (type_at (program_of c.args.program.now) c.args.this (dims_in (reverse c.args.dims.now))) (sym (seen_numbered_rect c.args.expr.now c.in-Rect.field-0 c.in-Rect.ranges c.in-Rect.is))

pub syntactic_type_with-returns-in-Point : goal.syntactic_type_with-returns-in-Point
syntactic_type_with-returns-in-Point f c =
    ap t.Pt (c.how_many.ensures ∙ ap (λ (xs : List Expr). how_many (numbered_exps (map expression_of xs))) c.deref.ensures.value)
    ∙ ap (type_at (program_of c.args.program.now) c.args.this (dims_in (reverse c.args.dims.now))) (sym (seen_numbered_point c.args.expr.now c.in-Point.field-0 c.in-Point.parts c.in-Point.is))
