use Rattle.std.proofs.Common.{◌≡◌, ◌+◌, drop, get_or, ap, sym, ◌∙◌}
use Rattle.ti_lang.specs.Mirrors.Indices.{with_firsts, numbered_fields, field_rows}
use Rattle.ti_lang.proofs.Indices.{next_class_row}
use Rattle.ti_lang.proofs.program.index.first_fields.Goals as goal

pub loop-i-preserved : goal.loop-i-preserved
loop-i-preserved c =
    let classes = c.args.classes.now in
    let i = c.loop-i.i in
    let row : c.deref.result.now ≡ (get_or classes i c.index-classes-i.result).fields.items = c.deref.ensures.value in
    ap (λ t. with_firsts t (field_rows (i + 1) (drop (i + 1) classes))) (c.in_ok-add_fields.ensures ∙ ap (λ l. with_firsts c.loop-i.found (numbered_fields i 0 l)) row)
    ∙ sym (next_class_row c.loop-i.found i classes c.index-classes-i.result c.loop-i-test.true) ∙ c.loop-i.invariant
