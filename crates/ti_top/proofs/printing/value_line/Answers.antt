use Rattle.std.proofs.Common.{◌++◌, Some, ap, sym, ◌∙◌}
use Rattle.ti_lang.specs.Meaning.Lines.{printed_text}
use Rattle.ti_watch.specs.Texts.{point_text}
use Rattle.ti_top.proofs.PointTexts.{point_same}
use Rattle.ti_top.proofs.printing.value_line.Goals as goal

pub returns-in-Pt-clause-text : goal.returns-in-Pt-clause-text
returns-in-Pt-clause-text c =
    let p = c.in-Pt.p in
    c.point.ensures.text ∙ ap (λ line. line ++ point_text p) c.new-line.ensures ∙ point_same p ∙ ap printed_text (sym (c.in-Some.is ∙ ap Some c.in-Pt.is))
