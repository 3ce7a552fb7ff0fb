use Rattle.std.proofs.Common.{◌≡◌, ◌+◌, List, [], ◌∷◌, ◌++◌, length, sym, ap, ◌∙◌, arith, length-append}
use Rattle.ti_base.specs.declared.entry.Entry.{Entry}
use Rattle.ti_watch.specs.Reports.{entry_text, trace_text}
use Rattle.ti_watch.proofs.LinesMore.{trace_more}
use Rattle.ti_watch.proofs.trace.TraceWatchWatch.see.Goals as goal

pub invariant_of-self-2 : goal.invariant_of-self-2
invariant_of-self-2 c =
    let told = c.self.inside.told.entries in
    let e = c.args.entry.now in
    let more = c.and-self-inside.ensures in
    let lines : c.extend_from_slice.new.self.items ≡ trace_text (told ++ e ∷ []) =
    c.in_ok-extend_from_slice.ensures.items
    ∙ ap (λ line. c.self.inside.lines.items ++ line) (c.as_slice.ensures ∙ c.entry_line.ensures)
    ∙ ap (λ lines. lines ++ entry_text c.self.inside.count e) c.self.invariant.1
    ∙ ap (λ n. trace_text told ++ entry_text n e) c.self.invariant.0
    ∙ sym (trace_more told e) in
    (omega (arith, c.self.invariant.0, length-append told (e ∷ []), ap (λ (es : List Entry). length es) more), lines ∙ ap trace_text (sym more))
