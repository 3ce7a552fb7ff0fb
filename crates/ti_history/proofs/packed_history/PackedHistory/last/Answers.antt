use Rattle.std.proofs.Common.{◌≡◌, ◌-◌, List, length, slice_get, Some, ap, sym, ◌∙◌}
use Rattle.ti_base.specs.declared.entry.Entry.{Entry}
use Rattle.ti_history.specs.declared.counts.Counts.{Counts}
use Rattle.ti_history.specs.declared.head.Head.{Head}
use Rattle.ti_history.specs.Recorded.{Recorded}
use Rattle.ti_history.specs.Mirrors.Held.{lists_in}
use Rattle.ti_history.specs.Mirrors.Reading.{entry_of, lengths, without_entry, without_first}
use Rattle.ti_history.proofs.Packed.{end_shown}
use Rattle.ti_history.proofs.packed_history.PackedHistory.last.Goals as goal

pub returns : goal.returns
returns c =
    let h = c.in_ok-head.head.now in
    let lists = lists_in c.self.inside.columns in
    let heads = c.self.inside.heads.items in
    let at : slice_get heads (length heads - 1) ≡ Some h =
    sym (c.in_ok-head.ensures.value ∙ ap (λ (hs : List Head). slice_get hs (length hs - 1)) c.deref.ensures.value) in
    let read : c.entry.result ≡ entry_of h (without_first (without_entry (lengths lists) h) lists) =
    c.entry.ensures ∙ ap (entry_of h) (c.rest.ensures ∙ ap (λ (n : Counts). without_first n lists)
    (c.without-before.ensures ∙ ap (λ (n : Counts). without_entry n h) c.lengths.ensures)) in
    ap (λ (e : Entry). Some e) read ∙ end_shown heads lists c.self.invariant h at
    ∙ ap (λ (r : Recorded). slice_get r.items (length r.items - 1)) c.self.view_is
