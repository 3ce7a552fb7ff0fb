use Rattle.std.proofs.Common.{◌≡◌, List, take, drop, ap, ◌∙◌, subst, sym}
use Rattle.ti_history.specs.declared.counts.Counts.{Counts}
use Rattle.ti_history.specs.declared.head.Head.{Head}
use Rattle.ti_history.specs.Recorded.{Recorded}
use Rattle.ti_history.specs.Mirrors.Held.{lists_in}
use Rattle.ti_history.specs.Mirrors.Packing.{Lists}
use Rattle.ti_history.specs.Mirrors.Reading.{firsts, lengths, without_entries, entries_in, IsPacked}
use Rattle.ti_history.proofs.Packed.{cut_shown, cut_packed}
use Rattle.ti_history.proofs.packed_history.PackedHistory.truncate.Goals as goal

-- the columns afterwards
kept : (c : goal.After-truncate-2) → lists_in c.truncate-2.new.self ≡ firsts (without_entries (lengths (lists_in c.self.inside.columns)) (drop c.args.count c.self.inside.heads.items)) (lists_in c.self.inside.columns)
kept c =
    let lists = lists_in c.self.inside.columns in
    c.truncate-2.ensures
    ∙ ap (λ (n : Counts). firsts n lists)
    (c.without_all-kept.ensures ∙ ap (λ (n : Counts). without_entries n c.skipped-dropped.result.now) c.lengths.ensures
    ∙ ap (without_entries (lengths lists)) (c.skipped-dropped.ensures ∙ ap (drop c.args.count) c.deref.ensures.value))

pub invariant_of-self : goal.invariant_of-self
invariant_of-self c =
    let heads = c.self.inside.heads.items in
    let lists = lists_in c.self.inside.columns in
    let cut = firsts (without_entries (lengths lists) (drop c.args.count heads)) lists in
    subst (λ (x : Lists). IsPacked c.truncate.new.self.items x) (sym (kept c))
    (subst (λ (hs : List Head). IsPacked hs cut) (sym c.truncate.ensures.items)
    (cut_packed c.args.count heads lists c.self.invariant))

pub returns : goal.returns
returns c =
    let heads = c.self.inside.heads.items in
    let lists = lists_in c.self.inside.columns in
    (λ i. entries_in (c.truncate.ensures.items i) (kept c i))
    ∙ cut_shown c.args.count heads lists c.self.invariant
    ∙ ap (λ (r : Recorded). take c.args.count r.items) c.self.view_is
