use Rattle.std.proofs.Common.{◌≡◌, ◌++◌, ap, ◌∙◌, vec_len}
use Rattle.ti_watch.specs.Mirrors.{kind_count_text}
use Rattle.ti_watch.specs.Reports.{number_text}
use Rattle.ti_watch.proofs.Fronts.{added_front}
use Rattle.ti_watch.proofs.LinesMore.{two_parts}
use Rattle.ti_watch.proofs.stats.add_count.Goals as goal

pub returns-in_err-extend_from_slice-2-clause-kept : goal.returns-in_err-extend_from_slice-2-clause-kept
returns-in_err-extend_from_slice-2-clause-kept c =
    let out = c.args.out.now in
    added_front out.items c.extend_from_slice-2.new.self.items c.as_bytes.result.now (vec_len out) out.ok.0
    (c.in_err-extend_from_slice-2.ensures.items ∙ c.in_ok-extend_from_slice.ensures.items)

pub returns : goal.returns
returns c =
    let out = c.args.out.now in
    let one = c.extend_from_slice.new.self.items in
    let two = c.extend_from_slice-2.new.self.items in
    let added : two ≡ out.items ++ kind_count_text c.args.kinds.now c.args.word.now =
    two_parts out.items one two c.args.word.now _
    (c.in_ok-extend_from_slice-2.ensures.items ∙ ap (λ line. one ++ line) (c.as_slice.ensures ∙ c.number_line.ensures ∙ ap number_text c.count_of.ensures))
    (c.in_ok-extend_from_slice.ensures.items ∙ ap (λ word. out.items ++ word) c.as_bytes.ensures.value) in
    record { text = added; kept = added_front out.items two _ (vec_len out) out.ok.0 added }
