use Rattle.std.proofs.Common.{◌≡◌, ◌++◌, length, codes, ap, ◌∙◌, vec_len}
use Rattle.std.specs.List.{flat_map}
use Rattle.std.proofs.lemmas.Result.{on_ok_weaker}
use Rattle.ti_watch.specs.Mirrors.{kind_count_text, kind_stats_text}
use Rattle.ti_watch.specs.Reports.{words, number_text}
use Rattle.ti_watch.proofs.Fronts.{kept_front}
use Rattle.ti_watch.proofs.LinesMore.{two_parts}
use Rattle.ti_watch.proofs.stats.add_report.Goals as goal

pub returns-clause-text : goal.returns-clause-text
unfolding kind_stats_text
returns-clause-text c =
    let es = c.args.kinds.now in
    let out = c.args.out.now.items in
    let one = c.extend_from_slice.new.self.items in
    let head = codes "stats entries" ++ number_text (length es) in
    let begun : one ≡ out ++ head = c.in_ok-extend_from_slice.ensures.items ∙ ap (λ line. out ++ line) (c.as_slice.ensures ∙ c.number_line.ensures) in
    on_ok_weaker c.add_counts.result (λ is. two_parts out one c.add_counts.new.out.items head (flat_map (kind_count_text es) words) is begun) c.add_counts.ensures.text

pub returns-clause-kept : goal.returns-clause-kept
returns-clause-kept c =
    let out = c.args.out.now in
    let one = c.extend_from_slice.new.self in
    kept_front out.items one.items c.add_counts.new.out.items _ (vec_len out) (vec_len one) out.ok.0 one.ok.0 c.add_counts.ensures.kept c.in_ok-extend_from_slice.ensures.items
