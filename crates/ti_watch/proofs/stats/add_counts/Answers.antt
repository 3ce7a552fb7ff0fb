use Rattle.std.proofs.Common.{vec_len}
use Rattle.ti_watch.specs.Mirrors.{kind_count_text}
use Rattle.ti_watch.proofs.Fronts.{kept_front, added_front}
use Rattle.ti_watch.proofs.LinesMore.{part_added}
use Rattle.ti_watch.proofs.stats.add_counts.Goals as goal

pub returns-in_err-add_count-clause-kept : goal.returns-in_err-add_count-clause-kept
returns-in_err-add_count-clause-kept c =
    kept_front c.args.out.now.items c.loop-word.out.items c.add_count.new.out.items _ (vec_len c.args.out.now)
    (vec_len c.loop-word.out) c.args.out.now.ok.0 c.loop-word.out.ok.0 c.add_count.ensures.kept c.loop-word.invariant

pub loop-word-preserved : goal.loop-word-preserved
loop-word-preserved c =
    part_added (λ word. kind_count_text c.args.kinds.now word.now) c.args.out.now.items c.loop-word.out.items c.add_count.new.out.items c.args.words.now c.loop-word.word-index _
    c.loop-word-test.true c.in_ok-add_count.ensures.text c.loop-word.invariant

pub returns-clause-kept : goal.returns-clause-kept
returns-clause-kept c = added_front c.args.out.now.items c.loop-word.out.items _ (vec_len c.args.out.now) c.args.out.now.ok.0 c.loop-word.invariant
