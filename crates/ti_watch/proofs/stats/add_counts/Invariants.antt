use Rattle.std.proofs.Common.{◌≡◌, ◌++◌, take}
use Rattle.std.specs.List.{flat_map}
use Rattle.ti_watch.specs.Mirrors.{kind_count_text}
use Rattle.ti_watch.proofs.stats.add_counts.Given as goal

abbrev pub invariant-loop-word : goal.invariant-loop-word
invariant-loop-word l = l.out.items ≡ l.initial.out.items ++ flat_map (λ word. kind_count_text l.kinds word.now) (take l.word-index l.words)
