use Rattle.std.proofs.Common.{◌≡◌, take, count_by, bytes_eq}
use Rattle.ti_watch.specs.Mirrors.{kind_word}
use Rattle.ti_watch.proofs.stats.count_of.Given as goal

abbrev pub invariant-loop-kind : goal.invariant-loop-kind
invariant-loop-kind l = l.count ≡ count_by (λ kind. bytes_eq (kind_word kind) l.word) (take l.kind-index l.kinds)
