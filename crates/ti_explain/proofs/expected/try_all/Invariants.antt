use Rattle.std.proofs.Common.{◌≡◌, ◌≤◌, length, map, take}
use Rattle.ti_explain.specs.Expected.{AreExpected}
use Rattle.ti_explain.proofs.expected.try_all.Given as goal

abbrev pub invariant-loop-text : goal.invariant-loop-text
invariant-loop-text l =
    (l.index ≤ length l.trials.tokens.items)
    × (take l.index l.trials.tokens.items ≡ take l.index l.fn.tokens.items)
    × AreExpected (take l.index l.fn.tokens.items) l.place (map (λ text. text.now) (take l.text-index l.texts)) l.trials.reasons.items
