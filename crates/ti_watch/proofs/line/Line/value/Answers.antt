use Rattle.std.proofs.Common.{rules, append_assoc}
use Rattle.std.proofs.lemmas.Int.{to_z-of_z}
use Rattle.std.specs.Int.{w32, w64}
use Rattle.ti_watch.proofs.line.Line.value.Goals as goal

pub returns-in-Int-clause-text : goal.returns-in-Int-clause-text
returns-in-Int-clause-text c = rw (c.in-Int.is, c.number.ensures.text, to_z-of_z w32 c.in-Int.n (search rules))

pub returns-in-Long-clause-text : goal.returns-in-Long-clause-text
returns-in-Long-clause-text c =
    rw (c.in-Long.is, c.text.ensures.text, c.number-in-Long.ensures.text, to_z-of_z w64 c.in-Long.n (search rules)) (simp append_assoc)
