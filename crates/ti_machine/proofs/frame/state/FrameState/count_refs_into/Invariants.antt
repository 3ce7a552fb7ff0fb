use Rattle.std.proofs.Common.{◌≡◌, take, count_by}
use Rattle.ti_lang.specs.Meaning.Held.{Held, referent_of}
use Rattle.ti_lang.specs.Meaning.Steps.{lies_in}
use Rattle.ti_machine.proofs.frame.state.FrameState.count_refs_into.Given as goal

abbrev pub invariant-loop-h : goal.invariant-loop-h
invariant-loop-h l = l.count ≡ count_by (λ (x : Held). lies_in l.region (referent_of x)) (take l.h-index l.h-items)
