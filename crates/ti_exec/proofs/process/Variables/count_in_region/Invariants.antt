use Rattle.std.proofs.Common.{◌≡◌, take, count_by}
use Rattle.ti_lang.specs.Meaning.Held.{referent_of}
use Rattle.ti_lang.specs.Meaning.Processes.{Variable}
use Rattle.ti_lang.specs.Meaning.Steps.{lies_in}
use Rattle.ti_eval.specs.Frames.{slots_of}
use Rattle.ti_exec.proofs.process.Variables.count_in_region.Given as goal

abbrev pub invariant-loop-slot : goal.invariant-loop-slot
invariant-loop-slot l = l.count ≡ count_by (λ (x : Variable). lies_in l.region (referent_of x.held)) (slots_of (take l.slot-index l.slot-items))
