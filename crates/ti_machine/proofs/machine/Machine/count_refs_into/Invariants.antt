use Rattle.std.proofs.Common.{◌≡◌, ◌+◌, take, map, reverse, count_by}
use Rattle.ti_lang.specs.Meaning.Held.{Held, referent_of}
use Rattle.ti_lang.specs.Meaning.Steps.{lies_in}
use Rattle.ti_code.specs.Programs.{Code}
use Rattle.ti_code.specs.Machine.{named_in}
use Rattle.ti_machine.specs.Mirrors.FrameStates.{local_state_of}
use Rattle.ti_machine.specs.Mirrors.Machines.{frame_seen}
use Rattle.ti_machine.proofs.machine.Machine.count_refs_into.Given as goal

abbrev pub invariant-loop-f : goal.invariant-loop-f
invariant-loop-f l = (c : Code) → l.count ≡ count_by (λ (x : Held). lies_in l.region (referent_of x))
    (local_state_of l.self.top.state).slots + named_in l.region (map (frame_seen c) (reverse (take l.f-index l.f-items)))
