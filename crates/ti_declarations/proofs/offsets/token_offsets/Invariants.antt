use Rattle.std.proofs.Common.{◌≡◌, length}
use Rattle.ti_base.specs.Places.{place_of}
use Rattle.ti_declarations.proofs.offsets.token_offsets.Given as goal

abbrev pub invariant-loop-index : goal.invariant-loop-index
invariant-loop-index l = l.at ≡ place_of l.text l.index
