use Rattle.std.proofs.Common.{◌≡◌, false, map, take}
use Rattle.std.specs.Option.{option_map_or}
use Rattle.ti_blame.specs.Marks.{marks_of}
use Rattle.ti_infer.proofs.annotate.methods.marked_among.Given as goal

abbrev pub invariant-loop-place : goal.invariant-loop-place
invariant-loop-place l = l.found.items ≡ map (λ place. option_map_or (marks_of l.marks).variables place false) (take l.place-index l.places)
