use Rattle.ti_explain.proofs.NamedLaws.{part_named, whole_named, initial_named}
use Rattle.ti_explain.proofs.laws.plain_parts_are_named.Goals as goal

pub returns : goal.returns
returns c = record { operands = part_named; wholes = whole_named; initials = initial_named }
