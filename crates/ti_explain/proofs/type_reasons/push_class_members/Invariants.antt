use Rattle.std.proofs.Common.{◌≡◌, ◌++◌, map, flat_map, drop}
use Rattle.ti_syntax.specs.Trees.Views.{member_of}
use Rattle.ti_explain.specs.TypeReasons.{member_reason}
use Rattle.ti_explain.proofs.type_reasons.push_class_members.Given as goal

abbrev pub invariant-loop-member : goal.invariant-loop-member
invariant-loop-member l =
    l.found.items ++ flat_map (member_reason l.is_called) (map member_of (drop l.member-index l.members))
    ≡ l.initial.found.items ++ flat_map (member_reason l.is_called) (map member_of l.members)
