use Rattle.std.proofs.Common.{◌≡◌, ◌++◌, map, drop}
use Rattle.ti_syntax.specs.Trees.Views.{member_of}
use Rattle.ti_explain.specs.MainReasons.{parameters_among}
use Rattle.ti_explain.proofs.main_reasons.push_parameters.Given as goal

abbrev pub invariant-loop-member : goal.invariant-loop-member
invariant-loop-member l =
    l.found.items ++ parameters_among l.place (map member_of (drop l.member-index l.members))
    ≡ l.initial.found.items ++ parameters_among l.place (map member_of l.members)
