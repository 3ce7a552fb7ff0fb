use Rattle.std.proofs.Common.{◌≡◌, map, drop}
use Rattle.ti_syntax.specs.Trees.Views.{member_of}
use Rattle.ti_explain.specs.MainReasons.{main_among}
use Rattle.ti_explain.proofs.main_reasons.main_among.Given as goal

abbrev pub invariant-loop-member : goal.invariant-loop-member
invariant-loop-member l =
    main_among (map member_of l.members) ≡ main_among (map member_of (drop l.member-index l.members))
