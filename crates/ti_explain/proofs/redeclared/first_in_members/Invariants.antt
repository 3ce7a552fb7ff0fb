use Rattle.std.proofs.Common.{◌≡◌, map, drop}
use Rattle.ti_syntax.specs.Trees.Views.{member_of}
use Rattle.ti_explain.specs.Redeclared.{first_in_members}
use Rattle.ti_explain.proofs.redeclared.first_in_members.Given as goal

abbrev pub invariant-loop-member : goal.invariant-loop-member
invariant-loop-member l =
    first_in_members l.place l.any (map member_of l.members) ≡ first_in_members l.place l.any (map member_of (drop l.member-index l.members))
