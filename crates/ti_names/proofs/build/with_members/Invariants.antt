use Rattle.std.proofs.Common.{◌≡◌, map, fold, drop}
use Rattle.ti_syntax.specs.Trees.Views.{member_of}
use Rattle.ti_lang.specs.Members.{name_of_member, with_name}
use Rattle.ti_names.proofs.build.with_members.Given as goal

abbrev pub invariant-loop-member : goal.invariant-loop-member
invariant-loop-member l = fold with_name l.names.spelled.items (map name_of_member (map member_of (drop l.member-index l.members)))
    ≡ fold with_name l.initial.names.spelled.items (map name_of_member (map member_of l.members))
