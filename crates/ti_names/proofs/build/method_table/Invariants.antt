use Rattle.std.proofs.Common.{◌≡◌, ◌+◌, [], map, drop, length}
use Rattle.ti_syntax.specs.Trees.Views.{member_of}
use Rattle.ti_names.specs.Mirrors.Tables.{with_numbered, names_of_methods}
use Rattle.ti_names.proofs.build.method_table.Given as goal

abbrev pub invariant-loop-member : goal.invariant-loop-member
invariant-loop-member l = (with_numbered l.names l.behind (names_of_methods (map member_of (drop l.member-index l.members)))
    ≡ with_numbered [] l.fn.first (names_of_methods (map member_of l.members)))
    × (l.behind + length (names_of_methods (map member_of (drop l.member-index l.members)))
    ≡ l.fn.first + length (names_of_methods (map member_of l.members)))
