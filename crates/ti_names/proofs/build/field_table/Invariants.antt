use Rattle.std.proofs.Common.{◌≡◌, [], map, drop}
use Rattle.ti_syntax.specs.Trees.Views.{member_of}
use Rattle.ti_names.specs.Mirrors.Tables.{with_numbered, field_names}
use Rattle.ti_lang.specs.Members.{fields_in}
use Rattle.ti_names.proofs.build.field_table.Given as goal

abbrev pub invariant-loop-member : goal.invariant-loop-member
invariant-loop-member l = with_numbered l.found l.number (field_names (fields_in (map member_of (drop l.member-index l.members))))
    ≡ with_numbered [] 0 (field_names (fields_in (map member_of l.members)))
