use Rattle.std.proofs.Common.{◌≡◌, ◌++◌, map, drop}
use Rattle.ti_syntax.specs.Trees.Views.{member_of}
use Rattle.ti_lang.specs.Program.Views.{numbered_field_of}
use Rattle.ti_lang.specs.Members.{fields_in}
use Rattle.ti_names.specs.Mirrors.Numbered.{number_fields}
use Rattle.ti_names.specs.Seen.{text_of_tables}
use Rattle.ti_names.proofs.context.NameContext.fields.Given as goal

abbrev pub invariant-loop-member : goal.invariant-loop-member
invariant-loop-member l = map numbered_field_of l.fields.items ++ number_fields (text_of_tables l.self.tables.now)
    (fields_in (map member_of (drop l.member-index l.members))) ≡ number_fields (text_of_tables l.self.tables.now)
    (fields_in (map member_of l.members))
