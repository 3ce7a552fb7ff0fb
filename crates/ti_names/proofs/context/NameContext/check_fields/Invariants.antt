use Rattle.std.proofs.Common.{◌≡◌, map, drop}
use Rattle.ti_syntax.specs.Trees.Views.{member_of}
use Rattle.ti_lang.specs.Members.{fields_in}
use Rattle.ti_lang.specs.Nodes.{fields_nodes}
use Rattle.ti_rules.specs.Mirrors.First.{earlier_of}
use Rattle.ti_names.specs.Found.{first_in}
use Rattle.ti_names.specs.Seen.{site_of}
use Rattle.ti_names.proofs.context.NameContext.check_fields.Given as goal

abbrev pub invariant-loop-member : goal.invariant-loop-member
invariant-loop-member l =
    earlier_of l.found (first_in (fields_nodes (site_of l.self) l.number (fields_in (map member_of (drop l.member-index l.members)))))
    ≡ first_in (fields_nodes (site_of l.self) 0 (fields_in (map member_of l.members)))
