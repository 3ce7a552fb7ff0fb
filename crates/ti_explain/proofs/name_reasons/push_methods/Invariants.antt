use Rattle.std.proofs.Common.{◌≡◌, ◌++◌, map, drop}
use Rattle.ti_syntax.specs.Trees.Views.{member_of}
use Rattle.ti_explain.specs.NameReasons.{methods_named}
use Rattle.ti_explain.proofs.name_reasons.push_methods.Given as goal

abbrev pub invariant-loop-member : goal.invariant-loop-member
invariant-loop-member l =
    l.found.items ++ methods_named l.class l.name (map member_of (drop l.member-index l.members))
    ≡ l.initial.found.items ++ methods_named l.class l.name (map member_of l.members)
