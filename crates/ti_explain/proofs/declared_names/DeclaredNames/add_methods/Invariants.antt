use Rattle.std.proofs.Common.{◌≡◌, ◌++◌, map, drop}
use Rattle.ti_syntax.specs.Trees.Views.{member_of}
use Rattle.ti_explain.specs.DeclaredNames.{methods_at}
use Rattle.ti_explain.specs.Mirrors.Names.{name_at_of}
use Rattle.ti_explain.proofs.declared_names.DeclaredNames.add_methods.Given as goal

abbrev pub invariant-loop-member : goal.invariant-loop-member
invariant-loop-member l =
    map name_at_of l.self.found.items ++ methods_at l.all (map member_of (drop l.member-index l.members))
    ≡ map name_at_of l.initial.self.found.items ++ methods_at l.all (map member_of l.members)
