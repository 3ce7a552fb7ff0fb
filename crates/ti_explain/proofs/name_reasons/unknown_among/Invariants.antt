use Rattle.std.proofs.Common.{◌≡◌, map, drop}
use Rattle.ti_syntax.specs.Trees.Views.{member_of, class_of}
use Rattle.ti_syntax.specs.Trees.Text.{tree_of}
use Rattle.ti_explain.specs.NameReasons.{unknown_among}
use Rattle.ti_explain.proofs.name_reasons.unknown_among.Given as goal

abbrev pub invariant-loop-member : goal.invariant-loop-member
invariant-loop-member l =
    unknown_among (tree_of l.tree) (class_of l.class) l.place (map member_of l.members)
    ≡ unknown_among (tree_of l.tree) (class_of l.class) l.place (map member_of (drop l.member-index l.members))
