use Rattle.std.proofs.Common.{◌≡◌, map, fold, flat_map, drop}
use Rattle.ti_syntax.specs.Trees.Views.{class_of}
use Rattle.ti_lang.specs.Members.{name_of_member, with_name, built_in}
use Rattle.ti_syntax.specs.Trees.Classes.{ClassTree}
use Rattle.ti_names.proofs.build.name_table.Given as goal

abbrev pub invariant-loop-class : goal.invariant-loop-class
invariant-loop-class l = fold with_name l.names.spelled.items (flat_map (λ (c : ClassTree). map name_of_member c.members)
    (map class_of (drop l.class-index l.class-items))) ≡ fold with_name built_in
    (flat_map (λ (c : ClassTree). map name_of_member c.members) (map class_of l.class-items))
