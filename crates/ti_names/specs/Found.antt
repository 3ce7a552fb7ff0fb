-- The first broken rule among some nodes.
use Rattle.std.specs.Prelude.{List, flat_map, Option}
use Rattle.ti_lang.specs.Nodes.{Node}
use Rattle.ti_rules.specs.declared.refusal.Refusal.{Refusal}
use Rattle.ti_rules.specs.Mirrors.First.{earliest}
use Rattle.ti_rules.specs.BrokenNames.{node_refusals}

unfoldable pub first_in : List Node → Option Refusal
first_in nodes = earliest (flat_map node_refusals nodes)
