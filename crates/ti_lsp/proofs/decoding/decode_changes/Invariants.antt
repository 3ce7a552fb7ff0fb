use Rattle.std.proofs.Common.{drop, map}
use Rattle.serde_json.specs.View.{items_view}
use Rattle.ti_lsp.specs.Views.{change_view}
use Rattle.ti_lsp.proofs.Items.{Decodes}
use Rattle.ti_lsp.proofs.decoding.decode_changes.Given as goal

abbrev pub invariant-loop-item : goal.invariant-loop-item
invariant-loop-item l = Decodes (items_view l.items) (items_view (drop l.item-index l.items)) (map change_view l.changes.items)
