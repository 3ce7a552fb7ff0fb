use Rattle.std.proofs.Common.{◌≡◌, drop}
use Rattle.serde_json.specs.View.{items_view}
use Rattle.ti_lsp.specs.Messages.{any_is_string}
use Rattle.ti_lsp.proofs.decoding.any_is_string.Given as goal

abbrev pub invariant-loop-item : goal.invariant-loop-item
invariant-loop-item l = any_is_string l.wanted (items_view l.items) ≡ any_is_string l.wanted (items_view (drop l.item-index l.items))
