use Rattle.std.proofs.Common.{◌≡◌, map, take}
use Rattle.serde_json.specs.View.{view}
use Rattle.ti_lsp.specs.Diagnostics.{related_data}
use Rattle.ti_lsp.proofs.publishing.related_values.Given as goal

abbrev pub invariant-loop-related : goal.invariant-loop-related
invariant-loop-related l = map view l.values.items ≡ map (related_data l.encoding l.uri l.text) (take l.related-index l.places)
