use Rattle.std.proofs.Common.{map, take}
use Rattle.serde_json.specs.View.{view}
use Rattle.ti_lsp.specs.Handling.{OffersEach}
use Rattle.ti_lsp.proofs.session.Session.offer_each.Given as goal

abbrev pub invariant-loop-suggestion : goal.invariant-loop-suggestion
invariant-loop-suggestion g l = OffersEach g.A.Analyzer.rejects l.self.client l.uri l.filter l.text l.diagnostic (take l.suggestion-index l.suggestions) (map view l.actions.items)
