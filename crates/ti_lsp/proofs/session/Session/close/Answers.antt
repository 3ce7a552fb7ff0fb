use Rattle.std.proofs.Common.{rules}
use Rattle.ti_lsp.proofs.Documents.{clears, others_stay}
use Rattle.ti_lsp.proofs.session.Session.close.Goals as goal

pub returns-clause-cleared : goal.returns-clause-cleared
returns-clause-cleared g c = clears _ _ _ _ (search rules) c.remove.ensures.updates.1
    (others_stay c.args.uri.now c.args.self.now.documents c.remove.new.self _ c.remove.ensures.updates)
