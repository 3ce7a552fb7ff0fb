use Rattle.std.proofs.Common.{rules, string_bytes, refl}
use Rattle.ti_lsp.proofs.Documents.{publishes, others_stay}
use Rattle.ti_lsp.proofs.session.Session.store.Goals as goal

pub returns-clause-published : goal.returns-clause-published
returns-clause-published g c =
    publishes _ _ _ _ (string_bytes c.args.text)
    (record { version = c.args.version; text = c.args.text; diagnostic = c.in_ok-diagnostic.diagnostic; suggestions = c.in_ok-suggestions.suggestions })
    _ _ _ refl refl (search rules) (search rules) c.in_ok-insert.ensures.updates.1
    (others_stay (string_bytes c.args.uri) c.args.self.now.documents c.insert.new.self _ c.in_ok-insert.ensures.updates)
