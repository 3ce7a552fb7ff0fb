use Rattle.std.proofs.Common.{◌≡◌, ℕ, List, rules, ap, sym, refl, subst, string_bytes}
use Rattle.std.specs.BTreeMap.{get_by_text}
use Rattle.serde_json.specs.View.{view}
use Rattle.ti_lsp.specs.Handling.{Hovers, Lists, Locates, Offers, Responds}
use Rattle.ti_lsp.specs.Messages.{RequestView, code_action, definition, document_symbol, hover}
use Rattle.ti_lsp.specs.Sessions.{server_state_of}
use Rattle.ti_lsp.specs.Views.{request_view}
use Rattle.ti_lsp.proofs.session.Session.respond.Goals as goal

pub returns-in_ok-response-in-Hover-clause-response : goal.returns-in_ok-response-in-Hover-clause-response
returns-in_ok-response-in-Hover-clause-response g c =
    let is : request_view c.args.request ≡ hover (string_bytes c.in-Hover.uri) c.in-Hover.at = ap request_view c.in-Hover.is in
    let uri : c.deref.result.now ≡ string_bytes c.in-Hover.uri = search rules in
    let such = subst (λ (u : List ℕ). Hovers c.args.self.now.client.encoding (get_by_text c.args.self.now.documents u) c.in-Hover.at
    (view c.in_ok-hover-in-Hover.hover)) uri c.in_ok-hover-in-Hover.ensures in
    subst (λ (r : RequestView). Responds g.A.Analyzer.rejects (get_by_text c.args.self.now.documents) (view c.args.id.now) (server_state_of c.args.self.now) r
    (server_state_of c.args.self.now) (view c.in_ok-response-in-Hover.response)) (sym is)
    (record {
      outcome = view c.in_ok-hover-in-Hover.hover;
      same = refl;
      sent_is = c.in_ok-response-in-Hover.ensures;
      is_such = such;
    })

pub returns-in_ok-response-in-Definition-clause-response : goal.returns-in_ok-response-in-Definition-clause-response
returns-in_ok-response-in-Definition-clause-response g c =
    let is : request_view c.args.request ≡ definition (string_bytes c.in-Definition.uri) c.in-Definition.at = ap request_view c.in-Definition.is in
    let uri : c.deref-in-Definition.result.now ≡ string_bytes c.in-Definition.uri = search rules in
    let such = subst (λ (u : List ℕ). Locates c.args.self.now.client.encoding u (get_by_text c.args.self.now.documents u) c.in-Definition.at
    (view c.in_ok-location-in-Definition.location)) uri c.in_ok-location-in-Definition.ensures in
    subst (λ (r : RequestView). Responds g.A.Analyzer.rejects (get_by_text c.args.self.now.documents) (view c.args.id.now) (server_state_of c.args.self.now) r
    (server_state_of c.args.self.now) (view c.in_ok-response-in-Definition.response)) (sym is)
    (record {
      outcome = view c.in_ok-location-in-Definition.location;
      same = refl;
      sent_is = c.in_ok-response-in-Definition.ensures;
      is_such = such;
    })

pub returns-in_ok-response-in-CodeAction-clause-response : goal.returns-in_ok-response-in-CodeAction-clause-response
returns-in_ok-response-in-CodeAction-clause-response g c =
    let is : request_view c.args.request ≡ code_action (string_bytes c.in-CodeAction.uri) c.in-CodeAction.filter = ap request_view c.in-CodeAction.is in
    let uri : c.deref-in-CodeAction.result.now ≡ string_bytes c.in-CodeAction.uri = search rules in
    let such = subst (λ (u : List ℕ). Offers g.A.Analyzer.rejects c.args.self.now.client u c.in-CodeAction.filter (get_by_text c.args.self.now.documents u)
    (view c.in_ok-actions-in-CodeAction.actions)) uri c.in_ok-actions-in-CodeAction.ensures in
    subst (λ (r : RequestView). Responds g.A.Analyzer.rejects (get_by_text c.args.self.now.documents) (view c.args.id.now) (server_state_of c.args.self.now) r
    (server_state_of c.args.self.now) (view c.in_ok-response-in-CodeAction.response)) (sym is)
    (record {
      outcome = view c.in_ok-actions-in-CodeAction.actions;
      same = refl;
      sent_is = c.in_ok-response-in-CodeAction.ensures;
      is_such = such;
    })

pub returns-in_ok-response-in-DocumentSymbol-clause-response : goal.returns-in_ok-response-in-DocumentSymbol-clause-response
returns-in_ok-response-in-DocumentSymbol-clause-response g c =
    let is : request_view c.args.request ≡ document_symbol (string_bytes c.in-DocumentSymbol.uri) = ap request_view c.in-DocumentSymbol.is in
    let uri : c.deref-in-DocumentSymbol.result.now ≡ string_bytes c.in-DocumentSymbol.uri = search rules in
    let such = subst (λ (u : List ℕ). Lists c.args.self.now.client.encoding u (get_by_text c.args.self.now.documents u)
    (view c.in_ok-symbols-in-DocumentSymbol.symbols)) uri c.in_ok-symbols-in-DocumentSymbol.ensures in
    subst (λ (r : RequestView). Responds g.A.Analyzer.rejects (get_by_text c.args.self.now.documents) (view c.args.id.now) (server_state_of c.args.self.now) r
    (server_state_of c.args.self.now) (view c.in_ok-response-in-DocumentSymbol.response)) (sym is)
    (record {
      outcome = view c.in_ok-symbols-in-DocumentSymbol.symbols;
      same = refl;
      sent_is = c.in_ok-response-in-DocumentSymbol.ensures;
      is_such = such;
    })
