use Rattle.ti_lsp.specs.Sessions.{server_state_of, documents_of}
use Rattle.ti_lsp_serve.specs.Serving.{HasServed}
use Rattle.ti_lsp_serve.proofs.serving.serve.Given as goal

abbrev pub invariant-loop : goal.invariant-loop
invariant-loop g l = HasServed g.A.Analyzer.rejects (g.R.Read.remaining l.fn.input) (g.R.Read.remaining l.input)
    (g.W.Write.contents l.fn.out) (g.W.Write.contents l.out) (documents_of l.session) (server_state_of l.session)
