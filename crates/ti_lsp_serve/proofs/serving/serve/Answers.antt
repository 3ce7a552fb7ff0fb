use Rattle.std.proofs.Common.{rules, ◌≡◌}
use Rattle.ti_lsp.specs.Sessions.{server_state_of, documents_of}
use Rattle.ti_lsp_serve.proofs.Served.{go_on, ends_asked, ends_aborted}
use Rattle.ti_lsp_serve.proofs.serving.serve.Goals as goal

pub returns-in-Exited : goal.returns-in-Exited
returns-in-Exited g c =
    ends_asked _ _ _ _ _ (documents_of c.step.new.session) (server_state_of c.step.new.session)
    (go_on _ _ _ _ _ _ _ _ _ _ _ c.loop.invariant (search rules)) (search rules)

pub returns-in-Aborted : goal.returns-in-Aborted
returns-in-Aborted g c =
    ends_aborted _ _ _ _ _ (documents_of c.step.new.session) (server_state_of c.step.new.session)
    (go_on _ _ _ _ _ _ _ _ _ _ _ c.loop.invariant (search rules)) (search rules)
