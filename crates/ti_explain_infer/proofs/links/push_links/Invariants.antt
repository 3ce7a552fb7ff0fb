use Rattle.std.proofs.Common.{◌≡◌, ◌++◌, drop}
use Rattle.ti_lang.specs.Program.Views.{program_of}
use Rattle.ti_explain_infer.specs.ChainLinks.{chain_links}
use Rattle.ti_explain_infer.proofs.links.push_links.Given as goal

abbrev pub invariant-loop-step : goal.invariant-loop-step
invariant-loop-step l =
    l.links.items ++ chain_links (program_of l.program.parts) (drop l.step-index l.steps)
    ≡ l.fn.reasons.items ++ chain_links (program_of l.program.parts) l.steps
