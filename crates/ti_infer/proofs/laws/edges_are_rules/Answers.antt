use Rattle.ti_infer.proofs.ImplicationsOfProgram.{kept_edges, edges_kept}
use Rattle.ti_infer.proofs.FitImplications.{edges_fit, fit_edges_kept}
use Rattle.ti_infer.proofs.laws.edges_are_rules.Goals as goal

pub returns : goal.returns
returns c = record { kept = kept_edges; keeps = edges_kept; fits = fit_edges_kept; fit = edges_fit }
