use Rattle.ti_single.specs.Contexts.{program_at, around_of}
use Rattle.ti_explain.proofs.FoundLaws.{Left}
use Rattle.ti_explain.proofs.search.+search.Given as goal

abbrev pub invariant-found_among-loop-x : goal.invariant-found_among-loop-x
invariant-found_among-loop-x l = Left (program_at l.site) l.sought (around_of l.site) l.stmts l.x-index
