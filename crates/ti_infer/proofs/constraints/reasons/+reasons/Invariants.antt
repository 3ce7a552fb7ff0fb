use Rattle.std.proofs.Common.{◌≡◌, ◌++◌, map, drop}
use Rattle.ti_lang.specs.Program.Statements.{numbered_stms}
use Rattle.ti_lang.specs.Program.Views.{statement_of}
use Rattle.ti_infer.specs.Reason.{reasons_of_all}
use Rattle.ti_infer.specs.Mirrors.Sites.{program_at, method_of_site}
use Rattle.ti_infer.proofs.constraints.reasons.+reasons.Given as goal

abbrev pub invariant-reasons_of_all-loop-x : goal.invariant-reasons_of_all-loop-x
invariant-reasons_of_all-loop-x l =
    l.out.items ++ reasons_of_all (program_at l.site) (method_of_site l.site) (numbered_stms (map statement_of (drop l.x-index l.stmts)))
    ≡ l.fn.out.items ++ reasons_of_all (program_at l.site) (method_of_site l.site) (numbered_stms (map statement_of l.stmts))
