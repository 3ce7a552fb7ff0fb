use Rattle.std.proofs.Common.{◌≡◌, map, drop}
use Rattle.ti_lang.specs.Program.Scope.{contents_of}
use Rattle.ti_lang.specs.Program.Statements.{numbered_stms}
use Rattle.ti_lang.specs.Program.Views.{program_of, statement_of}
use Rattle.ti_rules.specs.StmtInContext.{singles_in}
use Rattle.ti_explain_infer.specs.FixedParts.{part_around_all}
use Rattle.ti_explain_infer.proofs.fixed_parts.+around.Given as goal

abbrev pub invariant-part_around_all-loop-x : goal.invariant-part_around_all-loop-x
invariant-part_around_all-loop-x l =
    part_around_all (program_of l.program.parts) l.scope.this (singles_in (contents_of l.scope)) l.of_conditions l.place (numbered_stms (map statement_of l.stmts))
    ≡ part_around_all (program_of l.program.parts) l.scope.this (singles_in (contents_of l.scope)) l.of_conditions l.place
    (numbered_stms (map statement_of (drop l.x-index l.stmts)))
