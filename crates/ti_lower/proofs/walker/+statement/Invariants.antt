use Rattle.std.proofs.Common.{◌≡◌, map, drop}
use Rattle.std.specs.Option.{option_map}
use Rattle.ti_lang.specs.Program.Statements.{numbered_stms}
use Rattle.ti_lang.specs.Program.Views.{statement_of}
use Rattle.ti_lower.specs.Mirrors.Bodies.{builder_of, labels_of, stms_in}
use Rattle.ti_lower.proofs.walker.+statement.Given as goal

abbrev pub invariant-statements-loop-x : goal.invariant-statements-loop-x
invariant-statements-loop-x l =
    stms_in l.method (numbered_stms (map statement_of (drop l.x-index l.stmts))) (option_map labels_of l.labels) (builder_of l.builder)
    ≡ stms_in l.method (numbered_stms (map statement_of l.stmts)) (option_map labels_of l.labels) (builder_of l.initial.builder)
