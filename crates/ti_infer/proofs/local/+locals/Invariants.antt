use Rattle.std.proofs.Common.{◌≡◌, ◌++◌, map, drop}
use Rattle.ti_lang.specs.Program.Statements.{numbered_stms}
use Rattle.ti_lang.specs.Program.Views.{statement_of}
use Rattle.ti_infer.specs.Mirrors.Locals.{locals_in_all}
use Rattle.ti_infer.proofs.local.+locals.Given as goal

abbrev pub invariant-in_all-loop-x : goal.invariant-in_all-loop-x
invariant-in_all-loop-x l = l.out.items ++ locals_in_all (numbered_stms (map statement_of (drop l.x-index l.stmts))) ≡ l.fn.out.items ++ locals_in_all (numbered_stms (map statement_of l.stmts))
